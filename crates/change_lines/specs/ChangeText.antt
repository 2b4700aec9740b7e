-- The one line that spells a change.
use Rattle.std.specs.Prelude.{ℕ, List, [], ◌∷◌, ◌++◌, codes, decimal, Option, None, Some}
use Rattle.chat_change.specs.Buffer.{Buffer}
use Rattle.chat_change.specs.declared.change.Change.{Change}
use Rattle.chat_change.specs.declared.change.Change.TheVariants.{Post, Redact, Mark, Floor, AccountFloor}
use Rattle.change_lines.specs.Words.{words_text}
use Rattle.change_lines.specs.PostLine.{post_word, post_words}

-- the words by which a line of that kind begins, up to the target
abbrev pub buffer_words : List ℕ → Buffer → List (List ℕ) → List (List ℕ)
buffer_words kind b more = codes "C" ∷ kind ∷ b.account ∷ b.network ∷ b.target ∷ more

-- the words by which the line of a floor of an account begins
abbrev pub account_words : List ℕ → List (List ℕ)
account_words a = codes "C" ∷ codes "AFLOOR" ∷ a ∷ []

-- the moment that a redaction names, or `*`
abbrev pub moment_text : Option ℕ → List ℕ
moment_text None = codes "*"
moment_text (Some at) = decimal at

-- the words of a change's line with one space behind each, and then its last field
abbrev pub line_of : Change → List ℕ
line_of (Post r) =
    words_text (buffer_words (post_word r.tags) r.buffer (post_words r)) ++ (58 ∷ r.message.body)
line_of (Redact b m at) = words_text (buffer_words (codes "REDACT") b (m ∷ [])) ++ moment_text at
line_of (Mark b at) = words_text (buffer_words (codes "MARK") b []) ++ decimal at
line_of (Floor b at) = words_text (buffer_words (codes "FLOOR") b []) ++ decimal at
line_of (AccountFloor a at) = words_text (account_words a) ++ decimal at
