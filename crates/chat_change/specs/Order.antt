-- The orders of ids, buffers and messages, and the order between records of one message: which of them is kept.
use Rattle.std.specs.Prelude.{ℕ, ◌≡◌, ◌<◌, ◌⊎◌, List, ◌∷◌, ◌++◌}
use Rattle.std.specs.declared.cmp.Ordering.{Ordering}
use Rattle.std.specs.declared.cmp.Ordering.TheVariants.{Less}
use Rattle.std.specs.Ordering.{nat_cmp, on, then_cmp, flip_args}
use Rattle.std.specs.Cmp.Lexicographic.{slice_cmp}
use Rattle.byte_text.specs.Order.{text_cmp}
use Rattle.chat_change.specs.Buffer.{Buffer, buffer_texts}
use Rattle.chat_change.specs.Message.{Message, message_texts}
use Rattle.chat_change.specs.Record.{Record}

-- ids, the greatest first
abbrev pub id_cmp : List ℕ → List ℕ → Ordering
id_cmp = flip_args text_cmp

-- lists of texts are compared text by text
abbrev pub texts_cmp : List (List ℕ) → List (List ℕ) → Ordering
texts_cmp = slice_cmp text_cmp

abbrev pub buffer_cmp : Buffer → Buffer → Ordering
buffer_cmp = on buffer_texts texts_cmp

abbrev pub message_cmp : Message → Message → Ordering
message_cmp = on message_texts texts_cmp

-- of two records of one moment: the first has the greater tags, or both have the same and its letter, source, target
-- and body are the smaller ones, compared in this order
abbrev pub WinsTie : Record → Record → Type 0
WinsTie r s =
    (text_cmp s.tags r.tags ≡ Less)
    ⊎ ((r.tags ≡ s.tags) × (message_cmp r.message s.message ≡ Less))

-- which of two records of one message is kept: the first, where it is later, or where both are of one moment and it
-- wins that tie
abbrev pub GoesBefore : Record → Record → Type 0
GoesBefore r s = (s.at < r.at) ⊎ ((r.at ≡ s.at) × WinsTie r s)

-- ---- the same as one comparison, in parts: `Less` where the first goes before the second

-- the later record goes first
abbrev pub latest_first : Record → Record → Ordering
latest_first = flip_args (on (λ (r : Record). r.at) nat_cmp)

-- the greater tags go first
abbrev pub greatest_tags_first : Record → Record → Ordering
greatest_tags_first = flip_args (on (λ (r : Record). r.tags) text_cmp)

-- the texts of a record but for its tags: those of its message, and last its id and buffer, so that only equal records
-- tie
abbrev pub record_texts : Record → List (List ℕ)
record_texts r = message_texts r.message ++ r.id ∷ buffer_texts r.buffer

-- the smaller texts go first
abbrev pub smallest_first : Record → Record → Ordering
smallest_first = on record_texts texts_cmp

-- records of one moment, by their tags, then by their texts
abbrev pub tie_cmp : Record → Record → Ordering
tie_cmp = then_cmp greatest_tags_first smallest_first

-- by moment, then by tags, then by texts
abbrev pub record_cmp : Record → Record → Ordering
record_cmp = then_cmp latest_first tie_cmp
