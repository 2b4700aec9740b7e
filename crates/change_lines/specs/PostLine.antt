-- The line of a post behind the names of its buffer: its fields as they are read, the post that they say, and its words as
-- they are written. Where the post has tags, these are a word more:
--   <id> <ms> P|N [<tags>] <to-target> <source> :<body>
use Rattle.std.specs.Prelude.{ℕ, Bool, not, ◌&&◌, ◌||◌, List, [], ◌∷◌, ◌++◌, codes, decimal, drop, Option, None, Some, if◌then◌else◌}
use Rattle.byte_text.specs.Bytes.{begins_with}
use Rattle.chat_change.specs.Words.{is_id, is_tags}
use Rattle.chat_change.specs.Buffer.{Buffer}
use Rattle.chat_change.specs.Faults.{is_message}
use Rattle.chat_change.specs.Message.{Message, kind_letter}
use Rattle.chat_change.specs.Message as message
use Rattle.chat_change.specs.Record.{Record}
use Rattle.chat_change.specs.declared.message.Kind.{Kind}
use Rattle.chat_change.specs.declared.message.Kind.TheVariants.{Privmsg, Notice}
use Rattle.change_lines.specs.Words.{is_text, is_filled, word, behind}
use Rattle.change_lines.specs.Moment.{moment_of}
use Rattle.change_lines.specs.declared.post_line.PostFields as fields
use Rattle.change_lines.specs.declared.post_line.PostParts.{PostParts}

-- ---- as it is read

-- the words, and what stands behind them: `:` and the body
pub record PostFields : Type 0 where
  pub id : List ℕ
  pub at : List ℕ
  pub kind : List ℕ
  pub tags : List ℕ  -- nothing where the line has none
  pub to : List ℕ
  pub source : List ℕ
  pub body : List ℕ

-- the tags, in a line that has some, and what stands behind them
abbrev pub tags_word : Bool → List ℕ → List ℕ
tags_word is_tagged bytes = if is_tagged then word bytes else []

abbrev pub behind_tags : Bool → List ℕ → List ℕ
behind_tags is_tagged bytes = if is_tagged then behind bytes else bytes

abbrev pub post_fields : Bool → List ℕ → PostFields
post_fields is_tagged bytes =
    let behind_kind = behind (behind (behind bytes)) in
    let rest = behind_tags is_tagged behind_kind in
    record {
      id = word bytes;
      at = word (behind bytes);
      kind = word (behind (behind bytes));
      tags = tags_word is_tagged behind_kind;
      to = word rest;
      source = word (behind rest);
      body = behind (behind rest);
    }

abbrev pub has_post_form : Bool → PostFields → Bool
has_post_form is_tagged p =
    is_filled p.id && is_filled p.at && is_filled p.kind && (not is_tagged || is_filled p.tags)
    && is_filled p.to && is_filled p.source && begins_with 58 p.body

abbrev pub message_kind : List ℕ → Option Kind
message_kind text =
    if is_text text (codes "P") then Some Privmsg
    else if is_text text (codes "N") then Some Notice
    else None

abbrev pub message_of : PostFields → Kind → Message
message_of p kind = record { kind = kind; source = p.source; target = p.to; body = drop 1 p.body }

-- no tags, or such as a record may have
abbrev pub may_be_tags : List ℕ → Bool
may_be_tags tags = not (is_filled tags) || is_tags tags

abbrev pub post_of : Buffer → PostFields → Kind → ℕ → Record
post_of b p kind at =
    record { buffer = b; id = p.id; at = at; tags = p.tags; message = message_of p kind }

abbrev pub has_lawful_parts : Record → Bool
has_lawful_parts r = is_id r.id && may_be_tags r.tags && is_message r.message

abbrev pub if_lawful : Record → Option Record
if_lawful r = if has_lawful_parts r then Some r else None

abbrev pub post_with : Buffer → PostFields → Option Kind → Option ℕ → Option Record
post_with b p None at = None
post_with b p (Some kind) None = None
post_with b p (Some kind) (Some at) = if_lawful (post_of b p kind at)

-- the post in a buffer that the fields say, if they are lawful
abbrev pub post_in : Buffer → PostFields → Option Record
post_in b p = post_with b p (message_kind p.kind) (moment_of p.at)

-- ---- as it is written

-- the second word of the line
abbrev pub post_word : List ℕ → List ℕ
post_word tags = if is_filled tags then codes "TPOST" else codes "POST"

abbrev pub tags_words : List ℕ → List (List ℕ)
tags_words tags = if is_filled tags then tags ∷ [] else []

-- the words in front of the tags, and behind them
abbrev pub front_words : Record → List (List ℕ)
front_words r = r.id ∷ decimal r.at ∷ (kind_letter r.message.kind ∷ []) ∷ []

abbrev pub back_words : Record → List (List ℕ)
back_words r = r.message.target ∷ r.message.source ∷ []

-- all words behind the names
abbrev pub post_words : Record → List (List ℕ)
post_words r = front_words r ++ tags_words r.tags ++ back_words r

-- ---- as the code has it

abbrev pub value_of : fields.PostFields → PostFields
value_of p = record {
  id = p.id.now;
  at = p.at.now;
  kind = p.kind.now;
  tags = p.tags.now;
  to = p.to.now;
  source = p.source.now;
  body = p.body.now;
}

-- the post of these parts
abbrev pub record_of : Buffer → PostParts → Record
record_of b p = record {
  buffer = b;
  id = p.id.now;
  at = p.at;
  tags = p.tags.now;
  message = message.value_of p.message;
}

-- whether makers refuse none of these parts
abbrev pub are_lawful : PostParts → Bool
are_lawful p = is_id p.id.now && may_be_tags p.tags.now && is_message (message.value_of p.message)
