-- Lines that spell a change. Fields stand one space apart, and a line has no other spelling:
--   C POST <account> <network> <target> <id> <ms> P|N <to-target> <source> :<body>
--   C TPOST <account> <network> <target> <id> <ms> P|N <tags> <to-target> <source> :<body>
--   C REDACT <account> <network> <target> <id> <ms>|*
--   C MARK <account> <network> <target> <ms>
--   C FLOOR <account> <network> <target> <ms>
--   C AFLOOR <account> <ms>
-- A post without tags has its line by `POST` alone, and one with tags by `TPOST`. The form of a line is wrong where its
-- first word isn't `C`, its second is no kind of change, the number of fields is another, a field other than the body is
-- empty, or what stands behind a post's words doesn't begin with `:`. A line of the right form has a wrong field where the
-- maker of an account, a buffer, an id or a record refuses it, the target isn't folded, the kind is neither `P` nor `N`,
-- or the moment isn't a number without leading zeros up to the greatest moment.
use Rattle.std.specs.Prelude.{ℕ, Bool, true, false, ◌&&◌, ◌==◌, List, codes, Option, None, Some, Result, Ok, Err, if◌then◌else◌}
use Rattle.std.specs.List.{list_all}
use Rattle.std.specs.Char.{to_ascii_lowercase}
use Rattle.std.specs.Option.{option_map}
use Rattle.chat_change.specs.Words.{is_name, is_target, is_id}
use Rattle.chat_change.specs.Buffer.{Buffer, buffer_of}
use Rattle.chat_change.specs.declared.change.Change.{Change}
use Rattle.chat_change.specs.declared.change.Change.TheVariants.{Post, Redact, Mark, Floor, AccountFloor}
use Rattle.change_lines.specs.Words.{is_text, is_filled, is_last_word, word, behind}
use Rattle.change_lines.specs.Moment.{moment_of}
use Rattle.change_lines.specs.PostLine.{post_fields, has_post_form, post_in}
use Rattle.change_lines.specs.declared.fault.ChangeLineFault.{ChangeLineFault}
use Rattle.change_lines.specs.declared.fault.ChangeLineFault.TheVariants.{BadForm, BadField, NoMemory}
use Rattle.change_lines.specs.declared.fields.ChangeKind.{ChangeKind}
use Rattle.change_lines.specs.declared.fields.ChangeKind.TheVariants as kind

-- ---- fields

-- the names of a buffer, and what stands behind them
pub record BufferFields : Type 0 where
  pub account : List ℕ
  pub network : List ℕ
  pub target : List ℕ
  pub rest : List ℕ

abbrev pub buffer_fields : List ℕ → BufferFields
buffer_fields bytes = record {
  account = word bytes;
  network = word (behind bytes);
  target = word (behind (behind bytes));
  rest = behind (behind (behind bytes));
}

-- ---- forms

abbrev pub has_names : BufferFields → Bool
has_names b = is_filled b.account && is_filled b.network && is_filled b.target

-- what stands behind the names has the form that the kind of change wants
abbrev pub has_form : ChangeKind → List ℕ → Bool
has_form kind.Post rest = has_post_form false (post_fields false rest)
has_form kind.TaggedPost rest = has_post_form true (post_fields true rest)
has_form kind.Redact rest = is_filled (word rest) && is_last_word (behind rest)
has_form kind.Mark rest = is_last_word rest
has_form kind.Floor rest = is_last_word rest

-- ---- values

-- the moment that a redaction names: `*` is none
abbrev pub named_moment : List ℕ → Option (Option ℕ)
named_moment text = if is_text text (codes "*") then Some None else option_map Some (moment_of text)

abbrev pub is_folded_byte : ℕ → Bool
is_folded_byte b = to_ascii_lowercase b == b

-- folding would leave the text as it is
abbrev pub is_folded : List ℕ → Bool
is_folded text = list_all is_folded_byte text

-- the buffer of these names is lawful, and its target stands folded
abbrev pub is_buffer : BufferFields → Bool
is_buffer b = is_name b.account && is_name b.network && is_target b.target && is_folded b.target

abbrev pub buffer_named : BufferFields → Buffer
buffer_named b = buffer_of b.account b.network b.target

abbrev pub redaction_with : Buffer → List ℕ → Option (Option ℕ) → Option Change
redaction_with b id None = None
redaction_with b id (Some at) = if is_id id then Some (Redact b id at) else None

-- the change of that kind in a buffer that the fields behind its names say, if they are lawful
abbrev pub change_in : ChangeKind → Buffer → List ℕ → Option Change
change_in kind.Post b rest = option_map Post (post_in b (post_fields false rest))
change_in kind.TaggedPost b rest = option_map Post (post_in b (post_fields true rest))
change_in kind.Redact b rest = redaction_with b (word rest) (named_moment (behind rest))
change_in kind.Mark b rest = option_map (Mark b) (moment_of rest)
change_in kind.Floor b rest = option_map (Floor b) (moment_of rest)

-- ---- lines

abbrev pub change_kind : List ℕ → Option ChangeKind
change_kind text =
    if is_text text (codes "POST") then Some kind.Post
    else if is_text text (codes "TPOST") then Some kind.TaggedPost
    else if is_text text (codes "REDACT") then Some kind.Redact
    else if is_text text (codes "MARK") then Some kind.Mark
    else if is_text text (codes "FLOOR") then Some kind.Floor
    else None

abbrev pub or_bad_field : Option Change → Result Change ChangeLineFault
or_bad_field None = Err BadField
or_bad_field (Some change) = Ok change

-- what the fields behind the kind say, whose form is checked before their values
abbrev pub fields_change : ChangeKind → BufferFields → Result Change ChangeLineFault
fields_change kind b =
    if has_names b && has_form kind b.rest
    then or_bad_field (if is_buffer b then change_in kind (buffer_named b) b.rest else None)
    else Err BadForm

abbrev pub kind_change : Option ChangeKind → List ℕ → Result Change ChangeLineFault
kind_change None rest = Err BadForm
kind_change (Some kind) rest = fields_change kind (buffer_fields rest)

-- the floor of an account that a name and a moment say, if they are lawful
abbrev pub account_floor_in : List ℕ → List ℕ → Option Change
account_floor_in account at =
    if is_name account then option_map (AccountFloor account) (moment_of at) else None

-- what the words of a floor of an account say, whose form is checked before their values
abbrev pub account_floor_change : List ℕ → Result Change ChangeLineFault
account_floor_change rest =
    if is_filled (word rest) && is_last_word (behind rest)
    then or_bad_field (account_floor_in (word rest) (behind rest)) else Err BadForm

-- what the second word of a line and the words behind it say
abbrev pub words_change : List ℕ → List ℕ → Result Change ChangeLineFault
words_change second rest =
    if is_text second (codes "AFLOOR") then account_floor_change rest
    else kind_change (change_kind second) rest

-- the change that a line spells, or why it spells none
unfoldable pub read_change : List ℕ → Result Change ChangeLineFault
read_change line =
    if is_text (word line) (codes "C")
    then words_change (word (behind line)) (behind (behind line))
    else Err BadForm

-- why no change was made of a line: its own fault, or that there was no memory where it spells a change
abbrev pub fault_or_no_memory : Result Change ChangeLineFault → ChangeLineFault
fault_or_no_memory (Ok change) = NoMemory
fault_or_no_memory (Err fault) = fault
