-- What is read off a history in normal form.
use Rattle.std.specs.Prelude.{ℕ, ◌≡◌, Bool, true, false, Option, Some, None, List, Contains}
use Rattle.std.specs.Option.{option_and_then}
use Rattle.std.specs.FinMap.{get}
use Rattle.chat_change.specs.Buffer.{Buffer}
use Rattle.chat_change.specs.Record.{Record}
use Rattle.chat_change.specs.declared.change.Change.{Change}
use Rattle.chat_change.specs.declared.change.Change.TheVariants.{Post}
use Rattle.chat_change.specs.Key.{MessageOf}
use Rattle.chat_history.specs.History.{History, message_moment, is_redaction}
use Rattle.chat_history.specs.Visible.{records_in}

-- the position of a message: the moment of its record, or the one that its redaction bears
abbrev pub position_in : History → Buffer → List ℕ → Option ℕ
position_in history b m = option_and_then message_moment (get history (MessageOf b m))

-- some record of the buffer has that id
abbrev pub IsShown : History → Buffer → List ℕ → Type 0
IsShown history b m = (r : Record) × (Contains (records_in history b) r × (r.id ≡ m))

-- whether what a history has of a message is a redaction
abbrev pub is_redacted : Option Change → Bool
is_redacted None = false
is_redacted (Some c) = is_redaction c

-- whether what a history has of a message is a post
abbrev pub is_posted : Option Change → Bool
is_posted None = false
is_posted (Some (Post r)) = true
is_posted (Some c) = false
