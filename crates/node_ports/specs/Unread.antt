-- What came over a connection and isn't heard yet.
use Rattle.std.specs.Prelude.{ℕ, ◌≡◌, false, List, [], ◌++◌, Option, None, Some, is_some, drop}
use Rattle.irc_line.specs.Stream.{Item, line as whole_line, too_long as cut_line, Held, items, items_from, next_item, held_without}
use Rattle.irc_line.specs.Calls.{with_first}
use Rattle.network_log.specs.Facts.{NodeFacts}
use Rattle.network_log.specs.declared.origin.Origin.{Origin}
use Rattle.node_ports.specs.declared.input.Ahead.{Ahead}
use Rattle.node_ports.specs.declared.input.Ahead.TheVariants.{Nothing, Line, TooLong}

-- In turn: the next line, where it was looked at; what is held of the stream behind it; and the bytes behind that.
pub record Unread : Type 0 where
  pub ahead : Option Item
  pub held : Held
  pub behind : List ℕ

-- the line that was looked at
abbrev pub item_ahead : Ahead → List ℕ → Option Item
item_ahead Nothing text = None
item_ahead Line text = Some (whole_line text)
item_ahead TooLong text = Some cut_line

-- the lines of what is unread and of a stream that follows it
abbrev pub items_left : Unread → List ℕ → List Item
items_left u rest = with_first u.ahead (items_from u.held (u.behind ++ rest))

-- So many lines of what was received were heard. Whatever follows, the others of the whole stream are those of what is unread and
-- of the rest.
abbrev pub AreLeft : List ℕ → ℕ → Unread → Type 0
AreLeft received heard u =
    (rest : List ℕ) → drop heard (items (received ++ rest)) ≡ items_left u rest

-- ---- the next line

abbrev pub next_or : Option Item → Held → Option Item
next_or (Some item) held = Some item
next_or None held = next_item held

abbrev pub held_or : Option Item → Held → Held
held_or (Some item) held = held
held_or None held = held_without (next_item held) held

-- the line that is heard next, if there is one
abbrev pub next_of : Unread → Option Item
next_of u = next_or u.ahead u.held

-- what is unread once that was looked at, which it stays
abbrev pub looked : Unread → Unread
looked u = record { ahead = next_of u; held = held_or u.ahead u.held; behind = u.behind }

-- and once it was heard
abbrev pub without_next : Unread → Unread
without_next u = record { ahead = None; held = held_or u.ahead u.held; behind = u.behind }

-- the next line was looked at: it is ahead, or no line is left
abbrev pub IsLooked : Unread → Type 0
IsLooked u = is_some u.ahead ≡ false → items_left u [] ≡ []

-- the line that was looked at, where it wasn't too long
abbrev pub line_in : Option Item → Option (List ℕ)
line_in (Some (whole_line text)) = Some text
line_in _ = None

-- nothing came over the connection of that origin and number, or bytes did
pub data IsReceived (facts : NodeFacts) (origin : Origin) (serial : ℕ) (old new : List ℕ) : Type 0 where
  NoBytes : new ≡ old → IsReceived facts origin serial old new
  Bytes : (bytes : List ℕ) → new ≡ old ++ bytes → facts.came origin serial new
      → IsReceived facts origin serial old new
