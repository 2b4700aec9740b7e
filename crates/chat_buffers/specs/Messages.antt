-- What is held of the messages of one buffer.
use Rattle.std.specs.Prelude.{ℕ, ◌≡◌, ◌≤◌, ◌<◌, Bool, true, nat_le, Option, Some, None, List}
use Rattle.std.specs.Coded.{Coded}
use Rattle.std.specs.Option.{option_map}
use Rattle.std.specs.FinMap as finite
use Rattle.chat_change.specs.Record.{Record}
use Rattle.chat_change.specs.Order.{id_cmp}
use Rattle.ordered_maps.specs.MapView.{passing}
use Rattle.chat_history.specs.Codes.{coded_text}
use Rattle.chat_buffers.specs.declared.held_message.HeldMessage.{HeldMessage}
use Rattle.chat_buffers.specs.declared.held_message.HeldMessage.TheVariants.{Kept, Gone}
use Rattle.chat_buffers.specs.contracts.held_message.HeldMessage as held_message

-- under each id what is held of its message
abbrev pub Messages : Type 0
Messages = finite.FinMap id_cmp HeldMessage

abbrev pub coded_messages : Coded Messages
coded_messages = finite.code coded_text (held_message.the_row).coded

-- the number of a message's piece
abbrev pub number_of : HeldMessage → ℕ
number_of (Kept r n) = n
number_of (Gone t n) = n

-- the record that is kept of a message
abbrev pub kept_in : Option HeldMessage → Option Record
kept_in None = None
kept_in (Some (Kept r n)) = Some r
kept_in (Some (Gone t n)) = None

-- the moment of that record
abbrev pub kept_moment : Option HeldMessage → Option ℕ
kept_moment o = option_map (λ (r : Record). r.at) (kept_in o)

-- each kept record stands at or above a floor
abbrev pub IsFrom : ℕ → Messages → Type 0
IsFrom f messages =
    (m : List ℕ) (r : Record) → kept_in (finite.get messages m) ≡ Some r → f ≤ r.at

-- what a floor leaves: the records at it or above it, and all redactions
abbrev pub stands_from : ℕ → Record → Bool
stands_from f r = nat_le f r.at

abbrev pub is_left : ℕ → HeldMessage → Bool
is_left f (Kept r n) = stands_from f r
is_left f (Gone t n) = true

-- all records below a floor were taken out, and nothing else
abbrev pub IsLeft : Messages → ℕ → Messages → Type 0
IsLeft old f new = (m : List ℕ) → finite.get new m ≡ passing (is_left f) (finite.get old m)

-- one record below a floor was taken out, whose piece had that number
pub record TakesOne (old : Messages) (f n : ℕ) (new : Messages) : Type 0 where
  pub post : Record
  pub low : post.at < f
  pub was : finite.get old post.id ≡ Some (Kept post n)
  pub left : new ≡ finite.remove old post.id
