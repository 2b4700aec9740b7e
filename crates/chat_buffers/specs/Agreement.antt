-- How the entries of the records agree with those of the messages.
use Rattle.std.specs.Prelude.{ℕ, ◌≡◌, ◌≤◌, nat_eq, Option, Some, None, List}
use Rattle.std.specs.Option.{IfSome}
use Rattle.irc_time.specs.Time.{greatest}
use Rattle.chat_change.specs.Record.{Record}
use Rattle.chat_change.specs.Order.{id_cmp}
use Rattle.chat_history.specs.Choice.{keep}
use Rattle.chat_history.specs.Cut.{latest_first}
use Rattle.chat_history.specs.declared.cut.Spot.{Spot}
use Rattle.ordered_maps.specs.MapView.{get}
use Rattle.chat_buffers.specs.Messages.{kept_in}
use Rattle.chat_buffers.specs.declared.held_message.HeldMessage.{HeldMessage}

-- the records by where they stand, and what is held of each message by its id
abbrev pub BySpot : Type 0
BySpot = List (Spot × Record)

abbrev pub ById : Type 0
ById = List (List ℕ × HeldMessage)

-- the place of a message at a moment
abbrev pub place : ℕ → List ℕ → Spot
place t m = record { at = t; id = Some m }

-- the kept record, where it stands at that moment
abbrev pub record_at : ℕ → Option HeldMessage → Option Record
record_at t o = keep (λ (r : Record). nat_eq t r.at) (kept_in o)

pub record Agree (files : BySpot) (ids : ById) : Type 0 where
  -- no record stands at a place without an id
  pub none : (t : ℕ) → get latest_first files (record { at = t; id = None }) ≡ None
  -- a message has its kept record where that stands, and none elsewhere
  pub same : (t : ℕ) (m : List ℕ) →
      get latest_first files (place t m) ≡ record_at t (get id_cmp ids m)
  -- a kept record is under its own id, and its moment is at most the greatest there is
  pub bears : (m : List ℕ) →
      IfSome (kept_in (get id_cmp ids m)) (λ r. (r.id ≡ m) × (r.at ≤ greatest))
