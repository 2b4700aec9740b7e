-- The piece that a change makes in a store, where it counts.
use Rattle.std.specs.Prelude.{ℕ, Option, Some, None, nat_lt, if◌then◌else◌}
use Rattle.chat_change.specs.Extent.{Extent, OfAccount, OfBuffer}
use Rattle.chat_change.specs.Key.{key_of, key_extent, floor_change}
use Rattle.chat_change.specs.declared.change.Change.{Change}
use Rattle.chat_change.specs.declared.change.Change.TheVariants.{Post, Redact, Floor, AccountFloor}
use Rattle.chat_history.specs.Form.{form_at}
use Rattle.chat_buffers.specs.Store.{Store, change_at, floor_in}
use Rattle.chat_state.specs.declared.store.form.Form.{Form}
use Rattle.chat_state.specs.declared.store.form.Form.TheVariants.{AsItIs, Gone}

-- the floor that is set for an extent, where it is higher than the one in force
abbrev pub floor_form : Store → Extent → ℕ → Option Change
floor_form s e t = if nat_lt (floor_in s e) t then Some (floor_change e t) else None

-- the piece that a change makes, where it counts
abbrev pub form : Store → Change → Option Change
form s (Floor b t) = floor_form s (OfBuffer b) t
form s (AccountFloor a t) = floor_form s (OfAccount a) t
form s c = form_at (floor_in s (key_extent (key_of c))) (change_at s (key_of c)) c

-- the piece that a change makes in a form: itself, or a redaction of its message
abbrev pub piece_in : Change → Form → Change
piece_in c AsItIs = c
piece_in (Post r) (Gone t) = Redact r.buffer r.id t
piece_in (Redact b m u) (Gone t) = Redact b m t
piece_in c (Gone t) = c
