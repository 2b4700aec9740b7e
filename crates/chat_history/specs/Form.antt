-- Which changes count, and the piece that such a change makes of that of its key.
use Rattle.std.specs.Prelude.{ℕ, Bool, true, false, ◌&&◌, ⊤, Option, Some, None, nat_lt, nat_le, if◌then◌else◌}
use Rattle.std.specs.Ordering.{is_lt}
use Rattle.chat_change.specs.Order.{record_cmp}
use Rattle.chat_change.specs.declared.change.Change.{Change}
use Rattle.chat_change.specs.declared.change.Change.TheVariants.{Post, Redact, Mark, Floor, AccountFloor}
use Rattle.chat_history.specs.Choice.{later}
use Rattle.chat_history.specs.Retention.{at_or_above}

abbrev pub IsNoFloor : Change → Type 0
IsNoFloor (Floor b t) = ⊥
IsNoFloor (AccountFloor a t) = ⊥
IsNoFloor c = ⊤

-- whether a moment is later than another, where there may be none
abbrev pub is_later : ℕ → Option ℕ → Bool
is_later t None = true
is_later t (Some u) = nat_lt u t

-- whether a moment at or above the floor is later than the one that a redaction names
abbrev pub raises : ℕ → Option ℕ → Option ℕ → Bool
raises f u None = false
raises f u (Some t) = nat_le f t && is_later t u

-- whether a change gives a new form to the present piece of its key, where the floor of the buffer
-- is `f`
abbrev pub renews : ℕ → Change → Change → Bool
renews f (Post r) (Post s) = is_lt (record_cmp r s)
renews f (Post r) (Redact d n u) = raises f u (Some r.at)
renews f (Redact b m t) (Post s) = true
renews f (Redact b m t) (Redact d n u) = raises f u t
renews f (Mark b t) (Mark d u) = nat_lt u t
renews f c old = false

-- the moment of a post
abbrev pub posted_moment : Change → Option ℕ
posted_moment (Post r) = Some r.at
posted_moment c = None

-- that new form. A redacted message keeps the later moment of its post and of its redaction
abbrev pub new_form : Change → Change → Change
new_form (Post r) (Redact b m t) = Redact b m (Some r.at)
new_form (Redact b m t) old = Redact b m (later (posted_moment old) t)
new_form c old = c

-- the piece that the first change of a key makes
abbrev pub first_form : ℕ → Change → Option Change
first_form f (Post r) = if nat_le f r.at then Some (Post r) else None
first_form f (Redact b m t) = Some (Redact b m (at_or_above f t))
first_form f (Mark b t) = Some (Mark b t)
first_form f c = None

-- the piece of a key after one more change of it
abbrev pub next_piece : ℕ → Option Change → Change → Option Change
next_piece f None c = first_form f c
next_piece f (Some old) c = Some (if renews f c old then new_form c old else old)

-- the piece that one more change makes of that of its key, where it changes it
abbrev pub form_at : ℕ → Option Change → Change → Option Change
form_at f None c = first_form f c
form_at f (Some old) c = if renews f c old then Some (new_form c old) else None
