-- How a piece enters a store, and how what lies below a floor leaves it piece by piece.
use Rattle.std.specs.Prelude.{ℕ, ◌≡◌, ◌≤◌, ◌<◌, ⊤, ◌&&◌, Bool, false, nat_lt, nat_le, Option, Some, None, List, [], ◌∷◌, ◌++◌, Contains, if◌then◌else◌}
use Rattle.std.specs.Option.{option_map}
use Rattle.std.specs.FinMap as finite
use Rattle.chat_change.specs.Buffer.{Buffer}
use Rattle.chat_change.specs.Extent.{Extent, OfAccount, OfBuffer}
use Rattle.chat_change.specs.Record.{Record}
use Rattle.chat_change.specs.declared.change.Change.{Change}
use Rattle.chat_change.specs.declared.change.Change.TheVariants.{Post, Redact, Mark, Floor, AccountFloor}
use Rattle.chat_change.specs.Key.{Key, FloorOf, key_of, key_extent, same_key}
use Rattle.chat_history.specs.Retention.{same_account, is_covered, at_or_above, remainder}
use Rattle.chat_buffers.specs.Store.{Store, Numbered, floor_in}

-- a piece that may enter: a redaction names no moment below the floor, and no floor falls
abbrev pub FitsStore : Store → Change → Type 0
FitsStore s (Post r) = ⊤
FitsStore s (Redact b m t) = at_or_above (floor_in s (OfBuffer b)) t ≡ t
FitsStore s (Mark b t) = ⊤
FitsStore s (Floor b t) = floor_in s (OfBuffer b) ≤ t
FitsStore s (AccountFloor a t) = floor_in s (OfAccount a) ≤ t

-- a piece with what a higher floor of an account or of a buffer leaves of its change
abbrev pub with_remainder : Extent → ℕ → Numbered → Numbered
with_remainder e t p = record p { change = remainder e t p.change }

-- what another piece is after a change entered: a floor makes redactions forget the moments below
-- it
abbrev pub beside : Change → Option Numbered → Option Numbered
beside (Floor b t) o = option_map (with_remainder (OfBuffer b) t) o
beside (AccountFloor a t) o = option_map (with_remainder (OfAccount a) t) o
beside c o = o

-- a change stands under its key, and no record has left
abbrev pub IsEntered : Store → ℕ → Change → Store → Type 0
IsEntered old n c new =
    (k : Key) →
    finite.get new k ≡
    (if same_key k (key_of c) then Some (record { number = n; change = c })
    else beside c (finite.get old k))

-- ---- what lies below a floor, and leaves

-- a piece that a floor of that extent takes away: a record below it and, where it is one of an
-- account, an own floor of a buffer that it reaches
abbrev pub is_below : Extent → ℕ → Change → Bool
is_below e f (Post r) = is_covered e r.buffer && nat_lt r.at f
is_below (OfAccount a) f (Floor d u) = same_account a d.account && nat_le u f
is_below e f c = false

-- a piece, where a floor of that extent doesn't take it away
abbrev pub unless_below : Extent → ℕ → Option Numbered → Option Numbered
unless_below e f None = None
unless_below e f (Some p) = if is_below e f p.change then None else Some p

-- all that lies below a floor of that extent was taken out, and nothing else
abbrev pub IsSwept : Extent → ℕ → Store → Store → Type 0
IsSwept e f old new = (k : Key) → finite.get new k ≡ unless_below e f (finite.get old k)

-- one record of a buffer below a floor was taken out, whose piece had that number
pub record TakesOne (old : Store) (b : Buffer) (f n : ℕ) (new : Store) : Type 0 where
  pub post : Record
  pub here : post.buffer ≡ b
  pub low : post.at < f
  pub was : finite.get old (key_of (Post post)) ≡ Some (record { number = n; change = Post post })
  pub left : new ≡ finite.remove old (key_of (Post post))

-- no record of a buffer stands below a floor
abbrev pub IsSweptOf : Buffer → ℕ → Store → Type 0
IsSweptOf b f s =
    (k : Key) (r : Record) (n : ℕ) → r.buffer ≡ b →
    finite.get s k ≡ Some (record { number = n; change = Post r }) → f ≤ r.at

-- the own floor of a buffer, which is at most `f`, was taken out, whose piece had that number
pub record TakesFloor (old : Store) (b : Buffer) (f n : ℕ) (new : Store) : Type 0 where
  pub at : ℕ
  pub reached : at ≤ f
  pub was : finite.get old (FloorOf (OfBuffer b)) ≡
      Some (record { number = n; change = Floor b at })
  pub left : new ≡ finite.remove old (FloorOf (OfBuffer b))

-- the own floor of a buffer, where it has one, is above `f`
abbrev pub HasNoFloorTo : Buffer → ℕ → Store → Type 0
HasNoFloorTo b f s =
    (n u : ℕ) → finite.get s (FloorOf (OfBuffer b)) ≡
    Some (record { number = n; change = Floor b u }) → f < u

-- each buffer of an account in which a piece stands is listed
abbrev pub AreBuffersOf : Store → List ℕ → List Buffer → Type 0
AreBuffersOf s a buffers =
    (k : Key) (p : Numbered) (b : Buffer) → finite.get s k ≡ Some p → key_extent k ≡ OfBuffer b →
    b.account ≡ a → Contains buffers b

-- a buffer, where there is one and it is of an account, was added to a list
abbrev pub IsAddedOf : List ℕ → Option Buffer → List Buffer → List Buffer → Bool → Type 0
IsAddedOf a None old new is = (is ≡ false) × (new ≡ old)
IsAddedOf a (Some b) old new is =
    (is ≡ same_account b.account a) × (new ≡ (if is then old ++ b ∷ [] else old))
