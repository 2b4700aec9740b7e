-- What a store holds: under each key its piece, with its number.
use Rattle.std.specs.Prelude.{ℕ, ◌≡◌, ◌<◌, max, refl, Option, Some, None, List, map, filter, nat_lt, unwrap_or, if◌then◌else◌}
use Rattle.std.specs.declared.cmp.Ordering.{Ordering}
use Rattle.std.specs.Ordering.{on, nat_cmp}
use Rattle.std.specs.Coded.{Coded, code_by, coded×, coded_ℕ}
use Rattle.std.specs.Option.{option_map, option_and_then}
use Rattle.std.specs.FinMap as finite
use Rattle.chat_change.specs.Extent.{Extent, OfAccount, OfBuffer}
use Rattle.chat_change.specs.declared.change.Change.{Change}
use Rattle.chat_change.specs.declared.change.Change.TheVariants.{Floor, AccountFloor}
use Rattle.chat_change.specs.Key.{Key, FloorOf, key_cmp, key_of, same_key, floor_change}
use Rattle.chat_history.specs.History.{History, floor_moment}
use Rattle.chat_history.specs.Retention.{outlasts, remainder}
use Rattle.chat_history.specs.Codes.{coded_key, coded_change}

-- a change under its number
pub record Numbered : Type 0 where
  pub number : ℕ
  pub change : Change

abbrev pub Store : Type 0
Store = finite.FinMap key_cmp Numbered

-- the values of a map, each by a function
abbrev pub map_values : {V W : Type 0} → (V → W) → finite.FinMap key_cmp V → finite.FinMap key_cmp W
map_values f m = finite.from_entries (map (λ e. (e.0, f e.1)) (finite.entries m))

-- the pieces without their numbers, and the numbers
abbrev pub history_in : Store → History
history_in s = map_values (λ (p : Numbered). p.change) s

abbrev pub numbers_in : Store → finite.FinMap key_cmp ℕ
numbers_in s = map_values (λ (p : Numbered). p.number) s

-- the piece of a key
abbrev pub change_at : Store → Key → Option Change
change_at s k = option_map (λ (p : Numbered). p.change) (finite.get s k)

-- the number of a key's piece
abbrev pub number_at : Store → Key → Option ℕ
number_at s k = option_map (λ (p : Numbered). p.number) (finite.get s k)

-- each piece stands under the key that it bears
abbrev pub IsKeyedStore : Store → Type 0
IsKeyedStore s = (k : Key) (p : Numbered) → finite.get s k ≡ Some p → key_of p.change ≡ k

-- the own floor of an account or of a buffer, or 0
abbrev pub own_floor_in : Store → Extent → ℕ
own_floor_in s e = unwrap_or (option_and_then floor_moment (change_at s (FloorOf e))) 0

-- the floor of an account, or of a buffer: that of its account or its own one, whichever is greater
abbrev pub floor_in : Store → Extent → ℕ
floor_in s (OfAccount a) = own_floor_in s (OfAccount a)
floor_in s (OfBuffer b) = max (own_floor_in s (OfAccount b.account)) (own_floor_in s (OfBuffer b))

-- what a higher floor of an account or of a buffer leaves of a piece
abbrev pub piece_left : Extent → ℕ → Option Numbered → Option Numbered
piece_left e t None = None
piece_left e t (Some p) =
    if outlasts e t p.change then Some (record p { change = remainder e t p.change }) else None

-- what stands under a key after a floor was set: it takes away what lies below it
abbrev pub piece_above : Store → ℕ → Extent → ℕ → Key → Option Numbered
piece_above s n e t k =
    if same_key k (FloorOf e) then Some (record { number = n; change = floor_change e t })
    else piece_left e t (finite.get s k)

-- what stands under a key after a new piece was put under its own
abbrev pub piece_after : Store → ℕ → Change → Key → Option Numbered
piece_after s n (Floor b t) k = piece_above s n (OfBuffer b) t k
piece_after s n (AccountFloor a t) k = piece_above s n (OfAccount a) t k
piece_after s n c k =
    if same_key k (key_of c) then Some (record { number = n; change = c }) else finite.get s k

abbrev pub Places : Store → ℕ → Change → Store → Type 0
Places old n c new = (k : Key) → finite.get new k ≡ piece_after old n c k

abbrev pub coded_numbered : Coded Numbered
coded_numbered =
    code_by (ℕ × Change) (coded× coded_ℕ coded_change) (λ p. (p.number, p.change))
    (λ p. record { number = p.0; change = p.1 }) (λ _. refl)

abbrev pub coded_store : Coded Store
coded_store = finite.code coded_key coded_numbered

-- a number is above all those of a store
abbrev pub IsFresh : Store → ℕ → Type 0
IsFresh s n = (k : Key) (m : ℕ) → finite.get (numbers_in s) k ≡ Some m → m < n

-- ---- the pieces by rising number

abbrev pub by_number : Numbered → Numbered → Ordering
by_number = on (λ (p : Numbered). p.number) nat_cmp

-- the pieces with numbers above `n`
abbrev pub pieces_above : ℕ → Store → List Numbered
pieces_above n s = filter (λ (p : Numbered). nat_lt n p.number) (finite.values s)
