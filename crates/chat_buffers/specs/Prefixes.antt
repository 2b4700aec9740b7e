-- The law of prefixes: of two keys with different ones, the one with the smaller is the smaller.
use Rattle.std.proofs.Common.{◌≡◌, ℕ, ◌<◌, ◌≤◌, ◌+◌, ◌-◌, ◌*◌, ◌^◌, zero, suc, List, [], ◌∷◌, min, refl, sym, ap, subst, ◌∙◌, arith}
use Rattle.std.proofs.Math.Nat.{mul-le-mul_right, min-le_right}
use Rattle.std.specs.declared.cmp.Ordering.{Ordering}
use Rattle.std.specs.declared.cmp.Ordering.TheVariants.{Less, Equal, Greater}
use Rattle.std.specs.Ordering.{nat_cmp, on, ordering_then, MatchOrdering}
use Rattle.std.specs.Cmp.{nat_cmp_is, ranks}
use Rattle.std.specs.Option.{option_cmp}
use Rattle.byte_text.specs.Order.{text_cmp}
use Rattle.chat_change.specs.Order.{id_cmp}
use Rattle.chat_history.specs.Cut.{latest_first}
use Rattle.chat_history.specs.declared.cut.Spot.{Spot}
use Rattle.chat_buffers.specs.IdKey.{leading, id_prefix}
use Rattle.chat_buffers.specs.SpotKey.{spot_prefix}

power : (k : ℕ) → 256 ^ suc k ≡ 256 ^ k * 256
power k = omega arith

above_zero : (k : ℕ) → 0 < 256 ^ k
above_zero zero = omega arith
above_zero (suc k) = omega (arith, power k, above_zero k)

-- the number of k bytes is below 256 ^ k
pub within : (k : ℕ) (text : List ℕ) → leading k text < 256 ^ k
within zero text = omega arith
within (suc k) [] = above_zero (suc k)
within (suc k) (b ∷ text) = omega (arith, above_zero (suc k), min-le_right (b * 256 ^ k + leading k text) (256 ^ suc k - 1))

-- of two numbers that are kept to a limit
capped : (m n l : ℕ) → min m l < min n l → m < n
capped m n l h = omega arith

means : (x y : ℕ) (o : Ordering) → nat_cmp x y ≡ o → MatchOrdering o (x < y) (x ≡ y) (y < x)
means x y o e = subst (λ r. MatchOrdering r (x < y) (x ≡ y) (y < x)) e (ranks x y)

-- the first byte decides, or else the others
by_first : (k x y : ℕ) (s t : List ℕ) → (leading k s < leading k t → text_cmp s t ≡ Less) → x * 256 ^ k + leading k s < y * 256 ^ k + leading k t
    → (o : Ordering) → nat_cmp x y ≡ o → text_cmp (x ∷ s) (y ∷ t) ≡ Less
by_first k x y s t rest apart Less e = ap (λ o. ordering_then o (text_cmp s t)) e
by_first k x y s t rest apart Equal e =
    let front : x * 256 ^ k ≡ y * 256 ^ k = ap (λ z. z * 256 ^ k) (means x y Equal e) in
    ap (λ o. ordering_then o (text_cmp s t)) e ∙ rest (omega (arith, apart, front))
by_first k x y s t rest apart Greater e =
    let up : suc y * 256 ^ k ≤ x * 256 ^ k = mul-le-mul_right (256 ^ k) (means x y Greater e) in
    absurd (omega (arith, apart, up, within k t))

-- a text whose number is smaller is the smaller
less : (k : ℕ) (s t : List ℕ) → leading k s < leading k t → text_cmp s t ≡ Less
less zero s t h = absurd (omega (arith, h))
less (suc k) [] [] h = absurd (omega (arith, h))
less (suc k) [] (y ∷ t) h = refl
less (suc k) (x ∷ s) [] h = absurd (omega (arith, h))
less (suc k) (x ∷ s) (y ∷ t) h =
    by_first k x y s t (less k s t)
    (capped (x * 256 ^ k + leading k s) (y * 256 ^ k + leading k t) (256 ^ suc k - 1) h) (nat_cmp x y) refl

turned : (m a b : ℕ) → m - a < m - b → b < a
turned m a b h = omega arith

pub id_ascends : (k l : List ℕ) → id_prefix k < id_prefix l → id_cmp k l ≡ Less
id_ascends k l h = less 8 l k (turned (2 ^ 64 - 1) (leading 8 k) (leading 8 l) h)

pub spot_ascends : (k l : Spot) → spot_prefix k < spot_prefix l → latest_first k l ≡ Less
spot_ascends k l h = ap (λ o. ordering_then o (on (λ (s : Spot). s.id) (option_cmp text_cmp) l k)) (sym (nat_cmp_is l.at k.at Less (turned (2 ^ 64 - 1) k.at l.at h)))
