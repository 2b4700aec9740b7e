-- Clients, each of which joined behind those that stand before it.
use Rattle.std.proofs.Common.{◌≡◌, ◌<◌, ◌≤◌, ◌+◌, Bool, true, false, ℕ, zero, suc, List, [], ◌∷◌, ◌++◌, Option, Some, None, refl, sym, ap, ◌∙◌, subst, arith, length, take, drop, slice_set}
use Rattle.std.specs.Prelude.{slice_get}
use Rattle.std.proofs.lemmas.Option.{slice_get_within, get_or_from_slice_get}
use Rattle.network_log.specs.Guest.{Guest, fallen}
use Rattle.network_log.specs.NetworkState.{told_by}

-- behind how many others it joined
abbrev pub number : Option ℕ → ℕ
number None = 0
number (Some n) = n

abbrev pub AreInOrder : (Guest → Type 0) → ℕ → ℕ → List Guest → Type 0
AreInOrder P low bound [] = low ≤ bound
AreInOrder P low bound (g ∷ guests) = (P g × low ≤ number g.joined) × AreInOrder P (number g.joined + 1) bound guests

order-low : (P : Guest → Type 0) (low less bound : ℕ) (guests : List Guest) → less ≤ low → AreInOrder P low bound guests → AreInOrder P less bound guests
order-low P low less bound [] h k = omega (arith, h, k)
order-low P low less bound (g ∷ guests) h k = let l : low ≤ number g.joined = k.0.1 in ((k.0.0, omega (arith, h, l)), k.1)

-- the same of another property
pub order-map : (P Q : Guest → Type 0) → ((g : Guest) → P g → Q g) → (low bound : ℕ) (guests : List Guest) → AreInOrder P low bound guests → AreInOrder Q low bound guests
order-map P Q f low bound [] k = k
order-map P Q f low bound (g ∷ guests) k = ((f g k.0.0, k.0.1), order-map P Q f (number g.joined + 1) bound guests k.1)

-- the next joins
pub order-join : (P : Guest → Type 0) (low bound : ℕ) (g : Guest) (guests : List Guest) → g.joined ≡ Some bound → P g
    → AreInOrder P low bound guests → AreInOrder P low (bound + 1) (guests ++ g ∷ [])
order-join P low bound g [] j s k =
    let e : number g.joined ≡ bound = ap number j in
    ((s, omega (arith, e, k)), omega (arith, e))
order-join P low bound g (o ∷ guests) j s k = (k.0, order-join P (number o.joined + 1) bound g guests j s k.1)

pub order-bound : (P : Guest → Type 0) (low bound : ℕ) (guests : List Guest) → AreInOrder P low bound guests → AreInOrder P low (bound + 1) guests
order-bound P low bound [] k = omega (arith, k)
order-bound P low bound (g ∷ guests) k = (k.0, order-bound P (number g.joined + 1) bound guests k.1)

-- who leaves leaves
pub order-leave : (P : Guest → Type 0) (low bound at : ℕ) (guests : List Guest) → AreInOrder P low bound guests → AreInOrder P low bound (take at guests ++ drop (suc at) guests)
order-leave P low bound zero [] k = k
order-leave P low bound (suc at) [] k = k
order-leave P low bound zero (g ∷ guests) k =
    let l : low ≤ number g.joined = k.0.1 in
    order-low P (number g.joined + 1) low bound guests (omega (arith, l)) k.1
order-leave P low bound (suc at) (g ∷ guests) k = (k.0, order-leave P (number g.joined + 1) bound at guests k.1)

get-head : (o g : Guest) (guests : List Guest) → slice_get (o ∷ guests) 0 ≡ Some g → o ≡ g
get-head o g guests h = get_or_from_slice_get (o ∷ guests) 0 g g h

get-tail : (o g : Guest) (guests : List Guest) (at : ℕ) → slice_get (o ∷ guests) (suc at) ≡ Some g → slice_get guests at ≡ Some g
get-tail o g guests at h = h

get-nothing : (at : ℕ) (g : Guest) → slice_get [] at ≡ Some g → ⊥
get-nothing at g h = let n : at < 0 = slice_get_within [] at g h in omega (arith, n)

order-at : (P : Guest → Type 0) (low bound : ℕ) (guests : List Guest) (at : ℕ) (g : Guest) → slice_get guests at ≡ Some g
    → AreInOrder P low bound guests → P g × low ≤ number g.joined
order-at P low bound [] at g h k = absurd (get-nothing at g h)
order-at P low bound (o ∷ guests) zero g h k =
    let R : Guest → Type 0 = λ v. P v × low ≤ number v.joined in
    subst R (get-head o g guests h) k.0
order-at P low bound (o ∷ guests) (suc at) g h k =
    let r : P g × (number o.joined + 1) ≤ number g.joined = order-at P (number o.joined + 1) bound guests at g (get-tail o g guests at h) k.1 in
    let l : low ≤ number o.joined = k.0.1 in
    let m : number o.joined + 1 ≤ number g.joined = r.1 in
    (r.0, omega (arith, l, m))

pub order-get : (P : Guest → Type 0) (low bound : ℕ) (guests : List Guest) (at : ℕ) (g : Guest) → slice_get guests at ≡ Some g
    → AreInOrder P low bound guests → P g
order-get P low bound guests at g h k = (order-at P low bound guests at g h k).0

pub order-set : (P : Guest → Type 0) (low bound : ℕ) (guests : List Guest) (at : ℕ) (g new : Guest) → slice_get guests at ≡ Some g
    → number new.joined ≡ number g.joined → P new → AreInOrder P low bound guests → AreInOrder P low bound (slice_set guests at new)
order-set P low bound [] at g new h e n k = absurd (get-nothing at g h)
order-set P low bound (o ∷ guests) zero g new h e n k =
    let same : number new.joined ≡ number o.joined = e ∙ ap (λ (v : Guest). number v.joined) (sym (get-head o g guests h)) in
    let l : low ≤ number o.joined = k.0.1 in
    let R : ℕ → Type 0 = λ v. AreInOrder P (v + 1) bound guests in
    ((n, omega (arith, l, same)), subst R (sym same) k.1)
order-set P low bound (o ∷ guests) (suc at) g new h e n k =
    (k.0, order-set P (number o.joined + 1) bound guests at g new (get-tail o g guests at h) e n k.1)

-- all behind the one that joined behind so many
order-others : (P Q : Guest → Type 0) (joins : ℕ) → ((g : Guest) → (joins ≡ number g.joined → ⊥) → P g → Q g)
    → (low bound : ℕ) (guests : List Guest) → joins < low → AreInOrder P low bound guests → AreInOrder Q low bound guests
order-others P Q joins f low bound [] h k = k
order-others P Q joins f low bound (g ∷ guests) h k =
    let l : low ≤ number g.joined = k.0.1 in (
      (f g (λ e. omega (arith, h, l, e)) k.0.0, l),
      order-others P Q joins f (number g.joined + 1) bound guests (omega (arith, h, l)) k.1,
    )

-- one of them acts, which is so of all others
pub order-act : (P Q : Guest → Type 0) (joins : ℕ) → ((g : Guest) → (joins ≡ number g.joined → ⊥) → P g → Q g)
    → (low bound : ℕ) (guests : List Guest) (at : ℕ) (g new : Guest) → slice_get guests at ≡ Some g
    → number new.joined ≡ number g.joined → joins ≡ number g.joined → Q new
    → AreInOrder P low bound guests → AreInOrder Q low bound (slice_set guests at new)
order-act P Q joins f low bound [] at g new h e j n k = absurd (get-nothing at g h)
order-act P Q joins f low bound (o ∷ guests) zero g new h e j n k =
    let own : number g.joined ≡ number o.joined = ap (λ (v : Guest). number v.joined) (sym (get-head o g guests h)) in
    let l : low ≤ number o.joined = k.0.1 in
    let R : ℕ → Type 0 = λ v. AreInOrder Q (v + 1) bound guests in (
      (n, omega (arith, l, e, own)),
      subst R (sym (e ∙ own)) (order-others P Q joins f (number o.joined + 1) bound guests (omega (arith, j, own)) k.1),
    )
order-act P Q joins f low bound (o ∷ guests) (suc at) g new h e j n k =
    let r : P g × (number o.joined + 1) ≤ number g.joined = order-at P (number o.joined + 1) bound guests at g (get-tail o g guests at h) k.1 in
    let more : number o.joined + 1 ≤ number g.joined = r.1 in (
      (f o (λ q. omega (arith, q, j, more)) k.0.0, k.0.1),
      order-act P Q joins f (number o.joined + 1) bound guests at g new (get-tail o g guests at h) e j n k.1,
    )

-- all are told something, or fall
pub order-told : (P Q : Guest → Type 0) (hears : Guest → Guest) → ((g : Guest) → P g → Q (hears g)) → ((g : Guest) → P g → Q (fallen g))
    → ((g : Guest) → number g.joined ≡ number (hears g).joined)
    → (low bound : ℕ) (fits : List Bool) (guests : List Guest)
    → length fits ≡ length guests → AreInOrder P low bound guests → AreInOrder Q low bound (told_by hears fits guests)
order-told P Q hears f d s low bound [] [] h k = k
order-told P Q hears f d s low bound [] (g ∷ guests) h k = absurd (omega (arith, h))
order-told P Q hears f d s low bound (true ∷ fits) [] h k = k
order-told P Q hears f d s low bound (false ∷ fits) [] h k = k
order-told P Q hears f d s low bound (true ∷ fits) (g ∷ guests) h k =
    let e : number g.joined ≡ number (hears g).joined = s g in
    let L : ℕ → Type 0 = λ v. low ≤ v in
    let R : ℕ → Type 0 = λ v. AreInOrder Q (v + 1) bound (told_by hears fits guests) in (
      (f g k.0.0, subst L e k.0.1),
      subst R e (order-told P Q hears f d s (number g.joined + 1) bound fits guests (omega (arith, h)) k.1),
    )
order-told P Q hears f d s low bound (false ∷ fits) (g ∷ guests) h k = (
  (d g k.0.0, k.0.1),
  order-told P Q hears f d s (number g.joined + 1) bound fits guests (omega (arith, h)) k.1,
)

order-least : (P : Guest → Type 0) (low bound : ℕ) (guests : List Guest) → AreInOrder P low bound guests → low ≤ bound
order-least P low bound [] k = k
order-least P low bound (g ∷ guests) k =
    let l : low ≤ number g.joined = k.0.1 in
    let m : (number g.joined + 1) ≤ bound = order-least P (number g.joined + 1) bound guests k.1 in
    omega (arith, l, m)

-- each joined behind fewer others than will have joined
pub order-fits : (P : Guest → Type 0) (low bound : ℕ) (guests : List Guest) (at : ℕ) (g : Guest) → slice_get guests at ≡ Some g
    → AreInOrder P low bound guests → number g.joined < bound
order-fits P low bound [] at g h k = absurd (get-nothing at g h)
order-fits P low bound (o ∷ guests) zero g h k =
    let own : number o.joined ≡ number g.joined = ap (λ (v : Guest). number v.joined) (get-head o g guests h) in
    let m : (number o.joined + 1) ≤ bound = order-least P (number o.joined + 1) bound guests k.1 in
    omega (arith, own, m)
order-fits P low bound (o ∷ guests) (suc at) g h k =
    order-fits P (number o.joined + 1) bound guests at g (get-tail o g guests at h) k.1

-- the one at a place is told something, or falls
pub told-at : (hears : Guest → Guest) → ((g : Guest) → number g.joined ≡ number (hears g).joined) → (fits : List Bool) (guests : List Guest) (at : ℕ) (g : Guest)
    → slice_get guests at ≡ Some g → (new : Guest) × (slice_get (told_by hears fits guests) at ≡ Some new) × (number new.joined ≡ number g.joined)
told-at hears s [] guests at g h = (g, h, refl)
told-at hears s (b ∷ fits) [] at g h = absurd (get-nothing at g h)
told-at hears s (true ∷ fits) (o ∷ guests) zero g h =
    (hears o, refl, sym (s o) ∙ ap (λ (v : Guest). number v.joined) (get-head o g guests h))
told-at hears s (false ∷ fits) (o ∷ guests) zero g h =
    (fallen o, refl, ap (λ (v : Guest). number v.joined) (get-head o g guests h))
told-at hears s (true ∷ fits) (o ∷ guests) (suc at) g h = told-at hears s fits guests at g (get-tail o g guests at h)
told-at hears s (false ∷ fits) (o ∷ guests) (suc at) g h = told-at hears s fits guests at g (get-tail o g guests at h)
