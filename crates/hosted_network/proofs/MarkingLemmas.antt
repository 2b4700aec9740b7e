-- A marker that a client puts, and the others are told.
use Rattle.std.proofs.Common.{◌≡◌, ◌<◌, ◌+◌, Bool, true, false, ℕ, zero, suc, List, [], ◌∷◌, ◌++◌, Some, refl, sym, ap, ◌∙◌, arith, length, length-append, slice_index_or, slice_set}
use Rattle.std.specs.Prelude.{slice_get, ◌≢◌}
use Rattle.std.proofs.lemmas.Option.{slice_get-get_or, get_or_from_slice_get}
use Rattle.std.proofs.lemmas.List.{set-set}
use Rattle.network_log.specs.Guest.{Guest}
use Rattle.network_log.specs.NetworkState.{told_by}
use Rattle.hosted_network.specs.Marking.{AreOthersToldBy}
use Rattle.hosted_network.specs.Telling.{IsToldAt, IsTold, HasFallen}
use Rattle.hosted_network.proofs.LogLemmas.{there}
use Rattle.hosted_network.proofs.TellingLemmas.{told_by-at, told_by-length, told_by-more, told_if}

-- ---- two places of a list

swapped : (guests : List Guest) (one other : ℕ) (g h : Guest) → one ≢ other
    → slice_set (slice_set guests one g) other h ≡ slice_set (slice_set guests other h) one g
swapped [] one other g h different = refl
swapped (o ∷ guests) zero zero g h different = absurd (different refl)
swapped (o ∷ guests) zero (suc other) g h different = refl
swapped (o ∷ guests) (suc one) zero g h different = refl
swapped (o ∷ guests) (suc one) (suc other) g h different =
    ap (λ gs. o ∷ gs) (swapped guests one other g h (λ e. different (ap suc e)))

at-other : (guests : List Guest) (one other : ℕ) (g d : Guest) → one ≢ other → slice_index_or (slice_set guests one g) other d ≡ slice_index_or guests other d
at-other [] one other g d different = refl
at-other (o ∷ guests) zero zero g d different = absurd (different refl)
at-other (o ∷ guests) zero (suc other) g d different = refl
at-other (o ∷ guests) (suc one) zero g d different = refl
at-other (o ∷ guests) (suc one) (suc other) g d different = at-other guests one other g d (λ e. different (ap suc e))

set-length : (guests : List Guest) (place : ℕ) (g : Guest) → length (slice_set guests place g) ≡ length guests
set-length [] place g = refl
set-length (o ∷ guests) zero g = refl
set-length (o ∷ guests) (suc place) g = ap suc (set-length guests place g)

itself : (guests : List Guest) (place : ℕ) (g : Guest) → slice_get guests place ≡ Some g → slice_set guests place g ≡ guests
itself [] place g at = refl
itself (o ∷ guests) zero g at = ap (λ (x : Guest). x ∷ guests) (sym (get_or_from_slice_get (o ∷ guests) zero g g at))
itself (o ∷ guests) (suc place) g at = ap (λ gs. o ∷ gs) (itself guests place g at)

-- ---- the clients but one

-- each of the first clients but the one at that place was told that, or is gone
pub record OthersAreTold (hears : Guest → Guest) (place count : ℕ) (old new : List Guest) : Type 0 where
  pub fits : List Bool
  pub is_count : length fits ≡ count
  pub is_new : (g : Guest) → slice_get old place ≡ Some g → new ≡ slice_set (told_by hears fits old) place g

pub none_is_told : (hears : Guest → Guest) (place : ℕ) (old : List Guest) → OthersAreTold hears place 0 old old
none_is_told hears place old = record { fits = []; is_count = refl; is_new = λ g at. sym (itself old place g at) }

-- the one at that place is passed over
pub passed_over : {hears : Guest → Guest} (place : ℕ) {old new : List Guest} → place < length old
    → OthersAreTold hears place place old new → OthersAreTold hears place (place + 1) old new
passed_over {hears} place {old} {new} within k = record {
  fits = k.fits ++ true ∷ [];
  is_count = length-append k.fits (true ∷ []) ∙ ap (λ n. n + 1) k.is_count;
  is_new = λ g at.
      k.is_new g at
      ∙ sym (set-set (told_by hears k.fits old) place (told_if true hears (slice_index_or old (length k.fits) g)) g)
      ∙ ap (λ n. slice_set (slice_set (told_by hears k.fits old) n (told_if true hears (slice_index_or old (length k.fits) g))) place g) (sym k.is_count)
      ∙ ap (λ gs. slice_set gs place g) (sym (told_by-more hears k.fits true old g (rw k.is_count within)));
}

-- who is at another place wasn't told yet
other-at : {hears : Guest → Guest} {place other : ℕ} {old new : List Guest} (d : Guest) → place < length old → place ≢ other
    → OthersAreTold hears place other old new → slice_index_or new other d ≡ slice_index_or old other d
other-at {hears} {place} {other} {old} {new} d within different k =
    let t : (g : Guest) × (slice_get old place ≡ Some g) = there old place within in
    ap (λ gs. slice_index_or gs other d) (k.is_new t.0 t.1)
    ∙ at-other (told_by hears k.fits old) place other t.0 d different
    ∙ rw (← k.is_count) (told_by-at hears k.fits old d)

pub as_many_others : {hears : Guest → Guest} {place count : ℕ} {old new : List Guest} → place < length old
    → OthersAreTold hears place count old new → length new ≡ length old
as_many_others {hears} {place} {old = old} within k =
    let t : (g : Guest) × (slice_get old place ≡ Some g) = there old place within in
    ap length (k.is_new t.0 t.1) ∙ set-length (told_by hears k.fits old) place t.0 ∙ told_by-length hears k.fits old

pub other_was_there : {hears : Guest → Guest} {place other : ℕ} {old new : List Guest} {g : Guest} → place < length old → other < length old → place ≢ other
    → slice_get new other ≡ Some g → OthersAreTold hears place other old new → slice_get old other ≡ Some g
other_was_there {old = old} {new} {g} within there different at k =
    slice_get-get_or old _ g there ∙ ap (λ (v : Guest). Some v) (sym (other-at g within different k) ∙ get_or_from_slice_get new _ g g at)

other-told : {hears : Guest → Guest} {place other : ℕ} {old new later : List Guest} {h : Guest} (b : Bool) → place < length old → other < length old → place ≢ other
    → slice_get old other ≡ Some h → later ≡ slice_set new other (told_if b hears h)
    → OthersAreTold hears place other old new → OthersAreTold hears place (other + 1) old later
other-told {hears} {place} {other} {old} {new} {later} {h} b within there different at e k =
    let last : h ≡ slice_index_or old (length k.fits) h = rw k.is_count (sym (get_or_from_slice_get old other h h at)) in
    record {
      fits = k.fits ++ b ∷ [];
      is_count = length-append k.fits (b ∷ []) ∙ ap (λ n. n + 1) k.is_count;
      is_new = λ g spot.
          e ∙ ap (λ gs. slice_set gs other (told_if b hears h)) (k.is_new g spot)
          ∙ swapped (told_by hears k.fits old) place other g (told_if b hears h) different
          ∙ ap (λ gs. slice_set gs place g)
          (ap (λ v. slice_set (told_by hears k.fits old) other (told_if b hears v)) last
          ∙ ap (λ n. slice_set (told_by hears k.fits old) n (told_if b hears (slice_index_or old (length k.fits) h))) (sym k.is_count)
          ∙ sym (told_by-more hears k.fits b old h (rw k.is_count there)));
    }

by-other : {hears : Guest → Guest} {place other : ℕ} {old new later : List Guest} (h : Guest) → place < length old → other < length old → place ≢ other
    → slice_get old other ≡ Some h → IsToldAt hears other h new later
    → OthersAreTold hears place other old new → OthersAreTold hears place (other + 1) old later
by-other h within there different at (IsTold e) k = other-told true within there different at e k
by-other h within there different at (HasFallen e) k = other-told false within there different at e k

-- one more is told
pub other_told_more : {hears : Guest → Guest} {place other : ℕ} {old new later : List Guest} → place < length old → other < length old → place ≢ other
    → ((h : Guest) → slice_get new other ≡ Some h → IsToldAt hears other h new later)
    → OthersAreTold hears place other old new → OthersAreTold hears place (other + 1) old later
other_told_more {hears} {place} {other} {old} {new} {later} within is different each k =
    let t : (h : Guest) × (slice_get old other ≡ Some h) = there old other is in
    let many : length new ≡ length old = as_many_others within k in
    let now : slice_get new other ≡ Some t.0 =
    slice_get-get_or new other t.0 (omega (arith, is, many))
    ∙ ap (λ (v : Guest). Some v) (other-at t.0 within different k ∙ get_or_from_slice_get old other t.0 t.0 t.1) in
    by-other t.0 within is different t.1 (each t.0 now) k

-- all of them
pub all_others : {hears : Guest → Guest} {place : ℕ} {old new : List Guest} → OthersAreTold hears place (length old) old new → AreOthersToldBy hears place old new
all_others k = record { fits = k.fits; is_count = k.is_count; is_new = k.is_new }
