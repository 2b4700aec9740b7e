-- The pieces above a number, by rising number, are the newer pieces of what a state holds.
use Rattle.std.proofs.Common.{◌≡◌, ℕ, ◌<◌, ◌≤◌, zero, suc, Bool, true, Some, List, [], ◌∷◌, ◌++◌, map, length, take, refl, sym, ◌∙◌, ap, subst, arith, append_assoc}
use Rattle.std.proofs.lemmas.Bool.Decides.{nat_tests}
use Rattle.std.proofs.lemmas.List.{append-nil, get_or-map, length-map, take-map, take_all}
use Rattle.std.proofs.lemmas.List.Kept.{IsStrictlySortedBy-filter}
use Rattle.std.specs.FinMap as finite
use Rattle.std.specs.List.{IsDistinct}
use Rattle.std.specs.List.Sorted.{IsStrictlySortedBy}
use Rattle.std.specs.Option.{option_map}
use Rattle.std.specs.Prelude.{nat_lt}
use Rattle.chat_change.specs.Key.{key_of, same_key}
use Rattle.chat_change.specs.declared.change.Change.{Change}
use Rattle.chat_change.proofs.CallerLemmas.{key_total, key_exact}
use Rattle.chat_history.specs.Choice.{Among}
use Rattle.chat_history.specs.Newer.{HasPiece, IsNewer, AreFirstNewer}
use Rattle.chat_state.specs.Piece.{numbered_of, entry_of}
use Rattle.chat_state.specs.declared.store.piece.Piece.{Piece}
use Rattle.chat_buffers.specs.Store.{Store, Numbered, by_number}
use Rattle.chat_state.specs.State.{value_of, IsSound}
use Rattle.chat_history.proofs.CallerLemmas.{value_among, got}
use Rattle.chat_history.proofs.CallerLemmas.{among, contained, among-filter, among_passing, mapped, image}
use Rattle.chat_state.proofs.MergeLemmas.{change, number, turn, left, held_at, number_of, in_turn, turn_sorted, once_in, rising_at, some_of}
use Rattle.chat_buffers.proofs.CallerLemmas.{get-history, get-numbers_in}

abbrev entry : Numbered → ℕ × Change
entry p = (p.number, p.change)

module _ (s : Store) (front from : ℕ) (sound : IsSound s front) where
  abbrev above : Numbered → Bool
  above p = nat_lt from p.number

  there : (p : Numbered) → Among p (left s from) → HasPiece (value_of s front) (entry p) × (from < p.number)
  there p m =
      let r = among-filter above (turn s) p m in
      let v = (in_turn s front sound p).0 r.0 in
      let t = r.1 in
      ((get-history s (key_of p.change) ∙ ap (option_map change) (held_at s front sound p v), number_of s front sound p v), grind (arith, nat_tests))

  here : (e : ℕ × Change) → HasPiece (value_of s front) e → from < e.0 → Among e (map entry (left s from))
  here e h l =
      let r = some_of change (finite.get s (key_of e.1)) e.1 (sym (get-history s (key_of e.1)) ∙ h.0) in
      let n : Some r.0.number ≡ Some e.0 = ap (option_map number) (sym r.1) ∙ sym (get-numbers_in s (key_of e.1)) ∙ h.1 in
      let same : r.0.number ≡ e.0 = cc n in
      let m = (in_turn s front sound r.0).1 (value_among (finite.entries s) (key_of e.1) r.0 (got key_total key_exact s (key_of e.1) r.0 r.1)) in
      let t : above r.0 ≡ true = (let k : from < r.0.number = subst (λ x. from < x) (sym same) l in grind (arith, nat_tests)) in
      subst (λ x. Among x (map entry (left s from))) (λ i. (same i, r.2 i)) (image entry (left s from) r.0 (among_passing above (turn s) r.0 m t))

  keys_of : (ps : List Numbered) → map (λ (e : ℕ × Change). key_of e.1) (map entry ps) ≡ map key_of (map change ps)
  keys_of [] = refl
  keys_of (p ∷ ps) = ap (λ ks. key_of p.change ∷ ks) (keys_of ps)

  sorted : IsStrictlySortedBy by_number (left s from)
  sorted = IsStrictlySortedBy-filter by_number above (turn s) (turn_sorted s front sound)

  pub newer_is : IsNewer (value_of s front) from (map entry (left s from))
  newer_is = record {
    pieces = λ e. (
      λ h.
          let r = mapped entry (left s from) e (among (map entry (left s from)) e h) in
          subst (λ x. HasPiece (value_of s front) x × (from < x.0)) r.2 (there r.0 r.1),
      λ h. contained (map entry (left s from)) e (here e h.0 h.1),
    );
    once = subst (IsDistinct same_key) (sym (keys_of (left s from))) (once_in s front sound (left s from) (λ p m. (in_turn s front sound p).0 (among-filter above (turn s) p m).0) sorted);
    rising = λ i j d le l.
        let q : Numbered = record { number = d.0; change = d.1 } in
        let inside : j < length (left s from) = omega (arith, length-map (left s from) entry) in
        let a = ap (λ (e : ℕ × Change). e.0) (get_or-map entry (left s from) i q d (omega arith)) in
        let b = ap (λ (e : ℕ × Change). e.0) (get_or-map entry (left s from) j q d inside) in
        let c = rising_at (left s from) i j q sorted le inside in
        omega arith;
  }

-- ---- lent pieces

entries_of : (ps : List Piece) → map entry (map numbered_of ps) ≡ map entry_of ps
entries_of [] = refl
entries_of (p ∷ ps) = ap (λ es. entry_of p ∷ es) (entries_of ps)

lent_more : (ps : List Piece) (p : Piece) → map numbered_of (ps ++ p ∷ []) ≡ map numbered_of ps ++ numbered_of p ∷ []
lent_more [] p = refl
lent_more (q ∷ ps) p = ap (λ qs. numbered_of q ∷ qs) (lent_more ps p)

-- one more piece
pub lent_next : (all rest now : List Numbered) (ps : List Piece) (p : Piece) → now ≡ numbered_of p ∷ rest → map numbered_of ps ++ now ≡ all → map numbered_of (ps ++ p ∷ []) ++ rest ≡ all
lent_next all rest now ps p e h =
    ap (λ qs. qs ++ rest) (lent_more ps p) ∙ append_assoc (map numbered_of ps) (numbered_of p ∷ []) rest ∙ ap (λ qs. map numbered_of ps ++ qs) (sym e) ∙ h

first_of : (xs ys : List Numbered) (n : ℕ) → length xs ≡ n → take n (xs ++ ys) ≡ xs
first_of [] ys zero e = refl
first_of [] ys (suc n) e = absurd (omega (arith, e))
first_of (x ∷ xs) ys zero e = absurd (omega (arith, e))
first_of (x ∷ xs) ys (suc n) e = ap (λ zs. x ∷ zs) (first_of xs ys n (omega (arith, e)))

module _ (s : Store) (front from limit : ℕ) (sound : IsSound s front) (ps : List Piece) (now : List Numbered) (h : map numbered_of ps ++ now ≡ left s from) where
  first_are : map numbered_of ps ≡ take limit (left s from) → AreFirstNewer (value_of s front) from limit (map entry_of ps)
  first_are e = (map entry (left s from), newer_is s front from sound, sym (entries_of ps) ∙ ap (map entry) e ∙ sym (take-map entry limit (left s from)))

  -- no piece is left
  pub newer_all : length ps ≤ limit → now ≡ [] → AreFirstNewer (value_of s front) from limit (map entry_of ps)
  newer_all few e =
      let is : map numbered_of ps ≡ left s from = sym (append-nil (map numbered_of ps)) ∙ ap (λ qs. map numbered_of ps ++ qs) (sym e) ∙ h in
      first_are (is ∙ sym (take_all limit (left s from) (omega (arith, few, length-map ps numbered_of, ap length is))))

  -- the limit is reached
  pub newer_first : length ps ≡ limit → AreFirstNewer (value_of s front) from limit (map entry_of ps)
  newer_first e = first_are (sym (first_of (map numbered_of ps) now limit (length-map ps numbered_of ∙ e)) ∙ ap (take limit) h)
