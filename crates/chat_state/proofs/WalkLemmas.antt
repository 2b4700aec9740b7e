-- The piece of a number, and the least number above another.
use Rattle.std.proofs.Common.{◌≡◌, ◌≢◌, refl, sym, ◌∙◌, ap, ℕ, ◌≤◌, List, [], ◌∷◌, true, false, nat_lt, is_some, Option, Some, None, inl, arith}
use Rattle.std.proofs.lemmas.Option.{same_Some}
use Rattle.std.specs.declared.cmp.Ordering.TheVariants.{Less}
use Rattle.std.specs.Ordering.{nat_cmp, is_gt, is_lt}
use Rattle.std.specs.Option.{option_map}
use Rattle.std.specs.FinMap as finite
use Rattle.chat_change.specs.Key.{Key}
use Rattle.chat_change.specs.declared.change.Change.{Change}
use Rattle.chat_change.proofs.CallerLemmas.{key_total, key_exact}
use Rattle.ordered_maps.specs.MapView.{get}
use Rattle.ordered_maps.specs.Ends.{IsLastBefore}
use Rattle.chat_history.specs.Choice.{Among, IsFirst}
use Rattle.chat_history.proofs.CallerLemmas.{got, get_entry, valued, value_among, among-filter, among_passing}
use Rattle.chat_buffers.specs.Store.{Store, Numbered, number_at, change_at, by_number, pieces_above, IsKeyedStore}
use Rattle.chat_state.specs.Number.{number_cmp}
use Rattle.chat_state.specs.PieceName.{PieceName, name_of}
use Rattle.chat_state.specs.Index.{ByNumber, IsIndexed}
use Rattle.chat_state.specs.Walk.{IsPieceOf}

-- a piece with its number and its change
whole : (o : Option Numbered) (n : ℕ) (c : Change) → option_map (λ (p : Numbered). p.number) o ≡ Some n → option_map (λ (p : Numbered). p.change) o ≡ Some c → o ≡ Some (record { number = n; change = c })
whole None n c e f = cc e
whole (Some p) n c e f = let number : p.number ≡ n = same_Some p.number n e in let change : p.change ≡ c = same_Some p.change c f in λ i. Some (record { number = number i; change = change i })

-- what has a number is held
pub held_some : (s : Store) (k : Key) (n : ℕ) → number_at s k ≡ Some n → change_at s k ≢ None
held_some s k n e = has (finite.get s k) e
  where
    has : (o : Option Numbered) → option_map (λ (p : Numbered). p.number) o ≡ Some n → option_map (λ (p : Numbered). p.change) o ≢ None
    has None e none = cc e
    has (Some p) e none = cc none

-- a piece of that number and that change
pub held_piece : (s : Store) (n : ℕ) (k : Key) (c : Change) → number_at s k ≡ Some n → change_at s k ≡ Some c → IsPieceOf s n (record { number = n; change = c })
held_piece s n k c e f = (refl, k, whole (finite.get s k) n c e f)

-- ---- the least number above another

piece_number : (o : Option Numbered) (p : Numbered) → o ≡ Some p → option_map (λ (p : Numbered). p.number) o ≡ Some p.number
piece_number o p e = ap (option_map (λ (p : Numbered). p.number)) e

is_above : (n m : ℕ) → nat_lt n m ≡ true → number_cmp m n ≡ Less
is_above n m h = grind (arith, h)

above_is : (n m : ℕ) → number_cmp m n ≡ Less → nat_lt n m ≡ true
above_is n m h = grind (arith, h)

not_less : (a b : ℕ) → is_lt (number_cmp a b) ≡ false → a ≤ b
not_less a b h = grind (arith, h)

not_greater : (a b : ℕ) → a ≤ b → is_gt (nat_cmp a b) ≡ false
not_greater a b l = grind (arith, l)

module _ (s : Store) (index : ByNumber) (keyed : IsKeyedStore s) (was : IsIndexed s index) (n : ℕ) where
  -- a piece above is in the index, above
  above_listed : (p : Numbered) → Among p (pieces_above n s) → (number_cmp p.number n ≡ Less) × (q : PieceName) × (get number_cmp index p.number ≡ Some q)
  above_listed p m =
      let both = among-filter (λ (p : Numbered). nat_lt n p.number) (finite.values s) p m in
      let v = valued (finite.entries s) p both.0 in
      let here = get_entry key_total key_exact s v.0 p v.1 in
      (is_above n p.number both.1, name_of p.change, was.listed v.0 p here)

  -- the greatest number comes first, so those above stand before
  pub none_above : IsLastBefore number_cmp n index None → IsFirst by_number (pieces_above n s) None
  none_above none = empty (pieces_above n s) (λ p m. let x = above_listed p m in not_both (get number_cmp index p.number) x.1 x.2 (none p.number x.0))
    where
      not_both : (o : Option PieceName) (q : PieceName) → o ≡ Some q → o ≡ None → ⊥
      not_both o q e f = cc

      empty : (ps : List Numbered) → ((p : Numbered) → Among p ps → ⊥) → ps ≡ []
      empty [] h = refl
      empty (p ∷ ps) h = absurd (h p (inl refl))

  module _ (m : ℕ) (q : PieceName) (last : IsLastBefore number_cmp n index (Some (m, q))) where
    pub stands_next : number_at s q.key ≡ Some m
    stands_next =
        let w = was.right m q last.1 in
        let under : q.key ≡ w.0 = ap (λ (x : PieceName). x.key) (sym w.4) ∙ keyed w.0 w.1 w.2 in
        ap (number_at s) under ∙ piece_number (finite.get s w.0) w.1 w.2 ∙ ap Some w.3

    at_least : (p : Numbered) → Among p (pieces_above n s) → m ≤ p.number
    at_least p a =
        let x = above_listed p a in
        not_less m p.number (last.2 p.number x.0 (ap is_some x.2))

    pub first_above : (p : Numbered) → IsPieceOf s m p → IsFirst by_number (pieces_above n s) (Some p)
    first_above p is =
        let among = value_among (finite.entries s) is.1 p (got key_total key_exact s is.1 p is.2) in
        let high : nat_lt n p.number ≡ true = ap (nat_lt n) is.0 ∙ above_is n m last.0 in
        (among_passing (λ (p : Numbered). nat_lt n p.number) (finite.values s) p among high, λ y a. let l = at_least y a in let same = is.0 in not_greater p.number y.number (omega (arith, l, same)))
