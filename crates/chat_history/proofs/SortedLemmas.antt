-- Sorted lists: what determines them, and how they go on from one of their members.
use Rattle.std.proofs.Common.{◌≡◌, Bool, true, false, cond, not, List, [], ◌∷◌, ◌++◌, Some, None, reverse, refl, sym, ◌∙◌, ap, subst, ◌⊎◌, ⊎_elim, inl, inr}
use Rattle.std.proofs.lemmas.List.{reverse-append}
use Rattle.std.specs.Prelude.{◌↔◌}
use Rattle.std.specs.declared.cmp.Ordering.{Ordering}
use Rattle.std.specs.declared.cmp.Ordering.TheVariants.{Less, Equal, Greater}
use Rattle.std.proofs.lemmas.Bool.{false≢true}
use Rattle.std.specs.Ordering.{is_lt, is_gt, ordering_reverse, flip_args}
use Rattle.std.specs.Cmp.{IsTotalOrder}
use Rattle.std.proofs.lemmas.Cmp.{tied_itself, alike_right}
use Rattle.std.specs.List.{filter, AllByRecursion}
use Rattle.std.specs.List.Sorted.{IsStrictlySortedBy}
use Rattle.chat_history.specs.Choice.{Among, IsFirst}
use Rattle.chat_history.proofs.MemberLemmas.{among_left, among_right, among_either, member}

pub filter_alike : {A : Type 0} (p q : A → Bool) (xs : List A) → ((x : A) → Among x xs → p x ≡ q x) → filter p xs ≡ filter q xs
filter_alike p q [] h = refl
filter_alike p q (x ∷ xs) h = λ i. cond (h x (inl refl) i) (x ∷ filter_alike p q xs (λ y m. h y (inr m)) i) (filter_alike p q xs (λ y m. h y (inr m)) i)

filter_none : {A : Type 0} (xs : List A) → filter (λ x. false) xs ≡ []
filter_none [] = refl
filter_none (x ∷ xs) = filter_none xs

pub reverse-cons : {A : Type 0} (x : A) (xs : List A) → reverse (x ∷ xs) ≡ reverse xs ++ x ∷ []
reverse-cons x xs = reverse-append (x ∷ []) xs

pub among-reverse : {A : Type 0} (xs : List A) (x : A) → Among x (reverse xs) → Among x xs
among-reverse [] x m = m
among-reverse (y ∷ ys) x m =
    ⊎_elim (λ a. inr (among-reverse ys x a)) (λ a. ⊎_elim (λ e. inl e) (λ n. absurd n) a) (among_either (reverse ys) (y ∷ []) x (subst (Among x) (reverse-cons y ys) m))

pub reverse_among : {A : Type 0} (xs : List A) (x : A) → Among x xs → Among x (reverse xs)
reverse_among [] x m = m
reverse_among (y ∷ ys) x m =
    subst (Among x) (sym (reverse-cons y ys)) (⊎_elim (λ e. among_right (reverse ys) (y ∷ []) x (inl e)) (λ a. among_left (reverse ys) (y ∷ []) x (reverse_among ys x a)) m)

all_push : {A : Type 0} (P : A → Type 0) (xs : List A) (x : A) → AllByRecursion P xs → P x → AllByRecursion P (xs ++ x ∷ [])
all_push P [] x h p = (p, tt)
all_push P (y ∷ ys) x h p = (h.0, all_push P ys x h.1 p)

module _ {A : Type 0} (R : A → A → Ordering) where
  sorted_push : (xs : List A) (x : A) → IsStrictlySortedBy R xs → ((y : A) → Among y xs → R y x ≡ Less) → IsStrictlySortedBy R (xs ++ x ∷ [])
  unfolding IsStrictlySortedBy
  sorted_push [] x h below = (tt, tt)
  sorted_push (y ∷ ys) x h below = (all_push (λ z. R y z ≡ Less) ys x h.0 (below y (inl refl)), sorted_push ys x h.1 (λ z m. below z (inr m)))

pub sorted_reverse : {A : Type 0} (R : A → A → Ordering) (xs : List A) → IsStrictlySortedBy R xs → IsStrictlySortedBy (flip_args R) (reverse xs)
unfolding IsStrictlySortedBy
sorted_reverse R [] h = tt
sorted_reverse R (x ∷ xs) h =
    subst (IsStrictlySortedBy (flip_args R)) (sym (reverse-cons x xs))
    (sorted_push (flip_args R) (reverse xs) x (sorted_reverse R xs h.1) (λ y m. member (λ z. R x z ≡ Less) xs y h.0 (among-reverse xs y m)))

module _ {A : Type 0} {R : A → A → Ordering} (o : IsTotalOrder R) where
  greater : (x y : A) → R x y ≡ Less → R y x ≡ Greater
  greater x y e = o.antisymm y x ∙ ap ordering_reverse e

  pub less_upto : (x y z : A) → R x y ≡ Less → is_gt (R y z) ≡ false → R x z ≡ Less
  less_upto x y z l h =
      elim (R y z) as (λ w. R y z ≡ w → is_gt w ≡ false → R x z ≡ Less) [
        | Less ↦ λ e _. o.trans x y z l e
        | Equal ↦ λ e _. sym (alike_right o y z x e) ∙ l
        | Greater ↦ λ _ g. absurd (false≢true (sym g))
      ] refl h

  irreflexive : (x : A) → R x x ≡ Less → ⊥
  irreflexive x l = let e = tied_itself o x in cc (sym l ∙ e)

  same_head : (x y : A) (xs ys : List A) → IsStrictlySortedBy R (x ∷ xs) → IsStrictlySortedBy R (y ∷ ys) → (y ≡ x) ⊎ Among x ys → (x ≡ y) ⊎ Among y xs → x ≡ y
  unfolding IsStrictlySortedBy
  same_head x y xs ys s t a b =
      ⊎_elim (λ e. sym e)
      (λ m. ⊎_elim (λ e. e)
      (λ n. absurd (irreflexive x (o.trans x y x (member (λ z. R x z ≡ Less) xs y s.0 n) (member (λ z. R y z ≡ Less) ys x t.0 m))))
      b)
      a

  in_tail : (x y z : A) (xs ys : List A) → x ≡ y → IsStrictlySortedBy R (x ∷ xs) → Among z xs → Among z (y ∷ ys) → Among z ys
  unfolding IsStrictlySortedBy
  in_tail x y z xs ys is s m a =
      ⊎_elim (λ e. absurd (irreflexive x (ap (R x) (is ∙ e) ∙ member (λ w. R x w ≡ Less) xs z s.0 m))) (λ n. n) a

  -- a sorted list is determined by its members
  pub sorted_alike : (xs ys : List A) → IsStrictlySortedBy R xs → IsStrictlySortedBy R ys → ((x : A) → Among x xs ↔ Among x ys) → xs ≡ ys
  unfolding IsStrictlySortedBy
  sorted_alike [] [] s t h = refl
  sorted_alike [] (y ∷ ys) s t h = absurd ((h y).1 (inl refl))
  sorted_alike (x ∷ xs) [] s t h = absurd ((h x).0 (inl refl))
  sorted_alike (x ∷ xs) (y ∷ ys) s t h =
      let is : x ≡ y = same_head x y xs ys s t ((h x).0 (inl refl)) ((h y).1 (inl refl)) in
      let rest : xs ≡ ys = sorted_alike xs ys s.1 t.1 (λ z. (λ m. in_tail x y z xs ys is s m ((h z).0 (inr m)), λ m. in_tail y x z ys xs (sym is) t m ((h z).1 (inr m)))) in
      λ i. is i ∷ rest i

  -- a sorted list from a member on is that member, and then what comes after it
  pub from_member : (xs : List A) (x : A) → IsStrictlySortedBy R xs → Among x xs → filter (λ y. not (is_lt (R y x))) xs ≡ x ∷ filter (λ y. is_lt (R x y)) xs
  unfolding IsStrictlySortedBy
  from_member [] x h m = absurd m
  from_member (y ∷ ys) x h m = ⊎_elim
      (λ (e : y ≡ x).
      let back : R y x ≡ Equal = ap (R y) (sym e) ∙ tied_itself o y in
      let forth : R x y ≡ Equal = ap (λ z. R z y) (sym e) ∙ tied_itself o y in
      let past : (z : A) → Among z ys → R x z ≡ Less = λ z n. ap (λ w. R w z) (sym e) ∙ member (λ z. R y z ≡ Less) ys z h.0 n in
      ap (λ w. cond (not (is_lt w)) (y ∷ filter (λ z. not (is_lt (R z x))) ys) (filter (λ z. not (is_lt (R z x))) ys)) back
      ∙ (λ i. e i ∷ filter_alike (λ z. not (is_lt (R z x))) (λ z. is_lt (R x z)) ys (λ z n. ap (λ w. not (is_lt w)) (greater x z (past z n)) ∙ ap is_lt (sym (past z n))) i)
      ∙ ap (λ zs. x ∷ zs) (ap (λ w. cond (is_lt w) (y ∷ filter (λ z. is_lt (R x z)) ys) (filter (λ z. is_lt (R x z)) ys)) (sym forth)))
      (λ (n : Among x ys).
      let before : R y x ≡ Less = member (λ z. R y z ≡ Less) ys x h.0 n in
      ap (λ w. cond (not (is_lt w)) (y ∷ filter (λ z. not (is_lt (R z x))) ys) (filter (λ z. not (is_lt (R z x))) ys)) before
      ∙ from_member ys x h.1 n
      ∙ ap (λ zs. x ∷ zs) (ap (λ w. cond (is_lt w) (y ∷ filter (λ z. is_lt (R x z)) ys) (filter (λ z. is_lt (R x z)) ys)) (sym (greater y x before))))
      m

  not_after : (x y : A) → is_lt (R y x) ≡ false → is_gt (R x y) ≡ false
  not_after x y e =
      ap is_gt (o.antisymm x y) ∙ elim (R y x) as (λ w. is_lt w ≡ false → is_gt (ordering_reverse w) ≡ false) [
        | Less ↦ λ e. e
        | Equal ↦ λ _. refl
        | Greater ↦ λ _. refl
      ] e

  not_before : (x y : A) → is_gt (R x y) ≡ false → is_lt (R y x) ≡ false
  not_before x y e =
      ap is_lt (o.antisymm y x) ∙ elim (R x y) as (λ w. is_gt w ≡ false → is_lt (ordering_reverse w) ≡ false) [
        | Less ↦ λ _. refl
        | Equal ↦ λ _. refl
        | Greater ↦ λ e. e
      ] e

  -- what passes a test that holds from some place on is what stands from the first member on that passes
  module _ (xs cs : List A) (p : A → Bool) (closed : (x y : A) → p x ≡ true → is_gt (R x y) ≡ false → p y ≡ true) (passing : (x : A) → Among x cs ↔ (Among x xs × (p x ≡ true))) where
    from_here : (x y : A) → IsFirst R cs (Some x) → Among y xs → p y ≡ not (is_lt (R y x))
    from_here x y h m =
        elim (p y) as (λ b. p y ≡ b → b ≡ not (is_lt (R y x))) [
          | true ↦ λ e. ap not (sym (not_before x y (h.1 y ((passing y).1 (m, e)))))
          | false ↦ λ e. elim (is_lt (R y x)) as (λ t. is_lt (R y x) ≡ t → false ≡ not t) [
            | true ↦ λ _. refl
            | false ↦ λ t. absurd (false≢true (sym e ∙ closed x y ((passing x).0 h.0).1 (not_after x y t)))
          ] refl
        ] refl

    pub passing_from : (x : A) → IsFirst R cs (Some x) → filter p xs ≡ filter (λ y. not (is_lt (R y x))) xs
    passing_from x h = filter_alike p (λ y. not (is_lt (R y x))) xs (λ y m. from_here x y h m)

    fails : (y : A) → cs ≡ [] → Among y xs → p y ≡ false
    fails y e m = elim (p y) as (λ b. p y ≡ b → b ≡ false) [ true ↦ λ t. absurd (subst (Among y) e ((passing y).1 (m, t))) | false ↦ λ _. refl ] refl

    pub none_passing : IsFirst R cs None → filter p xs ≡ []
    none_passing h = filter_alike p (λ _. false) xs (λ y m. fails y h m) ∙ filter_none xs
