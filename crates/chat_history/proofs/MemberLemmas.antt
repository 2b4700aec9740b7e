-- Members of lists: of those that a test or a partial function lets through, and the first by an order.
use Rattle.std.proofs.Common.{◌≡◌, ℕ, zero, suc, ◌<◌, Bool, true, false, cond, Option, Some, None, List, [], ◌∷◌, ◌++◌, length, map, refl, sym, ◌∙◌, ap, subst, arith, ⊎_elim, inl, inr, ◌⊎◌}
use Rattle.std.specs.declared.cmp.Ordering.{Ordering}
use Rattle.std.proofs.lemmas.Bool.{false≢true}
use Rattle.std.specs.Prelude.{Contains, slice_index_or, ◌↔◌}
use Rattle.std.specs.Ordering.{ord_min, is_gt}
use Rattle.std.specs.Cmp.{IsTotalOrder}
use Rattle.std.proofs.lemmas.Cmp.{upto}
use Rattle.std.proofs.lemmas.Map.Lookups.{CmpEqualImpliesEq}
use Rattle.std.specs.List.{filter, filter_map, cons_option, AllByRecursion}
use Rattle.std.specs.Option.{option_to_list}
use Rattle.chat_history.specs.Choice.{earlier, first_by, Among, IsFirst}
use Rattle.chat_history.proofs.ChoiceLemmas.{le_self, le_antisym, min_is, min_left, min_right}

among_at : {A : Type 0} (xs : List A) (x : A) (k : ℕ) → k < length xs → slice_index_or xs k x ≡ x → Among x xs
among_at [] x k l e = absurd (omega arith)
among_at (y ∷ ys) x zero l e = inl e
among_at (y ∷ ys) x (suc k) l e = inr (among_at ys x k (omega arith) e)

pub among : {A : Type 0} (xs : List A) (x : A) → Contains xs x → Among x xs
among xs x h = among_at xs x h.0 h.1 h.2

one_further : {A : Type 0} (y : A) (ys : List A) (x : A) → Contains ys x → Contains (y ∷ ys) x
one_further y ys x h = (suc h.0, (let l = h.1 in let r : suc h.0 < length (y ∷ ys) = omega arith in r), h.2)

pub contained : {A : Type 0} (xs : List A) (x : A) → Among x xs → Contains xs x
contained [] x h = absurd h
contained (y ∷ ys) x h = ⊎_elim (λ e. (0, (let l : 0 < length (y ∷ ys) = omega arith in l), e)) (λ m. one_further y ys x (contained ys x m)) h

pub among_left : {A : Type 0} (xs ys : List A) (x : A) → Among x xs → Among x (xs ++ ys)
among_left [] ys x h = absurd h
among_left (z ∷ zs) ys x h = ⊎_elim (λ e. inl e) (λ m. inr (among_left zs ys x m)) h

pub among_right : {A : Type 0} (xs ys : List A) (x : A) → Among x ys → Among x (xs ++ ys)
among_right [] ys x h = h
among_right (z ∷ zs) ys x h = inr (among_right zs ys x h)

pub among_either : {A : Type 0} (xs ys : List A) (x : A) → Among x (xs ++ ys) → Among x xs ⊎ Among x ys
among_either [] ys x h = inr h
among_either (z ∷ zs) ys x h = ⊎_elim (λ e. inl (inl e)) (λ m. ⊎_elim (λ a. inl (inr a)) (λ b. inr b) (among_either zs ys x m)) h

pub member : {A : Type 0} (P : A → Type 0) (xs : List A) (x : A) → AllByRecursion P xs → Among x xs → P x
member P [] x h m = absurd m
member P (y ∷ ys) x h m = ⊎_elim (λ e. subst P e h.0) (λ a. member P ys x h.1 a) m

pub mapped : {A B : Type 0} (f : A → B) (xs : List A) (y : B) → Among y (map f xs) → (x : A) × Among x xs × (f x ≡ y)
mapped f [] y m = absurd m
mapped f (x ∷ xs) y m = ⊎_elim (λ e. (x, inl refl, e)) (λ a. let r = mapped f xs y a in (r.0, inr r.1, r.2)) m

pub image : {A B : Type 0} (f : A → B) (xs : List A) (x : A) → Among x xs → Among (f x) (map f xs)
image f [] x m = absurd m
image f (y ∷ ys) x m = ⊎_elim (λ e. inl (ap f e)) (λ a. inr (image f ys x a)) m

-- ---- what a test lets through

pub among-filter : {A : Type 0} (p : A → Bool) (xs : List A) (x : A) → Among x (filter p xs) → Among x xs × (p x ≡ true)
among-filter p [] x h = absurd h
among-filter p (y ∷ ys) x h =
    elim (p y) as (λ b. p y ≡ b → Among x (cond b (y ∷ filter p ys) (filter p ys)) → Among x (y ∷ ys) × (p x ≡ true)) [
      | true ↦ λ e h. ⊎_elim (λ s. (inl s, ap p (sym s) ∙ e)) (λ m. let r = among-filter p ys x m in (inr r.0, r.1)) h
      | false ↦ λ e h. let r = among-filter p ys x h in (inr r.0, r.1)
    ] refl h

pub among_passing : {A : Type 0} (p : A → Bool) (xs : List A) (x : A) → Among x xs → p x ≡ true → Among x (filter p xs)
among_passing p [] x h e = absurd h
among_passing p (y ∷ ys) x h e =
    elim (p y) as (λ b. p y ≡ b → Among x (cond b (y ∷ filter p ys) (filter p ys))) [
      | true ↦ λ _. ⊎_elim (λ s. inl s) (λ m. inr (among_passing p ys x m e)) h
      | false ↦ λ f. ⊎_elim (λ s. absurd (false≢true (sym f ∙ ap p s ∙ e))) (λ m. among_passing p ys x m e) h
    ] refl

-- ---- what a partial function makes

there : {B : Type 0} (u : Option B) (ys : List B) (y : B) → Among y (cons_option u ys) → (u ≡ Some y) ⊎ Among y ys
there None ys y h = inr h
there (Some z) ys y h = ⊎_elim (λ e. inl (ap Some e)) (λ m. inr m) h

pub among-filter_map : {A B : Type 0} (f : A → Option B) (xs : List A) (y : B) → Among y (filter_map f xs) → (x : A) × Among x xs × (f x ≡ Some y)
among-filter_map f [] y h = absurd h
among-filter_map f (x ∷ xs) y h =
    ⊎_elim (λ e. (x, inl refl, e)) (λ m. let r = among-filter_map f xs y m in (r.0, inr r.1, r.2)) (there (f x) (filter_map f xs) y h)

here : {B : Type 0} (u : Option B) (ys : List B) (y : B) → u ≡ Some y → Among y (cons_option u ys)
here None ys y e = cc
here (Some z) ys y e = let s : z ≡ y = cc in inl s

later : {B : Type 0} (u : Option B) (ys : List B) (y : B) → Among y ys → Among y (cons_option u ys)
later None ys y h = h
later (Some z) ys y h = inr h

pub among_made : {A B : Type 0} (f : A → Option B) (xs : List A) (x : A) (y : B) → Among x xs → f x ≡ Some y → Among y (filter_map f xs)
among_made f [] x y h e = absurd h
among_made f (z ∷ zs) x y h e =
    ⊎_elim (λ s. here (f z) (filter_map f zs) y (ap f s ∙ e)) (λ m. later (f z) (filter_map f zs) y (among_made f zs x y m e)) h

pub among_one : {A : Type 0} (u : Option A) (x : A) → Among x (option_to_list u) → u ≡ Some x
among_one None x h = absurd h
among_one (Some y) x h = ⊎_elim (λ e. ap Some e) (λ m. absurd m) h

pub one_among : {A : Type 0} (u : Option A) (x : A) → u ≡ Some x → Among x (option_to_list u)
one_among None x e = cc
one_among (Some y) x e = let s : y ≡ x = cc in inl s

-- ---- the first by an order

module _ {A : Type 0} {R : A → A → Ordering} (o : IsTotalOrder R) (exact : CmpEqualImpliesEq R) where
  first_of_both : (x : A) (xs : List A) (w : A) → IsFirst R xs (Some w) → IsFirst R (x ∷ xs) (Some (ord_min R x w))
  first_of_both x xs w h = (
    ⊎_elim (λ e. inl (sym e.0)) (λ e. inr (subst (λ z. Among z xs) (sym e.0) h.0)) (min_is o x w),
    λ y m. ⊎_elim
        (λ e. subst (λ z. is_gt (R (ord_min R x w) z) ≡ false) e (min_left o x w))
        (λ a. upto o (ord_min R x w) w y (min_right o x w) (h.1 y a)) m,
  )

  more : (x : A) (xs : List A) (u : Option A) → IsFirst R xs u → IsFirst R (x ∷ xs) (earlier R (Some x) u)
  more x xs None h = (inl refl, λ y m. ⊎_elim (λ e. subst (λ z. is_gt (R x z) ≡ false) e (le_self o x)) (λ a. absurd (subst (Among y) h a)) m)
  more x xs (Some w) h = first_of_both x xs w h

  pub first_is : (xs : List A) → IsFirst R xs (first_by R xs)
  first_is [] = refl
  first_is (x ∷ xs) = more x xs (first_by R xs) (first_is xs)

  only : (xs : List A) (x : A) (u : Option A) → IsFirst R xs u → IsFirst R xs (Some x) → u ≡ Some x
  only xs x None h k = absurd (subst (Among x) h k.0)
  only xs x (Some w) h k = ap Some (le_antisym o exact w x (h.1 x k.0) (k.1 w h.0))

  pub first_member : (xs : List A) (x : A) → first_by R xs ≡ Some x → IsFirst R xs (Some x)
  first_member xs x e = subst (IsFirst R xs) e (first_is xs)

  pub member_first : (xs : List A) (x : A) → IsFirst R xs (Some x) → first_by R xs ≡ Some x
  member_first xs x h = only xs x (first_by R xs) (first_is xs) h

  empty : (xs : List A) (u : Option A) → IsFirst R xs u → u ≡ None → xs ≡ []
  empty xs None h e = h
  empty xs (Some x) h e = cc

  pub first_none : (xs : List A) → first_by R xs ≡ None → xs ≡ []
  first_none xs e = empty xs (first_by R xs) (first_is xs) e

  pub none_first : (xs : List A) → ((x : A) → Among x xs → ⊥) → first_by R xs ≡ None
  none_first [] h = refl
  none_first (x ∷ xs) h = absurd (h x (inl refl))

-- ---- lists with the same members have one first

none_among : {A : Type 0} (ys : List A) → ((y : A) → Among y ys → ⊥) → ys ≡ []
none_among [] h = refl
none_among (y ∷ ys) h = absurd (h y (inl refl))

pub first_alike : {A : Type 0} (R : A → A → Ordering) (xs ys : List A) → ((x : A) → Among x xs ↔ Among x ys) → (u : Option A) → IsFirst R xs u → IsFirst R ys u
first_alike R xs ys h None f = none_among ys (λ y m. subst (Among y) f ((h y).1 m))
first_alike R xs ys h (Some x) f = ((h x).0 f.0, λ y m. f.1 y ((h y).1 m))
