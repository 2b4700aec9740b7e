-- `earlier` of a total order in which only equal values tie is commutative, associative and idempotent, and `first_by` of a list is the `earlier` of all.
use Rattle.std.proofs.Common.{◌≡◌, Bool, true, false, cond, Option, Some, None, List, [], ◌∷◌, ◌++◌, refl, sym, ◌∙◌, ap, ⊎_elim, inl, inr, ◌⊎◌}
use Rattle.std.proofs.lemmas.Bool.{false≢true}
use Rattle.std.specs.declared.cmp.Ordering.{Ordering}
use Rattle.std.specs.declared.cmp.Ordering.TheVariants.{Less, Equal, Greater}
use Rattle.std.specs.Ordering.{ord_min, is_lt, is_gt, ordering_reverse}
use Rattle.std.specs.Cmp.{IsTotalOrder}
use Rattle.std.proofs.lemmas.Cmp.{upto, tied_itself}
use Rattle.std.proofs.lemmas.Map.Lookups.{CmpEqualImpliesEq}
use Rattle.std.specs.List.{filter}
use Rattle.chat_history.specs.Choice.{earlier, first_by}
pub use Rattle.chat_history.specs.Choice.{keep}

gt_turned : (r : Ordering) → is_gt (ordering_reverse r) ≡ is_lt r
gt_turned Less = refl
gt_turned Equal = refl
gt_turned Greater = refl

pub gt_of_lt : (r : Ordering) → is_lt r ≡ true → is_gt r ≡ false
gt_of_lt Less e = refl
gt_of_lt Equal e = refl
gt_of_lt Greater e = cc

level : (r : Ordering) → is_gt r ≡ false → is_lt r ≡ false → r ≡ Equal
level Less g l = cc
level Equal g l = refl
level Greater g l = cc

-- whatever goes before a value that passes, or ties with it, passes too
abbrev pub Closed : {A : Type 0} → (A → A → Ordering) → (A → Bool) → Type 0
Closed {A} R p = (x y : A) → is_gt (R x y) ≡ false → p y ≡ true → p x ≡ true

module _ {A : Type 0} {R : A → A → Ordering} (o : IsTotalOrder R) where
  pub le_self : (x : A) → is_gt (R x x) ≡ false
  le_self x = ap is_gt (tied_itself o x)

  -- one of the two, and not after the other
  pub min_is : (x y : A) → ((ord_min R x y ≡ x) × (is_gt (R x y) ≡ false)) ⊎ ((ord_min R x y ≡ y) × (is_gt (R y x) ≡ false))
  min_is x y =
      elim (is_lt (R y x)) as (λ b. is_lt (R y x) ≡ b → ((cond b y x ≡ x) × (is_gt (R x y) ≡ false)) ⊎ ((cond b y x ≡ y) × (is_gt (R y x) ≡ false))) [
        | true ↦ λ e. inr (refl, gt_of_lt (R y x) e)
        | false ↦ λ e. inl (refl, ap is_gt (o.antisymm x y) ∙ gt_turned (R y x) ∙ e)
      ] refl

  pub min_left : (x y : A) → is_gt (R (ord_min R x y) x) ≡ false
  min_left x y = ⊎_elim (λ h. ap (λ z. is_gt (R z x)) h.0 ∙ le_self x) (λ h. ap (λ z. is_gt (R z x)) h.0 ∙ h.1) (min_is x y)

  pub min_right : (x y : A) → is_gt (R (ord_min R x y) y) ≡ false
  min_right x y = ⊎_elim (λ h. ap (λ z. is_gt (R z y)) h.0 ∙ h.1) (λ h. ap (λ z. is_gt (R z y)) h.0 ∙ le_self y) (min_is x y)

  pub min_greatest : (z x y : A) → is_gt (R z x) ≡ false → is_gt (R z y) ≡ false → is_gt (R z (ord_min R x y)) ≡ false
  min_greatest z x y h k = ⊎_elim (λ e. ap (λ w. is_gt (R z w)) e.0 ∙ h) (λ e. ap (λ w. is_gt (R z w)) e.0 ∙ k) (min_is x y)

  module _ (exact : CmpEqualImpliesEq R) where
    pub le_antisym : (x y : A) → is_gt (R x y) ≡ false → is_gt (R y x) ≡ false → x ≡ y
    le_antisym x y h k = exact x y (level (R x y) h (sym (gt_turned (R x y)) ∙ ap is_gt (sym (o.antisymm y x)) ∙ k))

    pub min_comm : (x y : A) → ord_min R x y ≡ ord_min R y x
    min_comm x y = le_antisym _ _ (min_greatest _ y x (min_right x y) (min_left x y)) (min_greatest _ x y (min_right y x) (min_left y x))

    pub min_idem : (x : A) → ord_min R x x ≡ x
    min_idem x = ⊎_elim (λ h. h.0) (λ h. h.0) (min_is x x)

    pub min_assoc : (x y z : A) → ord_min R (ord_min R x y) z ≡ ord_min R x (ord_min R y z)
    min_assoc x y z =
        let l = ord_min R (ord_min R x y) z in
        let r = ord_min R x (ord_min R y z) in
        let lx = upto o l (ord_min R x y) x (min_left (ord_min R x y) z) (min_left x y) in
        let ly = upto o l (ord_min R x y) y (min_left (ord_min R x y) z) (min_right x y) in
        let ry = upto o r (ord_min R y z) y (min_right x (ord_min R y z)) (min_left y z) in
        let rz = upto o r (ord_min R y z) z (min_right x (ord_min R y z)) (min_right y z) in
        le_antisym l r
        (min_greatest l x (ord_min R y z) lx (min_greatest l y z ly (min_right (ord_min R x y) z)))
        (min_greatest r (ord_min R x y) z (min_greatest r x y (min_left x (ord_min R y z)) ry) rz)

    pub earlier_comm : (u v : Option A) → earlier R u v ≡ earlier R v u
    earlier_comm None None = refl
    earlier_comm None (Some y) = refl
    earlier_comm (Some x) None = refl
    earlier_comm (Some x) (Some y) = ap Some (min_comm x y)

    pub earlier_idem : (u : Option A) → earlier R u u ≡ u
    earlier_idem None = refl
    earlier_idem (Some x) = ap Some (min_idem x)

    pub earlier_none : (u : Option A) → earlier R u None ≡ u
    earlier_none None = refl
    earlier_none (Some x) = refl

    pub earlier_assoc : (u v w : Option A) → earlier R (earlier R u v) w ≡ earlier R u (earlier R v w)
    earlier_assoc None v w = refl
    earlier_assoc (Some x) None w = refl
    earlier_assoc (Some x) (Some y) None = refl
    earlier_assoc (Some x) (Some y) (Some z) = ap Some (min_assoc x y z)

    pub first_by-append : (xs ys : List A) → first_by R (xs ++ ys) ≡ earlier R (first_by R xs) (first_by R ys)
    first_by-append [] ys = refl
    first_by-append (x ∷ xs) ys = ap (earlier R (Some x)) (first_by-append xs ys) ∙ sym (earlier_assoc (Some x) (first_by R xs) (first_by R ys))

    module _ (p : A → Bool) (closed : Closed R p) where
      at_first : (x y : A) (a b : Bool) → p x ≡ a → p y ≡ b → ord_min R x y ≡ x → is_gt (R x y) ≡ false → cond a (Some x) None ≡ earlier R (cond a (Some x) None) (cond b (Some y) None)
      at_first x y true true px py e l = ap Some (sym e)
      at_first x y true false px py e l = refl
      at_first x y false true px py e l = absurd (false≢true (sym px ∙ closed x y l py))
      at_first x y false false px py e l = refl

      at_second : (x y : A) (a b : Bool) → p x ≡ a → p y ≡ b → ord_min R x y ≡ y → is_gt (R y x) ≡ false → cond b (Some y) None ≡ earlier R (cond a (Some x) None) (cond b (Some y) None)
      at_second x y true true px py e l = ap Some (sym e)
      at_second x y true false px py e l = absurd (false≢true (sym py ∙ closed y x l px))
      at_second x y false true px py e l = refl
      at_second x y false false px py e l = refl

      keep-min : (x y : A) → keep p (Some (ord_min R x y)) ≡ earlier R (keep p (Some x)) (keep p (Some y))
      keep-min x y = ⊎_elim
          (λ h. ap (λ z. keep p (Some z)) h.0 ∙ at_first x y (p x) (p y) refl refl h.0 h.1)
          (λ h. ap (λ z. keep p (Some z)) h.0 ∙ at_second x y (p x) (p y) refl refl h.0 h.1)
          (min_is x y)

      pub keep-earlier : (u v : Option A) → keep p (earlier R u v) ≡ earlier R (keep p u) (keep p v)
      keep-earlier None v = refl
      keep-earlier (Some x) None = sym (earlier_none (keep p (Some x)))
      keep-earlier (Some x) (Some y) = keep-min x y

      filter_one : (x : A) (xs : List A) → first_by R (filter p (x ∷ xs)) ≡ earlier R (keep p (Some x)) (first_by R (filter p xs))
      filter_one x xs = elim (p x) as (λ b. first_by R (cond b (x ∷ filter p xs) (filter p xs)) ≡ earlier R (cond b (Some x) None) (first_by R (filter p xs))) [ true ↦ refl | false ↦ refl ]

      -- the first of those that pass is the first of all, where that passes
      pub first_by-filter : (xs : List A) → first_by R (filter p xs) ≡ keep p (first_by R xs)
      first_by-filter [] = refl
      first_by-filter (x ∷ xs) = filter_one x xs ∙ ap (earlier R (keep p (Some x))) (first_by-filter xs) ∙ sym (keep-earlier (Some x) (first_by R xs))

      keep_keep : (q : A → Bool) → ((x : A) → p x ≡ true → q x ≡ true) → (u : Option A) → keep p (keep q u) ≡ keep p u
      keep_keep q weaker None = refl
      keep_keep q weaker (Some x) =
          elim (q x) as (λ b. q x ≡ b → keep p (cond b (Some x) None) ≡ keep p (Some x)) [
            | true ↦ λ _. refl
            | false ↦ λ e. elim (p x) as (λ b. p x ≡ b → None ≡ cond b (Some x) None) [
              | true ↦ λ px. absurd (false≢true (sym e ∙ weaker x px))
              | false ↦ λ _. refl
            ] refl
          ] refl

      -- what two weaker tests kept of each part decides what this one keeps of both
      pub keep_parts : (q r : A → Bool) → ((x : A) → p x ≡ true → q x ≡ true) → ((x : A) → p x ≡ true → r x ≡ true) → (u v : Option A) → keep p (earlier R (keep q u) (keep r v)) ≡ keep p (earlier R u v)
      keep_parts q r hq hr u v =
          keep-earlier (keep q u) (keep r v) ∙ (λ i. earlier R (keep_keep q hq u i) (keep_keep r hr v i)) ∙ sym (keep-earlier u v)
