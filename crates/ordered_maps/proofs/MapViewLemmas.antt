-- An ordered map seen as a finite map.
use Rattle.std.proofs.Common.{◌≡◌, ◌∷◌, [], List, true, false, cond, refl, sym, ◌∙◌, ap, subst, Option, Some, None, length, arith}
use Rattle.std.specs.declared.cmp.Ordering.{Ordering}
use Rattle.std.specs.declared.cmp.Ordering.TheVariants.{Less, Equal}
use Rattle.std.specs.Ordering.{eq_by_cmp, is_eq}
use Rattle.std.specs.Cmp.{IsTotalOrder, Equal-is, eq_by_cmp_equiv}
use Rattle.std.specs.Option.{IfSome}
use Rattle.std.proofs.lemmas.Cmp.{tied_itself}
use Rattle.std.proofs.lemmas.Map.{NonePasses, lookup-none}
use Rattle.std.specs.List.{AllByRecursion}
use Rattle.std.specs.List.Sorted.{IsStrictlySortedBy}
use Rattle.std.specs.Map.{keys_of, lookup}
use Rattle.std.specs.BTreeMap.{is_at}
use Rattle.std.specs.FinMap.{from_entries, entries, get, get-from_entries, entries-insert, len-entries, len-empty, insert, remove, get-insert, get-remove, same_map, IsAntisymmetric}
use Rattle.std.specs.FinMap.Entries.{find, put, by_order}
use Rattle.std.proofs.lemmas.Map.Keys.{sorted_head, sorted_tail}
use Rattle.ordered_maps.specs.MapView as view
use Rattle.ordered_maps.specs.MapView.{held_by, IsSetTo, IsWith, IsWithout}

no_length : {A : Type 0} (es : List A) → length es ≡ 0 → es ≡ []
no_length [] e = refl
no_length (x ∷ es) e = absurd (omega (arith, e))

module _ {K X : Type 0} where
  find_is_lookup : (R : K → K → Ordering) (q : K) (es : List (K × X)) → find R q es ≡ lookup (is_at (R q)) es
  find_is_lookup R q [] = refl
  find_is_lookup R q (e ∷ es) = ap (cond (eq_by_cmp R q e.0) (Some e.1)) (find_is_lookup R q es)

module _ {K X : Type 0} {R : K → K → Ordering} (o : IsTotalOrder R) where
  pub get-held_by : (es : List (K × X)) (q : K) → get (held_by {R = R} es) q ≡ view.get R es q
  get-held_by es q = get-from_entries o es q ∙ find_is_lookup R q es

  put_first : (k : K) (v : X) (es : List (K × X)) → AllByRecursion (λ y. R k y ≡ Less) (keys_of es) → put R k v es ≡ (k, v) ∷ es
  put_first k v [] h = refl
  put_first k v (e ∷ es) h = ap (λ r. by_order r ((k, v) ∷ e ∷ es) ((e.0, v) ∷ es) (e ∷ put R k v es)) h.0

  -- a tree's entries are those of the map that it holds
  pub entries-from_ordered : (es : List (K × X)) → IsStrictlySortedBy R (keys_of es) → entries (from_entries {R = R} es) ≡ es
  entries-from_ordered [] h = no_length (entries (from_entries {X = X} {R = R} [])) (sym (len-entries (from_entries {X = X} {R = R} [])) ∙ len-empty R X)
  entries-from_ordered (e ∷ es) h =
      entries-insert o (from_entries es) e.0 e.1
      ∙ ap (put R e.0 e.1) (entries-from_ordered es (sorted_tail R e.0 (keys_of es) h))
      ∙ put_first e.0 e.1 es (sorted_head R e.0 (keys_of es) h)

-- what a tree has at each key after a change at a key, said of an equal key
pub changed_at : {K X : Type 0} (R : K → K → Ordering) (m n : List (K × X)) (v : Option X) (k j : K) → k ≡ j → IsSetTo R m k v n → IsSetTo R m j v n
changed_at R m n v k j is up = subst (λ s. IsSetTo R m s v n) is up

pub unchanged : {K X : Type 0} (R : K → K → Ordering) (m n : List (K × X)) → n ≡ m → (q : K) → view.get R n q ≡ view.get R m q
unchanged R m n e q = ap (λ es. lookup (is_at (R q)) es) e

module _ {K X : Type 0} {R : K → K → Ordering} (o : IsTotalOrder R) where
  no_later : (q k : K) (fs : List (K × X)) → R q k ≡ Equal → AllByRecursion (λ y. R k y ≡ Less) (keys_of fs) → NonePasses (is_at (R q)) fs
  no_later q k [] t l = tt
  no_later q k (f ∷ fs) t l = (ap is_eq (o.congr q k f.0 t ∙ l.0), no_later q k fs t l.1)

  later : (P : K → X → Type 0) (e : K × X) (es : List (K × X)) (q : K) → AllByRecursion (λ y. R e.0 y ≡ Less) (keys_of es) → IfSome (lookup (is_at (R q)) (e ∷ es)) (P q) → IfSome (lookup (is_at (R q)) es) (P q)
  later P e es q head =
      elim (eq_by_cmp R q e.0) as (λ b. eq_by_cmp R q e.0 ≡ b → IfSome (cond b (Some e.1) (lookup (is_at (R q)) es)) (P q) → IfSome (lookup (is_at (R q)) es) (P q)) [
        | true ↦ λ t _. subst (λ (x : Option X). IfSome x (P q)) (sym (lookup-none (is_at (R q)) es (no_later q e.0 es ((Equal-is (R q e.0)).0 t) head))) tt
        | false ↦ λ _ x. x
      ] refl

  -- what a look-up by each key finds, of each entry
  pub All-from_lookup : (P : K → X → Type 0) (es : List (K × X)) → IsStrictlySortedBy R (keys_of es) → ((q : K) → IfSome (lookup (is_at (R q)) es) (P q)) → AllByRecursion (λ e. P e.0 e.1) es
  All-from_lookup P [] s h = tt
  All-from_lookup P (e ∷ es) s h = (
    subst (λ r. IfSome (cond (is_eq r) (Some e.1) (lookup (is_at (R e.0)) es)) (P e.0)) (tied_itself o e.0) (h e.0),
    All-from_lookup P es (sorted_tail R e.0 (keys_of es) s) (λ q. later P e es q (sorted_head R e.0 (keys_of es) s) (h q)),
  )

-- the finite map of a tree after a change at one key
module _ {K X : Type 0} {R : K → K → Ordering} (o : IsTotalOrder R) (exact : IsAntisymmetric R) (m n : List (K × X)) where
  pub held_alike : ((q : K) → view.get R n q ≡ view.get R m q) → held_by {R = R} n ≡ held_by m
  held_alike up = same_map o exact (held_by n) (held_by m) (λ q. get-held_by o n q ∙ up q ∙ sym (get-held_by o m q))

  pub inserted : (k : K) (v : X) → IsWith R m k v n → held_by {R = R} n ≡ insert (held_by m) k v
  inserted k v up = same_map o exact (held_by n) (insert (held_by m) k v) (λ q.
      get-held_by o n q ∙ up q
      ∙ (λ i. cond ((eq_by_cmp_equiv o).symm k q i) (Some v) (sym (get-held_by o m q) i))
      ∙ sym (get-insert o (held_by m) k v q))

  pub removed : (k : K) → IsWithout R m k n → held_by {R = R} n ≡ remove (held_by m) k
  removed k out = same_map o exact (held_by n) (remove (held_by m) k) (λ q.
      get-held_by o n q ∙ out q
      ∙ (λ i. cond ((eq_by_cmp_equiv o).symm k q i) None (sym (get-held_by o m q) i))
      ∙ sym (get-remove o (held_by m) k q))

-- what is found where a value was put
pub written : {K X : Type 0} {R : K → K → Ordering} → IsTotalOrder R → (m n : List (K × X)) (k : K) (v : X) → IsWith R m k v n → view.get R n k ≡ Some v
written {R} o m n k v up = up k ∙ ap (λ r. cond (is_eq r) (Some v) (view.get R m k)) (tied_itself o k)
