-- The entries of an ordered map, seen as a finite map, and after a change at one key.
use Rattle.std.specs.Prelude.{◌≡◌, Bool, Option, Some, None, List, if◌then◌else◌}
use Rattle.std.specs.declared.cmp.Ordering.{Ordering}
use Rattle.std.specs.Ordering.{eq_by_cmp}
use Rattle.std.specs.FinMap.{FinMap, from_entries}
use Rattle.std.specs.Map.{keys_of, lookup}
use Rattle.std.specs.List.Sorted.{IsStrictlySortedBy}
use Rattle.std.specs.BTreeMap.{is_at}

-- the finite map that some entries give
abbrev pub held_by : {K X : Type 0} {R : K → K → Ordering} → List (K × X) → FinMap R X
held_by es = from_entries es

module _ {K X : Type 0} (R : K → K → Ordering) where
  -- the value at a key
  abbrev pub get : List (K × X) → K → Option X
  get es k = lookup (is_at (R k)) es

  -- the keys ascend
  abbrev pub AreOrdered : List (K × X) → Type 0
  AreOrdered es = IsStrictlySortedBy R (keys_of es)

-- a value, where it passes a test
abbrev pub passing : {X : Type 0} → (X → Bool) → Option X → Option X
passing keeps None = None
passing keeps (Some x) = if keeps x then Some x else None

module _ {K X : Type 0} (R : K → K → Ordering) where
  -- at a key, and at each equal one, there is what is given, and elsewhere what there was
  abbrev pub IsSetTo : List (K × X) → K → Option X → List (K × X) → Type 0
  IsSetTo old k v new = (q : K) → get R new q ≡ (if eq_by_cmp R k q then v else get R old q)

  -- a value was put at a key
  abbrev pub IsWith : List (K × X) → K → X → List (K × X) → Type 0
  IsWith old k v new = IsSetTo old k (Some v) new

  -- at each key there is what there was, where it passes a test
  abbrev pub IsRetained : (X → Bool) → List (K × X) → List (K × X) → Type 0
  IsRetained keeps old new = (q : K) → get R new q ≡ passing keeps (get R old q)

  -- the value at a key was taken out
  abbrev pub IsWithout : List (K × X) → K → List (K × X) → Type 0
  IsWithout old k new = IsSetTo old k None new
