-- A clone of an ordered map.
use Rattle.std.specs.Prelude.{List}
use Rattle.std.specs.List.{AllZip}

-- each key of n is a clone of m's by C, and each value by D
abbrev pub AreClones : {K X : Type 0} → (K → K → Type 0) → (X → X → Type 0)
    → List (K × X) → List (K × X) → Type 0
AreClones C D m n = AllZip (λ p q. C p.0 q.0 × D p.1 q.1) m n
