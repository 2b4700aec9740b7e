-- Who asks, and how much is answered at most.
use Rattle.std.specs.Prelude.{ℕ, List}

pub record Scope : Type 0 where
  pub account : List ℕ
  pub network : List ℕ
  pub maximum : ℕ
