-- What the end of a growing list owns, and what a prefix of it owns. The list is kept as its ghost values, in an algebra that
-- names no type parameter.
use Rattle.std.specs.Prelude.{ℕ, List, map}
use base.Fraction.{full_share}
use base.Stored.{Gv, Coded}
use base.Growing.{Order, prefixes, latest, at_least}
use base.Fml.{Fml}

abbrev pub itself : Coded Gv
itself = record { code = λ g. g; inj = λ x y p. p }

abbrev pub lists : Order (List Gv)
lists = prefixes itself

module _ {E : Type 0} (code : E → Gv) where
  -- the list is this one, and nobody else can make it longer
  abbrev pub whole_owns : ℕ → List E → Fml
  whole_owns name list = latest lists full_share name (map code list)

  -- the list begins with this one
  abbrev pub prefix_owns : ℕ → List E → Fml
  prefix_owns name list = at_least lists name (map code list)
