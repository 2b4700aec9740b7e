-- Versions of the lines between nodes.
use Rattle.std.specs.Prelude.{ℕ, Bool, ◌==◌, Option, Some, None, nat_lt, if◌then◌else◌}
use Rattle.cluster_directory.specs.declared.version.Version.{Version}
use Rattle.cluster_directory.specs.declared.version.Version.TheVariants.{One, Two, Three}

abbrev pub number : Version → ℕ
number One = 1
number Two = 2
number Three = 3

abbrev pub of_number : ℕ → Option Version
of_number n =
    if n == 1 then Some One else if n == 2 then Some Two else if n == 3 then Some Three else None

abbrev pub is_lower : Version → Version → Bool
is_lower a b = nat_lt (number a) (number b)
