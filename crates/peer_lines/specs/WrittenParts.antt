-- The parts that lines are written of, one after another.
use Rattle.std.specs.Prelude.{ℕ, List, ◌++◌, codes}
use Rattle.std.specs.Fmt.{decimal}
use Rattle.byte_text.specs.Bytes.{line_ending}
use Rattle.cluster_directory.specs.Life.{Life}

abbrev pub number_text : ℕ → List ℕ
number_text n = codes " " ++ decimal n

abbrev pub life_text : Life → List ℕ
life_text l = codes " " ++ (l.node ++ number_text l.incarnation)

abbrev pub lives_text : List ℕ → Life → Life → List ℕ
lives_text kind sender receiver = kind ++ (life_text sender ++ life_text receiver)

abbrev pub numbers_text : ℕ → ℕ → ℕ → List ℕ
numbers_text from to count = number_text from ++ (number_text to ++ (number_text count ++ line_ending))
