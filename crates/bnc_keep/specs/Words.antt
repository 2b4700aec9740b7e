-- What the words behind the program's name ask for: the path of a configuration.
use Rattle.std.specs.Prelude.{ℕ, Bool, nat_eq, List, [], ◌∷◌, codes, Option, None, Some, if◌then◌else◌}
use Rattle.std.specs.List.{starts_with}

-- the word of an option, of which there is none
abbrev pub is_option : List ℕ → Bool
is_option word = starts_with nat_eq word (codes "-")

abbrev pub spelled_path : List (List ℕ) → Option (List ℕ)
spelled_path (word ∷ []) = if is_option word then None else Some word
spelled_path _ = None
