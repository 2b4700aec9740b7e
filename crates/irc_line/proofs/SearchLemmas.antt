-- The first LF of a part whose head was searched before.
use Rattle.std.proofs.Common.{◌≡◌, ℕ, ◌+◌, ◌-◌, ◌≤◌, List, ◌++◌, length, take, drop, None, Some, position, sym, ap, ◌∙◌, arith, take-append-drop}
use Rattle.std.proofs.lemmas.List.{drop-drop, length-drop, length-take-le, take_all}
use Rattle.irc_line.specs.Stream.{is_lf}
use Rattle.irc_line.proofs.StreamLemmas.{position-append_some, position-append_none}

module _ (bytes : List ℕ) (start searched : ℕ) (in_order : start ≤ searched) (within : searched ≤ length bytes) (none : position is_lf (take (searched - start) (drop start bytes)) ≡ None) where
  parts : take (searched - start) (drop start bytes) ++ drop searched bytes ≡ drop start bytes
  parts =
      let rest : drop (searched - start) (drop start bytes) ≡ drop searched bytes = drop-drop (searched - start) start bytes ∙ ap (λ n. drop n bytes) (omega arith) in
      ap (λ l. take (searched - start) (drop start bytes) ++ l) (sym rest) ∙ take-append-drop (searched - start) (drop start bytes)

  pub lf_behind : (at : ℕ) → position is_lf (drop searched bytes) ≡ Some at → position is_lf (drop start bytes) ≡ Some (searched - start + at)
  lf_behind at some =
      let left = length-drop start bytes in
      let size : length (take (searched - start) (drop start bytes)) ≡ searched - start = length-take-le (searched - start) (drop start bytes) (omega arith) in
      ap (position is_lf) (sym parts) ∙ position-append_some (take (searched - start) (drop start bytes)) (drop searched bytes) at none some ∙ ap (λ n. Some (n + at)) size

  pub none_behind : position is_lf (drop searched bytes) ≡ None → position is_lf (drop start bytes) ≡ None
  none_behind rest = ap (position is_lf) (sym parts) ∙ position-append_none (take (searched - start) (drop start bytes)) (drop searched bytes) none rest

-- once all is searched
pub all_searched : (bytes : List ℕ) (start size : ℕ) → size ≡ length bytes → position is_lf (drop start bytes) ≡ None → position is_lf (take (size - start) (drop start bytes)) ≡ None
all_searched bytes start size e none =
    let left = length-drop start bytes in
    ap (position is_lf) (take_all (size - start) (drop start bytes) (omega arith)) ∙ none
