-- The list that waiting operations take a version to.
use Rattle.std.proofs.Common.{◌≡◌, Option, None, List, [], ◌∷◌, ◌++◌, ap, sym, ◌∙◌}
use Rattle.std.proofs.lemmas.List.{append-nil}
use Rattle.std.proofs.lemmas.List.Sums.{fold-append}
use Rattle.shared_node.specs.declared.entry.LogEntry.{LogEntry}
use Rattle.shared_node.specs.Versions.{held, latest, stepped}

pub latest-one : (list : List LogEntry) (operations : List (List LogEntry)) (operation : List LogEntry) → latest list (operations ++ operation ∷ []) ≡ operation
latest-one list operations operation = fold-append stepped list operations (operation ∷ [])

-- where nothing is stuck, all that waits is pending
pub all_pending : (pending waits : List (List LogEntry)) (stuck : Option (List LogEntry)) → stuck ≡ None → pending ++ held stuck ≡ waits → pending ≡ waits
all_pending pending waits stuck none was = sym (append-nil pending) ∙ ap (λ s. pending ++ held s) (sym none) ∙ was
