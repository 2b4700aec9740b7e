-- Tests that tell changes and histories apart.
use Rattle.std.specs.Prelude.{ℕ, Bool, ◌&&◌, Option, Some, None, List, [], ◌∷◌}
use Rattle.std.specs.Ordering.{on, eq_by_cmp}
use Rattle.std.specs.Cmp.Lexicographic.{pointwise}
use Rattle.std.specs.FinMap.{entries}
use Rattle.chat_change.specs.Buffer.{buffer_texts}
use Rattle.chat_change.specs.Order.{texts_cmp, record_texts}
use Rattle.chat_change.specs.declared.change.Change.{Change}
use Rattle.chat_change.specs.declared.change.Change.TheVariants.{Post, Redact, Mark, Floor, AccountFloor}
use Rattle.chat_change.specs.Key.{Key, same_key}
use Rattle.chat_history.specs.History.{History}

abbrev pub moment_text : Option ℕ → List ℕ
moment_text None = []
moment_text (Some t) = t ∷ []

-- the numbers and texts of a change
abbrev pub change_texts : Change → List (List ℕ)
change_texts (Post r) = (0 ∷ []) ∷ (r.at ∷ []) ∷ r.tags ∷ record_texts r
change_texts (Redact b m t) = (1 ∷ []) ∷ moment_text t ∷ m ∷ buffer_texts b
change_texts (Mark b t) = (2 ∷ []) ∷ (t ∷ []) ∷ buffer_texts b
change_texts (Floor b t) = (3 ∷ []) ∷ (t ∷ []) ∷ buffer_texts b
change_texts (AccountFloor a t) = (4 ∷ []) ∷ (t ∷ []) ∷ a ∷ []

abbrev pub same_change : Change → Change → Bool
same_change = eq_by_cmp (on change_texts texts_cmp)

abbrev pub same_entry : Key × Change → Key × Change → Bool
same_entry e f = same_key e.0 f.0 && same_change e.1 f.1

-- whether two histories are one
abbrev pub same_history : History → History → Bool
same_history g h = pointwise same_entry (entries g) (entries h)
