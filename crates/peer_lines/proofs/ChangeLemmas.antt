-- Want of memory is no fault of a line of a change: where it is answered, the line spells one.
use Rattle.std.proofs.Common.{◌≡◌, ℕ, Bool, true, false, cond, Option, Some, None, List, codes, refl, sym, ap, ◌∙◌}
use Rattle.std.specs.Prelude.{IsTrue, is_some, Result, Ok, Err}
use Rattle.chat_change.specs.declared.change.Change.{Change}
use Rattle.change_lines.specs.ChangeLine.{read_change, or_bad_field, kind_change, change_kind, account_floor_change, words_change, fault_or_no_memory}
use Rattle.change_lines.specs.Words.{is_text, word, behind}
use Rattle.change_lines.specs.declared.fault.ChangeLineFault.{ChangeLineFault}
use Rattle.change_lines.specs.declared.fault.ChangeLineFault.TheVariants.{BadForm, NoMemory}
use Rattle.peer_lines.specs.LineReading.{change_at, change_or_none}

values_differ : (o : Option Change) → or_bad_field o ≡ Err NoMemory → ⊥
values_differ None e = (cc)
values_differ (Some c) e = (cc)

form_differs : (b : Bool) (o : Option Change) → cond b (or_bad_field o) (Err BadForm) ≡ Err NoMemory → ⊥
form_differs true o e = values_differ o e
form_differs false o e = (cc)

kind_differs : (kind rest : List ℕ) → kind_change (change_kind kind) rest ≡ Err NoMemory → ⊥
kind_differs kind rest =
    elim (change_kind kind) as (λ k. kind_change k rest ≡ Err NoMemory → ⊥) [ None ↦ λ e. (cc) | Some k ↦ λ e. form_differs _ _ e ]

words_differ : (second rest : List ℕ) → words_change second rest ≡ Err NoMemory → ⊥
words_differ second rest =
    elim (is_text second (codes "AFLOOR")) as (λ b. cond b (account_floor_change rest) (kind_change (change_kind second) rest) ≡ Err NoMemory → ⊥) [
      | true ↦ λ e. form_differs _ _ e
      | false ↦ λ e. kind_differs second rest e
    ]

no_want_of_memory : (line : List ℕ) → read_change line ≡ Err NoMemory → ⊥
unfolding read_change
no_want_of_memory line =
    elim (is_text (word line) (codes "C")) as (λ b. cond b (words_change (word (behind line)) (behind (behind line))) (Err BadForm) ≡ Err NoMemory → ⊥) [
      | true ↦ λ e. words_differ (word (behind line)) (behind (behind line)) e
      | false ↦ λ e. (cc)
    ]

reading_some : (line : List ℕ) (r : Result Change ChangeLineFault) → read_change line ≡ r → NoMemory ≡ fault_or_no_memory r → IsTrue (is_some (change_or_none r))
reading_some line (Ok c) e f = refl
reading_some line (Err fault) e f = absurd (no_want_of_memory line (e ∙ ap (λ x. Err x) (sym f)))

pub spells_change : (line : List ℕ) → NoMemory ≡ fault_or_no_memory (read_change line) → IsTrue (is_some (change_at line))
spells_change line f = reading_some line (read_change line) refl f
