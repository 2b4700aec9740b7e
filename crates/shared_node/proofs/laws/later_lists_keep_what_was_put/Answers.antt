use Rattle.std.proofs.Common.{List, sym, ◌∙◌, ap, subst, arith, length-append}
use Rattle.std.specs.Prelude.{Contains}
use Rattle.std.proofs.Math.ListN.{get_or-append}
use Rattle.chat_history.specs.History.{mark, IsAtMost}
use Rattle.shared_node.specs.declared.entry.LogEntry.{LogEntry}
use Rattle.shared_node.specs.Lists.{changes_in}
use Rattle.shared_node.proofs.CallerLemmas.{changes_in-append}
use Rattle.shared_node.proofs.laws.later_lists_keep_what_was_put.Goals as goal

pub returns-clause-entries : goal.returns-clause-entries
returns-clause-entries c old new e later held =
    subst (λ (l : List LogEntry). Contains l e) later.1 (held.0, omega (arith, held.1, length-append old later.0), get_or-append old later.0 e held.0 held.1 ∙ held.2)

pub returns-clause-markers : goal.returns-clause-markers
returns-clause-markers c old new b later =
    subst (λ cs. IsAtMost (mark (changes_in old) b) (mark cs b)) (sym (changes_in-append old later.0) ∙ ap changes_in later.1) (c.markers_never_fall.ensures (changes_in old) (changes_in later.0) b)
