use Rattle.std.proofs.Common.{◌≡◌, ◌+◌, [], ◌∷◌, length, ap, sym, ◌∙◌, arith, length-append}
use Rattle.chat_change.specs.ChangeRef.{change_of}
use Rattle.shared_node.specs.Lists.{state_of}
use Rattle.shared_node.proofs.PrefixLemmas.{prefix_last}
use Rattle.shared_node.proofs.StateLemmas.{state_taken}
use Rattle.shared_node.proofs.version.StateVersionAbsorbOperation.absorb_first.Goals as goal

pub invariant_of-self : goal.invariant_of-self
invariant_of-self g c =
    let list = c.self.inside.list in
    let after = c.operation.inside.after in
    let entry = c.operation.inside.entry in
    let ends = c.operation.invariant in
    let more : length after ≡ length list + 1 = omega (arith, ap length ends.1, length-append ends.0 (entry ∷ []), c.len.ensures, c.len-2.ensures, c.if-len.false) in
    let longer = prefix_last list after entry c.if-not-follows.ensures ends more in
    state_taken list after entry c.self.inside.state c.absorb_copy.new.self (change_of c.of.result) longer c.self.invariant c.of.ensures c.in-Ok.ensures.held ∙ ap state_of (sym c.again.ensures)
