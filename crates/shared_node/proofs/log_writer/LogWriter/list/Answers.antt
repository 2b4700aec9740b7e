use Rattle.std.proofs.Common.{ap, sym, ◌∙◌}
use Rattle.shared_node.specs.Log.{all_put}
use Rattle.shared_node.proofs.PrefixLemmas.{prefix_rest}
use Rattle.shared_node.proofs.log_writer.LogWriter.list.Goals as goal

pub returns : goal.returns
returns g c =
    c.list.ensures ∙ sym (prefix_rest c.self.inside.writer.desk.shown.value c.self.inside.history c.self.invariant.0) ∙ ap all_put c.self.view_is
