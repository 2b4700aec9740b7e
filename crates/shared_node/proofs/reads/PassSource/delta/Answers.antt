use Rattle.shared_node.proofs.ReadLemmas.{delta_given, delta_kept}
use Rattle.shared_node.proofs.reads.PassSource.delta.Goals as goal

pub returns-clause-given : goal.returns-clause-given
returns-clause-given g c = delta_given c.args.self.now c.delta.new.self c.args.from c.delta.result c.delta.ensures.delta c.delta.ensures.seen

pub returns-clause-kept : goal.returns-clause-kept
returns-clause-kept g c = delta_kept c.args.self.now c.delta.new.self c.delta.result c.delta.ensures.seen c.delta.ensures.no_entry
