use Rattle.std.proofs.Common.{refl, ap}
use Rattle.chat_query.specs.Answers.{answer_of}
use Rattle.shared_node.specs.Lists.{changes_in}
use Rattle.worker_pass.proofs.PassLemmas.{nothing_written, prefix_trans}
use Rattle.worker_pass.proofs.pass.WorkerPassNodePass.ask.Goals as goal

pub returns-then-not-before_answer-clause-text : goal.returns-then-not-before_answer-clause-text
returns-then-not-before_answer-clause-text g c =
    let bytes = g.X.Write.contents c.args.writer.now in
    nothing_written bytes bytes (answer_of (changes_in c.args.view.now.seen) c.args.facts.now c.args.line.now).text refl

pub catch_up-requires : goal.catch_up-requires
catch_up-requires g c =
    let seen = c.args.view.now.seen in
    prefix_trans seen c.learn.new.self.told c.ask-answered.new.self.list c.learn.ensures.told.0 (c.ask-answered.ensures.seen c.if-has_no_entry.ensures).0.1

pub returns-then-has_no_entry-clause-text : goal.returns-then-has_no_entry-clause-text
returns-then-has_no_entry-clause-text g c =
    nothing_written (g.X.Write.contents c.args.writer.now) (g.X.Write.contents c.ask-answered.new.writer)
    (answer_of (changes_in c.args.view.now.seen) c.args.facts.now c.args.line.now).text
    (ap (λ w. g.X.Write.contents w) (c.ask-answered.ensures.no_entry c.if-has_no_entry.ensures).1)
