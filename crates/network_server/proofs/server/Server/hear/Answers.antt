use Rattle.std.proofs.Common.{◌++◌, Err, refl, sym, ap, ◌∙◌, subst, inr}
use Rattle.irc_line.specs.Stream.{line as whole_line, too_long as cut_line}
use Rattle.upstream_session.specs.Session.{step as session_step}
use Rattle.network_log.specs.Guest.{next_item}
use Rattle.network_log.specs.Host.{Host, one_heard}
use Rattle.network_log.specs.Log.{ServerSays}
use Rattle.network_server.specs.ServerEvents.{Makes, LosesLine}
use Rattle.network_server.specs.ServerState.{ServerState}
use Rattle.network_server.proofs.InputLemmas.{next-is}
use Rattle.network_server.proofs.EventLemmas.{host-said, loses-line, next-there, says, skips, some-there, too-long-skipped}
use Rattle.network_server.proofs.server.Server.hear.Goals as goal

pub count_line-requires-clause-next : goal.count_line-requires-clause-next
count_line-requires-clause-next g c = some-there _ cut_line (next-there _ _ c.self.inside.input cut_line c.in-TooLong.ensures c.self.invariant.2)

pub count_line-requires-in-Ok-clause-next : goal.count_line-requires-in-Ok-clause-next
count_line-requires-in-Ok-clause-next g c =
    some-there _ (whole_line c.in-Line.line.now) (next-there _ _ c.self.inside.input (whole_line c.in-Line.line.now) c.in-Line.ensures c.self.invariant.2)

pub returns-in-More-clause-more : goal.returns-in-More-clause-more
returns-in-More-clause-more g c = λ _.
    inr (ap (λ (s : ServerState). next_item s.host.received s.host.heard) (sym c.self.view_is)
    ∙ next-is _ _ c.self.inside.input c.self.invariant.2 ∙ sym c.in-More.ensures)

pub returns-in-TooLong-clause-left_out : goal.returns-in-TooLong-clause-left_out
returns-in-TooLong-clause-left_out g c = λ _.
    let there = next-there (g.C.Connection.received c.self.inside.connection) c.self.inside.heard c.self.inside.input cut_line c.in-TooLong.ensures c.self.invariant.2 in (
      too-long-skipped (next_item c.args.self.now.host.received c.args.self.now.host.heard) (ap (λ (s : ServerState). next_item s.host.received s.host.heard) (sym c.self.view_is) ∙ there),
      skips g.C.Connection.facts c.args.self.now.host c.count_line.new.self.host c.args.batch.now c.args.batch.now
          (ap (λ (s : ServerState). s.host) c.count_line.ensures ∙ ap (λ (s : ServerState). one_heard s.host) c.self.view_is) refl,
    )

pub returns-in-Ok-clause-line : goal.returns-in-Ok-clause-line
returns-in-Ok-clause-line g c = λ _.
    let inside = c.self.inside in
    let bytes = c.in-Line.line.now in
    let received = g.C.Connection.received inside.connection in
    let sent = g.C.Connection.sent inside.connection in
    let before : Host = record {
      network = inside.network;
      serial = g.C.Connection.serial inside.connection;
      received = received;
      heard = inside.heard;
      session = inside.dialogue.session.connection;
      told = sent ++ inside.dialogue.output;
    } in
    let there = next-there received inside.heard inside.input (whole_line bytes) c.in-Line.ensures c.self.invariant.2 in
    let said = host-said before (session_step before.session c.args.now bytes) c.hear.new.self.session.connection sent inside.dialogue.output c.hear.new.self.output refl
    c.in-Ok.ensures.session c.in-Ok.ensures.output in
    subst (λ (s : ServerState). Makes g.C.Connection.facts (ServerSays c.args.now) s.host c.args.batch.now c.count_line-in-Ok.new.self.host c.hear.new.batch) c.self.view_is
    (says g.C.Connection.facts c.args.now before _ c.count_line-in-Ok.new.self.host c.args.batch.now c.hear.new.batch bytes there said
    (λ i. (c.count_line-in-Ok.ensures i).host) c.in-Ok.ensures.batch)

pub returns-in-Err-Lost-clause-lost : goal.returns-in-Err-Lost-clause-lost
returns-in-Err-Lost-clause-lost g c = λ _.
    let inside = c.self.inside in
    let bytes = c.in-Line.line.now in
    let received = g.C.Connection.received inside.connection in
    let sent = g.C.Connection.sent inside.connection in
    let before : Host = record {
      network = inside.network;
      serial = g.C.Connection.serial inside.connection;
      received = received;
      heard = inside.heard;
      session = inside.dialogue.session.connection;
      told = sent ++ inside.dialogue.output;
    } in
    let after : Host = record before { session = c.hear.new.self.session.connection; told = sent ++ c.hear.new.self.output } in
    let there = next-there received inside.heard inside.input (whole_line bytes) c.in-Line.ensures c.self.invariant.2 in
    subst (λ (s : ServerState). LosesLine g.C.Connection.facts c.args.now s.host after) c.self.view_is
    (loses-line g.C.Connection.facts c.args.now before after bytes there (c.in-Err-Lost.ensures.lost (ap Err c.in-Err-Lost.field-0-is)))
