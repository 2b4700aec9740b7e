use Rattle.std.proofs.Common.{◌≡◌, Some, refl, sym, ap, ◌∙◌, subst}
use Rattle.irc_line.specs.Stream.{line}
use Rattle.network_log.specs.Guest.{next_item}
use Rattle.network_log.specs.Host.{one_heard}
use Rattle.network_server.specs.ServerState.{ServerState}
use Rattle.network_server.proofs.EventLemmas.{line-skipped, next-there, some-there}
use Rattle.network_server.proofs.server.Server.try_again.Goals as goal

pub count_line-requires-clause-next : goal.count_line-requires-clause-next
count_line-requires-clause-next g c =
    some-there _ (line c.in-Line.line.now) (next-there _ _ c.self.inside.input (line c.in-Line.line.now) c.in-Line.ensures c.self.invariant.2)

pub returns-in-Line-clause-left_out : goal.returns-in-Line-clause-left_out
returns-in-Line-clause-left_out g c =
    let there : next_item (g.C.Connection.received c.self.inside.connection) c.self.inside.heard ≡ Some (line c.in-Line.line.now) =
    next-there (g.C.Connection.received c.self.inside.connection) c.self.inside.heard c.self.inside.input (line c.in-Line.line.now) c.in-Line.ensures c.self.invariant.2 in (
      refl,
      line-skipped (next_item c.args.self.now.host.received c.args.self.now.host.heard) c.in-Line.line.now
          (ap (λ (s : ServerState). next_item s.host.received s.host.heard) (sym c.self.view_is) ∙ there) (sym c.is_passed_on.ensures ∙ c.if-is_passed_on.true),
      subst (λ (s : ServerState). c.count_line.new.self ≡ record s { host = one_heard s.host; tries = 0 }) c.self.view_is c.count_line.ensures,
    )
