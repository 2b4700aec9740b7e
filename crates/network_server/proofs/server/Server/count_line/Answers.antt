use Rattle.std.proofs.Common.{◌≡◌, ◌+◌, true, sym, ap, ◌∙◌, subst}
use Rattle.std.specs.Prelude.{is_some}
use Rattle.network_log.specs.Guest.{next_item}
use Rattle.network_server.specs.ServerState.{ServerState}
use Rattle.network_server.proofs.EventLemmas.{counted}
use Rattle.network_server.proofs.server.Server.count_line.Goals as goal

pub invariant_of-self : goal.invariant_of-self
invariant_of-self g c = (
  c.self.invariant.0,
  c.self.invariant.1,
  counted _ _ _ c.args.heard c.take_line.new.self (c.requires.heard ∙ ap (λ (s : ServerState). s.host.heard + 1) (sym c.self.view_is)) c.take_line.ensures
      (subst (λ (s : ServerState). is_some (next_item s.host.received s.host.heard) ≡ true) (sym c.self.view_is) c.requires.next) c.self.invariant.2,
)
