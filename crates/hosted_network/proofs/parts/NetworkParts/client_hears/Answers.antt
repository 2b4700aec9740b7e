use Rattle.std.proofs.Common.{◌≡◌, ap, sym, subst, ◌∙◌}
use Rattle.network_log.specs.NetworkState.{NetworkState, entry_of}
use Rattle.hosted_network.specs.Standing.{StandsSo}
use Rattle.hosted_network.proofs.GuestLemmas.{falls}
use Rattle.hosted_network.proofs.HearingLemmas.{hears_so, moved, own_of}
use Rattle.hosted_network.proofs.parts.NetworkParts.client_hears.Goals as goal

pub returns-in_default-clause-leads : goal.returns-in_default-clause-leads
returns-in_default-clause-leads g c = ∣ falls c.self.view_is c.requires.place c.index_mut.ensures.value c.fall.ensures ∣₁

pub returns-clause-leads : goal.returns-clause-leads
returns-clause-leads g c =
    let accounts = g.C.Connection.facts.accounts.directory in
    let nick : c.nick_in-nick.result.now ≡ (entry_of c.args.self.now).nick =
    c.nick_in-nick.ensures ∙ ap (λ (w : NetworkState). (entry_of w).nick) c.self.view_is in
    let so : StandsSo accounts c.self.inside.config.now (entry_of c.args.self.now) c.refresh.new.directory =
    c.in-Ok.ensures.so accounts (entry_of c.args.self.now) c.self.invariant.1
    (record { is_up = sym c.is_up-is_up.ensures; is_nick = sym nick; is_redact = sym c.takes_redact-takes_redact.ensures }) in
    moved _ _ c.self.view_is c.hear.ensures.place c.hear.ensures.puts
    (hears_so c.hear.new.self c.hear.result c.self.view_is c.requires.place c.index_mut-2.ensures.value
    (subst (λ (w : NetworkState). StandsSo accounts c.self.inside.config.now (entry_of w) c.refresh.new.directory) (sym c.self.view_is) so)
    (own_of c.self.view_is c.requires.place c.index_mut-2.ensures.value c.a_client_stays_in_its_network.ensures c.requires.reached)
    c.hear.ensures.seen c.hear.ensures.heard c.hear.ensures.same c.hear.ensures.fell)
