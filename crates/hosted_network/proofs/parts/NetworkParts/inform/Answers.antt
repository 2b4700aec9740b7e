use Rattle.std.proofs.Common.{◌≡◌, sym, ap, ◌∙◌}
use Rattle.chat_change.specs.Buffer.{buffer_of}
use Rattle.network_log.specs.NetworkState.{NetworkState}
use Rattle.hosted_network.proofs.LogLemmas.{reached_both, then_both}
use Rattle.hosted_network.proofs.InformingLemmas.{seen_again}
use Rattle.hosted_network.proofs.parts.NetworkParts.inform.Goals as goal

pub returns-in_default-risen_marker : goal.returns-in_default-risen_marker
returns-in_default-risen_marker g c = seen_again c.risen_marker.ensures.rest c.risen_marker.ensures.seen

pub tell_marker-requires-clause-buffer : goal.tell_marker-requires-clause-buffer
tell_marker-requires-clause-buffer g c =
    let config : c.self.inside.config.now ≡ c.risen_marker.new.self.config =
    ap (λ (w : NetworkState). w.config) c.self.view_is ∙ sym (ap (λ (w : NetworkState). w.config) c.risen_marker.ensures.rest) in
    c.in-Ok.ensures
    ∙ (λ i. buffer_of (c.as_bytes-account.ensures i) (c.as_bytes-network.ensures i) c.args.target.now)
    ∙ (λ i. buffer_of (config i).account (config i).network (sym c.in-Ok-new.ensures i))

pub tell_marker-requires-clause-reached : goal.tell_marker-requires-clause-reached
tell_marker-requires-clause-reached g c =
    reached_both c.requires (seen_again c.risen_marker.ensures.rest c.risen_marker.ensures.seen)

pub returns : goal.returns
returns g c =
    then_both (seen_again c.risen_marker.ensures.rest c.risen_marker.ensures.seen) c.tell_marker.ensures

pub returns-in_default-new : goal.returns-in_default-new
returns-in_default-new g c = seen_again c.risen_marker.ensures.rest c.risen_marker.ensures.seen
