use Rattle.std.proofs.Common.{◌≡◌, ℕ, true, false, Option, Some, ◌∙◌, subst}
use Rattle.std.proofs.lemmas.Bool.{not-true}
use Rattle.chat_history.proofs.CallerLemmas.{delta_further}
use Rattle.cluster_directory.specs.Version.{is_lower}
use Rattle.cluster_directory.specs.declared.version.Version.{Version}
use Rattle.gossip_link.specs.declared.link.KnownLife.{KnownLife}
use Rattle.gossip_link.specs.Peer.{is_served}
use Rattle.gossip_link.specs.Cluster.{start}
use Rattle.gossip_link.proofs.SoundLemmas.{IsSound}
use Rattle.gossip_link.proofs.EventLemmas.{IsSound-run, IsSound-start, known_life}
use Rattle.gossip_link.proofs.NoLossLemmas.{acknowledged}
use Rattle.gossip_link.proofs.laws.no_loss.Goals as goal

same_heard : (heard : Option KnownLife) (known : KnownLife) (i : ℕ) → heard ≡ Some known → known.incarnation ≡ i → heard ≡ Some (record { incarnation = i; version = known.version })
same_heard heard known i e f = e ∙ (λ j. Some (record { incarnation = f j; version = known.version }))

no_lower : (own : Version) (heard : Option KnownLife) (known : KnownLife) → heard ≡ Some known → is_served own heard ≡ true → is_lower known.version own ≡ false
no_lower own heard known e serves = not-true (is_lower known.version own) (subst (λ o. is_served own o ≡ true) e serves)

pub returns : goal.returns
returns c = λ w r name peer differ knows serves some.
    let s = subst IsSound r.ends (IsSound-run r.events (start r.incarnations r.versions) r.differ (IsSound-start r.incarnations r.versions)) in
    let heard = ((w.nodes name).peers peer).heard in
    let known = known_life heard (w.nodes peer).incarnation knows in
    acknowledged w name peer differ known.0.version (same_heard heard known.0 (w.nodes peer).incarnation known.1 known.2)
    (no_lower (w.nodes name).version heard known.0 known.1 serves) (s.uses name peer) some
    (delta_further 0 ((w.nodes name).peers peer).acked (w.nodes name).taken some)
