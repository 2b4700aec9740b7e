use Rattle.std.proofs.Common.{inl, inr, ⊎_elim}
use Rattle.gossip_link.specs.declared.handshake.Side.TheVariants.{Opener, Acceptor}
use Rattle.network_laws.proofs.StrangerLemmas.{begins-nothing, first-words, of-a-peer}
use Rattle.network_laws.proofs.nothing_is_said_to_a_stranger.Goals as goal

pub returns-clause-came : goal.returns-clause-came
returns-clause-came g c = λ serial received bytes right.
    ⊎_elim (λ p. inl (begins-nothing bytes p.0 p.1)) (λ h. inr h)
    (first-words c.messages_come_from_peers.ensures.arrives
    (λ t side before line. ⊎_elim (λ e. inl e) (λ h. inr h.2) (c.messages_come_from_peers.ensures.sent t side before line))
    g.C.Connection.facts Acceptor received bytes right)

pub returns-clause-dialed : goal.returns-clause-dialed
returns-clause-dialed g c = λ peer serial received bytes right.
    first-words c.messages_come_from_peers.ensures.arrives
    (λ t side before line. ⊎_elim (λ e. inl e) (λ h. inr h.2) (c.messages_come_from_peers.ensures.sent t side before line))
    g.C.Connection.facts (Opener peer) received bytes right.1

pub returns-clause-taken : goal.returns-clause-taken
returns-clause-taken g c = λ changes brought.
    of-a-peer c.messages_come_from_peers.ensures.arrives
    (λ t side before line. ⊎_elim (λ e. inl e) (λ h. inr h.2) (c.messages_come_from_peers.ensures.sent t side before line))
    g.C.Connection.facts changes brought
