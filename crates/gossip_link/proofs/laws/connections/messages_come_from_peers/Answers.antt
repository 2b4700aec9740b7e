use Rattle.std.proofs.Common.{[], ◌∷◌, ◌++◌, ap, inl, inr, ⊎_elim}
use Rattle.gossip_link.specs.Handshake.{handed_to, greets}
use Rattle.gossip_link.proofs.LineLemmas.{handed, sends, nothing_follows}
use Rattle.gossip_link.proofs.laws.connections.messages_come_from_peers.Goals as goal

pub returns-clause-arrives : goal.returns-clause-arrives
returns-clause-arrives c = λ t side before line place arrived e.
    let up = handed t side before line place arrived e in
    let are = (c.handshake.ensures.handed_up t side (before ++ line ∷ [])).0 (place, up) in
    (are, c.handshake.ensures.placed t side (before ++ line ∷ []) place up are)

pub returns-clause-sent : goal.returns-clause-sent
returns-clause-sent c = λ t side before line.
    ⊎_elim (λ e. inl e)
    (λ g.
    let said = (c.handshake.ensures.greets t side (before ++ line ∷ [])).0 (ap greets g.1) in
    inr (said.0, said.2, said.1, g.0, c.handshake.ensures.placed t side (before ++ line ∷ []) g.0 (ap handed_to g.1) said.1, g.2))
    (sends t side before line)

pub returns-clause-closed : goal.returns-clause-closed
returns-clause-closed c = nothing_follows
