use Rattle.std.proofs.Common.{◌≡◌, Some, ap, sym, ◌∙◌}
use Rattle.std.specs.BTreeMap.{is_at}
use Rattle.std.specs.Ordering.{nat_cmp}
use Rattle.node_peers.specs.PeersState.{PeersState, seat_at}
use Rattle.node_peers.proofs.TableLemmas.{marked-bounded, marked-room, oldest-waits}
use Rattle.node_peers.proofs.peers.Peers.make_way.Goals as goal

pub invariant_of-self-2 : goal.invariant_of-self-2
invariant_of-self-2 g c =
    marked-bounded (is_at (nat_cmp c.in-Some.number)) c.self.inside.entries.entries (c.get_mut.follows.lender c.await_turn.new.self).entries c.in-Some-get_mut.entry.now c.await_turn.new.self _
    (c.get_mut.follows.holds c.await_turn.new.self).0 (sym c.in-Some-get_mut.ensures.value) c.await_turn.ensures c.self.invariant

pub returns-clause-room : goal.returns-clause-room
returns-clause-room g c =
    let there : seat_at c.args.self.now c.in-Some.number ≡ Some c.in-Some-get_mut.entry.now =
    ap (λ (s : PeersState). seat_at s c.in-Some.number) (sym c.self.view_is) ∙ sym c.in-Some-get_mut.ensures.value in
    marked-room (is_at (nat_cmp c.in-Some.number)) c.self.inside.entries.entries (c.get_mut.follows.lender c.await_turn.new.self).entries c.in-Some-get_mut.entry.now c.await_turn.new.self _
    (c.get_mut.follows.holds c.await_turn.new.self).0 (sym c.in-Some-get_mut.ensures.value) c.await_turn.ensures
    (oldest-waits c.args.self.now c.in-Some.number c.in-Some-get_mut.entry.now c.in-Some.ensures.some there) c.self.invariant
