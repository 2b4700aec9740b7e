use Rattle.std.proofs.Common.{◌≡◌, ◌≢◌, ℕ, List, Some, ap, subst, ◌∙◌}
use Rattle.std.proofs.lemmas.Map.Views.{All-turn}
use Rattle.std.proofs.lemmas.Map.Iter.{iter_end}
use Rattle.std.specs.BTreeMap as tree
use Rattle.std.specs.List.{All}
use Rattle.std.specs.Map.Iter.{deref_pair}
use Rattle.std.specs.Ordering.{nat_cmp}
use Rattle.node_peers.specs.PeersState.{PeersState}
use Rattle.node_peers.specs.Seat.{Seat}
use Rattle.node_peers.proofs.TableLemmas.{IsNotAs, push-seen}
use Rattle.node_peers.proofs.peers.Peers.connection_with.Goals as goal

pub returns-then-is_with-clause-some : goal.returns-then-is_with-clause-some
returns-then-is_with-clause-some g c =
    let there : tree.get nat_cmp c.self.inside.entries c.in-Some.number.now ≡ Some c.in-Some.entry.now =
    All-turn deref_pair (λ (e : ℕ × Seat). tree.get nat_cmp c.self.inside.entries e.0 ≡ Some e.1) _ _ _ _ _ _ _ c.iter-number-items.ensures.found
    (c.into_iter-number-iterator.ensures.into_iter_gives ∙ c.iter-number-items.ensures.rest) c.loop-number.yielded_by c.in-Some.is c.next.ensures.steps in
    let noted : c.in-Some.entry.now.peer.talk.noted ≡ Some c.args.place = c.is_with.ensures.yes c.if-is_with.true in
    rw (← c.self.view_is) (record { seat = c.in-Some.entry.now; is_there = there; is_noted = noted })

pub loop-number-preserved : goal.loop-number-preserved
loop-number-preserved g c =
    let other : c.in-Some.entry.now.peer.talk.noted ≢ Some c.args.place = c.is_with.ensures.no c.if-is_with.false in
    push-seen deref_pair (IsNotAs c.args.place) c.loop-number.yielded (c.in-Some.number, c.in-Some.entry) c.loop-number.invariant other

pub returns-clause-none : goal.returns-clause-none
returns-clause-none g c =
    let ended = iter_end deref_pair c.self.inside.entries.entries c.loop-number.yielded _ _ _ _
    (c.into_iter-number-iterator.ensures.into_iter_gives ∙ c.iter-number-items.ensures.rest) c.loop-number.yielded_by c.in-None.is c.next.ensures.steps in
    subst (λ (l : List (ℕ × Seat)). All (IsNotAs c.args.place) l) (ended.0 ∙ ap (λ (s : PeersState). s.seats) c.self.view_is) c.loop-number.invariant
