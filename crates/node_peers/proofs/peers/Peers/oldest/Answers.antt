use Rattle.std.proofs.Common.{rules, ◌≡◌, ℕ, Some, None, ◌∙◌, true, false, ap, subst, sym, List, map, if◌then◌else◌, ◌++◌, ◌∷◌, []}
use Rattle.std.specs.Prelude.{IfSome, nat_lt}
use Rattle.std.proofs.lemmas.Map.Views.{All-turn}
use Rattle.std.proofs.lemmas.List.{map_push}
use Rattle.std.proofs.lemmas.Map.Iter.{iter_end}
use Rattle.std.specs.BTreeMap as tree
use Rattle.std.specs.Map.Iter.{deref_pair}
use Rattle.std.specs.Ordering.{nat_cmp}
use Rattle.node_peers.specs.PeersState.{PeersState}
use Rattle.node_peers.specs.Seat.{Seat, is_waiting}
use Rattle.node_peers.proofs.TableLemmas.{IsOldestSoFar, found-oldest, none-found, so-far-more, so-far-passed}
use Rattle.node_peers.proofs.peers.Peers.oldest.Goals as goal

pub loop-number-preserved-then-is_waiting : goal.loop-number-preserved-then-is_waiting
loop-number-preserved-then-is_waiting g c =
    let there : tree.get nat_cmp c.self.inside.entries c.in-Some.number.now ≡ Some c.in-Some.entry.now =
    All-turn deref_pair (λ (e : ℕ × Seat). tree.get nat_cmp c.self.inside.entries e.0 ≡ Some e.1) _ _ _ _ _ _ _ c.iter-number-items.ensures.found
    (c.into_iter-number-iterator.ensures.into_iter_gives ∙ c.iter-number-items.ensures.rest) c.loop-number.yielded_by c.in-Some.is c.next.ensures.steps in
    let here : is_waiting c.in-Some.entry.now ≡ true = search rules in
    let number = c.in-Some.number.now in
    let order : c.entry.inside.order ≡ c.in-Some.entry.now.order = ap (λ (s : Seat). s.order) c.entry.view_is in
    let none : c.loop-number.first ≡ None → c.earlier_of.result ≡ (number, c.in-Some.entry.now.order) =
    subst (λ (o : ℕ). c.loop-number.first ≡ None → c.earlier_of.result ≡ (number, o)) order c.earlier_of.ensures.none in
    let some : IfSome c.loop-number.first (λ f. c.earlier_of.result ≡ (if nat_lt c.in-Some.entry.now.order f.1 then (number, c.in-Some.entry.now.order) else f)) =
    subst (λ (o : ℕ). IfSome c.loop-number.first (λ f. c.earlier_of.result ≡ (if nat_lt o f.1 then (number, o) else f))) order c.earlier_of.ensures.some in
    let so-far : IsOldestSoFar c.self.inside.entries.entries (map deref_pair c.loop-number.yielded) c.loop-number.first =
    subst (λ (s : PeersState). IsOldestSoFar s.seats (map deref_pair c.loop-number.yielded) c.loop-number.first) (sym c.self.view_is) c.loop-number.invariant in
    let more = so-far-more c.self.inside.entries.entries (map deref_pair c.loop-number.yielded) c.loop-number.first c.earlier_of.result
    (number, c.in-Some.entry.now) there here none some so-far in
    subst (λ (s : PeersState). IsOldestSoFar s.seats (map deref_pair (c.loop-number.yielded ++ (c.in-Some.number, c.in-Some.entry) ∷ [])) (Some c.earlier_of.result)) c.self.view_is
    (subst (λ (l : List (ℕ × Seat)). IsOldestSoFar c.self.inside.entries.entries l (Some c.earlier_of.result))
    (sym (map_push deref_pair c.loop-number.yielded (c.in-Some.number, c.in-Some.entry))) more)

pub loop-number-preserved : goal.loop-number-preserved
loop-number-preserved g c =
    let here : is_waiting c.in-Some.entry.now ≡ false = search rules in
    subst (λ (l : List (ℕ × Seat)). IsOldestSoFar c.args.self.now.seats l c.loop-number.first)
    (sym (map_push deref_pair c.loop-number.yielded (c.in-Some.number, c.in-Some.entry)))
    (so-far-passed c.args.self.now.seats (map deref_pair c.loop-number.yielded) c.loop-number.first (c.in-Some.number.now, c.in-Some.entry.now) here c.loop-number.invariant)

pub returns-clause-some : goal.returns-clause-some
returns-clause-some g c =
    let ended = iter_end deref_pair c.self.inside.entries.entries c.loop-number.yielded _ _ _ _
    (c.into_iter-number-iterator.ensures.into_iter_gives ∙ c.iter-number-items.ensures.rest) c.loop-number.yielded_by c.in-None.is c.next.ensures.steps in
    found-oldest c.args.self.now c.loop-number.first c.number_of.result c.number_of.ensures
    (subst (λ (l : List (ℕ × Seat)). IsOldestSoFar c.args.self.now.seats l c.loop-number.first) (ended.0 ∙ ap (λ (s : PeersState). s.seats) c.self.view_is) c.loop-number.invariant)

pub returns-clause-none : goal.returns-clause-none
returns-clause-none g c =
    let ended = iter_end deref_pair c.self.inside.entries.entries c.loop-number.yielded _ _ _ _
    (c.into_iter-number-iterator.ensures.into_iter_gives ∙ c.iter-number-items.ensures.rest) c.loop-number.yielded_by c.in-None.is c.next.ensures.steps in
    none-found c.args.self.now c.loop-number.first c.number_of.result c.number_of.ensures
    (subst (λ (l : List (ℕ × Seat)). IsOldestSoFar c.args.self.now.seats l c.loop-number.first) (ended.0 ∙ ap (λ (s : PeersState). s.seats) c.self.view_is) c.loop-number.invariant)
