use Rattle.std.proofs.Common.{rules, ◌≡◌, ◌<◌, ℕ, Some, None, ap, subst, sym, List, length}
use Rattle.std.specs.BTreeMap.{is_at}
use Rattle.std.specs.List.{All}
use Rattle.std.specs.Map.{lookup}
use Rattle.std.specs.Ordering.{nat_cmp}
use Rattle.node_peers.specs.PeersState.{IsGreetedAs, seat_at, without}
use Rattle.node_peers.specs.Seat.{Seat}
use Rattle.node_peers.specs.Talk.{place_of}
use Rattle.node_peers.proofs.TableLemmas.{IsNotAs, alone, greeted-still, shorter, still-there}
use Rattle.node_peers.proofs.peers.Peers.greet.Goals as goal

pub loop-older-smaller : goal.loop-older-smaller
loop-older-smaller g c =
    let is : IsGreetedAs c.loop-older.self c.in-Some-connection_with.older c.in-Some-newcomer.place = search rules in
    let k : length (without c.in-Some-connection_with.older c.loop-older.self) < length c.loop-older.self.seats =
    shorter (is_at (nat_cmp c.in-Some-connection_with.older)) c.loop-older.self.seats is.seat is.is_there in
    subst (λ (l : List (ℕ × Seat)). length l < length c.loop-older.self.seats) (sym c.close-in-Some-connection_with.ensures.seats) k

pub loop-older-preserved : goal.loop-older-preserved
loop-older-preserved g c =
    let is : IsGreetedAs c.loop-older.self c.in-Some-connection_with.older c.in-Some-newcomer.place = search rules in
    let there : seat_at c.args.self.now c.args.number ≡ Some c.in-Some.entry.now = search rules in
    let unnoted : c.in-Some.entry.now.peer.talk.noted ≡ None = search rules in
    still-there c.args.self.now c.loop-older.self c.close-in-Some-connection_with.new.self c.args.number c.in-Some-connection_with.older c.in-Some-newcomer.place c.in-Some.entry.now
    there unnoted c.loop-older.invariant is c.close-in-Some-connection_with.ensures.seats

pub returns : goal.returns
returns g c = λ n at is was other.
    let none : All (IsNotAs c.in-Some-newcomer.place) c.loop-older.self.seats = search rules in
    let there : seat_at c.loop-older.self c.args.number ≡ Some c.in-Some.entry.now = search rules in
    let unnoted : c.in-Some.entry.now.peer.talk.noted ≡ None = search rules in
    let brought : place_of c.in-Some.entry.now.peer.talk.brought ≡ Some c.in-Some-newcomer.place = search rules in
    let own : IsGreetedAs c.note.new.self c.args.number c.in-Some-newcomer.place = c.note.ensures.own c.in-Some.entry.now c.in-Some-newcomer.place there unnoted brought in
    let same : (m : ℕ) → seat_at c.settle.new.self m ≡ seat_at c.note.new.self m =
    λ m. ap (λ (l : List (ℕ × Seat)). lookup (is_at (nat_cmp m)) l) c.settle.ensures.seats in
    alone c.args.self.now c.loop-older.self c.note.new.self c.args.number c.in-Some-newcomer.place none c.note.ensures.others own n at
    (greeted-still c.note.new.self c.settle.new.self c.args.number at (same c.args.number) is) (greeted-still c.note.new.self c.settle.new.self n at (same n) other)
