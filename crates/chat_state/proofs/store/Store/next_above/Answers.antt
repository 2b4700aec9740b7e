use Rattle.std.proofs.Common.{◌≡◌, sym, subst, Some, None}
use Rattle.ordered_maps.specs.Ends.{IsLastBefore}
use Rattle.chat_history.specs.Choice.{IsFirst}
use Rattle.chat_buffers.specs.Store.{Store, number_at, by_number, pieces_above}
use Rattle.chat_state.specs.Number.{number_cmp}
use Rattle.chat_state.specs.Piece.{numbered_of}
use Rattle.chat_state.specs.Walk.{IsPieceOf}
use Rattle.chat_state.proofs.WalkLemmas.{none_above, stands_next, first_above}
use Rattle.chat_state.proofs.store.Store.next_above.Goals as goal

pub piece_at-requires : goal.piece_at-requires
piece_at-requires c =
    let s = c.self.inside.buffers in
    let index = c.self.inside.index in
    let next = c.in-Some.next.now in
    let name = c.in-Some.name.now in
    let last = subst (λ n. IsLastBefore number_cmp n index (Some (next, name))) c.of-key.ensures c.in-Some.ensures in
    let stands = stands_next s index c.self.invariant.0 c.self.invariant.1 c.args.number next name last in
    subst (λ n. number_at c.args.self.now name.key ≡ Some n) (sym c.value.ensures) (subst (λ (x : Store). number_at x name.key ≡ Some next) c.self.view_is stands)

pub returns-in-Some : goal.returns-in-Some
returns-in-Some c =
    let s = c.self.inside.buffers in
    let index = c.self.inside.index in
    let next = c.in-Some.next.now in
    let name = c.in-Some.name.now in
    let piece = numbered_of c.piece_at.result in
    let last = subst (λ n. IsLastBefore number_cmp n index (Some (next, name))) c.of-key.ensures c.in-Some.ensures in
    let is = subst (λ n. IsPieceOf c.args.self.now n piece) c.value.ensures c.piece_at.ensures in
    subst (λ (x : Store). IsFirst by_number (pieces_above c.args.number x) (Some piece)) c.self.view_is
    (first_above s index c.self.invariant.0 c.self.invariant.1 c.args.number next name last piece
    (subst (λ (x : Store). IsPieceOf x next piece) (sym c.self.view_is) is))

pub returns-in-None : goal.returns-in-None
returns-in-None c =
    let index = c.self.inside.index in
    let none = subst (λ n. IsLastBefore number_cmp n index None) c.of-key.ensures c.in-None.ensures in
    subst (λ (x : Store). IsFirst by_number (pieces_above c.args.number x) None) c.self.view_is
    (none_above c.self.inside.buffers index c.self.invariant.0 c.self.invariant.1 c.args.number none)
