use Rattle.std.proofs.Common.{◌≡◌, ◌<◌, ◌++◌, ◌∷◌, List, map, length, sym, ap, subst, arith}
use Rattle.std.proofs.lemmas.Bool.Decides.{nat_tests}
use Rattle.std.specs.Option.{option_map}
use Rattle.chat_history.specs.Choice.{IsFirst}
use Rattle.chat_history.specs.Newer.{AreFirstNewer}
use Rattle.chat_history.specs.StateValue.{StateValue}
use Rattle.chat_state.specs.Piece.{numbered_of, entry_of}
use Rattle.chat_state.specs.declared.store.piece.Piece.{Piece}
use Rattle.chat_buffers.specs.Store.{Numbered, by_number, pieces_above}
use Rattle.chat_state.proofs.MergeLemmas.{left, left_some, left_none}
use Rattle.chat_state.proofs.NewerLemmas.{lent_next, newer_all, newer_first}
use Rattle.chat_state.proofs.state.State.newer.Goals as goal

fewer : (xs ys : List Numbered) (p : Numbered) → xs ≡ p ∷ ys → length ys < length xs
fewer xs ys p e = omega (arith, ap length e)

pub loop-self-smaller : goal.loop-self-smaller
loop-self-smaller c =
    let s = c.self.inside.store in
    let p = numbered_of c.in-Some.piece in
    let first = subst (λ o. IsFirst by_number (pieces_above c.loop-self.last s) (option_map numbered_of o)) c.in-Some.is c.next_above.ensures in
    subst (λ n. length (left s n) < length (left s c.loop-self.last)) (sym c.number-last.ensures)
    (fewer (left s c.loop-self.last) (left s p.number) p (left_some s c.self.inside.front c.self.invariant c.loop-self.last p first))

pub loop-self-preserved : goal.loop-self-preserved
loop-self-preserved c =
    let s = c.self.inside.store in
    let p = numbered_of c.in-Some.piece in
    let first = subst (λ o. IsFirst by_number (pieces_above c.loop-self.last s) (option_map numbered_of o)) c.in-Some.is c.next_above.ensures in
    record {
      turn =
          subst (λ n. map numbered_of c.push.new.self.items ++ left s n ≡ left s c.args.from) (sym c.number-last.ensures)
          (subst (λ (ps : List Piece). map numbered_of ps ++ left s p.number ≡ left s c.args.from) (sym c.in-Ok.ensures.items)
          (lent_next (left s c.args.from) (left s p.number) (left s c.loop-self.last) c.loop-self.newer.items c.in-Some.piece (left_some s c.self.inside.front c.self.invariant c.loop-self.last p first) c.loop-self.invariant.turn));
      few = let l = c.loop-self-test.true in let n = c.in-Ok.ensures.len in let m = c.len.ensures in grind (arith, nat_tests);
    }

pub returns-in_default : goal.returns-in_default
returns-in_default c =
    let s = c.self.inside.store in
    let first = subst (λ o. IsFirst by_number (pieces_above c.loop-self.last s) (option_map numbered_of o)) c.in_default.is c.next_above.ensures in
    let none = left_none s c.self.inside.front c.self.invariant c.loop-self.last first in
    subst (λ (h : StateValue). AreFirstNewer h c.args.from c.args.limit (map entry_of c.loop-self.newer.items)) c.self.view_is
    (newer_all s c.self.inside.front c.args.from c.args.limit c.self.invariant c.loop-self.newer.items (left s c.loop-self.last) c.loop-self.invariant.turn c.loop-self.invariant.few none)

pub returns : goal.returns
returns c =
    let s = c.self.inside.store in
    let reached : length c.loop-self.newer.items ≡ c.args.limit = (let few = c.loop-self.invariant.few in let t = c.loop-self-test.false in let m = c.len.ensures in grind (arith, nat_tests)) in
    subst (λ (h : StateValue). AreFirstNewer h c.args.from c.args.limit (map entry_of c.loop-self.newer.items)) c.self.view_is
    (newer_first s c.self.inside.front c.args.from c.args.limit c.self.invariant c.loop-self.newer.items (left s c.loop-self.last) c.loop-self.invariant.turn reached)
