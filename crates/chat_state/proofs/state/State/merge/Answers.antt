use Rattle.std.proofs.Common.{◌≡◌, ◌+◌, Bool, Result, Err, ◌<◌, ◌∙◌, ◌++◌, ◌∷◌, [], List, map, take, drop, length, sym, ap, subst, arith}
use Rattle.std.specs.Option.{option_map}
use Rattle.chat_history.specs.Choice.{IsFirst}
use Rattle.chat_state.specs.declared.faults.StateFault.{StateFault}
use Rattle.chat_state.specs.declared.faults.StateFault.TheVariants.{Exhausted}
use Rattle.chat_history.specs.StateValue.{StateValue, HasTaken, IsPastTheLast}
use Rattle.chat_history.specs.History.{norm, changes_of}
use Rattle.chat_history.specs.Merging.{IsByNumber}
use Rattle.chat_state.specs.Piece.{numbered_of}
use Rattle.chat_buffers.specs.Store.{Numbered, by_number, pieces_above}
use Rattle.chat_state.proofs.LookupLemmas.{state_normal}
use Rattle.chat_state.proofs.MergeLemmas.{change, turn, left, left_all, left_some, left_none, is_above, by_number_is, drop_step, next_in, drop_end, stopped_at, merged}
use Rattle.chat_state.proofs.TakeLemmas.{taken_none, taken_more, has_taken_none, has_taken_more}
use Rattle.chat_state.proofs.state.State.merge.Goals as goal

pub loop-piece-init : goal.loop-piece-init
loop-piece-init c =
    let s = c.other.inside.store in
    record {
      history = taken_none c.args.self.now.history (map change (turn s)) (state_normal c.self.inside.store c.self.inside.front c.self.invariant c.args.self.now c.self.view_is);
      held = has_taken_none c.args.self.now (map change (turn s));
      rest = sym (left_all s c.other.inside.front c.other.invariant);
      few = omega arith;
    }

fewer : (xs ys : List Numbered) (p : Numbered) → xs ≡ p ∷ ys → length ys < length xs
fewer xs ys p e = omega (arith, ap length e)

same_cause : (cause : StateFault) → ◌≡◌ {A = Result Bool StateFault} (Err cause) (Err Exhausted) → cause ≡ Exhausted
same_cause cause e = cc

pub loop-piece-smaller : goal.loop-piece-smaller
loop-piece-smaller c =
    let s = c.other.inside.store in
    let p = numbered_of c.in-Some.piece in
    let first = subst (λ o. IsFirst by_number (pieces_above c.loop-piece.last s) (option_map numbered_of o)) c.in-Some.is c.next_above.ensures in
    subst (λ n. length (left s n) < length (left s c.loop-piece.last)) (sym c.number-last.ensures)
    (fewer (left s c.loop-piece.last) (left s p.number) p (left_some s c.other.inside.front c.other.invariant c.loop-piece.last p first))

pub overflow_add-taken : goal.overflow_add-taken
overflow_add-taken c =
    let s = c.other.inside.store in
    let p = numbered_of c.in-Some.piece in
    let first = subst (λ o. IsFirst by_number (pieces_above c.loop-piece.last s) (option_map numbered_of o)) c.in-Some.is c.next_above.ensures in
    let above = is_above s c.other.inside.front c.other.invariant c.loop-piece.last p first in
    let few = c.loop-piece.invariant.few in
    omega (arith, above, few)

pub loop-piece-preserved : goal.loop-piece-preserved
loop-piece-preserved c =
    let s = c.other.inside.store in
    let p = numbered_of c.in-Some.piece in
    let first = subst (λ o. IsFirst by_number (pieces_above c.loop-piece.last s) (option_map numbered_of o)) c.in-Some.is c.next_above.ensures in
    let cs = map change (turn s) in
    let here = c.loop-piece.invariant.rest ∙ left_some s c.other.inside.front c.other.invariant c.loop-piece.last p first in
    let inside = next_in (turn s) c.loop-piece.taken p (left s p.number) here in
    record {
      history =
          taken_more c.args.self.now.history c.loop-piece.self.history c.absorb_copy.new.self.history cs c.loop-piece.taken p.change inside.0 c.loop-piece.invariant.history
          (c.in_default-absorb_copy.ensures.ok ∙ ap (λ d. norm (changes_of c.loop-piece.self.history ++ d ∷ [])) (inside.1));
      held =
          has_taken_more c.args.self.now c.loop-piece.self c.absorb_copy.new.self cs c.loop-piece.taken p.change inside.0 c.loop-piece.invariant.held
          (subst (λ d. HasTaken c.loop-piece.self (d ∷ []) c.absorb_copy.new.self) (inside.1) c.in_default-absorb_copy.ensures.held);
      rest = subst (λ n. drop (c.loop-piece.taken + 1) (turn s) ≡ left s n) (sym c.number-last.ensures)
          (drop_step (turn s) c.loop-piece.taken p (left s p.number) here).2;
      few =
          let above = is_above s c.other.inside.front c.other.invariant c.loop-piece.last p first in
          let few = c.loop-piece.invariant.few in
          let at = c.number-last.ensures in
          omega (arith, above, few, at);
    }

pub returns-clause-ok : goal.returns-clause-ok
returns-clause-ok c =
    let s = c.other.inside.store in
    let first = subst (λ o. IsFirst by_number (pieces_above c.loop-piece.last s) (option_map numbered_of o)) c.in_default.is c.next_above.ensures in
    let all = drop_end (turn s) c.loop-piece.taken (c.loop-piece.invariant.rest ∙ left_none s c.other.inside.front c.other.invariant c.loop-piece.last first) in
    let by = subst (λ (h : StateValue). IsByNumber h (map change (turn s))) c.other.view_is (by_number_is s c.other.inside.front c.other.invariant) in
    merged c.args.self.now c.args.other.now c.loop-piece.self (map change (turn s)) by (c.loop-piece.invariant.history ∙ ap (λ cs. norm (changes_of c.args.self.now.history ++ cs)) all)

pub returns-clause-all : goal.returns-clause-all
returns-clause-all c =
    let s = c.other.inside.store in
    let first = subst (λ o. IsFirst by_number (pieces_above c.loop-piece.last s) (option_map numbered_of o)) c.in_default.is c.next_above.ensures in
    let all = drop_end (turn s) c.loop-piece.taken (c.loop-piece.invariant.rest ∙ left_none s c.other.inside.front c.other.invariant c.loop-piece.last first) in
    record {
      turn = map change (turn s);
      by_number = subst (λ (h : StateValue). IsByNumber h (map change (turn s))) c.other.view_is (by_number_is s c.other.inside.front c.other.invariant);
      history = c.loop-piece.invariant.history ∙ ap (λ cs. norm (changes_of c.args.self.now.history ++ cs)) all;
      held = subst (λ cs. HasTaken c.args.self.now cs c.loop-piece.self) all c.loop-piece.invariant.held;
    }

pub returns-in-Err-clause-refused : goal.returns-in-Err-clause-refused
returns-in-Err-clause-refused c =
    let s = c.other.inside.store in
    let p = numbered_of c.in-Some.piece in
    let first = subst (λ o. IsFirst by_number (pieces_above c.loop-piece.last s) (option_map numbered_of o)) c.in-Some.is c.next_above.ensures in
    let cs = map change (turn s) in
    let here = c.loop-piece.invariant.rest ∙ left_some s c.other.inside.front c.other.invariant c.loop-piece.last p first in
    let inside = next_in (turn s) c.loop-piece.taken p (left s p.number) here in
    let same = c.in-Err.ensures.err in
    record {
      turn = cs;
      by_number = subst (λ (h : StateValue). IsByNumber h cs) c.other.view_is (by_number_is s c.other.inside.front c.other.invariant);
      history = ap (λ (h : StateValue). h.history) same ∙ c.loop-piece.invariant.history;
      held = subst (λ h. HasTaken c.args.self.now (take c.loop-piece.taken cs) h) (sym same) c.loop-piece.invariant.held;
      stopped =
          stopped_at c.absorb_copy.new.self cs c.loop-piece.taken p.change (c.in-Err.cause ≡ Exhausted) inside.0 inside.1 (
            λ e. subst (λ h. IsPastTheLast h p.change) (sym same) (c.in-Err.ensures.exhausted.0 (ap Err e)),
            λ past. same_cause c.in-Err.cause (c.in-Err.ensures.exhausted.1 (subst (λ h. IsPastTheLast h p.change) same past)),
          );
    }
