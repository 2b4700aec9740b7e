use Rattle.std.proofs.Common.{◌≡◌, ◌+◌, ◌<◌, ◌++◌, ◌∷◌, [], Ok, sym, ap, ◌∙◌, arith}
use Rattle.chat_change.specs.declared.change.Change.TheVariants.{Post}
use Rattle.chat_change.specs.Key.{key_of}
use Rattle.chat_history.specs.History.{norm, changes_of}
use Rattle.chat_history.specs.StateValue.{StateValue}
use Rattle.chat_history.specs.Numbering.{numbers_after}
use Rattle.chat_buffers.specs.Store.{history_in}
use Rattle.chat_state.proofs.StateLemmas.{next_is, formed_differs, new_history, new_numbers, new_sound, new_held}
use Rattle.chat_state.proofs.state.State.absorb_new.Goals as goal

pub invariant_of-self : goal.invariant_of-self
invariant_of-self c =
    let s = c.self.inside.store in
    let new = c.place_new.new.self in
    let x = Post c.args.post.now in
    let is = ap Ok c.in-Ok-true.field-0-test in
    let e = c.in-Ok-true.ensures.counts is in
    let placed = c.in-Ok-true.ensures.placed is in
    let n : c.in-Some.number ≡ c.self.inside.front + 1 = next_is c.checked_add.result (c.self.inside.front + 1 < 18446744073709551616) (c.self.inside.front + 1) c.in-Some.number c.in-Some.is c.checked_add.ensures in
    new_sound s new c.self.inside.front c.self.invariant x x c.in-Some.number e placed (omega (arith, n))

pub returns-in-Ok-true-clause-history : goal.returns-in-Ok-true-clause-history
returns-in-Ok-true-clause-history c _ =
    let s = c.self.inside.store in
    let new = c.place_new.new.self in
    let x = Post c.args.post.now in
    let is = ap Ok c.in-Ok-true.field-0-test in
    let e = c.in-Ok-true.ensures.counts is in
    let placed = c.in-Ok-true.ensures.placed is in
    new_history s new c.self.inside.front c.self.invariant x x c.in-Some.number e placed
    ∙ ap (λ (h : StateValue). norm (changes_of h.history ++ x ∷ [])) c.self.view_is

pub returns-in-Ok-true-clause-changed : goal.returns-in-Ok-true-clause-changed
returns-in-Ok-true-clause-changed c _ same =
    let s = c.self.inside.store in
    let new = c.place_new.new.self in
    let x = Post c.args.post.now in
    let is = ap Ok c.in-Ok-true.field-0-test in
    let e = c.in-Ok-true.ensures.counts is in
    let placed = c.in-Ok-true.ensures.placed is in
    let now = new_history s new c.self.inside.front c.self.invariant x x c.in-Some.number e placed in
    formed_differs s c.self.invariant.normal x x e (sym now ∙ same ∙ sym (ap (λ (h : StateValue). h.history) c.self.view_is))

pub returns-in-Ok-true-clause-numbers : goal.returns-in-Ok-true-clause-numbers
returns-in-Ok-true-clause-numbers c _ =
    let s = c.self.inside.store in
    let new = c.place_new.new.self in
    let x = Post c.args.post.now in
    let is = ap Ok c.in-Ok-true.field-0-test in
    let e = c.in-Ok-true.ensures.counts is in
    let placed = c.in-Ok-true.ensures.placed is in
    let n : c.in-Some.number ≡ c.self.inside.front + 1 = next_is c.checked_add.result (c.self.inside.front + 1 < 18446744073709551616) (c.self.inside.front + 1) c.in-Some.number c.in-Some.is c.checked_add.ensures in
    new_numbers s new c.self.inside.front c.self.invariant x x c.in-Some.number e placed
    ∙ ap (numbers_after _ (history_in new) (key_of x)) n
    ∙ ap (λ (h : StateValue). numbers_after h.numbers (history_in new) (key_of x) (h.front + 1)) c.self.view_is

pub returns-in-Ok-true-clause-held : goal.returns-in-Ok-true-clause-held
returns-in-Ok-true-clause-held c _ start changes was =
    let s = c.self.inside.store in
    let new = c.place_new.new.self in
    let x = Post c.args.post.now in
    let is = ap Ok c.in-Ok-true.field-0-test in
    let e = c.in-Ok-true.ensures.counts is in
    let placed = c.in-Ok-true.ensures.placed is in
    let n : c.in-Some.number ≡ c.self.inside.front + 1 = next_is c.checked_add.result (c.self.inside.front + 1 < 18446744073709551616) (c.self.inside.front + 1) c.in-Some.number c.in-Some.is c.checked_add.ensures in
    new_held s new c.self.inside.front c.self.invariant x x c.in-Some.number e placed n start changes (c.self.view_is ∙ was)
