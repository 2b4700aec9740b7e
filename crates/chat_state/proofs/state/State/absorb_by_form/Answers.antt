use Rattle.std.proofs.Common.{rules, ◌≡◌, ◌+◌, ◌<◌, ◌++◌, ◌∷◌, [], Some, None, refl, sym, ap, ◌∙◌, subst, arith}
use Rattle.std.specs.Option.{option_map}
use Rattle.chat_change.specs.Key.{key_of}
use Rattle.chat_history.specs.History.{norm, changes_of}
use Rattle.chat_history.specs.StateValue.{StateValue}
use Rattle.chat_state.specs.Form.{form}
use Rattle.chat_state.specs.Form.{piece_in}
use Rattle.chat_change.specs.ChangeRef.{change_of}
use Rattle.chat_history.specs.Numbering.{numbers_after}
use Rattle.chat_buffers.specs.Store.{history_in}
use Rattle.chat_state.proofs.FitsLemmas.{formed_fits}
use Rattle.chat_state.proofs.StateLemmas.{next_is}
use Rattle.chat_state.proofs.StateLemmas.{unformed, formed_differs, new_history, new_numbers, new_sound, new_held, kept_held}
use Rattle.chat_state.proofs.state.State.absorb_by_form.Goals as goal

pub returns-in_default-clause-ok : goal.returns-in_default-clause-ok
returns-in_default-clause-ok c =
    let e : form c.self.inside.store (change_of c.args.change.now) ≡ None = sym c.form_of.ensures ∙ ap (option_map (piece_in (change_of c.args.change.now))) c.in_default.is in
    subst (λ (h : StateValue). h.history ≡ norm (changes_of h.history ++ (change_of c.args.change.now) ∷ [])) c.self.view_is (sym (unformed c.self.inside.store c.self.invariant.normal (change_of c.args.change.now) e))

pub returns-in_default-clause-held : goal.returns-in_default-clause-held
returns-in_default-clause-held c start changes was =
    let e : form c.self.inside.store (change_of c.args.change.now) ≡ None = sym c.form_of.ensures ∙ ap (option_map (piece_in (change_of c.args.change.now))) c.in_default.is in
    sym c.self.view_is ∙ kept_held c.self.inside.store c.self.inside.front c.self.invariant (change_of c.args.change.now) e start changes (c.self.view_is ∙ was)

pub returns-in_default-clause-exhausted : goal.returns-in_default-clause-exhausted
returns-in_default-clause-exhausted c =
    let e : form c.self.inside.store (change_of c.args.change.now) ≡ None = sym c.form_of.ensures ∙ ap (option_map (piece_in (change_of c.args.change.now))) c.in_default.is in (
      λ no. cc no,
      λ past. absurd (past.1 (subst (λ (h : StateValue). norm (changes_of h.history ++ (change_of c.args.change.now) ∷ []) ≡ h.history) c.self.view_is (unformed c.self.inside.store c.self.invariant.normal (change_of c.args.change.now) e))),
    )

pub returns-in_default-checked_add-clause-exhausted : goal.returns-in_default-checked_add-clause-exhausted
returns-in_default-checked_add-clause-exhausted c =
    let d = piece_in (change_of c.args.change.now) c.in-Some.form in
    let e : form c.self.inside.store (change_of c.args.change.now) ≡ Some d = sym c.form_of.ensures ∙ ap (option_map (piece_in (change_of c.args.change.now))) c.in-Some.is in
    let no = c.in_default-checked_add.ensures in
    let last : c.self.inside.front ≡ 18446744073709551615 = search (rules, no) in (
      λ _. (
        ap (λ (h : StateValue). h.front) (sym c.self.view_is) ∙ last,
        λ same. formed_differs c.self.inside.store c.self.invariant.normal (change_of c.args.change.now) d e (subst (λ (h : StateValue). norm (changes_of h.history ++ (change_of c.args.change.now) ∷ []) ≡ h.history) (sym c.self.view_is) same),
      ),
      λ _. refl,
    )

pub place-requires : goal.place-requires
place-requires c =
    let n : c.in-Some-checked_add.number ≡ c.self.inside.front + 1 = next_is c.checked_add.result (c.self.inside.front + 1 < 18446744073709551616) (c.self.inside.front + 1) c.in-Some-checked_add.number c.in-Some-checked_add.is c.checked_add.ensures in
    let e : form c.self.inside.store (change_of c.args.change.now) ≡ Some c.in-Ok.piece = sym c.form_of.ensures ∙ ap (option_map (piece_in (change_of c.args.change.now))) c.in-Some.is ∙ ap Some (sym c.in-Ok.ensures) in
    record {
      fits = formed_fits c.self.inside.store c.self.invariant.normal (change_of c.args.change.now) c.in-Ok.piece e;
      fresh = λ k m e. let l = c.self.invariant.numbers.reached k m e in omega (arith, n, l);
    }

pub invariant_of-self-2 : goal.invariant_of-self-2
invariant_of-self-2 c =
    let s = c.self.inside.store in
    let n : c.in-Some-checked_add.number ≡ c.self.inside.front + 1 = next_is c.checked_add.result (c.self.inside.front + 1 < 18446744073709551616) (c.self.inside.front + 1) c.in-Some-checked_add.number c.in-Some-checked_add.is c.checked_add.ensures in
    let e : form s (change_of c.args.change.now) ≡ Some c.in-Ok.piece = sym c.form_of.ensures ∙ ap (option_map (piece_in (change_of c.args.change.now))) c.in-Some.is ∙ ap Some (sym c.in-Ok.ensures) in
    new_sound s c.place.new.self c.self.inside.front c.self.invariant (change_of c.args.change.now) c.in-Ok.piece c.in-Some-checked_add.number e (c.place.ensures.placed c.if-not-place.false) (omega (arith, n))

pub returns-clause-ok : goal.returns-clause-ok
returns-clause-ok c =
    let s = c.self.inside.store in
    let e : form s (change_of c.args.change.now) ≡ Some c.in-Ok.piece = sym c.form_of.ensures ∙ ap (option_map (piece_in (change_of c.args.change.now))) c.in-Some.is ∙ ap Some (sym c.in-Ok.ensures) in
    new_history s c.place.new.self c.self.inside.front c.self.invariant (change_of c.args.change.now) c.in-Ok.piece c.in-Some-checked_add.number e (c.place.ensures.placed c.if-not-place.false)
    ∙ ap (λ (h : StateValue). norm (changes_of h.history ++ (change_of c.args.change.now) ∷ [])) c.self.view_is

pub returns-clause-changed : goal.returns-clause-changed
returns-clause-changed c =
    let s = c.self.inside.store in
    let e : form s (change_of c.args.change.now) ≡ Some c.in-Ok.piece = sym c.form_of.ensures ∙ ap (option_map (piece_in (change_of c.args.change.now))) c.in-Some.is ∙ ap Some (sym c.in-Ok.ensures) in
    let now = new_history s c.place.new.self c.self.inside.front c.self.invariant (change_of c.args.change.now) c.in-Ok.piece c.in-Some-checked_add.number e (c.place.ensures.placed c.if-not-place.false) in
    (λ _ same. formed_differs s c.self.invariant.normal (change_of c.args.change.now) c.in-Ok.piece e (sym now ∙ same ∙ sym (ap (λ (h : StateValue). h.history) c.self.view_is)), λ _. refl)

pub returns-clause-numbers : goal.returns-clause-numbers
returns-clause-numbers c =
    let s = c.self.inside.store in
    let n : c.in-Some-checked_add.number ≡ c.self.inside.front + 1 = next_is c.checked_add.result (c.self.inside.front + 1 < 18446744073709551616) (c.self.inside.front + 1) c.in-Some-checked_add.number c.in-Some-checked_add.is c.checked_add.ensures in
    let e : form s (change_of c.args.change.now) ≡ Some c.in-Ok.piece = sym c.form_of.ensures ∙ ap (option_map (piece_in (change_of c.args.change.now))) c.in-Some.is ∙ ap Some (sym c.in-Ok.ensures) in
    new_numbers s c.place.new.self c.self.inside.front c.self.invariant (change_of c.args.change.now) c.in-Ok.piece c.in-Some-checked_add.number e (c.place.ensures.placed c.if-not-place.false)
    ∙ ap (numbers_after _ (history_in c.place.new.self) (key_of (change_of c.args.change.now))) n
    ∙ ap (λ (h : StateValue). numbers_after h.numbers (history_in c.place.new.self) (key_of (change_of c.args.change.now)) (h.front + 1)) c.self.view_is

pub returns-clause-held : goal.returns-clause-held
returns-clause-held c start changes was =
    let s = c.self.inside.store in
    let n : c.in-Some-checked_add.number ≡ c.self.inside.front + 1 = next_is c.checked_add.result (c.self.inside.front + 1 < 18446744073709551616) (c.self.inside.front + 1) c.in-Some-checked_add.number c.in-Some-checked_add.is c.checked_add.ensures in
    let e : form s (change_of c.args.change.now) ≡ Some c.in-Ok.piece = sym c.form_of.ensures ∙ ap (option_map (piece_in (change_of c.args.change.now))) c.in-Some.is ∙ ap Some (sym c.in-Ok.ensures) in
    new_held s c.place.new.self c.self.inside.front c.self.invariant (change_of c.args.change.now) c.in-Ok.piece c.in-Some-checked_add.number e (c.place.ensures.placed c.if-not-place.false) n start changes (c.self.view_is ∙ was)
