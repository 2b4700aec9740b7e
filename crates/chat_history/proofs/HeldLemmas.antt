-- What a state holds after one more change, as what it holds of a longer list.
use Rattle.std.proofs.Common.{◌≡◌, ◌≢◌, ℕ, ◌+◌, true, false, cond, not, Some, None, List, [], ◌∷◌, ◌++◌, map, length, refl, sym, ◌∙◌, ap}
use Rattle.std.specs.FinMap as finite
use Rattle.std.specs.Option.{option_to_list}
use Rattle.chat_change.specs.declared.change.Change.{Change}
use Rattle.chat_change.specs.Key.{Key, key_of, same_key}
use Rattle.chat_history.specs.History.{History, norm, changes_of, IsKeyed}
use Rattle.chat_history.specs.Same.{same_history}
use Rattle.chat_history.specs.Numbering.{counts_after, changes_that_count, front, up_to_last, numbers_after}
use Rattle.chat_history.specs.StateValue.{StateValue, state_after}
use Rattle.chat_history.proofs.SameLemmas.{same_history_decides}
use Rattle.chat_history.proofs.SetLemmas.{norm_left}
use Rattle.chat_history.proofs.PieceLemmas.{get-norm, piece_none, bearers_of-changes_of}
use Rattle.chat_history.proofs.AbsorbLemmas.{append_none, bearing_other}
use Rattle.chat_history.proofs.NumberLemmas.{counted-push, front-push, numbers-push}

-- a change leaves no piece at another key that had none
no_other : (h : History) → IsKeyed h → (c : Change) (k : Key) → same_key k (key_of c) ≡ false → finite.get h k ≡ None → finite.get (norm (changes_of h ++ c ∷ [])) k ≡ None
no_other h keyed c k e none =
    get-norm (changes_of h ++ c ∷ []) k
    ∙ piece_none (changes_of h ++ c ∷ []) k (bearing_other k (changes_of h) c e ∙ bearers_of-changes_of h keyed k ∙ ap option_to_list none)

module _ (start : ℕ) (changes : List Change) (c : Change) where
  later : norm (changes_of (norm changes) ++ c ∷ []) ≡ norm (changes ++ c ∷ [])
  later = norm_left changes (c ∷ [])

  counts : norm (changes ++ c ∷ []) ≢ norm changes → counts_after changes c ≡ true
  counts differs =
      elim (same_history (norm (changes ++ c ∷ [])) (norm changes)) as (λ b. same_history (norm (changes ++ c ∷ [])) (norm changes) ≡ b → not b ≡ true) [
        | true ↦ λ e. absurd (differs ((same_history_decides (norm (changes ++ c ∷ [])) (norm changes)).0 e))
        | false ↦ λ _. refl
      ] refl

  counts_not : norm (changes ++ c ∷ []) ≡ norm changes → counts_after changes c ≡ false
  counts_not same = ap not ((same_history_decides (norm (changes ++ c ∷ [])) (norm changes)).1 same)

  -- a change that counts
  pub held_counted : (old new : StateValue) (w : Change) → IsKeyed old.history → old ≡ state_after start changes → new.history ≡ norm (changes_of old.history ++ c ∷ []) → norm (changes_of old.history ++ c ∷ []) ≢ old.history → new.numbers ≡ numbers_after old.numbers new.history (key_of c) (old.front + 1) → new.front ≡ old.front + 1 → finite.get new.history (key_of c) ≡ Some w → new ≡ state_after start (changes ++ c ∷ [])
  held_counted old new w keyed is history differs numbered at_front here =
      let all = ap (λ h. norm (changes_of h.history ++ c ∷ [])) is ∙ later in
      let count = counts (λ same. differs (all ∙ same ∙ sym (ap (λ h. h.history) is))) in
      let now = history ∙ all in
      let nums = numbered ∙ (λ i. numbers_after (is i).numbers (now i) (key_of c) ((is i).front + 1))
      ∙ sym (numbers-push start changes c w count (ap (λ h. finite.get h (key_of c)) (sym now) ∙ here) (λ k e none. ap (λ h. finite.get h k) (sym all) ∙ no_other old.history keyed c k e (ap (λ h. finite.get h.history k) is ∙ none))) in
      let fronts = at_front ∙ ap (λ h. h.front + 1) is ∙ sym (front-push start changes c ∙ ap (λ b. cond b (front start changes + 1) (front start changes)) count) in
      λ i. record { history = now i; numbers = nums i; front = fronts i }

  -- a change that changes nothing
  pub held_same : (old : StateValue) → old ≡ state_after start changes → old.history ≡ norm (changes_of old.history ++ c ∷ []) → old ≡ state_after start (changes ++ c ∷ [])
  held_same old is same =
      let all = ap (λ h. norm (changes_of h.history ++ c ∷ [])) is ∙ later in
      let stays : norm changes ≡ norm (changes ++ c ∷ []) = sym (ap (λ h. h.history) is) ∙ same ∙ all in
      let steps : changes_that_count [] changes ≡ changes_that_count [] (changes ++ c ∷ []) =
      sym (append_none (changes_that_count [] changes)) ∙ ap (λ b. changes_that_count [] changes ++ cond b (c ∷ []) []) (sym (counts_not (sym stays))) ∙ sym (counted-push changes c) in
      is ∙ (λ i. record {
        history = stays i;
        numbers = finite.from_entries (map (λ k. (k, start + up_to_last k (steps i))) (finite.keys (stays i)));
        front = start + length (steps i);
      })
