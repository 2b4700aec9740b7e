-- The states of a list and of those that go on from it.
use Rattle.std.proofs.Common.{◌≡◌, ℕ, ◌+◌, ◌≤◌, true, false, cond, List, [], ◌∷◌, ◌++◌, length, map, refl, sym, ◌∙◌, ap, arith, append_assoc, length-append}
use Rattle.std.proofs.lemmas.List.{append-nil}
use Rattle.std.specs.Prelude.{not}
use Rattle.std.specs.FinMap.{from_entries, keys}
use mathlib.Core.List.{IsPrefix}
use Rattle.chat_change.specs.declared.change.Change.{Change}
use Rattle.chat_history.specs.History.{norm}
use Rattle.chat_history.specs.Numbering.{changes_that_count, counts_after, front, up_to_last}
use Rattle.chat_history.specs.Same.{same_history}
use Rattle.chat_history.specs.StateValue.{StateValue, state_after, HasTaken}
use Rattle.chat_history.proofs.CallerLemmas.{front_grows, same_history_decides}
use Rattle.shared_node.specs.declared.entry.LogEntry.{LogEntry}
use Rattle.shared_node.specs.Lists.{changes_in, state_of}
use Rattle.shared_node.proofs.CallerLemmas.{changes_in-append}

-- ---- where the front stays, nothing changes

counted_more : (before xs ys : List Change) → changes_that_count before (xs ++ ys) ≡ changes_that_count before xs ++ changes_that_count (before ++ xs) ys
counted_more before [] ys = ap (λ b. changes_that_count b ys) (sym (append-nil before))
counted_more before (x ∷ xs) ys =
    let rest = counted_more (before ++ x ∷ []) xs ys ∙ ap (λ b. changes_that_count (before ++ x ∷ []) xs ++ changes_that_count b ys) (append_assoc before (x ∷ []) xs) in
    elim (counts_after before x) as (λ b. cond b (x ∷ changes_that_count (before ++ x ∷ []) (xs ++ ys)) (changes_that_count (before ++ x ∷ []) (xs ++ ys)) ≡ cond b (x ∷ changes_that_count (before ++ x ∷ []) xs) (changes_that_count (before ++ x ∷ []) xs) ++ changes_that_count (before ++ x ∷ xs) ys) [
      | true ↦ ap (λ l. x ∷ l) rest
      | false ↦ rest
    ]

none_counts : (before more : List Change) → changes_that_count before more ≡ [] → norm (before ++ more) ≡ norm before
none_counts before [] none = ap norm (append-nil before)
none_counts before (c ∷ cs) none =
    elim (same_history (norm (before ++ c ∷ [])) (norm before)) as (λ b. same_history (norm (before ++ c ∷ [])) (norm before) ≡ b → cond (not b) (c ∷ changes_that_count (before ++ c ∷ []) cs) (changes_that_count (before ++ c ∷ []) cs) ≡ [] → norm (before ++ c ∷ cs) ≡ norm before) [
      | true ↦ λ same rest. ap norm (sym (append_assoc before (c ∷ []) cs)) ∙ none_counts (before ++ c ∷ []) cs rest ∙ (same_history_decides (norm (before ++ c ∷ [])) (norm before)).0 same
      | false ↦ λ _ some. cc
    ] refl none

no_length : (xs : List Change) → length xs ≤ 0 → xs ≡ []
no_length [] le = refl
no_length (x ∷ xs) le = absurd (omega arith)

same_front : (start : ℕ) (changes more : List Change) → front start (changes ++ more) ≤ front start changes → state_after start (changes ++ more) ≡ state_after start changes
same_front start changes more le =
    let split = counted_more [] changes more in
    let none = no_length (changes_that_count changes more) (omega (arith, ap length split, length-append (changes_that_count [] changes) (changes_that_count changes more))) in
    let same = none_counts changes more none in
    let steps : changes_that_count [] (changes ++ more) ≡ changes_that_count [] changes =
    split ∙ ap (λ l. changes_that_count [] changes ++ l) none ∙ append-nil (changes_that_count [] changes) in
    λ i. record {
      history = same i;
      numbers = from_entries (map (λ k. (k, start + up_to_last k (steps i))) (keys (same i)));
      front = start + length (steps i);
    }

-- ---- published lists

-- a list that lies between two whose states have one front has their state
pub state_between : (list after other : List LogEntry) → IsPrefix list after → IsPrefix after other → (state_of list).front ≡ (state_of other).front → state_of after ≡ state_of list
state_between list after other p q fronts =
    let near : changes_in list ++ changes_in p.0 ≡ changes_in after = sym (changes_in-append list p.0) ∙ ap changes_in p.1 in
    let far : changes_in after ++ changes_in q.0 ≡ changes_in other = sym (changes_in-append after q.0) ∙ ap changes_in q.1 in
    let grows = front_grows 0 (changes_in after) (changes_in q.0) in
    ap (state_after 0) (sym near) ∙ same_front 0 (changes_in list) (changes_in p.0) (omega (arith, ap (front 0) near, ap (front 0) far, grows, fronts))

-- the state of a list takes one entry more
pub state_taken : (list after : List LogEntry) (e : LogEntry) (old new : StateValue) (c : Change) → after ≡ list ++ e ∷ [] → old ≡ state_of list → c ≡ e.change → HasTaken old (c ∷ []) new → new ≡ state_of after
state_taken list after e old new c longer made same held =
    held 0 (changes_in list) made
    ∙ ap (λ d. state_after 0 (changes_in list ++ d ∷ [])) same
    ∙ ap (state_after 0) (sym (changes_in-append list (e ∷ [])))
    ∙ ap state_of (sym longer)
