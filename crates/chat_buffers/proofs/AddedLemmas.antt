-- A walk over entries that adds the buffers of an account to a list, and ends at the first of another account.
use Rattle.std.proofs.Common.{◌≡◌, ℕ, refl, sym, ◌∙◌, ap, suc, ◌+◌, ◌<◌, length, length-append, List, [], ◌∷◌, ◌++◌, map, take, reverse, true, false, cond, Option, Some, None, Bor, append_assoc, append-nil, arith}
use Rattle.std.proofs.lemmas.Bool.{false≢true}
use Rattle.std.proofs.lemmas.List.{reverse-append}
use Rattle.std.specs.BTreeMap as tree
use Rattle.std.specs.BTreeMap.Range.{entries_between}
use Rattle.std.specs.declared.ops.Bound.TheVariants.{Included, Excluded, Unbounded}
use Rattle.std.specs.List.{prefix_len}
use Rattle.std.specs.Map.Iter.{TakesFirst, TakesLast, deref_pair}
use Rattle.std.specs.Option.{option_map}
use Rattle.chat_change.specs.Buffer.{Buffer}
use Rattle.chat_change.specs.Order.{buffer_cmp}
use Rattle.chat_history.specs.Retention.{same_account}
use Rattle.chat_buffers.specs.Ahead.{Entries}
use Rattle.chat_buffers.specs.Entering.{IsAddedOf, AreBuffersOf}
use Rattle.chat_buffers.specs.declared.held.Held.{Held}
use Rattle.chat_buffers.proofs.HeldLemmas.{same_account_is}
use Rattle.chat_buffers.proofs.AccountLemmas.{is_of, all_taken, same_account_itself}
use Rattle.chat_buffers.proofs.SettleLemmas.{Accounts, Tree, seen}

-- the buffers that the walk adds
abbrev pub to_add : List ℕ → Entries → List Buffer
to_add a es = map (λ (e : Buffer × Held). e.0) (take (prefix_len (is_of a) es) es)

added_first : (a : List ℕ) (e : Buffer × Held) (es : Entries) → is_of a e ≡ true → to_add a (e ∷ es) ≡ e.0 ∷ to_add a es
added_first a e es t =
    let len : prefix_len (is_of a) (e ∷ es) ≡ suc (prefix_len (is_of a) es) = ap (λ b. cond b (1 + prefix_len (is_of a) es) 0) t ∙ omega arith in
    ap (λ n. map (λ (x : Buffer × Held). x.0) (take n (e ∷ es))) len

added_none : (a : List ℕ) (e : Buffer × Held) (es : Entries) → is_of a e ≡ false → to_add a (e ∷ es) ≡ []
added_none a e es f =
    ap (λ n. map (λ (x : Buffer × Held). x.0) (take n (e ∷ es))) (ap (λ b. cond b (1 + prefix_len (is_of a) es) 0) f)

abbrev pub buffer_in : Option (Bor Buffer × Bor Held) → Option Buffer
buffer_in r = option_map (λ (e : Bor Buffer × Bor Held). e.0.now) r

pub added_one : (a : List ℕ) (b : Buffer) (old new : List Buffer) → b.account ≡ a → new ≡ old ++ b ∷ [] → IsAddedOf a (Some b) old new true
added_one a b old new is added = (sym (ap (λ d. same_account d a) is ∙ same_account_itself a), added)

pub added_other : (a : List ℕ) (b : Buffer) (old : List Buffer) → (b.account ≡ a → false ≡ true) → IsAddedOf a (Some b) old old false
added_other a b old other =
    elim (same_account b.account a) as (λ x. same_account b.account a ≡ x → IsAddedOf a (Some b) old old false) [
      | true ↦ λ t. absurd (false≢true (other (same_account_is b.account a t)))
      | false ↦ λ f. (sym f, refl)
    ] refl

module _ (a : List ℕ) (es rest : Entries) (old new : List Buffer) where
  -- a step after which the walk goes on
  pub walk_on : (r : Option (Bor Buffer × Bor Held)) → TakesFirst deref_pair es r rest → IsAddedOf a (buffer_in r) old new true → new ++ to_add a rest ≡ old ++ to_add a es
  walk_on None step added = absurd (false≢true (sym added.0))
  walk_on (Some e) step added =
      ap (λ l. l ++ to_add a rest) added.1
      ∙ append_assoc old (e.0.now ∷ []) (to_add a rest)
      ∙ ap (λ l. old ++ l) (sym (added_first a (deref_pair e) rest (sym added.0)))
      ∙ ap (λ l. old ++ to_add a l) (sym step)

  -- the step with which it ends
  pub walk_ends : (r : Option (Bor Buffer × Bor Held)) → TakesFirst deref_pair es r rest → IsAddedOf a (buffer_in r) old new false → new ≡ old ++ to_add a es
  walk_ends None step added =
      added.1 ∙ sym (append-nil old) ∙ ap (λ l. old ++ to_add a l) (sym step.0)
  walk_ends (Some e) step added =
      added.1 ∙ sym (append-nil old)
      ∙ ap (λ l. old ++ l) (sym (added_none a (deref_pair e) rest (sym added.0)))
      ∙ ap (λ l. old ++ to_add a l) (sym step)

-- the last of a list is the first of its reverse
pub last_first : (es rest : Entries) (r : Option (Bor Buffer × Bor Held)) → TakesLast deref_pair es r rest → TakesFirst deref_pair (reverse es) r (reverse rest)
last_first es rest None step = (ap reverse step.0, ap reverse step.1)
last_first es rest (Some e) step = ap reverse step ∙ reverse-append rest (deref_pair e ∷ [])

-- such a walk goes on where the list got shorter
pub walk_shortens : (a : List ℕ) (es rest : Entries) (old new : List Buffer) (r : Option (Bor Buffer × Bor Held)) → TakesLast deref_pair es r rest → IsAddedOf a (buffer_in r) old new true → length rest < length es
walk_shortens a es rest old new None step added = absurd (false≢true (sym added.0))
walk_shortens a es rest old new (Some e) step added =
    let len : length es ≡ length rest + 1 = ap length step ∙ length-append rest (deref_pair e ∷ []) in
    omega arith

-- two walks from one of the account's buffers, down and up, add all of them
pub all_added : (ac : Accounts) (bs : Tree) → tree.IsOrdered buffer_cmp bs → (a : List ℕ) (middle : Buffer) → middle.account ≡ a → (below above : Entries)
    → below ≡ entries_between buffer_cmp Unbounded (Excluded middle) bs.entries → above ≡ entries_between buffer_cmp (Included middle) Unbounded bs.entries
    → (found : List Buffer) → found ≡ to_add a (reverse below) ++ to_add a above → AreBuffersOf (seen ac bs) a found
all_added ac bs ordered a middle its below above lower upper found added =
    all_taken ac bs ordered a middle its found
    (added
    ∙ ap (λ es. to_add a (reverse es) ++ to_add a above) lower
    ∙ ap (λ es. to_add a (reverse (entries_between buffer_cmp Unbounded (Excluded middle) bs.entries)) ++ to_add a es) upper)
