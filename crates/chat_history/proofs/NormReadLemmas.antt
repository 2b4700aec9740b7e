-- What is read off the normal form of a set of changes is what the set says.
use Rattle.std.proofs.Common.{◌≡◌, ℕ, ◌<◌, Bool, true, false, cond, Option, Some, None, List, [], refl, sym, ◌∙◌, ap, arith}
use Rattle.std.proofs.lemmas.Bool.Decides.{nat_tests}
use Rattle.std.specs.Prelude.{nat_lt}
use Rattle.std.specs.FinMap.{get}
use Rattle.std.specs.List.{list_any, cons_option}
use Rattle.std.specs.Option.{option_and_then, option_to_list}
use Rattle.chat_change.specs.Buffer.{Buffer}
use Rattle.chat_change.specs.Extent.{OfAccount, OfBuffer}
use Rattle.chat_change.specs.declared.change.Change.{Change}
use Rattle.chat_change.specs.declared.change.Change.TheVariants.{Floor, AccountFloor}
use Rattle.chat_history.specs.Choice.{greatest}
use Rattle.chat_change.specs.Key.{FloorOf, MessageOf, bearers_of}
use Rattle.chat_history.specs.History.{floor, own_floor, account_floor, is_gone, kept_record, position_of, message_moment, is_redaction, piece, norm, changes_of}
use Rattle.chat_history.specs.Lookups.{position_in}
use Rattle.chat_history.proofs.ChoiceLemmas.{keep}
use Rattle.chat_history.proofs.PieceLemmas.{floor_piece, not_below_zero, bearers_of-norm, get-norm}
use Rattle.chat_history.proofs.NormLemmas.{top, best, at_least, stays, floor-norm, kept-best, position-top, gone_piece, best_piece, top_piece}

keep_twice : {A : Type 0} (p : A → Bool) (u : Option A) → keep p (keep p u) ≡ keep p u
keep_twice p None = refl
keep_twice p (Some x) = elim (p x) as (λ b. p x ≡ b → keep p (cond b (Some x) None) ≡ cond b (Some x) None) [ true ↦ λ e. ap (λ b. cond b (Some x) None) e | false ↦ λ _. refl ] refl

greatest_one : (u : Option ℕ) → greatest (cons_option u []) ≡ u
greatest_one None = refl
greatest_one (Some t) = refl

pub top_one : (u : Option Change) → top (option_to_list u) ≡ option_and_then message_moment u
top_one None = refl
top_one (Some c) = greatest_one (message_moment c)

module _ (changes : List Change) (b : Buffer) (m : List ℕ) where
  pub gone-norm : is_gone (changes_of (norm changes)) b m ≡ is_gone changes b m
  gone-norm = ap (list_any is_redaction) (bearers_of-norm changes (MessageOf b m)) ∙ gone_piece changes b m

  pub position-norm : position_of (changes_of (norm changes)) b m ≡ position_of changes b m
  position-norm =
      let f = floor changes b in
      position-top (changes_of (norm changes)) b m
      ∙ ap (λ g. keep (at_least g) (top (bearers_of (MessageOf b m) (changes_of (norm changes))))) (floor-norm changes b)
      ∙ ap (λ cs. keep (at_least f) (top cs)) (bearers_of-norm changes (MessageOf b m))
      ∙ ap (keep (at_least f)) (top_piece changes b m ∙ position-top changes b m)
      ∙ keep_twice (at_least f) (top (bearers_of (MessageOf b m) changes))
      ∙ sym (position-top changes b m)

  pub kept-norm : is_gone changes b m ≡ false → kept_record (changes_of (norm changes)) b m ≡ kept_record changes b m
  kept-norm e =
      let f = floor changes b in
      kept-best (changes_of (norm changes)) b m
      ∙ ap (λ g. keep (stays g) (best (bearers_of (MessageOf b m) (changes_of (norm changes))))) (floor-norm changes b)
      ∙ ap (λ cs. keep (stays f) (best cs)) (bearers_of-norm changes (MessageOf b m))
      ∙ ap (keep (stays f)) (best_piece changes b m e ∙ kept-best changes b m)
      ∙ keep_twice (stays f) (best (bearers_of (MessageOf b m) changes))
      ∙ sym (kept-best changes b m)

  pub position_in-norm : position_in (norm changes) b m ≡ position_of changes b m
  position_in-norm = ap (option_and_then message_moment) (get-norm changes (MessageOf b m)) ∙ sym (top_one (piece changes (MessageOf b m))) ∙ top_piece changes b m

-- ---- which floors are held

module _ (changes : List Change) where
  pub account_held : (a : List ℕ) → 0 < account_floor changes a → get (norm changes) (FloorOf (OfAccount a)) ≡ Some (AccountFloor a (account_floor changes a))
  account_held a l =
      let f = account_floor changes a in
      let above : nat_lt 0 f ≡ true = grind (arith, nat_tests) in
      get-norm changes (FloorOf (OfAccount a)) ∙ ap (λ s. cond s (Some (AccountFloor a f)) None) above

  pub account_not_held : (a : List ℕ) → account_floor changes a ≡ 0 → get (norm changes) (FloorOf (OfAccount a)) ≡ None
  account_not_held a z =
      get-norm changes (FloorOf (OfAccount a)) ∙ ap (floor_piece (OfAccount a) 0) z ∙ ap (λ s. cond s (Some (AccountFloor a 0)) None) (not_below_zero 0)

  pub buffer_held : (b : Buffer) → account_floor changes b.account < floor changes b → get (norm changes) (FloorOf (OfBuffer b)) ≡ Some (Floor b (floor changes b))
  buffer_held b l =
      let around = account_floor changes b.account in
      let is : own_floor changes (OfBuffer b) ≡ floor changes b = omega arith in
      let above : nat_lt around (floor changes b) ≡ true = grind (arith, nat_tests) in
      get-norm changes (FloorOf (OfBuffer b))
      ∙ ap (floor_piece (OfBuffer b) around) is
      ∙ ap (λ s. cond s (Some (Floor b (floor changes b))) None) above

  pub buffer_not_held : (b : Buffer) → floor changes b ≡ account_floor changes b.account → get (norm changes) (FloorOf (OfBuffer b)) ≡ None
  buffer_not_held b e =
      let around = account_floor changes b.account in
      let own = own_floor changes (OfBuffer b) in
      let under : nat_lt around own ≡ false = grind (arith, nat_tests) in
      get-norm changes (FloorOf (OfBuffer b)) ∙ ap (λ s. cond s (Some (Floor b own)) None) under
