-- The target that a line of CHATHISTORY gives is lawful where the line reads as a query on a target.
use Rattle.std.proofs.Common.{◌≡◌, ℕ, Bool, true, false, cond, List, [], ◌∷◌, Option, None, Some, Result, Ok, Err, codes, refl}
use Rattle.std.specs.Prelude.{⊤, IfOk, ◌&&◌, ◌||◌}
use Rattle.std.proofs.lemmas.Option.{cond_some}
use Rattle.chat_change.specs.Words.{is_star, is_target, lower_case_of}
use Rattle.chat_query.specs.Limit.{limit_of}
use Rattle.chat_query.specs.declared.query.Query.{Query}
use Rattle.chat_query.specs.declared.query.Query.TheVariants.{Latest, Before, After, Around, Between, Targets}
use Rattle.chat_query.specs.declared.parameters.Selected.{Selected}
use Rattle.chat_query.specs.declared.parameters.QueryFault.{QueryFault}
use Rattle.chat_query.specs.declared.parameters.QueryFault.TheVariants.{InvalidTarget, InvalidMsgRef, InvalidParams}
use Rattle.chat_query.specs.Parameters.{target_of, has_timestamp_key, has_key, timestamp_of, selector_of, selector_or_none_of, checked, unless, mapped, latest_of, selected_of, between_of, targets_of, is_word, read_behind, read_query}

-- the second of the parameters
abbrev pub second_of : List (List ℕ) → List ℕ
second_of (word ∷ given ∷ more) = given
second_of _ = []

-- a query on a target was given a lawful one
abbrev pub HasGiven : List ℕ → Query → Type 0
HasGiven given (Targets t u limit) = ⊤
HasGiven given (Latest target s limit) = is_target given ≡ true
HasGiven given (Before target s limit) = is_target given ≡ true
HasGiven given (After target s limit) = is_target given ≡ true
HasGiven given (Around target s limit) = is_target given ≡ true
HasGiven given (Between target s u limit) = is_target given ≡ true

module _ {B : Type 0} (Q : B → Type 0) where
  if_checked : {A : Type 0} (o : Option A) (fault : QueryFault) (more : A → Result B QueryFault) → ((x : A) → o ≡ Some x → IfOk (more x) Q) → IfOk (checked o fault more) Q
  if_checked None fault more h = tt
  if_checked (Some x) fault more h = h x refl

  if_unless : (passed : Bool) (fault : QueryFault) (more : Result B QueryFault) → IfOk more Q → IfOk (unless passed fault more) Q
  if_unless true fault more h = h
  if_unless false fault more h = tt

  if_mapped : {A : Type 0} (f : A → B) (r : Result A QueryFault) → IfOk r (λ x. Q (f x)) → IfOk (mapped f r) Q
  if_mapped f (Ok x) h = h
  if_mapped f (Err fault) h = tt

  if_either : (b : Bool) (one other : Result B QueryFault) → IfOk one Q → IfOk other Q → IfOk (cond b one other) Q
  if_either true one other h k = h
  if_either false one other h k = k

given_target : (given t : List ℕ) → target_of given ≡ Some t → is_target given ≡ true
given_target given t e = (cond_some (is_target given) (lower_case_of given) t e).0

-- the first of the parameters behind the subcommand
abbrev first_of_list : List (List ℕ) → List ℕ
first_of_list [] = []
first_of_list (given ∷ more) = given

latest_given : (ps : List (List ℕ)) → IfOk (latest_of ps) (HasGiven (first_of_list ps))
latest_given [] = tt
latest_given (a ∷ []) = tt
latest_given (a ∷ b ∷ []) = tt
latest_given (a ∷ b ∷ c ∷ more) =
    if_checked (HasGiven a) (target_of a) InvalidTarget _ (λ t e.
    if_unless (HasGiven a) (is_star b || has_key b) InvalidMsgRef _ (
    if_checked (HasGiven a) (selector_or_none_of b) InvalidParams _ (λ s _.
    if_checked (HasGiven a) (limit_of c) InvalidParams _ (λ n _. given_target a t e))))

selected_given : (ps : List (List ℕ)) → IfOk (selected_of ps) (λ _. is_target (first_of_list ps) ≡ true)
selected_given [] = tt
selected_given (a ∷ []) = tt
selected_given (a ∷ b ∷ []) = tt
selected_given (a ∷ b ∷ c ∷ more) =
    if_checked (λ _. is_target a ≡ true) (target_of a) InvalidTarget _ (λ t e.
    if_unless (λ _. is_target a ≡ true) (has_key b) InvalidMsgRef _ (
    if_checked (λ _. is_target a ≡ true) (selector_of b) InvalidParams _ (λ s _.
    if_checked (λ _. is_target a ≡ true) (limit_of c) InvalidParams _ (λ n _. given_target a t e))))

between_given : (ps : List (List ℕ)) → IfOk (between_of ps) (HasGiven (first_of_list ps))
between_given [] = tt
between_given (a ∷ []) = tt
between_given (a ∷ b ∷ []) = tt
between_given (a ∷ b ∷ c ∷ []) = tt
between_given (a ∷ b ∷ c ∷ d ∷ more) =
    if_checked (HasGiven a) (target_of a) InvalidTarget _ (λ t e.
    if_unless (HasGiven a) (has_key b && has_key c) InvalidMsgRef _ (
    if_checked (HasGiven a) (selector_of b) InvalidParams _ (λ s _.
    if_checked (HasGiven a) (selector_of c) InvalidParams _ (λ u _.
    if_checked (HasGiven a) (limit_of d) InvalidParams _ (λ n _. given_target a t e)))))

targets_given : (given : List ℕ) (ps : List (List ℕ)) → IfOk (targets_of ps) (HasGiven given)
targets_given given [] = tt
targets_given given (a ∷ []) = tt
targets_given given (a ∷ b ∷ []) = tt
targets_given given (a ∷ b ∷ c ∷ more) =
    if_unless (HasGiven given) (has_timestamp_key a && has_timestamp_key b) InvalidMsgRef _ (
    if_checked (HasGiven given) (timestamp_of a) InvalidParams _ (λ t _.
    if_checked (HasGiven given) (timestamp_of b) InvalidParams _ (λ u _.
    if_checked (HasGiven given) (limit_of c) InvalidParams _ (λ n _. tt))))

behind_given : (word : List ℕ) (ps : List (List ℕ)) → IfOk (read_behind word ps) (HasGiven (first_of_list ps))
behind_given word ps =
    let Q = HasGiven (first_of_list ps) in
    if_either Q (is_word (codes "LATEST") word) _ _ (latest_given ps)
    (if_either Q (is_word (codes "BEFORE") word) _ _ (if_mapped Q (λ (p : Selected). Before p.target p.selector p.limit) (selected_of ps) (selected_given ps))
    (if_either Q (is_word (codes "AFTER") word) _ _ (if_mapped Q (λ (p : Selected). After p.target p.selector p.limit) (selected_of ps) (selected_given ps))
    (if_either Q (is_word (codes "AROUND") word) _ _ (if_mapped Q (λ (p : Selected). Around p.target p.selector p.limit) (selected_of ps) (selected_given ps))
    (if_either Q (is_word (codes "BETWEEN") word) _ _ (between_given ps)
    (if_either Q (is_word (codes "TARGETS") word) _ _ (targets_given (first_of_list ps) ps) tt)))))

pub query_given : (parameters : List (List ℕ)) → IfOk (read_query parameters) (HasGiven (second_of parameters))
query_given [] = tt
query_given (word ∷ []) = behind_given word []
query_given (word ∷ given ∷ more) = behind_given word (given ∷ more)
