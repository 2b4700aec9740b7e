-- Too few parameters behind a subcommand.
use Rattle.std.proofs.Common.{◌≡◌, ℕ, ◌<◌, List, [], ◌∷◌, length, map, Err, refl, arith}
use Rattle.chat_query.specs.Parameters.{latest_of, selected_of, between_of}
use Rattle.chat_query.specs.declared.parameters.QueryFault.TheVariants.{NeedMoreParams}

module _ {P : Type 0} (text : P → List ℕ) where
  pub few_of_latest : (ps : List P) → length ps < 3 → Err NeedMoreParams ≡ latest_of (map text ps)
  few_of_latest [] h = refl
  few_of_latest (a ∷ []) h = refl
  few_of_latest (a ∷ b ∷ []) h = refl
  few_of_latest (a ∷ b ∷ c ∷ ps) h = absurd (omega arith)

  pub few_selected : (ps : List P) → length ps < 3 → Err NeedMoreParams ≡ selected_of (map text ps)
  few_selected [] h = refl
  few_selected (a ∷ []) h = refl
  few_selected (a ∷ b ∷ []) h = refl
  few_selected (a ∷ b ∷ c ∷ ps) h = absurd (omega arith)

  pub few_of_between : (ps : List P) → length ps < 4 → Err NeedMoreParams ≡ between_of (map text ps)
  few_of_between [] h = refl
  few_of_between (a ∷ []) h = refl
  few_of_between (a ∷ b ∷ []) h = refl
  few_of_between (a ∷ b ∷ c ∷ []) h = refl
  few_of_between (a ∷ b ∷ c ∷ d ∷ ps) h = absurd (omega arith)
