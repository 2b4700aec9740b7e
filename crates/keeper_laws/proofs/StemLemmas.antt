-- What stems from changes that come from what was made comes from that.
use Rattle.std.proofs.Common.{◌≡◌, ℕ, Some, List, [], ◌∷◌, ◌∙◌, refl, ap, subst, ⊎_elim, arith}
use Rattle.std.specs.FinMap.{get}
use Rattle.std.specs.Prelude.{Contains}
use Rattle.chat_change.specs.Key.{Key}
use Rattle.chat_change.specs.declared.change.Change.{Change}
use Rattle.chat_history.specs.History.{norm}
use Rattle.chat_history.proofs.CallerLemmas.{norm_left}
use Rattle.cluster_directory.specs.declared.version.Version.{Version}
use Rattle.gossip_link.specs.Cluster.{Node, Made, World, start, run}
use Rattle.gossip_link.specs.Promises.{IsReached, IsMade, ComesFrom}
use Rattle.keeper.specs.Keeper.{IsPieceOf, StemsFrom}
use Rattle.keeper.specs.Keeper.StemsFrom.{one, piece}
use Rattle.keeper_laws.proofs.MadeLemmas.{through, last_or_before}
use Rattle.keeper_laws.proofs.RestartLemmas.{ends, there}
use Rattle.keeper_laws.specs.Restart.{restart_with}

nothing_made : (c : Change) → IsMade [] c → ⊥
nothing_made c h = (let lt = h.1.1 in omega (arith, lt))

-- what a node holds was made, as the law of clusters has it
abbrev pub HeldWasMade : Type 0
HeldWasMade = (w : World) → IsReached w → (name : List ℕ) (k : Key) (c : Change) → get (w.nodes name).history k ≡ Some c → ComesFrom w.made c

module _ (law : HeldWasMade) (version : Version) (made : List Made) where
  -- as in a cluster in which these changes alone are made
  pub pieces_come : (list : List Change) → ((c : Change) → Contains list c → ComesFrom made c) → (c : Change) → IsPieceOf list c → ComesFrom made c
  pieces_come list all c is =
      let w = start (λ _. 0) (λ _. version) in
      let events = restart_with [] 1 version list in
      let v = run events w in
      let m : Made = record { by = []; changes = list } in
      let r : IsReached v = record { incarnations = λ _. 0; versions = λ _. version; events = events; differ = (refl, (tt, (tt, tt))); ends = refl } in
      let holds : (v.nodes []).history ≡ norm list = ap (λ (x : Node). x.history) (there w [] 1 version list) ∙ norm_left [] list in
      let come = law v r [] is.0 c (ap (λ h. get h is.0) holds ∙ is.1) in
      through (m ∷ []) made (λ d h. ⊎_elim (all d) (λ none. absurd (nothing_made d none)) (last_or_before m [] d h)) c
      (subst (λ (u : World). ComesFrom u.made c) (ends w [] 1 version list) come)

  pub stems_come : (given : List Change) → ((c : Change) → Contains given c → ComesFrom made c) → (c : Change) → StemsFrom given c → ComesFrom made c
  stems_come given all _ (one c is) = all c is
  stems_come given all _ (piece list c stems is) = pieces_come list (λ d h. stems_come given all d (stems d h)) c is
