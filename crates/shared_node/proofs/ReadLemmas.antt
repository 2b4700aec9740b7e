-- What a delta says of what a pass has seen.
use Rattle.std.proofs.Common.{◌≡◌, ◌≢◌, ℕ, List, ◌++◌, Result, Ok, Err, refl, sym, ◌∙◌, ap}
use Rattle.std.specs.Prelude.{IfOk, OnErr}
use Rattle.chat_change.specs.declared.change.Change.{Change}
use Rattle.chat_history.specs.Numbering.{Delta, delta}
use Rattle.chat_history.specs.declared.delta.DeltaFault.{DeltaFault}
use Rattle.chat_history.specs.declared.delta.DeltaFault.TheVariants.{NoEntry, NoMemory}
use Rattle.shared_node.specs.Lists.{changes_in}
use Rattle.shared_node.specs.Passes.{PassValue, Reads}
use Rattle.shared_node.proofs.CallerLemmas.{HasSeen, seen_further, kept}

module _ (old new : PassValue) where
  pub delta_given : (from : ℕ) (r : Result Delta DeltaFault) → IfOk r (λ (d : Delta). d ≡ delta 0 (changes_in new.list) from) → (r ≢ Err NoEntry → Reads old new)
      → IfOk r (λ (d : Delta). (start : ℕ) (list : List Change) → HasSeen old start list
      → (others : List Change) × Unit {0} × (HasSeen new start (list ++ others) × (d ≡ delta start (list ++ others) from)))
  delta_given from (Ok d) is seen = λ start list held.
      let f = seen_further old.list new.list (seen (λ e. cc e)).0.0 list held.1 in
      (f.0, tt, ((held.0, f.1), is ∙ (λ i. delta (sym held.0 i) (sym f.1 i) from)))
  delta_given from (Err e) is seen = tt

  pub delta_kept : (r : Result Delta DeltaFault) → (r ≢ Err NoEntry → Reads old new) → (r ≡ Err NoEntry → new ≡ old)
      → OnErr r ((start : ℕ) (list : List Change) → HasSeen old start list
      → (others : List Change) × Unit {0} × HasSeen new start (list ++ others))
  delta_kept (Ok d) seen none = tt
  delta_kept (Err NoEntry) seen none = kept old new (ap (λ (p : PassValue). p.list) (none refl))
  delta_kept (Err NoMemory) seen none = λ start list held.
      let f = seen_further old.list new.list (seen (λ e. cc e)).0.0 list held.1 in
      (f.0, tt, (held.0, f.1))
