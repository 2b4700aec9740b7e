-- What a network has seen of its node once it was read or put to.
use Rattle.std.proofs.Common.{◌≡◌, ◌≢◌, ℕ, List, [], ◌∷◌, ◌++◌, Option, None, Some, Result, Ok, Err, refl, sym, ◌∙◌, ap, subst, append_assoc}
use Rattle.std.specs.Io.KnownBytes.{Appends}
use Rattle.std.proofs.Math.Logic.{∥∥₁_map, ∥∥₁_map₂}
use Rattle.std.proofs.lemmas.List.{append-nil}
use mathlib.Core.List.{IsPrefix}
use Rattle.byte_text.specs.Writes.{AppendsPrefix}
use Rattle.chat_change.specs.declared.change.Change.{Change}
use Rattle.chat_history.specs.Numbering.{Delta}
use Rattle.chat_history.specs.declared.delta.DeltaFault.{DeltaFault}
use Rattle.chat_history.specs.declared.delta.DeltaFault.TheVariants.{NoEntry, NoMemory}
use Rattle.shared_node.specs.declared.entry.LogEntry.{LogEntry}
use Rattle.shared_node.specs.Lists.{changes_in, under}
use Rattle.shared_node.proofs.CallerLemmas.{changes_in-append}
use Rattle.network_log.specs.Facts.{NodeFacts}
use Rattle.network_log.specs.Peer.{IsInNode}
use Rattle.network_log.specs.Putting.{ArePublished, IsSeen, Same, More}
use Rattle.shared_node.specs.Passes.{PassValue, Reads}

pub prefix_refl : {X : Type 0} (xs : List X) → IsPrefix xs xs
prefix_refl xs = ([], append-nil xs)

pub prefix_trans : {X : Type 0} (xs ys zs : List X) → IsPrefix xs ys → IsPrefix ys zs → IsPrefix xs zs
prefix_trans xs ys zs p q = (p.0 ++ q.0, sym (append_assoc xs p.0 q.0) ∙ ap (λ l. l ++ q.0) p.1 ∙ q.1)

-- a prefix of a list has a prefix of its changes
pub changes_prefix : (xs ys : List LogEntry) → IsPrefix xs ys → IsPrefix (changes_in xs) (changes_in ys)
changes_prefix xs ys p = (changes_in p.0, sym (changes_in-append xs p.0) ∙ ap changes_in p.1)

changes_in-under : (by : ℕ) (changes : List Change) → changes_in (under by changes) ≡ changes
changes_in-under by [] = refl
changes_in-under by (c ∷ cs) = ap (λ l. c ∷ l) (changes_in-under by cs)

-- each first part of a list was held
abbrev pub AreHeld : NodeFacts → List LogEntry → Type 0
AreHeld facts list = (first : List Change) → IsPrefix first (changes_in list) → ∥ facts.held first ∥₁

module _ (facts : NodeFacts) where
  -- all of it was
  pub held : (list : List LogEntry) → AreHeld facts list → ∥ facts.held (changes_in list) ∥₁
  held list are = are (changes_in list) (prefix_refl (changes_in list))

  -- a list was seen again, which begins with what was seen
  pub seen_again : (old new : List LogEntry) → IsPrefix old new → AreHeld facts new
      → ∥ IsSeen facts (changes_in old) (changes_in new) ∥₁
  seen_again old new p are =
      ∥∥₁_map (held new are) (λ h. More (changes_in p.0) (ap changes_in (sym p.1) ∙ changes_in-append old p.0) h)

  -- nothing more was seen
  pub same_seen : (old new : List Change) → new ≡ old → ∥ IsSeen facts old new ∥₁
  same_seen old new is = ∣ Same is ∣₁

  module _ (before new : List LogEntry) (by : ℕ) (changes : List Change) (is : new ≡ before ++ under by changes) (are : AreHeld facts new) where
    -- changes were put behind what was seen
    pub put_behind : (old : List LogEntry) → IsPrefix old before
        → ∥ ArePublished facts (changes_in old) changes (changes_in new) ∥₁
    put_behind old p =
        let others = changes_in p.0 in
        let all : changes_in before ≡ changes_in old ++ others = ap changes_in (sym p.1) ∙ changes_in-append old p.0 in
        let published : changes_in new ≡ (changes_in old ++ others) ++ changes =
        ap changes_in is ∙ changes_in-append before (under by changes) ∙ (λ i. all i ++ changes_in-under by changes i) in
        ∥∥₁_map₂ (are (changes_in old ++ others) (changes, sym published)) (held new are)
        (λ first whole. record { others = others; is_seen = More others refl first; is_held = whole; is_new = published })

    -- changes that were put are in the node
    pub put_into : ∥ IsInNode facts changes ∥₁
    put_into =
        let published : changes_in new ≡ changes_in before ++ (changes ++ []) =
        ap changes_in is ∙ changes_in-append before (under by changes)
        ∙ (λ i. changes_in before ++ (changes_in-under by changes ∙ sym (append-nil changes)) i) in
        ∥∥₁_map (held new are)
        (λ whole. record { before = changes_in before; behind = []; is_held = subst facts.held published whole })

-- a delta was asked for
pub delta_seen : (old new : PassValue) (r : Result Delta DeltaFault) → (r ≢ Err NoEntry → Reads old new) → (r ≡ Err NoEntry → new ≡ old)
    → IsPrefix (changes_in old.list) (changes_in new.list)
delta_seen old new (Ok d) seen none = changes_prefix old.list new.list (seen (λ e. cc e)).0.0
delta_seen old new (Err NoMemory) seen none = changes_prefix old.list new.list (seen (λ e. cc e)).0.0
delta_seen old new (Err NoEntry) seen none =
    subst (λ (p : PassValue). IsPrefix (changes_in old.list) (changes_in p.list)) (sym (none refl)) (prefix_refl (changes_in old.list))

-- nothing was written
pub nothing_written : (old new : Option (List ℕ)) (text : List ℕ) → new ≡ old → AppendsPrefix old new text
nothing_written old new text is = ([], text, refl, subst (λ o. Appends old o []) (sym is) (nothing old))
  where
    nothing : (o : Option (List ℕ)) → Appends o o []
    nothing None = tt
    nothing (Some xs) = sym (append-nil xs)
