-- What the crates above may name of these proofs: the changes of published lists, and what a pass has seen after a call, as what
-- it had seen and what others added to it.
use Rattle.std.proofs.Common.{◌≡◌, ℕ, List, [], ◌∷◌, ◌++◌, Option, None, Some, refl, sym, ◌∙◌, ap}
use Rattle.std.specs.Prelude.{IfSome}
use Rattle.std.proofs.lemmas.List.{append-nil}
use mathlib.Core.List.{IsPrefix}
use Rattle.chat_change.specs.Buffer.{Buffer}
use Rattle.chat_change.specs.declared.change.Change.{Change}
use Rattle.chat_history.specs.History.{mark}
use Rattle.shared_node.specs.declared.entry.LogEntry.{LogEntry}
use Rattle.shared_node.specs.Lists.{changes_in, under}
use Rattle.shared_node.specs.Passes.{PassValue, Reads}

pub changes_in-append : (xs ys : List LogEntry) → changes_in (xs ++ ys) ≡ changes_in xs ++ changes_in ys
changes_in-append [] ys = refl
changes_in-append (x ∷ xs) ys = ap (λ l. x.change ∷ l) (changes_in-append xs ys)

-- a pass has seen these changes, from the start on
abbrev pub HasSeen : PassValue → ℕ → List Change → Type 0
HasSeen p start list = (start ≡ 0) × (list ≡ changes_in p.list)

changes_in-under : (by : ℕ) (changes : List Change) → changes_in (under by changes) ≡ changes
changes_in-under by [] = refl
changes_in-under by (c ∷ cs) = ap (λ l. c ∷ l) (changes_in-under by cs)

-- the changes of a longer list are those of its prefix and others
pub seen_further : (old new : List LogEntry) → IsPrefix old new → (list : List Change) → list ≡ changes_in old → (others : List Change) × (list ++ others ≡ changes_in new)
seen_further old new p list is = (changes_in p.0, ap (λ l. l ++ changes_in p.0) is ∙ sym (changes_in-append old p.0) ∙ ap changes_in p.1)

module _ (old new : PassValue) where
  -- a put that was published
  pub taken_all : (by : ℕ) (changes : List Change) (before : List LogEntry) → IsPrefix old.list before → new.list ≡ before ++ under by changes
      → (start : ℕ) (list : List Change) → HasSeen old start list
      → (others : List Change) × Unit {0} × HasSeen new start ((list ++ others) ++ changes)
  taken_all by changes before p is start list held =
      let f = seen_further old.list before p list held.1 in
      (f.0, tt, (held.0, (λ i. f.1 i ++ sym (changes_in-under by changes) i) ∙ sym (changes_in-append before (under by changes)) ∙ ap changes_in (sym is)))

  -- a call after which it has seen what it had seen
  pub kept : new.list ≡ old.list → (start : ℕ) (list : List Change) → HasSeen old start list → (others : List Change) × Unit {0} × HasSeen new start (list ++ others)
  kept same start list held = ([], tt, (held.0, append-nil list ∙ held.1 ∙ ap changes_in (sym same)))

  -- a marker that was read
  pub marker_read : (buffer : Buffer) (marker : Option ℕ) → marker ≡ mark (changes_in new.list) buffer → Reads old new
      → IfSome marker (λ (at : ℕ). (start : ℕ) (list : List Change) → HasSeen old start list
      → (others : List Change) × Unit {0} × (HasSeen new start (list ++ others) × (mark (list ++ others) buffer ≡ Some at)))
  marker_read buffer None is seen = tt
  marker_read buffer (Some at) is seen = λ start list held.
      let f = seen_further old.list new.list seen.0.0 list held.1 in
      (f.0, tt, ((held.0, f.1), ap (λ l. mark l buffer) f.1 ∙ sym is))
