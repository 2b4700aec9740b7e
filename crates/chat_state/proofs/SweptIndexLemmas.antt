-- The index by number after a floor of a buffer took all records below it away.
use Rattle.std.proofs.Common.{◌≡◌, refl, sym, ◌∙◌, ap, ℕ, Bool, true, false, cond, not, Option, Some, None}
use Rattle.std.proofs.lemmas.Bool.{false≢true}
use Rattle.std.specs.Option.{option_map}
use Rattle.std.specs.FinMap as finite
use Rattle.chat_change.specs.Buffer.{Buffer}
use Rattle.chat_change.specs.Extent.{OfBuffer}
use Rattle.chat_change.specs.declared.change.Change.{Change}
use Rattle.chat_change.specs.declared.change.Change.TheVariants.{Post, Redact, Mark, Floor, AccountFloor}
use Rattle.chat_change.specs.Key.{Key}
use Rattle.ordered_maps.specs.MapView.{get, IsRetained, passing}
use Rattle.chat_buffers.specs.Store.{Store, Numbered, number_at}
use Rattle.chat_buffers.specs.Entering.{is_below, unless_below, IsSwept}
use Rattle.chat_state.specs.Number.{number_cmp}
use Rattle.chat_state.specs.PieceName.{PieceName, name_of}
use Rattle.chat_state.specs.Sweeping.{is_left}
use Rattle.chat_state.specs.Index.{ByNumber, IsIndexed}
use Rattle.chat_state.proofs.AccountSweepLemmas.{unless_some}

module _ (b : Buffer) (f : ℕ) where
  -- an entry stays where its piece does
  both : (c : Change) → is_left b f (name_of c) ≡ not (is_below (OfBuffer b) f c)
  both (Post r) = refl
  both (Redact d m t) = refl
  both (Mark d t) = refl
  both (Floor d t) = refl
  both (AccountFloor a t) = refl

  passed : {X : Type 0} (keeps : X → Bool) (o : Option X) (x : X) → passing keeps o ≡ Some x → (o ≡ Some x) × (keeps x ≡ true)
  passed keeps None x h = cc h
  passed keeps (Some y) x h =
      elim (keeps y) as (λ a. keeps y ≡ a → cond a (Some y) None ≡ Some x → (Some y ≡ Some x) × (keeps x ≡ true)) [
        | true ↦ λ e g. (g, (let is : y ≡ x = cc g in ap keeps (sym is) ∙ e))
        | false ↦ λ e g. cc g
      ] refl h

  stays_low : (a : Bool) → not a ≡ true → a ≡ false
  stays_low true e = absurd (false≢true e)
  stays_low false e = refl

  module _ (s new : Store) (index after : ByNumber) (swept : IsSwept (OfBuffer b) f s new) (kept : IsRetained number_cmp (is_left b f) index after) (was : IsIndexed s index) where
    stood : (k : Key) (p : Numbered) → finite.get new k ≡ Some p → (finite.get s k ≡ Some p) × (is_below (OfBuffer b) f p.change ≡ false)
    stood k p e = unless_some (OfBuffer b) f (finite.get s k) p (sym (swept k) ∙ e)

    number_stood : (k : Key) (n : ℕ) (o : Option Numbered) → finite.get new k ≡ o → option_map (λ (p : Numbered). p.number) o ≡ Some n → number_at s k ≡ Some n
    number_stood k n None e h = cc h
    number_stood k n (Some p) e h = ap (option_map (λ (p : Numbered). p.number)) (stood k p e).0 ∙ h

    listed_in : (k : Key) (p : Numbered) → finite.get new k ≡ Some p → get number_cmp after p.number ≡ Some (name_of p.change)
    listed_in k p e =
        let at = stood k p e in
        kept p.number ∙ ap (passing (is_left b f)) (was.listed k p at.0)
        ∙ ap (λ x. cond x (Some (name_of p.change)) None) (both p.change ∙ ap not at.1)

    right_in : (n : ℕ) (q : PieceName) → get number_cmp after n ≡ Some q → (k : Key) × (p : Numbered) × (finite.get new k ≡ Some p) × (p.number ≡ n) × (name_of p.change ≡ q)
    right_in n q e =
        let at = passed (is_left b f) (get number_cmp index n) q (sym (kept n) ∙ e) in
        let w = was.right n q at.0 in
        let low = stays_low (is_below (OfBuffer b) f w.1.change) (sym (both w.1.change) ∙ ap (is_left b f) w.4 ∙ at.1) in
        (w.0, w.1, swept w.0 ∙ ap (unless_below (OfBuffer b) f) w.2 ∙ ap (λ x. cond x None (Some w.1)) low, w.3, w.4)

    pub swept_index : IsIndexed new after
    swept_index = record {
      once = λ k l n e g. was.once k l n (number_stood k n (finite.get new k) refl e) (number_stood l n (finite.get new l) refl g);
      listed = listed_in;
      right = right_in;
    }
