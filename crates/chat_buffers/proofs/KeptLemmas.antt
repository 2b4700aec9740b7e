-- The kept records of a buffer are the posts of the store's history in it.
use Rattle.std.proofs.Common.{◌≡◌, refl, sym, ◌∙◌, ap, ℕ, max, List, Option, Some, None}
use Rattle.std.proofs.lemmas.Option.{same_Some}
use Rattle.std.specs.Option.{option_map, IfSome}
use Rattle.std.specs.BTreeMap as tree
use Rattle.std.specs.FinMap as finite
use Rattle.chat_change.specs.Buffer.{Buffer}
use Rattle.chat_change.specs.Record.{Record}
use Rattle.chat_change.specs.Order.{buffer_cmp}
use Rattle.chat_change.specs.declared.change.Change.{Change}
use Rattle.chat_change.specs.declared.change.Change.TheVariants.{Post, Redact}
use Rattle.chat_change.specs.Key.{Key, MessageOf, key_of}
use Rattle.chat_history.specs.Choice.{Among}
use Rattle.chat_history.specs.History.{IsKeyed, changes_of}
use Rattle.chat_history.specs.Retention.{at_or_above}
use Rattle.chat_history.proofs.CallerLemmas.{change_held, held_change}
use Rattle.chat_buffers.specs.Messages.{kept_in}
use Rattle.chat_buffers.specs.Kept.{IsKept}
use Rattle.chat_buffers.specs.declared.held_message.HeldMessage.{HeldMessage}
use Rattle.chat_buffers.specs.declared.held_message.HeldMessage.TheVariants.{Kept, Gone}
use Rattle.chat_buffers.specs.Store.{Numbered, IsKeyedStore, change_at, history_in}
use Rattle.chat_buffers.specs.Held.{numbered, held_floor}
use Rattle.chat_buffers.specs.declared.held.Held.{Held}
use Rattle.chat_buffers.proofs.StoreLemmas.{get-history, history_keyed}
use Rattle.chat_buffers.proofs.SettleLemmas.{Accounts, Tree, seen, floor_around}
use Rattle.chat_buffers.proofs.LookupLemmas.{change_here, message_here, record_bears}

abbrev change : Numbered → Change
change p = p.change

same_post : (q r : Record) → Post q ≡ Post r → q ≡ r
same_post q r e = cc e

no_post : {A : Type 0} (b : Buffer) (m : List ℕ) (t : Option ℕ) (r : Record) → Redact b m t ≡ Post r → A
no_post b m t r e = cc e

post_kept : (b : Buffer) (m : List ℕ) (f : ℕ) (o : Option HeldMessage) (r : Record) → option_map change (option_map (numbered b m f) o) ≡ Some (Post r) → kept_in o ≡ Some r
post_kept b m f None r e = cc e
post_kept b m f (Some (Kept q n)) r e = ap Some (same_post q r (same_Some (Post q) (Post r) e))
post_kept b m f (Some (Gone t n)) r e = no_post b m (at_or_above f t) r (same_Some (Redact b m (at_or_above f t)) (Post r) e)

kept_under : (o : Option HeldMessage) (r : Record) → kept_in o ≡ Some r → (n : ℕ) × (o ≡ Some (Kept r n))
kept_under None r e = cc e
kept_under (Some (Kept q n)) r e = let is : q ≡ r = same_Some q r e in (n, ap (λ x. Some (Kept x n)) is)
kept_under (Some (Gone t n)) r e = cc e

its_key : (o : Option Numbered) (k : Key) → ((p : Numbered) → o ≡ Some p → key_of p.change ≡ k) → IfSome o (λ p. key_of p.change ≡ k)
its_key None k h = tt
its_key (Some p) k h = h p refl

module _ (ac : Accounts) (bs : Tree) (keyed : IsKeyedStore (seen ac bs)) where
  pub keyed_history : IsKeyed (history_in (seen ac bs))
  keyed_history = history_keyed (seen ac bs) (λ k. its_key (finite.get (seen ac bs) k) k (keyed k))

  -- the posts of the history in a buffer of which nothing is held
  pub none_posted : (r : Record) → tree.get buffer_cmp bs r.buffer ≡ None → Among (Post r) (changes_of (history_in (seen ac bs))) → ⊥
  none_posted r none m =
      let at = change_held (history_in (seen ac bs)) keyed_history (Post r) m in
      cc (sym (change_here ac bs (seen ac bs) refl r.buffer (MessageOf r.buffer r.id) None refl none) ∙ sym (get-history (seen ac bs) (MessageOf r.buffer r.id)) ∙ at)

  module _ (b : Buffer) (h : Held) (has : tree.get buffer_cmp bs b ≡ Some h) where
    pub posted_kept : (r : Record) → r.buffer ≡ b → Among (Post r) (changes_of (history_in (seen ac bs))) → IsKept h.messages r
    posted_kept r here m =
        let at = change_held (history_in (seen ac bs)) keyed_history (Post r) m in
        let o = finite.get h.messages r.id in
        post_kept b r.id (max (floor_around ac b) (held_floor h)) o r
        (sym (message_here ac bs (seen ac bs) refl b r.id h o has refl) ∙ ap (λ d. change_at (seen ac bs) (MessageOf d r.id)) (sym here)
        ∙ sym (get-history (seen ac bs) (MessageOf r.buffer r.id)) ∙ at)

    pub kept_posted : (r : Record) → IsKept h.messages r → (r.buffer ≡ b) × Among (Post r) (changes_of (history_in (seen ac bs)))
    kept_posted r kept =
        let under = kept_under (finite.get h.messages r.id) r kept in
        let here = (record_bears ac bs keyed b r.id h r under.0 has under.1).0 in (
          here,
          held_change (history_in (seen ac bs)) keyed_history (Post r)
              (get-history (seen ac bs) (MessageOf r.buffer r.id) ∙ ap (λ d. change_at (seen ac bs) (MessageOf d r.id)) here
              ∙ message_here ac bs (seen ac bs) refl b r.id h (Some (Kept r under.0)) has under.1),
        )
