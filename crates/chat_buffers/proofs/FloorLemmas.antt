-- What a floor leaves of the messages of a buffer, and of the store of many buffers.
use Rattle.std.proofs.Common.{◌≡◌, refl, sym, ◌∙◌, ap, subst, ℕ, List, Bool, true, false, cond, not, ◌&&◌, Option, Some, None, nat_eq, nat_le, nat_lt, ◌≤◌, max, arith}
use Rattle.std.specs.Option.{IfSome, option_map}
use Rattle.std.specs.BTreeMap as tree
use Rattle.std.specs.FinMap as finite
use Rattle.irc_time.specs.Time.{greatest}
use Rattle.byte_text.specs.Order.{text_cmp}
use Rattle.chat_change.specs.Buffer.{Buffer}
use Rattle.chat_change.specs.Record.{Record}
use Rattle.chat_change.specs.Order.{buffer_cmp, id_cmp}
use Rattle.chat_change.specs.declared.change.Change.{Change}
use Rattle.chat_change.specs.declared.change.Change.TheVariants.{Post, Redact, Mark, Floor, AccountFloor}
use Rattle.chat_change.specs.Extent.{Extent, OfAccount, OfBuffer}
use Rattle.chat_change.specs.Key.{Key, FloorOf, MarkerOf, MessageOf, key_extent, key_of}
use Rattle.chat_history.specs.Cut.{latest_first}
use Rattle.chat_history.specs.Retention.{same_buffer}
use Rattle.ordered_maps.specs.MapView.{get, IsWith, IsRetained, passing}
use Rattle.chat_buffers.specs.declared.held_message.HeldMessage.{HeldMessage}
use Rattle.chat_buffers.specs.declared.held_message.HeldMessage.TheVariants.{Kept, Gone}
use Rattle.chat_buffers.specs.Messages.{Messages, kept_in, stands_from, is_left, IsLeft}
use Rattle.chat_buffers.specs.Agreement.{BySpot, ById, place, record_at, Agree}
use Rattle.chat_buffers.specs.Store.{Store, Numbered, IsKeyedStore}
use Rattle.chat_buffers.specs.Entering.{is_below, unless_below, IsSwept}
use Rattle.chat_buffers.specs.Held.{held_floor, numbered, held_piece, floor_piece}
use Rattle.chat_buffers.specs.declared.held.Held.{Held}
use Rattle.chat_buffers.specs.declared.held.Stamp.{Stamp}
use Rattle.chat_buffers.proofs.HeldLemmas.{same_buffer_is, one_buffer}
use Rattle.chat_buffers.proofs.SettleLemmas.{Accounts, Tree, seen, floor_around, tree_piece, get-tree, has_here, no_account, same_buffer_itself}

-- ---- the two maps of a buffer

module _ (f : ℕ) where
  of_bools : (t n : ℕ) (r : Record) (a b : Bool) → nat_eq t r.at ≡ a → stands_from f r ≡ b → passing (stands_from f) (cond a (Some r) None) ≡ record_at t (cond b (Some (Kept r n)) None)
  of_bools t n r true true e g = ap (λ x. cond x (Some r) None) g ∙ ap (λ x. cond x (Some r) None) (sym e)
  of_bools t n r true false e g = ap (λ x. cond x (Some r) None) g
  of_bools t n r false true e g = ap (λ x. cond x (Some r) None) (sym e)
  of_bools t n r false false e g = refl

  through : (t : ℕ) (o : Option HeldMessage) → passing (stands_from f) (record_at t o) ≡ record_at t (passing (is_left f) o)
  through t None = refl
  through t (Some (Gone u n)) = refl
  through t (Some (Kept r n)) = of_bools t n r (nat_eq t r.at) (stands_from f r) refl refl

  bears_left : (m : List ℕ) (o : Option HeldMessage) → IfSome (kept_in o) (λ r. (r.id ≡ m) × (r.at ≤ greatest)) → IfSome (kept_in (passing (is_left f) o)) (λ r. (r.id ≡ m) × (r.at ≤ greatest))
  bears_left m None h = tt
  bears_left m (Some x) h =
      elim (is_left f x) as (λ b. IfSome (kept_in (cond b (Some x) None)) (λ r. (r.id ≡ m) × (r.at ≤ greatest))) [ true ↦ h | false ↦ tt ]

  pub left_agree : (files new : BySpot) (ids jds : ById) → IsRetained latest_first (stands_from f) files new → IsRetained id_cmp (is_left f) ids jds → Agree files ids → Agree new jds
  left_agree files new ids jds e g a = record {
    none = λ t. e (record { at = t; id = None }) ∙ ap (passing (stands_from f)) (a.none t);
    same = λ t m. e (place t m) ∙ ap (passing (stands_from f)) (a.same t m) ∙ through t (get id_cmp ids m) ∙ ap (record_at t) (sym (g m));
    bears = λ m. subst (λ x. IfSome (kept_in x) (λ r. (r.id ≡ m) × (r.at ≤ greatest))) (sym (g m)) (bears_left m (get id_cmp ids m) (a.bears m));
  }

-- ---- the store of many buffers

abbrev kept_change : Numbered → Change
kept_change p = p.change

-- what is left stood there
pub left_stood : (e : Extent) (f : ℕ) (o : Option Numbered) (p : Numbered) → unless_below e f o ≡ Some p → o ≡ Some p
left_stood e f None p h = h
left_stood e f (Some q) p h =
    elim (is_below e f q.change) as (λ b. cond b None (Some q) ≡ Some p → Some q ≡ Some p) [
      | true ↦ λ g. cc g
      | false ↦ λ g. g
    ] h

pub swept_keyed : (e : Extent) (f : ℕ) (s new : Store) → IsSwept e f s new → IsKeyedStore s → IsKeyedStore new
swept_keyed e f s new swept keyed k p is = keyed k p (left_stood e f (finite.get s k) p (sym (swept k) ∙ is))

module _ (b : Buffer) (f : ℕ) where
  floor_stays : (e : Extent) (o : Option Stamp) → option_map (floor_piece e) o ≡ unless_below (OfBuffer b) f (option_map (floor_piece e) o)
  floor_stays e None = refl
  floor_stays (OfAccount a) (Some s) = refl
  floor_stays (OfBuffer d) (Some s) = refl

  mark_stays : (d : Buffer) (o : Option Stamp) → option_map (λ (s : Stamp). record { number = s.number; change = Mark d s.at }) o ≡ unless_below (OfBuffer b) f (option_map (λ (s : Stamp). record { number = s.number; change = Mark d s.at }) o)
  mark_stays d None = refl
  mark_stays d (Some s) = refl

  turned : (t : ℕ) → nat_lt t f ≡ not (nat_le f t)
  turned t = grind arith

  kept_so : (d : Buffer) (m : List ℕ) (g n : ℕ) (r : Record) (x : Bool) → option_map (numbered d m g) (cond x (Some (Kept r n)) None) ≡ cond (not x) None (Some (record { number = n; change = Post r }))
  kept_so d m g n r true = refl
  kept_so d m g n r false = refl

  message_so : (d : Buffer) (m : List ℕ) (g : ℕ) (o : Option HeldMessage) → ((r : Record) (n : ℕ) → o ≡ Some (Kept r n) → r.buffer ≡ b) → option_map (numbered d m g) (passing (is_left f) o) ≡ unless_below (OfBuffer b) f (option_map (numbered d m g) o)
  message_so d m g None h = refl
  message_so d m g (Some (Gone t n)) h = refl
  message_so d m g (Some (Kept r n)) h =
      kept_so d m g n r (nat_le f r.at)
      ∙ ap (λ x. cond x None (Some (record { number = n; change = Post r }))) (sym (turned r.at))
      ∙ ap (λ x. cond (x && nat_lt r.at f) None (Some (record { number = n; change = Post r }))) (sym (ap (same_buffer b) (h r n refl) ∙ same_buffer_itself b))

  -- a piece of another buffer isn't below
  other_so : (d : Buffer) (k : Key) (o : Option Numbered) → key_extent k ≡ OfBuffer d → same_buffer b d ≡ false → ((p : Numbered) → o ≡ Some p → key_of p.change ≡ k) → o ≡ unless_below (OfBuffer b) f o
  other_so d k None is apart keyed = refl
  other_so d k (Some p) is apart keyed = each p.change refl
    where
      each : (c : Change) → p.change ≡ c → Some p ≡ cond (is_below (OfBuffer b) f c) None (Some p)
      each (Post r) e =
          let its : r.buffer ≡ d = one_buffer r.buffer d (ap key_extent (ap key_of (sym e) ∙ keyed p refl) ∙ is) in
          ap (λ x. cond (x && nat_lt r.at f) None (Some p)) (sym (ap (same_buffer b) its ∙ apart))
      each (Redact c m t) e = refl
      each (Mark c t) e = refl
      each (Floor c t) e = refl
      each (AccountFloor a t) e = refl

  module _ (ac : Accounts) (bs : Tree) (keyed : IsKeyedStore (seen ac bs)) where
    pub swept_none : (s : Store) → tree.get buffer_cmp bs b ≡ None → seen ac bs ≡ s → IsSwept (OfBuffer b) f s (seen ac bs)
    swept_none s none is k =
        get-tree ac bs k
        ∙ none_at (key_extent k) refl
        ∙ ap (unless_below (OfBuffer b) f) (sym (get-tree ac bs k) ∙ ap (λ x. finite.get x k) is)
      where
        none_at : (e : Extent) → key_extent k ≡ e → tree_piece ac bs e k ≡ unless_below (OfBuffer b) f (tree_piece ac bs e k)
        none_at (OfAccount a) i = floor_stays (OfAccount a) (tree.get text_cmp ac a)
        none_at (OfBuffer d) i =
            elim (same_buffer b d) as (λ x. same_buffer b d ≡ x → tree_piece ac bs (OfBuffer d) k ≡ unless_below (OfBuffer b) f (tree_piece ac bs (OfBuffer d) k)) [
              | true ↦ λ e. subst (λ y. tree_piece ac bs (OfBuffer y) k ≡ unless_below (OfBuffer b) f (tree_piece ac bs (OfBuffer y) k)) (same_buffer_is b d e)
                  (subst (λ o. held_piece (floor_around ac b) o k ≡ unless_below (OfBuffer b) f (held_piece (floor_around ac b) o k)) (sym none) refl)
              | false ↦ λ e. other_so d k (tree_piece ac bs (OfBuffer d) k) i e (λ p h. keyed k p (get-tree ac bs k ∙ ap (λ x. tree_piece ac bs x k) i ∙ h))
            ] refl

    module _ (new : Tree) (h : Held) (ms : Messages) (has : tree.get buffer_cmp bs b ≡ Some h) (up : IsWith buffer_cmp bs.entries b (record h { messages = ms }) new.entries) (left : IsLeft h.messages f ms) where
      bears : (m : List ℕ) (r : Record) (n : ℕ) → finite.get h.messages m ≡ Some (Kept r n) → r.buffer ≡ b
      bears m r n was =
          let at = has_here ac bs (seen ac bs) b (Some h) refl has (MessageOf b m) refl ∙ ap (option_map (numbered b m (max (floor_around ac b) (held_floor h)))) was in
          one_buffer r.buffer b (ap key_extent (keyed (MessageOf b m) (record { number = n; change = Post r }) at))

      here : (g : ℕ) (k : Key) → key_extent k ≡ OfBuffer b → held_piece g (Some (record h { messages = ms })) k ≡ unless_below (OfBuffer b) f (held_piece g (Some h) k)
      here g (FloorOf (OfAccount a)) e = no_account a b e
      here g (FloorOf (OfBuffer d)) e = floor_stays (OfBuffer d) h.floor
      here g (MarkerOf d) e = mark_stays d h.marker
      here g (MessageOf d m) e =
          ap (option_map (numbered d m (max g (held_floor h)))) (left m)
          ∙ message_so d m (max g (held_floor h)) (finite.get h.messages m) (bears m)

      swept_at : (e : Extent) (k : Key) → key_extent k ≡ e → tree_piece ac new e k ≡ unless_below (OfBuffer b) f (tree_piece ac bs e k)
      swept_at (OfAccount a) k is = floor_stays (OfAccount a) (tree.get text_cmp ac a)
      swept_at (OfBuffer d) k is =
          ap (λ o. held_piece (floor_around ac d) o k) (up d)
          ∙ elim (same_buffer b d) as (λ a. same_buffer b d ≡ a → held_piece (floor_around ac d) (cond a (Some (record h { messages = ms })) (tree.get buffer_cmp bs d)) k ≡ unless_below (OfBuffer b) f (held_piece (floor_around ac d) (tree.get buffer_cmp bs d) k)) [
            | true ↦ λ e.
                let same = same_buffer_is b d e in
                subst (λ y. held_piece (floor_around ac y) (Some (record h { messages = ms })) k ≡ unless_below (OfBuffer b) f (held_piece (floor_around ac y) (tree.get buffer_cmp bs y) k)) same
                (here (floor_around ac b) k (is ∙ ap OfBuffer (sym same)) ∙ ap (λ o. unless_below (OfBuffer b) f (held_piece (floor_around ac b) o k)) (sym has))
            | false ↦ λ e. other_so d k (tree_piece ac bs (OfBuffer d) k) is e (λ p h. keyed k p (get-tree ac bs k ∙ ap (λ x. tree_piece ac bs x k) is ∙ h))
          ] refl

      pub swept_store : (s : Store) → seen ac bs ≡ s → IsSwept (OfBuffer b) f s (seen ac new)
      swept_store s is k = get-tree ac new k ∙ swept_at (key_extent k) k refl ∙ ap (unless_below (OfBuffer b) f) (sym (get-tree ac bs k) ∙ ap (λ x. finite.get x k) is)
