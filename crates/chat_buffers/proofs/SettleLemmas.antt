-- What a piece that is put under its key leaves of a buffer, and of the store of many buffers.
use Rattle.std.proofs.Common.{◌≡◌, refl, sym, ◌∙◌, ap, subst, ℕ, ◌≤◌, ◌<◌, max, List, Bool, true, false, cond, nat_le, Option, Some, None, arith}
use Rattle.std.proofs.lemmas.Bool.{false≢true}
use Rattle.std.proofs.lemmas.Option.{same_Some}
use Rattle.std.specs.Ordering.{is_eq}
use Rattle.std.proofs.lemmas.Cmp.{tied_itself}
use Rattle.std.specs.Option.{option_map, option_and_then, unwrap_or}
use Rattle.std.specs.BTreeMap as tree
use Rattle.std.specs.FinMap as finite
use Rattle.chat_change.specs.Buffer.{Buffer}
use Rattle.chat_change.specs.Record.{Record}
use Rattle.byte_text.specs.Order.{text_cmp}
use Rattle.chat_change.specs.Order.{buffer_cmp}
use Rattle.byte_text.proofs.CallerLemmas.{text_total}
use Rattle.chat_change.proofs.CallerLemmas.{buffer_total, buffer_exact, id_total, key_total, key_exact, same_key_is, same_key_itself}
use Rattle.chat_change.specs.declared.change.Change.{Change}
use Rattle.chat_change.specs.declared.change.Change.TheVariants.{Post, Redact, Mark, Floor, AccountFloor}
use Rattle.chat_change.specs.Extent.{Extent, OfAccount, OfBuffer}
use Rattle.chat_change.specs.Key.{Key, FloorOf, MarkerOf, MessageOf, key_extent, key_of, same_key}
use Rattle.chat_history.specs.History as history
use Rattle.chat_history.specs.Retention.{at_or_above, same_buffer, is_covered}
use Rattle.chat_history.proofs.CallerLemmas.{key_of-remainder}
use Rattle.ordered_maps.specs.MapView.{held_by, IsWith}
use Rattle.ordered_maps.proofs.CallerLemmas.{get-held_by}
use Rattle.chat_buffers.specs.declared.held_message.HeldMessage.{HeldMessage}
use Rattle.chat_buffers.specs.declared.held_message.HeldMessage.TheVariants.{Kept, Gone}
use Rattle.chat_buffers.specs.Messages.{Messages, kept_in, number_of, IsFrom}
use Rattle.chat_buffers.specs.Stamps.{floor_moment, stamp_number}
use Rattle.chat_buffers.specs.Store.{Store, Numbered, own_floor_in, floor_in, number_at, IsKeyedStore}
use Rattle.chat_buffers.specs.Entering.{FitsStore, beside, with_remainder, IsEntered, TakesOne, IsSweptOf}
use Rattle.chat_buffers.specs.Held.{held_floor, numbered, held_piece, floor_piece, account_piece, extent_piece, number_under, store_in, Fits, Settles}
use Rattle.chat_buffers.specs.declared.held.Held.{Held}
use Rattle.chat_buffers.specs.declared.held.Stamp.{Stamp}
use Rattle.chat_buffers.proofs.HeldLemmas.{get-store_in, same_id, same_id_is, same_buffer_is, one_buffer}

pub not_same : (k l : Key) → (k ≡ l → ⊥) → same_key k l ≡ false
not_same k l h = elim (same_key k l) as (λ t. same_key k l ≡ t → t ≡ false) [ true ↦ λ e. absurd (h (same_key_is k l e)) | false ↦ λ _. refl ] refl

same_id_itself : (a : List ℕ) → same_id a a ≡ true
same_id_itself a = ap is_eq (tied_itself id_total a)

pub same_buffer_itself : (b : Buffer) → same_buffer b b ≡ true
same_buffer_itself b = ap is_eq (tied_itself buffer_total b)

-- keys of other extents are others
pub other_extent : (k l : Key) → (key_extent k ≡ key_extent l → ⊥) → k ≡ l → ⊥
other_extent k l apart is = apart (ap key_extent is)

pub no_account : {A : Type 0} (a : List ℕ) (b : Buffer) → OfAccount a ≡ OfBuffer b → A
no_account a b e = cc e

-- two messages of a buffer are one where their ids are
same_message : (b : Buffer) (m i : List ℕ) → same_key (MessageOf b m) (MessageOf b i) ≡ same_id m i
same_message b m i =
    elim (same_id m i) as (λ t. same_id m i ≡ t → same_key (MessageOf b m) (MessageOf b i) ≡ t) [
      | true ↦ λ e. subst (λ j. same_key (MessageOf b m) (MessageOf b j) ≡ true) (same_id_is m i e) (same_key_itself (MessageOf b m))
      | false ↦ λ e. not_same (MessageOf b m) (MessageOf b i) (λ is. let ids : m ≡ i = cc is in false≢true (sym e ∙ ap (same_id m) (sym ids) ∙ same_id_itself m))
    ] refl

-- a key that the piece doesn't bear keeps what it has
pub stays : (k l : Key) (q : Numbered) (o : Option Numbered) → (k ≡ l → ⊥) → o ≡ cond (same_key k l) (Some q) o
stays k l q o apart = ap (λ b. cond b (Some q) o) (sym (not_same k l apart))

-- ---- the moments that floors leave

pub same_max : (f g h : ℕ) → g ≤ f → max f (max g h) ≡ max f h
same_max f g h l = omega arith

pub max_reached : (f h : ℕ) → h ≤ f → max f h ≡ f
max_reached f h l = omega arith

above_max : (f t x : ℕ) → nat_le f x ≡ true → nat_le (max t f) x ≡ nat_le t x
above_max f t x e = grind (arith, e)

below_max : (f t x : ℕ) → nat_le f x ≡ false → nat_le (max t f) x ≡ false
below_max f t x e = grind (arith, e)

pub above_both : (f t : ℕ) (u : Option ℕ) → at_or_above t (at_or_above f u) ≡ at_or_above (max t f) u
above_both f t None = refl
above_both f t (Some x) =
    elim (nat_le f x) as (λ b. nat_le f x ≡ b → at_or_above t (cond b (Some x) None) ≡ cond (nat_le (max t f) x) (Some x) None) [
      | true ↦ λ e. ap (λ b. cond b (Some x) None) (sym (above_max f t x e))
      | false ↦ λ e. ap (λ b. cond b (Some x) None) (sym (below_max f t x e))
    ] refl

-- what a higher floor leaves of the piece of a message that it covers
pub message_left : (e : Extent) (b : Buffer) (m : List ℕ) (f t g : ℕ) (o : Option HeldMessage) → is_covered e b ≡ true → g ≡ max t f → option_map (numbered b m g) o ≡ option_map (with_remainder e t) (option_map (numbered b m f) o)
message_left e b m f t g None covered is = refl
message_left e b m f t g (Some (Kept r x)) covered is = refl
message_left e b m f t g (Some (Gone u x)) covered is =
    (λ i. Some (record { number = x; change = Redact b m ((ap (λ y. at_or_above y u) is ∙ sym (above_both f t u)) i) }))
    ∙ (λ i. Some (record { number = x; change = Redact b m (cond (sym covered i) (at_or_above t (at_or_above f u)) (at_or_above f u)) }))

-- ---- a piece is put under its key in a buffer

module _ (f : ℕ) (h : Held) (n : ℕ) where
  -- the floor at which redactions are read
  abbrev floor : ℕ
  floor = max f (held_floor h)

  abbrev moved : Change → Numbered
  moved c = record { number = n; change = c }

  kept_at : (b : Buffer) (m : List ℕ) (r : Record) (a : Bool) (o : Option HeldMessage) → option_map (numbered b m floor) (cond a (Some (Kept r n)) o) ≡ cond a (Some (moved (Post r))) (option_map (numbered b m floor) o)
  kept_at b m r true o = refl
  kept_at b m r false o = refl

  gone_at : (b : Buffer) (m i : List ℕ) (t : Option ℕ) (a : Bool) (o : Option HeldMessage) → at_or_above floor t ≡ t → same_id m i ≡ a → option_map (numbered b m floor) (cond a (Some (Gone t n)) o) ≡ cond a (Some (moved (Redact b i t))) (option_map (numbered b m floor) o)
  gone_at b m i t true o rests e = let id : m ≡ i = same_id_is m i e in λ j. Some (record { number = n; change = Redact b (id j) (rests j) })
  gone_at b m i t false o rests e = refl

  pub post_settles : (r : Record) (ms : Messages) → ms ≡ finite.insert h.messages r.id (Kept r n) → Settles f (Some h) n (Post r) (record h { messages = ms })
  post_settles r ms is (FloorOf (OfAccount a)) e = no_account a r.buffer e
  post_settles r ms is (FloorOf (OfBuffer b)) e = stays (FloorOf (OfBuffer b)) (MessageOf r.buffer r.id) _ _ (λ is. cc is)
  post_settles r ms is (MarkerOf b) e = stays (MarkerOf b) (MessageOf r.buffer r.id) _ _ (λ is. cc is)
  post_settles r ms is (MessageOf b m) e =
      ap (option_map (numbered b m floor)) (ap (λ (x : Messages). finite.get x m) is ∙ finite.get-insert id_total h.messages r.id (Kept r n) m)
      ∙ kept_at b m r (same_id m r.id) (finite.get h.messages m)
      ∙ ap (λ a. cond a (Some (moved (Post r))) (held_piece f (Some h) (MessageOf b m))) (sym (ap (λ d. same_key (MessageOf b m) (MessageOf d r.id)) (sym (one_buffer b r.buffer e)) ∙ same_message b m r.id))

  pub redact_settles : (d : Buffer) (i : List ℕ) (t : Option ℕ) (ms : Messages) → at_or_above floor t ≡ t → ms ≡ finite.insert h.messages i (Gone t n) → Settles f (Some h) n (Redact d i t) (record h { messages = ms })
  redact_settles d i t ms rests is (FloorOf (OfAccount a)) e = no_account a d e
  redact_settles d i t ms rests is (FloorOf (OfBuffer b)) e = stays (FloorOf (OfBuffer b)) (MessageOf d i) _ _ (λ is. cc is)
  redact_settles d i t ms rests is (MarkerOf b) e = stays (MarkerOf b) (MessageOf d i) _ _ (λ is. cc is)
  redact_settles d i t ms rests is (MessageOf b m) e =
      let same = one_buffer b d e in
      ap (option_map (numbered b m floor)) (ap (λ (x : Messages). finite.get x m) is ∙ finite.get-insert id_total h.messages i (Gone t n) m)
      ∙ gone_at b m i t (same_id m i) (finite.get h.messages m) rests refl
      ∙ ap (λ x. cond (same_id m i) (Some (moved (Redact x i t))) (held_piece f (Some h) (MessageOf b m))) same
      ∙ ap (λ a. cond a (Some (moved (Redact d i t))) (held_piece f (Some h) (MessageOf b m))) (sym (ap (λ x. same_key (MessageOf b m) (MessageOf x i)) (sym same) ∙ same_message b m i))

  pub mark_settles : (d : Buffer) (t : ℕ) → Settles f (Some h) n (Mark d t) (record h { marker = Some (record { at = t; number = n }) })
  mark_settles d t (FloorOf (OfAccount a)) e = no_account a d e
  mark_settles d t (FloorOf (OfBuffer b)) e = stays (FloorOf (OfBuffer b)) (MarkerOf d) _ _ (λ is. cc is)
  mark_settles d t (MarkerOf b) e =
      let same = one_buffer b d e in
      ap (λ x. Some (moved (Mark x t))) same
      ∙ ap (λ a. cond a (Some (moved (Mark d t))) (held_piece f (Some h) (MarkerOf b))) (sym (ap (λ x. same_key (MarkerOf x) (MarkerOf d)) same ∙ same_key_itself (MarkerOf d)))
  mark_settles d t (MessageOf b m) e = stays (MessageOf b m) (MarkerOf d) _ _ (λ is. cc is)

  mark_left : (b d : Buffer) (t : ℕ) (o : Option Stamp) → option_map (λ (s : Stamp). record { number = s.number; change = Mark b s.at }) o ≡ option_map (with_remainder (OfBuffer d) t) (option_map (λ (s : Stamp). record { number = s.number; change = Mark b s.at }) o)
  mark_left b d t None = refl
  mark_left b d t (Some s) = refl

  pub floor_settles : (d : Buffer) (t : ℕ) → floor ≤ t → Settles f (Some h) n (Floor d t) (record h { floor = Some (record { at = t; number = n }) })
  floor_settles d t l (FloorOf (OfAccount a)) e = no_account a d e
  floor_settles d t l (FloorOf (OfBuffer b)) e =
      let same = one_buffer b d e in
      ap (λ x. Some (moved (Floor x t))) same
      ∙ ap (λ a. cond a (Some (moved (Floor d t))) (beside (Floor d t) (held_piece f (Some h) (FloorOf (OfBuffer b))))) (sym (ap (λ x. same_key (FloorOf (OfBuffer x)) (FloorOf (OfBuffer d))) same ∙ same_key_itself (FloorOf (OfBuffer d))))
  floor_settles d t l (MarkerOf b) e = mark_left b d t h.marker ∙ stays (MarkerOf b) (FloorOf (OfBuffer d)) _ _ (λ is. cc is)
  floor_settles d t l (MessageOf b m) e =
      let covered : is_covered (OfBuffer d) b ≡ true = ap (same_buffer d) (one_buffer b d e) ∙ same_buffer_itself d in
      let reached : max f t ≡ t = omega arith in
      ap (λ x. option_map (numbered b m x) (finite.get h.messages m)) reached
      ∙ message_left (OfBuffer d) b m floor t t (finite.get h.messages m) covered (omega arith)
      ∙ stays (MessageOf b m) (FloorOf (OfBuffer d)) _ _ (λ is. cc is)

-- ---- what fits the store fits the buffer

abbrev change : Numbered → Change
change p = p.change

abbrev said : Option Numbered → ℕ
said o = unwrap_or (option_and_then history.floor_moment (option_map change o)) 0

pub own_said : (b : Buffer) (o : Option Stamp) → said (option_map (floor_piece (OfBuffer b)) o) ≡ floor_moment o
own_said b None = refl
own_said b (Some s) = refl

pub account_said : (a : List ℕ) (o : Option Stamp) → said (account_piece a o) ≡ floor_moment o
account_said a None = refl
account_said a (Some s) = refl

-- a buffer in a store, where its account's floor is `f`
module _ (s : Store) (f : ℕ) (h : Held) (b : Buffer) (around : own_floor_in s (OfAccount b.account) ≡ f) (has : (k : Key) → key_extent k ≡ OfBuffer b → finite.get s k ≡ held_piece f (Some h) k) where
  floor_from : floor_in s (OfBuffer b) ≡ max f (held_floor h)
  floor_from = λ i. max (around i) ((ap said (has (FloorOf (OfBuffer b)) refl) ∙ own_said b h.floor) i)

  floor_of : (d : Buffer) → OfBuffer d ≡ OfBuffer b → floor_in s (OfBuffer d) ≡ max f (held_floor h)
  floor_of d is = ap (floor_in s) is ∙ floor_from

  pub fits_from : (x : Change) → key_extent (key_of x) ≡ OfBuffer b → FitsStore s x → Fits f h x
  fits_from (Post r) is fits = tt
  fits_from (Redact d m t) is fits = ap (λ x. at_or_above x t) (sym (floor_of d is)) ∙ fits
  fits_from (Mark d t) is fits = tt
  fits_from (Floor d t) is fits = subst (λ x. x ≤ t) (floor_of d is) fits
  fits_from (AccountFloor a t) is fits = no_account a b is

-- ---- the maps of accounts and of buffers

abbrev pub Accounts : Type 0
Accounts = tree.BTreeMap (List ℕ) Stamp

abbrev pub Tree : Type 0
Tree = tree.BTreeMap Buffer Held

abbrev pub seen : Accounts → Tree → Store
seen ac bs = store_in (held_by ac.entries) (held_by bs.entries)

-- the floor of a buffer's account, or 0
abbrev pub floor_around : Accounts → Buffer → ℕ
floor_around ac b = floor_moment (tree.get text_cmp ac b.account)

-- the piece of a key in an extent
abbrev pub tree_piece : Accounts → Tree → Extent → Key → Option Numbered
tree_piece ac bs (OfAccount a) k = account_piece a (tree.get text_cmp ac a)
tree_piece ac bs (OfBuffer b) k = held_piece (floor_around ac b) (tree.get buffer_cmp bs b) k

tree_held : (ac : Accounts) (bs : Tree) (e : Extent) (k : Key) → extent_piece (held_by ac.entries) (held_by bs.entries) e k ≡ tree_piece ac bs e k
tree_held ac bs (OfAccount a) k = ap (account_piece a) (get-held_by text_total ac.entries a)
tree_held ac bs (OfBuffer b) k = λ i. held_piece (floor_moment (get-held_by text_total ac.entries b.account i)) (get-held_by buffer_total bs.entries b i) k

pub get-tree : (ac : Accounts) (bs : Tree) (k : Key) → finite.get (seen ac bs) k ≡ tree_piece ac bs (key_extent k) k
get-tree ac bs k = get-store_in (held_by ac.entries) (held_by bs.entries) k ∙ tree_held ac bs (key_extent k) k

-- at a key of an extent
pub get-extent : (ac : Accounts) (bs : Tree) (s : Store) (e : Extent) → seen ac bs ≡ s → (k : Key) → key_extent k ≡ e → finite.get s k ≡ tree_piece ac bs e k
get-extent ac bs s e is k same = ap (λ x. finite.get x k) (sym is) ∙ get-tree ac bs k ∙ ap (λ d. tree_piece ac bs d k) same

pub has_here : (ac : Accounts) (bs : Tree) (s : Store) (b : Buffer) (o : Option Held) → seen ac bs ≡ s → tree.get buffer_cmp bs b ≡ o → (k : Key) → key_extent k ≡ OfBuffer b → finite.get s k ≡ held_piece (floor_around ac b) o k
has_here ac bs s b o is e k same = get-extent ac bs s (OfBuffer b) is k same ∙ ap (λ o. held_piece (floor_around ac b) o k) e

pub own_account : (ac : Accounts) (bs : Tree) (s : Store) (a : List ℕ) → seen ac bs ≡ s → own_floor_in s (OfAccount a) ≡ floor_moment (tree.get text_cmp ac a)
own_account ac bs s a is = ap said (get-extent ac bs s (OfAccount a) is (FloorOf (OfAccount a)) refl) ∙ account_said a (tree.get text_cmp ac a)

-- ---- what stands in other buffers

pub stamp_left : (g : Stamp → Numbered) (e : Extent) (t : ℕ) → ((s : Stamp) → with_remainder e t (g s) ≡ g s) → (o : Option Stamp) → option_map (with_remainder e t) (option_map g o) ≡ option_map g o
stamp_left g e t h None = refl
stamp_left g e t h (Some s) = ap Some (h s)

standing_left : (x : Extent) (d : Buffer) (t f : ℕ) (m : List ℕ) (o : Option HeldMessage) → is_covered x d ≡ false → option_map (with_remainder x t) (option_map (numbered d m f) o) ≡ option_map (numbered d m f) o
standing_left x d t f m None e = refl
standing_left x d t f m (Some (Kept r n)) e = refl
standing_left x d t f m (Some (Gone u n)) e = λ i. Some (record { number = n; change = Redact d m (cond (e i) (at_or_above t (at_or_above f u)) (at_or_above f u)) })

-- a floor leaves what it doesn't cover
pub floor_elsewhere : (x : Extent) (t f : ℕ) (b : Buffer) (k : Key) (o : Option Held) → key_extent k ≡ OfBuffer b → is_covered x b ≡ false → option_map (with_remainder x t) (held_piece f o k) ≡ held_piece f o k
floor_elsewhere x t f b k None is e = refl
floor_elsewhere x t f b (FloorOf (OfAccount a)) (Some h) is e = refl
floor_elsewhere x t f b (FloorOf (OfBuffer d)) (Some h) is e = stamp_left (floor_piece (OfBuffer d)) x t (λ s. refl) h.floor
floor_elsewhere x t f b (MarkerOf d) (Some h) is e = stamp_left (λ (s : Stamp). record { number = s.number; change = Mark d s.at }) x t (λ s. refl) h.marker
floor_elsewhere x t f b (MessageOf d m) (Some h) is e = standing_left x d t (max f (held_floor h)) m (finite.get h.messages m) (ap (is_covered x) (one_buffer d b is) ∙ e)

beside_elsewhere : (x : Change) (f : ℕ) (b d : Buffer) (k : Key) (o : Option Held) → key_extent (key_of x) ≡ OfBuffer b → key_extent k ≡ OfBuffer d → same_buffer b d ≡ false → beside x (held_piece f o k) ≡ held_piece f o k
beside_elsewhere (Post r) f b d k o at is e = refl
beside_elsewhere (Redact c m t) f b d k o at is e = refl
beside_elsewhere (Mark c t) f b d k o at is e = refl
beside_elsewhere (Floor c t) f b d k o at is e = floor_elsewhere (OfBuffer c) t f d k o is (ap (λ y. same_buffer y d) (one_buffer c b at) ∙ e)
beside_elsewhere (AccountFloor a t) f b d k o at is e = no_account a b at

-- the floors of accounts stay
beside_account : (x : Change) (a : List ℕ) (o : Option Stamp) → beside x (account_piece a o) ≡ account_piece a o
beside_account (Post r) a o = refl
beside_account (Redact b m t) a o = refl
beside_account (Mark b t) a o = refl
beside_account (Floor b t) a o = stamp_left (floor_piece (OfAccount a)) (OfBuffer b) t (λ s. refl) o
beside_account (AccountFloor b t) a o = stamp_left (floor_piece (OfAccount a)) (OfAccount b) t (λ s. refl) o

-- a buffer whose keys settle settles the store
module _ (ac : Accounts) (bs new : Tree) (x : Change) (n : ℕ) (b : Buffer) (at : key_extent (key_of x) ≡ OfBuffer b) (o : Option Held) (h : Held) (has : tree.get buffer_cmp bs b ≡ o) (up : IsWith buffer_cmp bs.entries b h new.entries) (settles : Settles (floor_around ac b) o n x h) where
  abbrev moved_to : Numbered
  moved_to = record { number = n; change = x }

  -- at the key of another extent
  elsewhere : (k : Key) (p : Option Numbered) → (key_extent k ≡ OfBuffer b → ⊥) → beside x p ≡ p → p ≡ cond (same_key k (key_of x)) (Some moved_to) (beside x p)
  elsewhere k p apart is = stays k (key_of x) moved_to p (other_extent k (key_of x) (λ e. apart (e ∙ at))) ∙ ap (cond (same_key k (key_of x)) (Some moved_to)) (sym is)

  entered_at : (e : Extent) (k : Key) → key_extent k ≡ e → tree_piece ac new e k ≡ cond (same_key k (key_of x)) (Some moved_to) (beside x (tree_piece ac bs e k))
  entered_at (OfAccount a) k is = elsewhere k (account_piece a (tree.get text_cmp ac a)) (λ e. no_account a b (sym is ∙ e)) (beside_account x a (tree.get text_cmp ac a))
  entered_at (OfBuffer d) k is =
      ap (λ o. held_piece (floor_around ac d) o k) (up d)
      ∙ elim (same_buffer b d) as (λ a. same_buffer b d ≡ a → held_piece (floor_around ac d) (cond a (Some h) (tree.get buffer_cmp bs d)) k ≡ cond (same_key k (key_of x)) (Some moved_to) (beside x (held_piece (floor_around ac d) (tree.get buffer_cmp bs d) k))) [
        | true ↦ λ e.
            let same = same_buffer_is b d e in
            subst (λ y. held_piece (floor_around ac y) (Some h) k ≡ cond (same_key k (key_of x)) (Some moved_to) (beside x (held_piece (floor_around ac y) (tree.get buffer_cmp bs y) k))) same
            (settles k (is ∙ ap OfBuffer (sym same) ∙ sym at) ∙ ap (λ p. cond (same_key k (key_of x)) (Some moved_to) (beside x (held_piece (floor_around ac b) p k))) (sym has))
        | false ↦ λ e.
            elsewhere k (held_piece (floor_around ac d) (tree.get buffer_cmp bs d) k)
            (λ f. false≢true (sym e ∙ ap (same_buffer b) (one_buffer d b (sym is ∙ f)) ∙ same_buffer_itself b))
            (beside_elsewhere x (floor_around ac d) b d k (tree.get buffer_cmp bs d) at is e)
      ] refl

  pub entered : IsEntered (seen ac bs) n x (seen ac new)
  entered k = get-tree ac new k ∙ entered_at (key_extent k) k refl ∙ ap (λ p. cond (same_key k (key_of x)) (Some moved_to) (beside x p)) (sym (get-tree ac bs k))

-- each piece is still under its own key
key_left : (x : Extent) (t : ℕ) (o : Option Numbered) (k : Key) → ((p : Numbered) → o ≡ Some p → key_of p.change ≡ k) → (p : Numbered) → option_map (with_remainder x t) o ≡ Some p → key_of p.change ≡ k
key_left x t None k h p e = cc e
key_left x t (Some q) k h p e = let is : with_remainder x t q ≡ p = same_Some (with_remainder x t q) p e in ap (λ (y : Numbered). key_of y.change) (sym is) ∙ key_of-remainder x t q.change ∙ h q refl

key_beside : (x : Change) (o : Option Numbered) (k : Key) → ((p : Numbered) → o ≡ Some p → key_of p.change ≡ k) → (p : Numbered) → beside x o ≡ Some p → key_of p.change ≡ k
key_beside (Post r) o k h = h
key_beside (Redact b m t) o k h = h
key_beside (Mark b t) o k h = h
key_beside (Floor b t) o k h = key_left (OfBuffer b) t o k h
key_beside (AccountFloor a t) o k h = key_left (OfAccount a) t o k h

pub entered_keyed : (old : Store) (n : ℕ) (x : Change) (new : Store) → IsEntered old n x new → IsKeyedStore old → IsKeyedStore new
entered_keyed old n x new is keyed k p e =
    elim (same_key k (key_of x)) as (λ a. same_key k (key_of x) ≡ a → cond a (Some (record { number = n; change = x })) (beside x (finite.get old k)) ≡ Some p → key_of p.change ≡ k) [
      | true ↦ λ f g. let it : record { number = n; change = x } ≡ p = same_Some (record { number = n; change = x }) p g in ap (λ (y : Numbered). key_of y.change) (sym it) ∙ sym (same_key_is k (key_of x) f)
      | false ↦ λ f g. key_beside x (finite.get old k) k (keyed k) p g
    ] refl (sym (is k) ∙ e)

-- what was written over by itself is unchanged
pub unchanged_store : (ac : Accounts) (bs new : Tree) (b : Buffer) (h : Held) → tree.get buffer_cmp bs b ≡ Some h → IsWith buffer_cmp bs.entries b h new.entries → seen ac new ≡ seen ac bs
unchanged_store ac bs new b h here up = ap (store_in (held_by ac.entries)) (finite.same_map buffer_total buffer_exact (held_by new.entries) (held_by bs.entries) (λ q.
    get-held_by buffer_total new.entries q ∙ up q
    ∙ elim (same_buffer b q) as (λ t. same_buffer b q ≡ t → cond t (Some h) (tree.get buffer_cmp bs q) ≡ tree.get buffer_cmp bs q) [
      | true ↦ λ e. sym here ∙ ap (tree.get buffer_cmp bs) (same_buffer_is b q e)
      | false ↦ λ _. refl
    ] refl
    ∙ sym (get-held_by buffer_total bs.entries q)))

pub none_seen : (ac : Accounts) (bs : Tree) → ((a : List ℕ) → tree.get text_cmp ac a ≡ None) → ((b : Buffer) → tree.get buffer_cmp bs b ≡ None) → seen ac bs ≡ finite.empty
none_seen ac bs unset none = finite.same_map key_total key_exact (seen ac bs) finite.empty (λ k. get-tree ac bs k ∙ nothing (key_extent k) k ∙ sym (finite.get-empty _ k))
  where
    nothing : (e : Extent) (k : Key) → tree_piece ac bs e k ≡ None
    nothing (OfAccount a) k = ap (account_piece a) (unset a)
    nothing (OfBuffer b) k = ap (λ o. held_piece (floor_around ac b) o k) (none b)

-- ---- the number of a key's piece

number_of_numbered : (b : Buffer) (m : List ℕ) (f : ℕ) (o : Option HeldMessage) → option_map (λ (p : Numbered). p.number) (option_map (numbered b m f) o) ≡ option_map number_of o
number_of_numbered b m f None = refl
number_of_numbered b m f (Some (Kept r n)) = refl
number_of_numbered b m f (Some (Gone t n)) = refl

number_of_stamp : (g : Stamp → Numbered) → ((s : Stamp) → (g s).number ≡ s.number) → (o : Option Stamp) → option_map (λ (p : Numbered). p.number) (option_map g o) ≡ stamp_number o
number_of_stamp g h None = refl
number_of_stamp g h (Some s) = ap Some (h s)

held_number : (f : ℕ) (h : Held) (k : Key) → option_map (λ (p : Numbered). p.number) (held_piece f (Some h) k) ≡ number_under h k
held_number f h (FloorOf (OfAccount a)) = refl
held_number f h (FloorOf (OfBuffer b)) = number_of_stamp (floor_piece (OfBuffer b)) (λ _. refl) h.floor
held_number f h (MarkerOf b) = number_of_stamp (λ (s : Stamp). record { number = s.number; change = Mark b s.at }) (λ _. refl) h.marker
held_number f h (MessageOf b m) = number_of_numbered b m (max f (held_floor h)) (finite.get h.messages m)

pub number_here : (ac : Accounts) (bs : Tree) (s : Store) (b : Buffer) (k : Key) (h : Held) → seen ac bs ≡ s → key_extent k ≡ OfBuffer b → tree.get buffer_cmp bs b ≡ Some h → number_at s k ≡ number_under h k
number_here ac bs s b k h is same e = ap (option_map (λ (p : Numbered). p.number)) (has_here ac bs s b (Some h) is e k same) ∙ held_number (floor_around ac b) h k

pub number_absent : (ac : Accounts) (bs : Tree) (s : Store) (b : Buffer) (k : Key) → seen ac bs ≡ s → key_extent k ≡ OfBuffer b → tree.get buffer_cmp bs b ≡ None → number_at s k ≡ None
number_absent ac bs s b k is same e = ap (option_map (λ (p : Numbered). p.number)) (has_here ac bs s b None is e k same)

pub account_number : (ac : Accounts) (bs : Tree) (s : Store) (a : List ℕ) (o : Option Stamp) → seen ac bs ≡ s → tree.get text_cmp ac a ≡ o → number_at s (FloorOf (OfAccount a)) ≡ stamp_number o
account_number ac bs s a o is e =
    ap (option_map (λ (p : Numbered). p.number)) (get-extent ac bs s (OfAccount a) is (FloorOf (OfAccount a)) refl ∙ ap (account_piece a) e)
    ∙ number_of_stamp (floor_piece (OfAccount a)) (λ _. refl) o

-- ---- a piece is taken out of a buffer

none_at : {A B : Type 0} (f : A → B) (a : Bool) (o : Option A) → option_map f (cond a None o) ≡ cond a None (option_map f o)
none_at f true o = refl
none_at f false o = refl

pub gone_stays : (k l : Key) (o : Option Numbered) → (k ≡ l → ⊥) → o ≡ cond (same_key k l) None o
gone_stays k l o apart = ap (λ b. cond b None o) (sym (not_same k l apart))

-- the piece of a key leaves the keys of its buffer, and so the store
module _ (ac : Accounts) (bs new : Tree) (b : Buffer) (h w : Held) (l : Key) (its : key_extent l ≡ OfBuffer b) (has : tree.get buffer_cmp bs b ≡ Some h) (up : IsWith buffer_cmp bs.entries b w new.entries)
    (left : (k : Key) → key_extent k ≡ OfBuffer b → held_piece (floor_around ac b) (Some w) k ≡ cond (same_key k l) None (held_piece (floor_around ac b) (Some h) k)) where
  taken_at : (e : Extent) (k : Key) → key_extent k ≡ e → tree_piece ac new e k ≡ cond (same_key k l) None (tree_piece ac bs e k)
  taken_at (OfAccount a) k is = gone_stays k l (account_piece a (tree.get text_cmp ac a)) (other_extent k l (λ e. no_account a b (sym is ∙ e ∙ its)))
  taken_at (OfBuffer d) k is =
      ap (λ o. held_piece (floor_around ac d) o k) (up d)
      ∙ elim (same_buffer b d) as (λ a. same_buffer b d ≡ a → held_piece (floor_around ac d) (cond a (Some w) (tree.get buffer_cmp bs d)) k ≡ cond (same_key k l) None (held_piece (floor_around ac d) (tree.get buffer_cmp bs d) k)) [
        | true ↦ λ e.
            let same = same_buffer_is b d e in
            subst (λ y. held_piece (floor_around ac y) (Some w) k ≡ cond (same_key k l) None (held_piece (floor_around ac y) (tree.get buffer_cmp bs y) k)) same
            (left k (is ∙ ap OfBuffer (sym same)) ∙ ap (λ p. cond (same_key k l) None (held_piece (floor_around ac b) p k)) (sym has))
        | false ↦ λ e.
            gone_stays k l (held_piece (floor_around ac d) (tree.get buffer_cmp bs d) k)
            (other_extent k l (λ f. false≢true (sym e ∙ ap (same_buffer b) (one_buffer d b (sym is ∙ f ∙ its)) ∙ same_buffer_itself b)))
      ] refl

  pub taken_store : seen ac new ≡ finite.remove (seen ac bs) l
  taken_store = finite.same_map key_total key_exact (seen ac new) (finite.remove (seen ac bs) l) (λ k.
      get-tree ac new k ∙ taken_at (key_extent k) k refl ∙ ap (cond (same_key k l) None) (sym (get-tree ac bs k)) ∙ sym (finite.get-remove key_total (seen ac bs) l k))

-- a message leaves
message_taken : (f : ℕ) (h : Held) (b : Buffer) (i : List ℕ) (ms : Messages) → ms ≡ finite.remove h.messages i → (k : Key) → key_extent k ≡ OfBuffer b → held_piece f (Some (record h { messages = ms })) k ≡ cond (same_key k (MessageOf b i)) None (held_piece f (Some h) k)
message_taken f h b i ms is (FloorOf (OfAccount a)) e = no_account a b e
message_taken f h b i ms is (FloorOf (OfBuffer d)) e = gone_stays (FloorOf (OfBuffer d)) (MessageOf b i) _ (λ is. cc is)
message_taken f h b i ms is (MarkerOf d) e = gone_stays (MarkerOf d) (MessageOf b i) _ (λ is. cc is)
message_taken f h b i ms is (MessageOf d m) e =
    let g = max f (held_floor h) in
    ap (option_map (numbered d m g)) (ap (λ (x : Messages). finite.get x m) is ∙ finite.get-remove id_total h.messages i m)
    ∙ none_at (numbered d m g) (same_id m i) (finite.get h.messages m)
    ∙ ap (λ a. cond a None (held_piece f (Some h) (MessageOf d m))) (sym (ap (λ x. same_key (MessageOf d m) (MessageOf x i)) (sym (one_buffer d b e)) ∙ same_message d m i))

pub removed_keyed : (s : Store) (l : Key) → IsKeyedStore s → IsKeyedStore (finite.remove s l)
removed_keyed s l keyed k p e =
    elim (same_key k l) as (λ a. cond a None (finite.get s k) ≡ Some p → key_of p.change ≡ k) [
      | true ↦ λ f. cc f
      | false ↦ λ f. keyed k p f
    ] (sym (finite.get-remove key_total s l k) ∙ e)

same_buffers : (b d : Buffer) (m n : List ℕ) → MessageOf b m ≡ MessageOf d n → b ≡ d
same_buffers b d m n e = cc e

-- what is known of a record that is taken out
module _ (ac : Accounts) (bs : Tree) (keyed : IsKeyedStore (seen ac bs)) (b : Buffer) (h : Held) (has : tree.get buffer_cmp bs b ≡ Some h) (r : Record) (n : ℕ) (was : finite.get h.messages r.id ≡ Some (Kept r n)) where
  found_at : finite.get (seen ac bs) (MessageOf b r.id) ≡ Some (record { number = n; change = Post r })
  found_at = has_here ac bs (seen ac bs) b (Some h) refl has (MessageOf b r.id) refl ∙ ap (option_map (numbered b r.id (max (floor_around ac b) (held_floor h)))) was

  pub its_buffer : r.buffer ≡ b
  its_buffer = same_buffers r.buffer b r.id r.id (keyed (MessageOf b r.id) (record { number = n; change = Post r }) found_at)

  pub takes_one : (f : ℕ) (new : Tree) (ms : Messages) → r.at < f → ms ≡ finite.remove h.messages r.id → IsWith buffer_cmp bs.entries b (record h { messages = ms }) new.entries → TakesOne (seen ac bs) b f n (seen ac new)
  takes_one f new ms low left up = record {
    post = r;
    here = its_buffer;
    low = low;
    was = ap (λ d. finite.get (seen ac bs) (MessageOf d r.id)) its_buffer ∙ found_at;
    left = taken_store ac bs new b h (record h { messages = ms }) (MessageOf b r.id) refl has up (message_taken (floor_around ac b) h b r.id ms left) ∙ ap (λ d. finite.remove (seen ac bs) (MessageOf d r.id)) (sym its_buffer);
  }

-- ---- a buffer of which no record stands below a floor

same_post : (q r : Record) → Post q ≡ Post r → q ≡ r
same_post q r e = cc e

no_post : {A : Type 0} (b : Buffer) (m : List ℕ) (t : Option ℕ) (r : Record) → Redact b m t ≡ Post r → A
no_post b m t r e = cc e

kept_post : (b : Buffer) (m : List ℕ) (f : ℕ) (o : Option HeldMessage) (r : Record) (n : ℕ) → option_map (numbered b m f) o ≡ Some (record { number = n; change = Post r }) → kept_in o ≡ Some r
kept_post b m f None r n e = cc e
kept_post b m f (Some (Kept q x)) r n e = ap Some (same_post q r (ap change (same_Some (record { number = x; change = Post q }) (record { number = n; change = Post r }) e)))
kept_post b m f (Some (Gone t x)) r n e = no_post b m (at_or_above f t) r (ap change (same_Some (record { number = x; change = Redact b m (at_or_above f t) }) (record { number = n; change = Post r }) e))

pub swept_here : (ac : Accounts) (bs : Tree) → IsKeyedStore (seen ac bs) → (b : Buffer) (h : Held) → tree.get buffer_cmp bs b ≡ Some h → (f : ℕ) → IsFrom f h.messages → IsSweptOf b f (seen ac bs)
swept_here ac bs keyed b h has f from k r n here e =
    let key = keyed k (record { number = n; change = Post r }) e in
    from r.id r (kept_post r.buffer r.id (max (floor_around ac b) (held_floor h)) (finite.get h.messages r.id) r n
    (sym (has_here ac bs (seen ac bs) b (Some h) refl has (MessageOf r.buffer r.id) (ap OfBuffer here)) ∙ ap (finite.get (seen ac bs)) key ∙ e))

pub swept_absent : (ac : Accounts) (bs : Tree) → IsKeyedStore (seen ac bs) → (b : Buffer) → tree.get buffer_cmp bs b ≡ None → (f : ℕ) → IsSweptOf b f (seen ac bs)
swept_absent ac bs keyed b none f k r n here e =
    let key = keyed k (record { number = n; change = Post r }) e in
    cc (sym (has_here ac bs (seen ac bs) b None refl none (MessageOf r.buffer r.id) (ap OfBuffer here)) ∙ ap (finite.get (seen ac bs)) key ∙ e)
