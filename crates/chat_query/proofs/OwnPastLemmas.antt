-- Pages depend on the changes of the asker's account and network alone.
use Rattle.std.proofs.Common.{◌≡◌, ℕ, true, false, cond, Option, Some, None, List, [], ◌∷◌, filter, take, min, refl, sym, ◌∙◌, ap, subst}
use Rattle.std.specs.Prelude.{Contains, max, nat_le}
use Rattle.std.specs.Option.{option_map, option_and_then, unwrap_or}
use Rattle.std.specs.List.{filter_map, list_any}
use Rattle.std.specs.FinMap.{get}
use Rattle.std.proofs.lemmas.Bool.{false≢true, false_from_ne_true, cond-false}
use Rattle.chat_change.specs.Buffer.{Buffer}
use Rattle.chat_change.specs.Order.{record_cmp}
use Rattle.std.specs.Ordering.{is_eq}
use Rattle.std.proofs.lemmas.Cmp.{tied_itself}
use Rattle.chat_change.specs.Extent.{Extent, OfAccount, OfBuffer}
use Rattle.chat_change.specs.Key.{Key, FloorOf, MarkerOf, MessageOf, same_key, key_of, key_extent, bearers_of}
use Rattle.chat_change.specs.declared.change.Change.{Change}
use Rattle.chat_change.specs.declared.change.Change.TheVariants.{Post, Redact}
use Rattle.byte_text.proofs.CallerLemmas.{text_total}
use Rattle.chat_change.proofs.CallerLemmas.{same_key_is}
use Rattle.chat_history.specs.Choice.{first_by, greatest}
use Rattle.chat_history.specs.History.{History, norm, mark, piece, floor_moment, marker_moment, posted_record, message_moment, is_redaction, IsKeyed}
use Rattle.chat_history.specs.Visible.{records_in}
use Rattle.chat_history.proofs.CallerLemmas.{among, contained, among-filter, among_passing, sorted_alike, norm_keyed, get-norm, norm_of_set, spot_total, rising_total, record_of, of_record, records_sorted}
use Rattle.chat_query.specs.Scope.{Scope}
use Rattle.chat_query.specs.Page.{Point, spot, point_of, is_before, is_after, last, around_cut, between_cut, buffer_of, buffers_in, targets_cut, of_records, of_buffers, page_in, page}
use Rattle.chat_query.specs.declared.query.Selector.{Selector}
use Rattle.chat_query.specs.declared.query.Selector.TheVariants.{Timestamp, Message}
use Rattle.chat_query.specs.declared.query.Query.{Query}
use Rattle.chat_query.specs.declared.query.Query.TheVariants.{Latest, Before, After, Around, Between, Targets}
use Rattle.chat_query.specs.Listing.{IsLatestOf}
use Rattle.chat_query.specs.OwnPast.{is_own_extent, is_own, own_past, SameOwnPast}
use Rattle.chat_query.proofs.ListingLemmas.{own_network, listing_is, listing_rises}

-- ---- two histories that hold the same of the messages of a scope

module _ (scope : Scope) (g h : History) (of_g : IsKeyed g) (of_h : IsKeyed h) (alike : (target m : List ℕ) → get g (MessageOf (buffer_of scope target) m) ≡ get h (MessageOf (buffer_of scope target) m)) where
  same_records : (target : List ℕ) → records_in g (buffer_of scope target) ≡ records_in h (buffer_of scope target)
  same_records target =
      let b = buffer_of scope target in
      sorted_alike rising_total (records_in g b) (records_in h b) (records_sorted g b) (records_sorted h b)
      (λ r. (
        λ m. let p = record_of g of_g b r m in of_record h of_h b r (p.0, sym (alike target r.id) ∙ p.1),
        λ m. let p = record_of h of_h b r m in of_record g of_g b r (p.0, alike target r.id ∙ p.1),
      ))

  same_point : (target : List ℕ) (s : Selector) → point_of g (buffer_of scope target) s ≡ point_of h (buffer_of scope target) s
  same_point target (Timestamp t) = refl
  same_point target (Message m) = ap (λ o. option_map (λ (t : ℕ). spot t m) (option_and_then message_moment o)) (alike target m)

  same_buffers : buffers_in g scope ≡ buffers_in h scope
  same_buffers = sorted_alike spot_total (buffers_in g scope) (buffers_in h scope) (listing_rises g scope) (listing_rises h scope)
      (λ e. (
        λ m. (listing_is h of_h scope e).1 (subst (λ rs. IsLatestOf rs e.0) (same_records e.1) ((listing_is g of_g scope e).0 m)),
        λ m. (listing_is g of_g scope e).1 (subst (λ rs. IsLatestOf rs e.0) (sym (same_records e.1)) ((listing_is h of_h scope e).0 m)),
      ))

  same_page : (query : Query) → page_in g scope query ≡ page_in h scope query
  unfolding page_in
  same_page (Latest target None limit) = ap (λ rs. Some (of_records (last (min limit scope.maximum) rs))) (same_records target)
  same_page (Latest target (Some s) limit) = λ i. option_map (λ (p : Point). of_records (last (min limit scope.maximum) (filter (is_after p) (same_records target i)))) (same_point target s i)
  same_page (Before target s limit) = λ i. option_map (λ (p : Point). of_records (last (min limit scope.maximum) (filter (is_before p) (same_records target i)))) (same_point target s i)
  same_page (After target s limit) = λ i. option_map (λ (p : Point). of_records (take (min limit scope.maximum) (filter (is_after p) (same_records target i)))) (same_point target s i)
  same_page (Around target s limit) = λ i. option_map (λ (p : Point). of_records (around_cut (min limit scope.maximum) (same_records target i) p)) (same_point target s i)
  same_page (Between target s u limit) =
      λ i. option_and_then (λ (p : Point). option_map (λ (q : Point). of_records (between_cut (min limit scope.maximum) (same_records target i) p q)) (same_point target u i)) (same_point target s i)
  same_page (Targets t u limit) = ap (λ bs. Some (of_buffers (targets_cut (min limit scope.maximum) t u bs))) same_buffers

-- ---- the own past holds what all changes hold of the scope's buffers

module _ (scope : Scope) where
  abbrev IsOurs : Extent → Type 0
  IsOurs e = is_own_extent scope e ≡ true

  our_account : IsOurs (OfAccount scope.account)
  our_account = ap is_eq (tied_itself text_total scope.account)

  other_key : (k : Key) → IsOurs (key_extent k) → (c : Change) → is_own scope c ≡ false → same_key k (key_of c) ≡ false
  other_key k ours c e =
      false_from_ne_true (same_key k (key_of c))
      (λ t. false≢true (sym e ∙ ap (λ l. is_own_extent scope (key_extent l)) (sym (same_key_is k (key_of c) t)) ∙ ours))

  own_bearers : (k : Key) → IsOurs (key_extent k) → (changes : List Change) → bearers_of k (own_past scope changes) ≡ bearers_of k changes
  own_bearers k ours [] = refl
  own_bearers k ours (c ∷ cs) =
      elim (is_own scope c) as (λ b. is_own scope c ≡ b → bearers_of k (cond b (c ∷ own_past scope cs) (own_past scope cs)) ≡ bearers_of k (c ∷ cs)) [
        | true ↦ λ _. ap (λ l. cond (same_key k (key_of c)) (c ∷ l) l) (own_bearers k ours cs)
        | false ↦ λ e. own_bearers k ours cs ∙ sym (cond-false (same_key k (key_of c)) (c ∷ bearers_of k cs) (bearers_of k cs) (other_key k ours c e))
      ] refl

  -- what a message's piece is made of: the floors of its account and of its buffer, and its own changes
  abbrev message_piece : Buffer → List ℕ → List Change → List Change → List Change → Option Change
  message_piece b m around floors cs =
      let floor = max (unwrap_or (greatest (filter_map floor_moment around)) 0) (unwrap_or (greatest (filter_map floor_moment floors)) 0) in
      cond (list_any is_redaction cs)
      (Some (Redact b m (greatest (filter (λ t. nat_le floor t) (filter_map message_moment cs)))))
      (option_map Post (first_by record_cmp (filter (λ r. nat_le floor r.at) (filter_map posted_record cs))))

  module _ (changes : List Change) where
    own_message : (target m : List ℕ) → piece (own_past scope changes) (MessageOf (buffer_of scope target) m) ≡ piece changes (MessageOf (buffer_of scope target) m)
    own_message target m =
        let b = buffer_of scope target in
        let ours = own_network scope.account scope.network target in
        let around = own_bearers (FloorOf (OfAccount scope.account)) our_account changes in
        let floors = own_bearers (FloorOf (OfBuffer b)) ours changes in
        let of_message = own_bearers (MessageOf b m) ours changes in
        λ i. message_piece b m (around i) (floors i) (of_message i)

    own_get : (target m : List ℕ) → get (norm (own_past scope changes)) (MessageOf (buffer_of scope target) m) ≡ get (norm changes) (MessageOf (buffer_of scope target) m)
    own_get target m =
        let k = MessageOf (buffer_of scope target) m in
        get-norm (own_past scope changes) k ∙ own_message target m ∙ sym (get-norm changes k)

    pub own_page : (query : Query) → page (own_past scope changes) scope query ≡ page changes scope query
    own_page query = same_page scope (norm (own_past scope changes)) (norm changes) (norm_keyed (own_past scope changes)) (norm_keyed changes) own_get query

    pub own_mark : (target : List ℕ) → mark (own_past scope changes) (buffer_of scope target) ≡ mark changes (buffer_of scope target)
    own_mark target = ap (λ cs. greatest (filter_map marker_moment cs)) (own_bearers (MarkerOf (buffer_of scope target)) (own_network scope.account scope.network target) changes)

  -- ---- sets of changes that agree on the own past

  module _ (a b : List Change) where
    pub agreeing_page : norm (own_past scope a) ≡ norm (own_past scope b) → (query : Query) → page a scope query ≡ page b scope query
    agreeing_page e query = sym (own_page a query) ∙ ap (λ h. page_in h scope query) e ∙ own_page b query

  half_own : (a b : List Change) → ((c : Change) → is_own scope c ≡ true → Contains a c → Contains b c) → (c : Change) → Contains (own_past scope a) c → Contains (own_past scope b) c
  half_own a b h c m =
      let p = among-filter (is_own scope) a c (among (own_past scope a) c m) in
      contained (own_past scope b) c (among_passing (is_own scope) b c (among b c (h c p.1 (contained a c p.0))) p.1)

  -- with the same own changes they agree
  pub same_own : (a b : List Change) → SameOwnPast scope a b → norm (own_past scope a) ≡ norm (own_past scope b)
  same_own a b h =
      norm_of_set (own_past scope a) (own_past scope b)
      (λ c. (half_own a b (λ c e. (h c e).0) c, half_own b a (λ c e. (h c e).1) c))

  pub same_own_page : (a b : List Change) → SameOwnPast scope a b → (query : Query) → page a scope query ≡ page b scope query
  same_own_page a b h query = agreeing_page a b (same_own a b h) query
