-- What TARGETS lists: the buffers of a scope with their latest moments.
use Rattle.std.proofs.Common.{◌≡◌, ◌<◌, ◌≤◌, ◌-◌, ℕ, Bool, true, Some, List, [], ◌∷◌, filter, take, length, min, max, nat_lt, refl, sym, ◌∙◌, ap, subst, arith, inl}
use Rattle.std.specs.Prelude.{◌↔◌, Contains}
use Rattle.std.specs.Ordering.{is_eq}
use Rattle.std.specs.Cmp.{Equal-is}
use Rattle.std.specs.List.Sorted.{IsStrictlySortedBy}
use Rattle.std.proofs.lemmas.Bool.{and_parts, and_from, ltb-true, lt-ltb, le-ltb, cond-true, cond-false}
use Rattle.std.proofs.lemmas.Cmp.{tied_itself}
use Rattle.std.proofs.lemmas.List.Kept.{IsStrictlySortedBy-filter}
use Rattle.chat_change.specs.Buffer.{Buffer}
use Rattle.chat_change.specs.Record.{Record}
use Rattle.byte_text.specs.Order.{text_cmp}
use Rattle.chat_change.specs.declared.change.Change.{Change}
use Rattle.byte_text.proofs.CallerLemmas.{text_total, text_exact}
use Rattle.chat_history.specs.Choice.{Among}
use Rattle.chat_history.specs.History.{History, norm, IsKeyed}
use Rattle.chat_history.specs.Visible.{records_in, spot_cmp}
use Rattle.chat_history.specs.Buffers.{is_of_network}
use Rattle.chat_history.specs.Latest.{latest_moment, with_moment, network_buffers, latest_in}
use Rattle.chat_history.proofs.CallerLemmas.{among, contained, among-filter, among_passing, mapped, image, sorted_alike, norm_keyed}
use Rattle.chat_history.proofs.CallerLemmas.{spot_total, record_of, latest_among, among_latest, listed_record, record_listed}
use Rattle.chat_query.specs.Scope.{Scope}
use Rattle.chat_query.specs.Page.{buffer_of, listed, buffers_in, lies_between, last, of_buffers, page_in, page}
use Rattle.chat_query.specs.Listing.{IsLatestOf, IsLatestBetween, IsListing}
use Rattle.chat_query.specs.declared.query.Query.TheVariants.{Targets}
use Rattle.chat_query.proofs.BufferLemmas.{keys_among, keys_rise}
use Rattle.chat_query.proofs.WalkLemmas.{drop_none}

-- ---- the latest record of a buffer

module _ (h : History) (b : Buffer) where
  latest_is : (t : ℕ) → IsLatestOf (records_in h b) t → latest_moment h b ≡ t
  latest_is t l = latest_among h b t ((l.0.0, among (records_in h b) l.0.0 l.0.1, l.0.2), λ r m. l.1 r (contained (records_in h b) r m))

  is_latest : (r : Record) → Among r (records_in h b) → IsLatestOf (records_in h b) (latest_moment h b)
  is_latest r m =
      let l = among_latest h b r m in
      ((l.0.0, contained (records_in h b) l.0.0 l.0.1, l.0.2), λ q n. l.1 q (among (records_in h b) q n))

-- ---- the buffers of an account on a network

pub own_network : (account network target : List ℕ) → is_of_network account network (record { account = account; network = network; target = target }) ≡ true
own_network account network target =
    and_from (is_eq (text_cmp account account)) (is_eq (text_cmp network network)) (ap is_eq (tied_itself text_total account)) (ap is_eq (tied_itself text_total network))

scope_buffer : (scope : Scope) (b : Buffer) → is_of_network scope.account scope.network b ≡ true → b ≡ buffer_of scope b.target
scope_buffer scope b e =
    let both = and_parts (is_eq (text_cmp b.account scope.account)) (is_eq (text_cmp b.network scope.network)) e in
    let a : b.account ≡ scope.account = text_exact b.account scope.account ((Equal-is (text_cmp b.account scope.account)).0 both.0) in
    let n : b.network ≡ scope.network = text_exact b.network scope.network ((Equal-is (text_cmp b.network scope.network)).0 both.1) in
    λ i. record { account = a i; network = n i; target = b.target }

module _ (h : History) (keyed : IsKeyed h) (scope : Scope) where
  abbrev is_ours : Record → Bool
  is_ours r = is_of_network scope.account scope.network r.buffer

  abbrev ours : List Buffer
  ours = network_buffers h scope.account scope.network

  -- a buffer of the scope that has a record
  by_record : (b : Buffer) (r : Record) → Among r (records_in h b) → is_of_network scope.account scope.network b ≡ true → Among b ours
  by_record b r m e = record_listed h keyed is_ours b r m (ap (is_of_network scope.account scope.network) (record_of h keyed b r m).0 ∙ e)

  has_record : (b : Buffer) → Among b ours → ((r : Record) × Among r (records_in h b)) × (is_of_network scope.account scope.network b ≡ true)
  has_record b m =
      let r = listed_record h keyed is_ours b m in
      ((r.0, r.1), ap (is_of_network scope.account scope.network) (sym r.2) ∙ r.3)

  abbrev all : List (ℕ × List ℕ)
  all = listed (latest_in h scope.account scope.network)

  listed_is : (e : ℕ × List ℕ) → Among e all → IsLatestOf (records_in h (buffer_of scope e.1)) e.0
  listed_is e m =
      let p = mapped (λ (p : Buffer × ℕ). (p.1, p.0.target)) (latest_in h scope.account scope.network) e m in
      let s = mapped (with_moment h) ours p.0 p.1 in
      let r = has_record s.0 s.1 in
      let is : ◌≡◌ {A = ℕ × List ℕ} (latest_moment h s.0, s.0.target) e = ap (λ (p : Buffer × ℕ). (p.1, p.0.target)) s.2 ∙ p.2 in
      subst (λ (e : ℕ × List ℕ). IsLatestOf (records_in h (buffer_of scope e.1)) e.0) is
      (subst (λ b. IsLatestOf (records_in h b) (latest_moment h s.0)) (scope_buffer scope s.0 r.1) (is_latest h s.0 r.0.0 r.0.1))

  is_listed : (e : ℕ × List ℕ) → IsLatestOf (records_in h (buffer_of scope e.1)) e.0 → Among e all
  is_listed e l =
      let b = buffer_of scope e.1 in
      let m = by_record b l.0.0 (among (records_in h b) l.0.0 l.0.1) (own_network scope.account scope.network e.1) in
      let there = image (λ (p : Buffer × ℕ). (p.1, p.0.target)) (latest_in h scope.account scope.network) (with_moment h b) (image (with_moment h) ours b m) in
      subst (λ x. Among x all) (λ i. (latest_is h b e.0 l i, e.1)) there

  -- a buffer is listed with a moment just where that is the moment of its latest record
  pub listing_is : (e : ℕ × List ℕ) → Among e (buffers_in h scope) ↔ IsLatestOf (records_in h (buffer_of scope e.1)) e.0
  listing_is e = (λ m. listed_is e ((keys_among all e).0 m), λ l. (keys_among all e).1 (is_listed e l))

pub listing_rises : (h : History) (scope : Scope) → IsStrictlySortedBy spot_cmp (buffers_in h scope)
listing_rises h scope = keys_rise (listed (latest_in h scope.account scope.network))

-- ---- those between two moments

no_member : {A : Type 0} (xs : List A) → ((x : A) → Among x xs → ⊥) → xs ≡ []
no_member [] h = refl
no_member (x ∷ xs) h = absurd (h x (inl refl))

module _ (changes : List Change) (scope : Scope) (t u : ℕ) where
  abbrev bs : List (ℕ × List ℕ)
  bs = buffers_in (norm changes) scope

  abbrev pub between : List (ℕ × List ℕ)
  between = filter (lies_between t u) bs

  lies : (e : ℕ × List ℕ) → lies_between t u e ≡ true → (min t u < e.0) × (e.0 < max t u)
  lies e h = let p = and_parts (nat_lt (min t u) e.0) (nat_lt e.0 (max t u)) h in (ltb-true (min t u) e.0 p.0, ltb-true e.0 (max t u) p.1)

  latest_between : (e : ℕ × List ℕ) → Contains between e → IsLatestBetween changes scope t u e
  latest_between e m =
      let p = among-filter (lies_between t u) bs e (among between e m) in
      let l = lies e p.1 in
      ((listing_is (norm changes) (norm_keyed changes) scope e).0 p.0, l.0, l.1)

  between_latest : (e : ℕ × List ℕ) → IsLatestBetween changes scope t u e → Contains between e
  between_latest e l =
      let lies = and_from (nat_lt (min t u) e.0) (nat_lt e.0 (max t u)) (lt-ltb (min t u) e.0 l.1) (lt-ltb e.0 (max t u) l.2) in
      contained between e (among_passing (lies_between t u) bs e ((listing_is (norm changes) (norm_keyed changes) scope e).1 l.0) lies)

  pub is_listing : IsListing changes scope t u between
  is_listing = record {
    members = λ e. (latest_between e, between_latest e);
    rises = IsStrictlySortedBy-filter spot_cmp (lies_between t u) bs (listing_rises (norm changes) scope);
  }

  only_listing : (found : List (ℕ × List ℕ)) → IsListing changes scope t u found → between ≡ found
  only_listing found l = sorted_alike spot_total between found is_listing.rises l.rises
      (λ e. (
        λ m. among found e ((l.members e).1 (latest_between e (contained between e m))),
        λ m. among between e (between_latest e ((l.members e).0 (contained found e m))),
      ))

  module _ (limit : ℕ) where
    abbrev n : ℕ
    n = min limit scope.maximum

    pub first_page : (found : List (ℕ × List ℕ)) → t < u → IsListing changes scope t u found → page changes scope (Targets t u limit) ≡ Some (of_buffers (take n found))
    unfolding page_in
    first_page found l is = ap (λ bs. Some (of_buffers bs)) (cond-true (nat_lt t u) (take n between) (last n between) (lt-ltb t u l) ∙ ap (take n) (only_listing found is))

    pub last_page : (found : List (ℕ × List ℕ)) → u ≤ t → IsListing changes scope t u found → page changes scope (Targets t u limit) ≡ Some (of_buffers (last n found))
    unfolding page_in
    last_page found l is = ap (λ bs. Some (of_buffers bs)) (cond-false (nat_lt t u) (take n between) (last n between) (le-ltb t u l) ∙ ap (last n) (only_listing found is))

pub no_page : (changes : List Change) (scope : Scope) (t limit : ℕ) → page changes scope (Targets t t limit) ≡ Some (of_buffers [])
no_page changes scope t limit =
    let found = between changes scope t t in
    let none = no_member found (λ e m. let l = latest_between changes scope t t e (contained found e m) in absurd (omega arith)) in
    last_page changes scope t t limit found (omega arith) (is_listing changes scope t t) ∙ ap (λ bs. Some (of_buffers bs)) (drop_none (length found - min limit scope.maximum) found none)
