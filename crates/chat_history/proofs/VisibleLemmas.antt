-- The records of a history in a buffer: which they are, and that they are sorted.
use Rattle.std.proofs.Common.{◌≡◌, ℕ, Bool, true, false, cond, Option, Some, None, List, refl, sym, ◌∙◌, ap, subst}
use Rattle.std.specs.declared.cmp.Ordering.{Ordering}
use Rattle.std.specs.declared.cmp.Ordering.TheVariants.{Less, Equal, Greater}
use Rattle.std.specs.Prelude.{Contains, ◌↔◌}
use Rattle.std.specs.Ordering.{on, nat_cmp, ordering_then, eq_by_cmp, is_eq}
use Rattle.std.specs.Cmp.{IsTotalOrder, Equal-is}
use Rattle.std.proofs.lemmas.Cmp.{nat_cmp_total, on_total, then_total, tied_itself}
use Rattle.std.proofs.lemmas.Map.Lookups.{CmpEqualImpliesEq, exact_unsigned}
use Rattle.std.specs.List.{filter_map}
use Rattle.std.specs.List.Sorted.{IsStrictlySortedBy}
use Rattle.std.specs.Option.{option_map}
use Rattle.std.specs.FinMap.{get}
use Rattle.chat_change.specs.Buffer.{Buffer}
use Rattle.chat_change.specs.Record.{Record}
use Rattle.byte_text.specs.Order.{text_cmp}
use Rattle.chat_change.specs.Order.{buffer_cmp}
use Rattle.chat_change.specs.declared.change.Change.{Change}
use Rattle.chat_change.specs.declared.change.Change.TheVariants.{Post, Redact, Mark, Floor, AccountFloor}
use Rattle.byte_text.proofs.CallerLemmas.{text_total, text_exact}
use Rattle.chat_change.proofs.CallerLemmas.{buffer_total, buffer_exact}
use Rattle.chat_change.specs.Key.{MessageOf, key_of}
use Rattle.chat_history.specs.Choice.{Among}
use Rattle.chat_history.specs.History.{History, norm, changes_of, is_gone, kept_record, position_of, IsKeyed}
use Rattle.chat_history.specs.Visible.{spot_cmp, spot_of, by_spot, posted_in, in_order, records_in, visible}
use Rattle.chat_history.proofs.PieceLemmas.{bearers_of-changes_of, norm_keyed, get-norm}
use Rattle.chat_history.proofs.MemberLemmas.{among, contained, among_one, one_among, among-filter_map, among_made}
use Rattle.chat_history.proofs.StandingLemmas.{among-bearers_of, among_borne}
use Rattle.chat_history.proofs.EntryLemmas.{ordered_member, member_ordered, ordered_by_key}

-- ---- the order of spots

pub spot_total : IsTotalOrder spot_cmp
spot_total = then_total (on_total (λ (s : ℕ × List ℕ). s.0) nat_cmp_total) (on_total (λ (s : ℕ × List ℕ). s.1) text_total)

pub rising_total : IsTotalOrder by_spot
rising_total = on_total spot_of spot_total

both_equal : (a b : Ordering) → ordering_then a b ≡ Equal → (a ≡ Equal) × (b ≡ Equal)
both_equal Less b e = cc
both_equal Equal b e = (refl, e)
both_equal Greater b e = cc

pub spot_exact : CmpEqualImpliesEq spot_cmp
spot_exact s t e =
    let h = both_equal (nat_cmp s.0 t.0) (text_cmp s.1 t.1) e in
    let p = exact_unsigned s.0 t.0 h.0 in
    let q = text_exact s.1 t.1 h.1 in
    λ i. (p i, q i)

-- ---- records in order

pub ordered_among : (rs : List Record) (r : Record) → Among r (in_order rs) → Among r rs
ordered_among rs r m = ordered_member spot_total spot_exact spot_of rs r m

pub among_ordered : (rs : List Record) (r : Record) → Among r rs → ((q : Record) → Among q rs → spot_of q ≡ spot_of r → q ≡ r) → Among r (in_order rs)
among_ordered rs r m only = member_ordered spot_total spot_exact spot_of rs r m only

pub ordered_sorted : (rs : List Record) → IsStrictlySortedBy (on spot_of spot_cmp) (in_order rs)
ordered_sorted rs = ordered_by_key spot_total spot_exact spot_of rs

-- ---- the changes of a history

module _ (h : History) (keyed : IsKeyed h) where
  pub change_held : (c : Change) → Among c (changes_of h) → get h (key_of c) ≡ Some c
  change_held c m = among_one (get h (key_of c)) c (subst (Among c) (bearers_of-changes_of h keyed (key_of c)) (among_borne (key_of c) (changes_of h) c (contained (changes_of h) c m) refl))

  pub held_change : (c : Change) → get h (key_of c) ≡ Some c → Among c (changes_of h)
  held_change c e =
      among (changes_of h) c (among-bearers_of (key_of c) (changes_of h) c
      (subst (Among c) (sym (bearers_of-changes_of h keyed (key_of c))) (one_among (get h (key_of c)) c e))).0

-- ---- the records of a buffer

abbrev pub IsRecordOf : History → Buffer → Record → Type 0
IsRecordOf h b r = (r.buffer ≡ b) × (get h (MessageOf b r.id) ≡ Some (Post r))

pub posted_is : (b : Buffer) (c : Change) (r : Record) → posted_in b c ≡ Some r → (c ≡ Post r) × (r.buffer ≡ b)
posted_is b (Post q) r e =
    elim (eq_by_cmp buffer_cmp b q.buffer) as (λ t. eq_by_cmp buffer_cmp b q.buffer ≡ t → cond t (Some q) None ≡ Some r → (Post q ≡ Post r) × (r.buffer ≡ b)) [
      | true ↦ λ t e.
          let s : q ≡ r = cc in
          let d : b ≡ q.buffer = buffer_exact b q.buffer ((Equal-is (buffer_cmp b q.buffer)).0 t) in
          (ap Post s, sym (d ∙ ap (λ (x : Record). x.buffer) s))
      | false ↦ λ _ e. cc
    ] refl e
posted_is b (Redact d m t) r e = cc
posted_is b (Mark d t) r e = cc
posted_is b (Floor d t) r e = cc
posted_is b (AccountFloor a t) r e = cc

pub posted_here : (b : Buffer) (r : Record) → r.buffer ≡ b → posted_in b (Post r) ≡ Some r
posted_here b r e = ap (λ t. cond t (Some r) None) (ap (λ d. eq_by_cmp buffer_cmp b d) e ∙ ap is_eq (tied_itself buffer_total b))

-- the posts of a list of changes in a buffer
pub among-posted : (b : Buffer) (cs : List Change) (r : Record) → Among r (filter_map (posted_in b) cs) → Among (Post r) cs × (r.buffer ≡ b)
among-posted b cs r m =
    let h = among-filter_map (posted_in b) cs r m in
    let p = posted_is b h.0 r h.2 in
    (subst (λ c. Among c cs) p.0 h.1, p.1)

pub among_posts : (b : Buffer) (cs : List Change) (r : Record) → Among (Post r) cs → r.buffer ≡ b → Among r (filter_map (posted_in b) cs)
among_posts b cs r m e = among_made (posted_in b) cs (Post r) r m (posted_here b r e)

module _ (h : History) (keyed : IsKeyed h) (b : Buffer) where
  at_key : (r : Record) → r.buffer ≡ b → get h (key_of (Post r)) ≡ get h (MessageOf b r.id)
  at_key r e = ap (λ d. get h (MessageOf d r.id)) e

  post_of : (r : Record) → Among r (filter_map (posted_in b) (changes_of h)) → IsRecordOf h b r
  post_of r m =
      let p = among-posted b (changes_of h) r m in
      (p.1, sym (at_key r p.1) ∙ change_held h keyed (Post r) p.0)

  of_post : (r : Record) → IsRecordOf h b r → Among r (filter_map (posted_in b) (changes_of h))
  of_post r p = among_posts b (changes_of h) r (held_change h keyed (Post r) (at_key r p.0 ∙ p.1)) p.0

  pub record_of : (r : Record) → Among r (records_in h b) → IsRecordOf h b r
  record_of r m = post_of r (ordered_among (filter_map (posted_in b) (changes_of h)) r m)

  one_each : (r q : Record) → IsRecordOf h b r → IsRecordOf h b q → spot_of q ≡ spot_of r → q ≡ r
  one_each r q p s e =
      let i : q.id ≡ r.id = ap (λ (x : ℕ × List ℕ). x.1) e in
      let same : Some (Post q) ≡ Some (Post r) = sym s.1 ∙ ap (λ m. get h (MessageOf b m)) i ∙ p.1 in
      cc

  pub of_record : (r : Record) → IsRecordOf h b r → Among r (records_in h b)
  of_record r p = among_ordered (filter_map (posted_in b) (changes_of h)) r (of_post r p) (λ q n e. one_each r q p (post_of q n) e)

pub records_sorted : (h : History) (b : Buffer) → IsStrictlySortedBy (on spot_of spot_cmp) (records_in h b)
records_sorted h b = ordered_sorted (filter_map (posted_in b) (changes_of h))

-- ---- the visible records

abbrev pub IsVisible : List Change → Buffer → Record → Type 0
IsVisible changes b r = (r.buffer ≡ b) × (is_gone changes b r.id ≡ false) × (kept_record changes b r.id ≡ Some r)

piece_post : (g : Bool) (b : Buffer) (m : List ℕ) (t : Option ℕ) (u : Option Record) (r : Record) → cond g (Some (Redact b m t)) (option_map Post u) ≡ Some (Post r) → (g ≡ false) × (u ≡ Some r)
piece_post true b m t u r e = cc
piece_post false b m t None r e = cc
piece_post false b m t (Some q) r e = let s : q ≡ r = cc in (refl, ap Some s)

module _ (changes : List Change) (b : Buffer) where
  pub visible_is : (r : Record) → Contains (visible changes b) r ↔ IsVisible changes b r
  visible_is r = (
    λ m.
        let p = record_of (norm changes) (norm_keyed changes) b r (among (visible changes b) r m) in
        let q = piece_post (is_gone changes b r.id) b r.id (position_of changes b r.id) (kept_record changes b r.id) r (sym (get-norm changes (MessageOf b r.id)) ∙ p.1) in
        (p.0, q.0, q.1),
    λ v. contained (visible changes b) r (of_record (norm changes) (norm_keyed changes) b r
        (v.0, get-norm changes (MessageOf b r.id) ∙ (λ i. cond (v.1 i) (Some (Redact b r.id (position_of changes b r.id))) (option_map Post (v.2 i))))),
  )

  pub visible_sorted : IsStrictlySortedBy (on spot_of spot_cmp) (visible changes b)
  visible_sorted = records_sorted (norm changes) b
