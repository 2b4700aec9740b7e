-- The latest record of a buffer, and the buffers that have a record.
use Rattle.std.proofs.Common.{◌≡◌, ◌<◌, ◌≤◌, ℕ, Bool, true, false, cond, Some, None, List, [], ◌∷◌, map, refl, sym, ◌∙◌, ap, subst, arith, ⊎_elim, inl, inr}
use Rattle.std.proofs.lemmas.Bool.{cases_lt}
use Rattle.std.proofs.lemmas.Option.{same_Some}
use Rattle.std.specs.List.{filter_map}
use Rattle.std.specs.Option.{unwrap_or}
use Rattle.std.specs.FinMap.{get}
use Rattle.chat_change.specs.Buffer.{Buffer}
use Rattle.chat_change.specs.Record.{Record}
use Rattle.chat_change.specs.Key.{MessageOf}
use Rattle.chat_change.specs.declared.change.Change.{Change}
use Rattle.chat_change.specs.declared.change.Change.TheVariants.{Post, Redact, Mark, Floor, AccountFloor}
use Rattle.chat_history.specs.Choice.{Among}
use Rattle.chat_history.specs.History.{History, IsKeyed, changes_of}
use Rattle.chat_history.specs.Visible.{records_in}
use Rattle.chat_history.specs.Buffers.{buffer_where, buffers_with}
use Rattle.chat_history.specs.Latest.{latest_moment}
use Rattle.chat_history.proofs.BuffersLemmas.{in_order_member, member_in_order}
use Rattle.chat_history.proofs.MemberLemmas.{among-filter_map, among_made, mapped, image}
use Rattle.chat_history.proofs.StandingLemmas.{most_greatest}
use Rattle.chat_history.proofs.VisibleLemmas.{change_held, held_change, record_of, of_record}

-- ---- the greatest of some moments

abbrev IsGreatestOf : List ℕ → ℕ → Type 0
IsGreatestOf ts g = Among g ts × ((u : ℕ) → Among u ts → u ≤ g)

with_more : (t g : ℕ) (ts : List ℕ) → IsGreatestOf ts g → (k : ℕ) × IsGreatestOf (t ∷ ts) k
with_more t g ts h = ⊎_elim
    (λ (l : t < g). (g, (inr h.0, λ u m. ⊎_elim (λ (e : t ≡ u). let r : u ≤ g = omega arith in r) (λ a. h.1 u a) m)))
    (λ (l : g ≤ t). (t, (inl refl, λ u m. ⊎_elim (λ (e : t ≡ u). let r : u ≤ t = omega arith in r) (λ a. let s = h.1 u a in let r : u ≤ t = omega arith in r) m)))
    (cases_lt t g)

greatest_exists : (ts : List ℕ) (t : ℕ) → Among t ts → (g : ℕ) × IsGreatestOf ts g
greatest_exists [] t m = absurd m
greatest_exists (v ∷ []) t m = (v, (inl refl, λ u n. ⊎_elim (λ (e : v ≡ u). let r : u ≤ v = omega arith in r) (λ a. absurd a) n))
greatest_exists (v ∷ w ∷ ts) t m = let g = greatest_exists (w ∷ ts) w (inl refl) in with_more v g.0 (w ∷ ts) g.1

-- ---- the latest record of a buffer

-- some record has that moment, and none has a later one
abbrev pub IsLatestAmong : List Record → ℕ → Type 0
IsLatestAmong records t = ((r : Record) × Among r records × (r.at ≡ t)) × ((r : Record) → Among r records → r.at ≤ t)

module _ (h : History) (b : Buffer) where
  abbrev moments : List ℕ
  moments = map (λ (r : Record). r.at) (records_in h b)

  pub latest_among : (t : ℕ) → IsLatestAmong (records_in h b) t → latest_moment h b ≡ t
  latest_among t l =
      let there = image (λ (r : Record). r.at) (records_in h b) l.0.0 l.0.1 in
      ap (λ o. unwrap_or o 0) (most_greatest moments t (subst (λ x. Among x moments) l.0.2 there)
      (λ u m. let r = mapped (λ (r : Record). r.at) (records_in h b) u m in subst (λ x. x ≤ t) r.2 (l.1 r.0 r.1)))

  pub among_latest : (r : Record) → Among r (records_in h b) → IsLatestAmong (records_in h b) (latest_moment h b)
  among_latest r m =
      let g = greatest_exists moments r.at (image (λ (r : Record). r.at) (records_in h b) r m) in
      let q = mapped (λ (r : Record). r.at) (records_in h b) g.0 g.1.0 in
      let s : IsLatestAmong (records_in h b) g.0 = (q, λ p n. g.1.1 p.at (image (λ (r : Record). r.at) (records_in h b) p n)) in
      subst (IsLatestAmong (records_in h b)) (sym (latest_among g.0 s)) s

-- ---- the buffers that have a record

-- a buffer that is listed is that of a post which passes
pub made_post : (p : Record → Bool) (c : Change) (b : Buffer) → buffer_where p c ≡ Some b → (r : Record) × (c ≡ Post r) × (p r ≡ true) × (r.buffer ≡ b)
made_post p (Post r) b e =
    elim (p r) as (λ t. p r ≡ t → cond t (Some r.buffer) None ≡ Some b → (q : Record) × (Post r ≡ Post q) × (p q ≡ true) × (q.buffer ≡ b)) [
      | true ↦ λ t f. (r, refl, t, same_Some r.buffer b f)
      | false ↦ λ t f. cc f
    ] refl e
made_post p (Redact d m t) b e = cc e
made_post p (Mark d t) b e = cc e
made_post p (Floor d t) b e = cc e
made_post p (AccountFloor a t) b e = cc e

module _ (h : History) (keyed : IsKeyed h) where
  -- a record stands in a buffer just where its post is one of the changes
  post_record : (b : Buffer) (r : Record) → r.buffer ≡ b → Among (Post r) (changes_of h) → Among r (records_in h b)
  post_record b r is m = of_record h keyed b r (is, ap (λ d. get h (MessageOf d r.id)) (sym is) ∙ change_held h keyed (Post r) m)

  pub record_post : (b : Buffer) (r : Record) → Among r (records_in h b) → (r.buffer ≡ b) × Among (Post r) (changes_of h)
  record_post b r m =
      let is = record_of h keyed b r m in
      (is.0, held_change h keyed (Post r) (ap (λ d. get h (MessageOf d r.id)) is.0 ∙ is.1))

  module _ (p : Record → Bool) (b : Buffer) where
    -- a buffer is listed just where a record that passes stands in it
    pub listed_record : Among b (buffers_with p h) → (r : Record) × Among r (records_in h b) × (r.buffer ≡ b) × (p r ≡ true)
    listed_record m =
        let s = among-filter_map (buffer_where p) (changes_of h) b (in_order_member (filter_map (buffer_where p) (changes_of h)) b m) in
        let r = made_post p s.0 b s.2 in
        (r.0, post_record b r.0 r.3 (subst (λ (c : Change). Among c (changes_of h)) r.1 s.1), r.3, r.2)

    pub record_listed : (r : Record) → Among r (records_in h b) → p r ≡ true → Among b (buffers_with p h)
    record_listed r m e =
        let post = record_post b r m in
        member_in_order (filter_map (buffer_where p) (changes_of h)) b
        (among_made (buffer_where p) (changes_of h) (Post r) b post.1 (ap (λ t. cond t (Some r.buffer) None) e ∙ ap Some post.0))
