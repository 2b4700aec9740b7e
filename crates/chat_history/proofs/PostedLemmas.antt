-- What is visible was posted, and what is listed of a buffer is of a record that was.
use Rattle.std.proofs.Common.{◌≡◌, ℕ, Option, Some, None, List, [], ◌∷◌, map, inl, inr, refl, sym, ◌∙◌, ap, subst}
use Rattle.std.specs.Prelude.{Contains}
use Rattle.std.specs.Option.{unwrap_or}
use Rattle.std.specs.List.{AllByRecursion, filter_map}
use Rattle.std.specs.FinMap.{get}
use Rattle.chat_change.specs.Buffer.{Buffer}
use Rattle.chat_change.specs.Record.{Record}
use Rattle.chat_change.specs.Key.{MessageOf}
use Rattle.chat_change.specs.declared.change.Change.{Change}
use Rattle.chat_change.specs.declared.change.Change.TheVariants.{Post}
use Rattle.chat_history.specs.Choice.{greatest, Among}
use Rattle.chat_history.specs.History.{norm, changes_of}
use Rattle.chat_history.specs.Visible.{visible}
use Rattle.chat_history.specs.Buffers.{buffer_where, is_of_network}
use Rattle.chat_history.specs.Latest.{latest_moment, with_moment, network_buffers, latest_in}
use Rattle.chat_history.proofs.BuffersLemmas.{in_order_member}
use Rattle.chat_history.proofs.LatestLemmas.{made_post}
use Rattle.chat_history.proofs.MemberLemmas.{contained, among-filter_map, first_none, mapped, image}
use Rattle.chat_history.proofs.NormLemmas.{latest_total, latest_exact}
use Rattle.chat_history.proofs.PieceLemmas.{norm_keyed}
use Rattle.chat_history.proofs.StandingLemmas.{kept_first, greatest_most}
use Rattle.chat_history.proofs.VisibleLemmas.{visible_is, change_held, of_record}

pub visible_posted : (changes : List Change) (b : Buffer) (r : Record) → Contains (visible changes b) r → Contains changes (Post r) × (r.buffer ≡ b)
visible_posted changes b r m =
    let v = (visible_is changes b r).0 m in
    let first = (kept_first changes b r.id r).0 v.2 in
    (first.0.0.0, v.0)

-- ---- buffers with their latest moments

-- a record was posted in that buffer at that moment
abbrev pub IsPostedAt : List Change → Buffer → ℕ → Type 0
IsPostedAt changes b t = (r : Record) × Contains changes (Post r) × (r.at ≡ t) × (r.buffer ≡ b)

module _ (changes : List Change) where
  abbrev moments : Buffer → List ℕ
  moments b = map (λ (r : Record). r.at) (visible changes b)

  -- a buffer of which a record is visible is listed by one
  by_record : (b : Buffer) (q : Record) → Among q (visible changes b) → IsPostedAt changes b (latest_moment (norm changes) b)
  by_record b q m = go (greatest (moments b)) refl where
    go : (o : Option ℕ) → greatest (moments b) ≡ o → IsPostedAt changes b (unwrap_or o 0)
    go None e = absurd (subst (Among q.at) (first_none latest_total latest_exact (moments b) e) (image (λ (r : Record). r.at) (visible changes b) q m))
    go (Some t) e =
        let r = mapped (λ (r : Record). r.at) (visible changes b) t (greatest_most (moments b) t e).0 in
        let p = visible_posted changes b r.0 (contained (visible changes b) r.0 r.1) in
        (r.0, p.0, r.2, p.1)

  one_listed : (account network : List ℕ) (b : Buffer) → Among b (network_buffers (norm changes) account network) → IsPostedAt changes b (latest_moment (norm changes) b)
  one_listed account network b m =
      let p = λ (r : Record). is_of_network account network r.buffer in
      let s = among-filter_map (buffer_where p) (changes_of (norm changes)) b (in_order_member (filter_map (buffer_where p) (changes_of (norm changes))) b m) in
      let q = made_post p s.0 b s.2 in
      let held = change_held (norm changes) (norm_keyed changes) (Post q.0) (subst (λ c. Among c (changes_of (norm changes))) q.1 s.1) in
      by_record b q.0 (of_record (norm changes) (norm_keyed changes) b q.0 (q.3, ap (λ d. get (norm changes) (MessageOf d q.0.id)) (sym q.3) ∙ held))

  latest_posted : (account network : List ℕ) (p : Buffer × ℕ) → Among p (latest_in (norm changes) account network) → IsPostedAt changes p.0 p.1
  latest_posted account network p m =
      let s = mapped (with_moment (norm changes)) (network_buffers (norm changes) account network) p m in
      let r = one_listed account network s.0 s.1 in
      (r.0, r.1, r.2 ∙ ap (λ (x : Buffer × ℕ). x.1) s.2, r.3 ∙ ap (λ (x : Buffer × ℕ). x.0) s.2)

  all_among : {A : Type 0} (P : A → Type 0) (xs : List A) → ((x : A) → Among x xs → P x) → AllByRecursion P xs
  all_among P [] h = tt
  all_among P (x ∷ xs) h = (h x (inl refl), all_among P xs (λ y m. h y (inr m)))

  pub all_latest_posted : (account network : List ℕ) → AllByRecursion (λ p. IsPostedAt changes p.0 p.1) (latest_in (norm changes) account network)
  all_latest_posted account network = all_among _ (latest_in (norm changes) account network) (latest_posted account network)
