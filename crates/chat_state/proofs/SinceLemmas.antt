-- The buffers of an account on a network that have a record at a moment or later are those whose latest record isn't older.
use Rattle.std.proofs.Common.{◌≡◌, ◌≤◌, ℕ, Bool, true, false, cond, ◌&&◌, nat_le, List, [], ◌∷◌, map, refl, sym, ◌∙◌, ap, arith}
use Rattle.std.proofs.lemmas.Bool.{and_parts, and_from, leb-true, le-leb}
use Rattle.std.proofs.lemmas.List.Elements.{filter_agree}
use Rattle.std.proofs.lemmas.List.Kept.{IsStrictlySortedBy-filter}
use Rattle.std.specs.List.{filter, filter_map}
use Rattle.chat_change.specs.Buffer.{Buffer}
use Rattle.chat_change.specs.Record.{Record}
use Rattle.chat_change.specs.Order.{buffer_cmp}
use Rattle.chat_change.proofs.CallerLemmas.{buffer_total}
use Rattle.chat_history.specs.Choice.{Among}
use Rattle.chat_history.specs.History.{History, IsKeyed, changes_of}
use Rattle.chat_history.specs.Buffers.{is_of_network, buffer_where}
use Rattle.chat_history.specs.Latest.{latest_moment, with_moment, network_buffers, latest_in}
use Rattle.chat_history.proofs.CallerLemmas.{among-filter, among_passing, sorted_alike}
use Rattle.chat_history.proofs.CallerLemmas.{buffers_sorted, among_latest, record_post, listed_record, record_listed}
use Rattle.chat_buffers.proofs.CallerLemmas.{filter_all}
use Rattle.chat_state.specs.LatestSince.{is_since, latest_since_in}
use Rattle.chat_state.specs.Latest.{buffers_since}

map_passing : {A B : Type 0} (f : A → B) (p : B → Bool) (xs : List A) → map f (filter (λ x. p (f x)) xs) ≡ filter p (map f xs)
map_passing f p [] = refl
map_passing f p (x ∷ xs) =
    elim (p (f x)) as (λ t. map f (cond t (x ∷ filter (λ x. p (f x)) xs) (filter (λ x. p (f x)) xs)) ≡ cond t (f x ∷ filter p (map f xs)) (filter p (map f xs))) [
      | true ↦ ap (λ l. f x ∷ l) (map_passing f p xs)
      | false ↦ map_passing f p xs
    ]

module _ (h : History) (keyed : IsKeyed h) (account network : List ℕ) (since : ℕ) where
  abbrev is_ours : Buffer → Bool
  is_ours = is_of_network account network

  abbrev ours_passes : Record → Bool
  ours_passes r = is_ours r.buffer

  abbrev passes : Record → Bool
  passes r = nat_le since r.at && is_ours r.buffer

  abbrev is_late : Buffer → Bool
  is_late b = is_since since (with_moment h b)

  abbrev ours : List Buffer
  ours = network_buffers h account network

  late : (b : Buffer) → Among b (buffers_since h account network since) → Among b (filter is_late ours)
  late b m =
      let r = listed_record h keyed passes b m in
      let both = and_parts (nat_le since r.0.at) (is_ours r.0.buffer) r.3 in
      let from : since ≤ r.0.at = leb-true since r.0.at both.0 in
      let upto : r.0.at ≤ latest_moment h b = (among_latest h b r.0 r.1).1 r.0 r.1 in
      among_passing is_late ours b (record_listed h keyed ours_passes b r.0 r.1 both.1) (le-leb since (latest_moment h b) (omega arith))

  has_late : (b : Buffer) → Among b (filter is_late ours) → Among b (buffers_since h account network since)
  has_late b m =
      let both = among-filter is_late ours b m in
      let r = listed_record h keyed ours_passes b both.0 in
      let q = (among_latest h b r.0 r.1).0 in
      let here : q.0.buffer ≡ b = (record_post h keyed b q.0 q.1).0 in
      record_listed h keyed passes b q.0 q.1
      (and_from (nat_le since q.0.at) (is_ours q.0.buffer) (ap (nat_le since) q.2 ∙ both.1) (ap is_ours (here ∙ sym r.2) ∙ r.3))

  same_buffers : buffers_since h account network since ≡ filter is_late ours
  same_buffers =
      sorted_alike buffer_total (buffers_since h account network since) (filter is_late ours)
      (buffers_sorted (filter_map (buffer_where passes) (changes_of h)))
      (IsStrictlySortedBy-filter buffer_cmp is_late ours (buffers_sorted (filter_map (buffer_where ours_passes) (changes_of h))))
      (λ b. (late b, has_late b))

  -- each with its moment
  pub moments_since : map (with_moment h) (buffers_since h account network since) ≡ latest_since_in h account network since
  moments_since = ap (map (with_moment h)) same_buffers ∙ map_passing (with_moment h) (is_since since) ours

-- no record is older than the first moment
pub all_since : (h : History) (account network : List ℕ) → latest_since_in h account network 0 ≡ latest_in h account network
all_since h account network =
    let buffers = latest_in h account network in
    filter_agree (is_since 0) (λ _. true) (λ b. le-leb 0 b.1 (omega arith)) buffers ∙ filter_all buffers
