-- The kept records are those that are filed by where they stand; what a range of those has.
use Rattle.std.proofs.Common.{◌≡◌, refl, sym, ◌∙◌, ap, subst, ℕ, ◌+◌, ◌<◌, ◌≤◌, List, [], ◌∷◌, reverse, Bool, true, false, cond, not, ◌&&◌, nat_le, nat_lt, Option, Some, None, inl, inr, arith}
use Rattle.std.proofs.lemmas.Bool.{false≢true}
use Rattle.std.proofs.lemmas.List.Kept.{IsStrictlySortedBy-filter}
use Rattle.std.specs.declared.cmp.Ordering.{Ordering}
use Rattle.std.specs.declared.cmp.Ordering.TheVariants.{Less}
use Rattle.std.specs.Ordering.{ordering_then, nat_cmp, is_lt, is_le, is_gt, flip_args}
use Rattle.std.specs.Option.{is_some}
use Rattle.std.specs.List.{filter, AllByRecursion}
use Rattle.std.specs.List.Sorted.{IsStrictlySortedBy}
use Rattle.std.specs.Map.{keys_of, values_of}
use Rattle.std.specs.BTreeMap.Range.{is_from_start, is_past_end}
use Rattle.std.specs.declared.ops.Bound.{Bound}
use Rattle.std.specs.declared.ops.Bound.TheVariants.{Included, Excluded, Unbounded}
use Rattle.std.specs.FinMap as finite
use Rattle.irc_time.specs.Time.{greatest}
use Rattle.chat_change.specs.Record.{Record}
use Rattle.chat_change.proofs.CallerLemmas.{id_total}
use Rattle.chat_history.specs.Choice.{Among}
use Rattle.chat_history.specs.Cut.{cut_cmp, latest_first, latest_first_total, of_record}
use Rattle.chat_history.specs.Visible.{by_spot}
use Rattle.chat_history.specs.declared.cut.Spot.{Spot}
use Rattle.chat_history.proofs.CallerLemmas.{among-filter, among_passing, valued, value_among, got, get_entry}
use Rattle.chat_history.proofs.CallerLemmas.{sorted_reverse, among-reverse, reverse_among}
use Rattle.ordered_maps.specs.MapView.{held_by, get, AreOrdered}
use Rattle.ordered_maps.specs.Ends.{IsLeast, IsGreatest}
use Rattle.ordered_maps.proofs.CallerLemmas.{get-held_by, entries-from_ordered}
use Rattle.chat_buffers.specs.RecordMap.{IsLatestIn}
use Rattle.chat_buffers.specs.Messages.{Messages, kept_in}
use Rattle.chat_buffers.specs.Kept.{IsKept, IsFirstKept, IsLatestKept, AreKept}
use Rattle.chat_buffers.specs.Agreement.{BySpot, ById, Agree}
use Rattle.chat_buffers.proofs.SpotLemmas.{spot_exact, before_turned, not_before, not_until}
use Rattle.chat_buffers.proofs.AgreementLemmas.{its_place, its_message, kept_stands, kept_small}

-- ---- entries that stand where their records do

abbrev AreFiled : BySpot → Type 0
AreFiled es = (e : Spot × Record) → Among e es → e.0 ≡ of_record e.1

less_than_all : (k : Spot) (es : BySpot) → AllByRecursion (λ s. latest_first k s ≡ Less) (keys_of es) → AreFiled es → AllByRecursion (λ r. latest_first k (of_record r) ≡ Less) (values_of es)
less_than_all k [] h f = tt
less_than_all k (e ∷ es) h f = (ap (latest_first k) (sym (f e (inl refl))) ∙ h.0, less_than_all k es h.1 (λ x m. f x (inr m)))

values_sorted : (es : BySpot) → IsStrictlySortedBy latest_first (keys_of es) → AreFiled es → IsStrictlySortedBy (flip_args by_spot) (values_of es)
unfolding IsStrictlySortedBy
values_sorted [] s f = tt
values_sorted (e ∷ es) s f = (
  subst (λ k. AllByRecursion (λ (r : Record). latest_first k (of_record r) ≡ Less) (values_of es)) (f e (inl refl)) (less_than_all e.0 es s.0 (λ x m. f x (inr m))),
  values_sorted es s.1 (λ x m. f x (inr m)),
)

values_passing : (p : Spot → Bool) (es : BySpot) → AreFiled es → values_of (filter (λ e. p e.0) es) ≡ filter (λ r. p (of_record r)) (values_of es)
values_passing p [] f = refl
values_passing p (e ∷ es) f =
    elim (p e.0) as (λ b. values_of (cond b (e ∷ filter (λ x. p x.0) es) (filter (λ x. p x.0) es)) ≡ cond b (e.1 ∷ values_of (filter (λ x. p x.0) es)) (values_of (filter (λ x. p x.0) es))) [ true ↦ refl | false ↦ refl ]
    ∙ (λ i. cond (p (f e (inl refl) i)) (e.1 ∷ values_passing p es (λ x m. f x (inr m)) i) (values_passing p es (λ x m. f x (inr m)) i))

no_later : (t u : ℕ) (o : Ordering) → is_gt (ordering_then (nat_cmp t u) o) ≡ false → t ≤ u
no_later t u o e = grind (arith, e)

-- ---- the kept records are those that are filed

module _ (m : BySpot) (ids : ById) (a : Agree m ids) where
  abbrev ms : Messages
  ms = held_by ids

  stands : (r : Record) → IsKept ms r → get latest_first m (of_record r) ≡ Some r
  stands r held = (kept_stands m ids a r.id r (ap kept_in (sym (get-held_by id_total ids r.id)) ∙ held)).1

  is_kept : (k : Spot) (r : Record) → get latest_first m k ≡ Some r → IsKept ms r
  is_kept k r is = ap kept_in (get-held_by id_total ids r.id) ∙ its_message m ids a k r is

  -- the latest stand first, so the record at the last spot is the first
  pub first_is : (last : Spot × Record) → IsGreatest latest_first last m → IsFirstKept ms (Some last.1)
  first_is last greatest = (
    is_kept last.0 last.1 greatest.value,
    λ q held. subst (λ s. is_gt (cut_cmp s (of_record q)) ≡ false) (its_place m ids a last.0 last.1 greatest.value)
        (sym (before_turned (of_record q) last.0) ∙ greatest.above (of_record q) (ap is_some (stands q held))),
  )

  -- and the moment of the first spot is the latest
  latest_is : (first : Spot × Record) → IsLeast latest_first first m → IsLatestKept ms (Some first.0.at)
  latest_is first least = (
    first.1,
    is_kept first.0 first.1 least.value,
    ap (λ (s : Spot). s.at) (sym (its_place m ids a first.0 first.1 least.value)),
    λ q held. no_later q.at first.0.at _ (least.below (of_record q) (ap is_some (stands q held))),
  )

  pub none_first : m ≡ [] → IsFirstKept ms None
  none_first none r held = cc (ap (λ es. get latest_first es (of_record r)) (sym none) ∙ stands r held)

  pub latest_kept : (t : Option ℕ) → IsLatestIn m t → IsLatestKept ms t
  latest_kept None none = none_first none
  latest_kept (Some t) l = subst (λ u. IsLatestKept ms (Some u)) l.2 (latest_is l.0 l.1)

  pub none_past : (t : ℕ) → greatest < t + 1 → (r : Record) → IsKept ms r → nat_lt t r.at ≡ false
  none_past t last r held = not_past t r.at greatest last (kept_small m ids a r.id r (ap kept_in (sym (get-held_by id_total ids r.id)) ∙ held))
    where
      not_past : (t u g : ℕ) → g < t + 1 → u ≤ g → nat_lt t u ≡ false
      not_past t u g l s = grind (arith, l, s)

  module _ (ordered : AreOrdered latest_first m) where
    abbrev entries_are : finite.entries (held_by {R = latest_first} m) ≡ m
    entries_are = entries-from_ordered latest_first_total m ordered

    filed : (r : Record) → IsKept ms r → Among (of_record r, r) m
    filed r held =
        subst (Among (of_record r, r)) entries_are (got latest_first_total spot_exact (held_by m) (of_record r) r (get-held_by latest_first_total m (of_record r) ∙ stands r held))

    found : (k : Spot) (r : Record) → Among (k, r) m → get latest_first m k ≡ Some r
    found k r e = sym (get-held_by latest_first_total m k) ∙ get_entry latest_first_total spot_exact (held_by m) k r (subst (Among (k, r)) (sym entries_are) e)

    are_filed : AreFiled m
    are_filed e n = its_place m ids a e.0 e.1 (found e.0 e.1 n)

    module _ (p : Spot → Bool) where
      abbrev passes : Record → Bool
      passes r = p (of_record r)

      passing_kept : AreKept (flip_args by_spot) passes ms (filter passes (values_of m))
      passing_kept = record {
        sorted = IsStrictlySortedBy-filter (flip_args by_spot) passes (values_of m) (values_sorted m ordered are_filed);
        all = λ r. (
          λ n. let both = among-filter passes (values_of m) r n in let k = valued m r both.0 in (is_kept k.0 r (found k.0 r k.1), both.1),
          λ n. among_passing passes (values_of m) r (value_among m (of_record r) r (filed r n.0)) n.1,
        );
      }

      -- a range has the kept records whose spots pass, the latest first
      pub range_kept : (rs : List Record) → rs ≡ values_of (filter (λ e. p e.0) m) → AreKept (flip_args by_spot) passes ms rs
      range_kept rs e = subst (AreKept (flip_args by_spot) passes ms) (sym (e ∙ values_passing p m are_filed)) passing_kept

-- ---- lists of kept records

module _ (R : Record → Record → Ordering) (p : Record → Bool) (ms : Messages) (rs : List Record) where
  pub kept_reversed : AreKept R p ms rs → AreKept (flip_args R) p ms (reverse rs)
  kept_reversed k = record {
    sorted = sorted_reverse R rs k.sorted;
    all = λ r. (λ n. (k.all r).0 (among-reverse rs r n), λ n. reverse_among rs r ((k.all r).1 n));
  }

  -- a test that says the same of the kept records
  pub kept_alike : (q : Record → Bool) → ((r : Record) → IsKept ms r → p r ≡ q r) → AreKept R p ms rs → AreKept R q ms rs
  kept_alike q h k = record {
    sorted = k.sorted;
    all = λ r. (λ n. let both = (k.all r).0 n in (both.0, sym (h r both.0) ∙ both.1), λ n. (k.all r).1 (n.0, h r n.0 ∙ n.1));
  }

  pub none_kept : rs ≡ [] → ((r : Record) → IsKept ms r → p r ≡ false) → AreKept R p ms rs
  unfolding IsStrictlySortedBy
  none_kept e h = subst (AreKept R p ms) (sym e) (record {
    sorted = tt;
    all = λ r. (λ n. absurd n, λ n. absurd (false≢true (sym (h r n.0) ∙ n.1)));
  })

-- ---- the ends of ranges

pub and_true : (b : Bool) → (b && true) ≡ b
and_true true = refl
and_true false = refl

-- where the latest stand first, a start of the records is an end of their spots
pub within_start : (b : Bound Spot) (s : Spot) → not (is_past_end latest_first b s) ≡ is_from_start cut_cmp b s
within_start (Included a) s = not_before s a
within_start (Excluded a) s = not_until s a
within_start Unbounded s = refl

-- and an end of the records is a start of their spots
pub within_end : (b : Bound Spot) (s : Spot) → (is_from_start latest_first b s && true) ≡ not (is_past_end cut_cmp b s)
within_end (Included a) s = and_true (is_le (cut_cmp s a)) ∙ sym (not_before a s)
within_end (Excluded a) s = and_true (is_lt (cut_cmp s a)) ∙ sym (not_until a s)
within_end Unbounded s = refl

-- from before all ids of a moment on
pub from_before : (t u : ℕ) → is_le (ordering_then (nat_cmp t u) Less) ≡ nat_le t u
from_before t u = grind arith

pub from_next : (t u n : ℕ) → n ≡ t + 1 → nat_le n u ≡ nat_lt t u
from_next t u n e = grind (arith, e)
