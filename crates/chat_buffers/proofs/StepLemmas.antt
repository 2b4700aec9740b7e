-- The steps by which the two maps of a buffer change, each of which keeps them in agreement.
use Rattle.std.proofs.Common.{◌≡◌, ◌≢◌, refl, sym, ◌∙◌, ap, subst, ℕ, List, Bool, true, false, cond, Option, Some, None, nat_eq, ◌≤◌, is_some, arith, []}
use Rattle.std.proofs.lemmas.Bool.{false≢true}
use Rattle.std.proofs.lemmas.Option.{same_Some}
use Rattle.std.specs.declared.cmp.Ordering.{Ordering}
use Rattle.std.specs.Ordering.{is_gt, ordering_then, nat_cmp, is_lt}
use Rattle.std.specs.Option.{IsSome, IfSome, option_map}
use Rattle.std.specs.FinMap as finite
use Rattle.irc_time.specs.Time.{greatest}
use Rattle.chat_change.specs.Record.{Record}
use Rattle.chat_change.specs.Order.{id_cmp}
use Rattle.chat_change.proofs.CallerLemmas.{id_total}
use Rattle.chat_history.specs.Cut.{latest_first, of_record}
use Rattle.chat_history.specs.declared.cut.Spot.{Spot}
use Rattle.ordered_maps.specs.MapView.{held_by, get, IsSetTo, IsWith, IsWithout}
use Rattle.ordered_maps.specs.Ends.{IsGreatest}
use Rattle.ordered_maps.proofs.CallerLemmas.{get-held_by, unchanged}
use Rattle.chat_buffers.specs.declared.held_message.HeldMessage.{HeldMessage}
use Rattle.chat_buffers.specs.declared.held_message.HeldMessage.TheVariants.{Kept, Gone}
use Rattle.chat_buffers.specs.Messages.{Messages, kept_in, kept_moment, number_of, IsFrom}
use Rattle.chat_buffers.specs.Agreement.{BySpot, ById, place, Agree}
use Rattle.chat_buffers.proofs.SpotLemmas.{before_turned}
use Rattle.chat_buffers.proofs.AgreementLemmas.{agree_alike, same_id, same_id_is, settled, unkept_none, kept_elsewhere, its_place, its_message, kept_stands, set_elsewhere, set_here}

-- what is held of a message, as it is found
pub found : (ids : ById) (s : Messages) (m : List ℕ) → held_by ids ≡ s → get id_cmp ids m ≡ finite.get s m
found ids s m is = sym (get-held_by id_total ids m) ∙ ap (λ (x : Messages). finite.get x m) is

some_of : (o : Option HeldMessage) (t : ℕ) → kept_moment o ≡ Some t → IsSome o
some_of None t e = cc e
some_of (Some s) t e = refl

pub kept_held : (ids : ById) (s : Messages) (m : List ℕ) → held_by ids ≡ s → (t : ℕ) → kept_moment (finite.get s m) ≡ Some t → IsSome (get id_cmp ids m)
kept_held ids s m is t e = subst IsSome (sym (found ids s m is)) (some_of (finite.get s m) t e)

-- what was held of a message is held of it again
pub put_back : (ids jds kds : ById) (id : List ℕ) (x : HeldMessage) (o : Option HeldMessage) → IsWith id_cmp ids id x jds → IsSetTo id_cmp jds id o kds → o ≡ get id_cmp ids id → (q : List ℕ) → get id_cmp kds q ≡ get id_cmp ids q
put_back ids jds kds id x o up back was q =
    back q ∙ ap (cond (same_id id q) o) (up q)
    ∙ elim (same_id id q) as (λ b. same_id id q ≡ b → cond b o (cond b (Some x) (get id_cmp ids q)) ≡ get id_cmp ids q) [
      | true ↦ λ e. was ∙ ap (get id_cmp ids) (same_id_is id q e)
      | false ↦ λ _. refl
    ] refl

-- ---- a record takes its place

module _ (m n : BySpot) (ids : ById) (a : Agree m ids) (r : Record) (fits : r.at ≤ greatest) (up : IsWith latest_first m (of_record r) r n) where
  there : (t : ℕ) → get latest_first n (place t r.id) ≡ cond (nat_eq t r.at) (Some r) (get latest_first m (place t r.id))
  there = set_here m n (Some r) r.at r.id up

  lands : (q : Spot) → (q.id ≡ Some r.id → ⊥) → get latest_first n q ≡ get latest_first m q
  lands = set_elsewhere m n (Some r) (of_record r) r.id refl up

  module _ (jds : ById) (number : ℕ) (stands : IsWith id_cmp ids r.id (Kept r number) jds) where
    -- the first record of a message
    pub first_agree : kept_moment (get id_cmp ids r.id) ≡ None → Agree n jds
    first_agree none =
        settled m n ids jds r.id (Some (Kept r number)) lands
        (λ t. there t ∙ ap (cond (nat_eq t r.at) (Some r)) (unkept_none m ids a r.id none t)) (refl, fits) stands a

    -- another record at the same moment
    pub same_agree : kept_moment (get id_cmp ids r.id) ≡ Some r.at → Agree n jds
    same_agree kept =
        settled m n ids jds r.id (Some (Kept r number)) lands
        (λ t. there t ∙ elim (nat_eq t r.at) as (λ b. nat_eq t r.at ≡ b → cond b (Some r) (get latest_first m (place t r.id)) ≡ cond b (Some r) None) [
          | true ↦ λ _. refl
          | false ↦ λ e. kept_elsewhere m ids a r.id r.at kept t e
        ] refl) (refl, fits) stands a

    -- another record at another moment, from which the old one was taken out
    module _ (u : BySpot) (before : ℕ) (apart : nat_eq before r.at ≡ false) (out : IsWithout latest_first n (place before r.id) u) where
      no_longer : (t : ℕ) (x y : Bool) → nat_eq t before ≡ x → nat_eq t r.at ≡ y → (nat_eq t before ≡ false → get latest_first m (place t r.id) ≡ None) → cond x None (cond y (Some r) (get latest_first m (place t r.id))) ≡ cond y (Some r) None
      no_longer t true true e f h = absurd (false≢true (sym apart ∙ grind (arith, e, f)))
      no_longer t true false e f h = refl
      no_longer t false true e f h = refl
      no_longer t false false e f h = h e

      pub moved_agree : kept_moment (get id_cmp ids r.id) ≡ Some before → Agree u jds
      moved_agree kept =
          settled m u ids jds r.id (Some (Kept r number))
          (λ q apart. set_elsewhere n u None (place before r.id) r.id refl out q apart ∙ lands q apart)
          (λ t. set_here n u None before r.id out t ∙ ap (cond (nat_eq t before) None) (there t)
          ∙ no_longer t (nat_eq t before) (nat_eq t r.at) refl refl (λ e. kept_elsewhere m ids a r.id before kept t e)) (refl, fits) stands a

    -- the old record left its place, where that was another one
    pub left_agree : (u : BySpot) (o : Option ℕ) → kept_moment (get id_cmp ids r.id) ≡ o → (o ≡ None → u ≡ n) → (o ≡ Some r.at → u ≡ n) → IfSome o (λ t. t ≢ r.at → IsWithout latest_first n (place t r.id) u) → Agree u jds
    left_agree u None kept first same moved = agree_alike n u jds jds (unchanged latest_first n u (first refl)) (λ _. refl) (first_agree kept)
    left_agree u (Some t) kept first same moved =
        elim (nat_eq t r.at) as (λ b. nat_eq t r.at ≡ b → Agree u jds) [
          | true ↦ λ e. let is : t ≡ r.at = grind (arith, e) in agree_alike n u jds jds (unchanged latest_first n u (same (ap Some is))) (λ _. refl) (same_agree (kept ∙ ap Some is))
          | false ↦ λ e. moved_agree u t e (moved (λ is. let yes : nat_eq t r.at ≡ true = grind (arith, is) in false≢true (sym e ∙ yes))) kept
        ] refl

-- ---- a message goes

module _ (m : BySpot) (ids jds : ById) (a : Agree m ids) (id : List ℕ) (at : Option ℕ) (number : ℕ) (stands : IsWith id_cmp ids id (Gone at number) jds) where
  -- of which no record was kept
  pub noted_agree : kept_moment (get id_cmp ids id) ≡ None → Agree m jds
  noted_agree none = settled m m ids jds id (Some (Gone at number)) (λ q _. refl) (unkept_none m ids a id none) tt stands a

  -- whose record is taken out
  pub gone_agree : (u : BySpot) (stood : ℕ) → kept_moment (get id_cmp ids id) ≡ Some stood → IsWithout latest_first m (place stood id) u → Agree u jds
  gone_agree u stood kept out =
      settled m u ids jds id (Some (Gone at number)) (set_elsewhere m u None (place stood id) id refl out)
      (λ t. set_here m u None stood id out t
      ∙ elim (nat_eq t stood) as (λ b. nat_eq t stood ≡ b → cond b None (get latest_first m (place t id)) ≡ None) [
        | true ↦ λ _. refl
        | false ↦ λ e. kept_elsewhere m ids a id stood kept t e
      ] refl) tt stands a

-- ---- a record is taken out, with its message

moment_of : (o : Option Record) (r : Record) → o ≡ Some r → option_map (λ (x : Record). x.at) o ≡ Some r.at
moment_of o r e = ap (option_map (λ (x : Record). x.at)) e

module _ (m u : BySpot) (ids jds : ById) (a : Agree m ids) (k : Spot) (r : Record) (is : get latest_first m k ≡ Some r)
    (out : IsWithout latest_first m k u) (stands : IsWithout id_cmp ids r.id jds) where
  pub taken_agree : Agree u jds
  taken_agree =
      let out' = subst (λ s. IsWithout latest_first m s u) (its_place m ids a k r is) out in
      let kept = moment_of (kept_in (get id_cmp ids r.id)) r (its_message m ids a k r is) in
      settled m u ids jds r.id None (set_elsewhere m u None (of_record r) r.id refl out')
      (λ t. set_here m u None r.at r.id out' t
      ∙ elim (nat_eq t r.at) as (λ b. nat_eq t r.at ≡ b → cond b None (get latest_first m (place t r.id)) ≡ None) [
        | true ↦ λ _. refl
        | false ↦ λ e. kept_elsewhere m ids a r.id r.at kept t e
      ] refl) tt stands a

  -- what was held of it
  pub was_kept : (n : ℕ) (o : Option HeldMessage) → get id_cmp ids r.id ≡ o → option_map number_of o ≡ Some n → get id_cmp ids r.id ≡ Some (Kept r n)
  was_kept n None e h = cc h
  was_kept n (Some (Kept s x)) e h =
      let same : s ≡ r = same_Some s r (ap kept_in (sym e) ∙ its_message m ids a k r is) in
      let number : x ≡ n = same_Some x n h in
      e ∙ (λ i. Some (Kept (same i) (number i)))
  was_kept n (Some (Gone t x)) e h = cc (ap kept_in (sym e) ∙ its_message m ids a k r is)

  pub was_known : (o : Option HeldMessage) → get id_cmp ids r.id ≡ o → option_map number_of o ≡ None → ⊥
  was_known None e h = cc (ap kept_in (sym e) ∙ its_message m ids a k r is)
  was_known (Some s) e h = cc h

-- ---- what no floor takes

not_above : (a b : ℕ) (o : Ordering) → is_gt (ordering_then (nat_cmp a b) o) ≡ false → a ≤ b
not_above a b o h = grind (arith, h)

-- a spot that stands nowhere before another has no later moment
pub not_after : (s t : Spot) → is_lt (latest_first s t) ≡ false → s.at ≤ t.at
not_after s t h = not_above s.at t.at _ (sym (before_turned t s) ∙ h)

module _ (m : BySpot) (ids : ById) (a : Agree m ids) (f : ℕ) where
  -- the last spot, which is the earliest, is at or above the floor, and so is each record
  pub from_last : (last : Spot × Record) → IsGreatest latest_first last m → f ≤ last.0.at → IsFrom f (held_by ids)
  from_last last greatest h i r e =
      let stands = (kept_stands m ids a i r (ap kept_in (sym (get-held_by id_total ids i)) ∙ e)).1 in
      let up : last.0.at ≤ r.at = not_after last.0 (of_record r) (greatest.above (of_record r) (ap is_some stands)) in
      omega (arith, up, h)

  pub from_empty : m ≡ [] → IsFrom f (held_by ids)
  from_empty none i r e = cc (ap (λ es. get latest_first es (of_record r)) (sym none) ∙ (kept_stands m ids a i r (ap kept_in (sym (get-held_by id_total ids i)) ∙ e)).1)
