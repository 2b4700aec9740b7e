-- What a change of the two maps at one message leaves of their agreement.
use Rattle.std.proofs.Common.{◌≡◌, refl, sym, ◌∙◌, ap, subst, ℕ, List, Bool, true, false, cond, Option, Some, None, nat_eq, ◌≤◌, arith}
use Rattle.std.proofs.lemmas.Bool.{false≢true}
use Rattle.std.proofs.lemmas.Option.{same_Some}
use Rattle.std.specs.Ordering.{eq_by_cmp, is_eq}
use Rattle.std.specs.Option.{IfSome, option_map}
use Rattle.std.specs.Cmp.{Equal-is}
use Rattle.std.proofs.lemmas.Cmp.{tied_itself}
use Rattle.irc_time.specs.Time.{greatest}
use Rattle.chat_change.specs.Record.{Record}
use Rattle.chat_change.specs.Order.{id_cmp}
use Rattle.chat_change.proofs.CallerLemmas.{id_total, id_exact}
use Rattle.chat_history.specs.Choice.{keep}
use Rattle.chat_history.specs.Cut.{latest_first, latest_first_total, of_record}
use Rattle.chat_history.specs.declared.cut.Spot.{Spot}
use Rattle.ordered_maps.specs.MapView.{get, IsSetTo}
use Rattle.chat_buffers.specs.declared.held_message.HeldMessage.{HeldMessage}
use Rattle.chat_buffers.specs.Messages.{kept_in, kept_moment}
use Rattle.chat_buffers.specs.Agreement.{BySpot, ById, place, record_at, Agree}
use Rattle.chat_buffers.proofs.SpotLemmas.{spot_exact}

-- one id is another
abbrev pub same_id : List ℕ → List ℕ → Bool
same_id = eq_by_cmp id_cmp

pub same_id_is : (a b : List ℕ) → same_id a b ≡ true → a ≡ b
same_id_is a b e = id_exact a b ((Equal-is (id_cmp a b)).0 e)

pub same_id_itself : (a : List ℕ) → same_id a a ≡ true
same_id_itself a = ap is_eq (tied_itself id_total a)

pub same_spot_is : (a b : Spot) → eq_by_cmp latest_first a b ≡ true → a ≡ b
same_spot_is a b e = spot_exact a b ((Equal-is (latest_first a b)).0 e)

pub same_spot_itself : (a : Spot) → eq_by_cmp latest_first a a ≡ true
same_spot_itself a = ap is_eq (tied_itself latest_first_total a)

pub itself : (t : ℕ) → nat_eq t t ≡ true
itself t = grind arith

pub turned : (t u : ℕ) → nat_eq u t ≡ nat_eq t u
turned t u = grind arith

some_apart : (id i : List ℕ) → same_id id i ≡ false → Some i ≡ Some id → ⊥
some_apart id i e is = let j : i ≡ id = same_Some i id is in false≢true (sym e ∙ ap (same_id id) j ∙ same_id_itself id)

-- ---- the maps after a change at one message

module _ (files new : BySpot) (ids jds : ById) (id : List ℕ) (o : Option HeldMessage)
    (elsewhere : (q : Spot) → (q.id ≡ Some id → ⊥) → get latest_first new q ≡ get latest_first files q)
    (here : (t : ℕ) → get latest_first new (place t id) ≡ record_at t o)
    (bears : IfSome (kept_in o) (λ r. (r.id ≡ id) × (r.at ≤ greatest)))
    (stands : IsSetTo id_cmp ids id o jds) where
  same_in : Agree files ids → (t : ℕ) (m : List ℕ) → get latest_first new (place t m) ≡ record_at t (get id_cmp jds m)
  same_in a t m =
      elim (same_id id m) as (λ b. same_id id m ≡ b → get latest_first new (place t m) ≡ record_at t (cond b o (get id_cmp ids m))) [
        | true ↦ λ e. subst (λ i. get latest_first new (place t i) ≡ record_at t o) (same_id_is id m e) (here t)
        | false ↦ λ e. elsewhere (place t m) (some_apart id m e) ∙ a.same t m
      ] refl
      ∙ ap (record_at t) (sym (stands m))

  bears_in : Agree files ids → (m : List ℕ) → IfSome (kept_in (get id_cmp jds m)) (λ r. (r.id ≡ m) × (r.at ≤ greatest))
  bears_in a m =
      subst (λ x. IfSome (kept_in x) (λ r. (r.id ≡ m) × (r.at ≤ greatest))) (sym (stands m))
      (elim (same_id id m) as (λ b. same_id id m ≡ b → IfSome (kept_in (cond b o (get id_cmp ids m))) (λ r. (r.id ≡ m) × (r.at ≤ greatest))) [
        | true ↦ λ e. subst (λ i. IfSome (kept_in o) (λ r. (r.id ≡ i) × (r.at ≤ greatest))) (same_id_is id m e) bears
        | false ↦ λ _. a.bears m
      ] refl)

  pub settled : Agree files ids → Agree new jds
  settled a = record {
    none = λ t. elsewhere (record { at = t; id = None }) (λ e. cc e) ∙ a.none t;
    same = same_in a;
    bears = bears_in a;
  }

-- ---- the maps where nothing has changed

pub agree_alike : (files new : BySpot) (ids jds : ById) → ((q : Spot) → get latest_first new q ≡ get latest_first files q) → ((m : List ℕ) → get id_cmp jds m ≡ get id_cmp ids m) → Agree files ids → Agree new jds
agree_alike files new ids jds e f a = record {
  none = λ t. e (record { at = t; id = None }) ∙ a.none t;
  same = λ t m. e (place t m) ∙ a.same t m ∙ ap (record_at t) (sym (f m));
  bears = λ m. subst (λ x. IfSome (kept_in x) (λ r. (r.id ≡ m) × (r.at ≤ greatest))) (sym (f m)) (a.bears m);
}

-- ---- where the records of a message are

abbrev moment : Option Record → Option ℕ
moment o = option_map (λ (r : Record). r.at) o

no_record : (t : ℕ) (o : Option Record) → moment o ≡ None → keep (λ (r : Record). nat_eq t r.at) o ≡ None
no_record t None e = refl
no_record t (Some r) e = cc e

elsewhere_none : (t u : ℕ) (o : Option Record) → moment o ≡ Some u → nat_eq t u ≡ false → keep (λ (r : Record). nat_eq t r.at) o ≡ None
elsewhere_none t u None e f = cc e
elsewhere_none t u (Some r) e f = let is : r.at ≡ u = same_Some r.at u e in ap (λ b. cond b (Some r) None) (ap (nat_eq t) is ∙ f)

module _ (files : BySpot) (ids : ById) (a : Agree files ids) (id : List ℕ) where
  pub unkept_none : kept_moment (get id_cmp ids id) ≡ None → (t : ℕ) → get latest_first files (place t id) ≡ None
  unkept_none e t = a.same t id ∙ no_record t (kept_in (get id_cmp ids id)) e

  pub kept_elsewhere : (u : ℕ) → kept_moment (get id_cmp ids id) ≡ Some u → (t : ℕ) → nat_eq t u ≡ false → get latest_first files (place t id) ≡ None
  kept_elsewhere u e t f = a.same t id ∙ elsewhere_none t u (kept_in (get id_cmp ids id)) e f

-- ---- the message of a record that stands somewhere

kept_here : (t : ℕ) (r : Record) (o : Option Record) → keep (λ (r : Record). nat_eq t r.at) o ≡ Some r → (o ≡ Some r) × (r.at ≡ t)
kept_here t r None e = cc e
kept_here t r (Some s) e =
    elim (nat_eq t s.at) as (λ b. nat_eq t s.at ≡ b → cond b (Some s) None ≡ Some r → (Some s ≡ Some r) × (r.at ≡ t)) [
      | true ↦ λ g f. (f, (let is : s ≡ r = same_Some s r f in let at : s.at ≡ t = grind (arith, g) in ap (λ (x : Record). x.at) (sym is) ∙ at))
      | false ↦ λ g f. cc f
    ] refl e

module _ (files : BySpot) (ids : ById) (a : Agree files ids) (k : Spot) (r : Record) (is : get latest_first files k ≡ Some r) where
  with_id : (o : Option (List ℕ)) → k.id ≡ o → (k ≡ of_record r) × (kept_in (get id_cmp ids r.id) ≡ Some r)
  with_id None e =
      let none : get latest_first files k ≡ None = (λ i. get latest_first files (record { at = k.at; id = e i })) ∙ a.none k.at in
      cc (none, is)
  with_id (Some m) e =
      let there : get latest_first files (place k.at m) ≡ Some r = (λ i. get latest_first files (record { at = k.at; id = sym e i })) ∙ is in
      let both = kept_here k.at r (kept_in (get id_cmp ids m)) (sym (a.same k.at m) ∙ there) in
      let bears = subst (λ o. IfSome o (λ x. (x.id ≡ m) × (x.at ≤ greatest))) both.0 (a.bears m) in (
        (λ i. record { at = sym both.1 i; id = (e ∙ ap Some (sym bears.0)) i }),
        ap (λ x. kept_in (get id_cmp ids x)) bears.0 ∙ both.0,
      )

  pub its_place : k ≡ of_record r
  its_place = (with_id k.id refl).0

  pub its_message : kept_in (get id_cmp ids r.id) ≡ Some r
  its_message = (with_id k.id refl).1

-- a kept record stands where it is filed
pub kept_stands : (files : BySpot) (ids : ById) → Agree files ids → (m : List ℕ) (r : Record) → kept_in (get id_cmp ids m) ≡ Some r → (r.id ≡ m) × (get latest_first files (of_record r) ≡ Some r)
kept_stands files ids a m r e =
    let bears = subst (λ o. IfSome o (λ x. (x.id ≡ m) × (x.at ≤ greatest))) e (a.bears m) in
    (bears.0, ap (λ i. get latest_first files (place r.at i)) bears.0 ∙ a.same r.at m ∙ ap (keep (λ (x : Record). nat_eq r.at x.at)) e ∙ ap (λ b. cond b (Some r) None) (itself r.at))

pub kept_small : (files : BySpot) (ids : ById) → Agree files ids → (m : List ℕ) (r : Record) → kept_in (get id_cmp ids m) ≡ Some r → r.at ≤ greatest
kept_small files ids a m r e = (subst (λ o. IfSome o (λ x. (x.id ≡ m) × (x.at ≤ greatest))) e (a.bears m)).1

-- ---- two spots of one message

pub same_place : (t u : ℕ) (id : List ℕ) → eq_by_cmp latest_first (place t id) (place u id) ≡ nat_eq t u
same_place t u id =
    elim (nat_eq t u) as (λ b. nat_eq t u ≡ b → eq_by_cmp latest_first (place t id) (place u id) ≡ b) [
      | true ↦ λ e. let is : t ≡ u = grind (arith, e) in ap (λ x. eq_by_cmp latest_first (place t id) (place x id)) (sym is) ∙ same_spot_itself (place t id)
      | false ↦ λ e. not_same (eq_by_cmp latest_first (place t id) (place u id)) refl e
    ] refl
  where
    not_same : (b : Bool) → eq_by_cmp latest_first (place t id) (place u id) ≡ b → nat_eq t u ≡ false → b ≡ false
    not_same true f e = let is : t ≡ u = ap (λ (s : Spot). s.at) (same_spot_is (place t id) (place u id) f) in grind (arith, e, is)
    not_same false f e = refl

pub apart_spot : (k q : Spot) (id : List ℕ) → k.id ≡ Some id → (q.id ≡ Some id → ⊥) → eq_by_cmp latest_first k q ≡ false
apart_spot k q id is n = not_same (eq_by_cmp latest_first k q) refl
  where
    not_same : (b : Bool) → eq_by_cmp latest_first k q ≡ b → b ≡ false
    not_same true f = absurd (n (ap (λ (s : Spot). s.id) (sym (same_spot_is k q f)) ∙ is))
    not_same false f = refl

-- ---- changes of the map of records at places of one message

module _ (m n : BySpot) (v : Option Record) where
  pub set_elsewhere : (k : Spot) (id : List ℕ) → k.id ≡ Some id → IsSetTo latest_first m k v n → (q : Spot) → (q.id ≡ Some id → ⊥) → get latest_first n q ≡ get latest_first m q
  set_elsewhere k id is up q apart = up q ∙ ap (λ b. cond b v (get latest_first m q)) (apart_spot k q id is apart)

  pub set_here : (u : ℕ) (id : List ℕ) → IsSetTo latest_first m (place u id) v n → (t : ℕ) → get latest_first n (place t id) ≡ cond (nat_eq t u) v (get latest_first m (place t id))
  set_here u id up t = up (place t id) ∙ ap (λ b. cond b v (get latest_first m (place t id))) (same_place u t id ∙ turned t u)
