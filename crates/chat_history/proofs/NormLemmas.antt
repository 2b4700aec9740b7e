-- The normal form of two normal forms together is that of all changes together.
use Rattle.std.proofs.Common.{◌≡◌, ℕ, ◌<◌, max, Bool, true, false, cond, ◌||◌, Option, Some, None, List, [], ◌∷◌, ◌++◌, refl, sym, ◌∙◌, ap, arith}
use Rattle.std.specs.declared.cmp.Ordering.{Ordering}
use Rattle.std.specs.declared.cmp.Ordering.TheVariants.{Less, Equal, Greater}
use Rattle.std.proofs.lemmas.Bool.{false≢true}
use Rattle.std.proofs.lemmas.Bool.Decides.{nat_tests}
use Rattle.std.proofs.lemmas.List.Elements.{filter_map-append}
use Rattle.std.proofs.lemmas.List.Folds.{list_any-append}
use Rattle.std.proofs.lemmas.Cmp.{nat_cmp_total, back_total}
use Rattle.std.proofs.lemmas.Map.Lookups.{CmpEqualImpliesEq, exact_unsigned}
use Rattle.std.specs.Ordering.{ord_min, is_lt, is_gt, nat_cmp, flip_args, ordering_then}
use Rattle.std.specs.Cmp.{IsTotalOrder}
use Rattle.std.specs.List.{filter_map, list_any}
use Rattle.std.specs.Option.{option_map, option_to_list, unwrap_or}
use Rattle.std.specs.Prelude.{nat_lt, nat_le}
use Rattle.chat_change.specs.Buffer.{Buffer}
use Rattle.chat_change.specs.Record.{Record}
use Rattle.chat_change.specs.Order.{record_cmp, tie_cmp}
use Rattle.chat_change.specs.declared.change.Change.{Change}
use Rattle.chat_change.specs.declared.change.Change.TheVariants.{Post, Redact, Mark, Floor, AccountFloor}
use Rattle.chat_change.proofs.CallerLemmas.{record_total, record_exact}
use Rattle.chat_history.specs.Choice.{earlier, first_by, greatest}
use Rattle.chat_change.specs.Extent.{Extent, OfAccount, OfBuffer}
use Rattle.chat_change.specs.Key.{Key, FloorOf, MarkerOf, MessageOf, bearers_of, floor_change}
use Rattle.chat_history.specs.History.{floor, own_floor, account_floor, floor_around, mark, is_gone, kept_record, position_of, floor_moment, marker_moment, posted_record, message_moment, is_redaction, piece, norm, changes_of}
use Rattle.chat_history.proofs.ChoiceLemmas.{keep, Closed, first_by-append, first_by-filter, keep_parts}
use Rattle.chat_history.proofs.PieceLemmas.{floor_piece, floor_piece_alike, bearers_of-append, bearers_of-norm, norm_from_pieces}

-- ---- the greatest moment

pub latest_total : IsTotalOrder (flip_args nat_cmp)
latest_total = back_total nat_cmp_total

pub latest_exact : CmpEqualImpliesEq (flip_args nat_cmp)
latest_exact x y e = sym (exact_unsigned y x e)

pub greatest-append : (xs ys : List ℕ) → greatest (xs ++ ys) ≡ earlier (flip_args nat_cmp) (greatest xs) (greatest ys)
greatest-append = first_by-append latest_total latest_exact

abbrev pub at_least : ℕ → ℕ → Bool
at_least f t = nat_le f t

abbrev pub stays : ℕ → Record → Bool
stays f r = nat_le f r.at

pub moments_closed : (f : ℕ) → Closed (flip_args nat_cmp) (at_least f)
moments_closed f x y l h = grind (arith, nat_tests)

not_later : (r s : Record) (o : Ordering) → nat_cmp s.at r.at ≡ o → is_gt (ordering_then o (tie_cmp r s)) ≡ false → is_gt (nat_cmp s.at r.at) ≡ false
not_later r s Less e h = ap is_gt e
not_later r s Equal e h = ap is_gt e
not_later r s Greater e h = absurd (false≢true (sym h))

pub records_closed : (f : ℕ) → Closed record_cmp (stays f)
records_closed f r s l h = moments_closed f r.at s.at (not_later r s _ refl l) h

-- ---- what a list of changes of one message says

abbrev pub best : List Change → Option Record
best changes = first_by record_cmp (filter_map posted_record changes)

abbrev pub top : List Change → Option ℕ
top changes = greatest (filter_map message_moment changes)

pub best-append : (xs ys : List Change) → best (xs ++ ys) ≡ earlier record_cmp (best xs) (best ys)
best-append xs ys = ap (first_by record_cmp) (filter_map-append posted_record xs ys) ∙ first_by-append record_total record_exact (filter_map posted_record xs) (filter_map posted_record ys)

pub top-append : (xs ys : List Change) → top (xs ++ ys) ≡ earlier (flip_args nat_cmp) (top xs) (top ys)
top-append xs ys = ap greatest (filter_map-append message_moment xs ys) ∙ greatest-append (filter_map message_moment xs) (filter_map message_moment ys)

pub kept-best : (changes : List Change) (b : Buffer) (m : List ℕ) → kept_record changes b m ≡ keep (stays (floor changes b)) (best (bearers_of (MessageOf b m) changes))
kept-best changes b m = first_by-filter record_total record_exact (stays (floor changes b)) (records_closed (floor changes b)) (filter_map posted_record (bearers_of (MessageOf b m) changes))

pub position-top : (changes : List Change) (b : Buffer) (m : List ℕ) → position_of changes b m ≡ keep (at_least (floor changes b)) (top (bearers_of (MessageOf b m) changes))
position-top changes b m = first_by-filter latest_total latest_exact (at_least (floor changes b)) (moments_closed (floor changes b)) (filter_map message_moment (bearers_of (MessageOf b m) changes))

-- the earlier record has the greater moment
at-min : (r s : Record) → ord_min (flip_args nat_cmp) r.at s.at ≡ (ord_min record_cmp r s).at
at-min r s =
    elim (nat_cmp r.at s.at) as (λ o. nat_cmp r.at s.at ≡ o → cond (is_lt o) s.at r.at ≡ (cond (is_lt (ordering_then o (tie_cmp s r))) s r).at) [
      | Less ↦ λ _. refl
      | Equal ↦ λ e. elim (is_lt (tie_cmp s r)) as (λ t. r.at ≡ (cond t s r).at) [ true ↦ exact_unsigned r.at s.at e | false ↦ refl ]
      | Greater ↦ λ _. refl
    ] refl

moment_of-earlier : (u v : Option Record) → option_map (λ (r : Record). r.at) (earlier record_cmp u v) ≡ earlier (flip_args nat_cmp) (option_map (λ (r : Record). r.at) u) (option_map (λ (r : Record). r.at) v)
moment_of-earlier None v = refl
moment_of-earlier (Some r) None = refl
moment_of-earlier (Some r) (Some s) = ap Some (sym (at-min r s))

moment_of-keep : (f : ℕ) (u : Option Record) → option_map (λ (r : Record). r.at) (keep (stays f) u) ≡ keep (at_least f) (option_map (λ (r : Record). r.at) u)
moment_of-keep f None = refl
moment_of-keep f (Some r) = elim (nat_le f r.at) as (λ b. option_map (λ (r : Record). r.at) (cond b (Some r) None) ≡ cond b (Some r.at) None) [ true ↦ refl | false ↦ refl ]

-- where nothing was redacted, the greatest moment is that of the record that goes first
pub top-best : (changes : List Change) → list_any is_redaction changes ≡ false → top changes ≡ option_map (λ (r : Record). r.at) (best changes)
top-best [] e = refl
top-best (Post r ∷ cs) e =
    ap (earlier (flip_args nat_cmp) (Some r.at)) (top-best cs e) ∙ sym (moment_of-earlier (Some r) (best cs))
top-best (Redact b m t ∷ cs) e = absurd (false≢true (sym e))
top-best (Mark b t ∷ cs) e = top-best cs e
top-best (Floor b t ∷ cs) e = top-best cs e
top-best (AccountFloor a t ∷ cs) e = top-best cs e

-- ---- what a piece says

greatest_one : (t : Option ℕ) (b : Buffer) (m : List ℕ) → top (Redact b m t ∷ []) ≡ t
greatest_one None b m = refl
greatest_one (Some t) b m = refl

gone_in : (g : Bool) (b : Buffer) (m : List ℕ) (t : Option ℕ) (u : Option Record) → list_any is_redaction (option_to_list (cond g (Some (Redact b m t)) (option_map Post u))) ≡ g
gone_in true b m t u = refl
gone_in false b m t None = refl
gone_in false b m t (Some r) = refl

best_in : (u : Option Record) → best (option_to_list (option_map Post u)) ≡ u
best_in None = refl
best_in (Some r) = refl

top_in : (u : Option Record) → top (option_to_list (option_map Post u)) ≡ option_map (λ (r : Record). r.at) u
top_in None = refl
top_in (Some r) = refl

module _ (changes : List Change) (b : Buffer) (m : List ℕ) where
  pub gone_piece : list_any is_redaction (option_to_list (piece changes (MessageOf b m))) ≡ is_gone changes b m
  gone_piece = gone_in (is_gone changes b m) b m (position_of changes b m) (kept_record changes b m)

  pub best_piece : is_gone changes b m ≡ false → best (option_to_list (piece changes (MessageOf b m))) ≡ kept_record changes b m
  best_piece e = ap (λ g. best (option_to_list (cond g (Some (Redact b m (position_of changes b m))) (option_map Post (kept_record changes b m))))) e ∙ best_in (kept_record changes b m)

  pub top_piece : top (option_to_list (piece changes (MessageOf b m))) ≡ position_of changes b m
  top_piece =
      elim (is_gone changes b m) as (λ g. is_gone changes b m ≡ g → top (option_to_list (cond g (Some (Redact b m (position_of changes b m))) (option_map Post (kept_record changes b m)))) ≡ position_of changes b m) [
        | true ↦ λ _. greatest_one (position_of changes b m) b m
        | false ↦ λ e.
            top_in (kept_record changes b m)
            ∙ ap (option_map (λ (r : Record). r.at)) (kept-best changes b m)
            ∙ moment_of-keep (floor changes b) (best (bearers_of (MessageOf b m) changes))
            ∙ ap (keep (at_least (floor changes b))) (sym (top-best (bearers_of (MessageOf b m) changes) e))
            ∙ sym (position-top changes b m)
      ] refl

-- ---- floors and markers

greatest_of_both : (u v : Option ℕ) → unwrap_or (earlier (flip_args nat_cmp) u v) 0 ≡ max (unwrap_or u 0) (unwrap_or v 0)
greatest_of_both None None = refl
greatest_of_both None (Some y) = omega arith
greatest_of_both (Some x) None = omega arith
greatest_of_both (Some x) (Some y) = grind (arith, nat_tests)

pub own_floor-append : (xs ys : List Change) (e : Extent) → own_floor (xs ++ ys) e ≡ max (own_floor xs e) (own_floor ys e)
own_floor-append xs ys e =
    ap (λ cs. unwrap_or (greatest (filter_map floor_moment cs)) 0) (bearers_of-append (FloorOf e) xs ys)
    ∙ ap (λ ts. unwrap_or (greatest ts) 0) (filter_map-append floor_moment (bearers_of (FloorOf e) xs) (bearers_of (FloorOf e) ys))
    ∙ ap (λ o. unwrap_or o 0) (greatest-append (filter_map floor_moment (bearers_of (FloorOf e) xs)) (filter_map floor_moment (bearers_of (FloorOf e) ys)))
    ∙ greatest_of_both (greatest (filter_map floor_moment (bearers_of (FloorOf e) xs))) (greatest (filter_map floor_moment (bearers_of (FloorOf e) ys)))

max_of_four : (p q r s : ℕ) → max (max p q) (max r s) ≡ max (max p r) (max q s)
max_of_four p q r s = omega arith

pub floor-append : (xs ys : List Change) (b : Buffer) → floor (xs ++ ys) b ≡ max (floor xs b) (floor ys b)
floor-append xs ys b =
    (λ i. max (own_floor-append xs ys (OfAccount b.account) i) (own_floor-append xs ys (OfBuffer b) i))
    ∙ max_of_four (own_floor xs (OfAccount b.account)) (own_floor ys (OfAccount b.account)) (own_floor xs (OfBuffer b)) (own_floor ys (OfBuffer b))

around-append : (xs ys : List Change) (e : Extent) → floor_around (xs ++ ys) e ≡ max (floor_around xs e) (floor_around ys e)
around-append xs ys (OfAccount a) = omega arith
around-append xs ys (OfBuffer b) = own_floor-append xs ys (OfAccount b.account)

-- an own floor as a normal form keeps it: where it is above the one around
abbrev pub held_floor : ℕ → ℕ → ℕ
held_floor around own = cond (nat_lt around own) own 0

floor_in : (e : Extent) (f : ℕ) (t : Bool) → unwrap_or (greatest (filter_map floor_moment (option_to_list (cond t (Some (floor_change e f)) None)))) 0 ≡ cond t f 0
floor_in (OfAccount a) f true = refl
floor_in (OfAccount a) f false = refl
floor_in (OfBuffer b) f true = refl
floor_in (OfBuffer b) f false = refl

pub own_floor-norm : (changes : List Change) (e : Extent) → own_floor (changes_of (norm changes)) e ≡ held_floor (floor_around changes e) (own_floor changes e)
own_floor-norm changes e =
    ap (λ cs. unwrap_or (greatest (filter_map floor_moment cs)) 0) (bearers_of-norm changes (FloorOf e))
    ∙ floor_in e (own_floor changes e) (nat_lt (floor_around changes e) (own_floor changes e))

held_alone : (own : ℕ) → held_floor 0 own ≡ own
held_alone own = grind (arith, nat_tests)

held_under : (around own : ℕ) → max around (held_floor around own) ≡ max around own
held_under around own = grind (arith, nat_tests)

pub account_floor-norm : (changes : List Change) (a : List ℕ) → account_floor (changes_of (norm changes)) a ≡ account_floor changes a
account_floor-norm changes a = own_floor-norm changes (OfAccount a) ∙ held_alone (account_floor changes a)

pub floor-norm : (changes : List Change) (b : Buffer) → floor (changes_of (norm changes)) b ≡ floor changes b
floor-norm changes b =
    (λ i. max (account_floor-norm changes b.account i) (own_floor-norm changes (OfBuffer b) i))
    ∙ held_under (account_floor changes b.account) (own_floor changes (OfBuffer b))

pub mark-append : (xs ys : List Change) (b : Buffer) → mark (xs ++ ys) b ≡ earlier (flip_args nat_cmp) (mark xs b) (mark ys b)
mark-append xs ys b =
    ap (λ cs. greatest (filter_map marker_moment cs)) (bearers_of-append (MarkerOf b) xs ys)
    ∙ ap greatest (filter_map-append marker_moment (bearers_of (MarkerOf b) xs) (bearers_of (MarkerOf b) ys))
    ∙ greatest-append (filter_map marker_moment (bearers_of (MarkerOf b) xs)) (filter_map marker_moment (bearers_of (MarkerOf b) ys))

mark_in : (b : Buffer) (t : Option ℕ) → greatest (filter_map marker_moment (option_to_list (option_map (Mark b) t))) ≡ t
mark_in b None = refl
mark_in b (Some t) = refl

pub mark-norm : (changes : List Change) (b : Buffer) → mark (changes_of (norm changes)) b ≡ mark changes b
mark-norm changes b = ap (λ cs. greatest (filter_map marker_moment cs)) (bearers_of-norm changes (MarkerOf b)) ∙ mark_in b (mark changes b)

-- ---- two normal forms together

-- of two own floors together only what is above both around counts
both_held : (a o b p : ℕ) → max a b < max o p → max (held_floor a o) (held_floor b p) ≡ max o p
both_held a o b p h = grind (arith, nat_tests)

held_both : (a o b p : ℕ) → max a b < max (held_floor a o) (held_floor b p) → max (held_floor a o) (held_floor b p) ≡ max o p
held_both a o b p h = grind (arith, nat_tests)

floors_of_both : (e : Extent) (a o b p : ℕ) → floor_piece e (max a b) (max (held_floor a o) (held_floor b p)) ≡ floor_piece e (max a b) (max o p)
floors_of_both e a o b p = floor_piece_alike e (max a b) (max (held_floor a o) (held_floor b p)) (max o p) (held_both a o b p) (both_held a o b p)

module _ (xs ys : List Change) where
  abbrev parts : List Change
  parts = changes_of (norm xs) ++ changes_of (norm ys)

  pub floor_parts : (b : Buffer) → floor parts b ≡ floor (xs ++ ys) b
  floor_parts b = floor-append (changes_of (norm xs)) (changes_of (norm ys)) b ∙ (λ i. max (floor-norm xs b i) (floor-norm ys b i)) ∙ sym (floor-append xs ys b)

  around_parts : (e : Extent) → floor_around parts e ≡ floor_around (xs ++ ys) e
  around_parts (OfAccount a) = refl
  around_parts (OfBuffer b) =
      own_floor-append (changes_of (norm xs)) (changes_of (norm ys)) (OfAccount b.account)
      ∙ (λ i. max (account_floor-norm xs b.account i) (account_floor-norm ys b.account i))
      ∙ sym (own_floor-append xs ys (OfAccount b.account))

  own_parts : (e : Extent) → own_floor parts e ≡ max (held_floor (floor_around xs e) (own_floor xs e)) (held_floor (floor_around ys e) (own_floor ys e))
  own_parts e = own_floor-append (changes_of (norm xs)) (changes_of (norm ys)) e ∙ (λ i. max (own_floor-norm xs e i) (own_floor-norm ys e i))

  floors_of_parts : (e : Extent) → floor_piece e (floor_around parts e) (own_floor parts e) ≡ floor_piece e (floor_around (xs ++ ys) e) (own_floor (xs ++ ys) e)
  floors_of_parts e =
      (λ i. floor_piece e ((around_parts e ∙ around-append xs ys e) i) (own_parts e i))
      ∙ floors_of_both e (floor_around xs e) (own_floor xs e) (floor_around ys e) (own_floor ys e)
      ∙ sym (λ i. floor_piece e (around-append xs ys e i) (own_floor-append xs ys e i))

  pub mark_parts : (b : Buffer) → mark parts b ≡ mark (xs ++ ys) b
  mark_parts b = mark-append (changes_of (norm xs)) (changes_of (norm ys)) b ∙ (λ i. earlier (flip_args nat_cmp) (mark-norm xs b i) (mark-norm ys b i)) ∙ sym (mark-append xs ys b)

  module _ (b : Buffer) (m : List ℕ) where
    borne_parts : bearers_of (MessageOf b m) parts ≡ option_to_list (piece xs (MessageOf b m)) ++ option_to_list (piece ys (MessageOf b m))
    borne_parts = bearers_of-append (MessageOf b m) (changes_of (norm xs)) (changes_of (norm ys)) ∙ (λ i. bearers_of-norm xs (MessageOf b m) i ++ bearers_of-norm ys (MessageOf b m) i)

    gone-append : is_gone (xs ++ ys) b m ≡ (is_gone xs b m || is_gone ys b m)
    gone-append = ap (list_any is_redaction) (bearers_of-append (MessageOf b m) xs ys) ∙ list_any-append is_redaction (bearers_of (MessageOf b m) xs) (bearers_of (MessageOf b m) ys)

    gone_parts : is_gone parts b m ≡ is_gone (xs ++ ys) b m
    gone_parts =
        ap (list_any is_redaction) borne_parts ∙ list_any-append is_redaction (option_to_list (piece xs (MessageOf b m))) (option_to_list (piece ys (MessageOf b m)))
        ∙ (λ i. gone_piece xs b m i || gone_piece ys b m i) ∙ sym gone-append

    -- the floor of all is no lower than that of a part
    floor_left : (t : ℕ) → at_least (floor (xs ++ ys) b) t ≡ true → at_least (floor xs b) t ≡ true
    floor_left t h = let e = floor-append xs ys b in grind (arith, nat_tests)

    floor_right : (t : ℕ) → at_least (floor (xs ++ ys) b) t ≡ true → at_least (floor ys b) t ≡ true
    floor_right t h = let e = floor-append xs ys b in grind (arith, nat_tests)

    position_parts : position_of parts b m ≡ position_of (xs ++ ys) b m
    position_parts =
        let f = floor (xs ++ ys) b in
        position-top parts b m
        ∙ ap (λ f. keep (at_least f) (top (bearers_of (MessageOf b m) parts))) (floor_parts b)
        ∙ ap (λ cs. keep (at_least f) (top cs)) borne_parts
        ∙ ap (keep (at_least f)) (top-append (option_to_list (piece xs (MessageOf b m))) (option_to_list (piece ys (MessageOf b m))) ∙ (λ i. earlier (flip_args nat_cmp) ((top_piece xs b m ∙ position-top xs b m) i) ((top_piece ys b m ∙ position-top ys b m) i)))
        ∙ keep_parts latest_total latest_exact (at_least f) (moments_closed f) (at_least (floor xs b)) (at_least (floor ys b)) floor_left floor_right (top (bearers_of (MessageOf b m) xs)) (top (bearers_of (MessageOf b m) ys))
        ∙ ap (keep (at_least f)) (sym (top-append (bearers_of (MessageOf b m) xs) (bearers_of (MessageOf b m) ys)))
        ∙ ap (λ cs. keep (at_least f) (top cs)) (sym (bearers_of-append (MessageOf b m) xs ys))
        ∙ sym (position-top (xs ++ ys) b m)

    neither_gone : (p q : Bool) → (p || q) ≡ false → (p ≡ false) × (q ≡ false)
    neither_gone true q e = absurd (false≢true (sym e))
    neither_gone false q e = (refl, e)

    kept_parts : is_gone (xs ++ ys) b m ≡ false → kept_record parts b m ≡ kept_record (xs ++ ys) b m
    kept_parts g =
        let f = floor (xs ++ ys) b in
        let none = neither_gone (is_gone xs b m) (is_gone ys b m) (sym gone-append ∙ g) in
        kept-best parts b m
        ∙ ap (λ f. keep (stays f) (best (bearers_of (MessageOf b m) parts))) (floor_parts b)
        ∙ ap (λ cs. keep (stays f) (best cs)) borne_parts
        ∙ ap (keep (stays f)) (best-append (option_to_list (piece xs (MessageOf b m))) (option_to_list (piece ys (MessageOf b m))) ∙ (λ i. earlier record_cmp ((best_piece xs b m none.0 ∙ kept-best xs b m) i) ((best_piece ys b m none.1 ∙ kept-best ys b m) i)))
        ∙ keep_parts record_total record_exact (stays f) (records_closed f) (stays (floor xs b)) (stays (floor ys b)) (λ r. floor_left r.at) (λ r. floor_right r.at) (best (bearers_of (MessageOf b m) xs)) (best (bearers_of (MessageOf b m) ys))
        ∙ ap (keep (stays f)) (sym (best-append (bearers_of (MessageOf b m) xs) (bearers_of (MessageOf b m) ys)))
        ∙ ap (λ cs. keep (stays f) (best cs)) (sym (bearers_of-append (MessageOf b m) xs ys))
        ∙ sym (kept-best (xs ++ ys) b m)

    message_parts : piece parts (MessageOf b m) ≡ piece (xs ++ ys) (MessageOf b m)
    message_parts =
        ap (λ g. cond g (Some (Redact b m (position_of parts b m))) (option_map Post (kept_record parts b m))) gone_parts
        ∙ elim (is_gone (xs ++ ys) b m) as (λ g. is_gone (xs ++ ys) b m ≡ g → cond g (Some (Redact b m (position_of parts b m))) (option_map Post (kept_record parts b m)) ≡ cond g (Some (Redact b m (position_of (xs ++ ys) b m))) (option_map Post (kept_record (xs ++ ys) b m))) [
          | true ↦ λ _. ap (λ t. Some (Redact b m t)) position_parts
          | false ↦ λ e. ap (option_map Post) (kept_parts e)
        ] refl

  piece_parts : (k : Key) → piece parts k ≡ piece (xs ++ ys) k
  piece_parts (FloorOf e) = floors_of_parts e
  piece_parts (MarkerOf b) = ap (option_map (Mark b)) (mark_parts b)
  piece_parts (MessageOf b m) = message_parts b m

  pub norm_parts : norm (changes_of (norm xs) ++ changes_of (norm ys)) ≡ norm (xs ++ ys)
  norm_parts = norm_from_pieces parts (xs ++ ys) piece_parts
