-- What one more change does to a history in normal form: at its key, and at the others.
use Rattle.std.proofs.Common.{◌≡◌, ◌≢◌, ℕ, ◌<◌, ◌≤◌, max, true, false, cond, Bool, ◌&&◌, ◌||◌, Option, Some, None, List, [], ◌∷◌, ◌++◌, refl, sym, ◌∙◌, ap, subst, arith}
use Rattle.std.proofs.lemmas.Bool.{false≢true}
use Rattle.std.proofs.lemmas.Bool.Decides.{nat_tests}
use Rattle.std.proofs.lemmas.Cmp.{tied_itself}
use Rattle.std.specs.Ordering.{nat_cmp, is_lt, is_eq}
use Rattle.std.specs.Cmp.{Equal-is}
use Rattle.std.specs.List.{filter, filter_map, cons_option, list_any}
use Rattle.std.specs.Option.{IfSome, option_map, option_to_list}
use Rattle.std.specs.Prelude.{nat_lt, nat_le, not, IsTrue, ◌↔◌}
use Rattle.std.specs.FinMap.{get}
use Rattle.chat_change.specs.Buffer.{Buffer}
use Rattle.chat_change.specs.Record.{Record}
use Rattle.byte_text.specs.Order.{text_cmp}
use Rattle.chat_change.specs.Order.{record_cmp, buffer_cmp}
use Rattle.chat_change.specs.declared.change.Change.{Change}
use Rattle.chat_change.specs.declared.change.Change.TheVariants.{Post, Redact, Mark, Floor, AccountFloor}
use Rattle.byte_text.proofs.CallerLemmas.{text_total, text_exact}
use Rattle.chat_change.proofs.CallerLemmas.{record_total, buffer_total, buffer_exact}
use Rattle.chat_history.proofs.ChoiceLemmas.{gt_of_lt}
use Rattle.chat_history.specs.Choice.{first_by, greatest, keep, later}
use Rattle.chat_change.specs.Extent.{Extent, OfAccount, OfBuffer}
use Rattle.chat_change.specs.Key.{Key, FloorOf, MarkerOf, MessageOf, key_of, same_key, bearers_of, key_extent, floor_change}
use Rattle.chat_history.specs.History.{floor, own_floor, floor_at, floor_around, marker_moment, posted_record, message_moment, is_redaction, piece, History, norm, changes_of, IsKeyed}
use Rattle.chat_history.specs.Form.{IsNoFloor, raises, renews, new_form, first_form, next_piece}
use Rattle.chat_history.specs.Retention.{same_buffer, same_account, is_covered, outlasts, remainder}
use Rattle.chat_change.proofs.CallerLemmas.{same_key_itself, same_key_is}
use Rattle.chat_history.proofs.PieceLemmas.{Bears, floor_piece, floor_piece_alike, key_of-floor_change, bearers_of-append, bearers_of-changes_of, get-norm, piece_bears, norm_from_pieces}
use Rattle.chat_history.proofs.NormLemmas.{stays, at_least, records_closed, own_floor-append}
use Rattle.chat_history.proofs.StepLemmas.{greatest_floor, floor_under, settle, piece-settle, floor_set, settle-post, settle-redaction}

-- a change of another key isn't borne
borne_not : (k : Key) (c : Change) → same_key k (key_of c) ≡ false → bearers_of k (c ∷ []) ≡ []
borne_not k c e = ap (λ b. cond b (c ∷ []) []) e

borne_one : (c : Change) → bearers_of (key_of c) (c ∷ []) ≡ c ∷ []
borne_one c = ap (λ b. cond b (c ∷ []) []) (same_key_itself (key_of c))

pub append_none : {A : Type 0} (xs : List A) → xs ++ [] ≡ xs
append_none [] = refl
append_none (x ∷ xs) = ap (λ ys. x ∷ ys) (append_none xs)

pub bearing_other : (k : Key) (cs : List Change) (c : Change) → same_key k (key_of c) ≡ false → bearers_of k (cs ++ c ∷ []) ≡ bearers_of k cs
bearing_other k cs c e = bearers_of-append k cs (c ∷ []) ∙ ap (λ ds. bearers_of k cs ++ ds) (borne_not k c e) ∙ append_none (bearers_of k cs)

-- where the floor on which it depends stays, a key that the change doesn't bear keeps its piece
pub piece_other : (cs : List Change) (c : Change) (k : Key) → floor_under (cs ++ c ∷ []) k ≡ floor_under cs k → same_key k (key_of c) ≡ false → piece (cs ++ c ∷ []) k ≡ piece cs k
piece_other cs c (FloorOf d) f e = λ i. floor_piece d (f i) (greatest_floor (bearing_other (FloorOf d) cs c e i))
piece_other cs c (MarkerOf b) f e = ap (λ ds. option_map (Mark b) (greatest (filter_map marker_moment ds))) (bearing_other (MarkerOf b) cs c e)
piece_other cs c (MessageOf b m) f e =
    λ i. cond (list_any is_redaction (bearing_other (MessageOf b m) cs c e i))
    (Some (Redact b m (greatest (filter (λ t. nat_le (f i) t) (filter_map message_moment (bearing_other (MessageOf b m) cs c e i))))))
    (option_map Post (first_by record_cmp (filter (λ r. nat_le (f i) r.at) (filter_map posted_record (bearing_other (MessageOf b m) cs c e i)))))

not_same : (k l : Key) → (k ≡ l → ⊥) → same_key k l ≡ false
not_same k l h = elim (same_key k l) as (λ t. same_key k l ≡ t → t ≡ false) [ true ↦ λ e. absurd (h (same_key_is k l e)) | false ↦ λ _. refl ] refl

no_floor : (e : Extent) (c : Change) → IsNoFloor c → FloorOf e ≡ key_of c → ⊥
no_floor e (Post r) p is = cc
no_floor e (Redact d m t) p is = cc
no_floor e (Mark d t) p is = cc
no_floor e (Floor d t) p is = absurd p
no_floor e (AccountFloor a t) p is = absurd p

-- whatever is no floor leaves every floor
module _ (cs : List Change) (c : Change) (p : IsNoFloor c) where
  own_floor_stays : (e : Extent) → own_floor (cs ++ c ∷ []) e ≡ own_floor cs e
  own_floor_stays e = ap greatest_floor (bearing_other (FloorOf e) cs c (not_same (FloorOf e) (key_of c) (no_floor e c p)))

  floor_under_stays : (k : Key) → floor_under (cs ++ c ∷ []) k ≡ floor_under cs k
  floor_under_stays (FloorOf (OfAccount a)) = refl
  floor_under_stays (FloorOf (OfBuffer b)) = own_floor_stays (OfAccount b.account)
  floor_under_stays (MarkerOf b) = refl
  floor_under_stays (MessageOf b m) = λ i. max (own_floor_stays (OfAccount b.account) i) (own_floor_stays (OfBuffer b) i)

-- what a change that is no floor depends on is the floor of its buffer
settle_at : (cs ds : List Change) (c : Change) → IsNoFloor c → settle (key_of c) (floor_under cs (key_of c)) ds ≡ settle (key_of c) (floor_at cs (key_extent (key_of c))) ds
settle_at cs ds (Post r) p = refl
settle_at cs ds (Redact b m t) p = refl
settle_at cs ds (Mark b t) p = refl
settle_at cs ds (Floor b t) p = absurd p
settle_at cs ds (AccountFloor a t) p = absurd p

lt_test : (x y : ℕ) → is_lt (nat_cmp x y) ≡ nat_lt x y
lt_test x y = grind (arith, nat_tests)

-- ---- the piece of a key and one more change of it

-- moments at or above a floor
kept_moment : (f t : ℕ) (b : Bool) → cond b (Some t) None ≡ Some t → b ≡ true
kept_moment f t true e = refl
kept_moment f t false e = cc

both_moments : (f u t : ℕ) (a : Bool) → nat_lt u t ≡ a → nat_le f u ≡ true → keep (at_least f) (later (Some u) (Some t)) ≡ cond (raises f (Some u) (Some t)) (Some t) (Some u)
both_moments f u t true e h =
    let is : is_lt (nat_cmp u t) ≡ true = lt_test u t ∙ e in
    let above : nat_le f t ≡ true = grind (arith, nat_tests) in
    (λ i. cond (nat_le f (cond (is i) t u)) (Some (cond (is i) t u)) None)
    ∙ ap (λ b. cond b (Some t) None) above
    ∙ sym (λ i. cond (above i && e i) (Some t) (Some u))
both_moments f u t false e h =
    let is : is_lt (nat_cmp u t) ≡ false = lt_test u t ∙ e in
    (λ i. cond (nat_le f (cond (is i) t u)) (Some (cond (is i) t u)) None)
    ∙ ap (λ b. cond b (Some u) None) h
    ∙ elim (nat_le f t) as (λ b. Some u ≡ cond (b && false) (Some t) (Some u)) [ true ↦ refl | false ↦ refl ]
    ∙ sym (λ i. cond (nat_le f t && e i) (Some t) (Some u))

raise_is : (f : ℕ) (u t : Option ℕ) → keep (at_least f) u ≡ u → keep (at_least f) (later u t) ≡ cond (raises f u t) t u
raise_is f None None e = refl
raise_is f None (Some t) e = elim (nat_le f t) as (λ b. cond b (Some t) None ≡ cond (b && true) (Some t) None) [ true ↦ refl | false ↦ refl ]
raise_is f (Some u) None e = e
raise_is f (Some u) (Some t) e = both_moments f u t (nat_lt u t) refl (kept_moment f u (nat_le f u) e)

kept_greater : (f s t : ℕ) (a : Bool) → nat_lt s t ≡ a → nat_le f s ≡ true → nat_le f (cond a t s) ≡ true
kept_greater f s t true e h = grind (arith, nat_tests)
kept_greater f s t false e h = h

kept_later : (f s : ℕ) (t : Option ℕ) → nat_le f s ≡ true → keep (at_least f) (later (Some s) t) ≡ later (Some s) t
kept_later f s None h = ap (λ b. cond b (Some s) None) h
kept_later f s (Some t) h =
    let above = ap (λ b. nat_le f (cond b t s)) (lt_test s t) ∙ kept_greater f s t (nat_lt s t) refl h in
    ap (λ b. cond b (Some (cond (is_lt (nat_cmp s t)) t s)) None) above

top_two : (u t : Option ℕ) → greatest (cons_option u (cons_option t [])) ≡ later u t
top_two None None = refl
top_two None (Some t) = refl
top_two (Some u) None = refl
top_two (Some u) (Some t) = refl

-- two posts, of which the present one stands at or above the floor
two_posts : (f : ℕ) (r s : Record) (a : Bool) → is_lt (record_cmp r s) ≡ a → nat_le f s.at ≡ true → option_map Post (keep (stays f) (Some (cond a r s))) ≡ Some (cond a (Post r) (Post s))
two_posts f r s true e h = ap (λ b. option_map Post (cond b (Some r) None)) (records_closed f r s (gt_of_lt (record_cmp r s) e) h)
two_posts f r s false e h = ap (λ b. option_map Post (cond b (Some s) None)) h

pub at_floor : (f : ℕ) (s : Record) (a : Bool) → cond a (Some (Post s)) None ≡ Some (Post s) → a ≡ true
at_floor f s true e = refl
at_floor f s false e = cc

redact_at : (b : Buffer) (m : List ℕ) (t u : Option ℕ) → Some (Redact b m t) ≡ Some (Redact b m u) → t ≡ u
redact_at b m t u e = cc e

settle-next_piece : (f : ℕ) (c : Change) → IsNoFloor c → (o : Option Change) → IfSome o (Bears (key_of c)) → settle (key_of c) f (option_to_list o) ≡ o → settle (key_of c) f (option_to_list o ++ c ∷ []) ≡ next_piece f o c
settle-next_piece f (Post r) p None e rest = settle-post r.buffer r.id f r
settle-next_piece f (Post r) p (Some (Post s)) e rest =
    two_posts f r s (is_lt (record_cmp r s)) refl (at_floor f s (nat_le f s.at) (sym (settle-post r.buffer r.id f s) ∙ rest))
settle-next_piece f (Post r) p (Some (Redact d n u)) e rest =
    let b : r.buffer ≡ d = cc e in
    let m : r.id ≡ n = cc e in
    let above : keep (at_least f) u ≡ u = redact_at d n (keep (at_least f) u) u ((λ i. Some (Redact (sym b i) (sym m i) (keep (at_least f) u))) ∙ sym (settle-redaction r.buffer d r.id n f u) ∙ rest) in
    (λ i. Some (Redact (b i) (m i) (keep (at_least f) (top_two u (Some r.at) i))))
    ∙ ap (λ t. Some (Redact d n t)) (raise_is f u (Some r.at) above)
    ∙ elim (raises f u (Some r.at)) as (λ a. Some (Redact d n (cond a (Some r.at) u)) ≡ Some (cond a (Redact d n (Some r.at)) (Redact d n u))) [ true ↦ refl | false ↦ refl ]
settle-next_piece f (Post r) p (Some (Mark d u)) e rest = cc
settle-next_piece f (Post r) p (Some (Floor d u)) e rest = cc
settle-next_piece f (Post r) p (Some (AccountFloor a u)) e rest = cc
settle-next_piece f (Redact b m t) p None e rest = settle-redaction b b m m f t
settle-next_piece f (Redact b m t) p (Some (Post s)) e rest =
    let above = at_floor f s (nat_le f s.at) (sym (settle-post b m f s) ∙ rest) in
    ap (λ t. Some (Redact b m (keep (at_least f) t))) (top_two (Some s.at) t) ∙ ap (λ t. Some (Redact b m t)) (kept_later f s.at t above)
settle-next_piece f (Redact b m t) p (Some (Redact d n u)) e rest =
    let eb : b ≡ d = cc e in
    let em : m ≡ n = cc e in
    let above : keep (at_least f) u ≡ u = redact_at d n (keep (at_least f) u) u ((λ i. Some (Redact (sym eb i) (sym em i) (keep (at_least f) u))) ∙ sym (settle-redaction b d m n f u) ∙ rest) in
    ap (λ t. Some (Redact b m (keep (at_least f) t))) (top_two u t)
    ∙ ap (λ t. Some (Redact b m t)) (raise_is f u t above)
    ∙ elim (raises f u t) as (λ a. Some (Redact b m (cond a t u)) ≡ Some (cond a (Redact b m t) (Redact d n u))) [ true ↦ refl | false ↦ λ i. Some (Redact (eb i) (em i) u) ]
settle-next_piece f (Redact b m t) p (Some (Mark d u)) e rest = cc
settle-next_piece f (Redact b m t) p (Some (Floor d u)) e rest = cc
settle-next_piece f (Redact b m t) p (Some (AccountFloor a u)) e rest = cc
settle-next_piece f (Mark b t) p None e rest = refl
settle-next_piece f (Mark b t) p (Some (Post s)) e rest = cc
settle-next_piece f (Mark b t) p (Some (Redact d n u)) e rest = cc
settle-next_piece f (Mark b t) p (Some (Mark d u)) e rest =
    let same : d ≡ b = cc e in
    ap (λ w. Some (Mark b (cond w t u))) (lt_test u t)
    ∙ elim (nat_lt u t) as (λ w. Some (Mark b (cond w t u)) ≡ Some (cond w (Mark b t) (Mark d u))) [ true ↦ refl | false ↦ ap (λ d. Some (Mark d u)) (sym same) ]
settle-next_piece f (Mark b t) p (Some (Floor d u)) e rest = cc
settle-next_piece f (Mark b t) p (Some (AccountFloor a u)) e rest = cc
settle-next_piece f (Floor b t) p o e rest = absurd p
settle-next_piece f (AccountFloor a t) p o e rest = absurd p

not_later_itself : (x : ℕ) (a : Bool) → (a && nat_lt x x) ≡ false
not_later_itself x true = grind (arith, nat_tests)
not_later_itself x false = refl

not_raised_itself : (f : ℕ) (u : Option ℕ) → raises f u u ≡ false
not_raised_itself f None = refl
not_raised_itself f (Some u) = not_later_itself u (nat_le f u)

-- a new form differs from the old one
pub new_form_differs : (f : ℕ) (c old : Change) → renews f c old ≡ true → new_form c old ≢ old
new_form_differs f (Post r) (Post s) e same = let is : r ≡ s = cc same in false≢true (sym (ap is_lt (tied_itself record_total r)) ∙ ap (λ x. is_lt (record_cmp r x)) is ∙ e)
new_form_differs f (Post r) (Redact d n u) e same = let is : Some r.at ≡ u = cc same in false≢true (sym (not_raised_itself f u) ∙ ap (raises f u) (sym is) ∙ e)
new_form_differs f (Post r) (Mark d u) e same = absurd (false≢true e)
new_form_differs f (Post r) (Floor d u) e same = absurd (false≢true e)
new_form_differs f (Post r) (AccountFloor a u) e same = absurd (false≢true e)
new_form_differs f (Redact b m t) (Post s) e same = cc
new_form_differs f (Redact b m t) (Redact d n u) e same = let is : t ≡ u = cc same in false≢true (sym (not_raised_itself f u) ∙ ap (raises f u) (sym is) ∙ e)
new_form_differs f (Redact b m t) (Mark d u) e same = absurd (false≢true e)
new_form_differs f (Redact b m t) (Floor d u) e same = absurd (false≢true e)
new_form_differs f (Redact b m t) (AccountFloor a u) e same = absurd (false≢true e)
new_form_differs f (Mark b t) (Post s) e same = absurd (false≢true e)
new_form_differs f (Mark b t) (Redact d n u) e same = absurd (false≢true e)
new_form_differs f (Mark b t) (Mark d u) e same = let is : t ≡ u = cc same in grind (arith, nat_tests)
new_form_differs f (Mark b t) (Floor d u) e same = absurd (false≢true e)
new_form_differs f (Mark b t) (AccountFloor a u) e same = absurd (false≢true e)
new_form_differs f (Floor b t) old e same = absurd (false≢true e)
new_form_differs f (AccountFloor a t) old e same = absurd (false≢true e)

-- ---- the key of a new piece

pub first_form_bears : (f : ℕ) (c d : Change) → first_form f c ≡ Some d → key_of c ≡ key_of d
first_form_bears f (Post r) d e = post_in (nat_le f r.at) e
  where
    post_in : (a : Bool) → cond a (Some (Post r)) None ≡ Some d → key_of (Post r) ≡ key_of d
    post_in true e = let is : Post r ≡ d = cc e in ap key_of is
    post_in false e = cc
first_form_bears f (Redact b m t) d e = let is : Redact b m (keep (at_least f) t) ≡ d = cc e in ap key_of is
first_form_bears f (Mark b t) d e = let is : Mark b t ≡ d = cc e in ap key_of is
first_form_bears f (Floor b t) d e = cc
first_form_bears f (AccountFloor a t) d e = cc

pub new_form_bears : (c old : Change) → key_of c ≡ key_of old → key_of (new_form c old) ≡ key_of c
new_form_bears (Post r) (Post s) e = refl
new_form_bears (Post r) (Redact d n u) e = sym e
new_form_bears (Post r) (Mark d u) e = refl
new_form_bears (Post r) (Floor d u) e = refl
new_form_bears (Post r) (AccountFloor a u) e = refl
new_form_bears (Redact b m t) old e = refl
new_form_bears (Mark b t) old e = refl
new_form_bears (Floor b t) old e = refl
new_form_bears (AccountFloor a t) old e = refl

-- ---- a higher floor

pub key_of-remainder : (e : Extent) (t : ℕ) (c : Change) → key_of (remainder e t c) ≡ key_of c
key_of-remainder e t (Post r) = refl
key_of-remainder e t (Redact d n u) = refl
key_of-remainder e t (Mark d u) = refl
key_of-remainder e t (Floor d u) = refl
key_of-remainder e t (AccountFloor a u) = refl

same_buffer_itself : (b : Buffer) → same_buffer b b ≡ true
same_buffer_itself b = ap is_eq (tied_itself buffer_total b)

pub same_buffer_is : (b d : Buffer) → same_buffer b d ≡ true → b ≡ d
same_buffer_is b d e = buffer_exact b d ((Equal-is (buffer_cmp b d)).0 e)

pub same_buffer_from : (a : Bool) (b d : Buffer) → (IsTrue a ↔ (b ≡ d)) → a ≡ same_buffer b d
same_buffer_from true b d h = sym (subst (λ x. same_buffer b x ≡ true) (h.0 refl) (same_buffer_itself b))
same_buffer_from false b d h =
    elim (same_buffer b d) as (λ t. same_buffer b d ≡ t → false ≡ t) [ true ↦ λ e. absurd (false≢true (h.1 (same_buffer_is b d e))) | false ↦ λ _. refl ] refl

pub same_account_itself : (a : List ℕ) → same_account a a ≡ true
same_account_itself a = ap is_eq (tied_itself text_total a)

pub same_account_is : (a d : List ℕ) → same_account a d ≡ true → a ≡ d
same_account_is a d e = text_exact a d ((Equal-is (text_cmp a d)).0 e)

-- whether a floor of that extent reaches what stands under a key: a message of a buffer that it covers, or the floor of one
abbrev is_reached : Extent → Key → Bool
is_reached e (FloorOf (OfAccount a)) = false
is_reached e (FloorOf (OfBuffer b)) = is_covered e b
is_reached e (MarkerOf b) = false
is_reached e (MessageOf b m) = is_covered e b

untouched : (e : Extent) (t : ℕ) (c : Change) → is_reached e (key_of c) ≡ false → (outlasts e t c ≡ true) × (remainder e t c ≡ c)
untouched e t (Post r) h = (ap (λ a. not a || nat_le t r.at) h, refl)
untouched e t (Redact d n u) h = (refl, ap (λ a. Redact d n (cond a (keep (at_least t) u) u)) h)
untouched e t (Mark d u) h = (refl, refl)
untouched e t (Floor d u) h = (ap (λ a. not a || nat_lt t u) h, refl)
untouched e t (AccountFloor a u) h = (refl, refl)

-- what a floor of that extent leaves of what stands under a key
abbrev left : Extent → ℕ → Option Change → Option Change
left e t o = option_map (remainder e t) (keep (outlasts e t) o)

untouched_piece : (e : Extent) (t : ℕ) (k : Key) (o : Option Change) → IfSome o (Bears k) → is_reached e k ≡ false → left e t o ≡ o
untouched_piece e t k None p f = refl
untouched_piece e t k (Some c) p f =
    let h = untouched e t c (ap (is_reached e) p ∙ f) in
    ap (λ a. option_map (remainder e t) (cond a (Some c) None)) h.0 ∙ ap Some h.1

at_least-max : (f t x : ℕ) → nat_le f x ≡ true → nat_le (max f t) x ≡ nat_le t x
at_least-max f t x h = grind (arith, nat_tests)

keep-max : (f t : ℕ) (u : Option ℕ) → keep (at_least f) u ≡ u → keep (at_least (max f t)) u ≡ keep (at_least t) u
keep-max f t None h = refl
keep-max f t (Some x) h = ap (λ a. cond a (Some x) None) (at_least-max f t x (kept_moment f x (nat_le f x) h))

-- what a message's piece is at a higher floor of its buffer, or of its account
at_higher : (e : Extent) (d : Buffer) (m : List ℕ) (f t : ℕ) (o : Option Change) → is_covered e d ≡ true → IfSome o (Bears (MessageOf d m)) → settle (MessageOf d m) f (option_to_list o) ≡ o → settle (MessageOf d m) (max f t) (option_to_list o) ≡ left e t o
at_higher e d m f t None c k rest = refl
at_higher e d m f t (Some (Post r)) c k rest =
    let is : r.buffer ≡ d = cc k in
    let here : is_covered e r.buffer ≡ true = ap (is_covered e) is ∙ c in
    let above = at_floor f r (nat_le f r.at) (sym (settle-post d m f r) ∙ rest) in
    settle-post d m (max f t) r
    ∙ ap (λ a. cond a (Some (Post r)) None) (at_least-max f t r.at above)
    ∙ elim (nat_le t r.at) as (λ a. cond a (Some (Post r)) None ≡ option_map (remainder e t) (cond a (Some (Post r)) None)) [ true ↦ refl | false ↦ refl ]
    ∙ sym (ap (λ a. option_map (remainder e t) (cond (not a || nat_le t r.at) (Some (Post r)) None)) here)
at_higher e d m f t (Some (Redact b n u)) c k rest =
    let is : b ≡ d = cc k in
    let id : n ≡ m = cc k in
    let here : is_covered e b ≡ true = ap (is_covered e) is ∙ c in
    let above : keep (at_least f) u ≡ u = redact_at d m (keep (at_least f) u) u (sym (settle-redaction d b m n f u) ∙ rest ∙ (λ i. Some (Redact (is i) (id i) u))) in
    settle-redaction d b m n (max f t) u
    ∙ ap (λ v. Some (Redact d m v)) (keep-max f t u above)
    ∙ sym (λ i. Some (Redact (is i) (id i) (cond (here i) (keep (at_least t) u) u)))
at_higher e d m f t (Some (Mark b u)) c k rest = cc
at_higher e d m f t (Some (Floor b u)) c k rest = cc
at_higher e d m f t (Some (AccountFloor a u)) c k rest = cc

above_both : (around t own : ℕ) → nat_lt (max around t) own ≡ (nat_lt around own && nat_lt t own)
above_both around t own = grind (arith, nat_tests)

-- what the own floor of a buffer is at a higher floor that covers it: it stays where it is higher still
own_at_higher : (e : Extent) (d : Buffer) (around t own : ℕ) → is_covered e d ≡ true → floor_piece (OfBuffer d) (max around t) own ≡ left e t (floor_piece (OfBuffer d) around own)
own_at_higher e d around t own c = ap (λ a. cond a (Some (Floor d own)) None) (above_both around t own) ∙ both (nat_lt around own)
  where
    both : (a : Bool) → cond (a && nat_lt t own) (Some (Floor d own)) None ≡ left e t (cond a (Some (Floor d own)) None)
    both true =
        elim (nat_lt t own) as (λ b. cond b (Some (Floor d own)) None ≡ option_map (remainder e t) (cond b (Some (Floor d own)) None)) [ true ↦ refl | false ↦ refl ]
        ∙ sym (ap (λ v. option_map (remainder e t) (cond (not v || nat_lt t own) (Some (Floor d own)) None)) c)
    both false = refl

-- ---- one more floor

own_one : (e : Extent) (t : ℕ) → own_floor (floor_change e t ∷ []) e ≡ t
own_one (OfAccount a) t = ap greatest_floor (borne_one (AccountFloor a t))
own_one (OfBuffer b) t = ap greatest_floor (borne_one (Floor b t))

module _ (cs : List Change) (e : Extent) (t : ℕ) where
  abbrev more : List Change
  more = cs ++ floor_change e t ∷ []

  apart_from : (k : Key) → same_key k (FloorOf e) ≡ false → same_key k (key_of (floor_change e t)) ≡ false
  apart_from k h = ap (same_key k) (key_of-floor_change e t) ∙ h

  own_raised : own_floor more e ≡ max (own_floor cs e) t
  own_raised = own_floor-append cs (floor_change e t ∷ []) e ∙ ap (max (own_floor cs e)) (own_one e t)

  own_elsewhere : (d : Extent) → (FloorOf d ≡ FloorOf e → ⊥) → own_floor more d ≡ own_floor cs d
  own_elsewhere d h = ap greatest_floor (bearing_other (FloorOf d) cs (floor_change e t) (apart_from (FloorOf d) (not_same (FloorOf d) (FloorOf e) h)))

-- a floor leaves the floors of what it doesn't cover
account_kept : (cs : List Change) (e : Extent) (t : ℕ) (d : Buffer) → is_covered e d ≡ false → own_floor (more cs e t) (OfAccount d.account) ≡ own_floor cs (OfAccount d.account)
account_kept cs (OfAccount a) t d h =
    own_elsewhere cs (OfAccount a) t (OfAccount d.account)
    (λ is. let same : a ≡ d.account = cc in false≢true (sym h ∙ ap (same_account a) (sym same) ∙ same_account_itself a))
account_kept cs (OfBuffer b) t d h = own_elsewhere cs (OfBuffer b) t (OfAccount d.account) (λ is. cc)

buffer_kept : (cs : List Change) (e : Extent) (t : ℕ) (d : Buffer) → is_covered e d ≡ false → own_floor (more cs e t) (OfBuffer d) ≡ own_floor cs (OfBuffer d)
buffer_kept cs (OfAccount a) t d h = own_elsewhere cs (OfAccount a) t (OfBuffer d) (λ is. cc)
buffer_kept cs (OfBuffer b) t d h =
    own_elsewhere cs (OfBuffer b) t (OfBuffer d)
    (λ is. let same : b ≡ d = cc in false≢true (sym h ∙ ap (same_buffer b) (sym same) ∙ same_buffer_itself b))

floor_kept : (cs : List Change) (e : Extent) (t : ℕ) (d : Buffer) → is_covered e d ≡ false → floor (more cs e t) d ≡ floor cs d
floor_kept cs e t d h = λ i. max (account_kept cs e t d h i) (buffer_kept cs e t d h i)

account_raised : (cs : List Change) (a : List ℕ) (t : ℕ) (d : Buffer) → same_account a d.account ≡ true → own_floor (more cs (OfAccount a) t) (OfAccount d.account) ≡ max (own_floor cs (OfAccount d.account)) t
account_raised cs a t d h =
    subst (λ x. own_floor (more cs (OfAccount a) t) (OfAccount x) ≡ max (own_floor cs (OfAccount x)) t) (same_account_is a d.account h) (own_raised cs (OfAccount a) t)

max_first : (p q t : ℕ) → max (max p t) q ≡ max (max p q) t
max_first p q t = omega arith

max_second : (p q t : ℕ) → max p (max q t) ≡ max (max p q) t
max_second p q t = omega arith

-- a floor raises the floors of what it covers
floor_raised : (cs : List Change) (e : Extent) (t : ℕ) (d : Buffer) → is_covered e d ≡ true → floor (more cs e t) d ≡ max (floor cs d) t
floor_raised cs (OfAccount a) t d h =
    (λ i. max (account_raised cs a t d h i) (own_elsewhere cs (OfAccount a) t (OfBuffer d) (λ is. cc) i))
    ∙ max_first (own_floor cs (OfAccount d.account)) (own_floor cs (OfBuffer d)) t
floor_raised cs (OfBuffer b) t d h =
    (λ i. max (own_elsewhere cs (OfBuffer b) t (OfAccount d.account) (λ is. cc) i)
    (subst (λ x. own_floor (more cs (OfBuffer b) t) (OfBuffer x) ≡ max (own_floor cs (OfBuffer x)) t) (same_buffer_is b d h) (own_raised cs (OfBuffer b) t) i))
    ∙ max_second (own_floor cs (OfAccount d.account)) (own_floor cs (OfBuffer d)) t

floor_under_kept : (cs : List Change) (e : Extent) (t : ℕ) (k : Key) → is_reached e k ≡ false → floor_under (more cs e t) k ≡ floor_under cs k
floor_under_kept cs e t (FloorOf (OfAccount a)) h = refl
floor_under_kept cs e t (FloorOf (OfBuffer b)) h = account_kept cs e t b h
floor_under_kept cs e t (MarkerOf b) h = refl
floor_under_kept cs e t (MessageOf b m) h = floor_kept cs e t b h

-- no floor is among those around itself
around_kept : (cs : List Change) (e : Extent) (t : ℕ) → floor_around (more cs e t) e ≡ floor_around cs e
around_kept cs (OfAccount a) t = refl
around_kept cs (OfBuffer b) t = own_elsewhere cs (OfBuffer b) t (OfAccount b.account) (λ is. cc)

own_at_most : (cs : List Change) (e : Extent) → own_floor cs e ≤ floor_at cs e
own_at_most cs (OfAccount a) = omega arith
own_at_most cs (OfBuffer b) = omega arith

around_at_most : (cs : List Change) (e : Extent) → floor_around cs e ≤ floor_at cs e
around_at_most cs (OfAccount a) = omega arith
around_at_most cs (OfBuffer b) = omega arith

-- a floor above the present own one and the one around is the piece of its key
set_piece : (e : Extent) (a o t : ℕ) → o < t → a < t → floor_piece e a (max o t) ≡ Some (floor_change e t)
set_piece e a o t l m =
    let up : max o t ≡ t = omega arith in
    let over : nat_lt a t ≡ true = grind (arith, nat_tests) in
    ap (floor_piece e a) up ∙ ap (λ b. cond b (Some (floor_change e t)) None) over

no_higher : (p t : ℕ) → t ≤ p → max p t ≡ p
no_higher p t l = omega arith

-- an own floor is what the piece says
pub own_floor_is : (h : History) → IsKeyed h → (e : Extent) → own_floor (changes_of h) e ≡ floor_set (get h (FloorOf e))
own_floor_is h keyed e = ap greatest_floor (bearers_of-changes_of h keyed (FloorOf e))

-- ---- a history in normal form

module _ (h : History) (keyed : IsKeyed h) (normal : norm (changes_of h) ≡ h) where
  abbrev cs : List Change
  cs = changes_of h

  -- what the history has at a key is the piece of its changes
  pub get_is_piece : (k : Key) → piece cs k ≡ get h k
  get_is_piece k = sym (get-norm cs k) ∙ ap (λ g. get g k) normal

  bears : (k : Key) → IfSome (get h k) (Bears k)
  bears k = subst (λ o. IfSome o (Bears k)) (get_is_piece k) (piece_bears cs k)

  pub at_rest : (k : Key) → settle k (floor_under cs k) (option_to_list (get h k)) ≡ get h k
  at_rest k = sym (piece-settle cs k ∙ ap (settle k (floor_under cs k)) (bearers_of-changes_of h keyed k)) ∙ get_is_piece k

  borne_here : (c : Change) → bearers_of (key_of c) (cs ++ c ∷ []) ≡ option_to_list (get h (key_of c)) ++ c ∷ []
  borne_here c = bearers_of-append (key_of c) cs (c ∷ []) ∙ (λ i. bearers_of-changes_of h keyed (key_of c) i ++ borne_one c i)

  piece_here : (c : Change) → IsNoFloor c → piece (cs ++ c ∷ []) (key_of c) ≡ next_piece (floor_at cs (key_extent (key_of c))) (get h (key_of c)) c
  piece_here c p =
      let f = floor_at cs (key_extent (key_of c)) in
      piece-settle (cs ++ c ∷ []) (key_of c)
      ∙ (λ i. settle (key_of c) (floor_under_stays cs c p (key_of c) i) (borne_here c i))
      ∙ settle_at cs (option_to_list (get h (key_of c)) ++ c ∷ []) c p
      ∙ settle-next_piece f c p (get h (key_of c)) (bears (key_of c)) (sym (settle_at cs (option_to_list (get h (key_of c))) c p) ∙ at_rest (key_of c))

  -- one more change that is no floor changes what stands at its key, and nothing else
  pub get_after : (c : Change) → IsNoFloor c → (k : Key) → get (norm (cs ++ c ∷ [])) k ≡ cond (same_key k (key_of c)) (next_piece (floor_at cs (key_extent (key_of c))) (get h (key_of c)) c) (get h k)
  get_after c p k =
      get-norm (cs ++ c ∷ []) k
      ∙ elim (same_key k (key_of c)) as (λ b. same_key k (key_of c) ≡ b → piece (cs ++ c ∷ []) k ≡ cond b (next_piece (floor_at cs (key_extent (key_of c))) (get h (key_of c)) c) (get h k)) [
        | true ↦ λ e. ap (piece (cs ++ c ∷ [])) (same_key_is k (key_of c) e) ∙ piece_here c p
        | false ↦ λ e. piece_other cs c k (floor_under_stays cs c p k) e ∙ get_is_piece k
      ] refl

  -- a higher floor stands under its own key
  set_here : (e : Extent) (t : ℕ) → floor_at cs e < t → piece (more cs e t) (FloorOf e) ≡ Some (floor_change e t)
  set_here e t l =
      let own = own_at_most cs e in
      let around = around_at_most cs e in
      (λ i. floor_piece e (around_kept cs e t i) (own_raised cs e t i))
      ∙ set_piece e (floor_around cs e) (own_floor cs e) t (omega arith) (omega arith)

  -- what a higher floor leaves of what it reaches
  reached : (e : Extent) (t : ℕ) (k : Key) → is_reached e k ≡ true → same_key k (FloorOf e) ≡ false → piece (more cs e t) k ≡ left e t (get h k)
  reached e t (FloorOf (OfAccount a)) r apart = absurd (false≢true r)
  reached (OfAccount a) t (FloorOf (OfBuffer d)) r apart =
      (λ i. floor_piece (OfBuffer d) (account_raised cs a t d r i) (own_elsewhere cs (OfAccount a) t (OfBuffer d) (λ is. cc) i))
      ∙ own_at_higher (OfAccount a) d (own_floor cs (OfAccount d.account)) t (own_floor cs (OfBuffer d)) r
      ∙ ap (left (OfAccount a) t) (get_is_piece (FloorOf (OfBuffer d)))
  reached (OfBuffer b) t (FloorOf (OfBuffer d)) r apart =
      absurd (false≢true (sym apart ∙ ap (λ x. same_key (FloorOf (OfBuffer d)) (FloorOf (OfBuffer x))) (same_buffer_is b d r) ∙ same_key_itself (FloorOf (OfBuffer d))))
  reached e t (MarkerOf d) r apart = absurd (false≢true r)
  reached e t (MessageOf d m) r apart =
      let k = MessageOf d m in
      piece-settle (more cs e t) k
      ∙ (λ i. settle k (floor_raised cs e t d r i) ((bearing_other k cs (floor_change e t) (apart_from cs e t k apart) ∙ bearers_of-changes_of h keyed k) i))
      ∙ at_higher e d m (floor cs d) t (get h k) r (bears k) (at_rest k)

  -- a higher floor takes away what it is to, and leaves the rest
  pub get_floor : (e : Extent) (t : ℕ) → floor_at cs e < t → (k : Key) → get (norm (cs ++ floor_change e t ∷ [])) k ≡ cond (same_key k (FloorOf e)) (Some (floor_change e t)) (option_map (remainder e t) (keep (outlasts e t) (get h k)))
  get_floor e t l k =
      get-norm (more cs e t) k
      ∙ elim (same_key k (FloorOf e)) as (λ b. same_key k (FloorOf e) ≡ b → piece (more cs e t) k ≡ cond b (Some (floor_change e t)) (left e t (get h k))) [
        | true ↦ λ is. ap (piece (more cs e t)) (same_key_is k (FloorOf e) is) ∙ set_here e t l
        | false ↦ λ apart. elim (is_reached e k) as (λ r. is_reached e k ≡ r → piece (more cs e t) k ≡ left e t (get h k)) [
          | true ↦ λ r. reached e t k r apart
          | false ↦ λ r.
              piece_other cs (floor_change e t) k (floor_under_kept cs e t k r) (apart_from cs e t k apart)
              ∙ get_is_piece k
              ∙ sym (untouched_piece e t k (get h k) (bears k) r)
        ] refl
      ] refl

  low_own : (e : Extent) (t : ℕ) → t ≤ floor_at cs e → floor_piece e (floor_around cs e) (max (own_floor cs e) t) ≡ floor_piece e (floor_around cs e) (own_floor cs e)
  low_own (OfAccount a) t l = floor_piece_alike (OfAccount a) 0 (max (own_floor cs (OfAccount a)) t) (own_floor cs (OfAccount a)) (λ _. omega arith) (λ _. omega arith)
  low_own (OfBuffer b) t l = floor_piece_alike (OfBuffer b) (own_floor cs (OfAccount b.account)) (max (own_floor cs (OfBuffer b)) t) (own_floor cs (OfBuffer b)) (λ m. omega arith) (λ m. omega arith)

  low_covered : (e : Extent) (t : ℕ) (d : Buffer) → t ≤ floor_at cs e → is_covered e d ≡ true → t ≤ floor cs d
  low_covered (OfAccount a) t d l c = let is = subst (λ x. t ≤ own_floor cs (OfAccount x)) (same_account_is a d.account c) l in omega arith
  low_covered (OfBuffer b) t d l c = subst (λ x. t ≤ floor cs x) (same_buffer_is b d c) l

  low_account : (e : Extent) (t : ℕ) (d : Buffer) → t ≤ floor_at cs e → own_floor (more cs e t) (OfAccount d.account) ≡ own_floor cs (OfAccount d.account)
  low_account (OfAccount a) t d l =
      elim (same_account a d.account) as (λ s. same_account a d.account ≡ s → own_floor (more cs (OfAccount a) t) (OfAccount d.account) ≡ own_floor cs (OfAccount d.account)) [
        | true ↦ λ is. account_raised cs a t d is ∙ no_higher (own_floor cs (OfAccount d.account)) t (subst (λ x. t ≤ own_floor cs (OfAccount x)) (same_account_is a d.account is) l)
        | false ↦ λ is. account_kept cs (OfAccount a) t d is
      ] refl
  low_account (OfBuffer b) t d l = own_elsewhere cs (OfBuffer b) t (OfAccount d.account) (λ is. cc)

  low_under : (e : Extent) (t : ℕ) → t ≤ floor_at cs e → (k : Key) → floor_under (more cs e t) k ≡ floor_under cs k
  low_under e t l (FloorOf (OfAccount a)) = refl
  low_under e t l (FloorOf (OfBuffer d)) = low_account e t d l
  low_under e t l (MarkerOf d) = refl
  low_under e t l (MessageOf d m) =
      elim (is_covered e d) as (λ c. is_covered e d ≡ c → floor (more cs e t) d ≡ floor cs d) [
        | true ↦ λ c. floor_raised cs e t d c ∙ no_higher (floor cs d) t (low_covered e t d l c)
        | false ↦ λ c. floor_kept cs e t d c
      ] refl

  low_piece : (e : Extent) (t : ℕ) → t ≤ floor_at cs e → (k : Key) → piece (more cs e t) k ≡ piece cs k
  low_piece e t l k =
      elim (same_key k (FloorOf e)) as (λ b. same_key k (FloorOf e) ≡ b → piece (more cs e t) k ≡ piece cs k) [
        | true ↦ λ is.
            subst (λ k. piece (more cs e t) k ≡ piece cs k) (sym (same_key_is k (FloorOf e) is))
            ((λ i. floor_piece e (around_kept cs e t i) (own_raised cs e t i)) ∙ low_own e t l)
        | false ↦ λ apart. piece_other cs (floor_change e t) k (low_under e t l k) (apart_from cs e t k apart)
      ] refl

  -- a floor that isn't above the present one changes nothing
  pub low_floor : (e : Extent) (t : ℕ) → t ≤ floor_at cs e → norm (cs ++ floor_change e t ∷ []) ≡ h
  low_floor e t l = norm_from_pieces (more cs e t) cs (low_piece e t l) ∙ normal
