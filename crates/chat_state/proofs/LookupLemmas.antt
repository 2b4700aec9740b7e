-- What the change that a history has of a key says of markers, floors and messages.
use Rattle.std.proofs.Common.{◌≡◌, ℕ, Bool, true, false, ◌||◌, Option, Some, None, List, [], refl, sym, ◌∙◌, ap, subst, inl}
use Rattle.std.specs.Prelude.{◌↔◌, IsTrue}
use Rattle.std.proofs.lemmas.Bool.{false≢true}
use Rattle.std.specs.List.{filter_map, list_any, cons_option}
use Rattle.std.specs.Option.{option_and_then, option_map, option_to_list, unwrap_or}
use Rattle.std.specs.FinMap.{get}
use Rattle.chat_change.specs.Buffer.{Buffer}
use Rattle.chat_change.specs.declared.change.Change.{Change}
use Rattle.chat_change.specs.declared.change.Change.TheVariants.{Post, Redact, Mark, Floor, AccountFloor}
use Rattle.chat_history.specs.Choice.{greatest, Among}
use Rattle.chat_change.specs.Extent.{Extent, OfAccount, OfBuffer}
use Rattle.chat_change.specs.Key.{Key, FloorOf, MarkerOf, MessageOf, key_of, bearers_of, floor_change}
use Rattle.chat_history.specs.History.{History, own_floor, floor, mark, is_gone, position_of, floor_moment, marker_moment, message_moment, is_redaction, norm, changes_of, IsKeyed}
use Rattle.chat_history.specs.Lookups.{position_in, is_redacted, is_posted, IsShown}
use Rattle.chat_history.specs.StateValue.{StateValue}
use Rattle.chat_buffers.specs.Store.{Store, change_at}
use Rattle.chat_state.specs.State.{value_of, IsSound}
use Rattle.chat_history.proofs.CallerLemmas.{bearers_of-changes_of}
use Rattle.chat_state.proofs.StateLemmas.{keyed}
use Rattle.chat_buffers.proofs.CallerLemmas.{get-history}
use Rattle.chat_history.proofs.CallerLemmas.{mark-norm, floor-norm}
use Rattle.chat_history.proofs.CallerLemmas.{among, contained}
use Rattle.chat_history.proofs.CallerLemmas.{among-bearers_of}
use Rattle.chat_history.proofs.CallerLemmas.{record_of, of_record}
use Rattle.chat_history.proofs.CallerLemmas.{gone-norm, position-norm, position_in-norm}

greatest_one : (u : Option ℕ) → greatest (cons_option u []) ≡ u
greatest_one None = refl
greatest_one (Some t) = refl

said : (f : Change → Option ℕ) (u : Option Change) → greatest (filter_map f (option_to_list u)) ≡ option_and_then f u
said f None = refl
said f (Some c) = greatest_one (f c)

or_false : (b : Bool) → (b || false) ≡ b
or_false true = refl
or_false false = refl

redacted : (u : Option Change) → list_any is_redaction (option_to_list u) ≡ is_redacted u
redacted None = refl
redacted (Some c) = or_false (is_redaction c)

module _ (h : History) (keyed : IsKeyed h) (u : Option Change) where
  pub floor_found : (x : Extent) → u ≡ get h (FloorOf x) → unwrap_or (option_and_then floor_moment u) 0 ≡ own_floor (changes_of h) x
  floor_found x e =
      ap (λ v. unwrap_or v 0) (sym (said floor_moment u))
      ∙ ap (λ v. unwrap_or (greatest (filter_map floor_moment (option_to_list v))) 0) e
      ∙ ap (λ cs. unwrap_or (greatest (filter_map floor_moment cs)) 0) (sym (bearers_of-changes_of h keyed (FloorOf x)))

module _ (h : History) (keyed : IsKeyed h) (b : Buffer) (u : Option Change) where
  pub mark_found : u ≡ get h (MarkerOf b) → option_and_then marker_moment u ≡ mark (changes_of h) b
  mark_found e =
      sym (said marker_moment u)
      ∙ ap (λ v. greatest (filter_map marker_moment (option_to_list v))) e
      ∙ ap (λ cs. greatest (filter_map marker_moment cs)) (sym (bearers_of-changes_of h keyed (MarkerOf b)))

  module _ (m : List ℕ) (e : u ≡ get h (MessageOf b m)) where
    pub gone_found : is_redacted u ≡ is_gone (changes_of h) b m
    gone_found =
        sym (redacted u) ∙ ap (λ v. list_any is_redaction (option_to_list v)) e
        ∙ ap (list_any is_redaction) (sym (bearers_of-changes_of h keyed (MessageOf b m)))

    pub position_found : norm (changes_of h) ≡ h → option_and_then message_moment u ≡ position_of (changes_of h) b m
    position_found normal = ap (option_and_then message_moment) e ∙ ap (λ g. position_in g b m) (sym normal) ∙ position_in-norm (changes_of h) b m

    -- a change that a history has bears its key
    borne : (c : Change) → get h (MessageOf b m) ≡ Some c → key_of c ≡ MessageOf b m
    borne c s =
        let at : Among c (bearers_of (MessageOf b m) (changes_of h)) = subst (Among c) (sym (bearers_of-changes_of h keyed (MessageOf b m) ∙ ap option_to_list s)) (inl refl) in
        (among-bearers_of (MessageOf b m) (changes_of h) c at).1

    shown_post : (v : Option Change) → get h (MessageOf b m) ≡ v → is_posted v ≡ true → IsShown h b m
    shown_post None s t = absurd (false≢true t)
    shown_post (Some (Post r)) s t =
        let k = borne (Post r) s in
        let d : r.buffer ≡ b = cc in
        let i : r.id ≡ m = cc in
        (r, (contained _ r (of_record h keyed b r (d, ap (λ n. get h (MessageOf b n)) i ∙ s)), i))
    shown_post (Some (Redact d n x)) s t = absurd (false≢true t)
    shown_post (Some (Mark d x)) s t = absurd (false≢true t)
    shown_post (Some (Floor d x)) s t = absurd (false≢true t)
    shown_post (Some (AccountFloor d x)) s t = absurd (false≢true t)

    pub shown_found : IsTrue (is_posted u) ↔ IsShown h b m
    shown_found = (
      λ t. shown_post u (sym e) t,
      λ (w : IsShown h b m).
          let g = (record_of h keyed b w.0 (among _ w.0 w.1.0)).1 in
          ap is_posted (e ∙ ap (λ n. get h (MessageOf b n)) (sym w.1.1) ∙ g),
    )

-- ---- what a store answers

pub mark_said : (b : Buffer) (r : Option ℕ) → option_and_then marker_moment (option_map (Mark b) r) ≡ r
mark_said b None = refl
mark_said b (Some t) = refl

pub floor_said : (e : Extent) (r : Option ℕ) → option_and_then floor_moment (option_map (floor_change e) r) ≡ r
floor_said e None = refl
floor_said (OfAccount a) (Some t) = refl
floor_said (OfBuffer b) (Some t) = refl

-- ---- the history of a state

module _ (s : Store) (front : ℕ) (sound : IsSound s front) (held : StateValue) (is : value_of s front ≡ held) where
  pub state_keyed : IsKeyed held.history
  state_keyed = subst (λ (h : StateValue). IsKeyed h.history) is (keyed s sound.normal)

  pub state_normal : norm (changes_of held.history) ≡ held.history
  state_normal = subst (λ (h : StateValue). norm (changes_of h.history) ≡ h.history) is sound.normal

  pub state_found : (k : Key) (u : Option Change) → change_at s k ≡ u → u ≡ get held.history k
  state_found k u e = sym e ∙ sym (get-history s k) ∙ ap (λ (h : StateValue). get h.history k) is

-- ---- what is read off a history says what each set of changes says of which it is the normal form

module _ (h : History) (b : Buffer) (changes : List Change) (is : h ≡ norm changes) where
  pub mark_of_set : mark (changes_of h) b ≡ mark changes b
  mark_of_set = ap (λ g. mark (changes_of g) b) is ∙ mark-norm changes b

  pub floor_of_set : floor (changes_of h) b ≡ floor changes b
  floor_of_set = ap (λ g. floor (changes_of g) b) is ∙ floor-norm changes b

  pub gone_of_set : (m : List ℕ) → is_gone (changes_of h) b m ≡ is_gone changes b m
  gone_of_set m = ap (λ g. is_gone (changes_of g) b m) is ∙ gone-norm changes b m

  pub position_of_set : (m : List ℕ) → position_of (changes_of h) b m ≡ position_of changes b m
  position_of_set m = ap (λ g. position_of (changes_of g) b m) is ∙ position-norm changes b m
