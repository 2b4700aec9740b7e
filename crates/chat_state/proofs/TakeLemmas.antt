-- A history that takes changes one by one, or list by list.
use Rattle.std.proofs.Common.{◌≡◌, ℕ, ◌+◌, ◌<◌, List, [], ◌∷◌, ◌++◌, Some, suc, min, length, get_or, take, drop, sym, ◌∙◌, ap, subst, append_assoc, arith, length-append, drop-cons, zero-add, Vec}
use Rattle.std.specs.Prelude.{slice_get, ◌↔◌}
use Rattle.std.specs.declared.alloc.Global.{Global}
use Rattle.std.proofs.Math.Seq.{take-append-add}
use Rattle.std.proofs.Math.ListN.{get_or-append}
use Rattle.std.proofs.lemmas.Option.{slice_get-get_or}
use Rattle.chat_history.specs.Deltas.{all_changes}
use Rattle.std.proofs.lemmas.List.{take_more, take-append-le, take-append-drop}
use Rattle.std.proofs.lemmas.Grind.{flat_map-append}
use Rattle.std.specs.List.{flat_map}
use Rattle.chat_change.specs.declared.change.Change.{Change}
use Rattle.chat_history.specs.StateValue.{StateValue, state_after, HasTaken, IsStoppedAt, IsPastTheLast}
use Rattle.chat_history.specs.History.{History, norm, changes_of}
use Rattle.chat_history.proofs.CallerLemmas.{norm_left}
use Rattle.chat_history.proofs.CallerLemmas.{append_none}

-- what a history takes after it took others, it takes with them
pub taken_after : (set : List Change) (h then' : History) (more : List Change) → h ≡ norm set → then' ≡ norm (changes_of h ++ more) → then' ≡ norm (set ++ more)
taken_after set h then' more e f = f ∙ ap (λ g. norm (changes_of g ++ more)) e ∙ norm_left set more

pub taken_none : (h : History) (cs : List Change) → norm (changes_of h) ≡ h → h ≡ norm (changes_of h ++ take 0 cs)
taken_none h [] normal = sym normal ∙ ap norm (sym (append_none (changes_of h)))
taken_none h (c ∷ cs) normal = sym normal ∙ ap norm (sym (append_none (changes_of h)))

pub taken_more : (old h then' : History) (cs : List Change) (i : ℕ) (d : Change) → i < length cs → h ≡ norm (changes_of old ++ take i cs) → then' ≡ norm (changes_of h ++ get_or cs i d ∷ []) → then' ≡ norm (changes_of old ++ take (i + 1) cs)
taken_more old h then' cs i d l e f =
    taken_after (changes_of old ++ take i cs) h then' (get_or cs i d ∷ []) e f
    ∙ ap norm (append_assoc (changes_of old) (take i cs) (get_or cs i d ∷ []) ∙ ap (λ ds. changes_of old ++ ds) (sym (take_more cs i d l)))

module _ {X : Type 0} (items : X → List Change) where
  pub deltas_more : (h then' : History) (ds : List X) (i : ℕ) (d : X) → i < length ds → h ≡ norm (flat_map items (take i ds)) → then' ≡ norm (changes_of h ++ items (get_or ds i d)) → then' ≡ norm (flat_map items (take (i + 1) ds))
  deltas_more h then' ds i d l e f =
      taken_after (flat_map items (take i ds)) h then' (items (get_or ds i d)) e f
      ∙ ap norm (ap (λ cs. flat_map items (take i ds) ++ cs) (sym (append_none (items (get_or ds i d)))) ∙ sym (flat_map-append items (take i ds) (get_or ds i d ∷ [])) ∙ ap (flat_map items) (sym (take_more ds i d l)))

-- ---- with the numbers

pub has_taken_none : (h : StateValue) (cs : List Change) → HasTaken h (take 0 cs) h
has_taken_none h [] start changes is = is ∙ ap (state_after start) (sym (append_none changes))
has_taken_none h (c ∷ cs) start changes is = is ∙ ap (state_after start) (sym (append_none changes))

pub has_taken_more : (old h then' : StateValue) (cs : List Change) (i : ℕ) (d : Change) → i < length cs → HasTaken old (take i cs) h → HasTaken h (get_or cs i d ∷ []) then' → HasTaken old (take (i + 1) cs) then'
has_taken_more old h then' cs i d l e f start changes is =
    f start (changes ++ take i cs) (e start changes is)
    ∙ ap (state_after start) (append_assoc changes (take i cs) (get_or cs i d ∷ []) ∙ ap (λ ds. changes ++ ds) (sym (take_more cs i d l)))

-- ---- where a list of lists stops

within : (n m : ℕ) (few : m < 18446744073709551616) (k t : ℕ) → n ≡ min 18446744073709551615 k → k + t < m → min (n + t) 18446744073709551615 ≡ k + t
within n m few k t e l = omega (arith, e, few, l)

module _ (before mid rest : List Change) (t : ℕ) (inside : t < length mid) where
  take_within : take (length before + t) (before ++ (mid ++ rest)) ≡ before ++ take t mid
  take_within = take-append-add before (mid ++ rest) t ∙ ap (λ cs. before ++ cs) (take-append-le t mid rest (omega arith))

  past_within : length before + t < length (before ++ (mid ++ rest))
  past_within = omega (arith, length-append before (mid ++ rest), length-append mid rest)

  there : (d : Change) → get_or (before ++ (mid ++ rest)) (length before + t) d ≡ get_or mid t d
  there d = get_or_past before (mid ++ rest) t d ∙ get_or-append mid rest d t inside
    where
      get_or_past : (xs ys : List Change) (n : ℕ) (d : Change) → get_or (xs ++ ys) (length xs + n) d ≡ get_or ys n d
      get_or_past [] ys n d = ap (λ k. get_or ys k d) (zero-add n)
      get_or_past (x ∷ xs) ys n d = ap (λ k. get_or (x ∷ (xs ++ ys)) k d) (more (length xs) n) ∙ get_or_past xs ys n d
        where
          more : (k n : ℕ) → suc k + n ≡ suc (k + n)
          more k n = omega arith

  stopped_in : (h : StateValue) (E : Type 0) → IsStoppedAt h mid t E → h ≡ state_after 0 (before ++ take t mid) → IsStoppedAt (state_after 0 (take (length before + t) (before ++ (mid ++ rest)))) (before ++ (mid ++ rest)) (length before + t) E
  stopped_in h E s e = (
    past_within,
    λ c at.
        let here : slice_get mid t ≡ Some c =
        slice_get-get_or mid t c inside ∙ ap Some (sym (there c)) ∙ sym (slice_get-get_or (before ++ (mid ++ rest)) (length before + t) c past_within) ∙ at in
        subst (λ g. E ↔ IsPastTheLast g c) (e ∙ ap (state_after 0) (sym take_within)) (s.1 c here),
  )

pub stopped_within : (ds : List (Vec Change Global)) (i : ℕ) (d : Vec Change Global) → i < length ds → length (all_changes ds) < 18446744073709551616 → (n t total : ℕ) → n ≡ min 18446744073709551615 (length (all_changes (take i ds))) → total ≡ min (n + t) 18446744073709551615 → (h : StateValue) → h ≡ state_after 0 (all_changes (take i ds) ++ take t (get_or ds i d).items) → (E : Type 0) → IsStoppedAt h (get_or ds i d).items t E → IsStoppedAt (state_after 0 (take total (all_changes ds))) (all_changes ds) total E
stopped_within ds i d l few n t total count sum h e E s =
    let before = all_changes (take i ds) in
    let mid = (get_or ds i d).items in
    let rest = all_changes (drop (suc i) ds) in
    let parts : all_changes ds ≡ before ++ (mid ++ rest) =
    ap all_changes (sym (take-append-drop i ds) ∙ ap (λ xs. take i ds ++ xs) (drop-cons ds i d l))
    ∙ flat_map-append (λ (d : Vec Change Global). d.items) (take i ds) (get_or ds i d ∷ drop (suc i) ds) in
    let inside : t < length mid = s.0 in
    let below : length before + t < length (all_changes ds) = omega (arith, ap length parts, length-append before (mid ++ rest), length-append mid rest) in
    let exact : total ≡ length before + t = sum ∙ within n (length (all_changes ds)) few (length before) t count below in
    subst (λ cs. IsStoppedAt (state_after 0 (take total cs)) cs total E) (sym parts)
    (subst (λ k. IsStoppedAt (state_after 0 (take k (before ++ (mid ++ rest)))) (before ++ (mid ++ rest)) k E) (sym exact) (stopped_in before mid rest t inside h E s e))
