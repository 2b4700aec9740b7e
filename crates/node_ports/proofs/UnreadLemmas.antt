-- How what is unread goes on.
use Rattle.std.proofs.Common.{◌≡◌, ℕ, zero, suc, ◌+◌, ◌<◌, ◌≤◌, Bool, true, false, nat_lt, List, [], ◌∷◌, ◌++◌, length, Option, None, Some, position, take, drop, refl, sym, ap, ◌∙◌, append_assoc, append-nil, subst, arith}
use Rattle.std.specs.Prelude.{Result, Ok, Err, IfOk, is_some, slice_get}
use Rattle.std.proofs.lemmas.Bool.{ltb-true, ltb-false, le-ltb, cond-false}
use Rattle.std.proofs.lemmas.List.{take-append-drop, drop_all}
use Rattle.std.proofs.lemmas.Option.{same_Some}
use Rattle.irc_line.specs.Stream.{Item, too_long as cut_line, Held, holding, skipping, bytes_of, first_item, is_lf, item_of, items_of_rest, held_with, items, items_from, next_item, held_without}
use Rattle.irc_line.specs.Calls.{with_first}
use Rattle.irc_line.proofs.CallerLemmas.{taken-append, step, no_items, items_line, items_rest}
use Rattle.network_log.specs.Guest.{next_item as next_line}
use Rattle.node_ports.specs.Unread.{Unread, AreLeft, IsLooked, items_left, next_of, next_or, held_or, looked, without_next}

-- what a feeder took of these bytes, and what is left of them
pub fed : (held : Held) (bytes : List ℕ) (n : ℕ) (more : List ℕ) → items_from (held_with held (take n bytes)) (drop n bytes ++ more) ≡ items_from held (bytes ++ more)
fed held bytes n more =
    ap (λ (h : Held). items (bytes_of h)) (taken-append held (take n bytes) (drop n bytes ++ more))
    ∙ ap (items_from held) (sym (append_assoc (take n bytes) (drop n bytes) more) ∙ ap (λ (l : List ℕ). l ++ more) (take-append-drop n bytes))

pub fed_on : (held later : Held) (bytes rest given : List ℕ) (n : ℕ) → given ≡ bytes → later ≡ held_with held (take n given) → rest ≡ drop n bytes → (more : List ℕ) → items_from later (rest ++ more) ≡ items_from held (bytes ++ more)
fed_on held later bytes rest given n same took left more =
    ap (λ (h : Held). items_from h (rest ++ more)) (took ∙ ap (λ (l : List ℕ). held_with held (take n l)) same)
    ∙ ap (λ (r : List ℕ). items_from (held_with held (take n bytes)) (r ++ more)) left ∙ fed held bytes n more

-- where nothing is held nothing is next
pub none_next : (u : Unread) (behind : List ℕ) → u ≡ record { ahead = None; held = holding []; behind = behind } → (None ≡ next_of u) × ((u ≡ looked u) × (u ≡ without_next u))
none_next u behind e =
    let none : next_item (holding []) ≡ None = ap first_item no_items in
    subst (λ (v : Unread). (None ≡ next_of v) × ((v ≡ looked v) × (v ≡ without_next v))) (sym e) (
      sym none,
      (
        ap (λ (o : Option Item). record { ahead = o; held = held_without o (holding []); behind = behind }) (sym none),
        ap (λ (o : Option Item). record { ahead = None; held = held_without o (holding []); behind = behind }) (sym none),
      ),
    )

pub look_none : (u : Unread) (ahead : Option Item) (behind : List ℕ) → u ≡ record { ahead = ahead; held = holding []; behind = behind } → u ≡ looked u
look_none u (Some i) behind e = subst (λ (v : Unread). v ≡ looked v) (sym e) refl
look_none u None behind e = (none_next u behind e).1.0

-- ---- the next line

suc-add : (n : ℕ) → suc n + 1 ≡ suc (n + 1)
suc-add n = omega arith

drop-next : (n : ℕ) (l : List Item) (x : Item) (xs : List Item) → drop n l ≡ x ∷ xs → (slice_get l n ≡ Some x) × (drop (n + 1) l ≡ xs)
drop-next zero [] x xs e = absurd (cc e)
drop-next zero (y ∷ ys) x xs e = (cc, cc)
drop-next (suc n) [] x xs e = absurd (cc e)
drop-next (suc n) (y ∷ ys) x xs e = let h = drop-next n ys x xs e in (h.0, ap (λ m. drop m (y ∷ ys)) (suc-add n) ∙ h.1)

next-left : (ahead : Option Item) (held : Held) (more : List ℕ) (item : Item) → next_or ahead held ≡ Some item → with_first ahead (items_from held more) ≡ item ∷ items_from (held_or ahead held) more
next-left (Some i) held more item e = ap (λ (x : Item). x ∷ items_from held more) (same_Some i item e)
next-left None held more item e =
    step held more ∙ ap (λ (o : Option Item). with_first o (items_from (held_without (next_item held) held) more)) e

pub next_is : (received : List ℕ) (heard : ℕ) (u : Unread) (item : Item) → next_of u ≡ Some item → AreLeft received heard u → next_line received heard ≡ Some item
next_is received heard u item e are =
    let here = are [] ∙ next-left u.ahead u.held (u.behind ++ []) item e in
    subst (λ (r : List ℕ). slice_get (items r) heard ≡ Some item) (append-nil received) (drop-next heard (items (received ++ [])) item _ here).0

pub left_next : (received : List ℕ) (heard : ℕ) (u : Unread) (item : Item) → next_of u ≡ Some item → AreLeft received heard u → AreLeft received (heard + 1) (without_next u)
left_next received heard u item e are = λ rest.
    (drop-next heard (items (received ++ rest)) item _ (are rest ∙ next-left u.ahead u.held (u.behind ++ rest) item e)).1

looked-so : (ahead : Option Item) (held : Held) (more : List ℕ) → with_first ahead (items_from held more) ≡ with_first (next_or ahead held) (items_from (held_or ahead held) more)
looked-so (Some i) held more = refl
looked-so None held more = step held more

pub left_looked : (u : Unread) (more : List ℕ) → items_left (looked u) more ≡ items_left u more
left_looked u more = sym (looked-so u.ahead u.held (u.behind ++ more))

pub looked_on : {T E : Type 0} (r : Result T E) (old mid new : Unread) → IfOk r (λ _. new ≡ looked mid) → ((more : List ℕ) → items_left mid more ≡ items_left old more)
    → IfOk r (λ _. (more : List ℕ) → items_left new more ≡ items_left old more)
looked_on (Ok x) old mid new e left = λ more. ap (λ (u : Unread). items_left u more) e ∙ left_looked mid more ∙ left more
looked_on (Err x) old mid new e left = tt

-- ---- no line is left

no-items-left : (l : List Item) → first_item l ≡ None → l ≡ []
no-items-left [] e = refl
no-items-left (item ∷ l) e = absurd (cc e)

nothing-from : (held : Held) → next_item held ≡ None → items_from held [] ≡ []
nothing-from (holding bytes) e = ap items (append-nil bytes) ∙ no-items-left (items bytes) e
nothing-from skipping e = no_items

none-is : (o : Option Item) → is_some o ≡ false → o ≡ None
none-is None e = refl
none-is (Some item) e = absurd (cc e)

none-looked : (ahead : Option Item) (held : Held) (behind : List ℕ) → (ahead ≡ None → next_item held ≡ None → behind ≡ []) → is_some (next_or ahead held) ≡ false
    → with_first (next_or ahead held) (items_from (held_or ahead held) (behind ++ [])) ≡ []
none-looked (Some item) held behind all e = absurd (cc e)
none-looked None held behind all e =
    let none : next_item held ≡ None = none-is (next_item held) e in
    ap (λ (o : Option Item). with_first o (items_from (held_without o held) (behind ++ []))) none
    ∙ ap (λ (b : List ℕ). items_from held (b ++ [])) (all refl none) ∙ nothing-from held none

pub none_looked : (u : Unread) → (next_item u.held ≡ None → u.behind ≡ []) → is_some (next_of u) ≡ false → items_left (looked u) [] ≡ []
none_looked u all e = none-looked u.ahead u.held u.behind (λ a n. all n) e

-- what was received has no line more
pub none_there : (received : List ℕ) (heard : ℕ) (u : Unread) → items_left u [] ≡ [] → AreLeft received heard u → next_line received heard ≡ None
none_there received heard u e are =
    let here : drop heard (items (received ++ [])) ≡ [] = are [] ∙ e in
    subst (λ (r : List ℕ). slice_get (items r) heard ≡ None) (append-nil received) (drop-none heard (items (received ++ [])) here) where
      drop-none : (n : ℕ) (l : List Item) → drop n l ≡ [] → slice_get l n ≡ None
      drop-none zero [] h = refl
      drop-none zero (y ∷ ys) h = absurd (cc h)
      drop-none (suc n) [] h = refl
      drop-none (suc n) (y ∷ ys) h = drop-none n ys h

-- a feeder that has no line has room
rest-too-long : (xs : List ℕ) → 8703 ≤ length xs → items_of_rest xs ≡ cut_line ∷ []
rest-too-long xs h = cond-false _ _ _ (le-ltb (length xs) 8703 h)

room-where-none : (held : Held) → next_item held ≡ None → length (bytes_of held) ≡ 8703 → ⊥
room-where-none skipping e full = absurd (omega (arith, full))
room-where-none (holding bytes) e full = go (position is_lf bytes) refl where
  go : (o : Option ℕ) → position is_lf bytes ≡ o → ⊥
  go None none = (let found : first_item (items bytes) ≡ Some cut_line = ap first_item (items_rest bytes none ∙ rest-too-long bytes (omega (arith, full))) in absurd (cc (found, e)))
  go (Some n) some = (let found : first_item (items bytes) ≡ Some (item_of (take n bytes)) = ap first_item (items_line bytes n some) in absurd (cc (found, e)))

pub all_fed : (held : Held) (n : ℕ) (bytes : List ℕ) {rest : List ℕ} → rest ≡ drop n bytes → (n < length bytes → length (bytes_of held) ≡ 8703) → next_item held ≡ None → rest ≡ []
all_fed held n bytes r full none = r ∙ go (nat_lt n (length bytes)) refl where
  go : (b : Bool) → nat_lt n (length bytes) ≡ b → drop n bytes ≡ []
  go true e = absurd (room-where-none held none (full (ltb-true _ _ e)))
  go false e = drop_all n bytes (ltb-false _ _ e)

-- ---- the line that was looked at

pub ahead_next : (received : List ℕ) (heard : ℕ) (u : Unread) → IsLooked u → AreLeft received heard u → next_line received heard ≡ u.ahead
ahead_next received heard u looked are = go u.ahead refl where
  go : (o : Option Item) → u.ahead ≡ o → next_line received heard ≡ o
  go None e = none_there received heard u (looked (ap is_some e)) are
  go (Some item) e = next_is received heard u item (ap (λ (o : Option Item). next_or o u.held) e) are

none-from : (held : Held) (rest : List ℕ) → items_from held rest ≡ [] → next_item held ≡ None
none-from held rest e = go (next_item held) refl where
  go : (o : Option Item) → next_item held ≡ o → next_item held ≡ None
  go None n = n
  go (Some item) n = (let found = sym (step held rest ∙ ap (λ (o : Option Item). with_first o (items_from (held_without (next_item held) held) rest)) n) in absurd (cc (found, e)))

pub next_ahead : (u : Unread) → IsLooked u → next_of u ≡ u.ahead
next_ahead u looked = go u.ahead refl where
  go : (o : Option Item) → u.ahead ≡ o → next_of u ≡ o
  go None e =
      ap (λ (o : Option Item). next_or o u.held) e
      ∙ none-from u.held (u.behind ++ []) (ap (λ (o : Option Item). with_first o (items_from u.held (u.behind ++ []))) (sym e) ∙ looked (ap is_some e))
  go (Some item) e = ap (λ (o : Option Item). next_or o u.held) e

pub left_so : (received : List ℕ) (heard : ℕ) (u v : Unread) → ((more : List ℕ) → items_left v more ≡ items_left u more) → AreLeft received heard u → AreLeft received heard v
left_so received heard u v same are = λ rest. are rest ∙ sym (same rest)

pub none_left : AreLeft [] 0 (record { ahead = None; held = holding []; behind = [] })
none_left rest = refl
