-- Over any list of calls the items value_of are a head of those of all bytes held_with.
use Rattle.std.proofs.Common.{◌≡◌, ℕ, ◌+◌, ◌<◌, ◌≤◌, Bool, true, false, nat_lt, List, [], ◌∷◌, ◌++◌, length, take, drop, None, Some, Option, position, refl, sym, ap, ◌∙◌, arith, append_assoc, length-append, lit<}
use Rattle.std.proofs.lemmas.List.{drop-append-le, take-append-le, drop-drop, length-take, drop_at}
use Rattle.std.proofs.lemmas.Bool.{ltb-true, ltb-false, le-ltb, cond-false}
use Rattle.irc_line.specs.Stream.{is_lf, item_of, items_of_rest, items, Item, line, too_long, Held, holding, skipping, bytes_of, held_behind, held_past, held_with, first_item, next_item, held_without, items_from}
use Rattle.irc_line.specs.Calls.{Call, feed, next, held_after, items_given, with_first, bytes_taken, GivesItems}
use Rattle.irc_line.proofs.StreamLemmas.{first_lf, position-append, position-append_some, position-append_none, items_line, items_rest, none_first}

-- what is dropped of a first part and of a second
pub drop_past : (a b : List ℕ) (k : ℕ) → drop (length a + k + 1) (a ++ b) ≡ drop (k + 1) b
drop_past a b k = ap (λ n. drop n (a ++ b)) (omega arith) ∙ sym (drop-drop (k + 1) (length a) (a ++ b)) ∙ ap (drop (k + 1)) (drop_at a b (length a) refl)

skipped-append : (a b : List ℕ) → held_with (held_past a) b ≡ held_past (a ++ b)
skipped-append a b = at_first (position is_lf a) refl where
  at_second : position is_lf a ≡ None → (o : Option ℕ) → position is_lf b ≡ o → held_behind o b ≡ held_past (a ++ b)
  at_second none None e = ap (λ p. held_behind p (a ++ b)) (sym (position-append_none a b none e))
  at_second none (Some k) e = ap holding (sym (drop_past a b k)) ∙ ap (λ p. held_behind p (a ++ b)) (sym (position-append_some a b k none e))

  at_first : (o : Option ℕ) → position is_lf a ≡ o → held_with (held_behind o a) b ≡ held_past (a ++ b)
  at_first None e = at_second e (position is_lf b) refl
  at_first (Some n) e =
      let within = (first_lf a n e).within in
      ap holding (sym (drop-append-le (n + 1) a b (omega arith))) ∙ ap (λ p. held_behind p (a ++ b)) (sym (position-append a b n e))

pub taken-append : (held : Held) (a b : List ℕ) → held_with (held_with held a) b ≡ held_with held (a ++ b)
taken-append (holding bytes) a b = ap holding (append_assoc bytes a b)
taken-append skipping a b = skipped-append a b

pub after_some : (item : Item) (held : Held) → held_without (Some item) held ≡ held_past (bytes_of held)
after_some (line text) held = refl
after_some too_long held = refl

rest_too_long : (xs : List ℕ) → 8703 ≤ length xs → items_of_rest xs ≡ too_long ∷ []
rest_too_long xs h = cond-false _ _ _ (le-ltb (length xs) 8703 h)

pub part_too_long : (xs : List ℕ) → 8703 ≤ length xs → item_of xs ≡ too_long
part_too_long xs h = cond-false _ _ _ (le-ltb (length xs) 8703 h)

pub no_items : items [] ≡ []
no_items = items_rest [] refl

-- where the first part is too long, and its LF comes later or not at all
long_items : (bytes rest : List ℕ) → position is_lf bytes ≡ None → 8703 ≤ length bytes → items (bytes ++ rest) ≡ too_long ∷ items_from skipping rest
long_items bytes rest none long = go (position is_lf rest) refl where
  go : (o : Option ℕ) → position is_lf rest ≡ o → items (bytes ++ rest) ≡ too_long ∷ items (bytes_of (held_past rest))
  go None e =
      let longer = length-append bytes rest in
      let ends : items (bytes ++ rest) ≡ too_long ∷ [] = items_rest (bytes ++ rest) (position-append_none bytes rest none e) ∙ rest_too_long (bytes ++ rest) (omega arith) in
      ends ∙ ap (λ l. too_long ∷ l) (sym no_items) ∙ ap (λ p. too_long ∷ items (bytes_of (held_behind p rest))) (sym e)
  go (Some k) e =
      let there = position-append_some bytes rest k none e in
      let within = (first_lf (bytes ++ rest) (length bytes + k) there).within in
      let size = length-take (length bytes + k) (bytes ++ rest) in
      let first : item_of (take (length bytes + k) (bytes ++ rest)) ≡ too_long = part_too_long (take (length bytes + k) (bytes ++ rest)) (omega arith) in
      items_line (bytes ++ rest) (length bytes + k) there ∙ ap (λ i. i ∷ items (drop (length bytes + k + 1) (bytes ++ rest))) first
      ∙ ap (λ l. too_long ∷ items l) (drop_past bytes rest k) ∙ ap (λ p. too_long ∷ items (bytes_of (held_behind p rest))) (sym e)

-- one call for the next line
pub step : (held : Held) (rest : List ℕ) → items_from held rest ≡ with_first (next_item held) (items_from (held_without (next_item held) held) rest)
step skipping rest = let none = none_first [] refl (lit< tt) in ap (λ o. with_first o (items_from (held_without o skipping) rest)) (sym none)
step (holding bytes) rest = go (position is_lf bytes) refl where
  short : position is_lf bytes ≡ None → (b : Bool) → nat_lt (length bytes) 8703 ≡ b
      → items (bytes ++ rest) ≡ with_first (next_item (holding bytes)) (items_from (held_without (next_item (holding bytes)) (holding bytes)) rest)
  short e true fits =
      let none : next_item (holding bytes) ≡ None = none_first bytes e (ltb-true _ _ fits) in
      ap (λ o. with_first o (items_from (held_without o (holding bytes)) rest)) (sym none)
  short e false fits =
      let found : next_item (holding bytes) ≡ Some too_long = ap first_item (items_rest bytes e ∙ rest_too_long bytes (ltb-false _ _ fits)) in
      long_items bytes rest e (ltb-false _ _ fits) ∙ ap (λ p. too_long ∷ items_from (held_behind p bytes) rest) (sym e)
      ∙ ap (λ o. with_first o (items_from (held_without o (holding bytes)) rest)) (sym found)

  go : (o : Option ℕ) → position is_lf bytes ≡ o → items (bytes ++ rest) ≡ with_first (next_item (holding bytes)) (items_from (held_without (next_item (holding bytes)) (holding bytes)) rest)
  go None e = short e (nat_lt (length bytes) 8703) refl
  go (Some n) e =
      let within = (first_lf bytes n e).within in
      let found : next_item (holding bytes) ≡ Some (item_of (take n bytes)) = ap first_item (items_line bytes n e) in
      items_line (bytes ++ rest) n (position-append bytes rest n e)
      ∙ ap (λ l. item_of l ∷ items (drop (n + 1) (bytes ++ rest))) (take-append-le n bytes rest (omega arith))
      ∙ ap (λ l. item_of (take n bytes) ∷ items l) (drop-append-le (n + 1) bytes rest (omega arith))
      ∙ ap (λ p. item_of (take n bytes) ∷ items_from (held_behind p bytes) rest) (sym e)
      ∙ ap (λ h. item_of (take n bytes) ∷ items_from h rest) (sym (after_some (item_of (take n bytes)) (holding bytes)))
      ∙ ap (λ o. with_first o (items_from (held_without o (holding bytes)) rest)) (sym found)

-- where no line is held there is room
pub room_where_none : (held : Held) → next_item held ≡ None → length (bytes_of held) < 8703
room_where_none skipping e = lit< tt
room_where_none (holding bytes) e = go (position is_lf bytes) refl where
  short : position is_lf bytes ≡ None → (b : Bool) → nat_lt (length bytes) 8703 ≡ b → length bytes < 8703
  short none true fits = ltb-true _ _ fits
  short none false fits = (let found : first_item (items bytes) ≡ Some too_long = ap first_item (items_rest bytes none ∙ rest_too_long bytes (ltb-false _ _ fits)) in cc)

  go : (o : Option ℕ) → position is_lf bytes ≡ o → length bytes < 8703
  go None none = short none (nat_lt (length bytes) 8703) refl
  go (Some n) some = (let found : first_item (items bytes) ≡ Some (item_of (take n bytes)) = ap first_item (items_line bytes n some) in cc)

with_first-append : (o : Option Item) (a b : List Item) → with_first o (a ++ b) ≡ with_first o a ++ b
with_first-append None a b = refl
with_first-append (Some item) a b = refl

all_calls : (held : Held) (calls : List Call) (rest : List ℕ) → items_from held (bytes_taken calls ++ rest) ≡ items_given held calls ++ items_from (held_after held calls) rest
all_calls held [] rest = refl
all_calls held (feed bytes ∷ calls) rest =
    ap (items_from held) (append_assoc bytes (bytes_taken calls) rest) ∙ ap (λ h. items (bytes_of h)) (sym (taken-append held bytes (bytes_taken calls ++ rest)))
    ∙ all_calls (held_with held bytes) calls rest
all_calls held (next ∷ calls) rest =
    step held (bytes_taken calls ++ rest)
    ∙ ap (with_first (next_item held)) (all_calls (held_without (next_item held) held) calls rest)
    ∙ with_first-append (next_item held) (items_given (held_without (next_item held) held) calls) (items_from (held_after (held_without (next_item held) held) calls) rest)

pub gives_items : (calls : List Call) (rest : List ℕ) → GivesItems calls rest
gives_items calls rest = all_calls (holding []) calls rest
