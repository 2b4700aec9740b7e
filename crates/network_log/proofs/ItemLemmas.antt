-- The lines of a stream are the first ones of what it goes on to.
use Rattle.std.proofs.Common.{◌≡◌, ◌≤◌, ◌+◌, ℕ, zero, suc, List, [], ◌∷◌, ◌++◌, Option, None, Some, length, drop, position, refl, sym, ap, ◌∙◌, subst, append-nil, arith}
use Rattle.std.proofs.lemmas.List.{length-drop}
use Rattle.irc_line.specs.Stream.{is_lf, Item, line, too_long, Held, holding, skipping, bytes_of, held_behind, held_past, first_item, items, items_from, next_item, held_without}
use Rattle.irc_line.specs.Calls.{with_first}
use Rattle.irc_line.proofs.CallerLemmas.{no_items, step}

none-first : (l : List Item) → first_item l ≡ None → l ≡ []
none-first [] e = refl
none-first (item ∷ l) e = absurd (cc e)

without-some : (item : Item) (held : Held) → held_without (Some item) held ≡ held_past (bytes_of held)
without-some (line text) held = refl
without-some too_long held = refl

behind-shorter : (o : Option ℕ) (x : ℕ) (xs : List ℕ) → length (bytes_of (held_behind o (x ∷ xs))) ≤ length xs
behind-shorter None x xs = omega arith
behind-shorter (Some at) x xs =
    let e : length (drop (at + 1) (x ∷ xs)) ≡ _ = length-drop (at + 1) (x ∷ xs) in omega (arith, e)

More : Held → List ℕ → Type 0
More held rest = (more : List Item) × (items_from held rest ≡ items_from held [] ++ more)

nothing-first : (held : Held) (rest : List ℕ) → items_from held [] ≡ [] → More held rest
unfolding More
nothing-first held rest e = (items_from held rest, ap (λ (l : List Item). l ++ items_from held rest) (sym e))

one-first : (held : Held) (rest : List ℕ) (item : Item) → next_item held ≡ Some item → More (held_past (bytes_of held)) rest → More held rest
unfolding More
one-first held rest item is m =
    let past : Held = held_past (bytes_of held) in
    let P : List ℕ → Option Item → Type 0 = λ more n. items_from held more ≡ with_first n (items_from (held_without n held) more) in
    let Q : List ℕ → Held → Type 0 = λ more h. items_from held more ≡ item ∷ items_from h more in
    let at : (more : List ℕ) → items_from held more ≡ item ∷ items_from past more =
    λ more. subst (Q more) (without-some item held) (subst (P more) is (step held more)) in
    (m.0, at rest ∙ ap (λ (l : List Item). item ∷ l) m.1 ∙ ap (λ (l : List Item). l ++ m.0) (sym (at [])))

-- where the same holds of what is held behind the first line
by-first : (x : ℕ) (xs rest : List ℕ) → More (held_past (x ∷ xs)) rest → (o : Option Item) → next_item (holding (x ∷ xs)) ≡ o → More (holding (x ∷ xs)) rest
by-first x xs rest m None e = nothing-first (holding (x ∷ xs)) rest (ap items (append-nil (x ∷ xs)) ∙ none-first (items (x ∷ xs)) e)
by-first x xs rest m (Some item) e = one-first (holding (x ∷ xs)) rest item e m

more-of : (fuel : ℕ) (held : Held) (rest : List ℕ) → length (bytes_of held) ≤ fuel → More held rest
more-of fuel skipping rest h = nothing-first skipping rest no_items
more-of fuel (holding []) rest h = nothing-first (holding []) rest no_items
more-of zero (holding (x ∷ xs)) rest h = absurd (omega (arith, h))
more-of (suc fuel) (holding (x ∷ xs)) rest h =
    let shorter : length (bytes_of (held_past (x ∷ xs))) ≤ length xs = behind-shorter (position is_lf (x ∷ xs)) x xs in
    by-first x xs rest (more-of fuel (held_past (x ∷ xs)) rest (omega (arith, h, shorter))) (next_item (holding (x ∷ xs))) refl

pub items-more : (xs ys : List ℕ) → (more : List Item) × (items (xs ++ ys) ≡ items xs ++ more)
unfolding More
items-more xs ys =
    let m : More (holding xs) ys = more-of (length xs) (holding xs) ys (omega arith) in
    (m.0, m.1 ∙ ap (λ (l : List ℕ). items l ++ m.0) (append-nil xs))
