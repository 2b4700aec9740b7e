-- What of a stream is unread, and its next line.
use Rattle.std.proofs.Common.{◌≡◌, ◌+◌, ℕ, zero, suc, List, [], ◌∷◌, ◌++◌, Option, Some, drop, refl, sym, ap, ◌∙◌, subst, append_assoc, append-nil}
use Rattle.std.specs.Prelude.{slice_get}
use Rattle.std.proofs.lemmas.List.{drop-drop}
use Rattle.irc_line.specs.Stream.{Item, line, too_long, Held, holding, skipping, bytes_of, held_past, held_with, held_without, first_item, next_item, items, items_from}
use Rattle.irc_line.specs.Calls.{with_first}
use Rattle.irc_line.proofs.CallerLemmas.{taken-append, step}
use Rattle.network_log.specs.Guest.{next_item as next_of}
use Rattle.network_server.specs.Unread.{IsUnread}

pub more-unread : (received : List ℕ) (heard : ℕ) (held : Held) (bytes : List ℕ) → IsUnread received heard held → IsUnread (received ++ bytes) heard (held_with held bytes)
more-unread received heard held bytes is rest =
    ap (λ (l : List ℕ). drop heard (items l)) (append_assoc received bytes rest) ∙ is (bytes ++ rest)
    ∙ ap (λ (h : Held). items (bytes_of h)) (sym (taken-append held bytes rest))

past-some : (item : Item) (held : Held) → held_without (Some item) held ≡ held_past (bytes_of held)
past-some (line text) held = refl
past-some too_long held = refl

pub one-heard : (received : List ℕ) (heard : ℕ) (held : Held) (item : Item) → next_item held ≡ Some item → IsUnread received heard held → IsUnread received (heard + 1) (held_past (bytes_of held))
one-heard received heard held item next is rest =
    let all : List Item = items (received ++ rest) in
    let P : Option Item → Type 0 = λ o. items_from held rest ≡ with_first o (items_from (held_without o held) rest) in
    let Q : Held → Type 0 = λ h. items_from held rest ≡ item ∷ items_from h rest in
    let first : items_from held rest ≡ item ∷ items_from (held_past (bytes_of held)) rest = subst Q (past-some item held) (subst P next (step held rest)) in
    sym (drop-drop 1 heard all) ∙ ap (drop 1) (is rest ∙ first)

first-from : (held : Held) → first_item (items_from held []) ≡ next_item held
first-from (holding bytes) = ap (λ (l : List ℕ). first_item (items l)) (append-nil bytes)
first-from skipping = refl

first-dropped : (l : List Item) (n : ℕ) → slice_get l n ≡ first_item (drop n l)
first-dropped [] zero = refl
first-dropped [] (suc n) = refl
first-dropped (item ∷ l) zero = refl
first-dropped (item ∷ l) (suc n) = first-dropped l n

-- the next item of what is held is the next one of what was received
pub next-is : (received : List ℕ) (heard : ℕ) (held : Held) → IsUnread received heard held → next_of received heard ≡ next_item held
next-is received heard held is =
    first-dropped (items received) heard ∙ ap (λ (l : List ℕ). first_item (drop heard (items l))) (sym (append-nil received))
    ∙ ap first_item (is []) ∙ first-from held
