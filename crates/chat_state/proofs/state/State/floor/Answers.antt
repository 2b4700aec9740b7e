use Rattle.std.proofs.Common.{◌≡◌, ◌≤◌, ◌<◌, ℕ, max, ◌∙◌, ap, arith}
use Rattle.chat_change.specs.Extent.{OfAccount}
use Rattle.chat_history.specs.History.{own_floor, changes_of}
use Rattle.chat_state.proofs.LookupLemmas.{floor_of_set}
use Rattle.chat_state.proofs.state.State.floor.Goals as goal

-- of two moments the greater one
first_greater : (m n x y a o : ℕ) → m ≡ x → n ≡ y → x ≡ o → y ≡ a → m < n → y ≡ max a o
first_greater m n x y a o e f g h l = omega (arith, e, f, g, h, l)

second_greater : (m n x y a o : ℕ) → m ≡ x → n ≡ y → x ≡ o → y ≡ a → n ≤ m → x ≡ max a o
second_greater m n x y a o e f g h l = omega (arith, e, f, g, h, l)

pub returns-then-ms-clause-of_set : goal.returns-then-ms-clause-of_set
returns-then-ms-clause-of_set c changes e =
    let h = c.args.self.now.history in
    first_greater _ _ _ _ _ _ c.ms.ensures.value c.ms-2.ensures.value c.own_floor-own.ensures
    (c.own_floor-around.ensures ∙ ap (λ a. own_floor (changes_of h) (OfAccount a)) c.owner.ensures) c.if-ms.true
    ∙ floor_of_set h c.args.buffer.now changes e

pub returns-else-ms-clause-of_set : goal.returns-else-ms-clause-of_set
returns-else-ms-clause-of_set c changes e =
    let h = c.args.self.now.history in
    second_greater _ _ _ _ _ _ c.ms.ensures.value c.ms-2.ensures.value c.own_floor-own.ensures
    (c.own_floor-around.ensures ∙ ap (λ a. own_floor (changes_of h) (OfAccount a)) c.owner.ensures) c.if-ms.false
    ∙ floor_of_set h c.args.buffer.now changes e
