-- What a CAP does to a registration that is still to come.
use Rattle.std.proofs.Common.{◌≡◌, ℕ, Bool, true, false, List, [], ◌∷◌, codes, refl}
use Rattle.std.specs.Prelude.{if◌then◌else◌}
use Rattle.irc_caps.specs.declared.registration.Registration.{Registration}
use Rattle.irc_caps.specs.declared.registration.Registration.TheVariants.{Free, Held, Done}
use Rattle.irc_caps.specs.Words.{words_of, is_acknowledged, joined}
use Rattle.irc_caps.specs.Negotiation.{Negotiation, NegotiationStep, is_held, held_back, released, is_same_word, ls, list, ack, nak, req_words, req, list_in, ended, invalid, cap_answer}
use Rattle.client_session.specs.Events.{is_held_after}

-- it isn't past
abbrev pub IsToCome : Registration → Type 0
IsToCome Free = Unit {0}
IsToCome Held = Unit {0}
IsToCome Done = ⊥

-- the answer leaves it to come, and held back or not
abbrev pub HeldAfter : NegotiationStep → Bool → Type 0
HeldAfter a held = (is_held a.negotiation.registration ≡ held) × IsToCome a.negotiation.registration

-- one choice among answers and among what they leave
both : (b : Bool) (x y : NegotiationStep) (u v : Bool) → HeldAfter x u → HeldAfter y v → HeldAfter (if b then x else y) (if b then u else v)
both true x y u v p q = p
both false x y u v p q = q

either_answer : (b : Bool) (x y : NegotiationStep) (u : Bool) → HeldAfter x u → HeldAfter y u → HeldAfter (if b then x else y) u
either_answer true x y u p q = p
either_answer false x y u p q = q

backed : (r : Registration) → IsToCome r → (is_held (held_back r) ≡ true) × IsToCome (held_back r)
backed Free h = (refl, tt)
backed Held h = (refl, tt)
backed Done h = absurd h

freed : (r : Registration) → IsToCome r → (is_held (released r) ≡ false) × IsToCome (released r)
freed Free h = (refl, tt)
freed Held h = (refl, tt)
freed Done h = absurd h

asked : (cluster nick : List ℕ) (n : Negotiation) (words : List (List ℕ)) → IsToCome n.registration → HeldAfter (req_words cluster nick n words) true
asked cluster nick n words h = either_answer (is_acknowledged words) (ack cluster nick n words) (nak cluster nick n (joined words)) true (backed n.registration h) (backed n.registration h)

pub cap_leaves : (cluster nick : List ℕ) (n : Negotiation) (parameters : List (List ℕ)) → IsToCome n.registration
    → HeldAfter (cap_answer cluster nick n parameters) (is_held_after (is_held n.registration) parameters)
cap_leaves cluster nick n [] h = (refl, h)
cap_leaves cluster nick n (subcommand ∷ more) h =
    both (is_same_word subcommand (codes "LS")) (ls cluster nick n) _ true _ (backed n.registration h)
    (both (is_same_word subcommand (codes "LIST")) (list cluster nick n) _ (is_held n.registration) _ (refl, h)
    (both (is_same_word subcommand (codes "REQ")) (req cluster nick n more) _ true _ (asked cluster nick n (words_of (list_in more)) h)
    (both (is_same_word subcommand (codes "END")) (ended n) (invalid cluster nick n subcommand) false (is_held n.registration) (freed n.registration h) (refl, h))))
