-- The capabilities that a server offers and acknowledges (IRCv3 capability negotiation, `CAP LS` and `CAP ACK`).
use Rattle.std.specs.Prelude.{ℕ, true, List, [], ◌∷◌, codes, ◌==◌, Option, None, Some}
use Rattle.std.specs.List.{before_first}
use Rattle.irc_caps.specs.declared.CapSet.{CapSet}
use Rattle.irc_caps.specs.declared.capability.Capability.{Capability}
use Rattle.irc_caps.specs.declared.capability.Capability.TheVariants.{MessageRedaction, EchoMessage, MessageTags, ServerTime}
use Rattle.irc_caps.specs.Capability.{capability_of}
use Rattle.irc_caps.specs.CapSet.{with_held, names_among}
use Rattle.irc_caps.specs.Words.{joined}
use Rattle.irc_reply.specs.Reply.{plain_line}
use Rattle.irc_reply.specs.ToServer.{cap_end}

-- an offer is a name, which may have `=` and a value behind it
abbrev pub name_in : List ℕ → List ℕ
name_in offer = before_first (λ b. b == 61) offer

abbrev pub with_offer : CapSet → Option Capability → CapSet
with_offer caps None = caps
with_offer caps (Some c) = with_held caps c true

abbrev pub with_offers : CapSet → List (List ℕ) → CapSet
with_offers caps [] = caps
with_offers caps (offer ∷ offers) =
    with_offers (with_offer caps (capability_of (name_in offer))) offers

-- what a session asks its server for, where it is offered
abbrev pub wanted : List Capability
wanted = MessageRedaction ∷ EchoMessage ∷ MessageTags ∷ ServerTime ∷ []

-- asks for capabilities
abbrev pub cap_req : List (List ℕ) → List ℕ
cap_req names = plain_line (codes "CAP") (codes "REQ" ∷ []) (Some (joined names))

-- the answer to a list of offers, where none of them may be wanted
abbrev pub request_of : List (List ℕ) → List ℕ
request_of [] = cap_end
request_of (name ∷ names) = cap_req (name ∷ names)

abbrev pub request : CapSet → List ℕ
request offered = request_of (names_among offered wanted)
