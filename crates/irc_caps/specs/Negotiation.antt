-- Capability negotiation of a session (IRCv3 capability negotiation): the answer to each form of CAP.
use Rattle.std.specs.Prelude.{ℕ, Bool, true, false, List, [], ◌∷◌, codes, take, Option, None, Some, if◌then◌else◌}
use Rattle.std.specs.Str.{str_eq_ignore_ascii_case}
use Rattle.irc_line.specs.Line.{Reading}
use Rattle.irc_caps.specs.declared.CapSet.{CapSet}
use Rattle.irc_caps.specs.declared.registration.Registration.{Registration}
use Rattle.irc_caps.specs.declared.registration.Registration.TheVariants.{Free, Held, Done}
use Rattle.irc_caps.specs.CapSet.{no_capabilities, all_capabilities, names}
use Rattle.irc_caps.specs.Words.{joined, words_of, list_limit, is_acknowledged, with_words}
use Rattle.irc_reply.specs.Reply.{reply, need_more_params}
use Rattle.irc_reply.specs.Echo.{echoed}

-- the capabilities that a session holds, and how far its registration is
pub record Negotiation : Type 0 where
  pub caps : CapSet
  pub registration : Registration

abbrev pub new : Negotiation
new = record { caps = no_capabilities; registration = Free }

-- of a session that is registered
abbrev pub registered : CapSet → Negotiation
registered caps = record { caps = caps; registration = Done }

abbrev pub is_held : Registration → Bool
is_held Free = false
is_held Held = true
is_held Done = false

-- a registration that is still to come is held back
abbrev pub held_back : Registration → Registration
held_back Free = Held
held_back Held = Held
held_back Done = Done

abbrev pub released : Registration → Registration
released Free = Free
released Held = Free
released Done = Done

-- what a line does: the negotiation after it, and the line that answers it
pub record NegotiationStep : Type 0 where
  pub negotiation : Negotiation
  pub line : Option (List ℕ)

abbrev pub cap_line : List ℕ → List ℕ → List ℕ → List ℕ → List ℕ
cap_line cluster nick subcommand list =
    reply cluster (codes "CAP") (nick ∷ subcommand ∷ []) (Some list)

-- `CAP LS`
abbrev pub ls : List ℕ → List ℕ → Negotiation → NegotiationStep
ls cluster nick n = record {
  negotiation = record n { registration = held_back n.registration };
  line = Some (cap_line cluster nick (codes "LS") (joined (names all_capabilities)));
}

-- `CAP LIST`
abbrev pub list : List ℕ → List ℕ → Negotiation → NegotiationStep
list cluster nick n = record {
  negotiation = n;
  line = Some (cap_line cluster nick (codes "LIST") (joined (names n.caps)));
}

-- `CAP REQ` of a list of which each word is taken
abbrev pub ack : List ℕ → List ℕ → Negotiation → List (List ℕ) → NegotiationStep
ack cluster nick n words = record {
  negotiation = record { caps = with_words n.caps words; registration = held_back n.registration };
  line = Some (cap_line cluster nick (codes "ACK") (joined words));
}

-- `CAP REQ` of a list of which no word is taken
abbrev pub nak : List ℕ → List ℕ → Negotiation → List ℕ → NegotiationStep
nak cluster nick n list = record {
  negotiation = record n { registration = held_back n.registration };
  line = Some (cap_line cluster nick (codes "NAK") (take list_limit list));
}

abbrev pub req_words : List ℕ → List ℕ → Negotiation → List (List ℕ) → NegotiationStep
req_words cluster nick n words =
    if is_acknowledged words then ack cluster nick n words else nak cluster nick n (joined words)

-- the list of a REQ is its next parameter, or empty
abbrev pub list_in : List (List ℕ) → List ℕ
list_in [] = []
list_in (text ∷ more) = text

-- `CAP REQ`
abbrev pub req : List ℕ → List ℕ → Negotiation → List (List ℕ) → NegotiationStep
req cluster nick n parameters = req_words cluster nick n (words_of (list_in parameters))

-- `CAP END`
abbrev pub ended : Negotiation → NegotiationStep
ended n = record { negotiation = record n { registration = released n.registration }; line = None }

-- another subcommand (ERR_INVALIDCAPCMD)
abbrev pub invalid : List ℕ → List ℕ → Negotiation → List ℕ → NegotiationStep
invalid cluster nick n subcommand = record {
  negotiation = n;
  line = Some (reply cluster (codes "410") (nick ∷ echoed subcommand ∷ [])
      (Some (codes "Invalid CAP command")));
}

-- subcommands are compared without regard to case
abbrev pub is_same_word : List ℕ → List ℕ → Bool
is_same_word a b = str_eq_ignore_ascii_case a b

abbrev pub subcommand_answer : List ℕ → List ℕ → Negotiation → List ℕ → List (List ℕ) → NegotiationStep
subcommand_answer cluster nick n subcommand parameters =
    if is_same_word subcommand (codes "LS") then ls cluster nick n
    else if is_same_word subcommand (codes "LIST") then list cluster nick n
    else if is_same_word subcommand (codes "REQ") then req cluster nick n parameters
    else if is_same_word subcommand (codes "END") then ended n
    else invalid cluster nick n subcommand

-- the answer to the parameters of a CAP
abbrev pub cap_answer : List ℕ → List ℕ → Negotiation → List (List ℕ) → NegotiationStep
cap_answer cluster nick n [] = record {
  negotiation = n;
  line = Some (need_more_params cluster nick (codes "CAP"));
}
cap_answer cluster nick n (subcommand ∷ parameters) =
    subcommand_answer cluster nick n subcommand parameters

-- any other command is no matter of the negotiation's
abbrev pub answer : List ℕ → List ℕ → Negotiation → Reading → NegotiationStep
answer cluster nick n line =
    if is_same_word line.command (codes "CAP")
    then cap_answer cluster nick n line.parameters
    else record { negotiation = n; line = None }
