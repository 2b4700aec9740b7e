-- Lines of the cluster, and lines that name no sender, each with its ending (RFC 2812, sections 2.3 and 2.4).
use Rattle.std.specs.Prelude.{ℕ, List, [], ◌∷◌, ◌++◌, codes, Option, None, Some}
use Rattle.irc_line.specs.Text.{line_text}
use Rattle.irc_time.specs.Text.{time_text}
use Rattle.irc_reply.specs.declared.reply.Context.{Context}
use Rattle.irc_reply.specs.declared.reply.Context.TheVariants.{Nothing, One, Two}

-- a line from the cluster
abbrev pub reply : List ℕ → List ℕ → List (List ℕ) → Option (List ℕ) → List ℕ
reply cluster command middles trailing =
    line_text (record {
      tags = None;
      source = Some cluster;
      command = command;
      middles = middles;
      trailing = trailing;
    })

-- a line without tags and source
abbrev pub plain_line : List ℕ → List (List ℕ) → Option (List ℕ) → List ℕ
plain_line command middles trailing = line_text (record {
  tags = None;
  source = None;
  command = command;
  middles = middles;
  trailing = trailing;
})

-- a command that is unknown, or that the session has no capability for (ERR_UNKNOWNCOMMAND, RFC 2812, section 5.2)
abbrev pub unknown_text : List ℕ → List ℕ → List ℕ → List ℕ
unknown_text cluster nick word =
    reply cluster (codes "421") (nick ∷ word ∷ []) (Some (codes "Unknown command"))

-- a command that has too few parameters (ERR_NEEDMOREPARAMS, RFC 2812, section 5.2)
abbrev pub need_more_params : List ℕ → List ℕ → List ℕ → List ℕ
need_more_params cluster nick command =
    reply cluster (codes "461") (nick ∷ command ∷ []) (Some (codes "Not enough parameters"))

-- a line or its tags were too long (ERR_INPUTTOOLONG, IRCv3 message-tags, "Size limit")
abbrev pub too_long_text : List ℕ → List ℕ → List ℕ
too_long_text cluster nick =
    reply cluster (codes "417") (nick ∷ []) (Some (codes "Input line was too long"))

-- a refusal: its command, its code, its context and what is wrong (IRCv3 standard-replies, `FAIL`)
abbrev pub fail_text : List ℕ → List ℕ → List ℕ → List (List ℕ) → List ℕ → List ℕ
fail_text cluster command code context text =
    reply cluster (codes "FAIL") (command ∷ code ∷ context) (Some text)

-- the words that the code's context stands for
abbrev pub value_of : Context → List (List ℕ)
value_of Nothing = []
value_of (One a) = a.now ∷ []
value_of (Two a b) = a.now ∷ b.now ∷ []

-- a read marker: `*` where there is none (IRCv3 draft/read-marker)
abbrev pub marker_word : Option ℕ → List ℕ
marker_word None = codes "*"
marker_word (Some t) = codes "timestamp=" ++ time_text t

-- the marker of a target, which is printed as it was given
abbrev pub mark_text : List ℕ → List ℕ → Option ℕ → List ℕ
mark_text cluster target marker =
    reply cluster (codes "MARKREAD") (target ∷ marker_word marker ∷ []) None
