-- What may be handed in to be written, and of a session for what is written to it.
use Rattle.std.specs.Prelude.{ℕ, ◌≡◌, ◌≤◌, true, List, length}
use Rattle.irc_line.specs.Line.{HasNoSpace}
use Rattle.irc_line.specs.CanStand.{HasNoBadByte}
use Rattle.irc_time.specs.Time.{greatest}
use Rattle.irc_reply.specs.Standing.{IsCluster, IsWordTo, target_limit}
use Rattle.chat_change.specs.Words.{is_target}
use Rattle.chat_query.specs.declared.facts.Facts.{Facts}
use Rattle.chat_query.specs.Reference.{greatest_reference}

-- the most bytes of a batch's reference
abbrev pub reference_limit : ℕ
reference_limit = 32

-- the reference of a batch, which stands in a tag and in a parameter
abbrev pub IsReference : List ℕ → Type 0
IsReference reference =
    HasNoSpace reference × HasNoBadByte reference × (length reference ≤ reference_limit)

-- the session's cluster and nick may stand in a line, and its batch has a number
pub record IsSoundSession (facts : Facts) : Type 0 where
  pub cluster : IsCluster facts.cluster
  pub nick : IsWordTo target_limit facts.nick
  pub reference : facts.reference ≤ greatest_reference

-- the moment and the target of a listed buffer
abbrev pub CanBeListed : ℕ × List ℕ → Type 0
CanBeListed e = (e.0 ≤ greatest) × (is_target e.1 ≡ true)
