-- Which texts are one line, and what has to hold of a configuration and of what clients say, so that each text that a
-- session writes is one.
use Rattle.std.specs.Prelude.{◌≡◌, ℕ, true, List, ◌++◌}
use Rattle.std.specs.List.{list_all}
use Rattle.byte_text.specs.Bytes.{line_ending}
use Rattle.irc_line.specs.CanStand.{HasNoBadByte}
use Rattle.chat_change.specs.Words.{is_target}
use Rattle.cluster_directory.specs.Entry.{Entry}
use Rattle.cluster_directory.specs.declared.config.SessionConfig.{SessionConfig}
use Rattle.upstream_session.specs.declared.effect.UpEffect.{UpEffect}
use Rattle.upstream_session.specs.declared.effect.UpEffect.TheVariants.{Send, Put, Relay, Close}
use Rattle.upstream_session.specs.Sayings.{without_ending}
use Rattle.upstream_session.specs.Events.{ServerEvent}
use Rattle.upstream_session.specs.Events as event

-- one line with its ending: CR LF at the end, and no NUL, CR or LF before that
abbrev pub IsOneLine : List ℕ → Type 0
IsOneLine bytes = (text : List ℕ) × (bytes ≡ text ++ line_ending) × HasNoBadByte text

-- what is written to the server, or passed on to clients, is one line
abbrev pub WritesOneLine : UpEffect → Type 0
WritesOneLine (Send bytes) = IsOneLine bytes
WritesOneLine (Put change) = Unit {0}
WritesOneLine (Relay bytes to) = IsOneLine bytes
WritesOneLine Close = Unit {0}

-- a nick, a user name and channels such as a node's configuration has
pub record ConfigStands (config : SessionConfig) : Type 0 where
  pub nick : is_target config.nick ≡ true
  pub user : is_target config.user ≡ true
  pub channels : list_all is_target config.channels ≡ true

-- a present nick and channels that may stand in a line
pub record EntryStands (entry : Entry) : Type 0 where
  pub nick : is_target entry.nick ≡ true
  pub channels : list_all is_target entry.channels ≡ true

-- What a client says has no NUL, CR or LF before its ending. Of the server's lines nothing is asked.
abbrev pub EventStands : ServerEvent → Type 0
EventStands (event.Line now bytes) = Unit {0}
EventStands (event.Saying now bytes) = HasNoBadByte (without_ending bytes)
