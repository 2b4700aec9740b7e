-- What has to hold of a cluster's name and of directories so that each line that a session sends reads back.
use Rattle.std.specs.Prelude.{◌≡◌, ℕ, true, List}
use Rattle.std.specs.List.{AllByRecursion, list_all}
use Rattle.irc_line.specs.declared.line.TagLimit.{TagLimit}
use Rattle.irc_line.specs.CanStand.{CanBeMiddle}
use Rattle.irc_line.specs.Lines.{AreLines}
use Rattle.irc_reply.specs.Standing.{IsCluster}
use Rattle.chat_change.specs.Words.{is_name, is_target}
use Rattle.cluster_directory.specs.Directory.{Network, Account, Directory}
use Rattle.client_session.specs.declared.effect.Effect.{Effect}
use Rattle.client_session.specs.declared.effect.Effect.TheVariants.{Send}
use Rattle.client_session.specs.Events.{ClientEvent}
use Rattle.client_session.specs.Events as event

-- at most 63 bytes that may be a source and a parameter
pub record CanNameCluster (name : List ℕ) : Type 0 where
  pub source : IsCluster name
  pub parameter : CanBeMiddle name

-- the most messages that an answer may have, a number of 32 bits
abbrev pub greatest_maximum : ℕ
greatest_maximum = 4294967295

-- a name, a present nick and channels such as a configuration may have
pub record NetworkStands (network : Network) : Type 0 where
  pub name : is_name network.name ≡ true
  pub nick : is_target network.entry.nick ≡ true
  pub channels : list_all is_target network.entry.channels ≡ true

abbrev pub AccountStands : Account → Type 0
AccountStands account = AllByRecursion NetworkStands account.networks

abbrev pub DirectoryStands : Directory → Type 0
DirectoryStands directory = AllByRecursion AccountStands directory

-- so do the networks of the directory of that moment
abbrev pub EventStands : ClientEvent → Type 0
EventStands (event.Line directory shown bytes) = DirectoryStands directory
EventStands (event.CutLine directory) = DirectoryStands directory
EventStands (event.Answer a) = Unit {0}

-- bytes for the client are lines that read back
abbrev pub SendsLines : TagLimit → Effect → Type 0
SendsLines limit (Send bytes) = AreLines limit bytes
SendsLines limit _ = Unit {0}
