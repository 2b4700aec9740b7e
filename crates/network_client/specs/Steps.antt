-- What a client comes to as bytes come over its connection, or as its session hears a line.
use Rattle.std.specs.Prelude.{ℕ, ◌≡◌, ◌≢◌, Bool, ◌&&◌, true, false, List, [], ◌∷◌, ◌++◌, Option, None, Some, IsSome}
use Rattle.std.specs.Str.{bytes_eq}
use Rattle.irc_line.specs.Stream.{Item}
use Rattle.chat_change.specs.declared.change.Change.{Change}
use Rattle.chat_query.specs.Answers.{Answer}
use Rattle.chat_query.specs.declared.facts.Answered.{Answered}
use Rattle.chat_query.specs.declared.facts.Facts.{Facts}
use Rattle.cluster_directory.specs.Directory.{Directory}
use Rattle.cluster_directory.specs.Entry.{Entry}
use Rattle.cluster_directory.specs.declared.config.SessionConfig.{SessionConfig}
use Rattle.client_session.specs.Session.{facts_in}
use Rattle.client_session.specs.declared.effect.Effect.{Effect}
use Rattle.client_session.specs.declared.effect.Effect.TheVariants.{Send, Put, Upstream}
use Rattle.client_session.specs.declared.stage.Stage.{Stage}
use Rattle.network_log.specs.Accounts.{directory_at}
use Rattle.network_log.specs.Facts.{NodeFacts}
use Rattle.network_log.specs.Truth.{IsDirectory, IsSought}
use Rattle.client_session.specs.Step.{Step}
use Rattle.network_log.specs.Guest.{Guest, Gets, Hears, fallen, guest_step, next_item, step_of}
use Rattle.network_log.specs.declared.origin.Origin.TheVariants.{ClientCame}

-- In turn: nothing came; bytes came; and bytes came for which there was no memory, or there was none to take any in, and it is gone.
pub data IsFilled (facts : NodeFacts) (old new : Guest) : Type 0 where
  Same : new ≡ old → IsFilled facts old new
  Got : (bytes : List ℕ)
      → old.is_gone ≡ false
      → facts.came ClientCame old.serial (old.received ++ bytes)
      → new ≡ guest_step [] (Gets bytes) old
      → IsFilled facts old new
  Fell : new ≡ fallen old → IsFilled facts old new
  Lost : (bytes : List ℕ)
      → old.is_gone ≡ false
      → facts.came ClientCame old.serial (old.received ++ bytes)
      → new ≡ fallen (guest_step [] (Gets bytes) old)
      → IsFilled facts old new

-- ---- a line

-- what the next line comes to, where there is one
abbrev pub step_if : Directory → Bool → Stage → Option Item → Option Step
step_if directory shown session None = None
step_if directory shown session (Some item) = Some (step_of directory shown session item)

-- Why it hears no line now. In turn: it is gone; something of what its last line came to isn't done; its session isn't
-- registered, and it is a client of a network; and all its lines were heard.
pub data IsQuiet (g : Guest) : Type 0 where
  Gone : g.is_gone ≡ true → IsQuiet g
  Busy : g.todo ≢ [] → IsQuiet g
  Outside : facts_in g.session ≡ None → IsQuiet g
  NoLine : next_item g.received g.heard ≡ None → IsQuiet g

-- Its session heard the next line, by those accounts, where the node holds these changes.
pub record IsHeardIn (held : List Change) (directory : Directory) (old new : Guest) : Type 0 where
  pub shown : Bool
  pub is_next : IsSome (next_item old.received old.heard)
  pub is_there : old.is_gone ≡ false
  pub is_done : old.todo ≡ []
  pub is_sought : IsSought held shown old.session (next_item old.received old.heard)
  pub is_after : new ≡ guest_step held (Hears directory shown) old

-- ---- a line of a newcomer, by accounts that may be fewer than those of the node

-- its next line comes to the same by these accounts as by those
abbrev pub IsAlike : Directory → Directory → Guest → Type 0
IsAlike directory full g = (shown : Bool) (item : Item)
    → next_item g.received g.heard ≡ Some item
    → step_of directory shown g.session item ≡ step_of full shown g.session item

-- the same as by those of the node where that network stands so
abbrev pub IsAlikeAt : NodeFacts → SessionConfig → Entry → Directory → Guest → Type 0
IsAlikeAt facts config entry directory g =
    IsAlike directory (directory_at facts.accounts config entry) g

-- the same as by those of the node at some moment
pub record IsByAccounts (facts : NodeFacts) (directory : Directory) (g : Guest) : Type 0 where
  pub full : Directory
  pub is_directory : IsDirectory facts full
  pub is_alike : IsAlike directory full g

-- a session is registered with that account and network
abbrev pub is_at : SessionConfig → Facts → Bool
is_at config f = bytes_eq f.account config.account && bytes_eq f.network config.network

-- its session is registered with another account or network
pub record IsElsewhere (config : SessionConfig) (g : Guest) : Type 0 where
  pub f : Facts
  pub is_registered : facts_in g.session ≡ Some f
  pub is_other : is_at config f ≡ false

-- ---- an answer

-- the answer of that text, where there is one
abbrev pub answer_with : List ℕ → Option Answered → Option Answer
answer_with text None = None
answer_with text (Some answered) = Some (record { text = text; answered = answered })

-- ---- the session's own lines, up to where something else is to be done

abbrev pub saying : List Effect → Guest → Guest
saying (Send text ∷ more) g = saying more (record g { todo = more; waiting = g.waiting ++ text })
saying _ g = g

-- a client for which all of them wait
abbrev pub all_said : Guest → Guest
all_said g = saying g.todo g

abbrev pub says : List Effect → Bool
says (Send text ∷ more) = true
says _ = false

-- ---- what the network does for it

-- what is left to do once the line for the server, or the marker, which is next, is done
abbrev pub after_act : List Effect → List Effect
after_act (Put change ∷ more) = more
after_act (Upstream text ∷ more) = more
after_act effects = effects
