-- The server of a network, as its connection stands.
use Rattle.std.specs.Prelude.{ℕ, ◌≡◌, ◌≤◌, ◌⊎◌, ◌+◌, ◌-◌, ◌/◌, ◌^◌, ◌++◌, true, length, List, Option, Some, None}
use Rattle.network_log.specs.Host.{Host}
use Rattle.network_server.specs.declared.server.ServerLoss.{ServerLoss}
use Rattle.network_server.specs.declared.server.ServerLoss.TheVariants.{Ended, Silent}
use Rattle.network_server.specs.declared.server.TheConstants.{QUIET, TRIES}

-- In turn:
--   host      what the network's log says of it
--   owed      what of that it was told isn't sent yet, the last bytes
--   bound     how many may be owed before its next line is taken
--   heard_at  when bytes came last, in milliseconds
--   loss      why nothing goes out any more, where that is so
--   tries     how often its next line was tried, and there was no memory
pub record ServerState : Type 0 where
  pub host : Host
  pub owed : List ℕ
  pub bound : ℕ
  pub heard_at : ℕ
  pub loss : Option ServerLoss
  pub tries : ℕ

-- bytes came over its connection at that moment
abbrev pub with_received : List ℕ → ℕ → ServerState → ServerState
with_received bytes now s = record s {
  host = record s.host { received = s.host.received ++ bytes };
  heard_at = now;
}

-- its next line was tried once more
abbrev pub tried_again : ServerState → ServerState
tried_again s = record s { tries = s.tries + 1 }

-- Its next line is given up: it was tried often enough, or no more lines can be counted. Nothing else changed.
pub record IsGivenUp (old new : ServerState) : Type 0 where
  pub is_enough : (TRIES ≤ old.tries + 1) ⊎ (old.host.heard ≡ 2 ^ 64 - 1)
  pub is_same : new ≡ record old { tries = new.tries }

-- a client's line is taken for it
abbrev pub HasCredit : ServerState → Type 0
HasCredit s = (s.loss ≡ None) × (length s.owed ≤ s.bound / 2)

-- nothing changed but what the log says, and what is owed
pub record StandsAsBefore (old new : ServerState) : Type 0 where
  pub bound : new.bound ≡ old.bound
  pub heard_at : new.heard_at ≡ old.heard_at
  pub loss : new.loss ≡ old.loss

-- It may be ended at that moment, and why. In turn: its session is over; nothing goes out any more; and nothing came for too long.
pub data MayEnd (s : ServerState) (now : ℕ) : ServerLoss → Type 0 where
  IsOver : s.host.session.is_closed ≡ true → MayEnd s now Ended
  IsLost : (loss : ServerLoss) → s.loss ≡ Some loss → MayEnd s now loss
  IsSilent : s.heard_at + QUIET ≤ now → MayEnd s now Silent
