-- What is of an account and its network.
use Rattle.std.specs.Prelude.{ℕ, ◌≡◌, List, Some, slice_get}
use Rattle.std.specs.List.{AllByRecursion}
use Rattle.chat_change.specs.Buffer.{Buffer}
use Rattle.chat_change.specs.declared.change.Change.{Change}
use Rattle.chat_change.specs.declared.change.Change.TheVariants.{Post, Redact, Mark}
use Rattle.cluster_directory.specs.declared.config.SessionConfig.{SessionConfig}
use Rattle.client_session.specs.declared.effect.Effect.{Effect}
use Rattle.client_session.specs.declared.effect.Effect.TheVariants.{Put}
use Rattle.network_log.specs.Facts.{NodeFacts}

abbrev pub IsIn : SessionConfig → Buffer → Type 0
IsIn config buffer = (buffer.account ≡ config.account) × (buffer.network ≡ config.network)

-- a read marker of the account and the network
abbrev pub IsMarkIn : SessionConfig → Change → Type 0
IsMarkIn config (Mark buffer at) = IsIn config buffer
IsMarkIn config _ = ⊥

-- where a client's session puts a change, it is such a marker
abbrev pub PutsOwnMark : SessionConfig → Effect → Type 0
PutsOwnMark config (Put change) = IsMarkIn config change
PutsOwnMark config _ = Unit {0}

-- a message, a redaction or a read marker of the account and the network
abbrev pub IsChangeIn : SessionConfig → Change → Type 0
IsChangeIn config (Post r) = IsIn config r.buffer
IsChangeIn config (Redact buffer id at) = IsIn config buffer
IsChangeIn config (Mark buffer at) = IsIn config buffer
IsChangeIn config _ = ⊥

-- The network at that place is one of this node's configuration, and all these changes are of it.
pub record AreForItsAccount (facts : NodeFacts) (place : ℕ) (changes : List Change) : Type 0 where
  pub config : SessionConfig
  pub is_configured : slice_get facts.accounts.networks place ≡ Some config
  pub are_own : AllByRecursion (IsChangeIn config) changes
