-- What the node held of an account and its network.
use Rattle.std.specs.Prelude.{◌≡◌, Bool, true, List}
use Rattle.std.specs.List.{AllByRecursion}
use Rattle.chat_change.specs.declared.change.Change.{Change}
use Rattle.chat_query.specs.OwnPast.{is_own, own_past}
use Rattle.chat_query.specs.Scope.{Scope}
use Rattle.cluster_directory.specs.declared.config.SessionConfig.{SessionConfig}
use Rattle.network_log.specs.Facts.{NodeFacts}

abbrev pub scope_in : SessionConfig → Scope
scope_in config = record { account = config.account; network = config.network; maximum = 0 }

-- a node that is this one, but that held those changes at some moment
abbrev pub holding : (List Change → Type 0) → NodeFacts → NodeFacts
holding Held facts = record facts { held = Held }

-- all of them are changes of that account and network
abbrev pub AreOfNetwork : SessionConfig → List Change → Type 0
AreOfNetwork config changes = AllByRecursion (λ change. is_own (scope_in config) change ≡ true) changes

-- it is one of these
abbrev pub IsAmong : (List Change → Bool) → List Change → Type 0
IsAmong these changes = these changes ≡ true

-- for each set of the one there is one of the other with the same changes of that account and network
abbrev pub HasSameOf : SessionConfig → (List Change → Type 0) → (List Change → Type 0) → Type 0
HasSameOf config Held Other =
    (changes : List Change) → Held changes
    → (other : List Change) × Other other × (own_past (scope_in config) changes ≡ own_past (scope_in config) other)
