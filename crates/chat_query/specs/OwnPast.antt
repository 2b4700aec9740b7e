-- The past of one account on one network, which is all that its pages depend on.
use Rattle.std.specs.Prelude.{◌≡◌, ◌↔◌, Bool, true, Contains, List, filter}
use Rattle.chat_change.specs.declared.change.Change.{Change}
use Rattle.chat_change.specs.Extent.{Extent, OfAccount, OfBuffer}
use Rattle.chat_change.specs.Key.{key_extent, key_of}
use Rattle.chat_history.specs.Buffers.{is_of_network}
use Rattle.chat_history.specs.Retention.{same_account}
use Rattle.chat_query.specs.Scope.{Scope}

-- the extent is the scope's account, or one of its buffers on the network
abbrev pub is_own_extent : Scope → Extent → Bool
is_own_extent scope (OfAccount a) = same_account a scope.account
is_own_extent scope (OfBuffer b) = is_of_network scope.account scope.network b

-- the change is of a buffer of the scope's account and network, or a floor of the account
abbrev pub is_own : Scope → Change → Bool
is_own scope c = is_own_extent scope (key_extent (key_of c))

-- those of a set of changes
abbrev pub own_past : Scope → List Change → List Change
own_past scope changes = filter (is_own scope) changes

-- two sets have the same of those
abbrev pub SameOwnPast : Scope → List Change → List Change → Type 0
SameOwnPast scope a b = (c : Change) → is_own scope c ≡ true → Contains a c ↔ Contains b c
