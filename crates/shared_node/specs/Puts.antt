-- What a put leaves.
use Rattle.std.specs.Prelude.{◌≡◌, ℕ, ◌+◌, ◌^◌, ◌≤◌, List, ◌++◌, length, take}
use Rattle.chat_change.specs.declared.change.Change.{Change}
use Rattle.shared_node.specs.Log.{LogValue, total}
use Rattle.shared_node.specs.declared.faults.PutFault.{PutFault}
use Rattle.shared_node.specs.declared.faults.PutFault.TheVariants.{NoMemory, Waiting, Exhausted}
use Rattle.shared_node.specs.Lists.{under}

-- a refused put of these changes leaves the published list, and a prefix of the changes waits
abbrev pub LeavesWaiting : LogValue → ℕ → List Change → LogValue → PutFault → Type 0
LeavesWaiting old by changes new (NoMemory appended) =
    (appended ≤ length changes) × (new.published ≡ old.published)
    × (new.waiting ≡ old.waiting ++ under by (take appended changes))
LeavesWaiting old by changes new Waiting =
    (new.published ≡ old.published) × (new.waiting ≡ old.waiting ++ under by changes)
LeavesWaiting old by changes new Exhausted =
    (new ≡ old) × (2 ^ 64 ≤ total old + length changes)

-- how many of n changes a refused put appended
abbrev pub appended_of : ℕ → PutFault → ℕ
appended_of n (NoMemory appended) = appended
appended_of n Waiting = n
appended_of n Exhausted = 0
