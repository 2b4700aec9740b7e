-- What is kept, and when a packet is acknowledged.
use Rattle.std.specs.Prelude.{ℕ, List, ◌++◌, ⊤}
use Rattle.block_file.specs.declared.device.Device.{Ghosts}
use Rattle.chat_change.specs.declared.change.Change.{Change}
use Rattle.chat_history.specs.StateValue.{StateValue}
use Rattle.keeper.specs.Keeper.{HasTaken}
use Rattle.bnc_keep.specs.declared.kept.Kept.{Kept}
use Rattle.bnc_keep.specs.declared.kept.Kept.TheVariants.{Open, LetGo}

-- the state
abbrev pub state_in : {D : Type 0} {g : Ghosts D} → Kept D g → StateValue
state_in (Open begun) = begun.keeper.state
state_in (LetGo state terms) = state

-- the number of the life
abbrev pub life_in : {D : Type 0} {g : Ghosts D} → Kept D g → ℕ
life_in (Open begun) = begun.keeper.life
life_in (LetGo state terms) = terms.value.me.incarnation

-- the file is let go
abbrev pub IsLetGo : {D : Type 0} {g : Ghosts D} → Kept D g → Type 0
IsLetGo (Open begun) = ⊥
IsLetGo (LetGo state terms) = ⊤

-- The file is open, and the keeper that had taken a list has taken these changes too: they are in the state, and whatever a crash
-- at this moment may leave says them.
abbrev pub IsAcknowledged : {D : Type 0} {g : Ghosts D} → (D → List ℕ) → (D → List ℕ → Type 0) → Kept D g → Kept D g → List Change → Type 0
IsAcknowledged seen may_leave (Open old) (Open new) changes =
    (start : ℕ) (list : List Change) → HasTaken seen may_leave old.keeper start list
    → HasTaken seen may_leave new.keeper start (list ++ changes)
IsAcknowledged seen may_leave _ _ changes = ⊥
