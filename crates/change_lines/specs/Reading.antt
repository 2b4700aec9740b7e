-- What the code answers for the parts of a line.
use Rattle.std.specs.Prelude.{ℕ, ◌≡◌, Bool, Option, Result, Ok, Err, None, if◌then◌else◌}
use Rattle.chat_change.specs.Buffer.{Buffer}
use Rattle.chat_change.specs.declared.change.Change.{Change}
use Rattle.change_lines.specs.ChangeLine.{or_bad_field, fault_or_no_memory}
use Rattle.change_lines.specs.declared.fault.ChangeLineFault.{ChangeLineFault}
use Rattle.change_lines.specs.declared.fault.ChangeLineFault.TheVariants.{BadForm}

-- the change that the line spells; or why it spells none, or that there was no memory for one that it spells
abbrev pub IsAnswer : Result Change ChangeLineFault → Result Change ChangeLineFault → Type 0
IsAnswer told (Ok change) = told ≡ Ok change
IsAnswer told (Err fault) = fault ≡ fault_or_no_memory told

-- what fields say of which the form is checked first, and then the names of the buffer
abbrev pub checked : Bool → Bool → Option Change → Result Change ChangeLineFault
checked form names change =
    if form then or_bad_field (if names then change else None) else Err BadForm

-- the change that is made of a buffer and a moment; or why there are none
abbrev pub made_or_fault : (Buffer → ℕ → Change) → Result (Buffer × ℕ) ChangeLineFault → Result Change ChangeLineFault
made_or_fault make (Ok found) = Ok (make found.0 found.1)
made_or_fault make (Err fault) = Err fault
