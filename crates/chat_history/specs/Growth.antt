-- What a source or a taker holds after a call, where others may have given it more meanwhile.
use Rattle.std.specs.Prelude.{ℕ, List, ◌++◌}
use Rattle.chat_change.specs.declared.change.Change.{Change}

-- Of whatever list it held, others may have added to it before, and then this holds of the number at
-- which the list begins and of the whole list.
abbrev pub AfterOthers : {S : Type 0} → (S → ℕ → List Change → Type 0)
    → (S → List Change → Type 0) → S → (ℕ → List Change → Type 0) → Type 0
AfterOthers holds may_add old Then =
    (start : ℕ) (list : List Change) → holds old start list
    → (others : List Change) × may_add old others × Then start (list ++ others)
