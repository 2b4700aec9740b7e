-- That a call writes an answer.
use Rattle.std.specs.Prelude.{◌≡◌, ⊤, ℕ, List, Option, Result, Ok, Err}
use Rattle.std.specs.Io.KnownBytes.{Appends}
use Rattle.byte_text.specs.Writes.{AppendsPrefix}
use Rattle.chat_change.specs.declared.change.Change.{Change}
use Rattle.chat_history.specs.History.{History, norm}
use Rattle.chat_query.specs.Answers.{Answer}
use Rattle.chat_query.specs.declared.facts.Answered.{Answered}
use Rattle.chat_batch.specs.declared.answers.AnswerFault.{AnswerFault}
use Rattle.chat_batch.specs.declared.answers.AnswerFault.TheVariants.{NoMemory, Write}

-- at `Ok` the whole text was written, and the call says what the answer was; where the writer failed a prefix of the
-- text was written
abbrev pub WritesAnswer : {W : Type 0}
    → (W → Option (List ℕ)) → W → W → Result Answered AnswerFault → Answer → Type 0
WritesAnswer contents old new (Ok answered) answer =
    Appends (contents old) (contents new) answer.text × (answered ≡ answer.answered)
WritesAnswer contents old new (Err Write) answer = AppendsPrefix (contents old) (contents new) answer.text
WritesAnswer contents old new (Err NoMemory) answer = ⊤

-- the same of the answer from each set of changes that has this history
abbrev pub WritesAnswerFrom : {W : Type 0} → (W → Option (List ℕ)) → W → W → Result Answered AnswerFault
    → History → (List Change → Answer) → Type 0
WritesAnswerFrom contents old new result history answer =
    (changes : List Change) → history ≡ norm changes
    → WritesAnswer contents old new result (answer changes)

-- for want of memory the writer is as it was
abbrev pub IsUnwritten : {W : Type 0} → Result Answered AnswerFault → W → W → Type 0
IsUnwritten (Err NoMemory) old new = new ≡ old
IsUnwritten _ old new = ⊤
