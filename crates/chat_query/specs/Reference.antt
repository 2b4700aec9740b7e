-- References of batches (IRCv3 batch): a session numbers its batches from 1.
use Rattle.std.specs.Prelude.{ℕ, ◌+◌, ◌==◌, List, ◌++◌, codes, if◌then◌else◌}
use Rattle.std.specs.Fmt.{decimal}
use Rattle.chat_query.specs.declared.facts.Answered.{Answered}
use Rattle.chat_query.specs.declared.facts.Answered.TheVariants.{Batch}

abbrev pub greatest_reference : ℕ
greatest_reference = 4294967295

abbrev pub reference_text : ℕ → List ℕ
reference_text n = codes "r" ++ decimal n

-- after the greatest number comes 1 again
abbrev pub after_reference : ℕ → ℕ
after_reference n = if n == greatest_reference then 1 else n + 1

-- only an answer that opens a batch uses up a number
abbrev pub after_answer : Answered → ℕ → ℕ
after_answer Batch n = after_reference n
after_answer _ n = n
