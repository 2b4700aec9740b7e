-- Refusals of parts that were found, and what a call that writes an answer leaves.
use Rattle.std.proofs.Common.{◌≡◌, ℕ, List, [], ◌∷◌, Option, Some, None, Result, Ok, Err, codes, sym, ap, subst}
use Rattle.std.specs.Prelude.{IfOk}
use Rattle.byte_text.specs.Writes.{AppendsPrefix, WritesKnown}
use Rattle.byte_text.proofs.CallerLemmas.{prefix_none}
use Rattle.chat_query.specs.declared.parameters.QueryFault.{QueryFault}
use Rattle.chat_query.specs.Answers.{Answer, fail, subcommand_of, code_of, reason_of, refusal_about, unknown_message}
use Rattle.chat_query.specs.declared.facts.Facts.{Facts}
use Rattle.chat_batch.specs.WritesAnswer.{WritesAnswer, IsUnwritten}
use Rattle.chat_query.specs.declared.facts.Answered.{Answered}
use Rattle.chat_batch.specs.declared.answers.AnswerFault.{AnswerFault}
use Rattle.chat_batch.specs.declared.answers.AnswerFault.TheVariants.{NoMemory, Write}

-- ---- refusals of parts that were found

pub selector_refused : (facts : Facts) (word given told : List ℕ) → told ≡ subcommand_of word
    → fail facts (codes "CHATHISTORY") (codes "MESSAGE_ERROR") (told ∷ given ∷ []) (codes "No such message") ≡ unknown_message facts word given
selector_refused facts word given told e = ap (λ l. fail facts (codes "CHATHISTORY") (codes "MESSAGE_ERROR") (l ∷ given ∷ []) (codes "No such message")) e

pub subcommand_refused : (facts : Facts) (word : List ℕ) (fault : QueryFault) (code told reason : List ℕ) → code ≡ code_of fault → told ≡ subcommand_of word → reason ≡ reason_of fault
    → fail facts (codes "CHATHISTORY") code (told ∷ []) reason ≡ refusal_about facts (Some word) fault
subcommand_refused facts word fault code told reason d e f = λ i. fail facts (codes "CHATHISTORY") (d i) (e i ∷ []) (f i)

pub bare_refused : (facts : Facts) (fault : QueryFault) (code reason : List ℕ) → code ≡ code_of fault → reason ≡ reason_of fault
    → fail facts (codes "CHATHISTORY") code [] reason ≡ refusal_about facts None fault
bare_refused facts fault code reason d f = λ i. fail facts (codes "CHATHISTORY") (d i) [] (f i)

-- ---- what a call leaves

pub written_text : {W : Type 0} (contents : W → Option (List ℕ)) (old new : W) (r : Result Answered AnswerFault) (answer : Answer)
    → WritesAnswer contents old new r answer → IsUnwritten r old new → WritesKnown (contents old) (contents new) r answer.text
written_text contents old new (Ok a) answer g u = g.0
written_text contents old new (Err Write) answer g u = g
written_text contents old new (Err NoMemory) answer g u = subst (λ w. AppendsPrefix (contents old) (contents w) answer.text) (sym u) (prefix_none (contents old) answer.text)

pub written_answered : {W : Type 0} (contents : W → Option (List ℕ)) (old new : W) (r : Result Answered AnswerFault) (answer : Answer)
    → WritesAnswer contents old new r answer → IfOk r (λ a. a ≡ answer.answered)
written_answered contents old new (Ok a) answer g = g.1
written_answered contents old new (Err e) answer g = tt

pub is_unwritten : {W : Type 0} (old new : W) (r : Result Answered AnswerFault) → IsUnwritten r old new → r ≡ Err NoMemory → new ≡ old
is_unwritten old new (Ok a) u e = cc
is_unwritten old new (Err Write) u e = cc
is_unwritten old new (Err NoMemory) u e = u
