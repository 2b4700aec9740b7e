-- Answers depend on the changes of the asker's account and network alone.
use Rattle.std.proofs.Common.{◌≡◌, ℕ, cond, List, [], ◌∷◌, Result, Ok, Err, codes, refl, sym, ◌∙◌}
use Rattle.std.specs.Prelude.{◌&&◌}
use Rattle.std.specs.Str.{str_eq_ignore_ascii_case}
use Rattle.irc_line.specs.Line.{Reading}
use Rattle.irc_reply.specs.Reply.{mark_text}
use Rattle.chat_change.specs.Words.{lower_case_of}
use Rattle.chat_change.specs.declared.change.Change.{Change}
use Rattle.chat_history.specs.History.{norm}
use Rattle.chat_query.specs.Parameters.{read_query}
use Rattle.chat_query.specs.Page.{page}
use Rattle.chat_query.specs.OwnPast.{own_past, SameOwnPast}
use Rattle.chat_query.specs.declared.query.Query.{Query}
use Rattle.chat_query.specs.declared.parameters.QueryFault.{QueryFault}
use Rattle.chat_query.specs.declared.parameters.QueryFault.TheVariants.{InvalidTarget}
use Rattle.chat_query.proofs.OwnPastLemmas.{own_page, own_mark, same_own}
use Rattle.chat_query.specs.Answers.{plain, unknown, query_refusal, page_or_unknown, query_or_refusal, history_answer, marker_of, marker_refusal, asks_or_sets, marker_or_refusal, answer_of}
use Rattle.chat_query.specs.Buffers.{has_buffers, has_buffer, scope_of}
use Rattle.chat_query.specs.declared.facts.Facts.{Facts}
use Rattle.chat_query.specs.declared.facts.Answered.TheVariants.{NotAQuery}
use Rattle.chat_query.proofs.AnswerLemmas.{same_answer}

-- ---- sets with equal pages and equal markers

module _ (a b : List Change) (facts : Facts) (pages : (query : Query) → page a (scope_of facts) query ≡ page b (scope_of facts) query) (marks : (given : List ℕ) → marker_of a facts given ≡ marker_of b facts given) where
  alike_query : (parameters : List (List ℕ)) (r : Result Query QueryFault) → query_or_refusal a facts parameters r ≡ query_or_refusal b facts parameters r
  alike_query parameters (Ok query) = λ i. cond (has_buffers facts) (page_or_unknown facts parameters (pages query i)) (query_refusal facts parameters InvalidTarget)
  alike_query parameters (Err fault) = refl

  alike_history : (parameters : List (List ℕ)) → history_answer a facts parameters ≡ history_answer b facts parameters
  alike_history parameters = λ i. cond facts.caps.chathistory (alike_query parameters (read_query parameters) i) (unknown facts (codes "CHATHISTORY"))

  alike_marker : (parameters : List (List ℕ)) → marker_or_refusal a facts parameters ≡ marker_or_refusal b facts parameters
  alike_marker [] = refl
  alike_marker (given ∷ more) = λ i. cond (asks_or_sets more && has_buffer facts given) (plain (mark_text facts.cluster given (marks given i)))
      (marker_refusal facts (codes "INVALID_PARAMS") (codes "Invalid parameters"))

  alike_answer : (line : Reading) → answer_of a facts line ≡ answer_of b facts line
  alike_answer line = λ i. cond (str_eq_ignore_ascii_case line.command (codes "CHATHISTORY")) (alike_history line.parameters i)
      (cond (str_eq_ignore_ascii_case line.command (codes "MARKREAD"))
      (cond facts.caps.read_marker (alike_marker line.parameters i) (unknown facts (codes "MARKREAD")))
      (record { text = []; answered = NotAQuery }))

-- ---- the own past alone

pub own_answer : (changes : List Change) (facts : Facts) (line : Reading) → answer_of (own_past (scope_of facts) changes) facts line ≡ answer_of changes facts line
own_answer changes facts line =
    alike_answer (own_past (scope_of facts) changes) changes facts (own_page (scope_of facts) changes) (λ given. own_mark (scope_of facts) changes (lower_case_of given)) line

module _ (a b : List Change) (facts : Facts) where
  pub agreeing_answer : norm (own_past (scope_of facts) a) ≡ norm (own_past (scope_of facts) b) → (line : Reading) → answer_of a facts line ≡ answer_of b facts line
  agreeing_answer e line = sym (own_answer a facts line) ∙ same_answer (own_past (scope_of facts) a) (own_past (scope_of facts) b) e facts line ∙ own_answer b facts line

  pub same_own_answer : SameOwnPast (scope_of facts) a b → (line : Reading) → answer_of a facts line ≡ answer_of b facts line
  same_own_answer same line = agreeing_answer (same_own (scope_of facts) a b same) line
