-- Answers of sets of one normal form.
use Rattle.std.proofs.Common.{◌≡◌, ℕ, cond, List, [], ◌∷◌, Result, Ok, Err, codes, refl, sym, ap, ◌∙◌}
use Rattle.std.specs.Prelude.{◌&&◌}
use Rattle.std.specs.Str.{str_eq_ignore_ascii_case}
use Rattle.irc_line.specs.Line.{Reading}
use Rattle.irc_reply.specs.Reply.{mark_text}
use Rattle.chat_change.specs.Buffer.{Buffer, buffer_of}
use Rattle.chat_change.specs.declared.change.Change.{Change}
use Rattle.chat_history.specs.History.{norm, changes_of, mark}
use Rattle.chat_history.proofs.CallerLemmas.{mark-norm}
use Rattle.chat_query.specs.Parameters.{read_query}
use Rattle.chat_query.specs.Page.{page_in}
use Rattle.chat_query.specs.declared.query.Query.{Query}
use Rattle.chat_query.specs.declared.parameters.QueryFault.{QueryFault}
use Rattle.chat_query.specs.declared.parameters.QueryFault.TheVariants.{InvalidTarget}
use Rattle.chat_query.specs.Answers.{plain, unknown, query_refusal, page_or_unknown, query_or_refusal, history_answer, marker_refusal, asks_or_sets, marker_or_refusal, answer_of}
use Rattle.chat_query.specs.Buffers.{has_buffers, has_buffer, scope_of}
use Rattle.chat_query.specs.declared.facts.Facts.{Facts}
use Rattle.chat_query.specs.declared.facts.Answered.TheVariants.{NotAQuery}

module _ (a b : List Change) (e : norm a ≡ norm b) (facts : Facts) where
  same_mark : (x : Buffer) → mark a x ≡ mark b x
  same_mark x = sym (mark-norm a x) ∙ ap (λ h. mark (changes_of h) x) e ∙ mark-norm b x

  same_query : (parameters : List (List ℕ)) (r : Result Query QueryFault) → query_or_refusal a facts parameters r ≡ query_or_refusal b facts parameters r
  same_query parameters (Ok query) = λ i. cond (has_buffers facts) (page_or_unknown facts parameters (page_in (e i) (scope_of facts) query)) (query_refusal facts parameters InvalidTarget)
  same_query parameters (Err fault) = refl

  same_history : (parameters : List (List ℕ)) → history_answer a facts parameters ≡ history_answer b facts parameters
  same_history parameters = λ i. cond facts.caps.chathistory (same_query parameters (read_query parameters) i) (unknown facts (codes "CHATHISTORY"))

  same_marker : (parameters : List (List ℕ)) → marker_or_refusal a facts parameters ≡ marker_or_refusal b facts parameters
  same_marker [] = refl
  same_marker (given ∷ more) = λ i. cond (asks_or_sets more && has_buffer facts given) (plain (mark_text facts.cluster given (same_mark (buffer_of facts.account facts.network given) i)))
      (marker_refusal facts (codes "INVALID_PARAMS") (codes "Invalid parameters"))

  pub same_answer : (line : Reading) → answer_of a facts line ≡ answer_of b facts line
  same_answer line = λ i. cond (str_eq_ignore_ascii_case line.command (codes "CHATHISTORY")) (same_history line.parameters i)
      (cond (str_eq_ignore_ascii_case line.command (codes "MARKREAD"))
      (cond facts.caps.read_marker (same_marker line.parameters i) (unknown facts (codes "MARKREAD")))
      (record { text = []; answered = NotAQuery }))
