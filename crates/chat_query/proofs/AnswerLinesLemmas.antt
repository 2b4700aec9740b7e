-- Each answer is lines that read back.
use Rattle.std.proofs.Common.{◌≡◌, ℕ, ◌+◌, ◌≤◌, ◌<◌, Bool, true, false, cond, List, [], ◌∷◌, length, map, min, codes, Option, None, Some, Result, Ok, Err, refl, ◌∙◌, subst, arith, length-append, lit<, lit≤}
use Rattle.std.specs.Prelude.{◌==◌, ◌&&◌, ◌||◌, Contains, IfSome, IfOk}
use Rattle.std.specs.Char.{to_ascii_uppercase}
use Rattle.std.specs.Str.{str_eq_ignore_ascii_case}
use Rattle.std.specs.List.{AllByRecursion, list_any}
use Rattle.std.proofs.lemmas.Bool.{and_parts}
use Rattle.std.proofs.lemmas.Bool.Decides.{nat_tests}
use Rattle.std.proofs.lemmas.List.{length-map}
use Rattle.std.proofs.lemmas.List.Elements.{All-contains, All-contains_itself, All-weaker, All-from_recursion, recursion_from_All}
use Rattle.byte_text.specs.Bytes.{begins_with, colon, ends_line, space}
use Rattle.irc_time.specs.Time.{greatest}
use Rattle.irc_line.specs.declared.line.TagLimit.{TagLimit}
use Rattle.irc_line.specs.declared.line.TagLimit.TheVariants.{Server}
use Rattle.irc_line.specs.Line.{Reading, Reads, HasNoSpace}
use Rattle.irc_line.specs.Text.{middles_text}
use Rattle.irc_line.specs.CanStand.{HasNoBadByte}
use Rattle.irc_line.specs.Lines.{AreLines}
use Rattle.irc_line.proofs.CallerLemmas.{no_lines, middle_from, read_parameters_whole}
use Rattle.irc_reply.specs.Echo.{echoed}
use Rattle.irc_reply.specs.Standing.{CanBeRefusal, IsWordTo, word_limit}
use Rattle.irc_reply.proofs.CallerLemmas.{unknown_line, fail_line, mark_line}
use Rattle.chat_change.specs.Words.{is_target}
use Rattle.chat_change.specs.Buffer.{Buffer, buffer_of}
use Rattle.chat_change.specs.Record.{Record}
use Rattle.chat_change.specs.Lawful.{IsLawfulRecord, IsLawfulChange}
use Rattle.chat_change.specs.declared.change.Change.{Change}
use Rattle.chat_change.specs.declared.change.Change.TheVariants.{Post, Mark}
use Rattle.chat_history.specs.History.{norm, mark}
use Rattle.chat_history.proofs.CallerLemmas.{mark_greatest}
use Rattle.chat_query.specs.Page.{Page, of_records, of_buffers, targets_cut, buffers_in, page_in, page}
use Rattle.chat_query.specs.Scope.{Scope}
use Rattle.chat_query.specs.Posted.{IsListed, IsOfTarget}
use Rattle.chat_query.specs.Parameters.{first_of, read_query}
use Rattle.chat_query.specs.declared.query.Query.{Query}
use Rattle.chat_query.specs.declared.query.Query.TheVariants.{Latest, Before, After, Around, Between, Targets}
use Rattle.chat_query.specs.declared.parameters.QueryFault.{QueryFault}
use Rattle.chat_query.specs.declared.parameters.QueryFault.TheVariants.{NeedMoreParams, UnknownCommand, InvalidTarget, InvalidMsgRef, InvalidParams}
use Rattle.chat_query.proofs.PostedLemmas.{page_posted}
use Rattle.chat_query.proofs.GivenLemmas.{HasGiven, second_of, query_given}
use Rattle.chat_query.proofs.WordLemmas.{target_word, echoed_word}
use Rattle.chat_query.proofs.ReferenceLemmas.{reference_stands}
use Rattle.chat_query.specs.declared.facts.Facts.{Facts}
use Rattle.chat_query.specs.Answers.{Answer, subcommand_of, context_of, word_of, given_of, code_of, reason_of, query_refusal, page_answer, page_or_unknown, query_or_refusal, history_answer, marker_refusal, asks_or_sets, marker_answer, marker_or_refusal, markread_answer, answer_of}
use Rattle.chat_query.specs.Buffers.{has_buffers, has_buffer, scope_of}
use Rattle.chat_query.specs.Reference.{reference_text}
use Rattle.chat_query.specs.Standing.{IsSoundSession, CanBeListed}
use Rattle.chat_query.proofs.LinesLemmas.{history_lines, targets_lines}

-- ---- what is taken from lawful changes

module _ (changes : List Change) (all : AllByRecursion IsLawfulChange changes) where
  lawful_post : (r : Record) → Contains changes (Post r) → IsLawfulRecord r
  lawful_post r m = All-contains IsLawfulChange changes (Post r) (All-from_recursion IsLawfulChange changes all) m

  lawful_records : (scope : Scope) (target : List ℕ) (rs : List Record) → IsOfTarget changes scope (Some target) (of_records rs) → AllByRecursion IsLawfulRecord rs
  lawful_records scope target rs posted =
      recursion_from_All IsLawfulRecord rs (All-weaker (Contains rs) IsLawfulRecord (λ r m. lawful_post r (posted r m).0) rs (All-contains_itself rs))

  lawful_listed : (scope : Scope) (e : ℕ × List ℕ) → IsListed changes scope e → CanBeListed e
  lawful_listed scope e listed =
      let r = lawful_post listed.0 listed.1.0 in
      (subst (λ t. t ≤ greatest) listed.2 r.at, subst (λ (b : Buffer). is_target b.target ≡ true) listed.1.1 r.buffer.target)

  lawful_buffers : (scope : Scope) (es : List (ℕ × List ℕ)) → IsOfTarget changes scope None (of_buffers es) → AllByRecursion CanBeListed es
  lawful_buffers scope es posted =
      recursion_from_All CanBeListed es (All-weaker (Contains es) CanBeListed (λ e m. lawful_listed scope e (posted e m)) es (All-contains_itself es))

  lawful_mark : (b : Buffer) (o : Option ℕ) → mark changes b ≡ o → IfSome o (λ t. t ≤ greatest)
  lawful_mark b None e = tt
  lawful_mark b (Some t) e =
      (All-contains IsLawfulChange changes (Mark b t) (All-from_recursion IsLawfulChange changes all) ((mark_greatest changes b t).0 e).0).1

-- ---- words that are repeated

upper_other : (c b : ℕ) → c < 65 → (to_ascii_uppercase b == c) ≡ (b == c)
upper_other c b h = grind (arith, nat_tests)

upper_space : (text : List ℕ) → HasNoSpace text → HasNoSpace (map to_ascii_uppercase text)
upper_space [] p = tt
upper_space (b ∷ text) p = (upper_other space b (lit< tt) ∙ p.0, upper_space text p.1)

upper_bad : (text : List ℕ) → list_any ends_line (map to_ascii_uppercase text) ≡ list_any ends_line text
upper_bad [] = refl
upper_bad (b ∷ text) = λ i. (upper_other 0 b (lit< tt) i || upper_other 10 b (lit< tt) i || upper_other 13 b (lit< tt) i) || upper_bad text i

upper_begins : (text : List ℕ) → begins_with colon (map to_ascii_uppercase text) ≡ begins_with colon text
upper_begins [] = refl
upper_begins (b ∷ text) = upper_other colon b (lit< tt)

upper_word : (most : ℕ) (text : List ℕ) → IsWordTo most text → IsWordTo most (map to_ascii_uppercase text)
upper_word most text is =
    let size = length-map text to_ascii_uppercase in
    let some = is.0.0 in
    let long = is.1 in
    ((omega arith, upper_begins text ∙ is.0.1, upper_space text is.0.2, upper_bad text ∙ is.0.3), omega arith)

subcommand_word : (word : List ℕ) → HasNoBadByte word → IsWordTo word_limit (subcommand_of word)
subcommand_word word good = upper_word word_limit (echoed word) (echoed_word word good)

-- ---- refusals

length-middles : (word : List ℕ) (words : List (List ℕ)) → length (middles_text (word ∷ words)) ≡ 1 + length word + length (middles_text words)
length-middles word words = omega (arith, length-append word (middles_text words))

code_word : (fault : QueryFault) → IsWordTo 18 (code_of fault)
code_word NeedMoreParams = (middle_from (codes "INVALID_PARAMS") refl, lit≤ tt)
code_word UnknownCommand = (middle_from (codes "INVALID_PARAMS") refl, lit≤ tt)
code_word InvalidTarget = (middle_from (codes "INVALID_TARGET") refl, lit≤ tt)
code_word InvalidMsgRef = (middle_from (codes "INVALID_MSGREFTYPE") refl, lit≤ tt)
code_word InvalidParams = (middle_from (codes "INVALID_PARAMS") refl, lit≤ tt)

reason_text : (fault : QueryFault) → HasNoBadByte (reason_of fault) × (length (reason_of fault) ≤ 30)
reason_text NeedMoreParams = (refl, lit≤ tt)
reason_text UnknownCommand = (refl, lit≤ tt)
reason_text InvalidTarget = (refl, lit≤ tt)
reason_text InvalidMsgRef = (refl, lit≤ tt)
reason_text InvalidParams = (refl, lit≤ tt)

can_refuse : (parameters : List (List ℕ)) → AllByRecursion HasNoBadByte parameters → (fault : QueryFault)
    → CanBeRefusal (codes "CHATHISTORY" ∷ code_of fault ∷ context_of (first_of parameters)) (reason_of fault)
can_refuse [] good fault =
    let code = code_word fault in
    let short = code.1 in
    let reason = reason_text fault in
    let few = reason.1 in
    let a = length-middles (codes "CHATHISTORY") (code_of fault ∷ []) in
    let b = length-middles (code_of fault) [] in
    record {
      words_stand = (middle_from (codes "CHATHISTORY") refl, (code.0, tt));
      text_stands = reason.0;
      count = lit≤ tt;
      size = omega arith;
    }
can_refuse (word ∷ more) good fault =
    let code = code_word fault in
    let short = code.1 in
    let reason = reason_text fault in
    let few = reason.1 in
    let sub = subcommand_word word good.0 in
    let long = sub.1 in
    let a = length-middles (codes "CHATHISTORY") (code_of fault ∷ subcommand_of word ∷ []) in
    let b = length-middles (code_of fault) (subcommand_of word ∷ []) in
    let c = length-middles (subcommand_of word) [] in
    record {
      words_stand = (middle_from (codes "CHATHISTORY") refl, (code.0, (sub.0, tt)));
      text_stands = reason.0;
      count = lit≤ tt;
      size = omega arith;
    }

can_miss : (word given : List ℕ) → HasNoBadByte word → is_target given ≡ true
    → CanBeRefusal (codes "CHATHISTORY" ∷ codes "MESSAGE_ERROR" ∷ subcommand_of word ∷ given ∷ []) (codes "No such message")
can_miss word given good t =
    let sub = subcommand_word word good in
    let long = sub.1 in
    let target = target_word given t in
    let longer = target.1 in
    let a = length-middles (codes "CHATHISTORY") (codes "MESSAGE_ERROR" ∷ subcommand_of word ∷ given ∷ []) in
    let b = length-middles (codes "MESSAGE_ERROR") (subcommand_of word ∷ given ∷ []) in
    let c = length-middles (subcommand_of word) (given ∷ []) in
    let d = length-middles given [] in
    record {
      words_stand = (middle_from (codes "CHATHISTORY") refl, (middle_from (codes "MESSAGE_ERROR") refl, (sub.0, (target.0, tt))));
      text_stands = refl;
      count = lit≤ tt;
      size = omega arith;
    }

-- ---- answers

-- lines within the limits of a server's
abbrev IsAnswer : Answer → Type 0
IsAnswer answer = AreLines Server answer.text

either : (b : Bool) (one other : Answer) → (b ≡ true → IsAnswer one) → IsAnswer other → IsAnswer (cond b one other)
either true one other p q = p refl
either false one other p q = q

word_good : (parameters : List (List ℕ)) → AllByRecursion HasNoBadByte parameters → HasNoBadByte (word_of parameters)
word_good [] good = refl
word_good (word ∷ more) good = good.0

second_is : (parameters : List (List ℕ)) → second_of parameters ≡ given_of parameters
second_is [] = refl
second_is (word ∷ []) = refl
second_is (word ∷ given ∷ more) = refl

module _ (changes : List Change) (facts : Facts) (all : AllByRecursion IsLawfulChange changes) (sound : IsSoundSession facts) where
  refusal_lines : (parameters : List (List ℕ)) → AllByRecursion HasNoBadByte parameters → (fault : QueryFault) → IsAnswer (query_refusal facts parameters fault)
  refusal_lines parameters good fault =
      fail_line Server facts.cluster sound.cluster (codes "CHATHISTORY") (code_of fault) (context_of (first_of parameters)) (reason_of fault) (can_refuse parameters good fault)

  -- a page of a target
  page_lines : (given : List ℕ) → is_target given ≡ true → (target : List ℕ) (p : Page) → IsOfTarget changes (scope_of facts) (Some target) p → IsAnswer (page_answer facts given p)
  page_lines given t target (of_records rs) posted =
      history_lines facts.cluster (reference_text facts.reference) sound.cluster (reference_stands facts.reference sound.reference) facts.caps given rs t (lawful_records changes all (scope_of facts) target rs posted)
  page_lines given t target (of_buffers es) posted = absurd posted

  listing_lines : (given : List ℕ) (es : List (ℕ × List ℕ)) → IsOfTarget changes (scope_of facts) None (of_buffers es) → IsAnswer (page_answer facts given (of_buffers es))
  listing_lines given es posted =
      targets_lines Server facts.cluster (reference_text facts.reference) sound.cluster (reference_stands facts.reference sound.reference) facts.caps es (lawful_buffers changes all (scope_of facts) es posted)

  module _ (parameters : List (List ℕ)) (good : AllByRecursion HasNoBadByte parameters) where
    either_page : is_target (given_of parameters) ≡ true → (target : List ℕ) (o : Option Page) → IfSome o (IsOfTarget changes (scope_of facts) (Some target)) → IsAnswer (page_or_unknown facts parameters o)
    either_page t target None posted =
        fail_line Server facts.cluster sound.cluster (codes "CHATHISTORY") (codes "MESSAGE_ERROR") (subcommand_of (word_of parameters) ∷ given_of parameters ∷ []) (codes "No such message")
        (can_miss (word_of parameters) (given_of parameters) (word_good parameters good) t)
    either_page t target (Some p) posted = page_lines (given_of parameters) t target p posted

    found_lines : (query : Query) → HasGiven (given_of parameters) query → IsAnswer (page_or_unknown facts parameters (page changes (scope_of facts) query))
    unfolding page_in
    found_lines (Latest target s n) t = either_page t target (page changes (scope_of facts) (Latest target s n)) (page_posted changes (scope_of facts) (Latest target s n))
    found_lines (Before target s n) t = either_page t target (page changes (scope_of facts) (Before target s n)) (page_posted changes (scope_of facts) (Before target s n))
    found_lines (After target s n) t = either_page t target (page changes (scope_of facts) (After target s n)) (page_posted changes (scope_of facts) (After target s n))
    found_lines (Around target s n) t = either_page t target (page changes (scope_of facts) (Around target s n)) (page_posted changes (scope_of facts) (Around target s n))
    found_lines (Between target s u n) t = either_page t target (page changes (scope_of facts) (Between target s u n)) (page_posted changes (scope_of facts) (Between target s u n))
    found_lines (Targets s u n) t = listing_lines (given_of parameters) (targets_cut (min n facts.maximum) s u (buffers_in (norm changes) (scope_of facts))) (page_posted changes (scope_of facts) (Targets s u n))

    query_lines : (r : Result Query QueryFault) → IfOk r (HasGiven (given_of parameters)) → IsAnswer (query_or_refusal changes facts parameters r)
    query_lines (Ok query) t = either (has_buffers facts) _ _ (λ _. found_lines query t) (refusal_lines parameters good InvalidTarget)
    query_lines (Err fault) t = refusal_lines parameters good fault

    history_answered : IsAnswer (history_answer changes facts parameters)
    history_answered =
        either facts.caps.chathistory _ _
        (λ _. query_lines (read_query parameters) (subst (λ g. IfOk (read_query parameters) (HasGiven g)) (second_is parameters) (query_given parameters)))
        (unknown_line Server facts.cluster sound.cluster facts.nick (codes "CHATHISTORY") sound.nick (middle_from (codes "CHATHISTORY") refl, lit≤ tt))

  -- ---- markers

  missing_lines : IsAnswer (marker_refusal facts (codes "NEED_MORE_PARAMS") (codes "Missing parameters"))
  missing_lines =
      fail_line Server facts.cluster sound.cluster (codes "MARKREAD") (codes "NEED_MORE_PARAMS") [] (codes "Missing parameters")
      (record { words_stand = (middle_from (codes "MARKREAD") refl, (middle_from (codes "NEED_MORE_PARAMS") refl, tt)); text_stands = refl; count = lit≤ tt; size = lit≤ tt })

  invalid_lines : IsAnswer (marker_refusal facts (codes "INVALID_PARAMS") (codes "Invalid parameters"))
  invalid_lines =
      fail_line Server facts.cluster sound.cluster (codes "MARKREAD") (codes "INVALID_PARAMS") [] (codes "Invalid parameters")
      (record { words_stand = (middle_from (codes "MARKREAD") refl, (middle_from (codes "INVALID_PARAMS") refl, tt)); text_stands = refl; count = lit≤ tt; size = lit≤ tt })

  marker_lines : (given : List ℕ) → is_target given ≡ true → IsAnswer (marker_answer changes facts given)
  marker_lines given t =
      let b = buffer_of facts.account facts.network given in
      mark_line Server facts.cluster given (mark changes b) sound.cluster (target_word given t) (lawful_mark changes all b (mark changes b) refl)

  marker_answered : (parameters : List (List ℕ)) → IsAnswer (marker_or_refusal changes facts parameters)
  marker_answered [] = missing_lines
  marker_answered (given ∷ more) =
      either (asks_or_sets more && has_buffer facts given) _ _
      (λ e. marker_lines given (and_parts (has_buffers facts) (is_target given) (and_parts (asks_or_sets more) (has_buffer facts given) e).1).1) invalid_lines

  markread_answered : (parameters : List (List ℕ)) → IsAnswer (markread_answer changes facts parameters)
  markread_answered parameters =
      either facts.caps.read_marker _ _ (λ _. marker_answered parameters)
      (unknown_line Server facts.cluster sound.cluster facts.nick (codes "MARKREAD") sound.nick (middle_from (codes "MARKREAD") refl, lit≤ tt))

  pub answer_lines : (line : Reading) → AllByRecursion HasNoBadByte line.parameters → IsAnswer (answer_of changes facts line)
  answer_lines line good =
      either (str_eq_ignore_ascii_case line.command (codes "CHATHISTORY")) _ _ (λ _. history_answered line.parameters good)
      (either (str_eq_ignore_ascii_case line.command (codes "MARKREAD")) _ _ (λ _. markread_answered line.parameters) (no_lines Server))

pub read_answer_lines : (limit : TagLimit) (changes : List Change) (facts : Facts) (bytes : List ℕ) (line : Reading) → AllByRecursion IsLawfulChange changes → IsSoundSession facts
    → Reads limit bytes line → AreLines Server (answer_of changes facts line).text
read_answer_lines limit changes facts bytes line all sound reads = answer_lines changes facts all sound line (read_parameters_whole limit bytes line reads)
