-- The line of a post behind the names of its buffer: its words are read as the post, and fields that say a post are its
-- words. What a post has is spelled here alone.
use Rattle.std.proofs.Common.{◌≡◌, ℕ, Bool, true, false, not, ◌&&◌, ◌||◌, cond, Option, Some, None, List, [], ◌∷◌, ◌++◌, codes, drop, refl, sym, ◌∙◌, ap, subst, arith}
use Rattle.std.specs.Prelude.{decimal}
use Rattle.std.proofs.lemmas.Bool.{false≢true, eqb-true}
use Rattle.std.proofs.lemmas.Bool.Decides.{nat_tests}
use Rattle.byte_text.specs.Bytes.{begins_with}
use Rattle.chat_change.specs.Words.{is_id}
use Rattle.chat_change.specs.Buffer.{Buffer, IsLawfulBuffer}
use Rattle.chat_change.specs.Faults.{is_message}
use Rattle.chat_change.specs.Lawful.{IsLawfulRecord}
use Rattle.chat_change.specs.Message.{kind_letter}
use Rattle.chat_change.specs.Record.{Record}
use Rattle.chat_change.specs.declared.message.Kind.{Kind}
use Rattle.chat_change.specs.declared.message.Kind.TheVariants.{Privmsg, Notice}
use Rattle.chat_change.proofs.CallerLemmas.{is_message-lawful}
use Rattle.change_lines.specs.Words.{is_text, has_space, is_filled, word, behind, words_text}
use Rattle.change_lines.specs.Moment.{moment_of}
use Rattle.change_lines.specs.PostLine.{PostFields, post_fields, tags_word, behind_tags, has_post_form, message_kind, may_be_tags, post_of, has_lawful_parts, post_with, post_in, tags_words, front_words, back_words, post_words}
use Rattle.change_lines.proofs.TestLemmas.{left, right, text_is, unfilled, target_has_no_space, target_is_filled, id_has_no_space, id_is_filled, tags_have_no_space, tags_pass, tags_that_pass}
use Rattle.change_lines.proofs.NumberLemmas.{decimal_filled, decimal_no_space, moment_fits, moment_read, moment_is}
use Rattle.change_lines.proofs.WordsLemmas.{HaveNoSpace, words_cut, last_cut, word_first, behind_first, words_more, filled_words, filled_before, words_rejoined}

-- ---- what is written is read

module _ (tags : List ℕ) (bare : has_space tags ≡ false) (more : List (List ℕ)) (last : List ℕ) where
  tags_read : tags_word (is_filled tags) (words_text (tags_words tags ++ more) ++ last) ≡ tags
  tags_read =
      elim (is_filled tags) as (λ t. is_filled tags ≡ t → tags_word t (words_text (cond t (tags ∷ []) [] ++ more) ++ last) ≡ tags) [
        | true ↦ λ _. word_first last tags more bare
        | false ↦ λ e. sym (unfilled tags e)
      ] refl

  tags_passed : behind_tags (is_filled tags) (words_text (tags_words tags ++ more) ++ last) ≡ words_text more ++ last
  tags_passed =
      elim (is_filled tags) as (λ t. behind_tags t (words_text (cond t (tags ∷ []) [] ++ more) ++ last) ≡ words_text more ++ last) [
        | true ↦ behind_first last tags more bare
        | false ↦ refl
      ]

kind_read : (k : Kind) → message_kind (kind_letter k ∷ []) ≡ Some k
kind_read Privmsg = refl
kind_read Notice = refl

letter_bare : (k : Kind) → has_space (kind_letter k ∷ []) ≡ false
letter_bare Privmsg = refl
letter_bare Notice = refl

some_if_so : (t : Bool) → (not t || t) ≡ true
some_if_so true = refl
some_if_so false = refl

module _ (r : Record) (h : IsLawfulRecord r) where
  abbrev line_rest : List ℕ
  line_rest = words_text (post_words r) ++ (58 ∷ r.message.body)

  abbrev fields_of : PostFields
  fields_of = record {
    id = r.id;
    at = decimal r.at;
    kind = kind_letter r.message.kind ∷ [];
    tags = r.tags;
    to = r.message.target;
    source = r.message.source;
    body = 58 ∷ r.message.body;
  }

  fields_read : post_fields (is_filled r.tags) line_rest ≡ fields_of
  fields_read =
      let m = r.message in
      let last = 58 ∷ m.body in
      let front = front_words r in
      let end = back_words r in
      let front_bare : HaveNoSpace front = (id_has_no_space r.id h.id, (decimal_no_space r.at (moment_fits r.at h.at), (letter_bare m.kind, tt))) in
      let end_bare : HaveNoSpace end = (target_has_no_space m.target h.message.lawful_target, (id_has_no_space m.source h.message.lawful_source, tt)) in
      let bare = tags_have_no_space r.tags h.tags in
      let front_words = words_cut last front (tags_words r.tags ++ end) front_bare in
      let behind_front = last_cut last front (tags_words r.tags ++ end) front_bare in
      let end_words = words_cut last end [] end_bare in
      let behind_end = last_cut last end [] end_bare in
      let id : word line_rest ≡ r.id = cc front_words in
      let at : word (behind line_rest) ≡ decimal r.at = cc front_words in
      let kind : word (behind (behind line_rest)) ≡ kind_letter m.kind ∷ [] = cc front_words in
      let tags = ap (tags_word (is_filled r.tags)) behind_front ∙ tags_read r.tags bare end last in
      let passed = ap (behind_tags (is_filled r.tags)) behind_front ∙ tags_passed r.tags bare end last in
      let target : word (words_text end ++ last) ≡ m.target = cc end_words in
      let source : word (behind (words_text end ++ last)) ≡ m.source = cc end_words in
      let to = ap word passed ∙ target in
      let from = ap (λ l. word (behind l)) passed ∙ source in
      let body = ap (λ l. behind (behind l)) passed ∙ behind_end in
      λ i. record { id = id i; at = at i; kind = kind i; tags = tags i; to = to i; source = from i; body = body i }

  fields_have_form : has_post_form (is_filled r.tags) fields_of ≡ true
  fields_have_form =
      let id = id_is_filled r.id h.id in
      let at = decimal_filled r.at (moment_fits r.at h.at) in
      let tags = some_if_so (is_filled r.tags) in
      let to = target_is_filled r.message.target h.message.lawful_target in
      let source = id_is_filled r.message.source h.message.lawful_source in
      λ i. id i && at i && true && tags i && to i && source i && true

  fields_say_it : post_in r.buffer fields_of ≡ Some r
  fields_say_it =
      let kind = kind_read r.message.kind in
      let at = moment_read r.at h.at in
      let id = h.id in
      let tags = tags_pass r.tags h.tags in
      let message = (is_message-lawful r.message).1 h.message in
      (λ i. post_with r.buffer fields_of (kind i) (at i)) ∙ (λ i. cond (id i && tags i && message i) (Some r) None)

  module _ (is_tagged : Bool) (told : is_filled r.tags ≡ is_tagged) where
    fields_are : post_fields is_tagged line_rest ≡ fields_of
    fields_are = ap (λ t. post_fields t line_rest) (sym told) ∙ fields_read

    pub form_read : has_post_form is_tagged (post_fields is_tagged line_rest) ≡ true
    form_read = ap (has_post_form is_tagged) fields_are ∙ ap (λ t. has_post_form t fields_of) (sym told) ∙ fields_have_form

    pub post_in_read : post_in r.buffer (post_fields is_tagged line_rest) ≡ Some r
    post_in_read = ap (post_in r.buffer) fields_are ∙ fields_say_it

-- ---- what is read is what is written

-- the words of a post of that buffer stand there, and its parts are lawful
pub record IsPostLine (tagged : Bool) (rest : List ℕ) (b : Buffer) (r : Record) : Type 0 where
  pub is_tagged : is_filled r.tags ≡ tagged
  pub filled : is_filled rest ≡ true
  pub spelled : rest ≡ words_text (post_words r) ++ (58 ∷ r.message.body)
  pub buffer : r.buffer ≡ b
  pub lawful : IsLawfulBuffer b → IsLawfulRecord r

some_of : (t : Bool) (r s : Record) → cond t (Some r) None ≡ Some s → (t ≡ true) × (r ≡ s)
some_of true r s h = (refl, cc h)
some_of false r s h = cc

record IsPost (b : Buffer) (p : PostFields) (k : Option Kind) (t : Option ℕ) (r : Record) : Type 0 where
  sort : Kind
  at : ℕ
  sort_read : k ≡ Some sort
  at_read : t ≡ Some at
  parts : has_lawful_parts (post_of b p sort at) ≡ true
  made : post_of b p sort at ≡ r

post_is : (b : Buffer) (p : PostFields) (k : Option Kind) (t : Option ℕ) (r : Record) → post_with b p k t ≡ Some r → IsPost b p k t r
post_is b p None t r h = cc
post_is b p (Some k) None r h = cc
post_is b p (Some k) (Some at) r h =
    let q = some_of (has_lawful_parts (post_of b p k at)) (post_of b p k at) r h in
    record { sort = k; at = at; sort_read = refl; at_read = refl; parts = q.0; made = q.1 }

letter_is : (text : List ℕ) (k : Kind) → message_kind text ≡ Some k → text ≡ kind_letter k ∷ []
letter_is text k =
    elim (is_text text (codes "P")) as (λ s. is_text text (codes "P") ≡ s → cond s (Some Privmsg) (cond (is_text text (codes "N")) (Some Notice) None) ≡ Some k → text ≡ kind_letter k ∷ []) [
      | true ↦ λ s h. let same : Privmsg ≡ k = cc h in text_is text (codes "P") s ∙ ap (λ j. kind_letter j ∷ []) same
      | false ↦ λ _. elim (is_text text (codes "N")) as (λ s. is_text text (codes "N") ≡ s → cond s (Some Notice) None ≡ Some k → text ≡ kind_letter k ∷ []) [
        | true ↦ λ s h. let same : Notice ≡ k = cc h in text_is text (codes "N") s ∙ ap (λ j. kind_letter j ∷ []) same
        | false ↦ λ _ h. cc h
      ] refl
    ] refl

colon_first : (body : List ℕ) → begins_with 58 body ≡ true → (body ≡ 58 ∷ drop 1 body) × (is_filled body ≡ true)
colon_first [] h = absurd (false≢true h)
colon_first (b ∷ body) h = (ap (λ x. x ∷ body) (eqb-true b 58 h), grind (arith, nat_tests))

-- the tags that are there say whether the line has some
tags_tell : (is_tagged : Bool) (l : List ℕ) → (not is_tagged || is_filled (tags_word is_tagged l)) ≡ true → is_filled (tags_word is_tagged l) ≡ is_tagged
tags_tell true l h = h
tags_tell false l h = refl

filled_before_tags : (is_tagged : Bool) (l : List ℕ) → is_filled (behind_tags is_tagged l) ≡ true → is_filled l ≡ true
filled_before_tags true l h = filled_before l h
filled_before_tags false l h = h

tags_rejoined : (is_tagged : Bool) (l : List ℕ) → is_filled (tags_word is_tagged l) ≡ is_tagged → is_filled (behind_tags is_tagged l) ≡ true
    → words_text (tags_words (tags_word is_tagged l)) ++ behind_tags is_tagged l ≡ l
tags_rejoined true l told h = ap (λ t. words_text (cond t (word l ∷ []) []) ++ behind l) told ∙ words_rejoined 1 l h
tags_rejoined false l told h = refl

pub post_says : (is_tagged : Bool) (rest : List ℕ) (b : Buffer) (r : Record) → has_post_form is_tagged (post_fields is_tagged rest) ≡ true → post_in b (post_fields is_tagged rest) ≡ Some r → IsPostLine is_tagged rest b r
post_says is_tagged rest b r form value =
    let p = post_fields is_tagged rest in
    let behind_kind = behind (behind (behind rest)) in
    let end = behind_tags is_tagged behind_kind in
    let upto_tags = is_filled p.id && is_filled p.at && is_filled p.kind && (not is_tagged || is_filled p.tags) in
    let upto_source = upto_tags && is_filled p.to && is_filled p.source in
    let colon = colon_first p.body (right upto_source (begins_with 58 p.body) form) in
    let tags_form = left upto_tags (is_filled p.to) (left (upto_tags && is_filled p.to) (is_filled p.source) (left upto_source (begins_with 58 p.body) form)) in
    let told = tags_tell is_tagged behind_kind (right (is_filled p.id && is_filled p.at && is_filled p.kind) _ tags_form) in
    let end_filled = filled_words 2 end colon.1 in
    let kind_filled = filled_before_tags is_tagged behind_kind end_filled in
    let v = post_is b p (message_kind p.kind) (moment_of p.at) r value in
    let s = post_of b p v.sort v.at in
    let moment = moment_is p.at v.at v.at_read in
    let at_is = moment.1 in
    let kind_is = letter_is p.kind v.sort v.sort_read in
    let body_is = colon.0 in
    let last = 58 ∷ drop 1 p.body in
    let front = front_words s in
    let more = back_words s in
    let front_and = sym (words_rejoined 3 rest kind_filled) ∙ (λ i. words_text (p.id ∷ at_is i ∷ kind_is i ∷ []) ++ behind_kind) in
    let tags_and = sym (tags_rejoined is_tagged behind_kind told end_filled) in
    let end_and = sym (words_rejoined 2 end colon.1) ∙ ap (λ l. words_text more ++ l) body_is in
    let lawful = v.parts in
    let both_lawful = left (is_id s.id && may_be_tags s.tags) (is_message s.message) lawful in
    subst (IsPostLine is_tagged rest b) v.made record {
      is_tagged = told;
      filled = filled_words 3 rest kind_filled;
      spelled = front_and
          ∙ ap (λ l. words_text front ++ l) (tags_and ∙ ap (λ l. words_text (tags_words p.tags) ++ l) end_and ∙ words_more (tags_words p.tags) more last)
          ∙ words_more front (tags_words p.tags ++ more) last;
      buffer = refl;
      lawful = λ buffer. record {
        buffer = buffer;
        id = left (is_id s.id) (may_be_tags s.tags) both_lawful;
        at = moment.0;
        tags = tags_that_pass s.tags (right (is_id s.id) (may_be_tags s.tags) both_lawful);
        message = (is_message-lawful s.message).0 (right (is_id s.id && may_be_tags s.tags) (is_message s.message) lawful);
      };
    }
