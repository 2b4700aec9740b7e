-- The line of a change with lawful parts reads as that change.
use Rattle.std.proofs.Common.{◌≡◌, ℕ, ◌≤◌, true, false, ◌&&◌, cond, Option, Some, None, Ok, List, [], ◌∷◌, ◌++◌, codes, refl, sym, ◌∙◌, ap}
use Rattle.std.specs.Prelude.{decimal}
use Rattle.std.specs.Char.{to_ascii_lowercase}
use Rattle.std.specs.List.{list_all}
use Rattle.std.specs.Option.{option_map}
use Rattle.std.proofs.lemmas.Bool.{false≢true, cond-true, cond-false, eq-eqb}
use Rattle.irc_time.specs.Time.{greatest}
use Rattle.chat_change.specs.Words.{is_name, is_target, is_id, lower_case_of}
use Rattle.chat_change.specs.Buffer.{Buffer, IsLawfulBuffer}
use Rattle.chat_change.specs.Record.{Record}
use Rattle.chat_change.specs.declared.change.Change.{Change}
use Rattle.chat_change.specs.declared.change.Change.TheVariants.{Post, Redact, Mark, Floor, AccountFloor}
use Rattle.byte_text.specs.Number.{is_digit}
use Rattle.byte_text.proofs.CallerLemmas.{decimal_digits}
use Rattle.change_lines.specs.Words.{is_text, has_space, is_filled, is_last_word, word, behind, words_text}
use Rattle.change_lines.specs.PostLine.{post_words}
use Rattle.change_lines.specs.ChangeLine.{BufferFields, buffer_fields, has_names, has_form, named_moment, is_folded_byte, is_folded, is_buffer, buffer_named, redaction_with, change_in, change_kind, or_bad_field, fields_change, kind_change, account_floor_in, words_change, read_change}
use Rattle.chat_change.specs.Lawful.{IsLawfulRecord, IsLawfulChange}
use Rattle.change_lines.specs.ChangeText.{buffer_words, account_words, moment_text, line_of}
use Rattle.change_lines.specs.declared.fields.ChangeKind.{ChangeKind}
use Rattle.change_lines.specs.declared.fields.ChangeKind.TheVariants as of_kind
use Rattle.change_lines.proofs.TestLemmas.{both, text_is, name_has_no_space, name_is_filled, target_has_no_space, target_is_filled, id_has_no_space, id_is_filled}
use Rattle.change_lines.proofs.NumberLemmas.{decimal_last, moment_fits, moment_read}
use Rattle.change_lines.proofs.WordsLemmas.{first_words, HaveNoSpace, words_cut, last_cut}
use Rattle.change_lines.proofs.PostLineLemmas.{form_read, post_in_read}

-- ---- lines by their words

reads_words : (line k : List ℕ) → word line ≡ codes "C" → word (behind line) ≡ k → read_change line ≡ words_change k (behind (behind line))
unfolding read_change
reads_words line k c e = cond-true _ _ _ (ap (λ l. is_text l (codes "C")) c) ∙ ap (λ l. words_change l (behind (behind line))) e

reads_kind : (line k : List ℕ) → word line ≡ codes "C" → word (behind line) ≡ k → is_text k (codes "AFLOOR") ≡ false → read_change line ≡ kind_change (change_kind k) (behind (behind line))
reads_kind line k c e other = reads_words line k c e ∙ cond-false _ _ _ other

fields_read : (kind : ChangeKind) (b : BufferFields) (c : Change) → (has_names b && has_form kind b.rest) ≡ true → is_buffer b ≡ true → change_in kind (buffer_named b) b.rest ≡ Some c → fields_change kind b ≡ Ok c
fields_read kind b c form lawful value = cond-true _ _ _ form ∙ ap or_bad_field (cond-true _ _ _ lawful ∙ value)

folded_bytes : (t : List ℕ) → lower_case_of t ≡ t → is_folded t ≡ true
folded_bytes [] h = refl
folded_bytes (b ∷ t) h =
    let first : to_ascii_lowercase b ≡ b = cc h in
    let rest : lower_case_of t ≡ t = cc h in
    both (is_folded_byte b) (is_folded t) (eq-eqb (to_ascii_lowercase b) b first) (folded_bytes t rest)

-- lawful names, of which the target stands folded, are those of a buffer
pub lawful_names : (b : BufferFields) → is_name b.account ≡ true → is_name b.network ≡ true → is_target b.target ≡ true → lower_case_of b.target ≡ b.target → is_buffer b ≡ true
lawful_names b account network target folded =
    both (is_name b.account && is_name b.network && is_target b.target) (is_folded b.target)
    (both (is_name b.account && is_name b.network) (is_target b.target) (both (is_name b.account) (is_name b.network) account network) target)
    (folded_bytes b.target folded)

module _ (b : Buffer) (lawful : IsLawfulBuffer b) (k : List ℕ) (bare : has_space k ≡ false) (other : is_text k (codes "AFLOOR") ≡ false) (more : List (List ℕ)) (last : List ℕ) where
  abbrev line : List ℕ
  line = words_text (buffer_words k b more) ++ last

  abbrev rest : List ℕ
  rest = words_text more ++ last

  abbrev buffer_list : List (List ℕ)
  buffer_list = codes "C" ∷ k ∷ b.account ∷ b.network ∷ b.target ∷ []

  bare_words : HaveNoSpace buffer_list
  bare_words = (refl, (bare, (name_has_no_space b.account lawful.account, (name_has_no_space b.network lawful.network, (target_has_no_space b.target lawful.target, tt)))))

  cut : first_words 5 line ≡ buffer_list
  cut = words_cut last buffer_list more bare_words

  abbrev fields : BufferFields
  fields = record { account = b.account; network = b.network; target = b.target; rest = rest }

  fields_are : buffer_fields (behind (behind line)) ≡ fields
  fields_are =
      let all = cut in
      let account : word (behind (behind line)) ≡ b.account = cc all in
      let network : word (behind (behind (behind line))) ≡ b.network = cc all in
      let target : word (behind (behind (behind (behind line)))) ≡ b.target = cc all in
      let end : behind (behind (behind (behind (behind line)))) ≡ rest = last_cut last buffer_list more bare_words in
      λ i. record { account = account i; network = network i; target = target i; rest = end i }

  named : buffer_named fields ≡ b
  named = let t = lawful.folded in λ i. record { account = b.account; network = b.network; target = t i }

  is_one : is_buffer fields ≡ true
  is_one = lawful_names fields lawful.account lawful.network lawful.target lawful.folded

  are_names : has_names fields ≡ true
  are_names =
      both (is_filled b.account && is_filled b.network) (is_filled b.target)
      (both (is_filled b.account) (is_filled b.network) (name_is_filled b.account lawful.account) (name_is_filled b.network lawful.network))
      (target_is_filled b.target lawful.target)

  reads : (kind : ChangeKind) (c : Change) → change_kind k ≡ Some kind → has_form kind rest ≡ true → change_in kind b rest ≡ Some c → read_change line ≡ Ok c
  reads kind c is form value =
      let all = cut in
      let first : word line ≡ codes "C" = cc all in
      let second : word (behind line) ≡ k = cc all in
      reads_kind line k first second other
      ∙ ap (λ o. kind_change o (behind (behind line))) is
      ∙ ap (fields_change kind) fields_are
      ∙ fields_read kind fields c (both (has_names fields) (has_form kind rest) are_names form) is_one (ap (λ x. change_in kind x rest) named ∙ value)

-- ---- moments

no_star : (t : ℕ) → t ≤ greatest → is_text (decimal t) (codes "*") ≡ false
no_star t h =
    elim (is_text (decimal t) (codes "*")) as (λ s. is_text (decimal t) (codes "*") ≡ s → s ≡ false) [
      | true ↦ λ e. absurd (false≢true (ap (list_all is_digit) (sym (text_is (decimal t) (codes "*") e)) ∙ decimal_digits t (moment_fits t h)))
      | false ↦ λ _. refl
    ] refl

abbrev IsMoment : Option ℕ → Type 0
IsMoment None = Unit {0}
IsMoment (Some t) = t ≤ greatest

named_read : (at : Option ℕ) → IsMoment at → named_moment (moment_text at) ≡ Some at
named_read None h = refl
named_read (Some t) h = cond-false _ _ _ (no_star t h) ∙ ap (option_map Some) (moment_read t h)

named_last : (at : Option ℕ) → IsMoment at → is_last_word (moment_text at) ≡ true
named_last None h = refl
named_last (Some t) h = decimal_last t (moment_fits t h)

-- ---- each kind of change

mark_read : (b : Buffer) (at : ℕ) → IsLawfulBuffer b → at ≤ greatest → read_change (line_of (Mark b at)) ≡ Ok (Mark b at)
mark_read b at lawful h = reads b lawful (codes "MARK") refl refl [] (decimal at) of_kind.Mark (Mark b at) refl (decimal_last at (moment_fits at h)) (ap (option_map (Mark b)) (moment_read at h))

floor_read : (b : Buffer) (at : ℕ) → IsLawfulBuffer b → at ≤ greatest → read_change (line_of (Floor b at)) ≡ Ok (Floor b at)
floor_read b at lawful h = reads b lawful (codes "FLOOR") refl refl [] (decimal at) of_kind.Floor (Floor b at) refl (decimal_last at (moment_fits at h)) (ap (option_map (Floor b)) (moment_read at h))

account_floor_read : (a : List ℕ) (at : ℕ) → is_name a ≡ true → at ≤ greatest → read_change (line_of (AccountFloor a at)) ≡ Ok (AccountFloor a at)
account_floor_read a at name h =
    let last = decimal at in
    let line = words_text (account_words a) ++ last in
    let bare : HaveNoSpace (account_words a) = (refl, (refl, (name_has_no_space a name, tt))) in
    let all = words_cut last (account_words a) [] bare in
    let first : word line ≡ codes "C" = cc all in
    let second : word (behind line) ≡ codes "AFLOOR" = cc all in
    let account : word (behind (behind line)) ≡ a = cc all in
    let end : behind (behind (behind line)) ≡ last = last_cut last (account_words a) [] bare in
    let form = both (is_filled (word (behind (behind line)))) (is_last_word (behind (behind (behind line)))) (ap is_filled account ∙ name_is_filled a name) (ap is_last_word end ∙ decimal_last at (moment_fits at h)) in
    reads_words line (codes "AFLOOR") first second
    ∙ cond-true _ _ _ form
    ∙ (λ i. or_bad_field (account_floor_in (account i) (end i)))
    ∙ ap or_bad_field (cond-true _ _ _ name ∙ ap (option_map (AccountFloor a)) (moment_read at h))

redaction_read : (b : Buffer) (m : List ℕ) (at : Option ℕ) → IsLawfulBuffer b → is_id m ≡ true → IsMoment at → read_change (line_of (Redact b m at)) ≡ Ok (Redact b m at)
redaction_read b m at lawful id h =
    let last = moment_text at in
    let rest = words_text (m ∷ []) ++ last in
    let bare : HaveNoSpace (m ∷ []) = (id_has_no_space m id, tt) in
    let all = words_cut last (m ∷ []) [] bare in
    let first : word rest ≡ m = cc all in
    let end : behind rest ≡ last = last_cut last (m ∷ []) [] bare in
    reads b lawful (codes "REDACT") refl refl (m ∷ []) last of_kind.Redact (Redact b m at) refl
    (both (is_filled (word rest)) (is_last_word (behind rest)) (ap is_filled first ∙ id_is_filled m id) (ap is_last_word end ∙ named_last at h))
    ((λ i. redaction_with b (first i) (named_moment (end i))) ∙ ap (redaction_with b m) (named_read at h) ∙ cond-true _ _ _ id)

post_read : (r : Record) → IsLawfulRecord r → read_change (line_of (Post r)) ≡ Ok (Post r)
post_read r h =
    let words = post_words r in
    let last = 58 ∷ r.message.body in
    elim (is_filled r.tags) as (λ t. is_filled r.tags ≡ t → read_change (words_text (buffer_words (cond t (codes "TPOST") (codes "POST")) r.buffer words) ++ last) ≡ Ok (Post r)) [
      | true ↦ λ e. reads r.buffer h.buffer (codes "TPOST") refl refl words last of_kind.TaggedPost (Post r) refl (form_read r h true e) (ap (option_map Post) (post_in_read r h true e))
      | false ↦ λ e. reads r.buffer h.buffer (codes "POST") refl refl words last of_kind.Post (Post r) refl (form_read r h false e) (ap (option_map Post) (post_in_read r h false e))
    ] refl

pub read_back : (c : Change) → IsLawfulChange c → read_change (line_of c) ≡ Ok c
read_back (Post r) h = post_read r h
read_back (Redact b m None) h = redaction_read b m None h.0 h.1 tt
read_back (Redact b m (Some t)) h = redaction_read b m (Some t) h.0 h.1 h.2
read_back (Mark b at) h = mark_read b at h.0 h.1
read_back (Floor b at) h = floor_read b at h.0 h.1
read_back (AccountFloor a at) h = account_floor_read a at h.0 h.1
