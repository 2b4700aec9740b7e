-- A line that spells a change is the one line that is written for it, and the change's parts are lawful.
use Rattle.std.proofs.Common.{◌≡◌, ℕ, ◌≤◌, Bool, true, false, ◌&&◌, cond, Option, Some, None, Result, Ok, Err, List, [], ◌∷◌, ◌++◌, codes, refl, sym, ◌∙◌, ap, subst}
use Rattle.std.specs.Prelude.{decimal, ◌≢◌, IfErr}
use Rattle.std.specs.Char.{to_ascii_lowercase}
use Rattle.std.specs.Option.{IfSome, option_map}
use Rattle.std.proofs.lemmas.Bool.{false≢true, eqb-true}
use Rattle.irc_time.specs.Time.{greatest}
use Rattle.chat_change.specs.Words.{is_name, is_target, is_id, lower_case_of}
use Rattle.chat_change.specs.Buffer.{Buffer, IsLawfulBuffer}
use Rattle.chat_change.specs.declared.change.Change.{Change}
use Rattle.chat_change.specs.declared.change.Change.TheVariants.{Post, Redact, Mark, Floor, AccountFloor}
use Rattle.change_lines.specs.Words.{is_text, is_filled, is_last_word, word, behind, words_text}
use Rattle.change_lines.specs.Moment.{moment_of}
use Rattle.change_lines.specs.PostLine.{post_fields, has_post_form, post_in, post_word, post_words}
use Rattle.change_lines.specs.ChangeLine.{BufferFields, buffer_fields, has_names, has_form, named_moment, is_folded_byte, is_folded, is_buffer, buffer_named, redaction_with, change_in, change_kind, or_bad_field, fields_change, kind_change, account_floor_in, account_floor_change, words_change, read_change}
use Rattle.chat_change.specs.Lawful.{IsLawfulChange}
use Rattle.change_lines.specs.ChangeText.{buffer_words, moment_text, line_of}
use Rattle.change_lines.specs.declared.fault.ChangeLineFault.{ChangeLineFault}
use Rattle.change_lines.specs.declared.fault.ChangeLineFault.TheVariants.{BadForm, NoMemory}
use Rattle.change_lines.specs.declared.fields.ChangeKind.{ChangeKind}
use Rattle.change_lines.specs.declared.fields.ChangeKind.TheVariants as of_kind
use Rattle.change_lines.proofs.TestLemmas.{left, right, text_is}
use Rattle.change_lines.proofs.NumberLemmas.{moment_is}
use Rattle.change_lines.proofs.WordsLemmas.{filled_words, words_rejoined, words_more}
use Rattle.change_lines.proofs.PostLineLemmas.{post_says}

abbrev Line : Type 0
Line = Result Change ChangeLineFault

-- ---- what a line has that spells a change

chosen : (t : Bool) (x y : Line) (c : Change) → cond t x y ≡ Ok c → ((c : Change) → y ≡ Ok c → ⊥) → (t ≡ true) × (x ≡ Ok c)
chosen true x y c h fails = (refl, h)
chosen false x y c h fails = absurd (fails c h)

no_form : (c : Change) → Err BadForm ≡ Ok c → ⊥
no_form c h = cc

good_field : (o : Option Change) (c : Change) → or_bad_field o ≡ Ok c → o ≡ Some c
good_field None c h = cc
good_field (Some d) c h = cc

some_of : (t : Bool) (o : Option Change) (c : Change) → cond t o None ≡ Some c → (t ≡ true) × (o ≡ Some c)
some_of true o c h = (refl, h)
some_of false o c h = cc

-- the fields behind the kind
record SaysFields (kind : ChangeKind) (b : BufferFields) (c : Change) : Type 0 where
  form : (has_names b && has_form kind b.rest) ≡ true
  lawful : is_buffer b ≡ true
  value : change_in kind (buffer_named b) b.rest ≡ Some c

fields_say : (kind : ChangeKind) (b : BufferFields) (c : Change) → fields_change kind b ≡ Ok c → SaysFields kind b c
fields_say kind b c h =
    let p = chosen (has_names b && has_form kind b.rest) _ (Err BadForm) c h no_form in
    let q = some_of (is_buffer b) (change_in kind (buffer_named b) b.rest) c (good_field _ c p.1) in
    record { form = p.0; lawful = q.0; value = q.1 }

kind_says : (o : Option ChangeKind) (rest : List ℕ) (c : Change) → kind_change o rest ≡ Ok c → (kind : ChangeKind) × (o ≡ Some kind) × SaysFields kind (buffer_fields rest) c
kind_says None rest c h = absurd (no_form c h)
kind_says (Some kind) rest c h = (kind, refl, fields_say kind (buffer_fields rest) c h)

line_says : (line : List ℕ) (c : Change) → read_change line ≡ Ok c → (word line ≡ codes "C") × (words_change (word (behind line)) (behind (behind line)) ≡ Ok c)
unfolding read_change
line_says line c h =
    let p = chosen (is_text (word line) (codes "C")) _ (Err BadForm) c h no_form in
    (text_is (word line) (codes "C") p.0, p.1)

abbrev kind_word : ChangeKind → List ℕ
kind_word of_kind.Post = codes "POST"
kind_word of_kind.TaggedPost = codes "TPOST"
kind_word of_kind.Redact = codes "REDACT"
kind_word of_kind.Mark = codes "MARK"
kind_word of_kind.Floor = codes "FLOOR"

-- the first of some tests that passes says which word it is
found : (w v : List ℕ) (k kind : ChangeKind) (more : Option ChangeKind) → v ≡ kind_word k → (more ≡ Some kind → w ≡ kind_word kind) → cond (is_text w v) (Some k) more ≡ Some kind → w ≡ kind_word kind
found w v k kind more is others =
    elim (is_text w v) as (λ t. is_text w v ≡ t → cond t (Some k) more ≡ Some kind → w ≡ kind_word kind) [
      | true ↦ λ t h. let same : k ≡ kind = cc h in text_is w v t ∙ is ∙ ap kind_word same
      | false ↦ λ _ h. others h
    ] refl

kind_is : (w : List ℕ) (kind : ChangeKind) → change_kind w ≡ Some kind → w ≡ kind_word kind
kind_is w kind h =
    found w (codes "POST") of_kind.Post kind _ refl
    (found w (codes "TPOST") of_kind.TaggedPost kind _ refl
    (found w (codes "REDACT") of_kind.Redact kind _ refl
    (found w (codes "MARK") of_kind.Mark kind _ refl
    (found w (codes "FLOOR") of_kind.Floor kind None refl (λ e. cc e))))) h

-- ---- buffers

folds_nothing : (t : List ℕ) → is_folded t ≡ true → lower_case_of t ≡ t
folds_nothing [] h = refl
folds_nothing (b ∷ t) h =
    let first = eqb-true (to_ascii_lowercase b) b (left (is_folded_byte b) (is_folded t) h) in
    let rest = folds_nothing t (right (is_folded_byte b) (is_folded t) h) in
    λ i. first i ∷ rest i

module _ (b : BufferFields) (h : is_buffer b ≡ true) where
  names_of : (is_name b.account && is_name b.network && is_target b.target) ≡ true
  names_of = left (is_name b.account && is_name b.network && is_target b.target) (is_folded b.target) h

  stays : lower_case_of b.target ≡ b.target
  stays = folds_nothing b.target (right (is_name b.account && is_name b.network && is_target b.target) (is_folded b.target) h)

  lawful_names : IsLawfulBuffer (buffer_named b)
  lawful_names =
      let both_names = left (is_name b.account && is_name b.network) (is_target b.target) names_of in
      record {
        account = left (is_name b.account) (is_name b.network) both_names;
        network = right (is_name b.account) (is_name b.network) both_names;
        target = ap is_target stays ∙ right (is_name b.account && is_name b.network) (is_target b.target) names_of;
        folded = ap lower_case_of stays;
      }

-- ---- moments

mapped : {A B : Type 0} (f : A → B) (o : Option A) (b : B) → option_map f o ≡ Some b → (a : A) × (o ≡ Some a) × (f a ≡ b)
mapped f None b h = cc
mapped f (Some a) b h = (a, refl, cc h)

abbrev IsMoment : Option ℕ → Type 0
IsMoment at = IfSome at (λ t. t ≤ greatest)

named_is : (text : List ℕ) (at : Option ℕ) → named_moment text ≡ Some at → IsMoment at × (text ≡ moment_text at)
named_is text at =
    elim (is_text text (codes "*")) as (λ s. is_text text (codes "*") ≡ s → cond s (Some None) (option_map Some (moment_of text)) ≡ Some at → IsMoment at × (text ≡ moment_text at)) [
      | true ↦ λ s h.
          let none : None ≡ at = cc h in
          subst (λ o. IsMoment o × (text ≡ moment_text o)) none (tt, text_is text (codes "*") s)
      | false ↦ λ _ h.
          let p = mapped Some (moment_of text) at h in
          let q = moment_is text p.0 p.1 in
          subst (λ o. IsMoment o × (text ≡ moment_text o)) p.2 (q.0, q.1)
    ] refl

-- ---- the line of the words

module _ (line : List ℕ) (kind : ChangeKind) (first : word line ≡ codes "C") (second : word (behind line) ≡ kind_word kind) where
  abbrev fields : BufferFields
  fields = buffer_fields (behind (behind line))

  begins : (h : is_buffer fields ≡ true) → is_filled fields.rest ≡ true → (more : List (List ℕ)) (last : List ℕ) → fields.rest ≡ words_text more ++ last
      → line ≡ words_text (buffer_words (kind_word kind) (buffer_named fields) more) ++ last
  begins h filled more last e =
      let folded : fields.target ≡ lower_case_of fields.target = sym (stays fields h) in
      sym (words_rejoined 5 line filled)
      ∙ (λ i. words_text (first i ∷ second i ∷ fields.account ∷ fields.network ∷ folded i ∷ []) ++ e i)
      ∙ words_more (codes "C" ∷ kind_word kind ∷ fields.account ∷ fields.network ∷ lower_case_of fields.target ∷ []) more last

-- ---- each kind of change

redaction_is : (b : Buffer) (m : List ℕ) (o : Option (Option ℕ)) (c : Change) → redaction_with b m o ≡ Some c
    → (at : Option ℕ) × (o ≡ Some at) × (is_id m ≡ true) × (Redact b m at ≡ c)
redaction_is b m None c h = cc
redaction_is b m (Some at) c h =
    let p = some_of (is_id m) (Some (Redact b m at)) c h in
    (at, refl, p.0, cc (p.1))

module _ (line : List ℕ) (first : word line ≡ codes "C") where
  abbrev names : BufferFields
  names = buffer_fields (behind (behind line))

  abbrev IsSpelled : Change → Type 0
  IsSpelled c = (line ≡ line_of c) × IsLawfulChange c

  mark_spelled : word (behind line) ≡ codes "MARK" → (c : Change) → SaysFields of_kind.Mark names c → IsSpelled c
  mark_spelled second c h =
      let form = right (has_names names) (is_last_word names.rest) h.form in
      let v = mapped (Mark (buffer_named names)) (moment_of names.rest) c h.value in
      let m = moment_is names.rest v.0 v.1 in
      subst IsSpelled v.2
      (begins line of_kind.Mark first second h.lawful (left (is_filled names.rest) _ form) [] (decimal v.0) m.1, (lawful_names names h.lawful, m.0))

  floor_spelled : word (behind line) ≡ codes "FLOOR" → (c : Change) → SaysFields of_kind.Floor names c → IsSpelled c
  floor_spelled second c h =
      let form = right (has_names names) (is_last_word names.rest) h.form in
      let v = mapped (Floor (buffer_named names)) (moment_of names.rest) c h.value in
      let m = moment_is names.rest v.0 v.1 in
      subst IsSpelled v.2
      (begins line of_kind.Floor first second h.lawful (left (is_filled names.rest) _ form) [] (decimal v.0) m.1, (lawful_names names h.lawful, m.0))

  redaction_spelled : word (behind line) ≡ codes "REDACT" → (c : Change) → SaysFields of_kind.Redact names c → IsSpelled c
  redaction_spelled second c h =
      let m = word names.rest in
      let end = behind names.rest in
      let form = right (has_names names) (is_filled m && is_last_word end) h.form in
      let filled = left (is_filled end) _ (right (is_filled m) (is_last_word end) form) in
      let v = redaction_is (buffer_named names) m (named_moment end) c h.value in
      let t = named_is end v.0 v.1 in
      subst IsSpelled v.3 (
        begins line of_kind.Redact first second h.lawful (filled_words 1 names.rest filled) (m ∷ []) (moment_text v.0)
            (sym (words_rejoined 1 names.rest filled) ∙ ap (λ l. words_text (m ∷ []) ++ l) t.1),
        (lawful_names names h.lawful, v.2, t.0),
      )

  -- a post whose line's second word says whether it has tags
  post_spelled : (is_tagged : Bool) (kind : ChangeKind) → word (behind line) ≡ kind_word kind → kind_word kind ≡ cond is_tagged (codes "TPOST") (codes "POST") → is_buffer names ≡ true
      → has_post_form is_tagged (post_fields is_tagged names.rest) ≡ true → (c : Change) → option_map Post (post_in (buffer_named names) (post_fields is_tagged names.rest)) ≡ Some c → IsSpelled c
  post_spelled is_tagged kind second second_is lawful form c value =
      let v = mapped Post (post_in (buffer_named names) (post_fields is_tagged names.rest)) c value in
      let r = v.0 in
      let p = post_says is_tagged names.rest (buffer_named names) r form v.1 in
      let second_tells : kind_word kind ≡ post_word r.tags = second_is ∙ ap (λ t. cond t (codes "TPOST") (codes "POST")) (sym p.is_tagged) in
      let buffer_is = sym p.buffer in
      subst IsSpelled v.2 (
        begins line kind first second lawful p.filled (post_words r) (58 ∷ r.message.body) p.spelled
            ∙ (λ i. words_text (buffer_words (second_tells i) (buffer_is i) (post_words r)) ++ (58 ∷ r.message.body)),
        p.lawful (lawful_names names lawful),
      )

  spelled : (kind : ChangeKind) → word (behind line) ≡ kind_word kind → (c : Change) → SaysFields kind names c → IsSpelled c
  spelled of_kind.Post second c h = post_spelled false of_kind.Post second refl h.lawful (right (has_names names) _ h.form) c h.value
  spelled of_kind.TaggedPost second c h = post_spelled true of_kind.TaggedPost second refl h.lawful (right (has_names names) _ h.form) c h.value
  spelled of_kind.Redact second c h = redaction_spelled second c h
  spelled of_kind.Mark second c h = mark_spelled second c h
  spelled of_kind.Floor second c h = floor_spelled second c h

  -- a floor of an account
  account_floor_spelled : word (behind line) ≡ codes "AFLOOR" → (c : Change) → account_floor_change (behind (behind line)) ≡ Ok c → IsSpelled c
  account_floor_spelled second c h =
      let rest = behind (behind line) in
      let a = word rest in
      let end = behind rest in
      let form = chosen (is_filled a && is_last_word end) _ (Err BadForm) c h no_form in
      let last = right (is_filled a) (is_last_word end) form.0 in
      let value = some_of (is_name a) (option_map (AccountFloor a) (moment_of end)) c (good_field (account_floor_in a end) c form.1) in
      let v = mapped (AccountFloor a) (moment_of end) c value.1 in
      let m = moment_is end v.0 v.1 in
      subst IsSpelled v.2 (
        sym (words_rejoined 3 line (left (is_filled end) _ last)) ∙ (λ i. words_text (first i ∷ second i ∷ a ∷ []) ++ m.1 i),
        (value.0, m.0),
      )

chosen_else : (t : Bool) (x y : Line) (c : Change) → cond t x y ≡ Ok c → t ≡ false → y ≡ Ok c
chosen_else true x y c h e = absurd (false≢true (sym e))
chosen_else false x y c h e = h

chosen_then : (t : Bool) (x y : Line) (c : Change) → cond t x y ≡ Ok c → t ≡ true → x ≡ Ok c
chosen_then true x y c h e = h
chosen_then false x y c h e = absurd (false≢true e)

pub one_spelling : (line : List ℕ) (c : Change) → read_change line ≡ Ok c → (line ≡ line_of c) × IsLawfulChange c
one_spelling line c h =
    let p = line_says line c h in
    let second = word (behind line) in
    let rest = behind (behind line) in
    elim (is_text second (codes "AFLOOR")) as (λ t. is_text second (codes "AFLOOR") ≡ t → (line ≡ line_of c) × IsLawfulChange c) [
      | true ↦ λ t. account_floor_spelled line p.0 (text_is second (codes "AFLOOR") t) c (chosen_then _ (account_floor_change rest) (kind_change (change_kind second) rest) c p.1 t)
      | false ↦ λ t.
          let q = kind_says (change_kind second) rest c (chosen_else _ (account_floor_change rest) (kind_change (change_kind second) rest) c p.1 t) in
          spelled line p.0 q.0 (kind_is second q.0 q.1) c q.2
    ] refl

-- ---- what a line has that spells none

abbrev IsOwnFault : Line → Type 0
IsOwnFault line = IfErr line (λ fault. fault ≢ NoMemory)

own_chosen : (t : Bool) (x y : Line) → IsOwnFault x → IsOwnFault y → IsOwnFault (cond t x y)
own_chosen true x y a b = a
own_chosen false x y a b = b

own_field : (o : Option Change) → IsOwnFault (or_bad_field o)
own_field None = λ e. cc e
own_field (Some change) = tt

own_form : IsOwnFault (Err BadForm)
own_form = λ e. cc e

own_kind : (o : Option ChangeKind) (rest : List ℕ) → IsOwnFault (kind_change o rest)
own_kind None rest = own_form
own_kind (Some kind) rest =
    let b = buffer_fields rest in
    own_chosen (has_names b && has_form kind b.rest) _ (Err BadForm) (own_field (cond (is_buffer b) (change_in kind (buffer_named b) b.rest) None)) own_form

own_account_floor : (rest : List ℕ) → IsOwnFault (account_floor_change rest)
own_account_floor rest = own_chosen (is_filled (word rest) && is_last_word (behind rest)) _ (Err BadForm) (own_field (account_floor_in (word rest) (behind rest))) own_form

own_words : (second rest : List ℕ) → IsOwnFault (words_change second rest)
own_words second rest = own_chosen (is_text second (codes "AFLOOR")) _ _ (own_account_floor rest) (own_kind (change_kind second) rest)

-- the fault of a line isn't that there was no memory
pub own_fault : (line : List ℕ) → IfErr (read_change line) (λ fault. fault ≢ NoMemory)
unfolding read_change
own_fault line = own_chosen (is_text (word line) (codes "C")) _ (Err BadForm) (own_words (word (behind line)) (behind (behind line))) own_form
