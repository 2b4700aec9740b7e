-- What is not refused is lawful. Of several faults the first counts, each exactly where what goes before it is lawful.
use Rattle.std.proofs.Common.{◌≡◌, ◌≤◌, ℕ, Bool, true, false, ◌&&◌, nat_le, List, length, Option, None, Some, ◌↔◌, IsTrue, refl, ap, ◌∙◌, arith, ◌<◌}
use Rattle.std.specs.Prelude.{is_none}
use Rattle.std.proofs.lemmas.Bool.Decides.{nat_tests}
use Rattle.chat_change.specs.Words.{is_name, is_target, is_id, is_source, is_body, is_tags}
use Rattle.chat_change.specs.declared.message.TheConstants.{LINE_LIMIT}
use Rattle.chat_change.specs.Message.{Message, line_of, IsLawfulMessage}
use Rattle.chat_change.specs.Buffer.{IsLawfulBuffer, buffer_of}
use Rattle.chat_change.specs.Faults.{unless_lawful, account_fault, buffer_fault, id_fault, record_fault, first_fault, tagged_fault, is_message, fits_line}
use Rattle.chat_change.specs.declared.faults.ChangeFault.{ChangeFault}
use Rattle.chat_change.specs.declared.faults.ChangeFault.TheVariants.{BadName, BadTarget, BadId, BadSource, BadBody, LineTooLong, BadTags}
use Rattle.chat_change.proofs.WordsLemmas.{lower_case_of-twice, is_target-lower_case_of}

pub unless_none : (lawful : Bool) (fault : ChangeFault) (more : Option ChangeFault) → unless_lawful lawful fault more ≡ None → (lawful ≡ true) × (more ≡ None)
unless_none true fault more e = (refl, e)
unless_none false fault more e = cc

within : (n : ℕ) → nat_le n LINE_LIMIT ≡ true → n ≤ LINE_LIMIT
within n e = grind (arith, nat_tests)

not_above : (n : ℕ) → n ≤ LINE_LIMIT → nat_le n LINE_LIMIT ≡ true
not_above n h = grind (arith, nat_tests)

pub lawful_message : (m : Message) → record_fault m ≡ None → IsLawfulMessage m
lawful_message m e =
    let fits = unless_lawful (fits_line m) LineTooLong None in
    let says = unless_lawful (is_body m.body) BadBody fits in
    let a = unless_none (is_target m.target) BadTarget (unless_lawful (is_source m.source) BadSource says) e in
    let b = unless_none (is_source m.source) BadSource says a.1 in
    let c = unless_none (is_body m.body) BadBody fits b.1 in
    let d = unless_none (fits_line m) LineTooLong None c.1 in
    record { lawful_source = b.0; lawful_target = a.0; lawful_body = c.0; within_limit = within (length (line_of m)) d.0 }

-- what is lawful is not refused
message_lawful : (m : Message) → IsLawfulMessage m → record_fault m ≡ None
message_lawful m h =
    let fits : fits_line m ≡ true = not_above (length (line_of m)) h.within_limit in
    λ i. unless_lawful (h.lawful_target i) BadTarget (unless_lawful (h.lawful_source i) BadSource (unless_lawful (h.lawful_body i) BadBody (unless_lawful (fits i) LineTooLong None)))

pub record_fault-lawful : (m : Message) → (record_fault m ≡ None) ↔ IsLawfulMessage m
record_fault-lawful m = (lawful_message m, message_lawful m)

-- ---- messages with tags

no_fault : (first : Option ChangeFault) (lawful : Bool) → first_fault first (unless_lawful lawful BadTags None) ≡ None → (first ≡ None) × (lawful ≡ true)
no_fault None lawful e = (refl, (unless_none lawful BadTags None e).0)
no_fault (Some fault) lawful e = cc

pub tagged_none : (m : Message) (tags : List ℕ) → tagged_fault m tags ≡ None → (record_fault m ≡ None) × (is_tags tags ≡ true)
tagged_none m tags e = no_fault (record_fault m) (is_tags tags) e

pub tagged_fault-lawful : (m : Message) (tags : List ℕ) → (tagged_fault m tags ≡ None) ↔ (IsLawfulMessage m × (is_tags tags ≡ true))
tagged_fault-lawful m tags = (
  λ e. let h = tagged_none m tags e in (lawful_message m h.0, h.1),
  λ h. λ i. first_fault (message_lawful m h.0 i) (unless_lawful (h.1 i) BadTags None),
)

none_from : (fault : Option ChangeFault) → is_none fault ≡ true → fault ≡ None
none_from None e = refl
none_from (Some fault) e = cc

pub is_message-lawful : (m : Message) → IsTrue (is_message m) ↔ IsLawfulMessage m
is_message-lawful m = (λ e. lawful_message m (none_from (record_fault m) e), λ h. ap is_none (message_lawful m h))

both_true : (a b : Bool) → a && b ≡ true → (a ≡ true) × (b ≡ true)
both_true true b e = (refl, e)
both_true false b e = cc

pub buffer_fault-lawful : (account network target : List ℕ) → (buffer_fault account network target ≡ None) ↔ ((is_name account ≡ true) × (is_name network ≡ true) × (is_target target ≡ true))
buffer_fault-lawful account network target = (
  λ e.
      let a = unless_none (is_name account && is_name network) BadName (unless_lawful (is_target target) BadTarget None) e in
      let b = unless_none (is_target target) BadTarget None a.1 in
      let names = both_true (is_name account) (is_name network) a.0 in
      (names.0, names.1, b.0),
  λ h. λ i. unless_lawful (h.0 i && h.1 i) BadName (unless_lawful (h.2 i) BadTarget None),
)

pub lawful_buffer : (account network target : List ℕ) → buffer_fault account network target ≡ None → IsLawfulBuffer (buffer_of account network target)
lawful_buffer account network target e =
    let h = (buffer_fault-lawful account network target).0 e in
    record { account = h.0; network = h.1; target = is_target-lower_case_of target ∙ h.2; folded = lower_case_of-twice target }

pub account_fault-lawful : (name : List ℕ) → (account_fault name ≡ None) ↔ (is_name name ≡ true)
account_fault-lawful name = (λ e. (unless_none (is_name name) BadName None e).0, λ h. ap (λ b. unless_lawful b BadName None) h)

pub id_fault-lawful : (text : List ℕ) → (id_fault text ≡ None) ↔ (is_id text ≡ true)
id_fault-lawful text = (λ e. (unless_none (is_id text) BadId None e).0, λ h. ap (λ b. unless_lawful b BadId None) h)

-- ---- the first fault

name_told : (n t : Bool) → (unless_lawful n BadName (unless_lawful t BadTarget None) ≡ Some BadName) ↔ (n ≡ false)
name_told false t = (λ e. refl, λ e. refl)
name_told true false = (λ e. cc, λ e. cc)
name_told true true = (λ e. cc, λ e. cc)

buffer_target_told : (n t : Bool) → (unless_lawful n BadName (unless_lawful t BadTarget None) ≡ Some BadTarget) ↔ ((n ≡ true) × (t ≡ false))
buffer_target_told false t = (λ e. cc, λ e. cc)
buffer_target_told true false = (λ e. (refl, refl), λ e. refl)
buffer_target_told true true = (λ e. cc, λ e. cc)

pub bad_name-told : (account network target : List ℕ) → (buffer_fault account network target ≡ Some BadName) ↔ ((is_name account && is_name network) ≡ false)
bad_name-told account network target = name_told (is_name account && is_name network) (is_target target)

pub bad_buffer_target-told : (account network target : List ℕ) → (buffer_fault account network target ≡ Some BadTarget) ↔ (((is_name account && is_name network) ≡ true) × (is_target target ≡ false))
bad_buffer_target-told account network target = buffer_target_told (is_name account && is_name network) (is_target target)

id_told : (i : Bool) → (unless_lawful i BadId None ≡ Some BadId) ↔ (i ≡ false)
id_told false = (λ e. refl, λ e. refl)
id_told true = (λ e. cc, λ e. cc)

pub bad_id-told : (text : List ℕ) → (id_fault text ≡ Some BadId) ↔ (is_id text ≡ false)
bad_id-told text = id_told (is_id text)

-- what a record's maker tells, where its target, source, body and line are as these tests say
told_of : Bool → Bool → Bool → Bool → Option ChangeFault
told_of t s b l = unless_lawful t BadTarget (unless_lawful s BadSource (unless_lawful b BadBody (unless_lawful l LineTooLong None)))

target_told : (t s b l : Bool) → (told_of t s b l ≡ Some BadTarget) ↔ (t ≡ false)
unfolding told_of
target_told false s b l = (λ e. refl, λ e. refl)
target_told true false b l = (λ e. cc, λ e. cc)
target_told true true false l = (λ e. cc, λ e. cc)
target_told true true true false = (λ e. cc, λ e. cc)
target_told true true true true = (λ e. cc, λ e. cc)

source_told : (t s b l : Bool) → (told_of t s b l ≡ Some BadSource) ↔ ((t ≡ true) × (s ≡ false))
unfolding told_of
source_told false s b l = (λ e. cc, λ e. cc)
source_told true false b l = (λ e. (refl, refl), λ e. refl)
source_told true true false l = (λ e. cc, λ e. cc)
source_told true true true false = (λ e. cc, λ e. cc)
source_told true true true true = (λ e. cc, λ e. cc)

body_told : (t s b l : Bool) → (told_of t s b l ≡ Some BadBody) ↔ ((t ≡ true) × (s ≡ true) × (b ≡ false))
unfolding told_of
body_told false s b l = (λ e. cc, λ e. cc)
body_told true false b l = (λ e. cc, λ e. cc)
body_told true true false l = (λ e. (refl, refl, refl), λ e. refl)
body_told true true true false = (λ e. cc, λ e. cc)
body_told true true true true = (λ e. cc, λ e. cc)

line_told : (t s b l : Bool) → (told_of t s b l ≡ Some LineTooLong) ↔ ((t ≡ true) × (s ≡ true) × (b ≡ true) × (l ≡ false))
unfolding told_of
line_told false s b l = (λ e. cc, λ e. cc)
line_told true false b l = (λ e. cc, λ e. cc)
line_told true true false l = (λ e. cc, λ e. cc)
line_told true true true false = (λ e. (refl, refl, refl, refl), λ e. refl)
line_told true true true true = (λ e. cc, λ e. cc)

above : (n : ℕ) → (nat_le n LINE_LIMIT ≡ false) ↔ (LINE_LIMIT < n)
above n = (λ e. grind (arith, nat_tests), λ e. grind (arith, nat_tests))

pub bad_target-told : (m : Message) → (record_fault m ≡ Some BadTarget) ↔ (is_target m.target ≡ false)
unfolding told_of
bad_target-told m = target_told (is_target m.target) (is_source m.source) (is_body m.body) (fits_line m)

pub bad_source-told : (m : Message) → (record_fault m ≡ Some BadSource) ↔ ((is_target m.target ≡ true) × (is_source m.source ≡ false))
unfolding told_of
bad_source-told m = source_told (is_target m.target) (is_source m.source) (is_body m.body) (fits_line m)

pub bad_body-told : (m : Message) → (record_fault m ≡ Some BadBody) ↔ ((is_target m.target ≡ true) × (is_source m.source ≡ true) × (is_body m.body ≡ false))
unfolding told_of
bad_body-told m = body_told (is_target m.target) (is_source m.source) (is_body m.body) (fits_line m)

pub line_too_long-told : (m : Message) → (record_fault m ≡ Some LineTooLong) ↔ ((is_target m.target ≡ true) × (is_source m.source ≡ true) × (is_body m.body ≡ true) × (LINE_LIMIT < length (line_of m)))
unfolding told_of
line_too_long-told m =
    let h = line_told (is_target m.target) (is_source m.source) (is_body m.body) (fits_line m) in
    let beyond = above (length (line_of m)) in
    (λ e. let k = h.0 e in (k.0, k.1, k.2, beyond.0 k.3), λ k. h.1 (k.0, k.1, k.2, beyond.1 k.3))

-- tags come last
tags_told : (first : Option ChangeFault) (lawful : Bool) → (first ≡ Some BadTags → ⊥) → (first_fault first (unless_lawful lawful BadTags None) ≡ Some BadTags) ↔ ((first ≡ None) × (lawful ≡ false))
tags_told None true n = (λ e. cc, λ h. cc)
tags_told None false n = (λ e. (refl, refl), λ h. refl)
tags_told (Some fault) lawful n = (λ e. absurd (n e), λ h. cc)

never_tags : (t s b l : Bool) → told_of t s b l ≡ Some BadTags → ⊥
unfolding told_of
never_tags false s b l e = cc
never_tags true false b l e = cc
never_tags true true false l e = cc
never_tags true true true false e = cc
never_tags true true true true e = cc

pub bad_tags-told : (m : Message) (tags : List ℕ) → (tagged_fault m tags ≡ Some BadTags) ↔ (IsLawfulMessage m × (is_tags tags ≡ false))
unfolding told_of
bad_tags-told m tags =
    let h = tags_told (record_fault m) (is_tags tags) (never_tags (is_target m.target) (is_source m.source) (is_body m.body) (fits_line m)) in
    (λ e. let k = h.0 e in (lawful_message m k.0, k.1), λ k. h.1 (message_lawful m k.0, k.1))
