-- Tags that are written one by one.
use Rattle.std.proofs.Common.{◌≡◌, ℕ, ◌-◌, ◌*◌, ◌≤◌, List, [], ◌∷◌, ◌++◌, Bool, true, false, not, ◌&&◌, Option, codes, cond, length, take, drop, length-drop, refl, sym, ap, ◌∙◌, append_assoc, append-nil, arith}
use Rattle.std.proofs.lemmas.Bool.{and_parts, or_parts, not-true}
use Rattle.std.proofs.lemmas.List.{take_all}
use Rattle.std.specs.Option.{is_some}
use Rattle.std.specs.Prelude.{◌||◌}
use Rattle.std.specs.List.{list_all, list_any}
use Rattle.memchr.specs.Find.{IsFirstByte, is_byte2}
use Rattle.std.proofs.lemmas.Bool.Decides.{nat_tests}
use Rattle.irc_tags.specs.Value.{byte_spelling, value_text, semicolon, backslash}
use Rattle.irc_time.specs.Text.{time_text}
use Rattle.byte_text.proofs.CallerLemmas.{any_behind, any_within, found_is_any}
use Rattle.chat_change.specs.Record.{Record}
use Rattle.byte_text.specs.Words.{ends_word}
use Rattle.chat_change.specs.Words.{is_id}
use Rattle.irc_caps.specs.declared.CapSet.{CapSet}
use Rattle.irc_caps.specs.Words.{only_if}
use Rattle.chat_query.specs.Tags.{tag_part, more_tags, has_own_tags, batch_tags, message_tags, next_tag, is_plain_byte}

-- tags from the first on, or from a later one on
abbrev from_here : Bool → List (List ℕ) → List ℕ
from_here false tags = tag_part tags
from_here true tags = more_tags tags

ended : (begun : Bool) → cond begun (codes " ") [] ≡ from_here begun []
ended true = refl
ended false = refl

-- a tag and those behind it
tag_first : (begun flag : Bool) (tag : List ℕ) (tags : List (List ℕ))
    → next_tag begun flag tag ++ from_here (begun || flag) tags ≡ from_here begun (only_if flag tag ++ tags)
tag_first true true tag tags = append_assoc (codes ";") tag (more_tags tags)
tag_first false true tag tags = append_assoc (codes "@") tag (more_tags tags)
tag_first true false tag tags = refl
tag_first false false tag tags = refl

-- a batch, an id, a time, and tags of a record's own
four_tags : (a b c d : Bool) (x y z w : List ℕ)
    → next_tag false a x ++ (next_tag a b y ++ (next_tag (a || b) c z ++ (next_tag ((a || b) || c) d w ++ cond (((a || b) || c) || d) (codes " ") [])))
    ≡ tag_part (only_if a x ++ (only_if b y ++ (only_if c z ++ only_if d w)))
four_tags a b c d x y z w =
    ap (λ l. next_tag false a x ++ (next_tag a b y ++ (next_tag (a || b) c z ++ (next_tag ((a || b) || c) d w ++ l)))) (ended (((a || b) || c) || d))
    ∙ ap (λ l. next_tag false a x ++ (next_tag a b y ++ (next_tag (a || b) c z ++ l))) (tag_first ((a || b) || c) d w [])
    ∙ ap (λ l. next_tag false a x ++ (next_tag a b y ++ l)) (tag_first (a || b) c z (only_if d w ++ []))
    ∙ ap (λ l. next_tag false a x ++ l) (tag_first a b y (only_if c z ++ (only_if d w ++ [])))
    ∙ tag_first false a x (only_if b y ++ (only_if c z ++ (only_if d w ++ [])))
    ∙ ap (λ l. tag_part (only_if a x ++ (only_if b y ++ (only_if c z ++ l)))) (append-nil (only_if d w))

-- the tags of a record, as they are written in turn
pub tags_same : (caps : CapSet) (reference : List ℕ) (r : Record) (batch id_too time_too own_too own : Bool) (id time tags : List ℕ)
    → batch ≡ (false || caps.batch) → id_too ≡ (batch || caps.message_tags) → time_too ≡ (id_too || caps.server_time) → own_too ≡ (time_too || own)
    → id ≡ r.id → time ≡ time_text r.at → own ≡ has_own_tags caps r → tags ≡ r.tags
    → next_tag false caps.batch (codes "batch=" ++ reference) ++ (next_tag batch caps.message_tags (codes "msgid=" ++ value_text id)
    ++ (next_tag id_too caps.server_time (codes "time=" ++ time) ++ (next_tag time_too own tags ++ cond own_too (codes " ") [])))
    ≡ tag_part (batch_tags caps reference ++ message_tags caps r)
tags_same caps reference r batch id_too time_too own_too own id time tags one two three four id_is time_is own_is tags_are =
    let second : id_too ≡ (caps.batch || caps.message_tags) = two ∙ ap (λ b. b || caps.message_tags) one in
    let third : time_too ≡ ((caps.batch || caps.message_tags) || caps.server_time) = three ∙ ap (λ b. b || caps.server_time) second in
    let fourth : own_too ≡ (((caps.batch || caps.message_tags) || caps.server_time) || has_own_tags caps r) = four ∙ (λ i. third i || own_is i) in
    (λ i. next_tag false caps.batch (codes "batch=" ++ reference) ++ (next_tag (one i) caps.message_tags (codes "msgid=" ++ value_text (id_is i))
    ++ (next_tag (second i) caps.server_time (codes "time=" ++ time_is i) ++ (next_tag (third i) (own_is i) (tags_are i) ++ cond (fourth i) (codes " ") []))))
    ∙ four_tags caps.batch caps.message_tags caps.server_time (has_own_tags caps r)
    (codes "batch=" ++ reference) (codes "msgid=" ++ value_text r.id) (codes "time=" ++ time_text r.at) r.tags

-- ---- values without escapes

plain_byte : (b : ℕ) → is_plain_byte b ≡ true → byte_spelling b ≡ b ∷ []
plain_byte b e = grind (arith, nat_tests)

pub plain_value : (value : List ℕ) → list_all is_plain_byte value ≡ true → value_text value ≡ value
plain_value [] e = refl
plain_value (b ∷ value) e =
    let both = and_parts (is_plain_byte b) (list_all is_plain_byte value) e in
    λ i. plain_byte b both.0 i ++ plain_value value both.1 i

-- ---- ids without escapes

bare_byte : (b : ℕ) → ends_word b ≡ false → is_plain_byte b ≡ not (is_byte2 semicolon backslash b)
bare_byte b e = grind (arith, nat_tests)

both_bare : (x y : Bool) → (not x && not y) ≡ not (x || y)
both_bare true y = refl
both_bare false y = refl

-- of an id no byte is escaped but `;` and a backslash
bare_text : (text : List ℕ) → list_any ends_word text ≡ false
    → list_all is_plain_byte text ≡ not (list_any (is_byte2 semicolon backslash) text)
bare_text [] e = refl
bare_text (b ∷ text) e =
    let parts = or_parts (ends_word b) (list_any ends_word text) e in
    (λ i. bare_byte b parts.0 i && bare_text text parts.1 i)
    ∙ both_bare (is_byte2 semicolon backslash b) (list_any (is_byte2 semicolon backslash) text)

turned : (x y : Bool) → not x ≡ y → x ≡ not y
turned true y e = ap not e
turned false y e = ap not e

id_bare : (text : List ℕ) → is_id text ≡ true → list_any ends_word text ≡ false
id_bare text e = not-true (list_any ends_word text) (and_parts _ _ (and_parts _ _ e).0).1

pub plain_id : (text : List ℕ) (r : Option ℕ) (is_plain : Bool) → is_id text ≡ true → IsFirstByte (is_byte2 semicolon backslash) text r
    → is_some r ≡ not is_plain → is_plain ≡ list_all is_plain_byte text
plain_id text r is_plain e h none = turned is_plain _ (sym none ∙ found_is_any (is_byte2 semicolon backslash) text r h) ∙ sym (bare_text text (id_bare text e))

-- ---- ids of which two looks see all bytes

pub none_at_first : (text : List ℕ) (n : ℕ) (first second : Bool) → is_id text ≡ true → n ≤ length text → length text ≤ 2 * n
    → first ≡ true → first ≡ not (list_any (is_byte2 semicolon backslash) (take n text))
    → second ≡ not (list_any (is_byte2 semicolon backslash) (take n (take (length text - (length text - n)) (drop (length text - n) text))))
    → second ≡ list_all is_plain_byte text
none_at_first text n first second e some few is first_is second_is =
    let test = is_byte2 semicolon backslash in
    let k = length text - n in
    let none : list_any test (take n text) ≡ false = turned _ true (sym first_is ∙ is) in
    let size = length-drop k text in
    let rest : take n (take (length text - k) (drop k text)) ≡ drop k text =
    ap (take n) (take_all (length text - k) (drop k text) (omega (arith, size))) ∙ take_all n (drop k text) (omega (arith, size)) in
    second_is ∙ ap (λ l. not (list_any test l)) rest ∙ ap not (sym (any_behind test text n k (omega arith) none)) ∙ sym (bare_text text (id_bare text e))

pub one_at_first : (text : List ℕ) (n : ℕ) (first : Bool) → is_id text ≡ true → first ≡ false
    → first ≡ not (list_any (is_byte2 semicolon backslash) (take n text)) → first ≡ list_all is_plain_byte text
one_at_first text n first e is first_is =
    let test = is_byte2 semicolon backslash in
    let one : list_any test (take n text) ≡ true = turned _ false (sym first_is ∙ is) in
    is ∙ ap not (sym (any_within test text n one)) ∙ sym (bare_text text (id_bare text e))
