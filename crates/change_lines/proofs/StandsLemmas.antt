-- A line that is written for a lawful change has no NUL, CR or LF, and at most 8000 bytes; so do words and numbers.
use Rattle.std.proofs.Common.{◌≡◌, ℕ, ◌+◌, ◌*◌, ◌^◌, ◌<◌, ◌≤◌, inl, inr, sym, subst, cond, Bool, true, false, not, ◌&&◌, ◌||◌, Option, Some, None, List, [], ◌∷◌, ◌++◌, codes, length, refl, ap, ◌∙◌, arith, length-append, lit<, lit≤}
use Rattle.std.specs.Prelude.{nat_lt, nat_le, ◌==◌, IfSome}
use Rattle.std.specs.Fmt.{decimal}
use Rattle.std.specs.Str.{all_ascii_digits}
use Rattle.std.specs.Char.{is_ascii_digit}
use Rattle.std.specs.List.{AllByRecursion, list_any, list_all}
use Rattle.std.proofs.lemmas.Bool.{and_parts, or_parts, leb-true, not-true}
use Rattle.std.proofs.lemmas.Bool.Decides.{nat_tests}
use Rattle.std.proofs.lemmas.Fmt.{length-decimal-le, digits_decimal}
use Rattle.std.proofs.lemmas.Str.Parse.{numerals_by_value, tells_all_ascii_digits}
use Rattle.std.proofs.lemmas.List.Folds.{list_any-append}
use Rattle.byte_text.specs.Bytes.{ends_line}
use Rattle.byte_text.specs.Words.{has_length_to, ends_word}
use Rattle.irc_time.specs.Time.{greatest}
use Rattle.chat_change.specs.Words.{is_name_byte, ends_target, begins_with_colon, is_star, is_name, is_target, is_id, MayBeTags}
use Rattle.chat_change.specs.Buffer.{Buffer, IsLawfulBuffer}
use Rattle.chat_change.specs.Message.{Message, IsLawfulMessage, kind_letter, kind_word}
use Rattle.chat_change.specs.Record.{Record}
use Rattle.chat_change.specs.Lawful.{IsLawfulRecord, IsLawfulChange}
use Rattle.chat_change.specs.declared.words.TheConstants.{NAME_LIMIT, TARGET_LIMIT, ID_LIMIT, TAGS_LIMIT}
use Rattle.chat_change.specs.declared.message.TheConstants.{LINE_LIMIT}
use Rattle.chat_change.specs.declared.message.Kind.{Kind}
use Rattle.chat_change.specs.declared.message.Kind.TheVariants.{Privmsg, Notice}
use Rattle.chat_change.specs.declared.change.Change as change
use Rattle.chat_change.specs.declared.change.Change.TheVariants.{Post, Redact, Mark, Floor, AccountFloor}
use Rattle.change_lines.specs.Words.{is_filled, words_text}
use Rattle.change_lines.specs.ChangeText.{line_of as change_text, buffer_words, account_words, moment_text}
use Rattle.change_lines.specs.PostLine.{post_word, tags_words, back_words}

abbrev EndsNoLine : List ℕ → Type 0
EndsNoLine bytes = list_any ends_line bytes ≡ false

good_append : (a b : List ℕ) → EndsNoLine a → EndsNoLine b → EndsNoLine (a ++ b)
good_append a b p q = list_any-append ends_line a b ∙ ap (λ t. t || list_any ends_line b) p ∙ q

pub all_but : (p q : ℕ → Bool) → ((b : ℕ) → p b ≡ true → q b ≡ false) → (w : List ℕ) → list_all p w ≡ true → list_any q w ≡ false
all_but p q h [] e = refl
all_but p q h (b ∷ bs) e =
    elim (p b) as (λ t. p b ≡ t → (t && list_all p bs) ≡ true → (q b || list_any q bs) ≡ false) [
      | true ↦ λ t f. ap (λ x. x || list_any q bs) (h b t) ∙ all_but p q h bs f
      | false ↦ λ t f. (cc)
    ] refl e

digit_stands : (b : ℕ) → is_ascii_digit b ≡ true → ends_word b ≡ false
digit_stands b e = grind (arith, nat_tests)

digits_stand : (w : List ℕ) → all_ascii_digits w ≡ true → list_any ends_word w ≡ false
digits_stand [] e = refl
digits_stand (b ∷ bs) e =
    elim (is_ascii_digit b) as (λ t. is_ascii_digit b ≡ t → (t && all_ascii_digits bs) ≡ true → (ends_word b || list_any ends_word bs) ≡ false) [
      | true ↦ λ t f. ap (λ x. x || list_any ends_word bs) (digit_stands b t) ∙ digits_stand bs f
      | false ↦ λ t f. (cc)
    ] refl e

-- ---- texts that may stand in a line

-- no NUL, CR or LF, and no more than so many bytes
pub record Stands (most : ℕ) (text : List ℕ) : Type 0 where
  pub good : list_any ends_line text ≡ false
  pub short : length text ≤ most

pub stands-append : (m n : ℕ) (xs ys : List ℕ) → Stands m xs → Stands n ys → Stands (m + n) (xs ++ ys)
stands-append m n xs ys p q = record {
  good = good_append xs ys p.good q.good;
  short = (let a = p.short in let b = q.short in omega (arith, length-append xs ys));
}

pub stands_to : (m n : ℕ) (text : List ℕ) → m ≤ n → Stands m text → Stands n text
stands_to m n text l p = record { good = p.good; short = (let a = p.short in omega arith) }

-- words with a space behind each
words_stand : (ws : List (List ℕ)) → AllByRecursion (Stands 255) ws → Stands (256 * length ws) (words_text ws)
words_stand [] all = record { good = refl; short = omega arith }
words_stand (w ∷ ws) all =
    let rest = words_stand ws all.1 in
    let here = stands-append 255 1 w (codes " ") all.0 (record { good = refl; short = lit≤ tt }) in
    let both = stands-append (255 + 1) (256 * length ws) (w ++ codes " ") (words_text ws) here rest in
    record { good = both.good; short = (let s = both.short in omega arith) }

-- words with a space behind each, in front of other text
words_stand_before : (n : ℕ) (ws more : List (List ℕ)) → AllByRecursion (Stands 255) ws → Stands n (words_text more) → Stands (256 * length ws + n) (words_text (ws ++ more))
words_stand_before n [] more all p = record { good = p.good; short = (let s = p.short in omega arith) }
words_stand_before n (w ∷ ws) more all p =
    let rest = words_stand_before n ws more all.1 p in
    let here = stands-append 255 1 w (codes " ") all.0 (record { good = refl; short = lit≤ tt }) in
    let both = stands-append (255 + 1) (256 * length ws + n) (w ++ codes " ") (words_text (ws ++ more)) here rest in
    record { good = both.good; short = (let s = both.short in omega arith) }

-- ---- the words of lines

pub any_weaker : (p q : ℕ → Bool) → ((b : ℕ) → p b ≡ false → q b ≡ false) → (text : List ℕ) → list_any p text ≡ false → list_any q text ≡ false
any_weaker p q h [] e = refl
any_weaker p q h (b ∷ text) e =
    let both = or_parts (p b) (list_any p text) e in
    (λ i. h b both.0 i || any_weaker p q h text both.1 i)

pub word_good : (text : List ℕ) → list_any ends_word text ≡ false → EndsNoLine text
word_good text e = any_weaker ends_word ends_line (λ b f. (or_parts (ends_line b) (b == 32) f).0) text e

pub short_to : (most : ℕ) (text : List ℕ) → has_length_to most text ≡ true → length text ≤ most
short_to most text e = leb-true (length text) most (and_parts (nat_lt 0 (length text)) (nat_le (length text) most) e).1

name_byte_good : (b : ℕ) → is_name_byte b ≡ true → ends_line b ≡ false
name_byte_good b e = grind (arith, nat_tests)

pub name_stands : (text : List ℕ) → is_name text ≡ true → Stands 255 text
name_stands text e =
    let both = and_parts (has_length_to NAME_LIMIT text) (list_all is_name_byte text) e in
    stands_to NAME_LIMIT 255 text (lit≤ tt)
    (record { good = all_but is_name_byte ends_line name_byte_good text both.1; short = short_to NAME_LIMIT text both.0 })

target_stands : (text : List ℕ) → is_target text ≡ true → Stands 255 text
target_stands text e =
    let a = and_parts (has_length_to TARGET_LIMIT text && not (list_any ends_target text) && not (begins_with_colon text)) (not (is_star text)) e in
    let b = and_parts (has_length_to TARGET_LIMIT text && not (list_any ends_target text)) (not (begins_with_colon text)) a.0 in
    let c = and_parts (has_length_to TARGET_LIMIT text) (not (list_any ends_target text)) b.0 in
    stands_to TARGET_LIMIT 255 text (lit≤ tt)
    (record {
      good = word_good text (any_weaker ends_target ends_word (λ b f. (or_parts (ends_word b) (b == 44) f).0) text (not-true (list_any ends_target text) c.1));
      short = short_to TARGET_LIMIT text c.0;
    })

-- an id, and a source
id_stands : (text : List ℕ) → is_id text ≡ true → Stands 255 text
id_stands text e =
    let a = and_parts (has_length_to ID_LIMIT text && not (list_any ends_word text)) (not (begins_with_colon text)) e in
    let b = and_parts (has_length_to ID_LIMIT text) (not (list_any ends_word text)) a.0 in
    record { good = word_good text (not-true (list_any ends_word text) b.1); short = short_to ID_LIMIT text b.0 }

pub decimal_stands : (n : ℕ) → n < 2 ^ 64 → Stands 255 (decimal n)
decimal_stands n h = stands_to 20 255 (decimal n) (lit≤ tt)
    (record { good = word_good (decimal n) (digits_stand (decimal n) (digits_decimal (numerals_by_value (λ ds. all_ascii_digits ds ≡ true) tells_all_ascii_digits) n h)); short = length-decimal-le 20 n (lit< tt) (omega (arith, h)) h })

letter_stands : (k : Kind) → Stands 255 (kind_letter k ∷ [])
letter_stands Privmsg = record { good = refl; short = lit≤ tt }
letter_stands Notice = record { good = refl; short = lit≤ tt }

-- ---- the lines of changes

second_shorter : (xs ys : List ℕ) (most : ℕ) → length (xs ++ ys) ≤ most → length ys ≤ most
second_shorter xs ys most l = omega (arith, length-append xs ys)

body_short : (m : Message) → IsLawfulMessage m → length m.body ≤ LINE_LIMIT
body_short m is =
    let behind_source = second_shorter m.source (codes " " ++ (kind_word m.kind ++ (codes " " ++ (m.target ++ (codes " :" ++ m.body))))) LINE_LIMIT
    (second_shorter (codes ":") _ LINE_LIMIT is.within_limit) in
    let behind_kind = second_shorter (kind_word m.kind) (codes " " ++ (m.target ++ (codes " :" ++ m.body))) LINE_LIMIT
    (second_shorter (codes " ") _ LINE_LIMIT behind_source) in
    let behind_target = second_shorter m.target (codes " :" ++ m.body) LINE_LIMIT
    (second_shorter (codes " ") _ LINE_LIMIT behind_kind) in
    second_shorter (codes " :") m.body LINE_LIMIT behind_target

moment_fits : (t : ℕ) → t ≤ greatest → t < 2 ^ 64
moment_fits t h = omega (arith, h)

moment_stands : (at : Option ℕ) → IfSome at (λ t. t ≤ greatest) → Stands 255 (moment_text at)
moment_stands None h = record { good = refl; short = lit≤ tt }
moment_stands (Some t) h = decimal_stands t (moment_fits t h)

-- the words by which a change's line begins
buffer_words_stand : (b : Buffer) (kind : List ℕ) (more : List (List ℕ)) → IsLawfulBuffer b → Stands 255 kind → AllByRecursion (Stands 255) more
    → AllByRecursion (Stands 255) (buffer_words kind b more)
buffer_words_stand b kind more is k all = (record { good = refl; short = lit≤ tt }, (k, (name_stands b.account is.account, (name_stands b.network is.network, (target_stands b.target is.target, all)))))

tags_stand : (tags : List ℕ) → MayBeTags tags → Stands TAGS_LIMIT tags
tags_stand tags may = elim may [
  | inl e ↦ subst (Stands TAGS_LIMIT) (sym e) (record { good = refl; short = lit≤ tt })
  | inr e ↦
      let a = and_parts (has_length_to TAGS_LIMIT tags && not (list_any ends_word tags)) _ e in
      let b = and_parts (has_length_to TAGS_LIMIT tags) (not (list_any ends_word tags)) a.0 in
      record { good = word_good tags (not-true (list_any ends_word tags) b.1); short = short_to TAGS_LIMIT tags b.0 }
]

-- the tags, where there are some, in front of other words
with_tags : (some : Bool) (tags : List ℕ) (more : List (List ℕ)) (n : ℕ) → Stands TAGS_LIMIT tags → Stands n (words_text more)
    → Stands (TAGS_LIMIT + 1 + n) (words_text (cond some (tags ∷ []) [] ++ more))
with_tags false tags more n t p = stands_to n (TAGS_LIMIT + 1 + n) (words_text more) (omega arith) p
with_tags true tags more n t p =
    let here = stands-append TAGS_LIMIT 1 tags (codes " ") t (record { good = refl; short = lit≤ tt }) in
    stands-append (TAGS_LIMIT + 1) n (tags ++ codes " ") (words_text more) here p

back_stands : (r : Record) → IsLawfulRecord r → Stands 512 (words_text (back_words r))
back_stands r is = words_stand (back_words r) (target_stands r.message.target is.message.lawful_target, (id_stands r.message.source is.message.lawful_source, tt))

post_word_stands : (some : Bool) → Stands 255 (cond some (codes "TPOST") (codes "POST"))
post_word_stands true = record { good = refl; short = lit≤ tt }
post_word_stands false = record { good = refl; short = lit≤ tt }

-- the words up to the kind, which stand in front of the tags
abbrev pub front_of : Record → List (List ℕ)
front_of r = buffer_words (post_word r.tags) r.buffer (r.id ∷ decimal r.at ∷ (kind_letter r.message.kind ∷ []) ∷ [])

front_stands : (r : Record) → IsLawfulRecord r → AllByRecursion (Stands 255) (front_of r)
front_stands r is =
    buffer_words_stand r.buffer (post_word r.tags) (r.id ∷ decimal r.at ∷ (kind_letter r.message.kind ∷ []) ∷ []) is.buffer
    (post_word_stands (is_filled r.tags))
    (id_stands r.id is.id, (decimal_stands r.at (moment_fits r.at is.at), (letter_stands r.message.kind, tt)))

body_stands : (m : Message) → IsLawfulMessage m → Stands 511 (58 ∷ m.body)
body_stands m is = record { good = not-true (list_any ends_line m.body) is.lawful_body; short = (let l = body_short m is in omega arith) }

post_stands : (r : Record) → IsLawfulRecord r → Stands 8000 (change_text (Post r))
post_stands r is =
    let more = tags_words r.tags ++ back_words r in
    let rest = with_tags (is_filled r.tags) r.tags (back_words r) 512 (tags_stand r.tags is.tags) (back_stands r is) in
    let words = words_stand_before (TAGS_LIMIT + 1 + 512) (front_of r) more (front_stands r is) rest in
    let most = 256 * length (front_of r) + (TAGS_LIMIT + 1 + 512) in
    stands_to (most + 511) 8000 (change_text (Post r)) (lit≤ tt)
    (stands-append most 511 (words_text (front_of r ++ more)) (58 ∷ r.message.body) words (body_stands r.message is.message))

-- the words of a line, and what stands behind them
line_stands : (ws : List (List ℕ)) (last : List ℕ) → length ws ≤ 10 → AllByRecursion (Stands 255) ws → Stands 511 last → Stands 8000 (words_text ws ++ last)
line_stands ws last l all p =
    stands_to (256 * length ws + 511) 8000 (words_text ws ++ last) (omega arith) (stands-append (256 * length ws) 511 (words_text ws) last (words_stand ws all) p)

pub change_stands : (c : change.Change) → IsLawfulChange c → Stands 8000 (change_text c)
change_stands (Post r) is = post_stands r is
change_stands (Redact b m at) is =
    line_stands (buffer_words (codes "REDACT") b (m ∷ [])) (moment_text at) (lit≤ tt)
    (buffer_words_stand b (codes "REDACT") (m ∷ []) is.0 (record { good = refl; short = lit≤ tt }) (id_stands m is.1, tt))
    (stands_to 255 511 (moment_text at) (lit≤ tt) (moment_stands at is.2))
change_stands (Mark b at) is =
    line_stands (buffer_words (codes "MARK") b []) (decimal at) (lit≤ tt)
    (buffer_words_stand b (codes "MARK") [] is.0 (record { good = refl; short = lit≤ tt }) tt)
    (stands_to 255 511 (decimal at) (lit≤ tt) (decimal_stands at (moment_fits at is.1)))
change_stands (Floor b at) is =
    line_stands (buffer_words (codes "FLOOR") b []) (decimal at) (lit≤ tt)
    (buffer_words_stand b (codes "FLOOR") [] is.0 (record { good = refl; short = lit≤ tt }) tt)
    (stands_to 255 511 (decimal at) (lit≤ tt) (decimal_stands at (moment_fits at is.1)))
change_stands (AccountFloor a at) is =
    line_stands (account_words a) (decimal at) (lit≤ tt)
    (record { good = refl; short = lit≤ tt }, (record { good = refl; short = lit≤ tt }, (name_stands a is.0, tt)))
    (stands_to 255 511 (decimal at) (lit≤ tt) (decimal_stands at (moment_fits at is.1)))
