-- Lawful fields may stand in a line.
use Rattle.std.proofs.Common.{◌≡◌, ℕ, ◌<◌, ◌≤◌, Bool, true, false, ◌&&◌, ◌||◌, ◌==◌, not, nat_lt, nat_le, List, [], ◌∷◌, length, cond, codes, refl, sym, subst, inl, inr, arith, lit≤}
use Rattle.std.specs.List.{list_any}
use Rattle.std.proofs.lemmas.Bool.{and_parts, or_parts, ltb-true, leb-true, not-true}
use Rattle.byte_text.specs.Bytes.{begins_with as begins_with_byte, colon, ends_line, space}
use Rattle.irc_line.specs.Line.{is_command, HasNoSpace}
use Rattle.irc_line.specs.CanStand.{HasNoBadByte, CanBeSource}
use Rattle.irc_line.proofs.CallerLemmas.{no_space_from, middle_from}
use Rattle.irc_tags.specs.ClientOnly.{is_client_only_text}
use Rattle.irc_reply.specs.Echo.{can_be_echoed, echoed}
use Rattle.irc_reply.specs.Standing.{IsWordTo, target_limit, word_limit}
use Rattle.chat_change.specs.declared.words.TheConstants.{TARGET_LIMIT, ID_LIMIT, TAGS_LIMIT}
use Rattle.chat_change.specs.declared.message.Kind.{Kind}
use Rattle.chat_change.specs.declared.message.Kind.TheVariants.{Privmsg, Notice}
use Rattle.chat_change.specs.Message.{kind_word}
use Rattle.byte_text.specs.Words.{has_length_to, ends_word}
use Rattle.chat_change.specs.Words.{begins_with_colon, ends_target, is_star, is_target, is_id, is_body, MayBeTags}

any_weaker : (p q : ℕ → Bool) → ((b : ℕ) → p b ≡ false → q b ≡ false) → (text : List ℕ) → list_any p text ≡ false → list_any q text ≡ false
any_weaker p q h [] e = refl
any_weaker p q h (b ∷ text) e =
    let both = or_parts (p b) (list_any p text) e in
    (λ i. h b both.0 i || any_weaker p q h text both.1 i)

-- bytes that end no word may stand in one
word_bytes : (text : List ℕ) → list_any ends_word text ≡ false → HasNoSpace text × HasNoBadByte text
word_bytes text e = (
  no_space_from text (any_weaker ends_word (λ b. b == 32) (λ b f. (or_parts (ends_line b) (b == 32) f).1) text e),
  any_weaker ends_word ends_line (λ b f. (or_parts (ends_line b) (b == 32) f).0) text e,
)

no_colon : (text : List ℕ) → begins_with_colon text ≡ false → begins_with_byte colon text ≡ false
no_colon [] e = refl
no_colon (b ∷ text) e = e

some_to : (most : ℕ) (text : List ℕ) → has_length_to most text ≡ true → (0 < length text) × (length text ≤ most)
some_to most text e =
    let both = and_parts (nat_lt 0 (length text)) (nat_le (length text) most) e in
    (ltb-true 0 (length text) both.0, leb-true (length text) most both.1)

pub target_word : (text : List ℕ) → is_target text ≡ true → IsWordTo target_limit text
target_word text e =
    let a = and_parts (has_length_to TARGET_LIMIT text && not (list_any ends_target text) && not (begins_with_colon text)) (not (is_star text)) e in
    let b = and_parts (has_length_to TARGET_LIMIT text && not (list_any ends_target text)) (not (begins_with_colon text)) a.0 in
    let c = and_parts (has_length_to TARGET_LIMIT text) (not (list_any ends_target text)) b.0 in
    let size = some_to TARGET_LIMIT text c.0 in
    let bytes = word_bytes text (any_weaker ends_target ends_word (λ b f. (or_parts (ends_word b) (b == 44) f).0) text (not-true (list_any ends_target text) c.1)) in
    ((size.0, no_colon text (not-true (begins_with_colon text) b.1), bytes.0, bytes.1), size.1)

-- an id, and a source
pub id_bytes : (text : List ℕ) → is_id text ≡ true → CanBeSource text × (length text ≤ ID_LIMIT)
id_bytes text e =
    let a = and_parts (has_length_to ID_LIMIT text && not (list_any ends_word text)) (not (begins_with_colon text)) e in
    let b = and_parts (has_length_to ID_LIMIT text) (not (list_any ends_word text)) a.0 in
    let size = some_to ID_LIMIT text b.0 in
    let bytes = word_bytes text (not-true (list_any ends_word text) b.1) in
    ((size.0, bytes.0, bytes.1), size.1)

-- a record's own tags
pub own_bytes : (text : List ℕ) → MayBeTags text → (HasNoSpace text × HasNoBadByte text) × (length text ≤ TAGS_LIMIT)
own_bytes text (inl none) = subst (λ l. (HasNoSpace l × HasNoBadByte l) × (length l ≤ TAGS_LIMIT)) (sym none) ((tt, refl), lit≤ tt)
own_bytes text (inr is) =
    let a = and_parts (has_length_to TAGS_LIMIT text && not (list_any ends_word text)) (is_client_only_text text) is in
    let b = and_parts (has_length_to TAGS_LIMIT text) (not (list_any ends_word text)) a.0 in
    (word_bytes text (not-true (list_any ends_word text) b.1), (some_to TAGS_LIMIT text b.0).1)

pub body_stands : (text : List ℕ) → is_body text ≡ true → HasNoBadByte text
body_stands text e = not-true (list_any ends_line text) e

pub kind_is_command : (kind : Kind) → is_command (kind_word kind) ≡ true
kind_is_command Privmsg = refl
kind_is_command Notice = refl

-- a word that is repeated
some_bytes : (text : List ℕ) → not (length text == 0) ≡ true → 0 < length text
some_bytes text e = grind arith

pub echoed_word : (word : List ℕ) → HasNoBadByte word → IsWordTo word_limit (echoed word)
echoed_word word good = go (can_be_echoed word) refl where
  go : (t : Bool) → can_be_echoed word ≡ t → IsWordTo word_limit (cond t word (codes "*"))
  go true e =
      let a = and_parts (not (length word == 0) && nat_le (length word) 64 && not (begins_with_byte colon word)) (not (list_any (λ b. b == space) word)) e in
      let b = and_parts (not (length word == 0) && nat_le (length word) 64) (not (begins_with_byte colon word)) a.0 in
      let c = and_parts (not (length word == 0)) (nat_le (length word) 64) b.0 in (
        (some_bytes word c.0, not-true (begins_with_byte colon word) b.1, no_space_from word (not-true (list_any (λ b. b == space) word) a.1), good),
        leb-true (length word) 64 c.1,
      )
  go false e = (middle_from (codes "*") refl, lit≤ tt)
