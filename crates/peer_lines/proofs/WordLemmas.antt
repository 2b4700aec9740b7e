-- Words that no space stands in, and where a line is cut behind its first word.
use Rattle.std.proofs.Common.{◌≡◌, ℕ, ◌^◌, ◌<◌, Bool, true, false, ◌||◌, ◌&&◌, List, [], ◌∷◌, ◌++◌, codes, length, refl, sym, ap, ◌∙◌, subst, arith, append_assoc}
use Rattle.std.specs.Prelude.{nat_lt, not}
use Rattle.std.specs.List.{list_any, list_all}
use Rattle.std.specs.Fmt.{decimal}
use Rattle.std.specs.Str.{all_ascii_digits}
use Rattle.std.specs.Char.{is_ascii_digit}
use Rattle.std.proofs.lemmas.Fmt.{decimal_is_IsNumeral, digits_decimal}
use Rattle.std.proofs.lemmas.Str.Parse.{numerals_by_value, tells_all_ascii_digits}
use Rattle.std.proofs.lemmas.Bool.{false≢true, lt-ltb, ltb-true}
use Rattle.std.proofs.lemmas.Bool.Decides.{nat_tests}
use Rattle.byte_text.specs.Words.{ends_word}
use Rattle.change_lines.specs.Words.{is_space, word, behind}
use Rattle.change_lines.proofs.CallerLemmas.{word_of, behind_of, rejoined, all_but}
use Rattle.cluster_directory.specs.Names.{is_node_byte, is_node_name, is_shared_word}

-- ---- a word ends at the first space, and what stands behind it was behind one space

pub word_spaced : (w rest : List ℕ) → list_any is_space w ≡ false → word (w ++ 32 ∷ rest) ≡ w
word_spaced w rest e = ap word (sym (append_assoc w (codes " ") rest)) ∙ word_of w rest e

pub behind_spaced : (w rest : List ℕ) → list_any is_space w ≡ false → behind (w ++ 32 ∷ rest) ≡ rest
behind_spaced w rest e = ap behind (sym (append_assoc w (codes " ") rest)) ∙ behind_of w rest e

pub spelled_by_words : (bytes : List ℕ) → 0 < length (behind bytes) → word bytes ++ 32 ∷ behind bytes ≡ bytes
spelled_by_words bytes h = sym (append_assoc (word bytes) (codes " ") (behind bytes)) ∙ rejoined bytes (lt-ltb 0 (length (behind bytes)) h)

-- ---- words that end nowhere within

any_weaker : (p q : ℕ → Bool) → ((b : ℕ) → q b ≡ true → p b ≡ true) → (w : List ℕ) → list_any p w ≡ false → list_any q w ≡ false
any_weaker p q h [] e = refl
any_weaker p q h (b ∷ bs) e =
    elim (q b) as (λ s. q b ≡ s → (s || list_any q bs) ≡ false) [
      | true ↦ λ s. (let t = h b s in let f : (true || list_any p bs) ≡ false = subst (λ x. (x || list_any p bs) ≡ false) t e in (cc))
      | false ↦ λ s. any_weaker p q h bs (elim (p b) as (λ t. (t || list_any p bs) ≡ false → list_any p bs ≡ false) [ true ↦ λ f. (cc) | false ↦ λ f. f ] e)
    ] refl

-- the bytes are a word: they are some, and none of them ends one
pub record IsWord (w : List ℕ) : Type 0 where
  pub some : 0 < length w
  pub whole : list_any ends_word w ≡ false

space_ends : (b : ℕ) → is_space b ≡ true → ends_word b ≡ true
space_ends b e = grind (arith, nat_tests)

pub no_space : (w : List ℕ) → list_any ends_word w ≡ false → list_any is_space w ≡ false
no_space w e = any_weaker ends_word is_space space_ends w e

node_byte_stands : (b : ℕ) → is_node_byte b ≡ true → ends_word b ≡ false
node_byte_stands b e = grind (arith, nat_tests)

name_parts : (a b c : Bool) → (a && b && c) ≡ true → (a ≡ true) × (c ≡ true)
name_parts true true c e = (refl, e)
name_parts true false c e = absurd (false≢true e)
name_parts false b c e = absurd (false≢true e)

pub name_is_word : (w : List ℕ) → is_node_name w ≡ true → IsWord w
name_is_word w e =
    let parts = name_parts (nat_lt 0 (length w)) _ (list_all is_node_byte w) e in
    record { some = ltb-true _ _ parts.0; whole = all_but is_node_byte ends_word node_byte_stands w parts.1 }

not_true : (a : Bool) → not a ≡ true → a ≡ false
not_true true e = absurd (false≢true e)
not_true false e = refl

pub shared_is_word : (w : List ℕ) → is_shared_word w ≡ true → IsWord w
shared_is_word w e =
    let parts = name_parts (nat_lt 0 (length w)) _ (not (list_any ends_word w)) e in
    record { some = ltb-true _ _ parts.0; whole = not_true _ parts.1 }

-- ---- numbers

digit_stands : (b : ℕ) → is_ascii_digit b ≡ true → ends_word b ≡ false
digit_stands b e = grind (arith, nat_tests)

digits_stand : (w : List ℕ) → all_ascii_digits w ≡ true → list_any ends_word w ≡ false
digits_stand [] e = refl
digits_stand (b ∷ bs) e =
    elim (is_ascii_digit b) as (λ t. is_ascii_digit b ≡ t → (t && all_ascii_digits bs) ≡ true → (ends_word b || list_any ends_word bs) ≡ false) [
      | true ↦ λ t f. ap (λ x. x || list_any ends_word bs) (digit_stands b t) ∙ digits_stand bs f
      | false ↦ λ t f. (cc)
    ] refl e

pub decimal_is_word : (n : ℕ) → n < 2 ^ 64 → IsWord (decimal n)
decimal_is_word n h = record {
  some = (decimal_is_IsNumeral n h).0.0;
  whole = digits_stand (decimal n) (digits_decimal (numerals_by_value (λ ds. all_ascii_digits ds ≡ true) tells_all_ascii_digits) n h);
}
