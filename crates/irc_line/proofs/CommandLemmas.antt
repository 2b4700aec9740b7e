-- What the bytes of a command are not.
use Rattle.std.proofs.Common.{◌≡◌, ℕ, ◌<◌, ◌≤◌, Bool, true, false, nat_lt, List, [], ◌∷◌, ◌++◌, length, refl, ap, ◌∙◌, arith, ⊎_elim}
use Rattle.std.specs.Prelude.{◌==◌, ◌&&◌, ◌||◌, nat_le}
use Rattle.std.specs.List.{AllByRecursion, list_any, list_all}
use Rattle.std.proofs.lemmas.Bool.{and_parts, or_cases, ltb-true, leb-true, ne_eqb, eqb-true}
use Rattle.byte_text.specs.Bytes.{begins_with, colon, ends_line, space}
use Rattle.byte_text.specs.Number.{is_digit}
use Rattle.irc_line.specs.Line.{at_sign, is_letter, is_command, HasNoSpace}

-- a byte that is no space, no colon, no at-sign, and none that a line may not hold
pub record IsPlain (b : ℕ) : Type 0 where
  pub no_space : (b == space) ≡ false
  pub no_colon : (b == colon) ≡ false
  pub no_at : (b == at_sign) ≡ false
  pub no_bad : ends_line b ≡ false

plain_at : (b : ℕ) → 48 ≤ b → (b ≡ 58 → ⊥) → (b ≡ 64 → ⊥) → IsPlain b
plain_at b above p q =
    let one : (b == 0) ≡ false = ne_eqb b 0 (λ e. omega arith) in
    let two : (b == 10) ≡ false = ne_eqb b 10 (λ e. omega arith) in
    let three : (b == 13) ≡ false = ne_eqb b 13 (λ e. omega arith) in
    record {
      no_space = ne_eqb b space (λ e. omega arith);
      no_colon = ne_eqb b colon p;
      no_at = ne_eqb b at_sign q;
      no_bad = ap (λ t. t || (b == 10) || (b == 13)) one ∙ ap (λ t. false || t || (b == 13)) two ∙ ap (λ t. false || false || t) three;
    }

digit_plain : (b : ℕ) → is_digit b ≡ true → IsPlain b
digit_plain b e =
    let p = and_parts (nat_le 48 b) (nat_le b 57) e in
    let low = leb-true 48 b p.0 in
    let high = leb-true b 57 p.1 in
    plain_at b low (λ same. omega arith) (λ same. omega arith)

letter_plain : (b : ℕ) → is_letter b ≡ true → IsPlain b
letter_plain b e = ⊎_elim
    (λ h. (let p = and_parts (nat_le 65 b) (nat_le b 90) h in
    let low = leb-true 65 b p.0 in
    plain_at b (omega arith) (λ same. omega arith) (λ same. omega arith)))
    (λ h. (let p = and_parts (nat_le 97 b) (nat_le b 122) h in
    let low = leb-true 97 b p.0 in
    plain_at b (omega arith) (λ same. omega arith) (λ same. omega arith)))
    (or_cases (nat_le 65 b && nat_le b 90) (nat_le 97 b && nat_le b 122) e)

all_plain : (p : ℕ → Bool) → ((b : ℕ) → p b ≡ true → IsPlain b) → (text : List ℕ) → list_all p text ≡ true → AllByRecursion IsPlain text
all_plain p plain [] e = tt
all_plain p plain (b ∷ text) e = let both = and_parts (p b) (list_all p text) e in (plain b both.0, all_plain p plain text both.1)

pub record IsPlainText (text : List ℕ) : Type 0 where
  pub some : 0 < length text
  pub plain : AllByRecursion IsPlain text

pub command_plain : (text : List ℕ) → is_command text ≡ true → IsPlainText text
command_plain text e = ⊎_elim
    (λ h. (let p = and_parts (nat_lt 0 (length text)) (list_all is_letter text) h in record { some = ltb-true 0 (length text) p.0; plain = all_plain is_letter letter_plain text p.1 }))
    (λ h. (let p = and_parts (length text == 3) (list_all is_digit text) h in
    let three = eqb-true (length text) 3 p.0 in
    record { some = omega arith; plain = all_plain is_digit digit_plain text p.1 }))
    (or_cases (nat_lt 0 (length text) && list_all is_letter text) ((length text == 3) && list_all is_digit text) e)

pub plain_no_space : (text : List ℕ) → AllByRecursion IsPlain text → HasNoSpace text
plain_no_space [] p = tt
plain_no_space (b ∷ text) p = (p.0.no_space, plain_no_space text p.1)

pub plain_no_bad : (text : List ℕ) → AllByRecursion IsPlain text → list_any ends_line text ≡ false
plain_no_bad [] p = refl
plain_no_bad (b ∷ text) p = ap (λ t. t || list_any ends_line text) p.0.no_bad ∙ plain_no_bad text p.1

pub plain_begins : (text rest : List ℕ) → IsPlainText text → (begins_with space (text ++ rest) ≡ false) × (begins_with colon (text ++ rest) ≡ false) × (begins_with at_sign (text ++ rest) ≡ false)
plain_begins [] rest p = (let none = p.some in absurd (omega arith))
plain_begins (b ∷ text) rest p = (p.plain.0.no_space, p.plain.0.no_colon, p.plain.0.no_at)
