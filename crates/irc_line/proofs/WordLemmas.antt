-- Words that may stand in a line, by tests of their bytes.
use Rattle.std.proofs.Common.{◌≡◌, ℕ, ◌≤◌, Bool, true, false, nat_lt, List, [], ◌∷◌, length, refl, ap, ◌∙◌, arith}
use Rattle.std.specs.Prelude.{◌==◌, ◌&&◌, ◌||◌, not}
use Rattle.std.specs.List.{AllByRecursion, list_any}
use Rattle.std.proofs.lemmas.Bool.{and_parts, or_parts, ltb-true, not-true, ne_eqb}
use Rattle.byte_text.specs.Bytes.{begins_with, colon, ends_line, space}
use Rattle.irc_line.specs.Line.{HasNoSpace}
use Rattle.irc_line.specs.CanStand.{HasNoBadByte, CanBeMiddle}

pub no_space_from : (text : List ℕ) → list_any (λ b. b == space) text ≡ false → HasNoSpace text
no_space_from [] e = tt
no_space_from (b ∷ text) e = (let both = or_parts (b == space) (list_any (λ b. b == space) text) e in (both.0, no_space_from text both.1))

-- some bytes, no colon in front, no space, NUL, CR or LF
abbrev pub is_middle : List ℕ → Bool
is_middle text = nat_lt 0 (length text) && (not (begins_with colon text) && (not (list_any (λ b. b == space) text) && not (list_any ends_line text)))

pub middle_from : (text : List ℕ) → is_middle text ≡ true → CanBeMiddle text
middle_from text e =
    let a = and_parts (nat_lt 0 (length text)) _ e in
    let b = and_parts (not (begins_with colon text)) _ a.1 in
    let c = and_parts (not (list_any (λ b. b == space) text)) _ b.1 in
    (ltb-true 0 (length text) a.0, not-true (begins_with colon text) b.0, no_space_from text (not-true (list_any (λ b. b == space) text) c.0), not-true (list_any ends_line text) c.1)

-- ---- bytes above a space

above_space : (b : ℕ) → 33 ≤ b → ((b == space) ≡ false) × (ends_line b ≡ false)
above_space b h =
    let one : (b == 0) ≡ false = ne_eqb b 0 (λ e. omega arith) in
    let two : (b == 10) ≡ false = ne_eqb b 10 (λ e. omega arith) in
    let three : (b == 13) ≡ false = ne_eqb b 13 (λ e. omega arith) in
    (ne_eqb b space (λ e. omega arith), (λ i. one i || two i || three i))

pub no_space_above : (text : List ℕ) → AllByRecursion (λ b. 33 ≤ b) text → HasNoSpace text
no_space_above [] p = tt
no_space_above (b ∷ text) p = ((above_space b p.0).0, no_space_above text p.1)

pub no_bad_above : (text : List ℕ) → AllByRecursion (λ b. 33 ≤ b) text → HasNoBadByte text
no_bad_above [] p = refl
no_bad_above (b ∷ text) p = ap (λ t. t || list_any ends_line text) (above_space b p.0).1 ∙ no_bad_above text p.1
