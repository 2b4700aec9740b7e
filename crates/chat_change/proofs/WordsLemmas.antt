-- Folding keeps a target a target, and changes nothing that is folded.
use Rattle.std.proofs.Common.{◌≡◌, ◌<◌, ℕ, not, ◌&&◌, ◌||◌, ◌==◌, nat_lt, nat_le, List, [], ◌∷◌, length, refl, arith, lit<}
use Rattle.std.specs.Char.{to_ascii_lowercase}
use Rattle.std.specs.List.{list_any}
use Rattle.std.proofs.lemmas.List.{length-map}
use Rattle.std.proofs.lemmas.Bool.Decides.{nat_tests}
use Rattle.byte_text.specs.Bytes.{begins_with}
use Rattle.chat_change.specs.Words.{lower_case_of, ends_target, is_target}
use Rattle.chat_change.specs.declared.words.TheConstants.{TARGET_LIMIT}

ends_target-lower : (b : ℕ) → ends_target (to_ascii_lowercase b) ≡ ends_target b
ends_target-lower b = grind (arith, nat_tests)

other-lower : (c b : ℕ) → c < 65 → (to_ascii_lowercase b == c) ≡ (b == c)
other-lower c b h = grind (arith, nat_tests)

lower-twice : (b : ℕ) → to_ascii_lowercase (to_ascii_lowercase b) ≡ to_ascii_lowercase b
lower-twice b = grind (arith, nat_tests)

list_any-lower : (text : List ℕ) → list_any ends_target (lower_case_of text) ≡ list_any ends_target text
list_any-lower [] = refl
list_any-lower (b ∷ text) = λ i. ends_target-lower b i || list_any-lower text i

begins_with-lower : (c : ℕ) (text : List ℕ) → c < 65 → begins_with c (lower_case_of text) ≡ begins_with c text
begins_with-lower c [] h = refl
begins_with-lower c (b ∷ text) h = other-lower c b h

pub lower_case_of-twice : (text : List ℕ) → lower_case_of (lower_case_of text) ≡ lower_case_of text
lower_case_of-twice [] = refl
lower_case_of-twice (b ∷ text) = λ i. lower-twice b i ∷ lower_case_of-twice text i

pub is_target-lower_case_of : (text : List ℕ) → is_target (lower_case_of text) ≡ is_target text
is_target-lower_case_of text =
    let n : length (lower_case_of text) ≡ length text = length-map text to_ascii_lowercase in
    let e = list_any-lower text in
    let c = begins_with-lower 58 text (lit< tt) in
    let s = begins_with-lower 42 text (lit< tt) in
    λ i. (nat_lt 0 (n i) && nat_le (n i) TARGET_LIMIT) && not (e i) && not (c i) && not ((n i == 1) && s i)
