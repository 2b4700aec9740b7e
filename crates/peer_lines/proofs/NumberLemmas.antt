-- A number is read of its decimal digits, and of no other text; so is a version.
use Rattle.std.proofs.Common.{◌≡◌, ℕ, ◌<◌, ◌-◌, ◌^◌, true, false, cond, Some, None, List, refl, sym, ap, ◌∙◌, arith, lit<}
use Rattle.std.proofs.lemmas.Bool.Decides.{nat_tests}
use Rattle.std.specs.Prelude.{◌==◌}
use Rattle.std.specs.Option.{option_and_then}
use Rattle.std.specs.Fmt.{decimal}
use Rattle.byte_text.proofs.CallerLemmas.{number_read, number_spelled}
use Rattle.cluster_directory.specs.Version.{number, of_number}
use Rattle.peer_lines.specs.Reading.{number_of, version_of}
use Rattle.cluster_directory.specs.declared.version.Version.{Version}
use Rattle.cluster_directory.specs.declared.version.Version.TheVariants.{One, Two, Three}

pub number_of-decimal : (n : ℕ) → n < 2 ^ 64 → number_of (decimal n) ≡ Some n
number_of-decimal n h = number_read n h (2 ^ 64 - 1) (omega (arith, h))

pub read_number : (text : List ℕ) (n : ℕ) → number_of text ≡ Some n → (decimal n ≡ text) × (n < 2 ^ 64)
read_number text n e =
    let r = number_spelled (2 ^ 64 - 1) n text (lit< tt) e in
    let most = r.0 in
    (sym r.1, omega (arith, most))

-- ---- versions

pub number_fits : (v : Version) → number v < 2 ^ 64
number_fits One = lit< tt
number_fits Two = lit< tt
number_fits Three = lit< tt

of_own_number : (v : Version) → of_number (number v) ≡ Some v
of_own_number One = refl
of_own_number Two = refl
of_own_number Three = refl

pub version_of-decimal : (v : Version) → version_of (decimal (number v)) ≡ Some v
version_of-decimal v = ap (option_and_then of_number) (number_of-decimal (number v) (number_fits v)) ∙ of_own_number v

equal_is : (a b : ℕ) → (a == b) ≡ true → b ≡ a
equal_is a b e = grind (arith, nat_tests)

numbered : (n : ℕ) (v : Version) → of_number n ≡ Some v → number v ≡ n
numbered n v =
    elim (n == 1) as (λ b. (n == 1) ≡ b → cond b (Some One) (cond (n == 2) (Some Two) (cond (n == 3) (Some Three) None)) ≡ Some v → number v ≡ n) [
      | true ↦ λ b e. let own : One ≡ v = cc e in ap number (sym own) ∙ equal_is n 1 b
      | false ↦ λ _. elim (n == 2) as (λ b. (n == 2) ≡ b → cond b (Some Two) (cond (n == 3) (Some Three) None) ≡ Some v → number v ≡ n) [
        | true ↦ λ b e. let own : Two ≡ v = cc e in ap number (sym own) ∙ equal_is n 2 b
        | false ↦ λ _. elim (n == 3) as (λ b. (n == 3) ≡ b → cond b (Some Three) None ≡ Some v → number v ≡ n) [
          | true ↦ λ b e. let own : Three ≡ v = cc e in ap number (sym own) ∙ equal_is n 3 b
          | false ↦ λ _ e. cc e
        ] refl
      ] refl
    ] refl

pub read_version : (text : List ℕ) (v : Version) → version_of text ≡ Some v → decimal (number v) ≡ text
read_version text v =
    elim (number_of text) as (λ o. number_of text ≡ o → option_and_then of_number o ≡ Some v → decimal (number v) ≡ text) [
      | None ↦ λ _ e. cc e
      | Some n ↦ λ is e. ap decimal (numbered n v e) ∙ (read_number text n is).0
    ] refl
