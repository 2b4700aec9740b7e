use Rattle.std.proofs.Common.{◌≡◌, ℕ, ◌≤◌, Option, Some, None, List, sym, ap, ◌∙◌, arith}
use Rattle.std.specs.Prelude.{IsSome, IfSome, ◌↔◌}
use Rattle.std.proofs.lemmas.Bool.{false≢true}
use Rattle.irc_time.specs.Time.{greatest}
use Rattle.byte_text.specs.Number.{number_to}
use Rattle.byte_text.proofs.CallerLemmas.{number_spelled}
use Rattle.change_lines.proofs.moment.moment_of.Goals as goal

some_is : (o : Option ℕ) (n : ℕ) → IsSome o → IfSome o (λ m. m ≡ n) → o ≡ Some n
some_is None n h e = absurd (false≢true h)
some_is (Some m) n h e = ap Some e

made : (o : Option ℕ) (n : ℕ) (text : List ℕ) → Some n ≡ number_to greatest text → (IsSome o ↔ (n ≤ greatest)) → IfSome o (λ m. m ≡ n) → o ≡ number_to greatest text
made o n text is some value =
    some_is o n (some.1 (number_spelled greatest n text (omega arith) (sym is)).0) value ∙ is

pub returns-in-Some : goal.returns-in-Some
returns-in-Some c = made c.from_ms.result c.in-Some.ms c.args.text.now c.in-Some.ensures c.from_ms.ensures.some c.from_ms.ensures.value
