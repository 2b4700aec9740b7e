-- What a search for a first place tells of the whole.
use Rattle.std.proofs.Common.{◌≡◌, ℕ, Bool, false, get_or, List, Option, None, Some, sym, arith}
use Rattle.std.specs.Option.{is_some}
use Rattle.std.specs.List.{list_any}
use Rattle.std.proofs.lemmas.List.Folds.{list_any_none, list_any_at}
use Rattle.std.proofs.lemmas.List.Elements.{All-from_get_or}
use Rattle.std.proofs.lemmas.Bool.{false_from_ne_true}
use Rattle.memchr.specs.Find.{IsFirstByte}

-- a place is found exactly where some byte passes the test
pub found_is_any : (test : ℕ → Bool) (bytes : List ℕ) (r : Option ℕ) → IsFirstByte test bytes r → is_some r ≡ list_any test bytes
found_is_any test bytes None h = sym (list_any_none test bytes (All-from_get_or (λ b. test b ≡ false) bytes 0 (λ k below. false_from_ne_true (test (get_or bytes k 0)) (h k (omega arith) below))))
found_is_any test bytes (Some at) h = sym (list_any_at test bytes at 0 h.0.high h.1)
