-- What the crates above may name of these proofs: texts written one after another, looks at parts of a text,
-- numbers, and the order of texts.
use Rattle.std.proofs.Common.{◌≡◌, ℕ, List, [], ◌++◌, Option, Result, Ok, Err, refl, sym, ap, ◌∙◌, append_assoc, subst}
use Rattle.std.specs.Prelude.{IsErrAnd}
use Rattle.std.specs.Io.KnownBytes.{Appends}
use Rattle.std.proofs.KnownBytes.{Appends-trans, Appends-nil}
use Rattle.byte_text.specs.Writes.{AppendsPrefix, WritesKnown}
-- a text for each item of a list
pub use Rattle.byte_text.proofs.TextsLemmas.{texts_at, texts_through, own_texts_at, own_texts_through}
-- looks at parts of a text
pub use Rattle.byte_text.proofs.LookLemmas.{any_behind, any_within, both_ends}
-- what a search for a first byte tells of the whole
pub use Rattle.byte_text.proofs.FoundLemmas.{found_is_any}
-- the order of texts is total, and only equal texts tie
pub use Rattle.byte_text.proofs.OrderLemmas.{text_total, text_exact}
-- a number has one spelling, its decimal digits; the number that digits spell, digit by digit
pub use Rattle.byte_text.proofs.NumberLemmas.{decimal_digits, number_read, number_spelled, one_digit_more}

-- a prefix of the first text is one of both
pub prefix_of_first : (a b : Option (List ℕ)) (xs ys : List ℕ) → AppendsPrefix a b xs → AppendsPrefix a b (xs ++ ys)
prefix_of_first a b xs ys p = (p.0, p.1 ++ ys, ap (λ l. l ++ ys) p.2 ∙ append_assoc p.0 p.1 ys, p.3)

-- the first text and a prefix of the second are a prefix of both
pub prefix_of_second : (a b c : Option (List ℕ)) (xs ys : List ℕ) → Appends a b xs → AppendsPrefix b c ys → AppendsPrefix a c (xs ++ ys)
prefix_of_second a b c xs ys p q = (xs ++ q.0, q.1, ap (λ l. xs ++ l) q.2 ∙ sym (append_assoc xs q.0 q.1), Appends-trans a b c xs q.0 p q.3)

-- two texts in turn
pub writes_second : {T E : Type 0} (a b c : Option (List ℕ)) (xs ys : List ℕ) (r : Result T E) → Appends a b xs → WritesKnown b c r ys → WritesKnown a c r (xs ++ ys)
writes_second a b c xs ys (Ok x) p q = Appends-trans a b c xs ys p q
writes_second a b c xs ys (Err e) p q = prefix_of_second a b c xs ys p q

-- what was written is what was to be written, under another spelling
pub prefix_same : (a b : Option (List ℕ)) (xs ys : List ℕ) → xs ≡ ys → AppendsPrefix a b xs → AppendsPrefix a b ys
prefix_same a b xs ys e p = (p.0, p.1, sym e ∙ p.2, p.3)

-- nothing written is a prefix
pub prefix_none : (a : Option (List ℕ)) (xs : List ℕ) → AppendsPrefix a a xs
prefix_none a xs = ([], xs, refl, Appends-nil a)

-- what a `?` returns where a write failed
pub writes_failed : {T E : Type 0} (Q : E → Type 0) (a b : Option (List ℕ)) (text : List ℕ) (r : Result T E) → IsErrAnd r Q → AppendsPrefix a b text → WritesKnown a b r text
writes_failed Q a b text (Ok x) e p = absurd e
writes_failed Q a b text (Err y) e p = p

-- a text under another spelling
pub writes_same : {T E : Type 0} (a b : Option (List ℕ)) (xs ys : List ℕ) (r : Result T E) → xs ≡ ys → WritesKnown a b r xs → WritesKnown a b r ys
writes_same a b xs ys r e p = subst (λ l. WritesKnown a b r l) e p
