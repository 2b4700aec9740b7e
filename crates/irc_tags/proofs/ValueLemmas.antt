-- What bytes spell a value, and that a value that is written is read back.
use Rattle.std.proofs.Common.{◌≡◌, ℕ, ◌+◌, ◌<◌, ◌≤◌, Bool, true, false, not, cond, suc, List, [], ◌∷◌, ◌++◌, length, take, drop, get_or, None, Some, position, refl, sym, ap, ◌∙◌, subst, arith, append-nil}
use Rattle.std.specs.Prelude.{◌==◌}
use Rattle.std.specs.List.{position_or_len}
use Rattle.std.proofs.lemmas.Bool.{cond-true, cond-false, eqb-true}
use Rattle.std.proofs.lemmas.List.{drop_all, drop_more}
use Rattle.std.proofs.lemmas.List.Elements.{All-head, All-tail}
use Rattle.std.proofs.lemmas.List.Sums.{passes_at_first}
use Rattle.irc_tags.specs.Value.{IsPlain, backslash, escaped_byte, value_in, byte_spelling, value_text}
use Rattle.irc_tags.proofs.CuttingLemmas.{first_place, none_passes}

-- ---- what bytes spell

pub value_in-nil : value_in [] ≡ []
unfolding value_in
value_in-nil = refl

pub value_in-plain : (b : ℕ) (bytes : List ℕ) → (b == backslash) ≡ false → value_in (b ∷ bytes) ≡ b ∷ value_in bytes
unfolding value_in
value_in-plain b [] e = cond-false (b == backslash) _ _ e
value_in-plain b (next ∷ bytes) e = cond-false (b == backslash) _ _ e

pub value_in-pair : (b next : ℕ) (bytes : List ℕ) → (b == backslash) ≡ true → value_in (b ∷ next ∷ bytes) ≡ escaped_byte next ∷ value_in bytes
unfolding value_in
value_in-pair b next bytes e = cond-true (b == backslash) _ _ e

pub value_in-last : (b : ℕ) → (b == backslash) ≡ true → value_in (b ∷ []) ≡ []
unfolding value_in
value_in-last b e = cond-true (b == backslash) _ _ e

-- ---- a value that is written

value_in-byte_text : (b : ℕ) (rest : List ℕ) → value_in (byte_spelling b ++ rest) ≡ b ∷ value_in rest
value_in-byte_text b rest = at_semicolon (b == 59) refl where
  spelled : (letter : ℕ) → b ≡ escaped_byte letter → value_in (backslash ∷ letter ∷ rest) ≡ b ∷ value_in rest
  spelled letter e = value_in-pair backslash letter rest refl ∙ ap (λ n. n ∷ value_in rest) (sym e)

  at_lf : (t : Bool) → (b == 10) ≡ t → (b == 92) ≡ false → value_in (cond t (92 ∷ 110 ∷ []) (b ∷ []) ++ rest) ≡ b ∷ value_in rest
  at_lf true e other = spelled 110 (eqb-true b 10 e)
  at_lf false e other = value_in-plain b rest other

  at_cr : (t : Bool) → (b == 13) ≡ t → (b == 92) ≡ false → value_in (cond t (92 ∷ 114 ∷ []) (cond (b == 10) (92 ∷ 110 ∷ []) (b ∷ [])) ++ rest) ≡ b ∷ value_in rest
  at_cr true e other = spelled 114 (eqb-true b 13 e)
  at_cr false e other = at_lf (b == 10) refl other

  at_backslash : (t : Bool) → (b == 92) ≡ t → value_in (cond t (92 ∷ 92 ∷ []) (cond (b == 13) (92 ∷ 114 ∷ []) (cond (b == 10) (92 ∷ 110 ∷ []) (b ∷ []))) ++ rest) ≡ b ∷ value_in rest
  at_backslash true e = spelled 92 (eqb-true b 92 e)
  at_backslash false e = at_cr (b == 13) refl e

  at_space : (t : Bool) → (b == 32) ≡ t → value_in (cond t (92 ∷ 115 ∷ []) (cond (b == 92) (92 ∷ 92 ∷ []) (cond (b == 13) (92 ∷ 114 ∷ []) (cond (b == 10) (92 ∷ 110 ∷ []) (b ∷ [])))) ++ rest) ≡ b ∷ value_in rest
  at_space true e = spelled 115 (eqb-true b 32 e)
  at_space false e = at_backslash (b == 92) refl

  at_semicolon : (t : Bool) → (b == 59) ≡ t
      → value_in (cond t (92 ∷ 58 ∷ []) (cond (b == 32) (92 ∷ 115 ∷ []) (cond (b == 92) (92 ∷ 92 ∷ []) (cond (b == 13) (92 ∷ 114 ∷ []) (cond (b == 10) (92 ∷ 110 ∷ []) (b ∷ []))))) ++ rest) ≡ b ∷ value_in rest
  at_semicolon true e = spelled 58 (eqb-true b 59 e)
  at_semicolon false e = at_space (b == 32) refl

pub value_in-value_text : (value : List ℕ) → value_in (value_text value) ≡ value
value_in-value_text [] = value_in-nil
value_in-value_text (b ∷ value) = value_in-byte_text b (value_text value) ∙ ap (λ l. b ∷ l) (value_in-value_text value)

-- ---- what the first backslash makes of the bytes

abbrev pub is_backslash : ℕ → Bool
is_backslash b = b == backslash

abbrev CutsAt : List ℕ → ℕ → Type 0
CutsAt bytes n = value_in bytes ≡ take n bytes ++ value_in (drop n bytes)

cuts_at_first : (bytes : List ℕ) → CutsAt bytes (position_or_len is_backslash bytes)
cuts_at_first [] = refl
cuts_at_first (b ∷ bytes) = go (b == backslash) refl (cuts_at_first bytes) where
  go : (t : Bool) → (b == backslash) ≡ t → CutsAt bytes (position_or_len is_backslash bytes) → CutsAt (b ∷ bytes) (position_or_len is_backslash (b ∷ bytes))
  go true e rest =
      let none : position_or_len is_backslash (b ∷ bytes) ≡ 0 = ap (λ t. cond (not t) (1 + position_or_len is_backslash bytes) 0) e in
      subst (CutsAt (b ∷ bytes)) (sym none) refl
  go false e rest =
      let some : position_or_len is_backslash (b ∷ bytes) ≡ suc (position_or_len is_backslash bytes) =
      ap (λ t. cond (not t) (1 + position_or_len is_backslash bytes) 0) e ∙ omega arith in
      subst (CutsAt (b ∷ bytes)) (sym some) (value_in-plain b bytes e ∙ ap (λ l. b ∷ l) rest)

-- bytes without a backslash spell themselves
pub value_in-all_plain : (bytes : List ℕ) → IsPlain bytes → value_in bytes ≡ bytes
value_in-all_plain [] plain = value_in-nil
value_in-all_plain (b ∷ bytes) plain =
    value_in-plain b bytes (All-head (λ c. (c == backslash) ≡ false) b bytes plain)
    ∙ ap (λ l. b ∷ l) (value_in-all_plain bytes (All-tail (λ c. (c == backslash) ≡ false) b bytes plain))

-- and so they do where the search for one ends
pub value_in-none : (bytes : List ℕ) → position is_backslash bytes ≡ None → value_in bytes ≡ bytes
value_in-none bytes e = value_in-all_plain bytes (none_passes is_backslash bytes e)

module _ (bytes : List ℕ) (n : ℕ) (place : position is_backslash bytes ≡ Some n) where
  -- a backslash
  pub from_first : (value_in bytes ≡ take n bytes ++ value_in (backslash ∷ drop (n + 1) bytes))
  from_first =
      let at = first_place is_backslash bytes n place in
      let within = at.within in
      let passes : (get_or bytes n 0 == backslash) ≡ true =
      subst (λ k. is_backslash (get_or bytes k 0) ≡ true) at.place (passes_at_first is_backslash bytes 0 (subst (λ k. k < length bytes) (sym at.place) within)) in
      subst (CutsAt bytes) at.place (cuts_at_first bytes)
      ∙ ap (λ l. take n bytes ++ value_in l) (drop_more bytes n 0 within)
      ∙ ap (λ b. take n bytes ++ value_in (b ∷ drop (n + 1) bytes)) (eqb-true (get_or bytes n 0) backslash passes)

  -- a backslash and the byte behind it
  pub value_in-first_pair : (next : ℕ) → n + 1 < length bytes → next ≡ get_or bytes (n + 1) next → value_in bytes ≡ take n bytes ++ escaped_byte next ∷ value_in (drop (n + 2) bytes)
  value_in-first_pair next within e =
      let behind : drop (n + 1) bytes ≡ next ∷ drop (n + 2) bytes =
      drop_more bytes (n + 1) next within ∙ ap (λ b. b ∷ drop (n + 1 + 1) bytes) (sym e) ∙ ap (λ k. next ∷ drop k bytes) (omega arith) in
      from_first ∙ ap (λ l. take n bytes ++ value_in (backslash ∷ l)) behind ∙ ap (λ l. take n bytes ++ l) (value_in-pair backslash next (drop (n + 2) bytes) refl)

  -- a backslash at the end
  pub value_in-first_last : length bytes ≤ n + 1 → value_in bytes ≡ take n bytes
  value_in-first_last past =
      from_first ∙ ap (λ l. take n bytes ++ value_in (backslash ∷ l)) (drop_all (n + 1) bytes past) ∙ ap (λ l. take n bytes ++ l) (value_in-last backslash refl) ∙ append-nil (take n bytes)
