-- Which bytes of a value stand as they are written.
use Rattle.std.proofs.Common.{◌≡◌, ℕ, ◌<◌, ◌≤◌, Bool, true, false, cond, ◌&&◌, List, [], ◌∷◌, ◌++◌, Option, Result, append_assoc, length, drop, get_or, refl, sym, ap, subst, ◌∙◌, arith, inl, inr, ◌==◌}
use Rattle.std.specs.Prelude.{◌⊎◌}
use Rattle.std.specs.Io.KnownBytes.{Appends}
use Rattle.std.proofs.KnownBytes.{Appends-trans}
use Rattle.byte_text.specs.Writes.{AppendsPrefix, WritesKnown}
use Rattle.byte_text.proofs.CallerLemmas.{prefix_same, prefix_of_first, prefix_of_second, writes_second, writes_same}
use Rattle.std.proofs.lemmas.Bool.{eq-eqb, eqb-true, ne_eqb, both_ways}
use Rattle.std.proofs.lemmas.List.Concat.{flat_map-append}
use Rattle.std.proofs.lemmas.Cmp.{nat_eq_equiv}
use Rattle.std.proofs.lemmas.Slice.Eq.{bytes_eq-Decides}
use Rattle.irc_tags.specs.Value.{escaped_byte, byte_spelling, value_text, value_in}
use Rattle.irc_tags.specs.TagList.{same_bytes}
use Rattle.irc_tags.proofs.ValueLemmas.{value_in-nil, value_in-plain, value_in-pair, value_in-last}

-- the bytes are how the value that they spell is written
abbrev pub stands : List ℕ → Bool
stands bytes = same_bytes (value_text (value_in bytes)) bytes

pub stands-nil : stands [] ≡ true
stands-nil = ap (λ value. same_bytes (value_text value) []) value_in-nil

-- bytes behind one byte
pub same_behind : (b : ℕ) (xs ys : List ℕ) → same_bytes (b ∷ xs) (b ∷ ys) ≡ same_bytes xs ys
same_behind b xs ys = ap (λ t. t && same_bytes xs ys) (eq-eqb b b refl)

-- a text is the byte itself, and that is no backslash, or a backslash and another byte
abbrev IsSpelling : ℕ → List ℕ → Type 0
IsSpelling b text = ((text ≡ b ∷ []) × ((b == 92) ≡ false)) ⊎ ((x : ℕ) × (text ≡ 92 ∷ x ∷ []))

spelling_cases : (b : ℕ) → IsSpelling b (byte_spelling b)
spelling_cases b = at_semicolon (b == 59) where
  at_lf : (t : Bool) → (b == 92) ≡ false → IsSpelling b (cond t (92 ∷ 110 ∷ []) (b ∷ []))
  at_lf true other = inr (110, refl)
  at_lf false other = inl (refl, other)

  at_cr : (t : Bool) → (b == 92) ≡ false → IsSpelling b (cond t (92 ∷ 114 ∷ []) (cond (b == 10) (92 ∷ 110 ∷ []) (b ∷ [])))
  at_cr true other = inr (114, refl)
  at_cr false other = at_lf (b == 10) other

  at_backslash : (t : Bool) → (b == 92) ≡ t → IsSpelling b (cond t (92 ∷ 92 ∷ []) (cond (b == 13) (92 ∷ 114 ∷ []) (cond (b == 10) (92 ∷ 110 ∷ []) (b ∷ []))))
  at_backslash true e = inr (92, refl)
  at_backslash false e = at_cr (b == 13) e

  at_space : (t : Bool) → IsSpelling b (cond t (92 ∷ 115 ∷ []) (cond (b == 92) (92 ∷ 92 ∷ []) (cond (b == 13) (92 ∷ 114 ∷ []) (cond (b == 10) (92 ∷ 110 ∷ []) (b ∷ [])))))
  at_space true = inr (115, refl)
  at_space false = at_backslash (b == 92) refl

  at_semicolon : (t : Bool) → IsSpelling b (cond t (92 ∷ 58 ∷ []) (cond (b == 32) (92 ∷ 115 ∷ []) (cond (b == 92) (92 ∷ 92 ∷ []) (cond (b == 13) (92 ∷ 114 ∷ []) (cond (b == 10) (92 ∷ 110 ∷ []) (b ∷ []))))))
  at_semicolon true = inr (58, refl)
  at_semicolon false = at_space (b == 32)

-- a byte that is written as it is
pub stands-plain : (b : ℕ) (bytes : List ℕ) → same_bytes (byte_spelling b) (b ∷ []) ≡ true → stands (b ∷ bytes) ≡ stands bytes
stands-plain b bytes own = go (b == 92) refl where
  go : (t : Bool) → (b == 92) ≡ t → stands (b ∷ bytes) ≡ stands bytes
  go true e = absurd (both_ways (same_bytes (byte_spelling b) (b ∷ [])) (ap (λ c. same_bytes (byte_spelling c) (c ∷ [])) (eqb-true b 92 e)) own)
  go false e =
      ap (λ value. same_bytes (value_text value) (b ∷ bytes)) (value_in-plain b bytes e)
      ∙ ap (λ text. same_bytes (text ++ value_text (value_in bytes)) (b ∷ bytes)) ((bytes_eq-Decides (byte_spelling b) (b ∷ [])).0 own)
      ∙ same_behind b (value_text (value_in bytes)) bytes

-- a byte that is written with a backslash
pub stands-escaped : (b : ℕ) (bytes : List ℕ) → (b == 92) ≡ false → same_bytes (byte_spelling b) (b ∷ []) ≡ false → stands (b ∷ bytes) ≡ false
stands-escaped b bytes other changed = elim (spelling_cases b) [
  | inl (own, _) ↦ absurd (both_ways (same_bytes (byte_spelling b) (b ∷ [])) changed ((bytes_eq-Decides (byte_spelling b) (b ∷ [])).1 own))
  | inr (x, e) ↦ ap (λ value. same_bytes (value_text value) (b ∷ bytes)) (value_in-plain b bytes other)
      ∙ ap (λ text. same_bytes (text ++ value_text (value_in bytes)) (b ∷ bytes)) e
      ∙ ap (λ t. t && same_bytes (x ∷ value_text (value_in bytes)) bytes) (nat_eq_equiv.symm 92 b ∙ other)
]

-- a backslash and a byte behind it that are how a byte is written
pub stands-pair : (b next : ℕ) (bytes : List ℕ) → (b == 92) ≡ true → same_bytes (byte_spelling (escaped_byte next)) (92 ∷ next ∷ []) ≡ true
    → stands (b ∷ next ∷ bytes) ≡ stands bytes
stands-pair b next bytes e own =
    ap (λ value. same_bytes (value_text value) (b ∷ next ∷ bytes)) (value_in-pair b next bytes e)
    ∙ ap (λ text. same_bytes (text ++ value_text (value_in bytes)) (b ∷ next ∷ bytes)) ((bytes_eq-Decides (byte_spelling (escaped_byte next)) (92 ∷ next ∷ [])).0 own)
    ∙ ap (λ c. same_bytes (92 ∷ next ∷ value_text (value_in bytes)) (c ∷ next ∷ bytes)) (eqb-true b 92 e)
    ∙ same_behind next (value_text (value_in bytes)) bytes

-- and that are not
pub stands-other_pair : (b next : ℕ) (bytes : List ℕ) → (b == 92) ≡ true → same_bytes (byte_spelling (escaped_byte next)) (92 ∷ next ∷ []) ≡ false
    → stands (b ∷ next ∷ bytes) ≡ false
stands-other_pair b next bytes e changed =
    ap (λ value. same_bytes (value_text value) (b ∷ next ∷ bytes)) (value_in-pair b next bytes e)
    ∙ ap (λ c. same_bytes (byte_spelling (escaped_byte next) ++ value_text (value_in bytes)) (c ∷ next ∷ bytes)) (eqb-true b 92 e)
    ∙ elim (spelling_cases (escaped_byte next)) [
      | inl (own, other) ↦ ap (λ text. same_bytes (text ++ value_text (value_in bytes)) (92 ∷ next ∷ bytes)) own
          ∙ ap (λ t. t && same_bytes (value_text (value_in bytes)) (next ∷ bytes)) other
      | inr (x, spelled) ↦ ap (λ text. same_bytes (text ++ value_text (value_in bytes)) (92 ∷ next ∷ bytes)) spelled
          ∙ differs x (x == next) refl (sym (ap (λ text. same_bytes text (92 ∷ next ∷ [])) spelled) ∙ changed)
    ]
  where
    differs : (x : ℕ) (t : Bool) → (x == next) ≡ t → ((x == next) && true) ≡ false → ((x == next) && same_bytes (value_text (value_in bytes)) bytes) ≡ false
    differs x true same apart = absurd (both_ways ((x == next) && true) apart (ap (λ t. t && true) same))
    differs x false same apart = ap (λ t. t && same_bytes (value_text (value_in bytes)) bytes) same

-- a backslash at the end
pub stands-last : (b : ℕ) → (b == 92) ≡ true → stands (b ∷ []) ≡ false
stands-last b e = ap (λ value. same_bytes (value_text value) (b ∷ [])) (value_in-last b e)

-- ---- by the head of the bytes

abbrev first : List ℕ → ℕ
first bytes = get_or bytes 0 0

pub stands-head : (bytes behind : List ℕ) → 1 ≤ length bytes → behind ≡ drop 1 bytes → same_bytes (byte_spelling (first bytes)) (first bytes ∷ []) ≡ true
    → stands behind ≡ stands bytes
stands-head [] behind some rest own = absurd (omega arith)
stands-head (b ∷ bytes) behind some rest own = ap stands rest ∙ sym (stands-plain b bytes own)

pub stands-escaped_head : (bytes : List ℕ) → 1 ≤ length bytes → (first bytes ≡ 92 → ⊥) → same_bytes (byte_spelling (first bytes)) (first bytes ∷ []) ≡ false
    → stands bytes ≡ false
stands-escaped_head [] some other changed = absurd (omega arith)
stands-escaped_head (b ∷ bytes) some other changed = stands-escaped b bytes (ne_eqb b 92 other) changed

pub stands-backslash : (bytes behind : List ℕ) → 1 ≤ length bytes → behind ≡ drop 1 bytes → first bytes ≡ 92 → length behind < 1 → stands bytes ≡ false
stands-backslash [] behind some rest e none = absurd (omega arith)
stands-backslash (b ∷ []) behind some rest e none = stands-last b (eq-eqb b 92 e)
stands-backslash (b ∷ next ∷ bytes) behind some rest e none = absurd (omega (arith, ap length rest))

pub stands-head_pair : (bytes behind next : List ℕ) → 1 ≤ length bytes → behind ≡ drop 1 bytes → first bytes ≡ 92 → 1 ≤ length behind → next ≡ drop 1 behind
    → same_bytes (byte_spelling (escaped_byte (first behind))) (92 ∷ first behind ∷ []) ≡ true → stands next ≡ stands bytes
stands-head_pair [] behind next some rest e more last own = absurd (omega arith)
stands-head_pair (b ∷ []) behind next some rest e more last own = absurd (omega (arith, ap length rest))
stands-head_pair (b ∷ c ∷ bytes) behind next some rest e more last own =
    ap stands (last ∙ ap (drop 1) rest)
    ∙ sym (stands-pair b c bytes (eq-eqb b 92 e) (subst (λ l. same_bytes (byte_spelling (escaped_byte (first l))) (92 ∷ first l ∷ []) ≡ true) rest own))

pub stands-other_head_pair : (bytes behind : List ℕ) → 1 ≤ length bytes → behind ≡ drop 1 bytes → first bytes ≡ 92 → 1 ≤ length behind
    → same_bytes (byte_spelling (escaped_byte (first behind))) (92 ∷ first behind ∷ []) ≡ false → stands bytes ≡ false
stands-other_head_pair [] behind some rest e more changed = absurd (omega arith)
stands-other_head_pair (b ∷ []) behind some rest e more changed = absurd (omega (arith, ap length rest))
stands-other_head_pair (b ∷ c ∷ bytes) behind some rest e more changed =
    stands-other_pair b c bytes (eq-eqb b 92 e) (subst (λ l. same_bytes (byte_spelling (escaped_byte (first l))) (92 ∷ first l ∷ []) ≡ false) rest changed)

pub stands-end : (bytes : List ℕ) → length bytes < 1 → stands bytes ≡ true
stands-end [] none = stands-nil
stands-end (b ∷ bytes) none = absurd (omega arith)

-- ---- the empty value

-- none, and a backslash alone
pub is_empty-one : (b : ℕ) → (b == 92) ≡ (length (value_in (b ∷ [])) == 0)
is_empty-one b = go (b == 92) refl where
  go : (t : Bool) → (b == 92) ≡ t → (b == 92) ≡ (length (value_in (b ∷ [])) == 0)
  go true e = e ∙ sym (ap (λ value. length value == 0) (value_in-last b e))
  go false e = e ∙ sym (ap (λ value. length value == 0) (value_in-plain b [] e ∙ ap (λ l. b ∷ l) value_in-nil))

some_bytes : (b : ℕ) (bytes : List ℕ) → (length (b ∷ bytes) == 0) ≡ false
some_bytes b bytes = ne_eqb (length (b ∷ bytes)) 0 (λ e. omega arith)

pub is_empty-more : (b next : ℕ) (bytes : List ℕ) → (length (value_in (b ∷ next ∷ bytes)) == 0) ≡ false
is_empty-more b next bytes = go (b == 92) refl where
  go : (t : Bool) → (b == 92) ≡ t → (length (value_in (b ∷ next ∷ bytes)) == 0) ≡ false
  go true e = ap (λ value. length value == 0) (value_in-pair b next bytes e) ∙ some_bytes (escaped_byte next) (value_in bytes)
  go false e = ap (λ value. length value == 0) (value_in-plain b (next ∷ bytes) e) ∙ some_bytes b (value_in (next ∷ bytes))

pub is_empty-head : (bytes : List ℕ) → 1 ≤ length bytes → length bytes < 2 → (first bytes == 92) ≡ (length (value_in bytes) == 0)
is_empty-head [] some short = absurd (omega arith)
is_empty-head (b ∷ []) some short = is_empty-one b
is_empty-head (b ∷ next ∷ bytes) some short = absurd (omega arith)

pub is_empty-long : (bytes : List ℕ) → 2 ≤ length bytes → (length (value_in bytes) == 0) ≡ false
is_empty-long [] long = absurd (omega arith)
is_empty-long (b ∷ []) long = absurd (omega arith)
is_empty-long (b ∷ next ∷ bytes) long = is_empty-more b next bytes

pub is_empty-none : (bytes : List ℕ) → length bytes < 1 → (length (value_in bytes) == 0) ≡ true
is_empty-none [] none = ap (λ value. length value == 0) value_in-nil
is_empty-none (b ∷ bytes) none = absurd (omega arith)

-- ---- what is written of a value

text_of_parts : (text head tail value all : List ℕ) → value ≡ head ++ tail → text ++ value_text value ≡ all → text ++ (value_text head ++ value_text tail) ≡ all
text_of_parts text head tail value all e so_far = ap (λ l. text ++ l) (sym (flat_map-append byte_spelling head tail) ∙ ap value_text (sym e)) ∙ so_far

-- all but the value of the rest is written
abbrev pub IsRewritten : Option (List ℕ) → Option (List ℕ) → List ℕ → List ℕ → Type 0
IsRewritten old new rest bytes = (text : List ℕ) × (text ++ value_text (value_in rest) ≡ value_text (value_in bytes)) × Appends old new text

module _ (old a b : Option (List ℕ)) (rest bytes : List ℕ) (so_far : IsRewritten old a rest bytes) where
  pub rewritten_last : (head : List ℕ) → value_in rest ≡ head → Appends a b (value_text head) → Appends old b (value_text (value_in bytes))
  rewritten_last head e text = subst (λ l. Appends old b l) (ap (λ l. so_far.0 ++ value_text l) (sym e) ∙ so_far.1) (Appends-trans old a b so_far.0 (value_text head) so_far.2 text)

  pub rewritten_end : {T E : Type 0} (r : Result T E) (head : List ℕ) → value_in rest ≡ head → WritesKnown a b r (value_text head) → WritesKnown old b r (value_text (value_in bytes))
  rewritten_end r head e text =
      writes_same old b _ _ r (ap (λ l. so_far.0 ++ value_text l) (sym e) ∙ so_far.1) (writes_second old a b so_far.0 (value_text head) r so_far.2 text)

  pub rewritten_prefix : (head tail : List ℕ) → value_in rest ≡ head ++ tail → AppendsPrefix a b (value_text head) → AppendsPrefix old b (value_text (value_in bytes))
  rewritten_prefix head tail e text =
      prefix_same old b _ _ (text_of_parts so_far.0 head tail (value_in rest) (value_text (value_in bytes)) e so_far.1)
      (prefix_of_second old a b so_far.0 _ so_far.2 (prefix_of_first a b (value_text head) (value_text tail) text))

  module _ (c : Option (List ℕ)) (head next : List ℕ) (byte : ℕ) (e : value_in rest ≡ head ++ byte ∷ value_in next) (before : Appends a b (value_text head)) where
    pub rewritten_byte_prefix : AppendsPrefix b c (byte_spelling byte) → AppendsPrefix old c (value_text (value_in bytes))
    rewritten_byte_prefix text =
        prefix_same old c _ _ (text_of_parts so_far.0 head (byte ∷ value_in next) (value_in rest) (value_text (value_in bytes)) e so_far.1)
        (prefix_of_second old a c so_far.0 _ so_far.2
        (prefix_of_second a b c (value_text head) _ before (prefix_of_first b c (byte_spelling byte) (value_text (value_in next)) text)))

    pub rewritten_more : Appends b c (byte_spelling byte) → IsRewritten old c next bytes
    rewritten_more text = (
      so_far.0 ++ (value_text head ++ byte_spelling byte),
      append_assoc so_far.0 (value_text head ++ byte_spelling byte) (value_text (value_in next))
          ∙ ap (λ l. so_far.0 ++ l) (append_assoc (value_text head) (byte_spelling byte) (value_text (value_in next)))
          ∙ text_of_parts so_far.0 head (byte ∷ value_in next) (value_in rest) (value_text (value_in bytes)) e so_far.1,
      Appends-trans old a c so_far.0 _ so_far.2 (Appends-trans a b c (value_text head) (byte_spelling byte) before text),
    )
