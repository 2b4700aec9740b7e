-- Tests that are true together, and texts that are filled and have no space.
use Rattle.std.proofs.Common.{◌≡◌, ℕ, ◌<◌, Bool, true, false, not, ◌&&◌, ◌||◌, List, [], ◌∷◌, length, refl, sym, ◌∙◌, ap, inl, inr, ⊎_elim, arith}
use Rattle.std.specs.Prelude.{◌==◌}
use Rattle.std.specs.Cmp.{Equal-is}
use Rattle.std.specs.List.{list_any, list_all}
use Rattle.std.proofs.lemmas.Bool.{false≢true, true≢false, eqb-true}
use Rattle.std.proofs.lemmas.Bool.Decides.{nat_tests}
use Rattle.byte_text.specs.Bytes.{ends_line}
use Rattle.byte_text.specs.Order.{text_cmp}
use Rattle.byte_text.specs.Words.{ends_word, has_length_to}
use Rattle.chat_change.specs.Words.{is_name, is_target, is_id, is_tags, MayBeTags, is_name_byte, ends_target}
use Rattle.chat_change.specs.Words as text
use Rattle.chat_change.specs.declared.words.TheConstants.{NAME_LIMIT, TARGET_LIMIT, ID_LIMIT, TAGS_LIMIT}
use Rattle.byte_text.proofs.CallerLemmas.{text_exact}
use Rattle.change_lines.specs.Words.{is_text, is_space, has_space, is_filled}
use Rattle.change_lines.specs.PostLine.{may_be_tags}

pub both : (a b : Bool) → a ≡ true → b ≡ true → (a && b) ≡ true
both true b p q = q
both false b p q = absurd (false≢true p)

pub left : (a b : Bool) → (a && b) ≡ true → a ≡ true
left true b p = refl
left false b p = absurd (false≢true p)

pub right : (a b : Bool) → (a && b) ≡ true → b ≡ true
right true b p = p
right false b p = absurd (false≢true p)

pub not_false : (a : Bool) → not a ≡ true → a ≡ false
not_false true p = absurd (false≢true p)
not_false false p = refl

pub not_true : (a : Bool) → a ≡ false → not a ≡ true
not_true true p = absurd (true≢false p)
not_true false p = refl

pub either : (a b : Bool) → b ≡ true → (a || b) ≡ true
either true b p = refl
either false b p = p

either_left : (a b : Bool) → a ≡ true → (a || b) ≡ true
either_left true b p = refl
either_left false b p = absurd (false≢true p)

pub text_is : (xs ys : List ℕ) → is_text xs ys ≡ true → xs ≡ ys
text_is xs ys t = text_exact xs ys ((Equal-is (text_cmp xs ys)).0 t)

-- ---- filled texts

is_some : (b : ℕ) (t : List ℕ) → is_filled (b ∷ t) ≡ true
is_some b t = let l : 0 < length (b ∷ t) = omega arith in grind (arith, nat_tests)

pub unfilled : (t : List ℕ) → is_filled t ≡ false → t ≡ []
unfilled [] h = refl
unfilled (b ∷ t) h = absurd (true≢false (sym (is_some b t) ∙ h))

-- ---- spaces

space_is : (b : ℕ) → is_space b ≡ true → b ≡ 32
space_is b h = eqb-true b 32 h

-- where each byte passes a test that a space doesn't pass, there is no space
pub no_space_in_all : (p : ℕ → Bool) → p 32 ≡ false → (xs : List ℕ) → list_all p xs ≡ true → has_space xs ≡ false
no_space_in_all p fails [] h = refl
no_space_in_all p fails (b ∷ xs) h =
    elim (is_space b) as (λ s. is_space b ≡ s → (s || has_space xs) ≡ false) [
      | true ↦ λ e. absurd (false≢true (sym fails ∙ ap p (sym (space_is b e)) ∙ left (p b) (list_all p xs) h))
      | false ↦ λ _. no_space_in_all p fails xs (right (p b) (list_all p xs) h)
    ] refl

-- where no byte passes a test that a space passes, there is no space
pub no_space_in_none : (p : ℕ → Bool) → ((b : ℕ) → is_space b ≡ true → p b ≡ true) → (xs : List ℕ) → list_any p xs ≡ false → has_space xs ≡ false
no_space_in_none p passes [] h = refl
no_space_in_none p passes (b ∷ xs) h =
    elim (is_space b) as (λ s. is_space b ≡ s → (s || has_space xs) ≡ false) [
      | true ↦ λ e. absurd (true≢false (sym (either_left (p b) (list_any p xs) (passes b e)) ∙ h))
      | false ↦ λ _. no_space_in_none p passes xs (none_left (p b) (list_any p xs) h)
    ] refl
  where
    none_left : (a b : Bool) → (a || b) ≡ false → b ≡ false
    none_left true b p = absurd (true≢false p)
    none_left false b p = p

space_ends_word : (b : ℕ) → is_space b ≡ true → ends_word b ≡ true
space_ends_word b h = either (ends_line b) (b == 32) h

space_ends_target : (b : ℕ) → is_space b ≡ true → ends_target b ≡ true
space_ends_target b h = either_left (ends_word b) (b == 44) (space_ends_word b h)

module _ (t : List ℕ) where
  pub name_has_no_space : is_name t ≡ true → has_space t ≡ false
  name_has_no_space h = no_space_in_all is_name_byte refl t (right (has_length_to NAME_LIMIT t) (list_all is_name_byte t) h)

  pub name_is_filled : is_name t ≡ true → is_filled t ≡ true
  name_is_filled h = left (is_filled t) _ (left (has_length_to NAME_LIMIT t) (list_all is_name_byte t) h)

  target_parts : is_target t ≡ true → (has_length_to TARGET_LIMIT t && not (list_any ends_target t)) ≡ true
  target_parts h = left _ (not (text.begins_with_colon t)) (left _ (not (text.is_star t)) h)

  pub target_has_no_space : is_target t ≡ true → has_space t ≡ false
  target_has_no_space h = no_space_in_none ends_target space_ends_target t (not_false (list_any ends_target t) (right (has_length_to TARGET_LIMIT t) _ (target_parts h)))

  pub target_is_filled : is_target t ≡ true → is_filled t ≡ true
  target_is_filled h = left (is_filled t) _ (left (has_length_to TARGET_LIMIT t) _ (target_parts h))

  id_parts : is_id t ≡ true → (has_length_to ID_LIMIT t && not (list_any ends_word t)) ≡ true
  id_parts h = left _ (not (text.begins_with_colon t)) h

  pub id_has_no_space : is_id t ≡ true → has_space t ≡ false
  id_has_no_space h = no_space_in_none ends_word space_ends_word t (not_false (list_any ends_word t) (right (has_length_to ID_LIMIT t) _ (id_parts h)))

  pub id_is_filled : is_id t ≡ true → is_filled t ≡ true
  id_is_filled h = left (is_filled t) _ (left (has_length_to ID_LIMIT t) _ (id_parts h))

  tags_parts : is_tags t ≡ true → (has_length_to TAGS_LIMIT t && not (list_any ends_word t)) ≡ true
  tags_parts h = left (has_length_to TAGS_LIMIT t && not (list_any ends_word t)) _ h

  some_tags_have_no_space : is_tags t ≡ true → has_space t ≡ false
  some_tags_have_no_space h = no_space_in_none ends_word space_ends_word t (not_false (list_any ends_word t) (right (has_length_to TAGS_LIMIT t) _ (tags_parts h)))

  pub tags_have_no_space : MayBeTags t → has_space t ≡ false
  tags_have_no_space h = ⊎_elim (λ none. ap has_space none) some_tags_have_no_space h

  pub tags_pass : MayBeTags t → may_be_tags t ≡ true
  tags_pass h = ⊎_elim (λ none. ap may_be_tags none) (either (not (is_filled t)) (is_tags t)) h

  pub tags_that_pass : may_be_tags t ≡ true → MayBeTags t
  tags_that_pass h =
      elim (is_filled t) as (λ f. is_filled t ≡ f → (not f || is_tags t) ≡ true → MayBeTags t) [
        | true ↦ λ _ some. inr some
        | false ↦ λ e _. inl (unfilled t e)
      ] refl h
