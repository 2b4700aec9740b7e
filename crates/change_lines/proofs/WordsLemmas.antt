-- Words of a line: what searching for a space gives, and how words are cut out of a text and put together again.
use Rattle.std.proofs.Common.{◌≡◌, ℕ, zero, suc, ◌+◌, ◌-◌, ◌≤◌, ◌<◌, Bool, true, false, not, cond, ◌||◌, nat_lt, None, Some, List, [], ◌∷◌, ◌++◌, codes, length, take, drop, position, refl, sym, ap, ◌∙◌, arith, append_assoc, one-add}
use Rattle.std.specs.Prelude.{◌==◌}
use Rattle.std.specs.List.{position_or_len, AllByRecursion}
use Rattle.std.proofs.lemmas.Bool.{false≢true, true≢false}
use Rattle.std.proofs.lemmas.Bool.Decides.{nat_tests}
use Rattle.std.proofs.lemmas.List.{take_all, drop_all, length-drop}
use Rattle.std.proofs.lemmas.List.Concat.{flat_map-append}
use Rattle.change_lines.specs.Words.{is_space, has_space, is_filled, word, behind, words_text}

-- ---- what a search for a space gives

abbrev place : List ℕ → ℕ
place bytes = position_or_len is_space bytes

word_is_taken : (bytes : List ℕ) → take (place bytes) bytes ≡ word bytes
unfolding word
word_is_taken [] = refl
word_is_taken (b ∷ bytes) =
    elim (is_space b) as (λ s. take (cond (not s) (1 + place bytes) 0) (b ∷ bytes) ≡ cond s [] (b ∷ word bytes)) [
      | true ↦ refl
      | false ↦ ap (λ n. take n (b ∷ bytes)) (one-add (place bytes)) ∙ ap (λ w. b ∷ w) (word_is_taken bytes)
    ]

next_place : (n : ℕ) → 1 + n + 1 ≡ suc (n + 1)
next_place n = omega arith

behind_is_dropped : (bytes : List ℕ) → drop (place bytes + 1) bytes ≡ behind bytes
unfolding behind
behind_is_dropped [] = refl
behind_is_dropped (b ∷ bytes) =
    elim (is_space b) as (λ s. drop (cond (not s) (1 + place bytes) 0 + 1) (b ∷ bytes) ≡ cond s bytes (behind bytes)) [
      | true ↦ refl
      | false ↦ ap (λ n. drop n (b ∷ bytes)) (next_place (place bytes)) ∙ behind_is_dropped bytes
    ]

some_place : (t : Bool) (n at : ℕ) → Some at ≡ cond t (Some n) None → at ≡ n
some_place true n at e = cc
some_place false n at e = cc

no_place : (t : Bool) (n : ℕ) → None ≡ cond t (Some n) None → t ≡ false
no_place true n e = cc
no_place false n e = refl

module _ (bytes : List ℕ) where
  pub found_word : (at : ℕ) → Some at ≡ position is_space bytes → take at bytes ≡ word bytes
  found_word at e = ap (λ n. take n bytes) (some_place _ (place bytes) at e) ∙ word_is_taken bytes

  pub found_behind : (at : ℕ) → Some at ≡ position is_space bytes → drop (at + 1) bytes ≡ behind bytes
  found_behind at e = ap (λ n. drop (n + 1) bytes) (some_place _ (place bytes) at e) ∙ behind_is_dropped bytes

  past_end : None ≡ position is_space bytes → length bytes ≤ place bytes
  past_end e = let t : nat_lt (place bytes) (length bytes) ≡ false = no_place _ (place bytes) e in grind (arith, nat_tests)

  pub whole_word : None ≡ position is_space bytes → bytes ≡ word bytes
  whole_word e = sym (take_all (place bytes) bytes (past_end e)) ∙ word_is_taken bytes

  pub none_behind : None ≡ position is_space bytes → [] ≡ behind bytes
  none_behind e = let l = past_end e in sym (drop_all (place bytes + 1) bytes (omega (arith, l))) ∙ behind_is_dropped bytes

-- what a slice from a place to the end has
pub to_the_end : (n : ℕ) (bytes : List ℕ) → take (length bytes - n) (drop n bytes) ≡ drop n bytes
to_the_end n bytes = take_all (length bytes - n) (drop n bytes) (omega (arith, length-drop n bytes))

pub none_to_the_end : (bytes : List ℕ) → take (length bytes - length bytes) (drop (length bytes) bytes) ≡ []
none_to_the_end bytes = to_the_end (length bytes) bytes ∙ drop_all (length bytes) bytes (omega arith)

-- ---- words that have no space are cut out as they are

pub word_of : (w rest : List ℕ) → has_space w ≡ false → word ((w ++ codes " ") ++ rest) ≡ w
unfolding word
word_of [] rest h = refl
word_of (b ∷ w) rest h =
    elim (is_space b) as (λ s. (s || has_space w) ≡ false → cond s [] (b ∷ word ((w ++ codes " ") ++ rest)) ≡ b ∷ w) [
      | true ↦ λ e. absurd (true≢false e)
      | false ↦ λ e. ap (λ l. b ∷ l) (word_of w rest e)
    ] h

pub behind_of : (w rest : List ℕ) → has_space w ≡ false → behind ((w ++ codes " ") ++ rest) ≡ rest
unfolding behind
behind_of [] rest h = refl
behind_of (b ∷ w) rest h =
    elim (is_space b) as (λ s. (s || has_space w) ≡ false → cond s ((w ++ codes " ") ++ rest) (behind ((w ++ codes " ") ++ rest)) ≡ rest) [
      | true ↦ λ e. absurd (true≢false e)
      | false ↦ λ e. behind_of w rest e
    ] h

-- the first words of a line, and what stands behind them
abbrev pub first_words : ℕ → List ℕ → List (List ℕ)
first_words zero line = []
first_words (suc n) line = word line ∷ first_words n (behind line)

abbrev pub behind_words : ℕ → List ℕ → List ℕ
behind_words zero line = line
behind_words (suc n) line = behind_words n (behind line)

abbrev pub HaveNoSpace : List (List ℕ) → Type 0
HaveNoSpace ws = AllByRecursion (λ w. has_space w ≡ false) ws

module _ (last : List ℕ) where
  pub word_first : (w : List ℕ) (ws : List (List ℕ)) → has_space w ≡ false → word (words_text (w ∷ ws) ++ last) ≡ w
  word_first w ws h = ap word (append_assoc (w ++ codes " ") (words_text ws) last) ∙ word_of w (words_text ws ++ last) h

  pub behind_first : (w : List ℕ) (ws : List (List ℕ)) → has_space w ≡ false → behind (words_text (w ∷ ws) ++ last) ≡ words_text ws ++ last
  behind_first w ws h = ap behind (append_assoc (w ++ codes " ") (words_text ws) last) ∙ behind_of w (words_text ws ++ last) h

  -- the first words of several are cut out, and leave the others
  pub words_cut : (ws more : List (List ℕ)) → HaveNoSpace ws → first_words (length ws) (words_text (ws ++ more) ++ last) ≡ ws
  words_cut [] more h = refl
  words_cut (w ∷ ws) more h =
      ap (λ v. v ∷ first_words (length ws) (behind (words_text (w ∷ ws ++ more) ++ last))) (word_first w (ws ++ more) h.0)
      ∙ ap (λ l. w ∷ first_words (length ws) l) (behind_first w (ws ++ more) h.0)
      ∙ ap (λ vs. w ∷ vs) (words_cut ws more h.1)

  pub last_cut : (ws more : List (List ℕ)) → HaveNoSpace ws → behind_words (length ws) (words_text (ws ++ more) ++ last) ≡ words_text more ++ last
  last_cut [] more h = refl
  last_cut (w ∷ ws) more h = ap (behind_words (length ws)) (behind_first w (ws ++ more) h.0) ∙ last_cut ws more h.1

-- ---- a line is its words again

pub filled_before : (line : List ℕ) → is_filled (behind line) ≡ true → is_filled line ≡ true
unfolding behind
filled_before [] h = h
filled_before (b ∷ line) h = let l : 0 < length (b ∷ line) = omega arith in grind (arith, nat_tests)

pub filled_words : (n : ℕ) (line : List ℕ) → is_filled (behind_words n line) ≡ true → is_filled line ≡ true
filled_words zero line h = h
filled_words (suc n) line h = filled_before line (filled_words n (behind line) h)

space_is : (b : ℕ) → (b == 32) ≡ true → b ≡ 32
space_is b h = grind (arith, nat_tests)

pub rejoined : (line : List ℕ) → is_filled (behind line) ≡ true → (word line ++ codes " ") ++ behind line ≡ line
unfolding word behind
rejoined [] h = absurd (false≢true h)
rejoined (b ∷ line) h =
    elim (is_space b) as (λ s. is_space b ≡ s → is_filled (cond s line (behind line)) ≡ true → (cond s [] (b ∷ word line) ++ codes " ") ++ cond s line (behind line) ≡ b ∷ line) [
      | true ↦ λ e _. ap (λ x. x ∷ line) (sym (space_is b e))
      | false ↦ λ _ f. ap (λ l. b ∷ l) (rejoined line f)
    ] refl h

pub words_rejoined : (n : ℕ) (line : List ℕ) → is_filled (behind_words n line) ≡ true → words_text (first_words n line) ++ behind_words n line ≡ line
words_rejoined zero line h = refl
words_rejoined (suc n) line h =
    append_assoc (word line ++ codes " ") (words_text (first_words n (behind line))) (behind_words n (behind line))
    ∙ ap (λ l. (word line ++ codes " ") ++ l) (words_rejoined n (behind line) h)
    ∙ rejoined line (filled_words n (behind line) h)

-- words before others, and then the last field
pub words_more : (ws more : List (List ℕ)) (last : List ℕ) → words_text ws ++ (words_text more ++ last) ≡ words_text (ws ++ more) ++ last
words_more ws more last = sym (append_assoc (words_text ws) (words_text more) last) ∙ ap (λ l. l ++ last) (sym (flat_map-append (λ w. w ++ codes " ") ws more))
