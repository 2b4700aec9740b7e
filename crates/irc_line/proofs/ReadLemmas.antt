-- `read` gives the reading that a line has, and else the first of its faults.
use Rattle.std.proofs.Common.{◌≡◌, ℕ, zero, suc, ◌+◌, ◌<◌, Bool, true, false, cond, List, [], ◌∷◌, drop, None, Some, Option, Result, Ok, Err, refl, sym, ap, ◌∙◌, subst, arith, inl, inr}
use Rattle.std.specs.Prelude.{◌==◌, IfOk, IfErr, MatchResult, ◌⊎◌, ◌≤◌}
use Rattle.std.proofs.lemmas.Bool.{eqb-true, eq-eqb, ne_eqb, cases_lt}
use Rattle.byte_text.specs.Bytes.{colon}
use Rattle.irc_line.specs.declared.line.LineFault.{LineFault}
use Rattle.irc_line.specs.declared.line.LineFault.TheVariants.{Empty, TagsTooLong, TooLong, BadByte, NoCommand}
use Rattle.irc_line.specs.declared.line.TagLimit.{TagLimit}
use Rattle.irc_line.specs.Line.{Reading, at_sign, rank, SkipsSpaces, SplitsWord, SplitsTags, SplitsSource, HasParameters, HasHead, IsRefused, Reads}
use Rattle.irc_line.specs.Faults.{shows, first_fault}
use Rattle.irc_line.specs.Read.{after_spaces, word, after_word, tags_of, after_tags, source_of, after_source, last_parameter, next_parameter, parameters, head_of, reading_of, fault_or, read, text_in}
use Rattle.irc_line.proofs.LineLemmas.{skips_at_first, splits_at_first, tags_once, source_once, spelled_once, match_true, match_false}
use Rattle.irc_line.proofs.FaultsLemmas.{refused, sound}

skips : (xs : List ℕ) → SkipsSpaces xs (after_spaces xs)
skips xs = skips_at_first xs

splits : (xs : List ℕ) → SplitsWord xs (word xs) (after_word xs)
splits xs = splits_at_first xs

tags_split : (xs : List ℕ) → SplitsTags xs (tags_of xs) (after_tags xs)
tags_split [] = (refl, refl)
tags_split (b ∷ bytes) = go (b == at_sign) refl where
  go : (t : Bool) → (b == at_sign) ≡ t → SplitsTags (b ∷ bytes) (cond t (Some (word bytes)) None) (cond t (drop 1 (after_word bytes)) (b ∷ bytes))
  go true e = (bytes, after_word bytes, ap (λ c. c ∷ bytes) (eqb-true b at_sign e), splits bytes, refl)
  go false e = (e, refl)

source_split : (xs : List ℕ) → SplitsSource xs (source_of (after_spaces xs)) (after_source (after_spaces xs))
source_split xs = go (after_spaces xs) (skips xs) where
  at : (b : ℕ) (bytes : List ℕ) → SkipsSpaces xs (b ∷ bytes) → (t : Bool) → (b == colon) ≡ t
      → SplitsSource xs (cond t (Some (word bytes)) None) (cond t (after_spaces (after_word bytes)) (b ∷ bytes))
  at b bytes p true e = (bytes, after_word bytes, subst (λ c. SkipsSpaces xs (c ∷ bytes)) (eqb-true b colon e) p, splits bytes, skips (after_word bytes))
  at b bytes p false e = (p, e)

  go : (text : List ℕ) → SkipsSpaces xs text → SplitsSource xs (source_of text) (after_source text)
  go [] p = (p, refl)
  go (b ∷ bytes) p = at b bytes p (b == colon) refl

-- what is left behind tags and source is the text from the command on
pub text_is : (bytes : List ℕ) (tags source : Option (List ℕ)) (rest text : List ℕ)
    → SplitsTags bytes tags rest → SplitsSource rest source text → text ≡ text_in bytes
text_is bytes tags source rest text before behind =
    let e = (tags_once bytes tags (tags_of bytes) rest (after_tags bytes) before (tags_split bytes)).1 in
    let moved = subst (λ (l : List ℕ). SplitsSource l source text) e behind in
    (source_once (after_tags bytes) source _ text _ moved (source_split (after_tags bytes))).1

has_parameters : (left n : ℕ) (bytes : List ℕ) → left + n ≡ 14 → HasParameters n bytes (parameters left bytes)
has_parameters zero n bytes e = go (after_spaces bytes) (skips bytes) where
  at : (b : ℕ) (text : List ℕ) → SkipsSpaces bytes (b ∷ text) → (t : Bool) → (b == colon) ≡ t → HasParameters n bytes (cond t (text ∷ []) ((b ∷ text) ∷ []))
  at b text p true c = (b, text, p, match_true _ (b == colon) c (refl, refl))
  at b text p false c = (b, text, p, match_false _ (b == colon) c (match_true _ (n == 14) (eq-eqb n 14 (omega arith)) (refl, refl)))

  go : (text : List ℕ) → SkipsSpaces bytes text → HasParameters n bytes (last_parameter text)
  go [] p = p
  go (b ∷ text) p = at b text p (b == colon) refl
has_parameters (suc left) n bytes e = go (λ rest. has_parameters left (n + 1) rest (omega arith)) (after_spaces bytes) (skips bytes) where
  at : ((rest : List ℕ) → HasParameters (n + 1) rest (parameters left rest)) → (b : ℕ) (text : List ℕ) → SkipsSpaces bytes (b ∷ text) → (t : Bool) → (b == colon) ≡ t
      → HasParameters n bytes (cond t (text ∷ []) (word (b ∷ text) ∷ parameters left (after_word (b ∷ text))))
  at again b text p true c = (b, text, p, match_true _ (b == colon) c (refl, refl))
  at again b text p false c =
      (b, text, p, match_false _ (b == colon) c (match_false _ (n == 14) (ne_eqb n 14 (λ same. omega arith)) (after_word (b ∷ text), splits (b ∷ text), again (after_word (b ∷ text)))))

  go : ((rest : List ℕ) → HasParameters (n + 1) rest (parameters left rest)) → (text : List ℕ) → SkipsSpaces bytes text → HasParameters n bytes (next_parameter (λ rest. parameters left rest) text)
  go again [] p = p
  go again (b ∷ text) p = at again b text p (b == colon) refl

at_rank : ℕ → LineFault
at_rank zero = Empty
at_rank (suc zero) = Empty
at_rank (suc (suc zero)) = TagsTooLong
at_rank (suc (suc (suc zero))) = TooLong
at_rank (suc (suc (suc (suc zero)))) = BadByte
at_rank (suc (suc (suc (suc (suc n))))) = NoCommand

at_rank-rank : (f : LineFault) → at_rank (rank f) ≡ f
unfolding at_rank
at_rank-rank Empty = refl
at_rank-rank TagsTooLong = refl
at_rank-rank TooLong = refl
at_rank-rank BadByte = refl
at_rank-rank NoCommand = refl

module _ (limit : TagLimit) (bytes : List ℕ) where
  abbrev text : List ℕ
  text = after_source (after_spaces (after_tags bytes))

  head : HasHead bytes (tags_of bytes) (source_of (after_spaces (after_tags bytes))) (word text)
  head = record {
    after_tags = after_tags bytes;
    after_source = text;
    after_command = after_word text;
    tags_split = tags_split bytes;
    source_split = source_split (after_tags bytes);
    command_split = splits text;
  }

  abbrev IsRead : Result Reading LineFault → Type 0
  IsRead r = MatchResult r (Reads limit bytes) (IsRefused limit bytes)

  pub read_reads : IsRead (read limit bytes)
  unfolding read head
  read_reads = go (first_fault (shows limit (head_of bytes))) refl where
    go : (o : Option LineFault) → first_fault (shows limit (head_of bytes)) ≡ o → IsRead (fault_or o (reading_of bytes))
    go None e = record {
      parts = record { head = head; parameters = has_parameters 14 0 (after_word text) refl };
      sound = sound limit bytes _ _ _ head e;
    }
    go (Some f) e = refused limit bytes _ _ _ head f e

  same_rank : (f g : LineFault) → IsRefused limit bytes f → IsRefused limit bytes g → rank f ≡ rank g
  same_rank f g p q = by_cases (cases_lt (rank f) (rank g)) (cases_lt (rank g) (rank f)) where
    by_cases : ((rank f < rank g) ⊎ (rank g ≤ rank f)) → ((rank g < rank f) ⊎ (rank f ≤ rank g)) → rank f ≡ rank g
    by_cases (inl lt) o = absurd (q.first f lt p.has)
    by_cases (inr le) (inl lt) = absurd (p.first g lt q.has)
    by_cases (inr le) (inr ge) = omega arith

  same_fault : (f g : LineFault) → IsRefused limit bytes f → IsRefused limit bytes g → f ≡ g
  same_fault f g p q = sym (at_rank-rank f) ∙ ap at_rank (same_rank f g p q) ∙ at_rank-rank g

  same_read : (r s : Result Reading LineFault) → IsRead r → IsRead s → r ≡ s
  same_read (Ok line) (Ok other) p q = ap Ok (spelled_once bytes line other p.parts q.parts)
  same_read (Ok line) (Err fault) p q = absurd (p.sound fault q.has)
  same_read (Err fault) (Ok line) p q = absurd (q.sound fault p.has)
  same_read (Err f) (Err g) p q = ap Err (same_fault f g p q)

  is_read : (r : Result Reading LineFault) → IfOk r (Reads limit bytes) → IfErr r (IsRefused limit bytes) → IsRead r
  is_read (Ok line) p q = p
  is_read (Err fault) p q = q

  -- whoever answers by the rules answers this
  pub is_the_read : (r : Result Reading LineFault) → IfOk r (Reads limit bytes) → IfErr r (IsRefused limit bytes) → r ≡ read limit bytes
  is_the_read r p q = same_read r (read limit bytes) (is_read r p q) read_reads

  ok_of : (r : Result Reading LineFault) → IsRead r → IfOk r (Reads limit bytes)
  ok_of (Ok line) p = p
  ok_of (Err fault) p = tt

  err_of : (r : Result Reading LineFault) → IsRead r → IfErr r (IsRefused limit bytes)
  err_of (Ok line) p = tt
  err_of (Err fault) p = p

  pub read_ok : IfOk (read limit bytes) (Reads limit bytes)
  read_ok = ok_of (read limit bytes) read_reads

  pub read_err : IfErr (read limit bytes) (IsRefused limit bytes)
  read_err = err_of (read limit bytes) read_reads
