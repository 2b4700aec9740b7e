-- Texts that are printed lines: how they are put together.
use Rattle.std.proofs.Common.{◌≡◌, ℕ, ◌≤◌, Bool, true, false, cond, List, [], ◌∷◌, ◌++◌, length, map, None, Some, Option, refl, sym, ap, ◌∙◌, subst, arith, append_assoc, append-nil, ⊎_elim}
use Rattle.std.specs.Prelude.{◌==◌, ◌&&◌, nat_lt}
use Rattle.std.specs.List.{AllByRecursion, flat_map, list_all}
use Rattle.std.proofs.lemmas.Bool.{and_parts, or_cases, true≢false, eqb-true}
use Rattle.std.proofs.lemmas.List.{map-append}
use Rattle.std.proofs.lemmas.List.Concat.{flat_map-append}
use Rattle.byte_text.specs.Bytes.{begins_with, line_ending}
use Rattle.irc_line.specs.declared.line.TagLimit.{TagLimit}
use Rattle.byte_text.specs.Number.{is_digit}
use Rattle.irc_line.specs.Line.{is_command, is_letter, rest_limit}
use Rattle.irc_line.specs.Stream.{items, line}
use Rattle.irc_line.specs.Text.{Parts, source_text, tags_text, text_of, line_text}
use Rattle.irc_line.specs.CanStand.{HasNoBadByte, CanStand}
use Rattle.irc_line.specs.Lines.{AreLines}
use Rattle.irc_line.proofs.CallerLemmas.{bytes_cut, good, reads_back, lines_cut}
use Rattle.bnc_server.specs.Printed.{percent_sign, IsPrintedLine, IsPrinted}

pub all-append : {A : Type 0} (P : A → Type 0) (xs ys : List A) → AllByRecursion P xs → AllByRecursion P ys → AllByRecursion P (xs ++ ys)
all-append P [] ys p q = q
all-append P (x ∷ xs) ys p q = (p.0, all-append P xs ys p.1 q)

abbrev ended : List ℕ → List ℕ
ended bytes = bytes ++ line_ending

pub printed-append : (limit : TagLimit) (a b : List ℕ) → IsPrinted limit a → IsPrinted limit b → IsPrinted limit (a ++ b)
printed-append limit a b p q = record {
  lines = p.lines ++ q.lines;
  each = all-append (IsPrintedLine limit) p.lines q.lines p.each q.each;
  spelled = (λ i. p.spelled i ++ q.spelled i) ∙ sym (flat_map-append ended p.lines q.lines);
  cut = λ rest.
      ap items (append_assoc a b rest) ∙ p.cut (b ++ rest) ∙ ap (λ l. map line p.lines ++ l) (q.cut rest)
      ∙ sym (append_assoc (map line p.lines) (map line q.lines) (items rest)) ∙ ap (λ l. l ++ items rest) (sym (map-append line p.lines q.lines));
}

pub no_print : (limit : TagLimit) → IsPrinted limit []
no_print limit = record { lines = []; each = tt; spelled = refl; cut = λ rest. refl }

pub printed-if : (limit : TagLimit) (b : Bool) (t e : List ℕ) → (b ≡ true → IsPrinted limit t) → IsPrinted limit e → IsPrinted limit (cond b t e)
printed-if limit true t e p q = p refl
printed-if limit false t e p q = q

-- ---- lines for whoever wrote the script

pub note_printed : (limit : TagLimit) (text : List ℕ) → HasNoBadByte (percent_sign ∷ text) → length (percent_sign ∷ text) ≤ rest_limit
    → IsPrinted limit ((percent_sign ∷ text) ++ line_ending)
note_printed limit text whole short = record {
  lines = (percent_sign ∷ text) ∷ [];
  each = (record { whole = whole; of_script = λ _. short; of_protocol = λ e. absurd (true≢false e) }, tt);
  spelled = sym (append-nil ((percent_sign ∷ text) ++ line_ending));
  cut = λ rest. ap items (append_assoc (percent_sign ∷ text) line_ending rest) ∙ bytes_cut (percent_sign ∷ text) rest whole (omega arith);
}

-- ---- lines of the protocol

no_percent_command : (command rest : List ℕ) → is_command command ≡ true → begins_with percent_sign (command ++ rest) ≡ false
no_percent_command [] rest is = absurd (true≢false (sym is))
no_percent_command (b ∷ text) rest is =
    elim (b == percent_sign) as (λ t. (b == percent_sign) ≡ t → t ≡ false) [
      | true ↦ λ e.
          (let same : b ≡ percent_sign = eqb-true b percent_sign e in
          let bad : is_command (percent_sign ∷ text) ≡ true = subst (λ c. is_command (c ∷ text) ≡ true) same is in
          absurd (⊎_elim
          (λ h. true≢false (sym (and_parts (nat_lt 0 (length (percent_sign ∷ text))) (list_all is_letter (percent_sign ∷ text)) h).1))
          (λ h. true≢false (sym (and_parts (length (percent_sign ∷ text) == 3) (list_all is_digit (percent_sign ∷ text)) h).1))
          (or_cases (nat_lt 0 (length (percent_sign ∷ text)) && list_all is_letter (percent_sign ∷ text)) ((length (percent_sign ∷ text) == 3) && list_all is_digit (percent_sign ∷ text)) bad)))
      | false ↦ λ e. refl
    ] refl

no_percent_in : (tags source : Option (List ℕ)) (command rest : List ℕ) → is_command command ≡ true
    → begins_with percent_sign (tags_text tags ++ (source_text source ++ (command ++ rest))) ≡ false
no_percent_in (Some tags) source command rest is = refl
no_percent_in None (Some source) command rest is = refl
no_percent_in None None command rest is = no_percent_command command rest is

one_printed : (limit : TagLimit) (parts : Parts) → CanStand limit parts → IsPrintedLine limit (text_of parts)
one_printed limit parts can =
    let none = no_percent_in parts.tags parts.source parts.command _ can.command in
    record {
      whole = good limit parts can;
      of_script = λ e. absurd (true≢false (sym e ∙ none));
      of_protocol = λ _. (parts, refl, reads_back limit parts can);
    }

all_printed : (limit : TagLimit) (lines : List Parts) → AllByRecursion (CanStand limit) lines → AllByRecursion (IsPrintedLine limit) (map text_of lines)
all_printed limit [] can = tt
all_printed limit (p ∷ lines) can = (one_printed limit p can.0, all_printed limit lines can.1)

line_is : (p : Parts) → line_text p ≡ ended (text_of p)
line_is p = simp append_assoc

lines_are : (lines : List Parts) → flat_map line_text lines ≡ flat_map ended (map text_of lines)
lines_are [] = refl
lines_are (p ∷ lines) = λ i. line_is p i ++ lines_are lines i

mapped : (lines : List Parts) → map (λ p. line (text_of p)) lines ≡ map line (map text_of lines)
mapped [] = refl
mapped (p ∷ lines) = ap (λ l. line (text_of p) ∷ l) (mapped lines)

pub lines_printed : (limit : TagLimit) (text : List ℕ) → AreLines limit text → IsPrinted limit text
lines_printed limit text are = record {
  lines = map text_of are.lines;
  each = all_printed limit are.lines are.stand;
  spelled = are.spelled ∙ lines_are are.lines;
  cut = λ rest. lines_cut limit text are rest ∙ ap (λ l. l ++ items rest) (mapped are.lines);
}
