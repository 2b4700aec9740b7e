-- Texts that are lines: how they are put together, and how they are read back.
use Rattle.std.proofs.Common.{◌≡◌, ℕ, Bool, true, false, cond, List, [], ◌∷◌, ◌++◌, map, refl, sym, ap, ◌∙◌, append_assoc, append-nil}
use Rattle.std.specs.List.{AllByRecursion, flat_map}
use Rattle.std.proofs.lemmas.List.Concat.{flat_map-append}
use Rattle.irc_line.specs.declared.line.TagLimit.{TagLimit}
use Rattle.irc_line.specs.Line.{HasNoSpace}
use Rattle.irc_line.specs.Stream.{items, line}
use Rattle.irc_line.specs.Text.{Parts, text_of, line_text}
use Rattle.irc_line.specs.CanStand.{CanStand}
use Rattle.irc_line.specs.Lines.{AreLines, AreCutOut, ReadBack}
use Rattle.irc_line.proofs.TextLemmas.{cut, reads_back}

all-append : {A : Type 0} (P : A → Type 0) (xs ys : List A) → AllByRecursion P xs → AllByRecursion P ys → AllByRecursion P (xs ++ ys)
all-append P [] ys p q = q
all-append P (x ∷ xs) ys p q = (p.0, all-append P xs ys p.1 q)

pub no_space_append : (xs ys : List ℕ) → HasNoSpace xs → HasNoSpace ys → HasNoSpace (xs ++ ys)
no_space_append xs ys p q = all-append _ xs ys p q

-- ---- put together

pub no_lines : (limit : TagLimit) → AreLines limit []
no_lines limit = record { lines = []; stand = tt; spelled = refl }

pub one_line : (limit : TagLimit) (parts : Parts) → CanStand limit parts → AreLines limit (line_text parts)
one_line limit parts can = record { lines = parts ∷ []; stand = (can, tt); spelled = sym (append-nil (line_text parts)) }

pub lines-append : (limit : TagLimit) (a b : List ℕ) → AreLines limit a → AreLines limit b → AreLines limit (a ++ b)
lines-append limit a b p q = record {
  lines = p.lines ++ q.lines;
  stand = all-append (CanStand limit) p.lines q.lines p.stand q.stand;
  spelled = (λ i. p.spelled i ++ q.spelled i) ∙ sym (flat_map-append line_text p.lines q.lines);
}

pub lines-flat_map : {A : Type 0} (limit : TagLimit) (f : A → List ℕ) (xs : List A) → AllByRecursion (λ x. AreLines limit (f x)) xs → AreLines limit (flat_map f xs)
lines-flat_map limit f [] p = no_lines limit
lines-flat_map limit f (x ∷ xs) p = lines-append limit (f x) (flat_map f xs) p.0 (lines-flat_map limit f xs p.1)

pub lines-if : (limit : TagLimit) (b : Bool) (t e : List ℕ) → AreLines limit t → AreLines limit e → AreLines limit (cond b t e)
lines-if limit true t e p q = p
lines-if limit false t e p q = q

-- ---- read back

all_cut : (limit : TagLimit) (lines : List Parts) (rest : List ℕ) → AllByRecursion (CanStand limit) lines
    → items (flat_map line_text lines ++ rest) ≡ map (λ p. line (text_of p)) lines ++ items rest
all_cut limit [] rest can = refl
all_cut limit (p ∷ lines) rest can =
    ap items (append_assoc (line_text p) (flat_map line_text lines) rest) ∙ cut limit p (flat_map line_text lines ++ rest) can.0
    ∙ ap (λ l. line (text_of p) ∷ l) (all_cut limit lines rest can.1)

pub lines_cut : (limit : TagLimit) (text : List ℕ) (are : AreLines limit text) → AreCutOut text are.lines
lines_cut limit text are rest = ap (λ t. items (t ++ rest)) are.spelled ∙ all_cut limit are.lines rest are.stand

all_read : (limit : TagLimit) (lines : List Parts) → AllByRecursion (CanStand limit) lines → ReadBack limit lines
all_read limit [] can = tt
all_read limit (p ∷ lines) can = (reads_back limit p can.0, all_read limit lines can.1)

pub lines_read : (limit : TagLimit) (text : List ℕ) (are : AreLines limit text) → ReadBack limit are.lines
lines_read limit text are = all_read limit are.lines are.stand
