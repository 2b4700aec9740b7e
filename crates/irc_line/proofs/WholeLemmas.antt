-- The parameters of a line that is read have no NUL, CR or LF.
use Rattle.std.proofs.Common.{◌≡◌, ℕ, ◌+◌, Bool, true, false, List, [], ◌∷◌, ◌++◌, drop, Option, None, Some, refl, sym, ap, ◌∙◌, subst}
use Rattle.std.specs.Prelude.{◌==◌, MatchBool}
use Rattle.std.specs.List.{AllByRecursion, list_any}
use Rattle.std.proofs.lemmas.List.Folds.{list_any-append}
use Rattle.std.proofs.lemmas.Bool.{or_parts}
use Rattle.byte_text.specs.Bytes.{colon, ends_line}
use Rattle.irc_line.specs.declared.line.LineFault.TheVariants.{BadByte}
use Rattle.irc_line.specs.declared.line.TagLimit.{TagLimit}
use Rattle.irc_line.specs.Line.{Reading, most_middles, SkipsSpaces, SplitsWord, SplitsTags, SplitsSource, HasParameters, Reads}
use Rattle.irc_line.specs.CanStand.{HasNoBadByte}

append_parts : (a b : List ℕ) → HasNoBadByte (a ++ b) → HasNoBadByte a × HasNoBadByte b
append_parts a b good = or_parts (list_any ends_line a) (list_any ends_line b) (sym (list_any-append ends_line a b) ∙ good)

split_parts : (bytes a b : List ℕ) → bytes ≡ a ++ b → HasNoBadByte bytes → HasNoBadByte a × HasNoBadByte b
split_parts bytes a b e good = append_parts a b (ap (list_any ends_line) (sym e) ∙ good)

behind_first : (b : ℕ) (bytes : List ℕ) → HasNoBadByte (b ∷ bytes) → HasNoBadByte bytes
behind_first b bytes good = (or_parts (ends_line b) (list_any ends_line bytes) good).1

without_first : (bytes : List ℕ) → HasNoBadByte bytes → HasNoBadByte (drop 1 bytes)
without_first [] good = good
without_first (b ∷ bytes) good = behind_first b bytes good

-- ---- the parts of a line

behind_spaces : (bytes rest : List ℕ) → SkipsSpaces bytes rest → HasNoBadByte bytes → HasNoBadByte rest
behind_spaces bytes rest skips good = (split_parts bytes skips.0 rest skips.2 good).1

behind_word : (bytes word rest : List ℕ) → SplitsWord bytes word rest → HasNoBadByte bytes → HasNoBadByte rest
behind_word bytes word rest splits good = (split_parts bytes word rest splits.1 good).1

behind_tags : (bytes : List ℕ) (tags : Option (List ℕ)) (rest : List ℕ) → SplitsTags bytes tags rest → HasNoBadByte bytes → HasNoBadByte rest
behind_tags bytes None rest splits good = subst HasNoBadByte (sym splits.1) good
behind_tags bytes (Some tags) rest splits good =
    let body = behind_first 64 splits.0 (subst HasNoBadByte splits.2 good) in
    subst HasNoBadByte (sym splits.4) (without_first splits.1 (behind_word splits.0 tags splits.1 splits.3 body))

behind_source : (bytes : List ℕ) (source : Option (List ℕ)) (rest : List ℕ) → SplitsSource bytes source rest → HasNoBadByte bytes → HasNoBadByte rest
behind_source bytes None rest splits good = behind_spaces bytes rest splits.0 good
behind_source bytes (Some source) rest splits good =
    let body = behind_first colon splits.0 (behind_spaces bytes (colon ∷ splits.0) splits.2 good) in
    behind_spaces splits.1 rest splits.4 (behind_word splits.0 source splits.1 splits.3 body)

abbrev AreWhole : List (List ℕ) → Type 0
AreWhole parameters = AllByRecursion HasNoBadByte parameters

last_whole : (text parameter : List ℕ) (more : List (List ℕ)) → (parameter ≡ text) × (more ≡ []) → HasNoBadByte text → AreWhole (parameter ∷ more)
last_whole text parameter more is good = (subst HasNoBadByte (sym is.0) good, subst AreWhole (sym is.1) tt)

parameters_whole : (n : ℕ) (bytes : List ℕ) (parameters : List (List ℕ)) → HasParameters n bytes parameters → HasNoBadByte bytes → AreWhole parameters
parameters_whole n bytes [] has good = tt
parameters_whole n bytes (parameter ∷ more) has good =
    at_colon (has.0 == colon) has.3 (behind_spaces bytes (has.0 ∷ has.1) has.2 good) (λ rest h g. parameters_whole (n + 1) rest more h g) where
      at_last : (b : ℕ) (text : List ℕ) (t : Bool)
          → MatchBool t ((parameter ≡ b ∷ text) × (more ≡ [])) ((rest : List ℕ) × SplitsWord (b ∷ text) parameter rest × HasParameters (n + 1) rest more)
          → HasNoBadByte (b ∷ text) → ((rest : List ℕ) → HasParameters (n + 1) rest more → HasNoBadByte rest → AreWhole more) → AreWhole (parameter ∷ more)
      at_last b text true h g again = last_whole (b ∷ text) parameter more h g
      at_last b text false h g again =
          (let parts = split_parts (b ∷ text) parameter h.0 h.1.1 g in (parts.0, again h.0 h.2 parts.1))

      at_colon : (t : Bool)
          → MatchBool t ((parameter ≡ has.1) × (more ≡ []))
          (MatchBool (n == most_middles) ((parameter ≡ has.0 ∷ has.1) × (more ≡ [])) ((rest : List ℕ) × SplitsWord (has.0 ∷ has.1) parameter rest × HasParameters (n + 1) rest more))
          → HasNoBadByte (has.0 ∷ has.1) → ((rest : List ℕ) → HasParameters (n + 1) rest more → HasNoBadByte rest → AreWhole more) → AreWhole (parameter ∷ more)
      at_colon true h g again = last_whole has.1 parameter more h (behind_first has.0 has.1 g)
      at_colon false h g again = at_last has.0 has.1 (n == most_middles) h g again

no_bad_byte : (bytes : List ℕ) → (list_any ends_line bytes ≡ true → ⊥) → HasNoBadByte bytes
no_bad_byte bytes h = go (list_any ends_line bytes) refl where
  go : (t : Bool) → list_any ends_line bytes ≡ t → t ≡ false
  go true e = absurd (h e)
  go false e = refl

pub read_parameters_whole : (limit : TagLimit) (bytes : List ℕ) (line : Reading) → Reads limit bytes line → AllByRecursion HasNoBadByte line.parameters
read_parameters_whole limit bytes line reads =
    let head = reads.parts.head in
    let good = no_bad_byte bytes (reads.sound BadByte) in
    let after_tags = behind_tags bytes line.tags head.after_tags head.tags_split good in
    let after_source = behind_source head.after_tags line.source head.after_source head.source_split after_tags in
    parameters_whole 0 head.after_command line.parameters reads.parts.parameters (behind_word head.after_source line.command head.after_command head.command_split after_source)
