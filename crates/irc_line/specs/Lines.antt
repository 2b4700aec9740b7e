-- Texts that are lines, one after another, and how they are read back.
use Rattle.std.specs.Prelude.{◌≡◌, ℕ, List, ◌++◌, map}
use Rattle.std.specs.List.{AllByRecursion, flat_map}
use Rattle.irc_line.specs.declared.line.TagLimit.{TagLimit}
use Rattle.irc_line.specs.Text.{Parts, text_of, line_text}
use Rattle.irc_line.specs.Stream.{items, line}
use Rattle.irc_line.specs.CanStand.{CanStand, ReadsBack}

-- the text is lines, each with its ending and of parts that may stand in their places
pub record AreLines (limit : TagLimit) (text : List ℕ) : Type 0 where
  pub lines : List Parts
  pub stand : AllByRecursion (CanStand limit) lines
  pub spelled : text ≡ flat_map line_text lines

-- any stream that the text begins is cut into the lines of these parts, and then into what follows
abbrev pub AreCutOut : List ℕ → List Parts → Type 0
AreCutOut text lines =
    (rest : List ℕ) → items (text ++ rest) ≡ map (λ p. line (text_of p)) lines ++ items rest

-- each of the lines reads back as its parts
abbrev pub ReadBack : TagLimit → List Parts → Type 0
ReadBack limit lines = AllByRecursion (ReadsBack limit) lines
