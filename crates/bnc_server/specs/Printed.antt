-- What a script prints, as lines.
use Rattle.std.specs.Prelude.{◌≡◌, ℕ, ◌≤◌, true, false, List, ◌++◌, length, map}
use Rattle.std.specs.List.{AllByRecursion, flat_map}
use Rattle.byte_text.specs.Bytes.{begins_with, line_ending}
use Rattle.irc_line.specs.declared.line.TagLimit.{TagLimit}
use Rattle.irc_line.specs.Line.{rest_limit}
use Rattle.irc_line.specs.Stream.{items, line}
use Rattle.irc_line.specs.Text.{Parts, text_of}
use Rattle.irc_line.specs.CanStand.{HasNoBadByte, ReadsBack}

abbrev pub percent_sign : ℕ
percent_sign = 37

-- the bytes are written from parts, and are read as these parts
abbrev pub IsReadBack : TagLimit → List ℕ → Type 0
IsReadBack limit bytes = (parts : Parts) × (bytes ≡ text_of parts) × ReadsBack limit parts

-- A line that is printed, without its ending: it has no NUL, CR or LF. One that begins with `%` is for whoever wrote the
-- script, and is no longer than a line may be; any other is read back.
pub record IsPrintedLine (limit : TagLimit) (bytes : List ℕ) : Type 0 where
  pub whole : HasNoBadByte bytes
  pub of_script : begins_with percent_sign bytes ≡ true → length bytes ≤ rest_limit
  pub of_protocol : begins_with percent_sign bytes ≡ false → IsReadBack limit bytes

-- The text is such lines, each with CR LF behind it, and any stream that it begins is cut into just these.
pub record IsPrinted (limit : TagLimit) (text : List ℕ) : Type 0 where
  pub lines : List (List ℕ)
  pub each : AllByRecursion (IsPrintedLine limit) lines
  pub spelled : text ≡ flat_map (λ bytes. bytes ++ line_ending) lines
  pub cut : (rest : List ℕ) → items (text ++ rest) ≡ map line lines ++ items rest
