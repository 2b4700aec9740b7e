-- Which parts may stand in their places in a line (RFC 2812 section 2.3.1; IRCv3 message-tags), and what a line of
-- them says.
use Rattle.std.specs.Prelude.{◌≡◌, ℕ, ◌<◌, ◌≤◌, true, false, List, ◌∷◌, ◌++◌, length, IfSome, Ok}
use Rattle.std.specs.List.{AllByRecursion, list_any}
use Rattle.std.specs.Option.{option_to_list}
use Rattle.byte_text.specs.Bytes.{begins_with, colon, ends_line}
use Rattle.irc_line.specs.declared.line.TagLimit.{TagLimit}
use Rattle.irc_line.specs.Line.{Reading, Reads, is_command, HasNoSpace, most_parameters, tag_limit, rest_limit}
use Rattle.irc_line.specs.Text.{Parts, source_text, middles_text, trailing_text, text_of, line_text}
use Rattle.irc_line.specs.Stream.{items, line}
use Rattle.irc_line.specs.Read.{read}

-- no NUL, CR or LF
abbrev pub HasNoBadByte : List ℕ → Type 0
HasNoBadByte bytes = list_any ends_line bytes ≡ false

abbrev pub CanBeTags : TagLimit → List ℕ → Type 0
CanBeTags limit tags = HasNoSpace tags × HasNoBadByte tags × (length tags ≤ tag_limit limit)

abbrev pub CanBeSource : List ℕ → Type 0
CanBeSource source = (0 < length source) × HasNoSpace source × HasNoBadByte source

-- one of the parameters that are written without a colon
abbrev pub CanBeMiddle : List ℕ → Type 0
CanBeMiddle middle =
    (0 < length middle) × (begins_with colon middle ≡ false) × HasNoSpace middle
    × HasNoBadByte middle

abbrev pub parameters_of : Parts → List (List ℕ)
parameters_of parts = parts.middles ++ option_to_list parts.trailing

-- what a line of these parts says
abbrev pub meaning_of : Parts → Reading
meaning_of parts = record {
  tags = parts.tags;
  source = parts.source;
  command = parts.command;
  parameters = parameters_of parts;
}

-- what stands behind the tags
abbrev pub text_behind_tags : Parts → List ℕ
text_behind_tags parts =
    source_text parts.source
    ++ (parts.command ++ (middles_text parts.middles ++ trailing_text parts.trailing))

-- Each part may stand in its place, and the line is within the limits: at most 15 parameters, and 510 bytes behind
-- the tags.
pub record CanStand (limit : TagLimit) (parts : Parts) : Type 0 where
  pub tags : IfSome parts.tags (CanBeTags limit)
  pub source : IfSome parts.source CanBeSource
  pub command : is_command parts.command ≡ true
  pub middles : AllByRecursion CanBeMiddle parts.middles
  pub trailing : IfSome parts.trailing HasNoBadByte
  pub count : length (parameters_of parts) ≤ most_parameters
  pub size : length (text_behind_tags parts) ≤ rest_limit

-- the line of these parts is cut out of any stream that it begins
abbrev pub IsCutOut : Parts → Type 0
IsCutOut parts =
    (rest : List ℕ) → items (line_text parts ++ rest) ≡ line (text_of parts) ∷ items rest

-- the line of these parts has their meaning
abbrev pub HasMeaning : TagLimit → Parts → Type 0
HasMeaning limit parts = Reads limit (text_of parts) (meaning_of parts)

-- the line of these parts reads back as that
abbrev pub ReadsBack : TagLimit → Parts → Type 0
ReadsBack limit parts = read limit (text_of parts) ≡ Ok (meaning_of parts)
