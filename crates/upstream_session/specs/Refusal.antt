-- The words by which a server refuses a session: ERROR (RFC 2812, section 3.7.4), 465 (ERR_YOUREBANNEDCREEP) and 432
-- (ERR_ERRONEUSNICKNAME, section 5.2).
use Rattle.std.specs.Prelude.{◌≡◌, ◌≤◌, ℕ, Bool, true, false, not, ◌-◌, ◌&&◌, ◌||◌, nat_le, List, Option, None, Some, Result, Ok, Err, codes, length, map, take, slice_get, if◌then◌else◌}
use Rattle.std.specs.List.{AllByRecursion}
use Rattle.std.specs.Str.{str_eq_ignore_ascii_case}
use Rattle.irc_line.specs.declared.line.LineFault.{LineFault}
use Rattle.irc_line.specs.declared.line.TagLimit.TheVariants.{Server}
use Rattle.irc_line.specs.Line.{Reading}
use Rattle.irc_line.specs.Read.{read}
use Rattle.upstream_session.specs.declared.connection.ServerSession.{ServerSession}
use Rattle.upstream_session.specs.declared.refusal.TheConstants.{MOST_WORDS}

-- a session, and the words by which its server refused it last; there are none where it didn't
pub record Session : Type 0 where
  pub connection : ServerSession
  pub refusal : List ℕ

-- the command of a line by which a server refuses; once the network is up, 432 refuses a change of the nick alone
abbrev pub is_refusing : Bool → List ℕ → Bool
is_refusing is_up command =
    str_eq_ignore_ascii_case command (codes "ERROR")
    || (str_eq_ignore_ascii_case command (codes "465")
    || (not is_up && str_eq_ignore_ascii_case command (codes "432")))

abbrev pub is_printable : ℕ → Bool
is_printable byte = nat_le 32 byte && nat_le byte 126

-- a byte that isn't printable ASCII is shown as `?`
abbrev pub shown : ℕ → ℕ
shown byte = if is_printable byte then byte else 63

-- what is kept of a text
abbrev pub shown_words : List ℕ → List ℕ
shown_words text = map shown (take MOST_WORDS text)

-- the last parameter, if there is one
abbrev pub last_parameter : List (List ℕ) → Option (List ℕ)
last_parameter parameters = slice_get parameters (length parameters - 1)

-- what is kept after a parameter that says why; without one it stays
abbrev pub with_words : List ℕ → Option (List ℕ) → List ℕ
with_words before None = before
with_words before (Some text) = shown_words text

-- what is kept after a line
abbrev pub after_line : Bool → List ℕ → Reading → List ℕ
after_line is_up before line =
    if is_refusing is_up line.command then with_words before (last_parameter line.parameters) else before

abbrev pub after_reading : Bool → List ℕ → Result Reading LineFault → List ℕ
after_reading is_up before (Err fault) = before
after_reading is_up before (Ok line) = after_line is_up before line

-- what is kept after a line of the server: a session that is over hears none
abbrev pub refusal_after : ServerSession → List ℕ → List ℕ → List ℕ
refusal_after u before bytes =
    if u.is_closed then before else after_reading u.entry.is_up before (read Server bytes)

-- ---- what holds of it

-- the server refuses by that line
abbrev pub refuses : Bool → Result Reading LineFault → Bool
refuses is_up (Err fault) = false
refuses is_up (Ok line) = is_refusing is_up line.command

-- so few bytes, all of them printable ASCII
pub record IsShown (words : List ℕ) : Type 0 where
  pub few : length words ≤ MOST_WORDS
  pub printable : AllByRecursion (λ b. is_printable b ≡ true) words
