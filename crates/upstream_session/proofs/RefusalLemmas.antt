-- The words by which a server refuses a session.
use Rattle.std.proofs.Common.{◌≡◌, ℕ, ◌≤◌, Bool, true, false, List, [], ◌∷◌, Option, None, Some, Result, Ok, Err, length, map, take, zero, suc, refl, sym, subst, arith}
use Rattle.std.specs.Prelude.{if◌then◌else◌}
use Rattle.std.specs.List.{AllByRecursion}
use Rattle.irc_line.specs.declared.line.LineFault.{LineFault}
use Rattle.irc_line.specs.declared.line.TagLimit.TheVariants.{Server}
use Rattle.irc_line.specs.Line.{Reading}
use Rattle.irc_line.specs.Read.{read}
use Rattle.upstream_session.specs.declared.connection.ServerSession.{ServerSession}
use Rattle.upstream_session.specs.declared.refusal.TheConstants.{MOST_WORDS}
use Rattle.upstream_session.specs.Refusal.{is_refusing, is_printable, shown, shown_words, last_parameter, with_words, after_reading, refusal_after, refuses, IsShown}
use Rattle.upstream_session.proofs.CourseLemmas.{either, either_by}
use Rattle.std.proofs.lemmas.List.{length-map}

-- ---- any other line leaves them

unless : {X : Type 0} (b : Bool) (x y : X) → b ≡ false → (if b then x else y) ≡ y
unless true x y h = absurd (cc)
unless false x y h = refl

by_reading : (is_up : Bool) (before : List ℕ) (r : Result Reading LineFault) → refuses is_up r ≡ false → after_reading is_up before r ≡ before
by_reading is_up before (Err fault) e = refl
by_reading is_up before (Ok line) e = unless (is_refusing is_up line.command) (with_words before (last_parameter line.parameters)) before e

pub others_leave_it : (u : ServerSession) (before bytes : List ℕ) → refuses u.entry.is_up (read Server bytes) ≡ false → refusal_after u before bytes ≡ before
others_leave_it u before bytes e =
    either (λ (l : List ℕ). l ≡ before) u.is_closed {x = before} {y = after_reading u.entry.is_up before (read Server bytes)}
    refl (by_reading u.entry.is_up before (read Server bytes) e)

-- ---- they are few, and printable

byte_is_printable : (byte : ℕ) → is_printable (shown byte) ≡ true
byte_is_printable byte = either_by (λ (b : ℕ). is_printable b ≡ true) (is_printable byte) byte 63 (λ h. h) (λ h. refl)

all_printable : (text : List ℕ) → AllByRecursion (λ b. is_printable b ≡ true) (map shown text)
all_printable [] = tt
all_printable (byte ∷ text) = (byte_is_printable byte, all_printable text)

take_few : (count : ℕ) (text : List ℕ) → length (take count text) ≤ count
take_few zero text = omega arith
take_few (suc count) [] = omega arith
take_few (suc count) (byte ∷ text) = omega (arith, take_few count text)

words_are_shown : (text : List ℕ) → IsShown (shown_words text)
words_are_shown text = record {
  few = subst (λ (n : ℕ). n ≤ MOST_WORDS) (sym (length-map (take MOST_WORDS text) shown)) (take_few MOST_WORDS text);
  printable = all_printable (take MOST_WORDS text);
}

by_words : (before : List ℕ) (text : Option (List ℕ)) → IsShown before → IsShown (with_words before text)
by_words before None h = h
by_words before (Some text) h = words_are_shown text

by_line : (is_up : Bool) (before : List ℕ) (r : Result Reading LineFault) → IsShown before → IsShown (after_reading is_up before r)
by_line is_up before (Err fault) h = h
by_line is_up before (Ok line) h = either IsShown (is_refusing is_up line.command) (by_words before (last_parameter line.parameters) h) h

pub stays_shown : (u : ServerSession) (before bytes : List ℕ) → IsShown before → IsShown (refusal_after u before bytes)
stays_shown u before bytes h = either IsShown u.is_closed {x = before} {y = after_reading u.entry.is_up before (read Server bytes)} h (by_line u.entry.is_up before (read Server bytes) h)

pub starts_shown : IsShown []
starts_shown = record { few = omega arith; printable = tt }
