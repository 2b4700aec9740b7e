-- What a floor takes away, and which floors are due.
use Rattle.std.specs.Prelude.{ℕ, ◌-◌, ◌*◌, ◌||◌, ◌==◌, Bool, true, not, Option, Some, None, List, [], map, nat_lt, nat_le, if◌then◌else◌}
use Rattle.std.specs.Ordering.{eq_by_cmp, is_eq}
use Rattle.chat_change.specs.declared.change.Change.{Change}
use Rattle.chat_change.specs.declared.change.Change.TheVariants.{Post, Redact, Floor}
use Rattle.chat_change.specs.Buffer.{Buffer}
use Rattle.byte_text.specs.Order.{text_cmp}
use Rattle.chat_change.specs.Order.{buffer_cmp}
use Rattle.chat_change.specs.Extent.{Extent, OfAccount, OfBuffer}
use Rattle.chat_history.specs.Choice.{keep}
use Rattle.chat_history.specs.History.{History}
use Rattle.chat_history.specs.Buffers.{buffers_with}

-- ---- what a floor takes away

abbrev pub same_buffer : Buffer → Buffer → Bool
same_buffer = eq_by_cmp buffer_cmp

abbrev pub same_account : List ℕ → List ℕ → Bool
same_account a d = is_eq (text_cmp a d)

-- whether a floor of that extent covers what stands in a buffer
abbrev pub is_covered : Extent → Buffer → Bool
is_covered (OfAccount a) d = same_account a d.account
is_covered (OfBuffer b) d = same_buffer b d

-- the moment where it is at or above the floor
abbrev pub at_or_above : ℕ → Option ℕ → Option ℕ
at_or_above f = keep (λ t. nat_le f t)

-- whether a piece outlasts a higher floor that is set for an extent. An own floor of a buffer within
-- it does only where it is higher still
abbrev pub outlasts : Extent → ℕ → Change → Bool
outlasts e f (Post r) = not (is_covered e r.buffer) || nat_le f r.at
outlasts e f (Floor d u) = not (is_covered e d) || nat_lt f u
outlasts e f c = true

-- what is left of a piece at a higher floor that is set for an extent: a redaction forgets a moment
-- below it
abbrev pub remainder : Extent → ℕ → Change → Change
remainder e f (Redact d n u) = Redact d n (if is_covered e d then at_or_above f u else u)
remainder e f c = c

-- ---- which floors are due: one for each buffer that holds a record older than so many days

-- the milliseconds of a day
abbrev pub day_length : ℕ
day_length = 86400000

-- the moment so many days before another; none for no days, or where it lies before 1970
abbrev pub due_moment : ℕ → ℕ → Option ℕ
due_moment now days =
    if (days == 0) || nat_lt now (days * day_length) then None
    else Some (now - days * day_length)

-- a floor at that moment for each buffer that holds an older record, in the order of buffers
abbrev pub floors_at : History → ℕ → List Change
floors_at history t = map (λ (b : Buffer). Floor b t) (buffers_with (λ r. nat_lt r.at t) history)

abbrev pub floors_from : History → Option ℕ → List Change
floors_from history None = []
floors_from history (Some t) = floors_at history t

abbrev pub due_floors : History → ℕ → ℕ → List Change
due_floors history now days = floors_from history (due_moment now days)
