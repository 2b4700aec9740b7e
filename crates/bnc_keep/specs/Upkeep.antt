-- When the file is written anew. Moments are milliseconds.
use Rattle.std.specs.Prelude.{ℕ, ◌+◌, ◌-◌, ◌*◌, max, nat_le, nat_lt, Bool, false, ◌&&◌, ◌||◌, Option, None, Some, if◌then◌else◌}
use Rattle.keeper.specs.Found.{capped}
use Rattle.keeper.specs.declared.found.Count.{Count}
use Rattle.bnc_keep.specs.declared.upkeep.Upkeep.{Upkeep}
use Rattle.bnc_keep.specs.declared.upkeep.TheConstants.{SMALL, SOON, LATER, FLOOR, LEAST, APART}

-- so many milliseconds have passed since that moment, if there was one
abbrev pub has_passed : Option ℕ → ℕ → ℕ → Bool
has_passed None now wait = false
has_passed (Some since) now wait = nat_le wait (now - since)

-- the first moment at which something was so
abbrev pub first : Option ℕ → Bool → ℕ → Option ℕ
first None is_so now = if is_so then Some now else None
first (Some before) is_so now = Some before

-- Of a file with so many changes, and a state with so many pieces: where some changes take others away, these may still be there.
abbrev pub found : Count → ℕ → ℕ → ℕ → Upkeep
found count front pieces now = record {
  changes = count.changes;
  front = front;
  pieces = pieces;
  redacted_at = first None (nat_lt 0 count.removals && nat_lt pieces count.changes) now;
  floored_at = None;
  not_before = 0;
}

-- how long the text of a redacted message stays in a file of so many bytes before it is written anew
abbrev pub patience : ℕ → ℕ
patience bytes = if nat_lt bytes SMALL then SOON else LATER

-- how many changes the file has, where the state has that front
abbrev pub changes_at : Upkeep → ℕ → ℕ
changes_at u front = capped (u.changes + (front - u.front))

-- it is time, and a redaction or a floor has waited long enough
abbrev pub is_owed : Upkeep → ℕ → ℕ → Bool
is_owed u bytes now =
    nat_le u.not_before now
    && (has_passed u.redacted_at now (patience bytes) || has_passed u.floored_at now FLOOR)

-- it is time, and the file isn't small and has more than two changes for each piece that was counted
abbrev pub is_half_useless : Upkeep → ℕ → ℕ → ℕ → Bool
is_half_useless u bytes front now =
    nat_le u.not_before now && nat_le LEAST bytes
    && nat_lt (capped (u.pieces * 2)) (changes_at u front)

-- after a try that lasted so long, the next one waits twenty times as long, and the least time
abbrev pub tried : ℕ → ℕ → ℕ → Upkeep → Upkeep
tried began ended least u = record u {
  not_before = capped (ended + max (capped ((ended - began) * APART)) least);
}

-- the file has these pieces alone
abbrev pub renewed : ℕ → ℕ → Upkeep → Upkeep
renewed pieces front u = record u {
  changes = pieces;
  front = front;
  pieces = pieces;
  redacted_at = None;
  floored_at = None;
}
