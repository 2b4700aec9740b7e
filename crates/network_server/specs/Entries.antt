-- A batch as its parts and its changes.
use Rattle.std.specs.Prelude.{ℕ, ◌+◌, Bool, List, [], ◌∷◌, Option, None, Some}
use Rattle.chat_change.specs.declared.change.Change.{Change}
use Rattle.network_log.specs.Host.{BatchEntry, Posted, PassedOn, Renamed, Entered}
use Rattle.network_server.specs.declared.batch.BatchPart.{BatchPart}
use Rattle.network_server.specs.declared.batch.BatchPart.TheVariants as part

-- the entry of a part that puts no change
abbrev pub with_part : BatchPart → List BatchEntry → List BatchEntry
with_part (part.Posted is_own) entries = entries
with_part (part.PassedOn text to) entries = PassedOn text to ∷ entries
with_part (part.Renamed nick is_passed_on) entries = Renamed nick is_passed_on ∷ entries
with_part (part.Entered channel) entries = Entered channel ∷ entries

-- the entries of these parts, of which those that put a change put these, in order
abbrev pub entries : List BatchPart → List Change → List BatchEntry
entries [] changes = []
entries (part.Posted is_own ∷ parts) [] = entries parts []
entries (part.Posted is_own ∷ parts) (change ∷ changes) = Posted change is_own ∷ entries parts changes
entries (p ∷ parts) changes = with_part p (entries parts changes)

abbrev pub posted_count : List BatchPart → ℕ
posted_count [] = 0
posted_count (part.Posted is_own ∷ parts) = posted_count parts + 1
posted_count (_ ∷ parts) = posted_count parts

-- the nick is that one now, if there is one
abbrev pub renaming_to : Option (List ℕ) → Bool → List BatchEntry
renaming_to None is_passed_on = []
renaming_to (Some nick) is_passed_on = Renamed nick is_passed_on ∷ []
