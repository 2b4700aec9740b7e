-- A batch as its parts and its changes.
use Rattle.std.proofs.Common.{◌≡◌, ◌+◌, ℕ, Bool, List, [], ◌∷◌, ◌++◌, length, refl, ap, ◌∙◌, append_assoc, arith}
use Rattle.std.specs.List.{list_any}
use Rattle.chat_change.specs.declared.change.Change.{Change}
use Rattle.upstream_session.specs.declared.effect.UpEffect.{UpEffect}
use Rattle.upstream_session.specs.declared.effect.UpEffect.TheVariants.{Send, Put, Relay, Close}
use Rattle.network_log.specs.Host.{BatchEntry, Posted, entries_of, is_own_by, passes_on}
use Rattle.network_log.specs.NetworkState.{changes_of}
use Rattle.network_server.specs.declared.batch.BatchPart.{BatchPart}
use Rattle.network_server.specs.declared.batch.BatchPart.TheVariants as part
use Rattle.network_server.specs.Effects.{is_relay}
use Rattle.network_server.specs.Entries.{entries, posted_count, with_part}

-- ---- one part more

pub count-behind : (parts : List BatchPart) (p : BatchPart) → posted_count (parts ++ p ∷ []) ≡ posted_count parts + posted_count (p ∷ [])
count-behind [] p = omega arith
count-behind (part.Posted is_own ∷ parts) p = let e = count-behind parts p in omega (arith, e)
count-behind (part.PassedOn text to ∷ parts) p = count-behind parts p
count-behind (part.Renamed nick is_passed_on ∷ parts) p = count-behind parts p
count-behind (part.Entered channel ∷ parts) p = count-behind parts p

pub entries-put : (parts : List BatchPart) (changes : List Change) (is_own : Bool) (change : Change) → posted_count parts ≡ length changes
    → entries (parts ++ part.Posted is_own ∷ []) (changes ++ change ∷ []) ≡ entries parts changes ++ Posted change is_own ∷ []
entries-put [] [] is_own change agree = refl
entries-put [] (c ∷ changes) is_own change agree = absurd (omega (arith, agree))
entries-put (part.Posted own ∷ parts) [] is_own change agree = absurd (omega (arith, agree))
entries-put (part.Posted own ∷ parts) (c ∷ changes) is_own change agree =
    ap (λ (l : List BatchEntry). Posted c own ∷ l) (entries-put parts changes is_own change (omega (arith, agree)))
entries-put (part.PassedOn text to ∷ parts) changes is_own change agree =
    ap (with_part (part.PassedOn text to)) (entries-put parts changes is_own change agree)
entries-put (part.Renamed nick is_passed_on ∷ parts) changes is_own change agree =
    ap (with_part (part.Renamed nick is_passed_on)) (entries-put parts changes is_own change agree)
entries-put (part.Entered channel ∷ parts) changes is_own change agree =
    ap (with_part (part.Entered channel)) (entries-put parts changes is_own change agree)

-- a part that puts nothing
alone : (p : BatchPart) (changes : List Change) → posted_count (p ∷ []) ≡ 0 → entries (p ∷ []) changes ≡ with_part p []
alone (part.Posted is_own) changes silent = absurd (omega (arith, silent))
alone (part.PassedOn text to) changes silent = refl
alone (part.Renamed nick is_passed_on) changes silent = refl
alone (part.Entered channel) changes silent = refl

pub entries-behind : (parts : List BatchPart) (changes : List Change) (p : BatchPart) → posted_count (p ∷ []) ≡ 0
    → entries (parts ++ p ∷ []) changes ≡ entries parts changes ++ with_part p []
entries-behind [] changes p silent = alone p changes silent
entries-behind (part.Posted own ∷ parts) [] p silent = entries-behind parts [] p silent
entries-behind (part.Posted own ∷ parts) (c ∷ changes) p silent = ap (λ (l : List BatchEntry). Posted c own ∷ l) (entries-behind parts changes p silent)
entries-behind (part.PassedOn text to ∷ parts) changes p silent = ap (with_part (part.PassedOn text to)) (entries-behind parts changes p silent)
entries-behind (part.Renamed nick is_passed_on ∷ parts) changes p silent = ap (with_part (part.Renamed nick is_passed_on)) (entries-behind parts changes p silent)
entries-behind (part.Entered channel ∷ parts) changes p silent = ap (with_part (part.Entered channel)) (entries-behind parts changes p silent)

-- ---- the changes

pub changes-in : (parts : List BatchPart) (changes : List Change) → posted_count parts ≡ length changes → changes_of (entries parts changes) ≡ changes
changes-in [] [] agree = refl
changes-in [] (c ∷ changes) agree = absurd (omega (arith, agree))
changes-in (part.Posted own ∷ parts) [] agree = absurd (omega (arith, agree))
changes-in (part.Posted own ∷ parts) (c ∷ changes) agree = ap (λ (l : List Change). c ∷ l) (changes-in parts changes (omega (arith, agree)))
changes-in (part.PassedOn text to ∷ parts) changes agree = changes-in parts changes agree
changes-in (part.Renamed nick is_passed_on ∷ parts) changes agree = changes-in parts changes agree
changes-in (part.Entered channel ∷ parts) changes agree = changes-in parts changes agree

-- ---- effects

pub entries-append : (nick : List ℕ) (xs ys : List UpEffect) → entries_of nick (xs ++ ys) ≡ entries_of nick xs ++ entries_of nick ys
entries-append nick [] ys = refl
entries-append nick (Send text ∷ xs) ys = entries-append nick xs ys
entries-append nick (Put change ∷ xs) ys = ap (λ (l : List BatchEntry). Posted change (is_own_by nick change) ∷ l) (entries-append nick xs ys)
entries-append nick (Relay text to ∷ xs) ys = ap (with_part (part.PassedOn text to)) (entries-append nick xs ys)
entries-append nick (Close ∷ xs) ys = entries-append nick xs ys

pub passes-any : (xs : List UpEffect) → list_any is_relay xs ≡ passes_on xs
passes-any [] = refl
passes-any (Send text ∷ xs) = passes-any xs
passes-any (Put change ∷ xs) = passes-any xs
passes-any (Relay text to ∷ xs) = refl
passes-any (Close ∷ xs) = passes-any xs

-- ---- entries in turn

pub in-turn : (old first second third a b d : List BatchEntry) → first ≡ old ++ a → second ≡ first ++ b → third ≡ second ++ d → third ≡ old ++ (a ++ (b ++ d))
in-turn old first second third a b d e f g =
    g ∙ ap (λ (l : List BatchEntry). l ++ d) f ∙ append_assoc first b d ∙ ap (λ (l : List BatchEntry). l ++ (b ++ d)) e ∙ append_assoc old a (b ++ d)
