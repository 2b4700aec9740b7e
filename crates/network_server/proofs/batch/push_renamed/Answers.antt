use Rattle.std.proofs.Common.{ℕ, List, ◌++◌, Option, refl, sym, ap, ◌∙◌, arith}
use Rattle.network_server.specs.Entries.{entries, posted_count, renaming_to}
use Rattle.network_server.specs.declared.batch.BatchPart.{BatchPart}
use Rattle.network_server.specs.declared.batch.BatchPart.TheVariants as part
use Rattle.network_server.proofs.BatchLemmas.{count-behind, entries-behind}
use Rattle.network_server.proofs.batch.push_renamed.Goals as goal

pub returns-in-Some-clause-entries : goal.returns-in-Some-clause-entries
returns-in-Some-clause-entries c = λ changes.
    ap (λ (p : List BatchPart). entries p changes) c.push_reserved.ensures.items
    ∙ entries-behind c.args.parts.now.items changes (part.Renamed c.in-Some.nick c.args.is_passed_on) refl
    ∙ ap (λ (o : Option (List ℕ)). entries c.args.parts.now.items changes ++ renaming_to o c.args.is_passed_on) (sym c.in-Some.is)

pub returns-in-Some-clause-agree : goal.returns-in-Some-clause-agree
returns-in-Some-clause-agree c =
    let p = ap posted_count c.push_reserved.ensures.items ∙ count-behind c.args.parts.now.items (part.Renamed c.in-Some.nick c.args.is_passed_on) in
    omega (arith, p)
