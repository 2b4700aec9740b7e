use Rattle.std.proofs.Common.{ℕ, true, List, ◌++◌, Option, refl, sym, ap, ◌∙◌, arith}
use Rattle.network_log.specs.Host.{entering}
use Rattle.network_server.specs.Entries.{entries, posted_count}
use Rattle.network_server.specs.declared.batch.BatchPart.{BatchPart}
use Rattle.network_server.specs.declared.batch.BatchPart.TheVariants as part
use Rattle.network_server.proofs.BatchLemmas.{count-behind, entries-behind}
use Rattle.network_server.proofs.batch.push_entered.Goals as goal

pub returns-in-Some-clause-entries : goal.returns-in-Some-clause-entries
returns-in-Some-clause-entries c = λ changes.
    ap (λ (p : List BatchPart). entries p changes) c.push_reserved.ensures.items
    ∙ entries-behind c.args.parts.now.items changes (part.Entered c.in-Some.channel) refl
    ∙ ap (λ (o : Option (List ℕ)). entries c.args.parts.now.items changes ++ entering true o) (sym c.in-Some.is)

pub returns-in-Some-clause-agree : goal.returns-in-Some-clause-agree
returns-in-Some-clause-agree c =
    let p = ap posted_count c.push_reserved.ensures.items ∙ count-behind c.args.parts.now.items (part.Entered c.in-Some.channel) in
    omega (arith, p)
