use Rattle.std.proofs.Common.{List, [], ◌∷◌, ◌++◌, Bool, length, length-append, refl, sym, ap, ◌∙◌, arith}
use Rattle.upstream_session.specs.declared.effect.UpEffect.{UpEffect}
use Rattle.network_log.specs.Host.{Posted, entries_of}
use Rattle.network_server.specs.Entries.{entries, posted_count}
use Rattle.network_server.specs.declared.batch.BatchPart.{BatchPart}
use Rattle.network_server.specs.declared.batch.BatchPart.TheVariants as part
use Rattle.network_server.proofs.BatchLemmas.{count-behind, entries-put, entries-behind}
use Rattle.network_server.proofs.batch.push_effect.Goals as goal

pub returns-in-Put-clause-entries : goal.returns-in-Put-clause-entries
returns-in-Put-clause-entries c =
    let parts = c.args.parts.now.items in
    let changes = c.args.changes.now.items in
    let change = c.in-Put.change in
    (λ i. entries (c.push_reserved-in-Put.ensures.items i) (c.push_reserved.ensures.items i))
    ∙ entries-put parts changes c.is_own-is_own.result change c.requires.agree
    ∙ ap (λ (own : Bool). entries parts changes ++ Posted change own ∷ []) c.is_own-is_own.ensures
    ∙ ap (λ (e : UpEffect). entries parts changes ++ entries_of c.args.nick.now (e ∷ [])) (sym c.in-Put.is)

pub returns-in-Put-clause-agree : goal.returns-in-Put-clause-agree
returns-in-Put-clause-agree c =
    let p = ap posted_count c.push_reserved-in-Put.ensures.items ∙ count-behind c.args.parts.now.items (part.Posted c.is_own-is_own.result) in
    let q = ap length c.push_reserved.ensures.items ∙ length-append c.args.changes.now.items (c.in-Put.change ∷ []) in
    let a = c.requires.agree in
    omega (arith, p, q, a)

pub returns-in-Relay-clause-entries : goal.returns-in-Relay-clause-entries
returns-in-Relay-clause-entries c =
    let parts = c.args.parts.now.items in
    let changes = c.args.changes.now.items in
    ap (λ (p : List BatchPart). entries p changes) c.push_reserved-in-Relay.ensures.items
    ∙ entries-behind parts changes (part.PassedOn c.in-Relay.text c.in-Relay.to) refl
    ∙ ap (λ (e : UpEffect). entries parts changes ++ entries_of c.args.nick.now (e ∷ [])) (sym c.in-Relay.is)

pub returns-in-Relay-clause-agree : goal.returns-in-Relay-clause-agree
returns-in-Relay-clause-agree c =
    let p = ap posted_count c.push_reserved-in-Relay.ensures.items ∙ count-behind c.args.parts.now.items (part.PassedOn c.in-Relay.text c.in-Relay.to) in
    let a = c.requires.agree in
    omega (arith, p, a)
