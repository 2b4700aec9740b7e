use Rattle.std.proofs.Common.{◌+◌, ◌∷◌, [], List, sym, ap, ◌∙◌, arith, drop}
use Rattle.std.proofs.lemmas.List.{drop_more, take_all}
use Rattle.network_server.specs.Entries.{posted_count}
use Rattle.network_server.specs.declared.batch.BatchPart.{BatchPart}
use Rattle.hosted_network.proofs.WrittenLemmas.{first-all, first-cut, not-posted, posted-more}
use Rattle.hosted_network.proofs.batch_parts.first_parts.Goals.{in-Posted+else-left-eq0, in_default}
use Rattle.hosted_network.proofs.batch_parts.first_parts.Goals as goal

pub returns-then-left-eq0 : goal.returns-then-left-eq0
returns-then-left-eq0 c =
    let parts : List BatchPart = c.args.parts.now in
    let at = c.loop-at.at in
    λ changes agree. first-cut parts changes at c.args.count (drop (at + 1) parts) c.in-Posted.field-0
    (omega arith)
    (drop_more parts at c.index-parts-at.result c.loop-at-test.true
    ∙ ap (λ (p : BatchPart). p ∷ drop (at + 1) parts) (sym c.index-parts-at.is ∙ c.in-Posted.is))
    agree

pub loop-at-preserved : goal.loop-at-preserved
loop-at-preserved c =
    let more = posted-more c.args.parts.now c.loop-at.at c.loop-at-test.true c.index-parts-at.is in
    let was = c.loop-at.invariant in
    elim c.match-part.branch [
      | in-Posted+else-left-eq0 w ↦
          let one = ap (λ (p : BatchPart). posted_count (p ∷ [])) w.in-Posted.is in
          let some = w.if-left-eq0.false in
          let less = w.left-is in
          omega (arith, more, was, one, some, less)
      | in_default w ↦
          let none = not-posted c.index-parts-at.result w.in_default.not-Posted in
          let same = w.left-is in
          omega (arith, more, was, none, same)
    ]

pub returns : goal.returns
returns c =
    let whole = ap posted_count (take_all c.loop-at.at c.args.parts.now c.loop-at-test.false) in
    let was = c.loop-at.invariant in
    λ changes agree. first-all c.args.parts.now changes c.args.count agree (omega (arith, whole, was))
