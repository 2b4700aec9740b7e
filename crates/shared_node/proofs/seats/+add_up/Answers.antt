use Rattle.std.proofs.Common.{◌≡◌, ℕ, List, [], ◌∷◌, length, refl, ap, ◌∙◌, arith}
use Rattle.std.specs.List.{sum_by}
use Rattle.std.proofs.lemmas.List.Sums.{sum_by_push}
use Rattle.shared_node.specs.Passes.{PassValue}
use Rattle.shared_node.proofs.seats.+add_up.Goals as goal

abbrev counted : List PassValue → ℕ
counted passes = sum_by (λ p. p.count) passes

counted_none : (passes : List PassValue) (n : ℕ) → n ≡ length passes → n ≡ 0 → counted passes ≡ 0
counted_none [] n e f = refl
counted_none (p ∷ passes) n e f = absurd (omega arith)

pub returns-in_default-clause-whole : goal.returns-in_default-clause-whole
returns-in_default-clause-whole g t c whole =
    let none = c.in_default.ensures.cases.0 in
    omega (arith, counted_none c.args.passes.now.items _ c.args.passes.now.ok.0 none, c.audit.ensures.whole (omega (arith, whole, none)))

pub returns-clause-whole : goal.returns-clause-whole
returns-clause-whole g t c whole =
    let pass = c.pass.inside in
    let one = c.pass.invariant in
    let merged = c.merge.ensures in
    let rest = c.add_up.ensures.whole (omega (arith, whole, c.in-Some.ensures.cases, merged.parts, c.audit.ensures.parts, one.0)) in
    omega (arith, rest, ap counted c.in-Some.ensures.items ∙ sum_by_push (λ p. p.count) c.pop.new.self.items c.in-Some.pass, merged.amount, c.audit.ensures.amount, c.audit.ensures.total, one.1, ap (λ p. p.count) c.pass.view_is)
