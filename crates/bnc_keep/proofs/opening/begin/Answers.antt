use Rattle.std.proofs.Common.{◌<◌, arith, ap, sym, subst, ◌∙◌}
use Rattle.cluster_directory.specs.Terms.{Terms}
use Rattle.keeper.specs.Keeper.{HasTaken}
use Rattle.real_file.specs.Members.{file_seen, file_may_leave}
use Rattle.bnc_keep.proofs.opening.begin.Goals as goal

pub returns-clause-above : goal.returns-clause-above
returns-clause-above c = λ said n s.
    let first = c.in-Ok.ensures.taken said n s in
    let least = first.3 in
    let above = c.in-Ok-begin_life.ensures.above in
    let is = ap (λ (t : Terms). t.me.incarnation) c.in_ok-begun.ensures.terms ∙ c.in_ok-terms.ensures in
    subst (λ m. n < m) (sym is) (omega (arith, least, above))

pub returns-clause-taken : goal.returns-clause-taken
returns-clause-taken c = λ said n s.
    let first = c.in-Ok.ensures.taken said n s in (
      first.0,
      first.1,
      subst (λ k. HasTaken file_seen file_may_leave k c.args.found.front first.0) (sym c.in_ok-begun.ensures.keeper)
          (c.in-Ok-begin_life.ensures.taken c.args.found.front first.0 first.2),
    )
