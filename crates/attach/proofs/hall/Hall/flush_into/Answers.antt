use Rattle.std.proofs.Common.{refl, sym, ◌∙◌}
use Rattle.slab.specs.Slab.{ContainsKey}
use Rattle.slab.proofs.SlabLemmas.{Updates-with_value}
use Rattle.attach.proofs.HallLemmas.{found_at, puts_at}
use Rattle.attach.proofs.hall.Hall.flush_into.Goals as goal

pub returns-in_default-clause-none : goal.returns-in_default-clause-none
returns-in_default-clause-none g c =
    ((λ _. found_at c.self.inside.attachments c.args.key c.args.self.now c.self.view_is ∙ sym c.in_default.ensures.value), λ _. refl)

pub returns-clause-none : goal.returns-clause-none
returns-clause-none g c =
    let at = found_at c.self.inside.attachments c.args.key c.args.self.now c.self.view_is ∙ sym c.in-Some.ensures.value in
    ((λ e. absurd (cc)), λ e. absurd (cc))

pub returns-clause-count : goal.returns-clause-count
returns-clause-count g c =
    rw (found_at c.self.inside.attachments c.args.key c.args.self.now c.self.view_is ∙ sym c.in-Some.ensures.value) c.flush_into-count.ensures.count

pub returns-clause-moved : goal.returns-clause-moved
returns-clause-moved g c =
    rw (found_at c.self.inside.attachments c.args.key c.args.self.now c.self.view_is ∙ sym c.in-Some.ensures.value) c.flush_into-count.ensures.moved

pub returns-clause-left : goal.returns-clause-left
returns-clause-left g c =
    let at = found_at c.self.inside.attachments c.args.key c.args.self.now c.self.view_is ∙ sym c.in-Some.ensures.value in
    let present : ContainsKey c.self.inside.attachments c.args.key = rw (sym c.in-Some.ensures.value) refl in
    let puts = puts_at c.self.inside.attachments _ c.args.key c.flush_into-count.new.self c.args.self.now c.self.view_is (Updates-with_value c.self.inside.attachments c.args.key c.flush_into-count.new.self present) in
    rw at (c.flush_into-count.new.self, puts, c.flush_into-count.ensures.left)
