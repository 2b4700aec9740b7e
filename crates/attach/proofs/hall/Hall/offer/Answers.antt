use Rattle.std.proofs.Common.{rules, refl, sym, ◌∙◌, ◌≡◌, Err}
use Rattle.slab.specs.Slab.{ContainsKey}
use Rattle.slab.proofs.SlabLemmas.{Updates-with_value}
use Rattle.attach.specs.declared.hall.HallFault.TheVariants.{Overrun}
use Rattle.attach.proofs.HallLemmas.{found_at, puts_at}
use Rattle.attach.proofs.hall.Hall.offer.Goals as goal

pub returns-in_default-clause-no_such : goal.returns-in_default-clause-no_such
returns-in_default-clause-no_such g c =
    ((λ _. found_at c.self.inside.attachments c.args.key c.args.self.now c.self.view_is ∙ sym c.in_default.ensures.value), λ _. refl)

pub returns-in_default-clause-overrun : goal.returns-in_default-clause-overrun
returns-in_default-clause-overrun g c =
    let at = found_at c.self.inside.attachments c.args.key c.args.self.now c.self.view_is ∙ sym c.in_default.ensures.value in
    ((λ e. absurd (cc)), λ h. absurd (rw at at h))

pub returns-in_err-offer-clause-no_such : goal.returns-in_err-offer-clause-no_such
returns-in_err-offer-clause-no_such g c =
    let at = found_at c.self.inside.attachments c.args.key c.args.self.now c.self.view_is ∙ sym c.in-Some.ensures.value in
    let is : c.from_residual.result ≡ Err Overrun = search rules in
    ((λ e. absurd (cc)), λ h. absurd (cc))

pub returns-in_err-offer-clause-overrun : goal.returns-in_err-offer-clause-overrun
returns-in_err-offer-clause-overrun g c =
    let at = found_at c.self.inside.attachments c.args.key c.args.self.now c.self.view_is ∙ sym c.in-Some.ensures.value in
    let is : c.from_residual.result ≡ Err Overrun = search rules in
    ((λ _. rw at (c.in_err-offer.ensures.overrun.0 refl)), λ _. is)

pub returns-clause-no_such : goal.returns-clause-no_such
returns-clause-no_such g c =
    let at = found_at c.self.inside.attachments c.args.key c.args.self.now c.self.view_is ∙ sym c.in-Some.ensures.value in
    ((λ e. absurd (cc)), λ h. absurd (cc))

pub returns-clause-overrun : goal.returns-clause-overrun
returns-clause-overrun g c =
    let at = found_at c.self.inside.attachments c.args.key c.args.self.now c.self.view_is ∙ sym c.in-Some.ensures.value in
    ((λ e. absurd (cc)), λ h. let no = c.in_ok-offer.ensures.overrun.1 (rw at at h) in absurd (cc))

pub returns-clause-ok : goal.returns-clause-ok
returns-clause-ok g c =
    let at = found_at c.self.inside.attachments c.args.key c.args.self.now c.self.view_is ∙ sym c.in-Some.ensures.value in
    let present : ContainsKey c.self.inside.attachments c.args.key = rw (sym c.in-Some.ensures.value) refl in
    let puts = puts_at c.self.inside.attachments _ c.args.key c.offer.new.self c.args.self.now c.self.view_is (Updates-with_value c.self.inside.attachments c.args.key c.offer.new.self present) in
    rw at (c.offer.new.self, puts, c.in_ok-offer.ensures.ok)
