use Rattle.std.proofs.Math.Logic.{∥∥₁_map, ∥∥₁_map₂}
use Rattle.hosted_network.proofs.PutMarkLemmas.{buffer_so, mark_in, may_hear_mark, may_put_mark, not_published, put_and_told}
use Rattle.hosted_network.proofs.parts.NetworkParts.put_mark.Goals as goal

pub put-requires : goal.put-requires
put-requires g c =
    ∥∥₁_map c.requires.reached (may_put_mark c.args.self.now c.requires.place c.requires.next c.from_ref.ensures.value)

pub returns-in_default-clause-leads : goal.returns-in_default-clause-leads
returns-in_default-clause-leads g c =
    ∥∥₁_map c.in_default.ensures.part
    (not_published c.requires.place c.requires.next c.from_ref.ensures.value c.self.view_is c.index_mut.ensures.value c.fall.ensures)

pub tell_mark-requires-clause-buffer : goal.tell_mark-requires-clause-buffer
tell_mark-requires-clause-buffer g c = buffer_so c.args.self.now c.requires.place c.requires.next c.self.view_is c.put.ensures.rest

pub tell_mark-requires-clause-may : goal.tell_mark-requires-clause-may
tell_mark-requires-clause-may g c =
    may_hear_mark c.requires.reached
    (∥∥₁_map c.in-Ok.ensures.put
    (mark_in c.requires.place c.requires.next c.from_ref.ensures.value c.self.view_is c.index_mut-2.ensures.value c.effect_done.ensures))

pub returns-clause-leads : goal.returns-clause-leads
returns-clause-leads g c =
    ∥∥₁_map₂
    (∥∥₁_map c.in-Ok.ensures.put
    (mark_in c.requires.place c.requires.next c.from_ref.ensures.value c.self.view_is c.index_mut-2.ensures.value c.effect_done.ensures))
    c.tell_mark.ensures.told (λ k t. put_and_told k t)
