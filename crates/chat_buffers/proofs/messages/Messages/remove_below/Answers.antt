use Rattle.std.proofs.Common.{◌∙◌, ap}
use Rattle.chat_change.proofs.CallerLemmas.{id_total}
use Rattle.ordered_maps.specs.MapView.{passing}
use Rattle.ordered_maps.proofs.CallerLemmas.{get-held_by}
use Rattle.chat_buffers.specs.Messages.{is_left}
use Rattle.chat_buffers.proofs.StepLemmas.{found}
use Rattle.chat_buffers.proofs.FloorLemmas.{left_agree}
use Rattle.chat_buffers.proofs.messages.Messages.remove_below.Goals as goal

pub invariant_of-self : goal.invariant_of-self
invariant_of-self c =
    left_agree c.args.floor c.self.inside.by_spot c.remove_below.new.self c.self.inside.by_id c.remove_below-2.new.self c.remove_below.ensures c.remove_below-2.ensures c.self.invariant

pub returns : goal.returns
returns c = λ m.
    get-held_by id_total c.remove_below-2.new.self m
    ∙ c.remove_below-2.ensures m
    ∙ ap (passing (is_left c.args.floor)) (found c.self.inside.by_id c.args.self.now m c.self.view_is)
