use Rattle.std.proofs.Common.{sym, subst, ◌∙◌}
use Rattle.std.proofs.lemmas.List.Sorted.{IsNonDecreasingBy-take}
use Rattle.std.specs.List.Sorted.{IsNonDecreasingBy}
use Rattle.chat_state.specs.Turn.{number_at}
use Rattle.chat_state.proofs.DeltaLemmas.{delta_listed}
use Rattle.chat_state.proofs.since.delta_of.Goals as goal

pub delta_end-to-requires : goal.delta_end-to-requires
delta_end-to-requires c =
    subst (IsNonDecreasingBy number_at) (sym c.first_pieces-sent.ensures) (IsNonDecreasingBy-take number_at 256 c.args.turn.now c.requires)

pub returns-in-Ok : goal.returns-in-Ok
returns-in-Ok c =
    c.new.ensures
    ∙ delta_listed c.args.from c.args.front c.delta_end-to.result c.args.turn.now c.first_pieces-sent.result.now c.in-Ok.changes.items c.first_pieces-sent.ensures c.delta_end-to.ensures c.in-Ok.ensures
