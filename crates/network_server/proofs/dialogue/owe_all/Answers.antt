use Rattle.network_server.proofs.EventLemmas.{owed-next, owed-all}
use Rattle.network_server.proofs.dialogue.owe_all.Goals as goal

pub loop-effect-preserved : goal.loop-effect-preserved
loop-effect-preserved c =
    owed-next c.args.output.now c.loop-effect.output c.owe_effect.new.output c.args.effects.now c.loop-effect.effect-index c.effect-item.result
    c.effect-item.is c.loop-effect-test.true c.in_ok-owe_effect.ensures c.loop-effect.invariant

pub returns : goal.returns
returns c = owed-all c.args.output.now c.loop-effect.output c.args.effects.now c.loop-effect.effect-index c.loop-effect-test.false c.loop-effect.invariant
