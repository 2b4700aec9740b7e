use Rattle.std.proofs.Common.{◌+◌, subst, drop}
use Rattle.byte_text.proofs.CallerLemmas.{writes_failed}
use Rattle.bnc_server.proofs.NodeLemmas.{HasDone, done-one, stopped_text, left}
use Rattle.bnc_server.proofs.node.Node.carry_out_all.Goals as goal

pub returns-in_err-carry_out-clause-text : goal.returns-in_err-carry_out-clause-text
returns-in_err-carry_out-clause-text g c node is =
    let begins = left c.args.effects.now c.loop-effect.effect-index c.effect-item.result c.effect-item.is c.loop-effect-test.true in
    writes_failed _ _ _ _ c.from_residual.result c.from_residual.ensures.1
    (stopped_text _ _ node c.args.effects.now (drop (c.loop-effect.effect-index + 1) c.args.effects.now) c.effect-item.result c.loop-effect.self
    (subst (λ rest. HasDone (g.W.Write.contents c.args.writer.now) (g.W.Write.contents c.loop-effect.writer) node c.args.effects.now rest c.loop-effect.self) begins (c.loop-effect.invariant node is)) _
    (λ now held. c.in_err-carry_out.ensures.text now held))

pub loop-effect-preserved : goal.loop-effect-preserved
loop-effect-preserved g c node is =
    let begins = left c.args.effects.now c.loop-effect.effect-index c.effect-item.result c.effect-item.is c.loop-effect-test.true in
    done-one _ _ node c.args.effects.now (drop (c.loop-effect.effect-index + 1) c.args.effects.now) c.effect-item.result c.loop-effect.self
    (subst (λ rest. HasDone (g.W.Write.contents c.args.writer.now) (g.W.Write.contents c.loop-effect.writer) node c.args.effects.now rest c.loop-effect.self) begins (c.loop-effect.invariant node is)) _
    c.carry_out.new.self (λ now held. c.in_ok-carry_out.ensures.text now held) (λ now held. c.in_ok-carry_out.ensures.node now held)
