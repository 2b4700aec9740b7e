use Rattle.std.proofs.Common.{sym, ◌∙◌, subst, length, ◌<◌, []}
use Rattle.irc_line.specs.Stream.{items_from}
use Rattle.bnc_server.proofs.ProgressLemmas.{err_is, goes-nothing, goes-on, goes-next, goes-stops, stops-next, fewer}
use Rattle.bnc_server.proofs.script.drain.Goals as goal

pub lines-init : goal.lines-init
lines-init g c world is = goes-nothing _ _ _ [] world is

pub returns-in_err-serve_next-clause-serves : goal.returns-in_err-serve_next-clause-serves
returns-in_err-serve_next-clause-serves g c world is =
    err_is _ _ _ c.from_residual.result c.from_residual.ensures.1
    (goes-stops _ _ _ world _ c.lines.world c.lines.feeder [] (c.lines.invariant world is) _ (λ now held.
    stops-next _ _ c.lines.feeder now _ (c.in_err-serve_next.ensures.text now held) (c.in_err-serve_next.ensures.fault now held)))

pub lines-preserved : goal.lines-preserved
lines-preserved g c world is =
    goes-on _ _ _ world _ c.lines.world c.lines.feeder [] (c.lines.invariant world is) _ _ _ (λ now held.
    goes-next _ _ c.lines.feeder now c.serve_next.new.world c.serve_next.new.feeder (c.in_ok-serve_next.ensures.text now held) (c.in_ok-serve_next.ensures.world now held)
    c.serve_next.ensures.feeder)

pub lines-smaller : goal.lines-smaller
lines-smaller g c =
    subst (λ h. length (items_from h []) < length (items_from c.lines.feeder [])) (sym c.serve_next.ensures.feeder)
    (fewer c.lines.feeder (sym c.in_ok-serve_next.ensures.some ∙ c.if-branch.true))
