use Rattle.std.proofs.Common.{◌-◌, ◌<◌, length, drop, arith, rules, length-drop}
use Rattle.std.proofs.lemmas.List.{take_rest, length-take}
use Rattle.bnc_server.proofs.ProgressLemmas.{err_is, goes-nothing, goes-on, goes-stops, goes-fed, stops-fed, drained_room}
use Rattle.bnc_server.proofs.script.feed_piece.Goals as goal

pub feeds-init : goal.feeds-init
feeds-init g c = record { drained = c.requires.drained; goes = λ world is. goes-nothing _ _ _ _ world is }

pub feeds-preserved : goal.feeds-preserved
feeds-preserved g c = record {
  drained = c.in_ok-drain.ensures.drained;
  goes = λ world is.
      goes-on _ _ _ world _ c.feeds.world c.feeds.feeder c.feeds.rest.now (c.feeds.invariant.goes world is) _ _ _ (λ now held.
      goes-fed _ _ c.feeds.feeder c.feed-n.new.self c.feeds.rest.now _ c.feed-n.result c.feed-n.ensures.taken (take_rest c.feeds.rest.now c.feed-n.result) now _ _
      (c.in_ok-drain.ensures.serves now held));
}

pub feeds-smaller : goal.feeds-smaller
feeds-smaller g c =
    let room = drained_room c.feeds.feeder c.feeds.invariant.drained in
    let some : 0 < length c.feeds.rest.now = search rules in
    let more = c.feed-n.ensures.progress room some in
    omega (arith, more, some, length-take (length c.feeds.rest.now - c.feed-n.result) (drop c.feed-n.result c.feeds.rest.now), length-drop c.feed-n.result c.feeds.rest.now)

pub returns-in_err-drain-clause-serves : goal.returns-in_err-drain-clause-serves
returns-in_err-drain-clause-serves g c world is =
    err_is _ _ _ c.from_residual.result c.from_residual.ensures.1
    (goes-stops _ _ _ world _ c.feeds.world c.feeds.feeder c.feeds.rest.now (c.feeds.invariant.goes world is) _ (λ now held.
    stops-fed _ _ c.feeds.feeder c.feed-n.new.self c.feeds.rest.now _ c.feed-n.result c.feed-n.ensures.taken (take_rest c.feeds.rest.now c.feed-n.result) now _
    (c.in_err-drain.ensures.serves now held)))
