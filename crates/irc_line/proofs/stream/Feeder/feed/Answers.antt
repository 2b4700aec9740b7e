use Rattle.std.proofs.Common.{◌≡◌, ◌-◌, ◌++◌, IsOk, length, take, drop, sym, ap, ◌∙◌, arith, rules}
use Rattle.std.proofs.lemmas.List.{take_rest, length-take, length-drop, drop-drop, drop-append-le}
use Rattle.std.proofs.lemmas.Bool.{cond-true}
use Rattle.irc_line.specs.Stream.{holding}
use Rattle.irc_line.proofs.StreamLemmas.{taken_on, taken_behind}
use Rattle.irc_line.proofs.CallsLemmas.{room_where_none}
use Rattle.irc_line.proofs.stream.Feeder.feed.Goals as goal
use Rattle.irc_line.proofs.stream.Feeder.feed.Goals.{then-self+in-Some, else-self}

pub returns-clause-taken : goal.returns-clause-taken
returns-clause-taken c =
    let piece = c.args.piece.now in
    let bytes = c.self.inside.buffer.items in
    let start = c.self.inside.start in
    let gone = c.make_room-dropped.result in
    let skip = c.if-self.skipped in
    let n = c.min-n.result in
    let rest = take (length piece - skip) (drop skip piece) in
    let short = length-take n rest in
    let left = length-drop gone bytes in
    let ok : IsOk c.extend_from_slice.result = c.extend_from_slice.ensures.succeeds (omega (arith, short)) in
    let items = c.extend_from_slice.ensures.items ∙ cond-true _ _ _ ok
    ∙ ap (λ l. l ++ take n rest) c.make_room-dropped.ensures.items ∙ ap (λ l. drop gone bytes ++ take n l) (take_rest piece skip) in
    let kept : drop (start - gone) (drop gone bytes) ≡ drop start bytes = drop-drop (start - gone) gone bytes ∙ ap (λ k. drop k bytes) (omega (arith, c.make_room-dropped.ensures.dropped)) in
    let held = ap (drop (start - gone)) items ∙ drop-append-le (start - gone) (drop gone bytes) (take n (drop skip piece)) (omega (arith, c.self.inside.buffer.ok.0, c.make_room-dropped.ensures.dropped))
    ∙ ap (λ l. l ++ take n (drop skip piece)) kept in
    elim c.if-self.branch [
      | then-self+in-Some w ↦ ap holding held ∙ taken_behind c.self.inside.in_long_line start bytes c.args.self.now c.self.view_is
          w.if-self.true w.in-Some.at skip n piece (sym w.find_byte.ensures.place ∙ w.in-Some.is) w.skipped-is (omega (arith, c.self.invariant.none_held w.if-self.true, c.self.inside.buffer.ok.0))
      | else-self w ↦ ap holding held ∙ taken_on c.self.inside.in_long_line start bytes c.args.self.now c.self.view_is
          w.if-self.false skip n piece w.skipped-is
    ]

pub returns-clause-progress : goal.returns-clause-progress
returns-clause-progress c = search rules

pub returns-clause-after_more : goal.returns-clause-after_more
returns-clause-after_more c = λ none some. returns-clause-progress c (room_where_none c.args.self.now none) some
