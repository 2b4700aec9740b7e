use Rattle.std.proofs.Common.{◌≡◌, take, drop, arith, rules, take-add, append-nil, length-drop, sym, take-append-drop}
use Rattle.std.proofs.KnownBytes.{Appends-kept, Appends-trans}
use Rattle.std.proofs.lemmas.List.{take_rest}
use Rattle.byte_text.proofs.writing.put_rest.Goals as goal
use Rattle.byte_text.proofs.writing.put_rest.Goals.{in-Ok, in-Err+else-ne}

pub returns-in-Ok-eq0 : goal.returns-in-Ok-eq0
returns-in-Ok-eq0 g c =
    let sent = c.writes.sent in
    let zero : c.in-Ok-eq0.field-0 ≡ 0 = search rules in
    let none = rw zero at c.in-Ok-eq0.ensures.bytes in (
      take sent c.args.bytes.now,
      drop sent c.args.bytes.now,
      sym (take-append-drop sent c.args.bytes.now),
      rw (append-nil (take sent c.args.bytes.now)) at (Appends-trans _ _ _ _ _ c.writes.invariant.1 none),
    )

pub returns-then-ne : goal.returns-then-ne
returns-then-ne g c =
    let sent = c.writes.sent in
    (take sent c.args.bytes.now, drop sent c.args.bytes.now, sym (take-append-drop sent c.args.bytes.now), Appends-kept _ _ _ _ c.writes.invariant.1 c.in-Err.ensures.bytes)

pub writes-preserved : goal.writes-preserved
writes-preserved g c =
    let inv = c.writes.invariant in
    let all = c.args.bytes.now in
    let sent = c.writes.sent in
    elim c.match-write.branch [
      | in-Ok w ↦
          let more = rw (take_rest all sent) at w.in-Ok.ensures.bytes in
          let bound = rw (take_rest all sent) at w.in-Ok.ensures.bound in
          rw (w.sent-is, take-add sent w.in-Ok.n all) (omega (arith, inv.0, bound, length-drop sent all), Appends-trans _ _ _ _ _ inv.1 more)
      | in-Err+else-ne w ↦ rw w.sent-is (inv.0, Appends-kept _ _ _ _ inv.1 w.in-Err.ensures.bytes)
    ]

pub returns : goal.returns
returns g c =
    let sent = c.writes.sent in
    (take sent c.args.bytes.now, drop sent c.args.bytes.now, sym (take-append-drop sent c.args.bytes.now), c.writes.invariant.1)
