use Rattle.std.proofs.Common.{take, drop, take-append-drop}
use Rattle.std.proofs.lemmas.List.{take_rest}
use Rattle.byte_text.proofs.CallerLemmas.{writes_second, writes_same}
use Rattle.byte_text.proofs.writing.put.Goals as goal

pub returns-in-Ok-2 : goal.returns-in-Ok-2
returns-in-Ok-2 g c =
    let n = c.in-Ok.n in
    let all = c.args.bytes.now in
    let rest = writes_same _ _ _ _ c.put_rest.result (take_rest all n) c.put_rest.ensures in
    writes_same _ _ _ _ c.put_rest.result (take-append-drop n all)
    (writes_second _ _ _ (take n all) (drop n all) c.put_rest.result c.in-Ok.ensures.bytes rest)
