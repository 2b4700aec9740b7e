use Rattle.std.proofs.Common.{ℕ, List, Some, sym, ap, ◌∙◌}
use Rattle.irc_line.specs.Stream.{line, first_item, items}
use Rattle.node_ports.proofs.LineBufferLemmas.{bytes-held, line-next, long-next, rest-next, none-next}
use Rattle.node_ports.proofs.line_buffer.LineBuffer.next_line.Goals as goal

pub returns-in-Some : goal.returns-in-Some
returns-in-Some c =
    let held = c.as_bytes-bytes.ensures ∙ sym (bytes-held c.self.inside.is_skipping c.self.inside.bytes c.args.self.now c.self.view_is c.self.invariant) in
    ap (λ (l : List ℕ). Some (line l)) c.without_cr.ensures
    ∙ line-next c.as_bytes-bytes.result.now c.in-Some.at (sym c.in-Some.ensures.place) c.if-at-lt-MAX_LINE.true
    ∙ ap (λ (l : List ℕ). first_item (items l)) held

pub returns-in-Some-2 : goal.returns-in-Some-2
returns-in-Some-2 c =
    let held = c.as_bytes-bytes.ensures ∙ sym (bytes-held c.self.inside.is_skipping c.self.inside.bytes c.args.self.now c.self.view_is c.self.invariant) in
    long-next c.as_bytes-bytes.result.now c.in-Some.at (sym c.in-Some.ensures.place) c.if-at-lt-MAX_LINE.false c.in-Some.ensures.within
    ∙ ap (λ (l : List ℕ). first_item (items l)) held

pub returns-in-None : goal.returns-in-None
returns-in-None c =
    let held = c.as_bytes-bytes.ensures ∙ sym (bytes-held c.self.inside.is_skipping c.self.inside.bytes c.args.self.now c.self.view_is c.self.invariant) in
    rest-next c.as_bytes-bytes.result.now (sym c.in-None.ensures.place) c.if-bytes-ge-MAX_LINE.true ∙ ap (λ (l : List ℕ). first_item (items l)) held

pub returns-in-None-2 : goal.returns-in-None-2
returns-in-None-2 c =
    let held = c.as_bytes-bytes.ensures ∙ sym (bytes-held c.self.inside.is_skipping c.self.inside.bytes c.args.self.now c.self.view_is c.self.invariant) in
    none-next c.as_bytes-bytes.result.now (sym c.in-None.ensures.place) c.if-bytes-ge-MAX_LINE.false ∙ ap (λ (l : List ℕ). first_item (items l)) held
