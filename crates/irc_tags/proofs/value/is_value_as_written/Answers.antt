use Rattle.std.proofs.Common.{sym, ◌∙◌, arith}
use Rattle.std.proofs.lemmas.Bool.{not-true, not-false}
use Rattle.std.proofs.lemmas.List.{take_rest}
use Rattle.irc_tags.proofs.RewriteLemmas.{stands-head, stands-escaped_head, stands-backslash, stands-head_pair, stands-other_head_pair, stands-end}
use Rattle.irc_tags.proofs.value.is_value_as_written.Goals as goal

pub returns-then-has_escape : goal.returns-then-has_escape
returns-then-has_escape c =
    let rest = c.loop-rest.rest.now in
    sym (sym c.loop-rest.invariant ∙ stands-escaped_head rest (omega arith) c.if-b-ne92.true (not-true _ (sym c.has_escape.ensures ∙ c.if-has_escape.true)))

pub loop-rest-preserved-then-b-ne92 : goal.loop-rest-preserved-then-b-ne92
loop-rest-preserved-then-b-ne92 c =
    let rest = c.loop-rest.rest.now in
    stands-head rest _ (omega arith) (take_rest rest 1) (not-false _ (sym c.has_escape.ensures ∙ c.if-has_escape.false)) ∙ c.loop-rest.invariant

pub returns-in_default-behind : goal.returns-in_default-behind
returns-in_default-behind c =
    let rest = c.loop-rest.rest.now in
    sym (sym c.loop-rest.invariant ∙ stands-backslash rest _ (omega arith) (take_rest rest 1) c.if-b-ne92.false c.in_default-behind.len_below)

pub returns-then-not-is_escape : goal.returns-then-not-is_escape
returns-then-not-is_escape c =
    let rest = c.loop-rest.rest.now in
    sym (sym c.loop-rest.invariant ∙ stands-other_head_pair rest _ (omega arith) (take_rest rest 1) c.if-b-ne92.false c.in-len1-up-behind.len_at_least
    (sym c.is_escape.ensures ∙ c.if-not-is_escape.true))

pub loop-rest-preserved : goal.loop-rest-preserved
loop-rest-preserved c =
    let rest = c.loop-rest.rest.now in
    stands-head_pair rest _ _ (omega arith) (take_rest rest 1) c.if-b-ne92.false c.in-len1-up-behind.len_at_least (take_rest _ 1)
    (sym c.is_escape.ensures ∙ c.if-not-is_escape.false)
    ∙ c.loop-rest.invariant

pub returns : goal.returns
returns c =
    let rest = c.loop-rest.rest.now in
    sym (sym c.loop-rest.invariant ∙ stands-end rest c.in_default.len_below)
