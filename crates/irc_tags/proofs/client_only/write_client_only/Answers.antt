use Rattle.std.proofs.Common.{Bool, sym, ◌∙◌, arith}
use Rattle.byte_text.proofs.CallerLemmas.{writes_failed}
use Rattle.irc_tags.specs.TagList.{Tag}
use Rattle.irc_tags.specs.Standing.{is_client_only}
use Rattle.irc_tags.proofs.ClientTextLemmas.{client_only_of-as_written}
use Rattle.irc_tags.proofs.TextLemmas.{kept-skipped, kept-separator_failed, kept-tag_failed, kept-written}
use Rattle.irc_tags.proofs.client_only.write_client_only.Goals as goal

abbrev passes : Tag → Bool
passes tag = is_client_only tag.0

pub loop-index-preserved : goal.loop-index-preserved
loop-index-preserved g c =
    let so_far = c.loop-index.invariant in
    let few = so_far.2 in
    let more = kept-written passes c.args.tags.now c.loop-index.index _ c.entry.ensures (sym c.is_client_only.ensures ∙ c.if-not-is_client_only.false) _ _ c.loop-index.count so_far.1 so_far.0
    _ _ c.in_ok-put_separator.ensures c.in_ok-write_tag.ensures in
    (more.0, more.1, omega arith)

pub loop-index-preserved-then-not-is_client_only : goal.loop-index-preserved-then-not-is_client_only
loop-index-preserved-then-not-is_client_only g c =
    let so_far = c.loop-index.invariant in
    let few = so_far.2 in
    let same = kept-skipped passes c.args.tags.now c.loop-index.index _ c.entry.ensures (sym c.is_client_only.ensures ∙ c.if-not-is_client_only.true) in
    rw same (so_far.0, so_far.1, omega arith)

pub returns-in_err-put_separator-clause-written : goal.returns-in_err-put_separator-clause-written
returns-in_err-put_separator-clause-written g c =
    let so_far = c.loop-index.invariant in
    writes_failed _ _ _ _ c.from_residual.result c.from_residual.ensures.1
    (kept-separator_failed passes c.args.tags.now c.loop-index.index _ c.entry.ensures (sym c.is_client_only.ensures ∙ c.if-not-is_client_only.false) _ _ c.loop-index.count so_far.1 so_far.0
    _ c.in_err-put_separator.ensures)

pub returns-in_err-put_separator-clause-as_written : goal.returns-in_err-put_separator-clause-as_written
returns-in_err-put_separator-clause-as_written g c = client_only_of-as_written c.args.tags.now c.len-index-end.ensures.keys

pub returns-in_err-write_tag-clause-written : goal.returns-in_err-write_tag-clause-written
returns-in_err-write_tag-clause-written g c =
    let so_far = c.loop-index.invariant in
    writes_failed _ _ _ _ c.from_residual-in_err-write_tag.result c.from_residual-in_err-write_tag.ensures.1
    (kept-tag_failed passes c.args.tags.now c.loop-index.index _ c.entry.ensures (sym c.is_client_only.ensures ∙ c.if-not-is_client_only.false) _ _ c.loop-index.count so_far.1 so_far.0
    _ _ c.in_ok-put_separator.ensures c.in_err-write_tag.ensures)

pub returns-in_err-write_tag-clause-as_written : goal.returns-in_err-write_tag-clause-as_written
returns-in_err-write_tag-clause-as_written g c = client_only_of-as_written c.args.tags.now c.len-index-end.ensures.keys

pub returns-clause-as_written : goal.returns-clause-as_written
returns-clause-as_written g c = client_only_of-as_written c.args.tags.now c.len-index-end.ensures.keys
