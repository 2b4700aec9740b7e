use Rattle.std.proofs.Common.{arith}
use Rattle.byte_text.proofs.CallerLemmas.{writes_failed}
use Rattle.irc_tags.proofs.CallerLemmas.{Appends-more, prefix_of_separator, prefix_of_tag, tag_list-tags_text}
use Rattle.irc_tags.proofs.text.write_tags.Goals as goal

pub loop-index-preserved : goal.loop-index-preserved
loop-index-preserved g c =
    Appends-more _ c.args.tags.now c.loop-index.index _ _ _ _ c.entry.ensures c.loop-index.invariant c.in_ok-put_separator.ensures c.in_ok-write_tag.ensures

pub returns-in_err-put_separator-clause-written : goal.returns-in_err-put_separator-clause-written
returns-in_err-put_separator-clause-written g c =
    writes_failed _ _ _ _ c.from_residual.result c.from_residual.ensures.1
    (prefix_of_separator _ c.args.tags.now c.loop-index.index _ _ (omega arith) c.loop-index.invariant c.in_err-put_separator.ensures)

pub returns-in_err-put_separator-clause-read_back : goal.returns-in_err-put_separator-clause-read_back
returns-in_err-put_separator-clause-read_back g c = tag_list-tags_text c.args.tags.now c.len-index-end.ensures.keys

pub returns-in_err-write_tag-clause-written : goal.returns-in_err-write_tag-clause-written
returns-in_err-write_tag-clause-written g c =
    writes_failed _ _ _ _ c.from_residual-in_err-write_tag.result c.from_residual-in_err-write_tag.ensures.1
    (prefix_of_tag _ c.args.tags.now c.loop-index.index _ _ _ _ c.entry.ensures c.loop-index.invariant c.in_ok-put_separator.ensures c.in_err-write_tag.ensures)

pub returns-in_err-write_tag-clause-read_back : goal.returns-in_err-write_tag-clause-read_back
returns-in_err-write_tag-clause-read_back g c = tag_list-tags_text c.args.tags.now c.len-index-end.ensures.keys

pub returns-clause-read_back : goal.returns-clause-read_back
returns-clause-read_back g c = tag_list-tags_text c.args.tags.now c.len-index-end.ensures.keys
