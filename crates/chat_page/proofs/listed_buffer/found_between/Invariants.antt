use Rattle.std.proofs.Common.{filter}
use Rattle.chat_query.specs.Page.{lies_between}
use Rattle.chat_page.proofs.KeptLemmas.{IsCutOf}
use Rattle.chat_page.proofs.listed_buffer.found_between.Given as goal

abbrev pub invariant-loop-buffer : goal.invariant-loop-buffer
invariant-loop-buffer l =
    IsCutOf l.forward l.n (filter (lies_between l.one l.other) l.yielded) l.found
