use Rattle.bnc_server.proofs.PrintLemmas.{script_printed}
use Rattle.bnc_server.proofs.laws.what_is_printed_is_lines.Goals as goal

pub returns : goal.returns
returns c = script_printed
