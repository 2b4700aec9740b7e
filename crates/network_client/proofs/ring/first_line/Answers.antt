use Rattle.std.proofs.Common.{sym}
use Rattle.network_client.proofs.RingLemmas.{line_whole}
use Rattle.network_client.proofs.ring.first_line.Goals as goal

pub returns-in-Some-clause-whole : goal.returns-in-Some-clause-whole
returns-in-Some-clause-whole c = ∣ line_whole c.args.bytes.now c.in-Some.at (sym c.in-Some.ensures.place) ∣₁
