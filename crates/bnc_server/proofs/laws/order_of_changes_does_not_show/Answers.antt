use Rattle.bnc_server.proofs.OrderLemmas.{text_of-append, same_after}
use Rattle.bnc_server.proofs.laws.order_of_changes_does_not_show.Goals as goal

pub returns : goal.returns
returns c = record { later = text_of-append; same = same_after }
