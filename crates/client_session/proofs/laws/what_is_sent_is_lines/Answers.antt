use Rattle.client_session.proofs.SentLemmas.{sent_lines}
use Rattle.client_session.proofs.laws.what_is_sent_is_lines.Goals as goal

pub returns : goal.returns
returns c = λ limit cluster maximum events event can most all last. sent_lines limit _ events event (record { cluster = can; maximum = most }) all last
