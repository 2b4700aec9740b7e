use Rattle.std.proofs.Common.{refl, ◌∙◌, ap, sym}
use Rattle.chat_page.specs.Point.{value_of}
use Rattle.chat_page.proofs.PointLemmas.{below_message}
use Rattle.chat_page.proofs.point.under.Goals as goal

pub returns-in-Message : goal.returns-in-Message
returns-in-Message c p e r = below_message c.in-Message.spot c.in-Message.spot.id refl p (sym (ap value_of c.in-Message.is) ∙ e) r
