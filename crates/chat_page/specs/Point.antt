-- Where a selector stands.
use Rattle.std.specs.Prelude.{Option, Some}
use Rattle.std.specs.Option.{option_map}
use Rattle.chat_query.specs.Page.{Point, moment, spot}
use Rattle.chat_page.specs.declared.point.SelectorPoint.{SelectorPoint}
use Rattle.chat_page.specs.declared.point.SelectorPoint.TheVariants.{Moment, Message}

abbrev pub value_of : SelectorPoint → Option Point
value_of (Moment t) = Some (moment t)
value_of (Message s) = option_map (spot s.at) s.id
