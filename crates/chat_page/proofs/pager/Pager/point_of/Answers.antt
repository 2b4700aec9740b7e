use Rattle.std.proofs.Common.{◌∙◌, ap}
use Rattle.std.specs.Option.{option_map}
use Rattle.chat_query.specs.Page.{spot}
use Rattle.chat_page.proofs.PointLemmas.{point_found}
use Rattle.chat_page.proofs.pager.Pager.point_of.Goals as goal

pub returns-in_default-position-clause-unknown : goal.returns-in_default-position-clause-unknown
returns-in_default-position-clause-unknown c changes h e =
    point_found changes c.args.self.now.buffer c.args.selector.now c.in-Message.id c.in-Ok.id c.position.result c.in-Message.is (c.in-Ok.ensures.made ∙ c.as_bytes.ensures) (c.position.ensures.of_set changes h)
    ∙ ap (option_map (λ at. spot at c.in-Ok.id)) c.in_default-position.is

pub returns-in-Some-clause-point : goal.returns-in-Some-clause-point
returns-in-Some-clause-point c changes h =
    point_found changes c.args.self.now.buffer c.args.selector.now c.in-Message.id c.in-Ok.id c.position.result c.in-Message.is (c.in-Ok.ensures.made ∙ c.as_bytes.ensures) (c.position.ensures.of_set changes h)
    ∙ ap (option_map (λ at. spot at c.in-Ok.id)) c.in-Some.is
