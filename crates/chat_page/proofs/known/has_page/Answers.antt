use Rattle.std.proofs.Common.{◌∙◌, sym, ap}
use Rattle.std.specs.Prelude.{◌&&◌, is_some}
use Rattle.chat_history.specs.History.{norm}
use Rattle.chat_query.specs.Page.{page, buffer_of, point_of}
use Rattle.chat_query.specs.declared.query.Query.TheVariants.{Latest}
use Rattle.chat_page.proofs.KnownLemmas.{latest_known, before_known, after_known, around_known, between_known, latest_always, targets_always}
use Rattle.chat_page.proofs.known.has_page.Goals as goal

pub returns-in-None : goal.returns-in-None
returns-in-None c changes h =
    sym (latest_always changes c.args.scope.now c.in-Latest.target c.in-Latest.limit)
    ∙ ap (λ o. is_some (page changes c.args.scope.now (Latest c.in-Latest.target o c.in-Latest.limit))) (sym c.in-None.is)
    ∙ ap (λ q. is_some (page changes c.args.scope.now q)) (sym c.in-Latest.is)

pub returns-in-Some : goal.returns-in-Some
returns-in-Some c changes h =
    c.has_point.ensures changes h ∙ sym (latest_known changes c.args.scope.now c.in-Latest.target c.in-Some.selector c.in-Latest.limit)
    ∙ ap (λ o. is_some (page changes c.args.scope.now (Latest c.in-Latest.target o c.in-Latest.limit))) (sym c.in-Some.is)
    ∙ ap (λ q. is_some (page changes c.args.scope.now q)) (sym c.in-Latest.is)

pub returns-in-Before : goal.returns-in-Before
returns-in-Before c changes h =
    c.has_point-in-Before.ensures changes h ∙ sym (before_known changes c.args.scope.now c.in-Before.target c.in-Before.selector _)
    ∙ ap (λ q. is_some (page changes c.args.scope.now q)) (sym c.in-Before.is)

pub returns-in-After : goal.returns-in-After
returns-in-After c changes h =
    c.has_point-in-After.ensures changes h ∙ sym (after_known changes c.args.scope.now c.in-After.target c.in-After.selector _)
    ∙ ap (λ q. is_some (page changes c.args.scope.now q)) (sym c.in-After.is)

pub returns-in-Around : goal.returns-in-Around
returns-in-Around c changes h =
    c.has_point-in-Around.ensures changes h ∙ sym (around_known changes c.args.scope.now c.in-Around.target c.in-Around.selector _)
    ∙ ap (λ q. is_some (page changes c.args.scope.now q)) (sym c.in-Around.is)

pub returns-then-has_point : goal.returns-then-has_point
returns-then-has_point c changes h =
    let b = buffer_of c.args.scope.now c.in-Between.target in
    let other = is_some (point_of (norm changes) b c.in-Between.other) in
    c.has_point-then-has_point.ensures changes h
    ∙ ap (λ one. one && other) (sym c.if-has_point.true ∙ c.has_point-in-Between.ensures changes h)
    ∙ sym (between_known changes c.args.scope.now c.in-Between.target c.in-Between.one c.in-Between.limit c.in-Between.other)
    ∙ ap (λ q. is_some (page changes c.args.scope.now q)) (sym c.in-Between.is)

pub returns-else-has_point : goal.returns-else-has_point
returns-else-has_point c changes h =
    let b = buffer_of c.args.scope.now c.in-Between.target in
    let other = is_some (point_of (norm changes) b c.in-Between.other) in
    c.if-has_point.false
    ∙ ap (λ one. one && other) (sym c.if-has_point.false ∙ c.has_point-in-Between.ensures changes h)
    ∙ sym (between_known changes c.args.scope.now c.in-Between.target c.in-Between.one c.in-Between.limit c.in-Between.other)
    ∙ ap (λ q. is_some (page changes c.args.scope.now q)) (sym c.in-Between.is)

pub returns-in-Targets : goal.returns-in-Targets
returns-in-Targets c changes h =
    sym (targets_always changes c.args.scope.now _ _ _)
    ∙ ap (λ q. is_some (page changes c.args.scope.now q)) (sym c.in-Targets.is)
