use Rattle.std.proofs.Common.{sym, subst, min, Some}
use Rattle.chat_query.specs.Page.{page, page_in, last, of_records, of_buffers, buffer_of, buffers_in, targets_cut}
use Rattle.chat_query.specs.declared.query.Query.TheVariants.{Latest}
use Rattle.chat_history.specs.Visible.{records_in}
use Rattle.chat_page.specs.Answer.{IsAnswerIfMemory}
use Rattle.chat_page.proofs.AnswerLemmas.{latest_after_page, before_page, after_page, around_page, between_page}
use Rattle.chat_page.proofs.answer.Asked.page_if_memory.Goals as goal

pub returns-in-None : goal.returns-in-None
unfolding page_in
returns-in-None c changes h =
    subst (λ q. IsAnswerIfMemory (page changes c.args.self.now.scope.now q) c.latest_page.result) (sym c.in-Latest.is)
    (subst (λ o. IsAnswerIfMemory (page changes c.args.self.now.scope.now (Latest c.in-Latest.target o c.in-Latest.limit)) c.latest_page.result) (sym c.in-None.is)
    (subst (λ g. IsAnswerIfMemory (Some (of_records (last (min c.in-Latest.limit c.args.self.now.scope.now.maximum) (records_in g (buffer_of c.args.self.now.scope.now c.in-Latest.target))))) c.latest_page.result) h c.latest_page.ensures))

pub returns-in-Some : goal.returns-in-Some
returns-in-Some c changes h =
    subst (λ q. IsAnswerIfMemory (page changes c.args.self.now.scope.now q) c.selected_page.result) (sym c.in-Latest.is)
    (subst (λ o. IsAnswerIfMemory (page changes c.args.self.now.scope.now (Latest c.in-Latest.target o c.in-Latest.limit)) c.selected_page.result) (sym c.in-Some.is)
    (subst (λ w. IsAnswerIfMemory w c.selected_page.result) (latest_after_page changes c.args.self.now.scope.now c.in-Latest.target c.in-Some.selector c.in-Latest.limit) (c.selected_page.ensures changes h)))

pub returns-in-Before : goal.returns-in-Before
returns-in-Before c changes h =
    subst (λ q. IsAnswerIfMemory (page changes c.args.self.now.scope.now q) c.selected_page-in-Before.result) (sym c.in-Before.is)
    (subst (λ w. IsAnswerIfMemory w c.selected_page-in-Before.result) (before_page changes c.args.self.now.scope.now c.in-Before.target c.in-Before.selector c.in-Before.limit) (c.selected_page-in-Before.ensures changes h))

pub returns-in-After : goal.returns-in-After
returns-in-After c changes h =
    subst (λ q. IsAnswerIfMemory (page changes c.args.self.now.scope.now q) c.selected_page-in-After.result) (sym c.in-After.is)
    (subst (λ w. IsAnswerIfMemory w c.selected_page-in-After.result) (after_page changes c.args.self.now.scope.now c.in-After.target c.in-After.selector c.in-After.limit) (c.selected_page-in-After.ensures changes h))

pub returns-in-Around : goal.returns-in-Around
returns-in-Around c changes h =
    subst (λ q. IsAnswerIfMemory (page changes c.args.self.now.scope.now q) c.selected_page-in-Around.result) (sym c.in-Around.is)
    (subst (λ w. IsAnswerIfMemory w c.selected_page-in-Around.result) (around_page changes c.args.self.now.scope.now c.in-Around.target c.in-Around.selector c.in-Around.limit) (c.selected_page-in-Around.ensures changes h))

pub returns-in-Between : goal.returns-in-Between
returns-in-Between c changes h =
    subst (λ q. IsAnswerIfMemory (page changes c.args.self.now.scope.now q) c.between_page.result) (sym c.in-Between.is)
    (subst (λ w. IsAnswerIfMemory w c.between_page.result) (between_page changes c.args.self.now.scope.now c.in-Between.target c.in-Between.one c.in-Between.limit c.in-Between.other) (c.between_page.ensures changes h))

pub returns-in-Targets : goal.returns-in-Targets
unfolding page_in
returns-in-Targets c changes h =
    subst (λ q. IsAnswerIfMemory (page changes c.args.self.now.scope.now q) c.targets_page.result) (sym c.in-Targets.is)
    (subst (λ g. IsAnswerIfMemory (Some (of_buffers (targets_cut (min c.in-Targets.limit c.args.self.now.scope.now.maximum) c.in-Targets.one c.in-Targets.other (buffers_in g c.args.self.now.scope.now)))) c.targets_page.result) h c.targets_page.ensures)
