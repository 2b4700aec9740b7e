use Rattle.std.proofs.Common.{◌≡◌, ◌∙◌, ap, filter, map-id, min, nat_lt, subst₂, sym}
use Rattle.std.proofs.lemmas.Iterator.Consumers.{YieldsList-at, YieldsList-from_first, YieldsList-end}
use Rattle.chat_history.specs.Latest.{latest_in}
use Rattle.chat_state.specs.LatestSince.{latest_since_in}
use Rattle.chat_query.specs.Page.{listed, lies_between}
use Rattle.chat_page.proofs.KeptLemmas.{IsCutOf, cut_is, cut_none, cut_fits, cut_passing, cut_other, least_is, between_since}
use Rattle.chat_page.proofs.listed_buffer.found_between.Goals as goal

pub keep-requires : goal.keep-requires
keep-requires c = cut_fits (nat_lt c.ms.result c.ms-2.result) c.args.n _ c.loop-buffer.found c.loop-buffer.invariant

pub loop-buffer-init : goal.loop-buffer-init
loop-buffer-init c = cut_none (nat_lt c.ms.result c.ms-2.result) c.args.n c.new-found.result c.new-found.ensures.len

pub loop-buffer-preserved-in-Continue-1 : goal.loop-buffer-preserved-in-Continue-1
loop-buffer-preserved-in-Continue-1 c =
    cut_passing (nat_lt c.ms.result c.ms-2.result) c.args.n (lies_between c.args.one c.args.other) c.loop-buffer.yielded c.in-Some.buffer c.loop-buffer.found c.keep.new.kept
    (sym c.lies_between.ensures ∙ c.if-lies_between.true) c.loop-buffer.invariant c.in_ok-keep.ensures

pub loop-buffer-preserved : goal.loop-buffer-preserved
loop-buffer-preserved c =
    cut_other (nat_lt c.ms.result c.ms-2.result) c.args.n (lies_between c.args.one c.args.other) c.loop-buffer.yielded c.in-Some.buffer c.loop-buffer.found
    (sym c.lies_between.ensures ∙ c.if-lies_between.false) c.loop-buffer.invariant

pub returns : goal.returns
returns c =
    let history = c.args.state.now.history in
    let account = c.args.scope.now.account in
    let network = c.args.scope.now.network in
    let low = c.min.result in
    let passing = lies_between c.args.one c.args.other in
    let is_low : low ≡ min c.args.one c.args.other = c.min.ensures ∙ least_is c.args.one c.args.other in
    let end = YieldsList-end
    (YieldsList-at c.into_iter-buffer-iterator.ensures.into_iter_gives
    (YieldsList-from_first (λ b. b) (λ s. s) (listed (latest_since_in history account network low))
    (ap listed (c.latest_since-latest.ensures ∙ (λ i. latest_since_in history (c.account.ensures i) (c.network.ensures i) low)))))
    c.loop-buffer.yielded _ c.loop-buffer.yielded_by _ _ c.in-None.is c.next.ensures.steps in
    let forward : nat_lt c.ms.result c.ms-2.result ≡ nat_lt c.args.one c.args.other = λ i. nat_lt (c.ms.ensures.value i) (c.ms-2.ensures.value i) in
    cut_is (nat_lt c.args.one c.args.other) c.args.n passing (listed (latest_in history account network)) c.loop-buffer.found
    (subst₂ (λ b l. IsCutOf b c.args.n l c.loop-buffer.found) forward
    (ap (filter passing) (sym (map-id c.loop-buffer.yielded) ∙ end.0) ∙ between_since history account network c.args.one c.args.other low is_low) c.loop-buffer.invariant)
