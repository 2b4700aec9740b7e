use Rattle.std.proofs.Common.{append_assoc, ◌≡◌, ℕ, ◌+◌, ◌-◌, ◌<◌, ◌≤◌, List, [], ◌++◌, length, take, refl, sym, ap, ◌∙◌, arith}
use Rattle.std.proofs.lemmas.List.{take_all, length-append, length-map, length-take-le}
use Rattle.chat_change.specs.declared.change.Change.{Change}
use Rattle.shared_node.specs.declared.entry.LogEntry.{LogEntry}
use Rattle.shared_node.specs.Lists.{entry, under}
use Rattle.shared_node.specs.Log.{LogValue, all_put, log_value, total}
use Rattle.shared_node.proofs.half.WritingHalf.put_now.Goals as goal

-- whether there is a number for each of n changes more
module _ (log old : LogValue) (list : List LogEntry) (len n : ℕ) (view : log ≡ old) (counted : len ≡ length list) (is : list ≡ all_put log) (fits : len < 18446744073709551616) where
  len_is : len ≡ total old
  len_is = counted ∙ ap length is ∙ length-append log.published log.waiting ∙ ap total view

  has_room : n ≤ 18446744073709551615 - len → total old + n < 18446744073709551616
  has_room room =
      let all = len_is in
      omega arith

  is_full : 18446744073709551615 - len < n → 18446744073709551616 ≤ total old + n
  is_full full =
      let all = len_is in
      omega arith

  not_full : {X : Type 0} → n ≤ 18446744073709551615 - len → 18446744073709551616 ≤ total old + n → X
  not_full room full =
      let all = len_is in
      absurd (omega arith)

total_more : (old new : LogValue) (by n : ℕ) (changes : List Change) → n ≤ length changes → new.published ≡ old.published → new.waiting ≡ old.waiting ++ under by (take n changes) → total new ≡ total old + n
total_more old new by n changes some published waiting =
    let waits : length new.waiting ≡ length old.waiting + n =
    ap length waiting ∙ length-append old.waiting (under by (take n changes))
    ∙ ap (λ k. length old.waiting + k) (length-map (take n changes) (entry by) ∙ length-take-le n changes some) in
    let shows : length new.published ≡ length old.published = ap length published in
    omega arith

total_published : (old new : LogValue) → new ≡ log_value (all_put old) [] → total new ≡ total old
total_published old new is =
    let all : total new ≡ length (all_put old) + 0 = ap total is in
    let parts = length-append old.published old.waiting in
    omega arith

-- where all changes wait behind the log that was
all_wait : (old log new : LogValue) (by by' n : ℕ) (changes : List Change) → log ≡ old → by ≡ by' → length changes ≤ n → new.published ≡ log.published → new.waiting ≡ log.waiting ++ under by (take n changes)
    → (new.published ≡ old.published) × (new.waiting ≡ old.waiting ++ under by' changes)
all_wait old log new by by' n changes view same all published waiting =
    (published ∙ ap (λ l. l.published) view, waiting ∙ (λ i. (view i).waiting ++ under (same i) (take_all n changes all i)))

all_published : (old waits new : LogValue) (by : ℕ) (changes : List Change) → (waits.published ≡ old.published) × (waits.waiting ≡ old.waiting ++ under by changes) → new ≡ log_value (all_put waits) []
    → new ≡ log_value (all_put old ++ under by changes) []
all_published old waits new by changes h is =
    is ∙ ap (λ l. log_value l []) ((λ i. h.0 i ++ h.1 i) ∙ sym (append_assoc old.published old.waiting (under by changes)))

-- a pass counts as many changes more as the log has
count_more : (count count' n all all' before : ℕ) → count' ≡ count + n → all' ≡ all + n → all ≡ before → count' + before ≡ count + all'
count_more count count' n all all' before counts holds view = omega arith

pub returns-then-changes-len-clause-refused : goal.returns-then-changes-len-clause-refused
returns-then-changes-len-clause-refused g c =
    ((c.compare.ensures.same ∙ c.self.view_is, is_full c.compare.new.log c.args.self.now c.list-list.result.now c.len.result (length c.args.changes.now) (c.compare.ensures.same ∙ c.self.view_is) c.len.ensures c.list-list.ensures c.len.type_inv c.if-changes-len.true), refl)

pub add_all-appended-requires : goal.add_all-appended-requires
add_all-appended-requires g c = record {
  room = has_room c.compare.new.log c.compare.new.log c.list-list.result.now c.len.result (length c.args.changes.now) refl c.len.ensures c.list-list.ensures c.len.type_inv c.if-changes-len.false;
}

pub invariant_of-self : goal.invariant_of-self
invariant_of-self g c =
    let i = c.self.invariant in
    (i.0 ∙ ap total (sym c.compare.ensures.same), i.1, i.2)

pub invariant_of-self-then-appended-changes : goal.invariant_of-self-then-appended-changes
invariant_of-self-then-appended-changes g c =
    let i = c.self.invariant in
    let added = c.add_all-appended.ensures in
    let more = total_more c.compare.new.log c.add_all-appended.new.self c.pass.inside.number c.add_all-appended.result c.args.changes.now added.some added.published added.waiting in
    (c.count_put.ensures.total ∙ ap (λ k. k + c.add_all-appended.result) (i.0 ∙ ap total (sym c.compare.ensures.same)) ∙ sym more, i.1, i.2)

pub returns-then-appended-changes-clause-exhausted : goal.returns-then-appended-changes-clause-exhausted
returns-then-appended-changes-clause-exhausted g c =
    not_full c.compare.new.log c.args.self.now c.list-list.result.now c.len.result (length c.args.changes.now) (c.compare.ensures.same ∙ c.self.view_is) c.len.ensures c.list-list.ensures c.len.type_inv c.if-changes-len.false

pub returns-then-appended-changes-clause-count : goal.returns-then-appended-changes-clause-count
returns-then-appended-changes-clause-count g c =
    let added = c.add_all-appended.ensures in
    let more = total_more c.compare.new.log c.add_all-appended.new.self c.pass.inside.number c.add_all-appended.result c.args.changes.now added.some added.published added.waiting in
    count_more _ _ c.add_all-appended.result _ _ _ c.count_put.ensures.count more (ap total (c.compare.ensures.same ∙ c.self.view_is))

pub invariant_of-self-then-not-publish : goal.invariant_of-self-then-not-publish
invariant_of-self-then-not-publish g c =
    let i = c.self.invariant in
    let added = c.add_all-appended.ensures in
    let more = total_more c.compare.new.log c.add_all-appended.new.self c.pass.inside.number c.add_all-appended.result c.args.changes.now added.some added.published added.waiting in
    (c.count_put.ensures.total ∙ ap (λ k. k + c.add_all-appended.result) (i.0 ∙ ap total (sym c.compare.ensures.same)) ∙ sym more ∙ ap total (sym c.if-not-publish.ensures), i.1, i.2)

pub returns-then-not-publish-clause-exhausted : goal.returns-then-not-publish-clause-exhausted
returns-then-not-publish-clause-exhausted g c =
    not_full c.compare.new.log c.args.self.now c.list-list.result.now c.len.result (length c.args.changes.now) (c.compare.ensures.same ∙ c.self.view_is) c.len.ensures c.list-list.ensures c.len.type_inv c.if-changes-len.false

pub returns-then-not-publish-clause-count : goal.returns-then-not-publish-clause-count
returns-then-not-publish-clause-count g c =
    let added = c.add_all-appended.ensures in
    let more = total_more c.compare.new.log c.add_all-appended.new.self c.pass.inside.number c.add_all-appended.result c.args.changes.now added.some added.published added.waiting in
    count_more _ _ c.add_all-appended.result _ _ _ c.count_put.ensures.count (ap total c.if-not-publish.ensures ∙ more) (ap total (c.compare.ensures.same ∙ c.self.view_is))

pub invariant_of-self-2 : goal.invariant_of-self-2
invariant_of-self-2 g c =
    let i = c.self.invariant in
    let added = c.add_all-appended.ensures in
    let more = total_more c.compare.new.log c.add_all-appended.new.self c.pass.inside.number c.add_all-appended.result c.args.changes.now added.some added.published added.waiting in
    let shown = total_published c.add_all-appended.new.self c.publish.new.self c.if-not-publish.ensures in
    (c.count_put.ensures.total ∙ ap (λ k. k + c.add_all-appended.result) (i.0 ∙ ap total (sym c.compare.ensures.same)) ∙ sym more ∙ sym shown, i.1, i.2)

pub returns-clause-exhausted : goal.returns-clause-exhausted
returns-clause-exhausted g c =
    not_full c.compare.new.log c.args.self.now c.list-list.result.now c.len.result (length c.args.changes.now) (c.compare.ensures.same ∙ c.self.view_is) c.len.ensures c.list-list.ensures c.len.type_inv c.if-changes-len.false

pub returns-clause-count : goal.returns-clause-count
returns-clause-count g c =
    let added = c.add_all-appended.ensures in
    let more = total_more c.compare.new.log c.add_all-appended.new.self c.pass.inside.number c.add_all-appended.result c.args.changes.now added.some added.published added.waiting in
    let shown = total_published c.add_all-appended.new.self c.publish.new.self c.if-not-publish.ensures in
    count_more _ _ c.add_all-appended.result _ _ _ (ap (λ p. p.count) c.pass-2.view_is ∙ c.count_put.ensures.count) (shown ∙ more) (ap total (c.compare.ensures.same ∙ c.self.view_is))

pub returns-then-appended-changes-clause-refused : goal.returns-then-appended-changes-clause-refused
returns-then-appended-changes-clause-refused g c =
    let added = c.add_all-appended.ensures in
    let view = (c.compare.ensures.same ∙ c.self.view_is) in
    let number = ap (λ p. p.number) c.pass.view_is in (
      (added.some, added.published ∙ ap (λ l. l.published) view, added.waiting ∙ (λ i. (view i).waiting ++ under (number i) (take c.add_all-appended.result c.args.changes.now))),
      c.count_put.ensures.seen.0,
    )

pub returns-then-not-publish-clause-refused : goal.returns-then-not-publish-clause-refused
returns-then-not-publish-clause-refused g c =
    let added = c.add_all-appended.ensures in
    let wait = all_wait c.args.self.now c.compare.new.log c.add_all-appended.new.self _ c.args.pass.now.number c.add_all-appended.result c.args.changes.now (c.compare.ensures.same ∙ c.self.view_is) (ap (λ p. p.number) c.pass.view_is) c.if-appended-changes.false added.published added.waiting in
    ((ap (λ l. l.published) c.if-not-publish.ensures ∙ wait.0, ap (λ l. l.waiting) c.if-not-publish.ensures ∙ wait.1), c.count_put.ensures.seen.0)

pub returns-clause-published : goal.returns-clause-published
returns-clause-published g c =
    let added = c.add_all-appended.ensures in
    let wait = all_wait c.args.self.now c.compare.new.log c.add_all-appended.new.self _ c.args.pass.now.number c.add_all-appended.result c.args.changes.now (c.compare.ensures.same ∙ c.self.view_is) (ap (λ p. p.number) c.pass.view_is) c.if-appended-changes.false added.published added.waiting in
    all_published c.args.self.now c.add_all-appended.new.self c.publish.new.self c.args.pass.now.number c.args.changes.now wait c.if-not-publish.ensures
