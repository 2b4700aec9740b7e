use Rattle.std.proofs.Common.{rules, ◌≡◌, ◌∙◌, sym, ap, reverse, Some, None}
use Rattle.std.specs.BTreeMap as tree
use Rattle.chat_change.specs.Order.{buffer_cmp}
use Rattle.chat_history.specs.Cut.{before}
use Rattle.chat_history.specs.Visible.{records_in}
use Rattle.chat_buffers.specs.Store.{Store, history_in}
use Rattle.chat_buffers.proofs.CursorLemmas.{records_absent, down_is}
use Rattle.chat_buffers.proofs.buffers.Buffers.down.Goals as goal

pub returns-in-Some : goal.returns-in-Some
returns-in-Some c =
    let cut = c.args.cut.now in
    let b = c.args.buffer.now in
    let here : tree.get buffer_cmp c.self.inside.held b ≡ Some c.in-Some.held.now = search rules in
    down_is c.self.inside.accounts c.self.inside.held c.self.invariant b c.in-Some.held.now here cut c.down.result c.down.ensures
    ∙ ap (λ (s : Store). reverse (before cut (records_in (history_in s) b))) c.self.view_is

pub returns-in-None : goal.returns-in-None
returns-in-None c =
    let cut = c.args.cut.now in
    let b = c.args.buffer.now in
    let none : tree.get buffer_cmp c.self.inside.held b ≡ None = search rules in
    c.empty.ensures ∙ ap (λ rs. reverse (before cut rs)) (sym (records_absent c.self.inside.accounts c.self.inside.held c.self.invariant b none))
    ∙ ap (λ (s : Store). reverse (before cut (records_in (history_in s) b))) c.self.view_is
