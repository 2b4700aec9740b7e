use Rattle.std.proofs.Common.{rules, ◌≡◌, Some, None, refl}
use Rattle.std.specs.BTreeMap as tree
use Rattle.chat_change.specs.Key.{MessageOf}
use Rattle.chat_change.specs.Order.{buffer_cmp}
use Rattle.chat_buffers.proofs.LookupLemmas.{change_here, message_here}
use Rattle.chat_buffers.proofs.buffers.Buffers.find_id.Goals as goal

pub returns-in_err-get-clause-none : goal.returns-in_err-get-clause-none
returns-in_err-get-clause-none c _ =
    let b = c.args.buffer.now in
    let none : tree.get buffer_cmp c.self.inside.held b ≡ None = search rules in
    change_here c.self.inside.accounts c.self.inside.held c.args.self.now c.self.view_is b (MessageOf b c.args.bytes.now) None refl none

pub returns-clause-none : goal.returns-clause-none
returns-clause-none c none =
    let b = c.args.buffer.now in
    let h = c.in_ok-get.field-0.now in
    let here : tree.get buffer_cmp c.self.inside.held b ≡ Some h = search rules in
    message_here c.self.inside.accounts c.self.inside.held c.args.self.now c.self.view_is b c.args.bytes.now h None here (c.find_id.ensures.none none)
