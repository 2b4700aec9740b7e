use Rattle.std.proofs.Common.{rules, ◌≡◌, ◌∙◌, refl, sym, ap, Some, None}
use Rattle.std.specs.BTreeMap as tree
use Rattle.std.specs.Option.{option_map}
use Rattle.chat_change.specs.Order.{buffer_cmp}
use Rattle.chat_change.specs.Key.{MarkerOf}
use Rattle.chat_change.specs.declared.change.Change.TheVariants as value
use Rattle.chat_buffers.proofs.LookupLemmas.{change_here, marker_here}
use Rattle.chat_buffers.proofs.buffers.Buffers.marker.Goals as goal

pub returns-in_err-get : goal.returns-in_err-get
returns-in_err-get c =
    let none : tree.get buffer_cmp c.self.inside.held c.args.buffer.now ≡ None = search rules in
    change_here c.self.inside.accounts c.self.inside.held c.args.self.now c.self.view_is c.args.buffer.now (MarkerOf c.args.buffer.now) None refl none ∙ ap (option_map (value.Mark c.args.buffer.now)) (sym c.from_residual.ensures)

pub returns : goal.returns
returns c =
    let here : tree.get buffer_cmp c.self.inside.held c.args.buffer.now ≡ Some c.in_ok-get.field-0.now = search rules in
    marker_here c.self.inside.accounts c.self.inside.held c.args.self.now c.self.view_is c.args.buffer.now c.in_ok-get.field-0.now here ∙ ap (option_map (value.Mark c.args.buffer.now)) (sym c.moment_of.ensures)
