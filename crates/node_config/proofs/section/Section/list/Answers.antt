use Rattle.std.proofs.Common.{◌≡◌, Some, sym, ap, ◌∙◌}
use Rattle.toml.specs.Data.{get_member, array}
use Rattle.toml.specs.View.{items_view}
use Rattle.toml.specs.declared.value.Value.{Array as ArrayValue}
use Rattle.toml.proofs.Views.{view-Array}
use Rattle.node_config.specs.Sections.{table_of, key_of}
use Rattle.node_config.proofs.TableLemmas.{value_at, none_at, no_items_at, items_at}
use Rattle.node_config.proofs.section.Section.list.Goals as goal

pub returns-in-None : goal.returns-in-None
returns-in-None c =
    let none = none_at c.get.result c.as_str.result.now c.args.self.table.now.entries (record { found = c.get.ensures.value }) c.in-None.is in
    no_items_at (table_of c.args.self) (key_of c.args.list) (ap (λ k. get_member k (table_of c.args.self)) (sym c.as_str.ensures) ∙ none)

pub returns-in-Some-Array : goal.returns-in-Some-Array
returns-in-Some-Array c =
    let arm = c.in-Some-Array in
    let at = value_at c.get.result arm.field-0 (ArrayValue arm.items) c.as_str.result.now c.args.self.table.now.entries (record { found = c.get.ensures.value }) arm.is arm.field-0-is in
    let same : c.as_slice.result.now ≡ arm.items.items = c.as_slice.ensures.value ∙ ap (λ v. v.items) arm.items-is in
    items_at (table_of c.args.self) (key_of c.args.list) (items_view c.as_slice.result.now) (ap (λ k. get_member k (table_of c.args.self)) (sym c.as_str.ensures) ∙ at
    ∙ ap Some (view-Array arm.items) ∙ ap (λ vs. Some (array (items_view vs))) (sym same))
