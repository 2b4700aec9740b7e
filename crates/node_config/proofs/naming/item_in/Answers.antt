use Rattle.std.proofs.Common.{refl, sym, ap, ◌∙◌}
use Rattle.std.specs.Prelude.{option_and_then}
use Rattle.toml.specs.Data.{at, get_member}
use Rattle.toml.specs.View.{table_view}
use Rattle.node_config.proofs.TableLemmas.{value_at, none_at}
use Rattle.node_config.proofs.naming.item_in.Goals as goal

pub returns-in-Some : goal.returns-in-Some
returns-in-Some c =
    let document = c.args.document.now in
    let items = c.in-Some.items in
    let found = value_at c.get.result items items.now c.as_str.result.now document.entries (record { found = c.get.ensures.value }) c.in-Some.is refl in
    let is = ap (λ k. get_member k (table_view document)) (sym c.as_str.ensures) ∙ found in
    c.get-in-Some.ensures ∙ sym (ap (option_and_then (at c.args.index)) is)

pub returns-in-None : goal.returns-in-None
returns-in-None c =
    let document = c.args.document.now in
    let none = none_at c.get.result c.as_str.result.now document.entries (record { found = c.get.ensures.value }) c.in-None.is in
    let is = ap (λ k. get_member k (table_view document)) (sym c.as_str.ensures) ∙ none in
    sym (ap (option_and_then (at c.args.index)) is)
