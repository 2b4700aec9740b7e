use Rattle.std.proofs.Common.{rules, ◌≡◌, true, get_or, Some, [], ◌∷◌, ◌++◌, map, sym, subst, ap, ◌∙◌, arith}
use Rattle.std.proofs.lemmas.List.{take_all}
use Rattle.std.specs.List.{list_all}
use Rattle.chat_change.specs.Words.{is_target}
use Rattle.node_config.proofs.DifferingLemmas.{all-push}
use Rattle.toml.specs.Data.{string, array}
use Rattle.toml.specs.View.{view, items_of}
use Rattle.toml.specs.declared.value.Value.{Array as ArrayValue}
use Rattle.toml.proofs.Views.{view-Array}
use Rattle.node_config.proofs.TableLemmas.{value_at}
use Rattle.node_config.proofs.EntryLemmas.{texts-push}
use Rattle.node_config.proofs.section.Section.channels.Goals as goal

pub loop-item-preserved : goal.loop-item-preserved
loop-item-preserved c =
    let before = c.loop-item.names.items in
    let vs = c.deref-item-items.result.now in
    let name = c.in-Some.name in
    let items : c.push.new.list.items ≡ before ++ name ∷ [] = search rules in
    let named : is_target name ≡ true = rw c.in-Some.is at c.in_ok-name.ensures.named in
    let is : view c.item-item.result ≡ string name = rw c.in-Some.is at c.in_ok-name.ensures.value in
    let place : c.item-item.result ≡ get_or vs c.loop-item.item-index c.item-item.result = c.item-item.is in
    record {
      named = subst (λ l. list_all is_target l ≡ true) (sym items) (all-push is_target before name c.loop-item.invariant.named named);
      value =
          ap (map string) items
          ∙ texts-push before name vs c.loop-item.item-index c.item-item.result c.loop-item.invariant.value (omega arith) (ap view (sym place) ∙ is);
    }

pub returns-clause-value : goal.returns-clause-value
returns-clause-value c =
    let arm = c.in-Some-Array in
    let at = value_at c.get.result arm.field-0 (ArrayValue arm.items) c.args.key.now c.args.self.table.now.entries (record { found = c.get.ensures.value }) arm.is arm.field-0-is in
    let items : c.deref-item-items.result.now ≡ arm.items.items = c.deref-item-items.ensures.value ∙ ap (λ v. v.items) arm.items-is in
    let all = c.loop-item.invariant.value ∙ ap (map view) (take_all _ c.deref-item-items.result.now (c.loop-item-test.false)) ∙ ap (map view) items in
    at ∙ ap Some (view-Array arm.items) ∙ ap (λ ds. Some (array (items_of ds))) (sym all)
