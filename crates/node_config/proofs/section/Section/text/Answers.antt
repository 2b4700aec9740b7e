use Rattle.std.proofs.Common.{◌≡◌, Some, string_bytes, sym, ap, ◌∙◌}
use Rattle.toml.specs.Data.{string}
use Rattle.toml.specs.declared.value.Value.{String as StringValue}
use Rattle.toml.proofs.Views.{view-String}
use Rattle.node_config.proofs.TableLemmas.{value_at}
use Rattle.node_config.proofs.section.Section.text.Goals as goal

pub returns-in-Some-String : goal.returns-in-Some-String
returns-in-Some-String c =
    let arm = c.in-Some-String in
    let at = value_at c.get.result arm.field-0 (StringValue arm.text) c.args.key.now c.args.self.table.now.entries (record { found = c.get.ensures.value }) arm.is arm.field-0-is in
    let same : c.as_str.result.now ≡ string_bytes arm.text = c.as_str.ensures.value ∙ ap string_bytes arm.text-is in
    at ∙ ap Some (view-String arm.text) ∙ ap (λ s. Some (string s)) (sym same)
