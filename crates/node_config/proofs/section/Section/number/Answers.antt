use Rattle.std.proofs.Common.{rules, Some, w64, ap, ◌∙◌}
use Rattle.toml.specs.Data.{integer}
use Rattle.toml.specs.declared.value.Value.{Integer as IntegerValue}
use Rattle.toml.proofs.Views.{view-Integer}
use mir.Val.{SFits}
use Rattle.node_config.proofs.TableLemmas.{value_at, is_number}
use Rattle.node_config.proofs.section.Section.number.Goals as goal

pub returns-in-Ok-clause-value : goal.returns-in-Ok-clause-value
returns-in-Ok-clause-value c =
    let arm = c.in-Some-Integer in
    let at = value_at c.get.result arm.field-0 (IntegerValue arm.number) c.args.key.now c.args.self.table.now.entries (record { found = c.get.ensures.value }) arm.is arm.field-0-is in
    let fits : SFits w64 arm.number = search rules in
    let is = is_number _ arm.number c.in-Ok.number fits arm.number-is c.in-Ok.ensures.0 c.in-Ok.ensures.1 in
    at ∙ ap Some (view-Integer arm.number) ∙ ap (λ z. Some (integer z)) is
