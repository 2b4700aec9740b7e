use Rattle.std.proofs.Common.{Some, ap, sym, ◌∙◌}
use Rattle.std.specs.Prelude.{option_and_then}
use Rattle.std.specs.Option.{option_copied}
use Rattle.toml.specs.View.{table_view}
use Rattle.node_config.specs.Naming as spec
use Rattle.node_config.proofs.NamingLemmas.{no_document, the_document}
use Rattle.node_config.proofs.naming.entry_name.Goals as goal

pub returns-in-Err-BadText : goal.returns-in-Err-BadText
returns-in-Err-BadText c =
    let bad = rw c.in-Err-BadText.field-0-is at c.in-Err-BadText.ensures.refused in
    sym (ap (option_and_then (spec.name_in c.args.list c.args.entry)) (no_document c.args.bytes.now bad))

pub returns-in-Some : goal.returns-in-Some
returns-in-Some c =
    let read = c.in-Ok.ensures in
    let document = the_document c.args.bytes.now (table_view c.in-Ok.table) read.document.0 read.table in
    let whole = c.in_ok-new-in-Some.ensures ∙ c.as_bytes.ensures.value in
    let named = sym (ap option_copied c.in-Some.is) ∙ c.name_in.ensures in
    ap Some whole ∙ named ∙ sym (ap (option_and_then (spec.name_in c.args.list c.args.entry)) document)
