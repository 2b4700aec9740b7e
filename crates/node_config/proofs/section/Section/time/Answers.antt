use Rattle.node_config.specs.Sections.{table_of}
use Rattle.node_config.proofs.TableLemmas.{is_none, none_at, no_time_at}
use Rattle.node_config.proofs.section.Section.time.Goals as goal

pub returns-then-is_none : goal.returns-then-is_none
returns-then-is_none c =
    let none = is_none c.get.result c.if-is_none.ensures in
    no_time_at (table_of c.args.self) c.args.key.now (none_at c.get.result c.args.key.now c.args.self.table.now.entries (record { found = c.get.ensures.value }) none)
