use Rattle.std.proofs.Common.{◌≡◌, true, map, take}
use Rattle.std.specs.List.{list_all}
use Rattle.chat_change.specs.Words.{is_target}
use Rattle.toml.specs.Data.{string}
use Rattle.toml.specs.View.{view}
use Rattle.node_config.proofs.section.Section.channels.Given as goal

abbrev pub invariant-loop-item : goal.invariant-loop-item
invariant-loop-item l = record {
  named : list_all is_target l.names.items ≡ true;
  value : map string l.names.items ≡ map view (take l.item-index l.item-items);
}
