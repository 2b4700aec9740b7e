-- What the contracts of the readers cite: the table that a section is, and the key of a list.
use Rattle.std.specs.Prelude.{ℕ, List, codes}
use Rattle.toml.specs.Data.{Members}
use Rattle.toml.specs.View.{table_view}
use Rattle.node_config.specs.declared.fault.ListName.{ListName}
use Rattle.node_config.specs.declared.fault.ListName.TheVariants.{Peers, Accounts, Networks}
use Rattle.node_config.specs.declared.section.Section.{Section}

abbrev pub table_of : Section → Members
table_of section = table_view section.table.now

abbrev pub key_of : ListName → List ℕ
key_of Peers = codes "peer"
key_of Accounts = codes "account"
key_of Networks = codes "network"
