-- What is put before the workers of a node begin: what its configuration says.
use Rattle.std.specs.Prelude.{Option, List}
use Rattle.std.specs.List.{filter_map}
use Rattle.std.specs.Option.{option_map}
use Rattle.chat_change.specs.declared.change.Change.{Change}
use Rattle.chat_change.specs.declared.change.Change.TheVariants.{AccountFloor}
use Rattle.node_config.specs.declared.entries.AccountConfig.{AccountConfig}

-- the floor of an account that keeps nothing before a moment
abbrev pub floor_of : AccountConfig → Option Change
floor_of a = option_map (AccountFloor a.name) a.keep_from

-- one for each such account, in their order
abbrev pub floors_of : List AccountConfig → List Change
floors_of accounts = filter_map floor_of accounts
