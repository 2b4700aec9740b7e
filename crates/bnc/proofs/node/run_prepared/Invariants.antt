use Rattle.bnc_work.specs.Site.{settings_of}
use Rattle.bnc.proofs.node.run_prepared.Given as goal

-- the node that was just made
abbrev pub ghosts-run_node-J-Naming : goal.ghosts-run_node-J-Naming
ghosts-run_node-J-Naming g a = record { book = a.name.seen.book }

abbrev pub ghosts-run_node-J-Ledger : goal.ghosts-run_node-J-Ledger
ghosts-run_node-J-Ledger g a = record { name = a.name.blank.name; parts = a.name.blank.parts }

-- what was just prepared
abbrev pub ghosts-run_node-S-NodeSite : goal.ghosts-run_node-S-NodeSite
ghosts-run_node-S-NodeSite g a = record { settings = settings_of a.prepared.settings }
