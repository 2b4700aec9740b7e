use Rattle.test_node.proofs.play.play_anew.Given as goal

-- the node that is about to be made
abbrev pub ghosts-play-J-Naming : goal.ghosts-play-J-Naming
ghosts-play-J-Naming g a = record { book = a.name.seen.book }

abbrev pub ghosts-play-J-Ledger : goal.ghosts-play-J-Ledger
ghosts-play-J-Ledger g a = record { name = a.name.blank.name; parts = a.name.blank.parts }
