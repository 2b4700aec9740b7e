use Rattle.bnc_work.specs.Site.{settings_of}
use Rattle.test_worker.proofs.play.played.Given as goal

-- the node that is about to be made
abbrev pub ghosts-play-J-Naming : goal.ghosts-play-J-Naming
ghosts-play-J-Naming g a = record { book = a.name.seen.book }

abbrev pub ghosts-play-J-Ledger : goal.ghosts-play-J-Ledger
ghosts-play-J-Ledger g a = record { name = a.name.blank.name; parts = a.name.blank.parts }

-- what its configuration says
abbrev pub ghosts-play-S-NodeSite : goal.ghosts-play-S-NodeSite
ghosts-play-S-NodeSite g a = record { settings = settings_of a.settings.now }
