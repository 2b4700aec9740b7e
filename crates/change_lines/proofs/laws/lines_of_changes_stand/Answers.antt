use Rattle.change_lines.proofs.StandsLemmas.{change_stands}
use Rattle.change_lines.proofs.laws.lines_of_changes_stand.Goals as goal

pub returns-clause-one_line : goal.returns-clause-one_line
returns-clause-one_line start c is = (change_stands c is).good

pub returns-clause-short : goal.returns-clause-short
returns-clause-short start c is = (change_stands c is).short
