use Rattle.std.proofs.Common.{◌++◌}
use Rattle.std.proofs.lemmas.List.Elements.{Contains-append_right}
use Rattle.keeper.specs.Lives.{all_acknowledged}
use Rattle.keeper.proofs.LivesLemmas.{lives_say}
use Rattle.keeper.proofs.PiecesLemmas.{says_member}
use Rattle.keeper.proofs.laws.what_was_acknowledged_is_included.Goals as goal

pub returns : goal.returns
returns c = λ first lives said n covers are x among.
    let last = lives_say first lives said n covers are in (
      last.past,
      last.has,
      says_member last.past.changes (said ++ all_acknowledged lives) x last.says (Contains-append_right said (all_acknowledged lives) x among),
    )
