use Rattle.std.specs.Cmp.Lexicographic.{texts_ties}
use Rattle.change_lines.proofs.words.is_text.Goals as goal

pub returns : goal.returns
returns c =
    let ties = texts_ties c.args.text.now c.args.word.now in
    (cc)
