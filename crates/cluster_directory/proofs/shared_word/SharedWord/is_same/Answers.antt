use Rattle.std.specs.Cmp.Lexicographic.{texts_ties}
use Rattle.cluster_directory.proofs.shared_word.SharedWord.is_same.Goals as goal

pub returns : goal.returns
returns c =
    let ties = texts_ties c.args.self.now c.args.other.now in
    (cc)
