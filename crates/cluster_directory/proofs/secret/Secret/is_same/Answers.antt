use Rattle.std.proofs.Common.{◌≡◌, ◌∙◌, sym, arith}
use Rattle.std.proofs.lemmas.Bool.Decides.{nat_tests}
use Rattle.cluster_directory.proofs.SecretLemmas.{same_from_none, none_from_same}
use Rattle.cluster_directory.proofs.secret.Secret.is_same.Goals as goal

pub returns : goal.returns
returns c =
    let places = c.differing.ensures in (
      λ test. let none : c.differing.result ≡ 0 = grind (arith, nat_tests) in same_from_none c.args.self.now c.args.given.now (sym places ∙ none),
      λ same. let none = places ∙ none_from_same c.args.self.now c.args.given.now same in grind (arith, nat_tests),
    )
