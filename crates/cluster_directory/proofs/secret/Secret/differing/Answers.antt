use Rattle.std.proofs.Common.{◌≡◌, ◌∙◌, ◌+◌, ◌<◌, min, length, ap, arith}
use Rattle.std.proofs.lemmas.Bool.Decides.{nat_tests}
use Rattle.std.specs.List.{count_by}
use Rattle.std.specs.Int.{abs_diff}
use Rattle.cluster_directory.specs.Secret.{differs, differing}
use Rattle.cluster_directory.proofs.SecretLemmas.{place_more, all_places}
use Rattle.cluster_directory.proofs.secret.Secret.differing.Goals as goal

pub loop-i-preserved : goal.loop-i-preserved
loop-i-preserved c =
    let a = c.as_bytes-secret.result.now in
    let b = c.args.given.now in
    let end = c.min-i-end.ensures in
    let test = c.loop-i-test.true in
    let own : c.loop-i.i < length a = grind (arith, nat_tests) in
    let other : c.loop-i.i < length b = grind (arith, nat_tests) in
    omega (arith, c.loop-i.invariant, c.from-differing.ensures, place_more a b c.loop-i.i own other)

pub returns : goal.returns
returns c =
    let a = c.as_bytes-secret.result.now in
    let b = c.args.given.now in
    let end = c.min-i-end.ensures in
    let test = c.loop-i-test.false in
    let last = c.loop-i.auto.i-end in
    let all : c.loop-i.i ≡ min (length a) (length b) = grind (arith, nat_tests) in
    c.loop-i.invariant
    ∙ ap (λ places. count_by differs places + abs_diff (length a) (length b)) (all_places a b c.loop-i.i all)
    ∙ ap (λ secret. differing secret b) (c.as_bytes-secret.ensures ∙ c.self.view_is)
