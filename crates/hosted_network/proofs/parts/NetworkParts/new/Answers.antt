use Rattle.hosted_network.proofs.StandingLemmas.{begins_at}
use Rattle.hosted_network.proofs.parts.NetworkParts.new.Goals as goal

pub invariant_of-result : goal.invariant_of-result
invariant_of-result g c = (
  c.requires.me,
  begins_at c.args.accounts.now g.C.Connection.facts.accounts.directory c.args.config.now c.in_ok-directory.directory
      c.requires.accounts c.as_bytes-account.ensures c.as_bytes-network.ensures c.in_ok-directory.ensures,
)
