use Rattle.std.proofs.Common.{rules, ◌≡◌, false}
use Rattle.std.specs.Prelude.{position}
use Rattle.cluster_directory.specs.Names.{same_name}
use Rattle.cluster_directory.specs.declared.terms.PeerTerms.{PeerTerms}
use Rattle.cluster_directory.proofs.TermsLemmas.{index_of_is}
use Rattle.cluster_directory.proofs.terms.Terms.index_of.Goals as goal

pub returns : goal.returns
returns c =
    let other : same_name c.args.name.now c.args.self.now.me.node ≡ false = search rules in
    let found : c.index_of.result ≡ position (λ (peer : PeerTerms). same_name c.args.name.now peer.name) c.args.self.now.peers = search rules in
    index_of_is c.args.self.now c.args.name.now c.index_of.result other found
