-- What a node brings to each connection with a peer.
use Rattle.std.specs.Prelude.{ℕ, Option, Some, None, List, map, position, slice_get, if◌then◌else◌}
use Rattle.cluster_directory.specs.Life.{Life}
use Rattle.cluster_directory.specs.Names.{same_name}
use Rattle.cluster_directory.specs.declared.terms.PeerTerms.{PeerTerms}
use Rattle.cluster_directory.specs.declared.version.Version.{Version}
use Rattle.cluster_directory.specs.declared.version.TheConstants.Version.{OWN}

-- the word that the nodes share, the own life, and the terms with each configured peer
pub record Terms : Type 0 where
  pub word : List ℕ
  pub me : Life
  pub peers : List PeerTerms

abbrev pub names_of : Terms → List (List ℕ)
names_of t = map (λ (p : PeerTerms). p.name) t.peers

abbrev pub version_or : Option PeerTerms → Version → Version
version_or None own = own
version_or (Some p) own = p.version

-- the version of the hello to the peer at a place
abbrev pub version_for : Terms → ℕ → Version
version_for t place = version_or (slice_get t.peers place) OWN

-- the place of a configured peer other than this node
abbrev pub index_of : Terms → List ℕ → Option ℕ
index_of t name =
    if same_name name t.me.node
    then None
    else position (λ peer. same_name name peer) (names_of t)
