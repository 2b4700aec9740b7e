-- The link with a peer.
use Rattle.std.specs.Prelude.{ℕ}
use Rattle.gossip_link.specs.Link.{Link}

-- the link of this node with the peer at that place of its terms
pub record PeerTie : Type 0 where
  pub place : ℕ
  pub link : Link
