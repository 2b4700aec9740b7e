-- The next packet for a peer.
use Rattle.std.specs.Prelude.{ℕ, ◌≡◌, true, false, Option, Some, None, List, []}
use Rattle.chat_change.specs.declared.change.Change.{Change}
use Rattle.chat_history.specs.Numbering.{delta}
use Rattle.chat_history.specs.Growth.{AfterOthers}
use Rattle.peer_lines.specs.Packet.{Packet}
use Rattle.peer_lines.specs.Spelling.{packet_text}
use Rattle.gossip_link.specs.Link.{Link}
use Rattle.cluster_directory.specs.declared.version.TheConstants.Version.{OWN}
use Rattle.gossip_link.specs.Peer.{is_served, packet_of, after_make, MayBeWritten}

-- the number up to which a packet is
abbrev pub to_of : Option Packet → Option ℕ
to_of None = None
to_of (Some p) = Some p.to

-- its lines
abbrev pub text_of : Option Packet → List ℕ
text_of None = []
text_of (Some p) = packet_text p

abbrev pub link_after : Link → Option Packet → Link
link_after l p = record l { peer = after_make l.peer p }

-- Of a source before and after: the packet is the link's, of the changes since the acknowledged number, if the peer is
-- served. Otherwise there is none.
abbrev pub IsNext : {S : Type 0} → (S → ℕ → List Change → Type 0)
    → (S → List Change → Type 0) → S → S → Link → Option Packet → Type 0
IsNext holds may_add old new l p =
    (is_served OWN l.peer.heard ≡ true → AfterOthers holds may_add old (λ start all. holds new start all
    × (p ≡ packet_of OWN l.me l.name l.peer.heard (delta start all l.peer.acked))))
    × (is_served OWN l.peer.heard ≡ false → p ≡ None)

-- and it may be written, if the changes that the source took are lawful
abbrev pub IsWritable : {S : Type 0} → (S → ℕ → List Change → Type 0)
    → (S → List Change → Type 0) → S → S → Link → Option Packet → Type 0
IsWritable holds may_add old new l p =
    is_served OWN l.peer.heard ≡ true → AfterOthers holds may_add old (λ start all.
    holds new start all × MayBeWritten all p)
