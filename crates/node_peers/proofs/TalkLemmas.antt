-- What a packet for a peer is made of.
use Rattle.std.proofs.Common.{◌≡◌, ℕ, true, false, List, [], ◌++◌, Option, None, Some, Result, Ok, Err, refl, sym, ap, ◌∙◌, subst, append-nil}
use Rattle.std.proofs.Math.Logic.{∥∥₁_map₂}
use Rattle.std.specs.Prelude.{IfOk, OnOk}
use mathlib.Core.List.{IsPrefix}
use Rattle.chat_change.specs.declared.change.Change.{Change}
use Rattle.chat_history.specs.Numbering.{Delta, delta}
use Rattle.cluster_directory.specs.declared.version.TheConstants.Version.{OWN}
use Rattle.peer_lines.specs.Packet.{Packet}
use Rattle.gossip_link.specs.Link.{Link}
use Rattle.gossip_link.specs.Pace as pace
use Rattle.gossip_link.specs.Packets.{text_of, to_of}
use Rattle.gossip_link.specs.Peer.{is_served, packet_of}
use Rattle.gossip_link.specs.Session.{Session}
use Rattle.network_log.specs.Facts.{NodeFacts}
use Rattle.network_log.specs.Peer.{IsLinkWith, IsOwnIfAny, with_pace}
use Rattle.node_peers.specs.Talk.{IsAdvanced, Talk, said_last}

-- the delta of all that a node has seen, which may be more than before
pub given-so : {E : Type 0} (facts : NodeFacts) (old new : List Change) (from : ℕ) (result : Result Delta E)
    → IfOk result (λ d. d ≡ delta 0 new from) → IsPrefix old new → ∥ facts.held new ∥₁
    → IfOk result (λ d. (start : ℕ) (list : List Change) → (start ≡ 0) × (list ≡ old)
    → (others : List Change) × ∥ facts.held (old ++ others) ∥₁ × (((start ≡ 0) × (list ++ others ≡ new)) × (d ≡ delta start (list ++ others) from)))
given-so facts old new from (Err e) is more held = tt
given-so facts old new from (Ok d) is more held = λ start list k.
    let same : list ++ more.0 ≡ new = ap (λ (l : List Change). l ++ more.0) k.1 ∙ more.1 in
    (more.0, subst (λ (l : List Change). ∥ facts.held l ∥₁) (sym more.1) held, ((k.0, same), is ∙ (λ i. delta (sym k.0 i) (sym same i) from)))

-- of a source that held these and holds those now: the packet of what it gives
abbrev pub IsGiven : NodeFacts → List Change → List Change → Link → Option Packet → Type 0
IsGiven facts before after link packet =
    (is_served OWN link.peer.heard ≡ true → (start : ℕ) (list : List Change) → (start ≡ 0) × (list ≡ before)
    → (others : List Change) × ∥ facts.held (before ++ others) ∥₁ × (((start ≡ 0) × (list ++ others ≡ after))
    × (packet ≡ packet_of OWN link.me link.name link.peer.heard (delta start (list ++ others) link.peer.acked))))
    × (is_served OWN link.peer.heard ≡ false → packet ≡ None)

-- it is the peer's own
own-if-any : (facts : NodeFacts) (before after : List Change) (noted : Option ℕ) (place : ℕ) (link : Link) (packet : Option Packet)
    → noted ≡ Some place → ∥ IsLinkWith facts place link ∥₁ → IsGiven facts before after link packet → IsOwnIfAny facts noted packet
own-if-any facts before after noted place link None is own next = tt
own-if-any facts before after noted place link (Some packet) is own next =
    elim (is_served OWN link.peer.heard) as (λ b. is_served OWN link.peer.heard ≡ b → IsOwnIfAny facts noted (Some packet)) [
      | true ↦ λ e. (
          let given = next.0 e 0 before (refl, refl) in
          ∥∥₁_map₂ own given.1 (λ k held. record {
            place = place;
            link = link;
            changes = before ++ given.0;
            is_noted = is;
            is_link = k;
            is_held = held;
            is_packet = given.2.1;
          }))
      | false ↦ λ e. absurd (some-none (next.1 e))
    ] refl where
      some-none : Some packet ≡ None → ⊥
      some-none e = cc

-- the packet that was made is owed, where one was due
pub advanced : {A E : Type 0} (facts : NodeFacts) (before after : List Change) (result : Result A E) (now place : ℕ) (t : Talk) (link : Link)
    (session : Session) (cleared room text owed : List ℕ) (at : ℕ)
    → t.noted ≡ Some place → ∥ IsLinkWith facts place link ∥₁ → cleared ≡ []
    → (pace.is_due t.session.pace ≡ false → (session ≡ t.session) × (room ≡ cleared))
    → (pace.is_due t.session.pace ≡ true → (packet : Option Packet)
    × IsGiven facts before after link packet
    × (room ≡ cleared ++ text_of packet)
    × (session ≡ with_pace t.session (pace.made (to_of packet) now t.session.pace)))
    → text ≡ room → OnOk result (owed ≡ t.owed ++ text) → OnOk result (at ≡ said_last text now t.said_at)
    → OnOk result (IsAdvanced facts now t (record { session = session; brought = t.brought; noted = t.noted; owed = owed; said_at = at }))
advanced facts before after (Err e) now place t link session cleared room text owed at is own empty idle sends same owes said = tt
advanced facts before after (Ok x) now place t link session cleared room text owed at is own empty idle sends same owes said = (
  (λ e.
      let k = idle e in
      let none : text ≡ [] = same ∙ k.1 ∙ empty in
      let all : owed ≡ t.owed = owes ∙ ap (λ (l : List ℕ). t.owed ++ l) none ∙ append-nil t.owed in
      let last : at ≡ t.said_at = said ∙ ap (λ (l : List ℕ). said_last l now t.said_at) none in
      (λ i. record { session = k.0 i; brought = t.brought; noted = t.noted; owed = all i; said_at = last i })),
  (λ e.
      let k = sends e in
      let is-text : text ≡ text_of k.0 = same ∙ k.2 ∙ ap (λ (l : List ℕ). l ++ text_of k.0) empty in
      let all : owed ≡ t.owed ++ text_of k.0 = owes ∙ ap (λ (l : List ℕ). t.owed ++ l) is-text in
      let last : at ≡ said_last (text_of k.0) now t.said_at = said ∙ ap (λ (l : List ℕ). said_last l now t.said_at) is-text in
      record {
        packet = k.0;
        is_own = own-if-any facts before after t.noted place link k.0 is own k.1;
        is_new = (λ i. record { session = k.3 i; brought = t.brought; noted = t.noted; owed = all i; said_at = last i });
      }),
)
