-- A packet that is made of lawful changes may be written.
use Rattle.std.proofs.Common.{◌≡◌, ℕ, ◌^◌, ◌<◌, ◌≤◌, true, false, Some, None, List, [], ◌∷◌, take, length, get_or, refl, sym, ap, subst, arith, ⊎_elim}
use Rattle.std.specs.Prelude.{◌==◌}
use Rattle.std.specs.List.{All, AllByRecursion}
use Rattle.std.proofs.lemmas.Bool.Decides.{nat_tests}
use Rattle.std.proofs.lemmas.List.{length-map, length-take}
use Rattle.std.proofs.lemmas.List.Elements.{All-contains, All-from_recursion, Contains-get_or}
use Rattle.irc_time.specs.Time.{greatest}
use Rattle.chat_change.specs.Buffer.{Buffer}
use Rattle.chat_change.specs.Lawful.{IsLawfulChange}
use Rattle.chat_change.specs.declared.change.Change.{Change}
use Rattle.chat_change.specs.declared.change.Change.TheVariants.{Post, Redact, Mark, Floor, AccountFloor}
use Rattle.chat_history.specs.History.{norm}
use Rattle.chat_history.specs.Numbering.{Delta, delta, delta_limit, newer, numbers}
use Rattle.chat_history.proofs.CallerLemmas.{delta_all, delta_further}
use Rattle.cluster_directory.specs.Life.{Life, IsLife}
use Rattle.peer_lines.specs.Packet.{Packet}
use Rattle.cluster_directory.specs.Names.{is_node_name}
use Rattle.peer_lines.specs.Spelling.{IsPacket}
use Rattle.gossip_link.specs.Cluster.{Made}
use Rattle.gossip_link.specs.Promises.{IsMade, IsMadeMoment, ComesFrom}
use Rattle.gossip_link.proofs.ComesLemmas.{ComesFrom-made, pieces_come}

-- ---- the pieces of lawful changes are lawful

module _ (list : List Change) (all : AllByRecursion IsLawfulChange list) where
  -- the list, as what some node made
  abbrev own : Made
  own = record { by = []; changes = list }

  abbrev made : List Made
  made = own ∷ []

  made_lawful : (c : Change) → IsMade made c → IsLawfulChange c
  made_lawful c h =
      let each : AllByRecursion (λ (m : Made). All IsLawfulChange m.changes) made = (All-from_recursion IsLawfulChange list all, tt) in
      let those = All-contains (λ (m : Made). All IsLawfulChange m.changes) made h.0 (All-from_recursion (λ (m : Made). All IsLawfulChange m.changes) made each) h.1 in
      All-contains IsLawfulChange h.0.changes c those h.2

  moment_within : (b : Buffer) (id : List ℕ) (at : ℕ) → IsMadeMoment made b id at → at ≤ greatest
  moment_within b id at h = ⊎_elim
      (λ r. let l = (made_lawful (Post r.0) r.4).at in subst (λ t. t ≤ greatest) r.3 l)
      (λ r. (made_lawful (Redact b id (Some at)) r).2) h

  piece_lawful : (c : Change) → ComesFrom made c → IsLawfulChange c
  piece_lawful (Post r) h = made_lawful (Post r) h
  piece_lawful (Redact b id None) h = let l = made_lawful (Redact b id h.0.0) h.0.1 in (l.0, l.1, tt)
  piece_lawful (Redact b id (Some at)) h = let l = made_lawful (Redact b id h.0.0) h.0.1 in (l.0, l.1, moment_within b id at h.1)
  piece_lawful (Mark b t) h = made_lawful (Mark b t) h
  piece_lawful (Floor b t) h = made_lawful (Floor b t) h
  piece_lawful (AccountFloor a t) h = made_lawful (AccountFloor a t) h

  each_made : All (ComesFrom made) list
  each_made = λ i d l. ComesFrom-made made (get_or list i d) (own, (0, omega arith, refl), Contains-get_or list i d l)

  delta_lawful : (start from : ℕ) → All IsLawfulChange (delta start list from).changes
  delta_lawful start from = delta_all start from list IsLawfulChange (λ k c e. piece_lawful c (pieces_come made list each_made k c e))

-- ---- the packet

delta_short : (start from : ℕ) (list : List Change) → length (delta start list from).changes ≤ delta_limit
delta_short start from list =
    let pieces = newer (norm list) (numbers start list) from in
    let one = length-map (take delta_limit pieces) (λ (e : ℕ × Change). e.1) in
    let two = length-take delta_limit pieces in
    omega (arith, one, two)

-- the packet of a delta with changes, between two lives
packet_stands : (p : Packet) (start from : ℕ) (list : List Change)
    → record { from = p.from; to = p.to; changes = p.changes } ≡ delta start list from
    → 0 < length p.changes → p.to < 2 ^ 64 → IsLife p.sender → IsLife p.receiver
    → AllByRecursion IsLawfulChange list → IsPacket p
packet_stands p start from list e some fits sender receiver all =
    let f : p.from ≡ from = ap (λ (d : Delta). d.from) e in
    let t : p.to ≡ (delta start list from).to = ap (λ (d : Delta). d.to) e in
    let c : p.changes ≡ (delta start list from).changes = ap (λ (d : Delta). d.changes) e in
    let some_of : 0 < length (delta start list from).changes = subst (λ cs. 0 < length cs) c some in
    let further = delta_further start from list some_of in
    let short = delta_short start from list in
    let same = ap length c in
    record {
      head = record {
        sender = sender;
        receiver = receiver;
        rising = omega (arith, f, t, further);
        number = fits;
        some = some;
        within = omega (arith, same, short);
      };
      changes = subst (All IsLawfulChange) (sym c) (delta_lawful list all start from);
    }

-- what the code makes of a delta with changes
pub made_stands : (p : Packet) (d : Delta) (me : Life) (name : List ℕ) (incarnation start from : ℕ) (list : List Change)
    → p ≡ record { sender = me; receiver = record { node = name; incarnation = incarnation }; from = d.from; to = d.to; changes = d.changes }
    → d ≡ delta start list from → (length d.changes == 0) ≡ false → d.to < 2 ^ 64
    → IsLife me → is_node_name name ≡ true → incarnation < 2 ^ 64
    → AllByRecursion IsLawfulChange list → IsPacket p
made_stands p d me name incarnation start from list e f filled fits is_me is_name number all =
    let some : 0 < length d.changes = grind (arith, nat_tests) in
    subst IsPacket (sym e)
    (packet_stands (record { sender = me; receiver = record { node = name; incarnation = incarnation }; from = d.from; to = d.to; changes = d.changes })
    start from list f some fits is_me (record { node = is_name; incarnation = number }) all)
