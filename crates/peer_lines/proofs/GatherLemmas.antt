-- The lines of a packet, pushed in turn, give that packet with the last of them.
use Rattle.std.proofs.Common.{◌≡◌, ℕ, suc, ◌+◌, ◌<◌, true, false, cond, Some, None, List, [], ◌∷◌, ◌++◌, map, length, refl, ap, ◌∙◌, arith, append_assoc, length-append}
use Rattle.std.specs.Prelude.{Ok, Err, ◌==◌}
use Rattle.std.specs.List.{All, repeat}
use Rattle.std.proofs.lemmas.Bool.{cond-true, cond-false}
use Rattle.std.proofs.lemmas.Bool.Decides.{nat_tests}
use Rattle.std.proofs.lemmas.List.Elements.{All-cons, All-map}
use Rattle.chat_change.specs.declared.change.Change as change
use Rattle.peer_lines.specs.Packet as parts
use Rattle.peer_lines.specs.Packet.{Packet, head_of, packet_of}
use Rattle.peer_lines.specs.Spelling.{IsPeerLine, IsPacket, lines_of}
use Rattle.peer_lines.specs.Gather.{Gather, ArrivedOrFault, Pushed, with_change, arrives, waits, pushed, after, answers}
use Rattle.cluster_directory.specs.declared.fault.LinkFault.{LinkFault}
use Rattle.peer_lines.specs.declared.peer_line.PeerLine.{PeerLine}
use Rattle.peer_lines.specs.declared.peer_line.PeerLine.TheVariants.{Word, Hello, Head, Change, Ack}
use Rattle.peer_lines.specs.declared.gather.Arrived.TheVariants as arrived

abbrev waiting : ℕ → List ArrivedOrFault
waiting n = repeat n (Ok None ∷ [])

-- a head, and changes of which some came
module _ (h : parts.Head) where
  abbrev under_way : List change.Change → Gather
  under_way came = Some (record { head = h; changes = came })

  abbrev arrival : List change.Change → List ArrivedOrFault
  arrival all = Ok (Some (arrived.Packet (packet_of h all))) ∷ []

  last_arrives : (came : List change.Change) (c : change.Change) → length (came ++ c ∷ []) ≡ h.count → with_change h (came ++ c ∷ []) ≡ arrives (arrived.Packet (packet_of h (came ++ c ∷ [])))
  last_arrives came c e = cond-true _ _ _ (equal (length (came ++ c ∷ [])) h.count e) where
    equal : (m n : ℕ) → m ≡ n → (m == n) ≡ true
    equal m n e = grind (arith, nat_tests)

  other_waits : (came : List change.Change) (c : change.Change) → length (came ++ c ∷ []) < h.count → with_change h (came ++ c ∷ []) ≡ waits (record { head = h; changes = came ++ c ∷ [] })
  other_waits came c l = cond-false _ _ _ (differ (length (came ++ c ∷ [])) h.count l) where
    differ : (m n : ℕ) → m < n → (m == n) ≡ false
    differ m n l = grind (arith, nat_tests)

  next_answers : (came : List change.Change) (c : change.Change) (more : List change.Change) → length came + suc (length more) ≡ h.count
      → answers (under_way came) (map (λ d. Change d) (c ∷ more)) ≡ waiting (length more) ++ arrival (came ++ c ∷ more)
  next_answers came c [] e =
      let size = length-append came (c ∷ []) in
      ap (λ (p : Pushed). p.answer ∷ answers p.gather []) (last_arrives came c (omega arith))
  next_answers came c (d ∷ more) e =
      let size = length-append came (c ∷ []) in
      ap (λ (p : Pushed). p.answer ∷ answers p.gather (map (λ x. Change x) (d ∷ more))) (other_waits came c (omega arith))
      ∙ ap (λ l. Ok None ∷ l) (next_answers (came ++ c ∷ []) d more (omega arith))
      ∙ ap (λ l. Ok None ∷ (waiting (length more) ++ arrival l)) (append_assoc came (c ∷ []) (d ∷ more))

  then_none : (came : List change.Change) (c : change.Change) (more : List change.Change) → length came + suc (length more) ≡ h.count
      → after (under_way came) (map (λ d. Change d) (c ∷ more)) ≡ None
  then_none came c [] e =
      let size = length-append came (c ∷ []) in
      ap (λ (p : Pushed). p.gather) (last_arrives came c (omega arith))
  then_none came c (d ∷ more) e =
      let size = length-append came (c ∷ []) in
      ap (λ (p : Pushed). after p.gather (map (λ x. Change x) (d ∷ more))) (other_waits came c (omega arith))
      ∙ then_none (came ++ c ∷ []) d more (omega arith)

-- the answers to all lines of a packet
pub packet_answers : (p : Packet) → 0 < length p.changes
    → answers None (lines_of p) ≡ waiting (length p.changes) ++ Ok (Some (arrived.Packet p)) ∷ []
packet_answers p some = go p.changes refl some where
  go : (changes : List change.Change) → p.changes ≡ changes → 0 < length changes
      → Ok None ∷ answers (Some (record { head = head_of p; changes = [] })) (map (λ d. Change d) changes)
      ≡ waiting (length changes) ++ Ok (Some (arrived.Packet (packet_of (head_of p) changes))) ∷ []
  go [] e some = absurd (omega arith)
  go (c ∷ more) e some = ap (λ l. Ok None ∷ l) (next_answers (head_of p) [] c more (let same = ap length e in omega arith))

pub packet_empties : (p : Packet) → 0 < length p.changes → after None (lines_of p) ≡ None
packet_empties p some = go p.changes refl some where
  go : (changes : List change.Change) → p.changes ≡ changes → 0 < length changes
      → after (Some (record { head = head_of p; changes = [] })) (map (λ d. Change d) changes) ≡ None
  go [] e some = absurd (omega arith)
  go (c ∷ more) e some = then_none (head_of p) [] c more (let same = ap length e in omega arith)

pub packet_lines : (p : Packet) → IsPacket p → All IsPeerLine (lines_of p)
packet_lines p is = All-cons IsPeerLine (Head (head_of p)) (map (λ c. Change c) p.changes) is.head (All-map IsPeerLine (λ c. Change c) p.changes is.changes)

-- ---- refusals

grown_answers : (h : parts.Head) (changes : List change.Change) (f : LinkFault) → (with_change h changes).answer ≡ Err f → (with_change h changes).gather ≡ None
grown_answers h changes f =
    elim (length changes == h.count) as (λ b. (cond b (arrives (arrived.Packet (packet_of h changes))) (waits (record { head = h; changes = changes }))).answer ≡ Err f
    → (cond b (arrives (arrived.Packet (packet_of h changes))) (waits (record { head = h; changes = changes }))).gather ≡ None) [
      | true ↦ λ e. refl
      | false ↦ λ e. (cc)
    ]

pub refusal_empties : (g : Gather) (l : PeerLine) (f : LinkFault) → (pushed g l).answer ≡ Err f → (pushed g l).gather ≡ None
refusal_empties None (Word word) f e = refl
refusal_empties None (Hello life version) f e = refl
refusal_empties None (Head head) f e = (cc)
refusal_empties None (Change c) f e = refl
refusal_empties None (Ack ack) f e = refl
refusal_empties (Some g) (Word word) f e = refl
refusal_empties (Some g) (Hello life version) f e = refl
refusal_empties (Some g) (Head head) f e = refl
refusal_empties (Some g) (Change c) f e = grown_answers g.head (g.changes ++ c ∷ []) f e
refusal_empties (Some g) (Ack ack) f e = refl
