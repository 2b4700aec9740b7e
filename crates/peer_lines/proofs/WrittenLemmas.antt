-- The parts that a line is written of make up its spelling, and its ending.
use Rattle.std.proofs.Common.{◌≡◌, ℕ, List, ◌++◌, codes, append_assoc, ◌∙◌, ap, length, map}
use Rattle.std.specs.List.{flat_map}
use Rattle.byte_text.specs.Bytes.{line_ending}
use Rattle.chat_change.specs.declared.change.Change.{Change as Piece}
use Rattle.cluster_directory.specs.Version.{number}
use Rattle.peer_lines.specs.Packet as parts
use Rattle.cluster_directory.specs.Life.{Life}
use Rattle.peer_lines.specs.Packet.{Packet, head_of}
use Rattle.peer_lines.specs.Spelling.{written, packet_text}
use Rattle.peer_lines.specs.WrittenParts.{number_text, life_text, lives_text, numbers_text}
use Rattle.cluster_directory.specs.declared.version.Version.{Version}
use Rattle.peer_lines.specs.declared.peer_line.PeerLine.TheVariants.{Hello, Head, Change, Ack}

pub life_parts : (l : Life) (name : List ℕ) (n : ℕ) → name ≡ l.node → n ≡ l.incarnation → codes " " ++ (name ++ number_text n) ≡ life_text l
life_parts l name n e f = λ i. codes " " ++ (e i ++ number_text (f i))

own_head : (h : parts.Head) → lives_text (codes "D") h.sender h.receiver ++ numbers_text h.from h.to h.count ≡ written (Head h)
own_head h = simp append_assoc

pub head_parts : (p : Packet) (s r : Life) (from to count : ℕ) → s ≡ p.sender → r ≡ p.receiver → from ≡ p.from → to ≡ p.to → count ≡ length p.changes
    → lives_text (codes "D") s r ++ numbers_text from to count ≡ written (Head (head_of p))
head_parts p s r from to count e f g h k =
    (λ i. lives_text (codes "D") (e i) (f i) ++ numbers_text (g i) (h i) (k i)) ∙ own_head (head_of p)

own_ack : (a : parts.Ack) → lives_text (codes "A") a.sender a.receiver ++ (number_text a.upto ++ line_ending) ≡ written (Ack a)
own_ack a = simp append_assoc

pub ack_parts : (a : parts.Ack) (s r : Life) (n : ℕ) → s ≡ a.sender → r ≡ a.receiver → n ≡ a.upto → lives_text (codes "A") s r ++ (number_text n ++ line_ending) ≡ written (Ack a)
ack_parts a s r n e f g = (λ i. lives_text (codes "A") (e i) (f i) ++ (number_text (g i) ++ line_ending)) ∙ own_ack a

own_hello : (l : Life) (v : Version) → codes "H" ++ (number_text (number v) ++ (life_text l ++ line_ending)) ≡ written (Hello l v)
own_hello l v = simp append_assoc

pub hello_parts : (l : Life) (v : Version) (n : ℕ) → n ≡ number v → codes "H" ++ (number_text n ++ (life_text l ++ line_ending)) ≡ written (Hello l v)
hello_parts l v n e = (λ i. codes "H" ++ (number_text (e i) ++ (life_text l ++ line_ending))) ∙ own_hello l v

pub packet_parts : (p : Packet) (changes : List Piece) → changes ≡ p.changes → written (Head (head_of p)) ++ flat_map written (map (λ c. Change c) changes) ≡ packet_text p
packet_parts p changes e = ap (λ cs. written (Head (head_of p)) ++ flat_map written (map (λ c. Change c) cs)) e
