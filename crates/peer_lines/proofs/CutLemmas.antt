-- A line that is written has no NUL, CR or LF and is short enough, so that a stream is cut into the lines that were
-- written into it.
use Rattle.std.proofs.Common.{◌≡◌, ℕ, ◌+◌, ◌*◌, ◌≤◌, true, false, not, ◌||◌, List, [], ◌∷◌, ◌++◌, codes, map, length, refl, ap, ◌∙◌, arith, append_assoc, length-append, lit≤}
use Rattle.std.specs.Fmt.{decimal}
use Rattle.std.specs.List.{AllByRecursion, flat_map, list_any, list_all}
use Rattle.std.proofs.lemmas.Bool.{and_parts}
use Rattle.std.proofs.lemmas.List.Elements.{recursion_from_All}
use Rattle.byte_text.specs.Bytes.{ends_line, line_ending}
use Rattle.irc_line.specs.Stream.{items, line, max_line}
use Rattle.irc_line.proofs.CallerLemmas.{bytes_cut}
use Rattle.byte_text.specs.Words.{has_length_to, ends_word}
use Rattle.cluster_directory.specs.Names.{is_node_byte, is_node_name, is_shared_word}
use Rattle.cluster_directory.specs.Version.{number}
use Rattle.cluster_directory.specs.Life.{Life, IsLife}
use Rattle.peer_lines.specs.Packet.{Packet}
use Rattle.peer_lines.specs.Spelling.{spaced, life_words, head_words, ack_words, text_of, IsPeerLine, IsPacket, written, lines_of, packet_text}
use Rattle.cluster_directory.specs.declared.names.TheConstants.{NODE_NAME_LIMIT}
use Rattle.cluster_directory.specs.declared.shared_word.TheConstants.{SHARED_WORD_LIMIT}
use Rattle.peer_lines.specs.declared.peer_line.PeerLine.{PeerLine}
use Rattle.peer_lines.specs.declared.peer_line.PeerLine.TheVariants.{Word, Hello, Head, Change, Ack}
use Rattle.change_lines.proofs.CallerLemmas.{Stands, stands-append, stands_to, change_stands, decimal_stands, word_good, short_to}
use Rattle.peer_lines.proofs.WordLemmas.{name_is_word, shared_is_word}
use Rattle.peer_lines.proofs.GatherLemmas.{packet_lines}
use Rattle.peer_lines.proofs.NumberLemmas.{number_fits}

-- ---- words

-- words with a space between them
spaced_stand : (ws : List (List ℕ)) → AllByRecursion (Stands 255) ws → Stands (256 * length ws) (spaced ws)
spaced_stand [] all = record { good = refl; short = omega arith }
spaced_stand (w ∷ []) all = stands_to 255 (256 * length (w ∷ [])) w (omega arith) all.0
spaced_stand (w ∷ v ∷ ws) all =
    let rest = spaced_stand (v ∷ ws) all.1 in
    let behind : Stands (1 + 256 * length (v ∷ ws)) (32 ∷ spaced (v ∷ ws)) =
    record { good = rest.good; short = (let s = rest.short in omega arith) } in
    let both = stands-append 255 (1 + 256 * length (v ∷ ws)) w (32 ∷ spaced (v ∷ ws)) all.0 behind in
    record { good = both.good; short = (let s = both.short in omega arith) }

node_stands : (text : List ℕ) → is_node_name text ≡ true → Stands 255 text
node_stands text e = stands_to NODE_NAME_LIMIT 255 text (lit≤ tt)
    (record {
      good = word_good text (name_is_word text e).whole;
      short = short_to NODE_NAME_LIMIT text (and_parts (has_length_to NODE_NAME_LIMIT text) (list_all is_node_byte text) e).0;
    })

shared_stands : (text : List ℕ) → is_shared_word text ≡ true → Stands 255 text
shared_stands text e = stands_to SHARED_WORD_LIMIT 255 text (lit≤ tt)
    (record {
      good = word_good text (shared_is_word text e).whole;
      short = short_to SHARED_WORD_LIMIT text (and_parts (has_length_to SHARED_WORD_LIMIT text) (not (list_any ends_word text)) e).0;
    })

-- ---- the lines of a peer

life_stands : (l : Life) (more : List (List ℕ)) → IsLife l → AllByRecursion (Stands 255) more → AllByRecursion (Stands 255) (life_words l more)
life_stands l more is all = (node_stands l.node is.node, (decimal_stands l.incarnation is.incarnation, all))

few_stand : (ws : List (List ℕ)) → length ws ≤ 10 → AllByRecursion (Stands 255) ws → Stands 8000 (spaced ws)
few_stand ws l all = stands_to (256 * length ws) 8000 (spaced ws) (omega arith) (spaced_stand ws all)

letter : (b : ℕ) → ends_line b ≡ false → Stands 255 (b ∷ [])
letter b e = record { good = ap (λ t. t || false) e; short = omega arith }

text_stands : (l : PeerLine) → IsPeerLine l → Stands 8000 (text_of l)
text_stands (Word word) is = few_stand (codes "W" ∷ word ∷ []) (lit≤ tt) (letter 87 refl, (shared_stands word is, tt))
text_stands (Hello life version) is =
    few_stand (codes "H" ∷ decimal (number version) ∷ life_words life []) (lit≤ tt)
    (letter 72 refl, (decimal_stands (number version) (number_fits version), life_stands life [] is tt))
text_stands (Head head) is =
    let rising = is.rising in
    let number = is.number in
    let within = is.within in
    let numbers = decimal head.from ∷ decimal head.to ∷ decimal head.count ∷ [] in
    let stand : AllByRecursion (Stands 255) numbers =
    (decimal_stands head.from (omega arith), (decimal_stands head.to number, (decimal_stands head.count (omega arith), tt))) in
    few_stand (codes "D" ∷ head_words head) (lit≤ tt)
    (letter 68 refl, life_stands head.sender (life_words head.receiver numbers) is.sender (life_stands head.receiver numbers is.receiver stand))
text_stands (Change c) is = change_stands c is
text_stands (Ack ack) is =
    few_stand (codes "A" ∷ ack_words ack) (lit≤ tt) (
      letter 65 refl,
      life_stands ack.sender (life_words ack.receiver (decimal ack.upto ∷ [])) is.sender
          (life_stands ack.receiver (decimal ack.upto ∷ []) is.receiver (decimal_stands ack.upto is.number, tt)),
    )

-- ---- the stream is cut

pub line_fits : (l : PeerLine) → IsPeerLine l → length (written l) ≤ max_line
line_fits l is = (let s = (text_stands l is).short in omega (arith, length-append (text_of l) line_ending))

pub line_cut : (l : PeerLine) (rest : List ℕ) → IsPeerLine l → items (written l ++ rest) ≡ line (text_of l) ∷ items rest
line_cut l rest is =
    let s = text_stands l is in
    ap items (append_assoc (text_of l) line_ending rest) ∙ bytes_cut (text_of l) rest s.good (let m = s.short in omega arith)

lines_cut : (ls : List PeerLine) (rest : List ℕ) → AllByRecursion IsPeerLine ls → items (flat_map written ls ++ rest) ≡ map (λ l. line (text_of l)) ls ++ items rest
lines_cut [] rest all = refl
lines_cut (l ∷ ls) rest all =
    ap items (append_assoc (written l) (flat_map written ls) rest) ∙ line_cut l (flat_map written ls ++ rest) all.0
    ∙ ap (λ is. line (text_of l) ∷ is) (lines_cut ls rest all.1)

pub packet_cut : (p : Packet) (rest : List ℕ) → IsPacket p → items (packet_text p ++ rest) ≡ map (λ l. line (text_of l)) (lines_of p) ++ items rest
packet_cut p rest is = lines_cut (lines_of p) rest (recursion_from_All IsPeerLine (lines_of p) (packet_lines p is))
