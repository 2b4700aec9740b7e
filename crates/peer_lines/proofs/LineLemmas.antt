-- What is read of the spelling of a line is that line, and the line that is read of bytes is spelled by them.
use Rattle.std.proofs.Common.{◌≡◌, ℕ, ◌^◌, ◌<◌, ◌≤◌, true, false, cond, ◌&&◌, Option, Some, None, List, [], ◌∷◌, ◌++◌, length, codes, refl, sym, ap, ◌∙◌, subst, arith, length-append}
use Rattle.std.specs.Prelude.{nat_lt, nat_le, IsTrue, is_some, Result, Ok, Err}
use Rattle.std.specs.Fmt.{decimal}
use Rattle.std.specs.List.{list_any}
use Rattle.std.specs.Option.{option_map}
use Rattle.std.proofs.lemmas.Bool.{lt-ltb, le-leb, ltb-true, leb-true}
use Rattle.chat_change.specs.declared.change.Change as change
use Rattle.chat_change.specs.declared.change.Change.TheVariants as change_kind
use Rattle.change_lines.specs.ChangeLine.{read_change}
use Rattle.change_lines.specs.ChangeText.{line_of as change_text, moment_text}
use Rattle.change_lines.specs.PostLine.{post_word, post_words}
use Rattle.change_lines.specs.Words.{is_space, word, behind, words_text}
use Rattle.change_lines.specs.declared.fault.ChangeLineFault.{ChangeLineFault}
use Rattle.change_lines.proofs.CallerLemmas.{read_back, one_spelling}
use Rattle.cluster_directory.specs.Names.{is_node_name, is_shared_word, same_name}
use Rattle.peer_lines.specs.Packet as parts
use Rattle.cluster_directory.specs.Life.{Life, IsLife}
use Rattle.cluster_directory.specs.Version.{number}
use Rattle.peer_lines.specs.Reading.{number_of, version_of, life_of, life_at, behind_life, Span, span_of, span_at, word_at, hello_with, hello_at, head_with, head_at, ack_with, ack_at}
use Rattle.peer_lines.specs.Spelling.{spaced, life_words, head_words, ack_words, text_of, IsHead, IsAck, IsPeerLine, Spells}
use Rattle.peer_lines.specs.LineReading.{IsReading, IsAnswer, change_or_none, change_at, hello_line, line_of_kind, line_of}
use Rattle.peer_lines.specs.declared.packet.TheConstants.{PACKET_LIMIT}
use Rattle.cluster_directory.specs.declared.fault.LinkFault.{LinkFault}
use Rattle.cluster_directory.specs.declared.fault.LinkFault.TheVariants.{BadForm, WrongLife, AckTooHigh, NoMemory, NotTaken, NoEntry}
use Rattle.cluster_directory.specs.declared.version.Version.{Version}
use Rattle.peer_lines.specs.declared.peer_line.PeerLine.{PeerLine}
use Rattle.peer_lines.specs.declared.peer_line.PeerLine.TheVariants.{Word, Hello, Head, Change, Ack}
use Rattle.cluster_directory.proofs.CallerLemmas.{same_name_is, both_true}
use Rattle.peer_lines.proofs.NumberLemmas.{number_of-decimal, read_number, number_fits, version_of-decimal, read_version}
use Rattle.peer_lines.proofs.WordLemmas.{IsWord, no_space, name_is_word, shared_is_word, decimal_is_word, word_spaced, behind_spaced, spelled_by_words}

-- ---- what is spelled is read

cut_word : (w rest : List ℕ) → IsWord w → word (w ++ 32 ∷ rest) ≡ w
cut_word w rest is = word_spaced w rest (no_space w is.whole)

cut_behind : (w rest : List ℕ) → IsWord w → behind (w ++ 32 ∷ rest) ≡ rest
cut_behind w rest is = behind_spaced w rest (no_space w is.whole)

life_of_own : (l : Life) → IsLife l → life_of l.node (number_of (decimal l.incarnation)) ≡ Some l
life_of_own l is =
    ap (life_of l.node) (number_of-decimal l.incarnation is.incarnation)
    ∙ ap (λ b. cond b (Some l) None) is.node

-- the text of a life, and what stands behind it
module _ (l : Life) (is : IsLife l) (rest : List ℕ) where
  abbrev pub text : List ℕ
  text = l.node ++ 32 ∷ (decimal l.incarnation ++ 32 ∷ rest)

  node_is : IsWord l.node
  node_is = name_is_word l.node is.node

  number_is : IsWord (decimal l.incarnation)
  number_is = decimal_is_word l.incarnation is.incarnation

  behind_node : behind (l.node ++ 32 ∷ (decimal l.incarnation ++ 32 ∷ rest)) ≡ decimal l.incarnation ++ 32 ∷ rest
  behind_node = cut_behind l.node (decimal l.incarnation ++ 32 ∷ rest) node_is

  pub life_is_read : life_at (l.node ++ 32 ∷ (decimal l.incarnation ++ 32 ∷ rest)) ≡ Some l
  life_is_read =
      ap (λ w. life_of w (number_of (word (behind (l.node ++ 32 ∷ (decimal l.incarnation ++ 32 ∷ rest)))))) (cut_word l.node (decimal l.incarnation ++ 32 ∷ rest) node_is)
      ∙ ap (λ r. life_of l.node (number_of (word r))) behind_node
      ∙ ap (λ w. life_of l.node (number_of w)) (cut_word (decimal l.incarnation) rest number_is)
      ∙ life_of_own l is

  pub rest_is_left : behind_life (l.node ++ 32 ∷ (decimal l.incarnation ++ 32 ∷ rest)) ≡ rest
  rest_is_left = ap behind behind_node ∙ cut_behind (decimal l.incarnation) rest number_is

-- two lives in turn
module _ (s r : Life) (is_s : IsLife s) (is_r : IsLife r) (rest : List ℕ) where
  abbrev second : List ℕ
  second = r.node ++ 32 ∷ (decimal r.incarnation ++ 32 ∷ rest)

  abbrev both : List ℕ
  both = s.node ++ 32 ∷ (decimal s.incarnation ++ 32 ∷ second)

  pub sender_is_read : life_at both ≡ Some s
  sender_is_read = life_is_read s is_s second

  pub receiver_is_read : life_at (behind_life both) ≡ Some r
  receiver_is_read = ap life_at (rest_is_left s is_s second) ∙ life_is_read r is_r rest

  pub numbers_are_left : behind_life (behind_life both) ≡ rest
  numbers_are_left = ap behind_life (rest_is_left s is_s second) ∙ rest_is_left r is_r rest

ack_is_read : (a : parts.Ack) → IsAck a → ack_at (spaced (ack_words a)) ≡ Some a
ack_is_read a is =
    let rest = decimal a.upto in
    let number : number_of (behind_life (behind_life (spaced (ack_words a)))) ≡ Some a.upto =
    ap number_of (numbers_are_left a.sender a.receiver is.sender is.receiver rest) ∙ number_of-decimal a.upto is.number in
    (λ i. ack_with (sender_is_read a.sender a.receiver is.sender is.receiver rest i) (receiver_is_read a.sender a.receiver is.sender is.receiver rest i) (number i))

span_in_range : (h : parts.Head) → IsHead h → span_of (Some h.from) (Some h.to) (Some h.count) ≡ Some (record { from = h.from; to = h.to; count = h.count })
span_in_range h is =
    let s : Option Span = Some (record { from = h.from; to = h.to; count = h.count }) in
    ap (λ b. cond ((b && nat_lt 0 h.count) && nat_le h.count PACKET_LIMIT) s None) (lt-ltb h.from h.to is.rising)
    ∙ ap (λ b. cond (b && nat_le h.count PACKET_LIMIT) s None) (lt-ltb 0 h.count is.some)
    ∙ ap (λ b. cond b s None) (le-leb h.count PACKET_LIMIT is.within)

module _ (h : parts.Head) (is : IsHead h) where
  from_fits : h.from < 2 ^ 64
  from_fits = let a = is.rising in let b = is.number in omega arith

  count_fits : h.count < 2 ^ 64
  count_fits = let a = is.within in omega arith

  abbrev last : List ℕ
  last = decimal h.to ++ 32 ∷ decimal h.count

  from_is : IsWord (decimal h.from)
  from_is = decimal_is_word h.from from_fits

  to_is : IsWord (decimal h.to)
  to_is = decimal_is_word h.to is.number

  behind_from : behind (decimal h.from ++ 32 ∷ last) ≡ last
  behind_from = cut_behind (decimal h.from) last from_is

  span_is_read : span_at (decimal h.from ++ 32 ∷ last) ≡ Some (record { from = h.from; to = h.to; count = h.count })
  span_is_read =
      let from : number_of (word (decimal h.from ++ 32 ∷ last)) ≡ Some h.from =
      ap number_of (cut_word (decimal h.from) last from_is) ∙ number_of-decimal h.from from_fits in
      let to : number_of (word (behind (decimal h.from ++ 32 ∷ last))) ≡ Some h.to =
      ap (λ l. number_of (word l)) behind_from ∙ ap number_of (cut_word (decimal h.to) (decimal h.count) to_is) ∙ number_of-decimal h.to is.number in
      let count : number_of (behind (behind (decimal h.from ++ 32 ∷ last))) ≡ Some h.count =
      ap (λ l. number_of (behind l)) behind_from ∙ ap number_of (cut_behind (decimal h.to) (decimal h.count) to_is) ∙ number_of-decimal h.count count_fits in
      (λ i. span_of (from i) (to i) (count i)) ∙ span_in_range h is

  head_is_read : head_at (spaced (head_words h)) ≡ Some h
  head_is_read =
      let rest = decimal h.from ++ 32 ∷ last in
      let span : span_at (behind_life (behind_life (spaced (head_words h)))) ≡ Some (record { from = h.from; to = h.to; count = h.count }) =
      ap span_at (numbers_are_left h.sender h.receiver is.sender is.receiver rest) ∙ span_is_read in
      (λ i. head_with (sender_is_read h.sender h.receiver is.sender is.receiver rest i) (receiver_is_read h.sender h.receiver is.sender is.receiver rest i) (span i))

hello_is_read : (h : parts.Hello) → IsLife h.life → hello_at (spaced (decimal (number h.version) ∷ life_words h.life [])) ≡ Some h
hello_is_read h is =
    let l = h.life in
    let digits = decimal (number h.version) in
    let rest = l.node ++ 32 ∷ decimal l.incarnation in
    let digits_are = decimal_is_word (number h.version) (number_fits h.version) in
    let version : version_of (word (digits ++ 32 ∷ rest)) ≡ Some h.version = ap version_of (cut_word digits rest digits_are) ∙ version_of-decimal h.version in
    let left : behind (digits ++ 32 ∷ rest) ≡ rest = cut_behind digits rest digits_are in
    let node : word (behind (digits ++ 32 ∷ rest)) ≡ l.node = ap word left ∙ cut_word l.node (decimal l.incarnation) (name_is_word l.node is.node) in
    let incarnation : behind (behind (digits ++ 32 ∷ rest)) ≡ decimal l.incarnation = ap behind left ∙ cut_behind l.node (decimal l.incarnation) (name_is_word l.node is.node) in
    let life : life_of (word (behind (digits ++ 32 ∷ rest))) (number_of (behind (behind (digits ++ 32 ∷ rest)))) ≡ Some l =
    (λ i. life_of (node i) (number_of (incarnation i))) ∙ life_of_own l is in
    (λ i. hello_with (version i) (life i))

-- a line of that first word
of_first : (w rest : List ℕ) → list_any is_space w ≡ false → line_of (w ++ 32 ∷ rest) ≡ line_of_kind w (w ++ 32 ∷ rest) rest
of_first w rest e = (λ i. line_of_kind (word_spaced w rest e i) (w ++ 32 ∷ rest) (behind_spaced w rest e i))

-- the line of a change begins with its own word
change_line : (c : change.Change) → (rest : List ℕ) × (change_text c ≡ codes "C" ++ 32 ∷ rest)
change_line (change_kind.Post r) =
    (words_text (post_word r.tags ∷ r.buffer.account ∷ r.buffer.network ∷ r.buffer.target ∷ post_words r) ++ (58 ∷ r.message.body), refl)
change_line (change_kind.Redact b m at) =
    (words_text (codes "REDACT" ∷ b.account ∷ b.network ∷ b.target ∷ m ∷ []) ++ moment_text at, refl)
change_line (change_kind.Mark b at) =
    (words_text (codes "MARK" ∷ b.account ∷ b.network ∷ b.target ∷ []) ++ decimal at, refl)
change_line (change_kind.Floor b at) =
    (words_text (codes "FLOOR" ∷ b.account ∷ b.network ∷ b.target ∷ []) ++ decimal at, refl)
change_line (change_kind.AccountFloor a at) =
    (words_text (codes "AFLOOR" ∷ a ∷ []) ++ decimal at, refl)

pub line_is_read : (l : PeerLine) → IsPeerLine l → line_of (text_of l) ≡ Some l
line_is_read (Word w) is = of_first (codes "W") w refl ∙ ap (λ b. option_map Word (cond b (Some w) None)) is
line_is_read (Hello l v) is =
    of_first (codes "H") (spaced (decimal (number v) ∷ life_words l [])) refl ∙ ap (option_map hello_line) (hello_is_read (record { life = l; version = v }) is)
line_is_read (Head h) is = of_first (codes "D") (spaced (head_words h)) refl ∙ ap (option_map Head) (head_is_read h is)
line_is_read (Change c) is =
    let t = change_line c in
    ap line_of t.1 ∙ of_first (codes "C") t.0 refl ∙ ap change_at (sym t.1) ∙ ap change_or_none (read_back c is)
line_is_read (Ack a) is = of_first (codes "A") (spaced (ack_words a)) refl ∙ ap (option_map Ack) (ack_is_read a is)

-- ---- what is read was spelled

some_same : {A : Type 0} (x y : A) → Some x ≡ Some y → x ≡ y
some_same x y e = (cc)

none_some : {A : Type 0} (x : A) → None ≡ Some x → ⊥
none_some x e = (cc)

-- a name and the digits of an incarnation
life_text : (node : List ℕ) (o : Option ℕ) (l : Life) → life_of node o ≡ Some l → (node ≡ l.node) × (o ≡ Some l.incarnation) × (is_node_name l.node ≡ true)
life_text node None l e = absurd (none_some l e)
life_text node (Some i) l e =
    elim (is_node_name node) as (λ b. is_node_name node ≡ b → cond b (Some (record { node = node; incarnation = i })) None ≡ Some l → (node ≡ l.node) × (Some i ≡ Some l.incarnation) × (is_node_name l.node ≡ true)) [
      | true ↦ λ t f. (let own : record { node = node; incarnation = i } ≡ l = some_same _ l f in
          (ap (λ (m : Life). m.node) own, ap (λ (m : Life). Some m.incarnation) own, ap (λ (m : Life). is_node_name m.node) (sym own) ∙ t))
      | false ↦ λ t f. absurd (none_some l f)
    ] refl e

-- what stands behind a life isn't empty: then two words with a space behind each are the text of the life
module _ (bytes : List ℕ) (l : Life) (e : life_at bytes ≡ Some l) (some : 0 < length (behind_life bytes)) where
  life_parts : (word bytes ≡ l.node) × (number_of (word (behind bytes)) ≡ Some l.incarnation) × (is_node_name l.node ≡ true)
  life_parts = life_text (word bytes) (number_of (word (behind bytes))) l e

  number_parts : (decimal l.incarnation ≡ word (behind bytes)) × (l.incarnation < 2 ^ 64)
  number_parts = read_number (word (behind bytes)) l.incarnation life_parts.1

  number_stands : decimal l.incarnation ++ 32 ∷ behind_life bytes ≡ behind bytes
  number_stands = ap (λ w. w ++ 32 ∷ behind_life bytes) number_parts.0 ∙ spelled_by_words (behind bytes) some

  some_behind : 0 < length (behind bytes)
  some_behind =
      let size = length-append (decimal l.incarnation) (32 ∷ behind_life bytes) in
      let same = ap length number_stands in
      omega arith

  pub is_life : IsLife l
  is_life = record { node = life_parts.2; incarnation = number_parts.1 }

  pub life_stands : l.node ++ 32 ∷ (decimal l.incarnation ++ 32 ∷ behind_life bytes) ≡ bytes
  life_stands =
      (λ i. sym life_parts.0 i ++ 32 ∷ number_stands i) ∙ spelled_by_words bytes some_behind

  pub some_life : 0 < length bytes
  some_life =
      let size = length-append (word bytes) (32 ∷ behind bytes) in
      let same = ap length (spelled_by_words bytes some_behind) in
      omega arith

-- a number that is the last of a line stands there, and it is some bytes
number_stands_last : (bytes : List ℕ) (n : ℕ) → number_of bytes ≡ Some n → (decimal n ≡ bytes) × (n < 2 ^ 64) × (0 < length bytes)
number_stands_last bytes n e =
    let r = read_number bytes n e in
    (r.0, r.1, subst (λ l. 0 < length l) r.0 (decimal_is_word n r.1).some)

-- two lives in turn, with more behind them
module _ (bytes : List ℕ) (s r : Life) (e : life_at bytes ≡ Some s) (f : life_at (behind_life bytes) ≡ Some r) (some : 0 < length (behind_life (behind_life bytes))) where
  pub lives_are : IsLife s × IsLife r
  lives_are = (is_life bytes s e (some_life (behind_life bytes) r f some), is_life (behind_life bytes) r f some)

  pub lives_stand : s.node ++ 32 ∷ (decimal s.incarnation ++ 32 ∷ (r.node ++ 32 ∷ (decimal r.incarnation ++ 32 ∷ behind_life (behind_life bytes)))) ≡ bytes
  lives_stand =
      ap (λ l. s.node ++ 32 ∷ (decimal s.incarnation ++ 32 ∷ l)) (life_stands (behind_life bytes) r f some)
      ∙ life_stands bytes s e (some_life (behind_life bytes) r f some)

ack_parts : (s r : Option Life) (n : Option ℕ) (a : parts.Ack) → ack_with s r n ≡ Some a → (s ≡ Some a.sender) × (r ≡ Some a.receiver) × (n ≡ Some a.upto)
ack_parts None r n a e = absurd (none_some a e)
ack_parts (Some s) None n a e = absurd (none_some a e)
ack_parts (Some s) (Some r) None a e = absurd (none_some a e)
ack_parts (Some s) (Some r) (Some n) a e =
    let own : record { sender = s; receiver = r; upto = n } ≡ a = some_same _ _ e in
    (ap (λ (x : parts.Ack). Some x.sender) own, ap (λ (x : parts.Ack). Some x.receiver) own, ap (λ (x : parts.Ack). Some x.upto) own)

-- a line behind its first word
record Behind (bytes text : List ℕ) (P : Type 0) : Type 0 where
  lawful : P
  stands : text ≡ bytes
  some : 0 < length bytes

ack_behind : (bytes : List ℕ) (a : parts.Ack) → ack_at bytes ≡ Some a → Behind bytes (spaced (ack_words a)) (IsAck a)
ack_behind bytes a e =
    let p = ack_parts (life_at bytes) (life_at (behind_life bytes)) (number_of (behind_life (behind_life bytes))) a e in
    let number = number_stands_last (behind_life (behind_life bytes)) a.upto p.2 in
    let lives = lives_are bytes a.sender a.receiver p.0 p.1 number.2 in
    record {
      lawful = record { sender = lives.0; receiver = lives.1; number = number.1 };
      stands =
          ap (λ l. a.sender.node ++ 32 ∷ (decimal a.sender.incarnation ++ 32 ∷ (a.receiver.node ++ 32 ∷ (decimal a.receiver.incarnation ++ 32 ∷ l)))) number.0
          ∙ lives_stand bytes a.sender a.receiver p.0 p.1 number.2;
      some = some_life bytes a.sender p.0 (some_life (behind_life bytes) a.receiver p.1 number.2);
    }

span_parts : (f t n : Option ℕ) (s : Span) → span_of f t n ≡ Some s → (f ≡ Some s.from) × (t ≡ Some s.to) × (n ≡ Some s.count) × (s.from < s.to) × (0 < s.count) × (s.count ≤ PACKET_LIMIT)
span_parts None t n s e = absurd (none_some s e)
span_parts (Some f) None n s e = absurd (none_some s e)
span_parts (Some f) (Some t) None s e = absurd (none_some s e)
span_parts (Some f) (Some t) (Some n) s e =
    elim ((nat_lt f t && nat_lt 0 n) && nat_le n PACKET_LIMIT) as (λ b. ((nat_lt f t && nat_lt 0 n) && nat_le n PACKET_LIMIT) ≡ b → cond b (Some (record { from = f; to = t; count = n })) None ≡ Some s
    → (Some f ≡ Some s.from) × (Some t ≡ Some s.to) × (Some n ≡ Some s.count) × (s.from < s.to) × (0 < s.count) × (s.count ≤ PACKET_LIMIT)) [
      | true ↦ λ b g. (let own : record { from = f; to = t; count = n } ≡ s = some_same _ _ g in
          let bounds = both_true _ _ b in
          let low = both_true _ _ bounds.0 in (
            ap (λ (x : Span). Some x.from) own,
            ap (λ (x : Span). Some x.to) own,
            ap (λ (x : Span). Some x.count) own,
            subst (λ (x : Span). x.from < x.to) own (ltb-true _ _ low.0),
            subst (λ (x : Span). 0 < x.count) own (ltb-true _ _ low.1),
            subst (λ (x : Span). x.count ≤ PACKET_LIMIT) own (leb-true _ _ bounds.1),
          ))
      | false ↦ λ b g. absurd (none_some s g)
    ] refl e

head_parts : (s r : Option Life) (n : Option Span) (h : parts.Head) → head_with s r n ≡ Some h → (s ≡ Some h.sender) × (r ≡ Some h.receiver) × (n ≡ Some (record { from = h.from; to = h.to; count = h.count }))
head_parts None r n h e = absurd (none_some h e)
head_parts (Some s) None n h e = absurd (none_some h e)
head_parts (Some s) (Some r) None h e = absurd (none_some h e)
head_parts (Some s) (Some r) (Some n) h e =
    let own : record { sender = s; receiver = r; from = n.from; to = n.to; count = n.count } ≡ h = some_same _ _ e in
    (ap (λ (x : parts.Head). Some x.sender) own, ap (λ (x : parts.Head). Some x.receiver) own, ap (λ (x : parts.Head). Some (record { from = x.from; to = x.to; count = x.count })) own)

-- three numbers, the last of a line
module _ (bytes : List ℕ) (s : Span) (e : span_at bytes ≡ Some s) where
  numbers : (number_of (word bytes) ≡ Some s.from) × (number_of (word (behind bytes)) ≡ Some s.to) × (number_of (behind (behind bytes)) ≡ Some s.count) × (s.from < s.to) × (0 < s.count) × (s.count ≤ PACKET_LIMIT)
  numbers = span_parts (number_of (word bytes)) (number_of (word (behind bytes))) (number_of (behind (behind bytes))) s e

  count_stands : (decimal s.count ≡ behind (behind bytes)) × (s.count < 2 ^ 64) × (0 < length (behind (behind bytes)))
  count_stands = number_stands_last (behind (behind bytes)) s.count numbers.2

  to_stands : (decimal s.to ≡ word (behind bytes)) × (s.to < 2 ^ 64)
  to_stands = read_number (word (behind bytes)) s.to numbers.1

  two_stand : decimal s.to ++ 32 ∷ decimal s.count ≡ behind bytes
  two_stand = (λ i. to_stands.0 i ++ 32 ∷ count_stands.0 i) ∙ spelled_by_words (behind bytes) count_stands.2

  some_left : 0 < length (behind bytes)
  some_left =
      let size = length-append (decimal s.to) (32 ∷ decimal s.count) in
      let same = ap length two_stand in
      omega arith

  from_stands : (decimal s.from ≡ word bytes) × (s.from < 2 ^ 64)
  from_stands = read_number (word bytes) s.from numbers.0

  span_stands : decimal s.from ++ 32 ∷ (decimal s.to ++ 32 ∷ decimal s.count) ≡ bytes
  span_stands = (λ i. from_stands.0 i ++ 32 ∷ two_stand i) ∙ spelled_by_words bytes some_left

  some_span : 0 < length bytes
  some_span =
      let size = length-append (decimal s.from) (32 ∷ (decimal s.to ++ 32 ∷ decimal s.count)) in
      let same = ap length span_stands in
      omega arith

head_behind : (bytes : List ℕ) (h : parts.Head) → head_at bytes ≡ Some h → Behind bytes (spaced (head_words h)) (IsHead h)
head_behind bytes h e =
    let p = head_parts (life_at bytes) (life_at (behind_life bytes)) (span_at (behind_life (behind_life bytes))) h e in
    let span : Span = record { from = h.from; to = h.to; count = h.count } in
    let some = some_span (behind_life (behind_life bytes)) span p.2 in
    let n = numbers (behind_life (behind_life bytes)) span p.2 in
    let lives = lives_are bytes h.sender h.receiver p.0 p.1 some in
    record {
      lawful = record { sender = lives.0; receiver = lives.1; rising = n.3; number = (to_stands (behind_life (behind_life bytes)) span p.2).1; some = n.4; within = n.5 };
      stands =
          ap (λ l. h.sender.node ++ 32 ∷ (decimal h.sender.incarnation ++ 32 ∷ (h.receiver.node ++ 32 ∷ (decimal h.receiver.incarnation ++ 32 ∷ l)))) (span_stands (behind_life (behind_life bytes)) span p.2)
          ∙ lives_stand bytes h.sender h.receiver p.0 p.1 some;
      some = some_life bytes h.sender p.0 (some_life (behind_life bytes) h.receiver p.1 some);
    }

hello_parts : (v : Option Version) (l : Option Life) (h : parts.Hello) → hello_with v l ≡ Some h → (v ≡ Some h.version) × (l ≡ Some h.life)
hello_parts None l h e = absurd (none_some h e)
hello_parts (Some v) None h e = absurd (none_some h e)
hello_parts (Some v) (Some l) h e =
    let own : record { life = l; version = v } ≡ h = some_same _ _ e in
    (ap (λ (x : parts.Hello). Some x.version) own, ap (λ (x : parts.Hello). Some x.life) own)

hello_behind : (bytes : List ℕ) (h : parts.Hello) → hello_at bytes ≡ Some h → Behind bytes (spaced (decimal (number h.version) ∷ life_words h.life [])) (IsLife h.life)
hello_behind bytes h e =
    let l = h.life in
    let parts = hello_parts (version_of (word bytes)) (life_of (word (behind bytes)) (number_of (behind (behind bytes)))) h e in
    let version = read_version (word bytes) h.version parts.0 in
    let p = life_text (word (behind bytes)) (number_of (behind (behind bytes))) l parts.1 in
    let number_last = number_stands_last (behind (behind bytes)) l.incarnation p.1 in
    let text : l.node ++ 32 ∷ decimal l.incarnation ≡ behind bytes = (λ i. sym p.0 i ++ 32 ∷ number_last.0 i) ∙ spelled_by_words (behind bytes) number_last.2 in
    let size = length-append l.node (32 ∷ decimal l.incarnation) in
    let same = ap length text in
    let some : 0 < length (behind bytes) = omega arith in
    let stands : spaced (decimal (number h.version) ∷ life_words l []) ≡ bytes = (λ i. version i ++ 32 ∷ text i) ∙ spelled_by_words bytes some in
    let all = ap length stands in
    let whole = length-append (decimal (number h.version)) (32 ∷ (l.node ++ 32 ∷ decimal l.incarnation)) in
    record { lawful = record { node = p.2; incarnation = number_last.1 }; stands = stands; some = omega arith }

word_behind : (bytes w : List ℕ) → word_at bytes ≡ Some w → Behind bytes w (is_shared_word w ≡ true)
word_behind bytes w =
    elim (is_shared_word bytes) as (λ t. is_shared_word bytes ≡ t → cond t (Some bytes) None ≡ Some w → Behind bytes w (is_shared_word w ≡ true)) [
      | true ↦ λ t e. (let same : bytes ≡ w = some_same _ _ e in
          record { lawful = ap is_shared_word (sym same) ∙ t; stands = sym same; some = (shared_is_word bytes t).some })
      | false ↦ λ t e. absurd (none_some w e)
    ] refl

-- a line of that first word, if it is what was read behind it
map_some : {A : Type 0} (f : A → PeerLine) (o : Option A) (l : PeerLine) → option_map f o ≡ Some l → (x : A) × (o ≡ Some x) × (f x ≡ l)
map_some f None l e = absurd (none_some l e)
map_some f (Some x) l e = (x, refl, some_same _ _ e)

-- the text of what was read behind the first word is spelled behind it
module _ {A : Type 0} (make : A → PeerLine) (read : List ℕ → Option A) (text : A → List ℕ) (P : A → Type 0) (kind : List ℕ)
    (is_text : (x : A) → text_of (make x) ≡ kind ++ 32 ∷ text x) (is_line : (x : A) → P x → IsPeerLine (make x))
    (behind_it : (bytes : List ℕ) (x : A) → read bytes ≡ Some x → Behind bytes (text x) (P x)) where
  spelled_behind : (bytes : List ℕ) (l : PeerLine) → same_name (word bytes) kind ≡ true → option_map make (read (behind bytes)) ≡ Some l → Spells bytes l
  spelled_behind bytes l t e =
      let m = map_some make (read (behind bytes)) l e in
      let b = behind_it (behind bytes) m.0 m.1 in
      let first = same_name_is (word bytes) kind t in
      let stands : kind ++ 32 ∷ text m.0 ≡ bytes = (λ i. sym first i ++ 32 ∷ b.stands i) ∙ spelled_by_words bytes b.some in
      subst (Spells bytes) m.2 (record { lawful = is_line m.0 b.lawful; text = is_text m.0 ∙ stands })

change_was : (bytes : List ℕ) (r : Result change.Change ChangeLineFault) (l : PeerLine) → read_change bytes ≡ r → change_or_none r ≡ Some l → Spells bytes l
change_was bytes (Ok c) l e f =
    let spelled = one_spelling bytes c e in
    subst (Spells bytes) (some_same _ _ f) (record { lawful = spelled.1; text = sym spelled.0 })
change_was bytes (Err fault) l e f = absurd (none_some l f)

change_spelled : (bytes : List ℕ) (l : PeerLine) → change_at bytes ≡ Some l → Spells bytes l
change_spelled bytes l e = change_was bytes (read_change bytes) l refl e

-- what is left of the function that reads, once these first words are out
abbrev without_head : List ℕ → Option PeerLine
without_head bytes = cond (same_name (word bytes) (codes "A")) (option_map Ack (ack_at (behind bytes))) (change_at bytes)

abbrev without_hello : List ℕ → Option PeerLine
without_hello bytes = cond (same_name (word bytes) (codes "D")) (option_map Head (head_at (behind bytes))) (without_head bytes)

abbrev without_word : List ℕ → Option PeerLine
without_word bytes = cond (same_name (word bytes) (codes "H")) (option_map hello_line (hello_at (behind bytes))) (without_hello bytes)

pub line_was_spelled : (bytes : List ℕ) (l : PeerLine) → line_of bytes ≡ Some l → Spells bytes l
line_was_spelled bytes l =
    elim (same_name (word bytes) (codes "W")) as (λ t. same_name (word bytes) (codes "W") ≡ t → cond t (option_map Word (word_at (behind bytes))) (without_word bytes) ≡ Some l → Spells bytes l) [
      | true ↦ λ t. spelled_behind Word word_at (λ w. w) (λ w. is_shared_word w ≡ true) (codes "W") (λ w. refl) (λ w p. p) word_behind bytes l t
      | false ↦ λ _.
          elim (same_name (word bytes) (codes "H")) as (λ t. same_name (word bytes) (codes "H") ≡ t → cond t (option_map hello_line (hello_at (behind bytes))) (without_hello bytes) ≡ Some l → Spells bytes l) [
            | true ↦ λ t. spelled_behind hello_line hello_at (λ (h : parts.Hello). spaced (decimal (number h.version) ∷ life_words h.life [])) (λ (h : parts.Hello). IsLife h.life) (codes "H") (λ x. refl) (λ x p. p) hello_behind bytes l t
            | false ↦ λ _.
                elim (same_name (word bytes) (codes "D")) as (λ t. same_name (word bytes) (codes "D") ≡ t → cond t (option_map Head (head_at (behind bytes))) (without_head bytes) ≡ Some l → Spells bytes l) [
                  | true ↦ λ t. spelled_behind Head head_at (λ h. spaced (head_words h)) IsHead (codes "D") (λ x. refl) (λ x p. p) head_behind bytes l t
                  | false ↦ λ _.
                      elim (same_name (word bytes) (codes "A")) as (λ t. same_name (word bytes) (codes "A") ≡ t → cond t (option_map Ack (ack_at (behind bytes))) (change_at bytes) ≡ Some l → Spells bytes l) [
                        | true ↦ λ t. spelled_behind Ack ack_at (λ a. spaced (ack_words a)) IsAck (codes "A") (λ x. refl) (λ x p. p) ack_behind bytes l t
                        | false ↦ λ _. change_spelled bytes l
                      ] refl
                ] refl
          ] refl
    ] refl

-- ---- what a reader answers

pub reading_is : (bytes : List ℕ) (r : Result PeerLine LinkFault) → IsAnswer (line_of bytes) r → IsReading bytes r
reading_is bytes (Ok line) e = line_was_spelled bytes line e
reading_is bytes (Err BadForm) e = λ line is. none_some line (sym e ∙ ap line_of (sym is.text) ∙ line_is_read line is.lawful)
reading_is bytes (Err WrongLife) e = e
reading_is bytes (Err AckTooHigh) e = e
reading_is bytes (Err NoMemory) e = some_line (line_of bytes) refl e where
  some_line : (o : Option PeerLine) → line_of bytes ≡ o → IsTrue (is_some o) → (line : PeerLine) × Spells bytes line
  some_line None f t = (cc)
  some_line (Some line) f t = (line, line_was_spelled bytes line f)
reading_is bytes (Err NotTaken) e = e
reading_is bytes (Err NoEntry) e = e

pub one_line : (bytes : List ℕ) (a b : PeerLine) → Spells bytes a → Spells bytes b → a ≡ b
one_line bytes a b p q =
    some_same _ _ (sym (line_is_read a p.lawful) ∙ ap line_of (p.text ∙ sym q.text) ∙ line_is_read b q.lawful)
