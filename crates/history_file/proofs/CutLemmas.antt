-- What searching for the end of a line gives, and that a text is the lines of one list of changes at most.
use Rattle.std.proofs.Common.{◌≡◌, ℕ, zero, suc, ◌+◌, ◌*◌, ◌-◌, ◌≤◌, ◌<◌, Bool, true, false, not, cond, ◌||◌, nat_lt, None, Some, List, [], ◌∷◌, ◌++◌, length, get_or, take, drop, position, refl, sym, ◌∙◌, ap, arith, append_assoc, append-nil, length-append, take-append-drop, one-add}
use Rattle.std.specs.Prelude.{Result, Ok}
use Rattle.std.specs.List.{position_or_len, list_any}
use Rattle.std.proofs.lemmas.Bool.{or_parts}
use Rattle.std.proofs.lemmas.Bool.Decides.{nat_tests}
use Rattle.std.proofs.lemmas.List.{take_at, take_all, drop_at, drop_more, length-drop}
use Rattle.std.proofs.lemmas.List.Quantifiers.{position-Some}
use Rattle.byte_text.specs.Bytes.{ends_line, line_ending}
use Rattle.chat_change.specs.Lawful.{IsLawfulChange}
use Rattle.chat_change.specs.declared.change.Change.{Change}
use Rattle.change_lines.specs.ChangeText.{line_of}
use Rattle.change_lines.specs.ChangeLine.{read_change}
use Rattle.change_lines.specs.declared.fault.ChangeLineFault.{ChangeLineFault}
use Rattle.change_lines.proofs.CallerLemmas.{read_back, change_stands, any_weaker}
use Rattle.history_file.specs.Changes.{written, text_of, AreLawful, AreLines}
use Rattle.history_file.specs.Cut.{is_lf, CutLine}

-- ---- searching

abbrev place : List ℕ → ℕ
place bytes = position_or_len is_lf bytes

lf_is : (b : ℕ) → is_lf b ≡ true → b ≡ 10
lf_is b e = grind (arith, nat_tests)

next_place : (n : ℕ) → 1 + n + 1 ≡ suc (n + 1)
next_place n = omega arith

none_before : (bytes : List ℕ) → list_any is_lf (take (place bytes) bytes) ≡ false
none_before [] = refl
none_before (b ∷ bytes) =
    elim (is_lf b) as (λ s. is_lf b ≡ s → list_any is_lf (take (cond (not s) (1 + place bytes) 0) (b ∷ bytes)) ≡ false) [
      | true ↦ λ e. refl
      | false ↦ λ e. ap (λ n. list_any is_lf (take n (b ∷ bytes))) (one-add (place bytes)) ∙ ap (λ t. t || list_any is_lf (take (place bytes) bytes)) e ∙ none_before bytes
    ] refl

-- a line that has no LF ends at the first
cut_place : (line after : List ℕ) → list_any is_lf line ≡ false → place (line ++ 13 ∷ 10 ∷ after) ≡ length line + 1
cut_place [] after none = refl
cut_place (b ∷ line) after none =
    let parts = or_parts (is_lf b) (list_any is_lf line) none in
    ap (λ s. cond (not s) (1 + place (line ++ 13 ∷ 10 ∷ after)) 0) parts.0
    ∙ (let rest = cut_place line after parts.1 in omega (arith, rest))

pub cut_at : (bytes line after : List ℕ) → CutLine bytes line after → place bytes ≡ length line + 1
cut_at bytes line after cut = ap place cut.whole ∙ cut_place line after cut.no_lf

pub record SameCut (l a m b : List ℕ) : Type 0 where
  pub line : l ≡ m
  pub after : a ≡ b

pub one_cut : (bytes l a m b : List ℕ) → CutLine bytes l a → CutLine bytes m b → SameCut l a m b
one_cut bytes l a m b c d =
    let long : length l ≡ length m = omega (arith, cut_at bytes l a c, cut_at bytes m b d) in
    let same : l ++ 13 ∷ 10 ∷ a ≡ m ++ 13 ∷ 10 ∷ b = sym c.whole ∙ d.whole in
    record {
      line = sym (take_at l (13 ∷ 10 ∷ a) (length l) refl) ∙ ap (λ (t : List ℕ). take (length l) t) same ∙ take_at m (13 ∷ 10 ∷ b) (length l) (sym long);
      after = ap (λ (t : List ℕ). drop 2 t) (sym (drop_at l (13 ∷ 10 ∷ a) (length l) refl) ∙ ap (λ (t : List ℕ). drop (length l) t) same ∙ drop_at m (13 ∷ 10 ∷ b) (length l) (sym long));
    }

-- ---- what the search answers

some_place : (t : Bool) (n at : ℕ) → Some at ≡ cond t (Some n) None → at ≡ n
some_place true n at e = cc
some_place false n at e = cc

no_place : (t : Bool) (n : ℕ) → None ≡ cond t (Some n) None → t ≡ false
no_place true n e = cc
no_place false n e = refl

at_after : (line after : List ℕ) → get_or (line ++ 13 ∷ 10 ∷ after) (length line) 0 ≡ 13
at_after [] after = refl
at_after (b ∷ line) after = at_after line after

module _ (bytes : List ℕ) where
  pub none_found : None ≡ position is_lf bytes → (line after : List ℕ) → CutLine bytes line after → ⊥
  none_found e line after cut =
      let past : nat_lt (place bytes) (length bytes) ≡ false = no_place _ (place bytes) e in
      let there = cut_at bytes line after cut in
      let long : length bytes ≡ length line + length (13 ∷ 10 ∷ after) = ap length cut.whole ∙ length-append line (13 ∷ 10 ∷ after) in
      let over : length bytes ≤ place bytes = grind (arith, nat_tests) in
      omega (arith, there, long, over)

  pub first_found : (at : ℕ) → Some at ≡ position is_lf bytes → at ≡ 0 → (line after : List ℕ) → CutLine bytes line after → ⊥
  first_found at e zero_is line after cut =
      let is = some_place _ (place bytes) at e in
      omega (arith, is, zero_is, cut_at bytes line after cut)

  pub other_found : (at : ℕ) → Some at ≡ position is_lf bytes → (get_or bytes (at - 1) 0 ≡ 13 → ⊥) → (line after : List ℕ) → CutLine bytes line after → ⊥
  other_found at e other line after cut =
      let is = some_place _ (place bytes) at e in
      let here : at - 1 ≡ length line = omega (arith, is, cut_at bytes line after cut) in
      other (ap (λ n. get_or bytes n 0) here ∙ ap (λ (b : List ℕ). get_or b (length line) 0) cut.whole ∙ at_after line after)

  pub line_found : (at : ℕ) → Some at ≡ position is_lf bytes → (at ≡ 0 → ⊥) → get_or bytes (at - 1) 0 ≡ 13 → CutLine bytes (take (at - 1) bytes) (drop (at + 1) bytes)
  line_found at e some cr =
      let found = position-Some is_lf bytes at 0 (sym e) in
      let is = some_place _ (place bytes) at e in
      let lf : get_or bytes at 0 ≡ 10 = lf_is (get_or bytes at 0) found.1 in
      let before : 0 < at = omega (arith, some) in
      let one : at - 1 + 1 ≡ at = omega (arith, before) in
      let here : drop (at - 1) bytes ≡ get_or bytes (at - 1) 0 ∷ drop (at - 1 + 1) bytes = drop_more bytes (at - 1) 0 (omega (arith, found.0)) in
      let there : drop at bytes ≡ get_or bytes at 0 ∷ drop (at + 1) bytes = drop_more bytes at 0 found.0 in
      let behind : drop (at - 1) bytes ≡ 13 ∷ 10 ∷ drop (at + 1) bytes =
      here ∙ ap (λ n. get_or bytes (at - 1) 0 ∷ drop n bytes) one ∙ ap (λ (l : List ℕ). get_or bytes (at - 1) 0 ∷ l) there ∙ (λ i. cr i ∷ lf i ∷ drop (at + 1) bytes) in
      record {
        whole = sym (take-append-drop (at - 1) bytes) ∙ ap (λ (l : List ℕ). take (at - 1) bytes ++ l) behind;
        no_lf = shorter (at - 1) at (omega arith) bytes (ap (λ n. list_any is_lf (take n bytes)) is ∙ none_before bytes);
      }
    where
      shorter : (m n : ℕ) → m ≤ n → (xs : List ℕ) → list_any is_lf (take n xs) ≡ false → list_any is_lf (take m xs) ≡ false
      shorter zero n le xs none = refl
      shorter (suc m) n le [] none = refl
      shorter (suc m) zero le (x ∷ xs) none = absurd (omega (arith, le))
      shorter (suc m) (suc n) le (x ∷ xs) none =
          let parts = or_parts (is_lf x) (list_any is_lf (take n xs)) none in
          ap (λ s. s || list_any is_lf (take m xs)) parts.0 ∙ shorter m n (omega (arith, le)) xs parts.1

-- what a slice from a place to the end has
pub to_the_end : (n : ℕ) (bytes : List ℕ) → take (length bytes - n) (drop n bytes) ≡ drop n bytes
to_the_end n bytes = take_all (length bytes - n) (drop n bytes) (omega (arith, length-drop n bytes))

-- ---- lines of changes

lf_ends : (b : ℕ) → ends_line b ≡ false → is_lf b ≡ false
lf_ends b e = grind (arith, nat_tests)

pub change_no_lf : (c : Change) → IsLawfulChange c → list_any is_lf (line_of c) ≡ false
change_no_lf c is = any_weaker ends_line is_lf lf_ends (line_of c) (change_stands c is).good

pub text_cut : (c : Change) (cs : List Change) → IsLawfulChange c → CutLine (text_of (c ∷ cs)) (line_of c) (text_of cs)
text_cut c cs is = record { whole = append_assoc (line_of c) line_ending (text_of cs); no_lf = change_no_lf c is }

pub text-push : (cs : List Change) (c : Change) → text_of (cs ++ c ∷ []) ≡ text_of cs ++ written c
text-push [] c = append-nil (written c)
text-push (d ∷ cs) c = ap (λ (t : List ℕ). written d ++ t) (text-push cs c) ∙ sym (append_assoc (written d) (text_of cs) (written c))

pub lawful-push : (cs : List Change) (c : Change) → AreLawful cs → IsLawfulChange c → AreLawful (cs ++ c ∷ [])
lawful-push [] c all is = (is, tt)
lawful-push (d ∷ cs) c all is = (all.0, lawful-push cs c all.1 is)

-- ---- a text that is the lines of some changes, and begins with those of others

pub record GoesOn (rest : List ℕ) : Type 0 where
  pub changes : List Change
  pub lines : AreLines rest changes

same_ok : (r : Result Change ChangeLineFault) (c d : Change) → r ≡ Ok c → r ≡ Ok d → c ≡ d
same_ok r c d e f = cc

one_change : (c d : Change) → IsLawfulChange c → IsLawfulChange d → line_of c ≡ line_of d → c ≡ d
one_change c d is js e = same_ok (read_change (line_of c)) c d (read_back c is) (ap read_change e ∙ read_back d js)

pub goes_on_behind : (read all : List Change) (text rest : List ℕ) → AreLawful read → text ≡ text_of read ++ rest → AreLines text all → GoesOn rest
goes_on_behind [] all text rest lawful begins lines = record { changes = all; lines = record { lawful = lines.lawful; spelled = sym begins ∙ lines.spelled } }
goes_on_behind (c ∷ read) [] text rest lawful begins lines =
    absurd (empty_cut (sym begins ∙ lines.spelled))
  where
    empty_cut : text_of (c ∷ read) ++ rest ≡ [] → ⊥
    empty_cut e = omega (arith, ap length e, length-append (text_of (c ∷ read)) rest, length-append (written c) (text_of read), length-append (line_of c) line_ending)
goes_on_behind (c ∷ read) (d ∷ all) text rest lawful begins lines =
    let own : CutLine text (line_of c) (text_of read ++ rest) = record {
      whole = begins ∙ append_assoc (written c) (text_of read) rest ∙ append_assoc (line_of c) line_ending (text_of read ++ rest);
      no_lf = change_no_lf c lawful.0;
    } in
    let cut = text_cut d all lines.lawful.0 in
    let other : CutLine text (line_of d) (text_of all) = record { whole = lines.spelled ∙ cut.whole; no_lf = cut.no_lf } in
    let same = one_cut text (line_of c) (text_of read ++ rest) (line_of d) (text_of all) own other in
    goes_on_behind read all (text_of read ++ rest) rest lawful.1 refl (record { lawful = lines.lawful.1; spelled = same.after })

-- a text is the lines of one list of changes at most
pub one_text : (text : List ℕ) (cs ds : List Change) → AreLines text cs → AreLines text ds → cs ≡ ds
one_text text [] [] a b = refl
one_text text [] (d ∷ ds) a b = absurd (some_text d ds (sym a.spelled ∙ b.spelled))
  where
    some_text : (d : Change) (ds : List Change) → [] ≡ text_of (d ∷ ds) → ⊥
    some_text d ds e = omega (arith, ap length e, length-append (written d) (text_of ds), length-append (line_of d) line_ending)
one_text text (c ∷ cs) [] a b = absurd (some_text c cs (sym b.spelled ∙ a.spelled))
  where
    some_text : (d : Change) (ds : List Change) → [] ≡ text_of (d ∷ ds) → ⊥
    some_text d ds e = omega (arith, ap length e, length-append (written d) (text_of ds), length-append (line_of d) line_ending)
one_text text (c ∷ cs) (d ∷ ds) a b =
    let first = text_cut c cs a.lawful.0 in
    let second = text_cut d ds b.lawful.0 in
    let same = one_cut text _ _ _ _ (record { whole = a.spelled ∙ first.whole; no_lf = first.no_lf }) (record { whole = b.spelled ∙ second.whole; no_lf = second.no_lf }) in
    let here = one_change c d a.lawful.0 b.lawful.0 same.line in
    let there = one_text (text_of cs) cs ds (record { lawful = a.lawful.1; spelled = refl }) (record { lawful = b.lawful.1; spelled = same.after }) in
    λ i. here i ∷ there i

-- ---- how long texts are

pub text_short : (cs : List Change) → AreLawful cs → length (text_of cs) ≤ 8002 * length cs
text_short [] all = omega arith
text_short (c ∷ cs) all =
    let here = (change_stands c all.0).short in
    let rest = text_short cs all.1 in
    omega (arith, here, rest, length-append (written c) (text_of cs), length-append (line_of c) line_ending)

-- the size of a text that a block can have
pub text_fits : (text : List ℕ) (rest changes : List Change) → text ++ text_of rest ≡ text_of changes → AreLawful changes → length changes ≤ 10000 → length text ≤ 99999999
text_fits text rest changes read all few =
    omega (arith, ap length read, length-append text (text_of rest), text_short changes all, few)

pub none_left : (xs : List Change) → length xs < 1 → xs ≡ []
none_left [] l = refl
none_left (x ∷ xs) l = absurd (omega (arith, l))
