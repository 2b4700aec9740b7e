-- What is written from parts that may stand in their places reads back as those parts.
use Rattle.std.proofs.Common.{◌≡◌, ℕ, ◌+◌, ◌-◌, ◌≤◌, Bool, true, false, cond, nat_lt, List, [], ◌∷◌, ◌++◌, length, drop, take, None, Some, Option, Ok, position, refl, sym, ap, ◌∙◌, subst, arith, append-nil, append_assoc, length-append, lit<, lit≤, ⊎_elim}
use Rattle.std.specs.Prelude.{◌==◌, ◌&&◌, ◌||◌, not, slice_index, IfSome, MatchBool}
use Rattle.std.specs.List.{AllByRecursion, list_any, position_or_len}
use Rattle.std.specs.Option.{option_to_list}
use Rattle.std.specs.Io.BufRead.{strip_last, ends_with_byte}
use Rattle.std.proofs.lemmas.List.Folds.{list_any-append}
use Rattle.std.proofs.lemmas.List.{take_at, get_or_push}
use Rattle.std.proofs.lemmas.Bool.{cond-true, both_ways, eq-eqb, eqb-true, or_parts, lt-ltb}
use Rattle.byte_text.specs.Bytes.{begins_with, colon, ends_line, space}
use Rattle.irc_line.specs.declared.line.LineFault.{LineFault}
use Rattle.irc_line.specs.declared.line.LineFault.TheVariants.{Empty, TagsTooLong, TooLong, BadByte, NoCommand}
use Rattle.irc_line.specs.declared.line.TagLimit.{TagLimit}
use Rattle.irc_line.specs.declared.line.TagLimit.TheVariants.{Client, Server}
use Rattle.irc_line.specs.Line.{at_sign, is_behind_word, is_command, IsSpaces, SplitsWord, SplitsTags, SplitsSource, HasParameters, HasHead, HasFault, Reads, tag_limit}
use Rattle.irc_line.specs.Read.{read}
use Rattle.irc_line.specs.Stream.{is_lf, item_of, items, line, too_long}
use Rattle.irc_line.specs.Text.{Parts, tags_text, source_text, middles_text, trailing_text, text_of, line_text}
use Rattle.irc_line.specs.CanStand.{CanBeTags, CanBeSource, CanBeMiddle, HasNoBadByte, meaning_of, text_behind_tags, CanStand}
use Rattle.irc_line.proofs.LineLemmas.{match_false, tags_once, head_once}
use Rattle.irc_line.proofs.CommandLemmas.{IsPlainText, command_plain, plain_no_space, plain_no_bad, plain_begins}
use Rattle.irc_line.proofs.ReadLemmas.{is_the_read}
use Rattle.irc_line.proofs.StreamLemmas.{position_from, none_from, position-append_some, position-append_none, items_line}
use Rattle.irc_line.proofs.CallsLemmas.{drop_past}

-- ---- the parts, one after another

abbrev pub ending : List (List ℕ) → Option (List ℕ) → List ℕ
ending middles trailing = middles_text middles ++ trailing_text trailing

ends : (middles : List (List ℕ)) (trailing : Option (List ℕ)) → is_behind_word (ending middles trailing) ≡ true
ends [] None = refl
ends [] (Some text) = refl
ends (middle ∷ middles) trailing = refl

-- nothing is left where all of 15 parameters are
nothing_left : (middles : List (List ℕ)) (trailing : Option (List ℕ)) → length (middles ++ option_to_list trailing) ≡ 0 → (ending middles trailing ≡ []) × (middles ++ option_to_list trailing ≡ [])
nothing_left [] None e = (refl, refl)
nothing_left [] (Some text) e = absurd (omega arith)
nothing_left (middle ∷ middles) trailing e = absurd (omega arith)

parameters_written : (n : ℕ) (middles : List (List ℕ)) (trailing : Option (List ℕ)) → AllByRecursion CanBeMiddle middles → n + length (middles ++ option_to_list trailing) ≤ 15
    → HasParameters n (ending middles trailing) (middles ++ option_to_list trailing)
parameters_written n [] None p h = ([], tt, refl, refl)
parameters_written n [] (Some text) p h = (colon, text, (space ∷ [], (refl, tt), refl, refl), (refl, refl))
parameters_written n ([] ∷ middles) trailing p h = absurd (let some = p.0.0 in omega arith)
parameters_written n ((b ∷ text) ∷ middles) trailing p h =
    (b, text ++ ending middles trailing, (space ∷ [], (refl, tt), same, p.0.2.0), match_false _ (b == colon) p.0.1 (go (n == 14) refl (λ fits. parameters_written (n + 1) middles trailing p.1 fits))) where
      same : space ∷ (b ∷ text ++ middles_text middles) ++ trailing_text trailing ≡ space ∷ b ∷ (text ++ ending middles trailing)
      same = ap (λ l. space ∷ b ∷ l) (append_assoc text (middles_text middles) (trailing_text trailing))

      go : (t : Bool) → (n == 14) ≡ t → (n + 1 + length (middles ++ option_to_list trailing) ≤ 15 → HasParameters (n + 1) (ending middles trailing) (middles ++ option_to_list trailing))
          → MatchBool t (((b ∷ text) ≡ b ∷ (text ++ ending middles trailing)) × (middles ++ option_to_list trailing ≡ []))
          ((rest : List ℕ) × SplitsWord (b ∷ (text ++ ending middles trailing)) (b ∷ text) rest × HasParameters (n + 1) rest (middles ++ option_to_list trailing))
      go true e again =
          let all : n ≡ 14 = eqb-true n 14 e in
          let left = nothing_left middles trailing (omega arith) in
          (sym (ap (λ l. b ∷ (text ++ l)) left.0 ∙ ap (λ l. b ∷ l) (append-nil text)), left.1)
      go false e again = (ending middles trailing, (p.0.2, refl, ends middles trailing), again (omega arith))

tags_written : (limit : TagLimit) (tags : Option (List ℕ)) (rest : List ℕ) → IfSome tags (CanBeTags limit) → begins_with at_sign rest ≡ false → SplitsTags (tags_text tags ++ rest) tags rest
tags_written limit None rest p q = (q, refl)
tags_written limit (Some tags) rest p q = (tags ++ space ∷ rest, space ∷ rest, ap (λ l. at_sign ∷ l) (append_assoc tags (space ∷ []) rest), (p.0, refl, refl), refl)

source_written : (source : Option (List ℕ)) (rest : List ℕ) → IfSome source CanBeSource → begins_with space rest ≡ false → begins_with colon rest ≡ false
    → SplitsSource (source_text source ++ rest) source rest
source_written None rest p s c = (([], tt, refl, s), c)
source_written (Some source) rest p s c =
    (source ++ space ∷ rest, space ∷ rest, ([], tt, ap (λ l. colon ∷ l) (append_assoc source (space ∷ []) rest), refl), (p.1, refl, refl), (space ∷ [], (refl, tt), refl, s))

no_at : (source : Option (List ℕ)) (rest : List ℕ) → begins_with at_sign rest ≡ false → begins_with at_sign (source_text source ++ rest) ≡ false
no_at None rest q = q
no_at (Some source) rest q = refl

-- ---- no fault

pub good_append : (a b : List ℕ) → HasNoBadByte a → HasNoBadByte b → HasNoBadByte (a ++ b)
good_append a b p q = list_any-append ends_line a b ∙ ap (λ t. t || list_any ends_line b) p ∙ q

good_tags : (limit : TagLimit) (tags : Option (List ℕ)) → IfSome tags (CanBeTags limit) → HasNoBadByte (tags_text tags)
good_tags limit None p = refl
good_tags limit (Some tags) p = good_append tags (space ∷ []) p.1 refl

good_source : (source : Option (List ℕ)) → IfSome source CanBeSource → HasNoBadByte (source_text source)
good_source None p = refl
good_source (Some source) p = good_append source (space ∷ []) p.2 refl

good_middles : (middles : List (List ℕ)) → AllByRecursion CanBeMiddle middles → HasNoBadByte (middles_text middles)
good_middles [] p = refl
good_middles (middle ∷ middles) p = good_append middle (middles_text middles) p.0.3 (good_middles middles p.1)

good_trailing : (trailing : Option (List ℕ)) → IfSome trailing HasNoBadByte → HasNoBadByte (trailing_text trailing)
good_trailing None p = refl
good_trailing (Some text) p = p

no_spaces : (tags source : Option (List ℕ)) (command rest : List ℕ) → IsPlainText command → IsSpaces (tags_text tags ++ (source_text source ++ (command ++ rest))) → ⊥
no_spaces (Some tags) source command rest p s = (let e : at_sign ≡ space = s.0 in omega arith)
no_spaces None (Some source) command rest p s = (let e : colon ≡ space = s.0 in omega arith)
no_spaces None None [] rest p s = (let none = p.some in omega arith)
no_spaces None None (b ∷ text) rest p s = both_ways (b == space) p.plain.0.no_space (eq-eqb b space s.0)

tags_size : (limit : TagLimit) (tags : Option (List ℕ)) → IfSome tags (CanBeTags limit) → length (tags_text tags) ≤ 8191
tags_size limit None p = omega arith
tags_size Client (Some tags) p = (let most = p.2 in omega (arith, length-append tags (space ∷ [])))
tags_size Server (Some tags) p = (let most = p.2 in omega (arith, length-append tags (space ∷ [])))

-- ---- the line

module _ (limit : TagLimit) (parts : Parts) (can : CanStand limit parts) where
  head : HasHead (text_of parts) parts.tags parts.source parts.command
  head =
      let plain = command_plain parts.command can.command in
      let begins = plain_begins parts.command (ending parts.middles parts.trailing) plain in
      record {
        after_tags = text_behind_tags parts;
        after_source = parts.command ++ ending parts.middles parts.trailing;
        after_command = ending parts.middles parts.trailing;
        tags_split = tags_written limit parts.tags (text_behind_tags parts) can.tags (no_at parts.source (parts.command ++ ending parts.middles parts.trailing) begins.2);
        source_split = source_written parts.source (parts.command ++ ending parts.middles parts.trailing) can.source begins.0 begins.1;
        command_split = (plain_no_space parts.command plain.plain, refl, ends parts.middles parts.trailing);
      }

  pub good : HasNoBadByte (text_of parts)
  good =
      let end = good_append (middles_text parts.middles) (trailing_text parts.trailing) (good_middles parts.middles can.middles) (good_trailing parts.trailing can.trailing) in
      let command = good_append parts.command (ending parts.middles parts.trailing) (plain_no_bad parts.command (command_plain parts.command can.command).plain) end in
      good_append (tags_text parts.tags) (text_behind_tags parts) (good_tags limit parts.tags can.tags)
      (good_append (source_text parts.source) (parts.command ++ ending parts.middles parts.trailing) (good_source parts.source can.source) command)

  no_fault : (fault : LineFault) → HasFault limit (text_of parts) fault → ⊥
  unfolding head
  no_fault Empty spaces = no_spaces parts.tags parts.source parts.command (ending parts.middles parts.trailing) (command_plain parts.command can.command) spaces
  no_fault TagsTooLong long =
      let same = tags_once (text_of parts) parts.tags (Some long.0) (text_behind_tags parts) long.1 head.tags_split long.2 in
      let tags : CanBeTags limit long.0 = subst (λ t. IfSome t (CanBeTags limit)) same.0 can.tags in
      let most = tags.2 in
      let over = long.3 in
      omega arith
  no_fault TooLong long =
      let same = tags_once (text_of parts) parts.tags long.0 (text_behind_tags parts) long.1 head.tags_split long.2 in
      let over = long.3 in
      let most = can.size in
      omega (arith, ap length same.1)
  no_fault BadByte bad = both_ways (list_any ends_line (text_of parts)) good bad
  no_fault NoCommand lacks =
      let same = head_once (text_of parts) parts.tags lacks.0 parts.source lacks.1 parts.command lacks.2 head lacks.3 in
      ⊎_elim (λ h. (let source : CanBeSource [] = subst (λ s. IfSome s CanBeSource) (same.same_source ∙ h) can.source in let some = source.0 in omega arith))
      (λ h. both_ways (is_command parts.command) (ap is_command same.same_command ∙ h) can.command) lacks.4

  pub reads : Reads limit (text_of parts) (meaning_of parts)
  unfolding head
  reads = record {
    parts = record { head = head; parameters = parameters_written 0 parts.middles parts.trailing can.middles (omega (arith, can.count)) };
    sound = no_fault;
  }

  pub reads_back : read limit (text_of parts) ≡ Ok (meaning_of parts)
  reads_back = sym (is_the_read limit (text_of parts) (Ok (meaning_of parts)) reads tt)

-- ---- the line in a stream

no_lf_in : (xs : List ℕ) → HasNoBadByte xs → length xs ≤ position_or_len is_lf xs
no_lf_in [] p = omega arith
no_lf_in (x ∷ xs) p =
    let both = or_parts (ends_line x) (list_any ends_line xs) p in
    let first = or_parts ((x == 0) || (x == 10)) (x == 13) both.0 in
    let second = or_parts (x == 0) (x == 10) first.0 in
    let some : position_or_len is_lf (x ∷ xs) ≡ 1 + position_or_len is_lf xs = ap (λ b. cond (not b) (1 + position_or_len is_lf xs) 0) second.1 in
    let others = no_lf_in xs both.1 in
    omega arith

strip_pushed : (xs : List ℕ) → strip_last 13 (xs ++ 13 ∷ []) ≡ xs
strip_pushed xs =
    let size = length-append xs (13 ∷ []) in
    let less : length (xs ++ 13 ∷ []) - 1 ≡ length xs = omega arith in
    let last : slice_index (xs ++ 13 ∷ []) (length (xs ++ 13 ∷ []) - 1) ≡ 13 = get_or_push xs 13 0 (length (xs ++ 13 ∷ []) - 1) (sym less) in
    let some : nat_lt 0 (length (xs ++ 13 ∷ [])) ≡ true = lt-ltb 0 (length (xs ++ 13 ∷ [])) (omega arith) in
    let is : ends_with_byte 13 (xs ++ 13 ∷ []) ≡ true = ap (λ b. b && (slice_index (xs ++ 13 ∷ []) (length (xs ++ 13 ∷ []) - 1) == 13)) some ∙ eq-eqb _ 13 last in
    cond-true (ends_with_byte 13 (xs ++ 13 ∷ [])) (take (length (xs ++ 13 ∷ []) - 1) (xs ++ 13 ∷ [])) (xs ++ 13 ∷ []) is ∙ take_at xs (13 ∷ []) (length (xs ++ 13 ∷ []) - 1) (sym less)

-- bytes with CR LF behind them are one line of a stream
pub bytes_cut : (bytes rest : List ℕ) → HasNoBadByte bytes → length bytes ≤ 8701 → items (bytes ++ 13 ∷ 10 ∷ rest) ≡ line bytes ∷ items rest
bytes_cut bytes rest good most =
    let text = bytes ++ 13 ∷ [] in
    let none = position-append_none bytes (13 ∷ []) (none_from bytes (no_lf_in bytes good)) refl in
    let first : position is_lf (10 ∷ rest) ≡ Some 0 = position_from (10 ∷ rest) 0 refl (omega arith) in
    let place = position-append_some text (10 ∷ rest) 0 none first in
    let taken : take (length text + 0) (text ++ 10 ∷ rest) ≡ text = take_at text (10 ∷ rest) (length text + 0) (omega arith) in
    let size = length-append bytes (13 ∷ []) in
    let fits : nat_lt (length text) 8703 ≡ true = lt-ltb (length text) 8703 (omega arith) in
    let item : item_of text ≡ line bytes = cond-true (nat_lt (length text) 8703) (line (strip_last 13 text)) too_long fits ∙ ap line (strip_pushed bytes) in
    ap items (sym (append_assoc bytes (13 ∷ []) (10 ∷ rest))) ∙ items_line (text ++ 10 ∷ rest) (length text + 0) place
    ∙ ap (λ l. item_of l ∷ items (drop (length text + 0 + 1) (text ++ 10 ∷ rest))) taken ∙ ap (λ i. i ∷ items (drop (length text + 0 + 1) (text ++ 10 ∷ rest))) item
    ∙ ap (λ l. line bytes ∷ items l) (drop_past text (10 ∷ rest) 0)

line_spelled : (parts : Parts) (rest : List ℕ) → line_text parts ++ rest ≡ text_of parts ++ 13 ∷ 10 ∷ rest
line_spelled parts rest = simp append_assoc

pub cut : (limit : TagLimit) (parts : Parts) (rest : List ℕ) → CanStand limit parts → items (line_text parts ++ rest) ≡ line (text_of parts) ∷ items rest
cut limit parts rest can =
    let whole = length-append (tags_text parts.tags) (text_behind_tags parts) in
    let of_tags = tags_size limit parts.tags can.tags in
    ap items (line_spelled parts rest) ∙ bytes_cut (text_of parts) rest (good limit parts can) (omega (arith, can.size))

-- ---- some parts: `@a :s P m :` and a space

abbrev example : Parts
example = record { tags = Some (97 ∷ []); source = Some (115 ∷ []); command = 80 ∷ []; middles = (109 ∷ []) ∷ []; trailing = Some (space ∷ []) }

one_fits : (limit : TagLimit) → 1 ≤ tag_limit limit
one_fits Client = lit≤ tt
one_fits Server = lit≤ tt

pub some_parts : (limit : TagLimit) → (parts : Parts) × CanStand limit parts
some_parts limit = (
  example,
  record {
    tags = ((refl, tt), refl, one_fits limit);
    source = (lit< tt, (refl, tt), refl);
    command = refl;
    middles = ((lit< tt, refl, (refl, tt), refl), tt);
    trailing = refl;
    count = lit≤ tt;
    size = lit≤ tt;
  },
)
