-- The cluster's lines read back as the words that they were written from.
use Rattle.std.proofs.Common.{◌≡◌, ℕ, ◌+◌, ◌≤◌, true, List, [], ◌∷◌, ◌++◌, codes, length, None, Some, Option, refl, ap, ◌∙◌, arith, length-append, lit≤}
use Rattle.std.specs.Prelude.{IfSome}
use Rattle.std.specs.List.{AllByRecursion}
use Rattle.std.specs.Option.{option_to_list}
use Rattle.std.proofs.lemmas.Bool.{ne_eqb}
use Rattle.byte_text.specs.Bytes.{begins_with, colon}
use Rattle.irc_line.specs.declared.line.TagLimit.{TagLimit}
use Rattle.irc_line.specs.Line.{is_command, most_parameters}
use Rattle.irc_line.specs.Text.{Parts, middles_text, trailing_text}
use Rattle.irc_line.specs.CanStand.{HasNoBadByte, CanBeMiddle, CanStand}
use Rattle.irc_line.specs.Lines.{AreLines}
use Rattle.irc_line.proofs.CallerLemmas.{one_line, good_append, no_space_append, middle_from, no_space_from, no_space_above, no_bad_above}
use Rattle.irc_time.specs.Time.{digit, greatest}
use Rattle.irc_time.specs.Text.{time_text}
use Rattle.irc_time.proofs.CallerLemmas.{IsTimeShape, time_shape}
use Rattle.irc_reply.specs.Reply.{reply, unknown_text, too_long_text, fail_text, marker_word, mark_text}
use Rattle.irc_reply.specs.Standing.{IsCluster, CanBeRefusal, IsWordTo, target_limit, word_limit}

abbrev pub reply_parts : List ℕ → List ℕ → List (List ℕ) → Option (List ℕ) → Parts
reply_parts cluster command middles trailing = record { tags = None; source = Some cluster; command = command; middles = middles; trailing = trailing }

module _ (limit : TagLimit) (cluster : List ℕ) (is : IsCluster cluster) where
  -- a line whose words have at most 445 bytes
  pub reply_stands : (command : List ℕ) (middles : List (List ℕ)) (trailing : Option (List ℕ))
      → is_command command ≡ true → AllByRecursion CanBeMiddle middles → IfSome trailing HasNoBadByte
      → length (middles ++ option_to_list trailing) ≤ most_parameters
      → length command + (length (middles_text middles) + length (trailing_text trailing)) ≤ 445
      → CanStand limit (reply_parts cluster command middles trailing)
  reply_stands command middles trailing c m t n size =
      let name = is.1 in
      let a = length-append cluster (32 ∷ []) in
      let b = length-append (58 ∷ (cluster ++ 32 ∷ [])) (command ++ (middles_text middles ++ trailing_text trailing)) in
      let d = length-append command (middles_text middles ++ trailing_text trailing) in
      let e = length-append (middles_text middles) (trailing_text trailing) in
      record {
        tags = tt;
        source = is.0;
        command = c;
        middles = m;
        trailing = t;
        count = n;
        size = omega arith;
      }

  pub reply_line : (command : List ℕ) (middles : List (List ℕ)) (trailing : Option (List ℕ))
      → is_command command ≡ true → AllByRecursion CanBeMiddle middles → IfSome trailing HasNoBadByte
      → length (middles ++ option_to_list trailing) ≤ most_parameters
      → length command + (length (middles_text middles) + length (trailing_text trailing)) ≤ 445
      → AreLines limit (reply cluster command middles trailing)
  reply_line command middles trailing c m t n size =
      one_line limit (reply_parts cluster command middles trailing) (reply_stands command middles trailing c m t n size)

  pub unknown_line : (nick word : List ℕ) → IsWordTo target_limit nick → IsWordTo word_limit word → AreLines limit (unknown_text cluster nick word)
  unknown_line nick word n w =
      let long = n.1 in
      let short = w.1 in
      let a = length-append nick (32 ∷ (word ++ [])) in
      let b = length-append word [] in
      reply_line (codes "421") (nick ∷ word ∷ []) (Some (codes "Unknown command")) refl (n.0, (w.0, tt)) refl (lit≤ tt) (omega arith)

  pub too_long_line : (nick : List ℕ) → IsWordTo target_limit nick → AreLines limit (too_long_text cluster nick)
  too_long_line nick n =
      let long = n.1 in
      let a = length-append nick [] in
      reply_line (codes "417") (nick ∷ []) (Some (codes "Input line was too long")) refl (n.0, tt) refl (lit≤ tt) (omega arith)

  pub fail_line : (command code : List ℕ) (context : List (List ℕ)) (text : List ℕ) → CanBeRefusal (command ∷ code ∷ context) text
      → AreLines limit (fail_text cluster command code context text)
  fail_line command code context text can =
      let few = can.count in
      let short = can.size in
      let count : length ((command ∷ code ∷ context) ++ text ∷ []) ≤ most_parameters = omega (arith, length-append (command ∷ code ∷ context) (text ∷ [])) in
      reply_line (codes "FAIL") (command ∷ code ∷ context) (Some text) refl can.words_stand can.text_stands count (omega arith)

-- ---- markers

pub low_behind : (bytes : List ℕ) → AllByRecursion (λ b. 45 ≤ b) bytes → AllByRecursion (λ b. 33 ≤ b) bytes
low_behind [] p = tt
low_behind (b ∷ bytes) p = (let low = p.0 in omega arith, low_behind bytes p.1)

-- the word of a time
pub time_middle : (bytes : List ℕ) → IsTimeShape bytes → CanBeMiddle bytes
time_middle bytes is =
    let low = low_behind bytes is.low in
    let size = is.size in (
      omega arith,
      ap (begins_with colon) is.begins ∙ ne_eqb (digit is.first) colon (λ e. omega arith),
      no_space_above bytes low,
      no_bad_above bytes low,
    )

marker_middle : (marker : Option ℕ) → IfSome marker (λ t. t ≤ greatest) → CanBeMiddle (marker_word marker) × (length (marker_word marker) ≤ 34)
marker_middle None p = (middle_from (codes "*") refl, lit≤ tt)
marker_middle (Some t) p =
    let shape = time_shape t p in
    let low = low_behind (time_text t) shape.low in
    let size = shape.size in
    let some = length-append (codes "timestamp=") (time_text t) in (
      (
        omega arith,
        refl,
        no_space_append (codes "timestamp=") (time_text t) (no_space_from (codes "timestamp=") refl) (no_space_above (time_text t) low),
        good_append (codes "timestamp=") (time_text t) refl (no_bad_above (time_text t) low),
      ),
      omega arith,
    )

pub mark_line : (limit : TagLimit) (cluster target : List ℕ) (marker : Option ℕ) → IsCluster cluster → IsWordTo target_limit target → IfSome marker (λ t. t ≤ greatest)
    → AreLines limit (mark_text cluster target marker)
mark_line limit cluster target marker is t m =
    let word = marker_middle marker m in
    let long = t.1 in
    let short = word.1 in
    let a = length-append target (32 ∷ (marker_word marker ++ [])) in
    let b = length-append (marker_word marker) [] in
    reply_line limit cluster is (codes "MARKREAD") (target ∷ marker_word marker ∷ []) None refl (t.0, (word.0, tt)) tt (lit≤ tt) (omega arith)
