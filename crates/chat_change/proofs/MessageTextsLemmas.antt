-- How the texts of a message lie behind one another.
use Rattle.std.proofs.Common.{◌≡◌, ℕ, ◌+◌, ◌-◌, List, ◌++◌, codes, length, take, drop, refl, sym, ap, ◌∙◌, append_assoc, length-append, arith}
use Rattle.std.specs.Prelude.{slice_range}
use Rattle.std.proofs.Math.Seq.{take-append_seam, drop-append_seam}
use Rattle.chat_change.specs.Message.{Message, kind_word, sent_line}
use Rattle.chat_change.specs.MessageTexts.{MessageTexts, IsLaidOut, message_at, spaced_word}
use Rattle.chat_change.specs.declared.message.Kind.{Kind}

abbrev pub ending : List ℕ
ending = codes "\r\n"

-- what stands between two others
middle : (before mid after items : List ℕ) (from to : ℕ) → items ≡ before ++ (mid ++ after) → from ≡ length before → to ≡ from + length mid → slice_range items from to ≡ mid
middle before mid after items from to is e f =
    let long : to - from ≡ length mid = omega arith in
    (λ i. take (long i) (drop (e i) (is i)))
    ∙ ap (take (length mid)) (drop-append_seam before (mid ++ after))
    ∙ take-append_seam mid after

-- the line as it goes out, text by text
pub sent_in_turn : (m : Message) → codes ":" ++ (m.source ++ (spaced_word m.kind ++ (m.target ++ (codes " :" ++ (m.body ++ ending))))) ≡ sent_line m
sent_in_turn m =
    let behind = m.target ++ (codes " :" ++ (m.body ++ ending)) in
    let close = ap (λ l. codes " " ++ l) (append_assoc m.target (codes " :" ++ m.body) ending) in
    let word = ap (λ l. codes " " ++ l) (append_assoc (kind_word m.kind) (codes " " ++ (m.target ++ (codes " :" ++ m.body))) ending ∙ ap (λ l. kind_word m.kind ++ l) close) in
    let whole = ap (λ l. codes ":" ++ l) (append_assoc m.source (codes " " ++ (kind_word m.kind ++ (codes " " ++ (m.target ++ (codes " :" ++ m.body))))) ending ∙ ap (λ l. m.source ++ l) word) in
    ap (λ l. codes ":" ++ (m.source ++ (codes " " ++ l))) (append_assoc (kind_word m.kind) (codes " ") behind)
    ∙ sym whole

module _ (tags source word target body items : List ℕ)
    (is : items ≡ (((((((tags ++ codes ":") ++ source) ++ word) ++ target) ++ codes " :") ++ body) ++ ending)) where
  abbrev before_source : List ℕ
  before_source = tags ++ codes ":"

  abbrev before_target : List ℕ
  before_target = (before_source ++ source) ++ word

  abbrev before_body : List ℕ
  before_body = (before_target ++ target) ++ codes " :"

  abbrev behind_target : List ℕ
  behind_target = codes " :" ++ (body ++ ending)

  abbrev behind_source : List ℕ
  behind_source = word ++ (target ++ behind_target)

  at_body : items ≡ before_body ++ (body ++ ending)
  at_body = is ∙ append_assoc before_body body ending

  at_target : items ≡ before_target ++ (target ++ behind_target)
  at_target = at_body ∙ append_assoc (before_target ++ target) (codes " :") (body ++ ending) ∙ append_assoc before_target target behind_target

  at_source : items ≡ before_source ++ (source ++ behind_source)
  at_source = at_target ∙ append_assoc (before_source ++ source) word (target ++ behind_target) ∙ append_assoc before_source source behind_source

  at_tags : items ≡ tags ++ (codes ":" ++ (source ++ behind_source))
  at_tags = at_source ∙ append_assoc tags (codes ":") (source ++ behind_source)

  source_begins : length tags + 1 ≡ length before_source
  source_begins = sym (length-append tags (codes ":"))

  target_begins : length tags + 1 + length source + length word ≡ length before_target
  target_begins = omega (arith, source_begins, length-append before_source source, length-append (before_source ++ source) word)

  body_begins : length tags + 1 + length source + length word + length target + 2 ≡ length before_body
  body_begins = omega (arith, target_begins, length-append before_target target, length-append (before_target ++ target) (codes " :"))

  size : length items ≡ length tags + 1 + length source + length word + length target + 2 + length body + 2
  size = ap length is ∙ length-append (before_body ++ body) ending ∙ omega (arith, body_begins, length-append before_body body)

  tags_at : take (length tags) items ≡ tags
  tags_at = ap (take (length tags)) at_tags ∙ take-append_seam tags (codes ":" ++ (source ++ behind_source))

  line_at : drop (length tags) items ≡ codes ":" ++ (source ++ behind_source)
  line_at = ap (drop (length tags)) at_tags ∙ drop-append_seam tags (codes ":" ++ (source ++ behind_source))

  source_at : slice_range items (length tags + 1) (length tags + 1 + length source) ≡ source
  source_at = middle before_source source behind_source items _ _ at_source source_begins refl

  target_at : slice_range items (length tags + 1 + length source + length word) (length tags + 1 + length source + length word + length target + 2 - 2) ≡ target
  target_at = middle before_target target behind_target items _ _ at_target target_begins (omega arith)

  body_at : slice_range items (length tags + 1 + length source + length word + length target + 2) (length items - 2) ≡ body
  body_at = middle before_body body ending items _ _ at_body body_begins (omega (arith, size))

  -- the texts as they are given
  pub texts_at : (kind : Kind) → (let t : MessageTexts = record {
    tags = take (length tags) items;
    message = message_at items (length tags) (length tags + 1 + length source) (length tags + 1 + length source + length word) (length tags + 1 + length source + length word + length target + 2) kind;
  } in t)
      ≡ record { tags = tags; message = record { kind = kind; source = source; target = target; body = body } }
  texts_at kind = λ i. record { tags = tags_at i; message = record { kind = kind; source = source_at i; target = target_at i; body = body_at i } }

  -- the line stands behind the tags
  pub laid_out : (kind : Kind) → word ≡ spaced_word kind
      → IsLaidOut items (length tags) (length tags + 1 + length source) (length tags + 1 + length source + length word) (length tags + 1 + length source + length word + length target + 2) kind
  laid_out kind spaced = record {
    line_first = omega arith;
    command_next = omega arith;
    target_next = omega arith;
    body_last = omega (arith, size);
    stands = line_at ∙ ap (λ w. codes ":" ++ (source ++ (w ++ (target ++ behind_target)))) spaced
        ∙ sent_in_turn (record { kind = kind; source = source; target = target; body = body })
        ∙ sym (ap (λ (t : MessageTexts). sent_line t.message) (texts_at kind));
  }
