-- The line of a message, as it is held.
use Rattle.std.proofs.Common.{◌≡◌, ℕ, List, [], ◌++◌, codes, sym, ap, ◌∙◌, append_assoc, append-nil}
use Rattle.byte_text.specs.Bytes.{line_ending}
use Rattle.chat_change.specs.Record.{Record}
use Rattle.chat_change.specs.Message.{kind_word, sent_line}
use Rattle.chat_query.specs.Message.{message_line}

-- what stands behind the command
behind_word : (target body : List ℕ)
    → (target ++ (codes " :" ++ body)) ++ line_ending ≡ (target ++ []) ++ ((codes " :" ++ body) ++ line_ending)
behind_word target body =
    append_assoc target (codes " :" ++ body) line_ending
    ∙ ap (λ l. l ++ ((codes " :" ++ body) ++ line_ending)) (sym (append-nil target))

-- what stands behind the source
behind_source : (word target body : List ℕ)
    → (word ++ (codes " " ++ (target ++ (codes " :" ++ body)))) ++ line_ending
    ≡ word ++ (codes " " ++ ((target ++ []) ++ ((codes " :" ++ body) ++ line_ending)))
behind_source word target body =
    append_assoc word (codes " " ++ (target ++ (codes " :" ++ body))) line_ending
    ∙ ap (λ l. word ++ (codes " " ++ l)) (behind_word target body)

in_turn : (source word target body : List ℕ)
    → (codes ":" ++ (source ++ (codes " " ++ (word ++ (codes " " ++ (target ++ (codes " :" ++ body))))))) ++ line_ending
    ≡ (codes ":" ++ (source ++ codes " ")) ++ (word ++ (codes " " ++ ((target ++ []) ++ ((codes " :" ++ body) ++ line_ending))))
in_turn source word target body =
    ap (λ l. codes ":" ++ l)
    (append_assoc source (codes " " ++ (word ++ (codes " " ++ (target ++ (codes " :" ++ body))))) line_ending
    ∙ ap (λ l. source ++ (codes " " ++ l)) (behind_source word target body)
    ∙ sym (append_assoc source (codes " ") (word ++ (codes " " ++ ((target ++ []) ++ ((codes " :" ++ body) ++ line_ending))))))

-- the line that a record holds is the one that is written of it
pub sent_is_written : (r : Record) → sent_line r.message ≡ message_line r
sent_is_written r = in_turn r.message.source (kind_word r.message.kind) r.message.target r.message.body
