-- What is offered and sent of what a client is owed.
use Rattle.std.proofs.Common.{◌≡◌, ℕ, ◌+◌, ◌≤◌, List, [], ◌∷◌, ◌++◌, Some, length, get_or, take, drop, position, sym, ap, ◌∙◌, subst, append_assoc}
use Rattle.std.specs.Prelude.{◌==◌}
use Rattle.std.proofs.lemmas.Bool.{eqb-true}
use Rattle.std.proofs.lemmas.List.{take_more, take-append-le, take-append-drop}
use Rattle.std.proofs.lemmas.List.Quantifiers.{position-Some}
use mathlib.Core.List.{IsPrefix}
use Rattle.byte_text.specs.Bytes.{lf}
use Rattle.network_log.specs.Facts.{NodeFacts}
use Rattle.network_log.specs.Telling.{IsToldToClient, AsNewcomer, AsClient, MayBeTold}
use Rattle.network_log.specs.Truth.{AreWholeLines, AreSome}
use Rattle.network_log.specs.declared.origin.Origin.{Origin}
use Rattle.network_log.specs.declared.origin.Origin.TheVariants.{ClientCame}

-- the first line with its end
pub line_whole : (bytes : List ℕ) (at : ℕ) → position (λ b. b == lf) bytes ≡ Some at → AreWholeLines bytes (at + 1)
line_whole bytes at e =
    let there = position-Some (λ b. b == lf) bytes at 0 e in
    AreSome (take at bytes) (take_more bytes at 0 there.0 ∙ ap (λ b. take at bytes ++ b ∷ []) (eqb-true (get_or bytes at 0) lf there.1))

-- ---- what begins what may be told may be told

prefix-of : (first last bytes told : List ℕ) → bytes ≡ first ++ last → IsPrefix bytes told → IsPrefix first told
prefix-of first last bytes told e p = (last ++ p.0, sym (append_assoc first last p.0) ∙ ap (λ l. l ++ p.0) (sym e) ∙ p.1)

pub first_told : {facts : NodeFacts} {serial : ℕ} {received bytes : List ℕ} (first last : List ℕ) → bytes ≡ first ++ last
    → IsToldToClient facts serial received bytes → IsToldToClient facts serial received first
first_told {bytes = bytes} first last e (AsNewcomer g n s r p) = AsNewcomer g n s r (prefix-of first last bytes g.told e p)
first_told {bytes = bytes} first last e (AsClient w place g reached there s r p) = AsClient w place g reached there s r (prefix-of first last bytes g.told e p)

-- of what is owed, the first that is lent and of that the first
owed-parts : (owed lent : List ℕ) (m : ℕ) → owed ≡ lent ++ drop (length lent) owed → owed ≡ take m lent ++ (drop m lent ++ drop (length lent) owed)
owed-parts owed lent m e =
    e ∙ ap (λ l. l ++ drop (length lent) owed) (sym (take-append-drop m lent))
    ∙ append_assoc (take m lent) (drop m lent) (drop (length lent) owed)

pub may_send : {facts : NodeFacts} {origin : Origin} {serial : ℕ} {received : List ℕ} (sent owed lent : List ℕ) (m : ℕ) → origin ≡ ClientCame → owed ≡ lent ++ drop (length lent) owed
    → IsToldToClient facts serial received (sent ++ owed) → MayBeTold facts origin serial received (sent ++ take m lent)
may_send {facts} {origin} {serial} {received} sent owed lent m is e told =
    let rest = drop m lent ++ drop (length lent) owed in
    let all : sent ++ owed ≡ (sent ++ take m lent) ++ rest = ap (λ l. sent ++ l) (owed-parts owed lent m e) ∙ sym (append_assoc sent (take m lent) rest) in
    subst (λ (o : Origin). MayBeTold facts o serial received (sent ++ take m lent)) (sym is) (first_told (sent ++ take m lent) rest all told)

-- what was sent of the first that is owed, and what is still owed
pub settled : (sent owed lent : List ℕ) (m n : ℕ) → owed ≡ lent ++ drop (length lent) owed → n ≤ length (take m lent) → (sent ++ take n (take m lent)) ++ drop n owed ≡ sent ++ owed
settled sent owed lent m n e fits =
    let first = take m lent in
    let rest = drop m lent ++ drop (length lent) owed in
    append_assoc sent (take n first) (drop n owed)
    ∙ ap (λ l. sent ++ (l ++ drop n owed)) (sym (take-append-le n first rest fits) ∙ ap (take n) (sym (owed-parts owed lent m e)))
    ∙ ap (λ l. sent ++ l) (take-append-drop n owed)
