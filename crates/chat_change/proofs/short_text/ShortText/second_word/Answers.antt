use Rattle.std.proofs.Common.{rules, ◌≡◌, ◌∙◌, ◌-◌, ap, subst, length, drop}
use Rattle.chat_change.specs.ShortText.{IsWordOf}
use Rattle.chat_change.proofs.ShortTextLemmas.{word_of}
use Rattle.chat_change.proofs.short_text.ShortText.second_word.Goals as goal

pub returns-clause-word : goal.returns-clause-word
returns-clause-word g c =
    let xs = c.self.inside.bytes in
    let n = c.number_of.result in
    let from = g.row.N - 16 in
    let all : length xs ≡ g.row.N = search rules in
    let last : c.in-Some.bytes.now ≡ drop from xs = c.in-Some.ensures.cases.1.same ∙ ap (λ l. drop (l - 16) xs) all in
    let is = word_of from c.self.inside.length n xs c.self.invariant.2 (subst (λ b. IsWordOf b n) last c.number_of.ensures) in
    subst (λ t. IsWordOf (drop from t) n) c.self.view_is is
