use Rattle.std.proofs.Common.{rules, ◌≡◌, subst, take}
use Rattle.chat_change.specs.ShortText.{IsWordOf}
use Rattle.chat_change.proofs.ShortTextLemmas.{of_first, word_of}
use Rattle.chat_change.proofs.short_text.ShortText.first_word.Goals as goal

pub returns : goal.returns
returns g c =
    let xs = c.self.inside.bytes in
    let n = c.number_of.result in
    let first : c.in-Some.bytes.now ≡ take 16 xs = search rules in
    let is = of_first n xs (subst (λ b. IsWordOf b n) first c.number_of.ensures) in
    subst (λ t. IsWordOf t n) c.self.view_is (word_of 0 c.self.inside.length n xs c.self.invariant.2 is)
