use Rattle.std.proofs.Common.{◌∙◌, ap, get_or, take}
use Rattle.std.specs.Char.{to_ascii_lowercase}
use Rattle.std.proofs.lemmas.List.{take-map}
use Rattle.chat_change.specs.Words.{lower_case_of}
use Rattle.chat_change.proofs.ShortTextLemmas.{folded_zeros}
use Rattle.chat_change.proofs.short_text.ShortText.fold.Goals as goal

pub invariant_of-self : goal.invariant_of-self
invariant_of-self g c =
    let t = c.self.inside in
    let zeros = folded_zeros t.length t.bytes c.self.invariant.2 in
    (c.self.invariant.0, c.self.invariant.1, λ i l. ap (λ xs. get_or xs i 0) c.make_ascii_lowercase.ensures.after ∙ zeros i l)

pub returns : goal.returns
returns g c =
    let t = c.self.inside in
    ap (take t.length) c.make_ascii_lowercase.ensures.after
    ∙ take-map to_ascii_lowercase t.length t.bytes
    ∙ ap lower_case_of c.self.view_is
