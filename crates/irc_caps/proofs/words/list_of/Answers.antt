use Rattle.std.proofs.Common.{◌≡◌, ◌∙◌, map, ap, subst}
use Rattle.std.specs.Prelude.{IfOk}
use Rattle.irc_caps.specs.CapSet.{names}
use Rattle.irc_caps.specs.Words.{joined}
use Rattle.irc_caps.proofs.words.list_of.Goals as goal

pub returns : goal.returns
returns c =
    let held : map (λ w. w.now) c.deref.result.now ≡ names c.args.caps = ap (map (λ w. w.now)) c.deref.ensures.value ∙ c.in_ok-names.ensures in
    subst (λ words. IfOk c.joined.result (λ text. text ≡ joined words)) held c.joined.ensures
