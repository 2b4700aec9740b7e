use Rattle.std.proofs.Common.{sym, ap, ◌∙◌}
use Rattle.chat_change.specs.Words.{is_name, is_target, lower_case_of}
use Rattle.chat_change.specs.CompactText.{bytes_of}
use Rattle.chat_change.specs.declared.buffer.Names.{Names}
use Rattle.chat_change.proofs.WordsLemmas.{lower_case_of-twice, is_target-lower_case_of}
use Rattle.chat_change.proofs.buffer.Buffer.from_lawful.Goals as goal

pub invariant_of-result : goal.invariant_of-result
invariant_of-result c =
    let names = c.in_ok-names.ensures.ok in
    let account = ap (λ (n : Names). n.account) names ∙ c.from_lawful.ensures in
    let network = ap (λ (n : Names). n.network) names ∙ c.new-2.ensures in
    let target = ap (λ (n : Names). bytes_of n.target) names ∙ c.fold.ensures ∙ ap lower_case_of c.in_ok-target.ensures in
    record {
      account = ap is_name account ∙ c.requires.account;
      network = ap is_name network ∙ c.requires.network;
      target = ap is_target target ∙ is_target-lower_case_of c.args.target.now ∙ c.requires.target;
      folded = ap lower_case_of target ∙ lower_case_of-twice c.args.target.now ∙ sym target;
    }
