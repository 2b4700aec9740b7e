use Rattle.std.proofs.Common.{◌≡◌, true, not, sym, ap, ◌∙◌}
use Rattle.std.proofs.lemmas.Bool.{false≢true}
use Rattle.hosted_network.specs.Telling.{IsListener}
use Rattle.hosted_network.proofs.TellingLemmas.{heard-share}
use Rattle.hosted_network.proofs.telling.tell_client.Goals.{then-is_read, else-is_read, then-is_known, else-is_known}
use Rattle.hosted_network.proofs.telling.tell_client.Goals as goal

pub returns-clause-heard : goal.returns-clause-heard
returns-clause-heard g c =
    let f = c.in-Some.facts.now in
    let known : f.caps.read_marker ≡ true → c.if-is_read.is_known ≡ true → c.args.is_read ≡ true = elim c.if-is_read.branch [
      | then-is_read w ↦ λ follows yes. w.if-is_read.true
      | else-is_read w ↦ λ follows yes. absurd (false≢true (sym (w.is_known-is ∙ ap not follows) ∙ yes))
    ] in
    let l : IsListener c.args.shares.now.config.now c.args.is_read c.args.client.now f = elim c.if-is_known.branch [
      | then-is_known w ↦ record {
        is_there = sym c.is_gone.ensures ∙ c.if-is_gone.false;
        has_facts = sym c.in-Some.ensures;
        is_of = w.has_session.ensures (sym w.value-is ∙ c.if-not-has_session.false);
        is_known = λ follows. known follows w.if-is_known.true;
      }
      | else-is_known w ↦ absurd (false≢true (sym w.if-is_known.false ∙ sym w.value-is ∙ c.if-not-has_session.false))
    ] in
    heard-share {share = c.in-Some-get.share.now} c.in-Ok-new_nick.nick l c.in-Ok.ensures.share (sym c.in-Some-get.ensures) c.nick.ensures c.deref.ensures.value
    c.nick-2.ensures c.in-Ok-new_nick.ensures c.tell_text.ensures
