use Rattle.std.proofs.Common.{◌≡◌, Bool, true, false, ◌&&◌, refl, sym, ◌∙◌}
use Rattle.std.proofs.Math.Bool.{beq}
use Rattle.std.proofs.lemmas.Bool.{and_parts, false≢true}
use Rattle.std.proofs.lemmas.Slice.Eq.{bytes_eq-Decides}
use Rattle.irc_caps.specs.declared.CapSet.{CapSet}
use Rattle.hosted_network.proofs.shares.Share.is_for.Goals.{then-eq, else-eq}
use Rattle.hosted_network.proofs.shares.Share.is_for.Goals as goal

same : (a b : Bool) → beq a b ≡ true → a ≡ b
same true true e = refl
same true false e = absurd (false≢true e)
same false true e = absurd (false≢true e)
same false false e = refl

same-caps : (a b : CapSet)
    → (beq a.batch b.batch && (beq a.chathistory b.chathistory && (beq a.message_redaction b.message_redaction && (beq a.read_marker b.read_marker
    && (beq a.echo_message b.echo_message && (beq a.message_tags b.message_tags && beq a.server_time b.server_time)))))) ≡ true
    → a ≡ b
same-caps a b e =
    let batch = and_parts _ _ e in
    let history = and_parts _ _ batch.1 in
    let redaction = and_parts _ _ history.1 in
    let marker = and_parts _ _ redaction.1 in
    let echo = and_parts _ _ marker.1 in
    let tags = and_parts _ _ echo.1 in
    λ i. record {
      batch = same a.batch b.batch batch.0 i;
      chathistory = same a.chathistory b.chathistory history.0 i;
      message_redaction = same a.message_redaction b.message_redaction redaction.0 i;
      read_marker = same a.read_marker b.read_marker marker.0 i;
      echo_message = same a.echo_message b.echo_message echo.0 i;
      message_tags = same a.message_tags b.message_tags tags.0 i;
      server_time = same a.server_time b.server_time tags.1 i;
    }

pub returns-then-eq-2 : goal.returns-then-eq-2
returns-then-eq-2 c = λ yes.
    elim c.if-eq.branch [
      | then-eq w ↦ record {
        has_caps = sym (same-caps c.args.self.now.caps c.args.facts.now.caps (sym c.eq.ensures ∙ w.if-eq.true));
        is_cluster = sym w.as_bytes-then-eq.ensures ∙ sym ((bytes_eq-Decides _ _).0 (sym w.eq-then-eq.ensures ∙ sym w.value-is ∙ c.if-eq-2.true)) ∙ w.as_bytes.ensures;
        is_nick = sym ((bytes_eq-Decides _ _).0 (sym c.eq-then-eq-2.ensures ∙ yes)) ∙ c.as_bytes-then-eq-2.ensures;
      }
      | else-eq w ↦ absurd (false≢true (sym w.if-eq.false ∙ sym w.value-is ∙ c.if-eq-2.true))
    ]
