use Rattle.std.proofs.Common.{◌≡◌, None, sym, ◌∙◌, ap, subst, length, arith}
use Rattle.std.proofs.lemmas.Bool.{not-false}
use Rattle.std.proofs.lemmas.Grind.{common_steps}
use Rattle.irc_time.specs.Time.{IsDateTime, text}
use Rattle.irc_time.specs.Parts.{value_of}
use Rattle.irc_time.proofs.PartsLemmas.{spelled_once, same_from}
use Rattle.irc_time.proofs.DayLemmas.{some_weaker, none_weaker}
use Rattle.irc_time.proofs.ReadingLemmas.{read-is}
use Rattle.irc_time.proofs.reading.read_time.Goals as goal

pub returns-then-bytes-ne24-clause-value : goal.returns-then-bytes-ne24-clause-value
returns-then-bytes-ne24-clause-value c = read-is c.args.bytes.now None tt (λ t is. c.if-bytes-ne24.true (ap length is.spelled))

pub returns-then-ne-clause-none : goal.returns-then-ne-clause-none
returns-then-ne-clause-none c = grind (arith, common_steps)

pub returns-then-ne-clause-value : goal.returns-then-ne-clause-value
returns-then-ne-clause-value c = read-is c.args.bytes.now None tt (returns-then-ne-clause-none c)

pub returns-clause-some : goal.returns-clause-some
returns-clause-some c =
    let spelled : c.args.bytes.now ≡ text (value_of c.parts_at-parts.result) =
    sym (same_from _ _ (not-false _ (sym c.ne.ensures ∙ c.if-ne.false))) ∙ c.as_slice.ensures ∙ c.text_of-text.ensures in
    some_weaker c.moment_of.result _ _ (λ t p. record { fields = value_of c.parts_at-parts.result; exists = p.0; spelled = spelled; moment = p.1 }) c.moment_of.ensures.some

pub returns-clause-none : goal.returns-clause-none
returns-clause-none c =
    none_weaker c.moment_of.result _ _ (λ denied t time. denied (subst IsDateTime (sym (c.parts_at-parts.ensures ∙ spelled_once c.args.bytes.now time.fields time.exists time.spelled)) time.exists)) c.moment_of.ensures.none

pub returns-clause-value : goal.returns-clause-value
returns-clause-value c = read-is c.args.bytes.now c.moment_of.result (returns-clause-some c) (returns-clause-none c)
