use Rattle.std.proofs.Common.{◌≡◌, ◌+◌, ℕ, false, List, [], ◌∷◌, take, Bor, Option, Some, None, sym, ap, ◌∙◌, subst}
use Rattle.std.specs.Option.{is_some, option_copied}
use Rattle.network_server.specs.declared.batch.BatchPart.{BatchPart}
use Rattle.hosted_network.specs.Entering.{OnlyEntered}
use Rattle.hosted_network.proofs.WrittenLemmas.{first-entered, not-entered, only-more}
use Rattle.hosted_network.proofs.batch_parts.entered_channel.Goals.{in-Entered+else-is_some, in_default}
use Rattle.hosted_network.proofs.batch_parts.entered_channel.Goals as goal

none-found : (found : Option (Bor (List ℕ))) (parts : List BatchPart) → is_some found ≡ false → OnlyEntered (option_copied found) parts → OnlyEntered None parts
none-found None parts e k = k
none-found (Some channel) parts e k = absurd (cc e)

pub loop-part-preserved : goal.loop-part-preserved
loop-part-preserved c =
    let parts : List BatchPart = c.args.parts.now in
    let at = c.loop-part.part-index in
    let within = c.loop-part-test.true in
    elim c.match-part.branch [
      | in-Entered+else-is_some w ↦
          let channel : Option (List ℕ) = Some w.as_bytes.result.now in
          subst (λ (o : Option (Bor (List ℕ))). OnlyEntered (option_copied o) (take (at + 1) parts)) (sym w.found-is)
          (only-more parts at channel within c.part-item.is
          (first-entered w.as_bytes.result.now (take at parts) (none-found c.loop-part.found (take at parts) (sym w.is_some.ensures ∙ w.if-is_some.false) c.loop-part.invariant))
          (subst (λ (q : BatchPart). OnlyEntered channel (q ∷ [])) (sym w.in-Entered.is) (ap (λ (n : List ℕ). Some n) w.as_bytes.ensures, tt)))
      | in_default w ↦
          subst (λ (o : Option (Bor (List ℕ))). OnlyEntered (option_copied o) (take (at + 1) parts)) (sym w.found-is)
          (only-more parts at (option_copied c.loop-part.found) within c.part-item.is c.loop-part.invariant
          (not-entered (option_copied c.loop-part.found) c.part-item.result w.in_default.not-Entered))
    ]
