use Rattle.std.proofs.Common.{◌≡◌, ap, sym, ◌∙◌}
use Rattle.std.specs.Prelude.{Some, slice_get}
use Rattle.std.specs.Option.{option_copied}
use Rattle.client_session.specs.declared.effect.Effect.TheVariants.{Put}
use Rattle.hosted_network.proofs.PutMarkLemmas.{next_if}
use Rattle.hosted_network.proofs.marking.next_mark.Goals as goal

pub returns-in-Some-Put : goal.returns-in-Some-Put
returns-in-Some-Put g c =
    let is : slice_get c.args.client.now.todo 0 ≡ Some (Put c.in-Some-Put.change) =
    sym c.next_effect.ensures ∙ ap (λ o. option_copied o) c.in-Some-Put.is ∙ ap (λ e. Some e) c.in-Some-Put.field-0-is in
    record { next = next_if c.args.config.now c.in-Some-Put.change c.args.client.now c.mark_of.result (sym c.is_gone.ensures ∙ c.if-is_gone.false) is c.mark_of.ensures }
