use Rattle.std.proofs.Common.{◌≡◌, false, [], ap, sym, ◌∙◌}
use Rattle.std.proofs.Math.Logic.{∥∥₁_map}
use Rattle.network_log.specs.Guest.{Guest}
use Rattle.network_client.proofs.AskLemmas.{heard_in, idle}
use Rattle.network_client.proofs.client.Client.hear.Goals as goal

pub returns-clause-heard : goal.returns-clause-heard
returns-clause-heard g c = λ is.
    let there : c.args.self.now.is_gone ≡ false = ap (λ (x : Guest). x.is_gone) (sym c.self.view_is) ∙ c.if-self.false in
    let none = idle _ c.is_busy.ensures c.if-is_busy.false in
    let same = ap (λ (x : Guest). x.todo) c.self.view_is in
    let done : c.args.self.now.todo ≡ [] = cc (none, same) in
    ∥∥₁_map c.in_ok-shown.ensures.shown (λ s.
    heard_in _ c.args.directory.now c.in_ok-shown.shown c.args.self.now c.is_shown.new.self c.in_ok-shown.ensures.same c.in_ok-step.ensures.next is there done c.in_ok-step.ensures.heard s)
