use Rattle.std.proofs.Common.{◌≡◌, ◌<◌, ℕ, List, [], ◌∷◌, None, length, map, refl, arith}
use Rattle.std.proofs.lemmas.List.{length-map}
use Rattle.chat_query.specs.declared.facts.Facts.{Facts}
use Rattle.client_session.specs.Lookup.{name_by_command}
use Rattle.client_session.specs.declared.command.ClientCommand.TheVariants.{Redact}
use Rattle.client_session.proofs.lookup.sought_by.Goals as goal

nowhere : (f : Facts) (ps : List (List ℕ)) → length ps < 2 → name_by_command f Redact ps ≡ None
nowhere f [] h = refl
nowhere f (a ∷ []) h = refl
nowhere f (a ∷ b ∷ more) h = absurd (omega arith)

pub returns-then-parameters-lt2 : goal.returns-then-parameters-lt2
returns-then-parameters-lt2 c =
    let n = length-map c.args.parameters.now (λ p. p.now) in
    let e = nowhere c.args.facts.now (map (λ p. p.now) c.args.parameters.now) (omega (arith, n)) in
    rw e refl

pub bounds-parameters-0 : goal.bounds-parameters-0
bounds-parameters-0 c = omega arith

pub bounds-parameters-1 : goal.bounds-parameters-1
bounds-parameters-1 c = omega arith
