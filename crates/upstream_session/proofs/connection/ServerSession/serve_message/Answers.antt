use Rattle.std.proofs.Common.{◌≡◌, ◌<◌, ◌∙◌, ℕ, List, [], ◌∷◌, length, refl, sym, ap, arith}
use Rattle.std.proofs.lemmas.List.{length-map}
use Rattle.irc_line.specs.Line.{Reading}
use Rattle.chat_change.specs.declared.message.Kind.{Kind}
use Rattle.upstream_session.specs.declared.connection.ServerSession.{ServerSession}
use Rattle.upstream_session.specs.Step.{stays}
use Rattle.upstream_session.specs.Rows.{pass_on, message}
use Rattle.upstream_session.proofs.connection.ServerSession.serve_message.Goals as goal

too_few : (u : ServerSession) (now : ℕ) (kind : Kind) (line : Reading) (bytes : List ℕ) (ps : List (List ℕ)) → length ps < 2
    → message u now kind line bytes ps ≡ stays u (pass_on u line bytes)
too_few u now kind line bytes [] h = refl
too_few u now kind line bytes (a ∷ []) h = refl
too_few u now kind line bytes (a ∷ b ∷ more) h = absurd (omega arith)

pub returns-in_ok-list-in_default : goal.returns-in_ok-list-in_default
returns-in_ok-list-in_default c =
    let heard = c.args.heard.now in
    let n = length-map c.parameters.result.now (λ p. p.now) in
    let l = ap length c.parameters.ensures in
    let e = too_few c.args.self.now heard.at c.args.kind heard.line.now heard.bytes.now heard.line.now.parameters (omega (arith, n, l)) in
    ap (λ effects. stays c.args.self.now effects) c.in_ok-list-in_default.ensures ∙ sym e
