use Rattle.std.proofs.Common.{◌≡◌, ◌<◌, ℕ, List, [], ◌∷◌, length, Option, refl, ap, arith}
use Rattle.std.proofs.lemmas.List.{length-map}
use Rattle.chat_change.specs.declared.message.Kind.{Kind}
use Rattle.upstream_session.specs.declared.connection.ServerSession.{ServerSession}
use Rattle.upstream_session.specs.Step.{stays}
use Rattle.upstream_session.specs.Sayings.{sent_tags, send_tagged, say_words}
use Rattle.upstream_session.proofs.connection.ServerSession.say_words.Goals as goal

too_few : (u : ServerSession) (now : ℕ) (text : List ℕ) (tags : Option (List ℕ)) (kind : Kind) (ps : List (List ℕ)) → length ps < 2
    → say_words u now text tags kind ps ≡ stays u (send_tagged tags text)
too_few u now text tags kind [] h = refl
too_few u now text tags kind (a ∷ []) h = refl
too_few u now text tags kind (a ∷ b ∷ more) h = absurd (omega arith)

pub returns-in_default : goal.returns-in_default
returns-in_default c =
    let u = c.args.self.now in
    let heard = c.args.heard.now in
    let n = length-map c.parameters.result.now (λ p. p.now) in
    let l = ap length c.parameters.ensures in
    let e = too_few u heard.at heard.bytes.now (sent_tags u heard.line.now.tags) c.args.kind heard.line.now.parameters (omega (arith, n, l)) in
    simp e c.send_only_tagged.ensures
