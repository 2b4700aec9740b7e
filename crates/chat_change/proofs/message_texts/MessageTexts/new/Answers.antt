use Rattle.std.proofs.Common.{◌≡◌, ◌++◌, codes, ap, ◌∙◌}
use Rattle.chat_change.proofs.MessageTextsLemmas.{texts_at, laid_out}
use Rattle.chat_change.proofs.message_texts.MessageTexts.new.Goals as goal

built : (c : goal.In_ok-extend_from_slice-8) → c.extend_from_slice-8.new.self.items ≡ (((((((c.args.tags.now ++ codes ":") ++ c.args.message.source.now) ++ c.spaced_word-word.result.now) ++ c.args.message.target.now) ++ codes " :") ++ c.args.message.body.now) ++ codes "\r\n")
built c =
    c.in_ok-extend_from_slice-8.ensures.items ∙ ap (λ l. l ++ codes "\r\n")
    (c.in_ok-extend_from_slice-7.ensures.items ∙ ap (λ l. l ++ c.args.message.body.now)
    (c.in_ok-extend_from_slice-6.ensures.items ∙ ap (λ l. l ++ codes " :")
    (c.in_ok-extend_from_slice-5.ensures.items ∙ ap (λ l. l ++ c.args.message.target.now)
    (c.in_ok-extend_from_slice-4.ensures.items ∙ ap (λ l. l ++ c.spaced_word-word.result.now)
    (c.in_ok-extend_from_slice-3.ensures.items ∙ ap (λ l. l ++ c.args.message.source.now)
    (c.in_ok-extend_from_slice-2.ensures.items ∙ ap (λ l. l ++ codes ":")
    (c.in_ok-extend_from_slice.ensures.items ∙ ap (λ l. l ++ c.args.tags.now) c.in_ok-bytes.ensures.items)))))))

pub invariant_of-result : goal.invariant_of-result
invariant_of-result c =
    let m = c.args.message in
    laid_out c.args.tags.now m.source.now c.spaced_word-word.result.now m.target.now m.body.now c.extend_from_slice-8.new.self.items (built c) m.kind c.spaced_word-word.ensures

pub returns : goal.returns
returns c =
    let m = c.args.message in
    texts_at c.args.tags.now m.source.now c.spaced_word-word.result.now m.target.now m.body.now c.extend_from_slice-8.new.self.items (built c) m.kind
