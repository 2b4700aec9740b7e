use Rattle.std.proofs.Common.{◌≡◌, ℕ, List, ◌++◌, sym, ap, ◌∙◌, append_assoc}
use Rattle.byte_text.specs.Bytes.{line_ending}
use Rattle.byte_text.proofs.CallerLemmas.{prefix_of_first, prefix_same, writes_second, writes_failed, writes_same}
use Rattle.change_lines.proofs.words.put_line.Goals as goal

regroup : (words sign last : List ℕ) → words ++ (sign ++ (last ++ line_ending)) ≡ (words ++ (sign ++ last)) ++ line_ending
regroup words sign last =
    ap (λ l. words ++ l) (sym (append_assoc sign last line_ending)) ∙ sym (append_assoc words (sign ++ last) line_ending)

pub returns-in_err-put_words : goal.returns-in_err-put_words
returns-in_err-put_words g c =
    writes_failed _ _ _ _ c.from_residual.result c.from_residual.ensures.1
    (prefix_same _ _ _ _ (regroup _ c.args.sign.now c.args.last.now) (prefix_of_first _ _ _ _ c.in_err-put_words.ensures))

pub returns : goal.returns
returns g c =
    writes_same _ _ _ _ c.put_end.result (regroup _ c.args.sign.now c.args.last.now)
    (writes_second _ _ _ _ _ c.put_end.result c.in_ok-put_words.ensures c.put_end.ensures)
