use Rattle.std.proofs.Common.{ℕ, List, ◌++◌, ◌-◌, length, take, drop, refl, ap, ◌∙◌}
use Rattle.std.proofs.lemmas.List.{take_rest}
use Rattle.node_ports.proofs.UnreadLemmas.{fed_on}
use Rattle.node_ports.proofs.input.feed.Goals as goal

pub returns : goal.returns
returns c =
    let bytes = c.args.bytes.now in
    let n = c.feed-count.result in
    let left = c.in_ok-push.ensures.pushed ∙ ap (λ (l : List ℕ). l ++ take (length bytes - n) (drop n bytes)) c.requires ∙ take_rest bytes n in
    fed_on _ _ bytes _ bytes n refl c.feed-count.ensures.taken left
