use Rattle.std.proofs.Common.{◌≡◌, ℕ, ◌&&◌, true, is_some, length, map, nat_le, sym, ap, ◌∙◌, Bor, List, rules, tests}
use Rattle.std.specs.List.{list_all}
use Rattle.std.proofs.lemmas.List.Folds.{list_all-map}
use Rattle.irc_caps.specs.Words.{list_limit, wish_of}
use Rattle.irc_caps.proofs.negotiation.is_acknowledged.Goals as goal

pub returns-then-list-le-LIST_LIMIT : goal.returns-then-list-le-LIST_LIMIT
returns-then-list-le-LIST_LIMIT c =
    let whole = list_all-map (λ (w : List ℕ). is_some (wish_of w)) (λ (w : Bor (List ℕ)). w.now) c.args.words.now in
    let fits : nat_le (length c.args.list.now) list_limit ≡ true = search (rules, tests) in
    c.are_wishes.ensures ∙ sym whole ∙ ap (λ b. b && list_all (λ w. is_some (wish_of w)) (map (λ w. w.now) c.args.words.now)) (sym fits)
    ∙ ap (λ (l : List ℕ). nat_le (length l) list_limit && list_all (λ w. is_some (wish_of w)) (map (λ w. w.now) c.args.words.now)) c.requires
