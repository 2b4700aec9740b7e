use Rattle.std.proofs.Common.{◌≡◌, ◌<◌, ◌+◌, ◌++◌, ◌∷◌, [], ℕ, suc, List, Option, Some, None, take, length, get_or, refl, sym, ap, ◌∙◌, arith}
use Rattle.std.proofs.Math.Seq.{take-suc}
use Rattle.std.proofs.lemmas.List.{take_all}
use Rattle.std.proofs.lemmas.List.Elements.{filter_map-append}
use Rattle.std.specs.List.{filter_map, cons_option}
use Rattle.std.specs.Option.{option_to_list}
use Rattle.chat_change.specs.declared.change.Change.{Change}
use Rattle.node_config.specs.declared.entries.AccountConfig.{AccountConfig}
use Rattle.node_intake.specs.Floors.{floor_of}
use Rattle.node_intake.proofs.floors.floors_of.Goals as goal

lone : (o : Option Change) → cons_option o [] ≡ option_to_list o
lone None = refl
lone (Some c) = refl

-- the floors of one account more
more : (all : List AccountConfig) (i : ℕ) (a : AccountConfig) → i < length all → a ≡ get_or all i a → filter_map floor_of (take i all) ++ option_to_list (floor_of a) ≡ filter_map floor_of (take (i + 1) all)
more all i a l is =
    let next : suc i ≡ i + 1 = omega arith in
    let longer : take (i + 1) all ≡ take i all ++ a ∷ [] = ap (λ n. take n all) (sym next) ∙ take-suc all i a l ∙ ap (λ x. take i all ++ x ∷ []) (sym is) in
    ap (λ fs. filter_map floor_of (take i all) ++ fs) (sym (lone (floor_of a)))
    ∙ sym (filter_map-append floor_of (take i all) (a ∷ []))
    ∙ ap (filter_map floor_of) (sym longer)

pub loop-account-init : goal.loop-account-init
loop-account-init c = c.new-floors.ensures.items

pub loop-account-preserved : goal.loop-account-preserved
loop-account-preserved c =
    c.push_floor.ensures c.if-not-push_floor.false
    ∙ ap (λ fs. fs ++ option_to_list (floor_of c.account-item.result)) c.loop-account.invariant
    ∙ more c.args.accounts.now c.loop-account.account-index c.account-item.result c.loop-account-test.true c.account-item.is

pub returns : goal.returns
returns c = c.loop-account.invariant ∙ ap (filter_map floor_of) (take_all c.loop-account.account-index c.args.accounts.now (omega (arith, c.loop-account-test.false)))
