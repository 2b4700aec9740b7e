use Rattle.std.proofs.Common.{◌≡◌, ◌∙◌, List, Some, position, refl, ap, sym}
use Rattle.std.specs.Str.{bytes_eq}
use Rattle.cluster_directory.specs.Directory.{Account, Network, account_with}
use Rattle.cluster_directory.proofs.FirstLemmas.{first_set, none_changed}
use Rattle.cluster_directory.proofs.account.ConfiguredAccount.set_entry.Goals as goal

pub returns-in-None : goal.returns-in-None
returns-in-None c =
    let self = c.args.self.now in
    let with : List Network → Account = λ l. record self { networks = l } in
    sym (ap with (none_changed (λ n. bytes_eq n.name c.args.network.now) (λ n. record n { entry = c.args.entry }) self.networks (sym c.index_of.ensures.place ∙ c.in-None.is)))

pub returns-in-Some : goal.returns-in-Some
returns-in-Some c =
    let inside = c.self.inside in
    let with : List Network → Account = λ l. record { name = inside.name; secret = inside.secret; networks = l } in
    let at : position (λ n. bytes_eq n.name c.args.network.now) inside.networks.items ≡ Some c.in-Some.at =
    ap (λ (a : Account). position (λ n. bytes_eq n.name c.args.network.now) a.networks) c.self.view_is ∙ sym c.index_of.ensures.place ∙ c.in-Some.is in
    ap with (first_set (λ n. bytes_eq n.name c.args.network.now) (λ n. record n { entry = c.args.entry }) inside.networks.items inside.networks.items
    c.in-Some.at c.set_entry.new.self c.index_mut.result.now refl at c.set_entry.ensures c.index_mut.ensures.value)
    ∙ ap (λ a. account_with a c.args.network.now c.args.entry) c.self.view_is
