use Rattle.std.proofs.Common.{◌∙◌, sym}
use Rattle.std.specs.Str.{bytes_eq}
use Rattle.cluster_directory.specs.Directory.{account_with}
use Rattle.cluster_directory.proofs.FirstLemmas.{first_set, none_changed}
use Rattle.cluster_directory.proofs.directory.Directory.set_entry.Goals as goal

pub returns-in-None : goal.returns-in-None
returns-in-None c =
    sym (none_changed (λ a. bytes_eq a.name c.args.account.now) (λ a. account_with a c.args.network.now c.args.entry) c.args.self.now (sym c.index_of.ensures.place ∙ c.in-None.is))

pub returns-in-Some : goal.returns-in-Some
returns-in-Some c =
    first_set (λ a. bytes_eq a.name c.args.account.now) (λ a. account_with a c.args.network.now c.args.entry) c.args.self.now c.self.inside.accounts.items
    c.in-Some.at c.set_entry.new.self c.index_mut.result.now c.self.view_is (sym c.index_of.ensures.place ∙ c.in-Some.is) c.set_entry.ensures c.index_mut.ensures.value
