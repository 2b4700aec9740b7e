use Rattle.std.proofs.Common.{rules, ◌≡◌, true, false, refl, codes, sym, subst, ap, ◌∙◌, [], ◌∷◌, ◌++◌, ◌+◌, take, get_or, arith}
use Rattle.std.proofs.lemmas.List.{take_all}
use Rattle.toml.specs.Data.{table}
use Rattle.toml.specs.View.{view}
use Rattle.node_config.specs.Differing.{all_differ, same_account, has_account}
use Rattle.node_config.specs.Meaning.{IsAccountOf}
use Rattle.node_config.specs.Sections.{table_of}
use Rattle.node_config.proofs.DifferingLemmas.{all_differ-push}
use Rattle.node_config.proofs.EntryLemmas.{AreRead, none_read, more_read, has_entries}
use Rattle.node_config.proofs.networks.read_accounts.Goals as goal

pub loop-item-init : goal.loop-item-init
loop-item-init c =
    let none = sym c.new-accounts.ensures.items in
    record {
      differ = subst (λ l. all_differ same_account l ≡ true) none refl;
      values = subst (AreRead IsAccountOf []) none (none_read IsAccountOf);
    }

pub loop-item-preserved : goal.loop-item-preserved
loop-item-preserved c =
    let before = c.loop-item.accounts.items in
    let account = c.in_ok-account.account in
    let vs = c.in_ok-items.items.now in
    let i = c.loop-item.item-index in
    let items : c.push.new.list.items ≡ before ++ account ∷ [] = search rules in
    let new = subst (λ l. has_account l account.name ≡ false) c.as_slice.ensures.value c.in_ok-account.ensures.new in
    let place : c.item-item.result ≡ get_or vs i c.item-item.result = c.item-item.is in
    let is : view (get_or vs i c.item-item.result) ≡ table (table_of c.in_ok-entry.entry) = ap view (sym place) ∙ c.in_ok-entry.ensures in
    record {
      differ = subst (λ l. all_differ same_account l ≡ true) (sym items) (all_differ-push same_account before account c.loop-item.invariant.differ new);
      values =
          subst (AreRead IsAccountOf (take (i + 1) vs)) (sym items)
          (more_read IsAccountOf vs before i c.item-item.result (table_of c.in_ok-entry.entry) account c.loop-item.invariant.values (omega arith) is c.in_ok-account.ensures.values);
    }

pub returns-clause-values : goal.returns-clause-values
returns-clause-values c =
    let vs = c.in_ok-items.items.now in
    let all = subst (λ l. AreRead IsAccountOf l c.loop-item.accounts.items) (take_all c.loop-item.item-index vs (omega arith)) c.loop-item.invariant.values in
    has_entries IsAccountOf (table_of c.args.top) (codes "account") vs c.loop-item.accounts.items c.in_ok-items.ensures all
