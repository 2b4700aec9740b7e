use Rattle.std.proofs.Common.{rules, ◌≡◌, true, false, refl, codes, sym, subst, ap, ◌∙◌, [], ◌∷◌, ◌++◌, ◌+◌, take, get_or, arith}
use Rattle.std.proofs.lemmas.List.{take_all}
use Rattle.toml.specs.Data.{table}
use Rattle.toml.specs.View.{view}
use Rattle.node_config.specs.Differing.{all_differ, same_network, has_network, has_account, have_accounts}
use Rattle.node_config.specs.Meaning.{IsNetworkOf}
use Rattle.node_config.specs.Sections.{table_of}
use Rattle.node_config.proofs.DifferingLemmas.{all-push, all_differ-push}
use Rattle.node_config.proofs.EntryLemmas.{AreRead, none_read, more_read, has_entries}
use Rattle.node_config.proofs.networks.read_networks.Goals as goal

pub loop-item-init : goal.loop-item-init
loop-item-init c =
    let none = sym c.new-networks.ensures.items in
    record {
      differ = subst (λ l. all_differ same_network l ≡ true) none refl;
      known = subst (λ l. have_accounts c.args.accounts.now l ≡ true) none refl;
      values = subst (AreRead IsNetworkOf []) none (none_read IsNetworkOf);
    }

pub loop-item-preserved : goal.loop-item-preserved
loop-item-preserved c =
    let before = c.loop-item.networks.items in
    let network = c.in_ok-network.network in
    let vs = c.in_ok-items.items.now in
    let i = c.loop-item.item-index in
    let items : c.push.new.list.items ≡ before ++ network ∷ [] = search rules in
    let accounts = c.args.accounts.now in
    let new = subst (λ l. has_network l network.account network.name ≡ false) c.as_slice.ensures.value c.in_ok-network.ensures.new in
    let place : c.item-item.result ≡ get_or vs i c.item-item.result = c.item-item.is in
    let is : view (get_or vs i c.item-item.result) ≡ table (table_of c.in_ok-entry.entry) = ap view (sym place) ∙ c.in_ok-entry.ensures in
    record {
      differ = subst (λ l. all_differ same_network l ≡ true) (sym items) (all_differ-push same_network before network c.loop-item.invariant.differ new);
      known =
          subst (λ l. have_accounts accounts l ≡ true) (sym items)
          (all-push (λ n. has_account accounts n.account) before network c.loop-item.invariant.known c.in_ok-network.ensures.known);
      values =
          subst (AreRead IsNetworkOf (take (i + 1) vs)) (sym items)
          (more_read IsNetworkOf vs before i c.item-item.result (table_of c.in_ok-entry.entry) network c.loop-item.invariant.values (omega arith) is c.in_ok-network.ensures.values);
    }

pub returns-clause-values : goal.returns-clause-values
returns-clause-values c =
    let vs = c.in_ok-items.items.now in
    let all = subst (λ l. AreRead IsNetworkOf l c.loop-item.networks.items) (take_all c.loop-item.item-index vs (omega arith)) c.loop-item.invariant.values in
    has_entries IsNetworkOf (table_of c.args.top) (codes "network") vs c.loop-item.networks.items c.in_ok-items.ensures all
