use Rattle.std.proofs.Common.{rules, ◌≡◌, true, false, refl, codes, sym, subst, ap, ◌∙◌, [], ◌∷◌, ◌++◌, ◌+◌, take, get_or, arith}
use Rattle.std.proofs.lemmas.List.{take_all}
use Rattle.toml.specs.Data.{table}
use Rattle.toml.specs.View.{view}
use Rattle.cluster_directory.specs.Names.{same_name}
use Rattle.node_config.specs.Differing.{all_differ, same_peer, has_peer}
use Rattle.node_config.specs.Meaning.{IsPeerOf}
use Rattle.node_config.specs.Sections.{table_of}
use Rattle.node_config.proofs.DifferingLemmas.{none-push, all_differ-push}
use Rattle.node_config.proofs.EntryLemmas.{AreRead, none_read, more_read, has_entries}
use Rattle.node_config.proofs.peers.read_peers.Goals as goal

pub loop-item-init : goal.loop-item-init
loop-item-init c =
    let none = sym c.new-peers.ensures.items in
    record {
      differ = subst (λ l. all_differ same_peer l ≡ true) none refl;
      others = subst (λ l. has_peer l c.args.node.now ≡ false) none refl;
      values = subst (AreRead IsPeerOf []) none (none_read IsPeerOf);
    }

pub loop-item-preserved : goal.loop-item-preserved
loop-item-preserved c =
    let before = c.loop-item.peers.items in
    let peer = c.in_ok-peer.peer in
    let vs = c.in_ok-items.items.now in
    let i = c.loop-item.item-index in
    let items : c.push.new.list.items ≡ before ++ peer ∷ [] = search rules in
    let node = c.args.node.now in
    let new = subst (λ l. has_peer l peer.name ≡ false) c.as_slice.ensures.value c.in_ok-peer.ensures.new in
    let place : c.item-item.result ≡ get_or vs i c.item-item.result = c.item-item.is in
    let is : view (get_or vs i c.item-item.result) ≡ table (table_of c.in_ok-entry.entry) = ap view (sym place) ∙ c.in_ok-entry.ensures in
    record {
      differ = subst (λ l. all_differ same_peer l ≡ true) (sym items) (all_differ-push same_peer before peer c.loop-item.invariant.differ new);
      others =
          subst (λ l. has_peer l node ≡ false) (sym items)
          (none-push (λ p. same_name p.name node) before peer c.loop-item.invariant.others c.in_ok-peer.ensures.other);
      values =
          subst (AreRead IsPeerOf (take (i + 1) vs)) (sym items)
          (more_read IsPeerOf vs before i c.item-item.result (table_of c.in_ok-entry.entry) peer c.loop-item.invariant.values (omega arith) is c.in_ok-peer.ensures.values);
    }

pub returns-clause-values : goal.returns-clause-values
returns-clause-values c =
    let vs = c.in_ok-items.items.now in
    let all = subst (λ l. AreRead IsPeerOf l c.loop-item.peers.items) (take_all c.loop-item.item-index vs (omega arith)) c.loop-item.invariant.values in
    has_entries IsPeerOf (table_of c.args.top) (codes "peer") vs c.loop-item.peers.items c.in_ok-items.ensures all
