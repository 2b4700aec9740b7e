use Rattle.std.proofs.Common.{rules, tests, ◌≡◌, None, refl}
use Rattle.std.specs.BTreeMap as tree
use Rattle.std.specs.Map.Iter.{deref}
use Rattle.std.specs.Ordering.{eq_by_cmp}
use Rattle.std.proofs.lemmas.Iterator.Search.{find_from_yields_List}
use Rattle.std.proofs.lemmas.Iterator.Consumers.{YieldsList-from_rest}
use Rattle.chat_change.specs.Buffer.{buffer_of}
use Rattle.chat_change.specs.Key.{MessageOf}
use Rattle.chat_change.specs.Order.{buffer_cmp}
use Rattle.chat_change.proofs.CallerLemmas.{buffer_total, buffer_exact}
use Rattle.chat_buffers.proofs.FindingLemmas.{is_sought, is_absent}
use Rattle.chat_buffers.proofs.LookupLemmas.{change_here}
use Rattle.chat_buffers.proofs.buffers.Buffers.find_buffer.Goals as goal

pub returns-clause-found : goal.returns-clause-found
returns-clause-found c =
    let names = buffer_of c.args.account.now c.args.network.now c.args.target.now in
    is_sought buffer_total buffer_exact c.find.result names c.keys.result
    (find_from_yields_List (eq_by_cmp buffer_cmp names) _ _ c.find.result c.find.ensures.ran (YieldsList-from_rest {shows = deref} c.keys.result refl) (λ x b q k. search (rules, tests)))

pub returns-clause-none : goal.returns-clause-none
returns-clause-none c none m =
    let names = buffer_of c.args.account.now c.args.network.now c.args.target.now in
    let gone : tree.get buffer_cmp c.self.inside.held names ≡ None =
    is_absent buffer_total buffer_exact c.find.result names c.keys.result (tree.get buffer_cmp c.self.inside.held names)
    (find_from_yields_List (eq_by_cmp buffer_cmp names) _ _ c.find.result c.find.ensures.ran (YieldsList-from_rest {shows = deref} c.keys.result refl) (λ x b q k. search (rules, tests)))
    (c.keys.ensures.has names) none in
    change_here c.self.inside.accounts c.self.inside.held c.args.self.now c.self.view_is names (MessageOf names m) None refl gone
