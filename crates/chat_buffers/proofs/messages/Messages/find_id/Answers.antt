use Rattle.std.proofs.Common.{rules, tests, ◌∙◌, sym, ap}
use Rattle.std.specs.Map.Iter.{deref_pair}
use Rattle.std.specs.Option.{option_map}
use Rattle.std.proofs.lemmas.Iterator.Search.{find_from_yields_List}
use Rattle.std.proofs.lemmas.Iterator.Consumers.{YieldsList-from_rest}
use Rattle.chat_change.proofs.CallerLemmas.{id_total, id_exact}
use Rattle.chat_buffers.proofs.FindingLemmas.{at_key, is_at_sought, none_at}
use Rattle.chat_buffers.proofs.StepLemmas.{found}
use Rattle.chat_buffers.proofs.messages.Messages.find_id.Goals as goal

pub returns-in_err-key-clause-none : goal.returns-in_err-key-clause-none
returns-in_err-key-clause-none c _ =
    let bytes = c.args.bytes.now in
    let ids = c.self.inside.by_id in
    let first =
    find_from_yields_List (at_key id_total id_exact bytes) _ _ c.find.result c.find.ensures.ran
    (YieldsList-from_rest {shows = deref_pair} _ (c.entries-entries.ensures)) (λ x b q k. search (rules, tests)) in
    sym (found ids c.args.self.now bytes c.self.view_is) ∙ none_at id_total id_exact bytes ids (sym (ap (option_map deref_pair) c.in_err-key.was) ∙ first)

pub returns-clause-found : goal.returns-clause-found
returns-clause-found c =
    let bytes = c.args.bytes.now in
    let ids = c.self.inside.by_id in
    let first =
    find_from_yields_List (at_key id_total id_exact bytes) _ _ c.find.result c.find.ensures.ran
    (YieldsList-from_rest {shows = deref_pair} _ (c.entries-entries.ensures)) (λ x b q k. search (rules, tests)) in
    c.id.ensures ∙ is_at_sought id_total id_exact bytes (deref_pair (c.in_ok-key.key, c.in_ok-key.field-0-1)) ids (sym (ap (option_map deref_pair) c.in_ok-key.was) ∙ first)
