use Rattle.std.proofs.Common.{◌≡◌, length, sym, ap, ◌∙◌, rules}
use Rattle.std.specs.Prelude.{◌≢◌}
use Rattle.std.proofs.Math.Logic.{∥∥₁_map, ∥∥₁_map₂}
use Rattle.network_log.specs.NetworkState.{first_entries}
use Rattle.network_server.specs.Entries.{entries}
use Rattle.hosted_network.proofs.PuttingLemmas.{as_many_put, as_many_put_in_part, as_many_told, as_many_without, flushed, flushed_partly, flushed_wholly, may_be_told, may_be_told_in_part, may_put}
use Rattle.hosted_network.proofs.parts.NetworkParts.put_batch.Goals as goal

pub put-requires : goal.put-requires
put-requires g c = ∥∥₁_map c.requires.reached (may_put c.args.self.now c.changes-changes.ensures)

pub tell_parts-requires : goal.tell_parts-requires
tell_parts-requires g c =
    let same = ap (entries c.parts-parts.result.now) c.changes-changes.ensures ∙ c.parts-parts.ensures.entries in
    may_be_told c.changes-changes.ensures same c.requires.reached c.in_default.ensures.put

pub returns-in_default-clause-leads : goal.returns-in_default-clause-leads
returns-in_default-clause-leads g c =
    let same = ap (entries c.parts-parts.result.now) c.changes-changes.ensures ∙ c.parts-parts.ensures.entries in
    ∥∥₁_map₂ c.in_default.ensures.put c.tell_parts.ensures.told (flushed c.requires.none c.changes-changes.ensures same)

pub tell_parts-requires-2 : goal.tell_parts-requires-2
tell_parts-requires-2 g c =
    let e = c.changes-changes.ensures in
    let same = c.first_parts.ensures c.changes-changes.result.now (c.parts-parts.ensures.agree ∙ ap length (sym e))
    ∙ ap (first_entries c.in-Err.fault.count) (ap (entries c.parts-parts.result.now) e ∙ c.parts-parts.ensures.entries) in
    may_be_told_in_part c.in-Err.fault.count e same c.requires.reached c.in-Err.ensures.part

pub returns-then-fault-changes-clause-leads : goal.returns-then-fault-changes-clause-leads
returns-then-fault-changes-clause-leads g c =
    let e = c.changes-changes.ensures in
    let same = c.first_parts.ensures c.changes-changes.result.now (c.parts-parts.ensures.agree ∙ ap length (sym e))
    ∙ ap (first_entries c.in-Err.fault.count) (ap (entries c.parts-parts.result.now) e ∙ c.parts-parts.ensures.entries) in
    let part : c.in-Err.fault.count ≢ length c.changes-changes.result.now = search rules in
    ∥∥₁_map₂ c.in-Err.ensures.part c.tell_parts-2.ensures.told
    (flushed_partly c.in-Err.fault.count c.requires.none e same part c.server_goes.ensures)

pub returns-else-fault-changes-clause-leads : goal.returns-else-fault-changes-clause-leads
returns-else-fault-changes-clause-leads g c =
    let e = c.changes-changes.ensures in
    let same = c.first_parts.ensures c.changes-changes.result.now (c.parts-parts.ensures.agree ∙ ap length (sym e))
    ∙ ap (first_entries c.in-Err.fault.count) (ap (entries c.parts-parts.result.now) e ∙ c.parts-parts.ensures.entries) in
    let all : c.in-Err.fault.count ≡ length c.changes-changes.result.now = search rules in
    ∥∥₁_map₂ c.in-Err.ensures.part c.tell_parts-2.ensures.told (flushed_wholly c.in-Err.fault.count c.requires.none e same all)

-- as many clients are there as before

pub returns-in_default-clause-count : goal.returns-in_default-clause-count
returns-in_default-clause-count g c =
    as_many_told c.tell_parts.ensures.told ∙ as_many_put c.in_default.ensures.put

pub returns-then-fault-changes-clause-count : goal.returns-then-fault-changes-clause-count
returns-then-fault-changes-clause-count g c =
    as_many_without c.tell_parts-2.new.self c.server_goes.ensures ∙ as_many_told c.tell_parts-2.ensures.told ∙ as_many_put_in_part c.in-Err.ensures.part

pub returns-else-fault-changes-clause-count : goal.returns-else-fault-changes-clause-count
returns-else-fault-changes-clause-count g c =
    as_many_told c.tell_parts-2.ensures.told ∙ as_many_put_in_part c.in-Err.ensures.part
