use Rattle.std.proofs.Common.{refl, ◌∙◌}
use Rattle.std.proofs.lemmas.Result.{err_from_is_err_and}
use Rattle.std.specs.Io.Buffered.{writer_inner}
use Rattle.bnc.specs.Words.{names_of}
use Rattle.bnc.proofs.ReplayLemmas.{replays_refused, replays_lawful}
use Rattle.bnc.proofs.replaying.replay_script.Goals as goal

pub returns-in_err-check_names-clause-replays : goal.returns-in_err-check_names-clause-replays
returns-in_err-check_names-clause-replays g c =
    let p = err_from_is_err_and c.from_residual.result c.from_residual.ensures.1 in
    let unread = g.In.Read.remaining c.args.reader.now in
    let held = g.Out.Write.contents (writer_inner c.args.writer.now) in
    rw p.1 (replays_refused unread unread held held _ _ (names_of c.args.names) c.requires.empty refl refl _ (p.2 ∙ c.in_err-check_names.ensures.refused))

pub returns-clause-replays : goal.returns-clause-replays
returns-clause-replays g c = replays_lawful _ _ _ _ _ _ _ c.in_ok-check_names.ensures.lawful c.answer.ensures
