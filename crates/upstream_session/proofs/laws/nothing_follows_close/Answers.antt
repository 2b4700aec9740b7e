use Rattle.upstream_session.proofs.EventLemmas.{close_is_last, closes, only_close_closes, closed_run, closed_effects, closed_start}
use Rattle.upstream_session.proofs.laws.nothing_follows_close.Goals as goal

pub returns : goal.returns
returns c = record { last = close_is_last; closed = closes; only = only_close_closes; stays = closed_run; silent = closed_effects; start = closed_start }
