use Rattle.client_session.proofs.EventLemmas.{ends, closes, told, closed_run, closed_effects}
use Rattle.client_session.proofs.laws.nothing_follows_close.Goals as goal

pub returns : goal.returns
returns c = record { last = ends; closed = closes; only = told; stays = closed_run; silent = closed_effects }
