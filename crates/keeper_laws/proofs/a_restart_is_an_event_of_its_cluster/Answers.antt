use Rattle.std.proofs.Common.{[], subst}
use Rattle.history_file.specs.Changes.{Past}
use Rattle.keeper.specs.Keeper.{AllStemFrom}
use Rattle.keeper.specs.Lives.{all_given}
use Rattle.keeper_laws.proofs.RestartLemmas.{is_reached, is_back, no_news}
use Rattle.keeper_laws.proofs.OtherLemmas.{lives_stay}
use Rattle.keeper_laws.proofs.StemLemmas.{stems_come}
use Rattle.keeper_laws.proofs.a_restart_is_an_event_of_its_cluster.Goals as goal

pub returns : goal.returns
returns c = record {
  reached = is_reached;
  back = is_back;
  made = λ w r name version number lives past is.
      let given = all_given lives in
      let kept = c.nothing_else_is_kept.ensures is.first lives [] is.begins is.are in
      let same = c.files_have_one_past.ensures _ kept.past past kept.has is.stands in
      let stem = subst (λ (p : Past). AllStemFrom given p.changes) same kept.stem in
      no_news w name version number past.changes
      (λ d h. stems_come c.cluster.ensures.made version w.made given (λ e i. c.what_may_come_was_made.ensures w r e (is.came e i)) d (stem d h));
  made_before = no_news;
  until = lives_stay;
}
