use Rattle.std.proofs.Common.{◌≡◌, List, Result, Ok, Err, ap, subst}
use mathlib.Core.List.{IsPrefix}
use Rattle.chat_query.specs.declared.facts.Answered.{Answered}
use Rattle.shared_node.specs.declared.entry.LogEntry.{LogEntry}
use Rattle.chat_query.specs.declared.past.AskFault.{AskFault}
use Rattle.chat_query.specs.declared.past.AskFault.TheVariants.{NoEntry, NoMemory, Write}
use Rattle.shared_node.specs.Passes.{PassValue, FollowsAll, IsSamePut}
use Rattle.shared_node.proofs.pass.Pass.ask.Goals.{in-Ok, in-Err-NoMemory, in-Err-Write}
use Rattle.shared_node.proofs.pass.Pass.ask.Goals as goal

has_read : (at old : PassValue) (seen : List LogEntry) → at ≡ old → IsPrefix at.list seen → IsPrefix at.told seen → FollowsAll old seen × (at.told ≡ old.told) × IsSamePut old at
has_read at old seen is list told = (
  (subst (λ (p : PassValue). IsPrefix p.list seen) is list, subst (λ (p : PassValue). IsPrefix p.told seen) is told),
  ap (λ p. p.told) is,
  (ap (λ p. p.number) is, ap (λ p. p.count) is),
)

module _ {X : Type 0} (result : Result Answered AskFault) where
  entered : (a : Answered) → result ≡ Ok a → result ≡ Err NoEntry → X
  entered a is refused = cc

  entered_no_memory : result ≡ Err NoMemory → result ≡ Err NoEntry → X
  entered_no_memory is refused = cc

  entered_write : result ≡ Err Write → result ≡ Err NoEntry → X
  entered_write is refused = cc

pub returns-clause-seen : goal.returns-clause-seen
returns-clause-seen g c = λ entry. has_read _ c.args.self.now c.enter.new.seen c.self.view_is c.in-Some.ensures.follows.0 c.in-Some.ensures.follows.1

pub returns-clause-no_entry : goal.returns-clause-no_entry
returns-clause-no_entry g c =
    elim c.match-answered.branch [
      | in-Ok w ↦ entered _ _ w.result-is
      | in-Err-NoMemory w ↦ entered_no_memory _ w.result-is
      | in-Err-Write w ↦ entered_write _ w.result-is
    ]
