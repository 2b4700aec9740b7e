use Rattle.std.proofs.Common.{ℕ, List, Result, sym, ap, ◌∙◌, subst, arith}
use Rattle.std.specs.Prelude.{IfOk, slice_get}
use Rattle.std.specs.Result.{is_ok}
use Rattle.byte_text.specs.declared.no_memory.NoMemory.{NoMemory}
use Rattle.hosted_network.specs.Shares.{IsShareAt}
use Rattle.hosted_network.specs.declared.shares.Share.{Share}
use Rattle.hosted_network.proofs.WrittenLemmas.{last-there, share-serves, shares-more}
use Rattle.hosted_network.proofs.shares.Shares.write.Goals.{in-Ok, in-Err}
use Rattle.hosted_network.proofs.shares.Shares.write.Goals as goal

pub invariant_of-self : goal.invariant_of-self
invariant_of-self c = record {
  are_shares = shares-more c.args.self.now.config.now c.args.self.now.shares.items (is_ok c.push.result) c.args.self.now.are_shares
      (share-serves c.args.self.now.config.now c.requires c.in_ok-share.ensures.hearer c.in_ok-share.ensures.share)
      c.push.ensures.items;
}

pub returns-clause-share : goal.returns-clause-share
returns-clause-share c =
    let told = c.args.self.now.told.now in
    let shares : List Share = c.args.self.now.shares.items in
    let share : Share = c.in_ok-share.share in
    elim c.match-push.branch [
      | in-Ok w ↦
          subst (λ (r : Result ℕ NoMemory). IfOk r (λ at. IsShareAt told c.push.new.self.items c.args.facts.now c.args.nick.now at)) (sym w.result-is)
          (record {
            share = share;
            is_there = ap (λ (l : List Share). slice_get l c.len-at.result) w.in-Ok.ensures.items ∙ last-there shares share c.len-at.result (omega arith);
            is_share = c.in_ok-share.ensures.share;
          })
      | in-Err w ↦
          subst (λ (r : Result ℕ NoMemory). IfOk r (λ at. IsShareAt told c.push.new.self.items c.args.facts.now c.args.nick.now at)) (sym w.result-is) tt
    ]
