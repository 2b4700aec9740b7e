use Rattle.std.proofs.Common.{◌<◌, List, refl, sym, subst, length, arith}
use Rattle.std.proofs.lemmas.Option.{slice_get_read}
use Rattle.hosted_network.specs.Shares.{IsHearer, IsShare}
use Rattle.hosted_network.specs.declared.shares.Share.{Share}
use Rattle.hosted_network.proofs.shares.Shares.position.Goals as goal

pub returns-then-is_for : goal.returns-then-is_for
returns-then-is_for c =
    let told = c.args.self.now.told.now in
    let shares : List Share = c.args.self.now.shares.items in
    let at = c.loop-at.at in
    let share : Share = c.index.result.now in
    let within : at < length shares = omega arith in
    let hearer : IsHearer share c.args.facts.now c.args.nick.now = c.is_for.ensures c.if-is_for.true in
    record {
      share = share;
      is_there = slice_get_read shares (length shares) at share refl within c.index.ensures;
      is_share = subst (λ (s : Share). IsShare told s c.args.facts.now c.args.nick.now) (sym c.index.ensures)
          (c.args.self.now.are_shares at share within c.args.facts.now c.args.nick.now c.requires
          (subst (λ (s : Share). IsHearer s c.args.facts.now c.args.nick.now) c.index.ensures hearer));
    }
