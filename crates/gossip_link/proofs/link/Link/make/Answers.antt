use Rattle.std.proofs.Common.{◌<◌, ◌^◌, ◌++◌, sym, ◌∙◌, subst}
use Rattle.cluster_directory.specs.Life.{Life}
use Rattle.gossip_link.proofs.PacketLemmas.{made_stands}
use Rattle.gossip_link.proofs.link.Link.make.Goals as goal

pub returns-clause-writable : goal.returns-clause-writable
returns-clause-writable g c = λ heard start list holds.
    let given = c.in-Ok.ensures.given start list holds in
    let fits : c.in-Some.heard.incarnation < 2 ^ 64 = subst (λ (l : Life). l.incarnation < 2 ^ 64) c.new.ensures.life c.new.ensures.fits in (
      given.0,
      given.1,
      (
        given.2.0,
        λ all. made_stands c.new-packet.result c.in-Ok.delta c.in-Ok-Ok.sender c.in-Ok-Ok.node c.in-Some.heard.incarnation start _ (list ++ given.0)
            (c.new-packet.ensures ∙ (λ i. record {
              sender = c.in-Ok-Ok.sender;
              receiver = c.new.ensures.life i;
              from = c.from-from.ensures i;
              to = c.to-to.ensures i;
              changes = c.into_changes.ensures i;
            }))
            given.2.1 (sym c.is_empty.ensures ∙ c.if-is_empty.false) (subst (λ n. n < 2 ^ 64) c.to-to.ensures c.to-to.type_inv) c.in-Ok-Ok.ensures.lawful c.in-Ok-Ok.ensures'.lawful fits all,
      ),
    )
