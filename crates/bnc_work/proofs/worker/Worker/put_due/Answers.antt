use Rattle.std.proofs.Common.{rules}
use Rattle.std.proofs.Math.Logic.{∥∥₁_map}
use Rattle.bnc_work.proofs.worker.Worker.put_due.Goals as goal

-- they are those that are due at the moment that was read, by what the node holds
pub put_floors-requires : goal.put_floors-requires
put_floors-requires g c =
    ∥∥₁_map c.args.self.now.it_was_read (λ read. record {
      now = c.args.self.now.moment;
      is_now = read;
      are_due = search rules;
    })
