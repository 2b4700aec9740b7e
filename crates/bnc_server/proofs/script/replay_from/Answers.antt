use Rattle.std.proofs.Common.{◌≡◌, ◌+◌, rules}
use Rattle.bnc_server.specs.declared.fault.ReplayFault.TheVariants.{Read}
use Rattle.bnc_server.proofs.ProgressLemmas.{err_is, begun, drained_at_first, all_read, between_text, between_ends, read_more, read_failed, fault_ends, fault_text, some_read, faulted, none_read, read_once, read_kept, read_in_all}
use Rattle.bnc_server.proofs.script.replay_from.Goals as goal
use Rattle.bnc_server.proofs.script.replay_from.Goals.{in-Ok+in_ok-serve_piece-in-Ok, in-Err+else-ne}

pub reads-init : goal.reads-init
reads-init g c = record {
  drained = drained_at_first _ c.requires;
  has_read = λ w is. begun _ _ w _ _ is c.requires;
  reads = none_read _;
}

pub reads-preserved : goal.reads-preserved
reads-preserved g c =
    elim c.match-read.branch [
      | in-Ok+in_ok-serve_piece-in-Ok w ↦
          rw (w.writer-is, w.feeder-is, w.world-is) (record {
            drained = w.in_ok-serve_piece-in-Ok.ensures.drained;
            has_read = λ world is.
                read_more _ _ _ _ world c.reads.world c.reads.feeder (c.reads.invariant.has_read world is) _ _ _ _ _ w.in-Ok.ensures.bytes.0
                w.in_ok-serve_piece-in-Ok.ensures.serves w.in_ok-serve_piece-in-Ok.ensures.drained;
            reads = read_once c.reads.counter _ _ _ _ _ c.reads.invariant.reads w.in-Ok.ensures.bytes.0 (search rules);
          })
      | in-Err+else-ne w ↦
          rw (w.writer-is, w.feeder-is, w.world-is) (record {
            drained = c.reads.invariant.drained;
            has_read = λ world is.
                read_failed _ _ _ _ world c.reads.world c.reads.feeder (c.reads.invariant.has_read world is) _ w.in-Err.ensures.bytes;
            reads = read_kept c.reads.counter _ _ _ c.reads.invariant.reads w.in-Err.ensures.bytes;
          })
    ]

pub returns-in_err-serve_piece-in-Ok-clause-script : goal.returns-in_err-serve_piece-in-Ok-clause-script
returns-in_err-serve_piece-in-Ok-clause-script g c w is =
    faulted _ _ _ _ w c.from_residual.result c.from_residual.ensures.1
    (fault_text _ _ _ _ _ _ w c.reads.world _ c.reads.feeder _ (c.reads.invariant.has_read w is) _ c.in-Ok.ensures.bytes.0 _ c.in_err-serve_piece-in-Ok.ensures.serves)

pub returns-in_err-serve_piece-in-Ok-clause-fault : goal.returns-in_err-serve_piece-in-Ok-clause-fault
returns-in_err-serve_piece-in-Ok-clause-fault g c =
    err_is _ _ _ c.from_residual.result c.from_residual.ensures.1
    (λ w is. fault_ends _ _ _ _ _ _ w c.reads.world _ c.reads.feeder _ (c.reads.invariant.has_read w is) _ c.in-Ok.ensures.bytes.0 _ c.in_err-serve_piece-in-Ok.ensures.serves
    (some_read _ _ (search rules) (search rules)))

pub returns-in-Ok-eq0-clause-script : goal.returns-in-Ok-eq0-clause-script
returns-in-Ok-eq0-clause-script g c w is =
    let none : c.in-Ok-eq0.field-0 ≡ 0 = search rules in
    all_read _ _ _ _ w c.reads.world c.reads.feeder (c.reads.invariant.has_read w is) _ c.in-Ok-eq0.field-0 _ none c.in-Ok-eq0.ensures.bytes.0
    (c.in-Ok-eq0.ensures.bytes.1 none (search rules))

pub returns-in-Ok-eq0-clause-end : goal.returns-in-Ok-eq0-clause-end
returns-in-Ok-eq0-clause-end g c =
    let none : c.in-Ok-eq0.field-0 ≡ 0 = search rules in
    c.in-Ok-eq0.ensures.bytes.1 none (search rules)

pub returns-then-ne-clause-script : goal.returns-then-ne-clause-script
returns-then-ne-clause-script g c w is = between_text _ _ _ _ w c.reads.world c.reads.feeder (c.reads.invariant.has_read w is)

pub returns-then-ne-clause-fault : goal.returns-then-ne-clause-fault
returns-then-ne-clause-fault g c w is =
    between_ends _ _ _ _ w c.reads.world c.reads.feeder (read_failed _ _ _ _ w c.reads.world c.reads.feeder (c.reads.invariant.has_read w is) _ c.in-Err.ensures.bytes) Read tt

pub returns-clause-script : goal.returns-clause-script
returns-clause-script g c w is = between_text _ _ _ _ w c.reads.world c.reads.feeder (c.reads.invariant.has_read w is)

pub returns-clause-fault : goal.returns-clause-fault
returns-clause-fault g c w is = between_ends _ _ _ _ w c.reads.world c.reads.feeder (c.reads.invariant.has_read w is) Read tt

pub returns-in_err-serve_piece-in-Ok-clause-reads : goal.returns-in_err-serve_piece-in-Ok-clause-reads
returns-in_err-serve_piece-in-Ok-clause-reads g c =
    read_in_all (c.reads.counter + 1) _ _ (read_once c.reads.counter _ _ _ _ _ c.reads.invariant.reads c.in-Ok.ensures.bytes.0 (search rules)) (search rules)

pub returns-in-Ok-eq0-clause-reads : goal.returns-in-Ok-eq0-clause-reads
returns-in-Ok-eq0-clause-reads g c =
    read_in_all (c.reads.counter + 1) _ _ (read_once c.reads.counter _ _ _ _ _ c.reads.invariant.reads c.in-Ok-eq0.ensures.bytes.0 (search rules)) (search rules)

pub returns-then-ne-clause-reads : goal.returns-then-ne-clause-reads
returns-then-ne-clause-reads g c = read_in_all (c.reads.counter + 1) _ _ (read_kept c.reads.counter _ _ _ c.reads.invariant.reads c.in-Err.ensures.bytes) (search rules)

pub returns-clause-reads : goal.returns-clause-reads
returns-clause-reads g c = read_in_all c.reads.counter _ _ c.reads.invariant.reads (search rules)
