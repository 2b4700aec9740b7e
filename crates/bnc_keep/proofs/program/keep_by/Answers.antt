use Rattle.std.proofs.Common.{refl, inr}
use Rattle.bnc_keep.proofs.program.keep_by.Goals as goal

pub returns : goal.returns
returns g c = inr (record {
  read = c.read.result;
  config = c.in_ok-config.config;
  keeping = c.keep-kept.result;
  given = (_, c.read.ensures, refl);
  said = c.in_ok-config.ensures;
  kept = (_, c.keep-kept.ensures, refl);
  told = c.end_of_keeping.ensures;
})
