use Rattle.std.proofs.Common.{refl, inr}
use Rattle.bnc.proofs.serving.serve_file.Goals as goal

pub returns : goal.returns
returns g c = inr (record {
  read = c.read.result;
  config = c.in_ok-config.config;
  run = c.serve.result;
  given = (_, c.read.ensures, refl);
  said = c.in_ok-config.ensures;
  ran = (_, c.serve.ensures, refl);
  told = c.end_of_run.ensures;
})
