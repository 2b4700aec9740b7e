-- Which node it is, and what is known of it where what happens leaves no evidence.
use Rattle.std.specs.Prelude.{ℕ, List}
use Rattle.cluster_directory.specs.Terms.{Terms}
use Rattle.network_log.specs.Accounts.{Accounts}
use Rattle.network_log.specs.Facts.{NodeFacts}
use Rattle.bnc_work.specs.declared.settings.NodeSettings.{NodeSettings}

-- what its configuration says and its start settled, which never changes: the fields of these names of `NodeFacts`
pub record Settings : Type 0 where
  pub accounts : Accounts
  pub cluster : List ℕ
  pub maximum : ℕ
  pub terms : Terms
  pub days : ℕ

abbrev pub settings_of : NodeSettings → Settings
settings_of settings = record {
  accounts = settings.accounts;
  cluster = settings.cluster;
  maximum = settings.maximum;
  terms = settings.terms;
  days = settings.retain_days;
}

-- What is so of a node of these settings over a port that leaves no evidence of what happened: there is no more to it than the words.
-- That bytes came is what a read says, and it alone.
abbrev pub facts_of : Settings → NodeFacts
facts_of settings = record {
  accounts = settings.accounts;
  cluster = settings.cluster;
  maximum = settings.maximum;
  terms = settings.terms;
  days = settings.days;
  came = λ origin serial bytes. Unit {0};
  joined = λ serial place joins. Unit {0};
  put = λ place changes. Unit {0};
  held = λ changes. Unit {0};
  clock = λ moment. Unit {0};
}
