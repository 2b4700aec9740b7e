-- Which settings are those of a node.
use Rattle.std.specs.Prelude.{◌≡◌}
use Rattle.network_log.specs.Facts.{NodeFacts}
use Rattle.bnc_work.specs.declared.settings.NodeSettings.{NodeSettings}

-- they say what is so of the node
pub record AreSettingsOf (facts : NodeFacts) (settings : NodeSettings) : Type 0 where
  pub are_accounts : settings.accounts ≡ facts.accounts
  pub is_cluster : settings.cluster ≡ facts.cluster
  pub is_maximum : settings.maximum ≡ facts.maximum
  pub are_terms : settings.terms ≡ facts.terms
  pub are_days : settings.retain_days ≡ facts.days
