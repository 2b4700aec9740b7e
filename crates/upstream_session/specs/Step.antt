-- What a line does, and how a session begins.
use Rattle.std.specs.Prelude.{ℕ, true, false, List, [], ◌∷◌}
use Rattle.irc_caps.specs.CapSet.{no_capabilities}
use Rattle.cluster_directory.specs.declared.config.SessionConfig.{SessionConfig}
use Rattle.upstream_session.specs.declared.connection.ServerSession.{ServerSession}
use Rattle.upstream_session.specs.declared.effect.UpEffect.{UpEffect}
use Rattle.upstream_session.specs.declared.effect.UpEffect.TheVariants.{Close}

-- the session after a line, and what its caller does, in this order
pub record ServerStep : Type 0 where
  pub session : ServerSession
  pub effects : List UpEffect

abbrev pub stays : ServerSession → List UpEffect → ServerStep
stays u effects = record { session = u; effects = effects }

-- the session is over
abbrev pub closes : ServerSession → ServerStep
closes u = record { session = record u { is_closed = true }; effects = Close ∷ [] }

-- The network isn't up yet, its present nick is the configured one, and it is in no channel.
abbrev pub new : SessionConfig → List ℕ → ℕ → ℕ → ServerSession
new config node incarnation first_serial = record {
  home = record {
    account = config.account;
    network = config.network;
    user = config.user;
    channels = config.channels;
    node = node;
    incarnation = incarnation;
  };
  serial = first_serial;
  entry = record { is_up = false; nick = config.nick; channels = []; takes_redact = false };
  offered = no_capabilities;
  held = no_capabilities;
  tries = 0;
  is_closed = false;
}
