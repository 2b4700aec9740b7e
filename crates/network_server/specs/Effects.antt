-- What is among effects.
use Rattle.std.specs.Prelude.{Bool, true, false, List}
use Rattle.std.specs.List.{list_any}
use Rattle.upstream_session.specs.declared.effect.UpEffect.{UpEffect}
use Rattle.upstream_session.specs.declared.effect.UpEffect.TheVariants.{Close, Relay}

-- the session is over by it
abbrev pub is_close : UpEffect → Bool
is_close Close = true
is_close _ = false

abbrev pub closes : List UpEffect → Bool
closes effects = list_any is_close effects

-- it is a line that is passed on
abbrev pub is_relay : UpEffect → Bool
is_relay (Relay text to) = true
is_relay _ = false

abbrev pub relays : List UpEffect → Bool
relays effects = list_any is_relay effects
