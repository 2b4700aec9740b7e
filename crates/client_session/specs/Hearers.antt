-- Which sessions of clients hear of what comes from a server.
use Rattle.std.specs.Prelude.{ℕ, Bool, true, not, ◌&&◌, ◌||◌, List}
use Rattle.std.specs.Str.{bytes_eq}
use Rattle.irc_caps.specs.CapSet.{holds}
use Rattle.chat_change.specs.Record.{Record}
use Rattle.chat_query.specs.declared.facts.Facts.{Facts}
use Rattle.irc_caps.specs.declared.recipients.Recipients.{Recipients}
use Rattle.irc_caps.specs.declared.recipients.Recipients.TheVariants.{All, Holding}

-- a session of that account on that network
abbrev pub is_of : List ℕ → List ℕ → Facts → Bool
is_of account network f = bytes_eq f.account account && bytes_eq f.network network

-- A session without `echo-message` doesn't hear its own messages, which are those from the present nick.
abbrev pub hears_message : Bool → Record → Facts → Bool
hears_message is_own r f =
    is_of r.buffer.account r.buffer.network f && (f.caps.echo_message || not is_own)

abbrev pub is_recipient : Recipients → Facts → Bool
is_recipient All f = true
is_recipient (Holding capability) f = holds f.caps capability

abbrev pub hears_line : List ℕ → List ℕ → Recipients → Facts → Bool
hears_line account network to f = is_of account network f && is_recipient to f
