-- Sets of the capabilities that the cluster offers (IRCv3 capability negotiation).
use Rattle.std.specs.Prelude.{ℕ, Bool, true, false, List, map, filter}
use Rattle.irc_caps.specs.declared.CapSet.{CapSet}
use Rattle.irc_caps.specs.declared.capability.Capability.{Capability}
use Rattle.irc_caps.specs.declared.capability.Capability.TheVariants.{Batch, Chathistory, MessageRedaction, ReadMarker, EchoMessage, MessageTags, ServerTime}
use Rattle.irc_caps.specs.Capability.{capabilities, name_of}

abbrev pub no_capabilities : CapSet
no_capabilities = record {
  batch = false;
  chathistory = false;
  message_redaction = false;
  read_marker = false;
  echo_message = false;
  message_tags = false;
  server_time = false;
}

abbrev pub all_capabilities : CapSet
all_capabilities = record {
  batch = true;
  chathistory = true;
  message_redaction = true;
  read_marker = true;
  echo_message = true;
  message_tags = true;
  server_time = true;
}

abbrev pub holds : CapSet → Capability → Bool
holds caps Batch = caps.batch
holds caps Chathistory = caps.chathistory
holds caps MessageRedaction = caps.message_redaction
holds caps ReadMarker = caps.read_marker
holds caps EchoMessage = caps.echo_message
holds caps MessageTags = caps.message_tags
holds caps ServerTime = caps.server_time

-- the set in which that capability is held, or isn't
abbrev pub with_held : CapSet → Capability → Bool → CapSet
with_held caps Batch is_held = record caps { batch = is_held }
with_held caps Chathistory is_held = record caps { chathistory = is_held }
with_held caps MessageRedaction is_held = record caps { message_redaction = is_held }
with_held caps ReadMarker is_held = record caps { read_marker = is_held }
with_held caps EchoMessage is_held = record caps { echo_message = is_held }
with_held caps MessageTags is_held = record caps { message_tags = is_held }
with_held caps ServerTime is_held = record caps { server_time = is_held }

-- the names of those capabilities that are held, in the order of the list
abbrev pub names_among : CapSet → List Capability → List (List ℕ)
names_among caps list = map name_of (filter (λ c. holds caps c) list)

-- the names of all that are held, in byte order
abbrev pub names : CapSet → List (List ℕ)
names caps = names_among caps capabilities
