-- The names of the capabilities that the cluster offers.
use Rattle.std.specs.Prelude.{ℕ, List, [], ◌∷◌, codes, Option}
use Rattle.std.specs.List.{find}
use Rattle.std.specs.Str.{bytes_eq}
use Rattle.irc_caps.specs.declared.capability.Capability.{Capability}
use Rattle.irc_caps.specs.declared.capability.Capability.TheVariants.{Batch, Chathistory, MessageRedaction, ReadMarker, EchoMessage, MessageTags, ServerTime}

-- all of them, in the byte order of their names
abbrev pub capabilities : List Capability
capabilities =
    Batch ∷ Chathistory ∷ MessageRedaction ∷ ReadMarker
    ∷ EchoMessage ∷ MessageTags ∷ ServerTime ∷ []

abbrev pub name_of : Capability → List ℕ
name_of Batch = codes "batch"
name_of Chathistory = codes "draft/chathistory"
name_of MessageRedaction = codes "draft/message-redaction"
name_of ReadMarker = codes "draft/read-marker"
name_of EchoMessage = codes "echo-message"
name_of MessageTags = codes "message-tags"
name_of ServerTime = codes "server-time"

-- the capability of that name
unfoldable pub capability_of : List ℕ → Option Capability
capability_of name = find (λ c. bytes_eq name (name_of c)) capabilities
