-- What a table says: the value under each key, as it stands there.
use Rattle.std.specs.Prelude.{◌≡◌, ℕ, pos, List, map, Option, Some, None, IsSomeAnd}
use Rattle.std.specs.List.{AllZip}
use Rattle.std.specs.declared.net.socket_addr.SocketAddr.{SocketAddr}
use Rattle.std.specs.Net.Grammar.{IsSocketText}
use Rattle.toml.specs.Data.{Data, string, integer, array, table, Items, no_items, Members, get_member}
use Rattle.toml.specs.View.{items_of}
use Rattle.irc_time.specs.Time.{IsTime}
use Rattle.cluster_directory.specs.declared.version.Version.{Version}
use Rattle.cluster_directory.specs.declared.version.TheConstants.Version.{OWN}
use Rattle.cluster_directory.specs.Version.{number}

-- a key has this text, byte for byte
abbrev pub HasText : Members → List ℕ → List ℕ → Type 0
HasText t key text = get_member key t ≡ Some (string text)

abbrev pub HasNumber : Members → List ℕ → ℕ → Type 0
HasNumber t key n = get_member key t ≡ Some (integer (pos n))

-- a key has a text that spells this address, with nothing before it and nothing behind it
abbrev pub HasAddress : Members → List ℕ → SocketAddr → Type 0
HasAddress t key address = (text : List ℕ) × HasText t key text × IsSocketText text address

-- a key has the list of these texts, in this order
abbrev pub HasTexts : Members → List ℕ → List (List ℕ) → Type 0
HasTexts t key texts = get_member key t ≡ Some (array (items_of (map string texts)))

-- a number is the one that stands there, and a missing one is the default
abbrev pub IsNumberAt : ℕ → Option Data → ℕ → Type 0
IsNumberAt default None n = n ≡ default
IsNumberAt default (Some d) n = d ≡ integer (pos n)

-- a key has a number, or the default where it is missing
abbrev pub HasNumberOr : ℕ → Members → List ℕ → ℕ → Type 0
HasNumberOr default t key n = IsNumberAt default (get_member key t) n

-- a time is the moment that its text spells, and a missing one is none
abbrev pub IsTimeAt : Option Data → Option ℕ → Type 0
IsTimeAt None time = time ≡ None
IsTimeAt (Some d) time = (text : List ℕ) × (d ≡ string text) × IsSomeAnd time (IsTime text)

-- a key has a time, or none where it is missing
abbrev pub HasTime : Members → List ℕ → Option ℕ → Type 0
HasTime t key time = IsTimeAt (get_member key t) time

-- a version is its number, and a missing one is the program's own
abbrev pub IsVersionAt : Option Data → Version → Type 0
IsVersionAt None version = version ≡ OWN
IsVersionAt (Some d) version = d ≡ integer (pos (number version))

abbrev pub HasVersion : Members → List ℕ → Version → Type 0
HasVersion t key version = IsVersionAt (get_member key t) version

-- the items of a list, and a missing list has none
abbrev pub AreItemsAt : Option Data → Items → Type 0
AreItemsAt None items = items ≡ no_items
AreItemsAt (Some d) items = d ≡ array items

abbrev pub HasItems : Members → List ℕ → Items → Type 0
HasItems t key items = AreItemsAt (get_member key t) items

-- a key has a list of tables, and each of the values is what one of them says: the first of the first, and so on to the
-- last of the last. A missing list has no values.
abbrev pub HasEntries : {X : Type 0} → (Members → X → Type 0) → Members → List ℕ → List X → Type 0
HasEntries {X} Says t key values =
    (tables : List Members) × HasItems t key (items_of (map table tables)) × AllZip Says tables values
