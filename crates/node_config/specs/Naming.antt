-- The name of an entry, as the text of a configuration has it, and which names are shown.
use Rattle.std.specs.Prelude.{ℕ, zero, suc, codes, Bool, ◌&&◌, nat_le, List, Option, None, if◌then◌else◌, option_and_then}
use Rattle.std.specs.List.{list_all}
use Rattle.std.specs.Str.{is_utf8}
use Rattle.byte_text.specs.Words.{has_length_to}
use Rattle.toml.specs.Data.{Data, Members, get_member, get, at, as_str}
use Rattle.toml.specs.Parse.{parse_document}
use Rattle.node_config.specs.Sections.{key_of}
use Rattle.node_config.specs.declared.fault.ListName.{ListName}
use Rattle.node_config.specs.declared.fault.ConfigPlace.{ConfigPlace}
use Rattle.node_config.specs.declared.fault.ConfigPlace.TheVariants.{Entry}
use Rattle.node_config.specs.declared.fault.ConfigFault.{ConfigFault}
use Rattle.node_config.specs.declared.fault.ConfigFault.TheVariants.{BadKey, BadValue}
use Rattle.node_config.specs.declared.naming.TheConstants.{SHOWN_NAME_LIMIT}

-- what the bytes spell, where they are UTF-8 and TOML
abbrev pub document_of : List ℕ → Option Members
document_of bytes = if is_utf8 bytes then parse_document bytes else None

-- the item of a list at an index
abbrev pub item_in : ListName → ℕ → Members → Option Data
item_in list i document = option_and_then (at i) (get_member (key_of list) document)

-- the text at the key `name` of a table
abbrev pub name_of : Data → Option (List ℕ)
name_of item = option_and_then as_str (get (codes "name") item)

-- the name of an entry of a list, whose entries are counted from 1
abbrev pub name_in : ListName → ℕ → Members → Option (List ℕ)
name_in list zero document = None
name_in list (suc i) document = option_and_then name_of (item_in list i document)

-- the same of the document that the bytes spell
abbrev pub entry_name : List ℕ → ListName → ℕ → Option (List ℕ)
entry_name bytes list entry = option_and_then (name_in list entry) (document_of bytes)

-- the name of the entry that a place is, and of the one that a fault is in
abbrev pub place_name : List ℕ → ConfigPlace → Option (List ℕ)
place_name bytes (Entry list entry) = entry_name bytes list entry
place_name bytes _ = None

unfoldable pub fault_name : List ℕ → ConfigFault → Option (List ℕ)
fault_name bytes (BadKey wrong) = place_name bytes wrong.place
fault_name bytes (BadValue wrong) = place_name bytes wrong.place
fault_name bytes _ = None

-- a space, or another printable character of ASCII
abbrev pub is_printable : ℕ → Bool
is_printable b = nat_le 32 b && nat_le b 126

-- a name is shown where it is short and printable
abbrev pub is_shown : List ℕ → Bool
is_shown name = has_length_to SHOWN_NAME_LIMIT name && list_all is_printable name
