-- Names of nodes, and the word that the nodes of a cluster share.
use Rattle.std.specs.Prelude.{ℕ, Bool, not, ◌&&◌, ◌||◌, List, nat_le}
use Rattle.std.specs.Ordering.{eq_by_cmp}
use Rattle.std.specs.List.{list_any, list_all}
use Rattle.byte_text.specs.Order.{text_cmp}
use Rattle.byte_text.specs.Words.{has_length_to, ends_word}
use Rattle.cluster_directory.specs.declared.names.TheConstants.{NODE_NAME_LIMIT}
use Rattle.cluster_directory.specs.declared.shared_word.TheConstants.{SHARED_WORD_LIMIT}

-- `a` to `z` and `0` to `9`
abbrev pub is_node_byte : ℕ → Bool
is_node_byte b = (nat_le 97 b && nat_le b 122) || (nat_le 48 b && nat_le b 57)

abbrev pub is_node_name : List ℕ → Bool
is_node_name text = has_length_to NODE_NAME_LIMIT text && list_all is_node_byte text

abbrev pub same_name : List ℕ → List ℕ → Bool
same_name = eq_by_cmp text_cmp

-- none of NUL, CR, LF and space stands in it
abbrev pub is_shared_word : List ℕ → Bool
is_shared_word text = has_length_to SHARED_WORD_LIMIT text && not (list_any ends_word text)
