-- The name of a node is a name of an account or a network too.
use Rattle.std.proofs.Common.{◌≡◌, ℕ, true, List, [], ◌∷◌, refl, arith}
use Rattle.std.specs.List.{list_all}
use Rattle.std.specs.Cmp.Derive.{both_true}
use Rattle.std.proofs.lemmas.Bool.{and_parts}
use Rattle.std.proofs.lemmas.Bool.Decides.{nat_tests}
use Rattle.byte_text.specs.Words.{has_length_to}
use Rattle.chat_change.specs.Words.{is_name, is_name_byte}
use Rattle.chat_change.specs.declared.words.TheConstants.{NAME_LIMIT}
use Rattle.cluster_directory.specs.Names.{is_node_name, is_node_byte}

byte_is_in_a_name : (b : ℕ) → is_node_byte b ≡ true → is_name_byte b ≡ true
byte_is_in_a_name b is = grind (arith, nat_tests)

all_are_in_a_name : (text : List ℕ) → list_all is_node_byte text ≡ true → list_all is_name_byte text ≡ true
all_are_in_a_name [] is = refl
all_are_in_a_name (b ∷ text) is =
    let both = and_parts (is_node_byte b) (list_all is_node_byte text) is in
    both_true (byte_is_in_a_name b both.0) (all_are_in_a_name text both.1)

pub node_name_is_name : (text : List ℕ) → is_node_name text ≡ true → is_name text ≡ true
node_name_is_name text is =
    let both = and_parts (has_length_to NAME_LIMIT text) (list_all is_node_byte text) is in
    both_true both.0 (all_are_in_a_name text both.1)
