-- Names of clusters.
use Rattle.std.specs.Prelude.{ℕ, Bool, ◌&&◌, ◌||◌, ◌==◌, List, nat_le}
use Rattle.std.specs.List.{list_all}
use Rattle.byte_text.specs.Words.{has_length_to}
use Rattle.node_config.specs.declared.names.TheConstants.{CLUSTER_NAME_LIMIT}

-- a letter, a digit, `.` or `-`
abbrev pub is_cluster_byte : ℕ → Bool
is_cluster_byte b =
    (nat_le 97 b && nat_le b 122) || (nat_le 65 b && nat_le b 90) || (nat_le 48 b && nat_le b 57)
    || (b == 46) || (b == 45)

abbrev pub is_cluster_name : List ℕ → Bool
is_cluster_name text = has_length_to CLUSTER_NAME_LIMIT text && list_all is_cluster_byte text
