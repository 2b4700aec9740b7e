-- Which entries of the lists are the same.
use Rattle.std.specs.Prelude.{ℕ, Bool, true, not, ◌&&◌, List, [], ◌∷◌}
use Rattle.std.specs.List.{list_any, list_all}
use Rattle.std.specs.Str.{bytes_eq}
use Rattle.cluster_directory.specs.Names.{same_name}
use Rattle.node_config.specs.declared.entries.AccountConfig.{AccountConfig}
use Rattle.node_config.specs.declared.entries.NetworkConfig.{NetworkConfig}
use Rattle.node_config.specs.declared.entries.PeerConfig.{PeerConfig}

-- no two elements are the same
abbrev pub all_differ : {X : Type 0} → (X → X → Bool) → List X → Bool
all_differ same [] = true
all_differ same (x ∷ xs) = not (list_any (same x) xs) && all_differ same xs

abbrev pub same_peer : PeerConfig → PeerConfig → Bool
same_peer a b = same_name a.name b.name

-- one of the peers bears the name
abbrev pub has_peer : List PeerConfig → List ℕ → Bool
has_peer peers name = list_any (λ p. same_name p.name name) peers

abbrev pub same_account : AccountConfig → AccountConfig → Bool
same_account a b = bytes_eq a.name b.name

-- one of the accounts bears the name
abbrev pub has_account : List AccountConfig → List ℕ → Bool
has_account accounts name = list_any (λ a. bytes_eq a.name name) accounts

-- one network of one account
abbrev pub same_network : NetworkConfig → NetworkConfig → Bool
same_network a b = bytes_eq a.account b.account && bytes_eq a.name b.name

-- one of the networks is that one of that account
abbrev pub has_network : List NetworkConfig → List ℕ → List ℕ → Bool
has_network networks account name =
    list_any (λ n. bytes_eq n.account account && bytes_eq n.name name) networks

-- the account of each network is there
abbrev pub have_accounts : List AccountConfig → List NetworkConfig → Bool
have_accounts accounts networks = list_all (λ n. has_account accounts n.account) networks
