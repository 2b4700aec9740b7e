-- The accounts of the cluster, with the networks of each, as they stand at one moment.
use Rattle.std.specs.Prelude.{ℕ, Bool, List, [], ◌∷◌, Option, None, Some, if◌then◌else◌}
use Rattle.std.specs.List.{find}
use Rattle.std.specs.Str.{bytes_eq}
use Rattle.cluster_directory.specs.Entry.{Entry}

pub record Network : Type 0 where
  pub name : List ℕ
  pub entry : Entry

pub record Account : Type 0 where
  pub name : List ℕ
  pub secret : List ℕ
  pub networks : List Network

abbrev pub Directory : Type 0
Directory = List Account

abbrev pub network_in : List Network → List ℕ → Option Network
network_in networks name = find (λ n. bytes_eq n.name name) networks

abbrev pub account_in : Directory → List ℕ → Option Account
account_in directory name = find (λ a. bytes_eq a.name name) directory

abbrev pub entry_if : Option Network → Option Entry
entry_if None = None
entry_if (Some network) = Some network.entry

abbrev pub entry_of : Account → List ℕ → Option Entry
entry_of account network = entry_if (network_in account.networks network)

abbrev pub entry_of_account : Option Account → List ℕ → Option Entry
entry_of_account None network = None
entry_of_account (Some account) network = entry_of account network

-- the entry of a network of an account
abbrev pub entry_in : Directory → List ℕ → List ℕ → Option Entry
entry_in directory account network = entry_of_account (account_in directory account) network

abbrev pub entry_if_secret : Option Account → List ℕ → List ℕ → Option Entry
entry_if_secret None network secret = None
entry_if_secret (Some account) network secret =
    if bytes_eq account.secret secret then entry_of account network else None

-- the entry of a network of an account, for whoever knows the account's secret
abbrev pub entry_by_secret : Directory → List ℕ → List ℕ → List ℕ → Option Entry
entry_by_secret directory account network secret =
    entry_if_secret (account_in directory account) network secret

-- ---- changes

-- the list with the first that passes changed
abbrev pub with_first : {X : Type 0} → (X → Bool) → (X → X) → List X → List X
with_first passes change [] = []
with_first passes change (x ∷ xs) =
    if passes x then change x ∷ xs else x ∷ with_first passes change xs

-- the first network of that name has this entry now
abbrev pub networks_with : List Network → List ℕ → Entry → List Network
networks_with networks name entry =
    with_first (λ n. bytes_eq n.name name) (λ n. record n { entry = entry }) networks

abbrev pub account_with : Account → List ℕ → Entry → Account
account_with account network entry =
    record account { networks = networks_with account.networks network entry }

-- so has that network of the first account of that name
abbrev pub directory_with : Directory → List ℕ → List ℕ → Entry → Directory
directory_with directory name network entry =
    with_first (λ a. bytes_eq a.name name) (λ a. account_with a network entry) directory

-- ---- a part

-- the network alone, if it is there
abbrev pub networks_alone : Option Network → List Network
networks_alone None = []
networks_alone (Some network) = network ∷ []

abbrev pub account_alone : Account → List ℕ → Account
account_alone account network =
    record account { networks = networks_alone (network_in account.networks network) }

abbrev pub accounts_alone : Option Account → List ℕ → Directory
accounts_alone None network = []
accounts_alone (Some account) network = account_alone account network ∷ []

-- that account alone, with that network alone
abbrev pub alone : Directory → List ℕ → List ℕ → Directory
alone directory account network = accounts_alone (account_in directory account) network
