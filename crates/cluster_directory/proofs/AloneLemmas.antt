-- One network of one account, without the others, and how it stands once that is changed.
use Rattle.std.proofs.Common.{◌≡◌, ℕ, Bool, true, false, cond, List, [], ◌∷◌, Option, None, Some, refl, sym, ap, ◌∙◌}
use Rattle.std.specs.List.{find}
use Rattle.std.specs.Option.{option_map}
use Rattle.std.specs.Str.{bytes_eq}
use Rattle.cluster_directory.specs.Entry.{Entry}
use Rattle.cluster_directory.specs.Directory.{Network, Account, Directory, network_in, account_in, entry_if, entry_of, entry_of_account, entry_in, entry_if_secret, entry_by_secret, with_first, networks_with, account_with, directory_with, networks_alone, account_alone, accounts_alone, alone}

-- a list of what is there
abbrev listed : {X : Type 0} → Option X → List X
listed None = []
listed (Some x) = x ∷ []

module _ {X : Type 0} (p : X → Bool) (f : X → X) (same : (x : X) → p (f x) ≡ p x) where
  head_changed : (x : X) (xs : List X) (b : Bool) → p x ≡ b → find p (with_first p f xs) ≡ option_map f (find p xs)
      → find p (cond b (f x ∷ xs) (x ∷ with_first p f xs)) ≡ option_map f (cond b (Some x) (find p xs))
  head_changed x xs true e rest = ap (λ b. cond b (Some (f x)) (find p xs)) (same x ∙ e)
  head_changed x xs false e rest = ap (λ b. cond b (Some x) (find p (with_first p f xs))) e ∙ rest

  -- the first that passes is changed where it is found
  pub found_changed : (xs : List X) → find p (with_first p f xs) ≡ option_map f (find p xs)
  found_changed [] = refl
  found_changed (x ∷ xs) = head_changed x xs (p x) refl (found_changed xs)

  head_alone : (x : X) (xs : List X) (b : Bool) → p x ≡ b → find p (listed (option_map f (find p xs))) ≡ option_map f (find p xs)
      → find p (listed (option_map f (cond b (Some x) (find p xs)))) ≡ option_map f (cond b (Some x) (find p xs))
  head_alone x xs true e rest = ap (λ b. cond b (Some (f x)) None) (same x ∙ e)
  head_alone x xs false e rest = rest

  -- and alone it is found again
  pub found_alone : (xs : List X) → find p (listed (option_map f (find p xs))) ≡ option_map f (find p xs)
  found_alone [] = refl
  found_alone (x ∷ xs) = head_alone x xs (p x) refl (found_alone xs)

-- ---- a network

unchanged : {X : Type 0} (o : Option X) → option_map (λ x. x) o ≡ o
unchanged None = refl
unchanged (Some x) = refl

listed-networks : (o : Option Network) → networks_alone o ≡ listed (option_map (λ x. x) o)
listed-networks None = refl
listed-networks (Some x) = refl

network-alone : (networks : List Network) (n : List ℕ) → network_in (networks_alone (network_in networks n)) n ≡ network_in networks n
network-alone networks n =
    ap (λ l. network_in l n) (listed-networks (network_in networks n))
    ∙ found_alone (λ x. bytes_eq x.name n) (λ x. x) (λ x. refl) networks
    ∙ unchanged (network_in networks n)

-- an account with that network alone has the same entry of it
entry-of-alone : (account : Account) (n : List ℕ) → entry_of (account_alone account n) n ≡ entry_of account n
entry-of-alone account n = ap entry_if (network-alone account.networks n)

-- the entry, where there is one, is that one
abbrev pub put_if : Option Entry → Entry → Option Entry
put_if None entry = None
put_if (Some old) entry = Some entry

with-entry : (entry : Entry) (o : Option Network) → entry_if (option_map (λ (n : Network). let m : Network = record n { entry = entry } in m) o) ≡ put_if (entry_if o) entry
with-entry entry None = refl
with-entry entry (Some n) = refl

entry-of-with : (account : Account) (n : List ℕ) (entry : Entry) → entry_of (account_with account n entry) n ≡ put_if (entry_of account n) entry
entry-of-with account n entry =
    ap entry_if (found_changed (λ x. bytes_eq x.name n) (λ x. record x { entry = entry }) (λ x. refl) account.networks)
    ∙ with-entry entry (network_in account.networks n)

-- ---- an account

listed-accounts : (o : Option Account) (n : List ℕ) → accounts_alone o n ≡ listed (option_map (λ a. account_alone a n) o)
listed-accounts None n = refl
listed-accounts (Some a) n = refl

account-alone : (directory : Directory) (a n : List ℕ) → account_in (alone directory a n) a ≡ option_map (λ x. account_alone x n) (account_in directory a)
account-alone directory a n =
    ap (λ l. account_in l a) (listed-accounts (account_in directory a) n)
    ∙ found_alone (λ x. bytes_eq x.name a) (λ x. account_alone x n) (λ x. refl) directory

account-with : (directory : Directory) (a n : List ℕ) (entry : Entry)
    → account_in (directory_with directory a n entry) a ≡ option_map (λ x. account_with x n entry) (account_in directory a)
account-with directory a n entry = found_changed (λ x. bytes_eq x.name a) (λ x. account_with x n entry) (λ x. refl) directory

in-alone : (o : Option Account) (n : List ℕ) → entry_of_account (option_map (λ x. account_alone x n) o) n ≡ entry_of_account o n
in-alone None n = refl
in-alone (Some a) n = entry-of-alone a n

in-with : (o : Option Account) (n : List ℕ) (entry : Entry) → entry_of_account (option_map (λ x. account_with x n entry) o) n ≡ put_if (entry_of_account o n) entry
in-with None n entry = refl
in-with (Some a) n entry = entry-of-with a n entry

secret-alone : (o : Option Account) (n s : List ℕ) → entry_if_secret (option_map (λ x. account_alone x n) o) n s ≡ entry_if_secret o n s
secret-alone None n s = refl
secret-alone (Some a) n s = ap (λ e. cond (bytes_eq a.secret s) e None) (entry-of-alone a n)

put-if-secret : (b : Bool) (o : Option Entry) (entry : Entry) → cond b (put_if o entry) None ≡ put_if (cond b o None) entry
put-if-secret true o entry = refl
put-if-secret false o entry = refl

secret-with : (o : Option Account) (n s : List ℕ) (entry : Entry)
    → entry_if_secret (option_map (λ x. account_with x n entry) o) n s ≡ put_if (entry_if_secret o n s) entry
secret-with None n s entry = refl
secret-with (Some a) n s entry =
    ap (λ e. cond (bytes_eq a.secret s) e None) (entry-of-with a n entry) ∙ put-if-secret (bytes_eq a.secret s) (entry_of a n) entry

-- ---- what callers need

-- an account with one network alone has the same entry of it as among the others
pub alone_entry : (directory : Directory) (a n : List ℕ) → entry_in (alone directory a n) a n ≡ entry_in directory a n
alone_entry directory a n = ap (λ o. entry_of_account o n) (account-alone directory a n) ∙ in-alone (account_in directory a) n

-- so has whoever knows its secret
pub alone_secret : (directory : Directory) (a n s : List ℕ) → entry_by_secret (alone directory a n) a n s ≡ entry_by_secret directory a n s
alone_secret directory a n s = ap (λ o. entry_if_secret o n s) (account-alone directory a n) ∙ secret-alone (account_in directory a) n s

-- an entry that is set is found, where there was one
pub set_entry_in : (directory : Directory) (a n : List ℕ) (entry : Entry)
    → entry_in (directory_with directory a n entry) a n ≡ put_if (entry_in directory a n) entry
set_entry_in directory a n entry = ap (λ o. entry_of_account o n) (account-with directory a n entry) ∙ in-with (account_in directory a) n entry

pub set_entry_by_secret : (directory : Directory) (a n s : List ℕ) (entry : Entry)
    → entry_by_secret (directory_with directory a n entry) a n s ≡ put_if (entry_by_secret directory a n s) entry
set_entry_by_secret directory a n s entry =
    ap (λ o. entry_if_secret o n s) (account-with directory a n entry) ∙ secret-with (account_in directory a) n s entry
