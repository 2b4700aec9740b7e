-- The place of a network among those of a node.
use Rattle.std.proofs.Common.{Bor, IfSome, ◌≡◌, ◌<◌, ◌≤◌, ℕ, Bool, true, false, nat_lt, List, [], Option, Some, None, length, position, get_or, refl, sym, ap, ◌∙◌, arith, inl, inr}
use Rattle.std.specs.Prelude.{is_some, slice_get}
use Rattle.std.specs.Option.{option_copied}
use Rattle.std.specs.List.{position_or_len}
use Rattle.std.specs.Str.{bytes_eq}
use Rattle.std.proofs.lemmas.Bool.{and_parts, cases_Bool, cond-true, ltb-false, true≢false}
use Rattle.std.proofs.lemmas.List.Quantifiers.{position-Some}
use Rattle.std.proofs.lemmas.List.Sums.{fails_before_first}
use Rattle.std.proofs.lemmas.Option.{get_or_from_slice_get, none-some, slice_get-get_or, slice_get_within}
use Rattle.std.proofs.lemmas.Slice.Eq.{bytes_eq-Decides}
use Rattle.cluster_directory.specs.Directory.{Directory, entry_by_secret}
use Rattle.cluster_directory.specs.Entry.{Entry}
use Rattle.cluster_directory.specs.declared.config.SessionConfig.{SessionConfig}
use Rattle.network_log.specs.Accounts.{Accounts, IsLogin}
use Rattle.node_ports.specs.Places.{is_of, place_of}

no_config : SessionConfig
no_config = record { account = []; network = []; nick = []; user = []; channels = [] }

none-passes : (p : SessionConfig → Bool) (configs : List SessionConfig) (place : ℕ) (config : SessionConfig)
    → position p configs ≡ None → slice_get configs place ≡ Some config → p config ≡ false
none-passes p configs place config none there =
    let within : place < length configs = slice_get_within configs place config there in
    elim (cases_Bool (nat_lt (position_or_len p configs) (length configs))) [
      | inl before ↦ (let found : position p configs ≡ Some (position_or_len p configs) = cond-true _ _ _ before in absurd (none-some _ (sym none ∙ found)))
      | inr behind ↦ (let past : length configs ≤ position_or_len p configs = ltb-false _ _ behind in
          ap p (sym (get_or_from_slice_get configs place config config there)) ∙ fails_before_first p configs place config (omega (arith, within, past)))
    ]

copied-some : (entry : Option (Bor Entry)) → is_some (option_copied entry) ≡ is_some entry
copied-some None = refl
copied-some (Some e) = refl

-- the place is that of the network, and whoever asks knows the secret
is-login : (accounts : Accounts) (account network secret : List ℕ) (place : ℕ)
    → is_some (entry_by_secret accounts.directory account network secret) ≡ true
    → place_of accounts account network ≡ Some place → IsLogin accounts place account network secret
is-login accounts account network secret place some found =
    let f : _ = position-Some (is_of account network) accounts.networks place no_config found in
    let config : SessionConfig = get_or accounts.networks place no_config in
    let both : _ = and_parts (bytes_eq config.account account) (bytes_eq config.network network) f.1 in
    record {
      config = config;
      is_there = slice_get-get_or accounts.networks place no_config f.0;
      is_account = (bytes_eq-Decides config.account account).0 both.0;
      is_network = (bytes_eq-Decides config.network network).0 both.1;
      has_secret = some;
    }

pub are-logins : (accounts : Accounts) (account network secret : List ℕ) (directory : Directory) (entry : Option (Bor Entry)) (result : Option ℕ)
    → directory ≡ accounts.directory → option_copied entry ≡ entry_by_secret directory account network secret → is_some entry ≡ true
    → result ≡ place_of accounts account network → IfSome result (λ place. IsLogin accounts place account network secret)
are-logins accounts account network secret directory entry None own e some found = tt
are-logins accounts account network secret directory entry (Some place) own e some found =
    is-login accounts account network secret place
    (ap (λ (d : Directory). is_some (entry_by_secret d account network secret)) (sym own) ∙ ap is_some (sym e) ∙ copied-some entry ∙ some)
    (sym found)

-- there is no such network
pub no-network : {accounts : Accounts} {account network secret : List ℕ} (place : ℕ)
    → place_of accounts account network ≡ None → IsLogin accounts place account network secret → ⊥
no-network {accounts} {account} {network} place none k =
    let fails : is_of account network k.config ≡ false = none-passes (is_of account network) accounts.networks place k.config none k.is_there in
    let one : bytes_eq k.config.account account ≡ true = (bytes_eq-Decides k.config.account account).1 k.is_account in
    let two : bytes_eq k.config.network network ≡ true = (bytes_eq-Decides k.config.network network).1 k.is_network in
    let passes : is_of account network k.config ≡ true = rw (one, two) refl in
    true≢false (sym passes ∙ fails)
