-- The accounts by which a network hears its clients.
use Rattle.std.proofs.Common.{◌≡◌, ℕ, Bool, false, List, [], Option, None, Some, Result, Ok, Err, refl, sym, ap, ◌∙◌, subst}
use Rattle.std.specs.Prelude.{IfOk}
use Rattle.std.proofs.Math.Logic.{∥∥₁_elim}
use Rattle.std.proofs.Props.{props}
use Rattle.std.proofs.lemmas.Option.{same_Some}
use Rattle.byte_text.specs.declared.no_memory.NoMemory.{NoMemory}
use Rattle.irc_line.specs.declared.line.LineFault.{LineFault}
use Rattle.irc_line.specs.declared.line.TagLimit.TheVariants.{Client}
use Rattle.irc_line.specs.Line.{Reading}
use Rattle.irc_line.specs.Read.{read}
use Rattle.irc_line.specs.Stream.{Item, line as whole_line, too_long as cut_line}
use Rattle.chat_query.specs.declared.facts.Facts.{Facts}
use Rattle.cluster_directory.specs.Directory.{Directory, alone, directory_with, entry_in}
use Rattle.cluster_directory.specs.Entry.{Entry}
use Rattle.cluster_directory.specs.declared.config.SessionConfig.{SessionConfig}
use Rattle.cluster_directory.proofs.CallerLemmas.{put_if, alone_entry, set_entry_in}
use Rattle.client_session.specs.declared.stage.Stage.{Stage}
use Rattle.client_session.specs.declared.stage.Stage.TheVariants.{Waiting, Registered, Closed}
use Rattle.client_session.specs.Session.{reading_step, step}
use Rattle.client_session.proofs.CallerLemmas.{step_registered, too_long_registered}
use Rattle.network_log.specs.Facts.{NodeFacts}
use Rattle.network_log.specs.Guest.{step_of}
use Rattle.network_log.specs.NetworkState.{NetworkState}
use Rattle.network_log.specs.Truth.{Leads}
use Rattle.network_laws.specs.LetIn.{IsOfNetwork}
use Rattle.hosted_network.specs.Standing.{HasEntry, HasSomeEntry, StandsSo}

-- ---- an entry in place of the one that is there

put-again : (o : Option Entry) (old new : Entry) → put_if (put_if o old) new ≡ put_if o new
put-again None old new = refl
put-again (Some e) old new = refl

put-found : (o : Option Entry) (old found new : Entry) → put_if o old ≡ Some found → put_if o new ≡ Some new
put-found None old found new e = absurd (cc e)
put-found (Some x) old found new e = refl

found-is : (o : Option Entry) (old found : Entry) → put_if o old ≡ Some found → old ≡ found
found-is None old found e = absurd (cc e)
found-is (Some x) old found e = same_Some old found e

-- an entry that is like another but for its channels
but-channels : (found entry : Entry) → found.is_up ≡ entry.is_up → found.nick ≡ entry.nick → found.takes_redact ≡ entry.takes_redact
    → found ≡ record entry { channels = found.channels }
but-channels found entry up nick redact = λ i. record { is_up = up i; nick = nick i; channels = found.channels; takes_redact = redact i }

-- the directory has it already
pub already : (accounts : Directory) (config : SessionConfig) (entry found : Entry) (directory : Directory)
    → HasSomeEntry accounts config directory
    → entry_in directory config.account config.network ≡ Some found
    → found.is_up ≡ entry.is_up → found.nick ≡ entry.nick → found.takes_redact ≡ entry.takes_redact
    → StandsSo accounts config entry directory
already accounts config entry found directory h e up nick redact =
    let o : Option Entry = entry_in accounts config.account config.network in
    let now : Entry = record entry { channels = found.channels } in
    let there : put_if o h.entry ≡ Some found = sym (set_entry_in accounts config.account config.network h.entry) ∙ sym h.is_entry ∙ e in
    record {
      channels = found.channels;
      is_entry = e ∙ ap Some (but-channels found entry up nick redact)
          ∙ sym (put-found o h.entry found now there)
          ∙ sym (set_entry_in accounts config.account config.network now);
    }

-- it is set
pub set : (accounts : Directory) (config : SessionConfig) (entry : Entry) (directory : Directory)
    → HasSomeEntry accounts config directory
    → HasEntry accounts config entry (directory_with directory config.account config.network entry)
set accounts config entry directory h =
    let o : Option Entry = entry_in accounts config.account config.network in
    set_entry_in directory config.account config.network entry
    ∙ ap (λ p. put_if p entry) (h.is_entry ∙ set_entry_in accounts config.account config.network h.entry)
    ∙ put-again o h.entry entry
    ∙ sym (set_entry_in accounts config.account config.network entry)

-- so it is where the network stands just so but for the channels that it is set with
pub stands : (accounts : Directory) (config : SessionConfig) (entry now : Entry) (directory : Directory)
    → HasSomeEntry accounts config directory → now ≡ record entry { channels = now.channels }
    → StandsSo accounts config entry (directory_with directory config.account config.network now)
stands accounts config entry now directory h e = record {
  channels = now.channels;
  is_entry = set accounts config now directory h
      ∙ ap (λ (x : Entry). entry_in (directory_with accounts config.account config.network x) config.account config.network) e;
}

alone-at : (accounts : Directory) (config : SessionConfig) (o : Option Entry) → entry_in accounts config.account config.network ≡ o → (other : Entry)
    → HasSomeEntry accounts config (alone accounts config.account config.network)
alone-at accounts config None e other = record {
  entry = other;
  is_entry = alone_entry accounts config.account config.network ∙ e ∙ ap (λ p. put_if p other) (sym e)
      ∙ sym (set_entry_in accounts config.account config.network other);
}
alone-at accounts config (Some x) e other = record {
  entry = x;
  is_entry = alone_entry accounts config.account config.network ∙ e ∙ ap (λ p. put_if p x) (sym e)
      ∙ sym (set_entry_in accounts config.account config.network x);
}

pub begins : (accounts : Directory) (config : SessionConfig) → HasSomeEntry accounts config (alone accounts config.account config.network)
begins accounts config =
    alone-at accounts config (entry_in accounts config.account config.network) refl
    (record { is_up = false; nick = []; channels = []; takes_redact = false })

-- ---- the same, where the account and the network are known by their names

named : (directory : Directory) (a n : List ℕ) (config : SessionConfig) → a ≡ config.account → n ≡ config.network
    → entry_in directory a n ≡ entry_in directory config.account config.network
named directory a n config account network =
    ap (λ (x : List ℕ). entry_in directory x n) account ∙ ap (λ (x : List ℕ). entry_in directory config.account x) network

with-named : (directory : Directory) (a n : List ℕ) (config : SessionConfig) (now : Entry) → a ≡ config.account → n ≡ config.network
    → directory_with directory a n now ≡ directory_with directory config.account config.network now
with-named directory a n config now account network =
    ap (λ (x : List ℕ). directory_with directory x n now) account ∙ ap (λ (x : List ℕ). directory_with directory config.account x now) network

pub already_at : {a n : List ℕ} (accounts : Directory) (config : SessionConfig) (entry found : Entry) (directory : Directory)
    → a ≡ config.account → n ≡ config.network → HasSomeEntry accounts config directory
    → entry_in directory a n ≡ Some found
    → found.is_up ≡ entry.is_up → found.nick ≡ entry.nick → found.takes_redact ≡ entry.takes_redact
    → StandsSo accounts config entry directory
already_at {a} {n} accounts config entry found directory account network h e up nick redact =
    already accounts config entry found directory h (sym (named directory a n config account network) ∙ e) up nick redact

pub stands_at : {a n : List ℕ} (accounts : Directory) (config : SessionConfig) (entry now : Entry) (directory new : Directory)
    → a ≡ config.account → n ≡ config.network → HasSomeEntry accounts config directory
    → now.is_up ≡ entry.is_up → now.nick ≡ entry.nick → now.takes_redact ≡ entry.takes_redact
    → new ≡ directory_with directory a n now
    → StandsSo accounts config entry new
stands_at {a} {n} accounts config entry now directory new account network h up nick redact e =
    subst (λ (d : Directory). StandsSo accounts config entry d) (sym (e ∙ with-named directory a n config now account network))
    (stands accounts config entry now directory h (but-channels now entry up nick redact))

pub some_at : {a n : List ℕ} (accounts : Directory) (config : SessionConfig) (now : Entry) (directory new : Directory)
    → a ≡ config.account → n ≡ config.network → HasSomeEntry accounts config directory
    → new ≡ directory_with directory a n now
    → HasSomeEntry accounts config new
some_at {a} {n} accounts config now directory new account network h e =
    subst (λ (d : Directory). HasSomeEntry accounts config d) (sym (e ∙ with-named directory a n config now account network))
    (record { entry = now; is_entry = set accounts config now directory h })

-- one network alone begins so
pub begins_at : {a n : List ℕ} (accounts own : Directory) (config : SessionConfig) (directory : Directory)
    → accounts ≡ own → a ≡ config.account → n ≡ config.network
    → directory ≡ alone accounts a n
    → HasSomeEntry own config directory
begins_at {a} {n} accounts own config directory is account network e =
    subst (λ (d : Directory). HasSomeEntry own config d)
    (sym (e ∙ ap (λ (x : Directory). alone x a n) is ∙ ap (λ (x : List ℕ). alone own x n) account ∙ ap (λ (x : List ℕ). alone own config.account x) network))
    (begins own config)

pub begins_if : {a n : List ℕ} (accounts own : Directory) (config : SessionConfig) (result : Result Directory NoMemory)
    → accounts ≡ own → a ≡ config.account → n ≡ config.network
    → IfOk result (λ d. d ≡ alone accounts a n)
    → IfOk result (λ d. HasSomeEntry own config d)
begins_if accounts own config (Ok directory) is account network e = begins_at accounts own config directory is account network e
begins_if accounts own config (Err fault) is account network e = tt

-- a network's configuration stays, whatever happens to it
pub config_stays : {facts : NodeFacts} {old new : NetworkState}
    → ((old new : NetworkState) → Leads facts old new → (new.place ≡ old.place) × (new.config ≡ old.config))
    → ∥ Leads facts old new ∥₁ → new.config ≡ old.config
config_stays {facts} {old} {new} law l = ∥∥₁_elim l (Prim.hlevel props) (λ k. (law old new k).1)

-- ---- a client's line

closed-alike : (directory full : Directory) (shown : Bool) (bytes : List ℕ) (reading : Result Reading LineFault)
    → reading_step directory shown Closed bytes reading ≡ reading_step full shown Closed bytes reading
closed-alike directory full shown bytes (Err fault) = refl
closed-alike directory full shown bytes (Ok line) = refl

closed-step : (directory full : Directory) (shown : Bool) (bytes : List ℕ) → step directory shown Closed bytes ≡ step full shown Closed bytes
unfolding step
closed-step directory full shown bytes = closed-alike directory full shown bytes (read Client bytes)

entry-of-own : (accounts : Directory) (config : SessionConfig) (entry : Entry) (directory : Directory) (f : Facts)
    → HasEntry accounts config entry directory → (f.account ≡ config.account) × (f.network ≡ config.network)
    → entry_in directory f.account f.network ≡ put_if (entry_in accounts config.account config.network) entry
entry-of-own accounts config entry directory f h own =
    ap (λ (a : List ℕ). entry_in directory a f.network) own.0 ∙ ap (λ (n : List ℕ). entry_in directory config.account n) own.1
    ∙ h ∙ set_entry_in accounts config.account config.network entry

-- A line of a client of the network comes to the same by its own account and network alone as by all accounts.
pub heard_alike : (accounts : Directory) (config : SessionConfig) (entry : Entry) (directory : Directory) (shown : Bool) (session : Stage) (item : Item)
    → StandsSo accounts config entry directory → IsOfNetwork config session
    → step_of directory shown session item ≡ step_of (directory_with accounts config.account config.network entry) shown session item
heard_alike accounts config entry directory shown (Waiting w) item so own = absurd own
heard_alike accounts config entry directory shown (Registered f) (whole_line bytes) so own =
    step_registered directory (directory_with accounts config.account config.network entry)
    (entry_in accounts config.account config.network) entry so.channels f shown bytes
    (entry-of-own accounts config (record entry { channels = so.channels }) directory f so.is_entry own)
    (entry-of-own accounts config entry (directory_with accounts config.account config.network entry) f refl own)
heard_alike accounts config entry directory shown (Registered f) cut_line so own =
    too_long_registered directory (directory_with accounts config.account config.network entry)
    (entry_in accounts config.account config.network) entry so.channels f
    (entry-of-own accounts config (record entry { channels = so.channels }) directory f so.is_entry own)
    (entry-of-own accounts config entry (directory_with accounts config.account config.network entry) f refl own)
heard_alike accounts config entry directory shown Closed (whole_line bytes) so own =
    closed-step directory (directory_with accounts config.account config.network entry) shown bytes
heard_alike accounts config entry directory shown Closed cut_line so own = refl
