-- What a step takes from its directory: of a registered session the entry of its own network, but for the channels; of one that waits
-- the entry of the network that its user names, for whoever knows the secret.
use Rattle.std.proofs.Common.{◌≡◌, ℕ, Bool, true, false, cond, List, [], ◌∷◌, Option, None, Some, Result, Ok, Err, refl, sym, ap, ◌∙◌}
use Rattle.std.specs.Prelude.{◌&&◌, not}
use Rattle.irc_line.specs.declared.line.LineFault.{LineFault}
use Rattle.irc_line.specs.declared.line.LineFault.TheVariants.{TooLong}
use Rattle.irc_line.specs.declared.line.TagLimit.TheVariants.{Client}
use Rattle.irc_line.specs.Line.{Reading}
use Rattle.irc_line.specs.Read.{read}
use Rattle.irc_caps.specs.Negotiation.{is_held, cap_answer}
use Rattle.irc_reply.specs.ToClient.{no_nick}
use Rattle.chat_query.specs.declared.facts.Facts.{Facts}
use Rattle.cluster_directory.specs.Entry.{Entry}
use Rattle.cluster_directory.specs.Directory.{Directory, entry_in, entry_by_secret}
use Rattle.cluster_directory.proofs.CallerLemmas.{put_if}
use Rattle.client_session.specs.Command.{command_of}
use Rattle.client_session.specs.declared.command.ClientCommand.{ClientCommand}
use Rattle.client_session.specs.declared.command.ClientCommand.TheVariants.{Cap, Nick, User}
use Rattle.client_session.specs.declared.stage.Waiting.{Waiting as Stays}
use Rattle.client_session.specs.declared.stage.Stage.{Stage}
use Rattle.client_session.specs.declared.stage.Stage.TheVariants.{Waiting, Registered, Closed}
use Rattle.client_session.specs.Naming.{last_user, user_in, user_in_reading, user_of}
use Rattle.client_session.specs.Registered.{with_nick_of, after_registration}
use Rattle.client_session.specs.Registration.{account_of, network_of, user_name, waits, let_in_if, settle, settle_user, answer_or_settle, cap, nick, nick_unless, user, user_if, before_registration}
use Rattle.client_session.specs.Session.{reading_step, step, too_long, refuse}
use Rattle.client_session.specs.Step.{Step, nick_refusal}

-- ---- a registered session

registered_by : Option Entry → Facts → Bool → List ℕ → Result Reading LineFault → Step
registered_by entry f shown bytes (Err fault) = refuse (with_nick_of entry f) fault
registered_by entry f shown bytes (Ok line) = after_registration entry (with_nick_of entry f) shown bytes (command_of line.command) line

of-registered : (directory : Directory) (f : Facts) (shown : Bool) (bytes : List ℕ) (reading : Result Reading LineFault)
    → reading_step directory shown (Registered f) bytes reading ≡ registered_by (entry_in directory f.account f.network) f shown bytes reading
unfolding registered_by
of-registered directory f shown bytes (Err fault) = refl
of-registered directory f shown bytes (Ok line) = refl

-- an entry with other channels
other_channels : Entry → List (List ℕ) → Entry
other_channels entry channels = record entry { channels = channels }

command-alike : (entry : Entry) (channels : List (List ℕ)) (f : Facts) (shown : Bool) (bytes : List ℕ) (command : ClientCommand) (line : Reading)
    → after_registration (Some (other_channels entry channels)) (with_nick_of (Some (other_channels entry channels)) f) shown bytes command line
    ≡ after_registration (Some entry) (with_nick_of (Some entry) f) shown bytes command line
unfolding other_channels
command-alike entry channels f shown bytes Cap line = refl
command-alike entry channels f shown bytes _ line = refl

registered-alike : (o : Option Entry) (entry : Entry) (channels : List (List ℕ)) (f : Facts) (shown : Bool) (bytes : List ℕ) (reading : Result Reading LineFault)
    → registered_by (put_if o (other_channels entry channels)) f shown bytes reading ≡ registered_by (put_if o entry) f shown bytes reading
unfolding registered_by other_channels
registered-alike None entry channels f shown bytes reading = refl
registered-alike (Some old) entry channels f shown bytes (Err fault) = refl
registered-alike (Some old) entry channels f shown bytes (Ok line) = command-alike entry channels f shown bytes (command_of line.command) line

-- A line of a registered session comes to the same by two directories that differ in the channels of its own network's entry alone.
pub step_registered : (directory full : Directory) (o : Option Entry) (entry : Entry) (channels : List (List ℕ)) (f : Facts) (shown : Bool) (bytes : List ℕ)
    → entry_in directory f.account f.network ≡ put_if o (record entry { channels = channels })
    → entry_in full f.account f.network ≡ put_if o entry
    → step directory shown (Registered f) bytes ≡ step full shown (Registered f) bytes
unfolding step other_channels
step_registered directory full o entry channels f shown bytes e k =
    let reading : Result Reading LineFault = read Client bytes in
    of-registered directory f shown bytes reading
    ∙ ap (λ (p : Option Entry). registered_by p f shown bytes reading) e
    ∙ registered-alike o entry channels f shown bytes reading
    ∙ ap (λ (p : Option Entry). registered_by p f shown bytes reading) (sym k)
    ∙ sym (of-registered full f shown bytes reading)

refuse-alike : (o : Option Entry) (entry : Entry) (channels : List (List ℕ)) (f : Facts) (fault : LineFault)
    → refuse (with_nick_of (put_if o (other_channels entry channels)) f) fault ≡ refuse (with_nick_of (put_if o entry) f) fault
unfolding other_channels
refuse-alike None entry channels f fault = refl
refuse-alike (Some old) entry channels f fault = refl

-- so does one that was too long
pub too_long_registered : (directory full : Directory) (o : Option Entry) (entry : Entry) (channels : List (List ℕ)) (f : Facts)
    → entry_in directory f.account f.network ≡ put_if o (record entry { channels = channels })
    → entry_in full f.account f.network ≡ put_if o entry
    → too_long directory (Registered f) ≡ too_long full (Registered f)
unfolding other_channels
too_long_registered directory full o entry channels f e k =
    ap (λ (p : Option Entry). refuse (with_nick_of p f) TooLong) e
    ∙ refuse-alike o entry channels f TooLong
    ∙ ap (λ (p : Option Entry). refuse (with_nick_of p f) TooLong) (sym k)

-- ---- a session that waits

-- whoever gives that user is let in by the one as by the other
abbrev pub LetsInAlike : Directory → Directory → List ℕ → Type 0
LetsInAlike directory full name = (secret : List ℕ)
    → entry_by_secret directory (account_of name) (network_of name) secret ≡ entry_by_secret full (account_of name) (network_of name) secret

-- so is whoever gives the user that is there, if one is
abbrev pub LetsInIf : Directory → Directory → Option (List ℕ) → Type 0
LetsInIf directory full o = (name : List ℕ) → o ≡ Some name → LetsInAlike directory full name

settle-of : (directory full : Directory) (w : Stays) (o : Option (List ℕ)) → LetsInIf directory full o → settle_user directory w o ≡ settle_user full w o
settle-of directory full w None same = refl
settle-of directory full w (Some name) same =
    ap (λ e. cond (w.has_nick && not (is_held w.negotiation.registration)) (let_in_if w name e) (waits w [])) (same name refl w.password)

settle-alike : (directory full : Directory) (w : Stays) → LetsInIf directory full w.user → settle directory w ≡ settle full w
settle-alike directory full w same = settle-of directory full w w.user same

answer-alike : (directory full : Directory) (w : Stays) (line : Option (List ℕ)) → LetsInIf directory full w.user → answer_or_settle directory w line ≡ answer_or_settle full w line
answer-alike directory full w None same = settle-alike directory full w same
answer-alike directory full w (Some line) same = refl

cap-alike : (directory full : Directory) (w : Stays) (parameters : List (List ℕ)) → LetsInIf directory full w.user → cap directory w parameters ≡ cap full w parameters
cap-alike directory full w parameters same =
    let a : _ = cap_answer w.cluster no_nick w.negotiation parameters in
    answer-alike directory full (record w { negotiation = a.negotiation }) a.line same

nick-of : (directory full : Directory) (w : Stays) (refusal : Option (List ℕ)) → LetsInIf directory full w.user → nick_unless directory w refusal ≡ nick_unless full w refusal
nick-of directory full w None same = settle-alike directory full (record w { has_nick = true }) same
nick-of directory full w (Some refusal) same = refl

user-of : (directory full : Directory) (w : Stays) (o : Option (List ℕ)) → LetsInIf directory full (last_user w.user o) → user_if directory w o ≡ user_if full w o
user-of directory full w None same = refl
user-of directory full w (Some name) same = settle-alike directory full (record w { user = Some name }) same

before-alike : (directory full : Directory) (w : Stays) (command : ClientCommand) (parameters : List (List ℕ))
    → LetsInIf directory full (last_user w.user (user_of command parameters))
    → before_registration directory w command parameters ≡ before_registration full w command parameters
before-alike directory full w Cap parameters same = cap-alike directory full w parameters same
before-alike directory full w Nick parameters same = nick-of directory full w (nick_refusal w.cluster no_nick parameters) same
before-alike directory full w User parameters same = user-of directory full w (user_name parameters) same
before-alike directory full w _ parameters same = refl

reading-alike : (directory full : Directory) (shown : Bool) (w : Stays) (bytes : List ℕ) (reading : Result Reading LineFault)
    → LetsInIf directory full (last_user w.user (user_in_reading reading))
    → reading_step directory shown (Waiting w) bytes reading ≡ reading_step full shown (Waiting w) bytes reading
reading-alike directory full shown w bytes (Err fault) same = refl
reading-alike directory full shown w bytes (Ok line) same = before-alike directory full w (command_of line.command) line.parameters same

-- A line of a session that waits comes to the same by two directories by which the user that was named last is let in alike.
pub step_waiting : (directory full : Directory) (shown : Bool) (w : Stays) (bytes : List ℕ)
    → LetsInIf directory full (last_user w.user (user_in bytes))
    → step directory shown (Waiting w) bytes ≡ step full shown (Waiting w) bytes
unfolding step
step_waiting directory full shown w bytes same = reading-alike directory full shown w bytes (read Client bytes) same
