-- A step that looks for no message doesn't ask whether one is shown.
use Rattle.std.proofs.Common.{◌≡◌, ℕ, Bool, true, false, cond, List, [], ◌∷◌, Option, None, Some, Result, Ok, Err, refl, ap}
use Rattle.std.specs.Prelude.{◌&&◌, not}
use Rattle.irc_line.specs.declared.line.LineFault.{LineFault}
use Rattle.irc_line.specs.declared.line.TagLimit.TheVariants.{Client}
use Rattle.irc_line.specs.Line.{Reading}
use Rattle.irc_line.specs.Read.{read}
use Rattle.chat_change.specs.Words.{is_id}
use Rattle.chat_query.specs.Buffers.{has_buffer}
use Rattle.chat_query.specs.declared.facts.Facts.{Facts}
use Rattle.cluster_directory.specs.Entry.{Entry}
use Rattle.cluster_directory.specs.Directory.{Directory, entry_in}
use Rattle.client_session.specs.Command.{command_of}
use Rattle.client_session.specs.declared.command.ClientCommand.{ClientCommand}
use Rattle.client_session.specs.declared.command.ClientCommand.TheVariants.{Redact}
use Rattle.client_session.specs.declared.effect.Effect.{Effect}
use Rattle.client_session.specs.declared.stage.Stage.{Stage}
use Rattle.client_session.specs.declared.stage.Stage.TheVariants as stage
use Rattle.client_session.specs.Registered.{with_nick_of, redact, after_registration, stays}
use Rattle.client_session.specs.Lookup.{MessageName, name_of, name_by_command, name_in, name_sought}
use Rattle.client_session.specs.Session.{reading_step, step}

-- the four tests of a REDACT, of which the last asks whether a message is shown
unasked : (has buffer lawful shown : Bool) (unknown bad missing more : List Effect) → (has && (buffer && lawful)) ≡ false
    → cond has (cond (not buffer) bad (cond (not (lawful && shown)) missing more)) unknown ≡ cond has (cond (not buffer) bad (cond (not (lawful && false)) missing more)) unknown
unasked true true true shown unknown bad missing more e = cc
unasked true true false shown unknown bad missing more e = refl
unasked true false lawful shown unknown bad missing more e = refl
unasked false buffer lawful shown unknown bad missing more e = refl

no_name : (b : Bool) (place : MessageName) → cond b (Some place) None ≡ None → b ≡ false
no_name true place e = cc
no_name false place e = refl

redact_unseen : (entry : Option Entry) (f : Facts) (shown : Bool) (target id : List ℕ) (more : List (List ℕ)) → name_of f target id ≡ None
    → redact entry (with_nick_of entry f) shown (target ∷ id ∷ more) ≡ redact entry (with_nick_of entry f) false (target ∷ id ∷ more)
redact_unseen None f shown target id more e =
    unasked f.caps.message_redaction (has_buffer f target) (is_id id) shown _ _ _ _ (no_name (f.caps.message_redaction && (has_buffer f target && is_id id)) _ e)
redact_unseen (Some entry) f shown target id more e =
    unasked f.caps.message_redaction (has_buffer f target) (is_id id) shown _ _ _ _ (no_name (f.caps.message_redaction && (has_buffer f target && is_id id)) _ e)

-- a REDACT with fewer than two parameters asks nothing
redact_unnamed : (entry : Option Entry) (f : Facts) (shown : Bool) (ps : List (List ℕ)) → name_by_command f Redact ps ≡ None
    → redact entry (with_nick_of entry f) shown ps ≡ redact entry (with_nick_of entry f) false ps
redact_unnamed entry f shown [] e = refl
redact_unnamed entry f shown (target ∷ []) e = refl
redact_unnamed entry f shown (target ∷ id ∷ more) e = redact_unseen entry f shown target id more e

command_unseen : (entry : Option Entry) (f : Facts) (shown : Bool) (bytes : List ℕ) (command : ClientCommand) (line : Reading) → name_by_command f command line.parameters ≡ None
    → after_registration entry (with_nick_of entry f) shown bytes command line ≡ after_registration entry (with_nick_of entry f) false bytes command line
command_unseen entry f shown bytes Redact line e = ap (stays (with_nick_of entry f)) (redact_unnamed entry f shown line.parameters e)
command_unseen entry f shown bytes _ line e = refl

reading_unseen : (directory : Directory) (shown : Bool) (f : Facts) (bytes : List ℕ) (r : Result Reading LineFault) → name_in f r ≡ None
    → reading_step directory shown (stage.Registered f) bytes r ≡ reading_step directory false (stage.Registered f) bytes r
reading_unseen directory shown f bytes (Err fault) e = refl
reading_unseen directory shown f bytes (Ok line) e =
    command_unseen (entry_in directory f.account f.network) f shown bytes (command_of line.command) line e

waiting_unseen : (directory : Directory) (shown : Bool) (session : Stage) (bytes : List ℕ) (r : Result Reading LineFault) → ((f : Facts) → session ≡ stage.Registered f → name_in f r ≡ None)
    → reading_step directory shown session bytes r ≡ reading_step directory false session bytes r
waiting_unseen directory shown (stage.Registered f) bytes r e = reading_unseen directory shown f bytes r (e f refl)
waiting_unseen directory shown (stage.Waiting w) bytes (Ok line) e = refl
waiting_unseen directory shown (stage.Waiting w) bytes (Err fault) e = refl
waiting_unseen directory shown stage.Closed bytes (Ok line) e = refl
waiting_unseen directory shown stage.Closed bytes (Err fault) e = refl

pub step_unseen : (directory : Directory) (shown : Bool) (session : Stage) (bytes : List ℕ) → name_sought session bytes ≡ None
    → step directory shown session bytes ≡ step directory false session bytes
unfolding step
step_unseen directory shown (stage.Registered f) bytes e = reading_unseen directory shown f bytes (read Client bytes) e
step_unseen directory shown (stage.Waiting w) bytes e = waiting_unseen directory shown (stage.Waiting w) bytes (read Client bytes) (λ f is. cc)
step_unseen directory shown stage.Closed bytes e = waiting_unseen directory shown stage.Closed bytes (read Client bytes) (λ f is. cc)
