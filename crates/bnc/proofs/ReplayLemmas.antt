-- How a script ends behind a buffer that was empty.
use Rattle.std.proofs.Common.{◌≡◌, ℕ, List, [], ◌++◌, Bool, true, false, Option, None, Some, Result, Err, refl, sym, ap, ◌∙◌, subst, inl, inr, append-nil}
use Rattle.std.specs.Prelude.{◌&&◌, ◌⊎◌, IfSome}
use Rattle.std.specs.Io.KnownBytes.{Appends, Keeps, IsAtEnd, append_known}
use Rattle.std.proofs.KnownBytes.{Appends-kept}
use Rattle.byte_text.specs.Writes.{AppendsPrefix}
use Rattle.byte_text.proofs.CallerLemmas.{prefix_none}
use Rattle.chat_change.specs.Words.{is_name, is_target}
use Rattle.chat_change.specs.Faults.{unless_lawful, fault_or_no_memory}
use Rattle.chat_change.specs.declared.faults.ChangeFault.TheVariants.{BadName, BadTarget}
use Rattle.bnc_server.specs.declared.fault.ReplayFault.{ReplayFault}
use Rattle.bnc_server.specs.Ending.{Ends, EndsInItem, EndsBetween}
use Rattle.irc_line.specs.Stream.{Item, items}
use Rattle.bnc_server.specs.World.{World}
use Rattle.bnc.specs.declared.ending.End.{End}
use Rattle.bnc.specs.declared.ending.End.TheVariants.{NoMemory, Device}
use Rattle.bnc.specs.Status.{end_of_names, end_of_replay}
use Rattle.bnc.specs.Words.{Names}
use Rattle.bnc.specs.Replaying.{names_fault, end_of_refusal, world_of, text_of, IsAnswered, IsCutShort, ReplaysLawful, ReplaysBy, Replays}

-- an empty buffer adds nothing
pub known-nothing : (known : Option (List ℕ)) (buffer : List ℕ) → buffer ≡ [] → append_known known buffer ≡ known
known-nothing None buffer b = refl
known-nothing (Some xs) buffer b = ap Some (ap (λ l. xs ++ l) b ∙ append-nil xs)

-- what was begun stays begun once it is sent on its way
begun-kept : (a b c : Option (List ℕ)) (text : List ℕ) → Keeps b c → AppendsPrefix a b text → AppendsPrefix a c text
begun-kept a b c text k p = (p.0, p.1, p.2, Appends-kept a b c p.0 p.3 k)

-- the end of a script as well
module _ (old before held : Option (List ℕ)) (k : Keeps before held) (w : World) (fault : ReplayFault) where
  ends-kept : (items : List Item) → EndsInItem old before w items fault → EndsInItem old held w items fault
  ends-kept items e = record {
    before = e.before;
    item = e.item;
    after = e.after;
    in_turn = e.in_turn;
    may_end = e.may_end;
    between = e.between;
    written = e.written;
    begun = begun-kept e.between before held _ k e.begun;
  }

  between-kept : (read : List ℕ) → EndsBetween old before w read fault → EndsBetween old held w read fault
  between-kept read e = record { may_end = e.may_end; written = Appends-kept old before held _ e.written k }

  pub fault-kept : (unread left : Option (List ℕ)) → Ends unread left old before w fault → Ends unread left old held w fault
  fault-kept unread left e = (e.0, e.1, go e.2) where
    go : EndsInItem old before w (items e.0) fault ⊎ EndsBetween old before w e.0 fault → EndsInItem old held w (items e.0) fault ⊎ EndsBetween old held w e.0 fault
    go (inl i) = inl (ends-kept (items e.0) i)
    go (inr b) = inr (between-kept e.0 b)

-- what holds of what was read, if it is known
if-some : {A : Type 0} (P Q : A → Type 0) (o : Option A) → ((x : A) → P x → Q x) → IfSome o P → IfSome o Q
if-some P Q None f p = tt
if-some P Q (Some x) f p = f x p

-- A script was played behind a buffer that held nothing. The writer and the buffer then held `before`, and `held` once the
-- buffer was to be emptied.
module _ (unread left old before held : Option (List ℕ)) (buffer : List ℕ) (names : Names) (b : buffer ≡ []) (k : Keeps before held) where
  first : append_known old buffer ≡ old
  first = known-nothing old buffer b

  -- what was written is on its way, be it all of a text or a prefix
  all-kept : (text : List ℕ) → Appends (append_known old buffer) before text → Appends old held text
  all-kept text p = subst (λ o. Appends o held text) first (Appends-kept (append_known old buffer) before held text p k)

  prefix-kept : (text : List ℕ) → AppendsPrefix (append_known old buffer) before text → AppendsPrefix old held text
  prefix-kept text p = subst (λ o. AppendsPrefix o held text) first (begun-kept (append_known old buffer) before held text k p)

  answered_all : IsAtEnd left → IfSome unread (λ input. Appends (append_known old buffer) before (text_of input names)) → IsAnswered unread left old held names
  answered_all e p = record { at_end = e; written = if-some _ _ unread (λ input. all-kept (text_of input names)) p }

  -- it ended with a fault
  pub cut_by_fault : (fault : ReplayFault) (end : End) → IfSome unread (λ input. AppendsPrefix (append_known old buffer) before (text_of input names))
      → Ends unread left (append_known old buffer) before (world_of names) fault → end ≡ end_of_replay fault → IsCutShort unread left old held names end
  cut_by_fault fault end p ends told = record {
    begun = if-some _ _ unread (λ input. prefix-kept (text_of input names)) p;
    cause = inr (inl (record {
      fault = fault;
      ends = subst (λ o. Ends unread left o held (world_of names) fault) first (fault-kept _ before held k (world_of names) fault unread left ends);
      told = told;
    }));
  }

  -- all was answered, and the last of it stays in the buffer
  pub cut_unsent : IsAtEnd left → IfSome unread (λ input. Appends (append_known old buffer) before (text_of input names)) → IsCutShort unread left old held names Device
  cut_unsent e p =
      let all = answered_all e p in record {
        begun = if-some _ _ unread (λ input q. (text_of input names, [], sym (append-nil _), q)) all.written;
        cause = inr (inr (record { answered = all; told = refl }));
      }

  -- all has left the buffer
  pub all_sent : (new : Option (List ℕ)) (rest : List ℕ) → held ≡ append_known new rest → rest ≡ [] → IsAtEnd left
      → IfSome unread (λ input. Appends (append_known old buffer) before (text_of input names)) → IsAnswered unread left old new names
  all_sent new rest is none e p = subst (λ h. IsAnswered unread left old h names) (is ∙ known-nothing new rest none) (answered_all e p)

-- there was no memory to look at the names
pub cut_before : (unread left old held : Option (List ℕ)) (buffer : List ℕ) (names : Names) (end : End) → buffer ≡ [] → left ≡ unread → held ≡ append_known old buffer
    → end ≡ NoMemory → IsCutShort unread left old held names end
cut_before unread left old held buffer names end b same kept told =
    let is = kept ∙ known-nothing old buffer b in record {
      begun = go unread (λ input. subst (λ h. AppendsPrefix old h (text_of input names)) (sym is) (prefix_none old _));
      cause = inl (record { unread_is_left = same; nothing_written = is; told = told });
    } where
      go : {P : List ℕ → Type 0} (o : Option (List ℕ)) → ((x : List ℕ) → P x) → IfSome o P
      go None f = tt
      go (Some x) f = f x

-- the names were refused, or there was no memory to look at them
module _ (unread left old new held : Option (List ℕ)) (buffer : List ℕ) (names : Names) (b : buffer ≡ []) (same : left ≡ unread) (kept : held ≡ append_known old buffer) where
  ends-refused : (end : End) (named target : Bool) → end ≡ end_of_names (fault_or_no_memory (unless_lawful named BadName (unless_lawful target BadTarget None)))
      → ReplaysBy (unless_lawful named BadName (unless_lawful target BadTarget None)) unread left old new held names (Err end)
  ends-refused end false target told = ap Err told
  ends-refused end true false told = ap Err told
  ends-refused end true true told = cut_before unread left old held buffer names end b same kept told

  pub replays_refused : (end : End) → end ≡ end_of_refusal names → Replays unread left old new held names (Err end)
  replays_refused end told = ends-refused end (is_name names.account && is_name names.network) (is_target names.nick) told

pub replays_lawful : (unread left old new held : Option (List ℕ)) (names : Names) (r : Result (Unit {0}) End) → names_fault names ≡ None → ReplaysLawful unread left old new held names r
    → Replays unread left old new held names r
replays_lawful unread left old new held names r lawful p = subst (λ f. ReplaysBy f unread left old new held names r) (sym lawful) p
