-- What a batch comes to, as it is written for a session.
use Rattle.std.proofs.Common.{◌≡◌, ◌<◌, ◌≤◌, ◌+◌, Bool, true, false, ℕ, zero, suc, List, [], ◌∷◌, ◌++◌, Option, Some, None, if◌then◌else◌, refl, sym, ap, ◌∙◌, subst, arith, length, length-append, take, drop, get_or}
use Rattle.std.specs.Prelude.{slice_get}
use Rattle.std.proofs.Math.Seq.{get_or-append_seam}
use Rattle.std.proofs.lemmas.List.Elements.{All-push}
use Rattle.std.proofs.lemmas.Option.{slice_get-get_or}
use Rattle.std.proofs.lemmas.List.{take_more}
use Rattle.chat_change.specs.declared.change.Change.{Change}
use Rattle.chat_change.specs.declared.change.Change.TheVariants.{Post}
use Rattle.chat_query.specs.declared.facts.Facts.{Facts}
use Rattle.cluster_directory.specs.declared.config.SessionConfig.{SessionConfig}
use Rattle.irc_caps.specs.declared.recipients.Recipients.TheVariants as recipients
use Rattle.network_log.specs.Host.{BatchEntry, Posted, PassedOn, Renamed, Entered}
use Rattle.network_log.specs.NetworkState.{first_entries}
use Rattle.network_log.specs.Share.{nick_by_all, nick_by}
use Rattle.network_server.specs.Entries.{entries, posted_count}
use Rattle.network_server.specs.declared.batch.BatchPart.{BatchPart}
use Rattle.network_server.specs.declared.batch.BatchPart.TheVariants as part
use Rattle.hosted_network.specs.Sharing.{AreMarked, IsMarked, share_with, told_with}
use Rattle.hosted_network.specs.Shares.{AreShares, IsHearer, IsOf, IsShare, entries_in}
use Rattle.hosted_network.specs.Entering.{OnlyEntered}
use Rattle.hosted_network.specs.declared.shares.Share.{Share}
use Rattle.hosted_network.specs.declared.told.Told.{Told}
use Rattle.hosted_network.specs.declared.told.Writing.{Writing}

-- ---- sessions that are told the same

-- all of a session on which it depends what it is told
pub record AreAlike (f g : Facts) : Type 0 where
  pub account : f.account ≡ g.account
  pub network : f.network ≡ g.network
  pub caps : f.caps ≡ g.caps
  pub cluster : f.cluster ≡ g.cluster

share-alike : (at : Option ℕ) (f g : Facts) (nick : List ℕ) (entry : BatchEntry) → AreAlike f g → share_with at f nick entry ≡ share_with at g nick entry
share-alike at f g nick entry a =
    (λ i. let h : Facts = record { account = a.account i; network = a.network i; nick = f.nick; caps = a.caps i; reference = f.reference; cluster = a.cluster i; maximum = f.maximum } in share_with at h nick entry)
    ∙ others entry where
      others : (entry : BatchEntry) → (let h : Facts = record g { nick = f.nick; reference = f.reference; maximum = f.maximum } in share_with at h nick entry) ≡ share_with at g nick entry
      others (Posted (Post r) is_own) = refl
      others (Posted _ is_own) = refl
      others (PassedOn text recipients.All) = refl
      others (PassedOn text (recipients.Holding capability)) = refl
      others (Renamed new is_passed_on) = refl
      others (Entered channel) = refl

pub told-alike : (at : Option ℕ) (f g : Facts) (nick : List ℕ) (batch : List BatchEntry) → AreAlike f g → told_with at f nick batch ≡ told_with at g nick batch
told-alike at f g nick [] a = refl
told-alike at f g nick (entry ∷ batch) a = (λ i. share-alike at f g nick entry a i ++ told-alike at f g (nick_by nick entry) batch a i)

-- ---- all parts

-- so far it is written
pub record IsWrittenTo (at : ℕ) (parts : List BatchPart) (w : Writing) (room first : List ℕ) (mark : Option ℕ) (f : Facts) (nick : List ℕ) (changes : List Change) : Type 0 where
  pub text : room ++ told_with w.mark w.facts.now w.nick.now (entries (drop at parts) w.changes.now) ≡ first ++ told_with mark f nick (entries parts changes)
  pub after : nick_by_all w.nick.now (entries (drop at parts) w.changes.now) ≡ nick_by_all nick (entries parts changes)
  pub facts : w.facts.now ≡ f
  pub marker : w.mark ≡ mark

-- ---- channels that were entered

pub only-append : (channel : Option (List ℕ)) (parts : List BatchPart) (p : BatchPart) → OnlyEntered channel parts → OnlyEntered channel (p ∷ []) → OnlyEntered channel (parts ++ p ∷ [])
only-append channel [] p k l = l
only-append channel (part.Entered entered ∷ parts) p k l = (k.0, only-append channel parts p k.1 l)
only-append channel (part.Posted is_own ∷ parts) p k l = only-append channel parts p k l
only-append channel (part.PassedOn text to ∷ parts) p k l = only-append channel parts p k l
only-append channel (part.Renamed nick is_passed_on ∷ parts) p k l = only-append channel parts p k l

-- up to one part more
pub only-more : (parts : List BatchPart) (at : ℕ) {p : BatchPart} (channel : Option (List ℕ)) → at < length parts → p ≡ get_or parts at p
    → OnlyEntered channel (take at parts) → OnlyEntered channel (p ∷ []) → OnlyEntered channel (take (at + 1) parts)
only-more parts at {p} channel within is k l =
    subst (OnlyEntered channel) (sym (take_more parts at p within ∙ ap (λ (q : BatchPart). take at parts ++ q ∷ []) (sym is)))
    (only-append channel (take at parts) p k l)

-- a part that is no channel's
pub not-entered : (channel : Option (List ℕ)) (p : BatchPart) → ((entered : List ℕ) → p ≡ part.Entered entered → ⊥) → OnlyEntered channel (p ∷ [])
not-entered channel (part.Entered entered) other = absurd (other entered refl)
not-entered channel (part.Posted is_own) other = tt
not-entered channel (part.PassedOn text to) other = tt
not-entered channel (part.Renamed nick is_passed_on) other = tt

-- where none was entered before
pub first-entered : (channel : List ℕ) (parts : List BatchPart) → OnlyEntered None parts → OnlyEntered (Some channel) parts
first-entered channel [] k = tt
first-entered channel (part.Entered entered ∷ parts) k = absurd (cc (k.0))
first-entered channel (part.Posted is_own ∷ parts) k = first-entered channel parts k
first-entered channel (part.PassedOn text to ∷ parts) k = first-entered channel parts k
first-entered channel (part.Renamed nick is_passed_on ∷ parts) k = first-entered channel parts k

pub marked-entries : (held : List Change) (at : Option ℕ) (account network : List ℕ) (channel : Option (List ℕ)) (parts : List BatchPart)
    → ((entered : List ℕ) → channel ≡ Some entered → IsMarked held at account network (Entered entered)) → OnlyEntered channel parts
    → (changes : List Change) → AreMarked held at account network (entries parts changes)
marked-entries held at account network channel [] is k changes = tt
marked-entries held at account network channel (part.Entered entered ∷ parts) is k changes = (is entered k.0, marked-entries held at account network channel parts is k.1 changes)
marked-entries held at account network channel (part.Posted is_own ∷ parts) is k [] = marked-entries held at account network channel parts is k []
marked-entries held at account network channel (part.Posted is_own ∷ parts) is k (c ∷ changes) = (tt, marked-entries held at account network channel parts is k changes)
marked-entries held at account network channel (part.PassedOn text to ∷ parts) is k changes = (tt, marked-entries held at account network channel parts is k changes)
marked-entries held at account network channel (part.Renamed nick is_passed_on ∷ parts) is k changes = (tt, marked-entries held at account network channel parts is k changes)

-- ---- the first parts

pub first-all : (parts : List BatchPart) (changes : List Change) (count : ℕ) → posted_count parts ≡ length changes → posted_count parts ≤ count
    → entries parts changes ≡ first_entries count (entries parts changes)
first-all [] changes count agree h = refl
first-all (part.Posted is_own ∷ parts) [] count agree h = absurd (omega (arith, agree))
first-all (part.Posted is_own ∷ parts) (c ∷ changes) zero agree h = absurd (omega (arith, h))
first-all (part.Posted is_own ∷ parts) (c ∷ changes) (suc count) agree h =
    ap (λ (l : List BatchEntry). Posted c is_own ∷ l) (first-all parts changes count (omega (arith, agree)) (omega (arith, h)))
first-all (part.PassedOn text to ∷ parts) changes zero agree h = ap (λ (l : List BatchEntry). PassedOn text to ∷ l) (first-all parts changes zero agree h)
first-all (part.PassedOn text to ∷ parts) changes (suc count) agree h = ap (λ (l : List BatchEntry). PassedOn text to ∷ l) (first-all parts changes (suc count) agree h)
first-all (part.Renamed nick is_passed_on ∷ parts) changes zero agree h = ap (λ (l : List BatchEntry). Renamed nick is_passed_on ∷ l) (first-all parts changes zero agree h)
first-all (part.Renamed nick is_passed_on ∷ parts) changes (suc count) agree h = ap (λ (l : List BatchEntry). Renamed nick is_passed_on ∷ l) (first-all parts changes (suc count) agree h)
first-all (part.Entered channel ∷ parts) changes zero agree h = ap (λ (l : List BatchEntry). Entered channel ∷ l) (first-all parts changes zero agree h)
first-all (part.Entered channel ∷ parts) changes (suc count) agree h = ap (λ (l : List BatchEntry). Entered channel ∷ l) (first-all parts changes (suc count) agree h)

-- up to a part whose change would be one too many
pub first-cut : (parts : List BatchPart) (changes : List Change) (at count : ℕ) (rest : List BatchPart) (own : Bool) → posted_count (take at parts) ≡ count
    → drop at parts ≡ part.Posted own ∷ rest → posted_count parts ≡ length changes
    → entries (take at parts) changes ≡ first_entries count (entries parts changes)
first-cut [] changes zero count rest own e f agree = absurd (cc f)
first-cut [] changes (suc at) count rest own e f agree = absurd (cc f)
first-cut (part.Posted is_own ∷ parts) [] at count rest own e f agree = absurd (omega (arith, agree))
first-cut (part.Posted is_own ∷ parts) (c ∷ changes) zero zero rest own e f agree = refl
first-cut (part.Posted is_own ∷ parts) (c ∷ changes) zero (suc count) rest own e f agree = absurd (omega (arith, e))
first-cut (part.Posted is_own ∷ parts) (c ∷ changes) (suc at) zero rest own e f agree = absurd (omega (arith, e))
first-cut (part.Posted is_own ∷ parts) (c ∷ changes) (suc at) (suc count) rest own e f agree =
    ap (λ (l : List BatchEntry). Posted c is_own ∷ l) (first-cut parts changes at count rest own (omega (arith, e)) f (omega (arith, agree)))
first-cut (part.PassedOn text to ∷ parts) changes zero count rest own e f agree = absurd (cc f)
first-cut (part.Renamed nick is_passed_on ∷ parts) changes zero count rest own e f agree = absurd (cc f)
first-cut (part.Entered channel ∷ parts) changes zero count rest own e f agree = absurd (cc f)
first-cut (part.PassedOn text to ∷ parts) changes (suc at) zero rest own e f agree = ap (λ (l : List BatchEntry). PassedOn text to ∷ l) (first-cut parts changes at zero rest own e f agree)
first-cut (part.PassedOn text to ∷ parts) changes (suc at) (suc count) rest own e f agree = ap (λ (l : List BatchEntry). PassedOn text to ∷ l) (first-cut parts changes at (suc count) rest own e f agree)
first-cut (part.Renamed nick is_passed_on ∷ parts) changes (suc at) zero rest own e f agree = ap (λ (l : List BatchEntry). Renamed nick is_passed_on ∷ l) (first-cut parts changes at zero rest own e f agree)
first-cut (part.Renamed nick is_passed_on ∷ parts) changes (suc at) (suc count) rest own e f agree = ap (λ (l : List BatchEntry). Renamed nick is_passed_on ∷ l) (first-cut parts changes at (suc count) rest own e f agree)
first-cut (part.Entered channel ∷ parts) changes (suc at) zero rest own e f agree = ap (λ (l : List BatchEntry). Entered channel ∷ l) (first-cut parts changes at zero rest own e f agree)
first-cut (part.Entered channel ∷ parts) changes (suc at) (suc count) rest own e f agree = ap (λ (l : List BatchEntry). Entered channel ∷ l) (first-cut parts changes at (suc count) rest own e f agree)

pub posted-behind : (parts : List BatchPart) (p : BatchPart) → posted_count (parts ++ p ∷ []) ≡ posted_count parts + posted_count (p ∷ [])
posted-behind [] p = omega arith
posted-behind (part.Posted is_own ∷ parts) p = let e = posted-behind parts p in omega (arith, e)
posted-behind (part.PassedOn text to ∷ parts) p = posted-behind parts p
posted-behind (part.Renamed nick is_passed_on ∷ parts) p = posted-behind parts p
posted-behind (part.Entered channel ∷ parts) p = posted-behind parts p

pub posted-more : (parts : List BatchPart) (at : ℕ) {p : BatchPart} → at < length parts → p ≡ get_or parts at p
    → posted_count (take (at + 1) parts) ≡ posted_count (take at parts) + posted_count (p ∷ [])
posted-more parts at {p} within is =
    ap posted_count (take_more parts at p within ∙ ap (λ (q : BatchPart). take at parts ++ q ∷ []) (sym is))
    ∙ posted-behind (take at parts) p

-- a part that puts no change
pub not-posted : (p : BatchPart) → ((is_own : Bool) → p ≡ part.Posted is_own → ⊥) → posted_count (p ∷ []) ≡ 0
not-posted (part.Posted is_own) other = absurd (other is_own refl)
not-posted (part.PassedOn text to) other = refl
not-posted (part.Renamed nick is_passed_on) other = refl
not-posted (part.Entered channel) other = refl

-- ---- texts that several clients are told

-- what was written for one session is what each is told for which it is
pub share-serves : {told : Told} (config : SessionConfig) {share : Share} {f : Facts} {nick : List ℕ}
    → IsOf config f → IsHearer share f nick → IsShare told share f nick
    → (g : Facts) (n : List ℕ) → IsOf config g → IsHearer share g n → IsShare told share g n
share-serves {told} config {share} {f} {nick} o h s g n p k =
    let a : AreAlike f g = record {
      account = o.0 ∙ sym p.0;
      network = o.1 ∙ sym p.1;
      caps = h.has_caps ∙ sym k.has_caps;
      cluster = h.is_cluster ∙ sym k.is_cluster;
    } in
    let same : nick ≡ n = h.is_nick ∙ sym k.is_nick in
    record {
      text = s.text ∙ told-alike told.mark f g nick (entries_in told) a ∙ ap (λ (x : List ℕ). told_with told.mark g x (entries_in told)) same;
      nick_after = s.nick_after ∙ ap (λ (x : List ℕ). nick_by_all x (entries_in told)) same;
    }

-- a text more, if there was memory for it
pub shares-more : {told : Told} (config : SessionConfig) (shares : List Share) {news : List Share} {share : Share} (is_ok : Bool)
    → AreShares told config shares
    → ((f : Facts) (nick : List ℕ) → IsOf config f → IsHearer share f nick → IsShare told share f nick)
    → news ≡ (if is_ok then shares ++ share ∷ [] else shares)
    → AreShares told config news
shares-more {told} config shares {news} {share} true are is e =
    subst (AreShares told config) (sym e)
    (All-push (λ (s : Share). (f : Facts) (nick : List ℕ) → IsOf config f → IsHearer s f nick → IsShare told s f nick) shares share are is)
shares-more {told} config shares false are is e = subst (AreShares told config) (sym e) are

pub last-there : {X : Type 0} (xs : List X) (x : X) (n : ℕ) → n ≡ length xs → slice_get (xs ++ x ∷ []) n ≡ Some x
last-there {X = X} xs x n e =
    slice_get-get_or (xs ++ x ∷ []) n x (omega (arith, length-append xs (x ∷ []), e))
    ∙ ap (λ (k : ℕ). Some (get_or (xs ++ x ∷ []) k x)) e
    ∙ ap (λ (y : X). Some y) (get_or-append_seam xs x [] x)
