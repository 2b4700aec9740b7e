-- How a script advances: by an item, by bytes that are fed, and to its end.
use Rattle.std.proofs.Common.{◌≡◌, ℕ, ◌+◌, ◌<◌, ◌≤◌, Bool, true, false, nat_lt, Option, None, Some, List, [], ◌∷◌, ◌++◌, length, take, drop, position, Result, Ok, Err, refl, sym, ap, ◌∙◌, subst, inl, inr, arith, append_assoc, append-nil, length-append, take-append-drop}
use Rattle.std.specs.Prelude.{◌≢◌, ◌⊎◌, IsErrAnd, IfSome, MatchResult, is_some}
use Rattle.std.proofs.lemmas.Bool.{ltb-true, cond-false}
use Rattle.std.proofs.lemmas.List.{length-take}
use Rattle.std.specs.Io.KnownBytes.{Appends, Consumes, IsAtEnd, Keeps}
use Rattle.std.proofs.KnownBytes.{Appends-trans, Appends-nil, Consumes-nil, Consumes-trans, Consumes-kept}
use Rattle.byte_text.specs.Writes.{AppendsPrefix, WritesKnown}
use Rattle.byte_text.proofs.CallerLemmas.{prefix_of_first, prefix_of_second, prefix_same}
use Rattle.irc_line.specs.Stream.{Item, Held, holding, skipping, bytes_of, is_lf, item_of, items_of_rest, items, held_with, first_item, next_item, held_without, items_from, too_long}
use Rattle.irc_line.specs.Calls.{with_first}
use Rattle.irc_line.proofs.CallerLemmas.{items_line, items_rest, taken-append, step, no_items}
use Rattle.bnc_server.specs.declared.fault.ReplayFault.{ReplayFault}
use Rattle.bnc_server.specs.declared.fault.ReplayFault.TheVariants.{NoMemory, Write}
use Rattle.bnc_server.specs.Request.{request_of}
use Rattle.bnc_server.specs.World.{World}
use Rattle.bnc_server.specs.Script.{outcome, text_of}
use Rattle.bnc_server.specs.ChangeLines.{world_after}
use Rattle.bnc_server.specs.Faults.{MayEnd}
use Rattle.bnc_server.specs.Ending.{EndsInItem, MayEndBetween, Ends, IsReadBy, most_reads}
use Rattle.bnc_server.specs.HeldNode.{HeldWorld, held_world}
use Rattle.bnc_server.specs.Progress.{text_of_next, world_after_next, MayEndNext, items_with, IsDrained, Goes, StopsInItem, StopsSending}
use Rattle.bnc_server.proofs.OrderLemmas.{text_of-append, world_after-append}

-- ---- answers

-- what a `?` returns
pub err_is : {T E : Type 0} (P : T → Type 0) (Q : E → Type 0) (fault : E) (r : Result T E) → IsErrAnd r (λ e. e ≡ fault) → Q fault → MatchResult r P Q
err_is P Q fault (Ok x) e q = absurd e
err_is P Q fault (Err y) e q = subst Q (sym e) q

-- ---- the items to come

-- an item, if there is one, stands before the rest
first-before : (o : Option Item) (rest : List Item) → with_first o rest ≡ with_first o [] ++ rest
first-before None rest = refl
first-before (Some item) rest = refl

first-printed : (world : World) (o : Option Item) → text_of_next o world ≡ text_of world (with_first o [])
first-printed world None = refl
first-printed world (Some item) = sym (append-nil (outcome world (request_of item)).text)

first-answered : (world : World) (o : Option Item) → world_after_next o world ≡ world_after world (with_first o [])
first-answered world None = refl
first-answered world (Some item) = refl

-- bytes that are fed
items-fed : (held : Held) (a b : List ℕ) → items_from held (a ++ b) ≡ items_from (held_with held a) b
items-fed held a b = ap (λ h. items (bytes_of h)) (sym (taken-append held a b))

-- some of the rest is fed
items-left : (held held' : Held) (rest rest' : List ℕ) (n : ℕ) → held' ≡ held_with held (take n rest) → rest' ≡ drop n rest → (more : List ℕ)
    → items_with held rest more ≡ items_with held' rest' more
items-left held held' rest rest' n e f more =
    ap (items_from held) (ap (λ l. l ++ more) (sym (take-append-drop n rest)) ∙ append_assoc (take n rest) (drop n rest) more)
    ∙ items-fed held (take n rest) (drop n rest ++ more) ∙ (λ i. items_from (sym e i) (sym f i ++ more))

none_left : (xs : List Item) → first_item xs ≡ None → xs ≡ []
none_left [] e = refl
none_left (x ∷ xs) e = cc

-- the end, where no whole line is held
items-end : (held : Held) → IsDrained held → items_from held [] ≡ []
items-end (holding bytes) e = ap items (append-nil bytes) ∙ none_left (items bytes) e
items-end skipping e = no_items

-- where no whole line is held there is room
pub drained_room : (held : Held) → IsDrained held → length (bytes_of held) < 8703
drained_room held e = go (position is_lf (bytes_of held)) refl where
  short : (b : Bool) → nat_lt (length (bytes_of held)) 8703 ≡ b → items (bytes_of held) ≡ items_of_rest (bytes_of held) → length (bytes_of held) < 8703
  short true f g = ltb-true _ _ f
  short false f g = (let long : None ≡ first_item (items_of_rest (bytes_of held)) = sym e ∙ ap first_item g in absurd (absurd_long f long)) where
    absurd_long : nat_lt (length (bytes_of held)) 8703 ≡ false → None ≡ first_item (items_of_rest (bytes_of held)) → ⊥
    absurd_long f l = (let is : items_of_rest (bytes_of held) ≡ too_long ∷ [] = cond-false _ _ _ f in let bad : None ≡ Some too_long = l ∙ ap first_item is in cc)

  go : (o : Option ℕ) → position is_lf (bytes_of held) ≡ o → length (bytes_of held) < 8703
  go None f = short (nat_lt (length (bytes_of held)) 8703) refl (items_rest (bytes_of held) f)
  go (Some n) f = (let one : None ≡ Some (item_of (take n (bytes_of held))) = sym e ∙ ap first_item (items_line (bytes_of held) n f) in cc)

-- the number of items that are held goes down with each
pub fewer : (held : Held) → is_some (next_item held) ≡ true → length (items_from (held_without (next_item held) held) []) < length (items_from held [])
fewer held e = go (next_item held) (ap length (step held [])) e where
  go : (o : Option Item) → length (items_from held []) ≡ length (with_first o (items_from (held_without o held) [])) → is_some o ≡ true
      → length (items_from (held_without o held) []) < length (items_from held [])
  go None f g = cc
  go (Some item) f g = omega arith

-- ---- what was answered so far

-- nothing yet
pub goes-nothing : (a : Option (List ℕ)) (self : HeldWorld) (held : Held) (left : List ℕ) (world : World) → self ≡ held_world world
    → Goes a a world (items_with held left) self held left
goes-nothing a self held left world e = record { done = []; is_held = e; written = Appends-nil a; rest = λ more. refl }

module _ (a b : Option (List ℕ)) (world : World) (f : List ℕ → List Item) (self : HeldWorld) (held : Held) where
  abbrev goes-same : (g : List ℕ → List Item) (left : List ℕ) → ((more : List ℕ) → f more ≡ g more) → Goes a b world g self held left → Goes a b world f self held left
  goes-same g left e p = record { done = p.done; is_held = p.is_held; written = p.written; rest = λ more. e more ∙ p.rest more }

  abbrev goes-before : (xs : List ℕ) → Goes a b world f self held [] → Goes a b world (λ more. f (xs ++ more)) self held xs
  goes-before xs p = record { done = p.done; is_held = p.is_held; written = p.written; rest = λ more. p.rest (xs ++ more) }

-- so far it went, and then on, or to an item that ended it
module _ (a b c : Option (List ℕ)) (world : World) (f : List ℕ → List Item) (self : HeldWorld) (held : Held) (left : List ℕ) (p : Goes a b world f self held left) where
  goes-then : (self' : HeldWorld) (held' : Held) (left' : List ℕ) → Goes b c (world_after world p.done) (items_with held left) self' held' left' → Goes a c world f self' held' left'
  goes-then self' held' left' q = record {
    done = p.done ++ q.done;
    is_held = q.is_held ∙ ap held_world (sym (world_after-append world p.done q.done));
    written = subst (Appends a c) (sym (text_of-append world p.done q.done))
        (Appends-trans a b c (text_of world p.done) (text_of (world_after world p.done) q.done) p.written q.written);
    rest = λ more. p.rest more ∙ ap (λ l. p.done ++ l) (q.rest more) ∙ sym (append_assoc p.done q.done (items_with held' left' more));
  }

  stops-then : (fault : ReplayFault) → StopsInItem b c (world_after world p.done) (items_with held left) fault → StopsInItem a c world f fault
  stops-then fault stops more =
      let q = stops more in
      let same = sym (world_after-append world p.done q.before) in record {
        before = p.done ++ q.before;
        item = q.item;
        after = q.after;
        in_turn = p.rest more ∙ ap (λ l. p.done ++ l) q.in_turn ∙ sym (append_assoc p.done q.before (q.item ∷ q.after));
        may_end = subst (λ v. MayEnd v (request_of q.item) fault) same q.may_end;
        between = q.between;
        written = subst (Appends a q.between) (sym (text_of-append world p.done q.before))
            (Appends-trans a b q.between (text_of world p.done) (text_of (world_after world p.done) q.before) p.written q.written);
        begun = subst (λ v. AppendsPrefix q.between c (outcome v (request_of q.item)).text) same q.begun;
      }

  pub goes-on : (self' : HeldWorld) (held' : Held) (left' : List ℕ)
      → ((now : World) → self ≡ held_world now → Goes b c now (items_with held left) self' held' left') → Goes a c world f self' held' left'
  goes-on self' held' left' next = goes-then self' held' left' (next (world_after world p.done) p.is_held)

  pub goes-stops : (fault : ReplayFault) → ((now : World) → self ≡ held_world now → StopsInItem b c now (items_with held left) fault) → StopsInItem a c world f fault
  goes-stops fault stops = stops-then fault (stops (world_after world p.done) p.is_held)

-- nothing was written
kept_is_none : (a b : Option (List ℕ)) → Keeps a b → Appends a b []
kept_is_none None b k = tt
kept_is_none (Some xs) None k = absurd k
kept_is_none (Some xs) (Some ys) k = k ∙ sym (append-nil xs)

-- what was written is sent on its way
pub goes-flushed : (a b c : Option (List ℕ)) (world : World) (f : List ℕ → List Item) (self : HeldWorld) (held : Held) → Goes a b world f self held [] → Keeps b c → Goes a c world f self held []
goes-flushed a b c world f self held p k =
    goes-on a b c world f self held [] p self held [] (λ now e. record { done = []; is_held = e; written = kept_is_none b c k; rest = λ more. refl })

-- an item is answered, or ends the script
module _ (a b : Option (List ℕ)) (held : Held) (world : World) where
  pub goes-next : (self' : HeldWorld) (held' : Held) → Appends a b (text_of_next (next_item held) world) → self' ≡ held_world (world_after_next (next_item held) world)
      → held' ≡ held_without (next_item held) held → Goes a b world (items_with held []) self' held' []
  goes-next self' held' p e f = record {
    done = with_first (next_item held) [];
    is_held = e ∙ ap held_world (first-answered world (next_item held));
    written = subst (Appends a b) (first-printed world (next_item held)) p;
    rest = λ more.
        step held more ∙ first-before (next_item held) (items_from (held_without (next_item held) held) more)
        ∙ ap (λ h. with_first (next_item held) [] ++ items_from h more) (sym f);
  }

  pub stops-next : (fault : ReplayFault) → AppendsPrefix a b (text_of_next (next_item held) world) → MayEndNext world (next_item held) fault
      → StopsInItem a b world (items_with held []) fault
  stops-next fault p may more = go (next_item held) p may (step held more) where
    go : (o : Option Item) → AppendsPrefix a b (text_of_next o world) → MayEndNext world o fault → items_from held more ≡ with_first o (items_from (held_without o held) more)
        → EndsInItem a b world (items_from held more) fault
    go None p may e = absurd may
    go (Some item) p may e = record {
      before = [];
      item = item;
      after = items_from (held_without (Some item) held) more;
      in_turn = e;
      may_end = may;
      between = a;
      written = Appends-nil a;
      begun = p;
    }

-- some of the rest of a piece is fed, and its lines are answered
module _ (a b : Option (List ℕ)) (held held1 : Held) (rest rest' : List ℕ) (n : ℕ) (fed : held1 ≡ held_with held (take n rest)) (left : rest' ≡ drop n rest) (world : World) where
  pub goes-fed : (self' : HeldWorld) (held' : Held) → Goes a b world (items_with held1 []) self' held' [] → Goes a b world (items_with held rest) self' held' rest'
  goes-fed self' held' p =
      goes-same a b world (items_with held rest) self' held' (items_with held1 rest') rest' (items-left held held1 rest rest' n fed left)
      (goes-before a b world (items_with held1 []) self' held' rest' p)

  pub stops-fed : (fault : ReplayFault) → StopsInItem a b world (items_with held1 []) fault → StopsInItem a b world (items_with held rest) fault
  stops-fed fault stops more = subst (λ l. EndsInItem a b world l fault) (sym (items-left held held1 rest rest' n fed left more)) (stops (rest' ++ more))

-- ---- the whole

-- an item that ended a script, and those before it, began what all print
ended_text : (a b : Option (List ℕ)) (world : World) (list : List Item) (fault : ReplayFault) → EndsInItem a b world list fault → AppendsPrefix a b (text_of world list)
ended_text a b world list fault e =
    let said = outcome (world_after world e.before) (request_of e.item) in
    prefix_same a b _ _ (sym (ap (text_of world) e.in_turn ∙ text_of-append world e.before (e.item ∷ e.after)))
    (prefix_of_second a e.between b (text_of world e.before) (said.text ++ text_of said.world e.after) e.written
    (prefix_of_first e.between b said.text (text_of said.world e.after) e.begun))

-- what was read, and what was written of it
pub record HasRead (r0 r w0 w : Option (List ℕ)) (world : World) (self : HeldWorld) (held : Held) : Type 0 where
  pub read : List ℕ
  pub consumed : Consumes r0 r read
  pub drained : IsDrained held
  pub goes : Goes w0 w world (λ more. items (read ++ more)) self held []

-- before the first read
pub drained_at_first : (held : Held) → held ≡ holding [] → IsDrained held
drained_at_first held f = subst IsDrained (sym f) (ap first_item no_items)

pub begun : (r w : Option (List ℕ)) (world : World) (self : HeldWorld) (held : Held) → self ≡ held_world world → held ≡ holding [] → HasRead r r w w world self held
begun r w world self held e f = subst (λ x. HasRead r r w w world self x) (sym f) (record {
  read = [];
  consumed = Consumes-nil r;
  drained = drained_at_first _ refl;
  goes = goes-nothing w self (holding []) [] world e;
})

-- there was no memory to begin with
pub not_begun : (r w : Option (List ℕ)) (world : World) → Ends r r w w world NoMemory
not_begun r w world = ([], Consumes-nil r, inr (record { may_end = refl; written = subst (λ l. Appends w w (text_of world l)) (sym no_items) (Appends-nil w) }))

some_behind : (xs ys : List ℕ) → ys ≢ [] → xs ++ ys ≢ []
some_behind [] ys some = some
some_behind (x ∷ xs) ys some = λ e. cc

module _ (r0 r w0 w : Option (List ℕ)) (world : World) (self : HeldWorld) (held : Held) (h : HasRead r0 r w0 w world self held) where
  -- all items of what was read were answered
  all_done : items h.read ≡ h.goes.done
  all_done = ap items (sym (append-nil h.read)) ∙ h.goes.rest [] ∙ ap (λ l. h.goes.done ++ l) (items-end held h.drained) ∙ append-nil h.goes.done

  answered : Appends w0 w (text_of world (items h.read))
  answered = subst (λ l. Appends w0 w (text_of world l)) (sym all_done) h.goes.written

  at_end : IsAtEnd r → IfSome r0 (λ input. Appends w0 w (text_of world (items input)))
  at_end e = go r0 r h.consumed e where
    go : (r0 r : Option (List ℕ)) → Consumes r0 r h.read → IsAtEnd r → IfSome r0 (λ input. Appends w0 w (text_of world (items input)))
    go None r p q = tt
    go (Some xs) None p q = absurd p
    go (Some xs) (Some ys) p q = subst (λ l. Appends w0 w (text_of world (items l))) (sym (p ∙ ap (λ l. h.read ++ l) q ∙ append-nil h.read)) answered

  -- nothing more was to be read
  pub all_read : (r' : Option (List ℕ)) (n : ℕ) (buffer : List ℕ) → n ≡ 0 → Consumes r r' (take n buffer) → IsAtEnd r' → IfSome r0 (λ input. Appends w0 w (text_of world (items input)))
  all_read r' n buffer none p e = at_end (go r r' (subst (λ m. Consumes r r' (take m buffer)) none p) e) where
    go : (r r' : Option (List ℕ)) → Consumes r r' [] → IsAtEnd r' → IsAtEnd r
    go None r' p q = tt
    go (Some xs) None p q = absurd p
    go (Some xs) (Some ys) p q = p ∙ q

  -- a fault between two items
  pub between_text : IfSome r0 (λ input. AppendsPrefix w0 w (text_of world (items input)))
  between_text = go r0 r h.consumed where
    go : (r0 r : Option (List ℕ)) → Consumes r0 r h.read → IfSome r0 (λ input. AppendsPrefix w0 w (text_of world (items input)))
    go None r p = tt
    go (Some xs) None p = absurd p
    go (Some xs) (Some ys) p =
        prefix_same w0 w _ _ (sym (ap (λ l. text_of world (items l)) p ∙ ap (text_of world) (h.goes.rest ys) ∙ text_of-append world h.goes.done (items_from held ys)))
        (text_of world h.goes.done, text_of (world_after world h.goes.done) (items_from held ys), refl, h.goes.written)

  pub between_ends : (fault : ReplayFault) → MayEndBetween h.read fault → Ends r0 r w0 w world fault
  between_ends fault may = (h.read, h.consumed, inr (record { may_end = may; written = answered }))

  -- nothing more was read
  pub read_failed : (r' : Option (List ℕ)) → Keeps r r' → HasRead r0 r' w0 w world self held
  read_failed r' k = record { read = h.read; consumed = Consumes-kept r0 r r' h.read h.consumed k; drained = h.drained; goes = h.goes }

  -- one more piece was read
  module _ (r' w' : Option (List ℕ)) (self' : HeldWorld) (held' : Held) (piece : List ℕ) (one : Consumes r r' piece) where
    abbrev read_then : Goes w w' (world_after world h.goes.done) (items_with held piece) self' held' [] → IsDrained held' → HasRead r0 r' w0 w' world self' held'
    read_then q d = record {
      read = h.read ++ piece;
      consumed = Consumes-trans r0 r r' h.read piece h.consumed one;
      drained = d;
      goes = goes-same w0 w' world (λ more. items ((h.read ++ piece) ++ more)) self' held' (λ more. items (h.read ++ (piece ++ more))) []
          (λ more. ap items (append_assoc h.read piece more))
          (goes-then w0 w w' world (λ more. items (h.read ++ (piece ++ more))) self held piece
          (goes-before w0 w world (λ more. items (h.read ++ more)) self held piece h.goes) self' held' [] q);
    }

    -- and served
    pub read_more : ((now : World) → self ≡ held_world now → Goes w w' now (items_with held piece) self' held' []) → IsDrained held' → HasRead r0 r' w0 w' world self' held'
    read_more q d = read_then (q (world_after world h.goes.done) h.goes.is_held) d

-- a fault in one more piece that was read, or once it was served
module _ (r0 r r' w0 w w' : Option (List ℕ)) (world : World) (self self' : HeldWorld) (held held' : Held) (h : HasRead r0 r w0 w world self held)
    (piece : List ℕ) (one : Consumes r r' piece) (fault : ReplayFault)
    (stops : (now : World) → self ≡ held_world now → StopsInItem w w' now (items_with held piece) fault ⊎ StopsSending w w' now (items_with held piece) self' held' fault) where
  in_item : StopsInItem w w' (world_after world h.goes.done) (items_with held piece) fault → StopsInItem w0 w' world (λ more. items (h.read ++ (piece ++ more))) fault
  in_item s =
      stops-then w0 w w' world (λ more. items (h.read ++ (piece ++ more))) self held piece
      (goes-before w0 w world (λ more. items (h.read ++ more)) self held piece h.goes) fault s

  abbrev served : StopsSending w w' (world_after world h.goes.done) (items_with held piece) self' held' fault → HasRead r0 r' w0 w' world self' held'
  served s = read_then r0 r w0 w world self held h r' w' self' held' piece one s.goes s.drained

  pub fault_ends : piece ≢ [] → Ends r0 r' w0 w' world fault
  fault_ends some = go (stops (world_after world h.goes.done) h.goes.is_held) where
    go : StopsInItem w w' (world_after world h.goes.done) (items_with held piece) fault ⊎ StopsSending w w' (world_after world h.goes.done) (items_with held piece) self' held' fault
        → Ends r0 r' w0 w' world fault
    go (inl s) = (
      h.read ++ piece,
      Consumes-trans r0 r r' h.read piece h.consumed one,
      inl (subst (λ l. EndsInItem w0 w' world (items (h.read ++ l)) fault) (append-nil piece) (in_item s [])),
    )
    go (inr s) = subst (Ends r0 r' w0 w' world) (sym s.fault_is) (between_ends r0 r' w0 w' world self' held' (served s) Write (some_behind h.read piece some))

  pub fault_text : IfSome r0 (λ input. AppendsPrefix w0 w' (text_of world (items input)))
  fault_text = go (stops (world_after world h.goes.done) h.goes.is_held) where
    ended : (r0 r r' : Option (List ℕ)) → Consumes r0 r h.read → Consumes r r' piece → StopsInItem w0 w' world (λ more. items (h.read ++ (piece ++ more))) fault
        → IfSome r0 (λ input. AppendsPrefix w0 w' (text_of world (items input)))
    ended None r r' a b s = tt
    ended (Some xs) None r' a b s = absurd a
    ended (Some xs) (Some ys) None a b s = absurd b
    ended (Some xs) (Some ys) (Some zs) a b s =
        prefix_same w0 w' _ _ (sym (ap (λ l. text_of world (items l)) (a ∙ ap (λ l. h.read ++ l) b)))
        (ended_text w0 w' world (items (h.read ++ (piece ++ zs))) fault (s zs))

    go : StopsInItem w w' (world_after world h.goes.done) (items_with held piece) fault ⊎ StopsSending w w' (world_after world h.goes.done) (items_with held piece) self' held' fault
        → IfSome r0 (λ input. AppendsPrefix w0 w' (text_of world (items input)))
    go (inl s) = ended r0 r r' h.consumed one (in_item s)
    go (inr s) = between_text r0 r' w0 w' world self' held' (served s)

-- a piece has bytes where some were read
pub some_read : (n : ℕ) (buffer : List ℕ) → n ≢ 0 → n ≤ length buffer → take n buffer ≢ []
some_read n buffer some within = λ none. some (let zero : length (take n buffer) ≡ 0 = ap length none in omega (arith, zero, within, length-take n buffer))

pub faulted : {E : Type 0} (Q : E → Type 0) (r0 w0 w : Option (List ℕ)) (world : World) (r : Result (Unit {0}) E) → IsErrAnd r Q
    → IfSome r0 (λ input. AppendsPrefix w0 w (text_of world (items input))) → IfSome r0 (λ input. WritesKnown w0 w r (text_of world (items input)))
faulted Q None w0 w world r e p = tt
faulted Q (Some xs) w0 w world (Ok x) e p = absurd e
faulted Q (Some xs) w0 w world (Err y) e p = p

-- ---- how much is read

pub none_read : (r : Option (List ℕ)) → IsReadBy 0 r r
none_read r = ([], Consumes-nil r, omega arith)

-- one read more, of which so many bytes of a room for 4,096 came
pub read_once : (n : ℕ) (r0 r r' : Option (List ℕ)) (count : ℕ) (room : List ℕ) → IsReadBy n r0 r → Consumes r r' (take count room) → length room ≡ 4096 → IsReadBy (n + 1) r0 r'
read_once n r0 r r' count room so_far one whole = (
  so_far.0 ++ take count room,
  Consumes-trans r0 r r' so_far.0 (take count room) so_far.1 one,
  omega (arith, so_far.2, whole, length-append so_far.0 (take count room), length-take count room),
)

-- one read more, which gave nothing
pub read_kept : (n : ℕ) (r0 r r' : Option (List ℕ)) → IsReadBy n r0 r → Keeps r r' → IsReadBy (n + 1) r0 r'
read_kept n r0 r r' so_far k = (so_far.0, Consumes-kept r0 r r' so_far.0 so_far.1 k, omega (arith, so_far.2))

pub read_in_all : (n : ℕ) (r0 r : Option (List ℕ)) → IsReadBy n r0 r → n ≤ 16777216 → IsReadBy most_reads r0 r
read_in_all n r0 r so_far some = (so_far.0, so_far.1, omega (arith, some, so_far.2))
