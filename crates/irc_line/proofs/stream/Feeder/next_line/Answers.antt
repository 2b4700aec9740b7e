use Rattle.std.proofs.Common.{◌≡◌, ℕ, ◌+◌, ◌-◌, ◌≤◌, cond, Option, None, Some, List, length, take, drop, position, refl, sym, ap, ◌∙◌, arith}
use Rattle.std.specs.Io.BufRead.{strip_last}
use Rattle.std.proofs.lemmas.List.{take_rest, length-drop}
use Rattle.irc_line.specs.Stream.{Item, Held, is_lf, line, holding, skipping, next_item, held_without}
use Rattle.irc_line.proofs.StreamLemmas.{next_of_line, next_of_long, next_of_rest, next_of_skipping}
use Rattle.irc_line.proofs.SearchLemmas.{lf_behind, none_behind, all_searched}
use Rattle.irc_line.proofs.stream.Feeder.next_line.Goals as goal

-- the slice from a place on, where the code names it by its length
from_place : (shown bytes : List ℕ) (place : ℕ) → shown ≡ bytes → take (length shown - place) (drop place shown) ≡ drop place bytes
from_place shown bytes place e = take_rest shown place ∙ ap (drop place) e

-- what the item leaves is what the next item of those bytes leaves
left_by : (shown held : Held) → shown ≡ held → (o : Option Item) → o ≡ next_item held → held_without o held ≡ held_without (next_item held) held
left_by shown held view o e = ap (λ (p : Option Item). held_without p held) e

pub returns-then-self : goal.returns-then-self
returns-then-self c =
    ((refl, λ _. tt, c.self.view_is), (let item = next_of_skipping c.self.inside.in_long_line c.self.inside.start c.self.inside.buffer.items _ c.self.view_is c.if-self.true in record { item = item; rest = left_by _ _ c.self.view_is _ item; left = tt }))

pub returns-in-Some : goal.returns-in-Some
returns-in-Some c =
    let start = c.self.inside.start in
    let searched = c.self.inside.searched in
    let bytes = c.self.inside.buffer.items in
    let at = searched - start + c.in-Some.at in
    let in_order : start ≤ searched = c.self.invariant.in_order in
    let behind : position is_lf (drop searched bytes) ≡ Some c.in-Some.at = ap (position is_lf) (sym (from_place c.deref.result.now bytes searched c.deref.ensures.value)) ∙ sym c.find_byte.ensures.place ∙ c.in-Some.is in
    let place = lf_behind bytes start searched in_order (omega (arith, c.self.inside.buffer.ok.0)) c.self.invariant.no_lf c.in-Some.at behind in
    let size = length-drop start bytes in
    let found = next_of_line c.self.inside.in_long_line start bytes _ c.self.view_is c.if-self.false at place (omega (arith, c.self.inside.buffer.ok.0)) in
    let next : searched + c.in-Some.at + 1 ≡ start + at + 1 = omega arith in
    let count : searched + c.in-Some.at - start ≡ at = omega arith in
    let text : c.without_cr.result.now ≡ strip_last 13 (take at (drop start bytes)) =
    c.without_cr.ensures ∙ ap (λ n. strip_last 13 (take n (drop start c.deref-in-Some.result.now))) count
    ∙ ap (λ l. strip_last 13 (take at (drop start l))) c.deref-in-Some.ensures.value in
    ((refl, λ _. tt, ap (λ n. cond c.self.inside.in_long_line skipping (holding (drop n bytes))) next ∙ found.0), (let item = ap (λ l. Some (line l)) text ∙ found.1 in record { item = item; rest = left_by _ _ c.self.view_is _ item; left = tt }))

pub invariant_of-self-in-None-2 : goal.invariant_of-self-in-None-2
invariant_of-self-in-None-2 c =
    let start = c.self.inside.start in
    let searched = c.self.inside.searched in
    let bytes = c.self.inside.buffer.items in
    let inside : searched ≤ length bytes = omega (arith, c.self.inside.buffer.ok.0) in
    let behind : position is_lf (drop searched bytes) ≡ None = ap (position is_lf) (sym (from_place c.deref.result.now bytes searched c.deref.ensures.value)) ∙ sym c.find_byte.ensures.place ∙ c.in-None-2.is in
    let none = none_behind bytes start searched c.self.invariant.in_order inside c.self.invariant.no_lf behind in
    record {
      in_order = omega (arith, c.self.invariant.in_order, c.self.invariant.in_buffer);
      in_buffer = omega arith;
      room = c.self.invariant.room;
      capacity = c.self.invariant.capacity;
      no_lf = all_searched bytes start c.len-self-inside.result (omega (arith, c.self.inside.buffer.ok.0)) none;
      none_held = c.self.invariant.none_held;
    }

pub returns-in-None : goal.returns-in-None
returns-in-None c =
    let start = c.self.inside.start in
    let searched = c.self.inside.searched in
    let bytes = c.self.inside.buffer.items in
    let inside : searched ≤ length bytes = omega (arith, c.self.inside.buffer.ok.0) in
    let behind : position is_lf (drop searched bytes) ≡ None = ap (position is_lf) (sym (from_place c.deref.result.now bytes searched c.deref.ensures.value)) ∙ sym c.find_byte.ensures.place ∙ c.in-None.is in
    let none = none_behind bytes start searched c.self.invariant.in_order inside c.self.invariant.no_lf behind in
    let size = length-drop start bytes in
    let found = next_of_long c.self.inside.in_long_line start bytes _ c.self.view_is c.if-self.false none (omega (arith, c.self.inside.buffer.ok.0)) in
    ((refl, λ _. tt, found.0), (let item = found.1 in record { item = item; rest = left_by _ _ c.self.view_is _ item; left = tt }))

pub returns-in-None-2 : goal.returns-in-None-2
returns-in-None-2 c =
    let start = c.self.inside.start in
    let searched = c.self.inside.searched in
    let bytes = c.self.inside.buffer.items in
    let inside : searched ≤ length bytes = omega (arith, c.self.inside.buffer.ok.0) in
    let behind : position is_lf (drop searched bytes) ≡ None = ap (position is_lf) (sym (from_place c.deref.result.now bytes searched c.deref.ensures.value)) ∙ sym c.find_byte.ensures.place ∙ c.in-None-2.is in
    let none = none_behind bytes start searched c.self.invariant.in_order inside c.self.invariant.no_lf behind in
    let size = length-drop start bytes in
    let found = next_of_rest c.self.inside.in_long_line start bytes _ c.self.view_is c.if-self.false none (omega (arith, c.self.inside.buffer.ok.0)) in
    ((refl, λ _. tt, c.self.view_is), (let item = found in record { item = item; rest = left_by _ _ c.self.view_is _ item; left = tt }))
