use Rattle.std.proofs.Common.{rules, ◌≡◌, ◌≢◌, ◌∙◌, ◌-◌, ap, ap₂, arith, drop, length, refl, sym, subst}
use Rattle.std.proofs.lemmas.List.{length-take-le}
use Rattle.std.specs.Ordering.{nat_cmp}
use Rattle.chat_change.specs.ShortText.{IsWordOf}
use Rattle.chat_change.proofs.ShortTextLemmas.{in_front, lengths_tell, words_tell, no_bytes}
use Rattle.chat_change.proofs.short_text.ShortText.order.Goals as goal

pub returns-then-own-others : goal.returns-then-own-others
returns-then-own-others g c =
    let s = c.args.self.now in
    let t = c.args.other.now in
    let apart : c.first_word-own.result ≢ c.first_word-others.result = search rules in
    c.cmp.ensures ∙ words_tell 0 s t c.first_word-own.result c.first_word-others.result (no_bytes s) (no_bytes t) refl c.first_word-own.ensures c.first_word-others.ensures apart

pub returns-then-own_second-others_second : goal.returns-then-own_second-others_second
returns-then-own_second-others_second g c =
    let n = g.row.N in
    let s = c.args.self.now in
    let t = c.args.other.now in
    let m = c.first_word-own.result in
    let one : c.first_word-others.result ≡ m = search rules in
    let others = subst (IsWordOf t) one c.first_word-others.ensures in
    let own = c.second_word-own_second.ensures in
    let front = in_front n m s t own.covered c.first_word-own.ensures others in
    let apart : c.second_word-own_second.result ≢ c.second_word-others_second.result = search rules in
    c.cmp-then-own_second-others_second.ensures
    ∙ words_tell (n - 16) s t c.second_word-own_second.result c.second_word-others_second.result front.0 front.1 front.2 own.word c.second_word-others_second.ensures.word apart

pub returns : goal.returns
returns g c =
    let n = g.row.N in
    let s = c.args.self.now in
    let t = c.args.other.now in
    let own = c.self.inside in
    let others = c.other.inside in
    let one : c.first_word-others.result ≡ c.first_word-own.result = search rules in
    let two : c.second_word-others_second.result ≡ c.second_word-own_second.result = search rules in
    let long : length own.bytes ≡ n = search rules in
    let also_long : length others.bytes ≡ n = search rules in
    let own_length : length s ≡ own.length = ap length (sym c.self.view_is) ∙ length-take-le own.length own.bytes (omega (arith, long, c.self.invariant.1)) in
    let others_length : length t ≡ others.length = ap length (sym c.other.view_is) ∙ length-take-le others.length others.bytes (omega (arith, also_long, c.other.invariant.1)) in
    let first = subst (IsWordOf t) one c.first_word-others.ensures in
    let second = subst (IsWordOf (drop (n - 16) t)) two c.second_word-others_second.ensures.word in
    c.cmp-2.ensures
    ∙ sym (ap₂ nat_cmp own_length others_length)
    ∙ lengths_tell n c.first_word-own.result c.second_word-own_second.result s t c.self.invariant.0 (omega (arith, own_length, c.self.invariant.1)) (omega (arith, others_length, c.other.invariant.1)) c.first_word-own.ensures first c.second_word-own_second.ensures.word second
