use Rattle.std.proofs.Common.{◌≡◌, ◌++◌, length, map, take, drop}
use Rattle.upstream_session.specs.Refusal.{shown}
use Rattle.upstream_session.specs.declared.refusal.TheConstants.{MOST_WORDS}
use Rattle.upstream_session.proofs.refusal.shown_words.Given as goal

abbrev pub invariant-loop-byte : goal.invariant-loop-byte
invariant-loop-byte l = record {
  room : length l.words ≡ MOST_WORDS;
  count : l.count ≡ l.byte-index;
  words : take l.count l.words ++ map shown (drop l.byte-index l.byte-items) ≡ map shown l.byte-items;
}
