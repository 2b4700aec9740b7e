use Rattle.std.proofs.Common.{◌+◌, ◌∙◌}
use Rattle.change_lines.proofs.WordsLemmas.{found_word, found_behind, whole_word, none_behind, to_the_end, none_to_the_end}
use Rattle.change_lines.proofs.words.split_word.Goals as goal

pub returns-in-Some-clause-word : goal.returns-in-Some-clause-word
returns-in-Some-clause-word c = found_word c.args.bytes.now c.in-Some.at c.in-Some.ensures.place

pub returns-in-Some-clause-behind : goal.returns-in-Some-clause-behind
returns-in-Some-clause-behind c =
    to_the_end (c.in-Some.at + 1) c.args.bytes.now ∙ found_behind c.args.bytes.now c.in-Some.at c.in-Some.ensures.place

pub returns-in-None-clause-word : goal.returns-in-None-clause-word
returns-in-None-clause-word c = whole_word c.args.bytes.now c.in-None.ensures.place

pub returns-in-None-clause-behind : goal.returns-in-None-clause-behind
returns-in-None-clause-behind c =
    none_to_the_end c.args.bytes.now ∙ none_behind c.args.bytes.now c.in-None.ensures.place
