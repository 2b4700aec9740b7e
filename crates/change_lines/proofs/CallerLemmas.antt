-- What the crates above may name of these proofs: lines of words and numbers, of which what is written is read, and what is
-- read is what is written. And which texts end no line.
pub use Rattle.change_lines.proofs.TestLemmas.{text_is}
pub use Rattle.change_lines.proofs.WordsLemmas.{word_of, behind_of, rejoined}
pub use Rattle.change_lines.proofs.WordsLemmas.{first_words, behind_words, HaveNoSpace}
pub use Rattle.change_lines.proofs.WordsLemmas.{words_cut, last_cut, filled_words, words_rejoined}
pub use Rattle.change_lines.proofs.NumberLemmas.{decimal_filled, decimal_no_space, decimal_last}
pub use Rattle.change_lines.proofs.ReadBackLemmas.{read_back}
pub use Rattle.change_lines.proofs.SpellingLemmas.{one_spelling, own_fault}
pub use Rattle.change_lines.proofs.StandsLemmas.{Stands, stands-append, stands_to, change_stands}
pub use Rattle.change_lines.proofs.StandsLemmas.{name_stands, decimal_stands, word_good, short_to, any_weaker, all_but}
