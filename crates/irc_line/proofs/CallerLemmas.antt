-- What the crates above may name of these proofs.
pub use Rattle.irc_line.proofs.StreamLemmas.{items_line, items_rest}
pub use Rattle.irc_line.proofs.CallsLemmas.{taken-append, step, no_items}
pub use Rattle.irc_line.proofs.TextLemmas.{bytes_cut, good, good_append, reads_back}
pub use Rattle.irc_line.proofs.LinesLemmas.{no_lines, one_line, lines-append, lines-flat_map, lines-if, lines_cut, lines_read, no_space_append}
pub use Rattle.irc_line.proofs.WordLemmas.{no_space_from, is_middle, middle_from, no_space_above, no_bad_above}
pub use Rattle.irc_line.proofs.WholeLemmas.{read_parameters_whole}
pub use Rattle.irc_line.proofs.ReadLemmas.{read_ok}
