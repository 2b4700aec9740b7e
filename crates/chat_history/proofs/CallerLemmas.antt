-- What the crates above may name of these proofs.

-- the first of a list, members of lists and of maps, sorted lists
pub use Rattle.chat_history.proofs.ChoiceLemmas.{le_self, min_is, min_left, min_right}
pub use Rattle.chat_history.proofs.MemberLemmas.{among, contained, member}
pub use Rattle.chat_history.proofs.MemberLemmas.{among-filter, among_passing, among-filter_map, among_made, mapped, image}
pub use Rattle.chat_history.proofs.MemberLemmas.{first_alike, none_first}
pub use Rattle.chat_history.proofs.EntryLemmas.{valued, value_among, got, get_entry, ordered_member, member_ordered, ordered_by_key}
pub use Rattle.chat_history.proofs.SortedLemmas.{filter_alike, sorted_alike, less_upto, from_member, passing_from, none_passing}
pub use Rattle.chat_history.proofs.SortedLemmas.{sorted_reverse, among-reverse, reverse_among}
-- the normal form of a set of changes, and its pieces
pub use Rattle.chat_history.proofs.PieceLemmas.{Bears, from_entries_keyed, norm_keyed, get-norm, piece_bears, piece_none}
pub use Rattle.chat_history.proofs.PieceLemmas.{key_of-floor_change}
pub use Rattle.chat_history.proofs.PieceLemmas.{bearers_of-changes_of}
pub use Rattle.chat_history.proofs.SetLemmas.{norm_left, norm_of_set, norm-changes_of}
pub use Rattle.chat_history.proofs.NormLemmas.{mark-norm, floor-norm, account_floor-norm, latest_total, latest_exact}
pub use Rattle.chat_history.proofs.NormReadLemmas.{gone-norm, position-norm, position_in-norm}
pub use Rattle.chat_history.proofs.StandingLemmas.{among-bearers_of, most_greatest}
-- the visible records of a buffer
pub use Rattle.chat_history.proofs.VisibleLemmas.{spot_total, rising_total, change_held, held_change}
pub use Rattle.chat_history.proofs.VisibleLemmas.{record_of, of_record, records_sorted}
-- buffers in their order
pub use Rattle.chat_history.proofs.BuffersLemmas.{in_order_member, member_in_order, buffers_sorted}
-- the moment of the latest of a buffer's records, and the buffers that have a record
pub use Rattle.chat_history.proofs.LatestLemmas.{latest_among, among_latest, made_post, record_post, listed_record, record_listed}
-- no record of a normal form lies below the floor of its buffer
pub use Rattle.chat_history.proofs.StoredLemmas.{not_below}
-- what one more change does to a normal form and to its numbers
pub use Rattle.chat_history.proofs.StepLemmas.{floor_set}
pub use Rattle.chat_history.proofs.AbsorbLemmas.{append_none, get_after, get_floor, low_floor, own_floor_is, get_is_piece}
pub use Rattle.chat_history.proofs.AbsorbLemmas.{new_form_differs, first_form_bears, new_form_bears}
pub use Rattle.chat_history.proofs.AbsorbLemmas.{key_of-remainder, same_buffer_from, same_buffer_is, same_account_is, same_account_itself}
pub use Rattle.chat_history.proofs.NumberLemmas.{get-numbers, get-numbers_after}
pub use Rattle.chat_history.proofs.HeldLemmas.{held_counted, held_same}
-- the test of two histories
pub use Rattle.chat_history.proofs.SameLemmas.{same_history_decides}
-- what is visible was posted, and a marker was set
pub use Rattle.chat_history.proofs.PostedLemmas.{visible_posted}
pub use Rattle.chat_history.proofs.StandingLemmas.{mark_greatest}
pub use Rattle.chat_history.proofs.PostedLemmas.{IsPostedAt, all_latest_posted}
-- what a set includes, and the numbers of pieces after one more change
pub use Rattle.chat_history.proofs.SetLemmas.{norm_right, norm_swap}
pub use Rattle.chat_history.proofs.IncludesLemmas.{Includes-more, Includes-member, includes_all}
pub use Rattle.chat_history.proofs.PieceStepLemmas.{piece_step, front_rises, front_grows, on_and_on}
pub use Rattle.chat_history.proofs.PieceStepLemmas.{number_above, number_within, number_tells}
-- who is up to date with whom, and what a delta has
pub use Rattle.chat_history.proofs.DeltaLemmas.{UpTo-more, UpTo-later, UpTo-delta, UpTo-start}
pub use Rattle.chat_history.proofs.DeltaLemmas.{delta_within, delta_all, delta_further, same_at_fronts}
-- pieces under their numbers, and those that are newer than a number
pub use Rattle.chat_history.proofs.DeltaLemmas.{IsPiece, pieces_held, numbered, entry_is, by_number, all, all_sorted, all_has}
pub use Rattle.chat_history.proofs.NumberedEntryLemmas.{all_found, number_is, greatest_more}
