-- What the crates above may name of these proofs: tests of names, the place of a name among others, and one network of one account
-- without the others.
pub use Rattle.cluster_directory.proofs.NameLemmas.{same_name_is, same_name_itself, both_true}
pub use Rattle.cluster_directory.proofs.TermsLemmas.{same_if, there}
pub use Rattle.cluster_directory.proofs.AloneLemmas.{put_if, alone_entry, alone_secret, set_entry_in, set_entry_by_secret}
