-- what a reader must believe: which bytes are a text, what a text says under each key and in all, names of
-- clusters, which entries of a list differ, and what a node begins with
pub mod Document
pub mod Values
pub mod Meaning
pub mod Keeper
pub mod Names
pub mod Naming
pub mod Differing
pub mod Beginnings
-- what the contracts of the readers cite besides
pub mod Sections
pub mod Parts
