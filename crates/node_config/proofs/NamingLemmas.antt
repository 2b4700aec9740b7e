-- The document that bytes spell, by what reading them answers.
use Rattle.std.proofs.Common.{◌≡◌, ℕ, true, false, List, Option, Some, None, refl, ap}
use Rattle.std.specs.Prelude.{if◌then◌else◌, IsSome, IsSomeAnd}
use Rattle.std.specs.Str.{IsUtf8, is_utf8}
use Rattle.std.proofs.lemmas.Str.{IsUtf8-from_is_utf8, is_utf8-from_IsUtf8}
use Rattle.toml.specs.Data.{Members}
use Rattle.toml.specs.Parse.{parse_document}
use Rattle.node_config.specs.Document.{IsDocument}
use Rattle.node_config.specs.Naming.{document_of}

nothing : {A : Type 0} (o : Option A) → ¬ (IsSome o) → o ≡ None
nothing None none = refl
nothing (Some x) none = absurd (none refl)

-- bytes that are no document spell none
pub no_document : (bytes : List ℕ) → ¬ (IsDocument bytes) → document_of bytes ≡ None
no_document bytes none =
    elim (is_utf8 bytes) as (λ b. is_utf8 bytes ≡ b → (if b then parse_document bytes else None) ≡ None) [
      | true ↦ λ text. nothing (parse_document bytes) (λ some. none (IsUtf8-from_is_utf8 bytes text, some))
      | false ↦ λ text. refl
    ] refl

the_value : (o : Option Members) (document : Members) → IsSomeAnd o (λ d. d ≡ document) → o ≡ Some document
the_value None document is = absurd is
the_value (Some d) document is = ap Some is

-- UTF-8 that is read as a document spells it
pub the_document : (bytes : List ℕ) (document : Members) → IsUtf8 bytes → IsSomeAnd (parse_document bytes) (λ d. d ≡ document)
    → document_of bytes ≡ Some document
the_document bytes document text is = rw (is_utf8-from_IsUtf8 bytes text) (the_value (parse_document bytes) document is)
