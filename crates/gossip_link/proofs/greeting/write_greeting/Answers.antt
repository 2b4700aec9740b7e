use Rattle.std.proofs.Common.{◌≡◌, ℕ, List, ◌++◌, ◌∙◌, refl}
use Rattle.byte_text.proofs.CallerLemmas.{prefix_of_first, prefix_same, writes_second, writes_failed, writes_same}
use Rattle.cluster_directory.specs.Life.{Life}
use Rattle.peer_lines.specs.Spelling.{written}
use Rattle.cluster_directory.specs.declared.version.Version.{Version}
use Rattle.peer_lines.specs.declared.peer_line.PeerLine.TheVariants.{Word, Hello}
use Rattle.cluster_directory.specs.Terms.{Terms, version_for}
use Rattle.gossip_link.specs.Session.{greeting}
use Rattle.gossip_link.proofs.greeting.write_greeting.Goals as goal

parts : (t : Terms) (place : ℕ) (word : List ℕ) (me : Life) (version : Version) → word ≡ t.word → me ≡ t.me → version ≡ version_for t place → written (Word word) ++ written (Hello me version) ≡ greeting t place
parts t place word me version p q r = λ i. written (Word (p i)) ++ written (Hello (q i) (r i))

pub returns-in_err-write_word : goal.returns-in_err-write_word
returns-in_err-write_word g c =
    writes_failed _ _ _ _ c.from_residual.result c.from_residual.ensures.1
    (prefix_same _ _ _ _ (parts c.args.terms.now c.args.place c.as_bytes.result.now c.args.terms.now.me (version_for c.args.terms.now c.args.place) (c.as_bytes.ensures.value ∙ c.word.ensures) refl refl)
    (prefix_of_first _ _ _ _ c.in_err-write_word.ensures))

pub returns : goal.returns
returns g c =
    writes_same _ _ _ _ c.write_hello.result (parts c.args.terms.now c.args.place c.as_bytes.result.now c.me.result.now c.version_for.result (c.as_bytes.ensures.value ∙ c.word.ensures) c.me.ensures c.version_for.ensures)
    (writes_second _ _ _ _ _ c.write_hello.result c.in_ok-write_word.ensures c.write_hello.ensures)
