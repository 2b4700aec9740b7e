-- The next line of what came over a connection.
use Rattle.std.proofs.Common.{◌≡◌, ◌<◌, ◌≤◌, ℕ, Bool, true, false, List, [], None, Some, length, take, position, refl, sym, ap, ◌∙◌, arith}
use Rattle.std.specs.Prelude.{if◌then◌else◌}
use Rattle.std.specs.Io.BufRead.{strip_last}
use Rattle.std.proofs.lemmas.Bool.{cond-true, cond-false, lt-ltb, le-ltb}
use Rattle.std.proofs.lemmas.List.{length-take}
use Rattle.irc_line.specs.Stream.{line, too_long, is_lf, Held, holding, skipping, bytes_of, first_item, items}
use Rattle.irc_line.proofs.CallerLemmas.{items_line, items_rest}

pub bytes-held : (flag : Bool) (bytes : List ℕ) (held : Held) → (if flag then skipping else holding bytes) ≡ held → (flag ≡ true → bytes ≡ []) → bytes_of held ≡ bytes
bytes-held false bytes held view none = ap bytes_of (sym view)
bytes-held true bytes held view none = ap bytes_of (sym view) ∙ sym (none refl)

pub line-next : (bytes : List ℕ) (at : ℕ) → position is_lf bytes ≡ Some at → at < 8703 → Some (line (strip_last 13 (take at bytes))) ≡ first_item (items bytes)
line-next bytes at e h =
    let size = length-take at bytes in
    sym (ap first_item (items_line bytes at e) ∙ ap Some (cond-true _ _ _ (lt-ltb (length (take at bytes)) 8703 (omega (arith, size, h)))))

pub long-next : (bytes : List ℕ) (at : ℕ) → position is_lf bytes ≡ Some at → 8703 ≤ at → at < length bytes → Some too_long ≡ first_item (items bytes)
long-next bytes at e h within =
    let size = length-take at bytes in
    sym (ap first_item (items_line bytes at e) ∙ ap Some (cond-false _ _ _ (le-ltb (length (take at bytes)) 8703 (omega (arith, size, h, within)))))

pub rest-next : (bytes : List ℕ) → position is_lf bytes ≡ None → 8703 ≤ length bytes → Some too_long ≡ first_item (items bytes)
rest-next bytes e h = sym (ap first_item (items_rest bytes e ∙ cond-false _ _ _ (le-ltb (length bytes) 8703 h)))

pub none-next : (bytes : List ℕ) → position is_lf bytes ≡ None → length bytes < 8703 → None ≡ first_item (items bytes)
none-next bytes e h = sym (ap first_item (items_rest bytes e ∙ cond-true _ _ _ (lt-ltb (length bytes) 8703 h)))
