-- The line of a life that is written is read.
use Rattle.std.proofs.Common.{◌≡◌, ℕ, ◌+◌, ◌^◌, ◌≤◌, ◌<◌, true, false, Some, List, ◌++◌, codes, length, refl, ◌∙◌, ap, arith, length-append, take_at, drop_at, lit<}
use Rattle.std.specs.Prelude.{decimal, ◌&&◌, if◌then◌else◌, None}
use Rattle.std.specs.List.{list_all}
use Rattle.std.proofs.lemmas.Bool.{and_parts}
use Rattle.std.proofs.lemmas.Bool.Decides.{nat_tests}
use Rattle.std.proofs.lemmas.Fmt.{length-decimal-le}
use Rattle.byte_text.specs.Bytes.{line_ending}
use Rattle.byte_text.specs.Number.{number_to}
use Rattle.byte_text.specs.Words.{has_length_to}
use Rattle.byte_text.proofs.CallerLemmas.{number_read}
use Rattle.chat_change.specs.Words.{is_name, is_name_byte}
use Rattle.chat_change.specs.declared.words.TheConstants.{NAME_LIMIT}
use Rattle.change_lines.specs.Words.{is_space, has_space, is_text, behind}
use Rattle.change_lines.proofs.CallerLemmas.{behind_of, all_but, name_stands}
use Rattle.history_file.specs.Lives.{most, life_line, life_text, life_number, line_in, ending_in}

no_space : (b : ℕ) → is_name_byte b ≡ true → is_space b ≡ false
no_space b e = grind (arith, nat_tests)

module _ (node : List ℕ) (n : ℕ) (is : is_name node ≡ true) (fits : n < 2 ^ 64) where
  node_word : has_space node ≡ false
  node_word = all_but is_name_byte is_space no_space node (and_parts (has_length_to NAME_LIMIT node) (list_all is_name_byte node) is).1

  long : length (life_text node n) ≡ length (life_line node n) + 2
  long = length-append (life_line node n) line_ending

  line_is : line_in (life_text node n) ≡ life_line node n
  line_is = take_at (life_line node n) line_ending _ (omega (arith, long))

  ending_is : ending_in (life_text node n) ≡ line_ending
  ending_is = drop_at (life_line node n) line_ending _ (omega (arith, long))

  third : behind (behind (life_line node n)) ≡ decimal n
  third = ap behind (behind_of (codes "L") ((node ++ codes " ") ++ decimal n) refl) ∙ behind_of node (decimal n) node_word

  pub life_read : life_number (life_text node n) ≡ Some n
  life_read =
      ap (λ l. if true && is_text l line_ending then number_to most (behind (behind (line_in (life_text node n)))) else None) ending_is
      ∙ ap (λ l. number_to most (behind (behind l))) line_is
      ∙ ap (number_to most) third
      ∙ number_read n fits most (omega (arith, fits))

  pub life_fits : length (life_text node n) ≤ 99999999
  life_fits =
      let short = (name_stands node is).short in
      let digits = length-decimal-le 20 n (lit< tt) (omega (arith, fits)) fits in
      omega (arith, long, short, digits, length-append (codes "L" ++ codes " ") ((node ++ codes " ") ++ decimal n), length-append (node ++ codes " ") (decimal n), length-append node (codes " "))
