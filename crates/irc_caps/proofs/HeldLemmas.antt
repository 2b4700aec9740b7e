-- What a list of words leaves held.
use Rattle.std.proofs.Common.{◌≡◌, ℕ, Bool, true, false, cond, ◌==◌, ◌⊎◌, inl, inr, List, [], ◌∷◌, ◌++◌, Option, None, Some, option_map, refl, sym, ap, ◌∙◌, subst, arith, codes, IsTrue, ◌↔◌}
use Rattle.std.specs.List.{find}
use Rattle.std.specs.Str.{bytes_eq, str_to_ascii_lowercase}
use Rattle.std.proofs.lemmas.Slice.Eq.{bytes_eq-Decides}
use Rattle.std.proofs.lemmas.Bool.{eqb-true}
use Rattle.irc_line.specs.Line.{Reading}
use Rattle.irc_caps.specs.declared.CapSet.{CapSet}
use Rattle.irc_caps.specs.declared.words.Wish.{Wish}
use Rattle.irc_caps.specs.declared.capability.Capability.{Capability}
use Rattle.irc_caps.specs.declared.capability.Capability.TheVariants.{Batch, Chathistory, MessageRedaction, ReadMarker, EchoMessage, MessageTags, ServerTime}
use Rattle.irc_caps.specs.Capability.{capabilities, name_of, capability_of}
use Rattle.irc_caps.specs.CapSet.{no_capabilities, holds, with_held}
use Rattle.irc_caps.specs.Words.{words_of, joined, is_acknowledged, wish_of, with_wish, with_words}
use Rattle.irc_caps.specs.Negotiation.{Negotiation, new, answer, cap_answer, ls, list, req, ended, invalid, ack, nak, is_same_word, list_in}
use Rattle.irc_caps.specs.Runs.{Input, after, run, asked, if_acknowledged, acknowledged_in, acknowledged, Names, NoneNames, IsAskedLast}

-- ---- names

named : (c : Capability) → capability_of (name_of c) ≡ Some c
unfolding capability_of
named Batch = refl
named Chathistory = refl
named MessageRedaction = refl
named ReadMarker = refl
named EchoMessage = refl
named MessageTags = refl
named ServerTime = refl

found : (p : Capability → Bool) (x : Capability) (xs : List Capability) (c : Capability) (b : Bool) → p x ≡ b
    → (find p xs ≡ Some c → p c ≡ true) → cond b (Some x) (find p xs) ≡ Some c → p c ≡ true
found p x xs c true e more h = let same : x ≡ c = cc in subst (λ (y : Capability). p y ≡ true) same e
found p x xs c false e more h = more h

passes_test : (p : Capability → Bool) (xs : List Capability) (c : Capability) → find p xs ≡ Some c → p c ≡ true
passes_test p [] c h = absurd (cc)
passes_test p (x ∷ xs) c h = found p x xs c (p x) refl (passes_test p xs c) h

name_is : (name : List ℕ) (c : Capability) → capability_of name ≡ Some c → name ≡ name_of c
unfolding capability_of
name_is name c h = (bytes_eq-Decides name (name_of c)).0 (passes_test (λ d. bytes_eq name (name_of d)) capabilities c h)

pub own_name : (name : List ℕ) (c : Capability) → (capability_of name ≡ Some c) ↔ (name ≡ name_of c)
own_name name c = (name_is name c, λ h. ap capability_of h ∙ named c)

first_byte : List ℕ → ℕ
first_byte [] = 0
first_byte (b ∷ bytes) = b

begins : (c : Capability) → (¬ (first_byte (name_of c) ≡ 45)) × (¬ (first_byte (name_of c) ≡ 0))
unfolding first_byte
begins Batch = (λ h. omega arith, λ h. omega arith)
begins Chathistory = (λ h. omega arith, λ h. omega arith)
begins MessageRedaction = (λ h. omega arith, λ h. omega arith)
begins ReadMarker = (λ h. omega arith, λ h. omega arith)
begins EchoMessage = (λ h. omega arith, λ h. omega arith)
begins MessageTags = (λ h. omega arith, λ h. omega arith)
begins ServerTime = (λ h. omega arith, λ h. omega arith)

no_minus : (c : Capability) (name : List ℕ) → ¬ (45 ∷ name ≡ name_of c)
unfolding first_byte
no_minus c name h = (begins c).0 (sym (ap first_byte h))

not_empty : (c : Capability) → ¬ ([] ≡ name_of c)
unfolding first_byte
not_empty c h = (begins c).1 (sym (ap first_byte h))

-- ---- one word

same_or_apart : (d c : Capability) → (d ≡ c) ⊎ ((¬ (d ≡ c)) × ((caps : CapSet) (is_held : Bool) → holds (with_held caps d is_held) c ≡ holds caps c))
same_or_apart Batch Batch = inl refl
same_or_apart Chathistory Chathistory = inl refl
same_or_apart MessageRedaction MessageRedaction = inl refl
same_or_apart ReadMarker ReadMarker = inl refl
same_or_apart EchoMessage EchoMessage = inl refl
same_or_apart MessageTags MessageTags = inl refl
same_or_apart ServerTime ServerTime = inl refl
same_or_apart _ _ = inr (λ h. absurd (cc), λ caps is_held. refl)

held_itself : (c : Capability) (caps : CapSet) (is_held : Bool) → holds (with_held caps c is_held) c ≡ is_held
held_itself Batch caps is_held = refl
held_itself Chathistory caps is_held = refl
held_itself MessageRedaction caps is_held = refl
held_itself ReadMarker caps is_held = refl
held_itself EchoMessage caps is_held = refl
held_itself MessageTags caps is_held = refl
held_itself ServerTime caps is_held = refl

-- what a word is to a capability, and what it does to it in any set
data Role (c : Capability) (word : List ℕ) : Type 0 where
  asks : word ≡ name_of c → ((caps : CapSet) → holds (with_wish caps (wish_of word)) c ≡ true) → Role c word
  gives_up : word ≡ 45 ∷ name_of c → ((caps : CapSet) → holds (with_wish caps (wish_of word)) c ≡ false) → Role c word
  passes : ¬ Names c word → ((caps : CapSet) → holds (with_wish caps (wish_of word)) c ≡ holds caps c) → Role c word

wish_behind_minus : (b : ℕ) (name : List ℕ) → (b == 45) ≡ true → wish_of (b ∷ name) ≡ option_map (λ c. record { capability = c; is_held = false }) (capability_of name)
wish_behind_minus b name e = rw e refl

wish_without_minus : (b : ℕ) (name : List ℕ) → (b == 45) ≡ false → wish_of (b ∷ name) ≡ option_map (λ c. record { capability = c; is_held = true }) (capability_of (b ∷ name))
wish_without_minus b name e = rw e refl

is_minus : (b : ℕ) → (b == 45) ≡ true → b ≡ 45
is_minus b h = eqb-true b 45 h

isn't_named : (c : Capability) (name : List ℕ) → capability_of name ≡ None → ¬ (name ≡ name_of c)
isn't_named c name h is = let e : capability_of name ≡ Some c = ap capability_of is ∙ named c in absurd (cc)

-- a word that begins with `-`
minus_same : (c d : Capability) (b : ℕ) (name : List ℕ) → (b == 45) ≡ true → capability_of name ≡ Some d
    → (d ≡ c) ⊎ ((¬ (d ≡ c)) × ((caps : CapSet) (is_held : Bool) → holds (with_held caps d is_held) c ≡ holds caps c)) → Role c (b ∷ name)
minus_same c d b name e h (inl same) =
    let is = is_minus b e in
    let wish : wish_of (b ∷ name) ≡ Some (record { capability = d; is_held = false }) = wish_behind_minus b name e ∙ ap (option_map (λ c. record { capability = c; is_held = false })) h in
    gives_up (ap (λ (n : ℕ). n ∷ name) is ∙ ap (λ (l : List ℕ). 45 ∷ l) (name_is name d h) ∙ ap (λ (k : Capability). 45 ∷ name_of k) same)
    (λ caps. ap (λ (w : Option Wish). holds (with_wish caps w) c) wish ∙ ap (λ (k : Capability). holds (with_held caps k false) c) same ∙ held_itself c caps false)
minus_same c d b name e h (inr apart) =
    let is = is_minus b e in
    let wish : wish_of (b ∷ name) ≡ Some (record { capability = d; is_held = false }) = wish_behind_minus b name e ∙ ap (option_map (λ c. record { capability = c; is_held = false })) h in
    passes (λ names. elim names [
      | inl k ↦ no_minus c name (ap (λ (n : ℕ). n ∷ name) (sym is) ∙ k)
      | inr k ↦ let same : name ≡ name_of c = cc in let both : Some d ≡ Some c = sym h ∙ ap capability_of same ∙ named c in let one : d ≡ c = cc in apart.0 one
    ])
    (λ caps. ap (λ (w : Option Wish). holds (with_wish caps w) c) wish ∙ apart.1 caps false)

minus_role : (c : Capability) (b : ℕ) (name : List ℕ) → (b == 45) ≡ true → (known : Option Capability) → capability_of name ≡ known → Role c (b ∷ name)
minus_role c b name e None h =
    let is = is_minus b e in
    let wish : wish_of (b ∷ name) ≡ None = wish_behind_minus b name e ∙ ap (option_map (λ c. record { capability = c; is_held = false })) h in
    passes (λ names. elim names [
      | inl k ↦ no_minus c name (ap (λ (n : ℕ). n ∷ name) (sym is) ∙ k)
      | inr k ↦ let same : name ≡ name_of c = cc in isn't_named c name h same
    ])
    (λ caps. ap (λ (w : Option Wish). holds (with_wish caps w) c) wish)
minus_role c b name e (Some d) h = minus_same c d b name e h (same_or_apart d c)

-- any other word
plain_same : (c d : Capability) (b : ℕ) (name : List ℕ) → (b == 45) ≡ false → capability_of (b ∷ name) ≡ Some d
    → (d ≡ c) ⊎ ((¬ (d ≡ c)) × ((caps : CapSet) (is_held : Bool) → holds (with_held caps d is_held) c ≡ holds caps c)) → Role c (b ∷ name)
plain_same c d b name e h (inl same) =
    let wish : wish_of (b ∷ name) ≡ Some (record { capability = d; is_held = true }) = wish_without_minus b name e ∙ ap (option_map (λ c. record { capability = c; is_held = true })) h in
    asks (name_is (b ∷ name) d h ∙ ap name_of same)
    (λ caps. ap (λ (w : Option Wish). holds (with_wish caps w) c) wish ∙ ap (λ (k : Capability). holds (with_held caps k true) c) same ∙ held_itself c caps true)
plain_same c d b name e h (inr apart) =
    let wish : wish_of (b ∷ name) ≡ Some (record { capability = d; is_held = true }) = wish_without_minus b name e ∙ ap (option_map (λ c. record { capability = c; is_held = true })) h in
    passes (λ names. elim names [
      | inl k ↦ let both : Some d ≡ Some c = sym h ∙ ap capability_of k ∙ named c in let one : d ≡ c = cc in apart.0 one
      | inr k ↦ let is : b ≡ 45 = cc in let no_test : true ≡ false = ap (λ (n : ℕ). n == 45) (sym is) ∙ e in absurd (cc)
    ])
    (λ caps. ap (λ (w : Option Wish). holds (with_wish caps w) c) wish ∙ apart.1 caps true)

plain_role : (c : Capability) (b : ℕ) (name : List ℕ) → (b == 45) ≡ false → (known : Option Capability) → capability_of (b ∷ name) ≡ known → Role c (b ∷ name)
plain_role c b name e None h =
    let wish : wish_of (b ∷ name) ≡ None = wish_without_minus b name e ∙ ap (option_map (λ c. record { capability = c; is_held = true })) h in
    passes (λ names. elim names [
      | inl k ↦ isn't_named c (b ∷ name) h k
      | inr k ↦ let is : b ≡ 45 = cc in let no_test : true ≡ false = ap (λ (n : ℕ). n == 45) (sym is) ∙ e in absurd (cc)
    ])
    (λ caps. ap (λ (w : Option Wish). holds (with_wish caps w) c) wish)
plain_role c b name e (Some d) h = plain_same c d b name e h (same_or_apart d c)

role_by : (c : Capability) (b : ℕ) (name : List ℕ) (t : Bool) → (b == 45) ≡ t → Role c (b ∷ name)
role_by c b name true e = minus_role c b name e (capability_of name) refl
role_by c b name false e = plain_role c b name e (capability_of (b ∷ name)) refl

role : (c : Capability) (word : List ℕ) → Role c word
role c [] = passes (λ names. elim names [ inl k ↦ not_empty c k | inr k ↦ absurd (cc) ]) (λ caps. refl)
role c (b ∷ name) = role_by c b name (b == 45) refl

-- ---- a list of words

abbrev Last : Capability → CapSet → List (List ℕ) → Type 0
Last c caps words = IsAskedLast c words ⊎ ((holds caps c ≡ true) × NoneNames c words)

last_held : (c : Capability) (caps : CapSet) (word : List ℕ) (words : List (List ℕ)) → Role c word
    → (holds (with_wish caps (wish_of word)) c ≡ true) × NoneNames c words → Last c caps (word ∷ words)
last_held c caps word words (asks is on) h = inl ([], words, ap (λ (w : List ℕ). w ∷ words) is, h.1)
last_held c caps word words (gives_up is off) h = let no_test : false ≡ true = sym (off caps) ∙ h.0 in absurd (cc)
last_held c caps word words (passes other same) h = inr (sym (same caps) ∙ h.0, (other, h.1))

to_last : (c : Capability) (words : List (List ℕ)) (caps : CapSet) → holds (with_words caps words) c ≡ true → Last c caps words
to_last c [] caps h = inr (h, tt)
to_last c (word ∷ words) caps h = elim (to_last c words (with_wish caps (wish_of word)) h) [
  | inl l ↦ inl (word ∷ l.0, l.1, ap (λ (rest : List (List ℕ)). word ∷ rest) l.2, l.3)
  | inr k ↦ last_held c caps word words (role c word) k
]

on_by : (c : Capability) (caps : CapSet) (word : List ℕ) → Role c word → word ≡ name_of c → holds (with_wish caps (wish_of word)) c ≡ true
on_by c caps word (asks is on) h = on caps
on_by c caps word (gives_up is off) h = absurd (no_minus c (name_of c) (sym is ∙ h))
on_by c caps word (passes other same) h = absurd (other (inl h))

kept_by : (c : Capability) (caps : CapSet) (word : List ℕ) → Role c word → ¬ Names c word → holds caps c ≡ true → holds (with_wish caps (wish_of word)) c ≡ true
kept_by c caps word (asks is on) other h = on caps
kept_by c caps word (gives_up is off) other h = absurd (other (inr is))
kept_by c caps word (passes not_this same) other h = same caps ∙ h

no_end : (before later : List (List ℕ)) (word : List ℕ) → ¬ ([] ≡ before ++ word ∷ later)
no_end [] later word h = absurd (cc)
no_end (b ∷ before) later word h = absurd (cc)

from_kept : (c : Capability) (words : List (List ℕ)) (caps : CapSet) → holds caps c ≡ true → NoneNames c words → holds (with_words caps words) c ≡ true
from_kept c [] caps h none = h
from_kept c (word ∷ words) caps h none = from_kept c words (with_wish caps (wish_of word)) (kept_by c caps word (role c word) none.0 h) none.1

from_split : (c : Capability) (words : List (List ℕ)) (caps : CapSet) (before later : List (List ℕ)) → words ≡ before ++ name_of c ∷ later → NoneNames c later
    → holds (with_words caps words) c ≡ true
from_split c [] caps before later e none = absurd (no_end before later (name_of c) e)
from_split c (word ∷ words) caps [] later e none =
    let is : word ≡ name_of c = cc in
    let rest : words ≡ later = cc in
    from_kept c words (with_wish caps (wish_of word)) (on_by c caps word (role c word) is) (subst (λ (l : List (List ℕ)). NoneNames c l) (sym rest) none)
from_split c (word ∷ words) caps (b ∷ before) later e none =
    let rest : words ≡ before ++ name_of c ∷ later = cc in
    from_split c words (with_wish caps (wish_of word)) before later rest none

-- ---- lists of lines

with_words-append : (words more : List (List ℕ)) (caps : CapSet) → with_words caps (words ++ more) ≡ with_words (with_words caps words) more
with_words-append [] more caps = refl
with_words-append (word ∷ words) more caps = with_words-append words more (with_wish caps (wish_of word))

apart_words : (word : List ℕ) (a b : List ℕ) → bytes_eq (str_to_ascii_lowercase a) (str_to_ascii_lowercase b) ≡ false → is_same_word word a ≡ true → is_same_word word b ≡ false
apart_words word a b apart h = ap (λ (t : List ℕ). bytes_eq t (str_to_ascii_lowercase b)) ((bytes_eq-Decides (str_to_ascii_lowercase word) (str_to_ascii_lowercase a)).0 h) ∙ apart

module _ (cluster nick : List ℕ) (n : Negotiation) where
  req_caps : (words : List (List ℕ)) (t : Bool) → (cond t (ack cluster nick n words) (nak cluster nick n (joined words))).negotiation.caps ≡ with_words n.caps (cond t words [])
  req_caps words true = refl
  req_caps words false = refl

  by_subcommand : (subcommand : List ℕ) (parameters : List (List ℕ)) (is_ls is_list is_req is_end : Bool) → (is_ls ≡ true → is_req ≡ false) → (is_list ≡ true → is_req ≡ false)
      → (cond is_ls (ls cluster nick n) (cond is_list (list cluster nick n) (cond is_req (req cluster nick n parameters) (cond is_end (ended n) (invalid cluster nick n subcommand))))).negotiation.caps
      ≡ with_words n.caps (if_acknowledged (cond is_req (words_of (list_in parameters)) []))
  by_subcommand subcommand parameters true is_list is_req is_end not_ls not_list = rw (not_ls refl) refl
  by_subcommand subcommand parameters false true is_req is_end not_ls not_list = rw (not_list refl) refl
  by_subcommand subcommand parameters false false true is_end not_ls not_list = req_caps (words_of (list_in parameters)) (is_acknowledged (words_of (list_in parameters)))
  by_subcommand subcommand parameters false false false true not_ls not_list = refl
  by_subcommand subcommand parameters false false false false not_ls not_list = refl

  cap_caps : (parameters : List (List ℕ)) → (cap_answer cluster nick n parameters).negotiation.caps ≡ with_words n.caps (if_acknowledged (asked parameters))
  cap_caps [] = refl
  cap_caps (subcommand ∷ parameters) =
      by_subcommand subcommand parameters _ _ _ _ (apart_words subcommand (codes "LS") (codes "REQ") refl) (apart_words subcommand (codes "LIST") (codes "REQ") refl)

  by_command : (parameters : List (List ℕ)) (t : Bool) → (cond t (cap_answer cluster nick n parameters) (record { negotiation = n; line = None })).negotiation.caps
      ≡ with_words n.caps (cond t (if_acknowledged (asked parameters)) [])
  by_command parameters true = cap_caps parameters
  by_command parameters false = refl

  line_caps : (line : Reading) → (answer cluster nick n line).negotiation.caps ≡ with_words n.caps (acknowledged_in line)
  line_caps line = by_command line.parameters (is_same_word line.command (codes "CAP"))

run_caps : (inputs : List Input) (n : Negotiation) → (run n inputs).caps ≡ with_words n.caps (acknowledged inputs)
run_caps [] n = refl
run_caps (i ∷ inputs) n =
    run_caps inputs (after n i)
    ∙ ap (λ (caps : CapSet). with_words caps (acknowledged inputs)) (line_caps i.cluster i.nick n i.line)
    ∙ sym (with_words-append (acknowledged_in i.line) (acknowledged inputs) n.caps)

none_held : (c : Capability) → holds no_capabilities c ≡ false
none_held Batch = refl
none_held Chathistory = refl
none_held MessageRedaction = refl
none_held ReadMarker = refl
none_held EchoMessage = refl
none_held MessageTags = refl
none_held ServerTime = refl

pub last_word_counts : (inputs : List Input) (c : Capability) → IsTrue (holds (run new inputs).caps c) ↔ IsAskedLast c (acknowledged inputs)
last_word_counts inputs c = (
  λ h. elim (to_last c (acknowledged inputs) no_capabilities (ap (λ (caps : CapSet). holds caps c) (sym (run_caps inputs new)) ∙ h)) [
    | inl l ↦ l
    | inr k ↦ let no_test : false ≡ true = sym (none_held c) ∙ k.0 in absurd (cc)
  ],
  λ l. ap (λ (caps : CapSet). holds caps c) (run_caps inputs new) ∙ from_split c (acknowledged inputs) no_capabilities l.0 l.1 l.2 l.3,
)
