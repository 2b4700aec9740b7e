-- What a client reads of the tags of a record's line.
use Rattle.std.proofs.Common.{◌≡◌, ℕ, ◌+◌, ◌%◌, ◌^◌, ◌≤◌, ◌<◌, Bool, true, false, not, cond, ◌&&◌, ◌==◌, codes, List, [], ◌∷◌, ◌++◌, length, map, Option, None, Some, refl, sym, ap, ◌∙◌, subst, arith, append_assoc, append-nil, length-append, lit<}
use Rattle.std.specs.Prelude.{IfSome}
use Rattle.std.specs.List.{All, AllByRecursion, IsDistinct}
use Rattle.std.specs.Fmt.{decimal}
use Rattle.std.proofs.lemmas.Bool.Decides.{nat_tests}
use Rattle.std.proofs.lemmas.Fmt.{decimal_by_steps}
use Rattle.std.proofs.lemmas.List.Elements.{All-nil, All-cons, All-head, All-tail, All-from_recursion}
use Rattle.irc_caps.specs.declared.CapSet.{CapSet}
use Rattle.irc_line.specs.declared.line.TagLimit.TheVariants.{Server}
use Rattle.irc_line.specs.Line.{tag_limit}
use Rattle.irc_line.specs.Text.{tags_text as before_line}
use Rattle.irc_line.specs.CanStand.{CanBeTags}
use Rattle.irc_tags.specs.Value.{byte_spelling, value_text}
use Rattle.irc_tags.specs.TagList.{Tag, same_bytes}
use Rattle.irc_tags.specs.Text.{value_part, tag_text, tags_text}
use Rattle.irc_tags.specs.Standing.{ends_key, IsKey, CanStand, is_client_only}
use Rattle.irc_tags.proofs.CallerLemmas.{tag_list-tags_text}
use Rattle.irc_time.specs.Time.{digit, text}
use Rattle.irc_time.specs.Text.{time_text}
use Rattle.irc_time.proofs.CallerLemmas.{moment_text, time_shape}
use Rattle.chat_change.specs.Record.{Record}
use Rattle.chat_change.specs.Lawful.{IsLawfulRecord}
use Rattle.irc_caps.specs.Words.{only_if}
use Rattle.chat_query.specs.Tags.{tag_part, own_tags, batch_tags, message_tags}
use Rattle.chat_query.specs.Message.{message_line, record_text, live_text}
use Rattle.chat_query.specs.Reference.{reference_text, greatest_reference}
use Rattle.chat_query.specs.Told.{HasOwn, tag_if, told_of, told_in_batch, TellsTags}
use Rattle.chat_query.proofs.WordLemmas.{id_bytes}
use Rattle.chat_query.proofs.ReferenceLemmas.{reference_stands}
use Rattle.chat_query.proofs.LinesLemmas.{IsTag, behind, data_of, total, part_is, data_stands, message_stand, live_size, record_stand, record_size}

-- ---- values without escapes

-- a byte that stands for itself
abbrev IsPlain : ℕ → Type 0
IsPlain b = byte_spelling b ≡ b ∷ []

plain_digit : (b : ℕ) → 48 ≤ b → b ≤ 57 → IsPlain b
plain_digit b low high = grind (arith, nat_tests)

plain_text : (bytes : List ℕ) → AllByRecursion IsPlain bytes → value_text bytes ≡ bytes
plain_text [] all = refl
plain_text (b ∷ bytes) all = λ i. all.0 i ++ plain_text bytes all.1 i

plain_time : (t : ℕ) → IsPlain (digit t)
plain_time t = plain_digit (digit t) (omega arith) (omega arith)

plain_moment : (r : Record) → IsLawfulRecord r → value_text (time_text r.at) ≡ time_text r.at
plain_moment r is =
    let spelled = moment_text r.at is.at in
    subst (λ l. value_text l ≡ l) (sym spelled.spelled) (plain_text (text spelled.fields) (
      plain_time _,
      (
        plain_time _,
        (
          plain_time _,
          (
            plain_time _,
            (
              refl,
              (
                plain_time _,
                (
                  plain_time _,
                  (
                    refl,
                    (
                      plain_time _,
                      (
                        plain_time _,
                        (
                          refl,
                          (plain_time _, (plain_time _, (refl, (plain_time _, (plain_time _, (refl, (plain_time _, (plain_time _, (refl, (plain_time _, (plain_time _, (plain_time _, (refl, tt))))))))))))),
                        ),
                      ),
                    ),
                  ),
                ),
              ),
            ),
          ),
        ),
      ),
    ))

plain_numeral : (n : ℕ) → n < 2 ^ 64 → AllByRecursion IsPlain (decimal n)
plain_numeral n h = decimal_by_steps (λ _ ds. AllByRecursion IsPlain ds) (λ k small. (plain_digit (48 + k) (omega arith) (omega arith), tt))
    (λ k ds big all. push ds (48 + k % 10) all (plain_time k)) n h where
      push : (ds : List ℕ) (d : ℕ) → AllByRecursion IsPlain ds → IsPlain d → AllByRecursion IsPlain (ds ++ d ∷ [])
      push [] d all plain = (plain, tt)
      push (b ∷ ds) d all plain = (all.0, push ds d all.1 plain)

plain_reference : (n : ℕ) → n ≤ greatest_reference → value_text (reference_text n) ≡ reference_text n
plain_reference n h = plain_text (codes "r" ++ decimal n) (refl, plain_numeral n (omega arith))

some_value : (value : List ℕ) → 0 < length value → codes "=" ++ value_text value ≡ value_part value
some_value [] h = absurd (omega arith)
some_value (b ∷ value) h = refl

-- ---- tags as they are joined

-- what stands behind a tag, and the data of a list of tags
behind_tag : List Tag → List ℕ
behind_tag [] = []
behind_tag (tag ∷ tags) = codes ";" ++ tags_text (tag ∷ tags)

data_told : List Tag → Option (List ℕ)
data_told [] = None
data_told (tag ∷ tags) = Some (tags_text (tag ∷ tags))

first_tag : (tag : Tag) (tags : List Tag) → tags_text (tag ∷ tags) ≡ tag_text tag ++ behind_tag tags
unfolding behind_tag
first_tag tag [] = sym (append-nil (tag_text tag))
first_tag tag (other ∷ tags) = refl

-- the own tags of a record stand as one piece
abbrev own_piece : List ℕ → List (List ℕ)
own_piece text = only_if (not (length text == 0)) text

some_text : (tag : Tag) (tags : List Tag) → IsKey tag.0 → not (length (tags_text (tag ∷ tags)) == 0) ≡ true
some_text tag tags key =
    let some : 0 < length (tag.0 ++ (value_part tag.1 ++ behind_tag tags)) = omega (arith, key.0, length-append tag.0 (value_part tag.1 ++ behind_tag tags)) in
    let same : tags_text (tag ∷ tags) ≡ tag.0 ++ (value_part tag.1 ++ behind_tag tags) = first_tag tag tags ∙ append_assoc tag.0 (value_part tag.1) (behind_tag tags) in
    above (tags_text (tag ∷ tags)) (subst (λ l. 0 < length l) (sym same) some)
  where
    above : (l : List ℕ) → 0 < length l → not (length l == 0) ≡ true
    above l h = grind arith

-- the pieces are these tags as they are written, with `;` between them
record AreJoined (pieces : List (List ℕ)) (tags : List Tag) : Type 0 where
  behind_is : behind pieces ≡ behind_tag tags
  data_is : data_of pieces ≡ data_told tags

joined_own : (own : List Tag) → CanStand own → AreJoined (own_piece (tags_text own)) own
unfolding behind data_of behind_tag data_told
joined_own [] stand = record { behind_is = refl; data_is = refl }
joined_own (tag ∷ tags) stand =
    let some = some_text tag tags (All-head (λ t. IsKey t.0) tag tags stand.1) in
    record {
      behind_is = ap (λ b. behind (only_if b (tags_text (tag ∷ tags)))) some ∙ ap (λ l. codes ";" ++ l) (append-nil (tags_text (tag ∷ tags)));
      data_is = ap (λ b. data_of (only_if b (tags_text (tag ∷ tags)))) some ∙ ap Some (append-nil (tags_text (tag ∷ tags)));
    }

joined_if : (flag : Bool) (key value piece : List ℕ) (pieces : List (List ℕ)) (tags : List Tag) → piece ≡ key ++ value_part value → AreJoined pieces tags
    → AreJoined (only_if flag piece ++ pieces) (tag_if flag key value ++ tags)
unfolding behind data_of behind_tag data_told
joined_if false key value piece pieces tags e joined = joined
joined_if true key value piece pieces tags e joined =
    let same : piece ++ behind pieces ≡ tags_text ((key, value) ∷ tags) = (λ i. e i ++ joined.behind_is i) ∙ sym (first_tag (key, value) tags) in
    record { behind_is = ap (λ l. codes ";" ++ l) same; data_is = ap Some same }

-- what they tell before a line
told_before : (pieces : List (List ℕ)) (tags : List Tag) (line : List ℕ) → AreJoined pieces tags → CanStand tags → AllByRecursion IsTag pieces → total pieces ≤ tag_limit Server
    → TellsTags (tag_part pieces ++ line) line tags
unfolding data_told
told_before pieces [] line joined stand all most = ap (λ l. l ++ line) (part_is pieces ∙ ap before_line joined.data_is)
told_before pieces (tag ∷ tags) line joined stand all most =
    let bytes = tags_text (tag ∷ tags) in
    let can : CanBeTags Server bytes = subst (λ o. IfSome o (CanBeTags Server)) joined.data_is (data_stands Server pieces all most) in (
      bytes,
      can.0,
      ap (λ l. l ++ line) (part_is pieces ∙ ap before_line joined.data_is) ∙ ap (λ l. codes "@" ++ l) (append_assoc bytes (codes " ") line),
      tag_list-tags_text (tag ∷ tags) stand,
    )

-- ---- keys

-- no tag has the key
abbrev IsNew : List ℕ → List Tag → Type 0
IsNew key tags = AllByRecursion (λ y. same_bytes key y ≡ false) (map (λ t. t.0) tags)

stand_if : (flag : Bool) (key value : List ℕ) (rest : List Tag) → IsKey key → IsNew key rest → CanStand rest → CanStand (tag_if flag key value ++ rest)
unfolding IsDistinct
stand_if true key value rest is new stand = ((new, stand.0), All-cons (λ t. IsKey t.0) (key, value) rest is stand.1)
stand_if false key value rest is new stand = stand

new_if : (flag : Bool) (key other value : List ℕ) (rest : List Tag) → same_bytes key other ≡ false → IsNew key rest → IsNew key (tag_if flag other value ++ rest)
new_if true key other value rest apart new = (apart, new)
new_if false key other value rest apart new = new

-- a key without `+` isn't one of a client-only tag
new_own : (b : ℕ) (key : List ℕ) → (b == 43) ≡ false → (own : List Tag) → All (λ tag. is_client_only tag.0 ≡ true) own → IsNew (b ∷ key) own
new_own b key apart [] all = tt
new_own b key apart (tag ∷ own) all =
    (other tag.0 (All-head (λ tag. is_client_only tag.0 ≡ true) tag own all), new_own b key apart own (All-tail (λ tag. is_client_only tag.0 ≡ true) tag own all)) where
      other : (k : List ℕ) → is_client_only k ≡ true → same_bytes (b ∷ key) k ≡ false
      other [] e = refl
      other (c ∷ k) e = grind (arith, nat_tests)

own_if : (flag : Bool) (P : List Tag → Type 0) (own : List Tag) → P own → P [] → P (cond flag own [])
own_if true P own p q = p
own_if false P own p q = q

word_key : (key : List ℕ) → 0 < length key → AllByRecursion (λ b. ends_key b ≡ false) key → IsKey key
word_key key some all = (some, All-from_recursion (λ b. ends_key b ≡ false) key all)

module _ (caps : CapSet) (r : Record) (own : List Tag) (has : HasOwn r own) where
  abbrev given : List Tag
  given = cond caps.message_tags own []

  given_stand : CanStand given
  unfolding IsDistinct
  given_stand = own_if caps.message_tags CanStand own has.stand (tt, All-nil (λ t. IsKey t.0))

  given_new : (b : ℕ) (key : List ℕ) → (b == 43) ≡ false → IsNew (b ∷ key) given
  given_new b key apart = own_if caps.message_tags (IsNew (b ∷ key)) own (new_own b key apart own has.client_only) tt

  timed_stand : CanStand (tag_if caps.server_time (codes "time") (time_text r.at) ++ given)
  timed_stand = stand_if caps.server_time (codes "time") (time_text r.at) given (word_key (codes "time") (lit< tt) (refl, (refl, (refl, (refl, tt)))))
      (given_new 116 (codes "ime") refl) given_stand

  told_stand : CanStand (told_of caps r own)
  told_stand = stand_if caps.message_tags (codes "msgid") r.id _ (word_key (codes "msgid") (lit< tt) (refl, (refl, (refl, (refl, (refl, tt))))))
      (new_if caps.server_time (codes "msgid") (codes "time") (time_text r.at) given refl (given_new 109 (codes "sgid") refl)) timed_stand

  batch_stand : (reference : List ℕ) → CanStand (told_in_batch caps reference r own)
  batch_stand reference = stand_if caps.batch (codes "batch") reference _ (word_key (codes "batch") (lit< tt) (refl, (refl, (refl, (refl, (refl, tt))))))
      (new_if caps.message_tags (codes "batch") (codes "msgid") r.id _ refl
      (new_if caps.server_time (codes "batch") (codes "time") (time_text r.at) given refl (given_new 98 (codes "atch") refl))) told_stand

  own_same : own_tags caps r ≡ own_piece (tags_text given)
  own_same = ap (λ l. only_if (caps.message_tags && not (length l == 0)) l) has.written ∙ go caps.message_tags where
    go : (flag : Bool) → only_if (flag && not (length (tags_text own) == 0)) (tags_text own) ≡ own_piece (tags_text (cond flag own []))
    go true = refl
    go false = refl

  module _ (is : IsLawfulRecord r) where
    id_same : codes "msgid=" ++ value_text r.id ≡ codes "msgid" ++ value_part r.id
    id_same = ap (λ l. codes "msgid" ++ l) (some_value r.id (id_bytes r.id is.id).0.0)

    time_same : codes "time=" ++ time_text r.at ≡ codes "time" ++ value_part (time_text r.at)
    time_same =
        let size = (time_shape r.at is.at).size in
        ap (λ l. codes "time=" ++ l) (sym (plain_moment r is)) ∙ ap (λ l. codes "time" ++ l) (some_value (time_text r.at) (omega arith))

    joined : AreJoined (message_tags caps r) (told_of caps r own)
    joined = joined_if caps.message_tags (codes "msgid") r.id _ _ _ id_same
        (joined_if caps.server_time (codes "time") (time_text r.at) _ _ _ time_same
        (subst (λ l. AreJoined l given) (sym own_same) (joined_own given given_stand)))

    pub live_told : TellsTags (live_text caps r) (message_line r) (told_of caps r own)
    live_told = told_before (message_tags caps r) (told_of caps r own) (message_line r) joined told_stand (message_stand caps r is) (live_size caps r is)

    batch_same : (n : ℕ) → n ≤ greatest_reference → codes "batch=" ++ reference_text n ≡ codes "batch" ++ value_part (reference_text n)
    batch_same n h = ap (λ l. codes "batch=" ++ l) (sym (plain_reference n h)) ∙ ap (λ l. codes "batch" ++ l) (some_value (reference_text n) (omega arith))

    pub record_told : (n : ℕ) → n ≤ greatest_reference → TellsTags (record_text caps (reference_text n) r) (message_line r) (told_in_batch caps (reference_text n) r own)
    record_told n h =
        let stands = reference_stands n h in
        told_before (batch_tags caps (reference_text n) ++ message_tags caps r) (told_in_batch caps (reference_text n) r own) (message_line r)
        (joined_if caps.batch (codes "batch") (reference_text n) _ _ _ (batch_same n h) joined) (batch_stand (reference_text n))
        (record_stand caps r is (reference_text n) stands) (record_size caps r is (reference_text n) stands)
