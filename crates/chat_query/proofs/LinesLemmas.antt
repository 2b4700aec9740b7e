-- What is written is lines that read back.
use Rattle.std.proofs.Common.{◌≡◌, ℕ, ◌+◌, ◌≤◌, ◌<◌, Bool, true, false, ◌||◌, ◌==◌, codes, List, [], ◌∷◌, ◌++◌, length, None, Some, Option, refl, sym, ap, ◌∙◌, subst, arith, append_assoc, length-append, lit≤}
use Rattle.std.specs.Prelude.{IfSome}
use Rattle.std.specs.List.{AllByRecursion, list_any}
use Rattle.std.proofs.lemmas.Bool.{or_parts}
use Rattle.std.proofs.lemmas.List.Elements.{All-from_recursion, recursion_from_All}
use Rattle.byte_text.specs.Bytes.{ends_line}
use Rattle.irc_caps.specs.declared.CapSet.{CapSet}
use Rattle.irc_tags.specs.Value.{value_text}
use Rattle.irc_tags.specs.Standing.{is_nul, ends_tag_data}
use Rattle.irc_tags.proofs.CallerLemmas.{value_in_line, length-value_text}
use Rattle.irc_time.specs.Text.{time_text}
use Rattle.irc_time.proofs.CallerLemmas.{time_shape}
use Rattle.irc_line.specs.declared.line.TagLimit.{TagLimit}
use Rattle.irc_line.specs.declared.line.TagLimit.TheVariants.{Client, Server}
use Rattle.irc_line.specs.Line.{tag_limit, HasNoSpace}
use Rattle.irc_line.specs.Text.{Parts, tags_text, line_text}
use Rattle.irc_line.specs.CanStand.{HasNoBadByte, CanBeMiddle, CanBeTags, CanStand}
use Rattle.irc_line.specs.Lines.{AreLines}
use Rattle.irc_line.proofs.CallerLemmas.{no_lines, one_line, lines-append, lines-flat_map, lines-if, good_append, no_space_append, no_space_from, no_space_above, no_bad_above, middle_from}
use Rattle.irc_reply.specs.Reply.{reply}
use Rattle.irc_reply.specs.Standing.{IsCluster}
use Rattle.irc_reply.proofs.CallerLemmas.{reply_parts, reply_stands, reply_line, time_middle, low_behind}
use Rattle.chat_change.specs.Words.{is_target}
use Rattle.chat_change.specs.Message.{kind_word}
use Rattle.chat_change.specs.Record.{Record}
use Rattle.chat_change.specs.Lawful.{IsLawfulRecord}
use Rattle.irc_caps.specs.Words.{only_if}
use Rattle.chat_query.specs.Tags.{more_tags, tag_part, has_own_tags, own_tags, batch_tags, message_tags}
use Rattle.chat_query.specs.Message.{record_text, live_text}
use Rattle.chat_query.specs.Batch.{opening, closing, batch_text, records_text, history_text, buffer_text, buffers_text, targets_text}
use Rattle.chat_query.specs.Standing.{IsReference, CanBeListed}
use Rattle.chat_query.proofs.WordLemmas.{target_word, id_bytes, own_bytes, body_stands, kind_is_command}

-- ---- tags

-- a tag without a byte that ends tag data
abbrev pub IsTag : List ℕ → Type 0
IsTag tag = HasNoSpace tag × HasNoBadByte tag

unfoldable pub behind : List (List ℕ) → List ℕ
behind [] = []
behind (tag ∷ tags) = codes ";" ++ (tag ++ behind tags)

unfoldable pub data_of : List (List ℕ) → Option (List ℕ)
data_of [] = None
data_of (tag ∷ tags) = Some (tag ++ behind tags)

more_is : (tags : List (List ℕ)) → more_tags tags ≡ behind tags ++ codes " "
unfolding behind
more_is [] = refl
more_is (tag ∷ tags) = ap (λ l. codes ";" ++ l) (ap (λ l. tag ++ l) (more_is tags) ∙ sym (append_assoc tag (behind tags) (codes " ")))

pub part_is : (tags : List (List ℕ)) → tag_part tags ≡ tags_text (data_of tags)
unfolding data_of
part_is [] = refl
part_is (tag ∷ tags) = ap (λ l. codes "@" ++ l) (ap (λ l. tag ++ l) (more_is tags) ∙ sym (append_assoc tag (behind tags) (codes " ")))

-- the bytes of tags with one more for each
unfoldable pub total : List (List ℕ) → ℕ
total [] = 0
total (tag ∷ tags) = length tag + 1 + total tags

length-behind : (tags : List (List ℕ)) → length (behind tags) ≡ total tags
unfolding behind total
length-behind [] = refl
length-behind (tag ∷ tags) = (let rest = length-behind tags in omega (arith, length-append tag (behind tags)))

behind_stands : (tags : List (List ℕ)) → AllByRecursion IsTag tags → IsTag (behind tags)
unfolding behind
behind_stands [] all = (tt, refl)
behind_stands (tag ∷ tags) all =
    let rest = behind_stands tags all.1 in
    ((refl, no_space_append tag (behind tags) all.0.0 rest.0), good_append tag (behind tags) all.0.1 rest.1)

pub data_stands : (limit : TagLimit) (tags : List (List ℕ)) → AllByRecursion IsTag tags → total tags ≤ tag_limit limit → IfSome (data_of tags) (CanBeTags limit)
unfolding data_of total
data_stands limit [] all most = tt
data_stands limit (tag ∷ tags) all most =
    let rest = behind_stands tags all.1 in
    let size = length-behind tags in (
      no_space_append tag (behind tags) all.0.0 rest.0,
      good_append tag (behind tags) all.0.1 rest.1,
      omega (arith, length-append tag (behind tags)),
    )

-- the line of these parts with other tags
abbrev with_tags : Option (List ℕ) → Parts → Parts
with_tags tags parts = record parts { tags = tags }

tagged_line : (limit : TagLimit) (tags : List (List ℕ)) (parts : Parts) → AllByRecursion IsTag tags → total tags ≤ tag_limit limit → CanStand limit (with_tags None parts)
    → AreLines limit (tag_part tags ++ line_text (with_tags None parts))
tagged_line limit tags parts all most can =
    subst (λ l. AreLines limit (l ++ line_text (with_tags None parts))) (sym (part_is tags))
    (one_line limit (with_tags (data_of tags) parts) (record {
      tags = data_stands limit tags all most;
      source = can.source;
      command = can.command;
      middles = can.middles;
      trailing = can.trailing;
      count = can.count;
      size = can.size;
    }))

-- ---- the tags of a message

all-append : (xs ys : List (List ℕ)) → AllByRecursion IsTag xs → AllByRecursion IsTag ys → AllByRecursion IsTag (xs ++ ys)
all-append [] ys p q = q
all-append (x ∷ xs) ys p q = (p.0, all-append xs ys p.1 q)

total-append : (xs ys : List (List ℕ)) → total (xs ++ ys) ≡ total xs + total ys
unfolding total
total-append [] ys = omega arith
total-append (x ∷ xs) ys = (let rest = total-append xs ys in omega arith)

only_stands : (flag : Bool) (tag : List ℕ) → IsTag tag → AllByRecursion IsTag (only_if flag tag)
only_stands true tag is = (is, tt)
only_stands false tag is = tt

total-only_if : (flag : Bool) (tag : List ℕ) → total (only_if flag tag) ≤ length tag + 1
unfolding total
total-only_if true tag = omega arith
total-only_if false tag = omega arith

least_limit : (limit : TagLimit) → 39 ≤ tag_limit limit
least_limit Client = lit≤ tt
least_limit Server = lit≤ tt

module _ (caps : CapSet) (reference : List ℕ) (is : IsReference reference) where
  batch_stand : AllByRecursion IsTag (batch_tags caps reference)
  batch_stand = only_stands caps.batch (codes "batch=" ++ reference)
      (no_space_append (codes "batch=") reference (no_space_from (codes "batch=") refl) is.0, good_append (codes "batch=") reference refl is.1)

  batch_size : total (batch_tags caps reference) ≤ 39
  batch_size =
      let short = is.2 in
      let one = total-only_if caps.batch (codes "batch=" ++ reference) in
      omega (arith, length-append (codes "batch=") reference)

-- a byte that ends no tag data
line_bytes : (text : List ℕ) → AllByRecursion (λ b. ends_tag_data b ≡ false) text → IsTag text
line_bytes [] all = (tt, refl)
line_bytes (b ∷ text) all =
    let rest = line_bytes text all.1 in
    let nul = or_parts (is_nul b) _ all.0 in
    let cr = or_parts (b == 13) _ nul.1 in
    let lf = or_parts (b == 10) (b == 32) cr.1 in
    ((lf.1, rest.0), (λ i. ((nul.0 i || lf.0 i) || cr.0 i) || rest.1 i))

no_nul : (text : List ℕ) → HasNoBadByte text → AllByRecursion (λ b. is_nul b ≡ false) text
no_nul [] e = tt
no_nul (b ∷ text) e =
    let both = or_parts (ends_line b) (list_any ends_line text) e in
    let first = or_parts ((b == 0) || (b == 10)) (b == 13) both.0 in
    ((or_parts (b == 0) (b == 10) first.0).0, no_nul text both.1)

value_stands : (value : List ℕ) → HasNoBadByte value → IsTag (value_text value)
value_stands value e =
    line_bytes (value_text value) (recursion_from_All (λ b. ends_tag_data b ≡ false) (value_text value)
    (value_in_line value (All-from_recursion (λ b. is_nul b ≡ false) value (no_nul value e))))

module _ (caps : CapSet) (r : Record) (is : IsLawfulRecord r) where
  id_stands : IsTag (codes "msgid=" ++ value_text r.id)
  id_stands =
      let value = value_stands r.id (id_bytes r.id is.id).0.2 in
      (no_space_append (codes "msgid=") (value_text r.id) (no_space_from (codes "msgid=") refl) value.0, good_append (codes "msgid=") (value_text r.id) refl value.1)

  time_stands : IsTag (codes "time=" ++ time_text r.at)
  time_stands =
      let low = low_behind (time_text r.at) (time_shape r.at is.at).low in (
        no_space_append (codes "time=") (time_text r.at) (no_space_from (codes "time=") refl) (no_space_above (time_text r.at) low),
        good_append (codes "time=") (time_text r.at) refl (no_bad_above (time_text r.at) low),
      )

  pub message_stand : AllByRecursion IsTag (message_tags caps r)
  message_stand =
      all-append (only_if caps.message_tags (codes "msgid=" ++ value_text r.id)) (only_if caps.server_time (codes "time=" ++ time_text r.at) ++ own_tags caps r)
      (only_stands caps.message_tags _ id_stands)
      (all-append (only_if caps.server_time (codes "time=" ++ time_text r.at)) (own_tags caps r)
      (only_stands caps.server_time _ time_stands) (only_stands (has_own_tags caps r) _ (own_bytes r.tags is.tags).0))

  message_size : total (message_tags caps r) ≤ 4642
  message_size =
      let all = total-append (only_if caps.message_tags (codes "msgid=" ++ value_text r.id)) (only_if caps.server_time (codes "time=" ++ time_text r.at) ++ own_tags caps r) in
      let rest = total-append (only_if caps.server_time (codes "time=" ++ time_text r.at)) (own_tags caps r) in
      let one = total-only_if caps.message_tags (codes "msgid=" ++ value_text r.id) in
      let two = total-only_if caps.server_time (codes "time=" ++ time_text r.at) in
      let three = total-only_if (has_own_tags caps r) r.tags in
      let own = (own_bytes r.tags is.tags).1 in
      let long = length-value_text r.id in
      let id = (id_bytes r.id is.id).1 in
      let time = (time_shape r.at is.at).size in
      let a = length-append (codes "msgid=") (value_text r.id) in
      let b = length-append (codes "time=") (time_text r.at) in
      omega arith

  pub live_size : total (message_tags caps r) ≤ tag_limit Server
  live_size = (let own = message_size in omega arith)

  -- with the tag of a batch
  module _ (reference : List ℕ) (ref : IsReference reference) where
    pub record_stand : AllByRecursion IsTag (batch_tags caps reference ++ message_tags caps r)
    record_stand = all-append (batch_tags caps reference) (message_tags caps r) (batch_stand caps reference ref) message_stand

    pub record_size : total (batch_tags caps reference ++ message_tags caps r) ≤ tag_limit Server
    record_size =
        let sum = total-append (batch_tags caps reference) (message_tags caps r) in
        let one = batch_size caps reference ref in
        let own = message_size in
        omega arith

  -- ---- the line of a message

  abbrev parts_of : Parts
  parts_of = record { tags = None; source = Some r.message.source; command = kind_word r.message.kind; middles = r.message.target ∷ []; trailing = Some r.message.body }

  line_stands : (limit : TagLimit) → CanStand limit parts_of
  line_stands limit =
      let m = is.message in
      let source = r.message.source in
      let word = kind_word r.message.kind in
      let target = r.message.target in
      let body = r.message.body in
      let most = m.within_limit in
      let a = length-append source (codes " " ++ (word ++ (codes " " ++ (target ++ (codes " :" ++ body))))) in
      let b = length-append word (codes " " ++ (target ++ (codes " :" ++ body))) in
      let c = length-append target (codes " :" ++ body) in
      let d = length-append (58 ∷ (source ++ 32 ∷ [])) (word ++ ((32 ∷ (target ++ [])) ++ (32 ∷ 58 ∷ body))) in
      let e = length-append source (32 ∷ []) in
      let f = length-append word ((32 ∷ (target ++ [])) ++ (32 ∷ 58 ∷ body)) in
      let g = length-append (32 ∷ (target ++ [])) (32 ∷ 58 ∷ body) in
      let h = length-append target [] in
      record {
        tags = tt;
        source = (id_bytes source m.lawful_source).0;
        command = kind_is_command r.message.kind;
        middles = ((target_word target m.lawful_target).0, tt);
        trailing = body_stands body m.lawful_body;
        count = lit≤ tt;
        size = omega arith;
      }

  pub record_lines : (reference : List ℕ) → IsReference reference → AreLines Server (record_text caps reference r)
  record_lines reference ref = tagged_line Server (batch_tags caps reference ++ message_tags caps r) parts_of (record_stand reference ref) (record_size reference ref) (line_stands Server)

  pub live_lines : AreLines Server (live_text caps r)
  live_lines = tagged_line Server (message_tags caps r) parts_of message_stand live_size (line_stands Server)

-- ---- batches

signed : (b : ℕ) (reference : List ℕ) → HasNoSpace (b ∷ []) → HasNoBadByte (b ∷ []) → (b == 58) ≡ false → IsReference reference → CanBeMiddle (b ∷ reference)
signed b reference s g c is = (let some : 0 < length (b ∷ reference) = omega arith in some, c, (s.0, is.0), good_append (b ∷ []) reference g is.1)

module _ (limit : TagLimit) (cluster reference : List ℕ) (name : IsCluster cluster) (is : IsReference reference) where
  closing_is : closing cluster reference ≡ reply cluster (codes "BATCH") ((codes "-" ++ reference) ∷ []) None
  closing_is = simp append_assoc

  closing_lines : AreLines limit (closing cluster reference)
  closing_lines =
      let short = is.2 in
      let a = length-append reference [] in
      subst (AreLines limit) (sym closing_is)
      (reply_line limit cluster name (codes "BATCH") ((codes "-" ++ reference) ∷ []) None refl
      (signed 45 reference (refl, tt) refl refl is, tt) tt (lit≤ tt) (omega arith))

  history_is : (given : List ℕ) → opening cluster reference (codes " chathistory " ++ given)
      ≡ reply cluster (codes "BATCH") ((codes "+" ++ reference) ∷ codes "chathistory" ∷ given ∷ []) None
  history_is given = simp append_assoc

  history_opening : (given : List ℕ) → is_target given ≡ true → AreLines limit (opening cluster reference (codes " chathistory " ++ given))
  history_opening given t =
      let word = target_word given t in
      let long = word.1 in
      let short = is.2 in
      let a = length-append reference (32 ∷ (codes "chathistory" ++ (32 ∷ (given ++ [])))) in
      let b = length-append given [] in
      subst (AreLines limit) (sym (history_is given))
      (reply_line limit cluster name (codes "BATCH") ((codes "+" ++ reference) ∷ codes "chathistory" ∷ given ∷ []) None refl
      (signed 43 reference (refl, tt) refl refl is, (middle_from (codes "chathistory") refl, (word.0, tt))) tt (lit≤ tt) (omega arith))

  targets_is : opening cluster reference (codes " draft/chathistory-targets")
      ≡ reply cluster (codes "BATCH") ((codes "+" ++ reference) ∷ codes "draft/chathistory-targets" ∷ []) None
  targets_is = simp append_assoc

  targets_opening : AreLines limit (opening cluster reference (codes " draft/chathistory-targets"))
  targets_opening =
      let short = is.2 in
      let a = length-append reference (32 ∷ (codes "draft/chathistory-targets" ++ [])) in
      subst (AreLines limit) (sym targets_is)
      (reply_line limit cluster name (codes "BATCH") ((codes "+" ++ reference) ∷ codes "draft/chathistory-targets" ∷ []) None refl
      (signed 43 reference (refl, tt) refl refl is, (middle_from (codes "draft/chathistory-targets") refl, tt)) tt (lit≤ tt) (omega arith))

  batch_lines : (caps : CapSet) (kind members : List ℕ) → AreLines limit (opening cluster reference kind) → AreLines limit members
      → AreLines limit (batch_text caps cluster reference kind members)
  batch_lines caps kind members o m =
      lines-append limit _ _ (lines-if limit caps.batch _ _ o (no_lines limit))
      (lines-append limit _ _ m (lines-if limit caps.batch _ _ closing_lines (no_lines limit)))

  -- ---- lists of buffers

  -- the line of a listed buffer
  listed_lines : (caps : CapSet) (e : ℕ × List ℕ) → CanBeListed e → AreLines limit (buffer_text caps cluster reference e)
  listed_lines caps e can =
      let word = target_word e.1 can.1 in
      let long = word.1 in
      let shape = time_shape e.0 can.0 in
      let size = shape.size in
      let a = length-append e.1 (32 ∷ (time_text e.0 ++ [])) in
      let b = length-append (time_text e.0) [] in
      tagged_line limit (batch_tags caps reference) (reply_parts cluster (codes "CHATHISTORY") (codes "TARGETS" ∷ e.1 ∷ time_text e.0 ∷ []) None)
      (batch_stand caps reference is) (let one = batch_size caps reference is in let least = least_limit limit in omega arith)
      (reply_stands limit cluster name (codes "CHATHISTORY") (codes "TARGETS" ∷ e.1 ∷ time_text e.0 ∷ []) None refl
      (middle_from (codes "TARGETS") refl, (word.0, (time_middle (time_text e.0) shape, tt))) tt (lit≤ tt) (omega arith))

  buffers_lines : (caps : CapSet) (buffers : List (ℕ × List ℕ)) → AllByRecursion CanBeListed buffers → AreLines limit (buffers_text caps cluster reference buffers)
  buffers_lines caps buffers all = lines-flat_map limit (buffer_text caps cluster reference) buffers (each buffers all) where
    each : (es : List (ℕ × List ℕ)) → AllByRecursion CanBeListed es → AllByRecursion (λ e. AreLines limit (buffer_text caps cluster reference e)) es
    each [] all = tt
    each (e ∷ es) all = (listed_lines caps e all.0, each es all.1)

  pub targets_lines : (caps : CapSet) (buffers : List (ℕ × List ℕ)) → AllByRecursion CanBeListed buffers
      → AreLines limit (targets_text caps cluster reference buffers)
  targets_lines caps buffers all =
      batch_lines caps (codes " draft/chathistory-targets") (buffers_text caps cluster reference buffers) targets_opening (buffers_lines caps buffers all)

-- ---- pages

module _ (cluster reference : List ℕ) (name : IsCluster cluster) (is : IsReference reference) where
  records_lines : (caps : CapSet) (records : List Record) → AllByRecursion IsLawfulRecord records → AreLines Server (records_text caps reference records)
  records_lines caps records all = lines-flat_map Server (record_text caps reference) records (each records all) where
    each : (rs : List Record) → AllByRecursion IsLawfulRecord rs → AllByRecursion (λ r. AreLines Server (record_text caps reference r)) rs
    each [] all = tt
    each (r ∷ rs) all = (record_lines caps r all.0 reference is, each rs all.1)

  pub history_lines : (caps : CapSet) (given : List ℕ) (records : List Record) → is_target given ≡ true → AllByRecursion IsLawfulRecord records
      → AreLines Server (history_text caps cluster reference given records)
  history_lines caps given records t all =
      batch_lines Server cluster reference name is caps (codes " chathistory " ++ given) (records_text caps reference records)
      (history_opening Server cluster reference name is given t) (records_lines caps records all)
