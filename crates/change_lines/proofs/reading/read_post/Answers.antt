use Rattle.std.proofs.Common.{◌≡◌, ◌∙◌, sym, ap, refl, Bool, true, false, Option, Some, None, Ok, Err}
use Rattle.std.specs.Option.{option_map, option_and_then}
use Rattle.chat_change.specs.Record.{Record}
use Rattle.chat_change.specs.declared.change.Change.TheVariants.{Post}
use Rattle.change_lines.specs.BufferFields as names
use Rattle.change_lines.specs.ChangeLine.{buffer_named}
use Rattle.change_lines.specs.PostLine.{has_lawful_parts, has_post_form, if_lawful, post_in, record_of}
use Rattle.change_lines.specs.Reading.{IsAnswer, checked}
use Rattle.change_lines.specs.declared.fault.ChangeLineFault.TheVariants.{BadField, NoMemory}
use Rattle.change_lines.specs.declared.post_line.PostParts.{PostParts}
use Rattle.change_lines.proofs.reading.read_post.Goals as goal

-- what is answered where the form and the names are right
module _ (form named : Bool) (said : Option Record) (is_form : form ≡ true) (is_named : named ≡ true) where
  no_post : said ≡ None → IsAnswer (checked form named (option_map Post said)) (Err BadField)
  no_post none = rw (is_form, is_named, none) refl

  a_post : (post : Record) → said ≡ Some post → IsAnswer (checked form named (option_map Post said)) (Ok (Post post))
  a_post post is = rw (is_form, is_named, is) refl

  no_memory : (post : Record) → said ≡ Some post → IsAnswer (checked form named (option_map Post said)) (Err NoMemory)
  no_memory post is = rw (is_form, is_named, is) refl

lawful : (r : Record) → has_lawful_parts r ≡ true → if_lawful r ≡ Some r
lawful r is = rw is refl

unlawful : (r : Record) → has_lawful_parts r ≡ false → if_lawful r ≡ None
unlawful r is = rw is refl

pub returns-in_default : goal.returns-in_default
returns-in_default c =
    let b = buffer_named (names.value_of c.args.names.now) in
    let form = ap (has_post_form c.args.is_tagged) (sym c.post_fields-fields.ensures) ∙ sym c.has_post_form.ensures ∙ c.if-not-has_post_form.false in
    let named = sym c.names_buffer.ensures ∙ c.if-not-names_buffer.false in
    let said = ap (post_in b) (sym c.post_fields-fields.ensures) ∙ sym (c.post_parts.ensures b) ∙ ap (option_and_then (λ (p : PostParts). if_lawful (record_of b p))) c.in_default.is in
    no_post _ _ _ form named said

pub returns-then-not-is_lawful_post : goal.returns-then-not-is_lawful_post
returns-then-not-is_lawful_post c =
    let b = buffer_named (names.value_of c.args.names.now) in
    let form = ap (has_post_form c.args.is_tagged) (sym c.post_fields-fields.ensures) ∙ sym c.has_post_form.ensures ∙ c.if-not-has_post_form.false in
    let named = sym c.names_buffer.ensures ∙ c.if-not-names_buffer.false in
    let refused = unlawful (record_of b c.in-Some.post) (sym c.is_lawful_post.ensures ∙ c.if-not-is_lawful_post.true) in
    let said = ap (post_in b) (sym c.post_fields-fields.ensures) ∙ sym (c.in-Some.ensures b) ∙ refused in
    no_post _ _ _ form named said

pub returns-in-Ok : goal.returns-in-Ok
returns-in-Ok c =
    let b = buffer_named (names.value_of c.args.names.now) in
    let form = ap (has_post_form c.args.is_tagged) (sym c.post_fields-fields.ensures) ∙ sym c.has_post_form.ensures ∙ c.if-not-has_post_form.false in
    let named = sym c.names_buffer.ensures ∙ c.if-not-names_buffer.false in
    let passed = lawful (record_of b c.in-Some.post) (sym c.is_lawful_post.ensures ∙ c.if-not-is_lawful_post.false) in
    let said = ap (post_in b) (sym c.post_fields-fields.ensures) ∙ sym (c.in-Some.ensures b) ∙ passed ∙ ap Some (sym c.in-Ok.ensures) in
    a_post _ _ _ form named c.in-Ok.post said

pub returns-in-Err : goal.returns-in-Err
returns-in-Err c =
    let b = buffer_named (names.value_of c.args.names.now) in
    let form = ap (has_post_form c.args.is_tagged) (sym c.post_fields-fields.ensures) ∙ sym c.has_post_form.ensures ∙ c.if-not-has_post_form.false in
    let named = sym c.names_buffer.ensures ∙ c.if-not-names_buffer.false in
    let passed = lawful (record_of b c.in-Some.post) (sym c.is_lawful_post.ensures ∙ c.if-not-is_lawful_post.false) in
    let said = ap (post_in b) (sym c.post_fields-fields.ensures) ∙ sym (c.in-Some.ensures b) ∙ passed in
    no_memory _ _ _ form named (record_of b c.in-Some.post) said
