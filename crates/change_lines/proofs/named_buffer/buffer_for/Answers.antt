use Rattle.std.proofs.Common.{◌≡◌, ◌&&◌, subst}
use Rattle.std.proofs.lemmas.Bool.{and_parts}
use Rattle.std.specs.Prelude.{IfOk}
use Rattle.std.specs.Option.{option_map}
use Rattle.std.specs.Map.Iter.{deref}
use Rattle.chat_change.specs.Words.{is_name, is_target}
use Rattle.change_lines.specs.BufferFields.{value_of}
use Rattle.change_lines.specs.ChangeLine.{is_folded}
use Rattle.change_lines.specs.NamedBuffer.{IsNamed}
use Rattle.change_lines.proofs.named_buffer.buffer_for.Goals as goal

pub lawful_buffer-requires : goal.lawful_buffer-requires
lawful_buffer-requires c =
    let b = value_of c.args.b.now in
    (and_parts (is_name b.account && is_name b.network && is_target b.target) (is_folded b.target) c.requires.lawful).0

pub returns-in-Some : goal.returns-in-Some
returns-in-Some c =
    let named = subst (λ known. IsNamed (option_map deref known) (value_of c.args.b.now)) c.in-Some.is c.requires.known in
    subst (λ buffer. IfOk c.try_clone.result (λ copy. copy ≡ buffer)) named.0 c.try_clone.ensures

pub returns-in-None : goal.returns-in-None
returns-in-None c = c.lawful_buffer.ensures
