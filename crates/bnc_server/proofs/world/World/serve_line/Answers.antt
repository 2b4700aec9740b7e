use Rattle.std.proofs.Common.{◌≡◌, ◌-◌, ℕ, true, false, List, length, take, drop, refl, ap, ◌∙◌, sym, arith, length-drop}
use Rattle.std.proofs.lemmas.List.{take_all}
use Rattle.byte_text.specs.Bytes.{begins_with}
use Rattle.change_lines.specs.ChangeLine.{read_change}
use Rattle.bnc_server.specs.Command.{NodeCommand, command_of}
use Rattle.bnc_server.specs.Request.{of_change, of_command, of_client, is_change_line, request_in}
use Rattle.bnc_server.proofs.world.World.serve_line.Goals as goal

change_asked : (bytes : List ℕ) → is_change_line bytes ≡ true → request_in bytes ≡ of_change (read_change bytes)
unfolding request_in
change_asked bytes h = rw h refl

command_asked : (bytes : List ℕ) (command : NodeCommand) → command ≡ command_of (take (length bytes - 1) (drop 1 bytes)) → is_change_line bytes ≡ false → begins_with 37 bytes ≡ true
    → request_in bytes ≡ of_command command
unfolding request_in
command_asked bytes command is h k = rw (h, k) (ap of_command (sym (is ∙ ap command_of (take_all (length bytes - 1) (drop 1 bytes) (omega (arith, length-drop 1 bytes))))))

client_asked : (bytes : List ℕ) → is_change_line bytes ≡ false → begins_with 37 bytes ≡ false → request_in bytes ≡ of_client bytes
unfolding request_in
client_asked bytes h k = rw (h, k) refl

pub returns-then-is_change_line-clause-text : goal.returns-then-is_change_line-clause-text
returns-then-is_change_line-clause-text g c =
    rw (change_asked c.args.text.now (sym c.is_change_line.ensures ∙ c.if-is_change_line.true))
    c.serve_change.ensures.text

pub returns-then-is_change_line-clause-world : goal.returns-then-is_change_line-clause-world
returns-then-is_change_line-clause-world g c =
    rw (change_asked c.args.text.now (sym c.is_change_line.ensures ∙ c.if-is_change_line.true))
    c.serve_change.ensures.world

pub returns-then-is_change_line-clause-fault : goal.returns-then-is_change_line-clause-fault
returns-then-is_change_line-clause-fault g c =
    rw (change_asked c.args.text.now (sym c.is_change_line.ensures ∙ c.if-is_change_line.true))
    c.serve_change.ensures.fault

pub returns-then-begins_with-clause-text : goal.returns-then-begins_with-clause-text
returns-then-begins_with-clause-text g c =
    rw (command_asked c.args.text.now _ c.command_of.ensures.value (sym c.is_change_line.ensures ∙ c.if-is_change_line.false) (sym c.begins_with.ensures ∙ c.if-begins_with.true))
    c.serve_command.ensures.text

pub returns-then-begins_with-clause-world : goal.returns-then-begins_with-clause-world
returns-then-begins_with-clause-world g c =
    rw (command_asked c.args.text.now _ c.command_of.ensures.value (sym c.is_change_line.ensures ∙ c.if-is_change_line.false) (sym c.begins_with.ensures ∙ c.if-begins_with.true))
    c.serve_command.ensures.world

pub returns-then-begins_with-clause-fault : goal.returns-then-begins_with-clause-fault
returns-then-begins_with-clause-fault g c =
    rw (command_asked c.args.text.now _ c.command_of.ensures.value (sym c.is_change_line.ensures ∙ c.if-is_change_line.false) (sym c.begins_with.ensures ∙ c.if-begins_with.true))
    c.serve_command.ensures.fault

pub returns-else-begins_with-clause-text : goal.returns-else-begins_with-clause-text
returns-else-begins_with-clause-text g c =
    rw (client_asked c.args.text.now (sym c.is_change_line.ensures ∙ c.if-is_change_line.false) (sym c.begins_with.ensures ∙ c.if-begins_with.false))
    c.serve_client.ensures.text

pub returns-else-begins_with-clause-world : goal.returns-else-begins_with-clause-world
returns-else-begins_with-clause-world g c =
    rw (client_asked c.args.text.now (sym c.is_change_line.ensures ∙ c.if-is_change_line.false) (sym c.begins_with.ensures ∙ c.if-begins_with.false))
    c.serve_client.ensures.world

pub returns-else-begins_with-clause-fault : goal.returns-else-begins_with-clause-fault
returns-else-begins_with-clause-fault g c =
    rw (client_asked c.args.text.now (sym c.is_change_line.ensures ∙ c.if-is_change_line.false) (sym c.begins_with.ensures ∙ c.if-begins_with.false))
    c.serve_client.ensures.fault
