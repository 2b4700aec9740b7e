-- What a line asks for, by its first bytes, and why it spells no change.
use Rattle.std.proofs.Common.{◌≡◌, ℕ, drop, true, false, List, Result, Ok, Err, refl, sym, ◌∙◌, subst}
use Rattle.std.specs.Prelude.{◌≢◌, IfErr}
use Rattle.std.proofs.lemmas.Bool.{cond-true, cond-false}
use Rattle.byte_text.specs.Bytes.{begins_with}
use Rattle.chat_change.specs.declared.change.Change.{Change}
use Rattle.change_lines.specs.ChangeLine.{read_change, fault_or_no_memory}
use Rattle.change_lines.specs.declared.fault.ChangeLineFault.{ChangeLineFault}
use Rattle.change_lines.specs.declared.fault.ChangeLineFault.TheVariants.{BadForm, BadField, NoMemory}
use Rattle.bnc_server.specs.Request.{request_in, is_change_line, of_change, of_command, of_client}
use Rattle.bnc_server.specs.Command.{command_of}
use Rattle.bnc_server.specs.HeldNode.{IsFaultOf}

module _ (text : List ℕ) where
  pub asked_change : is_change_line text ≡ true → request_in text ≡ of_change (read_change text)
  unfolding request_in
  asked_change t = cond-true _ _ _ t

  pub asked_percent : is_change_line text ≡ false → begins_with 37 text ≡ true → request_in text ≡ of_command (command_of (drop 1 text))
  unfolding request_in
  asked_percent t u = cond-false _ _ _ t ∙ cond-true _ _ _ u

  pub asked_client : is_change_line text ≡ false → begins_with 37 text ≡ false → request_in text ≡ of_client text
  unfolding request_in
  asked_client t u = cond-false _ _ _ t ∙ cond-false _ _ _ u

own_fault_of : (fault : ChangeLineFault) → fault ≢ NoMemory → IsFaultOf (Err fault) fault
own_fault_of BadForm own = refl
own_fault_of BadField own = refl
own_fault_of NoMemory own = absurd (own refl)

-- a fault that is the line's own, or else want of memory
pub fault_of_line : (read : Result Change ChangeLineFault) (fault : ChangeLineFault) → IfErr read (λ fault. fault ≢ NoMemory) → fault ≡ fault_or_no_memory read → IsFaultOf read fault
fault_of_line (Ok change) fault own is = subst (IsFaultOf (Ok change)) (sym is) (change, refl)
fault_of_line (Err line) fault own is = subst (IsFaultOf (Err line)) (sym is) (own_fault_of line own)
