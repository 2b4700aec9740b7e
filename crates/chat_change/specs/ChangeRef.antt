-- What a lent change stands for.
use Rattle.chat_change.specs.Extent.{value_of}
use Rattle.chat_change.specs.Key.{floor_change}
use Rattle.chat_change.specs.declared.change.Change.{Change}
use Rattle.chat_change.specs.declared.change.Change.TheVariants as value
use Rattle.chat_change.specs.declared.change_ref.ChangeRef.{ChangeRef}
use Rattle.chat_change.specs.declared.change_ref.ChangeRef.TheVariants.{Post, Redact, Mark, Floor}

-- the change that is lent
abbrev pub change_of : ChangeRef → Change
change_of (Post r) = value.Post r.now
change_of (Redact b m t) = value.Redact b.now m.now t
change_of (Mark b t) = value.Mark b.now t
change_of (Floor e t) = floor_change (value_of e) t
