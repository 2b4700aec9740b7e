-- The names of a buffer, as the code has them.
use Rattle.change_lines.specs.ChangeLine as spec
use Rattle.change_lines.specs.declared.fields.BufferFields.{BufferFields}

abbrev pub value_of : BufferFields → spec.BufferFields
value_of b = record {
  account = b.account.now;
  network = b.network.now;
  target = b.target.now;
  rest = b.rest.now;
}
