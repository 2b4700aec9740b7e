use Rattle.chat_change.proofs.FaultsLemmas.{account_fault-lawful, buffer_fault-lawful, lawful_buffer, id_fault-lawful, record_fault-lawful, tagged_fault-lawful}
use Rattle.chat_change.proofs.laws.makers_give_lawful_fields.Goals as goal

pub returns : goal.returns
returns c = record {
  accounts = account_fault-lawful;
  buffer_parts = buffer_fault-lawful;
  buffers = lawful_buffer;
  ids = id_fault-lawful;
  messages = record_fault-lawful;
  tagged = tagged_fault-lawful;
}
