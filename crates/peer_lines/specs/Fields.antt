-- What the fields of a line stand for, which the code lends from it.
use Rattle.cluster_directory.specs.Life.{Life}
use Rattle.peer_lines.specs.Packet.{Hello, Head, Ack}
use Rattle.peer_lines.specs.Reading as spec
use Rattle.peer_lines.specs.declared.fields.LifeFields.{LifeFields}
use Rattle.peer_lines.specs.declared.fields.HelloFields.{HelloFields}
use Rattle.peer_lines.specs.declared.fields.HeadFields.{HeadFields}
use Rattle.peer_lines.specs.declared.fields.AckFields.{AckFields}
use Rattle.peer_lines.specs.declared.fields.Span.{Span}

abbrev pub life_value : LifeFields → Life
life_value l = record { node = l.node.now; incarnation = l.incarnation }

abbrev pub hello_value : HelloFields → Hello
hello_value h = record { life = life_value h.life; version = h.version }

abbrev pub span_value : Span → spec.Span
span_value s = record { from = s.from; to = s.to; count = s.count }

abbrev pub head_value : HeadFields → Head
head_value h = record {
  sender = life_value h.sender;
  receiver = life_value h.receiver;
  from = h.from;
  to = h.to;
  count = h.count;
}

abbrev pub ack_value : AckFields → Ack
ack_value a = record {
  sender = life_value a.sender;
  receiver = life_value a.receiver;
  upto = a.upto;
}
