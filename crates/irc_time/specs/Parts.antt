-- The fields of `Parts`.
use Rattle.irc_time.specs.Time.{Fields}
use Rattle.irc_time.specs.declared.parts.Parts.{Parts}

abbrev pub value_of : Parts → Fields
value_of p = record {
  year = p.year;
  month = p.month;
  day = p.day;
  hour = p.hour;
  minute = p.minute;
  second = p.second;
  millisecond = p.millisecond;
}
