-- The fields of a line, as the program holds them.
use Rattle.log_read.specs.Fields.{Fields}
use Rattle.log_compare.specs.declared.fields.Fields.{Fields as Cut}

-- their texts
abbrev pub fields_in : Cut → Fields
fields_in f = record {
  second = f.second.now;
  place = f.place.now;
  aspects = f.aspects.now;
  counts = f.counts.now;
  refused = f.refused.now;
  fault = f.fault.now;
}
