use Rattle.std.proofs.Common.{◌≡◌, map, take}
use Rattle.tenth_records.specs.Names.{numbers_from}
use Rattle.tenth_records.proofs.names.groups_of.Given as goal

abbrev pub invariant-loop-place : goal.invariant-loop-place
invariant-loop-place l = record {
  names : map (λ g. g.name) l.groups.items ≡ take l.place l.names;
  numbers : map (λ g. g.number) l.groups.items ≡ numbers_from 1 (take l.place l.names);
}
