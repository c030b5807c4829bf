use Rattle.std.proofs.Common.{refl}
use Rattle.refusal_text.specs.Kept.{HasFound, groups_of, records_of}
use Rattle.refusal_text.proofs.finder.Refusals.new.Goals as goal

pub returns-clause-found : goal.returns-clause-found
unfolding HasFound groups_of records_of
returns-clause-found c = λ r count. record {
  groups = count;
  none = refl;
  asked = record { from_is = refl; to_is = refl };
  found = c.new-2.ensures.items;
}
