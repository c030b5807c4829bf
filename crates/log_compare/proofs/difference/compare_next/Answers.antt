use Rattle.std.proofs.Common.{refl}
use Rattle.log_compare.proofs.difference.compare_next.Goals as goal

pub returns-else-says_same : goal.returns-else-says_same
returns-else-says_same c = (
  refl,
  record {
    rest = c.in-Some-Some.rest.now;
    other_rest = c.in-Some-Some.other_rest.now;
    begins = c.in-Some-Some.ensures.0;
    other_begins = c.in-Some-Some.ensures'.0;
    differs = c.says_same.ensures.differs c.if-says_same.false;
  },
)
