use Rattle.laws.proofs.AuditAndBreaches.{both_read_the_same, runs_have_no_breach, safe_logs_have_no_breach}
use Rattle.laws.proofs.breaches.safe_logs_have_no_breach.Goals as goal

pub returns-clause-read : goal.returns-clause-read
returns-clause-read c = both_read_the_same c.a_record_begins_with_its_fields.ensures c.a_part_from_one_is_a_log.ensures.pictures

pub returns-clause-none : goal.returns-clause-none
returns-clause-none c = safe_logs_have_no_breach c.a_record_begins_with_its_fields.ensures c.parts_have_none.ensures

pub returns-clause-runs : goal.returns-clause-runs
returns-clause-runs c =
    runs_have_no_breach c.a_record_begins_with_its_fields.ensures c.a_part_from_one_is_a_log.ensures.pictures c.parts_have_none.ensures
    c.logs_are_judged_safe.ensures.written
