use Rattle.std.proofs.Common.{◌≡◌, ◌+◌, ◌++◌}
use Rattle.std.specs.Prelude.{replicate}
use Rattle.sig_types.specs.Turns.{History}
use Rattle.log_protocol.specs.Page.{IsPageOf, groups_of, seconds_of}
use Rattle.tenth_report.proofs.pages.add_stretch.Given as goal

abbrev pub invariant-tenths : goal.invariant-tenths
invariant-tenths l = record {
  groups : groups_of l.page ≡ groups_of l.fn.page;
  seconds : seconds_of l.page ≡ seconds_of l.fn.page + l.tenth;
  page : (h : History) → IsPageOf l.fn.page h → IsPageOf l.page (h ++ replicate l.tenth l.picture);
}
