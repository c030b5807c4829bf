use Rattle.report_judged.specs.SiteParts.{minimums_to}
use Rattle.report_judged.proofs.SiteMore.{minimums_more}
use Rattle.report_judged.proofs.site_parts.minimums_of.Goals as goal

pub loop-group-init : goal.loop-group-init
unfolding minimums_to
loop-group-init c = c.new-minimums.ensures.items

pub loop-group-preserved : goal.loop-group-preserved
loop-group-preserved c = rw minimums_more (rw (c.loop-group.invariant, c.min.ensures.min) at c.in-Ok.ensures.items)
