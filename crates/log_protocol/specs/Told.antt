-- What came, as a page or as the totals of several tells it.
use Rattle.log_protocol.specs.declared.told.Told.{Told}
use Rattle.log_protocol.specs.declared.told.Told.TheVariants as told
use Rattle.log_protocol.specs.Came.{Came}
use Rattle.log_protocol.specs.Page.{came_on}
use Rattle.log_protocol.specs.Totals.{came_at}

-- what is told
abbrev pub came_by : Told → Came
came_by (told.Page page) = came_on page.now
came_by (told.Totals totals) = came_at totals.now
