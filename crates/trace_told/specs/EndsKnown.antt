-- What is known of the stages while the seconds of a run are told.
use Rattle.std.specs.Prelude.{ℕ, List, length}
use Rattle.sig_types.specs.Counts.{Counts}
use Rattle.pua_model.specs.Plan.{PlanOf, IsPlan}
use Rattle.stage_machine.specs.Orders.{Order}
use Rattle.stage_machine.specs.Stands.{StandsFor}
use Rattle.vap_code.specs.Codes.{CodeOf}
use Rattle.vap_code.specs.Machine.{machine}
use Rattle.controller.specs.Past.{Site, Past}
use Rattle.controller.specs.Second.{past_of}
use Rattle.trace_told.specs.declared.end_rows.Ends.{Ends}

-- the stages are those of a plan after these orders, in second k
pub record AreStages (ends : Ends) (plan : PlanOf) (orders : List Order) (k : ℕ) : Type 0 where
  pub plan_is : IsPlan plan
  pub stand : StandsFor ends.stages plan orders k

-- the stages are those after the seconds with these frames
abbrev pub KnowsStages : Ends → CodeOf → Site → Past → List Counts → Type 0
KnowsStages ends code site first frames =
    let past = past_of (machine code) site first frames in
    AreStages ends site.plan past.orders (length past.frames)
