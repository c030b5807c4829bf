-- What the commands that a pass gives are to the run.
use Rattle.std.specs.Prelude.{◌≡◌, ℕ, List, [], ◌∷◌, map, Option, None, Some}
use Rattle.sig_types.specs.declared.numbers.Command.{Command}
use Rattle.sig_types.specs.declared.numbers.Command.TheVariants.{Interstage, SgGreen, SgRed, ClearFronts, ClearRears, SetCycle}
use Rattle.sig_types.specs.Counts.{Counts}
use Rattle.sig_types.specs.Pass.{End, Done, Faulted, Stuck, Unfinished, Store, World}
use Rattle.pua_model.specs.Plan.{IsPlan}
use Rattle.stage_machine.specs.Orders.{Order}
use Rattle.vap_code.specs.Codes.{CodeOf}
use Rattle.vap_code.specs.Machine.{machine}
use Rattle.vap_code.specs.Sights.{machine_sights}
use Rattle.controller.specs.Past.{Site, Past, next_second}
use Rattle.controller.specs.Second.{orders_of, pass_of}
use Rattle.trace_told.specs.Ended.{Given, ending_in, given_in}

-- the command of what was given
abbrev pub command_of : Given → Command
command_of g = g.command

-- a pass that is done has given these commands
abbrev pub HasGiven : End → List Command → Type 0
HasGiven (Done s) commands = s.commands ≡ commands
HasGiven (Faulted kind line) commands = Unit {0}
HasGiven Stuck commands = Unit {0}
HasGiven Unfinished commands = Unit {0}

-- the commands of a pass that is done are those that its sights give, in their order
abbrev pub CommandsAreSeen : Type 0
CommandsAreSeen =
    (code : CodeOf) (w : World) (s : Store) → s.commands ≡ [] →
    HasGiven (machine code w s) (map command_of (given_in w (machine_sights code w s)))

-- the orders with that of a command, obeyed in second k
abbrev pub with_order : ℕ → List Order → Command → List Order
with_order k orders (Interstage a b) = record { second = k; from = a.0; to = b.0 } ∷ orders
with_order k orders (SgGreen g) = orders
with_order k orders (SgRed g) = orders
with_order k orders (ClearFronts d) = orders
with_order k orders (ClearRears d) = orders
with_order k orders (SetCycle n) = orders

-- the orders with that of the command that ends a stage in second k, if one does
abbrev pub with_ending : ℕ → List Order → Option Given → List Order
with_ending k orders None = orders
with_ending k orders (Some g) = with_order k orders g.command

-- the only order of a second is that of the command that ends a stage in it
abbrev pub EndingsAreOrders : Type 0
EndingsAreOrders =
    (code : CodeOf) (site : Site) (past : Past) (frame : Counts) → IsPlan site.plan →
    orders_of site past (pass_of (machine code) site past frame) ≡ with_ending (next_second past) past.orders (ending_in code site past frame)
