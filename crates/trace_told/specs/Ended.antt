-- The commands that a pass gives, with their lines, and which of them ends the active stage.
use Rattle.std.specs.Prelude.{ℕ, zero, suc, Bool, true, false, List, [], ◌∷◌, ◌++◌, Option, None, Some, ℤ, pos, if◌then◌else◌}
use Rattle.std.specs.List.{flat_map}
use Rattle.sig_types.specs.declared.aspect.Rule.{Rule}
use Rattle.sig_types.specs.declared.numbers.Command.{Command}
use Rattle.sig_types.specs.declared.numbers.Command.TheVariants.{Interstage, SgGreen, SgRed, ClearFronts, ClearRears, SetCycle}
use Rattle.sig_types.specs.declared.numbers.StagePlace.{StagePlace}
use Rattle.sig_types.specs.Arity.{command_arity}
use Rattle.sig_types.specs.Counts.{Counts}
use Rattle.sig_types.specs.Pass.{End, Done, Faulted, Stuck, Unfinished, World}
use Rattle.pua_model.specs.Plan.{PlanOf}
use Rattle.stage_machine.specs.Orders.{refused_order}
use Rattle.vap_code.specs.declared.Instr.{Instr}
use Rattle.vap_code.specs.declared.Instr.TheVariants.{Do}
use Rattle.vap_code.specs.Codes.{CodeOf}
use Rattle.vap_code.specs.Machine.{machine}
use Rattle.vap_code.specs.Sights.{Sight}
use Rattle.controller.specs.Past.{Site, Past}
use Rattle.controller.specs.Second.{pass_of}
use Rattle.controller.specs.Seen.{sights_in}
use Rattle.controller.specs.World.{place_before, world_in}

-- a command that a pass gave, and the line of its statement
pub record Given : Type 0 where
  pub line : ℕ
  pub command : Command

-- the command that numbers give in a statement of this line; none where they name nothing
abbrev pub with_line : ℕ → Option Command → List Given
with_line line None = []
with_line line (Some c) = record { line = line; command = c } ∷ []

-- what as many operands give as a command has numbers, 0 in the place of those that it doesn't have
abbrev pub with_numbers : ℕ → List ℤ → (ℤ → ℤ → List Given) → List Given
with_numbers zero operands give = give (pos 0) (pos 0)
with_numbers (suc zero) [] give = []
with_numbers (suc zero) (x ∷ below) give = give x (pos 0)
with_numbers (suc (suc n)) [] give = []
with_numbers (suc (suc n)) (y ∷ []) give = []
with_numbers (suc (suc n)) (y ∷ x ∷ below) give = give x y

-- the command that an instruction gives in a statement of this line, if it gives one
abbrev pub given_by : World → ℕ → List ℤ → Instr → List Given
given_by w line operands (Do kind) = with_numbers (command_arity kind) operands (λ a b. with_line line (w.command kind a b))
given_by w line operands i = []

-- the command that is given at a sight
abbrev pub given_at : World → Sight → List Given
given_at w s = given_by w s.state.line s.state.operands s.instr

-- the commands that are given in sights, in order
abbrev pub given_in : World → List Sight → List Given
given_in w sights = flat_map (given_at w) sights

-- no rule refuses it
abbrev pub none_refuses : Option Rule → Bool
none_refuses None = true
none_refuses (Some rule) = false

-- whether this is the command of an interstage, which no rule refuses in this place
abbrev pub is_obeyed : PlanOf → StagePlace → Command → Bool
is_obeyed plan place (Interstage a b) = none_refuses (refused_order plan place a.0 b.0)
is_obeyed plan place (SgGreen g) = false
is_obeyed plan place (SgRed g) = false
is_obeyed plan place (ClearFronts d) = false
is_obeyed plan place (ClearRears d) = false
is_obeyed plan place (SetCycle n) = false

-- Of commands that are given in a place the one that ends its stage: the first that is obeyed. From then on an interstage runs,
-- which refuses all others.
abbrev pub ending : PlanOf → StagePlace → List Given → Option Given
ending plan place [] = None
ending plan place (g ∷ gs) = if is_obeyed plan place g.command then Some g else ending plan place gs

-- the same after a pass that ended so: after a fault none is obeyed
abbrev pub ending_after : End → Option Given → Option Given
ending_after (Done s) ends = ends
ending_after (Faulted kind line) ends = None
ending_after Stuck ends = None
ending_after Unfinished ends = None

-- the commands of the second after a past, with this frame, as its pass gives them
abbrev pub given_of : CodeOf → Site → Past → Counts → List Given
given_of code site past frame = given_in (world_in site.plan past (past.frames ++ frame ∷ [])) (sights_in code site past frame)

-- The command that ends a stage in the second after a past, with this frame, if one does.
abbrev pub ending_in : CodeOf → Site → Past → Counts → Option Given
ending_in code site past frame =
    ending_after (pass_of (machine code) site past frame)
    (ending site.plan (place_before site.plan past) (given_of code site past frame))
