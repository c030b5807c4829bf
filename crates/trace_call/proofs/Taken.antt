-- A program file that was judged so.
use Rattle.std.proofs.Common.{◌≡◌, ◌≤◌, ◌∙◌, ◌++◌, ◌∷◌, [], ℕ, List, length, Ok, Err, ap, sym, subst}
use Rattle.vap_ast.specs.Sound.{source_of}
use Rattle.vap_ast.specs.Tree.{program_of}
use Rattle.vap_check.specs.Numbers.{Meant, checked_of}
use Rattle.vap_code.specs.Codes.{CodeOf}
use Rattle.vap_compile.specs.Compiled.{IsLaidOut}
use Rattle.vap_compile.specs.Layout.{routines_code}
use Rattle.junction_run.specs.Form.{ProgramFile}
use Rattle.junction_run.specs.Loading.{IsSource, text_limit}
use Rattle.junction_run.specs.Loading as loading
use Rattle.junction_run.specs.Reasons.{reason_text}
use Rattle.junction_run.specs.Sites.{IsRefusedProgram}
use Rattle.junction_run.specs.Stop.{IsAt, IsUnloadedBy}
use Rattle.junction_run.specs.declared.stop.LoadStop.{LoadStop}
use Rattle.junction_run.specs.declared.stop.LoadStop.TheVariants.{Memory, ReadFault, Refused, TooLong}
use Rattle.trace_call.specs.Loaded.{IsProgramOf, code_for}

-- the code that the compiler laid out is that of the program
pub code_is : (checked : Meant) (code : CodeOf) → checked ≡ checked_of checked.tree → IsLaidOut checked code →
    code ≡ code_for (program_of checked.tree)
unfolding code_for
code_is checked code value laid =
    let program = program_of checked.tree in
    let source = source_of program checked.names in
    let instrs = laid.layout.instrs ∙ ap (λ (m : Meant). routines_code m.names 0 (source.subs ++ source.main ∷ [])) value in
    let variables = laid.numbers.variables ∙ ap (λ (m : Meant). m.variables) value in
    let timers = laid.numbers.timers ∙ ap (λ (m : Meant). m.timers) value in
    λ j. record {
      instrs = instrs j;
      starts = laid.layout.starts j;
      vars = variables j;
      timers = timers j;
      arrays = laid.numbers.arrays j;
    }

-- the text of a program that is refused
pub refused_file : (name bytes text : List ℕ) (stop : LoadStop) → text ≡ bytes → length text ≤ text_limit → IsRefusedProgram text stop → IsAt name stop →
    IsUnloadedBy (IsSource (ProgramFile name) bytes) (λ w. w ≡ name) stop
refused_file name bytes text Memory same short is at = tt
refused_file name bytes text (ReadFault w) same short is at = absurd is
refused_file name bytes text (Refused w line reason) same short is at =
    subst (λ b. IsSource (ProgramFile name) b (Err (loading.Refused w.now line (reason_text reason)))) same
    (subst (λ n. IsSource (ProgramFile name) text (Err (loading.Refused n line (reason_text reason)))) (sym at)
    (loading.refused line (reason_text reason) short is))
refused_file name bytes text (TooLong w) same short is at = absurd is

-- one that is accepted
pub accepted_file : (name bytes text : List ℕ) (checked : Meant) (code : CodeOf) → text ≡ bytes → length text ≤ text_limit → IsProgramOf text checked code →
    IsSource (ProgramFile name) bytes (Ok (program_of checked.tree))
accepted_file name bytes text checked code same short is =
    subst (λ b. IsSource (ProgramFile name) b (Ok (program_of checked.tree))) same (loading.accepted (program_of checked.tree) short is.program)
