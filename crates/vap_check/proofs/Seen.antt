-- What an accepted program keeps.
use Rattle.vap_ast.specs.Tree.{program_of}
use Rattle.vap_ast.specs.Parsed.{Parsed}
use Rattle.vap_ast.specs.declared.tree.Program.{Program}
use Rattle.vap_check.specs.declared.kinds.Names.{Names}
use Rattle.vap_check.specs.KeptNames.{KnowsAll}
use Rattle.vap_check.specs.Accepted.{Accepted}
use Rattle.vap_check.specs.Checked.{Keeps}
use Rattle.vap_check.proofs.Usability.{usable}
use Rattle.vap_check.proofs.Sounding.{is_sound, subs_low, main_low}

pub keeps : (tree : Program) (names : Names) → KnowsAll names (program_of tree) → Accepted (program_of tree) → Parsed 1048577 (program_of tree) →
    Keeps (record { program = tree; names = names })
keeps tree names knows accepted parsed =
    let p = program_of tree in
    let ok = usable p accepted.clean accepted.few in
    record {
      accepted = accepted;
      parsed = parsed;
      usable = ok;
      runs = record { sound = is_sound p ok; subs_low = subs_low p ok 1048577 parsed; main_low = main_low p ok 1048577 parsed };
      names = knows;
    }
