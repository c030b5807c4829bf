use Rattle.std.proofs.Common.{◌≡◌, true, take}
use Rattle.std.specs.List.{list_any}
use Rattle.std.specs.Str.{bytes_eq}
use Rattle.pua_model.specs.Plan.{are_apart}
use Rattle.pua_reader.specs.Words.{Text}
use Rattle.pua_reader.proofs.Texts.{texts}
use Rattle.pua_reader.proofs.Lowered.{among}
use Rattle.pua_reader.proofs.twins.are_apart.Given as goal

abbrev pub invariant-loop-word : goal.invariant-loop-word
invariant-loop-word l = record {
  apart : are_apart (take l.word-index (texts l.words)) ≡ true;
  known : (cs : Text) → list_any (λ k. bytes_eq cs k.items) l.seen.keys ≡ among cs (take l.word-index (texts l.words));
}
