use Rattle.std.proofs.Common.{◌≡◌, ℕ, List, Some, inl, inr, refl}
use Rattle.std.specs.Prelude.{◌⊎◌, codes}
use Rattle.sig_types.specs.Arity.{reading_arity}
use Rattle.sig_types.specs.declared.kinds.ReadingKind.{ReadingKind}
use Rattle.sig_types.specs.declared.kinds.ReadingKind.TheVariants as reading
use Rattle.sig_types.specs.declared.kinds.CommandKind.{CommandKind}
use Rattle.sig_types.specs.declared.kinds.CommandKind.TheVariants as command
use Rattle.sig_types.specs.declared.kinds.TimerKind.{TimerKind}
use Rattle.sig_types.specs.declared.kinds.TimerKind.TheVariants as timer
use Rattle.vap_parse.specs.Kinds.{structure_word, statement_word, command_word, reading_word, word_kind, reading_of, command_of, timer_of, aspect_of}
use Rattle.vap_parse.proofs.kind.all_have_words.Goals as goal

command_word_of : (c : CommandKind) → (w : List ℕ) × (command_of (word_kind w) ≡ Some c)
unfolding structure_word statement_word command_word reading_word
command_word_of command.Interstage = (codes "interstage", refl)
command_word_of command.SgGreen = (codes "sg_green", refl)
command_word_of command.SgRed = (codes "sg_red", refl)
command_word_of command.ClearFronts = (codes "clear_front_ends", refl)
command_word_of command.ClearRears = (codes "clear_rear_ends", refl)
command_word_of command.SetCycle = (codes "set_cycle", refl)

timer_word_of : (t : TimerKind) → (w : List ℕ) × (timer_of (word_kind w) ≡ Some t)
unfolding structure_word statement_word command_word reading_word
timer_word_of timer.Start = (codes "start", refl)
timer_word_of timer.Stop = (codes "stop", refl)
timer_word_of timer.Reset = (codes "reset", refl)

reading_word_of : (r : ReadingKind) → ((w : List ℕ) × (reading_of (word_kind w) ≡ Some r)) ⊎ (((w : List ℕ) × (aspect_of w ≡ Some r)) ⊎ (reading_arity r ≡ 0))
unfolding structure_word statement_word command_word reading_word
reading_word_of reading.Detection = inl (codes "detection", refl)
reading_word_of reading.Occupancy = inl (codes "occupancy", refl)
reading_word_of reading.Headway = inl (codes "headway", refl)
reading_word_of reading.FrontEnds = inl (codes "front_ends", refl)
reading_word_of reading.RearEnds = inl (codes "rear_ends", refl)
reading_word_of reading.IsRed = inr (inl (codes "red", refl))
reading_word_of reading.IsRedAmber = inr (inl (codes "redamber", refl))
reading_word_of reading.IsGreen = inr (inl (codes "green", refl))
reading_word_of reading.IsAmber = inr (inl (codes "amber", refl))
reading_word_of reading.TGreen = inl (codes "t_green", refl)
reading_word_of reading.TRed = inl (codes "t_red", refl)
reading_word_of reading.StageActive = inl (codes "stage_active", refl)
reading_word_of reading.StageDuration = inl (codes "stage_duration", refl)
reading_word_of reading.InterstageActive = inl (codes "interstage_active", refl)
reading_word_of reading.AnyInterstage = inr (inr refl)
reading_word_of reading.CycleSecond = inr (inr refl)
reading_word_of reading.CycleLength = inr (inr refl)

pub returns-clause-commands : goal.returns-clause-commands
returns-clause-commands c = command_word_of

pub returns-clause-timers : goal.returns-clause-timers
returns-clause-timers c = timer_word_of

pub returns-clause-readings : goal.returns-clause-readings
returns-clause-readings c = reading_word_of
