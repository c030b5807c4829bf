-- Groups that a second leaves as they are, red or green: what lets the audit stop early, and nothing that is judged.
use Rattle.std.specs.Prelude.{Bool, false}
use Rattle.sig_types.specs.declared.aspect.Aspect.{Aspect}
use Rattle.sig_types.specs.declared.aspect.Aspect.TheVariants.{Red, RedAmber, Green, Amber}
use Rattle.sig_types.specs.Turns.{is_red, is_green}

-- a group that showed this, red or green, still shows it
abbrev pub rests : Aspect → Aspect → Bool
rests Red x = is_red x
rests RedAmber x = false
rests Green x = is_green x
rests Amber x = false
