-- How a diagram is to look, as contracts see it.
use Rattle.log_svg.specs.declared.words.Look.{Look}
use Rattle.log_svg.specs.Words.{Looked}

-- the parts of a look
abbrev pub look_in : Look → Looked
look_in look = record {
  strip = look.strip;
  title = look.title.now;
  begin = look.begin;
  minimums = look.minimums.now;
  stages = look.stages.now;
}
