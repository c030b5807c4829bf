use Rattle.std.proofs.Common.{◌∙◌, sym, refl, inr}
use Rattle.csv.specs.Reading.{Reached, strip_bom}
use Rattle.table_check.proofs.rows.Rows.open.Goals as goal

pub returns : goal.returns
unfolding Reached
returns c =
    let made = c.from_reader-reader.ensures in
    record {
      trim = rw (c.flexible.ensures, c.has_headers.ensures) at made.trim ∙ c.new.ensures.trim;
      flexible = rw c.flexible.ensures at made.flexible;
      ready = inr (inr (rw (c.flexible.ensures, c.has_headers.ensures) at made.has_headers, made.headers));
      config = rw (c.flexible.ensures, c.has_headers.ensures) at made.config ∙ c.new.ensures.config;
      rest = strip_bom c.args.text.now;
      source = made.source;
      reached = (sym made.state, refl);
    }
