use Rattle.std.proofs.Common.{◌≡◌, w32, ℤ, ap}
use Rattle.std.proofs.lemmas.Int.{to_z-of_z}
use mir.Val.{SFits, of_z, to_z}
use Rattle.sig_io.proofs.Drafts.{same_put, then}
use Rattle.sig_types.specs.Number.{holds}
use Rattle.trace_told.specs.Listing.{answer_text}
use Rattle.trace_told.proofs.events.put_tested.Goals as goal

pub returns : goal.returns
returns g c =
    let value_fits : SFits w32 c.args.value = c.ranges.value in
    let value : to_z w32 (of_z w32 c.args.value) ≡ c.args.value = to_z-of_z w32 c.args.value value_fits in
    then c.put.ensures (same_put (ap (λ (v : ℤ). answer_text (holds v)) value) c.put_answer.ensures)
