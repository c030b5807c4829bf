use Rattle.std.proofs.Common.{ℕ, ap, ◌∙◌}
use Rattle.std.specs.List.{insert}
use Rattle.pua_reader.proofs.Puts.{put_is}
use Rattle.pua_reader.proofs.groups.put.Goals as goal

pub returns : goal.returns
returns c =
    c.in_ok-insert.ensures.items ∙ ap (λ (n : ℕ). insert c.args.groups.now.items n c.args.group) (rw c.deref.ensures.value at c.place_for-place.ensures.place)
    ∙ put_is c.args.group c.args.groups.now.items
