-- The room in a cell, and the pictures that its publisher's list gains.
use Rattle.std.proofs.Common.{◌≡◌, ◌∙◌, ℕ, ◌+◌, ◌≤◌, [], length, sym, ap, subst, add_assoc, append-nil, length-append}
use Rattle.std.proofs.Math.Nat.{le_refl, le_trans, add-le-add}
use Rattle.sig_types.specs.Turns.{History}
use Rattle.picture_cell.specs.Sides.{Celled, Publishing}
use Rattle.junction_live.specs.Watch.{HasRoom, with_pictures}

-- with no picture the list is as it was
pub none_shown : (publisher : Publishing) → publisher ≡ with_pictures publisher []
none_shown publisher = λ i. record { table = publisher.table; groups = publisher.groups; entries = sym (append-nil publisher.entries) i }

-- the room that pictures leave
pub room_stays : (cell : Celled) (before after : Publishing) (groups room more : ℕ) (pictures : History) →
    HasRoom cell before groups room → after ≡ with_pictures before pictures → length pictures + more ≤ room → HasRoom cell after groups more
room_stays cell before after groups room more pictures has is fit =
    let count : length after.entries + more ≡ length before.entries + (length pictures + more) =
    ap (λ (p : Publishing). length p.entries + more) is ∙ ap (λ (n : ℕ). n + more) (length-append before.entries pictures)
    ∙ add_assoc (length before.entries) (length pictures) more in (
      (ap (λ (p : Publishing). p.table) is ∙ has.0.0, ap (λ (p : Publishing). p.groups) is ∙ has.0.1),
      has.1,
      subst (λ n. n ≤ cell.seconds + 1) (sym count) (le_trans (add-le-add (le_refl (length before.entries)) fit) has.2),
    )
