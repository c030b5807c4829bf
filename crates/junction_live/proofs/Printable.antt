-- The frames of a live run can be told apart in its text.
use Rattle.std.proofs.Common.{◌≡◌, ℕ, suc, ◌<◌, ◌≤◌, ◌^◌, List, [], ◌∷◌, ◌++◌, length, arith}
use Rattle.std.specs.Prelude.{slice_index_or}
use Rattle.sig_types.specs.Counts.{Counts}
use Rattle.signal_log.specs.Laws.{SmallCounts, IsPrintable, ArePrintable}
use Rattle.det_board.specs.Passes.{Ticking}
use Rattle.junction_live.specs.Play.{Loaded, fronts_in, rears_in}

-- counts that are small at each place
small : (cs : Counts) → ((d : ℕ) → d < length cs → (fronts_in d cs < 2 ^ 64) × (rears_in d cs < 2 ^ 64)) → SmallCounts cs
small [] each = tt
small (c ∷ cs) each = (each 0 (omega arith), small cs (λ d lt. each (suc d) (omega arith)))

-- a frame of counts that a word of the board can have
pub printable_frame : (f : Counts) → length f ≡ 64 → ((d : ℕ) → d < 64 → (fronts_in d f ≤ 2147483647) × (rears_in d f ≤ 2147483647)) → IsPrintable f
printable_frame f size each = record {
  entries = size;
  counts = small f (λ d lt. let c = each d (omega (arith, lt, size)) in (omega (arith, c.0), omega (arith, c.1)));
}

each_printable : (fs : List Counts) → ((j : ℕ) → j < length fs → IsPrintable (slice_index_or fs j [])) → ArePrintable fs
each_printable [] each = tt
each_printable (f ∷ fs) each = (each 0 (omega arith), each_printable fs (λ j lt. each (suc j) (omega arith)))

-- frames of what was loaded
pub loaded_printable : (t : Ticking) (fs : List Counts) → Loaded t fs → ArePrintable fs
loaded_printable t fs l = each_printable fs (λ j lt. printable_frame (slice_index_or fs j []) (l.size j lt) (λ d low.
    let gains = l.gains j d lt low in let order = l.ordered j d lt low in (omega (arith, gains.0, order.1), omega (arith, gains.1, order.0, order.1))))

-- and one frame more
pub printable_push : (fs : List Counts) (f : Counts) → ArePrintable fs → IsPrintable f → ArePrintable (fs ++ f ∷ [])
printable_push [] f are is = (is, tt)
printable_push (g ∷ fs) f are is = (are.0, printable_push fs f are.1 is)
