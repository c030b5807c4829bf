-- Detector lines and the reasons to refuse them.
use Rattle.std.proofs.Common.{◌≡◌, ℕ, List, [], ◌∷◌, Option, Some, None, refl, codes}
use Rattle.sig_types.specs.FirstRefused.{refused_to}
use Rattle.sig_types.specs.Words.{least_below}
use Rattle.det_stream.specs.declared.refusal.StreamWhy.{StreamWhy}
use Rattle.det_stream.specs.declared.refusal.StreamWhy.TheVariants.{Entry, Order, Range, Unknown, RearsAhead}
use Rattle.det_stream.specs.Entries.{numbers_of, frame_of}
use Rattle.det_stream.specs.Stream.{judge_line, least_ahead}

abbrev first : List ℕ → Option StreamWhy
first line = judge_line [] line

pub two_numbers : first (codes "1:1") ≡ Some Entry
unfolding judge_line refused_to numbers_of
two_numbers = refl

pub leading_zero : first (codes "1:01:1") ≡ Some Entry
unfolding judge_line refused_to numbers_of
leading_zero = refl

pub space_after : first (codes "1:1:1 ") ≡ Some Entry
unfolding judge_line refused_to numbers_of
space_after = refl

pub detector_0 : first (codes "0:1:1") ≡ Some Unknown
unfolding judge_line refused_to numbers_of
detector_0 = refl

pub detector_65 : first (codes "65:100:1") ≡ Some Unknown
unfolding judge_line refused_to numbers_of
detector_65 = refl

pub hundred : first (codes "1:100:1") ≡ Some Range
unfolding judge_line refused_to numbers_of
hundred = refl

pub falling : first (codes "2:1:1 1:1:1") ≡ Some Order
unfolding judge_line refused_to numbers_of
falling = refl

pub rear_first : first (codes "1:0:1") ≡ Some (RearsAhead (record { 0 = 1 }))
unfolding judge_line refused_to numbers_of least_ahead least_below frame_of
rear_first = refl

pub rear_later : judge_line (codes "1:1:0 2:1:1" ∷ []) (codes "1:0:1 2:0:1") ≡ Some (RearsAhead (record { 0 = 2 }))
unfolding judge_line refused_to numbers_of least_ahead least_below frame_of
rear_later = refl

pub accepted : first (codes "1:2:1 64:99:99") ≡ None
unfolding judge_line refused_to numbers_of least_ahead least_below frame_of
accepted = refl

pub empty_line : first [] ≡ None
unfolding judge_line refused_to numbers_of least_ahead least_below frame_of
empty_line = refl
