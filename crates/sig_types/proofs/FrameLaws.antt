-- Counts as a frame comes, and what follows from frames being those of a detector file.
use Rattle.std.proofs.Common.{◌≡◌, ℕ, zero, suc, ◌+◌, ◌*◌, ◌<◌, ◌≤◌, List, [], ◌∷◌, ◌++◌, length, take, get_or, sum_by, ap, ◌∙◌, arith, length-append, take-take}
use Rattle.std.proofs.lemmas.List.{get_or-take, length-take-le, take-append-le}
use Rattle.std.proofs.lemmas.List.Sums.{sum_by_push}
use Rattle.std.proofs.Math.Seq.{get_or-append_seam, take-suc}
use Rattle.sig_types.specs.Counts.{Counts, Kind, fronts, count_in, count_to, AreFrames, Takes}

-- one more frame leaves the counts of those before it
pub count_before : (kind : Kind) (frames : List Counts) (frame : Counts) (d n : ℕ) → n ≤ length frames →
    count_to kind (frames ++ frame ∷ []) d n ≡ count_to kind frames d n
count_before kind frames frame d n le = ap (λ l. sum_by (count_in kind d) l) (take-append-le n frames (frame ∷ []) le)

-- counts of at most 99 a frame
count_most : (kind : Kind) (frames : List Counts) (d n : ℕ) → ((i : ℕ) → i < length frames → count_in kind d (get_or frames i []) ≤ 99) → n ≤ length frames → count_to kind frames d n ≤ 99 * n
count_most kind frames d zero each le = omega arith
count_most kind frames d (suc n) each le =
    let one = ap (sum_by (count_in kind d)) (take-suc frames n [] (omega arith)) ∙ sum_by_push (count_in kind d) (take n frames) (get_or frames n []) in
    omega (arith, one, count_most kind frames d n each (omega arith), each n (omega arith))

-- the last of a file's frames can be taken after those before it
pub takes_last : (frames : List Counts) (frame : Counts) → AreFrames (frames ++ frame ∷ []) → Takes frames frame
takes_last frames frame are =
    let more : length (frames ++ frame ∷ []) ≡ length frames + 1 = length-append frames (frame ∷ []) in
    record {
      few = omega (arith, are.few, more);
      size = rw (get_or-append_seam frames frame [] []) at (are.sizes (length frames) (omega (arith, more)));
      counts = λ d least most. (
        are.behind (length frames + 1) d (omega (arith, more)) least most,
        omega (arith, are.few, more, count_most fronts (frames ++ frame ∷ []) d (length frames + 1) (λ i lt. are.fronts_fit i d lt least most) (omega (arith, more))),
      );
    }

-- the first frames of a file are frames of a file
pub first_frames : (frames : List Counts) (j : ℕ) → j ≤ length frames → AreFrames frames → AreFrames (take j frames)
first_frames frames j le are =
    let size : length (take j frames) ≡ j = length-take-le j frames le in
    record {
      few = omega (arith, are.few, size);
      sizes = λ n lt. rw (get_or-take j frames n [] (omega (arith, size))) (are.sizes n (omega (arith, size)));
      fronts_fit = λ n d lt least most. rw (get_or-take j frames n [] (omega (arith, size))) (are.fronts_fit n d (omega (arith, size)) least most);
      rears_fit = λ n d lt least most. rw (get_or-take j frames n [] (omega (arith, size))) (are.rears_fit n d (omega (arith, size)) least most);
      behind = λ n d within least most. rw (take-take n j frames (omega (arith, size))) (are.behind n d (omega (arith, size)) least most);
    }
