-- What a reader of a detector file has read, line by line.
use Rattle.std.proofs.Common.{◌≡◌, ℕ, suc, zero, ◌+◌, ◌-◌, ◌<◌, ◌≤◌, List, [], ◌∷◌, ◌++◌, length, map, take, drop, get_or, Option, Some, None, refl, sym, ap, ◌∙◌, arith, add-one, length-append, replicate, Err, ◌⊎◌, inl, inr, take-add}
use Rattle.std.proofs.lemmas.List.{map-append, take_all, length-take-le, get_or-replicate, take-append-drop}
use Rattle.std.proofs.Math.Seq.{drop-cons, take-suc}
use Rattle.std.proofs.Math.ListN.{length-drop}
use Rattle.std.specs.Str.Lines.{lines}
use Rattle.sig_types.specs.Counts.{AreFrames, Counts}
use Rattle.sig_types.specs.FirstRefused.{first_refused, or_next, refused_to, with_line}
use Rattle.sig_types.proofs.Refusals.{accepted_more, refused_here}
use Rattle.det_stream.specs.declared.lines.Lines.{Lines}
use Rattle.det_stream.specs.declared.refusal.StreamWhy.{StreamWhy}
use Rattle.det_stream.specs.declared.refusal.StreamRefusal.{StreamRefusal}
use Rattle.det_stream.specs.declared.refusal.StreamRefusal.TheVariants.{Memory, Fault, At}
use Rattle.det_stream.specs.Answers.{Gave, HasGiven, HasRead, IsNext, IsReadAll, IsStream, Reads}
use Rattle.det_stream.specs.Entries.{frame_of}
use Rattle.det_stream.specs.Stream.{judge, judge_line, stream_of, before_refused}
use Rattle.det_stream.specs.Totals.{AreTotals, HasAtMost, RearsWithinFronts, IsSum}
use Rattle.det_stream.specs.Unread.{unread_bytes}
use Rattle.det_stream.proofs.TotalLemmas.{totals_more, frames_more}
use Rattle.det_stream.proofs.EntryLemmas.{nothing}

pub record HeadAt (xs : List (List ℕ)) (k : ℕ) (x : List ℕ) (rest : List (List ℕ)) : Type 0 where
  pub inside : k < length xs
  pub here : get_or xs k [] ≡ x
  pub after : drop (k + 1) xs ≡ rest

cons_parts : (x y : List ℕ) (xs ys : List (List ℕ)) → x ∷ xs ≡ y ∷ ys → (x ≡ y) × (xs ≡ ys)
cons_parts x y xs ys e = (cc, cc)

pub head_at : (xs : List (List ℕ)) (k : ℕ) (x : List ℕ) (rest : List (List ℕ)) → drop k xs ≡ x ∷ rest → HeadAt xs k x rest
head_at xs k x rest e =
    let long : k < length xs = omega (arith, length-drop k xs, ap length e) in
    let parts = cons_parts (get_or xs k []) x (drop (suc k) xs) rest (sym (drop-cons xs k [] long) ∙ e) in
    record { inside = long; here = parts.0; after = rw add-one parts.1 }

-- the lines that were given
abbrev pub before_of : List ℕ → List Counts → List (List ℕ)
before_of bytes frames = take (length frames) (lines bytes)

pub before_size : (r : Lines) (bytes : List ℕ) (frames : List Counts) → HasRead r bytes frames → length (before_of bytes frames) ≡ r.second
before_size r bytes frames read = length-take-le (length frames) (lines bytes) read.inside ∙ sym read.gave.count

-- the next line is refused, and no line before it is
pub refused : (r : Lines) (bytes : List ℕ) (frames : List Counts) (x : List ℕ) (rest : List (List ℕ)) (reason : StreamWhy) → HasRead r bytes frames →
    lines (unread_bytes r.reader bytes) ≡ x ∷ rest → judge_line (before_of bytes frames) x ≡ Some reason → IsStream bytes frames (Some (r.second + 1, reason))
unfolding stream_of
refused r bytes frames x rest reason read next wrong =
    let head = head_at (lines bytes) (length frames) x rest (sym read.rest ∙ next) in
    let size = before_size r bytes frames read in
    let here : judge (before_of bytes frames) (get_or (lines bytes) (length frames) []) ≡ Some (r.second + 1, reason) = rw (head.here, size, wrong) refl in
    let first = refused_here judge (lines bytes) [] (r.second + 1, reason) (length frames) read.accepted head.inside here in
    let back : r.second + 1 - 1 ≡ length frames = omega (arith, read.gave.count) in
    record { frames_are = rw (first, back) (sym read.frames_are); refusal_is = first }

-- no line is left
pub ended : (r : Lines) (bytes : List ℕ) (frames : List Counts) → HasRead r bytes frames → unread_bytes r.reader bytes ≡ [] → IsStream bytes frames None
unfolding stream_of
ended r bytes frames read none =
    let gone : drop (length frames) (lines bytes) ≡ [] = sym read.rest ∙ ap lines none in
    let whole : length frames ≡ length (lines bytes) = omega (arith, length-drop (length frames) (lines bytes), ap length gone, read.inside) in
    let first : first_refused judge (lines bytes) [] ≡ None = rw (← whole) read.accepted in
    record {
      frames_are = rw first (sym (read.frames_are ∙ ap (map frame_of) (take_all (length frames) (lines bytes) (omega (arith, whole)))));
      refusal_is = first;
    }

pub given_more : (old new : Lines) (frames : List Counts) → HasGiven old frames → new.second ≡ old.second + 1 → old.second < 604800 →
    length new.frame ≡ 64 → HasAtMost 99 new.frame →
    IsSum old.totals new.frame new.totals → RearsWithinFronts new.totals → HasGiven new (frames ++ new.frame ∷ [])
given_more old new frames gave more few size small sum behind =
    let totals = totals_more old.totals new.frame new.totals frames gave.totals_are sum in
    record {
      count = omega (arith, more, gave.count, length-append frames (new.frame ∷ []));
      are_frames = frames_more frames new.frame new.totals gave.are_frames (omega (arith, gave.count, few)) size small totals behind;
      totals_are = totals;
    }

-- the next line is accepted
pub read_more : (old new : Lines) (bytes : List ℕ) (frames : List Counts) (x : List ℕ) → HasRead old bytes frames → HasGiven new (frames ++ new.frame ∷ []) →
    lines (unread_bytes old.reader bytes) ≡ x ∷ lines (unread_bytes new.reader bytes) → judge_line (before_of bytes frames) x ≡ None →
    new.frame ≡ frame_of x → HasRead new bytes (frames ++ new.frame ∷ [])
read_more old new bytes frames x read gave next right is =
    let head = head_at (lines bytes) (length frames) x (lines (unread_bytes new.reader bytes)) (sym read.rest ∙ next) in
    let more : length (frames ++ new.frame ∷ []) ≡ length frames + 1 = length-append frames (new.frame ∷ []) in
    let here : judge (before_of bytes frames) (get_or (lines bytes) (length frames) []) ≡ None = rw (head.here, right) refl in
    record {
      gave = gave;
      rest = rw more (sym head.after);
      inside = omega (arith, more, head.inside);
      accepted = rw more (accepted_more judge (lines bytes) [] (length frames) read.accepted here);
      frames_are = ap (λ l. l ++ new.frame ∷ []) read.frames_are ∙
          sym (ap (λ (n : ℕ). map frame_of (take n (lines bytes))) (more ∙ add-one (length frames)) ∙
          ap (map frame_of) (take-suc (lines bytes) (length frames) [] head.inside ∙ ap (λ y. take (length frames) (lines bytes) ++ y ∷ []) head.here)
          ∙ map-append frame_of (take (length frames) (lines bytes)) (x ∷ []) ∙ ap (λ y. map frame_of (take (length frames) (lines bytes)) ++ y ∷ []) (sym is));
    }

-- before the first line
pub given_none : (r : Lines) → r.second ≡ 0 → r.totals ≡ replicate 64 (0, 0) → HasGiven r []
given_none r none zeros = record {
  count = none;
  are_frames = record {
    few = omega arith;
    sizes = λ n lt. absurd (omega arith);
    fronts_fit = λ n d lt least most. absurd (omega arith);
    rears_fit = λ n d lt least most. absurd (omega arith);
    behind = λ n d le least most. (let start : n ≡ 0 = omega arith in rw start (omega arith));
  };
  totals_are = record {
    fronts_are = λ p lt. rw (zeros, get_or-replicate 64 p nothing nothing lt) refl;
    rears_are = λ p lt. rw (zeros, get_or-replicate 64 p nothing nothing lt) refl;
  };
}

pub read_none : (r : Lines) (bytes : List ℕ) → HasGiven r [] → unread_bytes r.reader bytes ≡ bytes → HasRead r bytes []
unfolding refused_to
read_none r bytes gave whole = record { gave = gave; rest = ap lines whole; inside = omega arith; accepted = refl; frames_are = refl }

-- a reader that has come to the end of its file
pub still_read : (old new : Lines) (bytes : List ℕ) (frames : List Counts) → HasRead old bytes frames → new.second ≡ old.second → new.totals ≡ old.totals →
    unread_bytes old.reader bytes ≡ [] → unread_bytes new.reader bytes ≡ [] → HasRead new bytes frames
still_read old new bytes frames read second totals none yet = record {
  gave = record { count = second ∙ read.gave.count; are_frames = read.gave.are_frames; totals_are = rw totals read.gave.totals_are };
  rest = ap lines (yet ∙ sym none) ∙ read.rest;
  inside = read.inside;
  accepted = read.accepted;
  frames_are = read.frames_are;
}

pub before_totals : (r : Lines) (bytes : List ℕ) (frames : List Counts) → HasRead r bytes frames → AreTotals r.totals (map frame_of (before_of bytes frames))
before_totals r bytes frames read = rw (← read.frames_are) read.gave.totals_are

pub gave_frames : (r : Lines) (frames : List Counts) → Gave r frames → AreFrames frames
unfolding Gave
gave_frames r frames gave = gave.are_frames

pub all_refused : (bytes : List ℕ) (frames : List Counts) (new : Lines) (refusal : StreamRefusal) → IsNext bytes frames new (Err refusal) →
    IsReadAll bytes (Err refusal)
all_refused bytes frames new Memory next = absurd next
all_refused bytes frames new Fault next = tt
all_refused bytes frames new (At line reason) next = next.refusal_is

abbrev line_in : Option (ℕ × StreamWhy) → ℕ
line_in None = 0
line_in (Some at) = at.0

none_some : {A : Type 0} {x : A} → None ≡ Some x → ⊥
none_some e = cc

pair_first : (n : ℕ) (reason : StreamWhy) (at : ℕ × StreamWhy) → with_line n (Some reason) ≡ Some at → at.0 ≡ n
pair_first n reason at is = ap (λ o. line_in o) (sym is)

numbered_line : (n : ℕ) (o : Option StreamWhy) (at : ℕ × StreamWhy) → with_line n o ≡ Some at → at.0 ≡ n
numbered_line n None at is = cc
numbered_line n (Some reason) at is = pair_first n reason at is

either : (o next : Option (ℕ × StreamWhy)) (at : ℕ × StreamWhy) → or_next o next ≡ Some at → (o ≡ Some at) ⊎ (next ≡ Some at)
either (Some w) next at is = inl is
either None next at is = inr is

-- a refusal that comes after k accepted lines has a greater number
refused_after : (xs : List (List ℕ)) (k m : ℕ) (at : ℕ × StreamWhy) → refused_to judge xs [] k ≡ None → k + m ≤ length xs →
    refused_to judge xs [] (k + m) ≡ Some at → k ≤ at.0 - 1
unfolding refused_to
refused_after xs k zero at none le is = let e : k + 0 ≡ k = omega arith in absurd (none_some (sym none ∙ rw e at is))
refused_after xs k (suc m) at none le is =
    let e : k + suc m ≡ suc (k + m) = omega arith in
    elim (either (refused_to judge xs [] (k + m)) (judge (take (k + m) xs) (get_or xs (k + m) [])) at (rw e at is)) [
      | inl early ↦ refused_after xs k m at none (omega arith) early
      | inr here ↦ (let line = numbered_line (length (take (k + m) xs) + 1) (judge_line (take (k + m) xs) (get_or xs (k + m) [])) at here in
          omega (arith, line, length-take-le (k + m) xs (omega arith)))
    ]

front_of : (xs : List (List ℕ)) (k n : ℕ) → k ≤ n → map frame_of (take n xs) ≡ map frame_of (take k xs) ++ map frame_of (take (n - k) (drop k xs))
front_of xs k n le = let e : n ≡ k + (n - k) = omega arith in
    ap (λ (j : ℕ). map frame_of (take j xs)) e ∙ ap (map frame_of) (take-add k (n - k) xs) ∙ map-append frame_of (take k xs) (take (n - k) (drop k xs))

front_upto : (xs : List (List ℕ)) (k : ℕ) (o : Option (ℕ × StreamWhy)) → k ≤ length xs → refused_to judge xs [] k ≡ None →
    refused_to judge xs [] (length xs) ≡ o →
    (more : List Counts) × (map frame_of (before_refused o xs) ≡ map frame_of (take k xs) ++ more)
front_upto xs k None le none is = (map frame_of (drop k xs), ap (map frame_of) (sym (take-append-drop k xs)) ∙ map-append frame_of (take k xs) (drop k xs))
front_upto xs k (Some at) le none is =
    let whole : k + (length xs - k) ≡ length xs = omega arith in
    (map frame_of (take (at.0 - 1 - k) (drop k xs)), front_of xs k (at.0 - 1) (refused_after xs k (length xs - k) at none (omega arith) (rw whole is)))

-- the frames that were given are the first of the file's
pub reads_front : (r : Lines) (bytes : List ℕ) (frames : List Counts) → Reads r bytes frames → (more : List Counts)
    × ((stream_of bytes).frames ≡ frames ++ more)
unfolding Reads stream_of
reads_front r bytes frames read =
    let front = front_upto (lines bytes) (length frames) (first_refused judge (lines bytes) []) read.inside read.accepted refl in
    (front.0, front.1 ∙ ap (λ l. l ++ front.0) (sym read.frames_are))
