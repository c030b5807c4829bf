-- A search that goes on.
use Rattle.std.proofs.Common.{◌≡◌, ◌∙◌, ℕ, ◌+◌, ◌-◌, ◌≤◌, Bool, true, false, List, [], ◌∷◌, ◌++◌, length, map, refl, sym, ap, subst, append_assoc, zero-add, arith}
use Rattle.std.specs.Prelude.{replicate}
use Rattle.std.proofs.Math.ListN.{length-append}
use Rattle.std.proofs.lemmas.List.{append-nil, length-replicate, map-append}
use Rattle.std.proofs.lemmas.Grind.{flat_map-append}
use Rattle.sig_types.specs.Rules.{Rules}
use Rattle.sig_types.specs.Turns as turns
use Rattle.log_judge.specs.declared.breach.Breach.{Breach}
use Rattle.log_judge.specs.Breaches.{breaches, breaches_within}
use Rattle.log_judge.specs.Stands.{StandsFor, seconds_of}
use Rattle.log_judge.proofs.AllFound.{none_within}
use Rattle.tenth_records.specs.declared.entry.Entry.{Entry}
use Rattle.tenth_records.specs.declared.entry.Shown.{Shown}
use Rattle.tenth_records.specs.declared.entry.Shown.TheVariants.{Picture, Unknown, End}
use Rattle.tenth_records.specs.Parts.{Part, is_known, parts_in, parts_of, pictures_from, shown_then, unknown_in, unknown_to}
use Rattle.tenth_records.specs.Record.{is_end}
use Rattle.tenth_report.specs.declared.search.JudgedPart.{JudgedPart}
use Rattle.tenth_report.specs.declared.search.Search.{Search}
use Rattle.log_protocol.specs.Parts.{known_in}
use Rattle.log_protocol.specs.Came.{unknown_past}
use Rattle.tenth_report.specs.Breaches.{all_breaches, part_breaches}
use Rattle.tenth_report.specs.Search.{AreFound, Fits, HasFound, HasRoom, HasTaken, IsJudged, IsNew, kept, unknown_then}
use Rattle.tenth_report.proofs.Judging.{stands_count}

-- no more tenths than of a week are counted up to a time
pub counted_room : (s : Search) (to : ℕ) → HasRoom s to → is_end s.shown ≡ false → s.found.known + s.found.unknown + (to - s.at) ≤ 6048000
counted_room s to room open_ =
    let begun = room.fits.begun open_ in
    omega (arith, begun, room.fits.span, room.later, room.week)

-- and a judge sees no more pictures
pub judged_room : (s : Search) (to : ℕ) → HasRoom s to → is_known s.shown ≡ true → seconds_of s.judge + (to - s.at) ≤ 6048001
judged_room s to room known =
    let inside = room.fits.inside known in
    let after = room.fits.after known in
    omega (arith, inside, after, room.later, room.week)

pub both_of : (b : Bool) (P : Type 0) → (b ≡ true → P) → (b ≡ false → P) → P
both_of true P one other = one refl
both_of false P one other = other refl

-- the numbers still fit at a later time
pub fits_on : (s t : Search) (begin to : ℕ) → s.at ≤ to → t.at ≡ to → t.shown ≡ s.shown → t.first ≡ s.first →
    (is_known s.shown ≡ true → seconds_of t.judge ≡ seconds_of s.judge + (to - s.at)) →
    (is_known s.shown ≡ false → seconds_of t.judge ≡ seconds_of s.judge) →
    (is_end s.shown ≡ false → t.found.known + t.found.unknown ≤ s.found.known + s.found.unknown + (to - s.at)) →
    (is_end s.shown ≡ true → t.found.known + t.found.unknown ≤ s.found.known + s.found.unknown) →
    Fits s begin → begin ≤ to → to ≤ begin + 6048000 → Fits t begin
fits_on s t begin to later at shown first inside outside counted none fits begun week = record {
  span = both_of (is_end s.shown) (t.found.known + t.found.unknown ≤ t.at - begin)
      (λ e. omega (arith, none e, fits.span, at, later))
      (λ e. omega (arith, counted e, fits.span, fits.begun e, at, later));
  week = omega (arith, at, week);
  begun = λ e. omega (arith, at, begun);
  inside = λ e. let e' : is_known s.shown ≡ true = sym (ap is_known shown) ∙ e in omega (arith, fits.inside e', inside e', first, at, later);
  after = λ e. let e' : is_known s.shown ≡ true = sym (ap is_known shown) ∙ e in omega (arith, fits.after e', first);
  outside = λ e. let e' : is_known s.shown ≡ false = sym (ap is_known shown) ∙ e in outside e' ∙ fits.outside e';
}

-- a picture was judged that is shown in n tenths
pub went_on : (r : Rules) (s t : Search) (p : turns.Picture) (n : ℕ) → s.shown ≡ Picture p → t.shown ≡ s.shown → t.first ≡ s.first → t.over ≡ s.over →
    t.tolerance ≡ s.tolerance → t.found.parts.items ≡ s.found.parts.items → t.found.known ≡ s.found.known + n → t.found.unknown ≡ s.found.unknown →
    ((before : List Breach) (h : turns.History) → IsJudged r (unknown_past s.tolerance) before h s.judge s.found.breaches.items →
    IsJudged r (unknown_past s.tolerance) before (h ++ replicate n p) t.judge t.found.breaches.items) →
    (all : List Part) (unknown : ℕ) (more : turns.History) (rest : List Part) (to_come : ℕ) →
    HasFound r s all unknown (shown_then n s.shown more) rest (unknown_then n s.shown to_come) → HasFound r t all unknown more rest to_come
went_on r s t p n is shown first over tolerance parts known unknown judged all u more rest to_come h =
    let now : turns.History = h.now ++ replicate n p in
    let size : length now ≡ length h.now + n = length-append h.now (replicate n p) ∙ ap (λ m. length h.now + m) (length-replicate n p) in
    let left : all ≡ h.over ++ (record { first = s.first; pictures = h.now ++ (replicate n p ++ more) } ∷ rest) = rw is at h.left in
    let coming : u ≡ s.found.unknown + to_come = rw is at h.unknown_is in
    record {
      over = h.over;
      now = now;
      judged = rw tolerance (judged (all_breaches r s.tolerance h.over) h.now h.judged);
      parts = rw tolerance (parts ∙ h.parts);
      count = rw tolerance (over ∙ h.count);
      left = rw (shown, first, is)
          (left ∙ ap (λ (x : turns.History). h.over ++ (record { first = s.first; pictures = x } ∷ rest)) (sym (append_assoc h.now (replicate n p) more)));
      known = omega (arith, known, h.known, size);
      unknown_is = coming ∙ ap (λ m. m + to_come) (sym unknown);
      none = λ no. absurd (let e : true ≡ false = sym (ap is_known (shown ∙ is)) ∙ no in cc);
    }

-- no picture is shown
pub went_dark : (r : Rules) (s t : Search) (n : ℕ) → is_known s.shown ≡ false → is_known t.shown ≡ false → t.over ≡ s.over →
    t.tolerance ≡ s.tolerance → t.judge ≡ s.judge → t.found.breaches.items ≡ s.found.breaches.items → t.found.parts.items ≡ s.found.parts.items →
    t.found.known ≡ s.found.known → t.found.unknown ≡ s.found.unknown + n →
    (all : List Part) (unknown : ℕ) (before more : turns.History) (rest : List Part) (to_come total : ℕ) → total ≡ n + to_come →
    HasFound r s all unknown before rest total → HasFound r t all unknown more rest to_come
went_dark r s t n is shown over tolerance judge breaches parts known unknown all u before more rest to_come total sum h =
    let left : all ≡ h.over ++ rest = rw is at h.left in
    record {
      over = h.over;
      now = h.now;
      judged = rw (tolerance, judge, breaches) h.judged;
      parts = rw tolerance (parts ∙ h.parts);
      count = rw tolerance (over ∙ h.count);
      left = rw shown left;
      known = known ∙ h.known;
      unknown_is = omega (arith, h.unknown_is, unknown, sum);
      none = λ no. h.none is;
    }

-- the end of a part that isn't over
same_part : (p q : JudgedPart) → p.first ≡ q.first → p.tenths ≡ q.tenths → p.count ≡ q.count → p ≡ q
same_part p q first tenths count =
    let x : JudgedPart = record { first = p.first; tenths = p.tenths; count = p.count } in
    let y : JudgedPart = record { first = q.first; tenths = q.tenths; count = q.count } in
    let same : x ≡ y = rw (first, tenths, count) refl in
    same

known_more : (parts : List Part) (part : Part) → known_in (parts ++ part ∷ []) ≡ known_in parts + length part.pictures
unfolding known_in
known_more [] part = omega arith
known_more (x ∷ parts) part = omega (arith, known_more parts part)

all_more : (r : Rules) (tolerance : ℕ) (parts : List Part) (part : Part) →
    all_breaches r tolerance (parts ++ part ∷ []) ≡ all_breaches r tolerance parts ++ part_breaches r tolerance part
all_more r tolerance parts part =
    flat_map-append (part_breaches r tolerance) parts (part ∷ [])
    ∙ ap (λ (x : List Breach). all_breaches r tolerance parts ++ x) (append-nil (part_breaches r tolerance part))

pub ended : (r : Rules) (s t : Search) (p : JudgedPart) → is_known s.shown ≡ true → is_known t.shown ≡ false → t.tolerance ≡ s.tolerance →
    t.over ≡ length t.found.breaches.items →
    t.found.parts.items ≡ s.found.parts.items ++ p ∷ [] → p.first ≡ s.first → p.tenths ≡ seconds_of s.judge →
    p.count ≡ length t.found.breaches.items - s.over →
    t.found.known ≡ s.found.known → t.found.unknown ≡ s.found.unknown → StandsFor t.judge [] →
    ((before : List Breach) (h : turns.History) → IsJudged r (unknown_past s.tolerance) before h s.judge s.found.breaches.items →
    t.found.breaches.items ≡ before ++ breaches r (unknown_past s.tolerance) h) →
    (all : List Part) (unknown : ℕ) (rest : List Part) (to_come : ℕ) →
    HasFound r s all unknown [] rest to_come → HasFound r t all unknown [] rest to_come
ended r s t p lit dark tolerance over parts first tenths count known unknown stands judged all u rest to_come h =
    let part : Part = record { first = s.first; pictures = h.now } in
    let xs : List Breach = all_breaches r s.tolerance h.over in
    let ys : List Breach = part_breaches r s.tolerance part in
    let found : t.found.breaches.items ≡ xs ++ ys = judged xs h.now h.judged in
    let all_are : all_breaches r s.tolerance (h.over ++ part ∷ []) ≡ xs ++ ys = all_more r s.tolerance h.over part in
    let size : length t.found.breaches.items ≡ length xs + length ys = ap length found ∙ length-append xs ys in
    let shown : length h.now ≡ seconds_of s.judge = stands_count s.judge h.now h.judged.stands in
    let counted : p.count ≡ length ys = omega (arith, size, h.count, count) in
    let same : p ≡ kept r s.tolerance part = same_part p (kept r s.tolerance part) first (tenths ∙ sym shown) counted in
    let left : all ≡ h.over ++ (record { first = s.first; pictures = h.now ++ [] } ∷ rest) = rw lit at h.left in
    record {
      over = h.over ++ part ∷ [];
      now = [];
      judged = record {
        stands = stands;
        found_are = rw tolerance
            (found ∙ sym all_are
            ∙ sym (append-nil (all_breaches r s.tolerance (h.over ++ part ∷ [])))
            ∙ ap (λ (x : List Breach). all_breaches r s.tolerance (h.over ++ part ∷ []) ++ x) (sym (none_within r (unknown_past s.tolerance))));
      };
      parts = rw tolerance
          (parts ∙ ap (λ (x : List JudgedPart). x ++ p ∷ []) h.parts
          ∙ ap (λ (x : JudgedPart). map (kept r s.tolerance) h.over ++ x ∷ []) same
          ∙ sym (map-append (kept r s.tolerance) h.over (part ∷ [])));
      count = rw tolerance (over ∙ ap length (found ∙ sym all_are));
      left = rw dark
          (left ∙ ap (λ (x : turns.History). h.over ++ (record { first = s.first; pictures = x } ∷ rest)) (append-nil h.now)
          ∙ sym (append_assoc h.over (part ∷ []) rest));
      known = omega (arith, known, h.known, known_more h.over part);
      unknown_is = h.unknown_is ∙ ap (λ m. m + to_come) (sym unknown);
      none = λ no. refl;
    }

-- what isn't known has no pictures, and begins no part
pub dark_pictures : (at : ℕ) (shown : Shown) (es : List Entry) → is_known shown ≡ false → pictures_from at shown es ≡ []
unfolding pictures_from
dark_pictures at (Picture p) es is = absurd (let e : true ≡ false = is in cc)
dark_pictures at Unknown [] is = refl
dark_pictures at Unknown (e ∷ es) is = refl
dark_pictures at End [] is = refl
dark_pictures at End (e ∷ es) is = refl

pub dark_parts : (inside : Bool) (at : ℕ) (shown : Shown) (es : List Entry) → is_known shown ≡ false →
    parts_in inside (record { at = at; shown = shown } ∷ es) ≡ parts_in false es
unfolding parts_in
dark_parts inside at (Picture p) es is = absurd (let e : true ≡ false = is in cc)
dark_parts true at Unknown es is = refl
dark_parts false at Unknown es is = refl
dark_parts true at End es is = refl
dark_parts false at End es is = refl

-- a picture goes on with a part, or begins one
pub lit_inside : (at : ℕ) (shown : Shown) (es : List Entry) → is_known shown ≡ true →
    parts_in true (record { at = at; shown = shown } ∷ es) ≡ parts_in true es
unfolding parts_in
lit_inside at (Picture p) es is = refl
lit_inside at Unknown es is = absurd (let e : false ≡ true = is in cc)
lit_inside at End es is = absurd (let e : false ≡ true = is in cc)

pub lit_outside : (at : ℕ) (shown : Shown) (es : List Entry) → is_known shown ≡ true →
    parts_in false (record { at = at; shown = shown } ∷ es) ≡ record { first = at; pictures = pictures_from at shown es } ∷ parts_in true es
unfolding parts_in
lit_outside at (Picture p) es is = refl
lit_outside at Unknown es is = absurd (let e : false ≡ true = is in cc)
lit_outside at End es is = absurd (let e : false ≡ true = is in cc)

pub unknown_first : (at : ℕ) (shown : Shown) (es : List Entry) →
    unknown_in (record { at = at; shown = shown } ∷ es) ≡ unknown_to at shown es + unknown_in es
unfolding unknown_in
unknown_first at shown es = refl

-- nothing is known from now on
pub turned_dark : (r : Rules) (s : Search) (shown : Shown) (es : List Entry) (all : List Part) (unknown : ℕ) → is_known shown ≡ false →
    HasFound r s all unknown (pictures_from s.at shown es) (parts_in (is_known s.shown) (record { at = s.at; shown = shown } ∷ es))
    (unknown_in (record { at = s.at; shown = shown } ∷ es)) →
    HasFound r s all unknown [] (parts_in false es) (unknown_to s.at shown es + unknown_in es)
turned_dark r s shown es all unknown is h =
    subst (λ n. HasFound r s all unknown [] (parts_in false es) n) (unknown_first s.at shown es)
    (subst (λ (x : List Part). HasFound r s all unknown [] x (unknown_in (record { at = s.at; shown = shown } ∷ es)))
    (dark_parts (is_known s.shown) s.at shown es is)
    (subst (λ (x : turns.History). HasFound r s all unknown x (parts_in (is_known s.shown) (record { at = s.at; shown = shown } ∷ es))
    (unknown_in (record { at = s.at; shown = shown } ∷ es))) (dark_pictures s.at shown es is) h))

-- a picture is shown from now on
pub turned_lit : (r : Rules) (s t : Search) (shown : Shown) (es : List Entry) → is_known shown ≡ true → t.shown ≡ shown → t.at ≡ s.at → t.over ≡ s.over →
    t.tolerance ≡ s.tolerance → t.judge ≡ s.judge → t.found.breaches.items ≡ s.found.breaches.items → t.found.parts.items ≡ s.found.parts.items →
    t.found.known ≡ s.found.known → t.found.unknown ≡ s.found.unknown →
    (is_known s.shown ≡ true → t.first ≡ s.first) → (is_known s.shown ≡ false → t.first ≡ s.at) → (all : List Part) (unknown : ℕ) →
    HasFound r s all unknown (pictures_from s.at shown es) (parts_in (is_known s.shown) (record { at = s.at; shown = shown } ∷ es))
    (unknown_in (record { at = s.at; shown = shown } ∷ es)) →
    HasFound r t all unknown (pictures_from t.at t.shown es) (parts_in (is_known t.shown) es) (unknown_to t.at t.shown es + unknown_in es)
turned_lit r s t shown es is tshown at over tolerance judge breaches parts known unknown inside outside all u h = go (is_known s.shown) refl
  where
    coming : u ≡ t.found.unknown + (unknown_to t.at t.shown es + unknown_in es)
    coming = rw (tshown, at, unknown) (h.unknown_is ∙ ap (λ n. s.found.unknown + n) (unknown_first s.at shown es))

    go : (b : Bool) → is_known s.shown ≡ b → HasFound r t all u (pictures_from t.at t.shown es) (parts_in (is_known t.shown) es) (unknown_to t.at t.shown es + unknown_in es)
    go true e =
        let left : all ≡ h.over ++ (record { first = s.first; pictures = h.now ++ pictures_from s.at shown es } ∷
        parts_in true (record { at = s.at; shown = shown } ∷ es)) = rw e at h.left in
        record {
          over = h.over;
          now = h.now;
          judged = rw (tolerance, judge, breaches) h.judged;
          parts = rw tolerance (parts ∙ h.parts);
          count = rw tolerance (over ∙ h.count);
          left = rw (tshown, is, at, inside e)
              (left ∙ ap (λ (x : List Part). h.over ++ (record { first = s.first; pictures = h.now ++ pictures_from s.at shown es } ∷ x))
              (lit_inside s.at shown es is));
          known = known ∙ h.known;
          unknown_is = coming;
          none = λ no. absurd (let e : true ≡ false = sym (ap is_known tshown ∙ is) ∙ no in cc);
        }
    go false e =
        let left : all ≡ h.over ++ parts_in false (record { at = s.at; shown = shown } ∷ es) = rw e at h.left in
        let empty : h.now ≡ [] = h.none e in
        record {
          over = h.over;
          now = [];
          judged = rw (tolerance, judge, breaches)
              (subst (λ (x : turns.History). IsJudged r (unknown_past s.tolerance) (all_breaches r s.tolerance h.over) x s.judge s.found.breaches.items) empty h.judged);
          parts = rw tolerance (parts ∙ h.parts);
          count = rw tolerance (over ∙ h.count);
          left = rw (tshown, is, at, outside e) (left ∙ ap (λ (x : List Part). h.over ++ x) (lit_outside s.at shown es is));
          known = known ∙ h.known ∙ ap (λ (x : turns.History). known_in h.over + length x) empty;
          unknown_is = coming;
          none = λ no. refl;
        }

-- the numbers still fit behind a turn
pub fits_turned : (s t : Search) (begin : ℕ) → t.at ≡ s.at → t.found.known ≡ s.found.known → t.found.unknown ≡ s.found.unknown → t.judge ≡ s.judge →
    (is_known t.shown ≡ true → is_known s.shown ≡ true → t.first ≡ s.first) →
    (is_known t.shown ≡ true → is_known s.shown ≡ false → t.first ≡ s.at) →
    (is_known t.shown ≡ false → is_known s.shown ≡ false) → Fits s begin → begin ≤ s.at → Fits t begin
fits_turned s t begin at known unknown judge inside outside dark fits begun = record {
  span = omega (arith, at, known, unknown, fits.span);
  week = omega (arith, at, fits.week);
  begun = λ e. omega (arith, at, begun);
  inside = λ e. both_of (is_known s.shown) (t.first + seconds_of t.judge ≡ t.at)
      (λ b. omega (arith, inside e b, fits.inside b, at, ap seconds_of judge))
      (λ b. omega (arith, outside e b, fits.outside b, at, ap seconds_of judge));
  after = λ e. both_of (is_known s.shown) (begin ≤ t.first)
      (λ b. omega (arith, inside e b, fits.after b))
      (λ b. omega (arith, outside e b, begun));
  outside = λ e. ap seconds_of judge ∙ fits.outside (dark e);
}

-- the numbers still fit behind the end of a part
pub fits_ended : (s t : Search) (begin : ℕ) → t.at ≡ s.at → t.found.known ≡ s.found.known → t.found.unknown ≡ s.found.unknown →
    is_known s.shown ≡ true → t.shown ≡ End → seconds_of t.judge ≡ 0 → Fits s begin → Fits t begin
fits_ended s t begin at known unknown lit dark none fits = record {
  span = omega (arith, at, known, unknown, fits.span);
  week = omega (arith, at, fits.week);
  begun = λ e. absurd (let no : true ≡ false = sym (ap is_end dark) ∙ e in cc);
  inside = λ e. absurd (let no : false ≡ true = sym (ap is_known dark) ∙ e in cc);
  after = λ e. absurd (let no : false ≡ true = sym (ap is_known dark) ∙ e in cc);
  outside = λ e. none;
}

-- what is left behind the next entry, once what was shown before it is judged
unknown_next : (s : Search) (e : Entry) (rest : List Entry) →
    unknown_to s.at s.shown (e ∷ rest) + unknown_in (e ∷ rest) ≡ unknown_then (e.at - s.at) s.shown (unknown_in (e ∷ rest))
unknown_next s e rest = go s.shown
  where
    go : (shown : Shown) → unknown_to s.at shown (e ∷ rest) + unknown_in (e ∷ rest) ≡ unknown_then (e.at - s.at) shown (unknown_in (e ∷ rest))
    go (Picture p) = zero-add _
    go Unknown = refl
    go End = zero-add _

pictures_next : (at : ℕ) (shown : Shown) (e : Entry) (rest : List Entry) →
    pictures_from at shown (e ∷ rest) ≡ shown_then (e.at - at) shown (pictures_from e.at e.shown rest)
unfolding pictures_from
pictures_next at shown e rest = refl

pub taken_next : (r : Rules) (s : Search) (all : List Entry) (e : Entry) (rest : List Entry) → HasTaken r s all (e ∷ rest) →
    HasFound r s (parts_of all) (unknown_in all) (shown_then (e.at - s.at) s.shown (pictures_from e.at e.shown rest))
    (parts_in (is_known s.shown) (e ∷ rest)) (unknown_then (e.at - s.at) s.shown (unknown_in (e ∷ rest)))
taken_next r s all e rest h =
    subst (λ n. HasFound r s (parts_of all) (unknown_in all) (shown_then (e.at - s.at) s.shown (pictures_from e.at e.shown rest))
    (parts_in (is_known s.shown) (e ∷ rest)) n) (unknown_next s e rest)
    (subst (λ (x : turns.History). HasFound r s (parts_of all) (unknown_in all) x (parts_in (is_known s.shown) (e ∷ rest))
    (unknown_to s.at s.shown (e ∷ rest) + unknown_in (e ∷ rest))) (pictures_next s.at s.shown e rest) h)

none_known : 0 ≡ known_in [] + 0
unfolding known_in
none_known = refl

-- where the search stands is the time of the entry
pub turned_at : (r : Rules) (s : Search) (all : List Part) (unknown at : ℕ) (was shown : Shown) (rest : List Entry) → s.at ≡ at → s.shown ≡ was →
    HasFound r s all unknown (pictures_from at shown rest) (parts_in (is_known was) (record { at = at; shown = shown } ∷ rest))
    (unknown_in (record { at = at; shown = shown } ∷ rest)) →
    HasFound r s all unknown (pictures_from s.at shown rest) (parts_in (is_known s.shown) (record { at = s.at; shown = shown } ∷ rest))
    (unknown_in (record { at = s.at; shown = shown } ∷ rest))
turned_at r s all unknown at was shown rest at_is shown_is h =
    subst (λ n. HasFound r s all unknown (pictures_from n shown rest) (parts_in (is_known s.shown) (record { at = n; shown = shown } ∷ rest))
    (unknown_in (record { at = n; shown = shown } ∷ rest))) (sym at_is)
    (subst (λ (x : Shown). HasFound r s all unknown (pictures_from at shown rest) (parts_in (is_known x) (record { at = at; shown = shown } ∷ rest))
    (unknown_in (record { at = at; shown = shown } ∷ rest))) (sym shown_is) h)

-- before the first entry nothing was found
pub none_taken : (r : Rules) (s : Search) (groups tolerance : ℕ) → IsNew s groups tolerance → (rest : List Entry) → HasTaken r s rest rest
none_taken r s groups tolerance new rest =
    let dark : is_known s.shown ≡ false = ap is_known new.shown in
    record {
      over = [];
      now = [];
      judged = record { stands = new.stands; found_are = new.no_breaches ∙ sym (none_within r (unknown_past s.tolerance)) };
      parts = new.no_parts;
      count = new.no_count;
      left = rw dark refl;
      known = new.no_known ∙ none_known;
      unknown_is = rw (new.no_unknown, new.shown) (sym (zero-add _ ∙ zero-add _));
      none = λ no. refl;
    }

-- at first the numbers fit, whatever the first time is
pub first_fits : (s : Search) (groups tolerance begin : ℕ) → IsNew s groups tolerance → Fits s begin
first_fits s groups tolerance begin new = record {
  span = omega (arith, new.no_known, new.no_unknown);
  week = omega (arith, new.at);
  begun = λ e. absurd (let no : true ≡ false = sym (ap is_end new.shown) ∙ e in cc);
  inside = λ e. absurd (let no : false ≡ true = sym (ap is_known new.shown) ∙ e in cc);
  after = λ e. absurd (let no : false ≡ true = sym (ap is_known new.shown) ∙ e in cc);
  outside = λ e. new.none;
}

-- behind the last entry, with no part open, all was found
pub all_found : (r : Rules) (s : Search) (all : List Entry) (to_come : ℕ) → is_known s.shown ≡ false → to_come ≡ 0 →
    HasFound r s (parts_of all) (unknown_in all) [] [] to_come → AreFound r s.tolerance all s.found
all_found r s all to_come dark none h =
    let last : parts_of all ≡ h.over ++ [] = rw dark at h.left in
    let left : parts_of all ≡ h.over = last ∙ append-nil h.over in
    let empty : h.now ≡ [] = h.none dark in
    record {
      breaches = h.judged.found_are
          ∙ ap (λ (x : turns.History). all_breaches r s.tolerance h.over ++ breaches_within r (unknown_past s.tolerance) x) empty
          ∙ ap (λ (x : List Breach). all_breaches r s.tolerance h.over ++ x) (none_within r (unknown_past s.tolerance))
          ∙ append-nil (all_breaches r s.tolerance h.over)
          ∙ ap (all_breaches r s.tolerance) (sym left);
      parts = h.parts ∙ ap (λ (x : List Part). map (kept r s.tolerance) x) (sym left);
      known = omega (arith, h.known, ap length empty, ap known_in left);
      unknown = omega (arith, h.unknown_is, none);
    }
