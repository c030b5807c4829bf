-- The pages of the parts of a record, while its entries come.
use Rattle.std.proofs.Common.{◌≡◌, ◌∙◌, ℕ, ◌+◌, ◌-◌, ◌≤◌, Bool, true, false, List, [], ◌∷◌, ◌++◌, length, Option, None, Some, refl, sym, ap, subst, append_assoc, arith}
use Rattle.std.specs.Prelude.{replicate}
use Rattle.std.proofs.Math.ListN.{length-append}
use Rattle.std.proofs.lemmas.List.{append-nil, length-replicate}
use Rattle.sig_types.specs.Turns as turns
use Rattle.log_protocol.specs.Page.{IsPageOf, groups_of, seconds_of}
use Rattle.log_protocol.specs.Parts.{known_in}
use Rattle.log_protocol.specs.Totals.{AreTotalsOf}
use Rattle.tenth_records.specs.declared.entry.Entry.{Entry}
use Rattle.tenth_records.specs.declared.entry.Shown.{Shown}
use Rattle.tenth_records.specs.declared.entry.Shown.TheVariants.{Picture, Unknown, End}
use Rattle.tenth_records.specs.Parts.{Part, is_known, parts_in, parts_of, pictures_from, shown_then}
use Rattle.tenth_records.specs.Record.{first_or, is_end}
use Rattle.tenth_report.specs.declared.pages.Pages.{Pages}
use Rattle.tenth_report.specs.Pages.{AreNew, Fits, HasGathered, HasRoom, HasTaken}
use Rattle.tenth_report.proofs.Searching.{both_of, dark_parts, dark_pictures, lit_inside, lit_outside}

known_more : (parts : List Part) (part : Part) → known_in (parts ++ part ∷ []) ≡ known_in parts + length part.pictures
unfolding known_in
known_more [] part = omega arith
known_more (x ∷ parts) part = omega (arith, known_more parts part)

none_known : known_in [] + 0 ≡ 0
unfolding known_in
none_known = omega arith

-- no more tenths than of a week are counted up to a time
pub counted_room : (g : Pages) (to : ℕ) → HasRoom g to → is_known g.shown ≡ true → g.known + (to - g.at) ≤ 6048000
counted_room g to room lit =
    let open_ : is_end g.shown ≡ false = not_end g.shown lit in
    omega (arith, room.fits.begun open_, room.fits.span, room.later, room.week)
  where
    not_end : (shown : Shown) → is_known shown ≡ true → is_end shown ≡ false
    not_end (Picture p) is = refl
    not_end Unknown is = refl
    not_end End is = absurd (let e : false ≡ true = is in cc)

-- and the page has no more pictures
pub page_room : (g : Pages) (to : ℕ) → HasRoom g to → is_known g.shown ≡ true → seconds_of g.page + (to - g.at) ≤ 6048002
page_room g to room lit = omega (arith, counted_room g to room lit, room.fits.counted)

-- the numbers still fit at a later time
pub fits_on : (g t : Pages) (begin to : ℕ) → g.at ≤ to → t.at ≡ to → t.shown ≡ g.shown → t.first ≡ g.first →
    (is_known g.shown ≡ true → seconds_of t.page ≡ seconds_of g.page + (to - g.at)) →
    (is_known g.shown ≡ true → t.known ≡ g.known + (to - g.at)) →
    (is_known g.shown ≡ false → t.page ≡ g.page) → (is_known g.shown ≡ false → t.known ≡ g.known) →
    Fits g begin → begin ≤ to → to ≤ begin + 6048000 → Fits t begin
fits_on g t begin to later at shown first lit counted dark still fits begun week = record {
  span = both_of (is_known g.shown) (t.known ≤ t.at - begin)
      (λ e. omega (arith, counted e, fits.span, fits.begun (not_end g.shown e), at, later))
      (λ e. omega (arith, still e, fits.span, at, later));
  week = omega (arith, at, week);
  begun = λ e. omega (arith, at, begun);
  inside = λ e. let e' : is_known g.shown ≡ true = sym (ap is_known shown) ∙ e in omega (arith, fits.inside e', lit e', first, at, later);
  outside = λ e. let e' : is_known g.shown ≡ false = sym (ap is_known shown) ∙ e in ap seconds_of (dark e') ∙ fits.outside e';
  counted = both_of (is_known g.shown) (seconds_of t.page ≤ t.known)
      (λ e. omega (arith, counted e, lit e, fits.counted))
      (λ e. omega (arith, still e, ap seconds_of (dark e), fits.counted));
}
  where
    not_end : (shown : Shown) → is_known shown ≡ true → is_end shown ≡ false
    not_end (Picture p) is = refl
    not_end Unknown is = refl
    not_end End is = absurd (let e : false ≡ true = is in cc)

-- a picture was added that is shown in n tenths
pub went_on : (g t : Pages) (p : turns.Picture) (n : ℕ) → g.shown ≡ Picture p → t.shown ≡ g.shown → t.first ≡ g.first → t.totals ≡ g.totals →
    groups_of t.page ≡ groups_of g.page → t.known ≡ g.known + n →
    ((h : turns.History) → IsPageOf g.page h → IsPageOf t.page (h ++ replicate n p)) → (all : List Part) (more : turns.History) (rest : List Part) →
    HasGathered g all (shown_then n g.shown more) rest → HasGathered t all more rest
went_on g t p n is shown first totals groups known page all more rest h =
    let now : turns.History = h.now ++ replicate n p in
    let size : length now ≡ length h.now + n = length-append h.now (replicate n p) ∙ ap (λ m. length h.now + m) (length-replicate n p) in
    let left : all ≡ h.over ++ (record { first = g.first; pictures = h.now ++ (replicate n p ++ more) } ∷ rest) = rw is at h.left in
    record {
      over = h.over;
      now = now;
      totals = rw (totals, groups) h.totals;
      page = page h.now h.page;
      known = omega (arith, known, h.known, size);
      left = rw (shown, first, is)
          (left ∙ ap (λ (x : turns.History). h.over ++ (record { first = g.first; pictures = x } ∷ rest)) (sym (append_assoc h.now (replicate n p) more)));
      none = λ no. absurd (let e : true ≡ false = sym (ap is_known (shown ∙ is)) ∙ no in cc);
    }

-- no picture is shown
pub went_dark : (g t : Pages) → is_known g.shown ≡ false → is_known t.shown ≡ false → t.totals ≡ g.totals → t.page ≡ g.page → t.known ≡ g.known →
    (all : List Part) (before more : turns.History) (rest : List Part) → HasGathered g all before rest → HasGathered t all more rest
went_dark g t is shown totals page known all before more rest h =
    let left : all ≡ h.over ++ rest = rw is at h.left in
    record {
      over = h.over;
      now = h.now;
      totals = rw (totals, page) h.totals;
      page = rw page h.page;
      known = known ∙ h.known;
      left = rw shown left;
      none = λ no. h.none is;
    }

-- a part is over
pub ended : (g t : Pages) → is_known g.shown ≡ true → is_known t.shown ≡ false → groups_of t.page ≡ groups_of g.page → t.known ≡ g.known →
    g.known ≤ 6048000 → IsPageOf t.page [] →
    ((parts : List Part) (h : turns.History) → AreTotalsOf g.totals (groups_of g.page) parts → IsPageOf g.page h → known_in parts + length h ≤ 6048002 →
    AreTotalsOf t.totals (groups_of g.page) (parts ++ record { first = g.first; pictures = h } ∷ [])) →
    (all : List Part) (rest : List Part) → HasGathered g all [] rest → HasGathered t all [] rest
ended g t lit dark groups known few page added all rest h =
    let part : Part = record { first = g.first; pictures = h.now } in
    let left : all ≡ h.over ++ (record { first = g.first; pictures = h.now ++ [] } ∷ rest) = rw lit at h.left in
    record {
      over = h.over ++ part ∷ [];
      now = [];
      totals = rw groups (added h.over h.now h.totals h.page (omega (arith, h.known, few)));
      page = page;
      known = omega (arith, known, h.known, known_more h.over part);
      left = rw dark
          (left ∙ ap (λ (x : turns.History). h.over ++ (record { first = g.first; pictures = x } ∷ rest)) (append-nil h.now)
          ∙ sym (append_assoc h.over (part ∷ []) rest));
      none = λ no. refl;
    }

-- nothing is known from now on
pub turned_dark : (g : Pages) (shown : Shown) (es : List Entry) (all : List Part) → is_known shown ≡ false →
    HasGathered g all (pictures_from g.at shown es) (parts_in (is_known g.shown) (record { at = g.at; shown = shown } ∷ es)) →
    HasGathered g all [] (parts_in false es)
turned_dark g shown es all is h =
    subst (λ (x : List Part). HasGathered g all [] x) (dark_parts (is_known g.shown) g.at shown es is)
    (subst (λ (x : turns.History). HasGathered g all x (parts_in (is_known g.shown) (record { at = g.at; shown = shown } ∷ es)))
    (dark_pictures g.at shown es is) h)

-- a picture is shown from now on
pub turned_lit : (g t : Pages) (shown : Shown) (es : List Entry) → is_known shown ≡ true → t.shown ≡ shown → t.at ≡ g.at → t.totals ≡ g.totals →
    t.page ≡ g.page → t.known ≡ g.known → (is_known g.shown ≡ true → t.first ≡ g.first) → (is_known g.shown ≡ false → t.first ≡ g.at) → (all : List Part) →
    HasGathered g all (pictures_from g.at shown es) (parts_in (is_known g.shown) (record { at = g.at; shown = shown } ∷ es)) →
    HasGathered t all (pictures_from t.at t.shown es) (parts_in (is_known t.shown) es)
turned_lit g t shown es is tshown at totals page known inside outside all h = go (is_known g.shown) refl
  where
    go : (b : Bool) → is_known g.shown ≡ b → HasGathered t all (pictures_from t.at t.shown es) (parts_in (is_known t.shown) es)
    go true e =
        let left : all ≡ h.over ++ (record { first = g.first; pictures = h.now ++ pictures_from g.at shown es } ∷
        parts_in true (record { at = g.at; shown = shown } ∷ es)) = rw e at h.left in
        record {
          over = h.over;
          now = h.now;
          totals = rw (totals, page) h.totals;
          page = rw page h.page;
          known = known ∙ h.known;
          left = rw (tshown, is, at, inside e)
              (left ∙ ap (λ (x : List Part). h.over ++ (record { first = g.first; pictures = h.now ++ pictures_from g.at shown es } ∷ x))
              (lit_inside g.at shown es is));
          none = λ no. absurd (let e : true ≡ false = sym (ap is_known tshown ∙ is) ∙ no in cc);
        }
    go false e =
        let left : all ≡ h.over ++ parts_in false (record { at = g.at; shown = shown } ∷ es) = rw e at h.left in
        let empty : h.now ≡ [] = h.none e in
        record {
          over = h.over;
          now = [];
          totals = rw (totals, page) h.totals;
          page = rw page (subst (λ (x : turns.History). IsPageOf g.page x) empty h.page);
          known = known ∙ h.known ∙ ap (λ (x : turns.History). known_in h.over + length x) empty;
          left = rw (tshown, is, at, outside e) (left ∙ ap (λ (x : List Part). h.over ++ x) (lit_outside g.at shown es is));
          none = λ no. refl;
        }

-- the numbers still fit behind a turn
pub fits_turned : (g t : Pages) (begin : ℕ) → t.at ≡ g.at → t.known ≡ g.known → t.page ≡ g.page →
    (is_known t.shown ≡ true → is_known g.shown ≡ true → t.first ≡ g.first) →
    (is_known t.shown ≡ true → is_known g.shown ≡ false → t.first ≡ g.at) →
    (is_known t.shown ≡ false → is_known g.shown ≡ false) → Fits g begin → begin ≤ g.at → Fits t begin
fits_turned g t begin at known page inside outside dark fits begun = record {
  span = omega (arith, at, known, fits.span);
  week = omega (arith, at, fits.week);
  begun = λ e. omega (arith, at, begun);
  inside = λ e. both_of (is_known g.shown) (t.first + seconds_of t.page ≡ t.at)
      (λ b. omega (arith, inside e b, fits.inside b, at, ap seconds_of page))
      (λ b. omega (arith, outside e b, fits.outside b, at, ap seconds_of page));
  outside = λ e. ap seconds_of page ∙ fits.outside (dark e);
  counted = omega (arith, ap seconds_of page, known, fits.counted);
}

-- and behind the end of a part
pub fits_ended : (g t : Pages) (begin : ℕ) → t.at ≡ g.at → t.known ≡ g.known → t.shown ≡ End → seconds_of t.page ≡ 0 → Fits g begin → Fits t begin
fits_ended g t begin at known dark none fits = record {
  span = omega (arith, at, known, fits.span);
  week = omega (arith, at, fits.week);
  begun = λ e. absurd (let no : true ≡ false = sym (ap is_end dark) ∙ e in cc);
  inside = λ e. absurd (let no : false ≡ true = sym (ap is_known dark) ∙ e in cc);
  outside = λ e. none;
  counted = omega (arith, none);
}

pictures_next : (at : ℕ) (shown : Shown) (e : Entry) (rest : List Entry) →
    pictures_from at shown (e ∷ rest) ≡ shown_then (e.at - at) shown (pictures_from e.at e.shown rest)
unfolding pictures_from
pictures_next at shown e rest = refl

-- what is left with the next entry
pub taken_next : (g : Pages) (all : List Entry) (e : Entry) (rest : List Entry) → HasTaken g all (e ∷ rest) →
    HasGathered g (parts_of all) (shown_then (e.at - g.at) g.shown (pictures_from e.at e.shown rest)) (parts_in (is_known g.shown) (e ∷ rest))
taken_next g all e rest h =
    subst (λ (x : turns.History). HasGathered g (parts_of all) x (parts_in (is_known g.shown) (e ∷ rest))) (pictures_next g.at g.shown e rest) h

-- where the gathering stands is the time of the entry
pub turned_at : (g : Pages) (all : List Part) (at : ℕ) (was shown : Shown) (rest : List Entry) → g.at ≡ at → g.shown ≡ was →
    HasGathered g all (pictures_from at shown rest) (parts_in (is_known was) (record { at = at; shown = shown } ∷ rest)) →
    HasGathered g all (pictures_from g.at shown rest) (parts_in (is_known g.shown) (record { at = g.at; shown = shown } ∷ rest))
turned_at g all at was shown rest at_is shown_is h =
    subst (λ n. HasGathered g all (pictures_from n shown rest) (parts_in (is_known g.shown) (record { at = n; shown = shown } ∷ rest))) (sym at_is)
    (subst (λ (x : Shown). HasGathered g all (pictures_from at shown rest) (parts_in (is_known x) (record { at = at; shown = shown } ∷ rest)))
    (sym shown_is) h)

-- before the first entry nothing came
pub none_taken : (g : Pages) (groups : ℕ) → AreNew g groups → (rest : List Entry) → HasTaken g rest rest
none_taken g groups new rest =
    let dark : is_known g.shown ≡ false = ap is_known new.shown in
    record {
      over = [];
      now = [];
      totals = rw new.of.page new.totals;
      page = new.page;
      known = new.known ∙ sym none_known;
      left = rw dark refl;
      none = λ no. refl;
    }

-- at first the numbers fit, whatever the first time is
pub first_fits : (g : Pages) (groups begin : ℕ) → AreNew g groups → Fits g begin
first_fits g groups begin new = record {
  span = omega (arith, new.known);
  week = omega (arith, new.at);
  begun = λ e. absurd (let no : true ≡ false = sym (ap is_end new.shown) ∙ e in cc);
  inside = λ e. absurd (let no : false ≡ true = sym (ap is_known new.shown) ∙ e in cc);
  outside = λ e. new.none;
  counted = omega (arith, new.none);
}

-- behind the last entry, with no part open, all is in the totals
pub all_gathered : (g : Pages) (all : List Entry) → is_known g.shown ≡ false → HasGathered g (parts_of all) [] [] →
    AreTotalsOf g.totals (groups_of g.page) (parts_of all)
all_gathered g all dark h =
    let last : parts_of all ≡ h.over ++ [] = rw dark at h.left in
    subst (λ (x : List Part). AreTotalsOf g.totals (groups_of g.page) x) (sym (last ∙ append-nil h.over)) h.totals

pub all_known : (g : Pages) (all : List Entry) → is_known g.shown ≡ false → HasGathered g (parts_of all) [] [] → g.known ≡ known_in (parts_of all)
all_known g all dark h =
    let last : parts_of all ≡ h.over ++ [] = rw dark at h.left in
    omega (arith, h.known, ap (λ (x : turns.History). length x) (h.none dark), ap known_in (last ∙ append-nil h.over))

no_pictures : (at : ℕ) (shown : Shown) → pictures_from at shown [] ≡ []
unfolding pictures_from
no_pictures at shown = refl

-- all entries were taken
pub whole_taken : (g : Pages) (all : List Entry) → HasTaken g all [] → HasGathered g (parts_of all) [] []
unfolding parts_in
whole_taken g all h =
    subst (λ (x : turns.History). HasGathered g (parts_of all) x []) (no_pictures g.at g.shown) h

-- the gathering has taken all entries from this first time on, up to the earliest time that may follow
abbrev pub FitsAt : Pages → Option ℕ → ℕ → Type 0
FitsAt g None next = ((begin : ℕ) → Fits g begin) × (g.at ≡ 0) × (next ≡ 0)
FitsAt g (Some first) next = Fits g first × (next ≡ g.at + 1) × (first ≤ g.at)

-- the next entry has room
pub room_at : (g : Pages) (first : Option ℕ) (next at : ℕ) → FitsAt g first next → next ≤ at → at ≤ first_or first at + 6048000 → HasRoom g at
room_at g None next at is later week =
    record { begin = at; fits = is.0 at; later = omega (arith, is.1); begun = omega arith; week = omega arith }
room_at g (Some first) next at is later week =
    record { begin = first; fits = is.0; later = omega (arith, is.1, later); begun = omega (arith, is.1, is.2, later); week = week }

-- and fits behind it
pub fits_next : (g t : Pages) (first : Option ℕ) (next at : ℕ) → FitsAt g first next → next ≤ at → at ≤ first_or first at + 6048000 → t.at ≡ at →
    ((begin : ℕ) → Fits g begin → begin ≤ at → at ≤ begin + 6048000 → Fits t begin) → FitsAt t (Some (first_or first at)) (at + 1)
fits_next g t None next at is later week same on =
    (on at (is.0 at) (omega arith) (omega arith), ap (λ n. n + 1) (sym same), omega (arith, same))
fits_next g t (Some first) next at is later week same on =
    (on first is.0 (omega (arith, is.1, is.2, later)) week, ap (λ n. n + 1) (sym same), omega (arith, same, is.1, is.2, later))

-- in any case there are no more tenths than of a week
pub few_known : (g : Pages) (first : Option ℕ) (next : ℕ) → FitsAt g first next → g.known ≤ 6048000
few_known g None next is = let fits : Fits g 0 = is.0 0 in omega (arith, fits.span, fits.week)
few_known g (Some first) next is = omega (arith, is.0.span, is.0.week)

pub inside_known : (g : Pages) (first : Option ℕ) (next : ℕ) → FitsAt g first next → is_known g.shown ≡ true → g.first + seconds_of g.page ≡ g.at
inside_known g None next is lit = let fits : Fits g 0 = is.0 0 in fits.inside lit
inside_known g (Some first) next is lit = is.0.inside lit

-- one entry more was taken
pub one_taken : (g t : Pages) (past : List Entry) (e : Entry) → ((rest : List Entry) → HasTaken g (past ++ rest) rest) →
    ((all rest : List Entry) → HasTaken g all (e ∷ rest) → HasTaken t all rest) → (rest : List Entry) → HasTaken t ((past ++ e ∷ []) ++ rest) rest
one_taken g t past e taken take rest =
    subst (λ (xs : List Entry). HasTaken t xs rest) (sym (append_assoc past (e ∷ []) rest)) (take (past ++ (e ∷ rest)) rest (taken (e ∷ rest)))

-- the next entry is no earlier
pub later_at : (g : Pages) (first : Option ℕ) (next at : ℕ) → FitsAt g first next → next ≤ at → g.at ≤ at
later_at g None next at is later = omega (arith, is.1)
later_at g (Some first) next at is later = omega (arith, is.1, later)
