-- A diagram, as records are drawn.
use Rattle.std.proofs.Common.{◌≡◌, ◌∙◌, ℕ, suc, zero, ◌+◌, ◌-◌, ◌<◌, ◌≤◌, List, [], ◌∷◌, ◌++◌, length, get_or, take, drop, map, refl, sym, ap, arith, length-append}
use Rattle.std.specs.Prelude.{replicate}
use Rattle.std.specs.Global.{Vec}
use Rattle.std.specs.List.{flat_map}
use Rattle.std.proofs.lemmas.Grind.{flat_map-append}
use Rattle.std.proofs.lemmas.List.{append-nil, drop-append-le, drop_all, get_or_append_left, length-drop, length-map, map-append, take-append-le, take_all}
use Rattle.std.proofs.Math.Seq.{get_or-append_seam}
use Rattle.sig_types.specs.declared.aspect.Aspect.TheVariants.{Red}
use Rattle.sig_types.specs.declared.numbers.StagePlace.{StagePlace}
use Rattle.sig_types.specs.declared.numbers.StagePlace.TheVariants.{NoPlan}
use Rattle.sig_types.specs.declared.record.Record.{Record}
use Rattle.sig_types.specs.Turns.{History}
use Rattle.log_chart.specs.declared.cover.Cover.{Cover}
use Rattle.log_chart.specs.Spans.{AreSpans, IsChart}
use Rattle.log_chart.specs.Stays.{without_second}
use Rattle.log_svg.specs.declared.diagram.Diagram.{Diagram}
use Rattle.report_seen.specs.Drawn.{IsAtTo, IsDrawn, ShowsTo, past_of}
use Rattle.report_seen.specs.Gathered.{faults_in, fronts_in, history_of, places_of, refusals_in, window_in}

-- a list behind its first item, with one item more at the end
inner : {A : Type 0} (x : A) (ys : List A) (y d : A) (t : ℕ) → t ≤ length ys → get_or (x ∷ (ys ++ y ∷ [])) t d ≡ get_or (x ∷ ys) t d
inner x ys y d zero le = refl
inner x ys y d (suc t) le = get_or_append_left ys (y ∷ []) d t (omega arith)

last : {A : Type 0} (x : A) (ys : List A) (y d : A) → get_or (x ∷ (ys ++ y ∷ [])) (suc (length ys)) d ≡ y
last x ys y d = get_or-append_seam ys y [] d

-- a list that is mapped, with one item more
mapped : {A B : Type 0} (f : A → B) (x : B) (ys : List A) (y : A) (d : B) (t : ℕ) → t ≤ length ys → get_or (x ∷ map f (ys ++ y ∷ [])) t d ≡ get_or (x ∷ map f ys) t d
mapped f x ys y d t le = ap (λ l. get_or (x ∷ l) t d) (map-append f ys (y ∷ [])) ∙ inner x (map f ys) (f y) d t (omega (arith, length-map ys f))

mapped_last : {A B : Type 0} (f : A → B) (x : B) (ys : List A) (y : A) (d : B) (t : ℕ) → t ≡ length ys + 1 → get_or (x ∷ map f (ys ++ y ∷ [])) t d ≡ f y
mapped_last f x ys y d t is =
    let place : t ≡ suc (length (map f ys)) = omega (arith, is, length-map ys f) in
    ap (λ l. get_or (x ∷ l) t d) (map-append f ys (y ∷ [])) ∙ ap (λ n. get_or (x ∷ (map f ys ++ f y ∷ [])) n d) place ∙ last x (map f ys) (f y) d

-- what was shown before a record more is shown still
pub shown_still : (n : ℕ) (records : List Record) (r : Record) (h : History) → ShowsTo h (history_of n (records ++ r ∷ [])) (length (records ++ r ∷ [])) →
    ShowsTo h (history_of n records) (length records)
shown_still n records r h shows t le =
    shows t (omega (arith, le, length-append records (r ∷ []))) ∙ mapped (λ (x : Record). x.picture) (replicate n Red) records r [] t le

pub shown_last : (n : ℕ) (records : List Record) (r : Record) (h : History) (t : ℕ) → t ≡ length records + 1 → ShowsTo h (history_of n (records ++ r ∷ [])) (length (records ++ r ∷ [])) →
    get_or h t [] ≡ r.picture
shown_last n records r h t is shows =
    shows t (omega (arith, is, length-append records (r ∷ []))) ∙ mapped_last (λ (x : Record). x.picture) (replicate n Red) records r [] t is

pub at_still : (records : List Record) (r : Record) (a : ℕ → StagePlace) → IsAtTo a (places_of (records ++ r ∷ [])) (length (records ++ r ∷ [])) → IsAtTo a (places_of records) (length records)
at_still records r a at t le =
    at t (omega (arith, le, length-append records (r ∷ []))) ∙ ap without_second (mapped (λ (x : Record). x.place) NoPlan records r NoPlan t le)

pub at_last : (records : List Record) (r : Record) (a : ℕ → StagePlace) (t : ℕ) → t ≡ length records + 1 → IsAtTo a (places_of (records ++ r ∷ [])) (length (records ++ r ∷ [])) →
    a t ≡ without_second r.place
at_last records r a t is at =
    at t (omega (arith, is, length-append records (r ∷ []))) ∙ ap without_second (mapped_last (λ (x : Record). x.place) NoPlan records r NoPlan t is)

-- the records of a window with one record more: it is the window's last one, or no one of it
window_more : (from to : ℕ) (records : List Record) (r : Record) → 1 ≤ from → from ≤ length records + 1 → length records + 1 ≤ to →
    window_in from to (records ++ r ∷ []) ≡ window_in from to records ++ r ∷ []
window_more from to records r least begun within =
    let cut : drop (from - 1) (records ++ r ∷ []) ≡ drop (from - 1) records ++ r ∷ [] = drop-append-le (from - 1) records (r ∷ []) (omega (arith, begun)) in
    let whole : take (to + 1 - from) (drop (from - 1) records ++ r ∷ []) ≡ drop (from - 1) records ++ r ∷ []
    = take_all (to + 1 - from) (drop (from - 1) records ++ r ∷ []) (omega (arith, begun, within, length-drop (from - 1) records, length-append (drop (from - 1) records) (r ∷ []))) in
    let old : take (to + 1 - from) (drop (from - 1) records) ≡ drop (from - 1) records = take_all (to + 1 - from) (drop (from - 1) records) (omega (arith, begun, within, length-drop (from - 1) records)) in
    ap (take (to + 1 - from)) cut ∙ whole ∙ ap (λ l. l ++ r ∷ []) (sym old)

window_before : (from to : ℕ) (records : List Record) (r : Record) → length records + 1 < from → window_in from to (records ++ r ∷ []) ≡ window_in from to records
window_before from to records r before =
    ap (take (to + 1 - from)) (drop_all (from - 1) (records ++ r ∷ []) (omega (arith, before, length-append records (r ∷ []))) ∙ sym (drop_all (from - 1) records (omega (arith, before))))

window_behind : (from to : ℕ) (records : List Record) (r : Record) → 1 ≤ from → from ≤ to → to < length records + 1 → window_in from to (records ++ r ∷ []) ≡ window_in from to records
window_behind from to records r least order behind =
    ap (take (to + 1 - from)) (drop-append-le (from - 1) records (r ∷ []) (omega (arith, order, behind)))
    ∙ take-append-le (to + 1 - from) (drop (from - 1) records) (r ∷ []) (omega (arith, order, behind, least, length-drop (from - 1) records))

-- what a record adds
added : {A : Type 0} (f : Record → List A) (window more : List Record) (r : Record) (new old : List A) → more ≡ window ++ r ∷ [] → new ≡ old ++ f r → old ≡ flat_map f window → new ≡ flat_map f more
added f window more r new old is put before =
    put ∙ ap (λ l. l ++ f r) before ∙ ap (λ l. flat_map f window ++ l) (sym (append-nil (f r))) ∙ sym (flat_map-append f window (r ∷ [])) ∙ ap (flat_map f) (sym is)

-- a record in the window was drawn
pub record IsPut (old new : Diagram) (r : Record) : Type 0 where
  pub names : new.names ≡ old.names
  pub from : new.from ≡ old.from
  pub to : new.to ≡ old.to
  pub past : new.chart.past ≡ old.chart.past + 1
  pub chart : (h : History) → get_or h old.chart.past [] ≡ r.picture → IsChart h (length old.chart.rows) old.chart.from old.chart.past old.chart.rows →
      IsChart h (length old.chart.rows) old.chart.from (old.chart.past + 1) new.chart.rows
  pub chart_from : new.chart.from ≡ old.chart.from
  pub stays : (a : ℕ → StagePlace) (from : ℕ) → from ≤ r.second.0 → a r.second.0 ≡ without_second r.place → AreSpans a from r.second.0 old.stays.items →
      AreSpans a from (r.second.0 + 1) new.stays.items
  pub fronts : new.fronts.items ≡ old.fronts.items ++ fronts_in r
  pub refusals : new.refusals.items ≡ old.refusals.items ++ refusals_in r
  pub faults : new.faults.items ≡ old.faults.items ++ faults_in r

-- other detectors change nothing of what else is drawn
pub recovered : (names : List (List ℕ)) (records : List Record) (from to : ℕ) (d : Diagram) (covers : Vec Cover) → IsDrawn names records from to d →
    IsDrawn names records from to (record {
      names = d.names;
      from = d.from;
      to = d.to;
      chart = d.chart;
      stays = d.stays;
      fronts = d.fronts;
      covers = covers;
      refusals = d.refusals;
      faults = d.faults;
    })
recovered names records from to d covers is = record {
  names_are = is.names_are;
  from_is = is.from_is;
  to_is = is.to_is;
  begins = is.begins;
  past_is = is.past_is;
  chart = is.chart;
  stays = is.stays;
  fronts = is.fronts;
  refusals = is.refusals;
  faults = is.faults;
}

-- a chart of all histories that show the same has a row for each group
pub rows_of : (names : List (List ℕ)) (records : List Record) (from to : ℕ) (d : Diagram) → IsDrawn names records from to d → length d.chart.rows ≡ length names
rows_of names records from to d is = (is.chart (history_of (length names) records) (λ t le. refl)).count

pub draw_more : (names : List (List ℕ)) (records : List Record) (from to : ℕ) (old new : Diagram) (r : Record) → 1 ≤ from → r.second.0 ≡ length records + 1 →
    from ≤ r.second.0 → r.second.0 ≤ to → IsPut old new r → IsDrawn names records from to old → IsDrawn names (records ++ r ∷ []) from to new
draw_more names records from to old new r least second begun within put is =
    let window = window_more from to records r least (omega (arith, second, begun)) (omega (arith, second, within)) in
    let size : length (records ++ r ∷ []) ≡ length records + 1 = length-append records (r ∷ []) in
    let past : old.chart.past ≡ length records + 1 = omega (arith, is.past_is, second, begun, within) in
    let rows = rows_of names records from to old is in
    record {
      names_are = ap (λ v. v.items) put.names ∙ is.names_are;
      from_is = put.from ∙ is.from_is;
      to_is = put.to ∙ is.to_is;
      begins = put.chart_from ∙ is.begins;
      past_is = omega (arith, put.past, past, size, second, begun, within);
      chart = λ h shows.
          let before = is.chart h (shown_still (length names) records r h shows) in
          let here = shown_last (length names) records r h old.chart.past past shows in
          rw put.past (rw (rows, is.begins) at (put.chart h here (rw (rows, is.begins) before)));
      stays = λ a at.
          let same : r.second.0 ≡ old.chart.past = omega (arith, second, past) in
          let before = is.stays a (at_still records r a at) in
          let here = at_last records r a r.second.0 second at in
          rw (put.past, ← same) (put.stays a from begun here (rw same before));
      fronts = added fronts_in (window_in from to records) (window_in from to (records ++ r ∷ [])) r new.fronts.items old.fronts.items window put.fronts is.fronts;
      refusals = added refusals_in (window_in from to records) (window_in from to (records ++ r ∷ [])) r new.refusals.items old.refusals.items window put.refusals is.refusals;
      faults = added faults_in (window_in from to records) (window_in from to (records ++ r ∷ [])) r new.faults.items old.faults.items window put.faults is.faults;
    }

-- a record that isn't in the window is passed over
passed : (names : List (List ℕ)) (records : List Record) (from to : ℕ) (d : Diagram) (r : Record) → window_in from to (records ++ r ∷ []) ≡ window_in from to records →
    past_of from to (length (records ++ r ∷ [])) ≡ past_of from to (length records) → IsDrawn names records from to d → IsDrawn names (records ++ r ∷ []) from to d
passed names records from to d r window past is = record {
  names_are = is.names_are;
  from_is = is.from_is;
  to_is = is.to_is;
  begins = is.begins;
  past_is = is.past_is ∙ sym past;
  chart = λ h shows. is.chart h (shown_still (length names) records r h shows);
  stays = λ a at. is.stays a (at_still records r a at);
  fronts = is.fronts ∙ ap (flat_map fronts_in) (sym window);
  refusals = is.refusals ∙ ap (flat_map refusals_in) (sym window);
  faults = is.faults ∙ ap (flat_map faults_in) (sym window);
}

pub draw_before : (names : List (List ℕ)) (records : List Record) (from to : ℕ) (d : Diagram) (r : Record) → length records + 1 < from →
    IsDrawn names records from to d → IsDrawn names (records ++ r ∷ []) from to d
draw_before names records from to d r before is =
    passed names records from to d r (window_before from to records r before) (omega (arith, before, length-append records (r ∷ []))) is

pub draw_behind : (names : List (List ℕ)) (records : List Record) (from to : ℕ) (d : Diagram) (r : Record) → 1 ≤ from → from ≤ to → to < length records + 1 →
    IsDrawn names records from to d → IsDrawn names (records ++ r ∷ []) from to d
draw_behind names records from to d r least order behind is =
    passed names records from to d r (window_behind from to records r least order behind) (omega (arith, order, behind, length-append records (r ∷ []))) is

-- nothing is drawn of no record
pub draw_none : (names : List (List ℕ)) (from to : ℕ) (d : Diagram) → 1 ≤ from → d.names.items ≡ names → d.from ≡ from → d.to ≡ to → d.chart.from ≡ from → d.chart.past ≡ from →
    ((h : History) → IsChart h (length names) from from d.chart.rows) → d.stays.items ≡ [] → d.fronts.items ≡ [] → d.refusals.items ≡ [] → d.faults.items ≡ [] → IsDrawn names [] from to d
draw_none names from to d least names_are from_is to_is begins past chart stays fronts refusals faults =
    let none : window_in from to [] ≡ [] = ap (take (to + 1 - from)) (drop_all (from - 1) [] (omega arith)) ∙ take_all (to + 1 - from) [] (omega arith) in
    record {
      names_are = names_are;
      from_is = from_is;
      to_is = to_is;
      begins = begins;
      past_is = omega (arith, past, least);
      chart = λ h shows. rw past (chart h);
      stays = λ a at. rw (past, stays) record {
        each = λ i d lt. absurd (omega arith);
        covers = λ t le lt. absurd (omega arith);
        rises = λ i j d lt inside. absurd (omega arith);
      };
      fronts = rw none fronts;
      refusals = rw none refusals;
      faults = rw none faults;
    }
