-- What is drawn of records that lines say can be shown.
use Rattle.std.proofs.Common.{◌≡◌, ℕ, suc, ◌+◌, ◌-◌, ◌≤◌, List, [], ◌∷◌, length, get_or, drop, refl, arith}
use Rattle.std.specs.List.{All, flat_map}
use Rattle.std.proofs.lemmas.List.Elements.{All-append, All-drop, All-map, All-nil, All-take}
use Rattle.sig_types.specs.declared.record.Record.{Record}
use Rattle.sig_types.specs.declared.refused.StageRefusal.{StageRefusal}
use Rattle.sig_types.specs.declared.refused.TurnRefusal.{TurnRefusal}
use Rattle.sig_types.specs.Recorded.{IsRecord}
use Rattle.log_svg.specs.declared.diagram.Diagram.{Diagram}
use Rattle.log_svg.specs.declared.marks.Refused.TheVariants.{Command, Turn}
use Rattle.log_svg.specs.Diagram.{IsShowable}
use Rattle.log_svg.specs.Marks.{IsRefused}
use Rattle.log_svg.specs.ShownIn.{shown_in}
use Rattle.log_read.proofs.Ranges.{recorded}
use Rattle.report_seen.specs.declared.diagram_form.Window.{Window}
use Rattle.report_seen.specs.Drawn.{AreSaid, IsDrawn}
use Rattle.report_seen.specs.DiagramForm.{IsWindow}
use Rattle.report_seen.specs.Gathered.{history_of, refusals_in, window_in}
use Rattle.report_seen.proofs.Covering.{spans_count}

-- each record of a list adds only such
pub all_added : {A : Type 0} (P : A → Type 0) (f : Record → List A) (rs : List Record) → All (λ r. All P (f r)) rs → All P (flat_map f rs)
all_added P f [] each = All-nil P
all_added P f (r ∷ rs) each = All-append P (f r) (flat_map f rs) (each 0 r (omega arith)) (all_added P f rs (λ i d lt. each (suc i) d (omega arith)))

-- the records of a window keep what a record does
window_recorded : (names : List (List ℕ)) (records : List Record) (from to : ℕ) → AreSaid names records → All (IsRecord (length names)) (window_in from to records)
window_recorded names records from to said =
    All-take (IsRecord (length names)) (to + 1 - from) (drop (from - 1) records)
    (All-drop (IsRecord (length names)) (from - 1) records
    (λ k d lt. let s = said k d lt in recorded names (k + 1) s.0 (get_or records k d) s.1))

-- the refused turns of a record are of groups that there are
refusals_ok : (n : ℕ) (r : Record) → IsRecord n r → All (λ m. IsRefused n m.refused) (refusals_in r)
refusals_ok n r is =
    All-append (λ m. IsRefused n m.refused) _ _
    (All-map (λ m. IsRefused n m.refused) (λ (x : StageRefusal). record { second = r.second.0; refused = Command x }) r.stages
    (λ i d lt. tt))
    (All-map (λ m. IsRefused n m.refused) (λ (x : TurnRefusal). record { second = r.second.0; refused = Turn x }) r.turns
    (λ i d lt. let turn = is.turns i d lt in (turn.group, turn.other)))

-- a diagram of a whole window can be shown
pub showable : (names : List (List ℕ)) (records : List Record) (window : Window) (d : Diagram) → IsWindow window → length names ≤ 64 → AreSaid names records → window.to ≤ length records →
    IsDrawn names records window.from window.to d → length d.covers.items ≡ 64 → IsShowable (shown_in d)
showable names records window d is few said long drawn size =
    let from = window.from in
    let to = window.to in
    let past : d.chart.past ≡ to + 1 = omega (arith, drawn.past_is, long, is.order) in
    let inside = window_recorded names records from to said in
    rw (drawn.names_are, drawn.from_is, drawn.to_is, drawn.refusals) record {
      order = is.order;
      hour = is.hour;
      last = omega (arith, is.last);
      few = few;
      history = history_of (length names) records;
      chart = rw past at (drawn.chart (history_of (length names) records) (λ t le. refl));
      refusals = all_added (λ m. IsRefused (length names) m.refused) refusals_in (window_in from to records) (λ i r lt.
          refusals_ok (length names) (get_or (window_in from to records) i r) (inside i r lt));
      covers = spans_count d.covers.items size;
    }
