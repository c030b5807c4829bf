-- Detectors are dealt one by one.
use Rattle.std.proofs.Common.{◌≡◌, ℕ, suc, ◌*◌, ◌<◌, List, [], refl, sym, ap, ◌∙◌, subst, arith, replicate, None}
use Rattle.std.specs.Prelude.{slice_set}
use Rattle.atomic_table.specs.Table.{Me, Splits}
use Rattle.atomic_table.specs.Seated.{TableId}
use Rattle.det_board.specs.declared.view.View.{View}
use Rattle.det_board.specs.declared.view.View.TheVariants.{Tick, Feeder}
use Rattle.det_board.specs.Rule.{fronts_word, rears_word, Keeps, dealt_from, dealt_to, feeder_of, owned_of}
use Rattle.det_board.specs.Passes.{Undealt, IsTicking}
use Rattle.det_board.proofs.Allowed.{deal_allows}
use Rattle.det_board.proofs.Opening.{nothing_read, length-same, all_zero}

-- the seat's view, and what the new seat gets
seen : (n detectors : ℕ) (me : Me (Unit {0}) View) → Undealt n detectors me → n < detectors → (dealt_to me.0 ≡ Feeder n 0 0)
    × (dealt_from me.0 ≡ Tick (suc n) (replicate (8 * detectors) []) (slice_set (owned_of me.0) n None))
seen n detectors me u inside = (
  ap (λ (m : Me (Unit {0}) View). dealt_to m.0) u.view ∙ ap (feeder_of n) (u.rest n (omega arith) inside),
  ap (λ (m : Me (Unit {0}) View). dealt_from m.0) u.view,
)

pub deals : (key detectors id n : ℕ) (me : Me (Unit {0}) View) → key ≡ detectors → Undealt n detectors me → n < detectors →
    Splits (Keeps key) id me.0 (dealt_from me.0) (dealt_to me.0)
deals key detectors id n me same u inside =
    let none_loaded : List ℕ = [] in
    let L = replicate (8 * detectors) none_loaded in
    let v : me.0 ≡ Tick n L (owned_of me.0) = ap (λ (m : Me (Unit {0}) View). m.0) u.view in
    let s = seen n detectors me u inside in
    subst (λ (v : View). Splits (Keeps key) id v (dealt_from me.0) (dealt_to me.0)) (sym v)
    (subst (λ (r : View). Splits (Keeps key) id (Tick n L (owned_of me.0)) (dealt_from me.0) r) (sym s.0)
    (subst (λ (l : View). Splits (Keeps key) id (Tick n L (owned_of me.0)) l (Feeder n 0 0)) (sym s.1)
    (deal_allows key id n 0 0 L (owned_of me.0) (u.rest n (omega arith) inside))))

pub ticking_first : (id : TableId) (n detectors : ℕ) (me : Me (Unit {0}) View) (totals : List (ℕ × ℕ)) → Undealt n detectors me →
    id.words ≡ 8 * detectors → totals ≡ replicate 64 (0, 0) → IsTicking id me totals
ticking_first id n detectors me totals u words zeros =
    let none_loaded : List ℕ = [] in
    let z : ℕ × ℕ = (0, 0) in
    let L = replicate (8 * detectors) none_loaded in
    subst (λ (t : List (ℕ × ℕ)). IsTicking id me t) (sym zeros) (
    let Q : Me (Unit {0}) View → Type 0 = λ m. IsTicking id m (replicate 64 z) in
    subst Q (sym u.view) (record {
      view = refl;
      load_count = length-same (8 * detectors) none_loaded ∙ sym words;
      owned_count = let o = u.owned_count in omega arith;
      size = refl;
      read = λ d lt. all_zero 64 d ∙ (λ i. (sym (nothing_read (8 * detectors) (fronts_word d)) i, sym (nothing_read (8 * detectors) (rears_word d)) i));
      ordered = λ d lt. let a = nothing_read (8 * detectors) (rears_word d) in let b = nothing_read (8 * detectors) (fronts_word d) in
          (omega arith, omega arith);
    }))
