-- Rows and ends of interstages that are not refused leave the interstages as a plan wants them.
use Rattle.std.proofs.Common.{◌≡◌, ℕ, ◌+◌, ◌<◌, ◌≤◌, ◌==◌, true, false, not, ◌&&◌, List, [], ◌∷◌, ◌++◌, length, get_or, set, refl, ap, subst, ◌∙◌, arith, Option, Some, None, nat_le, is_some, is_none, inl, inr, ℤ}
use Rattle.std.specs.Option.{option_or}
use Rattle.std.specs.Prelude.{IfSome}
use Rattle.std.proofs.lemmas.Bool.{and_parts, or_parts, leb-true, cases_lt, cases_eq, and_from, not-false, not-true, or_from}
use Rattle.std.proofs.lemmas.List.{length-set, get_or-set_same, get_or-set_other, get_or_append_left, get_or_push, length_push, length-replicate, get_or-replicate}
use Rattle.pua_reader.specs.declared.refusal.PuaWhy.{PuaWhy}
use Rattle.sig_types.specs.Text.{number_of}
use Rattle.sig_types.specs.declared.numbers.StageNo.{StageNo}
use Rattle.sig_types.proofs.LastBelow.{least_below-none}
use Rattle.pua_model.specs.declared.parts.Group.{Group}
use Rattle.pua_model.specs.declared.parts.Stage.{Stage}
use Rattle.pua_model.specs.Plan.{InterstageOf, no_interstage, joins, has_pair, are_pairs_apart, is_row, is_end}
use Rattle.pua_model.specs.Wish.{leads}
use Rattle.pua_reader.specs.declared.form.Form.{Form}
use Rattle.pua_reader.specs.declared.form.Form.TheVariants as form
use Rattle.pua_reader.specs.Words.{Text, signed_of}
use Rattle.pua_reader.specs.Groups.{place_of}
use Rattle.pua_reader.specs.Interstages.{OpenInterstageOf, open_at, form_of, or_none, end_or_none, word, last_word, length_reasons, ends_reasons, has_row, set_row, form_why, open_after_form, interstage_row_why, open_after, interstage_by_keys, interstage_of, greens_in, first_inconsistent, inconsistent_why, interstage_reasons}
use Rattle.pua_reader.specs.Legal.{IsOpen, IsStage, Leads, AreInterstages}
use Rattle.pua_reader.proofs.Small.{none_first, nat_turned}
use Rattle.pua_reader.proofs.KeepStages.{stage_is}

seconds_fit : (given o : Option ℕ) → length_reasons given (or_none o) ≡ None → IfSome o (λ n. (1 ≤ n) × (n ≤ 126))
unfolding length_reasons
seconds_fit given None none = tt
seconds_fit given (Some n) none =
    let one = none_first (is_some given) _ _ none in
    let two = none_first (not (nat_le 1 n && nat_le n 126)) _ _ one.1 in
    let both = and_parts (nat_le 1 n) (nat_le n 126) (not-false _ two.0) in
    (leb-true 1 n both.0, leb-true n 126 both.1)

ends_fit : (rows : List (Option (ℤ × ℤ))) (place : Option ℕ) (r e : ℤ) → ends_reasons rows place r e ≡ None → (is_end r && is_end e) ≡ true
unfolding ends_reasons
ends_fit rows place r e none =
    let one = none_first (has_row rows place) _ _ none in
    let two = none_first (is_none place) _ _ one.1 in
    let three = none_first (not (is_end r && is_end e)) _ _ two.1 in
    not-false _ three.0

pub set_size : (rows : List (Option (ℤ × ℤ))) (place : Option ℕ) (r e : ℤ) → length (set_row rows place r e) ≡ length rows
set_size rows None r e = refl
set_size rows (Some g) r e = length-set rows g (Some (r, e))

set_ends : (n : ℕ) (rows : List (Option (ℤ × ℤ))) (place : Option ℕ) (r e : ℤ) → length rows ≡ n → (is_end r && is_end e) ≡ true →
    ((g : ℕ) → g < n → is_row (get_or rows g None) ≡ true) → (g : ℕ) → g < n → is_row (get_or (set_row rows place r e) g None) ≡ true
set_ends n rows None r e size fit each g lt = each g lt
set_ends n rows (Some p) r e size fit each g lt = elim (cases_eq g p) [
  | inl same ↦ (let inside : p < length rows = omega (arith, same, lt, size) in
      let here : get_or (set rows p (Some (r, e))) p None ≡ Some (r, e) = get_or-set_same rows p (Some (r, e)) None inside in
      rw (same, here) fit)
  | inr other ↦ rw (get_or-set_other rows p g (Some (r, e)) None other) (each g lt)
]

by_form : (f : Form) (groups : List Group) (stages : List Stage) (now : OpenInterstageOf) (ws : List Text) → IsOpen (length groups) stages now →
    form_why f groups stages now ws ≡ None → IsOpen (length groups) stages (open_after_form f groups stages now ws)
by_form form.NoForm groups stages now ws is none = is
by_form form.Number groups stages now ws is none = is
by_form form.Length groups stages now ws is none =
    record { seconds = seconds_fit now.length (number_of (last_word ws)) none; from = is.from; to = is.to; rows = is.rows; ends = is.ends }
by_form form.From groups stages now ws is none =
    record { seconds = is.seconds; from = stage_is stages (last_word ws); to = is.to; rows = is.rows; ends = is.ends }
by_form form.To groups stages now ws is none =
    record { seconds = is.seconds; from = is.from; to = stage_is stages (last_word ws); rows = is.rows; ends = is.ends }
by_form form.Ends groups stages now ws is none =
    let r : ℤ = end_or_none (signed_of (word ws 1)) in
    let e : ℤ = end_or_none (signed_of (word ws 2)) in
    record {
      seconds = is.seconds;
      from = is.from;
      to = is.to;
      rows = set_size now.rows (place_of groups (word ws 0)) r e ∙ is.rows;
      ends = set_ends (length groups) now.rows (place_of groups (word ws 0)) r e is.rows (ends_fit now.rows (place_of groups (word ws 0)) r e none) is.ends;
    }

pub open_keeps : (groups : List Group) (stages : List Stage) (now : OpenInterstageOf) (ws : List Text) → IsOpen (length groups) stages now →
    interstage_row_why groups stages now ws ≡ None → IsOpen (length groups) stages (open_after groups stages now ws)
open_keeps groups stages now ws is none = by_form (form_of ws) groups stages now ws is none

pub open_begins : (n line : ℕ) (stages : List Stage) → IsOpen n stages (open_at line n)
open_begins n line stages =
    record { seconds = tt; from = tt; to = tt; rows = length-replicate n None; ends = λ g lt. rw (get_or-replicate {A = Option (ℤ × ℤ)} n g None None lt) refl }

-- an interstage in which nothing is missing
pub record IsWhole (groups : ℕ) (stages : List Stage) (w : InterstageOf) : Type 0 where
  pub at_least : 1 ≤ w.length
  pub at_most : w.length ≤ 126
  pub from : IsStage stages w.from
  pub to : IsStage stages w.to
  pub rows : length w.rows ≡ groups
  pub ends : (g : ℕ) → g < groups → is_row (get_or w.rows g None) ≡ true

abbrev interstage_or : InterstageOf → Option InterstageOf → InterstageOf
interstage_or d None = d
interstage_or d (Some w) = w

whole_by : (n : ℕ) (stages : List Stage) (l : Option ℕ) (a b : Option StageNo) (rows : List (Option (ℤ × ℤ))) (w : InterstageOf) →
    IfSome l (λ n. (1 ≤ n) × (n ≤ 126)) → IfSome a (λ s. IsStage stages s.0) → IfSome b (λ s. IsStage stages s.0) → length rows ≡ n →
    ((g : ℕ) → g < n → is_row (get_or rows g None) ≡ true) → interstage_by_keys l a b rows ≡ Some w → IsWhole n stages w
whole_by n stages None a b rows w hl ha hb size each e = cc
whole_by n stages (Some k) None b rows w hl ha hb size each e = cc
whole_by n stages (Some k) (Some s) None rows w hl ha hb size each e = cc
whole_by n stages (Some k) (Some s) (Some t) rows w hl ha hb size each e =
    let same : record { from = s.0; to = t.0; length = k; rows = rows } ≡ w = ap (interstage_or w) e in
    subst (λ (v : InterstageOf). IsWhole n stages v) same (record { at_least = hl.0; at_most = hl.1; from = ha; to = hb; rows = size; ends = each })

pub whole_interstage : (n : ℕ) (stages : List Stage) (now : OpenInterstageOf) (w : InterstageOf) → IsOpen n stages now → interstage_of now ≡ Some w →
    IsWhole n stages w
whole_interstage n stages now w is e = whole_by n stages now.length now.from now.to now.rows w is.seconds is.from is.to is.rows is.ends e

none_inconsistent : (number : ℕ) (groups : List Group) (o : Option ℕ) → inconsistent_why number groups o ≡ None → o ≡ None
none_inconsistent number groups None e = refl
none_inconsistent number groups (Some g) e = cc

last_none : (o : Option PuaWhy) → option_or o None ≡ None → o ≡ None
last_none None e = refl
last_none (Some x) e = cc

pub record Joined (groups : List Group) (stages : List Stage) (interstages : List InterstageOf) (w : InterstageOf) : Type 0 where
  pub apart : (w.from == w.to) ≡ false
  pub new : has_pair w.from w.to interstages ≡ false
  pub consistent : (g : ℕ) → g < length groups → leads (get_or w.rows g None) (greens_in stages w.from g) (greens_in stages w.to g) w.length ≡ true

joined : (groups : List Group) (stages : List Stage) (interstages : List InterstageOf) (w : InterstageOf) →
    interstage_reasons groups stages interstages (Some w) ≡ None → Joined groups stages interstages w
unfolding interstage_reasons
joined groups stages interstages w none =
    let one = none_first (w.from == w.to) _ _ none in
    let two = none_first (has_pair w.from w.to interstages) _ _ one.1 in
    let all = none_inconsistent (length interstages + 1) groups (first_inconsistent (length groups) stages w)
    (last_none (inconsistent_why (length interstages + 1) groups (first_inconsistent (length groups) stages w)) two.1) in
    record {
      apart = one.0;
      new = two.0;
      consistent = λ g lt. not-false _ (least_below-none _ (length groups) all g lt);
    }

joins_turned : (v w : InterstageOf) → joins v.from v.to w ≡ joins w.from w.to v
joins_turned v w = rw (nat_turned w.from v.from, nat_turned w.to v.to) refl

pair_push : (a b : ℕ) (interstages : List InterstageOf) (w : InterstageOf) → has_pair a b interstages ≡ false → joins a b w ≡ false →
    has_pair a b (interstages ++ w ∷ []) ≡ false
pair_push a b [] w h ne = or_from (joins a b w) false ne refl
pair_push a b (v ∷ vs) w h ne =
    let both = or_parts (joins a b v) (has_pair a b vs) h in
    or_from (joins a b v) (has_pair a b (vs ++ w ∷ [])) both.0 (pair_push a b vs w both.1 ne)

pairs_push : (interstages : List InterstageOf) (w : InterstageOf) → are_pairs_apart interstages ≡ true → has_pair w.from w.to interstages ≡ false →
    are_pairs_apart (interstages ++ w ∷ []) ≡ true
pairs_push [] w h new = refl
pairs_push (v ∷ vs) w h new =
    let both = and_parts (not (has_pair v.from v.to vs)) (are_pairs_apart vs) h in
    let other = or_parts (joins w.from w.to v) (has_pair w.from w.to vs) new in
    and_from (not (has_pair v.from v.to (vs ++ w ∷ []))) (are_pairs_apart (vs ++ w ∷ []))
    (ap not (pair_push v.from v.to vs w (not-true _ both.0) (joins_turned v w ∙ other.0))) (pairs_push vs w both.1 other.1)

pub one_interstage_more : (groups : List Group) (stages : List Stage) (interstages : List InterstageOf) (w : InterstageOf) →
    AreInterstages (length groups) stages interstages → length interstages < 256 →
    IsWhole (length groups) stages w → interstage_reasons groups stages interstages (Some w) ≡ None →
    AreInterstages (length groups) stages (interstages ++ w ∷ [])
one_interstage_more groups stages interstages w legal room whole none =
    let fits = joined groups stages interstages w none in
    let new : Leads (length groups) stages w = record {
      at_least = whole.at_least;
      at_most = whole.at_most;
      from = whole.from;
      to = whole.to;
      apart = fits.apart;
      rows = whole.rows;
      ends = whole.ends;
      consistent = fits.consistent;
    } in
    record {
      at_most = omega (arith, length_push interstages w);
      apart = pairs_push interstages w legal.apart fits.new;
      each = λ i lt. elim (cases_lt i (length interstages)) [
        | inl old ↦ rw (get_or_append_left interstages (w ∷ []) no_interstage i old) (legal.each i old)
        | inr last ↦ (let here : length interstages ≡ i = omega (arith, length_push interstages w, lt, last) in
            rw (get_or_push interstages w no_interstage i here) new)
      ];
    }
