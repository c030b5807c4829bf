-- Each kind of step keeps the rule.
use Rattle.std.proofs.Common.{◌≡◌, ◌≢◌, ◌⊎◌, ℕ, zero, suc, ◌+◌, ◌*◌, ◌<◌, ◌≤◌, List, [], ◌∷◌, ◌++◌, length, set, refl, sym, ap, ◌∙◌, subst, inl, inr, ⊎_elim, le_trans, arith, get_or-set_same, get_or-set_other, length-set, Option, Some, None}
use Rattle.std.specs.Prelude.{slice_index, slice_index_or, slice_set}
use mathlib.Core.Option.{some, some-injective, some-ne-none}
use mathlib.Core.Logic.{dite}
use native.Mathlib.Decide.{ℕ_discrete}
use lib.ListN.{get_elem?}
use Rattle.atomic_table.specs.Table.{State}
use Rattle.atomic_table.proofs.Lists.{at_set, at_longer, at_last, set_here, set_else}
use Rattle.det_board.specs.declared.view.View.{View}
use Rattle.det_board.specs.declared.view.View.TheVariants.{Tick, Feeder, Spent}
use Rattle.det_board.specs.Interleaving.{Marks, Event, front, rear, read_rears, read_fronts, May, after, put, Leads, Reached, no_marks}
use Rattle.det_board.specs.Rule.{most_fronts, last_read, loads_after, owned_by, fronts_word, rears_word, marks_of, CountsAt, Fits, Owns, Keeps}
use Rattle.det_board.proofs.Events.{put_here, put_else}
use Rattle.det_board.proofs.Words.{last_read-here, last_read-else, owned_here, owned_only}

-- the table after a step that leaves these words and this view of seat id
abbrev pub with : State (Unit {0}) View → List ℕ → ℕ → View → State (Unit {0}) View
with s words id v = record { words = words; homes = s.homes; views = set s.views id v }

pub one_view : (views : List View) (i : ℕ) (v w : View) → get_elem? views i ≡ some v → get_elem? views i ≡ some w → v ≡ w
one_view views i v w a b = some-injective v w (sym a ∙ b)

pub apart : (views : List View) (i j : ℕ) (v w : View) → get_elem? views i ≡ some v → get_elem? views j ≡ some w → (v ≡ w → ⊥) → i ≢ j
apart views i j v w a b different same = different (one_view views j v w (subst (λ k. get_elem? views k ≡ some v) same a) b)

pub within : (views : List View) (i : ℕ) (v : View) → get_elem? views i ≡ some v → i < length views
within [] i v e = absurd (some-ne-none v (sym e))
within (x ∷ xs) zero v e = omega arith
within (x ∷ xs) (suc i) v e = omega (arith, within xs i v e)

-- what changes in the words where one detector's owner counts on
pub record CountsOn (words new : List ℕ) (k : ℕ) (f r : ℕ) : Type 0 where
  pub count : length new ≡ length words
  pub fronts : slice_index new (fronts_word k) ≡ f
  pub rears : slice_index new (rears_word k) ≡ r
  pub others : (w : ℕ) → w ≢ fronts_word k → w ≢ rears_word k → slice_index new w ≡ slice_index words w
  pub fronts_grow : slice_index words (fronts_word k) ≤ f
  pub rears_grow : slice_index words (rears_word k) ≤ r
  pub ordered : r ≤ f
  pub bounded : f ≤ most_fronts

pub grows : (words new : List ℕ) (k f r : ℕ) → CountsOn words new k f r → (w : ℕ) → slice_index words w ≤ slice_index new w
grows words new k f r on w = dite (ℕ_discrete w (fronts_word k))
    (λ e. subst (λ u. slice_index words u ≤ slice_index new u) (sym e) (let a = on.fronts in let b = on.fronts_grow in omega arith))
    (λ nf. dite (ℕ_discrete w (rears_word k))
    (λ e. subst (λ u. slice_index words u ≤ slice_index new u) (sym e) (let a = on.rears in let b = on.rears_grow in omega arith))
    (λ nr. let a = on.others w nf nr in omega arith))

pub counts_else : (words new : List ℕ) (k f r : ℕ) → CountsOn words new k f r → (d : ℕ) (c : ℕ × ℕ) → d ≢ k → CountsAt words d c → CountsAt new d c
counts_else words new k f r on d c ne was = record {
  fronts = on.others (fronts_word d) (λ e. ne (omega arith)) (λ e. omega arith) ∙ was.fronts;
  rears = on.others (rears_word d) (λ e. omega arith) (λ e. ne (omega arith)) ∙ was.rears;
  ordered = was.ordered;
  bounded = was.bounded;
}

-- a feeder's step
unfoldable pub counts_on : (detectors : ℕ) (s : State (Unit {0}) View) (h : Keeps detectors s) (id k f r f' r' : ℕ) (new : List ℕ) →
    get_elem? s.views id ≡ some (Feeder k f r)
    → CountsOn s.words new k f' r' → Reached (marks_of new h.loads) → Keeps detectors (with s new id (Feeder k f' r'))
counts_on detectors s h id k f r f' r' new at on reached =
    let mine = (h.fits id (Feeder k f r) at).one_owner k (f, r) (owned_here k f r) in
    let not_tick : h.tick ≢ id = apart s.views h.tick id (Tick h.dealt h.loads h.owned) (Feeder k f r) h.ticks at (λ e. cc) in
    let V = Feeder k f' r' in
    record {
      tick = h.tick;
      dealt = h.dealt;
      loads = h.loads;
      owned = h.owned;
      owner = h.owner;
      word_count = on.count ∙ h.word_count;
      load_count = h.load_count;
      ticks = set_else s.views id h.tick V not_tick ∙ h.ticks;
      fits = λ i v e. ⊎_elim
          (λ (t : (i ≡ id) × (V ≡ v)). subst (λ (p : ℕ × View). Fits detectors new h.tick h.owner p.0 p.1) (λ j. (sym t.0 j, t.1 j)) (own h mine on))
          (λ (t : (i ≢ id) × (get_elem? s.views i ≡ some v)). other h mine on i v t.0 (h.fits i v t.1))
          (at_set s.views id i V v e);
      has_owner = λ d inside. owned_still h mine on d inside (h.has_owner d inside);
      read = λ w inside. le_trans (h.read w inside) (grows s.words new k f' r' on w);
      reached = reached;
    }
  where
    own : (h : Keeps detectors s) → (k < detectors) × (h.owner k ≡ id) × CountsAt s.words k (f, r) → CountsOn s.words new k f' r' →
        Fits detectors new h.tick h.owner id (Feeder k f' r')
    own h mine on = record {
      one_tick = λ no. absurd no;
      one_owner = λ d c e. let is = owned_only k f' r' d c e in
          subst (λ (p : ℕ × (ℕ × ℕ)). (p.0 < detectors) × (h.owner p.0 ≡ id) × CountsAt new p.0 p.1) (λ j. (sym is.0 j, sym is.1 j))
          (mine.0, mine.1, record { fronts = on.fronts; rears = on.rears; ordered = on.ordered; bounded = on.bounded });
    }

    other : (h : Keeps detectors s) → (k < detectors) × (h.owner k ≡ id) × CountsAt s.words k (f, r) → CountsOn s.words new k f' r' →
        (i : ℕ) (v : View) → i ≢ id → Fits detectors s.words h.tick h.owner i v → Fits detectors new h.tick h.owner i v
    other h mine on i v ne fit = record {
      one_tick = fit.one_tick;
      one_owner = λ d c e. let was = fit.one_owner d c e in
          (was.0, was.1, counts_else s.words new k f' r' on d c (λ same. ne (sym was.1 ∙ ap h.owner same ∙ mine.1)) was.2);
    }

    owned_still : (h : Keeps detectors s) → (k < detectors) × (h.owner k ≡ id) × CountsAt s.words k (f, r) → CountsOn s.words new k f' r' → (d : ℕ) →
        d < detectors → Owns s.views d (h.owner d) → Owns (set s.views id (Feeder k f' r')) d (h.owner d)
    owned_still h mine on d inside was = dite (ℕ_discrete (h.owner d) id)
        (λ same. let v = was.0 in
        let here : Feeder k f r ≡ v = one_view s.views id (Feeder k f r) v at (subst (λ i. get_elem? s.views i ≡ some v) same was.1) in
        let is = owned_only k f r d was.2.0 (subst (λ u. owned_by u d ≡ Some was.2.0) (sym here) was.2.1) in (
          Feeder k f' r',
          subst (λ i. get_elem? (set s.views id (Feeder k f' r')) i ≡ some (Feeder k f' r')) (sym same)
              (set_here s.views id (Feeder k f' r') (within s.views id (Feeder k f r) at)),
          ((f', r'), subst (λ j. owned_by (Feeder k f' r') j ≡ Some (f', r')) (sym is.0) (owned_here k f' r')),
        ))
        (λ ne. (was.0, set_else s.views id (h.owner d) (Feeder k f' r') ne ∙ was.1, was.2))

leads_on : (es : List Event) (e : Event) (x y : Marks) → Leads es x y → May e y → Leads (es ++ e ∷ []) x (after e y)
leads_on [] e x y is may = (subst (May e) is may, ap (after e) is)
leads_on (d ∷ es) e x y l may = (l.0, leads_on es e (after d x) y l.1 may)

-- one event more
pub reached_on : (e : Event) (x y : Marks) → Reached x → May e x → y ≡ after e x → Reached y
reached_on e x y r may is = (r.0 ++ e ∷ [], subst (λ m. Leads (r.0 ++ e ∷ []) no_marks m) (sym is) (leads_on r.0 e no_marks x r.1 may))

-- numbers g that are f but for n at d
pub putting : (f g : ℕ → ℕ) (d n : ℕ) → g d ≡ n → ((k : ℕ) → k ≢ d → g k ≡ f k) → (k : ℕ) → g k ≡ put f d n k
putting f g d n here else k = dite (ℕ_discrete k d)
    (λ e. ap g e ∙ here ∙ sym (put_here f d n k e))
    (λ ne. else k ne ∙ sym (put_else f d n k ne))

-- a front, as an event
pub front_event : (words new : List ℕ) (loads : List (List ℕ)) (k f r : ℕ) → slice_index words (fronts_word k) ≡ f → slice_index words (rears_word k) ≡ r
    → CountsOn words new k (f + 1) r → marks_of new loads ≡ after (front k) (marks_of words loads)
front_event words new loads k f r was_f was_r on =
    let F = putting (λ d. slice_index words (fronts_word d)) (λ d. slice_index new (fronts_word d)) k (slice_index words (fronts_word k) + 1)
    (on.fronts ∙ ap (λ n. n + 1) (sym was_f)) (λ d ne. on.others (fronts_word d) (λ e. ne (omega arith)) (λ e. omega arith)) in
    let R = same_rears in
    λ i. record {
      fronts = λ d. F d i;
      rears = λ d. R d i;
      fronts_read = λ d. last_read loads (fronts_word d);
      rears_read =
          λ d. last_read loads (rears_word d);
    }
  where
    same_rears : (d : ℕ) → slice_index new (rears_word d) ≡ slice_index words (rears_word d)
    same_rears d = dite (ℕ_discrete d k)
        (λ e. subst (λ j. slice_index new (rears_word j) ≡ slice_index words (rears_word j)) (sym e) (on.rears ∙ sym was_r))
        (λ ne. on.others (rears_word d) (λ e. omega arith) (λ e. ne (omega arith)))

pub rear_event : (words new : List ℕ) (loads : List (List ℕ)) (k f r : ℕ) → slice_index words (fronts_word k) ≡ f → slice_index words (rears_word k) ≡ r
    → CountsOn words new k f (r + 1) → marks_of new loads ≡ after (rear k) (marks_of words loads)
rear_event words new loads k f r was_f was_r on =
    let R = putting (λ d. slice_index words (rears_word d)) (λ d. slice_index new (rears_word d)) k (slice_index words (rears_word k) + 1)
    (on.rears ∙ ap (λ n. n + 1) (sym was_r)) (λ d ne. on.others (rears_word d) (λ e. omega arith) (λ e. ne (omega arith))) in
    let F = same_fronts in
    λ i. record {
      fronts = λ d. F d i;
      rears = λ d. R d i;
      fronts_read = λ d. last_read loads (fronts_word d);
      rears_read =
          λ d. last_read loads (rears_word d);
    }
  where
    same_fronts : (d : ℕ) → slice_index new (fronts_word d) ≡ slice_index words (fronts_word d)
    same_fronts d = dite (ℕ_discrete d k)
        (λ e. subst (λ j. slice_index new (fronts_word j) ≡ slice_index words (fronts_word j)) (sym e) (on.fronts ∙ sym was_f))
        (λ ne. on.others (fronts_word d) (λ e. ne (omega arith)) (λ e. omega arith))

-- the words of a detector, from the rule
pub in_order : (detectors : ℕ) (s : State (Unit {0}) View) → Keeps detectors s → (d : ℕ) → d < detectors →
    (slice_index s.words (rears_word d) ≤ slice_index s.words (fronts_word d)) × (slice_index s.words (fronts_word d) ≤ most_fronts)
in_order detectors s h d inside =
    let o = h.has_owner d inside in
    let c = ((h.fits (h.owner d) o.0 o.1).one_owner d o.2.0 o.2.1).2 in
    let f = c.fronts in let r = c.rears in let a = c.ordered in let b = c.bounded in
    (omega arith, omega arith)

-- the view at a seat that says it is the tick's
pub at_tick : (detectors : ℕ) (s : State (Unit {0}) View) (h : Keeps detectors s) (id dealt : ℕ) (loads : List (List ℕ))
    (owned : List (Option (ℕ × ℕ))) → get_elem? s.views id ≡ some (Tick dealt loads owned)
    → (id ≡ h.tick) × (loads ≡ h.loads) × (owned ≡ h.owned)
at_tick detectors s h id dealt loads owned at =
    let here = (h.fits id (Tick dealt loads owned) at).one_tick tt in
    let is : Tick dealt loads owned ≡ Tick h.dealt h.loads h.owned =
    one_view s.views h.tick _ _ (subst (λ i. get_elem? s.views i ≡ some (Tick dealt loads owned)) here at) h.ticks in
    (here, (let e : loads ≡ h.loads = cc in e), (let e : owned ≡ h.owned = cc in e))

-- a load by the tick's seat
unfoldable pub loads_on : (detectors : ℕ) (s : State (Unit {0}) View) (h : Keeps detectors s) (id dealt : ℕ) (loads loads' : List (List ℕ))
    (owned : List (Option (ℕ × ℕ))) → get_elem? s.views id ≡ some (Tick dealt loads owned)
    → length loads' ≡ 8 * detectors → ((w : ℕ) → w < 8 * detectors → last_read loads' w ≤ slice_index s.words w) → Reached (marks_of s.words loads')
    → Keeps detectors (with s s.words id (Tick dealt loads' owned))
loads_on detectors s h id dealt loads loads' owned at count read reached =
    let V = Tick dealt loads' owned in
    let old = h.fits id (Tick dealt loads owned) at in
    let inside = within s.views id (Tick dealt loads owned) at in
    record {
      tick = id;
      dealt = dealt;
      loads = loads';
      owned = owned;
      owner = h.owner;
      word_count = h.word_count;
      load_count = count;
      ticks = set_here s.views id V inside;
      fits = λ i v e. ⊎_elim
          (λ (t : (i ≡ id) × (V ≡ v)). subst (λ (p : ℕ × View). Fits detectors s.words id h.owner p.0 p.1) (λ j. (sym t.0 j, t.1 j))
          (record { one_tick = λ _. refl; one_owner = old.one_owner }))
          (λ (t : (i ≢ id) × (get_elem? s.views i ≡ some v)). let fit = h.fits i v t.1 in
          record { one_tick = λ is. fit.one_tick is ∙ sym (old.one_tick tt); one_owner = fit.one_owner })
          (at_set s.views id i V v e);
      has_owner = λ d in_board. let o = h.has_owner d in_board in dite (ℕ_discrete (h.owner d) id)
          (λ same. (
            V,
            subst (λ i. get_elem? (set s.views id V) i ≡ some V) (sym same) (set_here s.views id V inside),
            (
              o.2.0,
              subst (λ u. owned_by u d ≡ Some o.2.0)
                  (one_view s.views id o.0 (Tick dealt loads owned) (subst (λ i. get_elem? s.views i ≡ some o.0) same o.1) at) o.2.1,
            ),
          ))
          (λ ne. (o.0, set_else s.views id (h.owner d) V ne ∙ o.1, o.2));
      read = read;
      reached = reached;
    }

pub at_end : (l : List View) (a b : View) (j : ℕ) → get_elem? (l ++ a ∷ []) j ≡ some b → (get_elem? l j ≡ some b) ⊎ ((j ≡ length l) × (a ≡ b))
at_end [] a b zero e = inr (refl, some-injective a b e)
at_end [] a b (suc j) e = absurd (some-ne-none b (sym e))
at_end (x ∷ xs) a b zero e = inl e
at_end (x ∷ xs) a b (suc j) e = ⊎_elim inl (λ t. inr (ap suc t.0, t.1)) (at_end xs a b j e)

pub some_is : {a b : ℕ × ℕ} → Some a ≡ Some b → a ≡ b
some_is e = cc

pub none_is : {b : ℕ × ℕ} → None ≡ Some b → ⊥
none_is e = cc

-- of a list with None at k, the others are those of the list
pub cleared : (owned : List (Option (ℕ × ℕ))) (k d : ℕ) (c : ℕ × ℕ) → slice_index_or (slice_set owned k None) d None ≡ Some c → (d ≢ k)
    × (slice_index_or owned d None ≡ Some c)
cleared [] k d c e = absurd (none_is e)
cleared (x ∷ xs) zero zero c e = absurd (none_is e)
cleared (x ∷ xs) zero (suc d) c e = ((λ h. omega arith), e)
cleared (x ∷ xs) (suc k) zero c e = ((λ h. omega arith), e)
cleared (x ∷ xs) (suc k) (suc d) c e = let r = cleared xs k d c e in ((λ h. r.0 (omega arith)), r.1)

pub uncleared : (owned : List (Option (ℕ × ℕ))) (k d : ℕ) (c : ℕ × ℕ) → d ≢ k → slice_index_or owned d None ≡ Some c →
    slice_index_or (slice_set owned k None) d None ≡ Some c
uncleared owned k d c ne e = get_or-set_other owned k d None None ne ∙ e

-- the tick's seat gives a detector to a new seat
unfoldable pub deals_on : (detectors : ℕ) (s : State (Unit {0}) View) (h : Keeps detectors s) (id dealt f r : ℕ) (loads : List (List ℕ))
    (owned : List (Option (ℕ × ℕ))) → get_elem? s.views id ≡ some (Tick dealt loads owned)
    → slice_index_or owned dealt None ≡ Some (f, r)
    → Keeps detectors (record {
      words = s.words;
      homes = s.homes;
      views =
          set s.views id (Tick (suc dealt) loads (slice_set owned dealt None)) ++ Feeder dealt f r ∷ [];
    })
deals_on detectors s h id dealt f r loads owned at owns =
    let L = Tick (suc dealt) loads (slice_set owned dealt None) in
    let R = Feeder dealt f r in
    let T = Tick dealt loads owned in
    let old = h.fits id T at in
    let is = at_tick detectors s h id dealt loads owned at in
    let inside = within s.views id T at in
    let views' : List View = set s.views id L in
    let last : ℕ = length views' in
    let same_length : last ≡ length s.views = length-set s.views id L in
    let owner' : ℕ → ℕ = put h.owner dealt last in
    let mine = old.one_owner dealt (f, r) owns in
    record {
      tick = id;
      dealt = suc dealt;
      loads = loads;
      owned = slice_set owned dealt None;
      owner = owner';
      word_count = h.word_count;
      load_count = ap length is.1 ∙ h.load_count;
      ticks = at_longer views' (R ∷ []) id L (set_here s.views id L inside);
      fits = λ i v e. ⊎_elim
          (λ was. ⊎_elim
          (λ (t : (i ≡ id) × (L ≡ v)). subst (λ (p : ℕ × View). Fits detectors s.words id owner' p.0 p.1) (λ j. (sym t.0 j, t.1 j))
          (record {
            one_tick = λ _. refl;
            one_owner = λ d c o. let x = cleared owned dealt d c o in let y = old.one_owner d c x.1 in
                (y.0, put_else h.owner dealt last d x.0 ∙ y.1, y.2);
          }))
          (λ (t : (i ≢ id) × (get_elem? s.views i ≡ some v)). let fit = h.fits i v t.1 in
          record {
            one_tick = λ k. fit.one_tick k ∙ sym is.0;
            one_owner = λ d c o. let y = fit.one_owner d c o in
                (y.0, put_else h.owner dealt last d (λ same. t.0 (sym y.1 ∙ ap h.owner same ∙ mine.1)) ∙ y.1, y.2);
          })
          (at_set s.views id i L v was))
          (λ (t : (i ≡ last) × (R ≡ v)). subst (λ (p : ℕ × View). Fits detectors s.words id owner' p.0 p.1) (λ j. (sym t.0 j, t.1 j))
          (record {
            one_tick = λ no. absurd no;
            one_owner = λ d c o. let only = owned_only dealt f r d c o in
                subst (λ (p : ℕ × (ℕ × ℕ)). (p.0 < detectors) × (owner' p.0 ≡ last) × CountsAt s.words p.0 p.1) (λ j. (sym only.0 j, sym only.1 j))
                (mine.0, put_here h.owner dealt last dealt refl, mine.2);
          }))
          (at_end views' R v i e);
      has_owner = λ d in_board. dite (ℕ_discrete d dealt)
          (λ same. (
            R,
            subst (λ i. get_elem? (views' ++ R ∷ []) i ≡ some R) (sym (put_here h.owner dealt last d same)) (at_last views' R last refl),
            ((f, r), subst (λ j. owned_by R j ≡ Some (f, r)) (sym same) (owned_here dealt f r)),
          ))
          (λ ne. let o = h.has_owner d in_board in subst (λ i. Owns (views' ++ R ∷ []) d i) (sym (put_else h.owner dealt last d ne))
          (dite (ℕ_discrete (h.owner d) id)
          (λ here. let same : o.0 ≡ T = one_view s.views id o.0 T (subst (λ i. get_elem? s.views i ≡ some o.0) here o.1) at in (
            L,
            at_longer views' (R ∷ []) (h.owner d) L (subst (λ i. get_elem? views' i ≡ some L) (sym here) (set_here s.views id L inside)),
            (o.2.0, uncleared owned dealt d o.2.0 ne (subst (λ u. owned_by u d ≡ Some o.2.0) same o.2.1)),
          ))
          (λ there. (o.0, at_longer views' (R ∷ []) (h.owner d) o.0 (set_else s.views id (h.owner d) L there ∙ o.1), o.2))));
      read = λ w lt. subst (λ l. last_read l w ≤ slice_index s.words w) (sym is.1) (h.read w lt);
      reached = subst (λ l. Reached (marks_of s.words l)) (sym is.1) h.reached;
    }

-- of a list with an entry set at k, the others are those of the list
pub set_some : (owned : List (Option (ℕ × ℕ))) (k d : ℕ) (x c : ℕ × ℕ) → slice_index_or (slice_set owned k (Some x)) d None ≡ Some c →
    ((d ≡ k) × (x ≡ c)) ⊎ ((d ≢ k) × (slice_index_or owned d None ≡ Some c))
set_some [] k d x c e = absurd (none_is e)
set_some (y ∷ ys) zero zero x c e = inl (refl, some_is e)
set_some (y ∷ ys) zero (suc d) x c e = inr ((λ h. omega arith), e)
set_some (y ∷ ys) (suc k) zero x c e = inr ((λ h. omega arith), e)
set_some (y ∷ ys) (suc k) (suc d) x c e = ⊎_elim (λ t. inl (ap suc t.0, t.1)) (λ t. inr ((λ h. t.0 (omega arith)), t.1)) (set_some ys k d x c e)

-- the tick's seat takes a detector back
unfoldable pub gives_on : (detectors : ℕ) (s : State (Unit {0}) View) (h : Keeps detectors s) (id other dealt d f r : ℕ) (loads : List (List ℕ))
    (owned : List (Option (ℕ × ℕ))) → length owned ≡ detectors → get_elem? s.views id ≡ some (Tick dealt loads owned)
    → other ≢ id → get_elem? s.views other ≡ some (Feeder d f r)
    → Keeps detectors (record {
      words = s.words;
      homes = s.homes;
      views =
          set (set s.views id (Tick dealt loads (slice_set owned d (Some (f, r))))) other Spent;
    })
gives_on detectors s h id other dealt d f r loads owned size at ne there =
    let L = Tick dealt loads (slice_set owned d (Some (f, r))) in
    let T = Tick dealt loads owned in
    let F = Feeder d f r in
    let old = h.fits id T at in
    let is = at_tick detectors s h id dealt loads owned at in
    let inside = within s.views id T at in
    let theirs = (h.fits other F there).one_owner d (f, r) (owned_here d f r) in
    let views1 : List View = set s.views id L in
    let views2 : List View = set views1 other Spent in
    let owner' : ℕ → ℕ = put h.owner d id in
    let at_id : get_elem? views2 id ≡ some L = set_else views1 other id Spent (λ e. ne (sym e)) ∙ set_here s.views id L inside in
    record {
      tick = id;
      dealt = dealt;
      loads = loads;
      owned = slice_set owned d (Some (f, r));
      owner = owner';
      word_count = h.word_count;
      load_count = ap length is.1 ∙ h.load_count;
      ticks = at_id;
      fits = λ i v e. ⊎_elim
          (λ (t : (i ≡ other) × (Spent ≡ v)). subst (λ u. Fits detectors s.words id owner' i u) t.1
          (record { one_tick = λ no. absurd no; one_owner = λ k c o. absurd (none_is o) }))
          (λ (t : (i ≢ other) × (get_elem? views1 i ≡ some v)). ⊎_elim
          (λ (u : (i ≡ id) × (L ≡ v)). subst (λ (p : ℕ × View). Fits detectors s.words id owner' p.0 p.1) (λ j. (sym u.0 j, u.1 j))
          (record {
            one_tick = λ _. refl;
            one_owner = λ k c o. ⊎_elim
                (λ (x : (k ≡ d) × ((f, r) ≡ c)). subst (λ (p : ℕ × (ℕ × ℕ)). (p.0 < detectors) × (owner' p.0 ≡ id) × CountsAt s.words p.0 p.1)
                (λ j. (sym x.0 j, x.1 j)) (theirs.0, put_here h.owner d id d refl, theirs.2))
                (λ (x : (k ≢ d) × (slice_index_or owned k None ≡ Some c)). let y = old.one_owner k c x.1 in (y.0, put_else h.owner d id k x.0 ∙ y.1, y.2))
                (set_some owned d k (f, r) c o);
          }))
          (λ (u : (i ≢ id) × (get_elem? s.views i ≡ some v)). let fit = h.fits i v u.1 in
          record {
            one_tick = λ k. fit.one_tick k ∙ sym is.0;
            one_owner = λ k c o. let y = fit.one_owner k c o in (y.0, put_else h.owner d id k (λ same. t.0 (sym y.1 ∙ ap h.owner same ∙ theirs.1)) ∙ y.1, y.2);
          })
          (at_set s.views id i L v t.1))
          (at_set views1 other i Spent v e);
      has_owner = λ k in_board. dite (ℕ_discrete k d)
          (λ same. (
            L,
            subst (λ i. get_elem? views2 i ≡ some L) (sym (put_here h.owner d id k same)) at_id,
            ((f, r), subst (λ j. owned_by L j ≡ Some (f, r)) (sym same) (get_or-set_same owned d (Some (f, r)) None (let lt = theirs.0 in omega arith))),
          ))
          (λ apart. let o = h.has_owner k in_board in subst (λ i. Owns views2 k i) (sym (put_else h.owner d id k apart))
          (dite (ℕ_discrete (h.owner k) id)
          (λ here. let same : o.0 ≡ T = one_view s.views id o.0 T (subst (λ i. get_elem? s.views i ≡ some o.0) here o.1) at in (
            L,
            subst (λ i. get_elem? views2 i ≡ some L) (sym here) at_id,
            (o.2.0, get_or-set_other owned d k (Some (f, r)) None apart ∙ subst (λ u. owned_by u k ≡ Some o.2.0) same o.2.1),
          ))
          (λ far. dite (ℕ_discrete (h.owner k) other)
          (λ spent. let same : o.0 ≡ F = one_view s.views other o.0 F (subst (λ i. get_elem? s.views i ≡ some o.0) spent o.1) there in
          absurd (apart (owned_only d f r k o.2.0 (subst (λ u. owned_by u k ≡ Some o.2.0) same o.2.1)).0))
          (λ not_spent. (o.0, set_else views1 other (h.owner k) Spent not_spent ∙ set_else s.views id (h.owner k) L far ∙ o.1, o.2)))));
      read = λ w lt. subst (λ l. last_read l w ≤ slice_index s.words w) (sym is.1) (h.read w lt);
      reached = subst (λ l. Reached (marks_of s.words l)) (sym is.1) h.reached;
    }

-- a load of a detector's rears, as an event
pub rears_event : (words : List ℕ) (loads : List (List ℕ)) (d n : ℕ) → slice_index words (rears_word d) ≡ n → rears_word d < length loads
    → marks_of words (loads_after loads (rears_word d) n) ≡ after (read_rears d) (marks_of words loads)
rears_event words loads d n is inside =
    let R = putting (λ k. last_read loads (rears_word k)) (λ k. last_read (loads_after loads (rears_word d) n) (rears_word k)) d
    (slice_index words (rears_word d))
    (last_read-here loads (rears_word d) n inside ∙ sym is) (λ k ne. last_read-else loads (rears_word d) n (rears_word k) (λ e. ne (omega arith))) in
    let F : (k : ℕ) → last_read (loads_after loads (rears_word d) n) (fronts_word k) ≡ last_read loads (fronts_word k) =
    λ k. last_read-else loads (rears_word d) n (fronts_word k) (λ e. omega arith) in
    λ i. record {
      fronts = λ k. slice_index words (fronts_word k);
      rears = λ k. slice_index words (rears_word k);
      fronts_read = λ k. F k i;
      rears_read = λ k. R k i;
    }

pub fronts_event : (words : List ℕ) (loads : List (List ℕ)) (d n : ℕ) → slice_index words (fronts_word d) ≡ n → fronts_word d < length loads
    → marks_of words (loads_after loads (fronts_word d) n) ≡ after (read_fronts d) (marks_of words loads)
fronts_event words loads d n is inside =
    let F = putting (λ k. last_read loads (fronts_word k)) (λ k. last_read (loads_after loads (fronts_word d) n) (fronts_word k)) d
    (slice_index words (fronts_word d))
    (last_read-here loads (fronts_word d) n inside ∙ sym is) (λ k ne. last_read-else loads (fronts_word d) n (fronts_word k) (λ e. ne (omega arith))) in
    let R : (k : ℕ) → last_read (loads_after loads (fronts_word d) n) (rears_word k) ≡ last_read loads (rears_word k) =
    λ k. last_read-else loads (fronts_word d) n (rears_word k) (λ e. omega arith) in
    λ i. record {
      fronts = λ k. slice_index words (fronts_word k);
      rears = λ k. slice_index words (rears_word k);
      fronts_read = λ k. F k i;
      rears_read = λ k. R k i;
    }
