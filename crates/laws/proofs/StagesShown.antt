-- Runs whose passes steer.
use Rattle.std.proofs.Common.{◌≡◌, ◌∙◌, ℕ, zero, suc, ◌+◌, ◌-◌, ◌<◌, ◌≤◌, max, Bool, true, false, Option, None, List, [], ◌∷◌, ◌++◌, length, take, replicate, get_or, slice_index_or, refl, sym, ap, subst, arith, is_some, unwrap_or, add-one}
use Rattle.std.proofs.lemmas.Bool.{false_from_ne_true}
use Rattle.std.proofs.lemmas.List.{take_more, get_or-replicate, length-replicate}
use Rattle.std.proofs.Math.ListN.{length-append}
use Rattle.sig_types.specs.declared.aspect.Aspect.{Aspect}
use Rattle.sig_types.specs.declared.aspect.Aspect.TheVariants.{Red}
use Rattle.sig_types.specs.declared.numbers.Command.{Command}
use Rattle.sig_types.specs.declared.numbers.StagePlace.{StagePlace}
use Rattle.sig_types.specs.declared.numbers.StagePlace.TheVariants.{Stage}
use Rattle.sig_types.specs.declared.record.Record.{Record}
use Rattle.sig_types.specs.Counts.{Counts}
use Rattle.sig_types.specs.Pass.{Logic, Store, commands_after}
use Rattle.sig_types.specs.Turns.{Picture, History, shown, is_red, is_green}
use Rattle.sig_types.specs.Rules.{IsTwoWay}
use Rattle.sig_types.specs.Words.{tabulate}
use Rattle.pua_model.specs.Plan.{PlanOf, groups_in, in_stage}
use Rattle.stage_machine.specs.Orders.{place_at, stage, stage_wish}
use Rattle.sig_guard.specs.Safety.{IsHistory, Safe}
use Rattle.sig_guard.specs.Steady.{shows_wish}
use Rattle.sig_guard.specs.Step.{guard_picture}
use Rattle.sig_guard.proofs.LawProofs.{step_keeps_safe, begins_safe}
use Rattle.controller.specs.Past.{Site, Past, opening, next_second}
use Rattle.controller.specs.Second.{record_after, record_of, past_after, past_after_second, past_of, run_from, wishes_in, wishes_of, wish, orders_after, last_direct}
use Rattle.controller.specs.Guarded.{past_at, pass_at}
use Rattle.controller.proofs.Runs.{past_of-more}
use Rattle.sig_response.specs.Bounds.{shown_within, red_within, green_within}
use Rattle.sig_response.specs.Laws.{IsSite, AreApart}
use Rattle.sig_response.specs.Onward.{onward, shows}
use Rattle.sig_response.proofs.Greatest.{greatest_least}
use Rattle.sig_response.proofs.Tabulated.{tabulate_at}
use Rattle.sig_response.proofs.Whole.{turns_red, turns_green}
use Rattle.laws.specs.Ways.{heading, left}
use Rattle.laws.specs.StagesShown.{IsSteered, arrival, StageIsReached, StageIsShown}
use Rattle.laws.proofs.SteeringOrders.{nearer, at_goal, stays_at_goal}
use Rattle.laws.proofs.CleanInterstages.{shows_new}

-- one second more of a run
past_more : (logic : Logic) (site : Site) (store : Store) (frames : List Counts) (n : ℕ) → n < length frames →
    past_at logic site store frames (suc n) ≡ past_after_second logic site (past_at logic site store frames n) (get_or frames n [])
past_more logic site store frames n lt =
    let more : take (suc n) frames ≡ take n frames ++ get_or frames n [] ∷ [] = ap (λ k. take k frames) (sym (add-one n)) ∙ take_more frames n [] lt in
    ap (λ fs. past_of logic site (opening site store) fs) more ∙ past_of-more logic site (opening site store) (take n frames) (get_or frames n [])

orders_more : (logic : Logic) (site : Site) (store : Store) (frames : List Counts) (n : ℕ) → n < length frames →
    (past_at logic site store frames (suc n)).orders
    ≡ orders_after site.plan (next_second (past_at logic site store frames n)) (past_at logic site store frames n).orders (commands_after (pass_at logic site store frames n))
unfolding past_after
orders_more logic site store frames n lt = ap (λ (p : Past). p.orders) (past_more logic site store frames n lt)

history_more : (logic : Logic) (site : Site) (store : Store) (frames : List Counts) (n : ℕ) → n < length frames →
    (past_at logic site store frames (suc n)).history
    ≡ (past_at logic site store frames n).history
    ++ guard_picture site.rules (past_at logic site store frames n).history (wishes_in site (past_at logic site store frames n) (pass_at logic site store frames n)) ∷ []
unfolding past_after
history_more logic site store frames n lt = ap (λ (p : Past). p.history) (past_more logic site store frames n lt)

-- the second after the first n is second n + 1
seconds_are : (logic : Logic) (site : Site) (store : Store) (frames : List Counts) (n : ℕ) → n ≤ length frames → next_second (past_at logic site store frames n) ≡ n + 1
seconds_are logic site store frames zero le = refl
seconds_are logic site store frames (suc n) le =
    ap length (history_more logic site store frames n (omega arith)) ∙ length-append (past_at logic site store frames n).history _
    ∙ omega (arith, seconds_are logic site store frames n (omega arith))

-- its record
record_here : (logic : Logic) (site : Site) (past : Past) (fs : List Counts) (n : ℕ) (r : Record) → n < length fs →
    record_of logic site (past_of logic site past (take n fs)) (get_or fs n []) ≡ get_or (run_from logic site past fs) n r
record_here logic site past [] n r lt = absurd (omega arith)
record_here logic site past (f ∷ fs) zero r lt = refl
record_here logic site past (f ∷ fs) (suc n) r lt = record_here logic site (past_after_second logic site past f) fs n r (omega arith)

-- the place and the picture of a record
place_of : (logic : Logic) (site : Site) (store : Store) (frames : List Counts) (n : ℕ) (r : Record) → n < length frames →
    (get_or (run_from logic site (opening site store) frames) n r).place
    ≡ place_at site.plan (orders_after site.plan (next_second (past_at logic site store frames n)) (past_at logic site store frames n).orders (commands_after (pass_at logic site store frames n)))
    (next_second (past_at logic site store frames n))
unfolding record_after
place_of logic site store frames n r lt = ap (λ (x : Record). x.place) (sym (record_here logic site (opening site store) frames n r lt))

picture_at : (logic : Logic) (site : Site) (store : Store) (frames : List Counts) (n : ℕ) (r : Record) → n < length frames →
    (get_or (run_from logic site (opening site store) frames) n r).picture
    ≡ guard_picture site.rules (past_at logic site store frames n).history (wishes_in site (past_at logic site store frames n) (pass_at logic site store frames n))
unfolding record_after
picture_at logic site store frames n r lt = ap (λ (x : Record). x.picture) (sym (record_here logic site (opening site store) frames n r lt))

-- what is left of the way, second by second
record Coming (logic : Logic) (site : Site) (store : Store) (frames : List Counts) (on : ℕ → Bool) (seconds : ℕ → ℕ) (since j : ℕ) : Type 0 where
  pub less : left site.plan seconds (past_at logic site store frames (since + j)).orders (since + j + 1)
      ≡ left site.plan seconds (past_at logic site store frames since).orders (since + 1) - j
  pub heads : on (heading site.plan (past_at logic site store frames (since + j)).orders) ≡ true

coming : (logic : Logic) (site : Site) (store : Store) (frames : List Counts) (goal : ℕ) (on : ℕ → Bool) (next seconds : ℕ → ℕ) (since j : ℕ) →
    IsSteered logic site store frames goal on next seconds since → since + j ≤ length frames → Coming logic site store frames on seconds since j
coming logic site store frames goal on next seconds since zero steered le =
    let same : since ≡ since + 0 = omega arith in
    record {
      less = ap (λ (k : ℕ). left site.plan seconds (past_at logic site store frames k).orders (k + 1)) (sym same) ∙ omega arith;
      heads = ap (λ (k : ℕ). on (heading site.plan (past_at logic site store frames k).orders)) (sym same) ∙ steered.heads;
    }
coming logic site store frames goal on next seconds since (suc j) steered le =
    let before = coming logic site store frames goal on next seconds since j steered (omega arith) in
    let inside : since + j < length frames = omega arith in
    let second = seconds_are logic site store frames (since + j) (omega arith) in
    let step = nearer site.plan goal on next seconds (past_at logic site store frames (since + j)).orders (next_second (past_at logic site store frames (since + j)))
    (commands_after (pass_at logic site store frames (since + j))) steered.way before.heads (steered.steers (since + j) (omega arith) inside) in
    let more : since + suc j ≡ suc (since + j) = omega arith in
    let orders = ap (λ (k : ℕ). (past_at logic site store frames k).orders) more ∙ orders_more logic site store frames (since + j) inside in
    let later : since + suc j + 1 ≡ suc (next_second (past_at logic site store frames (since + j))) = omega (arith, second) in
    let here = ap (λ (k : ℕ). left site.plan seconds (past_at logic site store frames (since + j)).orders k) second in
    record {
      less = (λ i. left site.plan seconds (orders i) (later i)) ∙ omega (arith, step.less, here, before.less);
      heads = ap (λ os. on (heading site.plan os)) orders ∙ step.heads;
    }

-- from the arrival on the goal is the place in which a second begins
record There (logic : Logic) (site : Site) (store : Store) (frames : List Counts) (goal n : ℕ) : Type 0 where
  pub place : place_at site.plan (past_at logic site store frames n).orders (next_second (past_at logic site store frames n)) ≡ Stage (stage goal)
  pub orders : orders_after site.plan (next_second (past_at logic site store frames n)) (past_at logic site store frames n).orders (commands_after (pass_at logic site store frames n))
      ≡ (past_at logic site store frames n).orders
  pub undirected : (g : ℕ) → last_direct g (commands_after (pass_at logic site store frames n)) ≡ None

there : (logic : Logic) (site : Site) (store : Store) (frames : List Counts) (goal : ℕ) (on : ℕ → Bool) (next seconds : ℕ → ℕ) (since n : ℕ) →
    IsSteered logic site store frames goal on next seconds since → arrival logic site store frames seconds since ≤ n → n < length frames →
    There logic site store frames goal n
there logic site store frames goal on next seconds since n steered le lt =
    let first = seconds_are logic site store frames since steered.begun in
    let rest = ap (λ (k : ℕ). left site.plan seconds (past_at logic site store frames since).orders k) first in
    let place : since + (n - since) ≡ n = omega arith in
    let come = coming logic site store frames goal on next seconds since (n - since) steered (omega (arith, place, lt)) in
    let now = seconds_are logic site store frames n (omega arith) in
    let heads : on (heading site.plan (past_at logic site store frames n).orders) ≡ true = rw place at come.heads in
    let less : left site.plan seconds (past_at logic site store frames n).orders (n + 1) ≡ left site.plan seconds (past_at logic site store frames since).orders (since + 1) - (n - since) =
    rw place at come.less in
    let here = ap (λ (k : ℕ). left site.plan seconds (past_at logic site store frames n).orders k) now in
    let none : left site.plan seconds (past_at logic site store frames n).orders (next_second (past_at logic site store frames n)) ≡ 0 = omega (arith, here, less, rest, le) in
    let goal_is = at_goal site.plan goal on next seconds (past_at logic site store frames n).orders (next_second (past_at logic site store frames n)) steered.way heads none in
    let stays = stays_at_goal site.plan on goal next (past_at logic site store frames n).orders (next_second (past_at logic site store frames n)) (commands_after (pass_at logic site store frames n)) goal_is
    (steered.steers n (omega arith) lt) in
    record { place = goal_is; orders = stays.0; undirected = stays.1 }

pub stage_is_reached : StageIsReached
stage_is_reached logic site store frames goal on next seconds since n r steered le lt =
    let t = there logic site store frames goal on next seconds since n steered le lt in
    place_of logic site store frames n r lt
    ∙ ap (λ os. place_at site.plan os (next_second (past_at logic site store frames n))) t.orders ∙ t.place

-- the wishes there
wished_there : (plan : PlanOf) (goal : ℕ) (cs : List Command) (place : StagePlace) (g : ℕ) → place ≡ Stage (stage goal) → last_direct g cs ≡ None → g < groups_in plan →
    slice_index_or (wishes_of plan place cs) g false ≡ in_stage plan goal g
unfolding wishes_of wish stage_wish
wished_there plan goal cs place g is none lt =
    tabulate_at (wish plan place cs) (groups_in plan) g lt
    ∙ ap (λ (o : Option Bool). unwrap_or o (stage_wish plan place g)) none
    ∙ ap (λ (p : StagePlace). stage_wish plan p g) is

-- the histories of a run are safe
kept : (logic : Logic) (site : Site) (store : Store) (frames : List Counts) (n : ℕ) → IsTwoWay site.rules → site.rules.count ≡ groups_in site.plan → n ≤ length frames →
    IsHistory site.rules.count (past_at logic site store frames n).history × Safe site.rules (past_at logic site store frames n).history
kept logic site store frames zero two count le =
    begins_safe site.rules (replicate (groups_in site.plan) Red) (length-replicate (groups_in site.plan) Red ∙ sym count)
    (λ g lt. get_or-replicate (groups_in site.plan) g Red Red (omega (arith, lt, count)))
kept logic site store frames (suc n) two count le =
    let before = kept logic site store frames n two count (omega arith) in
    let next = step_keeps_safe site.rules (past_at logic site store frames n).history (wishes_in site (past_at logic site store frames n) (pass_at logic site store frames n)) two before.0 before.1 in
    subst (λ (h : History). IsHistory site.rules.count h × Safe site.rules h) (sym (history_more logic site store frames n (omega arith))) next

-- the wishes of the seconds from the n-th on
abbrev wishes_from : Logic → Site → Store → List Counts → ℕ → ℕ → List Bool
wishes_from logic site store frames n k = wishes_in site (past_at logic site store frames (n + k)) (pass_at logic site store frames (n + k))

onward_is : (logic : Logic) (site : Site) (store : Store) (frames : List Counts) (n j : ℕ) → n + j ≤ length frames →
    (past_at logic site store frames (n + j)).history ≡ onward site.rules (past_at logic site store frames n).history (wishes_from logic site store frames n) j
unfolding onward
onward_is logic site store frames n zero le = (let same : n + 0 ≡ n = omega arith in ap (λ (k : ℕ). (past_at logic site store frames k).history) same)
onward_is logic site store frames n (suc j) le =
    let before = onward_is logic site store frames n j (omega arith) in
    let more : n + suc j ≡ suc (n + j) = omega arith in
    ap (λ (k : ℕ). (past_at logic site store frames k).history) more ∙ history_more logic site store frames (n + j) (omega arith)
    ∙ ap (λ (h : History). h ++ guard_picture site.rules h (wishes_from logic site store frames n j) ∷ []) before

-- the run from its arrival on, and the seconds since
abbrev history_there : Logic → Site → Store → List Counts → ℕ → History
history_there logic site store frames start = (past_at logic site store frames start).history

shown_there : (logic : Logic) (site : Site) (store : Store) (frames : List Counts) (goal : ℕ) (start more n : ℕ) (r : Record) → IsSite site.rules →
    site.rules.count ≡ groups_in site.plan → AreApart site.rules (tabulate (in_stage site.plan goal) (groups_in site.plan)) →
    ((k : ℕ) → start ≤ k → k < length frames → There logic site store frames goal k) → start + more ≡ suc n → shown_within site.rules ≤ more → n < length frames →
    (g : ℕ) → g < groups_in site.plan →
    shows_wish (shown (slice_index_or (run_from logic site (opening site store) frames) n r).picture g) (in_stage site.plan goal g) ≡ true
shown_there logic site store frames goal start more n r tables count apart come place le lt g lt' =
    ap (λ (x : Aspect). shows_wish x (in_stage site.plan goal g)) last ∙ go (in_stage site.plan goal g) refl
  where
    safe : IsHistory site.rules.count (history_there logic site store frames start) × Safe site.rules (history_there logic site store frames start)
    safe = kept logic site store frames start tables.two_way count (omega arith)

    inside : g < site.rules.count
    inside = omega (arith, count, lt')

    -- the picture of the record is the last of that history
    last : shown (slice_index_or (run_from logic site (opening site store) frames) n r).picture g ≡ shows (onward site.rules (history_there logic site store frames start) (wishes_from logic site store frames start) more) g
    last =
        ap (λ (p : Picture). shown p g) (picture_at logic site store frames n r lt)
        ∙ sym (shows_new (past_at logic site store frames n).history (guard_picture site.rules (past_at logic site store frames n).history (wishes_in site (past_at logic site store frames n) (pass_at logic site store frames n))) g)
        ∙ ap (λ (h : History). shows h g) (sym (history_more logic site store frames n lt) ∙ ap (λ (k : ℕ). (past_at logic site store frames k).history) (sym place)
        ∙ onward_is logic site store frames start more (omega (arith, place, lt)))

    wished : (k i : ℕ) → k < more → i < site.rules.count → slice_index_or (wishes_from logic site store frames start k) i false ≡ in_stage site.plan goal i
    wished k i hi lt'' =
        let t = come (start + k) (omega arith) (omega (arith, place)) in
        wished_there site.plan goal (commands_after (pass_at logic site store frames (start + k)))
        (place_at site.plan (orders_after site.plan (next_second (past_at logic site store frames (start + k))) (past_at logic site store frames (start + k)).orders (commands_after (pass_at logic site store frames (start + k)))) (next_second (past_at logic site store frames (start + k)))) i
        (ap (λ os. place_at site.plan os (next_second (past_at logic site store frames (start + k)))) t.orders ∙ t.place)
        (t.undirected i) (omega (arith, count, lt''))

    bound : max (red_within site.rules g) (green_within site.rules g) ≤ more
    bound = (let most = greatest_least (λ i. max (red_within site.rules i) (green_within site.rules i)) site.rules.count g inside in omega (arith, most))

    other_red : (i : ℕ) → i < site.rules.count → is_some (site.rules.between i g) ≡ true → in_stage site.plan goal g ≡ true → in_stage site.plan goal i ≡ false
    other_red i lt'' pair green = false_from_ne_true (in_stage site.plan goal i) (λ both. apart i g lt'' inside pair
        (tabulate_at (in_stage site.plan goal) (groups_in site.plan) i (omega (arith, count, lt'')) ∙ both)
        (tabulate_at (in_stage site.plan goal) (groups_in site.plan) g lt' ∙ green))

    go : (b : Bool) → in_stage site.plan goal g ≡ b → shows_wish (shows (onward site.rules (history_there logic site store frames start) (wishes_from logic site store frames start) more) g) b ≡ true
    go true is = ap is_green (turns_green site.rules (history_there logic site store frames start) (wishes_from logic site store frames start) g more tables safe.0 safe.1 inside (λ k hi. wished k g hi inside ∙ is)
        (λ i lt'' pair k hi. wished k i hi lt'' ∙ other_red i lt'' pair is) (omega (arith, bound)))
    go false is = ap is_red (turns_red site.rules (history_there logic site store frames start) (wishes_from logic site store frames start) g more tables safe.0 safe.1 inside (λ k hi. wished k g hi inside ∙ is) (omega (arith, bound)))

pub stage_is_shown : StageIsShown
stage_is_shown logic site store frames goal on next seconds since n r steered tables count apart le lt g lt' =
    shown_there logic site store frames goal (arrival logic site store frames seconds since) (n + 1 - arrival logic site store frames seconds since) n r tables count apart
    (λ k lo hi. there logic site store frames goal on next seconds since k steered lo hi) (omega (arith, le)) (omega (arith, le)) lt g lt'
