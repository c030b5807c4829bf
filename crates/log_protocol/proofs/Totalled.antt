-- What came in parts, with one part more.
use Rattle.std.proofs.Common.{◌≡◌, ◌∙◌, ℕ, ◌+◌, ◌-◌, ◌*◌, ◌<◌, ◌≤◌, ◌&&◌, List, [], ◌∷◌, ◌++◌, length, refl, sym, ap, arith}
use Rattle.std.specs.Prelude.{if◌then◌else◌, replicate}
use Rattle.std.specs.List.{flat_map}
use Rattle.std.proofs.lemmas.List.{append-nil, get_or-replicate, length-map}
use Rattle.std.proofs.lemmas.Grind.{flat_map-append}
use Rattle.std.proofs.Math.ListN.{length-append}
use Rattle.sig_types.specs.Turns.{History, Trace, is_green, trace}
use Rattle.log_judge.specs.declared.protocol.Kind.{Kind}
use Rattle.log_judge.specs.declared.protocol.Kind.TheVariants.{Green, Red, RedAmber, Amber}
use Rattle.log_judge.specs.declared.protocol.Extremes.{Extremes}
use Rattle.log_judge.specs.Came.{none_yet, runs_at}
use Rattle.tenth_records.specs.Parts.{Part}
use Rattle.log_protocol.specs.declared.page.Page.{Page}
use Rattle.log_protocol.specs.declared.totals.Totals.{Totals}
use Rattle.log_protocol.specs.declared.together.Together.{Together}
use Rattle.log_protocol.specs.Came.{both_green, came_in, changes_of, extremes, runs_of, together}
use Rattle.log_protocol.specs.Page.{IsPageOf, came_on, groups_of, seconds_of}
use Rattle.log_protocol.specs.Parts.{changes_in, greens_in, known_in, moved, runs_in}
use Rattle.log_protocol.specs.Steps.{no_second, together_at}
use Rattle.log_protocol.specs.Joined.{joined, joined_greens}
use Rattle.log_protocol.specs.Totals.{AreTotalsOf, SameCame, came_at, total_runs}
use Rattle.log_protocol.proofs.Extreme.{few_changes_of, few_runs_of}
use Rattle.log_protocol.proofs.Gathered.{few_if, gather_few}
use Rattle.log_protocol.proofs.Joins.{joined_are, joined_greens_are}
use Rattle.log_protocol.proofs.Pages.{same_came, same_seconds}
use Rattle.log_protocol.proofs.Reached.{changes_reached, greens_reached, runs_reached}

-- where no part gives more than it has ticks, the parts don't
few_in : {A : Type 0} (f : Part → List A) (parts : List Part) → ((part : Part) → length (f part) ≤ length part.pictures) →
    length (flat_map f parts) ≤ known_in parts
unfolding known_in
few_in f [] each = omega arith
few_in f (part ∷ parts) each = omega (arith, length-append (f part) (flat_map f parts), each part, few_in f parts each)

-- what the parts give with one part more
more_in : {A : Type 0} (f : Part → List A) (parts : List Part) (part : Part) →
    flat_map f parts ++ f part ≡ flat_map f (parts ++ part ∷ [])
more_in f parts part =
    sym (flat_map-append f parts (part ∷ []) ∙ ap (λ xs. flat_map f parts ++ xs) (append-nil (f part)))

few_runs : (kind : Kind) (g : ℕ) (part : Part) → length (runs_in kind g part) ≤ length part.pictures
few_runs kind g part =
    let n = length part.pictures - 1 in
    omega (arith, length-map (runs_of kind (trace part.pictures g) n) (moved part.first), few_runs_of kind (trace part.pictures g) n)

few_changes : (to from : ℕ) (part : Part) → length (changes_in to from part) ≤ length part.pictures
few_changes to from part =
    let n = length part.pictures - 1 in
    omega (
      arith,
      length-map (changes_of (trace part.pictures from) (trace part.pictures to) n) (moved part.first),
      few_changes_of (trace part.pictures from) (trace part.pictures to) n,
    )

few_both : (a c : Trace) (n : ℕ) → length (both_green a c n) ≤ n
few_both a c n = gather_few (λ t. if is_green (a t) && is_green (c t) then t ∷ [] else []) n (λ t. few_if (is_green (a t) && is_green (c t)) t)

few_greens : (g i : ℕ) (part : Part) → length (greens_in g i part) ≤ length part.pictures
few_greens g i part =
    let both = both_green (trace part.pictures g) (trace part.pictures i) (length part.pictures) in
    omega (arith, length-map both (λ t. part.first + t), few_both (trace part.pictures g) (trace part.pictures i) (length part.pictures))

-- of a group
pub runs_more : (kind : Kind) (g : ℕ) (parts : List Part) (part : Part) (x y new : Extremes) → new ≡ joined x part.first y →
    x ≡ extremes (flat_map (runs_in kind g) parts) → y ≡ extremes (runs_of kind (trace part.pictures g) (length part.pictures - 1)) →
    known_in parts + length part.pictures ≤ 6048002 → part.first + length part.pictures < 4294967296 →
    new ≡ extremes (flat_map (runs_in kind g) (parts ++ part ∷ []))
runs_more kind g parts part x y new is was now few room =
    let n = length part.pictures - 1 in
    let ys = runs_of kind (trace part.pictures g) n in
    let before = few_in (runs_in kind g) parts (few_runs kind g) in
    let after = few_runs_of kind (trace part.pictures g) n in
    let over = runs_reached kind (trace part.pictures g) n in
    is ∙ ap (λ (z : Extremes). joined z part.first y) was ∙ ap (joined (extremes (flat_map (runs_in kind g) parts)) part.first) now
    ∙ joined_are (flat_map (runs_in kind g) parts) ys part.first (omega (arith, before, after, few)) (omega (arith, over, room))
    ∙ ap extremes (more_in (runs_in kind g) parts part)

-- of the changes between two groups
pub changes_more : (to from : ℕ) (parts : List Part) (part : Part) (x y new : Extremes) → new ≡ joined x part.first y →
    x ≡ extremes (flat_map (changes_in to from) parts) →
    y ≡ extremes (changes_of (trace part.pictures from) (trace part.pictures to) (length part.pictures - 1)) →
    known_in parts + length part.pictures ≤ 6048002 → part.first + length part.pictures < 4294967296 →
    new ≡ extremes (flat_map (changes_in to from) (parts ++ part ∷ []))
changes_more to from parts part x y new is was now few room =
    let n = length part.pictures - 1 in
    let ys = changes_of (trace part.pictures from) (trace part.pictures to) n in
    let before = few_in (changes_in to from) parts (few_changes to from) in
    let after = few_changes_of (trace part.pictures from) (trace part.pictures to) n in
    let over = changes_reached (trace part.pictures from) (trace part.pictures to) n in
    is ∙ ap (λ (z : Extremes). joined z part.first y) was ∙ ap (joined (extremes (flat_map (changes_in to from) parts)) part.first) now
    ∙ joined_are (flat_map (changes_in to from) parts) ys part.first (omega (arith, before, after, few)) (omega (arith, over, room))
    ∙ ap extremes (more_in (changes_in to from) parts part)

-- and of the ticks in which both are green
pub greens_more : (g i : ℕ) (parts : List Part) (part : Part) (x y new : Together) → new ≡ joined_greens x part.first y →
    x ≡ together (flat_map (greens_in g i) parts) →
    y ≡ together (both_green (trace part.pictures g) (trace part.pictures i) (length part.pictures)) →
    known_in parts + length part.pictures ≤ 6048002 → part.first + length part.pictures < 4294967296 →
    new ≡ together (flat_map (greens_in g i) (parts ++ part ∷ []))
greens_more g i parts part x y new is was now few room =
    let n = length part.pictures in
    let ys = both_green (trace part.pictures g) (trace part.pictures i) n in
    let before = few_in (greens_in g i) parts (few_greens g i) in
    let after = few_both (trace part.pictures g) (trace part.pictures i) n in
    let first = greens_reached (trace part.pictures g) (trace part.pictures i) n in
    is ∙ ap (λ (z : Together). joined_greens z part.first y) was ∙ ap (joined_greens (together (flat_map (greens_in g i) parts)) part.first) now
    ∙ joined_greens_are (flat_map (greens_in g i) parts) ys part.first (omega (arith, before, after, few)) (omega (arith, first, room))
    ∙ ap together (more_in (greens_in g i) parts part)

-- what is told of so many groups, with one part more
pub totals_more : (old new : Totals) (page : Page) (first : ℕ) (parts : List Part) (h : History) → AreTotalsOf old (groups_of page) parts → IsPageOf page h →
    groups_of page ≤ 64 → known_in parts + length h ≤ 6048002 → first + seconds_of page < 4294967296 →
    ((q : ℕ) → q < 64 → runs_at new.greens q ≡ joined (runs_at old.greens q) first (runs_at page.protocol.greens q)) →
    ((q : ℕ) → q < 64 → runs_at new.reds q ≡ joined (runs_at old.reds q) first (runs_at page.protocol.reds q)) →
    ((q : ℕ) → q < 64 → runs_at new.red_ambers q ≡ joined (runs_at old.red_ambers q) first (runs_at page.protocol.red_ambers q)) →
    ((q : ℕ) → q < 64 → runs_at new.ambers q ≡ joined (runs_at old.ambers q) first (runs_at page.protocol.ambers q)) →
    ((q : ℕ) → q < 4096 → runs_at new.changes.items q ≡ joined (runs_at old.changes.items q) first (runs_at page.protocol.pairs.items q)) →
    ((q : ℕ) → q < 4096 → together_at new.together.items q ≡ joined_greens (together_at old.together.items q) first (together_at page.together.items q)) →
    AreTotalsOf new (groups_of page) (parts ++ record { first = first; pictures = h } ∷ [])
unfolding AreTotalsOf came_at came_on
totals_more old new page first parts h was is few room within greens reds red_ambers ambers changes together =
    let part : Part = record { first = first; pictures = h } in
    let tells = same_came page h (groups_of page) is refl in
    let inside : first + length h < 4294967296 = omega (arith, within, same_seconds page h is) in
    record {
      runs = λ kind g lt. go kind g lt tells inside;
      changes = λ to from lt lt'.
          let q : 64 * to + from < 4096 = omega (arith, lt, lt', few) in
          changes_more to from parts part (runs_at old.changes.items (64 * to + from)) (runs_at page.protocol.pairs.items (64 * to + from))
          (runs_at new.changes.items (64 * to + from)) (changes (64 * to + from) q) (was.changes to from lt lt') (tells.changes to from lt lt') room inside;
      greens = λ g i lt lt'.
          let q : 64 * g + i < 4096 = omega (arith, lt, lt', few) in
          greens_more g i parts part (together_at old.together.items (64 * g + i)) (together_at page.together.items (64 * g + i))
          (together_at new.together.items (64 * g + i)) (together (64 * g + i) q) (was.greens g i lt lt') (tells.greens g i lt lt') room inside;
    }
  where
    go : (kind : Kind) (g : ℕ) → g < groups_of page → SameCame (came_on page) (came_in h) (groups_of page) → first + length h < 4294967296 →
        total_runs new kind g ≡ extremes (flat_map (runs_in kind g) (parts ++ record { first = first; pictures = h } ∷ []))
    go Green g lt tells inside =
        runs_more Green g parts (record { first = first; pictures = h }) (runs_at old.greens g) (runs_at page.protocol.greens g) (runs_at new.greens g)
        (greens g (omega (arith, lt, few))) (was.runs Green g lt) (tells.runs Green g lt) room inside
    go Red g lt tells inside =
        runs_more Red g parts (record { first = first; pictures = h }) (runs_at old.reds g) (runs_at page.protocol.reds g) (runs_at new.reds g)
        (reds g (omega (arith, lt, few))) (was.runs Red g lt) (tells.runs Red g lt) room inside
    go RedAmber g lt tells inside =
        runs_more RedAmber g parts (record { first = first; pictures = h }) (runs_at old.red_ambers g) (runs_at page.protocol.red_ambers g) (runs_at new.red_ambers g)
        (red_ambers g (omega (arith, lt, few))) (was.runs RedAmber g lt) (tells.runs RedAmber g lt) room inside
    go Amber g lt tells inside =
        runs_more Amber g parts (record { first = first; pictures = h }) (runs_at old.ambers g) (runs_at page.protocol.ambers g) (runs_at new.ambers g)
        (ambers g (omega (arith, lt, few))) (was.runs Amber g lt) (tells.runs Amber g lt) room inside

-- of no part there is nothing
pub no_totals : (t : Totals) (n : ℕ) → n ≤ 64 → t.greens ≡ replicate 64 none_yet → t.reds ≡ replicate 64 none_yet → t.red_ambers ≡ replicate 64 none_yet →
    t.ambers ≡ replicate 64 none_yet → t.changes.items ≡ replicate 4096 none_yet → t.together.items ≡ replicate 4096 no_second → AreTotalsOf t n []
unfolding AreTotalsOf came_at
no_totals t n few greens reds red_ambers ambers changes together_ = record {
  runs = go;
  changes = λ to from lt lt'. ap (λ (xs : List Extremes). runs_at xs (64 * to + from)) changes
      ∙ get_or-replicate 4096 (64 * to + from) none_yet none_yet (omega (arith, lt, lt', few));
  greens = λ g i lt lt'. ap (λ (xs : List Together). together_at xs (64 * g + i)) together_
      ∙ get_or-replicate 4096 (64 * g + i) no_second no_second (omega (arith, lt, lt', few));
}
  where
    none : (xs : List Extremes) (g : ℕ) → xs ≡ replicate 64 none_yet → g < n → runs_at xs g ≡ none_yet
    none xs g is lt = ap (λ (ys : List Extremes). runs_at ys g) is ∙ get_or-replicate 64 g none_yet none_yet (omega (arith, lt, few))

    go : (kind : Kind) (g : ℕ) → g < n → total_runs t kind g ≡ none_yet
    go Green g lt = none t.greens g greens lt
    go Red g lt = none t.reds g reds lt
    go RedAmber g lt = none t.red_ambers g red_ambers lt
    go Amber g lt = none t.ambers g ambers lt
