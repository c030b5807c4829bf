-- What is counted of passes, and the lines that run in them.
use Rattle.std.proofs.Common.{◌≡◌, ℕ, zero, suc, ◌+◌, ◌≤◌, ◌<◌, List, [], ◌∷◌, Bool, length, get_or, refl, subst, arith, ⊎_elim}
use Rattle.std.specs.Prelude.{Contains, count_by, cond, flat_map, min}
use Rattle.std.proofs.lemmas.Bool.{cases_lt}
use Rattle.std.proofs.lemmas.List.Elements.{All-contains}
use Rattle.std.proofs.lemmas.List.Sums.{sum_by-append}
use Rattle.std.proofs.lemmas.Option.{slice_get_within}
use Rattle.vap_code.specs.declared.Instr.TheVariants.{Tick}
use Rattle.vap_code.specs.Machine.{machine}
use Rattle.vap_code.specs.Sights.{Sight}
use Rattle.code_verify.specs.Ends.{IsOver}
use Rattle.trace_watch.specs.Counted.{begins, most_counted}
use Rattle.laws.specs.LinesCounted.{Pass, CountsTellLines, seen_in}
use Rattle.laws.proofs.LinesSeen.{lines_are_seen, statement_stands}

module _ (test : Sight → Bool) (sights : Pass → List Sight) where
  abbrev count : List Sight → ℕ
  count xs = count_by test xs

  sum : (pass : Pass) (passes : List Pass) → count (flat_map sights (pass ∷ passes)) ≡ count (sights pass) + count (flat_map sights passes)
  sum pass passes = sum_by-append (λ x. cond (test x) 1 0) (sights pass) (flat_map sights passes)

  -- what is counted of all is counted of one
  of_one : (passes : List Pass) → 1 ≤ count (flat_map sights passes)
      → (pass : Pass) × Contains passes pass × (1 ≤ count (sights pass))
  of_one [] some = absurd (omega (arith, some))
  of_one (pass ∷ passes) some = ⊎_elim
      (λ (here : 0 < count (sights pass)). (pass, (0, omega arith, refl), omega (arith, here)))
      (λ (none : count (sights pass) ≤ 0).
      let more = of_one passes (omega (arith, some, none, sum pass passes)) in
      let at = more.1 in
      (more.0, (suc at.0, omega (arith, at.1), at.2), more.2))
      (cases_lt 0 (count (sights pass)))

  -- and what is counted of one is counted of all
  of_all : (passes : List Pass) (k : ℕ) (pass : Pass) → k < length passes → get_or passes k pass ≡ pass
      → count (sights pass) ≤ count (flat_map sights passes)
  of_all [] k pass lt is = absurd (omega (arith, lt))
  of_all (first ∷ passes) zero pass lt is =
      subst (λ p. count (sights p) ≤ count (flat_map sights (first ∷ passes))) is (omega (arith, sum first passes))
  of_all (first ∷ passes) (suc k) pass lt is =
      let more = of_all passes k pass (omega (arith, lt)) is in omega (arith, more, sum first passes)

-- the place of a count above 0 is counted
within : (counts : List ℕ) (place : ℕ) → 1 ≤ get_or counts place 0 → place < length counts
within [] place some = absurd (omega (arith, some))
within (n ∷ counts) zero some = omega arith
within (n ∷ counts) (suc place) some = let lt = within counts place some in omega (arith, lt)

some_of_capped : (counted n : ℕ) → counted ≡ min most_counted n → 1 ≤ counted → 1 ≤ n
some_of_capped counted n is some = omega (arith, is, some)

capped_of_some : (counted n : ℕ) → counted ≡ min most_counted n → 1 ≤ n → 1 ≤ counted
capped_of_some counted n is some = omega (arith, is, some)

pub counts_tell_lines : CountsTellLines
counts_tell_lines = record {
  runs = λ source code passes c line sound is has b.
      let all = some_of_capped _ _ (has.begun b.place (within c.begun.items b.place b.counted)) b.counted in
      let one = of_one (begins b.place) (seen_in code) passes all in
      record {
        pass = one.0;
        among = one.1;
        runs = lines_are_seen.seen source code one.0.world one.0.store line sound is
            (record { place = b.place; there = b.there; begun = one.2 });
      };
  counted = λ source code passes c line sound is has long over ran.
      let ends = All-contains (λ p. IsOver (machine code p.world p.store)) passes ran.pass over ran.among in
      let b = lines_are_seen.done source code ran.pass.world ran.pass.store line sound is ends ran.runs in
      let less = of_all (begins b.place) (seen_in code) passes ran.among.0 ran.pass ran.among.1 ran.among.2 in
      let there = slice_get_within code.instrs b.place (Tick line) (statement_stands code.instrs b.place line b.there) in
      record {
        place = b.place;
        there = b.there;
        counted = capped_of_some _ _ (has.begun b.place (omega (arith, there, long))) (omega (arith, less, b.begun));
      };
}
