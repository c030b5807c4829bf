-- The stretches of which nothing is known, with one entry more.
use Rattle.std.proofs.Common.{◌≡◌, ◌∙◌, ℕ, ◌+◌, ◌-◌, ◌<◌, ◌≤◌, Bool, true, false, List, [], ◌∷◌, ◌++◌, length, Option, None, Some, refl, sym, ap, subst, append_assoc, zero-add, arith}
use Rattle.std.specs.Option.{ForSome}
use Rattle.std.proofs.Math.ListN.{length-append}
use Rattle.std.proofs.lemmas.List.{append-nil}
use Rattle.log_judge.specs.declared.protocol.Extremes.{Extremes}
use Rattle.log_protocol.specs.Came.{Lasted, extremes}
use Rattle.log_protocol.specs.Parts.{moved}
use Rattle.log_protocol.specs.Joined.{joined}
use Rattle.log_protocol.proofs.Extreme.{same_extremes}
use Rattle.log_protocol.proofs.Joins.{joined_are}
use Rattle.tenth_records.specs.declared.entry.Entry.{Entry}
use Rattle.tenth_report.specs.declared.gaps.Gaps.{Gaps}
use Rattle.tenth_report.specs.Gaps.{HasGaps, came_then, gap_over, gap_since, gaps_in, gaps_of, is_unknown}

gaps_next : (since : Option ℕ) (e : Entry) (rest : List Entry) →
    gaps_in since (e ∷ rest) ≡ gap_over since e.at e.shown ++ gaps_in (gap_since since e.at e.shown) rest
unfolding gaps_in
gaps_next since e rest = refl

-- one stretch more
one_more : (over : List Lasted) (n t : ℕ) → length over + 1 < 4294967296 → t < 4294967296 →
    joined (extremes over) 0 (record { count = 1; least = n; second = t; most = n }) ≡ extremes (over ++ record { seconds = n; over = t } ∷ [])
one_more over n t few room =
    let x : Lasted = record { seconds = n; over = t } in
    let one : (let y : Extremes = record { count = 1; least = n; second = t; most = n } in y) ≡ extremes (x ∷ []) =
    same_extremes _ _ _ _ _ _ _ _ (omega arith) refl refl (omega arith) in
    let same : moved 0 x ≡ x = ap (λ k. let y : Lasted = record { seconds = n; over = k } in y) (zero-add t) in
    ap (joined (extremes over) 0) one
    ∙ joined_are over (x ∷ []) 0 (omega (arith, few)) (omega (arith, room))
    ∙ ap (λ (y : Lasted). extremes (over ++ y ∷ [])) same

-- an entry was taken
pub gaps_taken : (old new : Gaps) (all rest : List Entry) (e : Entry) (most : ℕ) → HasGaps old all (e ∷ rest) most → most ≤ e.at →
    ForSome old.since (λ _. most < e.at) → e.at < 4294967296 → new.since ≡ gap_since old.since e.at e.shown →
    new.came ≡ came_then old.came old.since e.at e.shown → HasGaps new all rest e.at
gaps_taken old new all rest e most was later some room since came = go old.since refl (is_unknown e.shown) refl
  where
    left : gaps_of all ≡ was.over ++ (gap_over old.since e.at e.shown ++ gaps_in new.since rest)
    left = was.left ∙ ap (λ (xs : List Lasted). was.over ++ xs) (gaps_next old.since e rest)
        ∙ ap (λ s. was.over ++ (gap_over old.since e.at e.shown ++ gaps_in s rest)) (sym since)

    go : (s : Option ℕ) → old.since ≡ s → (b : Bool) → is_unknown e.shown ≡ b → HasGaps new all rest e.at
    go None is b unknown = record {
      over = was.over;
      came = came ∙ ap (λ s. came_then old.came s e.at e.shown) is ∙ was.came;
      left = left ∙ ap (λ s. was.over ++ (gap_over s e.at e.shown ++ gaps_in new.since rest)) is;
      few = omega (arith, was.few, later);
    }
    go (Some s) is true unknown = record {
      over = was.over;
      came = came ∙ ap (λ s. came_then old.came s e.at e.shown) is ∙ rw unknown was.came;
      left = left ∙ ap (λ s. was.over ++ (gap_over s e.at e.shown ++ gaps_in new.since rest)) is ∙ rw unknown refl;
      few = omega (arith, was.few, later);
    }
    go (Some s) is false unknown =
        let x : Lasted = record { seconds = e.at - s; over = e.at } in
        let less : most < e.at = some s is in
        let one : Extremes = record { count = 1; least = e.at - s; second = e.at; most = e.at - s } in
        let step : came_then old.came (Some s) e.at e.shown ≡ joined old.came 0 one = rw unknown refl in
        let gap : gap_over (Some s) e.at e.shown ≡ x ∷ [] = rw unknown refl in
        record {
          over = was.over ++ x ∷ [];
          came = came ∙ ap (λ s. came_then old.came s e.at e.shown) is ∙ step ∙ ap (λ (y : Extremes). joined y 0 one) was.came
              ∙ one_more was.over (e.at - s) e.at (omega (arith, was.few, less, room)) room;
          left = left ∙ ap (λ s. was.over ++ (gap_over s e.at e.shown ++ gaps_in new.since rest)) is
              ∙ ap (λ (xs : List Lasted). was.over ++ (xs ++ gaps_in new.since rest)) gap
              ∙ sym (append_assoc was.over (x ∷ []) (gaps_in new.since rest));
          few = omega (arith, length-append was.over (x ∷ []), was.few, less);
        }

-- before the first entry none is over
pub no_gaps : (gaps : Gaps) (all : List Entry) → gaps.came ≡ extremes [] → gaps.since ≡ None → HasGaps gaps all all 0
no_gaps gaps all came since = record {
  over = [];
  came = came;
  left = ap (λ s. gaps_in s all) (sym since);
  few = omega arith;
}

-- one entry more was taken
pub gaps_on : (old new : Gaps) (past : List Entry) (e : Entry) (was most : ℕ) → ((rest : List Entry) → HasGaps old (past ++ rest) rest was) →
    ((all rest : List Entry) → HasGaps old all (e ∷ rest) was → HasGaps new all rest most) → (rest : List Entry) →
    HasGaps new ((past ++ e ∷ []) ++ rest) rest most
gaps_on old new past e was most gaps take rest =
    subst (λ (xs : List Entry). HasGaps new xs rest most) (sym (append_assoc past (e ∷ []) rest)) (take (past ++ (e ∷ rest)) rest (gaps (e ∷ rest)))

none_left : (since : Option ℕ) → gaps_in since [] ≡ []
unfolding gaps_in
none_left since = refl

-- behind the last entry all are over
pub gaps_all : (gaps : Gaps) (all : List Entry) (most : ℕ) → HasGaps gaps all [] most → gaps.came ≡ extremes (gaps_of all)
gaps_all gaps all most h =
    h.came ∙ ap extremes (sym (h.left ∙ ap (λ (xs : List Lasted). h.over ++ xs) (none_left gaps.since) ∙ append-nil h.over))
