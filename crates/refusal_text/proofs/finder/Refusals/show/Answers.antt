use Rattle.std.proofs.Common.{◌≡◌, ◌<◌, ℕ, List, [], ◌∷◌, ◌++◌, arith}
use Rattle.sig_types.specs.declared.record.Record.{Record}
use Rattle.sig_tables.specs.SiteRules.{rules_of}
use Rattle.sig_types.specs.Rules.{Rules}
use Rattle.refusal_text.specs.declared.finder.Refusals.{Refusals}
use Rattle.refusal_text.specs.Kept.{HasFound, IsFresh, IsOn}
use Rattle.refusal_text.proofs.Ends.{on_ok}
use Rattle.refusal_text.proofs.finder.Refusals.show.Goals as goal

-- a record more of a log that was begun
more : (s t : Refusals) (r : Rules) (from to : ℕ) (x : Record) →
    ((second : ℕ) (records : List Record) → IsOn s r second from to records → IsOn t r second from to (records ++ x ∷ [])) →
    0 < s.records → (records : List Record) → HasFound s r from to records → HasFound t r from to (records ++ x ∷ [])
unfolding HasFound
more s t r from to x step some [] has = absurd (omega (arith, some, has.none))
more s t r from to x step some (y ∷ ys) has = step y.second.0 (y ∷ ys) has

-- the first record of a log
first : (s b t : Refusals) (r : Rules) (from to : ℕ) (x : Record) → (IsFresh s r from to → IsOn b r x.second.0 from to []) →
    ((second : ℕ) (records : List Record) → IsOn b r second from to records → IsOn t r second from to (records ++ x ∷ [])) →
    s.records ≡ 0 → (records : List Record) → HasFound s r from to records → HasFound t r from to (records ++ x ∷ [])
unfolding HasFound
first s b t r from to x begin step none [] has = step x.second.0 [] (begin has)
first s b t r from to x begin step none (y ∷ ys) has = absurd (omega (arith, none, has.count))

pub returns-then-self-gt0-clause-found : goal.returns-then-self-gt0-clause-found
returns-then-self-gt0-clause-found c =
    let r = rules_of c.args.times.now c.args.intergreens.now in
    on_ok c.take.result _ _ c.take.ensures.found (λ step from to records has.
    more c.args.self.now c.take.new.self r from to c.args.rec.now (λ second recs is. step second from to recs is) c.if-self-gt0.true records has)

pub returns-clause-found : goal.returns-clause-found
returns-clause-found c =
    let r = rules_of c.args.times.now c.args.intergreens.now in
    on_ok c.take-2.result _ _ c.take-2.ensures.found (λ step from to records has.
    first c.args.self.now c.begin.new.self c.take-2.new.self r from to c.args.rec.now (λ fresh. c.begin.ensures.found r from to fresh)
    (λ second recs is. step second from to recs is) (omega (arith, c.if-self-gt0.false)) records has)
