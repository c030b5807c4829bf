use Rattle.std.proofs.Common.{◌≡◌, ◌∙◌, ℕ, List, ◌++◌, length, map, sym, ap, append_assoc}
use Rattle.sig_tables.specs.SiteRules.{rules_of}
use Rattle.log_judge.specs.Stands.{StandsFor, groups_of, seconds_of, terms_of}
use Rattle.refusal_text.specs.declared.refusal.Refusal.{Refusal}
use Rattle.refusal_text.specs.Refusals.{command_of, turn_of}
use Rattle.refusal_text.proofs.Ends.{on_ok}
use Rattle.refusal_text.proofs.finder.tell_second.Goals as goal

pub returns-in-Ok-clause-told : goal.returns-in-Ok-clause-told
unfolding StandsFor groups_of seconds_of terms_of
returns-in-Ok-clause-told c =
    let judge = c.args.judge.now in
    let x = c.args.rec.now in
    let old = c.args.found.now.items in
    on_ok c.tell_turns.result _ _ c.tell_turns.ensures.told (λ told h s.
    let turns = map (turn_of (rules_of c.args.times.now c.args.intergreens.now) (terms_of judge) h x.picture) x.turns in
    let now : c.seconds.result ≡ length h = c.seconds.ensures.shown ∙ sym s.seconds in
    told h s
    ∙ ap (λ (xs : List Refusal). xs ++ turns) c.in-Ok.ensures.told
    ∙ ap (λ (n : ℕ). (old ++ map (command_of n x.place) x.stages) ++ turns) now
    ∙ append_assoc old (map (command_of (length h) x.place) x.stages) turns)
