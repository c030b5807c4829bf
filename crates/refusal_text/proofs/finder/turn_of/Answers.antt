use Rattle.std.proofs.Common.{◌≡◌, ◌∙◌, ℕ, ◌<◌, length, sym, subst}
use Rattle.sig_types.specs.Recorded.{IsTurn}
use Rattle.sig_tables.specs.SiteRules.{rules_of}
use Rattle.log_judge.specs.Stands.{StandsFor, groups_of, seconds_of, terms_of}
use Rattle.refusal_text.proofs.Found.{turn_same}
use Rattle.refusal_text.proofs.Same.{said_is}
use Rattle.refusal_text.proofs.finder.turn_of.Goals as goal

pub returns-clause-told : goal.returns-clause-told
unfolding StandsFor groups_of seconds_of terms_of
returns-clause-told c = λ h s.
    let r = rules_of c.args.times.now c.args.intergreens.now in
    let judge = c.args.judge.now in
    let count : (rules_of c.args.times.now c.args.intergreens.now).count ≡ length c.args.judge.now.picture = c.requires.times in
    turn_same _ _ c.args.turn _ _ _ _ (c.seconds.ensures.shown ∙ sym s.seconds) c.explain-explained.ensures.asked
    (c.said_by.ensures
    ∙ said_is r judge.terms h c.args.picture.now c.args.turn judge.seconds judge.picture judge.pasts
    c.explain-explained.result.finding c.explain-explained.result.reason s.seconds s.last
    (λ g lt. s.pasts g (subst (λ (n : ℕ). g < n) count lt)) (subst (λ (n : ℕ). IsTurn n c.args.turn) (sym count) c.requires.turn)
    (c.requires.picture ∙ sym count) c.explain-explained.ensures.first
    (rw (c.of-limits.ensures.times, c.of-limits.ensures.pairs) at c.explain-explained.ensures.finding)
    (rw (c.of-limits.ensures.times, c.of-limits.ensures.pairs) at c.explain-explained.ensures.reason))
