use Rattle.std.proofs.Common.{◌≡◌, ◌∙◌, ℕ, ◌+◌, ◌*◌, ◌<◌, [], ◌∷◌, ◌++◌, length, arith, sym, ap, subst}
use Rattle.std.proofs.Math.ListN.{length-append}
use Rattle.sig_types.specs.Turns.{shown}
use Rattle.log_judge.specs.declared.find.Terms.{Terms}
use Rattle.log_judge.specs.HasCame.{HasCame}
use Rattle.log_judge.specs.Stands as stands
use Rattle.log_protocol.specs.Page.{IsPageOf, groups_of, seconds_of}
use Rattle.log_protocol.specs.Steps.{together_at, with_both}
use Rattle.log_protocol.proofs.Adding.{together_more}
use Rattle.log_protocol.proofs.page.Page.add.Goals as goal

pub returns-clause-page : goal.returns-clause-page
unfolding IsPageOf groups_of seconds_of
returns-clause-page c = λ h is.
    let p = c.args.picture.now in
    let old = c.args.self.now in
    let n = stands.groups_of c.args.self.now.judge in
    let groups = c.show.ensures.groups in
    let size : length (h ++ p ∷ []) ≡ length h + 1 = omega (arith, length-append h (p ∷ [])) in
    let few : length h < 6048002 = omega (arith, is.long, c.requires.at_most) in
    let before : HasCame old.protocol (stands.terms_of old.judge) (stands.groups_of old.judge) h =
    subst (λ (k : Terms). HasCame old.protocol k (stands.groups_of old.judge) h) (sym is.terms) is.came in
    record {
      judged = c.show.ensures.stands h is.judged;
      terms = c.show.ensures.terms ∙ is.terms;
      long = omega (arith, size, is.long, c.show.ensures.seconds);
      few = omega (arith, size, few);
      came = subst (λ (k : Terms). HasCame c.add.new.self k (stands.groups_of c.show.new.self) (h ++ p ∷ [])) is.terms
          (subst (λ (m : ℕ). HasCame c.add.new.self (stands.terms_of old.judge) m (h ++ p ∷ [])) (sym groups) (c.add.ensures h is.judged before));
      greens = λ g i lt lt'.
          let g_in : g < stands.groups_of old.judge = omega (arith, lt, groups) in
          let i_in : i < stands.groups_of old.judge = omega (arith, lt', groups) in
          together_more h p g i (together_at old.together.items (64 * g + i)) (together_at c.add_together.new.pairs.items (64 * g + i)) few
          (is.greens g i g_in i_in)
          (c.add_together.ensures.each g i (omega (arith, g_in, c.requires.size)) (omega (arith, i_in, c.requires.size))
          ∙ ap (λ (t : ℕ). with_both (together_at old.together.items (64 * g + i)) (shown p g) (shown p i) t) (c.seconds.ensures.seconds ∙ sym is.long));
    }
