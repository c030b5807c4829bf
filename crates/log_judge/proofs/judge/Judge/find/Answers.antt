use Rattle.std.proofs.Common.{◌≡◌, ℕ, suc, ◌-◌, ◌<◌, arith, sym, ap, subst, ◌∙◌, length, List, ◌++◌, append_assoc}
use Rattle.std.proofs.lemmas.List.{append-nil}
use Rattle.log_judge.specs.declared.breach.Breach.{Breach}
use Rattle.log_judge.specs.Stands.{StandsFor, terms_of, groups_of, seconds_of}
use Rattle.log_judge.proofs.Keeping.{Keeps, found_now, found_after}
use Rattle.log_judge.proofs.Unchanged.{unchanged}
use Rattle.log_judge.proofs.judge.Judge.find.Goals.{then-self-eq0-via-then-self-eq0, then-self-eq0-via-else-self-eq0+then-all_stay}
use Rattle.log_judge.proofs.judge.Judge.find.Goals as goal

five_times : (start a b c d e x1 x2 x3 x4 x5 : List Breach) → x1 ≡ start ++ a → x2 ≡ x1 ++ b → x3 ≡ x2 ++ c → x4 ≡ x3 ++ d → x5 ≡ x4 ++ e →
    x5 ≡ start ++ (a ++ (b ++ (c ++ (d ++ e))))
five_times start a b c d e x1 x2 x3 x4 x5 h1 h2 h3 h4 h5 =
    rw (h5, h4, h3, h2, h1) (
    append_assoc (((start ++ a) ++ b) ++ c) d e ∙ append_assoc ((start ++ a) ++ b) c (d ++ e) ∙ append_assoc (start ++ a) b (c ++ (d ++ e)) ∙ append_assoc start a (b ++ (c ++ (d ++ e))))

pub returns-then-self-eq0-clause-found : goal.returns-then-self-eq0-clause-found
unfolding StandsFor terms_of groups_of seconds_of
returns-then-self-eq0-clause-found c = λ h s one. elim c.then-self-eq0.branch [
  | then-self-eq0-via-then-self-eq0 w ↦ absurd (omega (arith, w.if-self-eq0.true, s.seconds, one))
  | then-self-eq0-via-else-self-eq0+then-all_stay w ↦ (
      let m = length h - 1 in
      let keeps : Keeps c.args.self.now.terms h m c.args.self.now.picture c.args.self.now.pasts = record {
        long = omega (arith, one);
        last = s.last (omega (arith, one));
        pasts_are = s.pasts;
      } in
      sym (ap (λ (xs : List Breach). c.args.out.now.items ++ xs)
      (found_after c.args.limits.now.times c.args.limits.now.pairs c.args.self.now.terms h c.args.picture.now m
      c.args.self.now.picture c.args.self.now.pasts keeps (sym c.requires.picture) (c.requires.times ∙ sym c.requires.picture)
      ∙ unchanged c.args.limits.now.times c.args.limits.now.pairs c.args.self.now.terms (suc m) c.args.self.now.picture c.args.self.now.pasts c.args.picture.now
      (λ g lt. w.all_stay.ensures w.if-all_stay.true g (subst (λ (n : ℕ). g < n) c.requires.picture lt)))
      ∙ append-nil c.args.out.now.items))
]

pub returns-clause-found : goal.returns-clause-found
unfolding StandsFor terms_of groups_of seconds_of
returns-clause-found c = λ h s one.
    let m = length h - 1 in
    let long : length h ≡ suc m = omega (arith, one) in
    let keeps : Keeps c.args.self.now.terms h m c.args.self.now.picture c.args.self.now.pasts = record {
      long = long;
      last = s.last (omega (arith, one));
      pasts_are = s.pasts;
    } in
    let now : suc m ≡ c.args.self.now.seconds = sym long ∙ s.seconds in
    five_times _ _ _ _ _ _ _ _ _ _ _ c.in_ok-find_sequences.ensures c.in_ok-find_greens.ensures c.in_ok-find_reds.ensures c.in_ok-find_conflicts.ensures c.in_ok-find_intergreens.ensures
    ∙ ap (λ (n : ℕ). c.args.out.now.items ++ found_now c.args.limits.now.times c.args.limits.now.pairs c.args.self.now.terms n c.args.self.now.picture c.args.self.now.pasts c.args.picture.now) (sym now)
    ∙ ap (λ (xs : List Breach). c.args.out.now.items ++ xs) (sym (found_after c.args.limits.now.times c.args.limits.now.pairs c.args.self.now.terms h c.args.picture.now m
    c.args.self.now.picture c.args.self.now.pasts keeps (sym c.requires.picture) (c.requires.times ∙ sym c.requires.picture)))
