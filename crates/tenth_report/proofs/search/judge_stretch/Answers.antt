use Rattle.std.proofs.Common.{◌∙◌, refl, sym, subst, arith}
use Rattle.std.proofs.lemmas.List.{append-nil}
use Rattle.sig_types.specs.Turns.{History}
use Rattle.log_judge.specs.Stands.{terms_of}
use Rattle.tenth_report.specs.Search.{IsJudged, rules_in}
use Rattle.tenth_report.proofs.Judging.{one_more}
use Rattle.tenth_report.proofs.search.judge_stretch.Goals as goal

pub tenths-init : goal.tenths-init
tenths-init c = record {
  groups = refl;
  terms = refl;
  seconds = omega arith;
  judged = λ before h is.
      subst (λ (t : History). IsJudged (rules_in c.args.limits.now) (terms_of c.args.judge.now) before t c.args.judge.now c.args.out.now.items)
      (sym (append-nil h)) is;
}

pub tenths-preserved : goal.tenths-preserved
tenths-preserved c =
    let i = c.tenths.invariant in
    record {
      groups = c.show.ensures.groups ∙ i.groups;
      terms = c.show.ensures.terms ∙ i.terms;
      seconds = omega (arith, c.show.ensures.seconds, i.seconds);
      judged = λ before h is.
          one_more (rules_in c.args.limits.now) (terms_of c.args.judge.now) before h c.args.picture.now c.tenths.tenth c.tenths.judge c.show.new.self
          c.tenths.out.items c.find.new.out.items (i.judged before h is) i.terms c.show.ensures.stands c.in_ok-find.ensures.first c.in_ok-find.ensures.found;
    }
