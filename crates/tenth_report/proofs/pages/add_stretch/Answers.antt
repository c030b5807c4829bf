use Rattle.std.proofs.Common.{◌∙◌, [], ◌∷◌, ◌++◌, refl, sym, ap, subst, append_assoc, arith}
use Rattle.std.specs.Prelude.{replicate}
use Rattle.std.proofs.lemmas.List.{append-nil, replicate_more}
use Rattle.sig_types.specs.Turns.{History}
use Rattle.log_protocol.specs.Page.{IsPageOf}
use Rattle.tenth_report.proofs.pages.add_stretch.Goals as goal

pub tenths-init : goal.tenths-init
tenths-init c = record {
  groups = refl;
  seconds = omega arith;
  page = λ h is. subst (λ (t : History). IsPageOf c.args.page.now t) (sym (append-nil h)) is;
}

pub tenths-preserved : goal.tenths-preserved
tenths-preserved c =
    let i = c.tenths.invariant in
    let p = c.args.picture.now in
    let n = c.tenths.tenth in
    record {
      groups = c.add.ensures.groups ∙ i.groups;
      seconds = omega (arith, c.add.ensures.seconds, i.seconds);
      page = λ h is.
          subst (λ (t : History). IsPageOf c.add.new.self t)
          (append_assoc h (replicate n p) (p ∷ []) ∙ ap (λ (t : History). h ++ t) (replicate_more n p))
          (c.add.ensures.page (h ++ replicate n p) (i.page h is));
    }
