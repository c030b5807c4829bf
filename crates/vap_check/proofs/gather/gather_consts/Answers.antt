use Rattle.std.proofs.Common.{◌≡◌, ap, sym, ◌∙◌, ◌+◌, ◌||◌, map, drop, is_some}
use Rattle.std.specs.Str.{bytes_eq}
use Rattle.vap_ast.specs.Tree.{constant_of}
use Rattle.vap_check.specs.declared.refusal.CheckWhy.TheVariants.{ConstTwice}
use Rattle.vap_check.specs.FirstFinding.{first_of_all, when}
use Rattle.vap_check.specs.Findings.{const_findings}
use Rattle.vap_check.specs.KeptNames.{constant_is, declared_in, with_constants}
use Rattle.vap_check.specs.Names.{among, with_name}
use Rattle.vap_check.proofs.Agree.{with_one, some_or}
use Rattle.vap_check.proofs.Alike.{each_at}
use Rattle.vap_check.proofs.Flat.{findings_on}
use Rattle.vap_check.proofs.gather.gather_consts.Goals as goal

pub loop-decl-preserved : goal.loop-decl-preserved
loop-decl-preserved c =
    let here = each_at constant_of c.args.decls.now c.loop-decl.decl-index c.decl-item.result c.loop-decl-test.true c.decl-item.is in
    let x = constant_of c.decl-item.result in
    let rest = map constant_of (drop (c.loop-decl.decl-index + 1) c.args.decls.now) in
    let known = c.loop-decl.known in
    let more = c.note_const.new.known in
    let step = c.in_ok-note_const.ensures.known in
    let seen = c.loop-decl.invariant.found.0 in
    let there = c.loop-decl.invariant.found.1 in
    let first = c.loop-decl.first in
    let twice = when (among seen x.name) x.line ConstTwice in
    let others = const_findings (with_name seen x.name) rest in
    let told : c.note_const.new.first ≡ first_of_all first twice =
    c.in_ok-note_const.ensures.found ∙ ap (λ f. first_of_all first (when (f x.name) x.line ConstTwice)) (sym there) in
    record {
      known = ap (λ f. with_constants f rest) step ∙ ap (with_constants (declared_in known)) (sym here) ∙ c.loop-decl.invariant.known;
      found = (
        with_name seen x.name,
        (λ i q. (with_one seen x.name q ∙ ap (λ f. bytes_eq q x.name || f q) there ∙
            sym (some_or (declared_in known q) (bytes_eq q x.name) (constant_is x)) ∙ ap (λ f. is_some (f q)) (sym step)) i),
        ap (λ o. first_of_all o others) told ∙ sym (findings_on twice others first) ∙
            ap (λ cs. first_of_all first (const_findings seen cs)) (sym here) ∙ c.loop-decl.invariant.found.2,
      );
    }
