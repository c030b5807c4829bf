use Rattle.std.proofs.Common.{refl, sym, subst, arith}
use Rattle.std.specs.Prelude.{IfErr}
use Rattle.sig_io.specs.Draft.{IsCutAt}
use Rattle.sig_io.proofs.Drafts.{exact_fault}
use Rattle.vap_code.specs.Codes.{CodeOf}
use Rattle.vap_code.specs.declared.VerifyWhy.TheVariants.{Shape}
use Rattle.vap_code.specs.Valid.{Valid}
use Rattle.code_file.specs.Text.{code_text}
use Rattle.code_file.proofs.writing.write_code.Goals as goal

pub write_parts-requires : goal.write_parts-requires
write_parts-requires g c = (subst Valid (sym c.code.ensures.same) c.code.ensures.valid) Shape 0 (omega arith) refl

pub returns-clause-fault : goal.returns-clause-fault
returns-clause-fault g c =
    let start = g.O.Sink.taken c.args.sink.now in
    let now = g.O.Sink.taken c.write_parts.new.sink in
    let r = c.write_parts.result in
    exact_fault r start now _ (omega (arith, c.code_has_text.ensures.short))
    (subst (λ (k : CodeOf). IfErr r (λ f. IsCutAt start now f.taken (code_text k))) c.code.ensures.same c.write_parts.ensures.fault)
