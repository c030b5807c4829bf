use Rattle.std.proofs.Common.{rules, ◌≡◌, ◌∙◌, ap, sym, ◌+◌, map, drop}
use Rattle.vap_ast.specs.Tree.{array_of}
use Rattle.vap_check.specs.declared.refusal.CheckWhy.TheVariants.{NameKind, ArraySize}
use Rattle.vap_check.specs.FirstFinding.{first_of_all, when}
use Rattle.vap_check.specs.Findings.{array_findings, clash_findings, is_odd_size}
use Rattle.vap_check.specs.KeptNames.{line_in}
use Rattle.vap_check.specs.Names.{among, with_name}
use Rattle.vap_check.proofs.Alike.{arrays_alike, each_at}
use Rattle.vap_check.proofs.Flat.{rest_on}
use Rattle.vap_check.proofs.declarations.judge_arrays.Goals as goal

pub loop-decl-preserved : goal.loop-decl-preserved
loop-decl-preserved c =
    let here = each_at array_of c.args.decls.now c.loop-decl.decl-index c.decl-item.result c.loop-decl-test.true c.decl-item.is in
    let x = array_of c.decl-item.result in
    let rest = map array_of (drop (c.loop-decl.decl-index + 1) c.args.decls.now) in
    let before = c.loop-decl.before.keys in
    let line_of = line_in c.args.known.now in
    let alike = arrays_alike line_of rest c.declare.new.before.keys (with_name before x.name) c.in_ok-declare.ensures.names in
    let twice : c.declare.new.first ≡ first_of_all c.loop-decl.first (when (among before x.name) x.line NameKind) = c.in_ok-declare.ensures.found in
    let clash : c.judge_clash.new.first ≡ first_of_all c.declare.new.first (clash_findings (line_of x.name) x.line) = search rules in
    let odd : c.note_finding_if.new.first ≡ first_of_all c.judge_clash.new.first (when (is_odd_size x.size x.values) x.line ArraySize) = search rules in
    ap (first_of_all c.note_finding_if.new.first) alike
    ∙ rest_on (when (among before x.name) x.line NameKind) (clash_findings (line_of x.name) x.line) (when (is_odd_size x.size x.values) x.line ArraySize)
    (array_findings line_of (with_name before x.name) rest) c.loop-decl.first c.declare.new.first c.judge_clash.new.first c.note_finding_if.new.first
    twice clash odd
    ∙ ap (λ xs. first_of_all c.loop-decl.first (array_findings line_of before xs)) (sym here) ∙ c.loop-decl.invariant
