use Rattle.std.proofs.Common.{rules, ap, sym, ◌∙◌, ◌+◌, map, drop}
use Rattle.vap_ast.specs.Tree.{routine_of}
use Rattle.vap_check.specs.KeptNames.{kind_in, taken_in}
use Rattle.vap_check.specs.Names.{among, with_name, with_names}
use Rattle.vap_check.proofs.Alike.{names_alike, subs_alike, each_at}
use Rattle.vap_check.proofs.Flat.{findings_on}
use Rattle.vap_check.proofs.declarations.judge_subs.Goals as goal

pub loop-sub-preserved : goal.loop-sub-preserved
loop-sub-preserved c =
    let here = each_at routine_of c.args.subs.now c.loop-sub.sub-index c.sub-item.result c.loop-sub-test.true c.sub-item.is in
    let rest = map routine_of (drop (c.loop-sub.sub-index + 1) c.args.subs.now) in
    let above = c.loop-sub.above.keys in
    let more = c.note.new.names.keys in
    let name = c.sub-item.result.name in
    let step = c.in_ok-note.ensures.names in
    let alike = subs_alike (kind_in c.args.known.now) (taken_in c.args.known.now) rest more (with_name above name) step in
    record {
      above = names_alike (map (λ r. r.name) rest) more (with_name above name) step
          ∙ ap (λ rs. among (with_names above (map (λ r. r.name) rs))) (sym here) ∙ c.loop-sub.invariant.above;
      found = search (rules, alike, findings_on);
    }
