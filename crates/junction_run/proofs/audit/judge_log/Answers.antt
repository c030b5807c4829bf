use Rattle.std.proofs.Common.{◌∙◌, ◌++◌, ◌∷◌, [], Some, Ok, Err, replicate, ap, sym, subst, refl, arith}
use Rattle.sig_types.specs.declared.aspect.Aspect.TheVariants.{Red}
use Rattle.log_read.specs.Answers.{IsNext, Reads, begin_of, name_of}
use Rattle.log_read.specs.Readings.{IsPictures}
use Rattle.log_read.specs.declared.begin.Begin.TheVariants.{AtOne}
use Rattle.sig_tables.specs.SiteRules.{rules_of}
use Rattle.sig_audit.specs.Judged.{StandsFor}
use Rattle.junction_run.proofs.AuditEnds.{none_read}
use Rattle.junction_run.proofs.audit.judge_log.Goals as goal

pub loop-auditor-init : goal.loop-auditor-init
loop-auditor-init g c = (
  none_read c.new-auditor.result c.args.lines.now (g.F.Files.told c.args.files.now) (name_of c.args.lines.now) c.args.plan.now
      (rules_of c.args.times.now c.args.intergreens.now)
      (subst (λ n. StandsFor c.new-auditor.result (rules_of c.args.times.now c.args.intergreens.now) (replicate n Red ∷ []))
      c.groups.ensures.count (c.new-auditor.ensures.stands (rules_of c.args.times.now c.args.intergreens.now) (c.requires.times ∙ sym c.groups.ensures.count)))
      c.requires.unread,
  refl,
  refl,
  c.requires.live,
  c.new-auditor.ensures.groups ∙ c.groups.ensures.count,
  c.new-auditor.ensures.seconds ∙ sym c.requires.none_given,
  omega (arith, c.requires.none_given),
  omega arith,
  c.requires.begin,
)

pub returns-in-Ok-false-clause-judged : goal.returns-in-Ok-false-clause-judged
returns-in-Ok-false-clause-judged g c = λ file e.
    let i = c.loop-auditor.invariant in
    let so_far = i.0 in
    let names = c.args.plan.now.names in
    let next = subst (λ n. Reads c.loop-auditor.lines names (file n) so_far.pictures →
    IsNext (begin_of c.loop-auditor.lines) names (file n) so_far.pictures c.next_picture.new.self (Ok c.in-Ok-false.field-0)) i.2
    (c.in-Ok-false.ensures.next file (i.1 ∙ e) so_far.pictures) (so_far.reads file e) in
    let last = subst (λ b. IsNext (begin_of c.loop-auditor.lines) names (file (name_of c.args.lines.now)) so_far.pictures c.next_picture.new.self (Ok b)) c.in-Ok-false.field-0-test next in
    (so_far.pictures, rw i.8 at last.0, c.verdict.ensures.verdict _ _ so_far.stands)

pub returns-in-Err-Fault-clause-judged : goal.returns-in-Err-Fault-clause-judged
returns-in-Err-Fault-clause-judged g c = λ file e. refl

pub returns-in-Err-At-clause-judged : goal.returns-in-Err-At-clause-judged
returns-in-Err-At-clause-judged g c = λ file e.
    let i = c.loop-auditor.invariant in
    let so_far = i.0 in
    let names = c.args.plan.now.names in
    let next = subst (λ n. Reads c.loop-auditor.lines names (file n) so_far.pictures →
    IsNext (begin_of c.loop-auditor.lines) names (file n) so_far.pictures c.next_picture.new.self (Err c.in-Err-At.field-0)) i.2
    (c.in-Err-At.ensures.next file (i.1 ∙ e) so_far.pictures) (so_far.reads file e) in
    let last = subst (λ r. IsNext (begin_of c.loop-auditor.lines) names (file (name_of c.args.lines.now)) so_far.pictures c.next_picture.new.self (Err r)) c.in-Err-At.field-0-is next in
    let told : IsPictures AtOne names (file (name_of c.args.lines.now)) so_far.pictures (Some (c.in-Err-At.line, c.in-Err-At.why)) = rw i.8 at last in
    rw c.in-Err-At.field-0-is (refl, so_far.pictures, told)

pub loop-auditor-preserved : goal.loop-auditor-preserved
loop-auditor-preserved g c =
    let i = c.loop-auditor.invariant in
    let so_far = i.0 in
    let names = c.args.plan.now.names in
    let given = c.in-Ok-true.ensures.given (ap Ok c.in-Ok-true.field-0-test) in (
      record {
        pictures = so_far.pictures ++ c.picture.result.now ∷ [];
        stands = c.take.ensures.stands _ so_far.stands;
        reads = λ file e.
            let next = subst (λ n. Reads c.loop-auditor.lines names (file n) so_far.pictures →
            IsNext (begin_of c.loop-auditor.lines) names (file n) so_far.pictures c.next_picture.new.self (Ok c.in-Ok-true.field-0)) i.2
            (c.in-Ok-true.ensures.next file (i.1 ∙ e) so_far.pictures) (so_far.reads file e) in
            let read = subst (λ b. IsNext (begin_of c.loop-auditor.lines) names (file (name_of c.args.lines.now)) so_far.pictures c.next_picture.new.self (Ok b))
            c.in-Ok-true.field-0-test next in
            subst (λ p. Reads c.next_picture.new.self names (file (name_of c.args.lines.now)) (so_far.pictures ++ p ∷ [])) (sym c.picture.ensures) read;
      },
      c.next_picture.ensures.contents_stay ∙ i.1,
      c.next_picture.ensures.name ∙ i.2,
      c.in-Ok-true.ensures.live,
      c.take.ensures.groups ∙ i.4,
      omega (arith, c.take.ensures.seconds, i.5, given),
      c.in-Ok-true.ensures.at_most (ap Ok c.in-Ok-true.field-0-test),
      omega (arith, i.7, c.next_picture.ensures.later),
      c.next_picture.ensures.begin ∙ i.8,
    )
