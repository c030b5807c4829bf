use Rattle.std.proofs.Common.{◌∙◌, ◌-◌, ◌++◌, ◌∷◌, [], length, Some, Ok, Err, ap, sym, subst, refl, arith}
use Rattle.sig_types.specs.Turns.{Picture}
use Rattle.sig_tables.specs.SiteRules.{rules_of}
use Rattle.log_judge.specs.declared.find.Terms.{Terms}
use Rattle.log_judge.specs.Breaches.{breaches_after}
use Rattle.log_judge.specs.Stands.{terms_of}
use Rattle.log_judge.proofs.AllFound.{next_within}
use Rattle.log_read.specs.Answers.{IsFirst, IsNext, Reads, begin_of, first_given, name_of}
use Rattle.log_read.specs.Readings.{IsPictures}
use Rattle.log_read.specs.declared.begin.Begin.TheVariants.{Anywhere}
use Rattle.log_read.proofs.First.{first_read}
use Rattle.report_judged.proofs.BreachReading.{none_read, stands_count}
use Rattle.report_judged.proofs.breach_finding.find_within.Goals as goal

pub pictures-init : goal.pictures-init
pictures-init g c = record {
  so_far = none_read c.args.judge.now c.args.part.now c.args.found.now.items (g.F.Files.told c.args.files.now) (name_of c.args.part.now)
      c.args.tables.now.plan.names (rules_of c.args.tables.now.times c.args.tables.now.intergreens) (terms_of c.args.judge.now)
      c.requires.stands c.requires.none_found c.requires.unread;
  told = refl;
  name = refl;
  begin = c.requires.begin;
  live = c.requires.live;
  groups = c.requires.groups;
  terms = refl;
  count = c.requires.none_shown ∙ sym c.requires.none_given;
  most = omega (arith, c.requires.none_given);
  later = omega arith;
}

pub returns-in-Ok-false-clause-read : goal.returns-in-Ok-false-clause-read
returns-in-Ok-false-clause-read g c file e =
    let i = c.pictures.invariant in
    let so_far = i.so_far in
    let names = c.args.tables.now.plan.names in
    let next = subst (λ n. Reads c.pictures.part names (file n) so_far.pictures →
    IsNext (begin_of c.pictures.part) names (file n) so_far.pictures c.next_picture.new.self (Ok c.in-Ok-false.field-0)) i.name
    (c.in-Ok-false.ensures.next file (i.told ∙ e) so_far.pictures) (so_far.reads file e) in
    let last = subst (λ b. IsNext (begin_of c.pictures.part) names (file (name_of c.args.part.now)) so_far.pictures c.next_picture.new.self (Ok b)) c.in-Ok-false.field-0-test next in
    record {
      pictures = so_far.pictures;
      log = rw i.begin at last.0;
      stands = so_far.stands;
      found_are = so_far.found_are;
      first = rw (c.in-Ok-false.ensures.begin, i.begin) at (first_read c.next_picture.new.self names (file (name_of c.args.part.now)) so_far.pictures last.1);
    }

pub returns-in-Err-Fault-clause-read : goal.returns-in-Err-Fault-clause-read
returns-in-Err-Fault-clause-read g c file e = refl

pub returns-in-Err-At-clause-read : goal.returns-in-Err-At-clause-read
returns-in-Err-At-clause-read g c file e =
    let i = c.pictures.invariant in
    let so_far = i.so_far in
    let names = c.args.tables.now.plan.names in
    let next = subst (λ n. Reads c.pictures.part names (file n) so_far.pictures →
    IsNext (begin_of c.pictures.part) names (file n) so_far.pictures c.next_picture.new.self (Err c.in-Err-At.field-0)) i.name
    (c.in-Err-At.ensures.next file (i.told ∙ e) so_far.pictures) (so_far.reads file e) in
    let last = subst (λ r. IsNext (begin_of c.pictures.part) names (file (name_of c.args.part.now)) so_far.pictures c.next_picture.new.self (Err r)) c.in-Err-At.field-0-is next in
    let told : IsPictures Anywhere names (file (name_of c.args.part.now)) so_far.pictures (Some (c.in-Err-At.line, c.in-Err-At.why)) = rw i.begin at last in
    (refl, (so_far.pictures, told))

pub pictures-preserved : goal.pictures-preserved
pictures-preserved g c =
    let i = c.pictures.invariant in
    let so_far = i.so_far in
    let names = c.args.tables.now.plan.names in
    let r = rules_of c.args.tables.now.times c.args.tables.now.intergreens in
    let k : Terms = terms_of c.args.judge.now in
    let h = so_far.pictures in
    let given = c.in-Ok-true.ensures.given (ap Ok c.in-Ok-true.field-0-test) in
    let p = c.picture.result.now in
    record {
      so_far = record {
        pictures = h ++ p ∷ [];
        stands = rw (c.picture-in-Ok.ensures, ← c.picture.ensures) at (c.show.ensures.stands h so_far.stands);
        found_are = next_within r k h p c.pictures.found.items c.find.new.out.items so_far.found_are
            (λ none. c.in-Ok.ensures.first (sym (stands_count c.pictures.judge h so_far.stands) ∙ none))
            (λ some. (rw (c.of-limits.ensures.times, c.of-limits.ensures.pairs) at (c.in-Ok.ensures.found h so_far.stands some))
            ∙ ap (λ (x : Terms). c.pictures.found.items ++ breaches_after r x (h ++ p ∷ []) (length h - 1)) i.terms);
        reads = λ file e.
            let next = subst (λ n. Reads c.pictures.part names (file n) h → IsNext (begin_of c.pictures.part) names (file n) h c.next_picture.new.self (Ok c.in-Ok-true.field-0)) i.name
            (c.in-Ok-true.ensures.next file (i.told ∙ e) h) (so_far.reads file e) in
            let read = subst (λ b. IsNext (begin_of c.pictures.part) names (file (name_of c.args.part.now)) h c.next_picture.new.self (Ok b)) c.in-Ok-true.field-0-test next in
            subst (λ (q : Picture). Reads c.next_picture.new.self names (file (name_of c.args.part.now)) (h ++ q ∷ [])) (sym c.picture.ensures) read;
      };
      told = c.next_picture.ensures.contents_stay ∙ i.told;
      name = c.next_picture.ensures.name ∙ i.name;
      begin = c.next_picture.ensures.begin ∙ i.begin;
      live = c.in-Ok-true.ensures.live;
      groups = c.show.ensures.groups ∙ i.groups;
      terms = c.show.ensures.terms ∙ i.terms;
      count = omega (arith, c.show.ensures.seconds, i.count, given);
      most = c.in-Ok-true.ensures.at_most (ap Ok c.in-Ok-true.field-0-test);
      later = omega (arith, i.later, c.next_picture.ensures.later);
    }
