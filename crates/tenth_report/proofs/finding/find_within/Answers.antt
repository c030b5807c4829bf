use Rattle.std.proofs.Common.{◌≡◌, ◌∙◌, ◌++◌, ◌∷◌, [], None, Some, Ok, refl, sym, subst, arith}
use Rattle.sig_io.specs.Outside.{Contents}
use Rattle.tenth_records.specs.declared.entry.Shown.{Shown}
use Rattle.tenth_records.specs.Answers.{Follows, IsNext, IsSized, first_of, groups_of, left_told, name_of, next_of, told_end}
use Rattle.tenth_records.specs.Parts.{parts_of, unknown_in}
use Rattle.tenth_records.specs.Record.{entry_then}
use Rattle.log_judge.specs.Stands as stands
use Rattle.tenth_report.specs.Search.{AreFound, rules_in}
use Rattle.tenth_report.proofs.Entries.{fits_next, one_taken, read_on, read_whole, refused_on, room_at, whole_taken}
use Rattle.tenth_report.proofs.Searching.{all_found, first_fits, none_taken}
use Rattle.tenth_report.proofs.finding.find_within.Goals as goal

pub entries-init : goal.entries-init
entries-init g c =
    let s = c.args.search.now in
    let new = c.requires.new in
    let groups = groups_of c.args.record.now in
    record {
      past = [];
      taken = none_taken (rules_in c.args.limits.now) s groups s.tolerance new;
      read = λ file e. refl;
      refused = λ file e. refl;
      tables = record {
        times = c.requires.times ∙ sym new.groups_are;
        pairs = c.requires.pairs ∙ sym new.groups_are;
        sized = subst (λ (x : Shown). IsSized (stands.groups_of s.judge) x) (sym new.shown) tt;
        terms = new.terms;
        tolerance = c.requires.tolerance;
      };
      tolerance = refl;
      fits = rw (c.requires.none, c.requires.start) ((λ begin. first_fits s groups s.tolerance begin new), new.at, refl);
      groups = sym c.requires.times;
      told = refl;
      name = refl;
      live = c.requires.live;
      later = omega arith;
    }

pub take-requires-clause-room : goal.take-requires-clause-room
take-requires-clause-room g c =
    let f : Follows c.entries.record c.next_entry.new.self c.in-Ok-Some.entry = rw c.in-Ok-Some.field-0-is at c.in-Ok-Some.ensures.follows in
    room_at c.entries.search (first_of c.entries.record) (next_of c.entries.record) c.in-Ok-Some.entry.at c.entries.invariant.fits f.later f.week

pub entries-preserved : goal.entries-preserved
entries-preserved g c =
    let i = c.entries.invariant in
    let e = c.in-Ok-Some.entry in
    let old = c.entries.record in
    let new = c.next_entry.new.self in
    let name = name_of c.args.record.now in
    let f : Follows old new e = rw c.in-Ok-Some.field-0-is at c.in-Ok-Some.ensures.follows in
    let next = λ (file : Contents) (is : g.F.Files.told c.args.files.now ≡ Some file).
    subst (λ n. left_told old (file n) ≡ entry_then e (left_told new (file n))) i.name
    (subst (λ o. IsNext (left_told old (file (name_of old))) (left_told new (file (name_of old))) (Ok o)) c.in-Ok-Some.field-0-is
    (c.in-Ok-Some.ensures.next file (i.told ∙ is))) in
    record {
      past = i.past ++ e ∷ [];
      taken = one_taken (rules_in c.args.limits.now) c.entries.search c.take.new.self i.past e i.taken c.in-Ok.ensures.taken;
      read = λ file is.
          read_on (left_told c.args.record.now (file name)) (left_told old (file name)) (left_told new (file name)) i.past e (next file is) (i.read file is);
      refused = λ file is.
          refused_on (left_told c.args.record.now (file name)) (left_told old (file name)) (left_told new (file name)) e (next file is) (i.refused file is);
      tables = c.in-Ok.ensures.tables;
      tolerance = c.take.ensures.tolerance ∙ i.tolerance;
      fits = rw (f.first, f.next)
          (fits_next c.entries.search c.take.new.self (first_of old) (next_of old) e.at i.fits f.later f.week c.in-Ok.ensures.at c.in-Ok.ensures.fits);
      groups = c.next_entry.ensures.groups ∙ i.groups;
      told = c.next_entry.ensures.contents_stay ∙ i.told;
      name = c.next_entry.ensures.name ∙ i.name;
      live = c.in-Ok-Some.ensures.live;
      later = omega (arith, i.later, c.next_entry.ensures.later);
    }

pub returns-in-Ok-end_part-clause-found : goal.returns-in-Ok-end_part-clause-found
returns-in-Ok-end_part-clause-found g c =
    let i = c.entries.invariant in
    let old = c.entries.record in
    let new = c.next_entry.new.self in
    let name = name_of c.args.record.now in
    let r = rules_in c.args.limits.now in
    let all = i.past ++ [] in
    let found = c.in-Ok-end_part.ensures.found (parts_of all) (unknown_in all) [] 0 (whole_taken r c.entries.search all (i.taken [])) in
    record {
      entries = all;
      are = subst (λ n. AreFound r n all c.end_part.new.self.found) (c.end_part.ensures.tolerance ∙ i.tolerance)
          (all_found r c.end_part.new.self all 0 c.in-Ok-end_part.ensures.closed refl found);
      read = λ file is.
          let last = subst (λ n. left_told old (file n) ≡ told_end None) i.name
          (subst (λ o. IsNext (left_told old (file (name_of old))) (left_told new (file (name_of old))) (Ok o)) c.in-Ok-None.field-0-is
          (c.in-Ok-None.ensures.next file (i.told ∙ is))).0 in
          read_whole (left_told c.args.record.now (file name)) (left_told old (file name)) i.past last (i.read file is) (i.refused file is);
    }
