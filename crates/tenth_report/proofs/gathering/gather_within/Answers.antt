use Rattle.std.proofs.Common.{◌≡◌, ◌∙◌, ◌++◌, ◌∷◌, [], None, Some, Ok, refl, sym, subst, arith}
use Rattle.sig_io.specs.Outside.{Contents}
use Rattle.log_protocol.specs.Totals.{AreTotalsOf}
use Rattle.tenth_records.specs.Answers.{Follows, IsNext, IsSized, first_of, groups_of, left_told, name_of, next_of, told_end}
use Rattle.tenth_records.specs.Parts.{parts_of}
use Rattle.tenth_records.specs.Record.{entry_then}
use Rattle.tenth_report.proofs.Entries.{read_on, read_whole, refused_on}
use Rattle.tenth_report.proofs.Gapped.{gaps_all, gaps_on, no_gaps}
use Rattle.tenth_report.proofs.Begun.{begun_first, begun_next, gap_later}
use Rattle.tenth_report.proofs.Paging.{all_gathered, all_known, few_known, first_fits, fits_next, inside_known, later_at, none_taken, one_taken, room_at, whole_taken}
use Rattle.tenth_report.proofs.gathering.gather_within.Goals as goal

pub entries-init : goal.entries-init
entries-init g c =
    let s = c.args.gathering.now in
    let new = c.requires.new in
    let groups = groups_of c.args.record.now in
    record {
      past = [];
      taken = none_taken s.pages groups new.pages;
      gaps = λ rest. rw new.pages.at (no_gaps s.gaps rest new.came new.since);
      begun = rw c.requires.none (new.begin, refl, new.since);
      read = λ file e. refl;
      refused = λ file e. refl;
      of = new.pages.of;
      page = new.pages.of.page;
      fits = rw (c.requires.none, c.requires.start) ((λ begin. first_fits s.pages groups begin new.pages), new.pages.at, refl);
      groups = refl;
      told = refl;
      name = refl;
      live = c.requires.live;
      later = omega arith;
    }

pub take-requires-clause-of : goal.take-requires-clause-of
take-requires-clause-of g c = rw c.entries.invariant.page c.entries.invariant.of

pub take-requires-clause-room : goal.take-requires-clause-room
take-requires-clause-room g c =
    let f : Follows c.entries.record c.next_entry.new.self c.in-Ok-Some.entry = rw c.in-Ok-Some.field-0-is at c.in-Ok-Some.ensures.follows in
    room_at c.entries.gathering.pages (first_of c.entries.record) (next_of c.entries.record) c.in-Ok-Some.entry.at c.entries.invariant.fits f.later f.week

pub take-requires-clause-sized : goal.take-requires-clause-sized
take-requires-clause-sized g c =
    let f : Follows c.entries.record c.next_entry.new.self c.in-Ok-Some.entry = rw c.in-Ok-Some.field-0-is at c.in-Ok-Some.ensures.follows in
    subst (λ n. IsSized n c.in-Ok-Some.entry.shown) (c.entries.invariant.groups ∙ sym c.entries.invariant.page) f.sized

pub end_part-requires-clause-of : goal.end_part-requires-clause-of
end_part-requires-clause-of g c = rw c.entries.invariant.page c.entries.invariant.of

pub end_part-requires-clause-few : goal.end_part-requires-clause-few
end_part-requires-clause-few g c = few_known c.entries.gathering.pages (first_of c.entries.record) (next_of c.entries.record) c.entries.invariant.fits

pub end_part-requires-clause-inside : goal.end_part-requires-clause-inside
end_part-requires-clause-inside g c = inside_known c.entries.gathering.pages (first_of c.entries.record) (next_of c.entries.record) c.entries.invariant.fits

pub entries-preserved : goal.entries-preserved
entries-preserved g c =
    let i = c.entries.invariant in
    let e = c.in-Ok-Some.entry in
    let old = c.entries.record in
    let new = c.next_entry.new.self in
    let name = name_of c.args.record.now in
    let f : Follows old new e = rw c.in-Ok-Some.field-0-is at c.in-Ok-Some.ensures.follows in
    let next = λ (file : Contents) (is : g.F.Files.told c.args.files.now ≡ Some file).
    subst (λ n. left_told old (file n) ≡ entry_then e (left_told new (file n))) i.name
    (subst (λ o. IsNext (left_told old (file (name_of old))) (left_told new (file (name_of old))) (Ok o)) c.in-Ok-Some.field-0-is
    (c.in-Ok-Some.ensures.next file (i.told ∙ is))) in
    record {
      past = i.past ++ e ∷ [];
      taken = one_taken c.entries.gathering.pages c.take.new.self.pages i.past e i.taken c.in-Ok.ensures.taken;
      gaps = gaps_on c.entries.gathering.gaps c.take.new.self.gaps i.past e c.entries.gathering.pages.at c.take.new.self.pages.at i.gaps
          (λ all rest h. rw c.in-Ok.ensures.at (c.in-Ok.ensures.gaps all rest c.entries.gathering.pages.at h
          (later_at c.entries.gathering.pages (first_of old) (next_of old) e.at i.fits f.later)
          (gap_later c.entries.gathering (first_of old) (next_of old) i.past e.at i.fits i.begun f.later)));
      begun = rw f.first (begun_next c.entries.gathering c.take.new.self (first_of old) i.past e i.begun c.in-Ok.ensures.begin);
      read = λ file is.
          read_on (left_told c.args.record.now (file name)) (left_told old (file name)) (left_told new (file name)) i.past e (next file is) (i.read file is);
      refused = λ file is.
          refused_on (left_told c.args.record.now (file name)) (left_told old (file name)) (left_told new (file name)) e (next file is) (i.refused file is);
      of = rw i.page at c.in-Ok.ensures.of;
      page = c.in-Ok.ensures.groups ∙ i.page;
      fits = rw (f.first, f.next)
          (fits_next c.entries.gathering.pages c.take.new.self.pages (first_of old) (next_of old) e.at i.fits f.later f.week c.in-Ok.ensures.at c.in-Ok.ensures.fits);
      groups = c.next_entry.ensures.groups ∙ i.groups;
      told = c.next_entry.ensures.contents_stay ∙ i.told;
      name = c.next_entry.ensures.name ∙ i.name;
      live = c.in-Ok-Some.ensures.live;
      later = omega (arith, i.later, c.next_entry.ensures.later);
    }

pub returns-in-Ok-end_part-clause-gathered : goal.returns-in-Ok-end_part-clause-gathered
returns-in-Ok-end_part-clause-gathered g c =
    let i = c.entries.invariant in
    let old = c.entries.record in
    let new = c.next_entry.new.self in
    let name = name_of c.args.record.now in
    let all = i.past ++ [] in
    let t = c.end_part.new.self in
    let whole = c.in-Ok-end_part.ensures.gathered (parts_of all) [] (whole_taken c.entries.gathering.pages all (i.taken [])) in
    record {
      entries = all;
      are = record {
        totals = subst (λ n. AreTotalsOf t.totals n (parts_of all)) (c.in-Ok-end_part.ensures.groups ∙ i.page)
            (all_gathered t all c.in-Ok-end_part.ensures.closed whole);
        known = all_known t all c.in-Ok-end_part.ensures.closed whole;
        first = begun_first c.entries.gathering (first_of old) i.past i.begun;
        unknown = gaps_all c.entries.gathering.gaps all c.entries.gathering.pages.at (i.gaps []);
      };
      read = λ file is.
          let last = subst (λ n. left_told old (file n) ≡ told_end None) i.name
          (subst (λ o. IsNext (left_told old (file (name_of old))) (left_told new (file (name_of old))) (Ok o)) c.in-Ok-None.field-0-is
          (c.in-Ok-None.ensures.next file (i.told ∙ is))).0 in
          read_whole (left_told c.args.record.now (file name)) (left_told old (file name)) i.past last (i.read file is) (i.refused file is);
    }
