use Rattle.std.proofs.Common.{◌≡◌, ◌+◌, [], ℕ, false, true, refl, sym, zero-add, add-zero, rules}
use Rattle.tenth_records.specs.Parts.{is_known, parts_in, unknown_in, unknown_to}
use Rattle.tenth_report.specs.Search.{rules_in}
use Rattle.tenth_report.proofs.Searching.{turned_dark, turned_lit, went_dark}
use Rattle.tenth_report.proofs.search.Search.turn.Goals as goal

pub returns-then-not-is_known-clause-found : goal.returns-then-not-is_known-clause-found
returns-then-not-is_known-clause-found c = λ all unknown es h.
    let r = rules_in c.args.limits.now in
    let dark : is_known c.args.shown ≡ false = search rules in
    let left : ℕ = unknown_to c.args.self.now.at c.args.shown es + unknown_in es in
    let ended = c.in_ok-end_part.ensures.found all unknown (parts_in false es) left (turned_dark r c.args.self.now c.args.shown es all unknown dark h) in
    rw (c.end_part.ensures.at, dark)
    (went_dark r c.end_part.new.self _ 0 c.in_ok-end_part.ensures.closed dark refl refl refl refl refl refl (sym (add-zero _)) all unknown [] _ (parts_in false es)
    left left (sym (zero-add left)) ended)

pub returns-clause-found : goal.returns-clause-found
returns-clause-found c = λ all unknown es h.
    let lit : is_known c.args.shown ≡ true = search rules in
    turned_lit (rules_in c.args.limits.now) c.args.self.now _ c.args.shown es lit refl refl refl refl refl refl refl refl refl
    (λ e. rw e at c.begin-self.ensures) (λ e. rw e at c.begin-self.ensures) all unknown h
