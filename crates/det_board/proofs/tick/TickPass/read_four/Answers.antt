use Rattle.std.proofs.Common.{ℕ, ◌+◌, ◌*◌, set, sym, ap, ◌∙◌, subst, arith}
use Rattle.sig_types.specs.Counts.{Counts}
use Rattle.det_board.specs.Rule.{loads_of}
use Rattle.det_board.specs.Passes.{Ticking, ReadsFour, IsTicking, GrowsTo, gain_of}
use Rattle.det_board.proofs.Fours.{FourLoads, after_four, grows_four, reads_four, totals_stay, frame_stays}
use Rattle.det_board.proofs.tick.TickPass.read_four.Goals as goal

before_last : (c : goal.After-gain-arg-then-not-are_still-7-1) →
    FourLoads c.self.inside.seat.table_id c.self.inside.seat.me c.self.inside.totals (4 * c.args.four) c.load_counts-first.result c.load_counts-second.result
    c.load_counts-third.result c.load_counts-fourth.result c.load_counts-fourth.new.seat.table_id c.load_counts-fourth.new.seat.me
before_last c = record {
  ids = (c.load_counts-first.new.seat.table_id, c.load_counts-second.new.seat.table_id, c.load_counts-third.new.seat.table_id);
  mes = (c.load_counts-first.new.seat.me, c.load_counts-second.new.seat.me, c.load_counts-third.new.seat.me);
  was = c.self.invariant;
  low = let r = c.requires.inside.1 in omega arith;
  one = c.load_counts-first.ensures;
  two = c.load_counts-second.ensures;
  three = c.load_counts-third.ensures;
  four = c.load_counts-fourth.ensures;
}

after_last : (c : goal.After-gain-then-not-are_still-3) →
    FourLoads c.self.inside.seat.table_id c.self.inside.seat.me c.self.inside.totals (4 * c.args.four) c.load_counts-first.result c.load_counts-second.result
    c.load_counts-third.result c.load_counts-fourth.result c.load_counts-fourth.new.seat.table_id c.load_counts-fourth.new.seat.me
after_last c = record {
  ids = (c.load_counts-first.new.seat.table_id, c.load_counts-second.new.seat.table_id, c.load_counts-third.new.seat.table_id);
  mes = (c.load_counts-first.new.seat.me, c.load_counts-second.new.seat.me, c.load_counts-third.new.seat.me);
  was = c.self.invariant;
  low = let r = c.requires.inside.1 in omega arith;
  one = c.load_counts-first.ensures;
  two = c.load_counts-second.ensures;
  three = c.load_counts-third.ensures;
  four = c.load_counts-fourth.ensures;
}

where_still : (c : goal.Else-not-are_still) →
    FourLoads c.self.inside.seat.table_id c.self.inside.seat.me c.self.inside.totals (4 * c.args.four) c.load_counts-first.result c.load_counts-second.result
    c.load_counts-third.result c.load_counts-fourth.result c.load_counts-fourth.new.seat.table_id c.load_counts-fourth.new.seat.me
where_still c = record {
  ids = (c.load_counts-first.new.seat.table_id, c.load_counts-second.new.seat.table_id, c.load_counts-third.new.seat.table_id);
  mes = (c.load_counts-first.new.seat.me, c.load_counts-second.new.seat.me, c.load_counts-third.new.seat.me);
  was = c.self.invariant;
  low = let r = c.requires.inside.1 in omega arith;
  one = c.load_counts-first.ensures;
  two = c.load_counts-second.ensures;
  three = c.load_counts-third.ensures;
  four = c.load_counts-fourth.ensures;
}

pub gain-requires-then-not-are_still-3-clause-grows : goal.gain-requires-then-not-are_still-3-clause-grows
gain-requires-then-not-are_still-3-clause-grows c =
    let d : ℕ = 4 * c.args.four in
    let one = c.load_counts-first.result in
    let two = c.load_counts-second.result in
    let three = c.load_counts-third.result in
    let four = c.load_counts-fourth.result in
    let T = c.self.inside.totals in
    let seat = c.load_counts-fourth.new.seat in
    let old = c.self.inside.seat in
    let h = before_last c in
    let e1 = c.gain.ensures.totals in
    let e2 = c.gain-then-not-are_still.ensures.totals ∙ ap (λ (t : Counts). set t (d + 1) two) e1 in
    let e3 = c.gain-then-not-are_still-2.ensures.totals ∙ ap (λ (t : Counts). set t (d + 2) three) e2 in
    subst (λ (t : Counts). GrowsTo t (d + 3) four) (sym e3) (grows_four h)

pub invariant_of-self : goal.invariant_of-self
invariant_of-self c =
    let d : ℕ = 4 * c.args.four in
    let one = c.load_counts-first.result in
    let two = c.load_counts-second.result in
    let three = c.load_counts-third.result in
    let four = c.load_counts-fourth.result in
    let T = c.self.inside.totals in
    let seat = c.load_counts-fourth.new.seat in
    let old = c.self.inside.seat in
    let h = after_last c in
    let e1 = c.gain.ensures.totals in
    let e2 = c.gain-then-not-are_still.ensures.totals ∙ ap (λ (t : Counts). set t (d + 1) two) e1 in
    let e3 = c.gain-then-not-are_still-2.ensures.totals ∙ ap (λ (t : Counts). set t (d + 2) three) e2 in
    let e4 = c.gain-then-not-are_still-3.ensures.totals ∙ ap (λ (t : Counts). set t (d + 3) four) e3 in
    subst (λ (t : Counts). IsTicking seat.table_id seat.me t) (sym e4) (after_four h)

pub invariant_of-self-else-not-are_still : goal.invariant_of-self-else-not-are_still
invariant_of-self-else-not-are_still c =
    let d : ℕ = 4 * c.args.four in
    let one = c.load_counts-first.result in
    let two = c.load_counts-second.result in
    let three = c.load_counts-third.result in
    let four = c.load_counts-fourth.result in
    let T = c.self.inside.totals in
    let seat = c.load_counts-fourth.new.seat in
    let old = c.self.inside.seat in
    let h = where_still c in
    subst (λ (t : Counts). IsTicking seat.table_id seat.me t)
    (totals_stay h (sym c.events_of.ensures ∙ c.are_still.ensures c.if-not-are_still.false)) (after_four h)

pub returns-then-not-are_still : goal.returns-then-not-are_still
returns-then-not-are_still c =
    let d : ℕ = 4 * c.args.four in
    let one = c.load_counts-first.result in
    let two = c.load_counts-second.result in
    let three = c.load_counts-third.result in
    let four = c.load_counts-fourth.result in
    let T = c.self.inside.totals in
    let f = c.args.frame.now in
    let seat = c.load_counts-fourth.new.seat in
    let old = c.self.inside.seat in
    let h = after_last c in
    let e1 = c.gain.ensures.totals in
    let e2 = c.gain-then-not-are_still.ensures.totals ∙ ap (λ (t : Counts). set t (d + 1) two) e1 in
    let e3 = c.gain-then-not-are_still-2.ensures.totals ∙ ap (λ (t : Counts). set t (d + 2) three) e2 in
    let f1 = c.gain.ensures.frame in
    let f2 = c.gain-then-not-are_still.ensures.frame ∙ (λ i. set (f1 i) (d + 1) (gain_of (e1 i) (d + 1) two)) in
    let f3 = c.gain-then-not-are_still-2.ensures.frame ∙ (λ i. set (f2 i) (d + 2) (gain_of (e2 i) (d + 2) three)) in
    let f4 = c.gain-then-not-are_still-3.ensures.frame ∙ (λ i. set (f3 i) (d + 3) (gain_of (e3 i) (d + 3) four)) in
    let is : Ticking = record { table = seat.table_id; loads = loads_of seat.me.0 } in
    subst (λ (o : Ticking). ReadsFour d o is f c.gain-then-not-are_still-3.new.frame) c.self.view_is
    (subst (λ (g : Counts). ReadsFour d (record { table = old.table_id; loads = loads_of old.me.0 }) is f g) (sym f4) (reads_four f h))

pub returns-else-not-are_still : goal.returns-else-not-are_still
returns-else-not-are_still c =
    let d : ℕ = 4 * c.args.four in
    let one = c.load_counts-first.result in
    let two = c.load_counts-second.result in
    let three = c.load_counts-third.result in
    let four = c.load_counts-fourth.result in
    let T = c.self.inside.totals in
    let f = c.args.frame.now in
    let seat = c.load_counts-fourth.new.seat in
    let old = c.self.inside.seat in
    let h = where_still c in
    let same = sym c.events_of.ensures ∙ c.are_still.ensures c.if-not-are_still.false in
    let is : Ticking = record { table = seat.table_id; loads = loads_of seat.me.0 } in
    subst (λ (o : Ticking). ReadsFour d o is f f) c.self.view_is
    (subst (λ (g : Counts). ReadsFour d (record { table = old.table_id; loads = loads_of old.me.0 }) is f g) (frame_stays f c.requires.silent h same)
    (reads_four f h))
