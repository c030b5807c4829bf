use Rattle.std.proofs.Common.{◌≡◌, ℕ, ◌<◌, ◌≤◌, ◌++◌, List, set, sym, ap, ◌∙◌, subst, arith, refl, Option}
use Rattle.std.specs.Prelude.{slice_index_or}
use Rattle.std.specs.Option.{option_to_list}
use Rattle.det_board.specs.Rule.{last_read, fronts_word, rears_word}
use Rattle.det_board.specs.Passes.{Feeding}
use Rattle.det_board.proofs.Closing.{Gathering, gathers_one, closes, read_within, none_left}
use Rattle.det_board.proofs.close.end_board.Goals as goal

pub loop-feeder-preserved : goal.loop-feeder-preserved
loop-feeder-preserved c =
    let i = c.loop-feeder.invariant in
    let x = c.in-Some.feeder in
    let g = c.give_back-own.ensures in
    let cut = c.pop.ensures.items ∙ ap (λ (o : Option Feeding). c.pop.new.self.items ++ option_to_list o) c.in-Some.is in
    let place : c.feeder.inside.place ≡ x.place = ap (λ (f : Feeding). f.place) c.feeder.view_is in
    let low : c.args.board.detectors ≤ 64 = let r = c.detectors-detectors.ensures.range.1 in let d = c.detectors-detectors.ensures.count in omega arith in (
      g.seat.0 ∙ i.0,
      refl,
      subst (λ (l : List (ℕ × ℕ)). Gathering c.args.feeders.items c.pop.new.self.items c.args.board.detectors c.args.tick.loads
          c.give_back-own.new.seat.me l) (sym (c.set.ensures.items ∙ ap (λ (o : ℕ × ℕ). set c.loop-feeder.counts c.feeder.inside.place o) g.counts))
          (gathers_one c.args.board c.args.feeders.items c.loop-feeder.feeders.items c.pop.new.self.items c.args.tick x c.feeder.inside.place
          c.args.tick.loads c.loop-feeder.seat.me c.give_back-own.new.seat.me c.loop-feeder.counts c.requires low i.2 cut place g.place g.seat.1),
    )

pub unread_counts-requires-clause-read : goal.unread_counts-requires-clause-read
unread_counts-requires-clause-read c =
    let i = c.loop-feeder.invariant in
    let low : c.args.board.detectors ≤ 64 = let r = c.detectors-detectors.ensures.range.1 in let d = c.detectors-detectors.ensures.count in omega arith in
    let empty = none_left c.loop-feeder.feeders.items (let e = c.in_default.ensures.cases.0 in omega (arith, c.loop-feeder.feeders.ok.0)) in
    let L = ap (λ t. t.loads) c.tick.view_is in
    let read = subst (λ (l : List (List ℕ)). (d : ℕ) → d < 64 →
    slice_index_or c.tick.inside.totals d (0, 0) ≡ (last_read l (fronts_word d), last_read l (rears_word d))) L c.tick.invariant.read in
    λ d lt. read_within c.args.board c.args.feeders.items c.args.tick c.loop-feeder.seat.me c.tick.inside.totals c.loop-feeder.counts c.requires low
    (subst (λ (l : List Feeding). Gathering c.args.feeders.items l c.args.board.detectors c.args.tick.loads c.loop-feeder.seat.me
    c.loop-feeder.counts) empty i.2) c.apply_rule.ensures read d (let e = c.detectors-detectors.ensures.count in omega arith)

pub returns : goal.returns
returns c =
    let i = c.loop-feeder.invariant in
    let low : c.args.board.detectors ≤ 64 = let r = c.detectors-detectors.ensures.range.1 in let d = c.detectors-detectors.ensures.count in omega arith in
    let empty = none_left c.loop-feeder.feeders.items (let e = c.in_default.ensures.cases.0 in omega (arith, c.loop-feeder.feeders.ok.0)) in
    let L = ap (λ t. t.loads) c.tick.view_is in
    let read = subst (λ (l : List (List ℕ)). (d : ℕ) → d < 64 →
    slice_index_or c.tick.inside.totals d (0, 0) ≡ (last_read l (fronts_word d), last_read l (rears_word d))) L c.tick.invariant.read in
    closes c.args.board c.args.feeders.items c.args.tick c.loop-feeder.seat.me c.tick.inside.totals c.loop-feeder.counts c.unread_counts.result c.requires low
    (subst (λ (l : List Feeding). Gathering c.args.feeders.items l c.args.board.detectors c.args.tick.loads c.loop-feeder.seat.me
    c.loop-feeder.counts) empty i.2) c.apply_rule.ensures read
    c.unread_counts.ensures.size (λ d lt. c.unread_counts.ensures.unread d (let e = c.detectors-detectors.ensures.count in omega arith))
    (λ d le. c.unread_counts.ensures.absent d (let e = c.detectors-detectors.ensures.count in omega arith))
