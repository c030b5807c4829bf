use Rattle.std.proofs.Common.{◌≡◌, ℕ, ◌+◌, ◌*◌, ◌<◌, [], length, sym, ap, ◌∙◌, subst, arith}
use mathlib.Core.Option.{none}
use Rattle.atomic_table.specs.Table.{Me, step, Allows}
use Rattle.det_board.specs.declared.view.View.{View}
use Rattle.det_board.specs.declared.view.View.TheVariants.{Tick}
use Rattle.det_board.specs.Rule.{Keeps, loads_after, loads_of, owned_of, dealt_of, ReadsRears, ReadsFronts}
use Rattle.det_board.proofs.Allowed.{read_rears_allows, read_fronts_allows}
use Rattle.det_board.proofs.Reading.{after_load, loads_one}
use Rattle.det_board.proofs.tick.load_counts.Goals as goal

pub load-rears-requires : goal.load-rears-requires
load-rears-requires c =
    let z = c.board.inside.table.shared in
    let seat = c.args.seat.now in
    let me = seat.me in
    let w : ℕ = c.fronts_word-word.result + 1 in
    let here : seat.table_id ≡ z.table_id = c.requires.board ∙ sym (ap (λ b. b.table) c.board.view_is) in
    let detectors : c.board.inside.detectors ≡ c.args.board.now.detectors = ap (λ b. b.detectors) c.board.view_is in
    let inside : c.args.place < z.key = let k = c.board.invariant.0 in let r = c.requires.inside in omega arith in (
      here,
      (let i = c.board.invariant.1 in let k = c.board.invariant.0 in omega (arith, c.fronts_word-word.ensures)),
      subst (λ (m : Me (Unit {0}) View). Allows (Keeps z.key) z.table_id.slots seat.id m w (λ n. n) (ReadsRears (step z.table_id.slots w 0 0 none) m))
          (sym c.requires.tick)
          (read_rears_allows z.key z.table_id.slots seat.id (dealt_of me.0) c.args.place w (loads_of me.0) (owned_of me.0)
          (omega (arith, c.fronts_word-word.ensures)) inside),
    )

pub load-fronts-requires : goal.load-fronts-requires
load-fronts-requires c =
    let z = c.board.inside.table.shared in
    let me = c.args.seat.now.me in
    let seat = c.load-rears.new.seat in
    let r = c.load-rears.result in
    let w : ℕ = c.fronts_word-word.result in
    let here : c.args.seat.now.table_id ≡ z.table_id = c.requires.board ∙ sym (ap (λ b. b.table) c.board.view_is) in
    let detectors : c.board.inside.detectors ≡ c.args.board.now.detectors = ap (λ b. b.detectors) c.board.view_is in
    let inside : c.args.place < z.key = let k = c.board.invariant.0 in let q = c.requires.inside in omega arith in
    let L = loads_after (loads_of me.0) (w + 1) r in
    let is : seat.me ≡ (Tick (dealt_of me.0) L (owned_of me.0), []) =
    after_load me seat.me (w + 1) r (dealt_of me.0) (loads_of me.0) (owned_of me.0) c.requires.tick c.load-rears.ensures.2.0 in (
      c.load-rears.ensures.0 ∙ here,
      (let i = c.board.invariant.1 in let k = c.board.invariant.0 in omega (arith, c.fronts_word-word.ensures)),
      subst (λ (m : Me (Unit {0}) View). Allows (Keeps z.key) z.table_id.slots seat.id m w (λ n. n) (ReadsFronts (step z.table_id.slots w 0 0 none) m)) (sym is)
          (read_fronts_allows z.key z.table_id.slots seat.id (dealt_of me.0) c.args.place w L (owned_of me.0)
          (omega (arith, c.fronts_word-word.ensures)) inside),
    )

pub returns : goal.returns
returns c =
    let id = c.args.seat.now.table_id in
    let me = c.args.seat.now.me in
    let mid = c.load-rears.new.seat.me in
    let new = c.load-fronts.new.seat in
    let r = c.load-rears.result in
    let f = c.load-fronts.result in
    let detectors : c.board.inside.detectors ≡ c.args.board.now.detectors = ap (λ b. b.detectors) c.board.view_is in
    let words : c.args.board.now.table.words ≡ 8 * c.args.board.now.detectors =
    ap (λ b. b.table.words) (sym c.board.view_is) ∙ (let i = c.board.invariant.1 in omega arith) in
    let room : 8 * c.args.place + 1 < length (loads_of me.0) = let q = c.requires.room in let p = c.requires.inside in omega arith in
    loads_one id new.table_id me mid new.me c.args.place c.fronts_word-word.result r f c.fronts_word-word.ensures
    (c.load-fronts.ensures.0 ∙ c.load-rears.ensures.0) room c.requires.tick c.load-rears.ensures.2 c.load-fronts.ensures.2
