use Rattle.std.proofs.Common.{◌≡◌, ◌∙◌, ℕ, List, [], ap, arith, get_or, length, map, subst, sym}
use Rattle.std.specs.Prelude.{All}
use Rattle.std.proofs.lemmas.List.{length-map, length-replicate, get_or-replicate}
use Rattle.trace_lines.specs.Lines.{seconds_with}
use Rattle.trace_lines.specs.Rows.{IsRowWithin, row_in}
use Rattle.trace_lines.specs.Tallied.{row_at}
use Rattle.trace_lines.proofs.tally.Tally.new.Goals as goal

pub returns : goal.returns
returns c =
    let rows = c.in_ok-rows.rows.items in
    let places = length c.args.instrs.now in (
      record {
        rows_are = c.in_ok-rows.ensures.rows;
        within = subst (λ rs. All (IsRowWithin places) rs) (sym c.in_ok-rows.ensures.rows) c.in_ok-rows.ensures.within;
        has_places = c.in_ok-all.ensures.places;
        counted = c.in_ok-all.ensures.none;
        long = omega (
          arith,
          length-map rows row_in,
          ap (λ (xs : List ℕ). length xs) c.in_ok-seconds.ensures,
          length-replicate {A = ℕ} c.len.result 0,
          c.len.ensures,
          c.in_ok-rows.rows.ok.0,
        );
        with_statement = λ r below.
            let none : 0 ≡ seconds_with [] (row_at (map row_in rows) r).statements = omega arith in
            ap (λ (xs : List ℕ). get_or xs r 0) c.in_ok-seconds.ensures
            ∙ get_or-replicate {A = ℕ} c.len.result r 0 0 (omega (arith, below, length-map rows row_in, c.len.ensures, c.in_ok-rows.rows.ok.0)) ∙ none;
      },
      c.in_ok-second.ensures.places,
    )
