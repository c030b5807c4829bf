use Rattle.std.proofs.Common.{◌≡◌, ◌<◌, ◌++◌, [], ℕ, take, Ok, ap, subst, sym, ◌∙◌, List, length, drop, Err, arith}
use Rattle.std.proofs.lemmas.List.{append-nil}
use Rattle.vap_lex.specs.declared.token.Token.{Token}
use Rattle.vap_lex.specs.Piece.{beginning}
use Rattle.vap_lex.specs.Refusal.{IsStuck}
use Rattle.vap_lex.specs.Tokens.{HasTokens, ends, refuses, done, stuck}
use Rattle.vap_lex.proofs.Lines.{line_on, goes, kept_on, lines_on}
use Rattle.vap_lex.proofs.OneAnswer.{never_both}
use Rattle.vap_lex.proofs.scan.tokens.Goals as goal

pub returns-clause-tokens : goal.returns-clause-tokens
returns-clause-tokens c =
    rw c.of.ensures (subst (λ (ts : List Token). HasTokens c.args.bytes.now ts) (append-nil c.loop-place.tokens.items) (c.loop-place.invariant.goes_on [] done (ends c.loop-place.place (omega arith))))

pub returns-in-Err-clause-refused : goal.returns-in-Err-clause-refused
returns-in-Err-clause-refused c =
    let p = c.loop-place.place in
    let lt : p < length c.args.bytes.now = omega arith in
    let is : beginning (drop p c.args.bytes.now) ≡ Err c.in-Err.why = ap beginning (sym c.split_at.ensures.back) ∙ sym c.in-Err.ensures.beginning in
    (p, (c.loop-place.tokens.items ++ [], c.loop-place.invariant.goes_on [] (stuck p c.in-Err.why) (refuses p c.in-Err.why lt is)), c.loop-place.invariant.line)

pub returns-in-Err-clause-only : goal.returns-in-Err-clause-only
returns-in-Err-clause-only c =
    let p = c.loop-place.place in
    let lt : p < length c.args.bytes.now = omega arith in
    let is : beginning (drop p c.args.bytes.now) ≡ Err c.in-Err.why = ap beginning (sym c.split_at.ensures.back) ∙ sym c.in-Err.ensures.beginning in
    let refused : IsStuck c.args.bytes.now p c.in-Err.why = (c.loop-place.tokens.items ++ [], c.loop-place.invariant.goes_on [] (stuck p c.in-Err.why) (refuses p c.in-Err.why lt is)) in
    λ ts has. absurd (never_both c.args.bytes.now ts p c.in-Err.why has refused)

pub loop-place-preserved : goal.loop-place-preserved
loop-place-preserved c =
    let lt : c.loop-place.place < length c.args.bytes.now = omega arith in
    let near : c.loop-place.place < 4294967294 = omega arith in
    let bytes : c.split_at-in-loop-place.result.0.now ≡ take c.in-Ok.found.1 (drop c.loop-place.place c.args.bytes.now) = c.split_at-in-loop-place.ensures.front ∙ ap (λ (bs : List ℕ). take c.in-Ok.found.1 bs) c.split_at.ensures.back in
    let is : beginning (drop c.loop-place.place c.args.bytes.now) ≡ Ok (c.in-Ok.found.0, c.in-Ok.found.1) = ap beginning (sym c.split_at.ensures.back) ∙ sym c.in-Ok.ensures.beginning in
    record {
      within = omega arith;
      line = rw (c.lines_in-line.ensures.count, bytes, c.loop-place.invariant.line) (line_on c.args.bytes.now c.loop-place.place c.in-Ok.found.1);
      at_most = omega arith;
      goes_on = λ ts e r. rw (c.in_ok-note.ensures.noted, c.in_ok-found.ensures.kind, bytes)
          (goes c.args.bytes.now c.loop-place.place c.in-Ok.found.1 c.loop-place.line c.in-Ok.found.0 c.loop-place.tokens.items lt is c.loop-place.invariant.line c.loop-place.invariant.goes_on ts e r);
      kept = rw c.in_ok-note.ensures.noted (kept_on c.loop-place.place c.loop-place.line c.in_ok-found.found c.loop-place.tokens.items c.loop-place.invariant.kept near c.in_ok-found.ensures.unsigned);
      lines = rw c.in_ok-note.ensures.noted (lines_on (length c.args.bytes.now) c.loop-place.place c.loop-place.line c.in_ok-found.found c.loop-place.tokens.items c.loop-place.invariant.lines (omega arith) (omega arith));
    }
