use Rattle.std.proofs.Common.{◌≡◌, List, Ok, Err, refl, sym, ap, subst, ◌∙◌}
use Rattle.vap_lex.specs.declared.token.Token.{Token}
use Rattle.vap_ast.specs.Syntax.{Program}
use Rattle.vap_ast.specs.Tree.{program_of}
use Rattle.vap_parse.specs.declared.kind.Reason.{Reason}
use Rattle.vap_parse.specs.Input.{Input, input, Outcome, max_operators}
use Rattle.vap_parse.specs.Descent.{outcome_of, text}
use Rattle.vap_parse.specs.Grammar.{Refuses}
use Rattle.vap_parse.proofs.Exact.{Exact, exact, accepted}
use Rattle.vap_parse.proofs.Keeps.{parsed}
use Rattle.vap_parse.proofs.program.parse.Goals as goal

pub returns-in-Ok-clause-tree : goal.returns-in-Ok-clause-tree
unfolding outcome_of
returns-in-Ok-clause-tree c =
    let start : c.new-left.result ≡ input c.args.tokens.now max_operators = rw c.as_slice-all.ensures.items at c.new-left.ensures in
    let e : outcome_of c.args.tokens.now ≡ Ok (program_of c.in-Ok.tree, c.text.new.tokens) = ap text (sym start) ∙ c.in-Ok.ensures in
    subst (λ (o : Outcome Program). Exact c.args.tokens.now o) e (exact c.args.tokens.now)

pub returns-in-Ok-clause-parsed : goal.returns-in-Ok-clause-parsed
returns-in-Ok-clause-parsed c = λ most lines. parsed most c.args.tokens.now (program_of c.in-Ok.tree) lines (returns-in-Ok-clause-tree c)

-- what the parser refuses, where the program was refused
refused : (ts : List Token) (i j : Input) (why : Reason) → i ≡ input ts max_operators → text i ≡ Err (why, j.rest) → outcome_of ts ≡ Err (why, j.rest)
unfolding outcome_of
refused ts i j why is e = ap text (sym is) ∙ e

pub returns-in-Err-Refused-clause-only : goal.returns-in-Err-Refused-clause-only
returns-in-Err-Refused-clause-only c = λ p s.
    let start : c.new-left.result ≡ input c.args.tokens.now max_operators = rw c.as_slice-all.ensures.items at c.new-left.ensures in
    let stopped : text c.new-left.result ≡ Err (c.in-Err-Refused.why, c.text.new.tokens.rest) = rw c.in-Err-Refused.field-0-is at c.in-Err-Refused.ensures in
    let e = refused c.args.tokens.now c.new-left.result c.text.new.tokens c.in-Err-Refused.why start stopped in
    absurd (let read = accepted c.args.tokens.now p s in cc)

pub returns-in-Err-Refused-clause-refused : goal.returns-in-Err-Refused-clause-refused
returns-in-Err-Refused-clause-refused c =
    let start : c.new-left.result ≡ input c.args.tokens.now max_operators = rw c.as_slice-all.ensures.items at c.new-left.ensures in
    let stopped : text c.new-left.result ≡ Err (c.in-Err-Refused.why, c.text.new.tokens.rest) = rw c.in-Err-Refused.field-0-is at c.in-Err-Refused.ensures in
    let e = refused c.args.tokens.now c.new-left.result c.text.new.tokens c.in-Err-Refused.why start stopped in
    let refuses : Refuses c.args.tokens.now c.in-Err-Refused.why c.text.new.tokens.rest =
    subst (λ (o : Outcome Program). Exact c.args.tokens.now o) e (exact c.args.tokens.now) in
    rw (c.refusal.ensures, c.as_slice-all.ensures.items) (c.rest.result.now, c.in-Err-Refused.why, rw c.rest.ensures refuses, refl)
