use Rattle.std.proofs.Common.{◌≡◌, ℕ, ◌-◌, ◌≤◌, List, ◌++◌, length, drop, Ok, Err, sym, ap, subst, ◌∙◌, arith}
use Rattle.std.proofs.lemmas.List.{length-append}
use Rattle.std.proofs.Math.Seq.{drop-append_seam}
use Rattle.vap_lex.specs.declared.token.Token.{Token}
use Rattle.vap_ast.specs.Syntax.{Program}
use Rattle.vap_ast.specs.Tree.{program_of}
use Rattle.vap_parse.specs.declared.kind.Reason.{Reason}
use Rattle.vap_parse.specs.Input.{Input, input, Outcome, max_operators}
use Rattle.vap_parse.specs.Descent.{outcome_of, text}
use Rattle.vap_parse.specs.Grammar.{Accepts, Refuses}
use Rattle.vap_parse.proofs.Exact.{Exact, exact}
use Rattle.vap_parse.proofs.stopped.first_refused.Goals as goal

-- what is read is a text
read : (ts : List Token) (i j : Input) (p : Program) → i ≡ input ts max_operators → text i ≡ Ok (p, j) → Accepts ts p
unfolding outcome_of
read ts i j p is e = subst (λ (o : Outcome Program). Exact ts o) (ap text (sym is) ∙ e) (exact ts)

-- where the reading stops the tokens are refused
lost : (ts : List Token) (i j : Input) (why : Reason) → i ≡ input ts max_operators → text i ≡ Err (why, j.rest) → Refuses ts why j.rest
unfolding outcome_of
lost ts i j why is e = subst (λ (o : Outcome Program). Exact ts o) (ap text (sym is) ∙ e) (exact ts)

-- what is refused is the end of the tokens
shorter : (ts rest : List Token) (why : Reason) → Refuses ts why rest → length rest ≤ length ts
shorter ts rest why refuses =
    let parts : length ts ≡ length (refuses.0 ++ rest) = ap length refuses.1 in
    omega (arith, parts, length-append refuses.0 rest)

behind : (ts rest : List Token) (why : Reason) → Refuses ts why rest → rest ≡ drop (length ts - length rest) ts
behind ts rest why refuses =
    let parts : length ts ≡ length (refuses.0 ++ rest) = ap length refuses.1 in
    let before : length ts - length rest ≡ length refuses.0 = omega (arith, parts, length-append refuses.0 rest) in
    sym (ap (λ (n : ℕ). drop n ts) before ∙ ap (λ (s : List Token). drop (length refuses.0) s) refuses.1 ∙ drop-append_seam refuses.0 rest)

pub overflow_sub-result : goal.overflow_sub-result
overflow_sub-result c =
    let stopped : text c.new-left.result ≡ Err (c.in-Err-Refused.why, c.text.new.tokens.rest) = rw c.in-Err-Refused.field-0-is at c.in-Err-Refused.ensures in
    let refuses = lost c.args.all.now c.new-left.result c.text.new.tokens c.in-Err-Refused.why c.new-left.ensures stopped in
    rw c.rest.ensures (shorter c.args.all.now c.text.new.tokens.rest c.in-Err-Refused.why refuses)

pub returns-in-Ok-clause-first : goal.returns-in-Ok-clause-first
returns-in-Ok-clause-first c =
    (program_of c.in-Ok._tree, read c.args.all.now c.new-left.result c.text.new.tokens (program_of c.in-Ok._tree) c.new-left.ensures c.in-Ok.ensures)

pub returns-in-Err-Refused-clause-first : goal.returns-in-Err-Refused-clause-first
returns-in-Err-Refused-clause-first c =
    let stopped : text c.new-left.result ≡ Err (c.in-Err-Refused.why, c.text.new.tokens.rest) = rw c.in-Err-Refused.field-0-is at c.in-Err-Refused.ensures in
    let refuses = lost c.args.all.now c.new-left.result c.text.new.tokens c.in-Err-Refused.why c.new-left.ensures stopped in
    rw c.rest.ensures
    (subst (λ (r : List Token). Refuses c.args.all.now c.in-Err-Refused.why r) (behind c.args.all.now c.text.new.tokens.rest c.in-Err-Refused.why refuses) refuses)
