use Rattle.std.proofs.Common.{◌≡◌, ℕ, ◌<◌, ◌≤◌, ◌-◌, List, [], ◌∷◌, length, drop, IsTrue, true, false, nat_eq, ◌↔◌, refl, sym, ap, subst, ◌∙◌, arith, Some}
use Rattle.std.specs.Prelude.{MatchOption}
use Rattle.std.proofs.lemmas.List.{length-drop}
use Rattle.vap_lex.specs.declared.token.Token.{Token}
use Rattle.vap_ast.specs.Syntax.{Program}
use Rattle.vap_parse.specs.declared.kind.Reason.{Reason}
use Rattle.vap_parse.specs.Forms.{fines}
use Rattle.vap_parse.specs.Grammar.{Accepts, Begins, Refuses}
use Rattle.vap_parse.proofs.Exact.{text_begins, early_begins, refused_never_begins}
use Rattle.vap_parse.proofs.stopped.is_beginning.Goals as goal

-- tokens that are refused behind their last one are a beginning
at_end : (ts : List Token) (why : Reason) (rest : List Token) → length rest ≤ 0 → Refuses ts why rest → Begins (fines ts)
at_end ts why [] none refuses = early_begins ts why refuses
at_end ts why (t ∷ rest) none refuses = absurd (omega arith)

-- tokens that are refused at one of them are none
inside : (ts : List Token) (why : Reason) (rest : List Token) → 0 < length rest → Refuses ts why rest → Begins (fines ts) → ⊥
inside ts why [] some refuses begins = absurd (omega arith)
inside ts why (t ∷ rest) some refuses begins = refused_never_begins ts why t rest refuses begins

pub returns-in-None : goal.returns-in-None
returns-in-None c =
    let whole = rw c.in-None.is at c.in_ok-first_refused.ensures.first in
    (λ yes_. text_begins c.args.all.now whole.0 whole.1, λ begins. refl)

pub returns-in-Some : goal.returns-in-Some
returns-in-Some c =
    let refuses = rw c.in-Some.is at c.in_ok-first_refused.ensures.first in
    let longer : 0 < length (drop c.in-Some.refused.at c.args.all.now) =
    omega (arith, c.if-refused-all.true, length-drop c.in-Some.refused.at c.args.all.now) in
    (λ no. absurd (let h : false ≡ true = no in cc), λ begins. absurd (inside c.args.all.now c.in-Some.refused.why _ longer refuses begins))
