use Rattle.std.proofs.Common.{◌≡◌, ◌↔◌, IsTrue, Bool, List, Result, refl, IfOk}
use Rattle.std.specs.declared.alloc.AllocError.{AllocError}
use Rattle.vap_lex.specs.declared.token.Token.{Token}
use Rattle.vap_parse.specs.declared.kind.Kind.{Kind}
use Rattle.vap_parse.specs.declared.kind.Kind.TheVariants as k
use Rattle.program_advice.specs.Probe.{probe}
use Rattle.program_advice.specs.Stands.{CanStand, Stands}
use Rattle.program_advice.proofs.behind.stands.Goals as goal

-- of each kind but the end, what can stand is a token of that kind
by_kind : (kind : Kind) (before : List Token) (r : Result Bool AllocError) → (kind ≡ k.Nothing → ⊥) →
    IfOk r (λ can. IsTrue can ↔ CanStand before (probe kind)) → IfOk r (λ can. IsTrue can ↔ Stands before kind)
by_kind k.Nothing before r some can = absurd (some refl)
by_kind _ before r some can = can

pub returns-in-Nothing-clause-stands : goal.returns-in-Nothing-clause-stands
returns-in-Nothing-clause-stands c = rw c.in-Nothing.is (rw c.as_slice.ensures.value at c.is_text.ensures)

pub returns-in-Ok-clause-stands : goal.returns-in-Ok-clause-stands
returns-in-Ok-clause-stands c =
    by_kind c.args.kind c.args.tokens.now.items c.can_stand.result c.in_default.not-Nothing (rw c.in-Ok.ensures at c.can_stand.ensures.can)
