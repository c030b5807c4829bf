use Rattle.std.proofs.Common.{rules, ◌≡◌, ◌∙◌, ◌<◌, length, List, ap, sym, arith, pos, None, get_or, false, Bool}
use Rattle.pua_model.specs.Plan.{PlanOf, InterstageOf, in_stage, interstage_at, no_interstage}
use Rattle.pua_model.specs.Wish.{wished_by}
use Rattle.pua_model.proofs.Lists.{interstage_is}
use Rattle.pua_model.proofs.plan.Plan.interstage_wishes.Goals as goal

pub returns-clause-wishes : goal.returns-clause-wishes
returns-clause-wishes c = λ g below.
    let p : PlanOf = c.args.self.now in
    let w : InterstageOf = c.index-interstage.result.now in
    let items : List InterstageOf = c.self.inside.interstages.items in
    let lt : c.args.i.0 < length items = omega (arith, c.requires.interstage, ap (λ q. length q.interstages) c.self.view_is) in
    let here : interstage_at p c.args.i.0 ≡ w =
    ap (λ q. get_or q.interstages c.args.i.0 no_interstage) (sym c.self.view_is) ∙ interstage_is items c.args.i.0 w lt c.index-interstage.ensures in
    let was : get_or c.stage_wishes.new.out g false ≡ in_stage p (interstage_at p c.args.i.0).from g =
    c.stage_wishes.ensures.wishes g below ∙ ap (λ s. in_stage p s g) (search rules) in
    c.wish_rows.ensures.wishes g (omega (arith, below, c.stage_wishes.ensures.groups))
    ∙ ap (λ (v : InterstageOf). wished_by (get_or v.rows g None) (pos c.args.t) (get_or c.stage_wishes.new.out g false)) (sym here)
    ∙ ap (λ (b : Bool). wished_by (get_or (interstage_at p c.args.i.0).rows g None) (pos c.args.t) b) was
