use Rattle.std.proofs.Common.{rules, ◌≡◌, ◌∙◌, ◌+◌, ◌*◌, List, replicate, arith, sym, ap}
use Rattle.std.proofs.lemmas.List.{get_or-replicate}
use Rattle.log_judge.specs.Stands as stands
use Rattle.log_protocol.specs.declared.together.Together.{Together}
use Rattle.log_protocol.specs.Came.{unknown_past}
use Rattle.log_protocol.specs.Page.{IsPageOf}
use Rattle.log_protocol.specs.Steps.{no_second, together_at}
use Rattle.log_protocol.proofs.page.Page.new.Goals as goal

pub returns-in-Ok-together-clause-page : goal.returns-in-Ok-together-clause-page
unfolding IsPageOf
returns-in-Ok-together-clause-page c =
    let items : c.in-Ok-together.together.items ≡ replicate {A = Together} 4096 no_second = search rules in
    record {
      judged = c.new-in-Ok-together.ensures.stands;
      terms = c.new-in-Ok-together.ensures.terms;
      long = sym c.new-in-Ok-together.ensures.seconds;
      few = omega arith;
      came = c.in-Ok.ensures (unknown_past 0) (stands.groups_of c.new-in-Ok-together.result) (omega (arith, c.new-in-Ok-together.ensures.groups, c.requires));
      greens = λ g i lt lt'. ap (λ (xs : List Together). together_at xs (64 * g + i)) items
          ∙ get_or-replicate 4096 (64 * g + i) no_second no_second (omega (arith, lt, lt', c.new-in-Ok-together.ensures.groups, c.requires));
    }
