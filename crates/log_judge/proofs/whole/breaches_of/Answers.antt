use Rattle.std.proofs.Common.{◌≡◌, ℕ, ◌+◌, ◌-◌, ◌<◌, ◌≤◌, List, get_or, refl, arith, sym, subst, ap, ◌∙◌, length, [], ◌∷◌, ◌++◌, take, false}
use Rattle.std.proofs.lemmas.List.{take_more, length-take-le}
use Rattle.std.proofs.Math.Seq.{take-length}
use Rattle.sig_types.specs.Turns.{Picture, History}
use Rattle.sig_tables.specs.SiteRules.{rules_of}
use Rattle.log_judge.specs.declared.find.Terms.{Terms}
use Rattle.log_judge.specs.Breaches.{breaches_within, breaches_after, last_breaches}
use Rattle.log_judge.specs.Stands.{StandsFor}
use Rattle.log_judge.proofs.AllFound.{none_within, next_within, all_of}
use Rattle.log_judge.proofs.whole.breaches_of.Goals as goal

-- the first item, whatever stands for one that is missing
first_is : (pictures : List Picture) (p q : Picture) → 1 ≤ length pictures → get_or pictures 0 p ≡ get_or pictures 0 q
first_is [] p q some = absurd (omega (arith, some))
first_is (x ∷ xs) p q some = refl

pub loop-picture-init : goal.loop-picture-init
loop-picture-init c = record {
  groups = c.new-judge.ensures.groups ∙ c.len.ensures.len
      ∙ ap (λ (p : Picture). length p) (c.index-pictures-0.is ∙ first_is c.args.pictures.now c.index-pictures-0.result [] c.requires.some)
      ∙ c.requires.sizes 0 (omega (arith, c.requires.some));
  seconds = c.new-judge.ensures.seconds;
  terms = c.new-judge.ensures.terms;
  stands = c.new-judge.ensures.stands;
  found = c.new-found.ensures.items ∙ sym (none_within (rules_of c.args.limits.now.times c.args.limits.now.pairs) (record { rested = false; tolerance = c.args.tolerance }));
}

pub loop-picture-preserved : goal.loop-picture-preserved
loop-picture-preserved c =
    let r = rules_of c.args.limits.now.times c.args.limits.now.pairs in
    let k : Terms = record { rested = false; tolerance = c.args.tolerance } in
    let i = c.loop-picture.picture-index in
    let h = take i c.args.pictures.now in
    let p = c.picture-item.result in
    let inside : i < length c.args.pictures.now = c.loop-picture-test.true in
    let long : length h ≡ i = length-take-le i c.args.pictures.now (omega (arith, inside)) in
    let step : take (i + 1) c.args.pictures.now ≡ h ++ p ∷ [] =
    take_more c.args.pictures.now i p inside ∙ ap (λ (q : Picture). take i c.args.pictures.now ++ q ∷ []) (sym c.picture-item.is) in
    let inv = c.loop-picture.invariant in
    record {
      groups = c.show.ensures.groups ∙ inv.groups;
      seconds = c.show.ensures.seconds ∙ ap (λ (n : ℕ). n + 1) inv.seconds;
      terms = c.show.ensures.terms ∙ inv.terms;
      stands = subst (λ (x : History). StandsFor c.show.new.self x) (sym step) (c.show.ensures.stands h inv.stands);
      found = next_within r k h p c.loop-picture.found.items c.find.new.out.items inv.found
          (λ none. c.in_ok-find.ensures.first (inv.seconds ∙ sym long ∙ none))
          (λ some. c.in_ok-find.ensures.found h inv.stands some
          ∙ ap (λ (x : Terms). c.loop-picture.found.items ++ breaches_after r x (h ++ p ∷ []) (length h - 1)) inv.terms)
          ∙ ap (λ (x : History). breaches_within r k x) (sym step);
    }

pub returns : goal.returns
returns c =
    let r = rules_of c.args.limits.now.times c.args.limits.now.pairs in
    let k : Terms = record { rested = false; tolerance = c.args.tolerance } in
    let inv = c.loop-picture.invariant in
    let over : c.loop-picture.picture-index ≡ length c.args.pictures.now = omega (arith, c.loop-picture-test.false, c.loop-picture.auto.picture-index-end) in
    let all : take c.loop-picture.picture-index c.args.pictures.now ≡ c.args.pictures.now =
    ap (λ (n : ℕ). take n c.args.pictures.now) over ∙ take-length c.args.pictures.now in
    let stands = subst (λ (x : History). StandsFor c.loop-picture.judge x) all inv.stands in
    all_of r k c.args.pictures.now c.loop-picture.found.items c.find_last.new.out.items
    (inv.found ∙ ap (λ (x : History). breaches_within r k x) all)
    (c.in_ok-find_last.ensures.found c.args.pictures.now stands c.requires.some
    ∙ ap (λ (x : Terms). c.loop-picture.found.items ++ last_breaches r x c.args.pictures.now (length c.args.pictures.now - 1)) inv.terms)
