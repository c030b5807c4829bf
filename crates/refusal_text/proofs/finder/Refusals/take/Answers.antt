use Rattle.std.proofs.Common.{◌≡◌, ◌∙◌, ℕ, ◌+◌, List, [], ◌∷◌, ◌++◌, length-append, sym, ap, subst}
use Rattle.sig_types.specs.Turns.{History}
use Rattle.sig_tables.specs.SiteRules.{rules_of}
use Rattle.log_judge.specs.declared.find.Terms.{Terms}
use Rattle.log_judge.specs.declared.judge.Judge.{Judge}
use Rattle.log_judge.specs.Stands.{StandsFor, terms_of}
use Rattle.refusal_text.specs.declared.refusal.Refusal.{Refusal}
use Rattle.refusal_text.specs.Kept.{groups_of, records_of}
use Rattle.refusal_text.specs.Refusals.{first_known, known_before, refusals_from, terms_from, told_in}
use Rattle.refusal_text.proofs.Found.{pictures_more, pictures_of, told_more}
use Rattle.refusal_text.proofs.finder.Refusals.take.Goals as goal

pub returns-clause-found : goal.returns-clause-found
unfolding groups_of records_of
returns-clause-found c = λ second from to records is.
    let r = rules_of c.args.times.now c.args.intergreens.now in
    let x = c.args.rec.now in
    let known = known_before r.count second in
    let old = c.args.self.now in
    let judge = c.tell_next.ensures.judge in
    let told : c.tell_next.new.self.found.items ≡ refusals_from r second from to (records ++ x ∷ []) =
    c.in-Ok.ensures.told (known ++ pictures_of records) is.stands
    ∙ ap (λ (xs : List Refusal). xs ++ told_in r (terms_of old.judge) old.first old.from old.to (known ++ pictures_of records) x) is.found
    ∙ ap (λ (k : Terms). refusals_from r second from to records ++ told_in r k old.first old.from old.to (known ++ pictures_of records) x) is.terms
    ∙ ap (λ (n : ℕ). refusals_from r second from to records ++ told_in r (terms_from second) n old.from old.to (known ++ pictures_of records) x) is.first
    ∙ ap (λ (n : ℕ). refusals_from r second from to records ++ told_in r (terms_from second) (first_known second) n old.to (known ++ pictures_of records) x) is.asked.from_is
    ∙ ap (λ (n : ℕ). refusals_from r second from to records ++ told_in r (terms_from second) (first_known second) from n (known ++ pictures_of records) x) is.asked.to_is
    ∙ sym (told_more r (terms_from second) (first_known second) from to known records x) in
    record {
      groups = is.groups ∙ sym c.tell_next.ensures.groups;
      count = length-append records (x ∷ []) ∙ ap (λ (n : ℕ). n + 1) is.count ∙ sym c.tell_next.ensures.records;
      asked = record { from_is = c.tell_next.ensures.from ∙ is.asked.from_is; to_is = c.tell_next.ensures.to ∙ is.asked.to_is };
      terms = c.show.ensures.terms ∙ ap terms_of judge ∙ is.terms;
      stands = subst (λ (h : History). StandsFor c.show.new.self h) (pictures_more known records x)
          (c.show.ensures.stands (known ++ pictures_of records) (subst (λ (j : Judge). StandsFor j (known ++ pictures_of records)) (sym judge) is.stands));
      first = c.tell_next.ensures.first ∙ is.first;
      found = told;
    }
