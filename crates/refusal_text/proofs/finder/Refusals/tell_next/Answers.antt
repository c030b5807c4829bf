use Rattle.std.proofs.Common.{◌≡◌, ◌∙◌, ℕ, Bool, true, false, [], ◌++◌, length, sym, ap}
use Rattle.std.specs.Prelude.{if◌then◌else◌}
use Rattle.std.proofs.lemmas.List.{append-nil}
use Rattle.sig_tables.specs.SiteRules.{rules_of}
use Rattle.log_judge.specs.Stands.{StandsFor, groups_of, seconds_of, terms_of}
use Rattle.refusal_text.specs.Refusals.{is_asked, refused_in}
use Rattle.refusal_text.proofs.Ends.{on_ok}
use Rattle.refusal_text.proofs.finder.Refusals.tell_next.Goals as goal

pub returns-then-not-is_asked-clause-told : goal.returns-then-not-is_asked-clause-told
unfolding StandsFor groups_of seconds_of terms_of
returns-then-not-is_asked-clause-told c = λ h s.
    let self = c.args.self.now in
    let no : is_asked c.args.self.now.first c.args.self.now.from c.args.self.now.to (length h) ≡ false =
    ap (λ (n : ℕ). is_asked c.args.self.now.first c.args.self.now.from c.args.self.now.to n) s.seconds ∙ sym c.is_asked.ensures ∙ c.if-not-is_asked.true in
    rw no (sym (append-nil c.args.self.now.found.items))

pub returns-clause-told : goal.returns-clause-told
unfolding StandsFor groups_of seconds_of terms_of
returns-clause-told c =
    on_ok c.tell_second.result _ _ c.tell_second.ensures.told (λ told h s.
    let yes : is_asked c.args.self.now.first c.args.self.now.from c.args.self.now.to (length h) ≡ true =
    ap (λ (n : ℕ). is_asked c.args.self.now.first c.args.self.now.from c.args.self.now.to n) s.seconds ∙ sym c.is_asked.ensures ∙ c.if-not-is_asked.false in
    told h s
    ∙ ap (λ (b : Bool). c.args.self.now.found.items ++ (if b then refused_in (rules_of c.args.times.now c.args.intergreens.now)
    (terms_of c.args.self.now.judge) h c.args.rec.now else [])) (sym yes))
