use Rattle.std.proofs.Common.{◌≡◌, ◌≤◌, true, length}
use Rattle.std.specs.Prelude.{IfSome}
use Rattle.std.proofs.lemmas.Result.{IfOk-weaker}
use Rattle.pua_model.specs.Plan.{are_apart, are_names}
use Rattle.tenth_records.proofs.Named.{listed, of_found}
use Rattle.tenth_records.proofs.names.names_in.Goals as goal

pub returns-in-Some-clause-some : goal.returns-in-Some-clause-some
returns-in-Some-clause-some c =
    IfOk-weaker c.read_items.result _ (λ found. IfSome found (λ v. 1 ≤ length v.items))
    (λ found names. of_found found _ _ (λ v. 1 ≤ length v.items) (λ v is. (listed c.in-Some.list.now v.items is).1) names) c.read_items.ensures.names

pub returns-in-Some-clause-named : goal.returns-in-Some-clause-named
returns-in-Some-clause-named c =
    IfOk-weaker c.read_items.result _ (λ found. IfSome found (λ v. are_names v.items ≡ true))
    (λ found names. of_found found _ _ (λ v. are_names v.items ≡ true) (λ v is. (listed c.in-Some.list.now v.items is).0.named) names) c.read_items.ensures.names

pub returns-in-Some-clause-apart : goal.returns-in-Some-clause-apart
returns-in-Some-clause-apart c =
    IfOk-weaker c.read_items.result _ (λ found. IfSome found (λ v. are_apart v.items ≡ true))
    (λ found names. of_found found _ _ (λ v. are_apart v.items ≡ true) (λ v is. (listed c.in-Some.list.now v.items is).0.apart) names) c.read_items.ensures.names
