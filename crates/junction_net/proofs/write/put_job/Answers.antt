use Rattle.std.proofs.Common.{rules, ◌≡◌, ◌∙◌, ◌++◌, ℕ, List, [], OnErr, ap, subst}
use Rattle.std.specs.Fmt.{decimal}
use Rattle.std.specs.Prelude.{codes}
use Rattle.sig_io.specs.Draft.{IsCut}
use Rattle.junction_run.specs.Statuses.{number_of}
use Rattle.junction_net.specs.Jobs.{result_of}
use Rattle.junction_net.specs.Results.{job_text}
use Rattle.junction_net.proofs.Texts.{six}
use Rattle.junction_net.proofs.write.put_job.Goals as goal

pub returns-clause-fault : goal.returns-clause-fault
returns-clause-fault g c =
    let number : List ℕ = c.as_bytes.result.now in
    let status : List ℕ = c.as_bytes-2.result.now in
    let log : List ℕ = c.bytes.result.now in
    let numbered : number ≡ decimal c.args.number = search rules in
    let told : status ≡ decimal (number_of c.args.job.now.status) = search rules in
    let whole : log ≡ c.args.job.now.log.bytes.items = search rules in
    let text : codes "JUNCTION " ++ (number ++ (codes " " ++ (status ++ (codes "\n" ++ (log ++ []))))) ≡ job_text c.args.number (result_of c.args.job.now)
    = six (codes "JUNCTION ") number (codes " ") status (codes "\n") log
    ∙ ap (λ (l : List ℕ). codes "JUNCTION " ++ l ++ codes " " ++ status ++ codes "\n" ++ log) numbered
    ∙ ap (λ (l : List ℕ). codes "JUNCTION " ++ decimal c.args.number ++ codes " " ++ l ++ codes "\n" ++ log) told
    ∙ ap (λ (l : List ℕ). codes "JUNCTION " ++ decimal c.args.number ++ codes " " ++ decimal (number_of c.args.job.now.status) ++ codes "\n" ++ l) whole in
    subst (λ t. OnErr c.put_each.result ((n : ℕ) × IsCut (g.O.Sink.taken c.args.out.now) (g.O.Sink.taken c.put_each.new.sink) n t)) text
    c.put_each.ensures.fault
