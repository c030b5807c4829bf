use Rattle.std.proofs.Common.{◌≡◌, ◌∙◌, ◌+◌, ap, map, sym}
use Rattle.sig_io.proofs.Drafts.{nothing, same_put}
use Rattle.vap_ast.specs.Tree.{program_of}
use Rattle.sig_types.specs.declared.record.Record.{Record}
use Rattle.controller.specs.Controls.{code_of, logic_of, site_of}
use Rattle.controller.specs.Past.{Past, next_second}
use Rattle.controller.specs.Second.{past_of}
use Rattle.trace_told.specs.Listing.{column_of}
use Rattle.trace_told.proofs.ListingTold.{next_is, none_told, told_is}
use Rattle.trace_told.proofs.second.SecondTeller.tell.Goals as goal

pub returns-then-last-self-clause-puts : goal.returns-then-last-self-clause-puts
returns-then-last-self-clause-puts g c = λ first frames stands knows.
    let ctl = c.args.controller.now in
    let past : Past = past_of (logic_of ctl) (site_of ctl) first frames in
    let next : next_second past ≡ c.last.result.now.second.0 + 1 = next_is ctl past stands ∙ ap (λ (r : Record). r.second.0 + 1) (sym c.last.ensures) in
    same_put
    (told_is (program_of c.args.self.now.checked.now.tree) (map column_of c.args.self.now.kept.items) c.args.self.now.before c.last.result.now.second.0
    (code_of ctl) (site_of ctl) past c.args.frame.now next c.if-last-self.true)
    (c.list.ensures.puts past stands)

pub returns-else-last-self-clause-puts : goal.returns-else-last-self-clause-puts
returns-else-last-self-clause-puts g c = λ first frames stands knows.
    let ctl = c.args.controller.now in
    let past : Past = past_of (logic_of ctl) (site_of ctl) first frames in
    let next : next_second past ≡ c.last.result.now.second.0 + 1 = next_is ctl past stands ∙ ap (λ (r : Record). r.second.0 + 1) (sym c.last.ensures) in
    same_put
    (none_told (program_of c.args.self.now.checked.now.tree) (map column_of c.args.self.now.kept.items) c.args.self.now.before c.last.result.now.second.0
    (code_of ctl) (site_of ctl) past c.args.frame.now next c.if-last-self.false)
    nothing
