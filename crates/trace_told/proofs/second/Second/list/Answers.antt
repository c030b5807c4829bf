use Rattle.std.proofs.Common.{◌∙◌, [], ap, map}
use Rattle.sig_io.proofs.Drafts.{same_put}
use Rattle.sig_types.specs.Recorded.{IsRecord}
use Rattle.pua_model.specs.Plan.{groups_in}
use Rattle.vap_ast.specs.Tree.{program_of}
use Rattle.controller.specs.Controls.{code_of, logic_of, site_of}
use Rattle.controller.specs.Second.{past_after_second}
use Rattle.trace_told.specs.Listing.{column_of}
use Rattle.trace_told.proofs.ListingTold.{anew_is, listing_is, same_columns, same_plan}
use Rattle.trace_told.proofs.second.Second.list.Goals as goal

pub returns-clause-puts : goal.returns-clause-puts
unfolding code_of logic_of
returns-clause-puts g c = λ past stands.
    let ctl = c.args.controller.now in
    let seen = c.second_seen.ensures.seen past stands c.clear.new.self [] c.clear.ensures in
    same_put
    (listing_is (program_of c.args.self.now.checked.now.tree) (map column_of c.args.self.now.kept.items) (code_of ctl) (site_of ctl) past c.args.frame.now
    c.plan.result.now c.events.result.now c.last.result.now c.vm.result.now.store c.vm-2.result.now.store c.as_slice.result.now
    (c.plan.ensures ∙ c.second_seen.ensures.plan ∙ same_plan ctl) (c.events.ensures ∙ seen.events) (c.last.ensures ∙ c.second_seen.ensures.record past stands)
    (c.vm-2.ensures.store (past_after_second (logic_of ctl) (site_of ctl) past c.args.frame.now) (c.second_seen.ensures.stands past stands))
    (anew_is c.vm.result.now.store c.args.self.now.kept.items _ (c.as_slice.ensures.value ∙ c.keep.ensures)) (c.vm.ensures.store past stands))
    c.put_listing.ensures

pub returns-clause-columns : goal.returns-clause-columns
returns-clause-columns g c = ap (map column_of) c.keep.ensures ∙ same_columns c.vm.result.now.store c.args.self.now.kept.items
