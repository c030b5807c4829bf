use Rattle.std.proofs.Common.{◌∙◌, List, ℕ, ap, refl, sym}
use Rattle.log_svg.specs.Diagram.{diagram_text}
use Rattle.log_svg.specs.LookIn.{look_in}
use Rattle.log_svg.specs.ShownIn.{shown_in}
use Rattle.site_load.specs.Sites.{site_of_tables}
use Rattle.report_judged.specs.SiteCall.{IsTextOf}
use Rattle.report_judged.specs.SiteForm.{asked_in}
use Rattle.report_judged.specs.SiteParts.{look_by}
use Rattle.report_judged.proofs.SiteCalls.{answered, no_write, undrawn}
use Rattle.report_judged.proofs.site_call.draw_at.Goals as goal

pub returns-in-Err-clause-answered : goal.returns-in-Err-clause-answered
returns-in-Err-clause-answered g c file told = λ loaded same.
    undrawn (asked_in c.args.form.now) file (site_of_tables c.args.tables.now) c.in-Err.stop _ _ loaded (c.in-Err.ensures.gathering file told) refl

pub returns-in-Err-clause-write : goal.returns-in-Err-clause-write
returns-in-Err-clause-write g c = λ fault. absurd (no_write c.in-Err.stop c.in-Err.ensures.no_words fault)

pub returns-then-has_groups-clause-answered : goal.returns-then-has_groups-clause-answered
returns-then-has_groups-clause-answered g c file told = λ loaded same.
    let t = c.args.tables.now in
    let form = c.args.form.now in
    let d = c.in-Ok.diagram in
    let text : List ℕ = diagram_text (shown_in d) (look_by t.times c.args.names.now (look_in form.look)) in
    let text_of : IsTextOf (asked_in form) file text = record {
      site = site_of_tables t;
      loaded = loaded;
      diagram = d;
      drawn = c.in-Ok.ensures.gathering file told;
      groups = sym c.deref.ensures.value ∙ c.has_groups.ensures.same c.if-has_groups.true;
      text_is = ap (λ (names : List (List ℕ)). diagram_text (shown_in d) (look_by t.times names (look_in form.look))) same;
    } in
    answered (asked_in form) file text c.draw.result _ _ text_of c.draw.ensures.put

pub returns-clause-answered : goal.returns-clause-answered
returns-clause-answered g c file told = λ loaded same.
    rw c.other_groups.ensures (
      refl,
      (
        refl,
        refl,
        refl,
        record {
          site = site_of_tables c.args.tables.now;
          loaded = loaded;
          diagram = c.in-Ok.diagram;
          drawn = c.in-Ok.ensures.gathering file told;
          groups = λ same. c.has_groups.ensures.other c.if-has_groups.false (c.deref.ensures.value ∙ same);
        },
      ),
    )
