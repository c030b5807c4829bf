use Rattle.std.proofs.Common.{◌≡◌, ◌∙◌, ◌<◌, subst, arith, refl}
use Rattle.site_load.specs.Sites.{site_in}
use Rattle.site_load.specs.Loading.{SiteFiles, files_in, intergreens_at}
use Rattle.site_load.specs.Stop.{IsLoadStop}
use Rattle.site_load.proofs.Loads.{among, no_plan, no_times, no_intergreens}
use Rattle.site_load.proofs.site.take_site.Goals as goal

pub returns-in-Err-clause-site : goal.returns-in-Err-clause-site
returns-in-Err-clause-site g c = λ file e. no_plan (site_in c.args.words.now) file c.in-Err.stop (c.in-Err.ensures.plan file e)

pub returns-in-Err-clause-word : goal.returns-in-Err-clause-word
returns-in-Err-clause-word g c =
    let zeroth : 0 < 3 = omega arith in
    among (files_in (site_in c.args.words.now)) c.args.words.now.plan.now c.in-Err.stop (0, zeroth, refl) c.in-Err.ensures.word

pub returns-in-Err-take_times-clause-site : goal.returns-in-Err-take_times-clause-site
returns-in-Err-take_times-clause-site g c = λ file e.
    no_times (site_in c.args.words.now) file c.in-Ok.plan c.in-Err-take_times.stop (c.in-Ok.ensures.plan file e)
    (c.in-Err-take_times.ensures.times file (c.take_plan.ensures.contents_stay ∙ e))

pub returns-in-Err-take_times-clause-word : goal.returns-in-Err-take_times-clause-word
returns-in-Err-take_times-clause-word g c =
    let first : 1 < 3 = omega arith in
    among (files_in (site_in c.args.words.now)) c.args.words.now.times.now c.in-Err-take_times.stop (1, first, refl) c.in-Err-take_times.ensures.word

pub returns-in-Err-take_intergreens-clause-site : goal.returns-in-Err-take_intergreens-clause-site
returns-in-Err-take_intergreens-clause-site g c = λ file e.
    let words : SiteFiles = site_in c.args.words.now in
    let e1 = c.take_plan.ensures.contents_stay ∙ e in
    let e2 = c.take_times.ensures.contents_stay ∙ e1 in
    let plan : c.in-Ok-take_times.taken.0 ≡ c.in-Ok.plan = c.in-Ok-take_times.ensures.plan in
    no_intergreens words file c.in-Ok.plan c.in-Ok-take_times.taken.1 c.in-Err-take_intergreens.stop (c.in-Ok.ensures.plan file e)
    (c.in-Ok-take_times.ensures.times file e1)
    (subst (λ p. IsLoadStop (λ w. w ≡ words.intergreens) c.in-Err-take_intergreens.stop (intergreens_at file words.intergreens p)) plan
    (c.in-Err-take_intergreens.ensures.intergreens file e2))

pub returns-in-Err-take_intergreens-clause-word : goal.returns-in-Err-take_intergreens-clause-word
returns-in-Err-take_intergreens-clause-word g c =
    let second : 2 < 3 = omega arith in
    among (files_in (site_in c.args.words.now)) c.args.words.now.intergreens.now c.in-Err-take_intergreens.stop (2, second, refl)
    c.in-Err-take_intergreens.ensures.word
