-- A site, as the program holds it.
use Rattle.site_load.specs.declared.site.SiteTables.{SiteTables}
use Rattle.site_load.specs.declared.site.SiteWords.{SiteWords}
use Rattle.site_load.specs.Loading.{Site, SiteFiles}
use Rattle.sig_tables.specs.SiteRules.{rules_of}

-- the names of the files of a site, as the definitions see them
abbrev pub site_in : SiteWords → SiteFiles
site_in words = record { plan = words.plan.now; times = words.times.now; intergreens = words.intergreens.now }

-- the site by its plan and its tables
abbrev pub site_of_tables : SiteTables → Site
site_of_tables tables = record { plan = tables.plan; rules = rules_of tables.times tables.intergreens }
