-- A page that is to be written.
use Rattle.std.specs.Prelude.{◌≡◌, ◌≤◌, length}
use Rattle.pua_model.specs.Plan.{groups_in}
use Rattle.sig_types.specs.Rules.{Rules}
use Rattle.sig_tables.specs.SiteRules.{rules_of}
use Rattle.log_protocol.specs.declared.text.Sheet.{Sheet}

-- the rules of its tables
abbrev pub rules_on : Sheet → Rules
rules_on sheet = rules_of sheet.limits.now.times sheet.limits.now.pairs

-- the tables are of the plan's groups
pub record IsSheet (sheet : Sheet) : Type 0 where
  pub times : length sheet.limits.now.times ≡ groups_in sheet.plan.now
  pub pairs : sheet.limits.now.pairs.count ≡ groups_in sheet.plan.now
  pub few : groups_in sheet.plan.now ≤ 64
