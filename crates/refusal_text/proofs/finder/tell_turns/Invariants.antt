use Rattle.std.proofs.Common.{◌≡◌, ◌++◌, map, take}
use Rattle.sig_types.specs.Turns.{History}
use Rattle.sig_tables.specs.SiteRules.{rules_of}
use Rattle.log_judge.specs.Stands.{StandsFor, seconds_of, terms_of}
use Rattle.refusal_text.specs.Order.{AreUpTo}
use Rattle.refusal_text.specs.Refusals.{turn_of}
use Rattle.refusal_text.proofs.finder.tell_turns.Given as goal

abbrev pub invariant-loop-i : goal.invariant-loop-i
invariant-loop-i l = record {
  told : (h : History) → StandsFor l.judge h →
      l.found.items ≡ l.fn.found.items ++ map (turn_of (rules_of l.times l.intergreens) (terms_of l.judge) h l.picture) (take l.i l.turns);
  order : AreUpTo (seconds_of l.judge) l.fn.found.items → AreUpTo (seconds_of l.judge) l.found.items;
}
