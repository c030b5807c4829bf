-- What a record keeps, by the number of groups of its site.
use Rattle.std.specs.Prelude.{◌≡◌, ℕ, ◌<◌, ◌⊎◌, true, length, is_some, All}
use Rattle.std.specs.Option.{ForSome}
use Rattle.sig_types.specs.declared.aspect.Rule.TheVariants.{Conflict, Intergreen}
use Rattle.sig_types.specs.declared.refused.TurnRefusal.{TurnRefusal}
use Rattle.sig_types.specs.declared.record.Record.{Record}

-- a refused turn names groups that there are, and the other group where its rule speaks of two
pub record IsTurn (groups : ℕ) (turn : TurnRefusal) : Type 0 where
  pub group : turn.group.0 < groups
  pub other : ForSome turn.other (λ other. other.0 < groups)
  pub named : (turn.rule ≡ Conflict) ⊎ (turn.rule ≡ Intergreen) → is_some turn.other ≡ true

-- a record has one aspect per group and counts of 64 detectors, and its refused turns name groups that there are
pub record IsRecord (groups : ℕ) (r : Record) : Type 0 where
  pub picture : length r.picture ≡ groups
  pub frame : length r.frame ≡ 64
  pub turns : All (IsTurn groups) r.turns
