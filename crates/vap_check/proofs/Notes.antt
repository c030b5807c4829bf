-- A map and a set of names with one more name.
use Rattle.std.proofs.Common.{◌≡◌, ℕ, Bool, true, false, not, ◌||◌, cond, List, Option, None, Some, is_some, refl, sym, ap, ◌∙◌, true≢false, if◌then◌else◌}
use Rattle.std.specs.BTreeMap.{BTreeMap, get, is_at, Updates}
use Rattle.std.specs.BTreeSet.{BTreeSet, contains}
use Rattle.std.specs.BTreeSet as set
use Rattle.std.specs.Cmp.Lexicographic.{slice_cmp}
use Rattle.std.specs.List.{list_any}
use Rattle.std.specs.Option.{option_or}
use Rattle.std.specs.Ordering.{nat_cmp}
use Rattle.std.specs.Str.{bytes_eq}
use Rattle.std.proofs.lemmas.Map.Text.{is_eq-slice_cmp}
use Rattle.vap_check.specs.declared.kinds.Declared.{Declared}
use Rattle.vap_check.specs.KeptNames.{with_declared}
use Rattle.vap_check.specs.Names.{among, with_name}
use Rattle.vap_check.proofs.Meanings.{turned}
use Rattle.vap_check.proofs.Agree.{same_is, with_one, or_nothing}

abbrev Tree : Type 0
Tree = BTreeMap (List ℕ) Declared

nothing : (o : Option Declared) → is_some o ≡ false → o ≡ None
nothing None e = refl
nothing (Some x) e = absurd (true≢false e)

something : (o other : Option Declared) → is_some o ≡ true → o ≡ option_or o other
something None other e = absurd (true≢false (sym e))
something (Some x) other e = refl

-- a name that is nothing becomes this
pub noted : (old new : Tree) (name : List ℕ) (d : Declared) → is_some (get (slice_cmp nat_cmp) old name) ≡ false
    → Updates (slice_cmp nat_cmp) old new name (Some d) → get (slice_cmp nat_cmp) new ≡ with_declared d (get (slice_cmp nat_cmp) old) name
noted old new name d absent u = λ i q. at q i
  where
    go : (q : List ℕ) (b : Bool) → bytes_eq q name ≡ b →
        cond b (Some d) (get (slice_cmp nat_cmp) old q) ≡ option_or (get (slice_cmp nat_cmp) old q) (if b then Some d else None)
    go q true e =
        let gone = ap (get (slice_cmp nat_cmp) old) (same_is q name e) ∙ nothing (get (slice_cmp nat_cmp) old name) absent in
        sym (ap (λ o. option_or o (Some d)) gone)
    go q false e = sym (or_nothing (get (slice_cmp nat_cmp) old q))

    at : (q : List ℕ) → get (slice_cmp nat_cmp) new q ≡ option_or (get (slice_cmp nat_cmp) old q) (if bytes_eq q name then Some d else None)
    at q =
        u.0 q ∙ (λ i. cond (is_eq-slice_cmp name q i) (Some d) (get (slice_cmp nat_cmp) old q))
        ∙ ap (λ b. cond b (Some d) (get (slice_cmp nat_cmp) old q)) (turned name q) ∙ go q (bytes_eq q name) refl

-- a name that is something stays that
pub kept : (old : Tree) (name : List ℕ) (d : Declared) → is_some (get (slice_cmp nat_cmp) old name) ≡ true
    → get (slice_cmp nat_cmp) old ≡ with_declared d (get (slice_cmp nat_cmp) old) name
kept old name d there = λ i q. go q (bytes_eq q name) refl i
  where
    go : (q : List ℕ) (b : Bool) → bytes_eq q name ≡ b → get (slice_cmp nat_cmp) old q ≡ option_or (get (slice_cmp nat_cmp) old q) (if b then Some d else None)
    go q true e = something (get (slice_cmp nat_cmp) old q) (Some d) (ap (λ x. is_some (get (slice_cmp nat_cmp) old x)) (same_is q name e) ∙ there)
    go q false e = sym (or_nothing (get (slice_cmp nat_cmp) old q))

-- a name that is something gets it again after something else stood there
pub restored : (old other new : Tree) (name : List ℕ) (d first : Declared) → get (slice_cmp nat_cmp) old name ≡ Some first
    → Updates (slice_cmp nat_cmp) old other name (Some d) → Updates (slice_cmp nat_cmp) other new name (Some first)
    → get (slice_cmp nat_cmp) new ≡ with_declared d (get (slice_cmp nat_cmp) old) name
restored old other new name d first was u v = λ i q. at q (bytes_eq q name) refl i
  where
    twice : (b : Bool) (o : Option Declared) → cond b (Some first) (cond b (Some d) o) ≡ (if b then Some first else o)
    twice true o = refl
    twice false o = refl

    same : (q : List ℕ) → is_at (slice_cmp nat_cmp name) q ≡ bytes_eq q name
    same q = (λ i. is_eq-slice_cmp name q i) ∙ turned name q

    both : (q : List ℕ) → get (slice_cmp nat_cmp) new q ≡ (if bytes_eq q name then Some first else get (slice_cmp nat_cmp) old q)
    both q =
        v.0 q ∙ ap (cond (is_at (slice_cmp nat_cmp name) q) (Some first)) (u.0 q)
        ∙ twice (is_at (slice_cmp nat_cmp name) q) (get (slice_cmp nat_cmp) old q)
        ∙ ap (λ b. if b then Some first else get (slice_cmp nat_cmp) old q) (same q)

    at : (q : List ℕ) (b : Bool) → bytes_eq q name ≡ b
        → get (slice_cmp nat_cmp) new q ≡ option_or (get (slice_cmp nat_cmp) old q) (if bytes_eq q name then Some d else None)
    at q true e =
        both q ∙ ap (λ c. if c then Some first else get (slice_cmp nat_cmp) old q) e
        ∙ sym (ap (λ c. option_or (get (slice_cmp nat_cmp) old q) (if c then Some d else None)) e
        ∙ ap (λ o. option_or o (Some d)) (ap (get (slice_cmp nat_cmp) old) (same_is q name e) ∙ was))
    at q false e =
        both q ∙ ap (λ c. if c then Some first else get (slice_cmp nat_cmp) old q) e
        ∙ sym (ap (λ c. option_or (get (slice_cmp nat_cmp) old q) (if c then Some d else None)) e ∙ or_nothing (get (slice_cmp nat_cmp) old q))

-- a set has the names that are among its keys
pub among_set : (s : BTreeSet (List ℕ)) (name : List ℕ) → contains (slice_cmp nat_cmp) s name ≡ among s.keys name
among_set s name = λ i. list_any (λ x. is_eq-slice_cmp name x i) s.keys

-- a set with one more name
pub among_more : (old new : BTreeSet (List ℕ)) (name : List ℕ) → set.Updates (slice_cmp nat_cmp) old new name true →
    among new.keys ≡ among (with_name old.keys name)
among_more old new name u = λ i q. at q i
  where
    either : (b c : Bool) → cond b true c ≡ (b || c)
    either true c = refl
    either false c = refl

    at : (q : List ℕ) → among new.keys q ≡ among (with_name old.keys name) q
    at q =
        sym (among_set new q) ∙ u.0 q ∙ (λ i. cond (is_eq-slice_cmp name q i) true (among_set old q i))
        ∙ either (bytes_eq name q) (among old.keys q) ∙ ap (λ b. b || among old.keys q) (turned name q) ∙ sym (with_one old.keys name q)

-- a name that is not new is there
pub turned_round : (is_new there : Bool) → is_new ≡ not there → not is_new ≡ there
turned_round is_new true e = ap not e
turned_round is_new false e = ap not e
