-- Names spread over trees.
use Rattle.std.proofs.Common.{◌≡◌, ◌≢◌, ℕ, zero, suc, ◌<◌, ◌==◌, Bool, true, false, List, [], ◌∷◌, ◌++◌, length, map, get_or, set, Option, None, Some, refl, sym, ap, ◌∙◌, subst, true≢false, if◌then◌else◌}
use Rattle.std.specs.BTreeMap.{BTreeMap, is_at}
use Rattle.std.specs.Cmp.Lexicographic.{slice_cmp}
use Rattle.std.specs.Map.{lookup}
use Rattle.std.specs.Option.{option_or}
use Rattle.std.specs.Ordering.{nat_cmp}
use Rattle.std.specs.Str.{bytes_eq}
use Rattle.std.proofs.lemmas.Bool.Decides.{Decides-eqb}
use Rattle.std.proofs.lemmas.List.{get_or-map, get_or-set_same, get_or-set_other, map-set, map-append, length-map}
use Rattle.vap_check.specs.declared.kinds.Declared.{Declared}
use Rattle.vap_check.specs.KeptNames.{held_in, held_at, with_declared}
use Rattle.vap_check.specs.Trees.{tree_of}
use Rattle.vap_check.proofs.Agree.{same_is, or_nothing}

abbrev Tree : Type 0
Tree = BTreeMap (List ℕ) Declared

one_none : (xs : List (Option Declared)) (o : Option Declared) (place : ℕ) → o ≡ None → ((place : ℕ) → get_or xs place None ≡ None) →
    get_or (xs ++ o ∷ []) place None ≡ None
one_none [] o zero e h = e
one_none [] o (suc place) e h = refl
one_none (x ∷ xs) o zero e h = h 0
one_none (x ∷ xs) o (suc place) e h = one_none xs o place e (λ j. h (suc j))

-- trees that hold no name, and one more
pub none_more : (trees : List Tree) (tree : Tree) (name : List ℕ) (place : ℕ) → tree.entries ≡ [] → ((place : ℕ) → held_at trees place name ≡ None) →
    held_at (trees ++ tree ∷ []) place name ≡ None
none_more trees tree name place e h =
    ap (λ xs. get_or xs place None) (map-append (λ t. held_in t name) trees (tree ∷ []))
    ∙ one_none (map (λ t. held_in t name) trees) (held_in tree name) place (ap (lookup (is_at (slice_cmp nat_cmp name))) e) h

-- what the tree at a place holds
pub held_there : (trees : List Tree) (place : ℕ) (tree : Tree) (name : List ℕ) → place < length trees → tree ≡ get_or trees place tree →
    held_at trees place name ≡ held_in tree name
held_there trees place tree name lt e = get_or-map (λ t. held_in t name) trees place tree None lt ∙ ap (λ t. held_in t name) (sym e)

-- a name is noted in its tree
pub noted_there : (trees : List Tree) (place : ℕ) (tree more : Tree) (name : List ℕ) (d : Declared) → place < length trees →
    tree ≡ get_or trees place tree → place ≡ tree_of name
    → held_in more ≡ with_declared d (held_in tree) name
    → (λ q. held_at (set trees place more) (tree_of q) q) ≡ with_declared d (λ q. held_at trees (tree_of q) q) name
noted_there trees place tree more name d lt e is step = λ i q. at q (tree_of q == place) refl i
  where
    other : (q : List ℕ) → tree_of q ≢ place → bytes_eq q name ≡ false
    other q apart = (elim (bytes_eq q name) as (λ b. bytes_eq q name ≡ b → b ≡ false) [
      | true ↦ λ same. absurd (apart (ap tree_of (same_is q name same) ∙ sym is))
      | false ↦ λ same. refl
    ]) refl

    at : (q : List ℕ) (b : Bool) → (tree_of q == place) ≡ b
        → held_at (set trees place more) (tree_of q) q ≡ option_or (held_at trees (tree_of q) q) (if bytes_eq q name then Some d else None)
    at q true t =
        let same : tree_of q ≡ place = (Decides-eqb (tree_of q) place).0 t in
        let old = held_there trees place tree q lt e in
        ap (λ n. held_at (set trees place more) n q) same
        ∙ ap (λ xs. get_or xs place None) (map-set (λ t. held_in t q) trees place more)
        ∙ get_or-set_same (map (λ t. held_in t q) trees) place (held_in more q) None (subst (λ n. place < n) (sym (length-map trees (λ t. held_in t q))) lt)
        ∙ ap (λ f. f q) step
        ∙ ap (λ o. option_or o (if bytes_eq q name then Some d else None)) (sym old ∙ ap (λ n. held_at trees n q) (sym same))
    at q false t =
        let apart : tree_of q ≢ place = λ same. true≢false (sym ((Decides-eqb (tree_of q) place).1 same) ∙ t) in
        ap (λ xs. get_or xs (tree_of q) None) (map-set (λ t. held_in t q) trees place more)
        ∙ get_or-set_other (map (λ t. held_in t q) trees) place (tree_of q) (held_in more q) None apart
        ∙ sym (or_nothing (held_at trees (tree_of q) q))
        ∙ ap (λ b. option_or (held_at trees (tree_of q) q) (if b then Some d else None)) (sym (other q apart))
