-- What a name means, by what is kept of it.
use Rattle.std.proofs.Common.{◌≡◌, ℕ, Bool, true, false, List, [], ◌∷◌, map, Option, None, Some, is_some, refl, sym, ap, ◌∙◌, true≢false, if◌then◌else◌}
use Rattle.std.specs.Prelude.{position}
use Rattle.std.specs.Option.{option_map, option_or}
use Rattle.std.specs.Str.{bytes_eq}
use Rattle.vap_ast.specs.declared.name.Meaning.{Meaning}
use Rattle.vap_ast.specs.declared.name.Meaning.TheVariants as is
use Rattle.vap_ast.specs.Names.{meaning_in}
use Rattle.vap_ast.specs.Syntax.{Constant, Program}
use Rattle.vap_check.specs.declared.kinds.Declared.{Declared}
use Rattle.vap_check.specs.declared.kinds.Declared.TheVariants as what
use Rattle.vap_check.specs.declared.kinds.First.{First}
use Rattle.vap_check.specs.declared.kinds.Names.{Names}
use Rattle.vap_check.specs.KeptNames.{declared_in, KnowsAll}
use Rattle.vap_check.specs.Names.{among, array_names, sub_names, timer_names, timers, variables}
use Rattle.vap_check.specs.Numbers.{consts_of, names_of}
use Rattle.vap_check.proofs.Agree.{first_of, first_constant, chosen, declared_at}
use Rattle.vap_check.proofs.Meanings.{turned, meaning_is}
use Rattle.vap_check.proofs.Usability.{found_at, absent_at}

const_means : (cs : List Constant) (q : List ℕ) →
    meaning_in (map (λ c. record { name = c.name; meaning = is.Constant c.value }) cs) q ≡ option_map (λ (f : First). is.Constant f.value) (first_constant cs q)
const_means [] q = refl
const_means (c ∷ cs) q =
    let later = meaning_in (map (λ (c : Constant). record { name = c.name; meaning = is.Constant c.value }) cs) q in
    ap (λ b. if b then Some (is.Constant c.value) else later) (turned c.name q)
    ∙ (elim (bytes_eq q c.name) as (λ b. (if b then Some (is.Constant c.value) else later) ≡ option_map (λ (f : First). is.Constant f.value)
    (if b then Some (first_of c) else first_constant cs q)) [
      | true ↦ refl
      | false ↦ const_means cs q
    ])

-- what a name means that is declared so, where this is what it means as an array, as a subroutine and as a name that is used
abbrev pub told : Option Declared → (array sub used : Option Meaning) → Option Meaning
told (Some (what.Constant f)) a s u = Some (is.Constant f.value)
told (Some what.Array) a s u = a
told (Some what.Sub) a s u = s
told (Some what.Timer) a s u = u
told None a s u = u

told_chosen : (c : Option First) (in_arrays in_subs in_timers : Bool) (a s u : Option Meaning) → is_some a ≡ in_arrays → is_some s ≡ in_subs
    → option_or (option_map (λ (f : First). is.Constant f.value) c) (option_or a (option_or s u)) ≡ told (chosen c in_arrays in_subs in_timers) a s u
told_chosen (Some f) b d t a s u ha hs = refl
told_chosen None true d t (Some m) s u ha hs = refl
told_chosen None true d t None s u ha hs = absurd (true≢false (sym ha))
told_chosen None false d t (Some m) s u ha hs = absurd (true≢false ha)
told_chosen None false true t None (Some m) u ha hs = refl
told_chosen None false true t None None u ha hs = absurd (true≢false (sym hs))
told_chosen None false false t None (Some m) u ha hs = absurd (true≢false hs)
told_chosen None false false true None None u ha hs = refl
told_chosen None false false false None None u ha hs = refl

-- a name has a number where it is among the names
numbered_there : (f : ℕ → Meaning) (ns : List (List ℕ)) (q : List ℕ) → is_some (option_map f (position (bytes_eq q) ns)) ≡ among ns q
numbered_there f ns q = elim (among ns q) as (λ b. among ns q ≡ b → is_some (option_map f (position (bytes_eq q) ns)) ≡ b) [
  | true ↦ λ e. let r = found_at ns q e in ap (λ o. is_some (option_map f o)) r.2
  | false ↦ λ e. ap (λ o. is_some (option_map f o)) (absent_at ns q e)
] refl

-- what a name of a program means
pub means : (n : Names) (p : Program) → KnowsAll n p → (q : List ℕ) →
    told (declared_in n.known q) (option_map is.Array (position (bytes_eq q) n.arrays.keys)) (option_map is.Sub (position (bytes_eq q) n.subs.keys))
    (option_or (option_map is.Timer (position (bytes_eq q) n.timers.keys)) (option_map is.Variable (position (bytes_eq q) n.variables.keys))) ≡
    meaning_in (names_of p) q
means n p h q =
    let a = option_map is.Array (position (bytes_eq q) (array_names p)) in
    let s = option_map is.Sub (position (bytes_eq q) (sub_names p)) in
    let u = option_or (option_map is.Timer (position (bytes_eq q) (timers p))) (option_map is.Variable (position (bytes_eq q) (variables p))) in
    (λ i. told (declared_in n.known q) (option_map is.Array (position (bytes_eq q) (h.arrays i))) (option_map is.Sub (position (bytes_eq q) (h.subs i)))
    (option_or (option_map is.Timer (position (bytes_eq q) (h.timers i))) (option_map is.Variable (position (bytes_eq q) (h.variables i)))))
    ∙ ap (λ d. told d a s u) (ap (λ f. f q) h.known ∙ declared_at p q)
    ∙ sym (told_chosen (first_constant p.consts q) (among (array_names p) q) (among (sub_names p) q) (among (timer_names p) q) a s u
    (numbered_there is.Array (array_names p) q) (numbered_there is.Sub (sub_names p) q))
    ∙ ap (λ o. option_or o (option_or a (option_or s u))) (sym (const_means p.consts q))
    ∙ sym (meaning_is (consts_of p) (array_names p) (sub_names p) (timers p) (variables p) q)

-- where it is known what is kept of the name
pub means_as : (n : Names) (p : Program) → KnowsAll n p → (q : List ℕ) (d : Option Declared) → declared_in n.known q ≡ d →
    told d (option_map is.Array (position (bytes_eq q) n.arrays.keys)) (option_map is.Sub (position (bytes_eq q) n.subs.keys))
    (option_or (option_map is.Timer (position (bytes_eq q) n.timers.keys)) (option_map is.Variable (position (bytes_eq q) n.variables.keys))) ≡
    meaning_in (names_of p) q
means_as n p h q d e =
    ap (λ o. told o (option_map is.Array (position (bytes_eq q) n.arrays.keys)) (option_map is.Sub (position (bytes_eq q) n.subs.keys))
    (option_or (option_map is.Timer (position (bytes_eq q) n.timers.keys)) (option_map is.Variable (position (bytes_eq q) n.variables.keys)))) (sym e)
    ∙ means n p h q
