-- Names that are kept one after another.
use Rattle.std.proofs.Common.{◌≡◌, ℕ, Bool, true, false, List, [], ◌∷◌, ◌++◌, refl, ap, ◌∙◌, if◌then◌else◌}
use Rattle.std.specs.Prelude.{filter}
use Rattle.vap_check.specs.declared.kinds.Declared.{Declared}
use Rattle.vap_check.specs.declared.known.Known.{Known}
use Rattle.vap_check.specs.declared.kinds.Kind.{Kind}
use Rattle.vap_check.specs.Names.{is_kind}
use Rattle.vap_check.specs.KeptNames.{Declarations, of_kind, kind_in, with_all, with_declared}
use Rattle.vap_check.specs.UpTo.{UpTo, with_name_up_to, with_names_up_to}

pub all_on : (a b : List (List ℕ)) (d : Declared) (known : Declarations) → with_all d known (a ++ b) ≡ with_all d (with_all d known a) b
all_on [] b d known = refl
all_on (x ∷ a) b d known = all_on a b d (with_declared d known x)

up_to_on : (a b : List (List ℕ)) (u : UpTo) → with_names_up_to u (a ++ b) ≡ with_names_up_to (with_names_up_to u a) b
up_to_on [] b u = refl
up_to_on (x ∷ a) b u = up_to_on a b (with_name_up_to u x)

filter_on : (f : List ℕ → Bool) (a b : List (List ℕ)) → filter f (a ++ b) ≡ filter f a ++ filter f b
filter_on f [] b = refl
filter_on f (x ∷ a) b = elim (f x) as (λ c. (if c then x ∷ filter f (a ++ b) else filter f (a ++ b)) ≡ (if c then x ∷ filter f a else filter f a) ++
    filter f b) [
      | true ↦ ap (λ (ns : List (List ℕ)). x ∷ ns) (filter_on f a b)
      | false ↦ filter_on f a b
    ]

pub wanted_on : (a b : List (List ℕ)) (u : UpTo) (k : Known) (wanted : Kind) →
    with_names_up_to u (of_kind k wanted (a ++ b)) ≡ with_names_up_to (with_names_up_to u (of_kind k wanted a)) (of_kind k wanted b)
wanted_on a b u k wanted =
    let f = λ (n : List ℕ). is_kind wanted (kind_in k n) in
    ap (with_names_up_to u) (filter_on f a b) ∙ up_to_on (of_kind k wanted a) (of_kind k wanted b) u
