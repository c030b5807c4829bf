-- Counts of one part after another.
use Rattle.std.proofs.Common.{◌≡◌, ◌+◌, List, [], ◌∷◌, ◌++◌, length, arith, length-append}
use Rattle.std.specs.Prelude.{flat_map}
use Rattle.vap_ast.specs.Syntax.{Items}
use Rattle.vap_ast.specs.Sizes.{items_size}
use Rattle.vap_check.specs.Names.{items_labels}
use Rattle.vap_check.specs.Accepted.{bodies_size}

pub length_on : {A : Type 0} (a b : List A) → length (a ++ b) ≡ length a + length b
length_on a b = length-append a b

pub labels_on : (bs : List Items) (body : Items) →
    length (flat_map items_labels (bs ++ body ∷ [])) ≡ length (flat_map items_labels bs) + length (items_labels body)
labels_on [] body = omega (arith, length-append (items_labels body) [])
labels_on (b ∷ bs) body = omega (
  arith,
  labels_on bs body,
  length-append (items_labels b) (flat_map items_labels (bs ++ body ∷ [])),
  length-append (items_labels b) (flat_map items_labels bs),
)

pub size_on : (bs : List Items) (body : Items) → bodies_size (bs ++ body ∷ []) ≡ bodies_size bs + (items_size body + 1)
size_on [] body = omega arith
size_on (b ∷ bs) body = omega (arith, size_on bs body)
