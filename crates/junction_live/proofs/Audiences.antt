-- What an audience was given, and the watchers after their looks.
use Rattle.std.proofs.Common.{◌≡◌, ◌∙◌, ℕ, ◌≤◌, List, ◌++◌, Option, Result, Ok, Err, drop, length, take, ap, arith}
use Rattle.std.proofs.lemmas.List.{take_all, take-append-le}
use Rattle.std.specs.Prelude.{IfOk}
use Rattle.sig_types.specs.Counts.{Counts}
use Rattle.sig_types.specs.Pass.{Logic}
use Rattle.sig_types.specs.Turns.{History}
use Rattle.controller.specs.Past.{Site, Past}
use Rattle.picture_cell.specs.Sides.{Celled, Publishing, IsPublisherOf}
use Rattle.junction_live.specs.Outcome.{Live, pictures_of}
use Rattle.junction_live.specs.Watch.{with_pictures}

-- a publisher whose list gained pictures is still of its cell
pub still_publisher : (cell : Celled) (before after : Publishing) (pictures : History) → IsPublisherOf cell before →
    after ≡ with_pictures before pictures → IsPublisherOf cell after
still_publisher cell before after pictures of is = (ap (λ (p : Publishing). p.table) is ∙ of.0, ap (λ (p : Publishing). p.groups) is ∙ of.1)

-- the audience of a whole live run was given its pictures
pub given_pictures : {A E : Type 0} (Given : A → History → Type 0) (r : Result A E) (frames : List Counts) (logic : Logic) (site : Site) (past : Past)
    (old new : Option (List ℕ)) → Live Given r frames logic site past old new → IfOk r (λ x. (pictures : History) × Given x pictures)
given_pictures Given (Ok x) frames logic site past old new is = (pictures_of logic site past is.0, is.6)
given_pictures Given (Err fault) frames logic site past old new is = tt

-- what a list is after a slice of the whole of it was written
pub written_back : {A : Type 0} (xs ys : List A) (n : ℕ) → n ≡ length ys → length xs ≡ length ys → take n (xs ++ drop (length xs) ys) ≡ xs
written_back xs ys n size same =
    let most : n ≤ length xs = omega arith in
    let all : length xs ≤ n = omega arith in
    take-append-le n xs (drop (length xs) ys) most ∙ take_all n xs all
