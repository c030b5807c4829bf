-- The breaches of a log, while it is read.
use Rattle.std.proofs.Common.{◌≡◌, ◌∙◌, ℕ, List, [], ◌∷◌, length, Option, Some, sym, arith}
use Rattle.sig_io.specs.Outside.{Contents}
use Rattle.sig_types.specs.Rules.{Rules}
use Rattle.sig_types.specs.Turns.{Picture, History}
use Rattle.log_judge.specs.declared.breach.Breach.{Breach}
use Rattle.log_judge.specs.declared.find.Terms.{Terms}
use Rattle.log_judge.specs.declared.judge.Judge.{Judge}
use Rattle.log_judge.specs.Breaches.{breaches, breaches_within}
use Rattle.log_judge.specs.Stands.{StandsFor, seconds_of}
use Rattle.log_judge.proofs.AllFound.{none_of_none, none_within}
use Rattle.log_read.specs.declared.pictures.LogPictures.{LogPictures}
use Rattle.log_read.specs.Answers.{Reads}

-- the pictures that were read so far, with the breaches that are complete within them
pub record SoFar (judge : Judge) (part : LogPictures) (found : List Breach) (told : Option Contents) (name : List ℕ) (names : List (List ℕ)) (r : Rules)
    (k : Terms) : Type 0 where
  pub pictures : List Picture
  pub stands : StandsFor judge pictures
  pub found_are : found ≡ breaches_within r k pictures
  pub reads : (file : Contents) → told ≡ Some file → Reads part names (file name) pictures

-- before the first picture
pub none_read : (judge : Judge) (part : LogPictures) (found : List Breach) (told : Option Contents) (name : List ℕ) (names : List (List ℕ)) (r : Rules)
    (k : Terms) → StandsFor judge [] → found ≡ [] → ((names : List (List ℕ)) (bytes : List ℕ) → Reads part names bytes []) →
    SoFar judge part found told name names r k
none_read judge part found told name names r k stands none unread = record {
  pictures = [];
  stands = stands;
  found_are = none ∙ sym (none_within r k);
  reads = λ file e. unread names (file name);
}

-- a judge knows how many pictures it stands for
pub stands_count : (judge : Judge) (h : History) → StandsFor judge h → length h ≡ seconds_of judge
unfolding StandsFor seconds_of
stands_count judge h stands = stands.seconds

-- a log of no second
pub end_none : (r : Rules) (k : Terms) (h : History) (xs : List Breach) → length h ≡ 0 → xs ≡ breaches_within r k h → xs ≡ breaches r k h
end_none r k [] xs none before = before ∙ none_within r k ∙ sym (none_of_none r k)
end_none r k (p ∷ h) xs none before = absurd (omega (arith, none))
