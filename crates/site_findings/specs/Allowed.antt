-- Warnings that are allowed, so that they are not told.
use Rattle.std.specs.Prelude.{◌≡◌, ◌==◌, ℕ, Bool, false, not, ◌&&◌, if◌then◌else◌, List, [], ◌∷◌, length, codes, filter, Option, Some, None}
use Rattle.std.specs.List.{list_all, list_any, slice_split}
use Rattle.std.specs.Str.{bytes_eq}
use Rattle.sig_types.specs.Text.{cut_at, is_digit, is_letter, same_name}
use Rattle.pua_model.specs.Plan.{PlanOf}
use Rattle.site_findings.specs.declared.finding.Examined.{Examined}
use Rattle.site_findings.specs.declared.finding.Finding.{Finding}
use Rattle.site_findings.specs.declared.finding.Told.{Told}
use Rattle.site_findings.specs.declared.finding.Told.TheVariants.{Refused, Unread, NotJudged, Warned}
use Rattle.site_findings.specs.Warnings.{warning_name, warning_text}

-- a byte that parts words
abbrev pub parts_words : ℕ → Bool
parts_words b = not (is_letter b) && not (is_digit b)

-- one of the words of a sentence is this text, whatever its case
abbrev pub is_among : List ℕ → List ℕ → Bool
is_among sentence word = list_any (λ w. same_name word w) (slice_split parts_words sentence)

-- a sentence has this word; no sentence has an empty one
abbrev pub has_word : List ℕ → List ℕ → Bool
has_word sentence word = not (length word == 0) && is_among sentence word

-- a sentence has each of these words, which commas part
abbrev pub has_words : List ℕ → List ℕ → Bool
has_words sentence subject = list_all (λ word. has_word sentence word) (slice_split (λ b. b == 44) subject)

-- a name, or a name and words, allow a warning with this name and this sentence
abbrev pub allows_cut : Option (List ℕ × List ℕ) → List ℕ → List ℕ → List ℕ → Bool
allows_cut None text name sentence = same_name text name
allows_cut (Some cut) text name sentence = same_name cut.0 name && has_words sentence cut.1

-- WORD, or WORD:SUBJECT, allows a warning with this name and this sentence
unfoldable pub allows : List ℕ → List ℕ → List ℕ → Bool
allows text name sentence = allows_cut (cut_at 58 text) text name sentence

-- one of them allows the warning
abbrev pub is_allowed : List (List ℕ) → List ℕ → List ℕ → Bool
is_allowed allowed name sentence = list_any (λ text. allows text name sentence) allowed

-- what is told is a warning that is allowed
abbrev pub is_allowed_told : Option PlanOf → List (List ℕ) → Told → Bool
is_allowed_told plan allowed (Refused refusal) = false
is_allowed_told plan allowed Unread = false
is_allowed_told plan allowed NotJudged = false
is_allowed_told plan allowed (Warned warning) = is_allowed allowed (warning_name warning) (warning_text plan warning)

-- the findings that are told where some warnings are allowed
abbrev pub kept : Option PlanOf → List (List ℕ) → List Finding → List Finding
kept plan allowed findings = filter (λ f. not (is_allowed_told plan allowed f.told)) findings

-- the one has what the other has, less the warnings that are allowed
pub record IsKept (allowed : List (List ℕ)) (old new : Examined) : Type 0 where
  pub findings : new.findings.items ≡ kept old.plan allowed old.findings.items
  pub plan : new.plan ≡ old.plan
  pub worst : new.worst ≡ old.worst
  pub advice : new.advice ≡ old.advice
  pub pua : new.pua ≡ old.pua
  pub times : new.times ≡ old.times
  pub intergreens : new.intergreens ≡ old.intergreens
  pub program : new.program ≡ old.program
  pub detectors : new.detectors ≡ old.detectors

-- what is allowed by the words of a call: each word that follows an `--allow`
abbrev pub allowed_in : List (List ℕ) → List (List ℕ)
allowed_in [] = []
allowed_in (w ∷ []) = []
allowed_in (w ∷ text ∷ words) = if bytes_eq w (codes "--allow") then text ∷ allowed_in words else []

-- the words behind those
abbrev pub behind_allowed : List (List ℕ) → List (List ℕ)
behind_allowed [] = []
behind_allowed (w ∷ []) = w ∷ []
behind_allowed (w ∷ text ∷ words) = if bytes_eq w (codes "--allow") then behind_allowed words else w ∷ text ∷ words
