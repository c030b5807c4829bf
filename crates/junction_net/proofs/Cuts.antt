-- The parts of a text, as cuts give them one after another.
use Rattle.std.proofs.Common.{◌≡◌, ◌∙◌, ℕ, ◌<◌, ◌==◌, ◌&&◌, Bool, true, false, not, List, [], ◌∷◌, length, refl, sym, ap, arith, Option, Some, None, if◌then◌else◌, nat_eq, ne_eqb}
use Rattle.std.specs.Option.{option_map}
use Rattle.std.specs.List.{slice_split, onto_first, list_all}
use Rattle.std.specs.Prelude.{cond}
use Rattle.std.proofs.lemmas.Bool.{eqb-true, and_right}
use Rattle.sig_types.specs.Text.{cut_at, lines_of_parts, fed_lines}
use Rattle.junction_net.specs.List.{is_name_byte, is_file_name, are_file_names, names_in, names_of, JobWords}

-- a cut, and the parts after it
abbrev pub Cut : Type 0
Cut = Option (List ℕ × List ℕ)

abbrev pub pair_in : Cut → List ℕ × List ℕ
pair_in None = ([], [])
pair_in (Some p) = p

-- the cut with a byte more before it
abbrev pub with_byte : ℕ → Cut → Cut
with_byte x o = option_map {T = List ℕ × List ℕ} {U = List ℕ × List ℕ} (λ p. (x ∷ p.0, p.1)) o

-- the cut of a text whose first byte is where it is cut, or not
abbrev pub cut_by : Bool → ℕ → List ℕ → Cut → Cut
cut_by t x bs o = if◌then◌else◌ {A = Cut} t (Some ([], bs)) (with_byte x o)

-- the parts of a text, by its first cut
abbrev pub parts_by : ℕ → List ℕ → Cut → List (List ℕ)
parts_by stop bs None = bs ∷ []
parts_by stop bs (Some p) = p.0 ∷ slice_split (λ b. b == stop) p.1

later : (stop x : ℕ) (bs : List ℕ) (o : Cut) → onto_first x (parts_by stop bs o) ≡ parts_by stop (x ∷ bs) (with_byte x o)
later stop x bs None = refl
later stop x bs (Some p) = refl

step : (stop x : ℕ) (bs : List ℕ) (t : Bool) → slice_split (λ b. b == stop) bs ≡ parts_by stop bs (cut_at stop bs) →
    cond t ([] ∷ slice_split (λ b. b == stop) bs) (onto_first x (slice_split (λ b. b == stop) bs)) ≡ parts_by stop (x ∷ bs) (cut_by t x bs (cut_at stop bs))
step stop x bs true before = refl
step stop x bs false before = ap (onto_first x) before ∙ later stop x bs (cut_at stop bs)

pub split_by_cut : (stop : ℕ) (bs : List ℕ) → slice_split (λ b. b == stop) bs ≡ parts_by stop bs (cut_at stop bs)
split_by_cut stop [] = refl
split_by_cut stop (x ∷ bs) = step stop x bs (nat_eq x stop) (split_by_cut stop bs)

pub split_cut : (stop : ℕ) (bs a r : List ℕ) → cut_at stop bs ≡ Some (a, r) → slice_split (λ b. b == stop) bs ≡ a ∷ slice_split (λ b. b == stop) r
split_cut stop bs a r e = split_by_cut stop bs ∙ ap (parts_by stop bs) e

pub split_whole : (stop : ℕ) (bs : List ℕ) → cut_at stop bs ≡ None → slice_split (λ b. b == stop) bs ≡ bs ∷ []
split_whole stop bs e = split_by_cut stop bs ∙ ap (parts_by stop bs) e

-- what follows a cut is shorter than the text
shorter_later : (x : ℕ) (bs a r : List ℕ) (o : Cut) → ((a' r' : List ℕ) → o ≡ Some (a', r') → length r' < length bs) →
    with_byte x o ≡ Some (a, r) → length r < length (x ∷ bs)
shorter_later x bs a r None more e = absurd cc
shorter_later x bs a r (Some p) more e =
    let same : p.1 ≡ r = ap (λ (o : Cut). (pair_in o).1) e in
    omega (arith, more p.0 p.1 refl, ap length same)

shorter_step : (stop x : ℕ) (bs a r : List ℕ) (t : Bool) → ((a' r' : List ℕ) → cut_at stop bs ≡ Some (a', r') → length r' < length bs) →
    cut_by t x bs (cut_at stop bs) ≡ Some (a, r) → length r < length (x ∷ bs)
shorter_step stop x bs a r true more e =
    let same : bs ≡ r = ap (λ (o : Cut). (pair_in o).1) e in
    omega (arith, ap length same)
shorter_step stop x bs a r false more e = shorter_later x bs a r (cut_at stop bs) more e

pub shorter : (stop : ℕ) (bs a r : List ℕ) → cut_at stop bs ≡ Some (a, r) → length r < length bs
shorter stop [] a r e = absurd cc
shorter stop (x ∷ bs) a r e = shorter_step stop x bs a r (nat_eq x stop) (λ a' r' e'. shorter stop bs a' r' e') e

-- there is a part before each list of parts
by_cut : (stop : ℕ) (bs : List ℕ) (o : Cut) → 0 < length (parts_by stop bs o)
by_cut stop bs None = omega arith
by_cut stop bs (Some p) = omega arith

pub some_part : (stop : ℕ) (bs : List ℕ) → 0 < length (slice_split (λ b. b == stop) bs)
some_part stop bs = rw (split_by_cut stop bs) (by_cut stop bs (cut_at stop bs))

pub lines_of_more : (x : List ℕ) (parts : List (List ℕ)) → 0 < length parts → lines_of_parts (x ∷ parts) ≡ x ∷ lines_of_parts parts
lines_of_more x [] lt = absurd (omega arith)
lines_of_more x (y ∷ more) lt = refl

-- what stands before the first line feed is the first line
pub next_line : (bs a r : List ℕ) → cut_at 10 bs ≡ Some (a, r) → fed_lines bs ≡ a ∷ fed_lines r
unfolding fed_lines
next_line bs a r e = ap lines_of_parts (split_cut 10 bs a r e) ∙ lines_of_more a (slice_split (λ b. b == 10) r) (some_part 10 r)

pub last_line : (bs : List ℕ) → cut_at 10 bs ≡ None → 0 < length bs → fed_lines bs ≡ bs ∷ fed_lines []
unfolding fed_lines
last_line [] e lt = absurd (omega arith)
last_line (x ∷ bs) e lt = rw (split_whole 10 (x ∷ bs) e) refl

pub no_lines : (bs : List ℕ) → true ≡ (length bs == 0) → fed_lines bs ≡ []
unfolding fed_lines
no_lines [] e = refl
no_lines (b ∷ bs) e =
    let other : (length (b ∷ bs) == 0) ≡ false = ne_eqb (length (b ∷ bs)) 0 (λ z. omega arith) in
    let both : true ≡ false = e ∙ other in
    absurd cc

-- a text that a space cuts is no name
no_name_step : (x : ℕ) (bs a r : List ℕ) (t : Bool) (o : Cut) → nat_eq x 32 ≡ t → ((a' r' : List ℕ) → o ≡ Some (a', r') → list_all is_name_byte bs ≡ false) →
    cut_by t x bs o ≡ Some (a, r) → (is_name_byte x && list_all is_name_byte bs) ≡ false
no_name_step x bs a r true o is more e = let here : x ≡ 32 = eqb-true x 32 is in rw here refl
no_name_step x bs a r false None is more e = absurd cc
no_name_step x bs a r false (Some p) is more e = and_right (is_name_byte x) (list_all is_name_byte bs) (more p.0 p.1 refl)

no_name_bytes : (bs a r : List ℕ) → cut_at 32 bs ≡ Some (a, r) → list_all is_name_byte bs ≡ false
no_name_bytes [] a r e = absurd cc
no_name_bytes (x ∷ bs) a r e = no_name_step x bs a r (nat_eq x 32) (cut_at 32 bs) refl (λ a' r' e'. no_name_bytes bs a' r' e') e

no_name : (bs a r : List ℕ) → cut_at 32 bs ≡ Some (a, r) → is_file_name bs ≡ false
no_name bs a r e = and_right (not (length bs == 0)) (list_all is_name_byte bs) (no_name_bytes bs a r e)

-- fewer than five parts
pub no_first : (l : List ℕ) → cut_at 32 l ≡ None → names_of l ≡ None
unfolding names_of
no_first l e = ap names_in (split_whole 32 l e)

pub no_second : (l p r : List ℕ) → cut_at 32 l ≡ Some (p, r) → cut_at 32 r ≡ None → names_of l ≡ None
unfolding names_of
no_second l p r e f = ap names_in (split_cut 32 l p r e ∙ ap (λ (ps : List (List ℕ)). p ∷ ps) (split_whole 32 r f))

pub no_third : (l p r q s : List ℕ) → cut_at 32 l ≡ Some (p, r) → cut_at 32 r ≡ Some (q, s) → cut_at 32 s ≡ None → names_of l ≡ None
unfolding names_of
no_third l p r q s e f g =
    ap names_in (split_cut 32 l p r e ∙ ap (λ (ps : List (List ℕ)). p ∷ ps) (split_cut 32 r q s f)
    ∙ ap (λ (ps : List (List ℕ)). p ∷ q ∷ ps) (split_whole 32 s g))

pub no_fourth : (l p r q s t u : List ℕ) → cut_at 32 l ≡ Some (p, r) → cut_at 32 r ≡ Some (q, s) → cut_at 32 s ≡ Some (t, u) → cut_at 32 u ≡ None →
    names_of l ≡ None
unfolding names_of
no_fourth l p r q s t u e f g h =
    ap names_in (split_cut 32 l p r e ∙ ap (λ (ps : List (List ℕ)). p ∷ ps) (split_cut 32 r q s f)
    ∙ ap (λ (ps : List (List ℕ)). p ∷ q ∷ ps) (split_cut 32 s t u g) ∙ ap (λ (ps : List (List ℕ)). p ∷ q ∷ t ∷ ps) (split_whole 32 u h))

-- a first part and four more: they are the names of the line, where they are names
abbrev pub job_by : List ℕ → List ℕ → List ℕ → List ℕ → List ℕ → JobWords
job_by p q t v w = record { program = p; plan = q; times = t; intergreens = v; detectors = w }

abbrev pub checked : JobWords → Bool → Option JobWords
checked job ok = if ok then Some job else None

more_parts : (p q t v x : List ℕ) (parts : List (List ℕ)) → 0 < length parts → names_in (p ∷ q ∷ t ∷ v ∷ x ∷ parts) ≡ None
more_parts p q t v x [] lt = absurd (omega arith)
more_parts p q t v x (y ∷ more) lt = refl

last_part : (p q t v w : List ℕ) (o : Cut) → cut_at 32 w ≡ o →
    names_in (p ∷ q ∷ t ∷ v ∷ slice_split (λ b. b == 32) w) ≡ checked (job_by p q t v w) (are_file_names (job_by p q t v w))
last_part p q t v w None e = ap (λ (ps : List (List ℕ)). names_in (p ∷ q ∷ t ∷ v ∷ ps)) (split_whole 32 w e)
last_part p q t v w (Some c) e =
    let none : are_file_names (job_by p q t v w) ≡ false =
    and_right (is_file_name p && is_file_name q && is_file_name t && is_file_name v) (is_file_name w) (no_name w c.0 c.1 e) in
    ap (λ (ps : List (List ℕ)). names_in (p ∷ q ∷ t ∷ v ∷ ps)) (split_cut 32 w c.0 c.1 e)
    ∙ more_parts p q t v c.0 (slice_split (λ b. b == 32) c.1) (some_part 32 c.1)
    ∙ sym (ap (checked (job_by p q t v w)) none)

pub five : (l p r q s t u v w : List ℕ) → cut_at 32 l ≡ Some (p, r) → cut_at 32 r ≡ Some (q, s) → cut_at 32 s ≡ Some (t, u) → cut_at 32 u ≡ Some (v, w) →
    names_of l ≡ checked (job_by p q t v w) (are_file_names (job_by p q t v w))
unfolding names_of
five l p r q s t u v w e f g h =
    ap names_in (split_cut 32 l p r e ∙ ap (λ (ps : List (List ℕ)). p ∷ ps) (split_cut 32 r q s f)
    ∙ ap (λ (ps : List (List ℕ)). p ∷ q ∷ ps) (split_cut 32 s t u g) ∙ ap (λ (ps : List (List ℕ)). p ∷ q ∷ t ∷ ps) (split_cut 32 u v w h))
    ∙ last_part p q t v w (cut_at 32 w) refl
