-- A controller that makes seconds over drawn frames.
use Rattle.std.proofs.Common.{◌≡◌, ◌∙◌, ℕ, zero, suc, ◌+◌, ◌-◌, ◌<◌, ◌≤◌, Bool, true, false, if◌then◌else◌, ◌==◌, ◌%◌, List, [], ◌∷◌, ◌++◌, Option, length, map, replicate, get_or, sum_by, refl, sym, ap, subst, arith, length-append}
use Rattle.std.proofs.lemmas.List.{length-map, length-replicate, take_all}
use Rattle.std.proofs.lemmas.List.Sums.{sum_by-cons}
use Rattle.rand_pcg.specs.Lcg.{Lcg}
use Rattle.sig_io.specs.Draft.{IsCut}
use Rattle.sig_types.specs.Counts.{Counts, Kind, fronts, rears, count_in, count_to, Takes}
use Rattle.sig_types.specs.Pass.{Logic, Store}
use Rattle.sig_types.specs.declared.record.Record.{Record}
use Rattle.sig_types.proofs.Zeros.{nothing, get_or-zeros}
use Rattle.pua_model.specs.Plan.{PlanOf, groups_in}
use Rattle.vap_ast.specs.Syntax.{Program}
use Rattle.vap_code.specs.Codes.{CodeOf}
use Rattle.vap_code.specs.Machine.{machine}
use Rattle.vap_code.specs.Valid.{Valid}
use Rattle.vap_code.specs.Stores.{first_store}
use Rattle.controller.specs.Past.{Site, Past, opening}
use Rattle.controller.specs.Second.{run_from, past_after_second, record_of}
use Rattle.controller.specs.declared.controller.Controller.{Controller}
use Rattle.controller.specs.Controls.{StandsFor, site_of, logic_of, plan_of}
use Rattle.controller.proofs.Runs.{run_from-more, past_of-more}
use Rattle.signal_log.specs.declared.summary.Summary.{Summary}
use Rattle.signal_log.specs.Summary.{StandsFor as SummaryStands, summary_text}
use Rattle.junction_run.specs.Drawn.{words_from, drawn_pair, frame_from, after_frame, after_frames, frames_from, generator_of, drawn}
use Rattle.junction_run.specs.Loading.{Playing, program_at}
use Rattle.junction_run.specs.Played.{playing_of}
use Rattle.junction_run.specs.Programs.{Runs}
use Rattle.junction_run.specs.Records.{records_of}
use Rattle.junction_run.specs.Sampled.{sample_text}
use Rattle.junction_run.proofs.Agree.{records_are, same_records}
use Rattle.junction_run.proofs.Drawing.{length-words, drawn-more, drawn-none}
use Rattle.junction_run.proofs.Logs.{past_at, frames_at, plan_is}

-- ---- drawn frames can be taken

-- as many rears as fronts, and at most one
abbrev IsEven : ℕ × ℕ → Type 0
IsEven c = (c.1 ≡ c.0) × (c.0 ≤ 1)

even_if : (b : Bool) → IsEven (if b then (1, 1) else (0, 0))
even_if true = (refl, omega arith)
even_if false = (refl, omega arith)

even_at : (words : List ℕ) (n p : ℕ) → IsEven (get_or (map drawn_pair words ++ replicate n (0, 0)) p (0, 0))
even_at [] n p = subst IsEven (sym (get_or-zeros n p)) (refl, omega arith)
even_at (w ∷ ws) n zero = even_if (w % 8 == 0)
even_at (w ∷ ws) n (suc p) = even_at ws n p

even_frame : (g : Lcg) (p : ℕ) → IsEven (get_or (frame_from g) p (0, 0))
unfolding frame_from
even_frame g p = even_at (words_from 12 g) 52 p

length_of_frame : (g : Lcg) → length (frame_from g) ≡ 64
unfolding frame_from
length_of_frame g =
    omega (
      arith,
      length-append (map drawn_pair (words_from 12 g)) (replicate 52 (0, 0)),
      length-map (words_from 12 g) drawn_pair,
      length-words 12 g,
      length-replicate 52 nothing,
    )

length_of_frames : (n : ℕ) (g : Lcg) → length (frames_from n g) ≡ n
length_of_frames zero g = refl
length_of_frames (suc n) g = ap suc (length_of_frames n (after_frame g))

pub length_of_drawn : (seed n : ℕ) → length (drawn seed n) ≡ n
unfolding drawn
length_of_drawn seed n = length_of_frames n (generator_of seed)

even_sums : (n : ℕ) (g : Lcg) (d : ℕ) →
    (sum_by (count_in rears d) (frames_from n g) ≡ sum_by (count_in fronts d) (frames_from n g)) × (sum_by (count_in fronts d) (frames_from n g) ≤ n)
even_sums zero g d = (refl, omega arith)
even_sums (suc n) g d =
    let here = even_frame g (d - 1) in
    let rest = even_sums n (after_frame g) d in
    let fs = frames_from n (after_frame g) in (
      omega (arith, sum_by-cons (count_in rears d) (frame_from g) fs, sum_by-cons (count_in fronts d) (frame_from g) fs, here.0, rest.0),
      omega (arith, sum_by-cons (count_in fronts d) (frame_from g) fs, here.1, rest.1),
    )

sums_of_drawn : (seed n d : ℕ) → (sum_by (count_in rears d) (drawn seed n) ≡ sum_by (count_in fronts d) (drawn seed n))
    × (sum_by (count_in fronts d) (drawn seed n) ≤ n)
unfolding drawn
sums_of_drawn seed n d = even_sums n (generator_of seed) d

-- the counts up to the frame that comes
counts_to : (kind : Kind) (seed n d : ℕ) → count_to kind (drawn seed n ++ frame_from (after_frames n (generator_of seed)) ∷ []) d (length (drawn seed n) + 1)
    ≡ sum_by (count_in kind d) (drawn seed (n + 1))
counts_to kind seed n d =
    let size : length (drawn seed n) + 1 ≡ length (drawn seed (n + 1)) = omega (arith, length_of_drawn seed n, length_of_drawn seed (n + 1)) in
    (λ j. count_to kind (sym (drawn-more seed n) j) d (size j))
    ∙ ap (sum_by (count_in kind d)) (take_all (length (drawn seed (n + 1))) (drawn seed (n + 1)) (omega arith))

pub takes_drawn : (seed n : ℕ) → n < 604801 → Takes (drawn seed n) (frame_from (after_frames n (generator_of seed)))
takes_drawn seed n few = record {
  few = omega (arith, length_of_drawn seed n);
  size = length_of_frame (after_frames n (generator_of seed));
  counts = λ d least most.
      let sums = sums_of_drawn seed (n + 1) d in (
        omega (arith, counts_to rears seed n d, counts_to fronts seed n d, sums.0),
        omega (arith, counts_to fronts seed n d, sums.1),
      );
}

-- ---- second by second

length_of_run : (logic : Logic) (site : Site) (past : Past) (fs : List Counts) → length (run_from logic site past fs) ≡ length fs
length_of_run logic site past [] = refl
length_of_run logic site past (f ∷ fs) = ap suc (length_of_run logic site (past_after_second logic site past f) fs)

pub length_of_records : (p : Playing) (fs : List Counts) → length (records_of p fs) ≡ length fs
unfolding records_of
length_of_records p fs = length_of_run p.logic p.site (opening p.site p.store) fs

records_more : (p : Playing) (fs : List Counts) (f : Counts) → records_of p (fs ++ f ∷ []) ≡ records_of p fs ++ record_of p.logic p.site (past_at p fs) f ∷ []
unfolding records_of
records_more p fs f = run_from-more p.logic p.site (opening p.site p.store) fs f

records_none : (p : Playing) → records_of p [] ≡ []
unfolding records_of
records_none p = refl

-- so many seconds were made over drawn frames, and their records added up
pub record Sampled (start now : Controller) (summary : Summary) (seed n : ℕ) : Type 0 where
  pub site : site_of now ≡ site_of start
  pub logic_is : logic_of now ≡ logic_of start
  pub plan : plan_of now ≡ plan_of start
  pub stands : (store : Store) → StandsFor start (opening (site_of start) store) → StandsFor now (past_at (playing_of start store) (drawn seed n))
  pub summed : (store : Store) → StandsFor start (opening (site_of start) store) →
      SummaryStands summary (groups_in (plan_of start)) (records_of (playing_of start store) (drawn seed n))

-- none yet
pub none_sampled : (start : Controller) (summary : Summary) (seed : ℕ) → SummaryStands summary (groups_in (plan_of start)) [] →
    Sampled start start summary seed 0
none_sampled start summary seed empty = record {
  site = refl;
  logic_is = refl;
  plan = refl;
  stands = λ store s. subst (λ fs. StandsFor start (past_at (playing_of start store) fs)) (sym (drawn-none seed)) s;
  summed = λ store s. subst (SummaryStands summary (groups_in (plan_of start)))
      (sym (ap (records_of (playing_of start store)) (drawn-none seed) ∙ records_none (playing_of start store))) empty;
}

-- one second more
pub one_sampled : (start now next : Controller) (summary later : Summary) (seed n : ℕ) (f : Counts) (r : Record) → Sampled start now summary seed n →
    f ≡ frame_from (after_frames n (generator_of seed)) →
    ((past : Past) → StandsFor now past → StandsFor next (past_after_second (logic_of now) (site_of now) past f)) →
    ((past : Past) → StandsFor now past → r ≡ record_of (logic_of now) (site_of now) past f) →
    site_of next ≡ site_of now → logic_of next ≡ logic_of now → plan_of next ≡ plan_of now → length r.picture ≡ groups_in (plan_of next) →
    ((groups : ℕ) (rs : List Record) → SummaryStands summary groups rs → length r.picture ≡ groups → SummaryStands later groups (rs ++ r ∷ [])) →
    Sampled start next later seed (n + 1)
one_sampled start now next summary later seed n f r so drawn_so stands tells site logic plan width adds =
    let frames : List Counts = drawn seed n in
    let longer_by : frames ++ f ∷ [] ≡ drawn seed (n + 1) = ap (λ f. frames ++ f ∷ []) drawn_so ∙ sym (drawn-more seed n) in
    record {
      site = site ∙ so.site;
      logic_is = logic ∙ so.logic_is;
      plan = plan ∙ so.plan;
      stands = λ store s.
          let p : Playing = playing_of start store in
          let is : past_after_second (logic_of now) (site_of now) (past_at p frames) f ≡ past_at p (drawn seed (n + 1))
          = (λ j. past_after_second (so.logic_is j) (so.site j) (past_at p frames) f) ∙ sym (past_of-more p.logic p.site (opening p.site p.store) frames f)
          ∙ ap (past_at p) longer_by in
          subst (λ past. StandsFor next past) is (stands (past_at p frames) (so.stands store s));
      summed = λ store s.
          let p : Playing = playing_of start store in
          let what : r ≡ record_of p.logic p.site (past_at p frames) f
          = tells (past_at p frames) (so.stands store s) ∙ (λ j. record_of (so.logic_is j) (so.site j) (past_at p frames) f) in
          let is : records_of p frames ++ r ∷ [] ≡ records_of p (drawn seed (n + 1))
          = ap (λ r. records_of p frames ++ r ∷ []) what ∙ sym (records_more p frames f) ∙ ap (records_of p) longer_by in
          subst (SummaryStands later (groups_in (plan_of start))) is
          (adds (groups_in (plan_of start)) (records_of p frames) (so.summed store s) (width ∙ ap groups_in (plan ∙ so.plan)));
    }

-- what the next second asks for
pub next_takes : (start now : Controller) (summary : Summary) (seed n : ℕ) (f : Counts) → Sampled start now summary seed n → n < 604801 →
    f ≡ frame_from (after_frames n (generator_of seed)) → (store : Store) → StandsFor start (opening (site_of start) store) →
    (past : Past) × StandsFor now past × Takes past.frames f
next_takes start now summary seed n f so few drawn_so store s =
    let p : Playing = playing_of start store in
    let frames : (past_at p (drawn seed n)).frames ≡ drawn seed n = frames_at p.logic p.site (opening p.site p.store) (drawn seed n) in (
      past_at p (drawn seed n),
      so.stands store s,
      subst (λ fs. Takes fs f) (sym frames) (subst (λ f. Takes (drawn seed n) f) (sym drawn_so) (takes_drawn seed n few)),
    )

pub next_adds : (start now : Controller) (summary : Summary) (seed n : ℕ) (r : Record) → Sampled start now summary seed n → n < 604801 →
    length r.picture ≡ groups_in (plan_of start) → (store : Store) → StandsFor start (opening (site_of start) store) →
    (groups : ℕ) × (rs : List Record) × SummaryStands summary groups rs × (length r.picture ≡ groups) × (length rs < 604801)
next_adds start now summary seed n r so few width store s =
    let p : Playing = playing_of start store in (
      groups_in (plan_of start),
      records_of p (drawn seed n),
      so.summed store s,
      width,
      omega (arith, length_of_records p (drawn seed n), length_of_drawn seed n),
    )

-- ---- the text

-- the summary of a controller with a program's code is the program's sample
pub sample_is : (code : CodeOf) (program : Program) → Runs code program → Valid code → (start : Controller) (plan : PlanOf) (site : Site) (seed seconds : ℕ) →
    logic_of start ≡ machine code → site_of start ≡ site → plan ≡ plan_of start →
    summary_text plan.names seed seconds (records_of (playing_of start (first_store code)) (drawn seed seconds)) ≡ sample_text seed seconds
    (program_at site program)
unfolding sample_text
sample_is code program runs valid start plan site seed seconds logic there planned =
    let names : plan.names ≡ site.plan.names = ap (λ p. p.names) (planned ∙ plan_is start ∙ ap (λ s. s.plan) there) in
    let same : records_of (playing_of start (first_store code)) (drawn seed seconds) ≡ records_of (program_at site program) (drawn seed seconds)
    = records_are code start site (drawn seed seconds) logic there ∙ same_records code program runs valid site (drawn seed seconds) in
    λ j. summary_text (names j) seed seconds (same j)

-- a cut of the same text
pub same_cut : {old new : Option (List ℕ)} {n : ℕ} (text other : List ℕ) → text ≡ other → IsCut old new n text → IsCut old new n other
same_cut {old} {new} {n} text other same cut = subst (λ t. IsCut old new n t) same cut
