-- The text of several junctions, and their notes, as they are written one after the other.
use Rattle.std.proofs.Common.{◌≡◌, ◌∙◌, ◌+◌, ◌<◌, ◌≤◌, ℕ, suc, List, [], ◌∷◌, ◌++◌, length, map, take, drop, get_or, Option, refl, sym, ap, subst, arith, append_assoc, take-append-drop}
use Rattle.std.proofs.Math.Seq.{drop-cons}
use Rattle.std.proofs.lemmas.List.{append-nil, drop_all, length-map, length-take-le, map-append, take_all, take_more}
use Rattle.std.specs.List.{flat_map}
use Rattle.std.specs.Io.KnownBytes.{append_known}
use Rattle.sig_io.specs.Draft.{IsCut}
use Rattle.sig_io.proofs.Drafts.{cut_off, cut_more}
use Rattle.sig_io.proofs.Reading.{append_known-twice}
use Rattle.junction_net.specs.declared.jobs.Job.{Job}
use Rattle.junction_net.specs.Jobs.{result_of}
use Rattle.junction_net.specs.Results.{JobResult, job_text, text_from, net_text, net_notes}

text_append : (rs ss : List JobResult) (j : ℕ) → text_from j (rs ++ ss) ≡ text_from j rs ++ text_from (j + length rs) ss
text_append [] ss j = let same : j ≡ j + 0 = omega arith in ap (λ n. text_from n ss) same
text_append (r ∷ rs) ss j =
    let same : j + 1 + length rs ≡ j + suc (length rs) = omega arith in
    ap (λ l. job_text j r ++ l) (text_append rs ss (j + 1))
    ∙ sym (append_assoc (job_text j r) (text_from (j + 1) rs) (text_from (j + 1 + length rs) ss))
    ∙ ap (λ n. (job_text j r ++ text_from (j + 1) rs) ++ text_from n ss) same

-- the results of the first k jobs are k
count_first : (jobs : List Job) (k : ℕ) → k < length jobs → length (map result_of (take k jobs)) ≡ k
count_first jobs k low = length-map (take k jobs) result_of ∙ length-take-le k jobs (omega (arith, low))

-- those before a job, itself, and those after it
split_jobs : (jobs : List Job) (k : ℕ) (job : Job) → k < length jobs → get_or jobs k job ≡ job → jobs ≡ take k jobs ++ job ∷ drop (suc k) jobs
split_jobs jobs k job low here =
    sym (take-append-drop k jobs) ∙ ap (λ (l : List Job). take k jobs ++ l) (drop-cons jobs k job low ∙ ap (λ (j : Job). j ∷ drop (suc k) jobs) here)

split_text : (jobs : List Job) (k : ℕ) (job : Job) → k < length jobs → get_or jobs k job ≡ job → text_from 1 (map result_of jobs)
    ≡ (text_from 1 (map result_of (take k jobs)) ++ job_text (k + 1) (result_of job)) ++ text_from (k + 2) (map result_of (drop (suc k) jobs))
split_text jobs k job low here =
    let front : List JobResult = map result_of (take k jobs) in
    let rest : List JobResult = map result_of (drop (suc k) jobs) in
    let count : length front ≡ k = count_first jobs k low in
    let first : 1 + length front ≡ k + 1 = omega (arith, count) in
    let next : k + 1 + 1 ≡ k + 2 = omega arith in
    ap (λ (l : List Job). text_from 1 (map result_of l)) (split_jobs jobs k job low here)
    ∙ ap (λ rs. text_from 1 rs) (map-append result_of (take k jobs) (job ∷ drop (suc k) jobs))
    ∙ text_append front (result_of job ∷ rest) 1
    ∙ ap (λ n. text_from 1 front ++ text_from n (result_of job ∷ rest)) first
    ∙ ap (λ n. text_from 1 front ++ (job_text (k + 1) (result_of job) ++ text_from n rest)) next
    ∙ sym (append_assoc (text_from 1 front) (job_text (k + 1) (result_of job)) (text_from (k + 2) rest))

-- one job more was written
pub text_more : (start now next : Option (List ℕ)) (jobs : List Job) (k : ℕ) (job : Job) → k < length jobs → get_or jobs k job ≡ job →
    now ≡ append_known start (text_from 1 (map result_of (take k jobs))) → next ≡ append_known now (job_text (k + 1) (result_of job)) →
    next ≡ append_known start (text_from 1 (map result_of (take (k + 1) jobs)))
text_more start now next jobs k job low here taken step =
    let front : List JobResult = map result_of (take k jobs) in
    let count : length front ≡ k = count_first jobs k low in
    let first : 1 + length front ≡ k + 1 = omega (arith, count) in
    let more : take (k + 1) jobs ≡ take k jobs ++ job ∷ [] = take_more jobs k job low ∙ ap (λ (j : Job). take k jobs ++ j ∷ []) here in
    let text : text_from 1 (map result_of (take (k + 1) jobs)) ≡ text_from 1 front ++ job_text (k + 1) (result_of job)
    = ap (λ (l : List Job). text_from 1 (map result_of l)) more
    ∙ ap (λ rs. text_from 1 rs) (map-append result_of (take k jobs) (job ∷ []))
    ∙ text_append front (result_of job ∷ []) 1
    ∙ ap (λ n. text_from 1 front ++ text_from n (result_of job ∷ [])) first
    ∙ ap (λ l. text_from 1 front ++ l) (append-nil (job_text (k + 1) (result_of job))) in
    step ∙ ap (λ o. append_known o (job_text (k + 1) (result_of job))) taken
    ∙ append_known-twice start (text_from 1 front) (job_text (k + 1) (result_of job))
    ∙ ap (λ l. append_known start l) (sym text)

-- all were written
pub text_all : (start now : Option (List ℕ)) (jobs : List Job) (k : ℕ) → length jobs ≤ k →
    now ≡ append_known start (text_from 1 (map result_of (take k jobs))) →
    now ≡ append_known start (net_text (map result_of jobs))
unfolding net_text
text_all start now jobs k all taken = taken ∙ ap (λ (l : List Job). append_known start (text_from 1 (map result_of l))) (take_all k jobs all)

-- a job was cut off
pub text_cut : (start now next : Option (List ℕ)) (jobs : List Job) (k n : ℕ) (job : Job) → k < length jobs → get_or jobs k job ≡ job →
    now ≡ append_known start (text_from 1 (map result_of (take k jobs))) → IsCut now next n (job_text (k + 1) (result_of job)) →
    (m : ℕ) × IsCut start next m (net_text (map result_of jobs))
unfolding net_text
text_cut start now next jobs k n job low here taken cut =
    let front : List ℕ = text_from 1 (map result_of (take k jobs)) in
    let piece : List ℕ = job_text (k + 1) (result_of job) in
    let rest : List ℕ = text_from (k + 2) (map result_of (drop (suc k) jobs)) in
    let here_cut = cut_off start now next front piece n (front ++ piece) refl taken cut.some cut.taken in (
      length front + n,
      subst (λ text. IsCut start next (length front + n) text) (sym (split_text jobs k job low here))
          (cut_more start next (length front + n) (front ++ piece) rest here_cut),
    )

-- the notes of jobs
pub notes_are : (jobs : List Job) → flat_map (λ job. job.note.bytes.items) jobs ≡ net_notes (map result_of jobs)
notes_are [] = refl
notes_are (job ∷ jobs) = ap (λ l. job.note.bytes.items ++ l) (notes_are jobs)

pub notes_all : (jobs : List Job) (k : ℕ) → length jobs ≤ k → flat_map (λ job. job.note.bytes.items) (take k jobs) ≡ net_notes (map result_of jobs)
notes_all jobs k all = ap (λ (l : List Job). flat_map (λ job. job.note.bytes.items) l) (take_all k jobs all) ∙ notes_are jobs

-- the pieces of a junction's line and its log
pub six : (a x b y e l : List ℕ) → a ++ (x ++ (b ++ (y ++ (e ++ (l ++ []))))) ≡ a ++ x ++ b ++ y ++ e ++ l
six a x b y e l = ap (λ t. a ++ (x ++ (b ++ (y ++ (e ++ t))))) (append-nil l) ∙ simp append_assoc

-- a list of jobs that was written as a whole
pub written_back : (len : ℕ) (items news : List Job) → length news ≡ length items → length items ≡ len → take len (news ++ drop (length news) items) ≡ news
written_back len items news same count =
    ap (λ (l : List Job). take len (news ++ l)) (drop_all (length news) items (omega (arith, same))) ∙ ap (λ (l : List Job). take len l) (append-nil news)
    ∙ take_all len news (omega (arith, same, count))
