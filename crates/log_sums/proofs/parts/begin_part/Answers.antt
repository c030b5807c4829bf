use Rattle.std.proofs.Common.{◌≡◌, ℕ, ◌<◌, ◌≤◌, ◌+◌, ◌∙◌, ◌++◌, ◌∷◌, [], ap, arith, length, refl, subst}
use Rattle.std.specs.Prelude.{min}
use Rattle.std.proofs.lemmas.List.{take_all}
use Rattle.log_sums.specs.declared.sums.LogSums.{LogSums}
use Rattle.log_sums.specs.Adding.{AddsUp, AddsUpTo}
use Rattle.log_sums.specs.Serves.{serves_of}
use Rattle.log_sums.specs.Parts.{begin_of, end_of}
use Rattle.log_sums.proofs.Over.{ended, part_more}
use Rattle.log_sums.proofs.parts.begin_part.Goals as goal

pub returns : goal.returns
returns c = λ groups from each to serves records few some wide next small is.
    let rec = c.args.rec.now in
    let old = c.args.parts.now in
    let e = old.current.to in
    let k = length old.over.items in
    let n = length records in
    let past : e < n + 1 = omega (arith, c.requires.past, next) in
    let less : e < to = omega (arith, c.requires.less, is.to_is) in
    let last : e ≡ end_of from each to k = is.current_is.to_is in
    let at = ended from each to n k e some last past less is.enough in
    let within : n ≤ end_of from each to k = omega (arith, at.0, last) in
    let most : end_of from each to k ≤ n = omega (arith, at.0, last) in
    let whole : AddsUp groups (begin_of from each k) records old.current =
    rw (take_all (end_of from each to k) records within) at is.current_is.sums in
    let end : c.end_behind-end.result ≡ min to (e + each) =
    c.end_behind-end.ensures ∙ ap (λ t. min t (e + old.each)) is.to_is ∙ ap (λ a. min to (e + a)) is.each_is in
    let begun = c.in_ok-next.ensures.sums groups (begin_of from each k) records few (omega (arith, next, small)) (omega (arith, at.0, end, less, some)) whole in
    let first : AddsUpTo groups (n + 1) c.end_behind-end.result (records ++ rec ∷ []) c.replace.new.dest =
    rw c.replace.ensures.after (c.in_ok-take_record.ensures.sums groups (n + 1) c.end_behind-end.result records wide next small begun) in
    let old_is : AddsUpTo groups (begin_of from each k) (end_of from each to k) records c.replace.result = rw c.replace.ensures.value is.current_is in
    let over = c.close-over.ensures.sums groups (begin_of from each k) (end_of from each to k) records rec most old_is in
    part_more groups from each to e serves records rec old _ c.close-over.result some is refl past less refl refl c.in_ok-put_over.ensures over
    (subst (λ (t : ℕ). AddsUpTo groups (n + 1) t (records ++ rec ∷ []) c.replace.new.dest) end first) (c.close-over.ensures.serves ∙ ap (λ (x : LogSums). x.serves.items) c.replace.ensures.value)
    (ap (λ (x : LogSums). serves_of x.serves.items) c.replace.ensures.after ∙ c.in_ok-take_record.ensures.serves ∙ c.in_ok-next.ensures.serves)
