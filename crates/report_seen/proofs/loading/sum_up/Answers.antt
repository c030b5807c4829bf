use Rattle.std.proofs.Common.{◌≡◌, ◌∙◌, [], ℕ, List, Option, refl, ap}
use Rattle.std.specs.Prelude.{unwrap_or}
use Rattle.sig_io.specs.Outside.{Contents}
use Rattle.report_seen.specs.Summed.{AreSumsIn, IsUnsummed}
use Rattle.log_read.specs.RecordAnswers.{names_of}
use Rattle.report_seen.proofs.SumsReading.{unread}
use Rattle.report_seen.proofs.loading.sum_up.Goals as goal

pub returns-in-Err-clause-stop : goal.returns-in-Err-clause-stop
returns-in-Err-clause-stop c =
    let bytes : List ℕ = c.new-file.result.bytes.now in
    let file : Contents = (λ name. bytes) in
    let same : bytes ≡ c.args.bytes.items =
    ap (λ (o : Option Contents). unwrap_or o (λ name. []) []) c.new-file.ensures.told ∙ c.deref.ensures.value in
    let is : IsUnsummed bytes c.stop_of.result = rw c.stop_of.ensures (unread [] bytes [] c.in-Err.stop (c.in-Err.ensures.opened file refl [])) in
    rw (← same) (c.stop_in.ensures.stop bytes is)

pub returns-in-Ok-add_up-clause-summed : goal.returns-in-Ok-add_up-clause-summed
returns-in-Ok-add_up-clause-summed c =
    let bytes : List ℕ = c.new-file.result.bytes.now in
    let file : Contents = (λ name. bytes) in
    let same : bytes ≡ c.args.bytes.items =
    ap (λ (o : Option Contents). unwrap_or o (λ name. []) []) c.new-file.ensures.told ∙ c.deref.ensures.value in
    let first = c.in-Ok.records in
    let is : AreSumsIn (names_of first) bytes 1 604801 c.in-Ok-add_up.sums =
    c.in-Ok-add_up.ensures.summing file c.in-Ok.ensures.contents_stay (c.in-Ok.ensures.opened file refl) in
    record {
      sums = rw (c.in-Ok-add_up.ensures.names, ← same) is;
      unserved = c.in-Ok-add_up.ensures.serves;
      textual = rw c.in-Ok-add_up.ensures.names c.in-Ok-add_up.ensures.textual;
      few = rw c.in-Ok-add_up.ensures.names c.in-Ok.ensures.few;
    }

pub returns-clause-stop : goal.returns-clause-stop
returns-clause-stop c =
    let bytes : List ℕ = c.new-file.result.bytes.now in
    let file : Contents = (λ name. bytes) in
    let same : bytes ≡ c.args.bytes.items =
    ap (λ (o : Option Contents). unwrap_or o (λ name. []) []) c.new-file.ensures.told ∙ c.deref.ensures.value in
    let is : IsUnsummed bytes c.in-Err-add_up.stop =
    c.in-Err-add_up.ensures.summing file c.in-Ok.ensures.contents_stay (c.in-Ok.ensures.opened file refl) in
    rw (← same) (c.stop_in-in-Err-add_up.ensures.stop bytes is)
