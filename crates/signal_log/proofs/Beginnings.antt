-- The beginning of a record, and a quiet record, of which it is all.
use Rattle.std.proofs.Common.{◌≡◌, ◌∙◌, ℕ, Bool, true, false, List, [], ◌++◌, map, codes, sym, ap}
use Rattle.std.proofs.lemmas.List.{append-nil}
use Rattle.sig_types.specs.declared.record.Record.{Record}
use Rattle.signal_log.specs.Log.{IsQuiet, count_text, fault_text, beginning_text, head_text, or_dash, record_text, refused_texts}
use Rattle.signal_log.proofs.Pieces.{quiet_end}

pub quiet_record : (names : List (List ℕ)) (r : Record) (quiet : Bool) → quiet ≡ true → IsQuiet r → beginning_text quiet r ≡ record_text names r
unfolding record_text
quiet_record names r quiet so is =
    ap (λ q. beginning_text q r) so
    ∙ quiet_end (head_text r)
    ∙ sym (ap (λ cs. (((((head_text r ++ or_dash (map count_text cs)) ++ codes "|") ++ or_dash (refused_texts names r.stages r.turns)) ++ codes "|")
    ++ fault_text r.fault) ++ codes "\n") is.counts
    ∙ ap (λ stages. (((((head_text r ++ codes "-") ++ codes "|") ++ or_dash (refused_texts names stages r.turns)) ++ codes "|")
    ++ fault_text r.fault) ++ codes "\n") is.stages
    ∙ ap (λ turns. (((((head_text r ++ codes "-") ++ codes "|") ++ or_dash (refused_texts names [] turns)) ++ codes "|")
    ++ fault_text r.fault) ++ codes "\n") is.turns
    ∙ ap (λ fault. (((((head_text r ++ codes "-") ++ codes "|") ++ codes "-") ++ codes "|") ++ fault_text fault) ++ codes "\n") is.fault)

-- where more follows
pub loud_beginning : (r : Record) (quiet : Bool) → quiet ≡ false → beginning_text quiet r ≡ head_text r
loud_beginning r quiet so = ap (λ q. beginning_text q r) so ∙ append-nil (head_text r)
