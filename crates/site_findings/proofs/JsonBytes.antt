-- Bytes of JSON and lines of findings, one more at the end.
use Rattle.std.proofs.Common.{◌≡◌, ℕ, ◌+◌, ◌<◌, length, take, get_or, List, [], ◌∷◌, ◌++◌, ap, sym, ◌∙◌, append_assoc, append-nil}
use Rattle.std.proofs.lemmas.List.{take_more}
use Rattle.site_findings.specs.declared.finding.Examined.{Examined}
use Rattle.site_findings.specs.declared.finding.Finding.{Finding}
use Rattle.site_findings.specs.declared.finding.SiteNames.{SiteNames}
use Rattle.site_findings.specs.declared.text.Text.{Text}
use Rattle.site_findings.specs.Escaped.{escaped, escaped_byte}
use Rattle.site_findings.specs.Json.{json_line, json_lines}
use Rattle.site_findings.specs.Put.{Puts}

escaped-push : (bytes : List ℕ) (b : ℕ) → escaped (bytes ++ b ∷ []) ≡ escaped bytes ++ escaped_byte b
escaped-push [] b = append-nil (escaped_byte b)
escaped-push (x ∷ xs) b =
    ap (λ t. escaped_byte x ++ t) (escaped-push xs b) ∙ sym (append_assoc (escaped_byte x) (escaped xs) (escaped_byte b))

-- one more byte
pub bytes_more : (bytes : List ℕ) (i : ℕ) (first old new : Text) → i < length bytes →
    old.bytes.items ≡ first.bytes.items ++ escaped (take i bytes) → Puts old new (escaped_byte (get_or bytes i 0)) →
    new.bytes.items ≡ first.bytes.items ++ escaped (take (i + 1) bytes)
bytes_more bytes i first old new below h s =
    s ∙ (ap (λ t. t ++ escaped_byte (get_or bytes i 0)) h
    ∙ (append_assoc first.bytes.items (escaped (take i bytes)) (escaped_byte (get_or bytes i 0))
    ∙ ap (λ t. first.bytes.items ++ t) (sym (ap escaped (take_more bytes i 0 below)
    ∙ escaped-push (take i bytes) (get_or bytes i 0)))))

json_lines-push : (names : SiteNames) (examined : Examined) (findings : List Finding) (finding : Finding) →
    json_lines names examined (findings ++ finding ∷ []) ≡ json_lines names examined findings ++ json_line names examined finding
json_lines-push names examined [] finding = append-nil (json_line names examined finding)
json_lines-push names examined (f ∷ fs) finding =
    ap (λ t. json_line names examined f ++ t) (json_lines-push names examined fs finding)
    ∙ sym (append_assoc (json_line names examined f) (json_lines names examined fs) (json_line names examined finding))

-- one more finding of a list
pub lines_more : (names : SiteNames) (examined : Examined) (findings : List Finding) (i : ℕ) (finding : Finding) →
    (old new : Text) (first : List ℕ) → i < length findings → finding ≡ get_or findings i finding →
    old.bytes.items ≡ first ++ json_lines names examined (take i findings) → Puts old new (json_line names examined finding) →
    new.bytes.items ≡ first ++ json_lines names examined (take (i + 1) findings)
lines_more names examined findings i finding old new first below is h s =
    let next : take (i + 1) findings ≡ take i findings ++ finding ∷ [] =
    take_more findings i finding below ∙ ap (λ f. take i findings ++ f ∷ []) (sym is) in
    s ∙ (ap (λ t. t ++ json_line names examined finding) h
    ∙ (append_assoc first (json_lines names examined (take i findings)) (json_line names examined finding)
    ∙ ap (λ t. first ++ t)
    (sym (json_lines-push names examined (take i findings) finding) ∙ ap (json_lines names examined) (sym next))))
