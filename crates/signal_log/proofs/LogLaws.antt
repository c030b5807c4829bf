-- The text of a log, cut at its bars and line feeds.
use Rattle.std.proofs.Common.{◌≡◌, ◌∙◌, ℕ, suc, true, List, [], ◌∷◌, ◌++◌, map, length, refl, ap, sym, subst, append_assoc}
use Rattle.std.specs.Fmt.{decimal}
use Rattle.pua_model.specs.Plan.{are_names}
use Rattle.sig_types.specs.declared.record.Record.{Record}
use Rattle.signal_log.specs.Laws.{ArePrintable, frames_of, LogCounts, LogSpells}
use Rattle.sig_types.specs.LogForm.{letter}
use Rattle.signal_log.specs.Log.{place_text, refused_texts, fault_text, record_text, records_text, header_text, log_text, or_dash, counted_from, count_text}
use Rattle.signal_log.proofs.Without.{Without, tail_of, cut_once}
use Rattle.signal_log.proofs.CountTexts.{counts_injective}
use Rattle.signal_log.proofs.Plain.{plain_without, no_bar, no_feed, decimal_plain}
use Rattle.signal_log.proofs.FieldTexts.{letters_plain, place_plain, or_dash_plain, counts_plain, refused_plain, fault_plain}

-- six fields and what follows them, one after the other
abbrev six : List ℕ → List ℕ → List ℕ → List ℕ → List ℕ → List ℕ → List ℕ → List ℕ
six a b c d e f rest = a ++ 124 ∷ (b ++ 124 ∷ (c ++ 124 ∷ (d ++ 124 ∷ (e ++ 124 ∷ (f ++ 10 ∷ rest)))))

six_shape : (a b c d e f rest : List ℕ) →
    (a ++ 124 ∷ [] ++ b ++ 124 ∷ [] ++ c ++ 124 ∷ [] ++ d ++ 124 ∷ [] ++ e ++ 124 ∷ [] ++ f ++ 10 ∷ []) ++ rest ≡ six a b c d e f rest
six_shape a b c d e f rest =
    let l1 = a ++ 124 ∷ [] in
    let l2 = l1 ++ b ++ 124 ∷ [] in
    let l3 = l2 ++ c ++ 124 ∷ [] in
    let l4 = l3 ++ d ++ 124 ∷ [] in
    let l5 = l4 ++ e ++ 124 ∷ [] in
    let r5 = f ++ 10 ∷ rest in
    let r4 = e ++ 124 ∷ r5 in
    let r3 = d ++ 124 ∷ r4 in
    let r2 = c ++ 124 ∷ r3 in
    let r1 = b ++ 124 ∷ r2 in
    append_assoc (l5 ++ f) (10 ∷ []) rest
    ∙ append_assoc l5 f (10 ∷ rest)
    ∙ append_assoc (l4 ++ e) (124 ∷ []) r5 ∙ append_assoc l4 e (124 ∷ r5)
    ∙ append_assoc (l3 ++ d) (124 ∷ []) r4 ∙ append_assoc l3 d (124 ∷ r4)
    ∙ append_assoc (l2 ++ c) (124 ∷ []) r3 ∙ append_assoc l2 c (124 ∷ r3)
    ∙ append_assoc (l1 ++ b) (124 ∷ []) r2 ∙ append_assoc l1 b (124 ∷ r2)
    ∙ append_assoc a (124 ∷ []) r1

-- the first five have no bar, the last one no line feed
record Cuts (a b c d e f : List ℕ) : Type 0 where
  first : Without 124 a
  second : Without 124 b
  third : Without 124 c
  fourth : Without 124 d
  fifth : Without 124 e
  sixth : Without 10 f

cut_six : (a b c d e f rest a' b' c' d' e' f' rest' : List ℕ) → Cuts a b c d e f → Cuts a' b' c' d' e' f' →
    six a b c d e f rest ≡ six a' b' c' d' e' f' rest' → (d ≡ d') × (rest ≡ rest')
cut_six a b c d e f rest a' b' c' d' e' f' rest' p q is =
    let r5 = f ++ 10 ∷ rest in
    let r4 = e ++ 124 ∷ r5 in
    let r3 = d ++ 124 ∷ r4 in
    let r2 = c ++ 124 ∷ r3 in
    let r1 = b ++ 124 ∷ r2 in
    let s5 = f' ++ 10 ∷ rest' in
    let s4 = e' ++ 124 ∷ s5 in
    let s3 = d' ++ 124 ∷ s4 in
    let s2 = c' ++ 124 ∷ s3 in
    let s1 = b' ++ 124 ∷ s2 in
    let k1 = cut_once 124 a a' r1 s1 p.first q.first is in
    let k2 = cut_once 124 b b' r2 s2 p.second q.second k1.1 in
    let k3 = cut_once 124 c c' r3 s3 p.third q.third k2.1 in
    let k4 = cut_once 124 d d' r4 s4 p.fourth q.fourth k3.1 in
    let k5 = cut_once 124 e e' r5 s5 p.fifth q.fifth k4.1 in
    let k6 = cut_once 10 f f' rest rest' p.sixth q.sixth k5.1 in
    (k4.0, k6.1)

-- the fields of a record
abbrev counts_of : Record → List ℕ
counts_of r = or_dash (map count_text (counted_from 1 r.frame))

abbrev refused_of : List (List ℕ) → Record → List ℕ
refused_of names r = or_dash (refused_texts names r.stages r.turns)

abbrev spread : List (List ℕ) → Record → List ℕ → List ℕ
spread names r rest = six (decimal r.second.0) (place_text r.place) (map letter r.picture) (counts_of r) (refused_of names r) (fault_text r.fault) rest

record_shape : (names : List (List ℕ)) (r : Record) (rest : List ℕ) → record_text names r ++ rest ≡ spread names r rest
unfolding record_text
record_shape names r rest =
    six_shape (decimal r.second.0) (place_text r.place) (map letter r.picture) (counts_of r) (refused_of names r) (fault_text r.fault) rest

record_cuts : (names : List (List ℕ)) (r : Record) → are_names names ≡ true →
    Cuts (decimal r.second.0) (place_text r.place) (map letter r.picture) (counts_of r) (refused_of names r) (fault_text r.fault)
record_cuts names r named = record {
  first = plain_without 124 _ no_bar (decimal_plain r.second.0);
  second = plain_without 124 _ no_bar (place_plain r.place);
  third = plain_without 124 _ no_bar (letters_plain r.picture);
  fourth = plain_without 124 _ no_bar (or_dash_plain (map count_text (counted_from 1 r.frame)) (counts_plain (counted_from 1 r.frame)));
  fifth = plain_without 124 _ no_bar (refused_plain names r named);
  sixth = plain_without 10 _ no_feed (fault_plain r.fault);
}

-- what begins with a record isn't empty
text_with_bar : (a rest : List ℕ) → a ++ 124 ∷ rest ≡ [] → ⊥
text_with_bar [] rest e = cc
text_with_bar (x ∷ a) rest e = cc

records_injective : (names : List (List ℕ)) (rs qs : List Record) → are_names names ≡ true → ArePrintable (frames_of rs) → ArePrintable (frames_of qs) →
    records_text names rs ≡ records_text names qs → frames_of rs ≡ frames_of qs
unfolding records_text
records_injective names [] [] named p q e = refl
records_injective names [] (r ∷ rs) named p q e = absurd (text_with_bar (decimal r.second.0) _ (sym (record_shape names r (records_text names rs)) ∙ sym e))
records_injective names (r ∷ rs) [] named p q e = absurd (text_with_bar (decimal r.second.0) _ (sym (record_shape names r (records_text names rs)) ∙ e))
records_injective names (r ∷ rs) (s ∷ qs) named p q e =
    let cut = cut_six _ _ _ _ _ _ (records_text names rs) _ _ _ _ _ _ (records_text names qs) (record_cuts names r named) (record_cuts names s named)
    (sym (record_shape names r (records_text names rs)) ∙ e ∙ record_shape names s (records_text names qs)) in
    ap (λ f. f ∷ frames_of rs) (counts_injective r.frame s.frame p.0.entries q.0.entries p.0.counts q.0.counts cut.0)
    ∙ ap (λ fs. s.frame ∷ fs) (records_injective names rs qs named p.1 q.1 cut.1)

-- as many records, whatever they have
records_counted : (names : List (List ℕ)) (rs qs : List Record) → are_names names ≡ true → records_text names rs ≡ records_text names qs → length rs ≡ length qs
unfolding records_text
records_counted names [] [] named e = refl
records_counted names [] (r ∷ rs) named e = absurd (text_with_bar (decimal r.second.0) _ (sym (record_shape names r (records_text names rs)) ∙ sym e))
records_counted names (r ∷ rs) [] named e = absurd (text_with_bar (decimal r.second.0) _ (sym (record_shape names r (records_text names rs)) ∙ e))
records_counted names (r ∷ rs) (s ∷ qs) named e =
    let cut = cut_six _ _ _ _ _ _ (records_text names rs) _ _ _ _ _ _ (records_text names qs) (record_cuts names r named) (record_cuts names s named)
    (sym (record_shape names r (records_text names rs)) ∙ e ∙ record_shape names s (records_text names qs)) in
    ap suc (records_counted names rs qs named cut.1)

after_front : (front xs ys : List ℕ) → front ++ xs ≡ front ++ ys → xs ≡ ys
after_front [] xs ys e = e
after_front (x ∷ front) xs ys e = after_front front xs ys (tail_of x x (front ++ xs) (front ++ ys) e)

-- a log determines the frames of its seconds
pub log_spells : LogSpells
unfolding log_text
log_spells names text fs gs named p q (rs, is, at) (qs, is', at') =
    sym at
    ∙ records_injective names rs qs named (subst (λ l. ArePrintable l) (sym at) p) (subst (λ l. ArePrintable l) (sym at') q)
    (after_front (header_text names) (records_text names rs) (records_text names qs) (sym is ∙ is'))
    ∙ at'

-- a log determines how many seconds it has
pub log_counts : LogCounts
unfolding log_text
log_counts names rs qs named e =
    records_counted names rs qs named (after_front (header_text names) (records_text names rs) (records_text names qs) e)
