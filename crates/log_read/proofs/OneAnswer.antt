-- Every text has one answer, whatever is read of it.
use Rattle.std.proofs.Common.{◌≡◌, ◌∙◌, ℕ, suc, zero, ◌+◌, ◌-◌, ◌<◌, ◌≤◌, List, [], ◌∷◌, ◌++◌, length, get_or, Option, None, Some, refl, sym, ap, arith, inl, inr, ◌⊎◌, subst}
use Rattle.std.proofs.lemmas.Bool.{cases_lt, lt-ltb}
use Rattle.std.proofs.lemmas.List.{ext_get_or}
use Rattle.log_read.specs.declared.refusal.LogWhy.{LogWhy}
use Rattle.log_read.specs.declared.refusal.LogWhy.TheVariants as why
use Rattle.log_read.specs.Log.{HasEntries, LinesTell, Reading, form_reason, line_at, line_reason, reason_at}
use Rattle.log_read.proofs.Entries.{never}
use Rattle.log_read.proofs.LogLemmas.{by_form, ended, entry_form, entry_read, header_read, no_header, none_read, refused_line, too_long, too_many}

-- where an answer stops: before the first n lines all are accepted, and what stands there is refused for this reason, or is the end
record StopsAt {A : Type 0} (how : Reading A) (first : ℕ) (lines : List (List ℕ)) (es : List A) (n : ℕ) (reason : Option LogWhy) : Type 0 where
  read : HasEntries how first lines n es
  here : reason_at how first lines n ≡ reason
  at_end : reason ≡ None → n ≡ length lines

some_why : (v w : LogWhy) → Some v ≡ Some w → v ≡ w
some_why v w e = cc

module _ {A : Type 0} (how : Reading A) (first : ℕ) (lines : List (List ℕ)) where
  stops_end : (es : List A) → LinesTell how first lines es None → StopsAt how first lines es (length lines) None
  stops_end es tell = record { read = tell.0; here = tell.1; at_end = λ e. refl }

  stops_at : (es : List A) (a : ℕ × LogWhy) → LinesTell how first lines es (Some a) → StopsAt how first lines es (a.0 - 1) (Some a.1)
  stops_at es a tell = record { read = tell.0; here = tell.1; at_end = λ e. absurd (never a.1 e) }

  -- a line that isn't refused is short, and comes before the most lines
  pub accepted_form : (k : ℕ) (line : List ℕ) → line_reason how first k line ≡ None → form_reason how first k line ≡ None
  accepted_form k line none = elim (cases_lt k 604802) [
    | inr many ↦ absurd (never why.TooManySeconds (sym (too_many how first k line many) ∙ none))
    | inl few ↦ elim (cases_lt 262144 (length line)) [
      | inl long ↦ absurd (never why.LineTooLong (sym (too_long how first k line few long) ∙ none))
      | inr short ↦ sym (by_form how first k line few short) ∙ none
    ]
  ]

-- readings of which one is meant by what the header says
module _ {A N : Type 0} (how : N → Reading A) (first : ℕ) (lines : List (List ℕ)) (d : A)
    (same_header : (n m : N) (x : List ℕ) → (how n).header x ≡ (how m).header x)
    (one_heads : (n m : N) (x : List ℕ) → (how n).heads x → (how m).heads x → n ≡ m)
    (one_says : (n : N) (k : ℕ) (x : List ℕ) (e f : A) → (how n).says k x e → (how n).says k x f → e ≡ f) where
  same_meant : (p q : N) (es fs : List A) (n m : ℕ) → HasEntries (how p) first lines n es → HasEntries (how q) first lines m fs → 1 ≤ n → 1 ≤ m → p ≡ q
  same_meant p q es fs n m r s some more = one_heads p q (line_at lines 0) (r.headed some) (s.headed more)

  first_judge : (p q : N) → reason_at (how p) first lines 0 ≡ reason_at (how q) first lines 0
  unfolding line_reason
  first_judge p q = rw (same_header p q (line_at lines 0)) refl

  -- what stands where one answer stops is judged the same by another that doesn't stop before
  same_judge : (p q : N) (es fs : List A) (n m : ℕ) → HasEntries (how p) first lines n es → HasEntries (how q) first lines m fs → n ≤ m →
      reason_at (how p) first lines n ≡ reason_at (how q) first lines n
  same_judge p q es fs zero m r s le = first_judge p q
  same_judge p q es fs (suc n) m r s le =
      ap (λ (x : N). reason_at (how x) first lines (suc n)) (same_meant p q es fs (suc n) m r s (omega arith) (omega (arith, le)))

  not_before : (p q : N) (es fs : List A) (n m : ℕ) (a b : Option LogWhy) → StopsAt (how p) first lines es n a → StopsAt (how q) first lines fs m b → n < m → ⊥
  not_before p q es fs n m a b s t lt =
      let inside : n < length lines = omega (arith, lt, t.read.inside) in
      let none : reason_at (how q) first lines n ≡ None = rw (lt-ltb n (length lines) inside) (t.read.accepted n lt) in
      let whole = s.at_end (sym s.here ∙ same_judge p q es fs n m s.read t.read (omega (arith, lt)) ∙ none) in
      omega (arith, whole, inside)

  same_place : (p q : N) (es fs : List A) (n m : ℕ) (a b : Option LogWhy) → StopsAt (how p) first lines es n a → StopsAt (how q) first lines fs m b → n ≡ m
  same_place p q es fs n m a b s t = elim (cases_lt n m) [
    | inl before ↦ absurd (not_before p q es fs n m a b s t before)
    | inr late ↦ elim (cases_lt m n) [
      | inl after ↦ absurd (not_before q p fs es m n b a t s after)
      | inr here ↦ omega (arith, late, here)
    ]
  ]

  same_reason : (p q : N) (es fs : List A) (n m : ℕ) (a b : Option LogWhy) → n ≡ m → StopsAt (how p) first lines es n a →
      StopsAt (how q) first lines fs m b → a ≡ b
  same_reason p q es fs n m a b same s t =
      sym s.here ∙ same_judge p q es fs n m s.read t.read (omega (arith, same)) ∙ ap (reason_at (how q) first lines) same ∙ t.here

  no_entry : (p : N) (es : List A) → HasEntries (how p) first lines 0 es → es ≡ []
  no_entry p [] r = refl
  no_entry p (e ∷ es) r = absurd (omega (arith, r.count))

  meant_entries : (p : N) (es fs : List A) (n m : ℕ) → n ≡ m → HasEntries (how p) first lines n es → HasEntries (how p) first lines m fs → es ≡ fs
  meant_entries p es fs n m same r s =
      ext_get_or d es fs (omega (arith, r.count, s.count, same)) (λ i lt. one_says p (first + i) (line_at lines (i + 1)) (get_or es i d) (get_or fs i d)
      (r.entries_are i d lt) (s.entries_are i d (omega (arith, lt, r.count, s.count, same))))

  same_entries : (p q : N) (es fs : List A) (n m : ℕ) → n ≡ m → HasEntries (how p) first lines n es → HasEntries (how q) first lines m fs → es ≡ fs
  same_entries p q es fs zero m same r s = no_entry p es r ∙ sym (no_entry q fs (rw (sym same) at s))
  same_entries p q es fs (suc n) m same r s =
      let meant : q ≡ p = sym (same_meant p q es fs (suc n) m r s (omega arith) (omega (arith, same))) in
      meant_entries p es fs (suc n) m same r (subst (λ (x : N). HasEntries (how x) first lines m fs) meant s)

  pub one_answer : (p q : N) (es fs : List A) (a b : Option (ℕ × LogWhy)) → LinesTell (how p) first lines es a → LinesTell (how q) first lines fs b →
      (es ≡ fs) × (a ≡ b)
  one_answer p q es fs None None r s = (same_entries p q es fs _ _ refl r.0 s.0, refl)
  one_answer p q es fs None (Some b) r s =
      let u = stops_end (how p) first lines es r in
      let v = stops_at (how q) first lines fs b s in
      absurd (never b.1 (sym (same_reason p q es fs _ _ _ _ (same_place p q es fs _ _ _ _ u v) u v)))
  one_answer p q es fs (Some a) None r s =
      let u = stops_at (how p) first lines es a r in
      let v = stops_end (how q) first lines fs s in
      absurd (never a.1 (same_reason p q es fs _ _ _ _ (same_place p q es fs _ _ _ _ u v) u v))
  one_answer p q es fs (Some a) (Some b) r s =
      let u = stops_at (how p) first lines es a r in
      let v = stops_at (how q) first lines fs b s in
      let place = same_place p q es fs _ _ _ _ u v in
      let number : a.0 ≡ b.0 = omega (arith, place, r.2, s.2) in
      let reason : a.1 ≡ b.1 = some_why a.1 b.1 (same_reason p q es fs _ _ _ _ place u v) in
      (same_entries p q es fs _ _ place r.0 s.0, ap (λ (n : ℕ). Some (n, a.1)) number ∙ ap (λ (w : LogWhy). Some (b.0, w)) reason)

-- a reading whose accepted lines say something
module _ {A : Type 0} (how : Reading A) (first : ℕ) (lines : List (List ℕ))
    (has_says : (k : ℕ) (x : List ℕ) → how.entry k x ≡ None → (e : A) × how.says k x e) where
  -- the entries of the first n lines, or an answer
  abbrev SoFar : ℕ → Type 0
  SoFar n = ((es : List A) × HasEntries how first lines n es) ⊎ ((es : List A) × ((p : Option (ℕ × LogWhy)) × LinesTell how first lines es p))

  has_entry : (k second : ℕ) (line : List ℕ) → 1 ≤ k → second ≡ first + (k - 1) → line_reason how first k line ≡ None → (e : A) × how.says second line e
  has_entry k second line some due none =
      has_says second line (sym (entry_form how first k second line some due) ∙ accepted_form how first lines k line none)

  step_more : (n : ℕ) (es : List A) → 1 ≤ n → n < length lines → HasEntries how first lines n es → (o : Option LogWhy) →
      line_reason how first n (line_at lines n) ≡ o → SoFar (n + 1)
  step_more n es some inside read (Some w) is = inr (es, (Some (n + 1, w), refused_line how first lines n es w read inside is))
  step_more n es some inside read None is =
      let found = has_entry n (first + (n - 1)) (line_at lines n) some refl is in
      inl (es ++ found.0 ∷ [], entry_read how first lines n (first + (n - 1)) es found.0 read some inside refl is found.1)

  so_far : HasEntries how first lines 1 [] → (n : ℕ) → n < length lines → SoFar (n + 1)
  so_far begun zero le = inl ([], begun)
  so_far begun (suc n) le = elim (so_far begun n (omega (arith, le))) [
    | inl read ↦ (
        let more : n + 1 + 1 ≡ suc n + 1 = omega arith in
        rw more at (step_more (n + 1) read.0 (omega arith) (omega (arith, le)) read.1 (line_reason how first (n + 1) (line_at lines (n + 1))) refl))
    | inr told ↦ inr told
  ]

  -- what lines tell behind their header
  pub tell_behind : 0 < length lines → HasEntries how first lines 1 [] → (es : List A) × ((p : Option (ℕ × LogWhy)) × LinesTell how first lines es p)
  tell_behind some begun =
      let whole : length lines - 1 + 1 ≡ length lines = omega (arith, some) in
      elim (rw whole at (so_far begun (length lines - 1) (omega (arith, some)))) [
        | inl read ↦ (read.0, (None, ended how first lines (length lines) read.0 read.1 (omega arith) (omega (arith, some))))
        | inr told ↦ told
      ]

-- readings of which the header says one
module _ {A N : Type 0} (how : N → Reading A) (first : ℕ) (lines : List (List ℕ)) (any : N)
    (same_header : (n m : N) (x : List ℕ) → (how n).header x ≡ (how m).header x)
    (has_heads : (x : List ℕ) → (how any).header x ≡ None → (n : N) × (how n).heads x)
    (has_says : (n : N) (k : ℕ) (x : List ℕ) → (how n).entry k x ≡ None → (e : A) × (how n).says k x e) where
  first_reason : (n : N) → line_reason (how any) first 0 (line_at lines 0) ≡ None → line_reason (how n) first 0 (line_at lines 0) ≡ None
  unfolding line_reason
  first_reason n none = rw (same_header n any (line_at lines 0)) none

  tell_first : 0 < length lines → (o : Option LogWhy) → line_reason (how any) first 0 (line_at lines 0) ≡ o →
      (n : N) × ((es : List A) × ((p : Option (ℕ × LogWhy)) × LinesTell (how n) first lines es p))
  tell_first some (Some w) is =
      (any, ([], (Some (1, w), refused_line (how any) first lines 0 [] w (none_read (how any) first lines) some is)))
  tell_first some None is =
      let found = has_heads (line_at lines 0) (accepted_form (how any) first lines 0 (line_at lines 0) is) in (
        found.0,
        tell_behind (how found.0) first lines (has_says found.0) some
            (header_read (how found.0) first lines [] (none_read (how found.0) first lines) some found.1 (first_reason found.0 is)),
      )

  pub some_answer : (n : N) × ((es : List A) × ((p : Option (ℕ × LogWhy)) × LinesTell (how n) first lines es p))
  some_answer = elim (cases_lt 0 (length lines)) [
    | inl some ↦ tell_first some (line_reason (how any) first 0 (line_at lines 0)) refl
    | inr none ↦ (any, ([], (Some (1, why.Header), no_header (how any) first lines [] (none_read (how any) first lines) none)))
  ]
