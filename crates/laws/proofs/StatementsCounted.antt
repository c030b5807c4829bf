-- Statements that are counted in a code, part by part.
use Rattle.std.proofs.Common.{◌≡◌, ◌∙◌, ℕ, suc, ◌+◌, List, [], ◌∷◌, ◌++◌, Bool, false, length, refl, sym, ap, arith, append_assoc, length-append}
use Rattle.std.specs.Prelude.{slice_index_or}
use Rattle.vap_code.specs.declared.Instr.{Instr}
use Rattle.vap_code.specs.declared.Instr.TheVariants.{Tick, Call}
use Rattle.vap_code.specs.Valid.{is_call}
use Rattle.trace_watch.specs.declared.places.Mark.{Mark}
use Rattle.trace_watch.specs.Places.{statement_at, statements_from}
use Rattle.trace_told.specs.Traces.{taken, taken_from}

-- the marks for which flags say so, one beside the other
abbrev pub beside : List Bool → List Mark → List Mark
beside [] marks = []
beside (f ∷ fs) [] = []
beside (f ∷ fs) (m ∷ ms) = taken f m ++ beside fs ms

flag_there : (before fs : List Bool) (f : Bool) → slice_index_or (before ++ f ∷ fs) (length before) false ≡ f
flag_there [] fs f = refl
flag_there (b ∷ bs) fs f = flag_there bs fs f

-- they are those that their numbers tell
pub by_number : (before fs : List Bool) (ms : List Mark) → length fs ≡ length ms
    → taken_from (length before) (before ++ fs) ms ≡ beside fs ms
by_number before [] [] same = refl
by_number before [] (m ∷ ms) same = absurd (omega (arith, same))
by_number before (f ∷ fs) [] same = absurd (omega (arith, same))
by_number before (f ∷ fs) (m ∷ ms) same =
    let less : length fs ≡ length ms = omega (arith, same) in
    let more : length before + 1 ≡ length (before ++ f ∷ []) = omega (arith, length-append before (f ∷ [])) in
    ap (λ b. taken b m ++ taken_from (length before + 1) (before ++ f ∷ fs) ms) (flag_there before fs f)
    ∙ ap (λ t. taken f m ++ t) ((λ i. taken_from (more i) (sym (append_assoc before (f ∷ []) fs) i) ms) ∙ by_number (before ++ f ∷ []) fs ms less)

beside-join : (fs gs : List Bool) (ms ns : List Mark) → length fs ≡ length ms → beside (fs ++ gs) (ms ++ ns) ≡ beside fs ms ++ beside gs ns
beside-join [] gs [] ns same = refl
beside-join [] gs (m ∷ ms) ns same = absurd (omega (arith, same))
beside-join (f ∷ fs) gs [] ns same = absurd (omega (arith, same))
beside-join (f ∷ fs) gs (m ∷ ms) ns same =
    let less : length fs ≡ length ms = omega (arith, same) in
    ap (λ t. taken f m ++ t) (beside-join fs gs ms ns less) ∙ sym (append_assoc (taken f m) (beside fs ms) (beside gs ns))

-- in a part of a code, at a place, as many statements are counted as there are flags, and those for which they say so are these
pub record Counts (is : List Instr) (p : ℕ) (flags : List Bool) (marks : List Mark) : Type 0 where
  pub found : List Mark
  pub reads : (rest : List Instr) → statements_from p false (is ++ rest) ≡ found ++ statements_from (p + length is) false rest
  pub as_many : length flags ≡ length found
  pub are : beside flags found ≡ marks

-- one part behind the other
pub join : (is js : List Instr) (p q : ℕ) (fs gs : List Bool) (ms ns : List Mark) → q ≡ p + length is
    → Counts is p fs ms → Counts js q gs ns → Counts (is ++ js) p (fs ++ gs) (ms ++ ns)
join is js p q fs gs ms ns at one two = record {
  found = one.found ++ two.found;
  reads = λ rest.
      let end : q + length js ≡ p + length (is ++ js) = omega (arith, at, length-append is js) in
      ap (statements_from p false) (append_assoc is js rest)
      ∙ one.reads (js ++ rest)
      ∙ ap (λ n. one.found ++ statements_from n false (js ++ rest)) (sym at)
      ∙ ap (λ l. one.found ++ l) (two.reads rest)
      ∙ sym (append_assoc one.found two.found (statements_from (q + length js) false rest))
      ∙ ap (λ n. (one.found ++ two.found) ++ statements_from n false rest) end;
  as_many = omega (arith, length-append fs gs, length-append one.found two.found, one.as_many, two.as_many);
  are = beside-join fs gs one.found two.found one.as_many ∙ (λ i. one.are i ++ two.are i);
}

-- nothing
pub nothing : (p : ℕ) → Counts [] p [] []
nothing p = record {
  found = [];
  reads = λ rest. let end : p ≡ p + 0 = omega arith in ap (λ n. statements_from n false rest) end;
  as_many = refl;
  are = refl;
}

-- the tick of a statement that is a TRACE or none
pub tick : (p line : ℕ) (f : Bool) → Counts (Tick line ∷ []) p (f ∷ []) (taken f (record { place = p; line = line }) ++ [])
tick p line f = record { found = record { place = p; line = line } ∷ []; reads = λ rest. refl; as_many = refl; are = refl }

-- a call, with the tick of its return
pub call : (p line sub : ℕ) → Counts (Tick line ∷ Call sub ∷ Tick line ∷ []) p (false ∷ []) []
call p line sub = record {
  found = record { place = p; line = line } ∷ [];
  reads = λ rest.
      let end : p + 1 + 1 + 1 ≡ p + 3 = omega arith in ap (λ n. record { place = p; line = line } ∷ statements_from n false rest) end;
  as_many = refl;
  are = refl;
}

-- an instruction that begins no statement, and calls nothing
pub record IsQuiet (i : Instr) : Type 0 where
  pub none : (p : ℕ) → statement_at p false i ≡ []
  pub no_call : is_call i ≡ false

-- only such instructions
abbrev pub AreQuiet : List Instr → Type 0
AreQuiet [] = Unit {0}
AreQuiet (i ∷ is) = IsQuiet i × AreQuiet is

quiet_reads : (is : List Instr) (p : ℕ) (rest : List Instr) → AreQuiet is
    → statements_from p false (is ++ rest) ≡ statements_from (p + length is) false rest
quiet_reads [] p rest quiet = let end : p ≡ p + 0 = omega arith in ap (λ n. statements_from n false rest) end
quiet_reads (i ∷ is) p rest quiet =
    let end : p + 1 + length is ≡ p + suc (length is) = omega arith in
    (λ j. quiet.0.none p j ++ statements_from (p + 1) (quiet.0.no_call j) (is ++ rest))
    ∙ quiet_reads is (p + 1) rest quiet.1
    ∙ ap (λ n. statements_from n false rest) end

pub quiet : (is : List Instr) (p : ℕ) → AreQuiet is → Counts is p [] []
quiet is p are = record { found = []; reads = λ rest. quiet_reads is p rest are; as_many = refl; are = refl }
