use Rattle.std.proofs.Common.{rules, ◌≡◌, ◌∙◌, map, List, ℕ, ◌∷◌, [], ◌++◌, Option, Some, None, Bor, ap, sym, refl, length}
use Rattle.std.specs.Prelude.{codes}
use Rattle.std.specs.List.{slice_get}
use Rattle.std.specs.Option.{option_map}
use Rattle.std.proofs.lemmas.Option.{slice_get_read, slice_get_past}
use Rattle.test_cases.specs.Files.{named, site_files, with_first}
use Rattle.test_cases.proofs.Pushed.{pushed}
use Rattle.test_cases.proofs.cases.files.Goals as goal
use Rattle.test_cases.proofs.cases.files.Goals.{in-Some+in_ok-file+in_ok-push, in_default}

-- all files, after those so far
behind : (c : goal.In_ok-push-5) (start : List (List ℕ × List ℕ)) → map named c.match-get.files.items ≡ start →
    map named c.push-5.new.self.items
    ≡ (((start ++ (codes "p.pua", c.args.case.now.plan.now) ∷ []) ++ (codes "t.csv", c.args.case.now.times.now) ∷ [])
    ++ (codes "g.csv", c.args.case.now.intergreens.now) ∷ []) ++ (codes "d.txt", c.args.case.now.detectors.now) ∷ []
behind c start is =
    pushed c.push-4.new.self.items c.in_ok-file-5.field-0 c.in_ok-push-5.ensures.items
    (pushed c.push-3.new.self.items c.in_ok-file-4.field-0 c.in_ok-push-4.ensures.items
    (pushed c.push-2.new.self.items c.in_ok-file-3.field-0 c.in_ok-push-3.ensures.items
    (pushed c.match-get.files.items c.in_ok-file-2.field-0 c.in_ok-push-2.ensures.items is c.in_ok-file-2.ensures)
    c.in_ok-file-3.ensures)
    c.in_ok-file-4.ensures)
    c.in_ok-file-5.ensures

-- the files that are wanted where this is the second word
abbrev wanted : goal.In_ok-push-5 → Option (Bor (List ℕ)) → List (List ℕ × List ℕ)
wanted c word =
    with_first (option_map (λ name. name.now) word) c.args.case.now.program.now
    (site_files c.args.case.now.plan.now c.args.case.now.times.now c.args.case.now.intergreens.now
    c.args.case.now.detectors.now)

pub returns : goal.returns
returns c = elim c.match-get.branch [
  | in-Some+in_ok-file+in_ok-push w ↦
      let word : slice_get c.args.case.now.words.now 1 ≡ Some w.in-Some.first.now =
      slice_get_read c.args.case.now.words.now (length c.args.case.now.words.now) 1 w.in-Some.first.now refl
      (search rules) (search rules) in
      let pushed_to : w.push.new.self.items ≡ w.in_ok-file.field-0 ∷ [] =
      w.in_ok-push.ensures.items ∙ ap (λ files. files ++ w.in_ok-file.field-0 ∷ []) c.new-files.ensures.items in
      behind c ((w.in-Some.first.now.now, c.args.case.now.program.now) ∷ [])
      (ap (λ files. map named files.items) w.files-is ∙ pushed [] w.in_ok-file.field-0 pushed_to refl w.in_ok-file.ensures)
      ∙ sym (ap (wanted c) word)
  | in_default w ↦
      let word : slice_get c.args.case.now.words.now 1 ≡ None = slice_get_past c.args.case.now.words.now 1 (search rules) in
      behind c [] (ap (λ files. map named files.items) w.files-is ∙ ap (map named) c.new-files.ensures.items)
      ∙ sym (ap (wanted c) word)
]
