use Rattle.std.proofs.Common.{◌∙◌, ℕ, List, String, Global, drop, map, string_bytes, subst, sym, arith}
use Rattle.vap_ast.specs.Tree.{program_of}
use Rattle.vap_code.specs.Codes.{CodeOf}
use Rattle.junction_run.specs.FormWords.{site_in}
use Rattle.trace_call.specs.Loaded.{code_for}
use Rattle.trace_call.specs.Form.{files_in}
use Rattle.trace_call.proofs.Added.{behind_is, few_files, file_is, no_files}
use Rattle.trace_call.proofs.Counted.{HasAdded, added_all, added_more, added_stopped}
use Rattle.trace_call.proofs.lines.add_runs.Goals as goal

pub returns-in_default-clause-added : goal.returns-in_default-clause-added
returns-in_default-clause-added g c = λ file e site here value seconds tallied.
    let code : CodeOf = code_for (program_of c.args.checked.now.tree) in
    let left = files_in (map (string_bytes {Z = Global}) c.loop-rest.rest.now) in
    let all = files_in (map (string_bytes {Z = Global}) c.args.added.now) in
    added_all (site_in c.args.words.now) code site seconds left all file c.loop-rest.total
    (few_files (string_bytes {Z = Global}) c.loop-rest.rest.now c.in_default.len_below)
    (c.loop-rest.invariant.added file e site here value seconds tallied)

pub returns-in-Err-clause-added : goal.returns-in-Err-clause-added
returns-in-Err-clause-added g c = λ file e site here value seconds tallied.
    let code : CodeOf = code_for (program_of c.args.checked.now.tree) in
    let name = c.as_str.result.now in
    let left : List (List ℕ) = files_in (map (string_bytes {Z = Global}) (drop 2 c.loop-rest.rest.now)) in
    let all : List (List ℕ) = files_in (map (string_bytes {Z = Global}) c.args.added.now) in
    let here_now = c.loop-rest.invariant.contents_stay ∙ e in
    added_stopped (site_in c.args.words.now) code site seconds name left all file c.loop-rest.total c.add_run.new.total c.in-Err.stop
    (subst (λ (names : List (List ℕ)). HasAdded code site seconds names all file c.loop-rest.total)
    (file_is (string_bytes {Z = Global}) c.loop-rest.rest.now c.word-item.result name c.in-len2-up.len_at_least c.word-item.is c.as_str.ensures.value)
    (c.loop-rest.invariant.added file e site here value seconds tallied))
    (λ more t. c.in-Err.ensures.added file here_now site here value more t)

pub loop-rest-preserved : goal.loop-rest-preserved
loop-rest-preserved g c = record {
  contents_stay = c.in-Ok.ensures.contents_stay ∙ c.loop-rest.invariant.contents_stay;
  nothing = c.in-Ok.ensures.nothing ∙ c.loop-rest.invariant.nothing;
  later = omega (arith, c.loop-rest.invariant.later, c.in-Ok.ensures.later);
  reads_later = omega (arith, c.loop-rest.invariant.reads_later, c.in-Ok.ensures.reads_later);
  added = λ file e site here value seconds tallied.
      let code : CodeOf = code_for (program_of c.args.checked.now.tree) in
      let name = c.as_str.result.now in
      let left : List (List ℕ) = files_in (map (string_bytes {Z = Global}) (drop 2 c.loop-rest.rest.now)) in
      let all : List (List ℕ) = files_in (map (string_bytes {Z = Global}) c.args.added.now) in
      let here_now = c.loop-rest.invariant.contents_stay ∙ e in
      subst (λ (words : List (String Global)). HasAdded code site seconds (files_in (map (string_bytes {Z = Global}) words)) all file c.add_run.new.total)
      (sym (behind_is _ c.loop-rest.rest.now (omega arith)))
      (added_more (site_in c.args.words.now) code site seconds name left all file c.loop-rest.total c.add_run.new.total
      (subst (λ (names : List (List ℕ)). HasAdded code site seconds names all file c.loop-rest.total)
      (file_is (string_bytes {Z = Global}) c.loop-rest.rest.now c.word-item.result name c.in-len2-up.len_at_least c.word-item.is c.as_str.ensures.value)
      (c.loop-rest.invariant.added file e site here value seconds tallied))
      (λ more t. c.in-Ok.ensures.added file here_now site here value more t));
}

pub returns-clause-added : goal.returns-clause-added
returns-clause-added g c = λ file e site here value seconds tallied.
    let code : CodeOf = code_for (program_of c.args.checked.now.tree) in
    let left = files_in (map (string_bytes {Z = Global}) c.loop-rest.rest.now) in
    let all = files_in (map (string_bytes {Z = Global}) c.args.added.now) in
    added_all (site_in c.args.words.now) code site seconds left all file c.loop-rest.total
    (no_files (string_bytes {Z = Global}) c.loop-rest.rest.now c.loop-rest-test.ensures)
    (c.loop-rest.invariant.added file e site here value seconds tallied)
