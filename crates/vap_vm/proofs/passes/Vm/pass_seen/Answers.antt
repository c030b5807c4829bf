use Rattle.std.proofs.Common.{◌≡◌, length, map, ◌++◌, sym, ap, ◌∙◌, subst, arith, false, inl, inr}
use Rattle.sig_types.specs.Pass.{unit_limit, Done, Unfinished}
use Rattle.vap_code.specs.Machine.{last_start, machine}
use Rattle.vap_vm.specs.Passes.{Kept}
use Rattle.vap_vm.specs.Run.{end_of}
use Rattle.vap_code.specs.Sights.{machine_sights}
use Rattle.vap_vm.specs.View.{state_of, store_of, SameSizes}
use Rattle.vap_vm.proofs.PassFacts.{begun_state, start_of, exec_is, steps_is, sights_is, over_is, room_is, ready_done, few_done, never, ready_fault, restored, step_limit_number}
use Rattle.vap_vm.proofs.Sizes.{sizes_on, sizes_back}
use Rattle.vap_vm.proofs.passes.Vm.pass_seen.Goals as goal

pub run-requires-clause-room : goal.run-requires-clause-room
run-requires-clause-room g c =
    let s = c.self.inside in
    let kept : Kept = record { code = s.code; store = store_of s.machine; seconds = s.seconds } in
    let instrs = c.as_slice-instrs.result.now in
    let starts = c.as_slice-starts.result.now in
    let same_instrs = c.as_slice-instrs.ensures.value ∙ ap (λ code. code.instrs) c.code-code.ensures.same in
    let same_starts = c.as_slice-starts.ensures.value ∙ ap (λ code. code.starts) c.code-code.ensures.same in
    let begun = begun_state c.begin-head.result c.begin-head.new.self s.machine.slots (last_start s.code.starts) unit_limit
    (c.begin-head.ensures.place ∙ c.last_start.ensures ∙ ap last_start same_starts) c.begin-head.ensures.line
    (c.begin-head.ensures.units ∙ c.unit_limit.ensures.same) c.begin-head.ensures.operands c.begin-head.ensures.return_places
    c.begin-head.ensures.commands c.begin-head.ensures.slots in
    λ w m. room_is kept instrs starts same_instrs same_starts (state_of c.begin-head.result c.begin-head.new.self) begun w
    (c.valid_code_runs_well.ensures s.code w (start_of kept) c.code-code.ensures.valid c.self.invariant.0.fits) c.self.invariant.0

pub run-requires-clause-over : goal.run-requires-clause-over
run-requires-clause-over g c =
    let s = c.self.inside in
    let kept : Kept = record { code = s.code; store = store_of s.machine; seconds = s.seconds } in
    let instrs = c.as_slice-instrs.result.now in
    let starts = c.as_slice-starts.result.now in
    let same_instrs = c.as_slice-instrs.ensures.value ∙ ap (λ code. code.instrs) c.code-code.ensures.same in
    let same_starts = c.as_slice-starts.ensures.value ∙ ap (λ code. code.starts) c.code-code.ensures.same in
    let begun = begun_state c.begin-head.result c.begin-head.new.self s.machine.slots (last_start s.code.starts) unit_limit
    (c.begin-head.ensures.place ∙ c.last_start.ensures ∙ ap last_start same_starts) c.begin-head.ensures.line
    (c.begin-head.ensures.units ∙ c.unit_limit.ensures.same) c.begin-head.ensures.operands c.begin-head.ensures.return_places
    c.begin-head.ensures.commands c.begin-head.ensures.slots in
    λ w m. over_is kept instrs starts same_instrs same_starts (state_of c.begin-head.result c.begin-head.new.self) begun w
    (c.valid_code_runs_well.ensures s.code w (start_of kept) c.code-code.ensures.valid c.self.invariant.0.fits)

pub invariant_of-self : goal.invariant_of-self
invariant_of-self g c =
    let s = c.self.inside in
    let kept : Kept = record { code = s.code; store = store_of s.machine; seconds = s.seconds } in
    let instrs = c.as_slice-instrs.result.now in
    let starts = c.as_slice-starts.result.now in
    let same_instrs = c.as_slice-instrs.ensures.value ∙ ap (λ code. code.instrs) c.code-code.ensures.same in
    let same_starts = c.as_slice-starts.ensures.value ∙ ap (λ code. code.starts) c.code-code.ensures.same in
    let begun = begun_state c.begin-head.result c.begin-head.new.self s.machine.slots (last_start s.code.starts) unit_limit
    (c.begin-head.ensures.place ∙ c.last_start.ensures ∙ ap last_start same_starts) c.begin-head.ensures.line
    (c.begin-head.ensures.units ∙ c.unit_limit.ensures.same) c.begin-head.ensures.operands c.begin-head.ensures.return_places
    c.begin-head.ensures.commands c.begin-head.ensures.slots in
    let w = c.requires.0 in
    let r = c.valid_code_runs_well.ensures s.code w (start_of kept) c.code-code.ensures.valid c.self.invariant.0.fits in
    let is : Done (store_of c.run.new.machine) ≡ machine s.code w (start_of kept) =
    ap (λ x. end_of x c.run.new.head c.run.new.machine) (sym c.in-End.is) ∙ c.run.ensures.how w c.requires.1 ∙
    exec_is kept instrs starts same_instrs same_starts (state_of c.begin-head.result c.begin-head.new.self) begun w in
    let back : SameSizes c.copy_from.new.self s.machine.slots =
    record {
      variables = ap length c.copy_from.ensures.variables;
      arrays = ap (map length) c.copy_from.ensures.arrays;
      timers =
          ap length c.copy_from.ensures.timers;
    } in
    let on : SameSizes c.run.new.machine.slots s.machine.slots =
    subst (λ x. SameSizes c.run.new.machine.slots x) c.begin-head.ensures.slots c.run.ensures.keeps.sizes in
    let cells : c.run.new.machine.wrote_cells ≡ false → c.run.new.machine.slots.arrays ≡ c.copy_from.new.self.arrays =
    λ none. (c.run.ensures.keeps.cells none).1 ∙ ap (λ x. x.arrays) c.begin-head.ensures.slots ∙ sym c.copy_from.ensures.arrays in
    (ready_done kept w c.run.new.machine c.self.invariant.0 r is, sizes_on _ _ _ back (sizes_back _ _ on), λ none. sym (cells none))

pub returns-in-End-clause-ready : goal.returns-in-End-clause-ready
returns-in-End-clause-ready g c =
    let s = c.self.inside in
    let kept : Kept = record { code = s.code; store = store_of s.machine; seconds = s.seconds } in
    let instrs = c.as_slice-instrs.result.now in
    let starts = c.as_slice-starts.result.now in
    let same_instrs = c.as_slice-instrs.ensures.value ∙ ap (λ code. code.instrs) c.code-code.ensures.same in
    let same_starts = c.as_slice-starts.ensures.value ∙ ap (λ code. code.starts) c.code-code.ensures.same in
    let begun = begun_state c.begin-head.result c.begin-head.new.self s.machine.slots (last_start s.code.starts) unit_limit
    (c.begin-head.ensures.place ∙ c.last_start.ensures ∙ ap last_start same_starts) c.begin-head.ensures.line
    (c.begin-head.ensures.units ∙ c.unit_limit.ensures.same) c.begin-head.ensures.operands c.begin-head.ensures.return_places
    c.begin-head.ensures.commands c.begin-head.ensures.slots in
    let w = c.requires.0 in
    let r = c.valid_code_runs_well.ensures s.code w (start_of kept) c.code-code.ensures.valid c.self.invariant.0.fits in
    let is : Done (store_of c.run.new.machine) ≡ machine s.code w (start_of kept) =
    ap (λ x. end_of x c.run.new.head c.run.new.machine) (sym c.in-End.is) ∙ c.run.ensures.how w c.requires.1 ∙
    exec_is kept instrs starts same_instrs same_starts (state_of c.begin-head.result c.begin-head.new.self) begun w in
    ready_done kept w c.run.new.machine c.self.invariant.0 r is

pub invariant_of-self-in-Fault : goal.invariant_of-self-in-Fault
invariant_of-self-in-Fault g c =
    let s = c.self.inside in
    let kept : Kept = record { code = s.code; store = store_of s.machine; seconds = s.seconds } in
    let back : SameSizes c.copy_from.new.self s.machine.slots =
    record {
      variables = ap length c.copy_from.ensures.variables;
      arrays = ap (map length) c.copy_from.ensures.arrays;
      timers =
          ap length c.copy_from.ensures.timers;
    } in
    let on : SameSizes c.run.new.machine.slots s.machine.slots =
    subst (λ x. SameSizes c.run.new.machine.slots x) c.begin-head.ensures.slots c.run.ensures.keeps.sizes in
    let before = subst (λ x. SameSizes x s.machine.slots) (sym c.swap.ensures.x_after) back in
    let after = subst (λ x. SameSizes x s.machine.slots) (sym c.swap.ensures.y_after) on in
    let cells : c.run.new.machine.wrote_cells ≡ false → c.run.new.machine.slots.arrays ≡ c.copy_from.new.self.arrays =
    λ none. (c.run.ensures.keeps.cells none).1 ∙ ap (λ x. x.arrays) c.begin-head.ensures.slots ∙ sym c.copy_from.ensures.arrays in (
      ready_fault kept _ c.self.invariant.0 (restored (ap (λ x. x.variables.items) c.swap.ensures.x_after ∙ c.copy_from.ensures.variables)
          (ap (λ x. x.arrays) c.swap.ensures.x_after ∙ c.copy_from.ensures.arrays)
          (ap (λ x. x.timers.items) c.swap.ensures.x_after ∙ c.copy_from.ensures.timers) c.clear.ensures),
      sizes_on _ _ _ after (sizes_back _ _ before),
      λ none. ap (λ x. x.arrays) c.swap.ensures.y_after ∙ cells none ∙ sym (ap (λ x. x.arrays) c.swap.ensures.x_after),
    )

pub unreachable-requires : goal.unreachable-requires
unreachable-requires g c =
    let s = c.self.inside in
    let kept : Kept = record { code = s.code; store = store_of s.machine; seconds = s.seconds } in
    let instrs = c.as_slice-instrs.result.now in
    let starts = c.as_slice-starts.result.now in
    let same_instrs = c.as_slice-instrs.ensures.value ∙ ap (λ code. code.instrs) c.code-code.ensures.same in
    let same_starts = c.as_slice-starts.ensures.value ∙ ap (λ code. code.starts) c.code-code.ensures.same in
    let begun = begun_state c.begin-head.result c.begin-head.new.self s.machine.slots (last_start s.code.starts) unit_limit
    (c.begin-head.ensures.place ∙ c.last_start.ensures ∙ ap last_start same_starts) c.begin-head.ensures.line
    (c.begin-head.ensures.units ∙ c.unit_limit.ensures.same) c.begin-head.ensures.operands c.begin-head.ensures.return_places
    c.begin-head.ensures.commands c.begin-head.ensures.slots in
    let w = c.requires.0 in
    let r = c.valid_code_runs_well.ensures s.code w (start_of kept) c.code-code.ensures.valid c.self.invariant.0.fits in
    let how = c.run.ensures.how w c.requires.1 ∙
    exec_is kept instrs starts same_instrs same_starts (state_of c.begin-head.result c.begin-head.new.self) begun w in
    let goes : Unfinished ≡ end_of c.run.result c.run.new.head c.run.new.machine =
    elim c.in-Following.is [
      | inl on ↦ ap (λ x. end_of x c.run.new.head c.run.new.machine) (sym on)
      | inr at ↦ ap (λ x. end_of x c.run.new.head c.run.new.machine) (sym at)
    ] in
    never kept w c.run.new.machine r Unfinished (λ h. h) (goes ∙ how)

pub returns-in-End-clause-few : goal.returns-in-End-clause-few
returns-in-End-clause-few g c =
    let s = c.self.inside in
    let kept : Kept = record { code = s.code; store = store_of s.machine; seconds = s.seconds } in
    let instrs = c.as_slice-instrs.result.now in
    let starts = c.as_slice-starts.result.now in
    let same_instrs = c.as_slice-instrs.ensures.value ∙ ap (λ code. code.instrs) c.code-code.ensures.same in
    let same_starts = c.as_slice-starts.ensures.value ∙ ap (λ code. code.starts) c.code-code.ensures.same in
    let begun = begun_state c.begin-head.result c.begin-head.new.self s.machine.slots (last_start s.code.starts) unit_limit
    (c.begin-head.ensures.place ∙ c.last_start.ensures ∙ ap last_start same_starts) c.begin-head.ensures.line
    (c.begin-head.ensures.units ∙ c.unit_limit.ensures.same) c.begin-head.ensures.operands c.begin-head.ensures.return_places
    c.begin-head.ensures.commands c.begin-head.ensures.slots in
    let w = c.requires.0 in
    let r = c.valid_code_runs_well.ensures s.code w (start_of kept) c.code-code.ensures.valid c.self.invariant.0.fits in
    let is : Done (store_of c.run.new.machine) ≡ machine s.code w (start_of kept) =
    ap (λ x. end_of x c.run.new.head c.run.new.machine) (sym c.in-End.is) ∙ c.run.ensures.how w c.requires.1 ∙
    exec_is kept instrs starts same_instrs same_starts (state_of c.begin-head.result c.begin-head.new.self) begun w in
    few_done kept w c.run.new.machine r is

pub returns-in-End-clause-bounded : goal.returns-in-End-clause-bounded
returns-in-End-clause-bounded g c =
    let s = c.self.inside in
    let kept : Kept = record { code = s.code; store = store_of s.machine; seconds = s.seconds } in
    let instrs = c.as_slice-instrs.result.now in
    let starts = c.as_slice-starts.result.now in
    let same_instrs = c.as_slice-instrs.ensures.value ∙ ap (λ code. code.instrs) c.code-code.ensures.same in
    let same_starts = c.as_slice-starts.ensures.value ∙ ap (λ code. code.starts) c.code-code.ensures.same in
    let begun = begun_state c.begin-head.result c.begin-head.new.self s.machine.slots (last_start s.code.starts) unit_limit
    (c.begin-head.ensures.place ∙ c.last_start.ensures ∙ ap last_start same_starts) c.begin-head.ensures.line
    (c.begin-head.ensures.units ∙ c.unit_limit.ensures.same) c.begin-head.ensures.operands c.begin-head.ensures.return_places
    c.begin-head.ensures.commands c.begin-head.ensures.slots in
    let w = c.requires.0 in
    let r = c.valid_code_runs_well.ensures s.code w (start_of kept) c.code-code.ensures.valid c.self.invariant.0.fits in
    let steps = steps_is kept instrs starts same_instrs same_starts (state_of c.begin-head.result c.begin-head.new.self) begun w in
    omega (arith, steps, c.run.ensures.counted w c.requires.1, r.few, step_limit_number)

pub returns-in-Fault-clause-bounded : goal.returns-in-Fault-clause-bounded
returns-in-Fault-clause-bounded g c =
    let s = c.self.inside in
    let kept : Kept = record { code = s.code; store = store_of s.machine; seconds = s.seconds } in
    let instrs = c.as_slice-instrs.result.now in
    let starts = c.as_slice-starts.result.now in
    let same_instrs = c.as_slice-instrs.ensures.value ∙ ap (λ code. code.instrs) c.code-code.ensures.same in
    let same_starts = c.as_slice-starts.ensures.value ∙ ap (λ code. code.starts) c.code-code.ensures.same in
    let begun = begun_state c.begin-head.result c.begin-head.new.self s.machine.slots (last_start s.code.starts) unit_limit
    (c.begin-head.ensures.place ∙ c.last_start.ensures ∙ ap last_start same_starts) c.begin-head.ensures.line
    (c.begin-head.ensures.units ∙ c.unit_limit.ensures.same) c.begin-head.ensures.operands c.begin-head.ensures.return_places
    c.begin-head.ensures.commands c.begin-head.ensures.slots in
    let w = c.requires.0 in
    let r = c.valid_code_runs_well.ensures s.code w (start_of kept) c.code-code.ensures.valid c.self.invariant.0.fits in
    let steps = steps_is kept instrs starts same_instrs same_starts (state_of c.begin-head.result c.begin-head.new.self) begun w in
    omega (arith, steps, c.run.ensures.counted w c.requires.1, r.few, step_limit_number)

pub returns-in-End-clause-seen : goal.returns-in-End-clause-seen
returns-in-End-clause-seen g c =
    let s = c.self.inside in
    let kept : Kept = record { code = s.code; store = store_of s.machine; seconds = s.seconds } in
    let instrs = c.as_slice-instrs.result.now in
    let starts = c.as_slice-starts.result.now in
    let same_instrs = c.as_slice-instrs.ensures.value ∙ ap (λ code. code.instrs) c.code-code.ensures.same in
    let same_starts = c.as_slice-starts.ensures.value ∙ ap (λ code. code.starts) c.code-code.ensures.same in
    let begun = begun_state c.begin-head.result c.begin-head.new.self s.machine.slots (last_start s.code.starts) unit_limit
    (c.begin-head.ensures.place ∙ c.last_start.ensures ∙ ap last_start same_starts) c.begin-head.ensures.line
    (c.begin-head.ensures.units ∙ c.unit_limit.ensures.same) c.begin-head.ensures.operands c.begin-head.ensures.return_places
    c.begin-head.ensures.commands c.begin-head.ensures.slots in
    λ w m first past h. subst (λ (k : Kept). g.O.Observer.saw first c.run.new.observer (past ++ machine_sights k.code w (start_of k))) c.self.view_is
    (subst (λ x. g.O.Observer.saw first c.run.new.observer (past ++ x))
    (sights_is kept instrs starts same_instrs same_starts (state_of c.begin-head.result c.begin-head.new.self) begun w)
    (c.run.ensures.seen w m first past h))

pub returns-in-Fault-clause-seen : goal.returns-in-Fault-clause-seen
returns-in-Fault-clause-seen g c =
    let s = c.self.inside in
    let kept : Kept = record { code = s.code; store = store_of s.machine; seconds = s.seconds } in
    let instrs = c.as_slice-instrs.result.now in
    let starts = c.as_slice-starts.result.now in
    let same_instrs = c.as_slice-instrs.ensures.value ∙ ap (λ code. code.instrs) c.code-code.ensures.same in
    let same_starts = c.as_slice-starts.ensures.value ∙ ap (λ code. code.starts) c.code-code.ensures.same in
    let begun = begun_state c.begin-head.result c.begin-head.new.self s.machine.slots (last_start s.code.starts) unit_limit
    (c.begin-head.ensures.place ∙ c.last_start.ensures ∙ ap last_start same_starts) c.begin-head.ensures.line
    (c.begin-head.ensures.units ∙ c.unit_limit.ensures.same) c.begin-head.ensures.operands c.begin-head.ensures.return_places
    c.begin-head.ensures.commands c.begin-head.ensures.slots in
    λ w m first past h. subst (λ (k : Kept). g.O.Observer.saw first c.run.new.observer (past ++ machine_sights k.code w (start_of k))) c.self.view_is
    (subst (λ x. g.O.Observer.saw first c.run.new.observer (past ++ x))
    (sights_is kept instrs starts same_instrs same_starts (state_of c.begin-head.result c.begin-head.new.self) begun w)
    (c.run.ensures.seen w m first past h))
