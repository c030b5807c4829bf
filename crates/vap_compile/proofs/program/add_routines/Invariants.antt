use Rattle.std.proofs.Common.{◌≡◌, ◌+◌, ◌++◌, drop, length, map}
use Rattle.vap_ast.specs.Tree.{routine_of}
use Rattle.vap_check.specs.Accepted.{bodies_size}
use Rattle.vap_compile.specs.Layout.{routines_code, routine_starts}
use Rattle.vap_compile.proofs.program.add_routines.Given as goal

-- what is there and the rest of the routines is the whole, and as long
abbrev pub invariant-loop-sub : goal.invariant-loop-sub
invariant-loop-sub l = record {
  instrs : l.routines.instrs.items ++ routines_code l.checked.names (length l.routines.instrs.items)
      (map (λ r. r.body) (map routine_of (drop l.sub-index l.subs))) ≡ l.fn.routines.instrs.items
      ++ routines_code l.checked.names (length l.fn.routines.instrs.items)
      (map (λ r. r.body) (map routine_of l.subs));
  starts : l.routines.starts.items ++ routine_starts (length l.routines.instrs.items)
      (map (λ r. r.body) (map routine_of (drop l.sub-index l.subs))) ≡ l.fn.routines.starts.items
      ++ routine_starts (length l.fn.routines.instrs.items) (map (λ r. r.body) (map routine_of l.subs));
  long : length l.routines.instrs.items + bodies_size
      (map (λ r. r.body) (map routine_of (drop l.sub-index l.subs))) ≡ length
      l.fn.routines.instrs.items + bodies_size (map (λ r. r.body) (map routine_of l.subs));
}
