-- Names of a program that lack a use, and what is told of them.
use Rattle.std.specs.Prelude.{ℕ, if◌then◌else◌, List, [], ◌∷◌, ◌++◌, map, filter, flat_map}
use Rattle.std.specs.Str.{bytes_eq}
use Rattle.vap_ast.specs.Syntax.{Array, Constant, Program, Routine}
use Rattle.vap_ast.specs.Tree.{program_of}
use Rattle.vap_check.specs.Names.{among}
use Rattle.vap_check.specs.Numbers.{Meant}
use Rattle.program_check.specs.declared.lacks.Lack.{Lack}
use Rattle.program_check.specs.declared.lacks.Lack.TheVariants as lack
use Rattle.program_check.specs.declared.uses.NameUse.{NameUse}
use Rattle.program_check.specs.declared.uses.Sort.{Sort}
use Rattle.program_check.specs.declared.uses.Sort.TheVariants as sort
use Rattle.program_check.specs.declared.uses.Use.{Use}
use Rattle.program_check.specs.declared.uses.Use.TheVariants as how
use Rattle.program_check.specs.declared.warnings.Meant.TheVariants.{Name}
use Rattle.program_check.specs.declared.warnings.ProgramWarning.TheVariants.{Lacking}
use Rattle.program_check.specs.declared.warnings.Warned.{Warned}
use Rattle.program_check.specs.Firsts.{firsts}
use Rattle.program_check.specs.Names.{is_lacking, names_used, sites_of}

-- a use of a name, as a warning of what the name lacks
abbrev pub lacking_use : Lack → NameUse → Warned
lacking_use what r = record { line = r.line; meant = Name; warning = Lacking what r.name }

-- ---- by uses

-- the uses in one way of the names of a sort that are used nowhere in another way
abbrev pub sites_lacking : Meant → Use → Sort → Use → List NameUse
sites_lacking m has wanted lacks =
    filter (is_lacking m.names wanted (names_used lacks (program_of m.tree))) (sites_of has (program_of m.tree))

-- the first such use of each name, as a warning
unfoldable pub lacking : Meant → Use → Sort → Use → Lack → List Warned
lacking m has wanted lacks what = map (lacking_use what) (firsts bytes_eq (λ r. r.name) (sites_lacking m has wanted lacks))

-- the variables that are read and never assigned
abbrev pub unassigned : Meant → List Warned
unassigned m = lacking m how.Read sort.Variable how.Assigned lack.Unassigned

-- the variables that are assigned and never read
abbrev pub unread : Meant → List Warned
unread m = lacking m how.Assigned sort.Variable how.Read lack.Unread

-- the timers that are read and never started
abbrev pub unstarted : Meant → List Warned
unstarted m = lacking m how.Read sort.Timer how.Started lack.Unstarted

-- the timers that are started and never read
abbrev pub unread_timers : Meant → List Warned
unread_timers m = lacking m how.Started sort.Timer how.Read lack.UnreadTimer

-- the labels that no jump goes to
abbrev pub unused_labels : Meant → List Warned
unused_labels m = lacking m how.Label sort.Any how.Jumped lack.UnusedLabel

-- ---- by declarations

-- the name of a declared constant with its line
abbrev pub constant_named : Constant → NameUse
constant_named c = record { line = c.line; name = c.name }

-- that of a declared array
abbrev pub array_named : Array → NameUse
array_named a = record { line = a.line; name = a.name }

-- that of a subroutine
abbrev pub sub_named : Routine → NameUse
sub_named r = record { line = r.line; name = r.name }

-- a declared name that is none of those used, as a warning
abbrev pub unused_one : Lack → List (List ℕ) → NameUse → List Warned
unused_one what used r = if among used r.name then [] else lacking_use what r ∷ []

-- the declared names that are none of those used, as warnings
abbrev pub unused : Lack → List (List ℕ) → List NameUse → List Warned
unused what used declared = flat_map (unused_one what used) declared

-- the constants that are never read
unfoldable pub unused_constants : Program → List Warned
unused_constants p = unused lack.UnusedConstant (names_used how.Read p) (map constant_named p.consts)

-- the arrays of which no cell is read
unfoldable pub unread_arrays : Program → List Warned
unread_arrays p = unused lack.UnreadArray (names_used how.Cell p) (map array_named p.arrays)

-- the subroutines that are never called
unfoldable pub uncalled_subs : Program → List Warned
uncalled_subs p = unused lack.UncalledSub (names_used how.Called p) (map sub_named p.subs)

-- the declarations that are never used
abbrev pub unused_declared : Program → List Warned
unused_declared p = unused_constants p ++ (unread_arrays p ++ uncalled_subs p)

-- all of these but the variables that are never assigned
abbrev pub all_unused : Meant → List Warned
all_unused m = unread m ++ (unstarted m ++ (unread_timers m ++ (unused_labels m ++ unused_declared (program_of m.tree))))
