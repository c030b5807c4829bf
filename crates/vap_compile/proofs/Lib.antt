-- How long the code of a program is.
pub mod Lengths
-- The code of a program means what the program means: runs of the machine, values, where the code carries items out, how the
-- machine follows their meaning, how the code is laid, and the whole.
pub mod Runs
pub mod Values
pub mod Carries
pub mod Follows
pub mod Laid
pub mod Means
-- The code of a program is valid: operands along the code, facts of each instruction, targets, stretches and commands,
-- routines, and the whole.
pub mod Rises
pub mod Heights
pub mod Standing
pub mod Each
pub mod Targets
pub mod Placed
pub mod BackTables
pub mod Weights
pub mod Bounds
pub mod Routines
pub mod Validity
pub mod Correct
-- What the compiler's functions put one after another.
pub mod Joined
pub mod EmittedItems
pub mod LabelTable
pub mod AddedRoutines
