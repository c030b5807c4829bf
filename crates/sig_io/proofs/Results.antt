-- What holds of a result whichever it is.
use Rattle.std.proofs.Common.{Result, Ok, Err}
use Rattle.std.specs.Prelude.{IfOk, OnErr}

pub IfOk-all : {T E : Type 0} (r : Result T E) (P : T → Type 0) → ((x : T) → P x) → IfOk r P
IfOk-all (Ok x) P all = all x
IfOk-all (Err e) P all = tt

pub OnErr-holds : {T E : Type 0} (r : Result T E) (P : Type 0) → P → OnErr r P
OnErr-holds (Ok x) P holds = tt
OnErr-holds (Err e) P holds = holds
