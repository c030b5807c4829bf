-- Names that are numbered up to a limit.
use Rattle.std.specs.Prelude.{ℕ, Bool, true, ◌||◌, nat_le, if◌then◌else◌, List, [], ◌∷◌, ◌++◌, length, fold}
use Rattle.vap_check.specs.declared.numbered.Numbered.{Numbered}
use Rattle.vap_check.specs.Names.{among}

-- names each once, of which there may be `most`, and whether there were more
pub record UpTo : Type 0 where
  pub keys : List (List ℕ)
  pub most : ℕ
  pub is_over : Bool

-- what is kept
abbrev pub up_to : Numbered → UpTo
up_to n = record { keys = n.names.keys; most = n.most; is_over = n.is_over }

-- one more name, which goes last where it is new and there may be one more
abbrev pub with_name_up_to : UpTo → List ℕ → UpTo
with_name_up_to u name =
    if u.is_over || among u.keys name then u
    else if nat_le u.most (length u.keys) then record { keys = u.keys; most = u.most; is_over = true }
    else record { keys = u.keys ++ name ∷ []; most = u.most; is_over = u.is_over }

-- more names, one after another
abbrev pub with_names_up_to : UpTo → List (List ℕ) → UpTo
with_names_up_to = fold with_name_up_to
