-- How often something was refused, in how many runs of seconds, and for how long without a break.
use Rattle.std.specs.Prelude.{ℕ, zero, suc, ◌+◌, ◌==◌, max, Bool, true, false, ◌&&◌, List, [], ◌∷◌, count_by, Option, None, Some, if◌then◌else◌, nat_lt}
use Rattle.sig_types.specs.declared.aspect.Rule.{Rule}
use Rattle.sig_types.specs.declared.numbers.GroupNo.{GroupNo}
use Rattle.sig_types.specs.RuleNumbers.{rule_number}
use Rattle.refusal_text.specs.declared.refusal.Refusal.{Refusal}
use Rattle.refusal_text.specs.Words.{group_of, rule_of, second_of}

-- the same group, or none
abbrev pub same_group : Option GroupNo → Option GroupNo → Bool
same_group None None = true
same_group None (Some b) = false
same_group (Some a) None = false
same_group (Some a) (Some b) = a.0 == b.0

-- the refusal is one of a turn of this group, or of a stage command, by this rule
abbrev pub is_of : Option GroupNo → Rule → Refusal → Bool
is_of group rule refusal = (rule_number (rule_of refusal) == rule_number rule) && same_group (group_of refusal) group

-- how often that came
abbrev pub times : List Refusal → Option GroupNo → Rule → ℕ
times found group rule = count_by (is_of group rule) found

-- the refusal is such a one, in this second
abbrev pub is_at : Option GroupNo → Rule → ℕ → Refusal → Bool
is_at group rule t refusal = (second_of refusal == t) && is_of group rule refusal

-- whether it came in this second
abbrev pub is_refused : List Refusal → Option GroupNo → Rule → ℕ → Bool
is_refused found group rule t = nat_lt 0 (count_by (is_at group rule t) found)

-- for how many seconds just before this one it came without a break
abbrev pub unbroken : (ℕ → Bool) → ℕ → ℕ
unbroken f zero = 0
unbroken f (suc t) = if f t then unbroken f t + 1 else 0

-- in how many seconds before this one a run of such seconds begins
abbrev pub runs_below : (ℕ → Bool) → ℕ → ℕ
runs_below f zero = 0
runs_below f (suc t) = if f t && (unbroken f t == 0) then runs_below f t + 1 else runs_below f t

-- the length of the longest run of such seconds before this one
abbrev pub longest_below : (ℕ → Bool) → ℕ → ℕ
longest_below f zero = 0
longest_below f (suc t) = max (longest_below f t) (unbroken f (suc t))

-- the second after the last one in which something was refused
abbrev pub after_last : List Refusal → ℕ
after_last [] = 0
after_last (x ∷ xs) = max (second_of x + 1) (after_last xs)

-- in how many runs of seconds that came
abbrev pub runs : List Refusal → Option GroupNo → Rule → ℕ
runs found group rule = runs_below (is_refused found group rule) (after_last found)

-- the seconds of the longest one
abbrev pub longest : List Refusal → Option GroupNo → Rule → ℕ
longest found group rule = longest_below (is_refused found group rule) (after_last found)
