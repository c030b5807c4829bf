-- What is said of a refused turn, from what is kept of each group.
use Rattle.std.specs.Prelude.{ℕ, zero, suc, ◌+◌, ◌-◌, Bool, true, false, not, ◌&&◌, List, length, Option, None, Some, is_some, is_none, if◌then◌else◌, nat_lt, nat_le, ◌==◌}
use Rattle.sig_types.specs.declared.aspect.Aspect.{Aspect}
use Rattle.sig_types.specs.declared.aspect.Rule.{Rule}
use Rattle.sig_types.specs.declared.aspect.Rule.TheVariants as rule
use Rattle.sig_types.specs.declared.numbers.GroupNo.{GroupNo}
use Rattle.sig_types.specs.declared.refused.TurnRefusal.{TurnRefusal}
use Rattle.sig_types.specs.Rules.{Rules}
use Rattle.sig_types.specs.Turns.{Picture, shown, is_red, is_green, is_on}
use Rattle.sig_types.specs.Words.{least_below}
use Rattle.log_judge.specs.declared.find.Terms.{Terms}
use Rattle.log_judge.specs.declared.past.GroupPast.{GroupPast}
use Rattle.log_judge.specs.declared.why.Finding.{Finding}
use Rattle.log_judge.specs.declared.why.Finding.TheVariants.{Borne, Unknown, Contradicted}
use Rattle.log_judge.specs.declared.why.Reason.{Reason}
use Rattle.log_judge.specs.declared.why.Reason.TheVariants as reason
use Rattle.log_judge.specs.Breaches.{is_known, no}
use Rattle.log_judge.specs.Found.{past_at, last_end_with}
use Rattle.log_judge.specs.Refused.{no_turn}

-- Of three answers: this is so, and that
abbrev pub both : Finding → Finding → Finding
both Borne y = y
both Contradicted y = Contradicted
both Unknown Borne = Unknown
both Unknown Unknown = Unknown
both Unknown Contradicted = Contradicted

-- this is not so
abbrev pub unless : Finding → Finding
unless Borne = Contradicted
unless Unknown = Unknown
unless Contradicted = Borne

-- it is known whether this is so
abbrev pub certainly : Bool → Finding
certainly true = Borne
certainly false = Contradicted

-- this where that is so
abbrev pub where_so : Bool → Finding → Finding
where_so true y = y
where_so false y = Contradicted

-- what is shown since second s, as far as the log shows it, has lasted less than its least time in second t
abbrev pub short_now : Terms → ℕ → ℕ → ℕ → Finding
short_now k t s least = where_so (nat_lt t (s + least)) (if is_known k s then Borne else Unknown)

-- a green in second due comes less than the intergreen after the last end
abbrev pub missed_now : ℕ → Option ℕ → Option ℕ → Finding
missed_now due None ended = Contradicted
missed_now due (Some z) None = where_so (nat_lt due z) Unknown
missed_now due (Some z) (Some b) = certainly (nat_lt due (b + z))

-- the last end of group i with the picture of second t
abbrev pub ended_now : ℕ → Picture → List GroupPast → Picture → ℕ → Option ℕ
ended_now t before pasts p i = last_end_with t (shown before i) (shown p i) (past_at pasts i).last_end

-- the intergreen of no group below n is missed by a green of g in second due
abbrev pub none_missed : Rules → ℕ → Picture → List GroupPast → Picture → ℕ → ℕ → ℕ → Finding
none_missed r t before pasts p g due zero = Borne
none_missed r t before pasts p g due (suc n) =
    both (none_missed r t before pasts p g due n) (unless (missed_now due (r.between n g) (ended_now t before pasts p n)))

-- What group i shows when the start of g is decided: starts come group by group, so one of a higher group isn't shown yet.
abbrev pub so_far_now : Picture → Picture → ℕ → ℕ → Aspect
so_far_now before p g i = if nat_le g i && (is_red (shown before i) && is_on (shown p i)) then shown before i else shown p i

-- the lowest group in conflict with g that is on then
abbrev pub lowest_on_now : Rules → Picture → Picture → ℕ → Option ℕ
lowest_on_now r before p g = least_below (λ i. is_some (r.between i g) && is_on (so_far_now before p g i)) r.count

-- this number is that one
abbrev pub is_at : Option ℕ → ℕ → Bool
is_at None i = false
is_at (Some j) i = j == i

-- the end of g is refused for this rule and the sake of this other group
abbrev pub end_finding : Rules → Terms → ℕ → Picture → List GroupPast → ℕ → Rule → Option GroupNo → Finding
end_finding r k t before pasts g rule.Sequence None = certainly (not (is_green (shown before g)))
end_finding r k t before pasts g rule.MinGreen None =
    where_so (is_green (shown before g)) (short_now k t (past_at pasts g).since (r.minimum_green g))
end_finding r k t before pasts g rule.MinRed None = Contradicted
end_finding r k t before pasts g rule.Conflict None = Contradicted
end_finding r k t before pasts g rule.Intergreen None = Contradicted
end_finding r k t before pasts g rule.Running None = Contradicted
end_finding r k t before pasts g rule.WrongStage None = Contradicted
end_finding r k t before pasts g rule.NoInterstage None = Contradicted
end_finding r k t before pasts g named (Some i) = Contradicted

-- the red of g is long enough for a start
abbrev pub red_is_enough : Rules → Terms → ℕ → List GroupPast → ℕ → Finding
red_is_enough r k t pasts g = unless (short_now k t (past_at pasts g).since (r.minimum_red g))

-- the start of g is refused for this rule and the sake of this other group
abbrev pub start_finding : Rules → Terms → ℕ → Picture → List GroupPast → Picture → ℕ → Rule → Option GroupNo → Finding
start_finding r k t before pasts p g rule.Sequence None = certainly (not (is_red (shown before g)))
start_finding r k t before pasts p g rule.MinRed None =
    where_so (is_red (shown before g)) (short_now k t (past_at pasts g).since (r.minimum_red g))
start_finding r k t before pasts p g rule.MinGreen None = Contradicted
start_finding r k t before pasts p g rule.Conflict None = Contradicted
start_finding r k t before pasts p g rule.Intergreen None = Contradicted
start_finding r k t before pasts p g rule.Running None = Contradicted
start_finding r k t before pasts p g rule.WrongStage None = Contradicted
start_finding r k t before pasts p g rule.NoInterstage None = Contradicted
start_finding r k t before pasts p g rule.Conflict (Some i) =
    where_so (is_red (shown before g) && is_at (lowest_on_now r before p g) i.0) (red_is_enough r k t pasts g)
start_finding r k t before pasts p g rule.Intergreen (Some i) =
    where_so (is_red (shown before g) && is_none (lowest_on_now r before p g))
    (both (red_is_enough r k t pasts g)
    (both (none_missed r t before pasts p g (t + r.red_amber g) i.0)
    (missed_now (t + r.red_amber g) (r.between i.0 g) (ended_now t before pasts p i.0))))
start_finding r k t before pasts p g rule.Sequence (Some i) = Contradicted
start_finding r k t before pasts p g rule.MinGreen (Some i) = Contradicted
start_finding r k t before pasts p g rule.MinRed (Some i) = Contradicted
start_finding r k t before pasts p g rule.Running (Some i) = Contradicted
start_finding r k t before pasts p g rule.WrongStage (Some i) = Contradicted
start_finding r k t before pasts p g rule.NoInterstage (Some i) = Contradicted

-- a refused turn is borne out by the picture of second t: it is an end where its group is on in it, and else a start
abbrev pub finding_now : Rules → Terms → ℕ → Picture → List GroupPast → Picture → TurnRefusal → Finding
finding_now r k t before pasts p turn =
    where_so (no_turn (shown before turn.group.0) (shown p turn.group.0))
    (if is_on (shown p turn.group.0) then end_finding r k t before pasts turn.group.0 turn.rule turn.other
    else start_finding r k t before pasts p turn.group.0 turn.rule turn.other)

-- the seconds that a green in second due lacks
abbrev pub lacks_now : ℕ → Option ℕ → Option ℕ → ℕ
lacks_now due None ended = 0
lacks_now due (Some z) None = 0
lacks_now due (Some z) (Some b) = b + z - due

-- of the groups below n the one from which most are lacking, the lowest of several, with these
abbrev pub most_lacking : (ℕ → ℕ) → ℕ → ℕ × ℕ
most_lacking f zero = (0, 0)
most_lacking f (suc n) = if nat_lt (most_lacking f n).1 (f n) then (n, f n) else most_lacking f n

-- The numbers. An end of g:
abbrev pub end_reason_now : Rules → List GroupPast → ℕ → Rule → Reason
end_reason_now r pasts g rule.Sequence = reason.NotYet (past_at pasts g).since (r.red_amber g)
end_reason_now r pasts g rule.MinGreen = reason.Least (past_at pasts g).since (r.minimum_green g)
end_reason_now r pasts g rule.MinRed = reason.Nothing
end_reason_now r pasts g rule.Conflict = reason.Nothing
end_reason_now r pasts g rule.Intergreen = reason.Nothing
end_reason_now r pasts g rule.Running = reason.Nothing
end_reason_now r pasts g rule.WrongStage = reason.Nothing
end_reason_now r pasts g rule.NoInterstage = reason.Nothing

-- since when group i is on with the picture of second t
abbrev pub on_from_now : ℕ → Picture → List GroupPast → ℕ → ℕ
on_from_now t before pasts i = if is_on (shown before i) then (past_at pasts i).on_since else t

-- a green in second t + ra, after an end of the other group, and the group from which most is lacking
abbrev pub uncleared_now : ℕ → ℕ → Option ℕ → Option ℕ → GroupNo → ℕ × ℕ → Reason
uncleared_now t ra (Some z) (Some b) other most = reason.Uncleared other b (t + ra) z (t + most.1) (no most.0)
uncleared_now t ra (Some z) None other most = reason.Nothing
uncleared_now t ra None ended other most = reason.Nothing

-- what each group lacks for a green of g in second t + red-amber, and the most of it
abbrev pub most_lacking_now : Rules → ℕ → Picture → List GroupPast → Picture → ℕ → ℕ × ℕ
most_lacking_now r t before pasts p g =
    most_lacking (λ i. lacks_now (t + r.red_amber g) (r.between i g) (ended_now t before pasts p i)) (length p)

-- a start of g
abbrev pub start_reason_now : Rules → ℕ → Picture → List GroupPast → Picture → ℕ → Rule → Option GroupNo → Reason
start_reason_now r t before pasts p g rule.Sequence other = reason.NotYet (past_at pasts g).since (r.amber g)
start_reason_now r t before pasts p g rule.MinRed other = reason.Least (past_at pasts g).since (r.minimum_red g)
start_reason_now r t before pasts p g rule.Conflict (Some i) = reason.On i (on_from_now t before pasts i.0)
start_reason_now r t before pasts p g rule.Conflict None = reason.Nothing
start_reason_now r t before pasts p g rule.Intergreen (Some i) =
    uncleared_now t (r.red_amber g) (r.between i.0 g) (ended_now t before pasts p i.0) i (most_lacking_now r t before pasts p g)
start_reason_now r t before pasts p g rule.Intergreen None = reason.Nothing
start_reason_now r t before pasts p g rule.MinGreen other = reason.Nothing
start_reason_now r t before pasts p g rule.Running other = reason.Nothing
start_reason_now r t before pasts p g rule.WrongStage other = reason.Nothing
start_reason_now r t before pasts p g rule.NoInterstage other = reason.Nothing

-- a turn that was refused in the second that shows p
abbrev pub reason_now : Rules → ℕ → Picture → List GroupPast → Picture → TurnRefusal → Reason
reason_now r t before pasts p turn =
    if is_on (shown p turn.group.0) then end_reason_now r pasts turn.group.0 turn.rule
    else start_reason_now r t before pasts p turn.group.0 turn.rule turn.other
