-- Rounds: their numbers, and who takes part in them.
use Rattle.std.specs.Prelude.{ℕ, ◌≤◌, ◌==◌, Bool, true, ⊤}
use Rattle.iteration_agree.specs.declared.round.Round.{Round}
use Rattle.iteration_agree.specs.declared.round.Round.TheVariants.{Quiet, Gather, Agreed}
use Rattle.iteration_agree.specs.declared.round.Taking.{Taking}
use Rattle.iteration_agree.specs.declared.round.Taking.TheVariants as takings

abbrev pub number : Round → ℕ
number (Quiet r) = r
number (Gather r floor) = r
number (Agreed r k) = r

-- by the number of a replica
abbrev pub takes_part : Taking → ℕ → Bool
takes_part takings.Both replica = true
takes_part (takings.Only one) replica = replica == one

-- a replica that is named is 0 or 1
abbrev pub NamesReplica : Taking → Type 0
NamesReplica takings.Both = ⊤
NamesReplica (takings.Only one) = one ≤ 1

abbrev pub IsQuiet : Round → Type 0
IsQuiet (Quiet r) = ⊤
IsQuiet (Gather r floor) = ⊥
IsQuiet (Agreed r k) = ⊥

abbrev pub IsGather : Round → Type 0
IsGather (Quiet r) = ⊥
IsGather (Gather r floor) = ⊤
IsGather (Agreed r k) = ⊥

abbrev pub IsAgreed : Round → Type 0
IsAgreed (Quiet r) = ⊥
IsAgreed (Gather r floor) = ⊥
IsAgreed (Agreed r k) = ⊤

-- A job has at most this many iterations, and a run's last round at most this number.
abbrev pub most_iterations : ℕ
most_iterations = 1000000

abbrev pub last_round : ℕ
last_round = 1000129
