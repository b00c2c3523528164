-- Which move on the agreement is due to a slot.
use Rattle.std.specs.Prelude.{ℕ, Bool, true, false, not, ◌==◌, ◌&&◌, ◌||◌, nat_lt, nat_le, is_none, if◌then◌else◌, unwrap_or, Option, Some, None}
use Rattle.chare_base.specs.declared.plan.Plan.{Plan}
use Rattle.iteration_agree.specs.declared.round.Round.{Round}
use Rattle.iteration_agree.specs.declared.round.Round.TheVariants.{Quiet, Gather, Agreed}
use Rattle.iteration_agree.specs.declared.round.Standing.{Standing}
use Rattle.node_core.specs.Nodes.{NodeState, all_at, next_begin, rests}
use Rattle.world_core.specs.declared.doing.SlotMove.{SlotMove}
use Rattle.world_core.specs.declared.doing.SlotMove.TheVariants.{See, Rewind, Release, Report, Pack, Begin}
use Rattle.world_core.specs.declared.doing.Since.{Since}
use Rattle.world_core.specs.declared.doing.Since.TheVariants.{Nothing, Ordered, Resumed}

abbrev pub same_round : Round → Round → Bool
same_round (Quiet a) (Quiet b) = a == b
same_round (Gather a f) (Gather b g) = a == b && f == g
same_round (Agreed a j) (Agreed b k) = a == b && j == k
same_round (Quiet a) (Gather b g) = false
same_round (Quiet a) (Agreed b k) = false
same_round (Gather a f) (Quiet b) = false
same_round (Gather a f) (Agreed b k) = false
same_round (Agreed a j) (Quiet b) = false
same_round (Agreed a j) (Gather b g) = false

-- the iteration to which a slot that reported may go back at most: the floor, or the agreed iteration
abbrev pub goes_to : ℕ → Round → Bool
goes_to base (Quiet r) = true
goes_to base (Gather r floor) = nat_le base floor
goes_to base (Agreed r k) = nat_le base k

abbrev pub may_go_back : ℕ → Standing → Bool
may_go_back base t = nat_le base 1000000 && (is_none t.cap || goes_to base t.seen)

abbrev pub is_resumed : Since → Bool
is_resumed Nothing = false
is_resumed Ordered = false
is_resumed Resumed = true

abbrev pub release_due : Standing → Since → Bool
release_due t since = is_resumed since && not t.free && is_none t.cap

-- it reports where it saw the round gather
abbrev pub report_due : Standing → Round → Bool
report_due t (Quiet r) = false
report_due t (Gather r floor) = t.free && is_none t.cap
report_due t (Agreed r k) = false

-- it packs where it saw a round agreed whose iteration all its elements have completed, and none has begun
abbrev pub pack_due : Plan → NodeState → Standing → Round → Option ℕ
pack_due p n t (Quiet r) = None
pack_due p n t (Gather r floor) = None
pack_due p n t (Agreed r k) = if t.top == k && nat_le k p.iterations && not t.packed && all_at k n then Some k else None

-- the iteration from which on it begins nothing, if there is one
abbrev pub limit_seen : Standing → Round → Option ℕ
limit_seen t (Quiet r) = None
limit_seen t (Gather r floor) = Some (unwrap_or t.cap t.top)
limit_seen t (Agreed r k) = Some k

abbrev pub limit_of : Standing → Option ℕ
limit_of t = if not t.free && is_none t.cap then Some t.top else limit_seen t t.seen

abbrev pub is_below : ℕ → Option ℕ → Bool
is_below k None = true
is_below k (Some limit) = nat_lt k limit

-- it begins the next iteration of its elements, where that is its top and the agreement lets it
abbrev pub begin_if : Bool → Standing → Option SlotMove
begin_if next t = if next && nat_lt t.top 1000000 && is_below t.top (limit_of t) then Some (Begin t.top) else None

abbrev pub begin_due : Standing → Option ℕ → Option SlotMove
begin_due t None = None
begin_due t (Some k) = begin_if (k == t.top) t

abbrev pub pack_or_begin : NodeState → Standing → Option ℕ → Option SlotMove
pack_or_begin n t (Some k) = Some (Pack k)
pack_or_begin n t None = begin_due t (next_begin n)

-- those moves that a slot makes unless it waits for Resume
abbrev pub move_on : Plan → NodeState → Standing → Since → Option SlotMove
move_on p n t since =
    if release_due t since then Some Release
    else (if report_due t t.seen then Some Report
    else pack_or_begin n t (pack_due p n t t.seen))

-- a slot that has to go back does that before anything else
abbrev pub move_by : Plan → NodeState → Standing → Option ℕ → Since → Option SlotMove
move_by p n t None since = if rests n then None else move_on p n t since
move_by p n t (Some base) since = if may_go_back base t then Some (Rewind base) else None

-- the first move that is due: none of a node that is spent
abbrev pub move_of : Plan → Round → NodeState → Standing → Option ℕ → Since → Option SlotMove
move_of p round n t back since =
    if is_none n.body then None
    else (if not (same_round t.seen round) then Some See
    else move_by p n t back since)
