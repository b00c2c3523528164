-- What a node can still do, at most.
use Rattle.std.specs.Prelude.{◌≡◌, ℕ, zero, suc, ◌+◌, ◌-◌, ◌<◌, ◌==◌, Bool, true, false, if◌then◌else◌, List, [], ◌∷◌, length, is_some, Option, Some, None}
use Rattle.chare_base.specs.declared.message.Port.{Port}
use Rattle.chare_base.specs.declared.message.Port.TheVariants as ports
use Rattle.chare_base.specs.declared.plan.ElementId.{ElementId}
use Rattle.chare_base.specs.declared.plan.Part.{Part}
use Rattle.chare_base.specs.declared.plan.Plan.{Plan}
use Rattle.chare_base.specs.declared.plan.Reduction.{Reduction}
use Rattle.chare_base.specs.declared.plan.Spot.{Spot}
use Rattle.chare_base.specs.declared.plan.Stmt.{Stmt, out-Stmt}
use Rattle.chare_base.specs.declared.slots.LineSet.{LineSet}
use Rattle.chare_base.specs.declared.slots.SlotId.{SlotId}
use Rattle.chare_base.specs.Elements.{parts_at, place_of, steps_of}
use Rattle.chare_base.specs.Entries.{reduction_of}
use Rattle.chare_base.specs.Placing.{members}
use Rattle.chare_base.specs.Ports.{fed_by}
use Rattle.chare_eval.specs.Inside.{is_done, none_done}
use Rattle.fault_script.specs.declared.fault.Fault.{Fault}
use Rattle.letter_post.specs.declared.letter.Letter.{Letter}
use Rattle.letter_post.specs.declared.letter.Letter.TheVariants as letters
use Rattle.letter_post.specs.declared.letter.Sent.{Sent}
use Rattle.letter_post.specs.Orders.{is_mail}
use Rattle.letter_post.specs.Truth.{in_array}
use Rattle.object_steps.specs.Objects.{Progress}
use Rattle.object_steps.specs.Partial.{given_at}
use Rattle.pup_state.specs.declared.piece.Piece.{Piece}
use Rattle.node_core.specs.declared.turn.Turn.TheVariants as turns
use Rattle.node_core.specs.Gatherings.{Gathering}
use Rattle.node_core.specs.Keeps.{Keeps}
use Rattle.node_core.specs.Nodes.{Body, NodeState, Outcome, first_running, node_at, node_can_run, node_heard, node_packed, node_ran, outcome_of, rests}
use Rattle.node_core.specs.Rosters.{node_count, nodes_with}
use Rattle.node_core.specs.Starts.{start_state}

abbrev pub sum : {A : Type 0} → (A → ℕ) → List A → ℕ
sum f [] = 0
sum f (x ∷ xs) = f x + sum f xs

-- whether a list begins with a number
abbrev pub is_first : ℕ → List ℕ → Bool
is_first e [] = false
is_first e (x ∷ more) = x == e

-- ---- letters

-- the nodes on which elements of a reduction's array live
abbrev pub sharers_in : Plan → List ℕ → Option Reduction → List ℕ
sharers_in p place None = []
sharers_in p place (Some x) = nodes_with p place x.owner (node_count place)

abbrev pub sharers : Plan → List ℕ → ℕ → List ℕ
sharers p place r = sharers_in p place (reduction_of p r)

-- Hearing a share; the first sharer's carries the totals.
abbrev pub share_weight : Plan → List ℕ → ℕ → ℕ → ℕ
share_weight p place r j = suc (if is_first j (sharers p place r) then length (sharers p place r) else 0)

-- hearing a letter, and what hearing it sends
abbrev pub weight : Plan → List ℕ → Letter → ℕ
weight p place (letters.Parcel stamp entry k to payload) = 1
weight p place (letters.Partial stamp r k node value) = share_weight p place r.0 node
weight p place (letters.Total stamp r k value) = 1
weight p place (letters.Piece stamp piece) = 2
weight p place (letters.VerdictOf first second node k verdict piece) = 1
weight p place (letters.Lend k fresh) = 1
weight p place (letters.Take stamp k live piece) = 1
weight p place (letters.Restore stamp k live) = 1
weight p place (letters.Commit stamp k live) = 1
weight p place (letters.Resume stamp) = 1
weight p place (letters.Died stamp slot line) = 1
weight p place letters.Stop = 1

abbrev pub sent_weight : Plan → List ℕ → Sent → ℕ
sent_weight p place sent = weight p place sent.letter

-- ---- elements

-- A contribution of a node's first element of its array carries the node's share.
abbrev pub contribution_cost : Plan → List ℕ → ℕ → ℕ → ℕ
contribution_cost p place e r =
    if is_first e (in_array p (place_of p e).array (members place (node_at place e))) then share_weight p place r (node_at place e) else 0

-- hearing what is sent to a port
abbrev pub port_cost : Plan → List ℕ → ℕ → Option Port → ℕ
port_cost p place e None = 0
port_cost p place e (Some (ports.Entry x)) = 1
port_cost p place e (Some (ports.Total r)) = contribution_cost p place e r.0

abbrev pub stmt_cost : Plan → List ℕ → ℕ → Stmt → ℕ
stmt_cost p place e stmt = port_cost p place e (fed_by (out-Stmt stmt))

-- running a part, and hearing what it sends
abbrev pub part_cost : Plan → List ℕ → ℕ → Part → ℕ
part_cost p place e part = suc (sum (stmt_cost p place e) part.block)

-- those of a step's parts that aren't done, the first of which has number q
abbrev pub parts_cost : Plan → List ℕ → ℕ → List Bool → ℕ → List Part → ℕ
parts_cost p place e done q [] = 0
parts_cost p place e done q (part ∷ more) = (if is_done done q then 0 else part_cost p place e part) + parts_cost p place e done (suc q) more

-- n steps, from s on
abbrev pub steps_cost : Plan → List ℕ → ℕ → ℕ → ℕ → ℕ
steps_cost p place e s zero = 0
steps_cost p place e s (suc n) = parts_cost p place e none_done 0 (parts_at p e s) + steps_cost p place e (suc s) n

abbrev pub round_cost : Plan → List ℕ → ℕ → ℕ
round_cost p place e = steps_cost p place e 0 (length (steps_of p e))

abbrev pub times : ℕ → ℕ → ℕ
times zero r = 0
times (suc n) r = r + times n r

-- what is left of an iteration that has begun
abbrev pub left_in : Plan → List ℕ → ℕ → List Bool → ℕ → ℕ
left_in p place e done s = parts_cost p place e done 0 (parts_at p e s) + steps_cost p place e (suc s) (length (steps_of p e) - suc s)

abbrev pub left_at : Plan → List ℕ → Progress → Option ℕ → ℕ
left_at p place o None = times (p.iterations - o.done) (round_cost p place o.element.0)
left_at p place o (Some s) = left_in p place o.element.0 o.parts s + times (p.iterations - suc o.done) (round_cost p place o.element.0)

abbrev pub left_of : Plan → List ℕ → Progress → ℕ
left_of p place o = left_at p place o o.step

-- ---- nodes

-- a share that is on its way through a node
abbrev pub gathering_left : Plan → List ℕ → ℕ → Gathering → ℕ
gathering_left p place j g = if is_some (given_at g.gathered.given 0) then share_weight p place g.reduction.0 j else 0

-- totals that are on their way through node 0
abbrev pub totals_left : Plan → List ℕ → Gathering → ℕ
totals_left p place g = if is_some (given_at g.gathered.given 0) then length (sharers p place g.reduction.0) else 0

-- packing, and what packing sends
abbrev pub to_pack : Option Piece → ℕ
to_pack None = 3
to_pack (Some piece) = 0

abbrev pub body_left : Plan → List ℕ → ℕ → Body → ℕ
body_left p place j b =
    sum (left_of p place) b.objects + (sum (gathering_left p place j) b.gatherings + (sum (totals_left p place) b.totals + to_pack b.fresh))

abbrev pub left_by : Plan → List ℕ → ℕ → Option Body → ℕ
left_by p place j None = 0
left_by p place j (Some b) = body_left p place j b

unfoldable pub node_left : Plan → List ℕ → NodeState → ℕ
node_left p place n = left_by p place n.slot.node n.body

unfoldable pub outcome_left : Plan → List ℕ → Outcome → ℕ
outcome_left p place o = node_left p place o.node + sum (sent_weight p place) o.out

-- ---- laws

-- the element that is named as the first that can run runs
pub record Runs (p : Plan) (script : List Fault) (place : List ℕ) (limit : ℕ) (n : NodeState) (e : ElementId) : Type 0 where
  pub spot : Spot
  pub out : List Sent
  pub is : (node_ran p script place limit e.0 n).turn ≡ turns.Ran e spot out

abbrev pub FirstRuns : Type 0
FirstRuns = (p : Plan) (script : List Fault) (place : List ℕ) (limit : ℕ) (n : NodeState) (e : ElementId) → Keeps p script place n → first_running p limit n ≡ Some e → Runs p script place limit n e

-- an element that can run runs a part
pub record RunsOne (p : Plan) (script : List Fault) (place : List ℕ) (limit e : ℕ) (n : NodeState) : Type 0 where
  pub element : ElementId
  pub spot : Spot
  pub out : List Sent
  pub is : (node_ran p script place limit e n).turn ≡ turns.Ran element spot out

abbrev pub EachRuns : Type 0
EachRuns = (p : Plan) (script : List Fault) (place : List ℕ) (limit e : ℕ) (n : NodeState) → Keeps p script place n → rests n ≡ false → node_can_run p limit n e ≡ true → RunsOne p script place limit e n

-- each event leaves less
abbrev pub RunsLower : Type 0
RunsLower = (p : Plan) (script : List Fault) (place : List ℕ) (limit e : ℕ) (n : NodeState) (f : ElementId) (spot : Spot) (out : List Sent) → Keeps p script place n →
    (node_ran p script place limit e n).turn ≡ turns.Ran f spot out → outcome_left p place (outcome_of (node_ran p script place limit e n)) < node_left p place n

abbrev pub PacksLower : Type 0
PacksLower = (p : Plan) (script : List Fault) (place : List ℕ) (k : ℕ) (n : NodeState) (b : Body) → n.body ≡ Some b → b.fresh ≡ None →
    outcome_left p place (node_packed p script k n) < node_left p place n

-- a letter that is no order
abbrev pub HearsLower : Type 0
HearsLower = (p : Plan) (script : List Fault) (place : List ℕ) (letter : Letter) (n : NodeState) → Keeps p script place n → is_mail letter ≡ true →
    outcome_left p place (node_heard p script place letter n) < node_left p place n + weight p place letter

-- at the opening: every iteration of each element, and the pack
abbrev pub StartLeaves : Type 0
StartLeaves = (p : Plan) (script : List Fault) (place : List ℕ) (slot : SlotId) (live : LineSet) →
    node_left p place (start_state p script place slot live) ≡ sum (λ e. times p.iterations (round_cost p place e)) (members place slot.node) + 3
