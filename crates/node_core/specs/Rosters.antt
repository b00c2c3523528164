-- Where a node's elements are.
use Rattle.std.specs.Prelude.{◌≤◌, ℕ, zero, suc, Bool, true, false, slice_set, ◌==◌, nat_lt, if◌then◌else◌, List, [], ◌∷◌, ◌++◌, length, max, slice_index_or, Option, Some, None}
use Rattle.chare_base.specs.declared.plan.Plan.{Plan}
use Rattle.chare_base.specs.Elements.{place_of}
use Rattle.chare_base.specs.Placing.{members}
use Rattle.letter_post.specs.Truth.{in_array}

-- what a node knows of where elements live, fixed at its start
pub record Roster : Type 0 where
  -- how often each element runs its steps
  pub iterations : ℕ
  -- for each element of the plan the number of its object, where it lives here
  pub seats : List (Option ℕ)
  -- for each object its element's number among those of its array that live here
  pub ranks : List ℕ
  -- for each array how many of its elements live here
  pub counts : List ℕ
  -- at node 0, for each array the nodes on which elements of it live, in order
  pub sharers : List (List ℕ)

-- for each element the number of its object on node j, where it lives there; the first that does has number i
abbrev pub seats_from : ℕ → List ℕ → ℕ → List (Option ℕ)
seats_from i [] j = []
seats_from i (node ∷ more) j = if node == j then Some i ∷ seats_from (suc i) more j else None ∷ seats_from i more j

-- how many of these elements belong to an array
abbrev pub count_in : Plan → ℕ → List ℕ → ℕ
count_in p array es = length (in_array p array es)

-- for each of these elements how many of its array are before it
abbrev pub ranks_after : Plan → List ℕ → List ℕ → List ℕ
ranks_after p before [] = []
ranks_after p before (e ∷ more) = count_in p (place_of p e).array before ∷ ranks_after p (before ++ e ∷ []) more

-- for each of the first arrays how many of these elements belong to it
abbrev pub counts_to : Plan → List ℕ → ℕ → List ℕ
counts_to p es zero = []
counts_to p es (suc a) = counts_to p es a ++ count_in p a es ∷ []

-- whether elements of an array live on a node
abbrev pub shares : Plan → List ℕ → ℕ → ℕ → Bool
shares p place array j = nat_lt 0 (count_in p array (members place j))

-- those of the first j nodes on which elements of an array live
abbrev pub nodes_with : Plan → List ℕ → ℕ → ℕ → List ℕ
nodes_with p place array zero = []
nodes_with p place array (suc j) = nodes_with p place array j ++ (if shares p place array j then j ∷ [] else [])

-- for each of the first a arrays
abbrev pub sharers_to : Plan → List ℕ → ℕ → ℕ → List (List ℕ)
sharers_to p place nodes zero = []
sharers_to p place nodes (suc a) = sharers_to p place nodes a ++ nodes_with p place a nodes ∷ []

-- how many nodes a placement has
abbrev pub node_count : List ℕ → ℕ
node_count [] = 0
node_count (j ∷ more) = max (suc j) (node_count more)

-- the roster of node j
unfoldable pub roster_of : Plan → List ℕ → ℕ → Roster
roster_of p place j = record {
  iterations = p.iterations;
  seats = seats_from 0 place j;
  ranks = ranks_after p [] (members place j);
  counts = counts_to p (members place j) (length p.arrays);
  sharers = if j == 0 then sharers_to p place (node_count place) (length p.arrays) else [];
}

-- ---- what is looked up

-- the number of an element's object
abbrev pub seat_of : Roster → ℕ → Option ℕ
seat_of roster e = slice_index_or roster.seats e None

-- an object's number among those of its array
abbrev pub rank_of : Roster → ℕ → ℕ
rank_of roster i = slice_index_or roster.ranks i 0

-- how many elements of an array live here
abbrev pub count_of : Roster → ℕ → ℕ
count_of roster array = slice_index_or roster.counts array 0

-- the nodes on which elements of an array live
abbrev pub sharers_of : Roster → ℕ → List ℕ
sharers_of roster array = slice_index_or roster.sharers array []

-- the place of a node in a list, whose first has number i
abbrev pub number_in : ℕ → List ℕ → ℕ → Option ℕ
number_in i [] j = None
number_in i (node ∷ more) j = if node == j then Some i else number_in (suc i) more j

-- ---- one element more

-- the ranks of the node's elements and the counts of arrays, after an element that may live here
abbrev pub with_ranked : Plan → ℕ → Bool → List ℕ → List ℕ → List ℕ × List ℕ
with_ranked p e false ranks counts = (ranks, counts)
with_ranked p e true ranks counts =
    (ranks ++ slice_index_or counts (place_of p e).array 0 ∷ [], slice_set counts (place_of p e).array (suc (slice_index_or counts (place_of p e).array 0)))

-- no list of nodes is longer than there are numbers of nodes
abbrev pub FewNodes : List (List ℕ) → Type 0
FewNodes [] = Unit {0}
FewNodes (nodes ∷ more) = (length nodes ≤ 65535) × FewNodes more
