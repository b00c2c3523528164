-- Where each port is sent to and received from, within the iteration of an element.
use Rattle.std.specs.Prelude.{ℕ, suc, ◌+◌, Bool, true, false, ◌&&◌, ◌==◌, nat_lt, if◌then◌else◌, List, [], ◌∷◌, Option, Some, None, slice_get, position}
use Rattle.std.specs.List.{list_all}
use Rattle.std.specs.Option.{option_map_or}
use Rattle.chare_base.specs.declared.message.Need.{Need}
use Rattle.chare_base.specs.declared.message.Need.TheVariants as needs
use Rattle.chare_base.specs.declared.message.Port.{Port}
use Rattle.chare_base.specs.declared.message.Port.TheVariants as ports
use Rattle.chare_base.specs.declared.plan.Array.{Array}
use Rattle.chare_base.specs.declared.plan.Entry.{Entry}
use Rattle.chare_base.specs.declared.plan.Part.{Part}
use Rattle.chare_base.specs.declared.plan.Reduction.{Reduction}
use Rattle.chare_base.specs.declared.plan.Step.{Step}
use Rattle.chare_base.specs.declared.plan.Stmt.{Stmt, out-Stmt}
use Rattle.chare_base.specs.declared.plan.Stmt.TheOpen.{Stmt-F}
use Rattle.chare_base.specs.declared.plan.Stmt.TheFolds.{fold-Stmt}

abbrev pub same_port : Port → Port → Bool
same_port (ports.Entry x) (ports.Entry y) = y.0 == x.0
same_port (ports.Entry x) (ports.Total r) = false
same_port (ports.Total r) (ports.Entry x) = false
same_port (ports.Total r) (ports.Total q) = q.0 == r.0

abbrev pub entry_port : ℕ → Port
entry_port x = ports.Entry (record { 0 = x })

abbrev pub total_port : ℕ → Port
total_port r = ports.Total (record { 0 = r })

-- ---- sends and contributions

-- the port that a statement itself sends to, if any
abbrev pub fed_by : {A : Type 0} → Stmt-F A → Option Port
fed_by (Stmt-F.Set cell value) = None
fed_by (Stmt-F.SetAt at cells place value) = None
fed_by (Stmt-F.If test a b) = None
fed_by (Stmt-F.For slot low high block) = None
fed_by (Stmt-F.Send entry values) = Some (ports.Entry entry)
fed_by (Stmt-F.Contribute reduction value) = Some (ports.Total reduction)

abbrev pub counted : Port → Option Port → ℕ
counted port None = 0
counted port (Some other) = if same_port port other then 1 else 0

abbrev pub stmt_sends : Port → Stmt → ℕ
stmt_sends port stmt = counted port (fed_by (out-Stmt stmt))

-- how often a block sends to a port, directly in the block
abbrev pub block_sends : Port → List Stmt → ℕ
block_sends port [] = 0
block_sends port (stmt ∷ more) = stmt_sends port stmt + block_sends port more

abbrev pub parts_send : Port → List Part → ℕ
parts_send port [] = 0
parts_send port (part ∷ more) = block_sends port part.block + parts_send port more

abbrev pub steps_send : Port → List Step → ℕ
steps_send port [] = 0
steps_send port (step ∷ more) = parts_send port step.parts + steps_send port more

-- ---- nothing is sent within an if or a loop

abbrev pub all_quiet : List Bool → Bool
all_quiet [] = true
all_quiet (b ∷ more) = b && all_quiet more

abbrev pub quiet_step : Stmt-F Bool → Bool
quiet_step (Stmt-F.Set cell value) = true
quiet_step (Stmt-F.SetAt at cells place value) = true
quiet_step (Stmt-F.If test a b) = all_quiet a && all_quiet b
quiet_step (Stmt-F.For slot low high block) = all_quiet block
quiet_step (Stmt-F.Send entry values) = false
quiet_step (Stmt-F.Contribute reduction value) = false

-- whether a statement sends nothing, itself and within
abbrev pub is_quiet : Stmt → Bool
is_quiet = fold-Stmt Bool quiet_step

-- whether a statement sends nothing within
abbrev pub quiet_within : Stmt-F Stmt → Bool
quiet_within (Stmt-F.Set cell value) = true
quiet_within (Stmt-F.SetAt at cells place value) = true
quiet_within (Stmt-F.If test a b) = list_all is_quiet a && list_all is_quiet b
quiet_within (Stmt-F.For slot low high block) = list_all is_quiet block
quiet_within (Stmt-F.Send entry values) = true
quiet_within (Stmt-F.Contribute reduction value) = true

abbrev pub sends_directly : Stmt → Bool
sends_directly stmt = quiet_within (out-Stmt stmt)

abbrev pub part_sends_directly : Part → Bool
part_sends_directly part = list_all sends_directly part.block

abbrev pub step_sends_directly : Step → Bool
step_sends_directly step = list_all part_sends_directly step.parts

abbrev pub array_sends_directly : Array → Bool
array_sends_directly a = list_all step_sends_directly a.steps

-- ---- receipts

abbrev pub port_needed : Need → Option Port
port_needed needs.Nothing = None
port_needed (needs.Port port) = Some port

abbrev pub takes : Port → Need → ℕ
takes port need = counted port (port_needed need)

abbrev pub parts_take : Port → List Part → ℕ
parts_take port [] = 0
parts_take port (part ∷ more) = takes port part.need + parts_take port more

abbrev pub steps_take : Port → List Step → ℕ
steps_take port [] = 0
steps_take port (step ∷ more) = parts_take port step.parts + steps_take port more

-- ---- each port

-- the first step that sends to it, and the first that receives from it
abbrev pub sending_step : Port → List Step → Option ℕ
sending_step port steps = position (λ step. nat_lt 0 (parts_send port step.parts)) steps

abbrev pub taking_step : Port → List Step → Option ℕ
taking_step port steps = position (λ step. nat_lt 0 (parts_take port step.parts)) steps

abbrev pub before : Option ℕ → Option ℕ → Bool
before (Some s) (Some t) = nat_lt s t
before _ _ = false

-- the steps of an array, none where there is no such array
abbrev pub steps_in : List Array → ℕ → List Step
steps_in arrays number = option_map_or (λ a. a.steps) (slice_get arrays number) []

-- a port is sent to once by its source array's elements, and received from once by its owner's, in a later step
abbrev pub port_holds : List Array → Port → ℕ → ℕ → Bool
port_holds arrays port source owner =
    steps_send port (steps_in arrays source) == 1 && steps_take port (steps_in arrays owner) == 1
    && before (sending_step port (steps_in arrays source)) (taking_step port (steps_in arrays owner))

-- the entries, the first of which has the given number
abbrev pub entries_from : List Array → ℕ → List Entry → Bool
entries_from arrays x [] = true
entries_from arrays x (entry ∷ more) = port_holds arrays (entry_port x) entry.source entry.owner && entries_from arrays (suc x) more

abbrev pub reductions_from : List Array → ℕ → List Reduction → Bool
reductions_from arrays r [] = true
reductions_from arrays r (reduction ∷ more) = port_holds arrays (total_port r) reduction.owner reduction.owner && reductions_from arrays (suc r) more

unfoldable pub ports_hold : List Array → List Entry → List Reduction → Bool
ports_hold arrays entries reductions =
    list_all array_sends_directly arrays && entries_from arrays 0 entries && reductions_from arrays 0 reductions
