-- What the statements of a part note.
use Rattle.std.specs.Prelude.{ℕ, suc, Bool, true, false, not, ◌||◌, ◌==◌, is_some, List, [], ◌∷◌, ◌++◌, map, length, Option, Some, None}
use Rattle.job_tree.specs.declared.token.Span.{Span}
use Rattle.job_tree.specs.declared.tree.Block.{Block}
use Rattle.job_tree.specs.declared.tree.Expr.{Expr}
use Rattle.job_tree.specs.declared.tree.StmtDecl.{StmtDecl}
use Rattle.job_tree.specs.declared.tree.StmtDecl.TheOpen.{Block-F, StmtDecl-F}
use Rattle.job_tree.specs.declared.tree.StmtDecl.TheFolds.{fold-Block, fold-StmtDecl}
use Rattle.job_tree.specs.declared.tree.Values.{Values}
use Rattle.job_rules.specs.declared.walk.Site.TheVariants as sites
use Rattle.job_rules.specs.declared.fault.CheckFault.TheVariants as faults
use Rattle.job_rules.specs.declared.names.Meaning.{Meaning}
use Rattle.job_rules.specs.declared.names.Meaning.TheVariants as meanings
use Rattle.job_rules.specs.declared.notes.PortUse.{PortUse}
use Rattle.job_rules.specs.declared.walk.PartAt.{PartAt}
use Rattle.job_rules.specs.declared.tables.JobNames.{JobNames}
use Rattle.job_rules.specs.Expressions.{is_local, misindexed, state_use, value_walked}
use Rattle.job_rules.specs.Faults.{Found, fault_if, name_fault}
use Rattle.job_rules.specs.Names.{Known, bytes_at, lookup}
use Rattle.job_rules.specs.Notes.{Walk, in_order, noted, sent_noted, use_noted}
use Rattle.job_rules.specs.Tables.{array_number, meant_in}

-- a name that isn't declared, or is declared as something else
abbrev pub mismatch_fault : Option Meaning → Span → Found
mismatch_fault None name = Some (faults.Unknown name.at)
mismatch_fault (Some m) name = Some (faults.Kind name.at)

-- what a node notes within loops with these names, at top level or nested
abbrev pub Within : Type 0
Within = List Span → Bool → Walk

abbrev pub each_walked : List Within → Within
each_walked [] loops nested n = n
each_walked (w ∷ more) loops nested n = each_walked more loops nested (w loops nested n)

abbrev pub other_walked : Option Within → Within
other_walked None loops nested n = n
other_walked (Some block) loops nested n = block loops nested n

-- a loop whose head notes this, and within which its name is known
abbrev pub for_walked : Walk → Span → Within → List Span → Walk
for_walked head name block loops n = block (loops ++ name ∷ []) true (head n)

-- ---- assignments

-- a name that isn't declared in the array, local or not: a local name isn't written
abbrev pub unwritable : Bool → Span → Found
unwritable true name = Some (faults.Kind name.at)
unwritable false name = Some (faults.Unknown name.at)

-- a target with this meaning in the array's table, local or not, with an index or without one
abbrev pub target_named : ℕ → Option Meaning → Bool → Span → Bool → Walk
target_named part (Some (meanings.State number declared plain at cells)) local name indexed n =
    use_noted (state_use number declared part name true) (noted (fault_if (misindexed plain indexed) (faults.Kind name.at)) n)
target_named part (Some m) local name indexed n = noted (Some (faults.Kind name.at)) n
target_named part None local name indexed n = noted (unwritable local name) n

unfoldable pub target_walked : List ℕ → List Known → ℕ → List Span → List Span → Span → Bool → Walk
target_walked text table part params loops name indexed n =
    target_named part (lookup table (bytes_at text name)) (is_local text params loops name) name indexed (noted (name_fault name) n)

-- ---- loops

-- a loop's name isn't declared in the array, and isn't a parameter's or that of a loop around
unfoldable pub loop_walked : List ℕ → List Known → List Span → List Span → Span → Walk
loop_walked text table params loops name n =
    noted (fault_if (is_some (lookup table (bytes_at text name)) || is_local text params loops name) (faults.Twice name.at)) (noted (name_fault name) n)

-- ---- sends and contributions

abbrev pub is_number : ℕ → Option ℕ → Bool
is_number number None = false
is_number number (Some found) = found == number

-- the use of a port at this place
abbrev pub port_use : ℕ → PartAt → ℕ → Bool → PortUse
port_use port part at nested = record { port = port; step = part.step; at = at; nested = nested }

-- a send of count values at this place, to a name with this meaning
abbrev pub entry_named : PartAt → ℕ → Bool → ℕ → Option Meaning → Span → Walk
entry_named part at nested count (Some (meanings.Entry port number source values)) name n =
    sent_noted (port_use port part at nested)
    (noted (fault_if (not (is_number part.array source)) (faults.Shape at)) (noted (fault_if (not (count == values)) (faults.Kind name.at)) n))
entry_named part at nested count meaning name n = noted (mismatch_fault meaning name) n

-- a send to an entry of the array of this number, if there is one
abbrev pub member_named : PartAt → ℕ → Bool → ℕ → Option ℕ → Option Meaning → Span → Span → Walk
member_named part at nested count (Some number) meaning array entry n = entry_named part at nested count meaning entry n
member_named part at nested count None meaning array entry n = noted (Some (faults.Unknown array.at)) n

unfoldable pub send_walked : List ℕ → JobNames → PartAt → ℕ → Bool → ℕ → Span → Span → Walk
send_walked text names part at nested count array entry n =
    let number = array_number text names.arrays array in
    member_named part at nested count number (meant_in names number (bytes_at text entry)) array entry (noted (name_fault entry) (noted (name_fault array) n))

-- a contribution at this place to a name with this meaning
abbrev pub reduction_named : PartAt → ℕ → Bool → Option Meaning → Span → Walk
reduction_named part at nested (Some (meanings.Reduction port number)) name n = sent_noted (port_use port part at nested) n
reduction_named part at nested meaning name n = noted (mismatch_fault meaning name) n

unfoldable pub contribute_walked : List ℕ → List Known → PartAt → ℕ → Bool → Span → Walk
contribute_walked text table part at nested name n = reduction_named part at nested (lookup table (bytes_at text name)) name (noted (name_fault name) n)

-- ---- the expressions of a statement; names are those of an array's table and of a part's parameters

module _ (text : List ℕ) (table : List Known) (part : PartAt) (params : List Span) where
  abbrev pub operand_walked : List Span → Expr → Walk
  operand_walked = value_walked text table (sites.Part part.part) params

  abbrev pub index_walked : List Span → Option Expr → Walk
  index_walked loops None n = n
  index_walked loops (Some e) n = operand_walked loops e n

  abbrev pub values_walked : List Span → Values → Walk
  values_walked loops v n = in_order (map (operand_walked loops) v.others) (operand_walked loops v.first n)

  abbrev pub assign_walked : List Span → Span → Option Expr → Expr → Walk
  assign_walked loops target index value n =
      operand_walked loops value (index_walked loops index (target_walked text table part.part params loops target (is_some index) n))

abbrev pub count_values : Values → ℕ
count_values v = suc (length v.others)

-- ---- statements; names are those of the job, of an array's table and of a part's parameters

module _ (text : List ℕ) (names : JobNames) (table : List Known) (part : PartAt) (params : List Span) where
  abbrev pub stmt_step : StmtDecl-F Within Within → Within
  stmt_step (StmtDecl-F.Assign target index value) loops nested n = assign_walked text table part params loops target index value n
  stmt_step (StmtDecl-F.If at test block other) loops nested n =
      other_walked other loops true (block loops true (operand_walked text table part params loops test n))
  stmt_step (StmtDecl-F.For at name low high block) loops nested n = for_walked (loop_walked text table params loops name) name block loops n
  stmt_step (StmtDecl-F.Send at array entry values) loops nested n =
      values_walked text table part params loops values
      (send_walked text names part at nested (count_values values) array entry n)
  stmt_step (StmtDecl-F.Contribute at name value) loops nested n =
      operand_walked text table part params loops value (contribute_walked text table part at nested name n)

  abbrev pub block_step : Block-F Within Within → Within
  block_step b loops nested n = each_walked b.statements loops nested n

  abbrev pub stmt_walked : StmtDecl → Within
  stmt_walked = fold-StmtDecl Within Within stmt_step block_step

  abbrev pub block_walked : Block → Within
  block_walked = fold-Block Within Within stmt_step block_step
