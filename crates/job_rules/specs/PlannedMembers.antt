-- The plans of entries and reductions, numbered over the whole job in text order.
use Rattle.std.specs.Prelude.{ℕ, suc, ℤ, pos, List, [], ◌∷◌, ◌++◌, Option, Some, None}
use Rattle.chare_base.specs.declared.plan.Edge.{Edge}
use Rattle.chare_base.specs.declared.plan.Edge.TheVariants as plan_edges
use Rattle.chare_base.specs.declared.plan.Entry.{Entry}
use Rattle.chare_base.specs.declared.plan.How.{How}
use Rattle.chare_base.specs.declared.plan.How.TheVariants as hows
use Rattle.chare_base.specs.declared.plan.Reduction.{Reduction}
use Rattle.job_tree.specs.declared.tree.ArrayDecl.{ArrayDecl}
use Rattle.job_tree.specs.declared.tree.EdgeDecl.{EdgeDecl}
use Rattle.job_tree.specs.declared.tree.EdgeDecl.TheVariants as edges
use Rattle.job_tree.specs.declared.tree.EntryDecl.{EntryDecl}
use Rattle.job_tree.specs.declared.tree.How.{How as HowDecl}
use Rattle.job_tree.specs.declared.tree.How.TheVariants as tree_hows
use Rattle.job_tree.specs.declared.tree.MemberDecl.{MemberDecl}
use Rattle.job_tree.specs.declared.tree.MemberDecl.TheVariants as members
use Rattle.job_tree.specs.declared.tree.ReduceDecl.{ReduceDecl}
use Rattle.job_tree.specs.declared.tree.SignedNum.{SignedNum}
use Rattle.job_rules.specs.Names.{Known, bytes_at}
use Rattle.job_rules.specs.Tables.{array_number, values_written}
use Rattle.job_rules.specs.Numbers.{narrow8, narrow16, number16, signed8, signed64}

abbrev pub how_planned : HowDecl → How
how_planned tree_hows.Sum = hows.Sum
how_planned tree_hows.Min = hows.Min
how_planned tree_hows.Max = hows.Max

-- ---- entries

-- An offset of one number is one across.
abbrev pub down_written : SignedNum → Option SignedNum → ℤ
down_written first None = pos 0
down_written first (Some second) = signed8 first

abbrev pub across_written : SignedNum → Option SignedNum → ℤ
across_written first None = signed8 first
across_written first (Some second) = signed8 second

abbrev pub edge_planned : EdgeDecl → Edge
edge_planned (edges.Wrap at) = plan_edges.Wrap
edge_planned (edges.Else at value) = plan_edges.Else (signed64 value)

-- names are those of the job's arrays
module _ (text : List ℕ) (arrays : List Known) where
  -- an entry of the array of this number
  abbrev pub entry_planned : ℕ → EntryDecl → Entry
  entry_planned owner e = record {
    name = bytes_at text e.name;
    owner = narrow16 owner;
    source = number16 (array_number text arrays e.source);
    down = down_written e.offset.first e.offset.second;
    across = across_written e.offset.first e.offset.second;
    edge = edge_planned e.edge;
    values = narrow8 (values_written e.values);
  }

  abbrev pub entry_of : ℕ → MemberDecl → List Entry
  entry_of owner (members.Entry e) = entry_planned owner e ∷ []
  entry_of owner (members.Reduce r) = []

  abbrev pub entries_of : ℕ → List MemberDecl → List Entry
  entries_of owner [] = []
  entries_of owner (m ∷ more) = entry_of owner m ++ entries_of owner more

  -- the entries of the arrays from this number on
  abbrev pub entries_from : ℕ → List ArrayDecl → List Entry
  entries_from owner [] = []
  entries_from owner (a ∷ more) = entries_of owner a.members ++ entries_from (suc owner) more

-- ---- reductions

abbrev pub reduction_planned : List ℕ → ℕ → ReduceDecl → Reduction
reduction_planned text owner r = record { name = bytes_at text r.name; owner = narrow16 owner; how = how_planned r.how }

abbrev pub reduction_of : List ℕ → ℕ → MemberDecl → List Reduction
reduction_of text owner (members.Entry e) = []
reduction_of text owner (members.Reduce r) = reduction_planned text owner r ∷ []

abbrev pub reductions_of : List ℕ → ℕ → List MemberDecl → List Reduction
reductions_of text owner [] = []
reductions_of text owner (m ∷ more) = reduction_of text owner m ++ reductions_of text owner more

-- the reductions of the arrays from this number on
abbrev pub reductions_from : List ℕ → ℕ → List ArrayDecl → List Reduction
reductions_from text owner [] = []
reductions_from text owner (a ∷ more) = reductions_of text owner a.members ++ reductions_from text (suc owner) more
