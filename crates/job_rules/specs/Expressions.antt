-- What the names and words of an expression note.
use Rattle.std.specs.Prelude.{ℕ, Bool, true, false, not, ◌||◌, is_some, List, Option, Some}
use Rattle.job_tree.specs.declared.token.Span.{Span}
use Rattle.job_tree.specs.declared.tree.Here.{Here}
use Rattle.job_tree.specs.declared.tree.Here.TheVariants as heres
use Rattle.job_tree.specs.declared.tree.Conj.{Conj}
use Rattle.job_tree.specs.declared.tree.Expr.{Expr}
use Rattle.job_tree.specs.declared.tree.Product.{Product}
use Rattle.job_tree.specs.declared.tree.ProductTerm.{ProductTerm}
use Rattle.job_tree.specs.declared.tree.Sum.{Sum}
use Rattle.job_tree.specs.declared.tree.SumTerm.{SumTerm}
use Rattle.job_tree.specs.declared.tree.Atom.{Atom}
use Rattle.job_tree.specs.declared.tree.Test.{Test}
use Rattle.job_tree.specs.declared.tree.Unary.{Unary}
use Rattle.job_tree.specs.declared.tree.Atom.TheOpen.{Atom-F, Test-F, Unary-F, Conj-F, Expr-F, Product-F, ProductTerm-F, Sum-F, SumTerm-F}
use Rattle.job_tree.specs.declared.tree.Atom.TheFolds.{fold-Atom, fold-Test, fold-Unary, fold-Conj, fold-Expr, fold-Product, fold-ProductTerm, fold-Sum, fold-SumTerm}
use Rattle.job_rules.specs.declared.walk.Site.{Site}
use Rattle.job_rules.specs.declared.walk.Site.TheVariants as sites
use Rattle.job_rules.specs.declared.fault.CheckFault.TheVariants as faults
use Rattle.job_rules.specs.declared.names.Meaning.{Meaning}
use Rattle.job_rules.specs.declared.names.Meaning.TheVariants as meanings
use Rattle.job_rules.specs.declared.notes.StateUse.{StateUse}
use Rattle.job_rules.specs.Faults.{Found, fault_if, name_fault}
use Rattle.job_rules.specs.Names.{Known, bytes_at, local_named, lookup}
use Rattle.job_rules.specs.Notes.{Walk, in_order, noted, use_noted}

-- ---- names

-- a parameter's name, or a loop's around
abbrev pub is_local : List ℕ → List Span → List Span → Span → Bool
is_local text params loops name = is_some (local_named text params name) || is_some (local_named text loops name)

-- a state without a size has no index, one with a size has one
abbrev pub misindexed : Bool → Bool → Bool
misindexed true indexed = indexed
misindexed false indexed = not indexed

-- the use of a state's name in a part
abbrev pub state_use : ℕ → ℕ → ℕ → Span → Bool → StateUse
state_use state declared part name written = record { state = state; declared = declared; part = part; at = name.at; written = written }

-- a state is read in a part of a step, and never in an initial value
abbrev pub state_read : Site → ℕ → ℕ → Bool → Span → Bool → Walk
state_read (sites.Part part) number declared plain name indexed n =
    use_noted (state_use number declared part name false) (noted (fault_if (misindexed plain indexed) (faults.Kind name.at)) n)
state_read (sites.Start sized) number declared plain name indexed n = noted (Some (faults.Kind name.at)) n

-- a name that isn't a state's, local or not: a local name has no index
abbrev pub local_fault : Bool → Span → Bool → Found
local_fault true name indexed = fault_if indexed (faults.Kind name.at)
local_fault false name indexed = Some (faults.Unknown name.at)

-- a name with this meaning in the array's table, local or not, with an index or without one
abbrev pub value_named : Site → Option Meaning → Bool → Span → Bool → Walk
value_named site (Some (meanings.State number declared plain at cells)) local name indexed n = state_read site number declared plain name indexed n
value_named site _ local name indexed n = noted (local_fault local name indexed) n

-- ---- words

-- Iterations are counted in steps alone, and cells in the initial value of a state with a size.
abbrev pub misplaced : Site → Here → Bool
misplaced (sites.Part part) heres.Cell = true
misplaced (sites.Start sized) heres.Cell = not sized
misplaced (sites.Start sized) heres.Iter = true
misplaced _ _ = false

-- ---- expressions; names are those of an array's table, of a part's parameters and of the loops around

unfoldable pub name_walked : List ℕ → List Known → Site → List Span → List Span → Span → Bool → Walk
name_walked text table site params loops name indexed n =
    value_named site (lookup table (bytes_at text name)) (is_local text params loops name) name indexed (noted (name_fault name) n)

unfoldable pub here_walked : Site → ℕ → Here → Walk
here_walked site at word n = noted (fault_if (misplaced site word) (faults.Kind at)) n

module _ (text : List ℕ) (table : List Known) (site : Site) (params loops : List Span) where
  abbrev pub atom_step : Atom-F Walk Walk Walk Walk Walk Walk Walk Walk Walk → Walk
  atom_step (Atom-F.Number number) n = n
  atom_step (Atom-F.Name name) n = name_walked text table site params loops name false n
  atom_step (Atom-F.Cell name index) n = index (name_walked text table site params loops name true n)
  atom_step (Atom-F.Here at word) n = here_walked site at word n
  atom_step (Atom-F.Choice at choice first second) n = second (first n)
  atom_step (Atom-F.Group at inner) n = inner n

  abbrev pub test_step : Test-F Walk Walk Walk Walk Walk Walk Walk Walk Walk → Walk
  test_step (Test-F.Not at operand) n = operand n
  test_step (Test-F.Alone sum) n = sum n
  test_step (Test-F.Compare left op right) n = right (left n)

  abbrev pub unary_step : Unary-F Walk Walk Walk Walk Walk Walk Walk Walk Walk → Walk
  unary_step (Unary-F.Minus at operand) n = operand n
  unary_step (Unary-F.Atom a) n = a n

  abbrev pub conj_step : Conj-F Walk Walk Walk Walk Walk Walk Walk Walk Walk → Walk
  conj_step c n = in_order c.others (c.first n)

  abbrev pub expr_step : Expr-F Walk Walk Walk Walk Walk Walk Walk Walk Walk → Walk
  expr_step e n = in_order e.others (e.first n)

  abbrev pub product_step : Product-F Walk Walk Walk Walk Walk Walk Walk Walk Walk → Walk
  product_step p n = in_order p.others (p.first n)

  abbrev pub product_term_step : ProductTerm-F Walk Walk Walk Walk Walk Walk Walk Walk Walk → Walk
  product_term_step t n = t.value n

  abbrev pub sum_step : Sum-F Walk Walk Walk Walk Walk Walk Walk Walk Walk → Walk
  sum_step s n = in_order s.others (s.first n)

  abbrev pub sum_term_step : SumTerm-F Walk Walk Walk Walk Walk Walk Walk Walk Walk → Walk
  sum_term_step t n = t.value n

  abbrev pub atom_walked : Atom → Walk
  atom_walked = fold-Atom Walk Walk Walk Walk Walk Walk Walk Walk Walk atom_step test_step unary_step conj_step expr_step product_step product_term_step sum_step sum_term_step

  abbrev pub test_walked : Test → Walk
  test_walked = fold-Test Walk Walk Walk Walk Walk Walk Walk Walk Walk atom_step test_step unary_step conj_step expr_step product_step product_term_step sum_step sum_term_step

  abbrev pub unary_walked : Unary → Walk
  unary_walked = fold-Unary Walk Walk Walk Walk Walk Walk Walk Walk Walk atom_step test_step unary_step conj_step expr_step product_step product_term_step sum_step sum_term_step

  abbrev pub conj_walked : Conj → Walk
  conj_walked = fold-Conj Walk Walk Walk Walk Walk Walk Walk Walk Walk atom_step test_step unary_step conj_step expr_step product_step product_term_step sum_step sum_term_step

  abbrev pub expr_walked : Expr → Walk
  expr_walked = fold-Expr Walk Walk Walk Walk Walk Walk Walk Walk Walk atom_step test_step unary_step conj_step expr_step product_step product_term_step sum_step sum_term_step

  abbrev pub product_walked : Product → Walk
  product_walked = fold-Product Walk Walk Walk Walk Walk Walk Walk Walk Walk atom_step test_step unary_step conj_step expr_step product_step product_term_step sum_step sum_term_step

  abbrev pub product_term_walked : ProductTerm → Walk
  product_term_walked = fold-ProductTerm Walk Walk Walk Walk Walk Walk Walk Walk Walk atom_step test_step unary_step conj_step expr_step product_step product_term_step sum_step sum_term_step

  abbrev pub sum_walked : Sum → Walk
  sum_walked = fold-Sum Walk Walk Walk Walk Walk Walk Walk Walk Walk atom_step test_step unary_step conj_step expr_step product_step product_term_step sum_step sum_term_step

  abbrev pub sum_term_walked : SumTerm → Walk
  sum_term_walked = fold-SumTerm Walk Walk Walk Walk Walk Walk Walk Walk Walk atom_step test_step unary_step conj_step expr_step product_step product_term_step sum_step sum_term_step

-- an expression, which other definitions see as one word
unfoldable pub value_walked : List ℕ → List Known → Site → List Span → List Span → Expr → Walk
value_walked text table site params loops e n = expr_walked text table site params loops e n
