-- The words that a tree is spelled by: the grammar of the job language. The argument is how many levels are open.
use Rattle.std.specs.Prelude.{ℕ, suc, List, [], ◌∷◌, ◌++◌, map, Option, Some, None}
use Rattle.job_tree.specs.declared.token.Mark.{Mark}
use Rattle.job_tree.specs.declared.token.Mark.TheVariants as marks
use Rattle.job_tree.specs.declared.token.Num.{Num}
use Rattle.job_tree.specs.declared.token.Span.{Span}
use Rattle.job_tree.specs.declared.tree.AddOp.{AddOp}
use Rattle.job_tree.specs.declared.tree.AddOp.TheVariants as adds
use Rattle.job_tree.specs.declared.tree.MulOp.{MulOp}
use Rattle.job_tree.specs.declared.tree.MulOp.TheVariants as muls
use Rattle.job_tree.specs.declared.tree.CompareOp.{CompareOp}
use Rattle.job_tree.specs.declared.tree.CompareOp.TheVariants as compares
use Rattle.job_tree.specs.declared.tree.Here.{Here}
use Rattle.job_tree.specs.declared.tree.Here.TheVariants as heres
use Rattle.job_tree.specs.declared.tree.Choice.{Choice}
use Rattle.job_tree.specs.declared.tree.Choice.TheVariants as choices
use Rattle.job_tree.specs.declared.tree.How.{How}
use Rattle.job_tree.specs.declared.tree.How.TheVariants as hows
use Rattle.job_tree.specs.declared.tree.AnswerDecl.{AnswerDecl}
use Rattle.job_tree.specs.declared.tree.AnswerDecl.TheVariants as answers
use Rattle.job_tree.specs.declared.tree.EdgeDecl.{EdgeDecl}
use Rattle.job_tree.specs.declared.tree.EdgeDecl.TheVariants as edges
use Rattle.job_tree.specs.declared.tree.MemberDecl.{MemberDecl}
use Rattle.job_tree.specs.declared.tree.MemberDecl.TheVariants as members
use Rattle.job_tree.specs.declared.tree.StepBody.{StepBody}
use Rattle.job_tree.specs.declared.tree.StepBody.TheVariants as bodies
use Rattle.job_tree.specs.declared.tree.ArrayDecl.{ArrayDecl}
use Rattle.job_tree.specs.declared.tree.Coordinates.{Coordinates}
use Rattle.job_tree.specs.declared.tree.EntryDecl.{EntryDecl}
use Rattle.job_tree.specs.declared.tree.Job.{Job}
use Rattle.job_tree.specs.declared.tree.Names.{Names}
use Rattle.job_tree.specs.declared.tree.Offset.{Offset}
use Rattle.job_tree.specs.declared.tree.PartDecl.{PartDecl}
use Rattle.job_tree.specs.declared.tree.ReduceDecl.{ReduceDecl}
use Rattle.job_tree.specs.declared.tree.SignedNum.{SignedNum}
use Rattle.job_tree.specs.declared.tree.StateDecl.{StateDecl}
use Rattle.job_tree.specs.declared.tree.StepDecl.{StepDecl}
use Rattle.job_tree.specs.declared.tree.Values.{Values}
use Rattle.job_tree.specs.declared.tree.Conj.{Conj}
use Rattle.job_tree.specs.declared.tree.Expr.{Expr}
use Rattle.job_tree.specs.declared.tree.Product.{Product}
use Rattle.job_tree.specs.declared.tree.ProductTerm.{ProductTerm}
use Rattle.job_tree.specs.declared.tree.Sum.{Sum}
use Rattle.job_tree.specs.declared.tree.SumTerm.{SumTerm}
use Rattle.job_tree.specs.declared.tree.Block.{Block}
use Rattle.job_tree.specs.declared.tree.Atom.{Atom}
use Rattle.job_tree.specs.declared.tree.Test.{Test}
use Rattle.job_tree.specs.declared.tree.Unary.{Unary}
use Rattle.job_tree.specs.declared.tree.StmtDecl.{StmtDecl}
use Rattle.job_tree.specs.declared.tree.Atom.TheOpen.{Atom-F, Test-F, Unary-F, Conj-F, Expr-F, Product-F, ProductTerm-F, Sum-F, SumTerm-F}
use Rattle.job_tree.specs.declared.tree.Atom.TheFolds.{fold-Atom, fold-Test, fold-Unary, fold-Conj, fold-Expr, fold-Product, fold-ProductTerm, fold-Sum, fold-SumTerm}
use Rattle.job_tree.specs.declared.tree.StmtDecl.TheOpen.{Block-F, StmtDecl-F}
use Rattle.job_tree.specs.declared.tree.StmtDecl.TheFolds.{fold-Block, fold-StmtDecl}
use Rattle.job_tree.specs.Word.{Word, Name, Number, Marked}

abbrev pub Spelling : Type 0
Spelling = ℕ → List Word

-- a mark, and one whose place the tree has
abbrev pub mark : Mark → Word
mark m = Marked m None 0

abbrev pub placed : Mark → ℕ → Word
placed m at = Marked m (Some at) 0

-- a mark that opens a level, where o are open
abbrev pub opener : Mark → ℕ → Word
opener m o = Marked m None (suc o)

abbrev pub placed_opener : Mark → ℕ → ℕ → Word
placed_opener m at o = Marked m (Some at) (suc o)

-- one after another
abbrev pub joined : ℕ → List Spelling → List Word
joined o [] = []
joined o (s ∷ more) = s o ++ joined o more

-- one after another, each behind a mark
abbrev pub joined_behind : Mark → ℕ → List Spelling → List Word
joined_behind m o [] = []
joined_behind m o (s ∷ more) = mark m ∷ (s o ++ joined_behind m o more)

-- a part that may be missing
abbrev pub maybe : {A : Type 0} → (A → Spelling) → Option A → Spelling
maybe spell (Some x) o = spell x o
maybe spell None o = []

-- ---- the marks of operators

abbrev pub add_mark : AddOp → Mark
add_mark adds.Plus = marks.Plus
add_mark adds.Minus = marks.Minus

abbrev pub mul_mark : MulOp → Mark
mul_mark muls.Times = marks.Times
mul_mark muls.Divide = marks.Divide
mul_mark muls.Remainder = marks.Remainder

abbrev pub compare_mark : CompareOp → Mark
compare_mark compares.Equal = marks.Equal
compare_mark compares.NotEqual = marks.NotEqual
compare_mark compares.Less = marks.Less
compare_mark compares.LessEqual = marks.LessEqual
compare_mark compares.Greater = marks.Greater
compare_mark compares.GreaterEqual = marks.GreaterEqual

abbrev pub here_mark : Here → Mark
here_mark heres.Index = marks.Index
here_mark heres.Row = marks.Row
here_mark heres.Col = marks.Col
here_mark heres.Cell = marks.Cell
here_mark heres.Iter = marks.Iter

abbrev pub choice_mark : Choice → Mark
choice_mark choices.Min = marks.Min
choice_mark choices.Max = marks.Max

abbrev pub how_mark : How → Mark
how_mark hows.Sum = marks.Sum
how_mark hows.Min = marks.Min
how_mark hows.Max = marks.Max

-- ---- expressions

abbrev pub atom_step : Atom-F Spelling Spelling Spelling Spelling Spelling Spelling Spelling Spelling Spelling → Spelling
atom_step (Atom-F.Number n) o = Number n ∷ []
atom_step (Atom-F.Name span) o = Name span ∷ []
atom_step (Atom-F.Cell name index) o = Name name ∷ opener marks.OpenBracket o ∷ (index (suc o) ++ mark marks.CloseBracket ∷ [])
atom_step (Atom-F.Here at word) o = placed (here_mark word) at ∷ []
atom_step (Atom-F.Choice at choice first second) o =
    placed (choice_mark choice) at ∷ opener marks.OpenParen o ∷ (first (suc o) ++ mark marks.Comma ∷ (second (suc o) ++ mark marks.CloseParen ∷ []))
atom_step (Atom-F.Group at inner) o = placed_opener marks.OpenParen at o ∷ (inner (suc o) ++ mark marks.CloseParen ∷ [])

-- a minus before an operand opens a level until the operand ends, and so does `not`
abbrev pub unary_step : Unary-F Spelling Spelling Spelling Spelling Spelling Spelling Spelling Spelling Spelling → Spelling
unary_step (Unary-F.Minus at operand) o = placed_opener marks.Minus at o ∷ operand (suc o)
unary_step (Unary-F.Atom a) o = a o

abbrev pub test_step : Test-F Spelling Spelling Spelling Spelling Spelling Spelling Spelling Spelling Spelling → Spelling
test_step (Test-F.Not at operand) o = placed_opener marks.Not at o ∷ operand (suc o)
test_step (Test-F.Alone sum) o = sum o
test_step (Test-F.Compare left op right) o = left o ++ mark (compare_mark op) ∷ right o

abbrev pub product_term_step : ProductTerm-F Spelling Spelling Spelling Spelling Spelling Spelling Spelling Spelling Spelling → Spelling
product_term_step t o = placed (mul_mark t.op) t.at ∷ t.value o

abbrev pub product_step : Product-F Spelling Spelling Spelling Spelling Spelling Spelling Spelling Spelling Spelling → Spelling
product_step p o = p.first o ++ joined o p.others

abbrev pub sum_term_step : SumTerm-F Spelling Spelling Spelling Spelling Spelling Spelling Spelling Spelling Spelling → Spelling
sum_term_step t o = placed (add_mark t.op) t.at ∷ t.value o

abbrev pub sum_step : Sum-F Spelling Spelling Spelling Spelling Spelling Spelling Spelling Spelling Spelling → Spelling
sum_step s o = s.first o ++ joined o s.others

abbrev pub conj_step : Conj-F Spelling Spelling Spelling Spelling Spelling Spelling Spelling Spelling Spelling → Spelling
conj_step c o = c.first o ++ joined_behind marks.And o c.others

abbrev pub expr_step : Expr-F Spelling Spelling Spelling Spelling Spelling Spelling Spelling Spelling Spelling → Spelling
expr_step e o = e.first o ++ joined_behind marks.Or o e.others

abbrev pub atom_spelling : Atom → Spelling
atom_spelling = fold-Atom Spelling Spelling Spelling Spelling Spelling Spelling Spelling Spelling Spelling atom_step test_step unary_step conj_step expr_step product_step product_term_step sum_step sum_term_step

abbrev pub test_spelling : Test → Spelling
test_spelling = fold-Test Spelling Spelling Spelling Spelling Spelling Spelling Spelling Spelling Spelling atom_step test_step unary_step conj_step expr_step product_step product_term_step sum_step sum_term_step

abbrev pub unary_spelling : Unary → Spelling
unary_spelling = fold-Unary Spelling Spelling Spelling Spelling Spelling Spelling Spelling Spelling Spelling atom_step test_step unary_step conj_step expr_step product_step product_term_step sum_step sum_term_step

abbrev pub conj_spelling : Conj → Spelling
conj_spelling = fold-Conj Spelling Spelling Spelling Spelling Spelling Spelling Spelling Spelling Spelling atom_step test_step unary_step conj_step expr_step product_step product_term_step sum_step sum_term_step

abbrev pub expr_spelling : Expr → Spelling
expr_spelling = fold-Expr Spelling Spelling Spelling Spelling Spelling Spelling Spelling Spelling Spelling atom_step test_step unary_step conj_step expr_step product_step product_term_step sum_step sum_term_step

abbrev pub product_spelling : Product → Spelling
product_spelling = fold-Product Spelling Spelling Spelling Spelling Spelling Spelling Spelling Spelling Spelling atom_step test_step unary_step conj_step expr_step product_step product_term_step sum_step sum_term_step

abbrev pub product_term_spelling : ProductTerm → Spelling
product_term_spelling = fold-ProductTerm Spelling Spelling Spelling Spelling Spelling Spelling Spelling Spelling Spelling atom_step test_step unary_step conj_step expr_step product_step product_term_step sum_step sum_term_step

abbrev pub sum_spelling : Sum → Spelling
sum_spelling = fold-Sum Spelling Spelling Spelling Spelling Spelling Spelling Spelling Spelling Spelling atom_step test_step unary_step conj_step expr_step product_step product_term_step sum_step sum_term_step

abbrev pub sum_term_spelling : SumTerm → Spelling
sum_term_spelling = fold-SumTerm Spelling Spelling Spelling Spelling Spelling Spelling Spelling Spelling Spelling atom_step test_step unary_step conj_step expr_step product_step product_term_step sum_step sum_term_step

-- ---- numbers

abbrev pub minus_spelling : ℕ → Spelling
minus_spelling at o = placed marks.Minus at ∷ []

abbrev pub signed_spelling : SignedNum → Spelling
signed_spelling s o = maybe minus_spelling s.minus o ++ Number s.number ∷ []

abbrev pub next_num_spelling : Num → Spelling
next_num_spelling n o = mark marks.Comma ∷ Number n ∷ []

abbrev pub coordinates_spelling : Coordinates → Spelling
coordinates_spelling c o = opener marks.OpenBracket o ∷ Number c.first ∷ (maybe next_num_spelling c.second (suc o) ++ mark marks.CloseBracket ∷ [])

abbrev pub next_signed_spelling : SignedNum → Spelling
next_signed_spelling s o = mark marks.Comma ∷ signed_spelling s o

abbrev pub offset_spelling : Offset → Spelling
offset_spelling f o = opener marks.OpenBracket o ∷ (signed_spelling f.first (suc o) ++ (maybe next_signed_spelling f.second (suc o) ++ mark marks.CloseBracket ∷ []))

-- a number in brackets
abbrev pub cell_spelling : Num → Spelling
cell_spelling n o = opener marks.OpenBracket o ∷ Number n ∷ mark marks.CloseBracket ∷ []

abbrev pub count_spelling : Num → Spelling
count_spelling n o = opener marks.OpenParen o ∷ Number n ∷ mark marks.CloseParen ∷ []

-- ---- statements

abbrev pub index_spelling : Expr → Spelling
index_spelling e o = opener marks.OpenBracket o ∷ (expr_spelling e (suc o) ++ mark marks.CloseBracket ∷ [])

abbrev pub values_spelling : Values → Spelling
values_spelling v o = opener marks.OpenParen o ∷ (expr_spelling v.first (suc o) ++ (joined_behind marks.Comma (suc o) (map expr_spelling v.others) ++ mark marks.CloseParen ∷ []))

abbrev pub else_spelling : Spelling → Spelling
else_spelling block o = mark marks.Else ∷ block o

abbrev pub stmt_step : StmtDecl-F Spelling Spelling → Spelling
stmt_step (StmtDecl-F.Assign target index value) o = Name target ∷ (maybe index_spelling index o ++ mark marks.Assign ∷ expr_spelling value o)
stmt_step (StmtDecl-F.If at test block other) o = placed marks.If at ∷ (expr_spelling test o ++ (block o ++ maybe else_spelling other o))
stmt_step (StmtDecl-F.For at name low high block) o =
    placed marks.For at ∷ Name name ∷ mark marks.In ∷ (signed_spelling low o ++ mark marks.DotDot ∷ (signed_spelling high o ++ block o))
stmt_step (StmtDecl-F.Send at array entry values) o =
    placed marks.Send at ∷ Name array ∷ mark marks.Dot ∷ Name entry ∷ values_spelling values o
stmt_step (StmtDecl-F.Contribute at name value) o =
    placed marks.Contribute at ∷ Name name ∷ opener marks.OpenParen o ∷ (expr_spelling value (suc o) ++ mark marks.CloseParen ∷ [])

abbrev pub block_step : Block-F Spelling Spelling → Spelling
block_step b o = placed_opener marks.OpenBrace b.at o ∷ (joined (suc o) b.statements ++ mark marks.CloseBrace ∷ [])

abbrev pub stmt_spelling : StmtDecl → Spelling
stmt_spelling = fold-StmtDecl Spelling Spelling stmt_step block_step

abbrev pub block_spelling : Block → Spelling
block_spelling = fold-Block Spelling Spelling stmt_step block_step

-- ---- declarations

abbrev pub state_spelling : StateDecl → Spelling
state_spelling s o =
    placed marks.State s.at ∷ Name s.name ∷ mark marks.Colon ∷ mark marks.Int ∷ (maybe cell_spelling s.cells o ++ mark marks.Assign ∷ expr_spelling s.start o)

abbrev pub edge_spelling : EdgeDecl → Spelling
edge_spelling (edges.Wrap at) o = placed marks.Wrap at ∷ []
edge_spelling (edges.Else at value) o = placed marks.Else at ∷ signed_spelling value o

abbrev pub entry_spelling : EntryDecl → Spelling
entry_spelling e o =
    placed marks.Entry e.at ∷ Name e.name ∷ (maybe count_spelling e.values o ++ mark marks.From ∷ Name e.source ∷ (offset_spelling e.offset o ++ edge_spelling e.edge o))

abbrev pub reduce_spelling : ReduceDecl → Spelling
reduce_spelling r o = placed marks.Reduce r.at ∷ Name r.name ∷ mark (how_mark r.how) ∷ []

abbrev pub member_spelling : MemberDecl → Spelling
member_spelling (members.Entry e) = entry_spelling e
member_spelling (members.Reduce r) = reduce_spelling r

abbrev pub name_spelling : Span → Spelling
name_spelling span o = Name span ∷ []

abbrev pub names_spelling : Names → Spelling
names_spelling n o = opener marks.OpenParen o ∷ Name n.first ∷ (joined_behind marks.Comma (suc o) (map name_spelling n.others) ++ mark marks.CloseParen ∷ [])

abbrev pub part_spelling : PartDecl → Spelling
part_spelling p o = placed marks.When p.at ∷ Name p.port ∷ (names_spelling p.names o ++ block_spelling p.block o)

abbrev pub body_spelling : StepBody → Spelling
body_spelling (bodies.Block block) o = block_spelling block o
body_spelling (bodies.Part part) o = part_spelling part o
body_spelling (bodies.Overlap at parts) o = placed marks.Overlap at ∷ opener marks.OpenBrace o ∷ (joined (suc o) (map part_spelling parts) ++ mark marks.CloseBrace ∷ [])

abbrev pub step_spelling : StepDecl → Spelling
step_spelling s o = placed marks.Step s.at ∷ body_spelling s.body o

abbrev pub array_spelling : ArrayDecl → Spelling
array_spelling a o =
    placed marks.Array a.at ∷ Name a.name ∷ (coordinates_spelling a.sizes o ++ opener marks.OpenBrace o
    ∷ (joined (suc o) (map state_spelling a.states) ++ (joined (suc o) (map member_spelling a.members) ++ (joined (suc o) (map step_spelling a.steps) ++ mark marks.CloseBrace ∷ []))))

abbrev pub answer_spelling : AnswerDecl → Spelling
answer_spelling (answers.Over at how array state) o = placed marks.Answer at ∷ mark (how_mark how) ∷ Name array ∷ mark marks.Dot ∷ Name state ∷ []
answer_spelling (answers.At at array element state cell) o =
    placed marks.Answer at ∷ mark marks.At ∷ Name array ∷ (coordinates_spelling element o ++ mark marks.Dot ∷ Name state ∷ maybe cell_spelling cell o)

abbrev pub job_spelling : Job → Spelling
job_spelling j o =
    placed marks.Job j.at ∷ Name j.name ∷ mark marks.Iterate ∷ Number j.iterations ∷ (joined o (map array_spelling j.arrays) ++ joined o (map answer_spelling j.answers))
