-- Reading tokens from the left: the shape of the reader, of which its proof speaks. The argument n is how many levels may still be opened.
use Rattle.std.specs.Prelude.{ℕ, zero, suc, Bool, true, false, if◌then◌else◌, ◌||◌, List, [], ◌∷◌, Option, Some, None, Ok, Err}
use Rattle.job_tree.specs.declared.token.Kind.{Kind}
use Rattle.job_tree.specs.declared.token.Kind.TheVariants as kinds
use Rattle.job_tree.specs.declared.token.Mark.{Mark}
use Rattle.job_tree.specs.declared.token.Mark.TheVariants as marks
use Rattle.job_tree.specs.declared.token.Num.{Num}
use Rattle.job_tree.specs.declared.token.Span.{Span}
use Rattle.job_tree.specs.declared.token.Token.{Token}
use Rattle.job_tree.specs.declared.tree.AddOp.{AddOp}
use Rattle.job_tree.specs.declared.tree.AddOp.TheVariants as adds
use Rattle.job_tree.specs.declared.tree.MulOp.{MulOp}
use Rattle.job_tree.specs.declared.tree.MulOp.TheVariants as muls
use Rattle.job_tree.specs.declared.tree.CompareOp.{CompareOp}
use Rattle.job_tree.specs.declared.tree.CompareOp.TheVariants as compares
use Rattle.job_tree.specs.declared.tree.Here.{Here}
use Rattle.job_tree.specs.declared.tree.Here.TheVariants as heres
use Rattle.job_tree.specs.declared.tree.Choice.{Choice}
use Rattle.job_tree.specs.declared.tree.Choice.TheVariants as choices
use Rattle.job_tree.specs.declared.tree.How.{How}
use Rattle.job_tree.specs.declared.tree.How.TheVariants as hows
use Rattle.job_tree.specs.declared.tree.AnswerDecl.{AnswerDecl}
use Rattle.job_tree.specs.declared.tree.AnswerDecl.TheVariants as answers
use Rattle.job_tree.specs.declared.tree.EdgeDecl.{EdgeDecl}
use Rattle.job_tree.specs.declared.tree.EdgeDecl.TheVariants as edges
use Rattle.job_tree.specs.declared.tree.MemberDecl.{MemberDecl}
use Rattle.job_tree.specs.declared.tree.MemberDecl.TheVariants as members
use Rattle.job_tree.specs.declared.tree.StepBody.{StepBody}
use Rattle.job_tree.specs.declared.tree.StepBody.TheVariants as bodies
use Rattle.job_tree.specs.declared.tree.ArrayDecl.{ArrayDecl}
use Rattle.job_tree.specs.declared.tree.Coordinates.{Coordinates}
use Rattle.job_tree.specs.declared.tree.EntryDecl.{EntryDecl}
use Rattle.job_tree.specs.declared.tree.Job.{Job}
use Rattle.job_tree.specs.declared.tree.Names.{Names}
use Rattle.job_tree.specs.declared.tree.Offset.{Offset}
use Rattle.job_tree.specs.declared.tree.PartDecl.{PartDecl}
use Rattle.job_tree.specs.declared.tree.ReduceDecl.{ReduceDecl}
use Rattle.job_tree.specs.declared.tree.SignedNum.{SignedNum}
use Rattle.job_tree.specs.declared.tree.StateDecl.{StateDecl}
use Rattle.job_tree.specs.declared.tree.StepDecl.{StepDecl}
use Rattle.job_tree.specs.declared.tree.Values.{Values}
use Rattle.job_tree.specs.declared.tree.Conj.{Conj, roll-Conj}
use Rattle.job_tree.specs.declared.tree.Expr.{Expr, roll-Expr}
use Rattle.job_tree.specs.declared.tree.Product.{Product, roll-Product}
use Rattle.job_tree.specs.declared.tree.ProductTerm.{ProductTerm, roll-ProductTerm}
use Rattle.job_tree.specs.declared.tree.Sum.{Sum, roll-Sum}
use Rattle.job_tree.specs.declared.tree.SumTerm.{SumTerm, roll-SumTerm}
use Rattle.job_tree.specs.declared.tree.Block.{Block, roll-Block}
use Rattle.job_tree.specs.declared.tree.Atom.{Atom}
use Rattle.job_tree.specs.declared.tree.Atom.TheVariants as atoms
use Rattle.job_tree.specs.declared.tree.Test.{Test}
use Rattle.job_tree.specs.declared.tree.Test.TheVariants as tests
use Rattle.job_tree.specs.declared.tree.Unary.{Unary}
use Rattle.job_tree.specs.declared.tree.Unary.TheVariants as unaries
use Rattle.job_tree.specs.declared.tree.StmtDecl.{StmtDecl}
use Rattle.job_tree.specs.declared.tree.StmtDecl.TheVariants as stmts
use Rattle.job_tree.specs.Fault.{wrong}
use Rattle.job_tree.specs.Readers.{Reader, ◌>>=◌, done, one, is_mark, mark_at, open_at, either, many, optional}

-- ---- one token

abbrev pub told : {A : Type 0} → Option A → Bool
told (Some x) = true
told None = false

abbrev pub name_in : Kind → Option Span
name_in (kinds.Name span) = Some span
name_in _ = None

abbrev pub num_in : Kind → Option Num
num_in (kinds.Number n) = Some n
num_in _ = None

abbrev pub add_in : Kind → Option AddOp
add_in k = if is_mark marks.Plus k then Some adds.Plus else (if is_mark marks.Minus k then Some adds.Minus else None)

abbrev pub mul_in : Kind → Option MulOp
mul_in k = if is_mark marks.Times k then Some muls.Times else (if is_mark marks.Divide k then Some muls.Divide else (if is_mark marks.Remainder k then Some muls.Remainder else None))

abbrev pub compare_in : Kind → Option CompareOp
compare_in k =
    if is_mark marks.Equal k then Some compares.Equal
    else (if is_mark marks.NotEqual k then Some compares.NotEqual
    else (if is_mark marks.Less k then Some compares.Less
    else (if is_mark marks.LessEqual k then Some compares.LessEqual
    else (if is_mark marks.Greater k then Some compares.Greater
    else (if is_mark marks.GreaterEqual k then Some compares.GreaterEqual
    else None)))))

abbrev pub here_in : Kind → Option Here
here_in k =
    if is_mark marks.Index k then Some heres.Index
    else (if is_mark marks.Row k then Some heres.Row
    else (if is_mark marks.Col k then Some heres.Col
    else (if is_mark marks.Cell k then Some heres.Cell
    else (if is_mark marks.Iter k then Some heres.Iter
    else None))))

abbrev pub choice_in : Kind → Option Choice
choice_in k = if is_mark marks.Min k then Some choices.Min else (if is_mark marks.Max k then Some choices.Max else None)

abbrev pub how_in : Kind → Option How
how_in k = if is_mark marks.Sum k then Some hows.Sum else (if is_mark marks.Min k then Some hows.Min else (if is_mark marks.Max k then Some hows.Max else None))

-- with the token's place
abbrev pub at_place : {A : Type 0} → Option A → ℕ → Option (ℕ × A)
at_place (Some x) at = Some (at, x)
at_place None at = None

unfoldable pub name_at : Reader Span
name_at = one (λ t. name_in t.kind)

unfoldable pub num_at : Reader Num
num_at = one (λ t. num_in t.kind)

unfoldable pub add_at : Reader (ℕ × AddOp)
add_at = one (λ t. at_place (add_in t.kind) t.at)

unfoldable pub mul_at : Reader (ℕ × MulOp)
mul_at = one (λ t. at_place (mul_in t.kind) t.at)

unfoldable pub compare_at : Reader CompareOp
compare_at = one (λ t. compare_in t.kind)

unfoldable pub here_at : Reader (ℕ × Here)
here_at = one (λ t. at_place (here_in t.kind) t.at)

unfoldable pub choice_at : Reader (ℕ × Choice)
choice_at = one (λ t. at_place (choice_in t.kind) t.at)

unfoldable pub how_at : Reader How
how_at = one (λ t. how_in t.kind)

abbrev pub is_name : Kind → Bool
is_name k = told (name_in k)

abbrev pub is_num : Kind → Bool
is_num k = told (num_in k)

abbrev pub is_add : Kind → Bool
is_add k = told (add_in k)

abbrev pub is_mul : Kind → Bool
is_mul k = told (mul_in k)

abbrev pub is_compare : Kind → Bool
is_compare k = told (compare_in k)

abbrev pub is_choice : Kind → Bool
is_choice k = told (choice_in k)

-- ---- several

-- at least one
abbrev pub some : {A : Type 0} → (Kind → Bool) → Reader A → Reader (List A)
some on item = do
  first ← item
  others ← many on item
  done (first ∷ others)

-- an item behind a mark
abbrev pub behind : {A : Type 0} → Mark → Reader A → Reader A
behind m item = mark_at m >>= λ at. item

-- ---- expressions

-- the readers of operands that stand a level deeper
pub record Deeper : Type 0 where
  pub unary : Reader Unary
  pub test : Reader Test

unfoldable pub product_term_with : Reader Unary → Reader ProductTerm
product_term_with unary = do
  op ← mul_at
  value ← unary
  done (roll-ProductTerm (record { at = op.0; op = op.1; value = value }))

unfoldable pub product_with : Reader Unary → Reader Product
product_with unary = do
  first ← unary
  others ← many is_mul (product_term_with unary)
  done (roll-Product (record { first = first; others = others }))

unfoldable pub sum_term_with : Reader Unary → Reader SumTerm
sum_term_with unary = do
  op ← add_at
  value ← product_with unary
  done (roll-SumTerm (record { at = op.0; op = op.1; value = value }))

unfoldable pub sum_with : Reader Unary → Reader Sum
sum_with unary = do
  first ← product_with unary
  others ← many is_add (sum_term_with unary)
  done (roll-Sum (record { first = first; others = others }))

unfoldable pub comparison_with : Reader Unary → Reader (CompareOp × Sum)
comparison_with unary = do
  op ← compare_at
  right ← sum_with unary
  done (op, right)

-- a sum, and what it is compared with
abbrev pub test_of : Sum → Option (CompareOp × Sum) → Test
test_of left None = tests.Alone left
test_of left (Some more) = tests.Compare left more.0 more.1

unfoldable pub compared_with : Reader Unary → Reader Test
compared_with unary = do
  left ← sum_with unary
  more ← optional is_compare (comparison_with unary)
  done (test_of left more)

unfoldable pub conj_with : Reader Test → Reader Conj
conj_with test = do
  first ← test
  others ← many (is_mark marks.And) (behind marks.And test)
  done (roll-Conj (record { first = first; others = others }))

unfoldable pub expr_with : Reader Test → Reader Expr
expr_with test = do
  first ← conj_with test
  others ← many (is_mark marks.Or) (behind marks.Or (conj_with test))
  done (roll-Expr (record { first = first; others = others }))

unfoldable pub group_with : ℕ → Deeper → Reader Atom
group_with n deeper = do
  opened ← open_at n marks.OpenParen
  inner ← expr_with deeper.test
  close ← mark_at marks.CloseParen
  done (atoms.Group opened.at inner)

unfoldable pub choice_with : ℕ → Deeper → Reader Atom
choice_with n deeper = do
  choice ← choice_at
  opened ← open_at n marks.OpenParen
  first ← expr_with deeper.test
  comma ← mark_at marks.Comma
  second ← expr_with deeper.test
  close ← mark_at marks.CloseParen
  done (atoms.Choice choice.0 choice.1 first second)

unfoldable pub index_with : ℕ → Deeper → Reader Expr
index_with n deeper = do
  opened ← open_at n marks.OpenBracket
  index ← expr_with deeper.test
  close ← mark_at marks.CloseBracket
  done index

abbrev pub named_of : Span → Option Expr → Atom
named_of name None = atoms.Name name
named_of name (Some index) = atoms.Cell name index

unfoldable pub named_with : ℕ → Deeper → Reader Atom
named_with n deeper = do
  name ← name_at
  index ← optional (is_mark marks.OpenBracket) (index_with n deeper)
  done (named_of name index)

unfoldable pub leaf_at : Reader Atom
leaf_at = either is_num (num_at >>= λ n. done (atoms.Number n)) (here_at >>= λ here. done (atoms.Here here.0 here.1))

unfoldable pub atom_with : ℕ → Deeper → Reader Atom
atom_with n deeper = either (is_mark marks.OpenParen) (group_with n deeper) (either is_choice (choice_with n deeper) (either is_name (named_with n deeper) leaf_at))

unfoldable pub minus_with : ℕ → Deeper → Reader Unary
minus_with n deeper = do
  opened ← open_at n marks.Minus
  operand ← deeper.unary
  done (unaries.Minus opened.at operand)

unfoldable pub unary_with : ℕ → Deeper → Reader Unary
unary_with n deeper = either (is_mark marks.Minus) (minus_with n deeper) (atom_with n deeper >>= λ a. done (unaries.Atom a))

unfoldable pub not_with : ℕ → Deeper → Reader Test
not_with n deeper = do
  opened ← open_at n marks.Not
  operand ← deeper.test
  done (tests.Not opened.at operand)

unfoldable pub test_with : ℕ → Deeper → Reader Test
test_with n deeper = either (is_mark marks.Not) (not_with n deeper) (compared_with (unary_with n deeper))

-- where no level may be opened, no operand is deeper
abbrev pub none_deeper : {A : Type 0} → Reader A
none_deeper = λ ts. Err (wrong ts)

abbrev pub deeper : ℕ → Deeper
deeper zero = record { unary = none_deeper; test = none_deeper }
deeper (suc n) = record { unary = unary_with n (deeper n); test = test_with n (deeper n) }

abbrev pub unary_at : ℕ → Reader Unary
unary_at n = unary_with n (deeper n)

abbrev pub test_at : ℕ → Reader Test
test_at n = test_with n (deeper n)

abbrev pub expr_at : ℕ → Reader Expr
expr_at n = expr_with (test_at n)

-- ---- numbers

unfoldable pub minus_at : Reader (Option ℕ)
minus_at = optional (is_mark marks.Minus) (mark_at marks.Minus)

unfoldable pub signed_at : Reader SignedNum
signed_at = do
  minus ← minus_at
  number ← num_at
  done (record { minus = minus; number = number })

unfoldable pub next_num_at : Reader (Option Num)
next_num_at = optional (is_mark marks.Comma) (behind marks.Comma num_at)

unfoldable pub coordinates_at : ℕ → Reader Coordinates
coordinates_at n = do
  opened ← open_at n marks.OpenBracket
  first ← num_at
  second ← next_num_at
  close ← mark_at marks.CloseBracket
  done (record { first = first; second = second })

unfoldable pub next_signed_at : Reader (Option SignedNum)
next_signed_at = optional (is_mark marks.Comma) (behind marks.Comma signed_at)

unfoldable pub offset_at : ℕ → Reader Offset
offset_at n = do
  opened ← open_at n marks.OpenBracket
  first ← signed_at
  second ← next_signed_at
  close ← mark_at marks.CloseBracket
  done (record { first = first; second = second })

unfoldable pub cell_at : ℕ → Reader Num
cell_at n = do
  opened ← open_at n marks.OpenBracket
  cell ← num_at
  close ← mark_at marks.CloseBracket
  done cell

unfoldable pub cells_at : ℕ → Reader (Option Num)
cells_at n = optional (is_mark marks.OpenBracket) (cell_at n)

unfoldable pub count_at : ℕ → Reader Num
count_at n = do
  opened ← open_at n marks.OpenParen
  count ← num_at
  close ← mark_at marks.CloseParen
  done count

unfoldable pub counted_at : ℕ → Reader (Option Num)
counted_at n = optional (is_mark marks.OpenParen) (count_at n)

-- ---- statements

unfoldable pub values_at : ℕ → Reader Values
values_at n = do
  opened ← open_at n marks.OpenParen
  first ← expr_at opened.left
  others ← many (is_mark marks.Comma) (behind marks.Comma (expr_at opened.left))
  close ← mark_at marks.CloseParen
  done (record { first = first; others = others })

unfoldable pub send_at : ℕ → Reader StmtDecl
send_at n = do
  at ← mark_at marks.Send
  array ← name_at
  dot ← mark_at marks.Dot
  entry ← name_at
  values ← values_at n
  done (stmts.Send at array entry values)

unfoldable pub contribute_at : ℕ → Reader StmtDecl
contribute_at n = do
  at ← mark_at marks.Contribute
  name ← name_at
  opened ← open_at n marks.OpenParen
  value ← expr_at opened.left
  close ← mark_at marks.CloseParen
  done (stmts.Contribute at name value)

unfoldable pub assign_at : ℕ → Reader StmtDecl
assign_at n = do
  target ← name_at
  index ← optional (is_mark marks.OpenBracket) (index_with n (deeper n))
  assign ← mark_at marks.Assign
  value ← expr_at n
  done (stmts.Assign target index value)

-- inner: the statements of a block that stands here
unfoldable pub block_with : ℕ → Reader (List StmtDecl) → Reader Block
block_with n inner = do
  opened ← open_at n marks.OpenBrace
  statements ← inner
  close ← mark_at marks.CloseBrace
  done (roll-Block (record { at = opened.at; statements = statements }))

unfoldable pub else_with : ℕ → Reader (List StmtDecl) → Reader (Option Block)
else_with n inner = optional (is_mark marks.Else) (behind marks.Else (block_with n inner))

unfoldable pub if_with : ℕ → Reader (List StmtDecl) → Reader StmtDecl
if_with n inner = do
  at ← mark_at marks.If
  test ← expr_at n
  block ← block_with n inner
  other ← else_with n inner
  done (stmts.If at test block other)

unfoldable pub for_with : ℕ → Reader (List StmtDecl) → Reader StmtDecl
for_with n inner = do
  at ← mark_at marks.For
  name ← name_at
  word ← mark_at marks.In
  low ← signed_at
  dots ← mark_at marks.DotDot
  high ← signed_at
  block ← block_with n inner
  done (stmts.For at name low high block)

unfoldable pub stmt_with : ℕ → Reader (List StmtDecl) → Reader StmtDecl
stmt_with n inner =
    either (is_mark marks.If) (if_with n inner) (either (is_mark marks.For) (for_with n inner) (either (is_mark marks.Send) (send_at n) (either (is_mark marks.Contribute) (contribute_at n) (assign_at n))))

-- a statement begins so
abbrev pub is_stmt : Kind → Bool
is_stmt k = is_name k || (is_mark marks.If k || (is_mark marks.For k || (is_mark marks.Send k || is_mark marks.Contribute k)))

-- the statements of a block, by the number of levels that may be opened where it stands
abbrev pub inner : ℕ → Reader (List StmtDecl)
inner zero = none_deeper
inner (suc n) = many is_stmt (stmt_with n (inner n))

abbrev pub statements_at : ℕ → Reader (List StmtDecl)
statements_at n = many is_stmt (stmt_with n (inner n))

abbrev pub block_at : ℕ → Reader Block
block_at n = block_with n (inner n)

-- ---- steps

unfoldable pub names_at : ℕ → Reader Names
names_at n = do
  opened ← open_at n marks.OpenParen
  first ← name_at
  others ← many (is_mark marks.Comma) (behind marks.Comma name_at)
  close ← mark_at marks.CloseParen
  done (record { first = first; others = others })

unfoldable pub part_at : ℕ → Reader PartDecl
part_at n = do
  at ← mark_at marks.When
  port ← name_at
  names ← names_at n
  block ← block_at n
  done (record { at = at; port = port; names = names; block = block })

-- at least two
unfoldable pub parts_at : ℕ → Reader (List PartDecl)
parts_at n = do
  first ← part_at n
  second ← part_at n
  others ← many (is_mark marks.When) (part_at n)
  done (first ∷ second ∷ others)

unfoldable pub overlap_at : ℕ → Reader StepBody
overlap_at n = do
  at ← mark_at marks.Overlap
  opened ← open_at n marks.OpenBrace
  parts ← parts_at opened.left
  close ← mark_at marks.CloseBrace
  done (bodies.Overlap at parts)

unfoldable pub body_at : ℕ → Reader StepBody
body_at n = either (is_mark marks.When) (part_at n >>= λ part. done (bodies.Part part)) (either (is_mark marks.Overlap) (overlap_at n) (block_at n >>= λ block. done (bodies.Block block)))

unfoldable pub step_at : ℕ → Reader StepDecl
step_at n = do
  at ← mark_at marks.Step
  body ← body_at n
  done (record { at = at; body = body })

unfoldable pub steps_at : ℕ → Reader (List StepDecl)
steps_at n = some (is_mark marks.Step) (step_at n)

-- ---- declarations

unfoldable pub state_at : ℕ → Reader StateDecl
state_at n = do
  at ← mark_at marks.State
  name ← name_at
  colon ← mark_at marks.Colon
  int ← mark_at marks.Int
  cells ← cells_at n
  assign ← mark_at marks.Assign
  start ← expr_at n
  done (record { at = at; name = name; cells = cells; start = start })

unfoldable pub states_at : ℕ → Reader (List StateDecl)
states_at n = some (is_mark marks.State) (state_at n)

unfoldable pub edge_at : Reader EdgeDecl
edge_at = either (is_mark marks.Wrap) (mark_at marks.Wrap >>= λ at. done (edges.Wrap at)) (mark_at marks.Else >>= λ at. signed_at >>= λ value. done (edges.Else at value))

unfoldable pub entry_at : ℕ → Reader EntryDecl
entry_at n = do
  at ← mark_at marks.Entry
  name ← name_at
  values ← counted_at n
  from ← mark_at marks.From
  source ← name_at
  offset ← offset_at n
  edge ← edge_at
  done (record { at = at; name = name; values = values; source = source; offset = offset; edge = edge })

unfoldable pub reduce_at : Reader ReduceDecl
reduce_at = do
  at ← mark_at marks.Reduce
  name ← name_at
  how ← how_at
  done (record { at = at; name = name; how = how })

unfoldable pub member_at : ℕ → Reader MemberDecl
member_at n = either (is_mark marks.Entry) (entry_at n >>= λ entry. done (members.Entry entry)) (reduce_at >>= λ reduce. done (members.Reduce reduce))

abbrev pub is_member : Kind → Bool
is_member k = is_mark marks.Entry k || is_mark marks.Reduce k

unfoldable pub members_at : ℕ → Reader (List MemberDecl)
members_at n = many is_member (member_at n)

unfoldable pub array_at : ℕ → Reader ArrayDecl
array_at n = do
  at ← mark_at marks.Array
  name ← name_at
  sizes ← coordinates_at n
  opened ← open_at n marks.OpenBrace
  states ← states_at opened.left
  members ← members_at opened.left
  steps ← steps_at opened.left
  end ← mark_at marks.CloseBrace
  done (record { at = at; name = name; sizes = sizes; states = states; members = members; steps = steps })

unfoldable pub arrays_at : ℕ → Reader (List ArrayDecl)
arrays_at n = some (is_mark marks.Array) (array_at n)

-- ---- answers, behind the place of the word `answer`

unfoldable pub over_at : ℕ → Reader AnswerDecl
over_at at = do
  how ← how_at
  array ← name_at
  dot ← mark_at marks.Dot
  state ← name_at
  done (answers.Over at how array state)

unfoldable pub cell_answer_at : ℕ → ℕ → Reader AnswerDecl
cell_answer_at n at = do
  word ← mark_at marks.At
  array ← name_at
  element ← coordinates_at n
  dot ← mark_at marks.Dot
  state ← name_at
  cell ← cells_at n
  done (answers.At at array element state cell)

unfoldable pub answer_at : ℕ → Reader AnswerDecl
answer_at n = mark_at marks.Answer >>= λ at. either (is_mark marks.At) (cell_answer_at n at) (over_at at)

unfoldable pub answers_at : ℕ → Reader (List AnswerDecl)
answers_at n = some (is_mark marks.Answer) (answer_at n)

unfoldable pub job_at : ℕ → Reader Job
job_at n = do
  at ← mark_at marks.Job
  name ← name_at
  iterate ← mark_at marks.Iterate
  iterations ← num_at
  arrays ← arrays_at n
  answers ← answers_at n
  done (record { at = at; name = name; iterations = iterations; arrays = arrays; answers = answers })

abbrev pub end_in : Kind → ℕ → Option ℕ
end_in kinds.End at = Some at
end_in _ at = None

abbrev pub end_of : Token → Option ℕ
end_of t = end_in t.kind t.at

-- nothing is left
abbrev pub finish : Reader (Unit {0})
finish [] = Ok (tt, [])
finish (t ∷ ts) = Err (wrong (t ∷ ts))

-- the end of the text, and nothing behind it
unfoldable pub end_at : Reader (Unit {0})
end_at = one end_of >>= λ at. finish

unfoldable pub text_at : ℕ → Reader Job
text_at n = do
  job ← job_at n
  end ← end_at
  done job
