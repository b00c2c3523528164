-- What a test tells of each word of a tree, told of the words of its parts. Names stand in the words as they are.
use Rattle.std.proofs.Common.{ℕ, suc, Bool, List, [], ◌∷◌, ◌++◌, map, ap, sym, ◌∙◌, Option, Some, None}
use Rattle.std.specs.Prelude.{IsTrue, nat_le}
use Rattle.std.specs.List.{AllByRecursion, list_all}
use Rattle.std.proofs.lemmas.Bool.{and_parts}
use Rattle.std.proofs.lemmas.List.Folds.{list_all-append}
use Rattle.job_tree.specs.declared.token.Mark.{Mark}
use Rattle.job_tree.specs.declared.token.Mark.TheVariants as marks
use Rattle.job_tree.specs.declared.token.Span.{Span}
use Rattle.job_tree.specs.declared.tree.AnswerDecl.{AnswerDecl}
use Rattle.job_tree.specs.declared.tree.AnswerDecl.TheVariants as answers
use Rattle.job_tree.specs.declared.tree.ArrayDecl.{ArrayDecl}
use Rattle.job_tree.specs.declared.tree.Block.{Block, roll-Block}
use Rattle.job_tree.specs.declared.tree.EntryDecl.{EntryDecl}
use Rattle.job_tree.specs.declared.tree.Expr.{Expr}
use Rattle.job_tree.specs.declared.tree.Job.{Job}
use Rattle.job_tree.specs.declared.tree.MemberDecl.{MemberDecl}
use Rattle.job_tree.specs.declared.tree.MemberDecl.TheVariants as members
use Rattle.job_tree.specs.declared.tree.PartDecl.{PartDecl}
use Rattle.job_tree.specs.declared.tree.ReduceDecl.{ReduceDecl}
use Rattle.job_tree.specs.declared.tree.StateDecl.{StateDecl}
use Rattle.job_tree.specs.declared.tree.StepBody.{StepBody}
use Rattle.job_tree.specs.declared.tree.StepBody.TheVariants as bodies
use Rattle.job_tree.specs.declared.tree.StepDecl.{StepDecl}
use Rattle.job_tree.specs.declared.tree.StmtDecl.{StmtDecl, roll-StmtDecl}
use Rattle.job_tree.specs.declared.tree.StmtDecl.TheOpen.{Block-F, StmtDecl-F}
use Rattle.job_tree.specs.declared.tree.StmtDecl.TheFolds.{fold-roll-Block, fold-roll-StmtDecl, map-StmtDecl}
use Rattle.job_tree.specs.declared.tree.Values.{Values}
use Rattle.job_tree.specs.Word.{Word, Name, level_of}
use Rattle.job_tree.specs.Spelling.{Spelling, mark, opener, placed_opener, signed_spelling, coordinates_spelling, offset_spelling, edge_spelling, cell_spelling, count_spelling, joined, joined_behind, maybe, state_spelling, member_spelling, step_spelling, body_spelling, part_spelling, names_spelling, name_spelling, array_spelling, answer_spelling, job_spelling, stmt_step, block_step, stmt_spelling, block_spelling, expr_spelling, index_spelling, values_spelling, entry_spelling, reduce_spelling}
use Rattle.job_tree.specs.Accepted.{word_lies, names_lie, is_shallow}

-- each word passes
abbrev pub Holds : (Word → Bool) → List Word → Type 0
Holds p ws = IsTrue (list_all p ws)

-- ---- words beside one another

pub parted : (p : Word → Bool) (us vs : List Word) → Holds p (us ++ vs) → Holds p us × Holds p vs
parted p us vs h = and_parts (list_all p us) (list_all p vs) (sym (list_all-append p us vs) ∙ h)

pub each : {A : Type 0} (p : Word → Bool) (spell : A → Spelling) (o : ℕ) (xs : List A) → Holds p (joined o (map spell xs)) → AllByRecursion (λ x. Holds p (spell x o)) xs
each p spell o [] h = tt
each p spell o (x ∷ xs) h = let v = parted p (spell x o) (joined o (map spell xs)) h in (v.0, each p spell o xs v.1)

pub each_behind : {A : Type 0} (p : Word → Bool) (m : Mark) (spell : A → Spelling) (o : ℕ) (xs : List A) → Holds p (joined_behind m o (map spell xs)) → AllByRecursion (λ x. Holds p (spell x o)) xs
each_behind p m spell o [] h = tt
each_behind p m spell o (x ∷ xs) h =
    let v = parted p (spell x o) (joined_behind m o (map spell xs)) (and_parts (p (mark m)) (list_all p (spell x o ++ joined_behind m o (map spell xs))) h).1 in
    (v.0, each_behind p m spell o xs v.1)

each_name : (p : Word → Bool) (o : ℕ) (xs : List Span) → AllByRecursion (λ x. Holds p (name_spelling x o)) xs → AllByRecursion (λ x. IsTrue (p (Name x))) xs
each_name p o [] h = tt
each_name p o (x ∷ xs) h = ((and_parts _ _ h.0).0, each_name p o xs h.1)

-- ---- blocks, where o levels are open

abbrev pub BlockWords : (Word → Bool) → ℕ → Block-F StmtDecl Block → Type 0
BlockWords p o b = IsTrue (p (placed_opener marks.OpenBrace b.at o)) × AllByRecursion (λ s. Holds p (stmt_spelling s (suc o))) b.statements

pub block_words : (p : Word → Bool) (o : ℕ) (b : Block-F StmtDecl Block) → Holds p (block_spelling (roll-Block b) o) → BlockWords p o b
block_words p o b h =
    let is = ap (λ (f : Spelling). list_all p (f o)) (fold-roll-Block Spelling Spelling stmt_step block_step b) in
    let v = and_parts _ _ (sym is ∙ h) in
    (v.0, each p stmt_spelling (suc o) b.statements (parted p (joined (suc o) (map stmt_spelling b.statements)) (mark marks.CloseBrace ∷ []) v.1).0)

-- an index's brackets may be missing
abbrev pub IndexWords : (Word → Bool) → ℕ → Option Expr → Type 0
IndexWords p o None = Unit {0}
IndexWords p o (Some e) = Holds p (expr_spelling e (suc o))

abbrev pub OtherWords : (Word → Bool) → ℕ → Option Block → Type 0
OtherWords p o None = Unit {0}
OtherWords p o (Some b) = Holds p (block_spelling b o)

abbrev pub ValuesWords : (Word → Bool) → ℕ → Values → Type 0
ValuesWords p o v = Holds p (expr_spelling v.first (suc o)) × AllByRecursion (λ e. Holds p (expr_spelling e (suc o))) v.others

abbrev pub StmtWords : (Word → Bool) → ℕ → StmtDecl-F StmtDecl Block → Type 0
StmtWords p o (StmtDecl-F.Assign target index value) = IsTrue (p (Name target)) × IndexWords p o index × Holds p (expr_spelling value o)
StmtWords p o (StmtDecl-F.If at test block other) = Holds p (expr_spelling test o) × Holds p (block_spelling block o) × OtherWords p o other
StmtWords p o (StmtDecl-F.For at name low high block) = IsTrue (p (Name name)) × Holds p (block_spelling block o)
StmtWords p o (StmtDecl-F.Send at array entry values) = IsTrue (p (Name array)) × IsTrue (p (Name entry)) × ValuesWords p o values
StmtWords p o (StmtDecl-F.Contribute at name value) = IsTrue (p (Name name)) × Holds p (expr_spelling value (suc o))

index_words : (p : Word → Bool) (o : ℕ) (index : Option Expr) → Holds p (maybe index_spelling index o) → IndexWords p o index
index_words p o None h = tt
index_words p o (Some e) h = (parted p (expr_spelling e (suc o)) (mark marks.CloseBracket ∷ []) (and_parts _ _ h).1).0

values_words : (p : Word → Bool) (o : ℕ) (v : Values) → Holds p (values_spelling v o) → ValuesWords p o v
values_words p o v h =
    let more = joined_behind marks.Comma (suc o) (map expr_spelling v.others) in
    let a = parted p (expr_spelling v.first (suc o)) (more ++ mark marks.CloseParen ∷ []) (and_parts _ _ h).1 in
    (a.0, each_behind p marks.Comma expr_spelling (suc o) v.others (parted p more (mark marks.CloseParen ∷ []) a.1).0)

-- a statement's words, by what it is
stmt_told : (p : Word → Bool) (o : ℕ) (s : StmtDecl-F StmtDecl Block) → Holds p (stmt_spelling (roll-StmtDecl s) o) → Holds p (stmt_step (map-StmtDecl StmtDecl Block Spelling Spelling stmt_spelling block_spelling s) o)
stmt_told p o s h = sym (ap (λ (f : Spelling). list_all p (f o)) (fold-roll-StmtDecl Spelling Spelling stmt_step block_step s)) ∙ h

pub stmt_words : (p : Word → Bool) (o : ℕ) (s : StmtDecl-F StmtDecl Block) → Holds p (stmt_spelling (roll-StmtDecl s) o) → StmtWords p o s
stmt_words p o (StmtDecl-F.Assign target index value) h =
    let a = and_parts _ _ (stmt_told p o (StmtDecl-F.Assign target index value) h) in
    let b = parted p (maybe index_spelling index o) (mark marks.Assign ∷ expr_spelling value o) a.1 in
    (a.0, index_words p o index b.0, (and_parts _ _ b.1).1)
stmt_words p o (StmtDecl-F.If at test block None) h =
    let a = and_parts _ _ (stmt_told p o (StmtDecl-F.If at test block None) h) in
    let b = parted p (expr_spelling test o) (block_spelling block o ++ []) a.1 in
    (b.0, (parted p (block_spelling block o) [] b.1).0, tt)
stmt_words p o (StmtDecl-F.If at test block (Some other)) h =
    let a = and_parts _ _ (stmt_told p o (StmtDecl-F.If at test block (Some other)) h) in
    let b = parted p (expr_spelling test o) (block_spelling block o ++ mark marks.Else ∷ block_spelling other o) a.1 in
    let c = parted p (block_spelling block o) (mark marks.Else ∷ block_spelling other o) b.1 in
    (b.0, c.0, (and_parts _ _ c.1).1)
stmt_words p o (StmtDecl-F.For at name low high block) h =
    let a = and_parts _ _ (stmt_told p o (StmtDecl-F.For at name low high block) h) in
    let b = and_parts _ _ a.1 in
    let c = and_parts _ _ b.1 in
    let d = parted p (signed_spelling low o) (mark marks.DotDot ∷ (signed_spelling high o ++ block_spelling block o)) c.1 in
    let e = parted p (signed_spelling high o) (block_spelling block o) (and_parts _ _ d.1).1 in
    (b.0, e.1)
stmt_words p o (StmtDecl-F.Send at array entry values) h =
    let a = and_parts _ _ (stmt_told p o (StmtDecl-F.Send at array entry values) h) in
    let b = and_parts _ _ a.1 in
    let c = and_parts _ _ b.1 in
    let d = and_parts _ _ c.1 in
    (b.0, d.0, values_words p o values d.1)
stmt_words p o (StmtDecl-F.Contribute at name value) h =
    let a = and_parts _ _ (stmt_told p o (StmtDecl-F.Contribute at name value) h) in
    let b = and_parts _ _ a.1 in
    (b.0, (parted p (expr_spelling value (suc o)) (mark marks.CloseParen ∷ []) (and_parts _ _ b.1).1).0)

-- ---- steps

pub record PartWords (p : Word → Bool) (o : ℕ) (part : PartDecl) : Type 0 where
  pub port : IsTrue (p (Name part.port))
  pub first : IsTrue (p (Name part.names.first))
  pub others : AllByRecursion (λ name. IsTrue (p (Name name))) part.names.others
  pub block : Holds p (block_spelling part.block o)

pub part_words : (p : Word → Bool) (o : ℕ) (part : PartDecl) → Holds p (part_spelling part o) → PartWords p o part
part_words p o part h =
    let a = and_parts _ _ h in
    let b = and_parts _ _ a.1 in
    let c = parted p (names_spelling part.names o) (block_spelling part.block o) b.1 in
    let d = and_parts _ _ (and_parts _ _ c.0).1 in
    let more = parted p (joined_behind marks.Comma (suc o) (map name_spelling part.names.others)) (mark marks.CloseParen ∷ []) d.1 in
    record {
      port = b.0;
      first = d.0;
      others = each_name p (suc o) part.names.others (each_behind p marks.Comma name_spelling (suc o) part.names.others more.0);
      block = c.1;
    }

abbrev pub BodyWords : (Word → Bool) → ℕ → StepBody → Type 0
BodyWords p o (bodies.Block block) = Holds p (block_spelling block o)
BodyWords p o (bodies.Part part) = Holds p (part_spelling part o)
BodyWords p o (bodies.Overlap at parts) = AllByRecursion (λ part. Holds p (part_spelling part (suc o))) parts

body_words : (p : Word → Bool) (o : ℕ) (b : StepBody) → Holds p (body_spelling b o) → BodyWords p o b
body_words p o (bodies.Block block) h = h
body_words p o (bodies.Part part) h = h
body_words p o (bodies.Overlap at parts) h =
    each p part_spelling (suc o) parts (parted p (joined (suc o) (map part_spelling parts)) (mark marks.CloseBrace ∷ []) (and_parts _ _ (and_parts _ _ h).1).1).0

pub step_words : (p : Word → Bool) (o : ℕ) (s : StepDecl) → Holds p (step_spelling s o) → BodyWords p o s.body
step_words p o s h = body_words p o s.body (and_parts _ _ h).1

-- ---- declarations

pub record StateWords (p : Word → Bool) (o : ℕ) (s : StateDecl) : Type 0 where
  pub name : IsTrue (p (Name s.name))
  pub start : Holds p (expr_spelling s.start o)

pub state_words : (p : Word → Bool) (o : ℕ) (s : StateDecl) → Holds p (state_spelling s o) → StateWords p o s
state_words p o s h =
    let a = and_parts _ _ h in
    let b = and_parts _ _ a.1 in
    let c = and_parts _ _ b.1 in
    let d = and_parts _ _ c.1 in
    let e = parted p (maybe cell_spelling s.cells o) (mark marks.Assign ∷ expr_spelling s.start o) d.1 in
    record { name = b.0; start = (and_parts _ _ e.1).1 }

-- an entry's own name and its source, or a reduction's name
abbrev pub MemberWords : (Word → Bool) → MemberDecl → Type 0
MemberWords p (members.Entry e) = IsTrue (p (Name e.name)) × IsTrue (p (Name e.source))
MemberWords p (members.Reduce r) = IsTrue (p (Name r.name))

entry_words : (p : Word → Bool) (o : ℕ) (e : EntryDecl) → Holds p (entry_spelling e o) → IsTrue (p (Name e.name)) × IsTrue (p (Name e.source))
entry_words p o e h =
    let a = and_parts _ _ h in
    let b = and_parts _ _ a.1 in
    let c = parted p (maybe count_spelling e.values o) (mark marks.From ∷ Name e.source ∷ (offset_spelling e.offset o ++ edge_spelling e.edge o)) b.1 in
    let d = and_parts _ _ c.1 in
    (b.0, (and_parts _ _ d.1).0)

reduce_words : (p : Word → Bool) (o : ℕ) (r : ReduceDecl) → Holds p (reduce_spelling r o) → IsTrue (p (Name r.name))
reduce_words p o r h = (and_parts _ _ (and_parts _ _ h).1).0

pub member_words : (p : Word → Bool) (o : ℕ) (m : MemberDecl) → Holds p (member_spelling m o) → MemberWords p m
member_words p o (members.Entry e) h = entry_words p o e h
member_words p o (members.Reduce r) h = reduce_words p o r h

pub record ArrayWords (p : Word → Bool) (o : ℕ) (a : ArrayDecl) : Type 0 where
  pub name : IsTrue (p (Name a.name))
  pub states : AllByRecursion (λ s. Holds p (state_spelling s (suc o))) a.states
  pub members : AllByRecursion (λ m. Holds p (member_spelling m (suc o))) a.members
  pub steps : AllByRecursion (λ s. Holds p (step_spelling s (suc o))) a.steps

pub array_words : (p : Word → Bool) (o : ℕ) (a : ArrayDecl) → Holds p (array_spelling a o) → ArrayWords p o a
array_words p o a h =
    let b = and_parts _ _ (and_parts _ _ h).1 in
    let states = joined (suc o) (map state_spelling a.states) in
    let members = joined (suc o) (map member_spelling a.members) in
    let steps = joined (suc o) (map step_spelling a.steps) in
    let close = mark marks.CloseBrace ∷ [] in
    let c = parted p (coordinates_spelling a.sizes o) (opener marks.OpenBrace o ∷ (states ++ (members ++ (steps ++ close)))) b.1 in
    let d = parted p states (members ++ (steps ++ close)) (and_parts _ _ c.1).1 in
    let e = parted p members (steps ++ close) d.1 in
    let f = parted p steps close e.1 in
    record { name = b.0; states = each p state_spelling (suc o) a.states d.0; members = each p member_spelling (suc o) a.members e.0; steps = each p step_spelling (suc o) a.steps f.0 }

-- the array and the state of an answer
abbrev pub AnswerWords : (Word → Bool) → AnswerDecl → Type 0
AnswerWords p (answers.Over at how array state) = IsTrue (p (Name array)) × IsTrue (p (Name state))
AnswerWords p (answers.At at array element state cell) = IsTrue (p (Name array)) × IsTrue (p (Name state))

pub answer_words : (p : Word → Bool) (o : ℕ) (a : AnswerDecl) → Holds p (answer_spelling a o) → AnswerWords p a
answer_words p o (answers.Over at how array state) h =
    let a = and_parts _ _ (and_parts _ _ (and_parts _ _ h).1).1 in
    (a.0, (and_parts _ _ (and_parts _ _ a.1).1).0)
answer_words p o (answers.At at array element state cell) h =
    let a = and_parts _ _ (and_parts _ _ (and_parts _ _ h).1).1 in
    let b = parted p (coordinates_spelling element o) (mark marks.Dot ∷ Name state ∷ maybe cell_spelling cell o) a.1 in
    (a.0, (and_parts _ _ (and_parts _ _ b.1).1).0)

pub record JobWords (p : Word → Bool) (o : ℕ) (j : Job) : Type 0 where
  pub name : IsTrue (p (Name j.name))
  pub arrays : AllByRecursion (λ a. Holds p (array_spelling a o)) j.arrays
  pub answers : AllByRecursion (λ a. Holds p (answer_spelling a o)) j.answers

pub job_words : (p : Word → Bool) (o : ℕ) (j : Job) → Holds p (job_spelling j o) → JobWords p o j
job_words p o j h =
    let b = and_parts _ _ (and_parts _ _ h).1 in
    let d = and_parts _ _ (and_parts _ _ b.1).1 in
    let e = parted p (joined o (map array_spelling j.arrays)) (joined o (map answer_spelling j.answers)) d.1 in
    record { name = b.0; arrays = each p array_spelling o j.arrays e.0; answers = each p answer_spelling o j.answers e.1 }

-- ---- the tests of a tree

-- names that lie in a text of n bytes
pub job_names : (n : ℕ) (j : Job) → IsTrue (names_lie n j) → JobWords (word_lies n) 0 j
unfolding names_lie
job_names n j h = job_words (word_lies n) 0 j h

-- levels up to the last one
pub job_levels : (last : ℕ) (j : Job) → IsTrue (is_shallow last j) → JobWords (λ w. nat_le (level_of w) last) 0 j
unfolding is_shallow
job_levels last j h = job_words (λ w. nat_le (level_of w) last) 0 j h
