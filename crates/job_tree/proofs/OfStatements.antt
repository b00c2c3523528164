-- The rules of numbers, names in brackets, and statements.
use Rattle.std.proofs.Common.{◌≡◌, ℕ, zero, suc, Bool, true, false, inl, inr, List, [], ◌∷◌, ◌++◌, map, refl, ap, sym, ◌∙◌, arith, Option, Some, None, subst}
use Rattle.std.specs.Prelude.{◌||◌}
use Rattle.job_tree.specs.declared.token.Kind.{Kind}
use Rattle.job_tree.specs.declared.token.Kind.TheVariants as kinds
use Rattle.job_tree.specs.declared.token.Mark.TheVariants as marks
use Rattle.job_tree.specs.declared.token.Span.{Span}
use Rattle.job_tree.specs.declared.tree.SignedNum.{SignedNum}
use Rattle.job_tree.specs.declared.tree.Values.{Values}
use Rattle.job_tree.specs.declared.tree.Expr.{Expr}
use Rattle.job_tree.specs.declared.tree.Block.{Block, roll-Block, out-Block, roll-out-Block}
use Rattle.job_tree.specs.declared.tree.StmtDecl.{StmtDecl, roll-StmtDecl, out-StmtDecl, roll-out-StmtDecl}
use Rattle.job_tree.specs.declared.tree.StmtDecl.TheVariants as stmts
use Rattle.job_tree.specs.declared.tree.StmtDecl.TheOpen.{Block-F, StmtDecl-F}
use Rattle.job_tree.specs.declared.tree.StmtDecl.TheFolds.{fold-roll-Block, fold-roll-StmtDecl}
use Rattle.job_tree.specs.Readers.{is_mark}
use Rattle.job_tree.specs.Word.{Word, Name, Number}
use Rattle.job_tree.specs.Spelling.{Spelling, mark as bare, placed, opener, placed_opener, joined, joined_behind, maybe as maybe_spelling, minus_spelling, signed_spelling, next_num_spelling, coordinates_spelling, next_signed_spelling, offset_spelling, cell_spelling, count_spelling, index_spelling, expr_spelling, values_spelling, stmt_step, block_step, stmt_spelling, block_spelling, name_spelling, names_spelling}
use Rattle.job_tree.specs.Reading.{behind, inner, name_at, minus_at, signed_at, next_num_at, coordinates_at, next_signed_at, offset_at, cell_at, cells_at, count_at, counted_at, expr_at, values_at, send_at, contribute_at, assign_at, block_with, else_with, if_with, for_with, stmt_with, is_stmt, is_name, statements_at, block_at, names_at}
use Rattle.job_tree.proofs.Lists.{Headed}
use Rattle.job_tree.proofs.Joined.{Free}
use Rattle.job_tree.proofs.Many.{Shrinks, or_left, or_right}
use Rattle.job_tree.proofs.Loops.{rule_less, rule_shrinks, behind_shrinks}
use Rattle.job_tree.proofs.Marks.{is_mark_same}
use Rattle.job_tree.proofs.Rules.{Rule, never, in_words, mark, skip, opened, enclosed, then, last, end, choice, widen, front, top, never_free, fewer}
use Rattle.job_tree.proofs.Singles.{Spelt, SpeltAll, SpeltBehind, SpeltMaybe, name, num, num_alone, name_alone, mark_alone, all, behinds, opt}
use Rattle.job_tree.proofs.OfExpressions.{on_expr, expr, index, by_case}

-- ---- numbers

pub minus : {k : ℕ} → Rule k (SpeltMaybe minus_spelling) (λ x. is_mark marks.Minus x || never x) (λ n. minus_at)
unfolding minus_at
minus = opt minus_spelling (is_mark marks.Minus) (mark_alone marks.Minus) (λ o x. refl)

pub signed : {k : ℕ} → Rule k (Spelt signed_spelling) never (λ n. signed_at)
unfolding signed_at
signed = in_words (then minus (λ m. num (λ n. end (record { minus = m; number = n }))) (λ o a x vs q. front (λ x. is_mark marks.Minus x || never x) never q.2 refl))
    (λ o x ws t. cc)
    (λ o x ws e. (x.minus, maybe_spelling minus_spelling x.minus o, Number x.number ∷ [], e, refl, (x.number, [], refl, (refl, refl))))

next_num : {k : ℕ} → Rule k (SpeltMaybe next_num_spelling) (λ x. is_mark marks.Comma x || never x) (λ n. next_num_at)
unfolding next_num_at
next_num = opt next_num_spelling (is_mark marks.Comma) (in_words (skip marks.Comma (λ c. num_alone)) (λ o x ws t. t.1 ∙ ap (λ z. bare marks.Comma ∷ z) t.2) (λ o x ws e. (Number x ∷ [], e, refl))) (λ o x. refl)

pub coordinates : {k : ℕ} → Rule k (Spelt coordinates_spelling) never coordinates_at
unfolding coordinates_at
coordinates = in_words
    (enclosed marks.OpenBracket _ (λ at. num (λ a. then next_num (λ b. skip marks.CloseBracket (λ c. end (record { first = a; second = b }))) (λ o a x vs q. front (λ x. is_mark marks.Comma x || never x) never q.1 refl))))
    (λ o x ws t. cc)
    (λ o x ws e. (_, e, (x.first, _, refl, (x.second, maybe_spelling next_num_spelling x.second (suc o), bare marks.CloseBracket ∷ [], refl, refl, ([], refl, (refl, refl))))))

next_signed : {k : ℕ} → Rule k (SpeltMaybe next_signed_spelling) (λ x. is_mark marks.Comma x || never x) (λ n. next_signed_at)
unfolding next_signed_at
next_signed = opt next_signed_spelling (is_mark marks.Comma) (in_words (skip marks.Comma (λ c. signed)) (λ o x ws t. t.1 ∙ ap (λ z. bare marks.Comma ∷ z) t.2) (λ o x ws e. (signed_spelling x o, e, refl))) (λ o x. refl)

pub offset : {k : ℕ} → Rule k (Spelt offset_spelling) never offset_at
unfolding offset_at
offset = in_words
    (enclosed marks.OpenBracket _
    (λ at. then signed (λ a. then next_signed (λ b. skip marks.CloseBracket (λ c. end (record { first = a; second = b }))) (λ o a x vs q. front (λ x. is_mark marks.Comma x || never x) never q.1 refl)) (λ o a x vs q. never_free never vs)))
    (λ o x ws t. cc)
    (λ o x ws e.
    (_, e, (x.first, signed_spelling x.first (suc o), _, refl, refl, (x.second, maybe_spelling next_signed_spelling x.second (suc o), bare marks.CloseBracket ∷ [], refl, refl, ([], refl, (refl, refl))))))

pub cells : {k : ℕ} → Rule k (SpeltMaybe cell_spelling) (λ x. is_mark marks.OpenBracket x || never x) cells_at
unfolding cells_at cell_at
cells = opt cell_spelling (is_mark marks.OpenBracket)
    (in_words (enclosed marks.OpenBracket _ (λ at. num (λ c. skip marks.CloseBracket (λ z. end c)))) (λ o x ws t. cc) (λ o x ws e. (_, e, (x, _, refl, ([], refl, (refl, refl))))))
    (λ o x. refl)

pub counted : {k : ℕ} → Rule k (SpeltMaybe count_spelling) (λ x. is_mark marks.OpenParen x || never x) counted_at
unfolding counted_at count_at
counted = opt count_spelling (is_mark marks.OpenParen)
    (in_words (enclosed marks.OpenParen _ (λ at. num (λ c. skip marks.CloseParen (λ z. end c)))) (λ o x ws t. cc) (λ o x ws e. (_, e, (x, _, refl, ([], refl, (refl, refl))))))
    (λ o x. refl)

pub names : {k : ℕ} → Rule k (Spelt names_spelling) never names_at
unfolding names_at
names = in_words
    (enclosed marks.OpenParen _
    (λ at. name (λ a. then (behinds name_spelling marks.Comma name_alone refl) (λ b. skip marks.CloseParen (λ c. end (record { first = a; others = b }))) (λ o a x vs q. front (λ x. is_mark marks.Comma x || never x) never q.1 refl))))
    (λ o x ws t. cc)
    (λ o x ws e. (_, e, (x.first, _, refl, (x.others, joined_behind marks.Comma (suc o) (map name_spelling x.others), bare marks.CloseParen ∷ [], refl, refl, ([], refl, (refl, refl))))))

-- ---- statements

-- an expression is followed by a comma or a bracket
values_free : (o : ℕ) (xs : List Expr) (us ws vs : List Word) → vs ≡ us ++ ws → SpeltBehind marks.Comma expr_spelling o xs us → {more : List Word} → ws ≡ bare marks.CloseParen ∷ more → Free on_expr never vs
values_free o [] us ws vs e u w = subst (Free on_expr never) (sym (e ∙ ap (λ z. z ++ ws) u ∙ w)) refl
values_free o (x ∷ xs) us ws vs e u w = subst (Free on_expr never) (sym (e ∙ ap (λ z. z ++ ws) u)) refl

pub values : {k : ℕ} → Rule k (Spelt values_spelling) never values_at
unfolding values_at
values {k = k} = in_words
    (enclosed marks.OpenParen _
    (λ at. then (expr k) (λ a. then (behinds expr_spelling marks.Comma (expr k) refl) (λ b. skip marks.CloseParen (λ c. end (record { first = a; others = b }))) (λ o a x vs q. front (λ x. is_mark marks.Comma x || on_expr x) never q.1 refl))
    (λ o a x vs q. values_free o q.0 q.1 q.2 vs q.3 q.4 q.5.1)))
    (λ o x ws t. cc)
    (λ o x ws e.
    (_, e, (x.first, expr_spelling x.first (suc o), _, refl, refl, (x.others, joined_behind marks.Comma (suc o) (map expr_spelling x.others), bare marks.CloseParen ∷ [], refl, refl, ([], refl, (refl, refl))))))

stmt_assign_is : (target : Span) (index : Option Expr) (value : Expr) (o : ℕ) → stmt_spelling (stmts.Assign target index value) o ≡ Name target ∷ (maybe_spelling index_spelling index o ++ bare marks.Assign ∷ expr_spelling value o)
stmt_assign_is target index value o = ap (λ z. stmt_spelling z o) (sym (stmts.rolls-Assign target index value)) ∙ ap (λ (f : Spelling). f o) (fold-roll-StmtDecl Spelling Spelling stmt_step block_step (StmtDecl-F.Assign target index value))

stmt_for_is : (at : ℕ) (name : Span) (low high : SignedNum) (block : Block) (o : ℕ) → stmt_spelling (stmts.For at name low high block) o ≡ placed marks.For at ∷ Name name ∷ bare marks.In ∷ (signed_spelling low o ++ bare marks.DotDot ∷ (signed_spelling high o ++ block_spelling block o))
stmt_for_is at name low high block o = ap (λ z. stmt_spelling z o) (sym (stmts.rolls-For at name low high block)) ∙ ap (λ (f : Spelling). f o) (fold-roll-StmtDecl Spelling Spelling stmt_step block_step (StmtDecl-F.For at name low high block))

stmt_send_is : (at : ℕ) (array entry : Span) (values : Values) (o : ℕ) → stmt_spelling (stmts.Send at array entry values) o ≡ placed marks.Send at ∷ Name array ∷ bare marks.Dot ∷ Name entry ∷ values_spelling values o
stmt_send_is at array entry values o = ap (λ z. stmt_spelling z o) (sym (stmts.rolls-Send at array entry values)) ∙ ap (λ (f : Spelling). f o) (fold-roll-StmtDecl Spelling Spelling stmt_step block_step (StmtDecl-F.Send at array entry values))

stmt_contribute_is : (at : ℕ) (name : Span) (value : Expr) (o : ℕ) → stmt_spelling (stmts.Contribute at name value) o ≡ placed marks.Contribute at ∷ Name name ∷ opener marks.OpenParen o ∷ (expr_spelling value (suc o) ++ bare marks.CloseParen ∷ [])
stmt_contribute_is at name value o = ap (λ z. stmt_spelling z o) (sym (stmts.rolls-Contribute at name value)) ∙ ap (λ (f : Spelling). f o) (fold-roll-StmtDecl Spelling Spelling stmt_step block_step (StmtDecl-F.Contribute at name value))

-- `else` and its block
abbrev otherwise : Block → Spelling
otherwise b o = bare marks.Else ∷ block_spelling b o

stmt_if_is : (at : ℕ) (test : Expr) (block : Block) (other : Option Block) (o : ℕ) → stmt_spelling (stmts.If at test block other) o ≡ placed marks.If at ∷ (expr_spelling test o ++ (block_spelling block o ++ maybe_spelling otherwise other o))
stmt_if_is at test block None o = ap (λ z. stmt_spelling z o) (sym (stmts.rolls-If at test block None)) ∙ ap (λ (f : Spelling). f o) (fold-roll-StmtDecl Spelling Spelling stmt_step block_step (StmtDecl-F.If at test block None))
stmt_if_is at test block (Some b) o = ap (λ z. stmt_spelling z o) (sym (stmts.rolls-If at test block (Some b))) ∙ ap (λ (f : Spelling). f o) (fold-roll-StmtDecl Spelling Spelling stmt_step block_step (StmtDecl-F.If at test block (Some b)))

block_is : (y : Block-F StmtDecl Block) (o : ℕ) → block_spelling (roll-Block y) o ≡ placed_opener marks.OpenBrace y.at o ∷ (joined (suc o) (map stmt_spelling y.statements) ++ bare marks.CloseBrace ∷ [])
block_is y o = ap (λ (f : Spelling). f o) (fold-roll-Block Spelling Spelling stmt_step block_step y)

stmt_cases : {C : Type 0} (x : StmtDecl) → ((s : Span) (i : Option Expr) (v : Expr) → stmts.Assign s i v ≡ x → C) → ((at : ℕ) (e : Expr) (b : Block) (c : Option Block) → stmts.If at e b c ≡ x → C) →
    ((at : ℕ) (s : Span) (l h : SignedNum) (b : Block) → stmts.For at s l h b ≡ x → C) → ((at : ℕ) (a e : Span) (v : Values) → stmts.Send at a e v ≡ x → C) → ((at : ℕ) (s : Span) (v : Expr) → stmts.Contribute at s v ≡ x → C) → C
stmt_cases {C = C} x assign branch loop send contribute = by (out-StmtDecl x) (roll-out-StmtDecl x)
  where
    by : (y : StmtDecl-F StmtDecl Block) → roll-StmtDecl y ≡ x → C
    by (StmtDecl-F.Assign s i v) e = assign s i v (sym (stmts.rolls-Assign s i v) ∙ e)
    by (StmtDecl-F.If at t b c) e = branch at t b c (sym (stmts.rolls-If at t b c) ∙ e)
    by (StmtDecl-F.For at s l h b) e = loop at s l h b (sym (stmts.rolls-For at s l h b) ∙ e)
    by (StmtDecl-F.Send at a n v) e = send at a n v (sym (stmts.rolls-Send at a n v) ∙ e)
    by (StmtDecl-F.Contribute at s v) e = contribute at s v (sym (stmts.rolls-Contribute at s v) ∙ e)

-- the tokens with which a statement goes on
abbrev on_stmt : Kind → Bool
on_stmt k = is_mark marks.Else k || on_expr k

abbrev on_statements : Kind → Bool
on_statements k = is_stmt k || on_stmt k

stmt_heads : (o : ℕ) (x : StmtDecl) → Headed is_stmt (stmt_spelling x o)
stmt_heads o x = stmt_cases x
    (λ s i v h. subst (λ z. Headed is_stmt (stmt_spelling z o)) h (subst (Headed is_stmt) (sym (stmt_assign_is s i v o)) refl))
    (λ at e b c h. subst (λ z. Headed is_stmt (stmt_spelling z o)) h (subst (Headed is_stmt) (sym (stmt_if_is at e b c o)) refl))
    (λ at s l u b h. subst (λ z. Headed is_stmt (stmt_spelling z o)) h (subst (Headed is_stmt) (sym (stmt_for_is at s l u b o)) refl))
    (λ at a e v h. subst (λ z. Headed is_stmt (stmt_spelling z o)) h (subst (Headed is_stmt) (sym (stmt_send_is at a e v o)) refl))
    (λ at s v h. subst (λ z. Headed is_stmt (stmt_spelling z o)) h (subst (Headed is_stmt) (sym (stmt_contribute_is at s v o)) refl))

pub block_heads : (o : ℕ) (b : Block) → Headed (is_mark marks.OpenBrace) (block_spelling b o)
block_heads o b = subst (λ z. Headed (is_mark marks.OpenBrace) (block_spelling z o)) (roll-out-Block b) (subst (Headed (is_mark marks.OpenBrace)) (sym (block_is (out-Block b) o)) refl)

-- a block doesn't go on an expression
block_free : (o : ℕ) (b : Block) (us vs ws : List Word) → ws ≡ us ++ vs → us ≡ block_spelling b o → Free on_expr on_stmt ws
block_free o b us vs ws e u =
    subst (Free on_expr on_stmt) (sym (e ∙ ap (λ z. z ++ vs) (u ∙ ap (λ z. block_spelling z o) (sym (roll-out-Block b)) ∙ block_is (out-Block b) o))) refl

name_apart : (k : Kind) → is_name k ≡ true → on_stmt k ≡ false
name_apart (kinds.Name s) e = refl
name_apart (kinds.Number n) e = absurd cc
name_apart (kinds.Mark m) e = absurd cc
name_apart kinds.Bad e = absurd cc
name_apart kinds.TooLarge e = absurd cc
name_apart kinds.End e = absurd cc

or_cases : {C : Type 0} (a b : Bool) → (a || b) ≡ true → (a ≡ true → C) → (b ≡ true → C) → C
or_cases true b e f g = f refl
or_cases false b e f g = g e

stmt_apart : (k : Kind) → is_stmt k ≡ true → on_stmt k ≡ false
stmt_apart k e =
    or_cases (is_name k) (is_mark marks.If k || (is_mark marks.For k || (is_mark marks.Send k || is_mark marks.Contribute k))) e (name_apart k)
    (λ e. or_cases (is_mark marks.If k) (is_mark marks.For k || (is_mark marks.Send k || is_mark marks.Contribute k)) e (λ h. ap on_stmt (is_mark_same marks.If k h))
    (λ e. or_cases (is_mark marks.For k) (is_mark marks.Send k || is_mark marks.Contribute k) e (λ h. ap on_stmt (is_mark_same marks.For k h))
    (λ e. or_cases (is_mark marks.Send k) (is_mark marks.Contribute k) e (λ h. ap on_stmt (is_mark_same marks.Send k h)) (λ h. ap on_stmt (is_mark_same marks.Contribute k h)))))

only_expr : (x : Kind) → on_stmt x ≡ false → on_expr x ≡ false
only_expr x e = or_right (is_mark marks.Else x) (on_expr x) e

only_else : (x : Kind) → on_stmt x ≡ false → (is_mark marks.Else x || never x) ≡ false
only_else x e = ap (λ c. c || false) (or_left (is_mark marks.Else x) (on_expr x) e)

module _ {k : ℕ} (statements : Rule k (SpeltAll stmt_spelling) on_statements statements_at) where
  block_next : Rule (suc k) (Spelt block_spelling) never (λ n. block_with n (inner n))
  unfolding block_with
  block_next = in_words
      (opened (omega arith) marks.OpenBrace _ (λ at. then statements (λ ss. skip marks.CloseBrace (λ c. end (roll-Block (record { at = at; statements = ss })))) (λ o a x vs q. front on_statements never q.1 refl)))
      (λ o x ws t. let is = block_is (record { at = t.0; statements = t.3.0 }) o in cc)
      (λ o x ws e.
      let y = out-Block x in
      (y.at, _, e ∙ ap (λ z. block_spelling z o) (sym (roll-out-Block x)) ∙ block_is y o, (y.statements, joined (suc o) (map stmt_spelling y.statements), bare marks.CloseBrace ∷ [], refl, refl, ([], refl, (roll-out-Block x, refl)))))

  else_next : Rule (suc k) (SpeltMaybe otherwise) (λ x. is_mark marks.Else x || never x) (λ n. else_with n (inner n))
  unfolding else_with
  else_next = opt otherwise (is_mark marks.Else) (in_words (skip marks.Else (λ c. block_next)) (λ o x ws t. t.1 ∙ ap (λ z. bare marks.Else ∷ z) t.2) (λ o x ws e. (block_spelling x o, e, refl))) (λ o x. refl)

  stmt_next : Rule (suc k) (Spelt stmt_spelling) on_stmt (λ n. stmt_with n (inner n))
  unfolding stmt_with if_with for_with send_at contribute_at assign_at
  stmt_next = in_words
      (choice (is_mark marks.If)
      (mark marks.If (λ at. then (expr (suc k)) (λ e. then block_next (λ b. widen (last else_next (λ c. stmts.If at e b c)) only_else) (λ o a x vs q. never_free on_stmt vs)) (λ o a x vs q. block_free o q.0 q.1 q.2 vs q.3 q.4)))
      (choice (is_mark marks.For)
      (mark marks.For (λ at. name (λ s. skip marks.In (λ w. then signed (λ l. skip marks.DotDot (λ d. then signed (λ h. widen (last block_next (λ b. stmts.For at s l h b)) (λ x e. refl)) (λ o a x vs q. never_free on_stmt vs)))
      (λ o a x vs q. never_free on_stmt vs)))))
      (choice (is_mark marks.Send)
      (mark marks.Send (λ at. name (λ a. skip marks.Dot (λ d. name (λ s. widen (last values (λ v. stmts.Send at a s v)) (λ x e. refl))))))
      (choice (is_mark marks.Contribute)
      (mark marks.Contribute (λ at. name (λ s. enclosed marks.OpenParen _ (λ z. then (expr (suc k)) (λ v. skip marks.CloseParen (λ c. end (stmts.Contribute at s v))) (λ o a x vs q. front on_expr on_stmt q.1 refl)))))
      (name (λ s. then (opt index_spelling (is_mark marks.OpenBracket) (index (suc k)) (λ o x. refl)) (λ i. skip marks.Assign (λ c. widen (last (expr (suc k)) (λ v. stmts.Assign s i v)) only_expr))
      (λ o a x vs q. front (λ x. is_mark marks.OpenBracket x || never x) on_stmt q.1 refl)))
      (λ o x ws is. top (is_mark marks.Contribute) is.2 refl) (λ o x ws is. front (is_mark marks.Contribute) on_stmt is.2 refl))
      (λ o x ws is. top (is_mark marks.Send) is.2 refl)
      (λ o x ws is. by_case (λ a. front (is_mark marks.Send) on_stmt a.2 refl) (λ b. front (is_mark marks.Send) on_stmt b.2 refl) is))
      (λ o x ws is. top (is_mark marks.For) is.2 refl)
      (λ o x ws is. by_case (λ a. front (is_mark marks.For) on_stmt a.2 refl) (λ b. by_case (λ a. front (is_mark marks.For) on_stmt a.2 refl) (λ c. front (is_mark marks.For) on_stmt c.2 refl) b) is))
      (λ o x ws is. top (is_mark marks.If) is.2 refl)
      (λ o x ws is. by_case (λ a. front (is_mark marks.If) on_stmt a.2 refl)
      (λ b. by_case (λ a. front (is_mark marks.If) on_stmt a.2 refl) (λ c. by_case (λ a. front (is_mark marks.If) on_stmt a.2 refl) (λ d. front (is_mark marks.If) on_stmt d.2 refl) c) b) is))
      (λ o x ws t. by_case (λ g. let is = stmt_if_is g.0 g.3.0 g.3.5.0 g.3.5.5.0 o in cc)
      (λ u. by_case (λ g. let is = stmt_for_is g.0 g.3.0 g.3.3.2.0 g.3.3.2.5.2.0 g.3.3.2.5.2.5.0 o in cc)
      (λ v. by_case (λ g. let is = stmt_send_is g.0 g.3.0 g.3.3.2.0 g.3.3.2.3.0 o in cc)
      (λ w. by_case (λ g. let is = stmt_contribute_is g.0 g.3.0 g.3.3.2.0 o in cc) (λ g. let is = stmt_assign_is g.0 g.3.0 g.3.5.2.0 o in cc) w) v) u) t)
      (λ o x ws e. stmt_cases x
      (λ s i v h. inr (inr (inr (inr (s, _, e ∙ ap (λ z. stmt_spelling z o) (sym h) ∙ stmt_assign_is s i v o, (i, maybe_spelling index_spelling i o, _, refl, refl, (_, refl, (v, refl, h))))))))
      (λ at t b c h. inl (at, _, e ∙ ap (λ z. stmt_spelling z o) (sym h) ∙ stmt_if_is at t b c o, (t, expr_spelling t o, _, refl, refl, (b, block_spelling b o, maybe_spelling otherwise c o, refl, refl, (c, refl, h)))))
      (λ at s l u b h. inr (inl (
        at,
        _,
        e ∙ ap (λ z. stmt_spelling z o) (sym h) ∙ stmt_for_is at s l u b o,
        (s, _, refl, (_, refl, (l, signed_spelling l o, _, refl, refl, (_, refl, (u, signed_spelling u o, block_spelling b o, refl, refl, (b, refl, h)))))),
      )))
      (λ at a s v h. inr (inr (inl (at, _, e ∙ ap (λ z. stmt_spelling z o) (sym h) ∙ stmt_send_is at a s v o, (a, _, refl, (_, refl, (s, values_spelling v o, refl, (v, refl, h))))))))
      (λ at s v h. inr (inr (inr (inl (at, _, e ∙ ap (λ z. stmt_spelling z o) (sym h) ∙ stmt_contribute_is at s v o, (s, _, refl, (_, refl, (v, expr_spelling v (suc o), bare marks.CloseParen ∷ [], refl, refl, ([], refl, (h, refl)))))))))))

statements : (k : ℕ) → Rule k (SpeltAll stmt_spelling) on_statements statements_at
statements zero = record { some = λ o. ([], [], refl); law = λ max o n h e. absurd (omega arith); grows = λ n m h l ts. absurd (omega arith) }
statements (suc k) = all stmt_spelling is_stmt (stmt_next (statements k)) stmt_heads stmt_apart

pub block : (k : ℕ) → Rule k (Spelt block_spelling) never block_at
block k = fewer (block_next (statements k))

-- ---- what a loop reads has a token

pub values_shrinks : (n : ℕ) → Shrinks (behind marks.Comma (expr_at n))
values_shrinks n = behind_shrinks marks.Comma _ (rule_less n (expr (suc n)))

pub names_shrinks : Shrinks (behind marks.Comma name_at)
names_shrinks = behind_shrinks marks.Comma _ (rule_less 0 name_alone)

pub stmt_shrinks : (n : ℕ) → Shrinks (stmt_with n (inner n))
stmt_shrinks n = rule_shrinks n is_stmt (stmt_next (statements n)) (λ x ws is. subst (Headed is_stmt) (sym is) (stmt_heads 0 x))
