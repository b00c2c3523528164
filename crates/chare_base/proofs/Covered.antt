-- The cells that a block of a part uses are those of its array's states.
use Rattle.std.proofs.Common.{◌≡◌, ℕ, zero, suc, ◌+◌, ◌<◌, ◌≤◌, Bool, true, false, List, [], ◌∷◌, map, refl, ap, sym, ◌∙◌, subst, arith, Some, inl, inr}
use Rattle.std.specs.Prelude.{IsTrue, ◌&&◌, ◌||◌, ◌==◌, not, nat_lt, slice_get}
use Rattle.std.specs.List.{list_all, list_any}
use Rattle.std.proofs.lemmas.Bool.{and_parts, or_cases, or_left, or_right, lt-ltb, ltb-true, eqb-true}
use Rattle.chare_base.specs.declared.expression.Expr.{Expr, roll-Expr}
use Rattle.chare_base.specs.declared.expression.Term.{Term, roll-Term}
use Rattle.chare_base.specs.declared.expression.Factor.{Factor, roll-Factor}
use Rattle.chare_base.specs.declared.expression.Expr.TheOpen.{Expr-F, Factor-F, Term-F}
use Rattle.chare_base.specs.declared.expression.Expr.TheFolds.{fold-roll-Expr, fold-roll-Factor, fold-roll-Term, map-Expr, ind-Expr}
use Rattle.chare_base.specs.declared.range.Range.{Range}
use Rattle.chare_base.specs.declared.scope.Scope.{Scope}
use Rattle.chare_base.specs.declared.plan.State.{State}
use Rattle.chare_base.specs.declared.plan.Stmt.{Stmt, roll-Stmt}
use Rattle.chare_base.specs.declared.plan.Stmt.TheOpen.{Stmt-F}
use Rattle.chare_base.specs.declared.plan.Stmt.TheFolds.{fold-roll-Stmt, map-Stmt, ind-Stmt}
use Rattle.chare_base.specs.Limits.{between, name_fits, state_fits}
use Rattle.chare_base.specs.Ranges.{all_of, plain_at, indexed_at, expr_step, factor_step, term_step, expr_in_range, factor_in_range, term_in_range, part_scope, value_in_range, Test, all_in, stmt_step, stmt_in_range}
use Rattle.chare_base.specs.Uses.{Cells, any_of, range_of, meet, one, reads, reads_in_factor, reads_in_term, reads_step, factor_reads, term_reads, stmt_reads, stmt_writes, stmt_reads_step, stmt_writes_step, uses, writes}
use Rattle.chare_base.proofs.Facts.{each_at, within}

-- a cell is one of a range
pub record Holds (k : ℕ) (range : Range) : Type 0 where
  pub from : range.at ≤ k
  pub below : k < range.at + range.count

-- a cell is one of a state's
pub record Owned (states : List State) (k : ℕ) : Type 0 where
  pub nth : ℕ
  pub state : State
  pub is : slice_get states nth ≡ Some state
  pub from : state.at ≤ k
  pub below : k < state.at + state.cells

-- What means a cell means each range that holds it; and where a test holds, each cell that is meant is a state's.
pub record Fair (states : List State) (test : Bool) (c : Cells) : Type 0 where
  pub grows : (k : ℕ) (range : Range) → Holds k range → c (one k) ≡ true → c range ≡ true
  pub owned : test ≡ true → (k : ℕ) → c (one k) ≡ true → Owned states k

any_found : {A : Type 0} (test : A → Bool) (xs : List A) → list_any test xs ≡ true → (i : ℕ) × (x : A) × (slice_get xs i ≡ Some x) × (test x ≡ true)
any_found test [] h = absurd cc
any_found test (x ∷ xs) h = elim (or_cases (test x) (list_any test xs) h) [
  | inl e ↦ (zero, x, refl, e)
  | inr e ↦ let r = any_found test xs e in (suc r.0, r.1, r.2, r.3)
]

both_true : (a b : Bool) → a ≡ true → b ≡ true → (a && b) ≡ true
both_true a b d e = ap (λ c. c && b) d ∙ e

-- what is known of two ranges that meet
meet_grows : (b : Range) (k : ℕ) (range : Range) → Holds k range → meet (one k) b ≡ true → meet range b ≡ true
meet_grows b k range h e =
    let p = and_parts (nat_lt k (b.at + b.count)) (nat_lt b.at (k + 1)) e in
    let low = ltb-true k (b.at + b.count) p.0 in
    let high = ltb-true b.at (k + 1) p.1 in
    both_true (nat_lt range.at (b.at + b.count)) (nat_lt b.at (range.at + range.count))
    (lt-ltb range.at (b.at + b.count) (omega (arith, low, h.from))) (lt-ltb b.at (range.at + range.count) (omega (arith, high, h.below)))

met : (b : Range) (k : ℕ) → meet (one k) b ≡ true → Holds k b
met b k e =
    let p = and_parts (nat_lt k (b.at + b.count)) (nat_lt b.at (k + 1)) e in
    record { from = omega (arith, ltb-true b.at (k + 1) p.1); below = ltb-true k (b.at + b.count) p.0 }

module _ (states : List State) (fit : IsTrue (list_all state_fits states)) where
  none_fair : (test : Bool) → Fair states test (λ r. false)
  none_fair test = record { grows = λ k range h e. e; owned = λ t k e. absurd (let f : false ≡ true = e in cc) }

  or_fair : (s t : Bool) (c d : Cells) → Fair states s c → Fair states t d → Fair states (s && t) (λ r. c r || d r)
  or_fair s t c d f g = record {
    grows = λ k range h e. elim (or_cases (c (one k)) (d (one k)) e) [
      | inl u ↦ or_left (c range) (d range) (f.grows k range h u)
      | inr u ↦ or_right (c range) (d range) (g.grows k range h u)
    ];
    owned = λ h k e.
        let p = and_parts s t h in
        elim (or_cases (c (one k)) (d (one k)) e) [
          | inl u ↦ f.owned p.0 k u
          | inr u ↦ g.owned p.1 k u
        ];
  }

  weaker : (s t : Bool) (c : Cells) → (t ≡ true → s ≡ true) → Fair states s c → Fair states t c
  weaker s t c h f = record { grows = f.grows; owned = λ e. f.owned (h e) }

  -- the second of two tests, and the first
  second : (s t : Bool) (c : Cells) → Fair states t c → Fair states (s && t) c
  second s t c f = weaker t (s && t) c (λ e. (and_parts s t e).1) f

  first : (s t : Bool) (c : Cells) → Fair states s c → Fair states (s && t) c
  first s t c f = weaker s (s && t) c (λ e. (and_parts s t e).0) f

  cell_fair : (cell : ℕ) → Fair states (plain_at states cell) (λ r. meet r (range_of cell 1))
  unfolding plain_at
  cell_fair cell = record {
    grows = meet_grows (range_of cell 1);
    owned = λ t k e.
        let found = any_found (λ (s : State). s.plain && s.at == cell) states t in
        let state = found.1 in
        let at : state.at ≡ cell = eqb-true state.at cell (and_parts state.plain (state.at == cell) found.3).1 in
        let named = and_parts _ _ (each_at state_fits states found.0 state fit found.2) in
        let some = within 1 4096 state.cells (and_parts (name_fits state.name) (between 1 4096 state.cells) named.0).1 in
        let here = met (range_of cell 1) k e in
        let low : cell ≤ k = here.from in
        let high : k < cell + 1 = here.below in
        record { nth = found.0; state = state; is = found.2; from = omega arith; below = omega (arith, some.0) };
  }

  cells_fair : (at count : ℕ) → Fair states (indexed_at states at count) (λ r. meet r (range_of at count))
  unfolding indexed_at
  cells_fair at count = record {
    grows = meet_grows (range_of at count);
    owned = λ t k e.
        let found = any_found (λ (s : State). not s.plain && (s.at == at && s.cells == count)) states t in
        let state = found.1 in
        let both = and_parts (state.at == at) (state.cells == count) (and_parts (not state.plain) (state.at == at && state.cells == count) found.3).1 in
        let first_is : state.at ≡ at = eqb-true state.at at both.0 in
        let count_is : state.cells ≡ count = eqb-true state.cells count both.1 in
        let here = met (range_of at count) k e in
        let low : at ≤ k = here.from in
        let high : k < at + count = here.below in
        record { nth = found.0; state = state; is = found.2; from = omega arith; below = omega arith };
  }

  -- ---- expressions

  abbrev ExprFair : Expr → Type 0
  ExprFair e = (scope : Scope) → Fair states (expr_in_range states scope e) (reads e)

  abbrev FactorFair : Factor → Type 0
  FactorFair f = (scope : Scope) → Fair states (factor_in_range states scope f) (reads_in_factor f)

  abbrev TermFair : Term → Type 0
  TermFair t = (scope : Scope) → Fair states (term_in_range states scope t) (reads_in_term t)

  -- operands of one kind, each with its claim
  module _ {X : Type 0} (test : Scope → X → Bool) (cells : X → Cells) where
    each_fair : (scope : Scope) (xs : List ((x : X) × ((s : Scope) → Fair states (test s x) (cells x)))) →
        Fair states (all_of (map (test scope) (map (λ x. x.0) xs))) (any_of (map cells (map (λ x. x.0) xs)))
    each_fair scope [] = none_fair true
    each_fair scope (x ∷ xs) =
        or_fair (test scope x.0) (all_of (map (test scope) (map (λ x. x.0) xs))) (cells x.0) (any_of (map cells (map (λ x. x.0) xs))) (x.1 scope) (each_fair scope xs)

  abbrev Layer : Expr-F Expr Factor Term → Type 0
  Layer x = (scope : Scope) →
      Fair states (expr_step states scope (map-Expr Expr Factor Term Bool Bool Bool (expr_in_range states scope) (factor_in_range states scope) (term_in_range states scope) x))
      (reads_step (map-Expr Expr Factor Term Cells Cells Cells reads reads_in_factor reads_in_term x))

  abbrev Below : Type 0
  Below = Expr-F ((e : Expr) × ExprFair e) ((f : Factor) × FactorFair f) ((t : Term) × TermFair t)

  abbrev bare : Below → Expr-F Expr Factor Term
  bare y = map-Expr ((e : Expr) × ExprFair e) ((f : Factor) × FactorFair f) ((t : Term) × TermFair t) Expr Factor Term (λ e. e.0) (λ f. f.0) (λ t. t.0) y

  abbrev two_fair : (a b : (e : Expr) × ExprFair e) (scope : Scope) → Fair states (expr_in_range states scope a.0 && expr_in_range states scope b.0) (λ r. reads a.0 r || reads b.0 r)
  two_fair a b scope = or_fair (expr_in_range states scope a.0) (expr_in_range states scope b.0) (reads a.0) (reads b.0) (a.1 scope) (b.1 scope)

  layer : (y : Below) → Layer (bare y)
  layer (Expr-F.Number n) scope = none_fair true
  layer (Expr-F.Cell at) scope = cell_fair at
  layer (Expr-F.CellAt at count place) scope =
      or_fair (indexed_at states at count) (expr_in_range states scope place.0) (λ r. meet r (range_of at count)) (reads place.0) (cells_fair at count) (place.1 scope)
  layer (Expr-F.Mail i) scope = none_fair (nat_lt i scope.values)
  layer (Expr-F.Loop i) scope = none_fair (nat_lt i scope.loops)
  layer Expr-F.Index scope = none_fair true
  layer Expr-F.Row scope = none_fair true
  layer Expr-F.Col scope = none_fair true
  layer Expr-F.Which scope = none_fair scope.which
  layer Expr-F.Iter scope = none_fair scope.iter
  layer (Expr-F.Minus e) scope = e.1 scope
  layer (Expr-F.Not e) scope = e.1 scope
  layer (Expr-F.Least a b) scope = two_fair a b scope
  layer (Expr-F.Greatest a b) scope = two_fair a b scope
  layer (Expr-F.Compare op a b) scope = two_fair a b scope
  layer (Expr-F.Sum a others) scope =
      or_fair (expr_in_range states scope a.0) (all_of (map (term_in_range states scope) (map (λ t. t.0) others))) (reads a.0) (any_of (map reads_in_term (map (λ t. t.0) others))) (a.1 scope) (each_fair (term_in_range states) reads_in_term scope others)
  layer (Expr-F.Product a others) scope =
      or_fair (expr_in_range states scope a.0) (all_of (map (factor_in_range states scope) (map (λ f. f.0) others))) (reads a.0) (any_of (map reads_in_factor (map (λ f. f.0) others))) (a.1 scope) (each_fair (factor_in_range states) reads_in_factor scope others)
  layer (Expr-F.All operands) scope = each_fair (expr_in_range states) reads scope operands
  layer (Expr-F.Any operands) scope = each_fair (expr_in_range states) reads scope operands

  whole : (x : Expr-F Expr Factor Term) → Layer x → ExprFair (roll-Expr x)
  whole x t scope =
      subst (λ b. Fair states b (reads (roll-Expr x))) (sym (fold-roll-Expr Bool Bool Bool (expr_step states scope) factor_step term_step x))
      (subst (Fair states (expr_step states scope (map-Expr Expr Factor Term Bool Bool Bool (expr_in_range states scope) (factor_in_range states scope) (term_in_range states scope) x)))
      (sym (fold-roll-Expr Cells Cells Cells reads_step factor_reads term_reads x)) (t scope))

  whole_factor : (x : Factor-F Expr Factor Term) → ExprFair x.value → FactorFair (roll-Factor x)
  whole_factor x t scope =
      subst (λ b. Fair states b (reads_in_factor (roll-Factor x))) (sym (fold-roll-Factor Bool Bool Bool (expr_step states scope) factor_step term_step x))
      (subst (Fair states (expr_in_range states scope x.value)) (sym (fold-roll-Factor Cells Cells Cells reads_step factor_reads term_reads x)) (t scope))

  whole_term : (x : Term-F Expr Factor Term) → ExprFair x.value → TermFair (roll-Term x)
  whole_term x t scope =
      subst (λ b. Fair states b (reads_in_term (roll-Term x))) (sym (fold-roll-Term Bool Bool Bool (expr_step states scope) factor_step term_step x))
      (subst (Fair states (expr_in_range states scope x.value)) (sym (fold-roll-Term Cells Cells Cells reads_step factor_reads term_reads x)) (t scope))

  expr_fair : (e : Expr) → ExprFair e
  expr_fair = ind-Expr ExprFair FactorFair TermFair
      (λ x y is. whole x (subst Layer is (layer y)))
      (λ x y is. whole_factor x (subst (λ (z : Factor-F Expr Factor Term). ExprFair z.value) is y.value.1))
      (λ x y is. whole_term x (subst (λ (z : Term-F Expr Factor Term). ExprFair z.value) is y.value.1))

  -- ---- statements

  module _ (values : ℕ) where
    value_fair : (loops : ℕ) (e : Expr) → Fair states (value_in_range states values loops e) (reads e)
    unfolding value_in_range
    value_fair loops e = expr_fair e (part_scope values loops)

    values_fair : (loops : ℕ) (es : List Expr) → Fair states (list_all (value_in_range states values loops) es) (any_of (map reads es))
    values_fair loops [] = none_fair true
    values_fair loops (e ∷ es) =
        or_fair (value_in_range states values loops e) (list_all (value_in_range states values loops) es) (reads e) (any_of (map reads es)) (value_fair loops e) (values_fair loops es)

    module _ (cells : Stmt → Cells) where
      abbrev StmtFair : Stmt → Type 0
      StmtFair s = (loops : ℕ) → Fair states (stmt_in_range states values s loops) (cells s)

      stmts_fair : (loops : ℕ) (xs : List ((s : Stmt) × StmtFair s)) → Fair states (all_in (map (stmt_in_range states values) (map (λ s. s.0) xs)) loops) (any_of (map cells (map (λ s. s.0) xs)))
      stmts_fair loops [] = none_fair true
      stmts_fair loops (x ∷ xs) =
          or_fair (stmt_in_range states values x.0 loops) (all_in (map (stmt_in_range states values) (map (λ s. s.0) xs)) loops) (cells x.0) (any_of (map cells (map (λ s. s.0) xs)))
          (x.1 loops) (stmts_fair loops xs)

    abbrev inner_test : (cells : Stmt → Cells) → List ((s : Stmt) × StmtFair cells s) → Test
    inner_test cells xs = all_in (map (stmt_in_range states values) (map (λ s. s.0) xs))

    abbrev inner : (cells : Stmt → Cells) → List ((s : Stmt) × StmtFair cells s) → Cells
    inner cells xs = any_of (map cells (map (λ s. s.0) xs))

    branches_fair : (cells : Stmt → Cells) (a b : List ((s : Stmt) × StmtFair cells s)) (loops : ℕ) →
        Fair states (inner_test cells a loops && inner_test cells b loops) (λ r. inner cells a r || inner cells b r)
    branches_fair cells a b loops =
        or_fair (inner_test cells a loops) (inner_test cells b loops) (inner cells a) (inner cells b) (stmts_fair cells loops a) (stmts_fair cells loops b)

    block_fair_in_loop : (cells : Stmt → Cells) (slot loops : ℕ) (block : List ((s : Stmt) × StmtFair cells s)) →
        Fair states (slot == loops && (nat_lt loops 32 && inner_test cells block (suc loops))) (inner cells block)
    block_fair_in_loop cells slot loops block =
        second (slot == loops) (nat_lt loops 32 && inner_test cells block (suc loops)) (inner cells block)
        (second (nat_lt loops 32) (inner_test cells block (suc loops)) (inner cells block) (stmts_fair cells (suc loops) block))

    abbrev LayerOf : (step : Stmt-F Cells → Cells) (cells : Stmt → Cells) → Stmt-F Stmt → Type 0
    LayerOf step cells x = (loops : ℕ) → Fair states (stmt_step states values (map-Stmt Stmt Test (stmt_in_range states values) x) loops) (step (map-Stmt Stmt Cells cells x))

    abbrev bare_stmt : (cells : Stmt → Cells) → Stmt-F ((s : Stmt) × StmtFair cells s) → Stmt-F Stmt
    bare_stmt cells y = map-Stmt ((s : Stmt) × StmtFair cells s) Stmt (λ s. s.0) y

    reads_layer : (y : Stmt-F ((s : Stmt) × StmtFair stmt_reads s)) → LayerOf stmt_reads_step stmt_reads (bare_stmt stmt_reads y)
    reads_layer (Stmt-F.Set at e) loops = second (plain_at states at) (value_in_range states values loops e) (reads e) (value_fair loops e)
    reads_layer (Stmt-F.SetAt at count place e) loops =
        second (indexed_at states at count) (value_in_range states values loops place && value_in_range states values loops e) (λ r. reads place r || reads e r)
        (or_fair (value_in_range states values loops place) (value_in_range states values loops e) (reads place) (reads e) (value_fair loops place) (value_fair loops e))
    reads_layer (Stmt-F.If test a b) loops =
        or_fair (value_in_range states values loops test) (inner_test stmt_reads a loops && inner_test stmt_reads b loops) (reads test) (λ r. inner stmt_reads a r || inner stmt_reads b r)
        (value_fair loops test) (branches_fair stmt_reads a b loops)
    reads_layer (Stmt-F.For slot low high block) loops = block_fair_in_loop stmt_reads slot loops block
    reads_layer (Stmt-F.Send entry sent) loops = values_fair loops sent
    reads_layer (Stmt-F.Contribute reduction e) loops = value_fair loops e

    writes_layer : (y : Stmt-F ((s : Stmt) × StmtFair stmt_writes s)) → LayerOf stmt_writes_step stmt_writes (bare_stmt stmt_writes y)
    writes_layer (Stmt-F.Set at e) loops = first (plain_at states at) (value_in_range states values loops e) (λ r. meet r (range_of at 1)) (cell_fair at)
    writes_layer (Stmt-F.SetAt at count place e) loops =
        first (indexed_at states at count) (value_in_range states values loops place && value_in_range states values loops e) (λ r. meet r (range_of at count)) (cells_fair at count)
    writes_layer (Stmt-F.If test a b) loops =
        second (value_in_range states values loops test) (inner_test stmt_writes a loops && inner_test stmt_writes b loops) (λ r. inner stmt_writes a r || inner stmt_writes b r)
        (branches_fair stmt_writes a b loops)
    writes_layer (Stmt-F.For slot low high block) loops = block_fair_in_loop stmt_writes slot loops block
    writes_layer (Stmt-F.Send entry sent) loops = none_fair (list_all (value_in_range states values loops) sent)
    writes_layer (Stmt-F.Contribute reduction e) loops = none_fair (value_in_range states values loops e)

    reads_whole : (x : Stmt-F Stmt) → LayerOf stmt_reads_step stmt_reads x → StmtFair stmt_reads (roll-Stmt x)
    reads_whole x t loops =
        subst (λ (test : Test). Fair states (test loops) (stmt_reads (roll-Stmt x))) (sym (fold-roll-Stmt Test (stmt_step states values) x))
        (subst (Fair states (stmt_step states values (map-Stmt Stmt Test (stmt_in_range states values) x) loops)) (sym (fold-roll-Stmt Cells stmt_reads_step x)) (t loops))

    writes_whole : (x : Stmt-F Stmt) → LayerOf stmt_writes_step stmt_writes x → StmtFair stmt_writes (roll-Stmt x)
    writes_whole x t loops =
        subst (λ (test : Test). Fair states (test loops) (stmt_writes (roll-Stmt x))) (sym (fold-roll-Stmt Test (stmt_step states values) x))
        (subst (Fair states (stmt_step states values (map-Stmt Stmt Test (stmt_in_range states values) x) loops)) (sym (fold-roll-Stmt Cells stmt_writes_step x)) (t loops))

    reads_fair : (s : Stmt) → StmtFair stmt_reads s
    reads_fair = ind-Stmt (StmtFair stmt_reads) (λ x y is. reads_whole x (subst (LayerOf stmt_reads_step stmt_reads) is (reads_layer y)))

    writes_fair : (s : Stmt) → StmtFair stmt_writes s
    writes_fair = ind-Stmt (StmtFair stmt_writes) (λ x y is. writes_whole x (subst (LayerOf stmt_writes_step stmt_writes) is (writes_layer y)))

    -- ---- blocks

    abbrev pub in_range : List Stmt → Bool
    in_range block = list_all (λ stmt. stmt_in_range states values stmt 0) block

    block_fair : (cells : Stmt → Cells) → ((s : Stmt) → StmtFair cells s) → (block : List Stmt) → Fair states (in_range block) (any_of (map cells block))
    block_fair cells h [] = none_fair true
    block_fair cells h (s ∷ more) = or_fair (stmt_in_range states values s 0) (in_range more) (cells s) (any_of (map cells more)) (h s 0) (block_fair cells h more)

    pub block_writes_fair : (block : List Stmt) → Fair states (in_range block) (writes block)
    block_writes_fair block = block_fair stmt_writes writes_fair block

    pub block_uses_fair : (block : List Stmt) → Fair states (in_range block) (uses block)
    block_uses_fair block =
        let whole = or_fair (in_range block) (in_range block) (any_of (map stmt_reads block)) (writes block) (block_fair stmt_reads reads_fair block) (block_writes_fair block) in
        weaker (in_range block && in_range block) (in_range block) (uses block) (λ e. both_true (in_range block) (in_range block) e e) whole
