-- What a walk over an expression notes is what its plan reads; and the plan names what is there alone.
use Rattle.std.proofs.Common.{◌≡◌, ℕ, Bool, true, false, List, [], ◌∷◌, map, refl, sym, ◌∙◌, subst, Some, pos, inl, inr}
use Rattle.std.specs.Prelude.{◌&&◌, ◌||◌, ◌==◌, slice_get}
use Rattle.std.specs.List.{list_any}
use Rattle.std.proofs.lemmas.Bool.{and_parts, or_cases, or_left}
use Rattle.chare_base.specs.declared.expression.Expr.{Expr, roll-Expr}
use Rattle.chare_base.specs.declared.expression.Expr.TheVariants as exprs
use Rattle.chare_base.specs.declared.expression.Expr.TheOpen.{Expr-F, Factor-F, Term-F}
use Rattle.chare_base.specs.declared.expression.Expr.TheFolds.{fold-roll-Expr, fold-roll-Factor, fold-roll-Term, map-Expr}
use Rattle.chare_base.specs.declared.expression.Factor.{Factor, roll-Factor}
use Rattle.chare_base.specs.declared.expression.Term.{Term, roll-Term}
use Rattle.chare_base.specs.declared.plan.State.{State}
use Rattle.chare_base.specs.declared.range.Range.{Range}
use Rattle.chare_base.specs.declared.scope.Scope.{Scope}
use Rattle.chare_base.specs.Overlap.{state_range}
use Rattle.chare_base.specs.Ranges as r
use Rattle.chare_base.specs.Uses as u
use Rattle.chare_base.specs.Uses.{Cells, any_of, meet, range_of, reads, reads_in_factor, reads_in_term}
use Rattle.job_tree.specs.declared.token.Span.{Span}
use Rattle.job_tree.specs.declared.tree.Choice.{Choice}
use Rattle.job_tree.specs.declared.tree.Choice.TheVariants as choices
use Rattle.job_tree.specs.declared.tree.Here.{Here}
use Rattle.job_tree.specs.declared.tree.Atom.{Atom, roll-Atom}
use Rattle.job_tree.specs.declared.tree.Test.{Test, roll-Test}
use Rattle.job_tree.specs.declared.tree.Unary.{Unary, roll-Unary}
use Rattle.job_tree.specs.declared.tree.Conj.{Conj, roll-Conj}
use Rattle.job_tree.specs.declared.tree.Expr.{Expr as ExprDecl, roll-Expr as roll-ExprDecl}
use Rattle.job_tree.specs.declared.tree.Product.{Product, roll-Product}
use Rattle.job_tree.specs.declared.tree.ProductTerm.{ProductTerm, roll-ProductTerm}
use Rattle.job_tree.specs.declared.tree.Sum.{Sum, roll-Sum}
use Rattle.job_tree.specs.declared.tree.SumTerm.{SumTerm, roll-SumTerm}
use Rattle.job_tree.specs.declared.tree.Atom.TheOpen.{Atom-F, Test-F, Unary-F, Conj-F, Expr-F as ExprDecl-F, Product-F, ProductTerm-F, Sum-F, SumTerm-F}
use Rattle.job_tree.specs.declared.tree.Atom.TheFolds as tree
use Rattle.job_rules.specs.declared.notes.Notes.{Notes}
use Rattle.job_rules.specs.declared.notes.StateUse.{StateUse}
use Rattle.job_rules.specs.declared.walk.Site.{Site}
use Rattle.job_rules.specs.Expressions as w
use Rattle.job_rules.specs.Expressions.{here_walked, name_walked}
use Rattle.job_rules.specs.Faults.{Found, nothing}
use Rattle.job_rules.specs.Names.{Known}
use Rattle.job_rules.specs.Notes.{Walk, in_order, noted}
use Rattle.job_rules.specs.PlannedExpressions as p
use Rattle.job_rules.specs.PlannedNames as n
use Rattle.job_rules.specs.Numbers.{narrow63}
use Rattle.job_rules.proofs.Counting.{both}
use Rattle.job_rules.proofs.Sooner.{sooner_none}

-- ---- notes

-- nothing is found between two notes, and what was noted stays
pub record Goes (a b : Notes) : Type 0 where
  pub found : a.found ≡ nothing
  pub uses : (test : StateUse → Bool) → list_any test a.uses ≡ true → list_any test b.uses ≡ true
  pub sent : b.sent ≡ a.sent
  pub received : b.received ≡ a.received

pub goes_on : (a b c : Notes) → Goes a b → Goes b c → Goes a c
goes_on a b c f g = record {
  found = f.found;
  uses = λ test h. g.uses test (f.uses test h);
  sent = g.sent ∙ f.sent;
  received = g.received ∙ f.received;
}

pub stays : (a : Notes) → a.found ≡ nothing → Goes a a
stays a h = record { found = h; uses = λ test k. k; sent = refl; received = refl }

pub noted_goes : (fault : Found) (a : Notes) → (noted fault a).found ≡ nothing → Goes a (noted fault a) × (fault ≡ nothing)
noted_goes fault a h = let both_none = sooner_none a.found fault h in (record { found = both_none.0; uses = λ test k. k; sent = refl; received = refl }, both_none.1)

-- ---- states

-- a part uses a state
abbrev pub uses_state : ℕ → ℕ → StateUse → Bool
uses_state part j v = v.part == part && v.state == j

abbrev pub writes_state : ℕ → ℕ → StateUse → Bool
writes_state part j v = v.part == part && (v.state == j && v.written)

abbrev pub used_in : ℕ → Notes → ℕ → Bool
used_in part a j = list_any (uses_state part j) a.uses

module _ (states : List State) where
  -- a test holds, and each state of which cells are meant is used
  pub record Clean (used : ℕ → Bool) (test : Bool) (cells : Cells) : Type 0 where
    pub ranged : test ≡ true
    pub told : (j : ℕ) (s : State) → slice_get states j ≡ Some s → cells (state_range s) ≡ true → used j ≡ true

  pub clean_none : (used : ℕ → Bool) (test : Bool) → test ≡ true → Clean used test (λ range. false)
  clean_none used test h = record { ranged = h; told = λ j s is k. absurd (let e : false ≡ true = k in cc) }

  pub clean_and : (used : ℕ → Bool) (a b : Bool) (c d : Cells) → Clean used a c → Clean used b d → Clean used (a && b) (λ range. c range || d range)
  clean_and used a b c d f g = record {
    ranged = both a b f.ranged g.ranged;
    told = λ j s is h. elim (or_cases (c (state_range s)) (d (state_range s)) h) [
      | inl x ↦ f.told j s is x
      | inr x ↦ g.told j s is x
    ];
  }

  pub more_used : (used others : ℕ → Bool) (a : Bool) (c : Cells) → ((j : ℕ) → used j ≡ true → others j ≡ true) → Clean used a c → Clean others a c
  more_used used others a c h f = record { ranged = f.ranged; told = λ j s is k. h j (f.told j s is k) }

  -- the same, weaker
  pub clean_as : (used : ℕ → Bool) (a b : Bool) (c d : Cells) → (a ≡ true → b ≡ true) → ((range : Range) → d range ≡ true → c range ≡ true) → Clean used a c → Clean used b d
  clean_as used a b c d h k f = record { ranged = h f.ranged; told = λ j s is e. f.told j s is (k (state_range s) e) }

  module _ (part : ℕ) where
    -- where a walk finds nothing, what is before stays, the test holds, and each state of which cells are meant is noted
    pub record Good (walk : Walk) (test : Bool) (cells : Cells) : Type 0 where
      pub goes : (a : Notes) → (walk a).found ≡ nothing → Goes a (walk a)
      pub clean : (a : Notes) → (walk a).found ≡ nothing → Clean (used_in part (walk a)) test cells

    pub good_none : (test : Bool) → test ≡ true → Good (λ a. a) test (λ range. false)
    good_none test h = record { goes = stays; clean = λ a k. clean_none (used_in part a) test h }

    pub good_and : (v w : Walk) (a b : Bool) (c d : Cells) → Good v a c → Good w b d → Good (λ x. w (v x)) (a && b) (λ range. c range || d range)
    good_and v w a b c d f g = record {
      goes = λ x h. let later = g.goes (v x) h in goes_on x (v x) (w (v x)) (f.goes x later.found) later;
      clean = λ x h.
          let later = g.goes (v x) h in
          clean_and (used_in part (w (v x))) a b c d
          (more_used (used_in part (v x)) (used_in part (w (v x))) a c (λ j k. later.uses (uses_state part j) k) (f.clean x later.found)) (g.clean (v x) h);
    }

    pub good_as : (w : Walk) (a b : Bool) (c d : Cells) → (a ≡ true → b ≡ true) → ((range : Range) → d range ≡ true → c range ≡ true) → Good w a c → Good w b d
    good_as w a b c d h k f = record { goes = f.goes; clean = λ x e. clean_as (used_in part (w x)) a b c d h k (f.clean x e) }

    module _ (scope : Scope) where
      abbrev pub GoodExpr : Walk → Expr → Type 0
      GoodExpr walk e = Good walk (r.expr_in_range states scope e) (reads e)

      abbrev GoodFactor : Walk → Factor → Type 0
      GoodFactor walk f = Good walk (r.factor_in_range states scope f) (reads_in_factor f)

      abbrev GoodTerm : Walk → Term → Type 0
      GoodTerm walk t = Good walk (r.term_in_range states scope t) (reads_in_term t)

      abbrev tested : Expr-F Expr Factor Term → Bool
      tested x = r.expr_step states scope (map-Expr Expr Factor Term Bool Bool Bool (r.expr_in_range states scope) (r.factor_in_range states scope) (r.term_in_range states scope) x)

      abbrev read_by : Expr-F Expr Factor Term → Cells
      read_by x = u.reads_step (map-Expr Expr Factor Term Cells Cells Cells reads reads_in_factor reads_in_term x)

      pub rolled : (walk : Walk) (x : Expr-F Expr Factor Term) → Good walk (tested x) (read_by x) → GoodExpr walk (roll-Expr x)
      rolled walk x g =
          subst (λ b. Good walk b (reads (roll-Expr x))) (sym (fold-roll-Expr Bool Bool Bool (r.expr_step states scope) r.factor_step r.term_step x))
          (subst (Good walk (tested x)) (sym (fold-roll-Expr Cells Cells Cells u.reads_step u.factor_reads u.term_reads x)) g)

      rolled_factor : (walk : Walk) (x : Factor-F Expr Factor Term) → GoodExpr walk x.value → GoodFactor walk (roll-Factor x)
      rolled_factor walk x g =
          subst (λ b. Good walk b (reads_in_factor (roll-Factor x))) (sym (fold-roll-Factor Bool Bool Bool (r.expr_step states scope) r.factor_step r.term_step x))
          (subst (Good walk (r.expr_in_range states scope x.value)) (sym (fold-roll-Factor Cells Cells Cells u.reads_step u.factor_reads u.term_reads x)) g)

      rolled_term : (walk : Walk) (x : Term-F Expr Factor Term) → GoodExpr walk x.value → GoodTerm walk (roll-Term x)
      rolled_term walk x g =
          subst (λ b. Good walk b (reads_in_term (roll-Term x))) (sym (fold-roll-Term Bool Bool Bool (r.expr_step states scope) r.factor_step r.term_step x))
          (subst (Good walk (r.expr_in_range states scope x.value)) (sym (fold-roll-Term Cells Cells Cells u.reads_step u.factor_reads u.term_reads x)) g)

      -- what an expression without operands is
      pub alone : (x : Expr-F Expr Factor Term) → tested x ≡ true → ((range : Range) → read_by x range ≡ false) → GoodExpr (λ a. a) (roll-Expr x)
      alone x h none = rolled (λ a. a) x (good_as (λ a. a) (tested x) (tested x) (λ range. false) (read_by x) (λ e. e) (λ range e. sym (none range) ∙ e) (good_none (tested x) h))

      -- operands of one kind, each with its claim
      module _ {X Y : Type 0} (walk : X → Walk) (plan : X → Y) (test : Y → Bool) (cells : Y → Cells) where
        abbrev GoodItem : X → Type 0
        GoodItem x = Good (walk x) (test (plan x)) (cells (plan x))

        each_good : (xs : List ((x : X) × GoodItem x)) →
            Good (in_order (map walk (map (λ x. x.0) xs))) (r.all_of (map test (map plan (map (λ x. x.0) xs)))) (any_of (map cells (map plan (map (λ x. x.0) xs))))
        each_good [] = good_none true refl
        each_good (x ∷ xs) =
            good_and (walk x.0) (in_order (map walk (map (λ y. y.0) xs))) (test (plan x.0)) (r.all_of (map test (map plan (map (λ y. y.0) xs))))
            (cells (plan x.0)) (any_of (map cells (map plan (map (λ y. y.0) xs)))) x.1 (each_good xs)

      -- a chain: an operand alone is itself
      module _ {Y : Type 0} (test : Y → Bool) (cells : Y → Cells) where
        abbrev GoodItems : Walk → List Y → Type 0
        GoodItems walk ys = Good walk (r.all_of (map test ys)) (any_of (map cells ys))

        first_alone : (v w : Walk) (a : Bool) (c : Cells) → Good v a c → GoodItems w [] → Good (λ x. w (v x)) a c
        first_alone v w a c f g = good_as (λ x. w (v x)) (a && true) a (λ range. c range || false) c (λ e. (and_parts a true e).0) (λ range e. or_left (c range) false e) (good_and v w a true c (λ range. false) f g)

        first_and_others : (v w : Walk) (a : Bool) (c : Cells) (ys : List Y) → Good v a c → GoodItems w ys →
            Good (λ x. w (v x)) (a && r.all_of (map test ys)) (λ range. c range || any_of (map cells ys) range)
        first_and_others v w a c ys f g = good_and v w a (r.all_of (map test ys)) c (any_of (map cells ys)) f g

      abbrev expr_test : Expr → Bool
      expr_test = r.expr_in_range states scope

      any_good : (v w : Walk) (first : Expr) (others : List Expr) → GoodExpr v first → GoodItems expr_test reads w others → GoodExpr (λ x. w (v x)) (p.any_of first others)
      any_good v w first [] f g = first_alone expr_test reads v w (expr_test first) (reads first) f g
      any_good v w first (e ∷ more) f g =
          subst (GoodExpr (λ x. w (v x))) (exprs.rolls-Any (first ∷ e ∷ more))
          (rolled (λ x. w (v x)) (Expr-F.Any (first ∷ e ∷ more)) (first_and_others expr_test reads v w (expr_test first) (reads first) (e ∷ more) f g))

      all_good : (v w : Walk) (first : Expr) (others : List Expr) → GoodExpr v first → GoodItems expr_test reads w others → GoodExpr (λ x. w (v x)) (p.all_of first others)
      all_good v w first [] f g = first_alone expr_test reads v w (expr_test first) (reads first) f g
      all_good v w first (e ∷ more) f g =
          subst (GoodExpr (λ x. w (v x))) (exprs.rolls-All (first ∷ e ∷ more))
          (rolled (λ x. w (v x)) (Expr-F.All (first ∷ e ∷ more)) (first_and_others expr_test reads v w (expr_test first) (reads first) (e ∷ more) f g))

      sum_good : (v w : Walk) (first : Expr) (others : List Term) → GoodExpr v first → GoodItems (r.term_in_range states scope) reads_in_term w others → GoodExpr (λ x. w (v x)) (p.sum_of first others)
      sum_good v w first [] f g = first_alone (r.term_in_range states scope) reads_in_term v w (expr_test first) (reads first) f g
      sum_good v w first (t ∷ more) f g =
          subst (GoodExpr (λ x. w (v x))) (exprs.rolls-Sum first (t ∷ more))
          (rolled (λ x. w (v x)) (Expr-F.Sum first (t ∷ more)) (first_and_others (r.term_in_range states scope) reads_in_term v w (expr_test first) (reads first) (t ∷ more) f g))

      product_good : (v w : Walk) (first : Expr) (others : List Factor) → GoodExpr v first → GoodItems (r.factor_in_range states scope) reads_in_factor w others →
          GoodExpr (λ x. w (v x)) (p.product_of first others)
      product_good v w first [] f g = first_alone (r.factor_in_range states scope) reads_in_factor v w (expr_test first) (reads first) f g
      product_good v w first (t ∷ more) f g =
          subst (GoodExpr (λ x. w (v x))) (exprs.rolls-Product first (t ∷ more))
          (rolled (λ x. w (v x)) (Expr-F.Product first (t ∷ more)) (first_and_others (r.factor_in_range states scope) reads_in_factor v w (expr_test first) (reads first) (t ∷ more) f g))

      chosen_good : (choice : Choice) (v w : Walk) (a b : Expr) → GoodExpr v a → GoodExpr w b → GoodExpr (λ x. w (v x)) (p.chosen choice a b)
      chosen_good choices.Min v w a b f g =
          subst (GoodExpr (λ x. w (v x))) (exprs.rolls-Least a b) (rolled (λ x. w (v x)) (Expr-F.Least a b) (good_and v w (expr_test a) (expr_test b) (reads a) (reads b) f g))
      chosen_good choices.Max v w a b f g =
          subst (GoodExpr (λ x. w (v x))) (exprs.rolls-Greatest a b) (rolled (λ x. w (v x)) (Expr-F.Greatest a b) (good_and v w (expr_test a) (expr_test b) (reads a) (reads b) f g))

      module _ (text : List ℕ) (table : List Known) (site : Site) (params loops : List Span) where
        abbrev cells_named : Span → Range
        cells_named name = n.range_or_none (n.state_range text table name)

        -- what is known of names and words
        pub record Words : Type 0 where
          pub name : (name : Span) → GoodExpr (name_walked text table site params loops name false) (p.name_planned text table params loops name)
          pub cell : (name : Span) → Good (name_walked text table site params loops name true) (r.indexed_at states (cells_named name).at (cells_named name).count)
              (λ range. meet range (range_of (cells_named name).at (cells_named name).count))
          pub here : (at : ℕ) (word : Here) → GoodExpr (here_walked site at word) (p.here word)

        abbrev AtomGood : Atom → Type 0
        AtomGood x = GoodExpr (w.atom_walked text table site params loops x) (p.atom_planned text table params loops x)

        abbrev TestGood : Test → Type 0
        TestGood x = GoodExpr (w.test_walked text table site params loops x) (p.test_planned text table params loops x)

        abbrev UnaryGood : Unary → Type 0
        UnaryGood x = GoodExpr (w.unary_walked text table site params loops x) (p.unary_planned text table params loops x)

        abbrev ConjGood : Conj → Type 0
        ConjGood x = GoodExpr (w.conj_walked text table site params loops x) (p.conj_planned text table params loops x)

        abbrev ExprGood : ExprDecl → Type 0
        ExprGood x = GoodExpr (w.expr_walked text table site params loops x) (p.expr_planned text table params loops x)

        abbrev ProductGood : Product → Type 0
        ProductGood x = GoodExpr (w.product_walked text table site params loops x) (p.product_planned text table params loops x)

        abbrev ProductTermGood : ProductTerm → Type 0
        ProductTermGood x = GoodFactor (w.product_term_walked text table site params loops x) (p.factor_planned text table params loops x)

        abbrev SumGood : Sum → Type 0
        SumGood x = GoodExpr (w.sum_walked text table site params loops x) (p.sum_planned text table params loops x)

        abbrev SumTermGood : SumTerm → Type 0
        SumTermGood x = GoodTerm (w.sum_term_walked text table site params loops x) (p.term_planned text table params loops x)

        abbrev AtomLayer : Atom-F Atom Test Unary Conj ExprDecl Product ProductTerm Sum SumTerm → Type 0
        AtomLayer x = GoodExpr (w.atom_step text table site params loops (tree.map-Atom Atom Test Unary Conj ExprDecl Product ProductTerm Sum SumTerm Walk Walk Walk Walk Walk Walk Walk Walk Walk (w.atom_walked text table site params loops) (w.test_walked text table site params loops) (w.unary_walked text table site params loops) (w.conj_walked text table site params loops) (w.expr_walked text table site params loops) (w.product_walked text table site params loops) (w.product_term_walked text table site params loops) (w.sum_walked text table site params loops) (w.sum_term_walked text table site params loops) x))
            (p.atom_step text table params loops (tree.map-Atom Atom Test Unary Conj ExprDecl Product ProductTerm Sum SumTerm Expr Expr Expr Expr Expr Expr Factor Expr Term (p.atom_planned text table params loops) (p.test_planned text table params loops) (p.unary_planned text table params loops) (p.conj_planned text table params loops) (p.expr_planned text table params loops) (p.product_planned text table params loops) (p.factor_planned text table params loops) (p.sum_planned text table params loops) (p.term_planned text table params loops) x))

        abbrev TestLayer : Test-F Atom Test Unary Conj ExprDecl Product ProductTerm Sum SumTerm → Type 0
        TestLayer x = GoodExpr (w.test_step text table site params loops (tree.map-Test Atom Test Unary Conj ExprDecl Product ProductTerm Sum SumTerm Walk Walk Walk Walk Walk Walk Walk Walk Walk (w.atom_walked text table site params loops) (w.test_walked text table site params loops) (w.unary_walked text table site params loops) (w.conj_walked text table site params loops) (w.expr_walked text table site params loops) (w.product_walked text table site params loops) (w.product_term_walked text table site params loops) (w.sum_walked text table site params loops) (w.sum_term_walked text table site params loops) x))
            (p.test_step text table params loops (tree.map-Test Atom Test Unary Conj ExprDecl Product ProductTerm Sum SumTerm Expr Expr Expr Expr Expr Expr Factor Expr Term (p.atom_planned text table params loops) (p.test_planned text table params loops) (p.unary_planned text table params loops) (p.conj_planned text table params loops) (p.expr_planned text table params loops) (p.product_planned text table params loops) (p.factor_planned text table params loops) (p.sum_planned text table params loops) (p.term_planned text table params loops) x))

        abbrev UnaryLayer : Unary-F Atom Test Unary Conj ExprDecl Product ProductTerm Sum SumTerm → Type 0
        UnaryLayer x = GoodExpr (w.unary_step text table site params loops (tree.map-Unary Atom Test Unary Conj ExprDecl Product ProductTerm Sum SumTerm Walk Walk Walk Walk Walk Walk Walk Walk Walk (w.atom_walked text table site params loops) (w.test_walked text table site params loops) (w.unary_walked text table site params loops) (w.conj_walked text table site params loops) (w.expr_walked text table site params loops) (w.product_walked text table site params loops) (w.product_term_walked text table site params loops) (w.sum_walked text table site params loops) (w.sum_term_walked text table site params loops) x))
            (p.unary_step text table params loops (tree.map-Unary Atom Test Unary Conj ExprDecl Product ProductTerm Sum SumTerm Expr Expr Expr Expr Expr Expr Factor Expr Term (p.atom_planned text table params loops) (p.test_planned text table params loops) (p.unary_planned text table params loops) (p.conj_planned text table params loops) (p.expr_planned text table params loops) (p.product_planned text table params loops) (p.factor_planned text table params loops) (p.sum_planned text table params loops) (p.term_planned text table params loops) x))

        abbrev ConjLayer : Conj-F Atom Test Unary Conj ExprDecl Product ProductTerm Sum SumTerm → Type 0
        ConjLayer x = GoodExpr (w.conj_step text table site params loops (tree.map-Conj Atom Test Unary Conj ExprDecl Product ProductTerm Sum SumTerm Walk Walk Walk Walk Walk Walk Walk Walk Walk (w.atom_walked text table site params loops) (w.test_walked text table site params loops) (w.unary_walked text table site params loops) (w.conj_walked text table site params loops) (w.expr_walked text table site params loops) (w.product_walked text table site params loops) (w.product_term_walked text table site params loops) (w.sum_walked text table site params loops) (w.sum_term_walked text table site params loops) x))
            (p.conj_step text table params loops (tree.map-Conj Atom Test Unary Conj ExprDecl Product ProductTerm Sum SumTerm Expr Expr Expr Expr Expr Expr Factor Expr Term (p.atom_planned text table params loops) (p.test_planned text table params loops) (p.unary_planned text table params loops) (p.conj_planned text table params loops) (p.expr_planned text table params loops) (p.product_planned text table params loops) (p.factor_planned text table params loops) (p.sum_planned text table params loops) (p.term_planned text table params loops) x))

        abbrev ExprLayer : ExprDecl-F Atom Test Unary Conj ExprDecl Product ProductTerm Sum SumTerm → Type 0
        ExprLayer x = GoodExpr (w.expr_step text table site params loops (tree.map-Expr Atom Test Unary Conj ExprDecl Product ProductTerm Sum SumTerm Walk Walk Walk Walk Walk Walk Walk Walk Walk (w.atom_walked text table site params loops) (w.test_walked text table site params loops) (w.unary_walked text table site params loops) (w.conj_walked text table site params loops) (w.expr_walked text table site params loops) (w.product_walked text table site params loops) (w.product_term_walked text table site params loops) (w.sum_walked text table site params loops) (w.sum_term_walked text table site params loops) x))
            (p.expr_step text table params loops (tree.map-Expr Atom Test Unary Conj ExprDecl Product ProductTerm Sum SumTerm Expr Expr Expr Expr Expr Expr Factor Expr Term (p.atom_planned text table params loops) (p.test_planned text table params loops) (p.unary_planned text table params loops) (p.conj_planned text table params loops) (p.expr_planned text table params loops) (p.product_planned text table params loops) (p.factor_planned text table params loops) (p.sum_planned text table params loops) (p.term_planned text table params loops) x))

        abbrev ProductLayer : Product-F Atom Test Unary Conj ExprDecl Product ProductTerm Sum SumTerm → Type 0
        ProductLayer x = GoodExpr (w.product_step text table site params loops (tree.map-Product Atom Test Unary Conj ExprDecl Product ProductTerm Sum SumTerm Walk Walk Walk Walk Walk Walk Walk Walk Walk (w.atom_walked text table site params loops) (w.test_walked text table site params loops) (w.unary_walked text table site params loops) (w.conj_walked text table site params loops) (w.expr_walked text table site params loops) (w.product_walked text table site params loops) (w.product_term_walked text table site params loops) (w.sum_walked text table site params loops) (w.sum_term_walked text table site params loops) x))
            (p.product_step text table params loops (tree.map-Product Atom Test Unary Conj ExprDecl Product ProductTerm Sum SumTerm Expr Expr Expr Expr Expr Expr Factor Expr Term (p.atom_planned text table params loops) (p.test_planned text table params loops) (p.unary_planned text table params loops) (p.conj_planned text table params loops) (p.expr_planned text table params loops) (p.product_planned text table params loops) (p.factor_planned text table params loops) (p.sum_planned text table params loops) (p.term_planned text table params loops) x))

        abbrev ProductTermLayer : ProductTerm-F Atom Test Unary Conj ExprDecl Product ProductTerm Sum SumTerm → Type 0
        ProductTermLayer x = GoodFactor (w.product_term_step text table site params loops (tree.map-ProductTerm Atom Test Unary Conj ExprDecl Product ProductTerm Sum SumTerm Walk Walk Walk Walk Walk Walk Walk Walk Walk (w.atom_walked text table site params loops) (w.test_walked text table site params loops) (w.unary_walked text table site params loops) (w.conj_walked text table site params loops) (w.expr_walked text table site params loops) (w.product_walked text table site params loops) (w.product_term_walked text table site params loops) (w.sum_walked text table site params loops) (w.sum_term_walked text table site params loops) x))
            (p.factor_step text table params loops (tree.map-ProductTerm Atom Test Unary Conj ExprDecl Product ProductTerm Sum SumTerm Expr Expr Expr Expr Expr Expr Factor Expr Term (p.atom_planned text table params loops) (p.test_planned text table params loops) (p.unary_planned text table params loops) (p.conj_planned text table params loops) (p.expr_planned text table params loops) (p.product_planned text table params loops) (p.factor_planned text table params loops) (p.sum_planned text table params loops) (p.term_planned text table params loops) x))

        abbrev SumLayer : Sum-F Atom Test Unary Conj ExprDecl Product ProductTerm Sum SumTerm → Type 0
        SumLayer x = GoodExpr (w.sum_step text table site params loops (tree.map-Sum Atom Test Unary Conj ExprDecl Product ProductTerm Sum SumTerm Walk Walk Walk Walk Walk Walk Walk Walk Walk (w.atom_walked text table site params loops) (w.test_walked text table site params loops) (w.unary_walked text table site params loops) (w.conj_walked text table site params loops) (w.expr_walked text table site params loops) (w.product_walked text table site params loops) (w.product_term_walked text table site params loops) (w.sum_walked text table site params loops) (w.sum_term_walked text table site params loops) x))
            (p.sum_step text table params loops (tree.map-Sum Atom Test Unary Conj ExprDecl Product ProductTerm Sum SumTerm Expr Expr Expr Expr Expr Expr Factor Expr Term (p.atom_planned text table params loops) (p.test_planned text table params loops) (p.unary_planned text table params loops) (p.conj_planned text table params loops) (p.expr_planned text table params loops) (p.product_planned text table params loops) (p.factor_planned text table params loops) (p.sum_planned text table params loops) (p.term_planned text table params loops) x))

        abbrev SumTermLayer : SumTerm-F Atom Test Unary Conj ExprDecl Product ProductTerm Sum SumTerm → Type 0
        SumTermLayer x = GoodTerm (w.sum_term_step text table site params loops (tree.map-SumTerm Atom Test Unary Conj ExprDecl Product ProductTerm Sum SumTerm Walk Walk Walk Walk Walk Walk Walk Walk Walk (w.atom_walked text table site params loops) (w.test_walked text table site params loops) (w.unary_walked text table site params loops) (w.conj_walked text table site params loops) (w.expr_walked text table site params loops) (w.product_walked text table site params loops) (w.product_term_walked text table site params loops) (w.sum_walked text table site params loops) (w.sum_term_walked text table site params loops) x))
            (p.term_step text table params loops (tree.map-SumTerm Atom Test Unary Conj ExprDecl Product ProductTerm Sum SumTerm Expr Expr Expr Expr Expr Expr Factor Expr Term (p.atom_planned text table params loops) (p.test_planned text table params loops) (p.unary_planned text table params loops) (p.conj_planned text table params loops) (p.expr_planned text table params loops) (p.product_planned text table params loops) (p.factor_planned text table params loops) (p.sum_planned text table params loops) (p.term_planned text table params loops) x))

        whole_atom : (x : Atom-F Atom Test Unary Conj ExprDecl Product ProductTerm Sum SumTerm) → AtomLayer x → AtomGood (roll-Atom x)
        whole_atom x g =
            subst (λ (v : Walk). GoodExpr v (p.atom_planned text table params loops (roll-Atom x))) (sym (tree.fold-roll-Atom Walk Walk Walk Walk Walk Walk Walk Walk Walk (w.atom_step text table site params loops) (w.test_step text table site params loops) (w.unary_step text table site params loops) (w.conj_step text table site params loops) (w.expr_step text table site params loops) (w.product_step text table site params loops) (w.product_term_step text table site params loops) (w.sum_step text table site params loops) (w.sum_term_step text table site params loops) x))
            (subst (GoodExpr (w.atom_step text table site params loops (tree.map-Atom Atom Test Unary Conj ExprDecl Product ProductTerm Sum SumTerm Walk Walk Walk Walk Walk Walk Walk Walk Walk (w.atom_walked text table site params loops) (w.test_walked text table site params loops) (w.unary_walked text table site params loops) (w.conj_walked text table site params loops) (w.expr_walked text table site params loops) (w.product_walked text table site params loops) (w.product_term_walked text table site params loops) (w.sum_walked text table site params loops) (w.sum_term_walked text table site params loops) x))) (sym (tree.fold-roll-Atom Expr Expr Expr Expr Expr Expr Factor Expr Term (p.atom_step text table params loops) (p.test_step text table params loops) (p.unary_step text table params loops) (p.conj_step text table params loops) (p.expr_step text table params loops) (p.product_step text table params loops) (p.factor_step text table params loops) (p.sum_step text table params loops) (p.term_step text table params loops) x)) g)

        whole_test : (x : Test-F Atom Test Unary Conj ExprDecl Product ProductTerm Sum SumTerm) → TestLayer x → TestGood (roll-Test x)
        whole_test x g =
            subst (λ (v : Walk). GoodExpr v (p.test_planned text table params loops (roll-Test x))) (sym (tree.fold-roll-Test Walk Walk Walk Walk Walk Walk Walk Walk Walk (w.atom_step text table site params loops) (w.test_step text table site params loops) (w.unary_step text table site params loops) (w.conj_step text table site params loops) (w.expr_step text table site params loops) (w.product_step text table site params loops) (w.product_term_step text table site params loops) (w.sum_step text table site params loops) (w.sum_term_step text table site params loops) x))
            (subst (GoodExpr (w.test_step text table site params loops (tree.map-Test Atom Test Unary Conj ExprDecl Product ProductTerm Sum SumTerm Walk Walk Walk Walk Walk Walk Walk Walk Walk (w.atom_walked text table site params loops) (w.test_walked text table site params loops) (w.unary_walked text table site params loops) (w.conj_walked text table site params loops) (w.expr_walked text table site params loops) (w.product_walked text table site params loops) (w.product_term_walked text table site params loops) (w.sum_walked text table site params loops) (w.sum_term_walked text table site params loops) x))) (sym (tree.fold-roll-Test Expr Expr Expr Expr Expr Expr Factor Expr Term (p.atom_step text table params loops) (p.test_step text table params loops) (p.unary_step text table params loops) (p.conj_step text table params loops) (p.expr_step text table params loops) (p.product_step text table params loops) (p.factor_step text table params loops) (p.sum_step text table params loops) (p.term_step text table params loops) x)) g)

        whole_unary : (x : Unary-F Atom Test Unary Conj ExprDecl Product ProductTerm Sum SumTerm) → UnaryLayer x → UnaryGood (roll-Unary x)
        whole_unary x g =
            subst (λ (v : Walk). GoodExpr v (p.unary_planned text table params loops (roll-Unary x))) (sym (tree.fold-roll-Unary Walk Walk Walk Walk Walk Walk Walk Walk Walk (w.atom_step text table site params loops) (w.test_step text table site params loops) (w.unary_step text table site params loops) (w.conj_step text table site params loops) (w.expr_step text table site params loops) (w.product_step text table site params loops) (w.product_term_step text table site params loops) (w.sum_step text table site params loops) (w.sum_term_step text table site params loops) x))
            (subst (GoodExpr (w.unary_step text table site params loops (tree.map-Unary Atom Test Unary Conj ExprDecl Product ProductTerm Sum SumTerm Walk Walk Walk Walk Walk Walk Walk Walk Walk (w.atom_walked text table site params loops) (w.test_walked text table site params loops) (w.unary_walked text table site params loops) (w.conj_walked text table site params loops) (w.expr_walked text table site params loops) (w.product_walked text table site params loops) (w.product_term_walked text table site params loops) (w.sum_walked text table site params loops) (w.sum_term_walked text table site params loops) x))) (sym (tree.fold-roll-Unary Expr Expr Expr Expr Expr Expr Factor Expr Term (p.atom_step text table params loops) (p.test_step text table params loops) (p.unary_step text table params loops) (p.conj_step text table params loops) (p.expr_step text table params loops) (p.product_step text table params loops) (p.factor_step text table params loops) (p.sum_step text table params loops) (p.term_step text table params loops) x)) g)

        whole_conj : (x : Conj-F Atom Test Unary Conj ExprDecl Product ProductTerm Sum SumTerm) → ConjLayer x → ConjGood (roll-Conj x)
        whole_conj x g =
            subst (λ (v : Walk). GoodExpr v (p.conj_planned text table params loops (roll-Conj x))) (sym (tree.fold-roll-Conj Walk Walk Walk Walk Walk Walk Walk Walk Walk (w.atom_step text table site params loops) (w.test_step text table site params loops) (w.unary_step text table site params loops) (w.conj_step text table site params loops) (w.expr_step text table site params loops) (w.product_step text table site params loops) (w.product_term_step text table site params loops) (w.sum_step text table site params loops) (w.sum_term_step text table site params loops) x))
            (subst (GoodExpr (w.conj_step text table site params loops (tree.map-Conj Atom Test Unary Conj ExprDecl Product ProductTerm Sum SumTerm Walk Walk Walk Walk Walk Walk Walk Walk Walk (w.atom_walked text table site params loops) (w.test_walked text table site params loops) (w.unary_walked text table site params loops) (w.conj_walked text table site params loops) (w.expr_walked text table site params loops) (w.product_walked text table site params loops) (w.product_term_walked text table site params loops) (w.sum_walked text table site params loops) (w.sum_term_walked text table site params loops) x))) (sym (tree.fold-roll-Conj Expr Expr Expr Expr Expr Expr Factor Expr Term (p.atom_step text table params loops) (p.test_step text table params loops) (p.unary_step text table params loops) (p.conj_step text table params loops) (p.expr_step text table params loops) (p.product_step text table params loops) (p.factor_step text table params loops) (p.sum_step text table params loops) (p.term_step text table params loops) x)) g)

        whole_expr : (x : ExprDecl-F Atom Test Unary Conj ExprDecl Product ProductTerm Sum SumTerm) → ExprLayer x → ExprGood (roll-ExprDecl x)
        whole_expr x g =
            subst (λ (v : Walk). GoodExpr v (p.expr_planned text table params loops (roll-ExprDecl x))) (sym (tree.fold-roll-Expr Walk Walk Walk Walk Walk Walk Walk Walk Walk (w.atom_step text table site params loops) (w.test_step text table site params loops) (w.unary_step text table site params loops) (w.conj_step text table site params loops) (w.expr_step text table site params loops) (w.product_step text table site params loops) (w.product_term_step text table site params loops) (w.sum_step text table site params loops) (w.sum_term_step text table site params loops) x))
            (subst (GoodExpr (w.expr_step text table site params loops (tree.map-Expr Atom Test Unary Conj ExprDecl Product ProductTerm Sum SumTerm Walk Walk Walk Walk Walk Walk Walk Walk Walk (w.atom_walked text table site params loops) (w.test_walked text table site params loops) (w.unary_walked text table site params loops) (w.conj_walked text table site params loops) (w.expr_walked text table site params loops) (w.product_walked text table site params loops) (w.product_term_walked text table site params loops) (w.sum_walked text table site params loops) (w.sum_term_walked text table site params loops) x))) (sym (tree.fold-roll-Expr Expr Expr Expr Expr Expr Expr Factor Expr Term (p.atom_step text table params loops) (p.test_step text table params loops) (p.unary_step text table params loops) (p.conj_step text table params loops) (p.expr_step text table params loops) (p.product_step text table params loops) (p.factor_step text table params loops) (p.sum_step text table params loops) (p.term_step text table params loops) x)) g)

        whole_product : (x : Product-F Atom Test Unary Conj ExprDecl Product ProductTerm Sum SumTerm) → ProductLayer x → ProductGood (roll-Product x)
        whole_product x g =
            subst (λ (v : Walk). GoodExpr v (p.product_planned text table params loops (roll-Product x))) (sym (tree.fold-roll-Product Walk Walk Walk Walk Walk Walk Walk Walk Walk (w.atom_step text table site params loops) (w.test_step text table site params loops) (w.unary_step text table site params loops) (w.conj_step text table site params loops) (w.expr_step text table site params loops) (w.product_step text table site params loops) (w.product_term_step text table site params loops) (w.sum_step text table site params loops) (w.sum_term_step text table site params loops) x))
            (subst (GoodExpr (w.product_step text table site params loops (tree.map-Product Atom Test Unary Conj ExprDecl Product ProductTerm Sum SumTerm Walk Walk Walk Walk Walk Walk Walk Walk Walk (w.atom_walked text table site params loops) (w.test_walked text table site params loops) (w.unary_walked text table site params loops) (w.conj_walked text table site params loops) (w.expr_walked text table site params loops) (w.product_walked text table site params loops) (w.product_term_walked text table site params loops) (w.sum_walked text table site params loops) (w.sum_term_walked text table site params loops) x))) (sym (tree.fold-roll-Product Expr Expr Expr Expr Expr Expr Factor Expr Term (p.atom_step text table params loops) (p.test_step text table params loops) (p.unary_step text table params loops) (p.conj_step text table params loops) (p.expr_step text table params loops) (p.product_step text table params loops) (p.factor_step text table params loops) (p.sum_step text table params loops) (p.term_step text table params loops) x)) g)

        whole_product_term : (x : ProductTerm-F Atom Test Unary Conj ExprDecl Product ProductTerm Sum SumTerm) → ProductTermLayer x → ProductTermGood (roll-ProductTerm x)
        whole_product_term x g =
            subst (λ (v : Walk). GoodFactor v (p.factor_planned text table params loops (roll-ProductTerm x))) (sym (tree.fold-roll-ProductTerm Walk Walk Walk Walk Walk Walk Walk Walk Walk (w.atom_step text table site params loops) (w.test_step text table site params loops) (w.unary_step text table site params loops) (w.conj_step text table site params loops) (w.expr_step text table site params loops) (w.product_step text table site params loops) (w.product_term_step text table site params loops) (w.sum_step text table site params loops) (w.sum_term_step text table site params loops) x))
            (subst (GoodFactor (w.product_term_step text table site params loops (tree.map-ProductTerm Atom Test Unary Conj ExprDecl Product ProductTerm Sum SumTerm Walk Walk Walk Walk Walk Walk Walk Walk Walk (w.atom_walked text table site params loops) (w.test_walked text table site params loops) (w.unary_walked text table site params loops) (w.conj_walked text table site params loops) (w.expr_walked text table site params loops) (w.product_walked text table site params loops) (w.product_term_walked text table site params loops) (w.sum_walked text table site params loops) (w.sum_term_walked text table site params loops) x))) (sym (tree.fold-roll-ProductTerm Expr Expr Expr Expr Expr Expr Factor Expr Term (p.atom_step text table params loops) (p.test_step text table params loops) (p.unary_step text table params loops) (p.conj_step text table params loops) (p.expr_step text table params loops) (p.product_step text table params loops) (p.factor_step text table params loops) (p.sum_step text table params loops) (p.term_step text table params loops) x)) g)

        whole_sum : (x : Sum-F Atom Test Unary Conj ExprDecl Product ProductTerm Sum SumTerm) → SumLayer x → SumGood (roll-Sum x)
        whole_sum x g =
            subst (λ (v : Walk). GoodExpr v (p.sum_planned text table params loops (roll-Sum x))) (sym (tree.fold-roll-Sum Walk Walk Walk Walk Walk Walk Walk Walk Walk (w.atom_step text table site params loops) (w.test_step text table site params loops) (w.unary_step text table site params loops) (w.conj_step text table site params loops) (w.expr_step text table site params loops) (w.product_step text table site params loops) (w.product_term_step text table site params loops) (w.sum_step text table site params loops) (w.sum_term_step text table site params loops) x))
            (subst (GoodExpr (w.sum_step text table site params loops (tree.map-Sum Atom Test Unary Conj ExprDecl Product ProductTerm Sum SumTerm Walk Walk Walk Walk Walk Walk Walk Walk Walk (w.atom_walked text table site params loops) (w.test_walked text table site params loops) (w.unary_walked text table site params loops) (w.conj_walked text table site params loops) (w.expr_walked text table site params loops) (w.product_walked text table site params loops) (w.product_term_walked text table site params loops) (w.sum_walked text table site params loops) (w.sum_term_walked text table site params loops) x))) (sym (tree.fold-roll-Sum Expr Expr Expr Expr Expr Expr Factor Expr Term (p.atom_step text table params loops) (p.test_step text table params loops) (p.unary_step text table params loops) (p.conj_step text table params loops) (p.expr_step text table params loops) (p.product_step text table params loops) (p.factor_step text table params loops) (p.sum_step text table params loops) (p.term_step text table params loops) x)) g)

        whole_sum_term : (x : SumTerm-F Atom Test Unary Conj ExprDecl Product ProductTerm Sum SumTerm) → SumTermLayer x → SumTermGood (roll-SumTerm x)
        whole_sum_term x g =
            subst (λ (v : Walk). GoodTerm v (p.term_planned text table params loops (roll-SumTerm x))) (sym (tree.fold-roll-SumTerm Walk Walk Walk Walk Walk Walk Walk Walk Walk (w.atom_step text table site params loops) (w.test_step text table site params loops) (w.unary_step text table site params loops) (w.conj_step text table site params loops) (w.expr_step text table site params loops) (w.product_step text table site params loops) (w.product_term_step text table site params loops) (w.sum_step text table site params loops) (w.sum_term_step text table site params loops) x))
            (subst (GoodTerm (w.sum_term_step text table site params loops (tree.map-SumTerm Atom Test Unary Conj ExprDecl Product ProductTerm Sum SumTerm Walk Walk Walk Walk Walk Walk Walk Walk Walk (w.atom_walked text table site params loops) (w.test_walked text table site params loops) (w.unary_walked text table site params loops) (w.conj_walked text table site params loops) (w.expr_walked text table site params loops) (w.product_walked text table site params loops) (w.product_term_walked text table site params loops) (w.sum_walked text table site params loops) (w.sum_term_walked text table site params loops) x))) (sym (tree.fold-roll-SumTerm Expr Expr Expr Expr Expr Expr Factor Expr Term (p.atom_step text table params loops) (p.test_step text table params loops) (p.unary_step text table params loops) (p.conj_step text table params loops) (p.expr_step text table params loops) (p.product_step text table params loops) (p.factor_step text table params loops) (p.sum_step text table params loops) (p.term_step text table params loops) x)) g)

        abbrev AtomKnown : Type 0
        AtomKnown = (x : Atom) × AtomGood x

        abbrev TestKnown : Type 0
        TestKnown = (x : Test) × TestGood x

        abbrev UnaryKnown : Type 0
        UnaryKnown = (x : Unary) × UnaryGood x

        abbrev ConjKnown : Type 0
        ConjKnown = (x : Conj) × ConjGood x

        abbrev ExprKnown : Type 0
        ExprKnown = (x : ExprDecl) × ExprGood x

        abbrev ProductKnown : Type 0
        ProductKnown = (x : Product) × ProductGood x

        abbrev ProductTermKnown : Type 0
        ProductTermKnown = (x : ProductTerm) × ProductTermGood x

        abbrev SumKnown : Type 0
        SumKnown = (x : Sum) × SumGood x

        abbrev SumTermKnown : Type 0
        SumTermKnown = (x : SumTerm) × SumTermGood x

        module _ (words : Words) where
          atom_layer : (y : Atom-F AtomKnown TestKnown UnaryKnown ConjKnown ExprKnown ProductKnown ProductTermKnown SumKnown SumTermKnown) → AtomLayer (tree.map-Atom AtomKnown TestKnown UnaryKnown ConjKnown ExprKnown ProductKnown ProductTermKnown SumKnown SumTermKnown Atom Test Unary Conj ExprDecl Product ProductTerm Sum SumTerm (λ x. x.0) (λ x. x.0) (λ x. x.0) (λ x. x.0) (λ x. x.0) (λ x. x.0) (λ x. x.0) (λ x. x.0) (λ x. x.0) y)
          atom_layer (Atom-F.Number number) = subst (GoodExpr (λ a. a)) (exprs.rolls-Number (pos (narrow63 number.value))) (alone (Expr-F.Number (pos (narrow63 number.value))) refl (λ range. refl))
          atom_layer (Atom-F.Name name) = words.name name
          atom_layer (Atom-F.Cell name index) =
              let range = cells_named name in
              let place = (p.expr_planned text table params loops index.0) in
              let walk : Walk = λ a. (w.expr_walked text table site params loops index.0) (name_walked text table site params loops name true a) in
              subst (GoodExpr walk) (exprs.rolls-CellAt range.at range.count place)
              (rolled walk (Expr-F.CellAt range.at range.count place)
              (good_and (name_walked text table site params loops name true) (w.expr_walked text table site params loops index.0) (r.indexed_at states range.at range.count) (expr_test place)
              (λ g. meet g (range_of range.at range.count)) (reads place) (words.cell name) index.1))
          atom_layer (Atom-F.Here at word) = words.here at word
          atom_layer (Atom-F.Choice at choice first second) =
              chosen_good choice (w.expr_walked text table site params loops first.0) (w.expr_walked text table site params loops second.0) (p.expr_planned text table params loops first.0) (p.expr_planned text table params loops second.0) first.1 second.1
          atom_layer (Atom-F.Group at inner) = inner.1

          test_layer : (y : Test-F AtomKnown TestKnown UnaryKnown ConjKnown ExprKnown ProductKnown ProductTermKnown SumKnown SumTermKnown) → TestLayer (tree.map-Test AtomKnown TestKnown UnaryKnown ConjKnown ExprKnown ProductKnown ProductTermKnown SumKnown SumTermKnown Atom Test Unary Conj ExprDecl Product ProductTerm Sum SumTerm (λ x. x.0) (λ x. x.0) (λ x. x.0) (λ x. x.0) (λ x. x.0) (λ x. x.0) (λ x. x.0) (λ x. x.0) (λ x. x.0) y)
          test_layer (Test-F.Not at operand) =
              subst (GoodExpr (w.test_walked text table site params loops operand.0)) (exprs.rolls-Not (p.test_planned text table params loops operand.0)) (rolled (w.test_walked text table site params loops operand.0) (Expr-F.Not (p.test_planned text table params loops operand.0)) operand.1)
          test_layer (Test-F.Alone sum) = sum.1
          test_layer (Test-F.Compare left op right) =
              let a = (p.sum_planned text table params loops left.0) in
              let b = (p.sum_planned text table params loops right.0) in
              let walk : Walk = λ n. (w.sum_walked text table site params loops right.0) ((w.sum_walked text table site params loops left.0) n) in
              subst (GoodExpr walk) (exprs.rolls-Compare (p.compare_op op) a b)
              (rolled walk (Expr-F.Compare (p.compare_op op) a b) (good_and (w.sum_walked text table site params loops left.0) (w.sum_walked text table site params loops right.0) (expr_test a) (expr_test b) (reads a) (reads b) left.1 right.1))

          unary_layer : (y : Unary-F AtomKnown TestKnown UnaryKnown ConjKnown ExprKnown ProductKnown ProductTermKnown SumKnown SumTermKnown) → UnaryLayer (tree.map-Unary AtomKnown TestKnown UnaryKnown ConjKnown ExprKnown ProductKnown ProductTermKnown SumKnown SumTermKnown Atom Test Unary Conj ExprDecl Product ProductTerm Sum SumTerm (λ x. x.0) (λ x. x.0) (λ x. x.0) (λ x. x.0) (λ x. x.0) (λ x. x.0) (λ x. x.0) (λ x. x.0) (λ x. x.0) y)
          unary_layer (Unary-F.Minus at operand) =
              subst (GoodExpr (w.unary_walked text table site params loops operand.0)) (exprs.rolls-Minus (p.unary_planned text table params loops operand.0)) (rolled (w.unary_walked text table site params loops operand.0) (Expr-F.Minus (p.unary_planned text table params loops operand.0)) operand.1)
          unary_layer (Unary-F.Atom a) = a.1

          conj_layer : (y : Conj-F AtomKnown TestKnown UnaryKnown ConjKnown ExprKnown ProductKnown ProductTermKnown SumKnown SumTermKnown) → ConjLayer (tree.map-Conj AtomKnown TestKnown UnaryKnown ConjKnown ExprKnown ProductKnown ProductTermKnown SumKnown SumTermKnown Atom Test Unary Conj ExprDecl Product ProductTerm Sum SumTerm (λ x. x.0) (λ x. x.0) (λ x. x.0) (λ x. x.0) (λ x. x.0) (λ x. x.0) (λ x. x.0) (λ x. x.0) (λ x. x.0) y)
          conj_layer y =
              all_good (w.test_walked text table site params loops y.first.0) (in_order (map (w.test_walked text table site params loops) (map (λ (x : TestKnown). x.0) y.others))) (p.test_planned text table params loops y.first.0) (map (p.test_planned text table params loops) (map (λ (x : TestKnown). x.0) y.others)) y.first.1
              (each_good (w.test_walked text table site params loops) (p.test_planned text table params loops) expr_test reads y.others)

          expr_layer : (y : ExprDecl-F AtomKnown TestKnown UnaryKnown ConjKnown ExprKnown ProductKnown ProductTermKnown SumKnown SumTermKnown) → ExprLayer (tree.map-Expr AtomKnown TestKnown UnaryKnown ConjKnown ExprKnown ProductKnown ProductTermKnown SumKnown SumTermKnown Atom Test Unary Conj ExprDecl Product ProductTerm Sum SumTerm (λ x. x.0) (λ x. x.0) (λ x. x.0) (λ x. x.0) (λ x. x.0) (λ x. x.0) (λ x. x.0) (λ x. x.0) (λ x. x.0) y)
          expr_layer y =
              any_good (w.conj_walked text table site params loops y.first.0) (in_order (map (w.conj_walked text table site params loops) (map (λ (x : ConjKnown). x.0) y.others))) (p.conj_planned text table params loops y.first.0) (map (p.conj_planned text table params loops) (map (λ (x : ConjKnown). x.0) y.others)) y.first.1
              (each_good (w.conj_walked text table site params loops) (p.conj_planned text table params loops) expr_test reads y.others)

          product_layer : (y : Product-F AtomKnown TestKnown UnaryKnown ConjKnown ExprKnown ProductKnown ProductTermKnown SumKnown SumTermKnown) → ProductLayer (tree.map-Product AtomKnown TestKnown UnaryKnown ConjKnown ExprKnown ProductKnown ProductTermKnown SumKnown SumTermKnown Atom Test Unary Conj ExprDecl Product ProductTerm Sum SumTerm (λ x. x.0) (λ x. x.0) (λ x. x.0) (λ x. x.0) (λ x. x.0) (λ x. x.0) (λ x. x.0) (λ x. x.0) (λ x. x.0) y)
          product_layer y =
              product_good (w.unary_walked text table site params loops y.first.0) (in_order (map (w.product_term_walked text table site params loops) (map (λ (x : ProductTermKnown). x.0) y.others))) (p.unary_planned text table params loops y.first.0) (map (p.factor_planned text table params loops) (map (λ (x : ProductTermKnown). x.0) y.others)) y.first.1
              (each_good (w.product_term_walked text table site params loops) (p.factor_planned text table params loops) (r.factor_in_range states scope) reads_in_factor y.others)

          sum_layer : (y : Sum-F AtomKnown TestKnown UnaryKnown ConjKnown ExprKnown ProductKnown ProductTermKnown SumKnown SumTermKnown) → SumLayer (tree.map-Sum AtomKnown TestKnown UnaryKnown ConjKnown ExprKnown ProductKnown ProductTermKnown SumKnown SumTermKnown Atom Test Unary Conj ExprDecl Product ProductTerm Sum SumTerm (λ x. x.0) (λ x. x.0) (λ x. x.0) (λ x. x.0) (λ x. x.0) (λ x. x.0) (λ x. x.0) (λ x. x.0) (λ x. x.0) y)
          sum_layer y =
              sum_good (w.product_walked text table site params loops y.first.0) (in_order (map (w.sum_term_walked text table site params loops) (map (λ (x : SumTermKnown). x.0) y.others))) (p.product_planned text table params loops y.first.0) (map (p.term_planned text table params loops) (map (λ (x : SumTermKnown). x.0) y.others)) y.first.1
              (each_good (w.sum_term_walked text table site params loops) (p.term_planned text table params loops) (r.term_in_range states scope) reads_in_term y.others)

          product_term_layer : (y : ProductTerm-F AtomKnown TestKnown UnaryKnown ConjKnown ExprKnown ProductKnown ProductTermKnown SumKnown SumTermKnown) → ProductTermLayer (tree.map-ProductTerm AtomKnown TestKnown UnaryKnown ConjKnown ExprKnown ProductKnown ProductTermKnown SumKnown SumTermKnown Atom Test Unary Conj ExprDecl Product ProductTerm Sum SumTerm (λ x. x.0) (λ x. x.0) (λ x. x.0) (λ x. x.0) (λ x. x.0) (λ x. x.0) (λ x. x.0) (λ x. x.0) (λ x. x.0) y)
          product_term_layer y = rolled_factor (w.unary_walked text table site params loops y.value.0) (record { op = p.mul_op y.op; value = (p.unary_planned text table params loops y.value.0) }) y.value.1

          sum_term_layer : (y : SumTerm-F AtomKnown TestKnown UnaryKnown ConjKnown ExprKnown ProductKnown ProductTermKnown SumKnown SumTermKnown) → SumTermLayer (tree.map-SumTerm AtomKnown TestKnown UnaryKnown ConjKnown ExprKnown ProductKnown ProductTermKnown SumKnown SumTermKnown Atom Test Unary Conj ExprDecl Product ProductTerm Sum SumTerm (λ x. x.0) (λ x. x.0) (λ x. x.0) (λ x. x.0) (λ x. x.0) (λ x. x.0) (λ x. x.0) (λ x. x.0) (λ x. x.0) y)
          sum_term_layer y = rolled_term (w.product_walked text table site params loops y.value.0) (record { op = p.add_op y.op; value = (p.product_planned text table params loops y.value.0) }) y.value.1

          pub expr_is_good : (e : ExprDecl) → ExprGood e
          expr_is_good = tree.ind-Expr AtomGood TestGood UnaryGood ConjGood ExprGood ProductGood ProductTermGood SumGood SumTermGood
              (λ x y is. whole_atom x (subst AtomLayer is (atom_layer y)))
              (λ x y is. whole_test x (subst TestLayer is (test_layer y)))
              (λ x y is. whole_unary x (subst UnaryLayer is (unary_layer y)))
              (λ x y is. whole_conj x (subst ConjLayer is (conj_layer y)))
              (λ x y is. whole_expr x (subst ExprLayer is (expr_layer y)))
              (λ x y is. whole_product x (subst ProductLayer is (product_layer y)))
              (λ x y is. whole_product_term x (subst ProductTermLayer is (product_term_layer y)))
              (λ x y is. whole_sum x (subst SumLayer is (sum_layer y)))
              (λ x y is. whole_sum_term x (subst SumTermLayer is (sum_term_layer y)))
