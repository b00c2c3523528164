-- Names and words of an expression that break no rule, and what a plan has in their place.
use Rattle.std.proofs.Common.{◌≡◌, ℕ, zero, suc, ◌<◌, Bool, true, false, List, [], ◌∷◌, length, refl, ap, sym, ◌∙◌, subst, arith, Option, None, Some}
use Rattle.std.specs.Prelude.{◌&&◌, ◌||◌, ◌==◌, not, is_some, slice_get}
use Rattle.std.specs.List.{list_any}
use Rattle.std.proofs.lemmas.Bool.{eq-eqb, lt-ltb, or_left, or_right}
use Rattle.std.proofs.lemmas.List.Folds.{list_any-append}
use Rattle.std.proofs.lemmas.List.Quantifiers.{position-Some}
use Rattle.chare_base.specs.declared.expression.Expr.{Expr}
use Rattle.chare_base.specs.declared.expression.Expr.TheVariants as exprs
use Rattle.chare_base.specs.declared.expression.Expr.TheOpen.{Expr-F}
use Rattle.chare_base.specs.declared.plan.State.{State}
use Rattle.chare_base.specs.declared.scope.Scope.{Scope}
use Rattle.chare_base.specs.Overlap.{state_range}
use Rattle.chare_base.specs.Ranges.{indexed_at, part_scope, plain_at}
use Rattle.chare_base.specs.Uses.{Cells, meet, range_of}
use Rattle.job_tree.specs.declared.token.Span.{Span}
use Rattle.job_tree.specs.declared.tree.Expr.{Expr as ExprDecl}
use Rattle.job_tree.specs.declared.tree.Here.{Here}
use Rattle.job_tree.specs.declared.tree.Here.TheVariants as heres
use Rattle.job_rules.specs.declared.fault.CheckFault.TheVariants as faults
use Rattle.job_rules.specs.declared.names.Meaning.{Meaning}
use Rattle.job_rules.specs.declared.names.Meaning.TheVariants as meanings
use Rattle.job_rules.specs.declared.notes.StateUse.{StateUse}
use Rattle.job_rules.specs.declared.walk.Site.{Site}
use Rattle.job_rules.specs.declared.walk.Site.TheVariants as sites
use Rattle.job_rules.specs.Expressions.{here_walked, is_local, local_fault, misindexed, misplaced, name_walked, state_use, value_named, value_walked}
use Rattle.job_rules.specs.Faults.{Found, fault_if, name_fault, nothing}
use Rattle.job_rules.specs.Names.{Known, bytes_at, local_named, lookup, same_name}
use Rattle.job_rules.specs.Notes.{Walk, noted, use_noted}
use Rattle.job_rules.specs.PlannedExpressions as p
use Rattle.job_rules.specs.PlannedNames as n
use Rattle.job_rules.specs.Numbers.{narrow8, narrow32}
use Rattle.job_rules.proofs.Counting.{both}
use Rattle.job_rules.proofs.Noting.{Good, GoodExpr, Words, alone, clean_none, expr_is_good, good_and, noted_goes, rolled, used_in, uses_state}
use Rattle.job_rules.proofs.Places.{Sound}
use Rattle.job_rules.proofs.Sooner.{unbroken}

pub equal : (n : ℕ) → (n == n) ≡ true
equal n = eq-eqb n n refl

-- ---- locals

-- below n, if there is one
abbrev pub Below : ℕ → Option ℕ → Type 0
Below n None = Unit {0}
Below n (Some i) = i < n

no_name : Span
no_name = record { at = 0; len = 0 }

pub local_below : (text : List ℕ) (names : List Span) (name : Span) (o : Option ℕ) → local_named text names name ≡ o → Below (length names) o
unfolding local_named
local_below text names name None h = tt
local_below text names name (Some i) h = (position-Some (λ n. same_name text n name) names i no_name h).0

-- an item of a list passes a test
pub some_item : {A : Type 0} (test : A → Bool) (xs : List A) (i : ℕ) (x : A) → slice_get xs i ≡ Some x → test x ≡ true → list_any test xs ≡ true
some_item test [] i x is h = absurd (let e : None ≡ Some x = is in cc)
some_item test (y ∷ more) zero x is h = let same : x ≡ y = (let e : Some y ≡ Some x = is in cc) in or_left (test y) (list_any test more) (sym (ap test same) ∙ h)
some_item test (y ∷ more) (suc i) x is h = or_right (test y) (list_any test more) (some_item test more i x is h)

-- the states of an array have no cell in common, and one that is named without an index has one cell
pub record Apart (states : List State) : Type 0 where
  pub apart : (j k : ℕ) (s t : State) → slice_get states j ≡ Some s → slice_get states k ≡ Some t → meet (state_range s) (state_range t) ≡ true → j ≡ k
  pub one_cell : (k : ℕ) (t : State) → slice_get states k ≡ Some t → t.plain ≡ true → t.cells ≡ 1

-- what a state's meaning says of the plan
pub record StateIs (states : List State) (number at cells : ℕ) (plain : Bool) : Type 0 where
  pub state : State
  pub is : slice_get states number ≡ Some state
  pub plain_is : state.plain ≡ plain
  pub at_is : state.at ≡ narrow32 at
  pub cells_is : state.cells ≡ narrow32 cells

abbrev pub StateMeant : List State → Meaning → Type 0
StateMeant states (meanings.State number declared plain at cells) = StateIs states number at cells plain
StateMeant states _ = Unit {0}

module _ (states : List State) (part : ℕ) where
  pub noted_good : (fault : Found) → Good states part (noted fault) true (λ range. false)
  noted_good fault = record { goes = λ a h. (noted_goes fault a h).0; clean = λ a h. clean_none states (used_in part (noted fault a)) true refl }

  -- a test that holds where no fault is noted
  pub guarded : (fault : Found) (test : Bool) (cells : Cells) → (fault ≡ nothing → Good states part (λ a. a) test cells) → Good states part (noted fault) test cells
  guarded fault test cells g = record {
    goes = λ a h. (noted_goes fault a h).0;
    clean = λ a h. (g (noted_goes fault a h).1).clean (noted fault a) h;
  }

  -- the same beside the use of a state
  pub guarded_use : (v : StateUse) (fault : Found) (test : Bool) (cells : Cells) → (fault ≡ nothing → test ≡ true) →
      ((j : ℕ) (s : State) → slice_get states j ≡ Some s → fault ≡ nothing → cells (state_range s) ≡ true → uses_state part j v ≡ true) →
      Good states part (λ a. use_noted v (noted fault a)) test cells
  guarded_use v fault test cells h k = record {
    goes = λ a e.
        let g = (noted_goes fault a e).0 in
        record { found = g.found; uses = λ t x. list_any-append t a.uses (v ∷ []) ∙ or_left (list_any t a.uses) (list_any t (v ∷ [])) x; sent = refl; received = refl };
    clean = λ a e.
        let fine = (noted_goes fault a e).1 in
        record {
          ranged = h fine;
          told = λ j s is x.
              list_any-append (uses_state part j) a.uses (v ∷ [])
              ∙ or_right (list_any (uses_state part j) a.uses) (list_any (uses_state part j) (v ∷ [])) (or_left (uses_state part j v) false (k j s is fine x));
        };
  }

  module _ (apart : Apart states) where
    not_false : (b : Bool) → not b ≡ false → b ≡ true
    not_false true h = refl
    not_false false h = absurd cc

    -- a state without a size is named without an index, one with a size with one
    pub plain_where : (plain : Bool) → misindexed plain false ≡ false → plain ≡ true
    plain_where true h = refl
    plain_where false h = absurd (let e : true ≡ false = h in cc)

    pub sized_where : (plain : Bool) → misindexed plain true ≡ false → plain ≡ false
    sized_where true h = absurd (let e : true ≡ false = h in cc)
    sized_where false h = refl

    pub same_state : (j number at cells : ℕ) (plain : Bool) (s : State) (told : StateIs states number at cells plain) → slice_get states j ≡ Some s →
        meet (state_range s) (range_of (narrow32 at) (narrow32 cells)) ≡ true → number ≡ j
    same_state j number at cells plain s told is h =
        sym (apart.apart j number s told.state is told.is
        (ap (λ n. meet (state_range s) (range_of n told.state.cells)) told.at_is ∙ ap (λ n. meet (state_range s) (range_of (narrow32 at) n)) told.cells_is ∙ h))

    pub one_cell_of : (number at cells : ℕ) (plain : Bool) (told : StateIs states number at cells plain) → plain ≡ true → 1 ≡ narrow32 cells
    one_cell_of number at cells plain told h = sym (apart.one_cell number told.state told.is (told.plain_is ∙ h)) ∙ told.cells_is

    pub plain_there : (number at cells : ℕ) (plain : Bool) → StateIs states number at cells plain → plain ≡ true → plain_at states (narrow32 at) ≡ true
    unfolding plain_at
    plain_there number at cells plain told h =
        some_item (λ (s : State). s.plain && s.at == narrow32 at) states number told.state told.is
        (both told.state.plain (told.state.at == narrow32 at) (told.plain_is ∙ h) (eq-eqb told.state.at (narrow32 at) told.at_is))

    pub indexed_there : (number at cells : ℕ) (plain : Bool) → StateIs states number at cells plain → plain ≡ false → indexed_at states (narrow32 at) (narrow32 cells) ≡ true
    unfolding indexed_at
    indexed_there number at cells plain told h =
        some_item (λ (s : State). not s.plain && (s.at == narrow32 at && s.cells == narrow32 cells)) states number told.state told.is
        (both (not told.state.plain) (told.state.at == narrow32 at && told.state.cells == narrow32 cells) (ap not (told.plain_is ∙ h))
        (both (told.state.at == narrow32 at) (told.state.cells == narrow32 cells) (eq-eqb told.state.at (narrow32 at) told.at_is) (eq-eqb told.state.cells (narrow32 cells) told.cells_is)))

    used_here : (number declared : ℕ) (name : Span) (j : ℕ) → number ≡ j → uses_state part j (state_use number declared part name false) ≡ true
    used_here number declared name j h = both (part == part) (number == j) (equal part) (eq-eqb number j h)

    module _ (scope : Scope) where
      mail_good : (v : ℕ) → v < scope.values → GoodExpr states part scope (λ a. a) (exprs.Mail (narrow8 v))
      mail_good v h =
          subst (GoodExpr states part scope (λ a. a)) (exprs.rolls-Mail (narrow8 v))
          (alone states part scope (Expr-F.Mail (narrow8 v)) (lt-ltb (narrow8 v) scope.values (omega (arith, h))) (λ range. refl))

      loop_good : (v : ℕ) → v < scope.loops → GoodExpr states part scope (λ a. a) (exprs.Loop (narrow8 v))
      loop_good v h =
          subst (GoodExpr states part scope (λ a. a)) (exprs.rolls-Loop (narrow8 v))
          (alone states part scope (Expr-F.Loop (narrow8 v)) (lt-ltb (narrow8 v) scope.loops (omega (arith, h))) (λ range. refl))

      local_good : (a b : Option ℕ) → Below scope.values a → Below scope.loops b → (is_some a || is_some b) ≡ true → GoodExpr states part scope (λ x. x) (p.local a b)
      local_good (Some v) b h k e = mail_good v h
      local_good None (Some v) h k e = loop_good v k
      local_good None None h k e = absurd (let c : false ≡ true = e in cc)

      is_local_name : (local : Bool) (name : Span) → local_fault local name false ≡ nothing → local ≡ true
      is_local_name true name h = refl
      is_local_name false name h = absurd (let e : Some (faults.Unknown name.at) ≡ nothing = h in cc)

      -- a name that is no state's
      other_good : (a b : Option ℕ) (name : Span) → Below scope.values a → Below scope.loops b →
          GoodExpr states part scope (noted (local_fault (is_some a || is_some b) name false)) (p.local a b)
      other_good a b name h k =
          guarded (local_fault (is_some a || is_some b) name false) _ _ (λ e. local_good a b h k (is_local_name (is_some a || is_some b) name e))

      never_indexed : (local : Bool) (name : Span) → local_fault local name true ≡ nothing → ⊥
      never_indexed true name h = let e : Some (faults.Kind name.at) ≡ nothing = h in cc
      never_indexed false name h = let e : Some (faults.Unknown name.at) ≡ nothing = h in cc

      other_cell : (local : Bool) (name : Span) (test : Bool) (cells : Cells) → Good states part (noted (local_fault local name true)) test cells
      other_cell local name test cells = guarded (local_fault local name true) test cells (λ e. absurd (never_indexed local name e))

      -- ---- in a part

      in_part : Site
      in_part = sites.Part part

      state_good : (number declared at cells : ℕ) (plain : Bool) (name : Span) → StateIs states number at cells plain →
          GoodExpr states part scope (λ a. use_noted (state_use number declared part name false) (noted (fault_if (misindexed plain false) (faults.Kind name.at)) a)) (exprs.Cell (narrow32 at))
      state_good number declared at cells plain name told =
          let fault = fault_if (misindexed plain false) (faults.Kind name.at) in
          let v = state_use number declared part name false in
          let walk : Walk = λ a. use_noted v (noted fault a) in
          subst (GoodExpr states part scope walk) (exprs.rolls-Cell (narrow32 at))
          (rolled states part scope walk (Expr-F.Cell (narrow32 at))
          (guarded_use v fault (plain_at states (narrow32 at)) (λ range. meet range (range_of (narrow32 at) 1))
          (λ e. plain_there number at cells plain told (plain_where plain (unbroken (misindexed plain false) (faults.Kind name.at) e)))
          (λ j s is e h.
          let one = one_cell_of number at cells plain told (plain_where plain (unbroken (misindexed plain false) (faults.Kind name.at) e)) in
          used_here number declared name j (same_state j number at cells plain s told is (ap (λ n. meet (state_range s) (range_of (narrow32 at) n)) (sym one) ∙ h)))))

      cells_good : (number declared at cells : ℕ) (plain : Bool) (name : Span) → StateIs states number at cells plain →
          Good states part (λ a. use_noted (state_use number declared part name false) (noted (fault_if (misindexed plain true) (faults.Kind name.at)) a))
          (indexed_at states (narrow32 at) (narrow32 cells)) (λ range. meet range (range_of (narrow32 at) (narrow32 cells)))
      cells_good number declared at cells plain name told =
          let fault = fault_if (misindexed plain true) (faults.Kind name.at) in
          guarded_use (state_use number declared part name false) fault (indexed_at states (narrow32 at) (narrow32 cells)) (λ range. meet range (range_of (narrow32 at) (narrow32 cells)))
          (λ e. indexed_there number at cells plain told (sized_where plain (unbroken (misindexed plain true) (faults.Kind name.at) e)))
          (λ j s is e h. used_here number declared name j (same_state j number at cells plain s told is h))

      value_good : (o : Option Meaning) (a b : Option ℕ) (name : Span) → ((x : Meaning) → o ≡ Some x → StateMeant states x) → Below scope.values a → Below scope.loops b →
          GoodExpr states part scope (value_named (sites.Part part) o (is_some a || is_some b) name false) (p.named (n.range_meant o) (p.local a b))
      value_good None a b name told h k = other_good a b name h k
      value_good (Some (meanings.State number declared plain at cells)) a b name told h k =
          state_good number declared at cells plain name (told (meanings.State number declared plain at cells) refl)
      value_good (Some (meanings.Array number)) a b name told h k = other_good a b name h k
      value_good (Some (meanings.Entry port number source values)) a b name told h k = other_good a b name h k
      value_good (Some (meanings.Reduction port number)) a b name told h k = other_good a b name h k

      cell_good : (o : Option Meaning) (local : Bool) (name : Span) → ((x : Meaning) → o ≡ Some x → StateMeant states x) →
          Good states part (value_named (sites.Part part) o local name true) (indexed_at states (n.range_or_none (n.range_meant o)).at (n.range_or_none (n.range_meant o)).count)
          (λ range. meet range (range_of (n.range_or_none (n.range_meant o)).at (n.range_or_none (n.range_meant o)).count))
      cell_good None local name told = other_cell local name _ _
      cell_good (Some (meanings.State number declared plain at cells)) local name told =
          cells_good number declared at cells plain name (told (meanings.State number declared plain at cells) refl)
      cell_good (Some (meanings.Array number)) local name told = other_cell local name _ _
      cell_good (Some (meanings.Entry port number source values)) local name told = other_cell local name _ _
      cell_good (Some (meanings.Reduction port number)) local name told = other_cell local name _ _

      behind_fault : (fault : Found) (walk : Walk) (test : Bool) (cells : Cells) → Good states part walk test cells → Good states part (λ a. walk (noted fault a)) test cells
      behind_fault fault walk test cells g = good_and states part (noted fault) walk true test (λ range. false) cells (noted_good fault) g

      module _ (text : List ℕ) (table : List Known) (params loops : List Span) (sound : Sound (StateMeant states) table)
          (few_params : length params ≡ scope.values) (few_loops : length loops ≡ scope.loops) where
        param_below : (name : Span) → Below scope.values (local_named text params name)
        param_below name = subst (λ n. Below n (local_named text params name)) few_params (local_below text params name (local_named text params name) refl)

        loop_below : (name : Span) → Below scope.loops (local_named text loops name)
        loop_below name = subst (λ n. Below n (local_named text loops name)) few_loops (local_below text loops name (local_named text loops name) refl)

        name_in_part : (name : Span) → GoodExpr states part scope (name_walked text table (sites.Part part) params loops name false) (p.name_planned text table params loops name)
        unfolding name_walked n.state_range
        name_in_part name =
            behind_fault (name_fault name) (value_named (sites.Part part) (lookup table (bytes_at text name)) (is_local text params loops name) name false) _ _
            (value_good (lookup table (bytes_at text name)) (local_named text params name) (local_named text loops name) name (sound (bytes_at text name)) (param_below name) (loop_below name))

        cell_in_part : (name : Span) → Good states part (name_walked text table (sites.Part part) params loops name true)
            (indexed_at states (n.range_or_none (n.state_range text table name)).at (n.range_or_none (n.state_range text table name)).count)
            (λ range. meet range (range_of (n.range_or_none (n.state_range text table name)).at (n.range_or_none (n.state_range text table name)).count))
        unfolding name_walked n.state_range
        cell_in_part name =
            behind_fault (name_fault name) (value_named (sites.Part part) (lookup table (bytes_at text name)) (is_local text params loops name) name true) _ _
            (cell_good (lookup table (bytes_at text name)) (is_local text params loops name) name (sound (bytes_at text name)))

      -- ---- words

      misplaced_never : (site : Site) (at : ℕ) (word : Here) → misplaced site word ≡ true → (test : Bool) (cells : Cells) → Good states part (here_walked site at word) test cells
      unfolding here_walked
      misplaced_never site at word h test cells =
          guarded (fault_if (misplaced site word) (faults.Kind at)) test cells
          (λ e. absurd (let c : true ≡ false = sym h ∙ unbroken (misplaced site word) (faults.Kind at) e in cc))

      word_good : (site : Site) (at : ℕ) (word : Here) (e : Expr) → GoodExpr states part scope (λ a. a) e → GoodExpr states part scope (here_walked site at word) e
      unfolding here_walked
      word_good site at word e g = guarded (fault_if (misplaced site word) (faults.Kind at)) _ _ (λ k. g)

      index_good : GoodExpr states part scope (λ a. a) exprs.Index
      index_good = subst (GoodExpr states part scope (λ a. a)) exprs.rolls-Index (alone states part scope Expr-F.Index refl (λ range. refl))

      row_good : GoodExpr states part scope (λ a. a) exprs.Row
      row_good = subst (GoodExpr states part scope (λ a. a)) exprs.rolls-Row (alone states part scope Expr-F.Row refl (λ range. refl))

      col_good : GoodExpr states part scope (λ a. a) exprs.Col
      col_good = subst (GoodExpr states part scope (λ a. a)) exprs.rolls-Col (alone states part scope Expr-F.Col refl (λ range. refl))

      which_good : scope.which ≡ true → GoodExpr states part scope (λ a. a) exprs.Which
      which_good h = subst (GoodExpr states part scope (λ a. a)) exprs.rolls-Which (alone states part scope Expr-F.Which h (λ range. refl))

      iter_good : scope.iter ≡ true → GoodExpr states part scope (λ a. a) exprs.Iter
      iter_good h = subst (GoodExpr states part scope (λ a. a)) exprs.rolls-Iter (alone states part scope Expr-F.Iter h (λ range. refl))

    here_in_part : (values loops at : ℕ) (word : Here) → GoodExpr states part (part_scope values loops) (here_walked (sites.Part part) at word) (p.here word)
    here_in_part values loops at heres.Index = word_good (part_scope values loops) (sites.Part part) at heres.Index exprs.Index (index_good (part_scope values loops))
    here_in_part values loops at heres.Row = word_good (part_scope values loops) (sites.Part part) at heres.Row exprs.Row (row_good (part_scope values loops))
    here_in_part values loops at heres.Col = word_good (part_scope values loops) (sites.Part part) at heres.Col exprs.Col (col_good (part_scope values loops))
    here_in_part values loops at heres.Cell = misplaced_never (part_scope values loops) (sites.Part part) at heres.Cell refl _ _
    here_in_part values loops at heres.Iter = word_good (part_scope values loops) (sites.Part part) at heres.Iter exprs.Iter (iter_good (part_scope values loops) refl)

    module _ (text : List ℕ) (table : List Known) (params loops : List Span) (sound : Sound (StateMeant states) table) where
      words_in_part : Words states part (part_scope (length params) (length loops)) text table (sites.Part part) params loops
      words_in_part = record {
        name = name_in_part (part_scope (length params) (length loops)) text table params loops sound refl refl;
        cell = cell_in_part (part_scope (length params) (length loops)) text table params loops sound refl refl;
        here = here_in_part (length params) (length loops);
      }

      -- an expression of a part
      pub value_in_part : (e : ExprDecl) → GoodExpr states part (part_scope (length params) (length loops)) (value_walked text table (sites.Part part) params loops e) (p.expr_planned text table params loops e)
      unfolding value_walked
      value_in_part e = expr_is_good states part (part_scope (length params) (length loops)) text table (sites.Part part) params loops words_in_part e

-- ---- initial values, which read no cell

module _ (text : List ℕ) (table : List Known) (sized : Bool) where
  abbrev start_scope : Scope
  start_scope = record { values = 0; loops = 0; which = sized; iter = false }

  nothing_apart : Apart []
  nothing_apart = record {
    apart = λ j k s t a b h. absurd (let e : None ≡ Some s = a in cc);
    one_cell = λ k t a h. absurd (let e : None ≡ Some t = a in cc);
  }

  abbrev GoodStart : Walk → Expr → Type 0
  GoodStart walk e = GoodExpr [] 0 start_scope walk e

  always : (fault : Found) (test : Bool) (cells : Cells) → (fault ≡ nothing → ⊥) → Good [] 0 (noted fault) test cells
  always fault test cells h = guarded [] 0 fault test cells (λ e. absurd (h e))

  state_never : (name : Span) → Some (faults.Kind name.at) ≡ nothing → ⊥
  state_never name h = cc

  start_value : (o : Option Meaning) (a b : Option ℕ) (name : Span) → Below 0 a → Below 0 b →
      GoodStart (value_named (sites.Start sized) o (is_some a || is_some b) name false) (p.named (n.range_meant o) (p.local a b))
  start_value None a b name h k = other_good [] 0 nothing_apart start_scope a b name h k
  start_value (Some (meanings.State number declared plain at cells)) a b name h k = always (Some (faults.Kind name.at)) _ _ (state_never name)
  start_value (Some (meanings.Array number)) a b name h k = other_good [] 0 nothing_apart start_scope a b name h k
  start_value (Some (meanings.Entry port number source values)) a b name h k = other_good [] 0 nothing_apart start_scope a b name h k
  start_value (Some (meanings.Reduction port number)) a b name h k = other_good [] 0 nothing_apart start_scope a b name h k

  start_cell : (o : Option Meaning) (local : Bool) (name : Span) (test : Bool) (cells : Cells) → Good [] 0 (value_named (sites.Start sized) o local name true) test cells
  start_cell None local name test cells = other_cell [] 0 nothing_apart start_scope local name test cells
  start_cell (Some (meanings.State number declared plain at count)) local name test cells = always (Some (faults.Kind name.at)) test cells (state_never name)
  start_cell (Some (meanings.Array number)) local name test cells = other_cell [] 0 nothing_apart start_scope local name test cells
  start_cell (Some (meanings.Entry port number source values)) local name test cells = other_cell [] 0 nothing_apart start_scope local name test cells
  start_cell (Some (meanings.Reduction port number)) local name test cells = other_cell [] 0 nothing_apart start_scope local name test cells

  name_at_start : (name : Span) → GoodStart (name_walked text table (sites.Start sized) [] [] name false) (p.name_planned text table [] [] name)
  unfolding name_walked n.state_range
  name_at_start name =
      behind_fault [] 0 nothing_apart start_scope (name_fault name) (value_named (sites.Start sized) (lookup table (bytes_at text name)) (is_local text [] [] name) name false) _ _
      (start_value (lookup table (bytes_at text name)) (local_named text [] name) (local_named text [] name) name
      (local_below text [] name (local_named text [] name) refl) (local_below text [] name (local_named text [] name) refl))

  cell_at_start : (name : Span) (test : Bool) (cells : Cells) → Good [] 0 (name_walked text table (sites.Start sized) [] [] name true) test cells
  unfolding name_walked
  cell_at_start name test cells =
      behind_fault [] 0 nothing_apart start_scope (name_fault name) (value_named (sites.Start sized) (lookup table (bytes_at text name)) (is_local text [] [] name) name true) test cells
      (start_cell (lookup table (bytes_at text name)) (is_local text [] [] name) name test cells)

  cell_word : (b : Bool) (at : ℕ) → sized ≡ b → GoodStart (here_walked (sites.Start sized) at heres.Cell) exprs.Which
  cell_word true at h = word_good [] 0 nothing_apart start_scope (sites.Start sized) at heres.Cell exprs.Which (which_good [] 0 nothing_apart start_scope h)
  cell_word false at h = misplaced_never [] 0 nothing_apart start_scope (sites.Start sized) at heres.Cell (ap not h) _ _

  here_at_start : (at : ℕ) (word : Here) → GoodStart (here_walked (sites.Start sized) at word) (p.here word)
  here_at_start at heres.Index = word_good [] 0 nothing_apart start_scope (sites.Start sized) at heres.Index exprs.Index (index_good [] 0 nothing_apart start_scope)
  here_at_start at heres.Row = word_good [] 0 nothing_apart start_scope (sites.Start sized) at heres.Row exprs.Row (row_good [] 0 nothing_apart start_scope)
  here_at_start at heres.Col = word_good [] 0 nothing_apart start_scope (sites.Start sized) at heres.Col exprs.Col (col_good [] 0 nothing_apart start_scope)
  here_at_start at heres.Cell = cell_word sized at refl
  here_at_start at heres.Iter = misplaced_never [] 0 nothing_apart start_scope (sites.Start sized) at heres.Iter refl _ _

  words_at_start : Words [] 0 start_scope text table (sites.Start sized) [] []
  words_at_start = record { name = name_at_start; cell = λ name. cell_at_start name _ _; here = here_at_start }

  pub value_at_start : (e : ExprDecl) → GoodStart (value_walked text table (sites.Start sized) [] [] e) (p.expr_planned text table [] [] e)
  unfolding value_walked
  value_at_start e = expr_is_good [] 0 start_scope text table (sites.Start sized) [] [] words_at_start e
