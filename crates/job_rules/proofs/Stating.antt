-- Statements that break no rule, and their plans.
use Rattle.std.proofs.Common.{◌≡◌, ℕ, ℤ, suc, ◌+◌, ◌<◌, ◌≤◌, Bool, true, false, List, [], ◌∷◌, ◌++◌, length, map, refl, ap, sym, ◌∙◌, subst, arith, Option, None, Some}
use Rattle.std.specs.Prelude.{◌&&◌, ◌||◌, ◌==◌, not, nat_le, nat_lt, is_some, slice_get}
use Rattle.std.specs.List.{list_all, list_any}
use Rattle.std.proofs.lemmas.Bool.{and_parts, eq-eqb, eqb-true, leb-true, lt-ltb, or_left, or_right}
use Rattle.std.proofs.lemmas.List.{length-append}
use Rattle.std.proofs.lemmas.List.Folds.{list_any-append}
use Rattle.chare_base.specs.declared.expression.Expr.{Expr}
use Rattle.chare_base.specs.declared.message.Port.{Port}
use Rattle.chare_base.specs.declared.message.Port.TheVariants as ports
use Rattle.chare_base.specs.declared.plan.Entry.{Entry}
use Rattle.chare_base.specs.declared.plan.Reduction.{Reduction}
use Rattle.chare_base.specs.declared.plan.State.{State}
use Rattle.chare_base.specs.declared.plan.Stmt.{Stmt, roll-Stmt, out-roll-Stmt}
use Rattle.chare_base.specs.declared.plan.Stmt.TheVariants as stmts
use Rattle.chare_base.specs.declared.plan.Stmt.TheOpen.{Stmt-F}
use Rattle.chare_base.specs.declared.plan.Stmt.TheFolds.{fold-roll-Stmt, map-Stmt}
use Rattle.chare_base.specs.declared.range.Range.{Range}
use Rattle.chare_base.specs.Overlap.{state_range}
use Rattle.chare_base.specs.Ports.{all_quiet, block_sends, counted, fed_by, is_quiet, quiet_step, quiet_within, sends_directly, stmt_sends}
use Rattle.chare_base.specs.Ranges.{Test, all_in, indexed_at, part_scope, plain_at, reduced_in, send_in_range, sends_in_range, sent_from, stmt_in_range, value_in_range}
use Rattle.chare_base.specs.Ranges as r
use Rattle.chare_base.specs.Uses.{Cells, any_of, meet, range_of, reads, stmt_reads, stmt_reads_step, stmt_writes, stmt_writes_step}
use Rattle.job_tree.specs.declared.token.Mark.TheVariants as marks
use Rattle.job_tree.specs.declared.token.Span.{Span}
use Rattle.job_tree.specs.declared.tree.Block.{Block, roll-Block}
use Rattle.job_tree.specs.declared.tree.Expr.{Expr as ExprDecl}
use Rattle.job_tree.specs.declared.tree.StmtDecl.{StmtDecl, roll-StmtDecl}
use Rattle.job_tree.specs.declared.tree.StmtDecl.TheOpen.{Block-F, StmtDecl-F}
use Rattle.job_tree.specs.declared.tree.StmtDecl.TheFolds as tree
use Rattle.job_tree.specs.declared.tree.Values.{Values}
use Rattle.job_tree.specs.Spelling as s
use Rattle.job_tree.specs.Spelling.{Spelling, joined}
use Rattle.job_tree.specs.Word.{Word, level_of}
use Rattle.job_rules.specs.declared.fault.CheckFault.TheVariants as faults
use Rattle.job_rules.specs.declared.names.Meaning.{Meaning}
use Rattle.job_rules.specs.declared.names.Meaning.TheVariants as meanings
use Rattle.job_rules.specs.declared.notes.Notes.{Notes}
use Rattle.job_rules.specs.declared.notes.PortUse.{PortUse}
use Rattle.job_rules.specs.declared.notes.StateUse.{StateUse}
use Rattle.job_rules.specs.declared.tables.JobNames.{JobNames}
use Rattle.job_rules.specs.declared.walk.PartAt.{PartAt}
use Rattle.job_rules.specs.Expressions.{is_local, misindexed, state_use}
use Rattle.job_rules.specs.Faults.{Found, fault_if, name_fault, nothing}
use Rattle.job_rules.specs.Names.{Known, bytes_at, lookup}
use Rattle.job_rules.specs.Notes.{Walk, in_order, noted, sent_noted, use_noted}
use Rattle.job_rules.specs.PlannedExpressions.{expr_planned, place_planned, value_planned, values_planned}
use Rattle.job_rules.specs.PlannedNames as n
use Rattle.job_rules.specs.PlannedNames.{entry_id, entry_meant, member, reduction_id, reduction_meant}
use Rattle.job_rules.specs.Numbers.{narrow8, narrow16, narrow32, number16, signed64}
use Rattle.job_rules.specs.PlannedStatements as p
use Rattle.job_rules.specs.Statements as w
use Rattle.job_rules.specs.Tables.{array_number, meant_in, table_at}
use Rattle.job_rules.proofs.Counting.{both}
use Rattle.job_rules.proofs.Meant.{Apart, StateMeant, equal, indexed_there, one_cell_of, plain_there, plain_where, same_state, sized_where, value_in_part}
use Rattle.job_rules.proofs.Noting.{Clean, Goes, Good, clean_and, clean_as, clean_none, goes_on, good_and, good_none, more_used, noted_goes, used_in, uses_state, writes_state}
use Rattle.job_rules.proofs.Places.{Sound}
use Rattle.job_rules.proofs.Sending.{SentBy, all_parts, count_at, count_joined, count_one, sent_and, sent_none, sent_one, sent_within}
use Rattle.job_rules.proofs.Sooner.{unbroken}
use Rattle.job_rules.proofs.Tabled.{IsPort, Lists, Told}

-- the words open 32 levels at most
abbrev pub shallow : List Word → Bool
shallow words = list_all (λ w. nat_le (level_of w) 32) words

-- what is known of a job's names and entries
pub record World (text : List ℕ) (names : JobNames) (l : Lists) : Type 0 where
  pub tables : (k : ℕ) → (states : List State) × Sound (Told text names.arrays l k states) (table_at names k)
  pub values : (x : ℕ) (e : Entry) → slice_get l.entries x ≡ Some e → e.values ≤ 8

told_state : (text : List ℕ) (arrays : List Known) (l : Lists) (owner : ℕ) (states : List State) (x : Meaning) → Told text arrays l owner states x → StateMeant states x
told_state text arrays l owner states (meanings.State number declared plain at cells) h =
    record { state = h.state; is = h.is; plain_is = h.plain_is; at_is = h.at_is; cells_is = h.cells_is }
told_state text arrays l owner states (meanings.Array number) h = tt
told_state text arrays l owner states (meanings.Entry port number source values) h = tt
told_state text arrays l owner states (meanings.Reduction port number) h = tt

pub state_sound : (text : List ℕ) (arrays : List Known) (l : Lists) (owner : ℕ) (states : List State) (table : List Known) → Sound (Told text arrays l owner states) table →
    Sound (StateMeant states) table
state_sound text arrays l owner states table sound name x h = told_state text arrays l owner states x (sound name x h)

abbrev pub wrote_in : ℕ → Notes → ℕ → Bool
wrote_in part a j = list_any (writes_state part j) a.uses

mismatch_never : (o : Option Meaning) (name : Span) → w.mismatch_fault o name ≡ nothing → ⊥
mismatch_never None name h = let e : Some (faults.Unknown name.at) ≡ nothing = h in cc
mismatch_never (Some m) name h = let e : Some (faults.Kind name.at) ≡ nothing = h in cc

not_true : (b : Bool) → not b ≡ false → b ≡ true
not_true true h = refl
not_true false h = absurd cc

is_number_some : (number : ℕ) (o : Option ℕ) → w.is_number number o ≡ true → o ≡ Some number
is_number_some number None h = absurd (let e : false ≡ true = h in cc)
is_number_some number (Some found) h = ap Some (eqb-true found number h)

-- ---- what goes on between two notes, of a part of this number

module _ (states : List State) (part : ℕ) where
  pub record Acted (a b : Notes) (test : Bool) (read written : Cells) : Type 0 where
    pub found : a.found ≡ nothing
    pub uses : (t : StateUse → Bool) → list_any t a.uses ≡ true → list_any t b.uses ≡ true
    pub received : b.received ≡ a.received
    pub clean : Clean states (used_in part b) test read
    pub wrote : Clean states (wrote_in part b) true written

  pub acted_and : (a b c : Notes) (s t : Bool) (f g h k : Cells) → Acted a b s f h → Acted b c t g k → Acted a c (s && t) (λ range. f range || g range) (λ range. h range || k range)
  acted_and a b c s t f g h k x y = record {
    found = x.found;
    uses = λ test e. y.uses test (x.uses test e);
    received = y.received ∙ x.received;
    clean = clean_and states (used_in part c) s t f g (more_used states (used_in part b) (used_in part c) s f (λ j e. y.uses (uses_state part j) e) x.clean) y.clean;
    wrote = clean_and states (wrote_in part c) true true h k (more_used states (wrote_in part b) (wrote_in part c) true h (λ j e. y.uses (writes_state part j) e) x.wrote) y.wrote;
  }

  pub acted_as : (a b : Notes) (s t : Bool) (f g h k : Cells) → (s ≡ true → t ≡ true) → ((range : Range) → g range ≡ true → f range ≡ true) → ((range : Range) → k range ≡ true → h range ≡ true) →
      Acted a b s f h → Acted a b t g k
  acted_as a b s t f g h k p q r x = record {
    found = x.found;
    uses = x.uses;
    received = x.received;
    clean = clean_as states (used_in part b) s t f g p q x.clean;
    wrote = clean_as states (wrote_in part b) true true h k (λ e. e) r x.wrote;
  }

  -- a walk that writes nothing
  pub acted_good : (walk : Walk) (a : Notes) (test : Bool) (read : Cells) → Good states part walk test read → (walk a).found ≡ nothing → Acted a (walk a) test read (λ range. false)
  acted_good walk a test read g h =
      let goes = g.goes a h in
      record { found = goes.found; uses = goes.uses; received = goes.received; clean = g.clean a h; wrote = clean_none states (wrote_in part (walk a)) true refl }

  pub acted_goes : (a b : Notes) → Goes a b → Acted a b true (λ range. false) (λ range. false)
  acted_goes a b goes = record {
    found = goes.found;
    uses = goes.uses;
    received = goes.received;
    clean = clean_none states (used_in part b) true refl;
    wrote = clean_none states (wrote_in part b) true refl;
  }

  pub acted_none : (a : Notes) → a.found ≡ nothing → Acted a a true (λ range. false) (λ range. false)
  acted_none a h = record {
    found = h;
    uses = λ t e. e;
    received = refl;
    clean = clean_none states (used_in part a) true refl;
    wrote = clean_none states (wrote_in part a) true refl;
  }

-- ---- statements of a part of an array

module _ (text : List ℕ) (names : JobNames) (l : Lists) (world : World text names l) (part : PartAt) (table : List Known) (states : List State)
    (sound : Sound (Told text names.arrays l part.array states) table) (apart : Apart states) (few : part.array ≤ 1000) (params : List Span) where
  abbrev value_count : ℕ
  value_count = length params

  abbrev ActedHere : (a b : Notes) (test : Bool) (read written : Cells) → Type 0
  ActedHere = Acted states part.part

  abbrev SentHere : (nested : Bool) (old new : List PortUse) (quiet : Bool) (D : List PortUse → Type 0) → Type 0
  SentHere = SentBy l part.step

  -- ---- one layer of a plan

  -- what a statement that isn't within others sends
  pub record DirectLayer (x : Stmt-F Stmt) (us : List PortUse) : Type 0 where
    pub directly : quiet_within x ≡ true
    pub ranged : send_in_range l.entries l.reductions part.array x ≡ true
    pub counts : (p : ℕ) (q : Port) → IsPort l p q → count_at p us ≡ counted q (fed_by x)

  pub record DirectStmt (stmt : Stmt) (us : List PortUse) : Type 0 where
    pub directly : sends_directly stmt ≡ true
    pub ranged : sends_in_range l.entries l.reductions part.array stmt ≡ true
    pub counts : (p : ℕ) (q : Port) → IsPort l p q → count_at p us ≡ stmt_sends q stmt

  abbrev LayerFacts : Bool → ℕ → Notes → Notes → Stmt-F Stmt → Type 0
  LayerFacts nested loops a b x =
      ActedHere a b (r.stmt_step states value_count (map-Stmt Stmt Test (stmt_in_range states value_count) x) loops) (stmt_reads_step (map-Stmt Stmt Cells stmt_reads x)) (stmt_writes_step (map-Stmt Stmt Cells stmt_writes x))
      × SentHere nested a.sent b.sent (quiet_step (map-Stmt Stmt Bool is_quiet x)) (DirectLayer x)

  abbrev pub StmtFacts : Bool → ℕ → Notes → Notes → Stmt → Type 0
  StmtFacts nested loops a b stmt =
      ActedHere a b (stmt_in_range states value_count stmt loops) (stmt_reads stmt) (stmt_writes stmt) × SentHere nested a.sent b.sent (is_quiet stmt) (DirectStmt stmt)

  direct_rolled : (x : Stmt-F Stmt) (us : List PortUse) → DirectLayer x us → DirectStmt (roll-Stmt x) us
  direct_rolled x us d = record {
    directly = ap quiet_within (out-roll-Stmt x) ∙ d.directly;
    ranged = ap (send_in_range l.entries l.reductions part.array) (out-roll-Stmt x) ∙ d.ranged;
    counts = λ p q is. d.counts p q is ∙ sym (ap (λ y. counted q (fed_by y)) (out-roll-Stmt x));
  }

  sent_rolled : (nested : Bool) (a b : List PortUse) (x : Stmt-F Stmt) → SentHere nested a b (quiet_step (map-Stmt Stmt Bool is_quiet x)) (DirectLayer x) →
      SentHere nested a b (is_quiet (roll-Stmt x)) (DirectStmt (roll-Stmt x))
  sent_rolled nested a b x f = record {
    us = f.us;
    adds = f.adds;
    there = f.there;
    at = f.at;
    marked = f.marked;
    silent = λ h. fold-roll-Stmt Bool quiet_step x ∙ f.silent h;
    direct = λ h k. direct_rolled x f.us (f.direct h k);
  }

  rolled_facts : (nested : Bool) (loops : ℕ) (a b : Notes) (x : Stmt-F Stmt) → LayerFacts nested loops a b x → StmtFacts nested loops a b (roll-Stmt x)
  rolled_facts nested loops a b x f = (
    acted_as states part.part a b _ _ _ _ _ _
        (λ h. ap (λ (t : Test). t loops) (fold-roll-Stmt Test (r.stmt_step states value_count) x) ∙ h)
        (λ range h. sym (ap (λ (c : Cells). c range) (fold-roll-Stmt Cells stmt_reads_step x)) ∙ h)
        (λ range h. sym (ap (λ (c : Cells). c range) (fold-roll-Stmt Cells stmt_writes_step x)) ∙ h) f.0,
    sent_rolled nested a.sent b.sent x f.1,
  )

  -- ---- lists of statements

  pub record DirectBlock (block : List Stmt) (us : List PortUse) : Type 0 where
    pub directly : list_all sends_directly block ≡ true
    pub ranged : list_all (sends_in_range l.entries l.reductions part.array) block ≡ true
    pub counts : (p : ℕ) (q : Port) → IsPort l p q → count_at p us ≡ block_sends q block

  abbrev pub BlockFacts : Bool → ℕ → Notes → Notes → List Stmt → Type 0
  BlockFacts nested loops a b block =
      ActedHere a b (all_in (map (stmt_in_range states value_count) block) loops) (any_of (map stmt_reads block)) (any_of (map stmt_writes block))
      × SentHere nested a.sent b.sent (all_quiet (map is_quiet block)) (DirectBlock block)

  direct_none : DirectBlock [] []
  direct_none = record { directly = refl; ranged = refl; counts = λ p q is. refl }

  direct_more : (stmt : Stmt) (block : List Stmt) (us vs : List PortUse) → DirectStmt stmt us → DirectBlock block vs → DirectBlock (stmt ∷ block) (us ++ vs)
  direct_more stmt block us vs d e = record {
    directly = both (sends_directly stmt) (list_all sends_directly block) d.directly e.directly;
    ranged = both (sends_in_range l.entries l.reductions part.array stmt) (list_all (sends_in_range l.entries l.reductions part.array) block) d.ranged e.ranged;
    counts = λ p q is. count_joined p us vs ∙ ap (λ n. n + count_at p vs) (d.counts p q is) ∙ ap (λ n. stmt_sends q stmt + n) (e.counts p q is);
  }

  block_none : (nested : Bool) (loops : ℕ) (a : Notes) → a.found ≡ nothing → BlockFacts nested loops a a []
  block_none nested loops a h = (acted_none states part.part a h, sent_none l part.step nested a.sent a.sent true (DirectBlock []) refl refl direct_none)

  block_more : (nested : Bool) (loops : ℕ) (a b c : Notes) (stmt : Stmt) (block : List Stmt) → StmtFacts nested loops a b stmt → BlockFacts nested loops b c block → BlockFacts nested loops a c (stmt ∷ block)
  block_more nested loops a b c stmt block f g = (
    acted_and states part.part a b c _ _ _ _ _ _ f.0 g.0,
    sent_and l part.step nested a.sent b.sent c.sent (is_quiet stmt) (all_quiet (map is_quiet block)) (DirectStmt stmt) (DirectBlock block) (DirectBlock (stmt ∷ block)) (direct_more stmt block) f.1 g.1,
  )

  -- ---- expressions

  value_good : (loops : List Span) (e : ExprDecl) →
      Good states part.part (w.operand_walked text table part params loops e) (value_in_range states value_count (length loops) (value_planned text table params loops e)) (reads (value_planned text table params loops e))
  unfolding value_in_range value_planned
  value_good loops e = value_in_part states part.part apart text table params loops (state_sound text names.arrays l part.array states table sound) e

  place_good : (loops : List Span) (e : ExprDecl) →
      Good states part.part (w.operand_walked text table part params loops e) (value_in_range states value_count (length loops) (expr_planned text table params loops e)) (reads (expr_planned text table params loops e))
  unfolding value_in_range
  place_good loops e = value_in_part states part.part apart text table params loops (state_sound text names.arrays l part.array states table sound) e

  values_good : (loops : List Span) (es : List ExprDecl) →
      Good states part.part (in_order (map (w.operand_walked text table part params loops) es)) (list_all (value_in_range states value_count (length loops)) (map (value_planned text table params loops) es))
      (any_of (map reads (map (value_planned text table params loops) es)))
  values_good loops [] = good_none states part.part true refl
  values_good loops (e ∷ more) =
      good_and states part.part (w.operand_walked text table part params loops e) (in_order (map (w.operand_walked text table part params loops) more)) _ _ _ _ (value_good loops e) (values_good loops more)

  -- what is sent by a statement that sends nothing
  silent_layer : (nested : Bool) (a b : List PortUse) (x : Stmt-F Stmt) → b ≡ a → quiet_step (map-Stmt Stmt Bool is_quiet x) ≡ true → DirectLayer x [] →
      SentHere nested a b (quiet_step (map-Stmt Stmt Bool is_quiet x)) (DirectLayer x)
  silent_layer nested a b x is q d = sent_none l part.step nested a b (quiet_step (map-Stmt Stmt Bool is_quiet x)) (DirectLayer x) is q d

  -- ---- writes

  -- a target, of whose plan these cells are meant
  record Target (walk : Walk) (test : Bool) (cells : Cells) : Type 0 where
    goes : (a : Notes) → (walk a).found ≡ nothing → Goes a (walk a)
    holds : (a : Notes) → (walk a).found ≡ nothing → test ≡ true
    writes : (a : Notes) → (walk a).found ≡ nothing → (j : ℕ) (s : State) → slice_get states j ≡ Some s → cells (state_range s) ≡ true → wrote_in part.part (walk a) j ≡ true

  target_never : (fault : Found) (test : Bool) (cells : Cells) → (fault ≡ nothing → ⊥) → Target (noted fault) test cells
  target_never fault test cells h = record {
    goes = λ a e. (noted_goes fault a e).0;
    holds = λ a e. absurd (h (noted_goes fault a e).1);
    writes = λ a e j s is k. absurd (h (noted_goes fault a e).1);
  }

  target_state : (v : StateUse) (fault : Found) (test : Bool) (cells : Cells) → (fault ≡ nothing → test ≡ true) →
      ((j : ℕ) (s : State) → slice_get states j ≡ Some s → fault ≡ nothing → cells (state_range s) ≡ true → writes_state part.part j v ≡ true) → Target (λ a. use_noted v (noted fault a)) test cells
  target_state v fault test cells h k = record {
    goes = λ a e.
        let g = (noted_goes fault a e).0 in
        record { found = g.found; uses = λ t x. list_any-append t a.uses (v ∷ []) ∙ or_left (list_any t a.uses) (list_any t (v ∷ [])) x; sent = refl; received = refl };
    holds = λ a e. h (noted_goes fault a e).1;
    writes = λ a e j s is x.
        list_any-append (writes_state part.part j) a.uses (v ∷ [])
        ∙ or_right (list_any (writes_state part.part j) a.uses) (list_any (writes_state part.part j) (v ∷ [])) (or_left (writes_state part.part j v) false (k j s is (noted_goes fault a e).1 x));
  }

  wrote_here : (number declared : ℕ) (name : Span) (j : ℕ) → number ≡ j → writes_state part.part j (state_use number declared part.part name true) ≡ true
  wrote_here number declared name j h = both (part.part == part.part) ((number == j) && true) (equal part.part) (both (number == j) true (eq-eqb number j h) refl)

  unwritable_never : (local : Bool) (name : Span) → w.unwritable local name ≡ nothing → ⊥
  unwritable_never true name h = let e : Some (faults.Kind name.at) ≡ nothing = h in cc
  unwritable_never false name h = let e : Some (faults.Unknown name.at) ≡ nothing = h in cc

  kind_never : (name : Span) → Some (faults.Kind name.at) ≡ nothing → ⊥
  kind_never name h = cc

  plain_target : (o : Option Meaning) (local : Bool) (name : Span) → ((x : Meaning) → o ≡ Some x → StateMeant states x) →
      Target (w.target_named part.part o local name false) (plain_at states (n.range_or_none (n.range_meant o)).at) (λ range. meet range (range_of (n.range_or_none (n.range_meant o)).at 1))
  plain_target None local name told = target_never (w.unwritable local name) _ _ (unwritable_never local name)
  plain_target (Some (meanings.State number declared plain at cells)) local name told =
      let known = told (meanings.State number declared plain at cells) refl in
      let fault = fault_if (misindexed plain false) (faults.Kind name.at) in
      target_state (state_use number declared part.part name true) fault (plain_at states (narrow32 at)) (λ range. meet range (range_of (narrow32 at) 1))
      (λ e. plain_there states part.part apart number at cells plain known (plain_where states part.part apart plain (unbroken (misindexed plain false) (faults.Kind name.at) e)))
      (λ j s is e h.
      let one = one_cell_of states part.part apart number at cells plain known (plain_where states part.part apart plain (unbroken (misindexed plain false) (faults.Kind name.at) e)) in
      wrote_here number declared name j (same_state states part.part apart j number at cells plain s known is (ap (λ n. meet (state_range s) (range_of (narrow32 at) n)) (sym one) ∙ h)))
  plain_target (Some (meanings.Array number)) local name told = target_never (Some (faults.Kind name.at)) _ _ (kind_never name)
  plain_target (Some (meanings.Entry port number source values)) local name told = target_never (Some (faults.Kind name.at)) _ _ (kind_never name)
  plain_target (Some (meanings.Reduction port number)) local name told = target_never (Some (faults.Kind name.at)) _ _ (kind_never name)

  sized_target : (o : Option Meaning) (local : Bool) (name : Span) → ((x : Meaning) → o ≡ Some x → StateMeant states x) →
      Target (w.target_named part.part o local name true) (indexed_at states (n.range_or_none (n.range_meant o)).at (n.range_or_none (n.range_meant o)).count)
      (λ range. meet range (range_of (n.range_or_none (n.range_meant o)).at (n.range_or_none (n.range_meant o)).count))
  sized_target None local name told = target_never (w.unwritable local name) _ _ (unwritable_never local name)
  sized_target (Some (meanings.State number declared plain at cells)) local name told =
      let known = told (meanings.State number declared plain at cells) refl in
      let fault = fault_if (misindexed plain true) (faults.Kind name.at) in
      target_state (state_use number declared part.part name true) fault (indexed_at states (narrow32 at) (narrow32 cells)) (λ range. meet range (range_of (narrow32 at) (narrow32 cells)))
      (λ e. indexed_there states part.part apart number at cells plain known (sized_where states part.part apart plain (unbroken (misindexed plain true) (faults.Kind name.at) e)))
      (λ j s is e h. wrote_here number declared name j (same_state states part.part apart j number at cells plain s known is h))
  sized_target (Some (meanings.Array number)) local name told = target_never (Some (faults.Kind name.at)) _ _ (kind_never name)
  sized_target (Some (meanings.Entry port number source values)) local name told = target_never (Some (faults.Kind name.at)) _ _ (kind_never name)
  sized_target (Some (meanings.Reduction port number)) local name told = target_never (Some (faults.Kind name.at)) _ _ (kind_never name)

  behind_name : (fault : Found) (walk : Walk) (test : Bool) (cells : Cells) → Target walk test cells → Target (λ a. walk (noted fault a)) test cells
  behind_name fault walk test cells t = record {
    goes = λ a e. let later = t.goes (noted fault a) e in goes_on a (noted fault a) (walk (noted fault a)) (noted_goes fault a later.found).0 later;
    holds = λ a e. t.holds (noted fault a) e;
    writes = λ a e. t.writes (noted fault a) e;
  }

  abbrev range_at : Span → Range
  range_at name = n.range_or_none (n.state_range text table name)

  plain_write : (loops : List Span) (name : Span) → Target (w.target_walked text table part.part params loops name false) (plain_at states (range_at name).at) (λ range. meet range (range_of (range_at name).at 1))
  unfolding w.target_walked n.state_range
  plain_write loops name =
      behind_name (name_fault name) (w.target_named part.part (lookup table (bytes_at text name)) (is_local text params loops name) name false) _ _
      (plain_target (lookup table (bytes_at text name)) (is_local text params loops name) name (state_sound text names.arrays l part.array states table sound (bytes_at text name)))

  sized_write : (loops : List Span) (name : Span) → Target (w.target_walked text table part.part params loops name true) (indexed_at states (range_at name).at (range_at name).count)
      (λ range. meet range (range_of (range_at name).at (range_at name).count))
  unfolding w.target_walked n.state_range
  sized_write loops name =
      behind_name (name_fault name) (w.target_named part.part (lookup table (bytes_at text name)) (is_local text params loops name) name true) _ _
      (sized_target (lookup table (bytes_at text name)) (is_local text params loops name) name (state_sound text names.arrays l part.array states table sound (bytes_at text name)))

  -- a target and then a walk that writes nothing
  acted_write : (t v : Walk) (a : Notes) (s u : Bool) (read cells : Cells) → Target t s cells → Good states part.part v u read → (v (t a)).found ≡ nothing →
      ActedHere a (v (t a)) (s && u) read cells × ((v (t a)).sent ≡ a.sent)
  acted_write t v a s u read cells target good h =
      let later = good.goes (t a) h in
      let first = target.goes a later.found in (
        record {
          found = first.found;
          uses = λ test e. later.uses test (first.uses test e);
          received = later.received ∙ first.received;
          clean = clean_as states (used_in part.part (v (t a))) u (s && u) read read (both s u (target.holds a later.found)) (λ range e. e) (good.clean (t a) h);
          wrote = record { ranged = refl; told = λ j st is e. later.uses (writes_state part.part j) (target.writes a later.found j st is e) };
        },
        later.sent ∙ first.sent,
      )

  assign_facts : (nested : Bool) (loops : List Span) (a : Notes) (target : Span) (index : Option ExprDecl) (value : ExprDecl) →
      (w.assign_walked text table part params loops target index value a).found ≡ nothing →
      StmtFacts nested (length loops) a (w.assign_walked text table part params loops target index value a)
      (p.assigned (range_at target) (place_planned text table params loops index) (value_planned text table params loops value))
  unfolding place_planned
  assign_facts nested loops a target None value h =
      let b = w.assign_walked text table part params loops target None value a in
      let e = value_planned text table params loops value in
      let x : Stmt-F Stmt = Stmt-F.Set (range_at target).at e in
      let acted = acted_write (w.target_walked text table part.part params loops target false) (w.operand_walked text table part params loops value) a _ _ _ _ (plain_write loops target) (value_good loops value) h in
      subst (StmtFacts nested (length loops) a b) (stmts.rolls-Set (range_at target).at e)
      (rolled_facts nested (length loops) a b x (acted.0, silent_layer nested a.sent b.sent x acted.1 refl (record { directly = refl; ranged = refl; counts = λ p q is. refl })))
  assign_facts nested loops a target (Some index) value h =
      let b = w.assign_walked text table part params loops target (Some index) value a in
      let e = value_planned text table params loops value in
      let place = expr_planned text table params loops index in
      let x : Stmt-F Stmt = Stmt-F.SetAt (range_at target).at (range_at target).count place e in
      let operands : Walk = λ m. w.operand_walked text table part params loops value (w.operand_walked text table part params loops index m) in
      let acted = acted_write (w.target_walked text table part.part params loops target true) operands a _ _ _ _ (sized_write loops target)
      (good_and states part.part (w.operand_walked text table part params loops index) (w.operand_walked text table part params loops value) _ _ _ _ (place_good loops index) (value_good loops value)) h in
      subst (StmtFacts nested (length loops) a b) (stmts.rolls-SetAt (range_at target).at (range_at target).count place e)
      (rolled_facts nested (length loops) a b x (acted.0, silent_layer nested a.sent b.sent x acted.1 refl (record { directly = refl; ranged = refl; counts = λ p q is. refl })))

  -- ---- sends

  -- one send, which uses no state
  abbrev SendFacts : Bool → Notes → Notes → Stmt-F Stmt → Type 0
  SendFacts nested a b x = ActedHere a b true (λ range. false) (λ range. false) × SentHere nested a.sent b.sent false (DirectLayer x)

  -- a send to a port, behind two tests
  two_noted : (f g : Found) (v : PortUse) (nested : Bool) (a : Notes) (x : Stmt-F Stmt) (q : Port) → (sent_noted v (noted g (noted f a))).found ≡ nothing →
      (f ≡ nothing → g ≡ nothing → IsPort l v.port q × DirectLayer x (v ∷ [])) → v.step ≡ part.step → v.nested ≡ nested →
      SendFacts nested a (sent_noted v (noted g (noted f a))) x
  two_noted f g v nested a x q h known at is =
      let second = noted_goes g (noted f a) h in
      let first = noted_goes f a second.0.found in
      let facts = known first.1 second.1 in (
        record {
          found = first.0.found;
          uses = λ t e. e;
          received = refl;
          clean = clean_none states (used_in part.part a) true refl;
          wrote = clean_none states (wrote_in part.part a) true refl;
        },
        sent_one l part.step nested a.sent v q (DirectLayer x) facts.0 at is facts.1,
      )

  never_sent : (f : Found) (nested : Bool) (a : Notes) (x : Stmt-F Stmt) → (f ≡ nothing → ⊥) → (noted f a).found ≡ nothing → SendFacts nested a (noted f a) x
  never_sent f nested a x never h = absurd (never (noted_goes f a h).1)

  no_wider : (values e : ℕ) → e ≡ narrow8 values → e ≤ 8 → e ≡ values
  no_wider values e h k = omega (arith, h, k)

  small_number : (number : ℕ) → number ≤ 1000 → narrow16 number ≡ number
  small_number number h = omega (arith, h)

  source_here : (source : Option ℕ) → source ≡ Some part.array → number16 source ≡ part.array
  source_here source h = ap number16 h ∙ small_number part.array few

  entry_found : (number count : ℕ) (e : Entry) → slice_get l.entries number ≡ Some e → e.source ≡ part.array → e.values ≡ count → number ≤ 1000 →
      sent_from part.array count (slice_get l.entries (entry_id number).0) ≡ true
  entry_found number count e is source count_is small =
      ap (λ k. sent_from part.array count (slice_get l.entries k)) (small_number number small) ∙ ap (sent_from part.array count) is
      ∙ both (e.source == part.array) (e.values == count) (eq-eqb e.source part.array source) (eq-eqb e.values count count_is)

  entry_id_is : (number : ℕ) → number ≤ 1000 → ports.Entry (record { 0 = number }) ≡ ports.Entry (entry_id number)
  entry_id_is number h = ap (λ k. ports.Entry (record { 0 = k })) (sym (small_number number h))

  reduction_id_is : (number : ℕ) → number ≤ 1000 → ports.Total (record { 0 = number }) ≡ ports.Total (reduction_id number)
  reduction_id_is number h = ap (λ k. ports.Total (record { 0 = k })) (sym (small_number number h))

  entry_facts : (owner : ℕ) (own : List State) (nested : Bool) (at : ℕ) (o : Option Meaning) (name : Span) (sent : List Expr) (a : Notes) →
      ((x : Meaning) → o ≡ Some x → Told text names.arrays l owner own x) → (w.entry_named part at nested (length sent) o name a).found ≡ nothing →
      SendFacts nested a (w.entry_named part at nested (length sent) o name a) (Stmt-F.Send (entry_meant o) sent)
  entry_facts owner own nested at None name sent a told h = never_sent (w.mismatch_fault None name) nested a _ (mismatch_never None name) h
  entry_facts owner own nested at (Some (meanings.State number declared plain first cells)) name sent a told h =
      let o = Some (meanings.State number declared plain first cells) in never_sent (w.mismatch_fault o name) nested a _ (mismatch_never o name) h
  entry_facts owner own nested at (Some (meanings.Array number)) name sent a told h =
      let o = Some (meanings.Array number) in never_sent (w.mismatch_fault o name) nested a _ (mismatch_never o name) h
  entry_facts owner own nested at (Some (meanings.Reduction port number)) name sent a told h =
      let o = Some (meanings.Reduction port number) in never_sent (w.mismatch_fault o name) nested a _ (mismatch_never o name) h
  entry_facts owner own nested at (Some (meanings.Entry port number source values)) name sent a told h =
      let known = told (meanings.Entry port number source values) refl in
      let v = w.port_use port part at nested in
      let x : Stmt-F Stmt = Stmt-F.Send (entry_id number) sent in
      let is : IsPort l port (ports.Entry (entry_id number)) = subst (IsPort l port) (entry_id_is number known.few) known.port_is in
      two_noted (fault_if (not (length sent == values)) (faults.Kind name.at)) (fault_if (not (w.is_number part.array source)) (faults.Shape at)) v nested a x (ports.Entry (entry_id number)) h
      (λ e f.
      let same : length sent ≡ values = eqb-true (length sent) values (not_true (length sent == values) (unbroken (not (length sent == values)) (faults.Kind name.at) e)) in
      let from : source ≡ Some part.array = is_number_some part.array source (not_true (w.is_number part.array source) (unbroken (not (w.is_number part.array source)) (faults.Shape at) f)) in
      let wide : known.entry.values ≡ length sent = no_wider values known.entry.values known.values_is (world.values number known.entry known.is) ∙ sym same in (
        is,
        record {
          directly = refl;
          ranged = entry_found number (length sent) known.entry known.is (known.source_is ∙ source_here source from) wide known.few;
          counts = λ p q r. count_one l p q v (ports.Entry (entry_id number)) r is;
        },
      )) refl refl

  member_facts : (nested : Bool) (at : ℕ) (number : Option ℕ) (array name : Span) (sent : List Expr) (a : Notes) →
      (w.member_named part at nested (length sent) number (meant_in names number (bytes_at text name)) array name a).found ≡ nothing →
      SendFacts nested a (w.member_named part at nested (length sent) number (meant_in names number (bytes_at text name)) array name a) (Stmt-F.Send (entry_meant (meant_in names number (bytes_at text name))) sent)
  member_facts nested at None array name sent a h =
      never_sent (Some (faults.Unknown array.at)) nested a _ (λ e. let c : Some (faults.Unknown array.at) ≡ nothing = e in cc) h
  member_facts nested at (Some k) array name sent a h =
      entry_facts k (world.tables k).0 nested at (lookup (table_at names k) (bytes_at text name)) name sent a ((world.tables k).1 (bytes_at text name)) h

  -- the same behind other tests
  send_later : (nested : Bool) (a b c : Notes) (x : Stmt-F Stmt) → Goes a b → SendFacts nested b c x → SendFacts nested a c x
  send_later nested a b c x goes f = (
    acted_and states part.part a b c true true (λ range. false) (λ range. false) (λ range. false) (λ range. false) (acted_goes states part.part a b goes) f.0,
    subst (λ s. SentHere nested s c.sent false (DirectLayer x)) goes.sent f.1,
  )

  send_facts : (nested : Bool) (at : ℕ) (array name : Span) (sent : List Expr) (a : Notes) → (w.send_walked text names part at nested (length sent) array name a).found ≡ nothing →
      SendFacts nested a (w.send_walked text names part at nested (length sent) array name a) (Stmt-F.Send (entry_meant (member text names array name)) sent)
  unfolding w.send_walked member
  send_facts nested at array name sent a h =
      let number = array_number text names.arrays array in
      let first = noted (name_fault array) a in
      let second = noted (name_fault name) first in
      let facts = member_facts nested at number array name sent second h in
      let goes_second = (noted_goes (name_fault name) first facts.0.found).0 in
      let goes_first = (noted_goes (name_fault array) a goes_second.found).0 in
      send_later nested a second _ _ (goes_on a first second goes_first goes_second) facts

  reduction_found : (number : ℕ) (e : Reduction) → slice_get l.reductions number ≡ Some e → e.owner ≡ narrow16 part.array → number ≤ 1000 →
      reduced_in part.array (slice_get l.reductions (reduction_id number).0) ≡ true
  reduction_found number e is owner small =
      ap (λ k. reduced_in part.array (slice_get l.reductions k)) (small_number number small) ∙ ap (reduced_in part.array) is
      ∙ eq-eqb e.owner part.array (owner ∙ small_number part.array few)

  reduction_facts : (nested : Bool) (at : ℕ) (o : Option Meaning) (name : Span) (value : Expr) (a : Notes) → ((x : Meaning) → o ≡ Some x → Told text names.arrays l part.array states x) →
      (w.reduction_named part at nested o name a).found ≡ nothing → SendFacts nested a (w.reduction_named part at nested o name a) (Stmt-F.Contribute (reduction_meant o) value)
  reduction_facts nested at None name value a told h = never_sent (w.mismatch_fault None name) nested a _ (mismatch_never None name) h
  reduction_facts nested at (Some (meanings.State number declared plain first cells)) name value a told h =
      let o = Some (meanings.State number declared plain first cells) in never_sent (w.mismatch_fault o name) nested a _ (mismatch_never o name) h
  reduction_facts nested at (Some (meanings.Array number)) name value a told h =
      let o = Some (meanings.Array number) in never_sent (w.mismatch_fault o name) nested a _ (mismatch_never o name) h
  reduction_facts nested at (Some (meanings.Entry port number source values)) name value a told h =
      let o = Some (meanings.Entry port number source values) in never_sent (w.mismatch_fault o name) nested a _ (mismatch_never o name) h
  reduction_facts nested at (Some (meanings.Reduction port number)) name value a told h =
      let known = told (meanings.Reduction port number) refl in
      let v = w.port_use port part at nested in
      let is : IsPort l port (ports.Total (reduction_id number)) = subst (IsPort l port) (reduction_id_is number known.few) known.port_is in
      let x : Stmt-F Stmt = Stmt-F.Contribute (reduction_id number) value in (
        record {
          found = h;
          uses = λ t e. e;
          received = refl;
          clean = clean_none states (used_in part.part a) true refl;
          wrote = clean_none states (wrote_in part.part a) true refl;
        },
        sent_one l part.step nested a.sent v (ports.Total (reduction_id number)) (DirectLayer x) is refl refl (record {
          directly = refl;
          ranged = reduction_found number known.reduction known.is known.owner_is known.few;
          counts = λ p q r. count_one l p q v (ports.Total (reduction_id number)) r is;
        }),
      )

  contribute_facts : (nested : Bool) (at : ℕ) (name : Span) (value : Expr) (a : Notes) → (w.contribute_walked text table part at nested name a).found ≡ nothing →
      SendFacts nested a (w.contribute_walked text table part at nested name a) (Stmt-F.Contribute (reduction_meant (lookup table (bytes_at text name))) value)
  unfolding w.contribute_walked
  contribute_facts nested at name value a h =
      let first = noted (name_fault name) a in
      let facts = reduction_facts nested at (lookup table (bytes_at text name)) name value first (sound (bytes_at text name)) h in
      send_later nested a first _ _ (noted_goes (name_fault name) a facts.0.found).0 facts

  -- a send and then its values
  sent_and_values : (nested : Bool) (loops : ℕ) (a b : Notes) (v : Walk) (x : Stmt-F Stmt) (test : Bool) (read : Cells) → (b.found ≡ nothing → SendFacts nested a b x) → Good states part.part v test read → (v b).found ≡ nothing →
      ActedHere a (v b) test read (λ range. false) × SentHere nested a.sent (v b).sent false (DirectLayer x)
  sent_and_values nested loops a b v x test read known good h =
      let facts = known (good.goes b h).found in (
        acted_and states part.part a b (v b) true test (λ range. false) read (λ range. false) (λ range. false) facts.0 (acted_good states part.part v b test read good h),
        subst (λ s. SentHere nested a.sent s false (DirectLayer x)) (sym (good.goes b h).sent) facts.1,
      )

  -- ---- blocks within

  length_more : (loops : List Span) (name : Span) → length (loops ++ name ∷ []) ≡ suc (length loops)
  length_more loops name = let e = length-append loops (name ∷ []) in omega (arith, e)

  quiet_all : (block : List Stmt) → all_quiet (map is_quiet block) ≡ list_all is_quiet block
  quiet_all [] = refl
  quiet_all (s ∷ more) = ap (λ b. is_quiet s && b) (quiet_all more)

  within_facts : (nested : Bool) (a b : Notes) (block : List Stmt) (x : Stmt-F Stmt) (q : Bool) (D : List PortUse → Type 0) → (q ≡ true → quiet_step (map-Stmt Stmt Bool is_quiet x) ≡ true) → (q ≡ true → DirectLayer x []) →
      SentHere true a.sent b.sent q D → SentHere nested a.sent b.sent (quiet_step (map-Stmt Stmt Bool is_quiet x)) (DirectLayer x)
  within_facts nested a b block x q D h k f = sent_within l part.step nested a.sent b.sent q (quiet_step (map-Stmt Stmt Bool is_quiet x)) D (DirectLayer x) h k f

  if_facts : (nested : Bool) (loops : ℕ) (a b c d : Notes) (test : Expr) (left right : List Stmt) → ActedHere a b (value_in_range states value_count loops test) (reads test) (λ range. false) → b.sent ≡ a.sent →
      BlockFacts true loops b c left → BlockFacts true loops c d right → StmtFacts nested loops a d (stmts.If test left right)
  if_facts nested loops a b c d test left right first same f g =
      let x : Stmt-F Stmt = Stmt-F.If test left right in
      let y = all_quiet (map is_quiet left) in
      let z = all_quiet (map is_quiet right) in
      let sent = sent_and l part.step true b.sent c.sent d.sent y z (DirectBlock left) (DirectBlock right) (λ us. Unit {0}) (λ us vs p q. tt) f.1 g.1 in
      subst (StmtFacts nested loops a d) (stmts.rolls-If test left right)
      (rolled_facts nested loops a d x (
        acted_and states part.part a b d _ _ _ _ _ _ first (acted_and states part.part b c d _ _ _ _ _ _ f.0 g.0),
        within_facts nested a d left x (y && z) (λ us. Unit {0}) (λ h. h)
            (λ h. let p = and_parts y z h in
            record { directly = both (list_all is_quiet left) (list_all is_quiet right) (sym (quiet_all left) ∙ p.0) (sym (quiet_all right) ∙ p.1); ranged = refl; counts = λ p q is. refl })
            (subst (λ s. SentHere true s d.sent (y && z) (λ us. Unit {0})) same sent),
      ))

  for_facts : (nested : Bool) (loops : List Span) (name : Span) (a b c : Notes) (low high : ℤ) (block : List Stmt) → Goes a b → length loops < 32 →
      BlockFacts true (length (loops ++ name ∷ [])) b c block → StmtFacts nested (length loops) a c (stmts.For (narrow8 (length loops)) low high block)
  for_facts nested loops name a b c low high block goes deep f =
      let k = length loops in
      let x : Stmt-F Stmt = Stmt-F.For (narrow8 k) low high block in
      let y = all_quiet (map is_quiet block) in
      let slot : narrow8 k ≡ k = omega (arith, deep) in
      let head : (narrow8 k == k) ≡ true = eq-eqb (narrow8 k) k slot in
      let few_loops : nat_lt k 32 ≡ true = lt-ltb k 32 deep in
      let inner = all_in (map (stmt_in_range states value_count) block) in
      let g = subst (λ m. ActedHere b c (inner m) (any_of (map stmt_reads block)) (any_of (map stmt_writes block))) (length_more loops name) f.0 in
      let acted = acted_and states part.part a b c true (inner (suc k)) (λ range. false) (any_of (map stmt_reads block)) (λ range. false) (any_of (map stmt_writes block)) (acted_goes states part.part a b goes) g in
      subst (StmtFacts nested k a c) (stmts.rolls-For (narrow8 k) low high block)
      (rolled_facts nested k a c x (
        acted_as states part.part a c (inner (suc k)) (narrow8 k == k && (nat_lt k 32 && inner (suc k))) _ _ _ _
            (λ h. both (narrow8 k == k) (nat_lt k 32 && inner (suc k)) head (both (nat_lt k 32) (inner (suc k)) few_loops h)) (λ range h. h) (λ range h. h) acted,
        within_facts nested a c block x y (DirectBlock block) (λ h. h) (λ h. record { directly = sym (quiet_all block) ∙ h; ranged = refl; counts = λ p q is. refl })
            (subst (λ s. SentHere true s c.sent y (DirectBlock block)) goes.sent f.1),
      ))

  -- ---- trees of statements

  abbrev ClaimOf : Spelling → w.Within → p.Within Stmt → Type 0
  ClaimOf f g m = (loops : List Span) (o : ℕ) → length loops ≤ o → shallow (f o) ≡ true → (nested : Bool) (a : Notes) → (g loops nested a).found ≡ nothing →
      StmtFacts nested (length loops) a (g loops nested a) (m loops)

  -- a block opens a level
  abbrev BlockClaimOf : Spelling → w.Within → p.Within (List Stmt) → Type 0
  BlockClaimOf f g m = (loops : List Span) (o : ℕ) → length loops ≤ suc o → shallow (f o) ≡ true →
      (suc o ≤ 32) × ((nested : Bool) (a : Notes) → (g loops nested a).found ≡ nothing → BlockFacts nested (length loops) a (g loops nested a) (m loops))

  abbrev StmtClaim : StmtDecl → Type 0
  StmtClaim x = ClaimOf (s.stmt_spelling x) (w.stmt_walked text names table part params x) (p.stmt_planned text names table params x)

  abbrev pub BlockClaim : Block → Type 0
  BlockClaim b = BlockClaimOf (s.block_spelling b) (w.block_walked text names table part params b) (p.block_planned text names table params b)

  abbrev Stmts : Type 0
  Stmts = (x : StmtDecl) × StmtClaim x

  abbrev Blocks : Type 0
  Blocks = (b : Block) × BlockClaim b

  abbrev spelled : StmtDecl-F StmtDecl Block → Spelling
  spelled x = s.stmt_step (tree.map-StmtDecl StmtDecl Block Spelling Spelling s.stmt_spelling s.block_spelling x)

  abbrev walked : StmtDecl-F StmtDecl Block → w.Within
  walked x = w.stmt_step text names table part params (tree.map-StmtDecl StmtDecl Block w.Within w.Within (w.stmt_walked text names table part params) (w.block_walked text names table part params) x)

  abbrev planned : StmtDecl-F StmtDecl Block → p.Within Stmt
  planned x = p.stmt_step text names table params (tree.map-StmtDecl StmtDecl Block (p.Within Stmt) (p.Within (List Stmt)) (p.stmt_planned text names table params) (p.block_planned text names table params) x)

  abbrev StmtLayer : StmtDecl-F StmtDecl Block → Type 0
  StmtLayer x = ClaimOf (spelled x) (walked x) (planned x)

  abbrev BlockLayer : Block-F StmtDecl Block → Type 0
  BlockLayer x = BlockClaimOf (s.block_step (tree.map-Block StmtDecl Block Spelling Spelling s.stmt_spelling s.block_spelling x))
      (w.block_step text names table part params (tree.map-Block StmtDecl Block w.Within w.Within (w.stmt_walked text names table part params) (w.block_walked text names table part params) x))
      (p.block_step text names table params (tree.map-Block StmtDecl Block (p.Within Stmt) (p.Within (List Stmt)) (p.stmt_planned text names table params) (p.block_planned text names table params) x))

  count_same : (loops : List Span) (es : List ExprDecl) → length (map (value_planned text table params loops) es) ≡ length es
  count_same loops [] = refl
  count_same loops (e ∷ more) = ap suc (count_same loops more)

  values_are : (loops : List Span) (v : Values) → map (value_planned text table params loops) (v.first ∷ v.others) ≡ values_planned text table params loops v
  unfolding value_planned values_planned
  values_are loops v = refl

  loop_goes : (loops : List Span) (name : Span) (a : Notes) → (w.loop_walked text table params loops name a).found ≡ nothing → Goes a (w.loop_walked text table params loops name a)
  unfolding w.loop_walked
  loop_goes loops name a h =
      let fault = fault_if (is_some (lookup table (bytes_at text name)) || is_local text params loops name) (faults.Twice name.at) in
      let second = (noted_goes fault (noted (name_fault name) a) h).0 in
      goes_on a (noted (name_fault name) a) (noted fault (noted (name_fault name) a)) (noted_goes (name_fault name) a second.found).0 second

  -- a test and its first block
  test_acted : (loops : List Span) (test : ExprDecl) (a : Notes) → (w.operand_walked text table part params loops test a).found ≡ nothing →
      ActedHere a (w.operand_walked text table part params loops test a) (value_in_range states value_count (length loops) (value_planned text table params loops test)) (reads (value_planned text table params loops test)) (λ range. false)
      × ((w.operand_walked text table part params loops test a).sent ≡ a.sent)
  test_acted loops test a h =
      (acted_good states part.part (w.operand_walked text table part params loops test) a _ _ (value_good loops test) h, ((value_good loops test).goes a h).sent)

  send_stmt : (nested : Bool) (loops : List Span) (at : ℕ) (array name : Span) (v : Values) (a : Notes) (k : ℕ) (sent : List Expr) →
      map (value_planned text table params loops) (v.first ∷ v.others) ≡ sent → length (map (value_planned text table params loops) (v.first ∷ v.others)) ≡ k →
      (w.values_walked text table part params loops v (w.send_walked text names part at nested k array name a)).found ≡ nothing →
      StmtFacts nested (length loops) a (w.values_walked text table part params loops v (w.send_walked text names part at nested k array name a)) (stmts.Send (entry_meant (member text names array name)) sent)
  send_stmt nested loops at array name v a k sent is count =
      subst (λ n. (w.values_walked text table part params loops v (w.send_walked text names part at nested n array name a)).found ≡ nothing →
      StmtFacts nested (length loops) a (w.values_walked text table part params loops v (w.send_walked text names part at nested n array name a)) (stmts.Send (entry_meant (member text names array name)) sent)) count
      (subst (λ es. (w.values_walked text table part params loops v (w.send_walked text names part at nested (length here) array name a)).found ≡ nothing →
      StmtFacts nested (length loops) a (w.values_walked text table part params loops v (w.send_walked text names part at nested (length here) array name a)) (stmts.Send (entry_meant (member text names array name)) es)) is
      whole)
    where
      here : List Expr
      here = map (value_planned text table params loops) (v.first ∷ v.others)

      whole : (w.values_walked text table part params loops v (w.send_walked text names part at nested (length here) array name a)).found ≡ nothing →
          StmtFacts nested (length loops) a (w.values_walked text table part params loops v (w.send_walked text names part at nested (length here) array name a)) (stmts.Send (entry_meant (member text names array name)) here)
      whole h =
          let id = entry_meant (member text names array name) in
          let b = w.send_walked text names part at nested (length here) array name a in
          let x : Stmt-F Stmt = Stmt-F.Send id here in
          subst (StmtFacts nested (length loops) a (w.values_walked text table part params loops v b)) (stmts.rolls-Send id here)
          (rolled_facts nested (length loops) a (w.values_walked text table part params loops v b) x
          (sent_and_values nested (length loops) a b (w.values_walked text table part params loops v) x _ _ (send_facts nested at array name here a) (values_good loops (v.first ∷ v.others)) h))

  contribute_stmt : (nested : Bool) (loops : List Span) (at : ℕ) (name : Span) (value : ExprDecl) (a : Notes) →
      (w.operand_walked text table part params loops value (w.contribute_walked text table part at nested name a)).found ≡ nothing →
      StmtFacts nested (length loops) a (w.operand_walked text table part params loops value (w.contribute_walked text table part at nested name a))
      (stmts.Contribute (reduction_meant (lookup table (bytes_at text name))) (value_planned text table params loops value))
  contribute_stmt nested loops at name value a h =
      let id = reduction_meant (lookup table (bytes_at text name)) in
      let e = value_planned text table params loops value in
      let b = w.contribute_walked text table part at nested name a in
      let x : Stmt-F Stmt = Stmt-F.Contribute id e in
      subst (StmtFacts nested (length loops) a (w.operand_walked text table part params loops value b)) (stmts.rolls-Contribute id e)
      (rolled_facts nested (length loops) a (w.operand_walked text table part params loops value b) x
      (sent_and_values nested (length loops) a b (w.operand_walked text table part params loops value) x _ _ (contribute_facts nested at name e a) (value_good loops value) h))

  stmt_layer : (y : StmtDecl-F Stmts Blocks) → StmtLayer (tree.map-StmtDecl Stmts Blocks StmtDecl Block (λ x. x.0) (λ b. b.0) y)
  stmt_layer (StmtDecl-F.Assign target index value) loops o less deep nested a h = assign_facts nested loops a target index value h
  stmt_layer (StmtDecl-F.If at test block None) loops o less deep nested a h =
      let v = w.operand_walked text table part params loops test a in
      let c = w.block_walked text names table part params block.0 loops true v in
      let levels = all_parts (λ word. nat_le (level_of word) 32) (s.block_spelling block.0 o) [] (all_parts (λ word. nat_le (level_of word) 32) (s.expr_spelling test o) (s.block_spelling block.0 o ++ []) deep).1 in
      let first = (block.1 loops o (omega (arith, less)) levels.0).1 true v h in
      let head = test_acted loops test a first.0.found in
      if_facts nested (length loops) a v c c (value_planned text table params loops test) (p.block_planned text names table params block.0 loops) [] head.0 head.1 first (block_none true (length loops) c h)
  stmt_layer (StmtDecl-F.If at test block (Some other)) loops o less deep nested a h =
      let v = w.operand_walked text table part params loops test a in
      let c = w.block_walked text names table part params block.0 loops true v in
      let d = w.block_walked text names table part params other.0 loops true c in
      let behind = s.else_spelling (s.block_spelling other.0) o in
      let levels = all_parts (λ word. nat_le (level_of word) 32) (s.block_spelling block.0 o) behind (all_parts (λ word. nat_le (level_of word) 32) (s.expr_spelling test o) (s.block_spelling block.0 o ++ behind) deep).1 in
      let second = (other.1 loops o (omega (arith, less)) levels.1).1 true c h in
      let first = (block.1 loops o (omega (arith, less)) levels.0).1 true v second.0.found in
      let head = test_acted loops test a first.0.found in
      if_facts nested (length loops) a v c d (value_planned text table params loops test) (p.block_planned text names table params block.0 loops) (p.block_planned text names table params other.0 loops) head.0 head.1 first second
  stmt_layer (StmtDecl-F.For at name low high block) loops o less deep nested a h =
      let b = w.loop_walked text table params loops name a in
      let inner = loops ++ name ∷ [] in
      let c = w.block_walked text names table part params block.0 inner true b in
      let behind_low = s.signed_spelling high o ++ s.block_spelling block.0 o in
      let levels = all_parts (λ word. nat_le (level_of word) 32) (s.signed_spelling high o) (s.block_spelling block.0 o) (all_parts (λ word. nat_le (level_of word) 32) (s.signed_spelling low o) (s.mark marks.DotDot ∷ behind_low) deep).1 in
      let count = length_more loops name in
      let claim = block.1 inner o (omega (arith, less, count)) levels.1 in
      let facts = claim.1 true b h in
      for_facts nested loops name a b c (signed64 low) (signed64 high) (p.block_planned text names table params block.0 inner) (loop_goes loops name a facts.0.found) (omega (arith, less, claim.0)) facts
  stmt_layer (StmtDecl-F.Send at array entry values) loops o less deep nested a h =
      send_stmt nested loops at array entry values a (w.count_values values) (values_planned text table params loops values) (values_are loops values) (count_same loops (values.first ∷ values.others)) h
  stmt_layer (StmtDecl-F.Contribute at name value) loops o less deep nested a h = contribute_stmt nested loops at name value a h

  each_facts : (xs : List Stmts) (loops : List Span) (o : ℕ) → length loops ≤ o → shallow (joined o (map s.stmt_spelling (map (λ x. x.0) xs))) ≡ true → (nested : Bool) (a : Notes) →
      (w.each_walked (map (w.stmt_walked text names table part params) (map (λ x. x.0) xs)) loops nested a).found ≡ nothing →
      BlockFacts nested (length loops) a (w.each_walked (map (w.stmt_walked text names table part params) (map (λ x. x.0) xs)) loops nested a)
      (p.each_planned (map (p.stmt_planned text names table params) (map (λ x. x.0) xs)) loops)
  each_facts [] loops o less deep nested a h = block_none nested (length loops) a h
  each_facts (x ∷ xs) loops o less deep nested a h =
      let rest = joined o (map s.stmt_spelling (map (λ (z : Stmts). z.0) xs)) in
      let levels = all_parts (λ word. nat_le (level_of word) 32) (s.stmt_spelling x.0 o) rest deep in
      let b = w.stmt_walked text names table part params x.0 loops nested a in
      let others = each_facts xs loops o less levels.1 nested b h in
      block_more nested (length loops) a b _ (p.stmt_planned text names table params x.0 loops) (p.each_planned (map (p.stmt_planned text names table params) (map (λ (z : Stmts). z.0) xs)) loops)
      (x.1 loops o less levels.0 nested a others.0.found) others

  block_layer : (y : Block-F Stmts Blocks) → BlockLayer (tree.map-Block Stmts Blocks StmtDecl Block (λ x. x.0) (λ b. b.0) y)
  block_layer y loops o less deep =
      let inner = joined (suc o) (map s.stmt_spelling (map (λ (z : Stmts). z.0) y.statements)) in
      let opened = and_parts (nat_le (suc o) 32) (shallow (inner ++ s.mark marks.CloseBrace ∷ [])) deep in
      let levels = all_parts (λ word. nat_le (level_of word) 32) inner (s.mark marks.CloseBrace ∷ []) opened.1 in
      (leb-true (suc o) 32 opened.0, λ nested a h. each_facts y.statements loops (suc o) less levels.0 nested a h)

  whole_stmt : (x : StmtDecl-F StmtDecl Block) → StmtLayer x → StmtClaim (roll-StmtDecl x)
  whole_stmt x h =
      subst (λ f. ClaimOf f (w.stmt_walked text names table part params (roll-StmtDecl x)) (p.stmt_planned text names table params (roll-StmtDecl x))) (sym (tree.fold-roll-StmtDecl Spelling Spelling s.stmt_step s.block_step x))
      (subst (λ g. ClaimOf (spelled x) g (p.stmt_planned text names table params (roll-StmtDecl x))) (sym (tree.fold-roll-StmtDecl w.Within w.Within (w.stmt_step text names table part params) (w.block_step text names table part params) x))
      (subst (λ m. ClaimOf (spelled x) (walked x) m) (sym (tree.fold-roll-StmtDecl (p.Within Stmt) (p.Within (List Stmt)) (p.stmt_step text names table params) (p.block_step text names table params) x)) h))

  whole_block : (x : Block-F StmtDecl Block) → BlockLayer x → BlockClaim (roll-Block x)
  whole_block x h =
      subst (λ f. BlockClaimOf f (w.block_walked text names table part params (roll-Block x)) (p.block_planned text names table params (roll-Block x))) (sym (tree.fold-roll-Block Spelling Spelling s.stmt_step s.block_step x))
      (subst (λ g. BlockClaimOf (s.block_step (tree.map-Block StmtDecl Block Spelling Spelling s.stmt_spelling s.block_spelling x)) g (p.block_planned text names table params (roll-Block x)))
      (sym (tree.fold-roll-Block w.Within w.Within (w.stmt_step text names table part params) (w.block_step text names table part params) x))
      (subst (λ m. BlockClaimOf (s.block_step (tree.map-Block StmtDecl Block Spelling Spelling s.stmt_spelling s.block_spelling x))
      (w.block_step text names table part params (tree.map-Block StmtDecl Block w.Within w.Within (w.stmt_walked text names table part params) (w.block_walked text names table part params) x)) m)
      (sym (tree.fold-roll-Block (p.Within Stmt) (p.Within (List Stmt)) (p.stmt_step text names table params) (p.block_step text names table params) x)) h))

  -- a block that breaks no rule
  pub block_claim : (b : Block) → BlockClaim b
  block_claim = tree.ind-Block StmtClaim BlockClaim (λ x y is. whole_stmt x (subst StmtLayer is (stmt_layer y))) (λ x y is. whole_block x (subst BlockLayer is (block_layer y)))
