-- What a block does depends on the cells that it uses alone, and changes those alone that it writes.
use Rattle.std.proofs.Common.{◌≡◌, ℕ, zero, suc, ◌+◌, ◌≤◌, ℤ, pos, negsuc, ◌-ℤ◌, ◌+ℤ◌, Bool, true, false, List, [], ◌∷◌, length, map, ◌++◌, refl, ap, sym, ◌∙◌, subst, arith}
use Rattle.std.specs.Prelude.{◌||◌, FitsSigned, if◌then◌else◌, nat_lt, slice_get, slice_set, replicate}
use Rattle.std.specs.Int.{w64, int_wrap}
use Rattle.std.specs.List.{AllByRecursion}
use Rattle.std.proofs.lemmas.Bool.{ltb-true, or_parts}
use Rattle.std.proofs.lemmas.Int.{SFits-int_wrap}
use Rattle.std.proofs.lemmas.List.{length-set}
use Rattle.chare_base.specs.declared.expression.Expr.{Expr}
use Rattle.chare_base.specs.declared.message.EntryId.{EntryId}
use Rattle.chare_base.specs.declared.message.ReductionId.{ReductionId}
use Rattle.chare_base.specs.declared.plan.Plan.{Plan}
use Rattle.chare_base.specs.declared.plan.Stmt.{Stmt, roll-Stmt, out-Stmt}
use Rattle.chare_base.specs.declared.plan.Stmt.TheOpen.{Stmt-F}
use Rattle.chare_base.specs.declared.plan.Stmt.TheFolds.{fold-roll-Stmt, fold_out-Stmt, map-Stmt, ind-Stmt}
use Rattle.chare_base.specs.Costs.{numbers_below}
use Rattle.chare_base.specs.Entries.{target_of}
use Rattle.chare_base.specs.Uses.{Cells, any_of, range_of, meet, one, reads, stmt_reads, stmt_writes, stmt_reads_step, stmt_writes_step, uses, writes}
use Rattle.chare_eval.specs.declared.effects.Outgoing.{Outgoing}
use Rattle.chare_eval.specs.declared.effects.Outgoing.TheVariants.{Contribution}
use Rattle.chare_eval.specs.declared.value.Computed.{Computed}
use Rattle.chare_eval.specs.declared.value.Scene.{Scene}
use Rattle.chare_eval.specs.Value.{is_true, least_kind, value_of}
use Rattle.chare_eval.specs.Block.{Run, Act, Top, Filled, Done, act, chosen, written, written_in, with_slip, with_loop, in_order, turns, computed, stmt_step, filled_from, filled_of, payload_of, parcels, with_act, with_sent, top_step, top_acts, block_does}
use Rattle.chare_eval.proofs.Computing.{Set, Within, Alike, left_true, right_true, first_in, second_in, met, met_one, least_few, value_tame}

-- ---- writes

get_set : (xs ys : List ℤ) (at i : ℕ) (w : ℤ) → length xs ≡ length ys → slice_get xs i ≡ slice_get ys i → slice_get (slice_set xs at w) i ≡ slice_get (slice_set ys at w) i
get_set [] [] at i w n h = refl
get_set [] (y ∷ ys) at i w n h = absurd (let e : 0 ≡ suc (length ys) = n in omega (arith, e))
get_set (x ∷ xs) [] at i w n h = absurd (let e : suc (length xs) ≡ 0 = n in omega (arith, e))
get_set (x ∷ xs) (y ∷ ys) zero zero w n h = refl
get_set (x ∷ xs) (y ∷ ys) zero (suc i) w n h = h
get_set (x ∷ xs) (y ∷ ys) (suc at) zero w n h = h
get_set (x ∷ xs) (y ∷ ys) (suc at) (suc i) w n h = get_set xs ys at i w (let e : suc (length xs) ≡ suc (length ys) = n in omega (arith, e)) h

set_other : (xs : List ℤ) (at i : ℕ) (w : ℤ) → (at ≡ i → ⊥) → slice_get (slice_set xs at w) i ≡ slice_get xs i
set_other [] at i w h = refl
set_other (x ∷ xs) zero zero w h = absurd (h refl)
set_other (x ∷ xs) zero (suc i) w h = refl
set_other (x ∷ xs) (suc at) zero w h = refl
set_other (x ∷ xs) (suc at) (suc i) w h = set_other xs at i w (λ e. h (ap suc e))

-- ---- numbers of 64 bits

-- all these numbers are of 64 bits
abbrev pub AllFit : List ℤ → Type 0
AllFit xs = AllByRecursion (FitsSigned w64) xs

-- one of 64 bits in the place of another
pub set_fits : (xs : List ℤ) (at : ℕ) (v : ℤ) → AllFit xs → FitsSigned w64 v → AllFit (slice_set xs at v)
set_fits [] at v h f = tt
set_fits (x ∷ xs) zero v h f = (f, h.1)
set_fits (x ∷ xs) (suc at) v h f = (h.0, set_fits xs at v h.1 f)

-- ---- what is said of an act

-- two runs that are alike on a set
record Pair (u : Set) (a b : Run) : Type 0 where
  scene : a.scene ≡ b.scene
  slip : a.slip ≡ b.slip
  cells : Alike u a.cells b.cells

-- what isn't written stays, and there are as many cells
record Kept (c : Cells) (a b : Run) : Type 0 where
  len : length b.cells ≡ length a.cells
  at : (i : ℕ) → c (one i) ≡ false → slice_get b.cells i ≡ slice_get a.cells i

-- an act goes by the cells of any set that holds those it reads
abbrev Goes : Set → Act → Type 0
Goes u f = (a b : Run) → Pair u a b → Pair u (f a) (f b)

abbrev Keeps : Cells → Act → Type 0
Keeps c f = (a : Run) → Kept c a (f a)

-- slips stay of a kind that there is
abbrev Few : Act → Type 0
Few f = (a : Run) → a.slip ≤ 3 → (f a).slip ≤ 3

-- cells stay numbers of 64 bits
abbrev Fits : Act → Type 0
Fits f = (a : Run) → AllFit a.cells → AllFit (f a).cells

record Acts (f : Act) (read written : Cells) : Type 0 where
  goes : (u : Set) → Within read u → Goes u f
  keeps : Keeps written f
  few : Few f
  fits : Fits f

kept : (c : Cells) (a : Run) → Kept c a a
kept c a = record { len = refl; at = λ i e. refl }

kept_both : (c d : Cells) (x y z : Run) → Kept c x y → Kept d y z → Kept (λ r. c r || d r) x z
kept_both c d x y z p q = record {
  len = q.len ∙ p.len;
  at = λ i e. let none = or_parts (c (one i)) (d (one i)) e in q.at i none.1 ∙ p.at i none.0;
}

kept_same : (c : Cells) (x y z : Run) → Kept c x y → Kept c y z → Kept c x z
kept_same c x y z p q = record { len = q.len ∙ p.len; at = λ i e. q.at i e ∙ p.at i e }

-- ---- slips and loops' variables

slip_goes : (u : Set) (k : ℕ) → Goes u (with_slip k)
slip_goes u k a b p = record { scene = p.scene; slip = ap (λ s. least_kind s k) p.slip; cells = p.cells }

loop_goes : (u : Set) (slot : ℕ) (i : ℤ) → Goes u (with_loop slot i)
loop_goes u slot i a b p = record { scene = ap (λ (s : Scene). record s { loops = slice_set s.loops slot i }) p.scene; slip = p.slip; cells = p.cells }

slip_few : (k : ℕ) → k ≤ 3 → Few (with_slip k)
slip_few k h a few = least_few a.slip k few h

abbrev three : 3 ≤ 3
three = omega arith

-- ---- what is computed

computed_same : (u : Set) (e : Expr) (a b : Run) → Pair u a b → Within (reads e) u → computed e a ≡ computed e b
computed_same u e a b p h = ap (λ s. value_of e s a.cells) p.scene ∙ (value_tame e).same u b.scene a.cells b.cells p.cells h

computed_few : (e : Expr) (a : Run) → (computed e a).slip ≤ 3
computed_few e a = (value_tame e).few a.scene a.cells

-- the same act, where what it is made from is alike
by_value : (u : Set) (f : Computed → Act) (v w : Computed) → v ≡ w → ((x : Computed) → Goes u (f x)) → (a b : Run) → Pair u a b → Pair u (f v a) (f w b)
by_value u f v w e h a b p = subst (λ x. Pair u (f v a) (f x b)) e (h v a b p)

-- ---- cells written

written_goes : (u : Set) (at : ℕ) (w : Computed) → Goes u (written at w)
written_goes u at w a b p = record {
  scene = p.scene;
  slip =
      ap (λ s. if nat_lt at (length a.cells) then least_kind s w.slip else least_kind (least_kind s w.slip) 3) p.slip
      ∙ ap (λ n. if nat_lt at n then least_kind b.slip w.slip else least_kind (least_kind b.slip w.slip) 3) p.cells.len;
  cells = record {
    len = length-set a.cells at (int_wrap w64 w.value) ∙ p.cells.len ∙ sym (length-set b.cells at (int_wrap w64 w.value));
    at = λ i e. get_set a.cells b.cells at i (int_wrap w64 w.value) p.cells.len (p.cells.at i e);
  };
}

written_few : (at : ℕ) (w : Computed) → w.slip ≤ 3 → Few (written at w)
written_few at w h a few = by_test (nat_lt at (length a.cells))
  where
    by_test : (b : Bool) → (if b then least_kind a.slip w.slip else least_kind (least_kind a.slip w.slip) 3) ≤ 3
    by_test true = least_few a.slip w.slip few h
    by_test false = least_few (least_kind a.slip w.slip) 3 (least_few a.slip w.slip few h) three

abbrev spot : ℕ → ℕ → Computed → Bool → Act
spot at i w d a = if d then written (at + i) w a else with_slip 3 (with_slip w.slip a)

within_goes : (u : Set) (at i : ℕ) (w : Computed) (d : Bool) → Goes u (spot at i w d)
within_goes u at i w true a b p = written_goes u (at + i) w a b p
within_goes u at i w false a b p = slip_goes u 3 (with_slip w.slip a) (with_slip w.slip b) (slip_goes u w.slip a b p)

place_goes : (u : Set) (at count : ℕ) (place : ℤ) (w : Computed) → Goes u (written_in at count place w)
place_goes u at count (pos i) w a b p = within_goes u at i w (nat_lt i count) a b p
place_goes u at count (negsuc i) w a b p = slip_goes u 3 (with_slip w.slip a) (with_slip w.slip b) (slip_goes u w.slip a b p)

set_keeps : (at : ℕ) (w : Computed) → Keeps (λ r. meet r (range_of at 1)) (written at w)
set_keeps at w a = record {
  len = length-set a.cells at (int_wrap w64 w.value);
  at = λ i e. set_other a.cells at i (int_wrap w64 w.value) (λ is. let c : true ≡ false = sym (met_one at) ∙ ap (λ n. meet (one n) (range_of at 1)) is ∙ e in cc);
}

within_keeps : (at count j : ℕ) (w : Computed) (d : Bool) → nat_lt j count ≡ d → (a : Run) → Kept (λ r. meet r (range_of at count)) a (spot at j w d a)
within_keeps at count j w true e a = record {
  len = length-set a.cells (at + j) (int_wrap w64 w.value);
  at = λ i f. set_other a.cells (at + j) i (int_wrap w64 w.value) (λ is. let c : true ≡ false = sym (met at count j (ltb-true j count e)) ∙ ap (λ n. meet (one n) (range_of at count)) is ∙ f in cc);
}
within_keeps at count j w false e a = record { len = refl; at = λ i f. refl }

place_keeps : (at count : ℕ) (place : ℤ) (w : Computed) → Keeps (λ r. meet r (range_of at count)) (written_in at count place w)
place_keeps at count (pos j) w a = within_keeps at count j w (nat_lt j count) refl a
place_keeps at count (negsuc j) w a = record { len = refl; at = λ i f. refl }

within_few : (at i : ℕ) (w : Computed) (d : Bool) → w.slip ≤ 3 → Few (spot at i w d)
within_few at i w true h a few = written_few (at + i) w h a few
within_few at i w false h a few = slip_few 3 three (with_slip w.slip a) (slip_few w.slip h a few)

place_few : (at count : ℕ) (place : ℤ) (w : Computed) → w.slip ≤ 3 → Few (written_in at count place w)
place_few at count (pos i) w h a few = within_few at i w (nat_lt i count) h a few
place_few at count (negsuc i) w h a few = slip_few 3 three (with_slip w.slip a) (slip_few w.slip h a few)

written_fits : (at : ℕ) (w : Computed) → Fits (written at w)
written_fits at w a fit = set_fits a.cells at (int_wrap w64 w.value) fit (SFits-int_wrap w64 w.value)

within_fits : (at i : ℕ) (w : Computed) (d : Bool) → Fits (spot at i w d)
within_fits at i w true a fit = written_fits (at + i) w a fit
within_fits at i w false a fit = fit

place_fits : (at count : ℕ) (place : ℤ) (w : Computed) → Fits (written_in at count place w)
place_fits at count (pos i) w a fit = within_fits at i w (nat_lt i count) a fit
place_fits at count (negsuc i) w a fit = fit

set_acts : (at : ℕ) (e : Expr) → Acts (λ a. written at (computed e a) a) (reads e) (λ r. meet r (range_of at 1))
set_acts at e = record {
  goes = λ u h a b p. by_value u (written at) (computed e a) (computed e b) (computed_same u e a b p h) (written_goes u at) a b p;
  keeps = λ a. set_keeps at (computed e a) a;
  few = λ a few. written_few at (computed e a) (computed_few e a) a few;
  fits = λ a fit. written_fits at (computed e a) a fit;
}

set_at_acts : (at count : ℕ) (place e : Expr) →
    Acts (λ a. written_in at count (computed place a).value (computed e a) (with_slip (computed place a).slip a)) (λ r. reads place r || reads e r) (λ r. meet r (range_of at count))
set_at_acts at count place e = record {
  goes = λ u h a b p.
      let first = computed_same u place a b p (first_in (reads place) (reads e) u h) in
      let second = computed_same u e a b p (second_in (reads place) (reads e) u h) in
      subst (λ x. Pair u (written_in at count (computed place a).value (computed e a) (with_slip (computed place a).slip a)) (written_in at count (computed place b).value x (with_slip (computed place b).slip b))) second
      (by_value u (λ w r. written_in at count w.value (computed e a) (with_slip w.slip r)) (computed place a) (computed place b) first
      (λ w c d q. place_goes u at count w.value (computed e a) (with_slip w.slip c) (with_slip w.slip d) (slip_goes u w.slip c d q)) a b p);
  keeps = λ a.
      let k = place_keeps at count (computed place a).value (computed e a) (with_slip (computed place a).slip a) in
      record { len = k.len; at = k.at };
  few = λ a few. place_few at count (computed place a).value (computed e a) (computed_few e a) (with_slip (computed place a).slip a) (slip_few (computed place a).slip (computed_few place a) a few);
  fits = λ a fit. place_fits at count (computed place a).value (computed e a) (with_slip (computed place a).slip a) fit;
}

-- ---- branches and loops

branch_goes : (u : Set) (d : Bool) (f g : Act) → Goes u f → Goes u g → Goes u (λ r. if d then f r else g r)
branch_goes u true f g hf hg a b p = hf a b p
branch_goes u false f g hf hg a b p = hg a b p

branch_keeps : (c d : Cells) (t : Bool) (f g : Act) → Keeps c f → Keeps d g → Keeps (λ r. c r || d r) (λ r. if t then f r else g r)
branch_keeps c d true f g hf hg a = kept_both c d a (f a) (f a) (hf a) (kept d (f a))
branch_keeps c d false f g hf hg a = kept_both c d a a (g a) (kept c a) (hg a)

branch_few : (d : Bool) (f g : Act) → Few f → Few g → Few (λ r. if d then f r else g r)
branch_few true f g hf hg a few = hf a few
branch_few false f g hf hg a few = hg a few

branch_fits : (d : Bool) (f g : Act) → Fits f → Fits g → Fits (λ r. if d then f r else g r)
branch_fits true f g hf hg a fit = hf a fit
branch_fits false f g hf hg a fit = hg a fit

if_acts : (test : Expr) (f g : Act) (rf wf rg wg : Cells) → Acts f rf wf → Acts g rg wg →
    Acts (λ a. chosen (computed test a) f g a) (λ r. reads test r || (rf r || rg r)) (λ r. wf r || wg r)
if_acts test f g rf wf rg wg hf hg = record {
  goes = λ u h a b p.
      let inner = second_in (reads test) (λ r. rf r || rg r) u h in
      by_value u (λ w. chosen w f g) (computed test a) (computed test b) (computed_same u test a b p (first_in (reads test) (λ r. rf r || rg r) u h))
      (λ w c d q. branch_goes u (is_true w.value) f g (hf.goes u (first_in rf rg u inner)) (hg.goes u (second_in rf rg u inner)) (with_slip w.slip c) (with_slip w.slip d) (slip_goes u w.slip c d q)) a b p;
  keeps = λ a.
      let k = branch_keeps wf wg (is_true (computed test a).value) f g hf.keeps hg.keeps (with_slip (computed test a).slip a) in
      record { len = k.len; at = k.at };
  few = λ a few. branch_few (is_true (computed test a).value) f g hf.few hg.few (with_slip (computed test a).slip a) (slip_few (computed test a).slip (computed_few test a) a few);
  fits = λ a fit. branch_fits (is_true (computed test a).value) f g hf.fits hg.fits (with_slip (computed test a).slip a) fit;
}

turns_go : (u : Set) (n : ℕ) (i : ℤ) (slot : ℕ) (block : Act) → Goes u block → Goes u (turns n i slot block)
turns_go u zero i slot block h a b p = p
turns_go u (suc n) i slot block h a b p =
    turns_go u n (i +ℤ pos 1) slot block h (block (with_loop slot i a)) (block (with_loop slot i b)) (h (with_loop slot i a) (with_loop slot i b) (loop_goes u slot i a b p))

turns_keep : (c : Cells) (n : ℕ) (i : ℤ) (slot : ℕ) (block : Act) → Keeps c block → Keeps c (turns n i slot block)
turns_keep c zero i slot block h a = kept c a
turns_keep c (suc n) i slot block h a =
    let k = h (with_loop slot i a) in
    kept_same c a (block (with_loop slot i a)) (turns n (i +ℤ pos 1) slot block (block (with_loop slot i a))) (record { len = k.len; at = k.at }) (turns_keep c n (i +ℤ pos 1) slot block h (block (with_loop slot i a)))

turns_few : (n : ℕ) (i : ℤ) (slot : ℕ) (block : Act) → Few block → Few (turns n i slot block)
turns_few zero i slot block h a few = few
turns_few (suc n) i slot block h a few = turns_few n (i +ℤ pos 1) slot block h (block (with_loop slot i a)) (h (with_loop slot i a) few)

turns_fit : (n : ℕ) (i : ℤ) (slot : ℕ) (block : Act) → Fits block → Fits (turns n i slot block)
turns_fit zero i slot block h a fit = fit
turns_fit (suc n) i slot block h a fit = turns_fit n (i +ℤ pos 1) slot block h (block (with_loop slot i a)) (h (with_loop slot i a) fit)

for_acts : (n : ℕ) (i : ℤ) (slot : ℕ) (block : Act) (r w : Cells) → Acts block r w → Acts (turns n i slot block) r w
for_acts n i slot block r w h = record {
  goes = λ u within. turns_go u n i slot block (h.goes u within);
  keeps = turns_keep w n i slot block h.keeps;
  few = turns_few n i slot block h.few;
  fits = turns_fit n i slot block h.fits;
}

idle_acts : (r : Cells) → Acts (λ a. a) r (λ range. false)
idle_acts r = record { goes = λ u h a b p. p; keeps = λ a. kept (λ range. false) a; few = λ a few. few; fits = λ a fit. fit }

-- ---- statements

abbrev StmtActs : Stmt → Type 0
StmtActs s = Acts (act s) (stmt_reads s) (stmt_writes s)

abbrev Stmts : Type 0
Stmts = List ((s : Stmt) × StmtActs s)

abbrev stmts : Stmts → List Stmt
stmts xs = map (λ s. s.0) xs

order_acts : (xs : Stmts) → Acts (in_order (map act (stmts xs))) (any_of (map stmt_reads (stmts xs))) (any_of (map stmt_writes (stmts xs)))
order_acts [] = record { goes = λ u h a b p. p; keeps = λ a. kept (any_of []) a; few = λ a few. few; fits = λ a fit. fit }
order_acts (x ∷ xs) =
    let more = order_acts xs in
    record {
      goes = λ u h a b p.
          more.goes u (second_in (stmt_reads x.0) (any_of (map stmt_reads (stmts xs))) u h) (act x.0 a) (act x.0 b)
          (x.1.goes u (first_in (stmt_reads x.0) (any_of (map stmt_reads (stmts xs))) u h) a b p);
      keeps = λ a.
          kept_both (stmt_writes x.0) (any_of (map stmt_writes (stmts xs))) a (act x.0 a) (in_order (map act (stmts xs)) (act x.0 a)) (x.1.keeps a) (more.keeps (act x.0 a));
      few = λ a few. more.few (act x.0 a) (x.1.few a few);
      fits = λ a fit. more.fits (act x.0 a) (x.1.fits a fit);
    }

abbrev StmtLayer : Stmt-F Stmt → Type 0
StmtLayer x = Acts (stmt_step (map-Stmt Stmt Act act x)) (stmt_reads_step (map-Stmt Stmt Cells stmt_reads x)) (stmt_writes_step (map-Stmt Stmt Cells stmt_writes x))

stmt_layer : (y : Stmt-F ((s : Stmt) × StmtActs s)) → StmtLayer (map-Stmt ((s : Stmt) × StmtActs s) Stmt (λ s. s.0) y)
stmt_layer (Stmt-F.Set at e) = set_acts at e
stmt_layer (Stmt-F.SetAt at count place e) = set_at_acts at count place e
stmt_layer (Stmt-F.If test f g) =
    if_acts test (in_order (map act (stmts f))) (in_order (map act (stmts g))) (any_of (map stmt_reads (stmts f))) (any_of (map stmt_writes (stmts f)))
    (any_of (map stmt_reads (stmts g))) (any_of (map stmt_writes (stmts g))) (order_acts f) (order_acts g)
stmt_layer (Stmt-F.For slot low high block) =
    for_acts (numbers_below (high -ℤ low)) low slot (in_order (map act (stmts block))) (any_of (map stmt_reads (stmts block))) (any_of (map stmt_writes (stmts block))) (order_acts block)
stmt_layer (Stmt-F.Send entry values) = idle_acts (any_of (map reads values))
stmt_layer (Stmt-F.Contribute reduction value) = idle_acts (reads value)

stmt_whole : (x : Stmt-F Stmt) → StmtLayer x → StmtActs (roll-Stmt x)
stmt_whole x t =
    subst (λ f. Acts f (stmt_reads (roll-Stmt x)) (stmt_writes (roll-Stmt x))) (sym (fold-roll-Stmt Act stmt_step x))
    (subst (λ r. Acts (stmt_step (map-Stmt Stmt Act act x)) r (stmt_writes (roll-Stmt x))) (sym (fold-roll-Stmt Cells stmt_reads_step x))
    (subst (Acts (stmt_step (map-Stmt Stmt Act act x)) (stmt_reads_step (map-Stmt Stmt Cells stmt_reads x))) (sym (fold-roll-Stmt Cells stmt_writes_step x)) t))

stmt_acts : (s : Stmt) → StmtActs s
stmt_acts = ind-Stmt StmtActs (λ x y is. stmt_whole x (subst StmtLayer is (stmt_layer y)))

-- ---- with what is sent

filled_same : (u : Set) (es : List Expr) (i : ℕ) (a b : Run) (f : Filled) → Pair u a b → Within (any_of (map reads es)) u → filled_from i es a f ≡ filled_from i es b f
filled_same u [] i a b f p h = refl
filled_same u (e ∷ es) i a b f p h =
    ap (λ (w : Computed). filled_from (suc i) es a (record { values = slice_set f.values i w.value; slip = least_kind f.slip w.slip })) (computed_same u e a b p (first_in (reads e) (any_of (map reads es)) u h))
    ∙ filled_same u es (suc i) a b (record { values = slice_set f.values i (computed e b).value; slip = least_kind f.slip (computed e b).slip }) p (second_in (reads e) (any_of (map reads es)) u h)

filled_few : (es : List Expr) (i : ℕ) (a : Run) (f : Filled) → f.slip ≤ 3 → (filled_from i es a f).slip ≤ 3
filled_few [] i a f few = few
filled_few (e ∷ es) i a f few =
    filled_few es (suc i) a (record { values = slice_set f.values i (computed e a).value; slip = least_kind f.slip (computed e a).slip }) (least_few f.slip (computed e a).slip few (computed_few e a))

record Tops (u : Set) (a b : Top) : Type 0 where
  run : Pair u a.run b.run
  sent : a.sent ≡ b.sent

sent_goes : (u : Set) (slip slip' : ℕ) (more more' : List Outgoing) (a b : Top) → slip ≡ slip' → more ≡ more' → Tops u a b → Tops u (with_sent slip more a) (with_sent slip' more' b)
sent_goes u slip slip' more more' a b e f p = record {
  run = record { scene = p.run.scene; slip = e; cells = p.run.cells };
  sent = ap (λ l. l ++ more) p.sent ∙ ap (λ l. b.sent ++ l) f;
}

-- what is said of the step of a statement in a block
record Steps (f : Top → Top) (read written : Cells) : Type 0 where
  goes : (u : Set) → Within read u → (a b : Top) → Tops u a b → Tops u (f a) (f b)
  keeps : (t : Top) → Kept written t.run (f t).run
  few : (t : Top) → t.run.slip ≤ 3 → (f t).run.slip ≤ 3
  fits : (t : Top) → AllFit t.run.cells → AllFit (f t).run.cells

module _ (p : Plan) (e : ℕ) where
  act_steps : (s : Stmt) → Steps (with_act s) (stmt_reads s) (stmt_writes s)
  act_steps s =
      let h = stmt_acts s in
      record {
        goes = λ u within a b q. record { run = h.goes u within a.run b.run q.run; sent = q.sent };
        keeps = λ t. h.keeps t.run;
        few = λ t few. h.few t.run few;
        fits = λ t fit. h.fits t.run fit;
      }

  send_steps : (entry : EntryId) (values : List Expr) (w : Cells) →
      Steps (λ t. with_sent (filled_of values t.run).slip (parcels entry (target_of p entry.0 e) (payload_of values (filled_of values t.run))) t) (any_of (map reads values)) w
  send_steps entry values w = record {
    goes = λ u within a b q.
        let same : filled_of values a.run ≡ filled_of values b.run =
        ap (λ n. filled_from 0 values a.run (record { values = replicate 8 (pos 0); slip = n })) q.run.slip
        ∙ filled_same u values 0 a.run b.run (record { values = replicate 8 (pos 0); slip = b.run.slip }) q.run within in
        sent_goes u (filled_of values a.run).slip (filled_of values b.run).slip (parcels entry (target_of p entry.0 e) (payload_of values (filled_of values a.run)))
        (parcels entry (target_of p entry.0 e) (payload_of values (filled_of values b.run))) a b
        (ap (λ (f : Filled). f.slip) same) (ap (λ f. parcels entry (target_of p entry.0 e) (payload_of values f)) same) q;
    keeps = λ t. record { len = refl; at = λ i h. refl };
    few = λ t few. filled_few values 0 t.run (record { values = replicate 8 (pos 0); slip = t.run.slip }) few;
    fits = λ t fit. fit;
  }

  contribute_steps : (reduction : ReductionId) (value : Expr) (w : Cells) →
      Steps (λ t. with_sent (least_kind t.run.slip (computed value t.run).slip) (Contribution reduction (computed value t.run).value ∷ []) t) (reads value) w
  contribute_steps reduction value w = record {
    goes = λ u within a b q.
        let same = computed_same u value a.run b.run q.run within in
        sent_goes u (least_kind a.run.slip (computed value a.run).slip) (least_kind b.run.slip (computed value b.run).slip)
        (Contribution reduction (computed value a.run).value ∷ []) (Contribution reduction (computed value b.run).value ∷ []) a b
        (ap (λ n. least_kind n (computed value a.run).slip) q.run.slip ∙ ap (λ (c : Computed). least_kind b.run.slip c.slip) same)
        (ap (λ (c : Computed). Contribution reduction c.value ∷ []) same) q;
    keeps = λ t. record { len = refl; at = λ i h. refl };
    few = λ t few. least_few t.run.slip (computed value t.run).slip few (computed_few value t.run);
    fits = λ t fit. fit;
  }

  by_kind : (s : Stmt) (y : Stmt-F Stmt) → stmt_reads s ≡ stmt_reads_step (map-Stmt Stmt Cells stmt_reads y) → Steps (top_step p e s y) (stmt_reads s) (stmt_writes s)
  by_kind s (Stmt-F.Set at value) is = act_steps s
  by_kind s (Stmt-F.SetAt at count place value) is = act_steps s
  by_kind s (Stmt-F.If test f k) is = act_steps s
  by_kind s (Stmt-F.For slot low high block) is = act_steps s
  by_kind s (Stmt-F.Send entry values) is = subst (λ r. Steps (top_step p e s (Stmt-F.Send entry values)) r (stmt_writes s)) (sym is) (send_steps entry values (stmt_writes s))
  by_kind s (Stmt-F.Contribute reduction value) is =
      subst (λ r. Steps (top_step p e s (Stmt-F.Contribute reduction value)) r (stmt_writes s)) (sym is) (contribute_steps reduction value (stmt_writes s))

  stmt_steps : (s : Stmt) → Steps (top_step p e s (out-Stmt s)) (stmt_reads s) (stmt_writes s)
  stmt_steps s = by_kind s (out-Stmt s) (fold_out-Stmt Cells stmt_reads_step s)

  block_steps : (block : List Stmt) → Steps (top_acts p e block) (any_of (map stmt_reads block)) (writes block)
  block_steps [] = record { goes = λ u h a b q. q; keeps = λ t. kept (writes []) t.run; few = λ t few. few; fits = λ t fit. fit }
  block_steps (s ∷ more) =
      let first = stmt_steps s in
      let rest = block_steps more in
      record {
        goes = λ u h a b q.
            rest.goes u (second_in (stmt_reads s) (any_of (map stmt_reads more)) u h) (top_step p e s (out-Stmt s) a) (top_step p e s (out-Stmt s) b)
            (first.goes u (first_in (stmt_reads s) (any_of (map stmt_reads more)) u h) a b q);
        keeps = λ t.
            kept_both (stmt_writes s) (writes more) t.run (top_step p e s (out-Stmt s) t).run (top_acts p e more (top_step p e s (out-Stmt s) t)).run (first.keeps t) (rest.keeps (top_step p e s (out-Stmt s) t));
        few = λ t few. rest.few (top_step p e s (out-Stmt s) t) (first.few t few);
        fits = λ t fit. rest.fits (top_step p e s (out-Stmt s) t) (first.fits t fit);
      }

-- ---- blocks

-- the same does of two lists
pub record Agree (used : Set) (does : List ℤ → Done) (xs ys : List ℤ) : Type 0 where
  pub kind : (does xs).kind ≡ (does ys).kind
  pub sent : (does xs).sent ≡ (does ys).sent
  pub numbers : Alike used (does xs).numbers (does ys).numbers

-- a part goes by what it uses alone, and changes what it writes alone
pub record Framed (does : List ℤ → Done) (used written : Set) : Type 0 where
  pub written_is_used : (i : ℕ) → written i ≡ true → used i ≡ true
  pub len : (xs : List ℤ) → length (does xs).numbers ≡ length xs
  pub keeps : (xs : List ℤ) (i : ℕ) → written i ≡ false → slice_get (does xs).numbers i ≡ slice_get xs i
  pub local : (xs ys : List ℤ) → Alike used xs ys → Agree used does xs ys
  pub few : (xs : List ℤ) → (does xs).kind ≤ 3
  pub fits : (xs : List ℤ) → AllFit xs → AllFit (does xs).numbers

abbrev start : Scene → List ℤ → Top
start scene xs = record { run = record { scene = scene; cells = xs; slip = 0 }; sent = [] }

pub block_framed : (p : Plan) (e : ℕ) (block : List Stmt) (scene : Scene) → Framed (block_does p e block scene) (λ i. uses block (one i)) (λ i. writes block (one i))
block_framed p e block scene =
    let steps = block_steps p e block in
    record {
      written_is_used = λ i h. right_true (any_of (map stmt_reads block) (one i)) (writes block (one i)) h;
      len = λ xs. (steps.keeps (start scene xs)).len;
      keeps = λ xs i h. (steps.keeps (start scene xs)).at i h;
      local = λ xs ys alike.
          let q = steps.goes (λ i. uses block (one i)) (λ i h. left_true (any_of (map stmt_reads block) (one i)) (writes block (one i)) h) (start scene xs) (start scene ys)
          (record { run = record { scene = refl; slip = refl; cells = alike }; sent = refl }) in
          record { kind = q.run.slip; sent = q.sent; numbers = q.run.cells };
      few = λ xs. steps.few (start scene xs) (omega arith);
      fits = λ xs fit. steps.fits (start scene xs) fit;
    }
