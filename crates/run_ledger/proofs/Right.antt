-- Records of a run whose script makes no wrong states that look alike.
use Rattle.std.proofs.Common.{◌≡◌, ℕ, ◌≤◌, Bool, true, false, List, [], ◌∷◌, refl, ap, sym, ◌∙◌, arith, Option, Some, None}
use Rattle.std.specs.Prelude.{◌==◌, ◌&&◌, ◌||◌, map, nat_le, nat_lt}
use Rattle.std.specs.List.{AllByRecursion, filter, list_any}
use Rattle.std.proofs.lemmas.Bool.{leb-true}
use Rattle.chare_base.specs.declared.options.Mode.TheVariants.{Strong}
use Rattle.chare_base.specs.declared.options.Options.{Options}
use Rattle.chare_base.specs.declared.plan.Plan.{Plan}
use Rattle.chare_base.specs.declared.slots.SlotId.{SlotId}
use Rattle.chare_base.specs.Flip.{Flip}
use Rattle.chare_eval.specs.Fold.{fold, plain}
use Rattle.chare_eval.specs.Laws.{EarlierFlipsDecide, flips_before}
use Rattle.pup_state.specs.Spelling.{pack}
use Rattle.fault_script.specs.declared.fault.Fault.{Fault}
use Rattle.fault_script.specs.declared.fault.Fault.TheVariants as faults
use Rattle.fault_script.specs.Lines.{flips_among, selection, set_of}
use Rattle.run_ledger.specs.declared.line.LedgerLine.{LedgerLine}
use Rattle.run_ledger.specs.declared.record.Record.{Record}
use Rattle.run_ledger.specs.declared.record.Record.TheVariants.{Accept, Differ, Crash, Mend, Adopt, Both, NoSpare, Lost, Done}
use Rattle.run_ledger.specs.Checkpoints.{EqualCheckpointsAreOfEqualFolds}
use Rattle.run_ledger.specs.Lines.{accepted, adopted, crash_at, fault_of, flip_spent, flips_where, fresh_line, is_based, is_flip_below, is_flip_of, is_live, shapes, spent_at}
use Rattle.run_ledger.specs.Ledgers.{LedgerState, after, base_flips, lineage, opening_ledger, with_crash}
use Rattle.run_ledger.specs.Lawful.{Allows, StepsFrom, checkpoint}
use Rattle.run_ledger.specs.Laws.{AllSettled, Settled, Tidy}
use Rattle.run_ledger.specs.Apart.{AdoptsUnstruck, AllRight, AllUnstruck, Apart, RecordsAreRight, Right, StrongRecordsAreRight, flips_on, is_live_below}
use Rattle.run_ledger.proofs.Allowed.{accept_bounds, adopt_bounds, done_base, strong_adopts_none}
use Rattle.chare_eval.proofs.Later.{later}
use Rattle.run_ledger.proofs.Following.{faults_stay, stays_tidy}
use Rattle.run_ledger.proofs.Lineages.{Alike, BaseMoves, accepted_moves, adopted_moves, alike, alive, base_part, before_is, below, flips_at, from_is, later_alike, live_alike, none_where, sets_select, twice_filtered}
use Rattle.run_ledger.proofs.Spending.{flips_less, less_based, less_faults, spent_less}

-- a ledger whose base is the fault-free state
pub record Told (p : Plan) (script : List Fault) (l : LedgerState) : Type 0 where
  pub iterations : l.iterations ≡ p.iterations
  pub faults : map fault_of l.lines ≡ script
  pub tidy : Tidy l
  pub base : fold p (base_flips l) l.base ≡ plain p l.base

-- ---- flips that no base has yet

-- no flip of the base is at the base or later
based_one : (base : ℕ) (f : Fault) (live based : Bool) → Settled base f live based → Alike (nat_le base) f based false
based_one base (faults.Crash slot at) live based s = tt
based_one base (faults.Flip q e c m at) live false s = λ h. refl
based_one base (faults.Flip q e c m at) live true s = λ h. absurd (omega (arith, s.1 refl, leb-true base at h))

based_alike : (base : ℕ) (lines : List LedgerLine) → AllSettled base lines → AllByRecursion (λ (line : LedgerLine). Alike (nat_le base) line.fault (is_based line) false) lines
based_alike base [] s = tt
based_alike base (line ∷ more) s = (based_one base line.fault line.live line.based s.0, based_alike base more s.1)

-- where no live flip of a replica is below an iteration, its lineage has the base's flips alone there
unstruck_one : (k r : ℕ) (f : Fault) (live based : Bool) → (live && (is_flip_of r f && is_flip_below k f)) ≡ false → Alike (below k) f (based || (live && is_flip_of r f)) based
unstruck_one k r (faults.Crash slot at) live based h = tt
unstruck_one k r (faults.Flip q e c m at) live true h = λ t. refl
unstruck_one k r (faults.Flip q e c m at) false false h = λ t. refl
unstruck_one k r (faults.Flip q e c m at) true false h = λ t. by (q == r) (nat_lt at k) t h
  where
    by : (a b : Bool) → b ≡ true → (a && b) ≡ false → a ≡ false
    by true true t h = h
    by true false t h = absurd cc
    by false b t h = refl

none_live : (b c : Bool) → (b || c) ≡ false → (b ≡ false) × (c ≡ false)
none_live true c h = absurd cc
none_live false c h = (refl, h)

unstruck_alike : (k r : ℕ) (lines : List LedgerLine) → list_any (is_live_below r k) lines ≡ false → AllByRecursion (λ (line : LedgerLine). Alike (below k) line.fault (shapes r line) (is_based line)) lines
unstruck_alike k r [] h = tt
unstruck_alike k r (line ∷ more) h =
    let parts = none_live (is_live_below r k line) (list_any (is_live_below r k) more) h in
    (unstruck_one k r line.fault line.live line.based parts.0, unstruck_alike k r more parts.1)

module _ (earlier : EarlierFlipsDecide) (p : Plan) (script : List Fault) where
  -- only the flips before it matter to a state
  same_before : (a b : List Flip) (k : ℕ) → flips_before k a ≡ flips_before k b → fold p a k ≡ fold p b k
  same_before a b k same = earlier p a k ∙ ap (λ xs. fold p xs k) same ∙ sym (earlier p b k)

  lineage_base : (l : LedgerState) → Told p script l → (r : ℕ) → fold p (lineage r l) l.base ≡ plain p l.base
  lineage_base l told r =
      same_before (lineage r l) (base_flips l) l.base (base_part l.base r l.lines told.tidy ∙ sym (before_is l.base (base_flips l))) ∙ told.base

  live_base : (l : LedgerState) → Told p script l → (r : ℕ) → fold p (flips_where (alive r) l.lines) l.base ≡ plain p l.base
  live_base l told r =
      same_before (flips_where (alive r) l.lines) [] l.base
      (before_is l.base (flips_where (alive r) l.lines)
      ∙ alike (below l.base) (alive r) (λ line. false) l.lines (live_alike l.base r l.lines told.tidy)
      ∙ ap (flips_at (below l.base)) (none_where l.lines))

  -- a lineage makes what its live flips make
  as_live : (l : LedgerState) → Told p script l → (r k : ℕ) → l.base ≤ k → fold p (lineage r l) k ≡ fold p (flips_where (alive r) l.lines) k
  as_live l told r k h =
      later p (lineage r l) (flips_where (alive r) l.lines) l.base k h
      (from_is l.base (lineage r l) ∙ alike (nat_le l.base) (shapes r) (alive r) l.lines (later_alike l.base r l.lines told.tidy) ∙ sym (from_is l.base (flips_where (alive r) l.lines)))
      (lineage_base l told r ∙ sym (live_base l told r))

  -- the live flips of a replica are a set of the script's
  as_set : (l : LedgerState) → Told p script l → (r : ℕ) → flips_on r script (set_of is_live l.lines) ≡ flips_where (alive r) l.lines
  as_set l told r =
      ap (λ s. flips_among (filter (is_flip_of r) (selection s (set_of is_live l.lines)))) (sym told.faults)
      ∙ ap (λ fs. flips_among (filter (is_flip_of r) fs)) (sets_select l.lines is_live)
      ∙ ap flips_among (twice_filtered l.lines is_live (is_flip_of r))

  -- equal checkpoints are the fault-free one
  agreed : Apart p script → (l : LedgerState) → Told p script l → (k : ℕ) → l.base ≤ k → k ≤ p.iterations → checkpoint p l 0 k ≡ checkpoint p l 1 k → checkpoint p l 0 k ≡ pack p k (plain p k)
  agreed apart l told k h within same =
      let a : fold p (lineage 0 l) k ≡ fold p (flips_on 0 script (set_of is_live l.lines)) k = as_live l told 0 k h ∙ ap (λ xs. fold p xs k) (sym (as_set l told 0)) in
      let b : fold p (lineage 1 l) k ≡ fold p (flips_on 1 script (set_of is_live l.lines)) k = as_live l told 1 k h ∙ ap (λ xs. fold p xs k) (sym (as_set l told 1)) in
      ap (pack p k) a ∙ apart (set_of is_live l.lines) (set_of is_live l.lines) k within (ap (pack p k) (sym a) ∙ same ∙ ap (pack p k) b)

  -- a replica that wasn't struck since the base has the fault-free state
  unstruck : (l : LedgerState) → Told p script l → (r k : ℕ) → l.base ≤ k → list_any (is_live_below r k) l.lines ≡ false → fold p (lineage r l) k ≡ plain p k
  unstruck l told r k h none =
      same_before (lineage r l) (base_flips l) k
      (before_is k (lineage r l) ∙ alike (below k) (shapes r) is_based l.lines (unstruck_alike k r l.lines none) ∙ sym (before_is k (base_flips l)))
      ∙ later p (base_flips l) [] l.base k h
      (from_is l.base (base_flips l) ∙ alike (nat_le l.base) is_based (λ line. false) l.lines (based_alike l.base l.lines told.tidy) ∙ ap (flips_at (nat_le l.base)) (none_where l.lines))
      told.base

  -- ---- states from checkpoints

  state_told : EqualCheckpointsAreOfEqualFolds → (l : LedgerState) (r k : ℕ) → k ≤ p.iterations → checkpoint p l r k ≡ pack p k (plain p k) → fold p (lineage r l) k ≡ plain p k
  state_told equal l r k h same = equal p (lineage r l) [] k h same

  -- ---- what a record makes of the ledger

  -- a new base
  moved_told : (f : LedgerLine → LedgerLine) (l new : LedgerState) (k from : ℕ) → Told p script l → BaseMoves f k from → new.iterations ≡ l.iterations → new.base ≡ k → new.lines ≡ map f l.lines → Tidy new →
      map fault_of new.lines ≡ map fault_of l.lines → fold p (lineage from l) k ≡ plain p k → Told p script new
  moved_told f l new k from told moves n b is tidy faults right =
      let rows : base_flips new ≡ flips_before k (lineage from l) = ap (flips_where is_based) is ∙ moves.base l.lines ∙ sym (before_is k (lineage from l)) in
      record {
        iterations = n ∙ told.iterations;
        faults = faults ∙ told.faults;
        tidy = tidy;
        base = ap (λ i. fold p (base_flips new) i) b ∙ ap (λ xs. fold p xs k) rows ∙ sym (earlier p (lineage from l) k) ∙ right ∙ ap (plain p) (sym b);
      }

  -- the same base
  kept_told : (l new : LedgerState) → Told p script l → new.iterations ≡ l.iterations → new.base ≡ l.base → base_flips new ≡ base_flips l → Tidy new → map fault_of new.lines ≡ map fault_of l.lines → Told p script new
  kept_told l new told n b same tidy faults = record {
    iterations = n ∙ told.iterations;
    faults = faults ∙ told.faults;
    tidy = tidy;
    base = ap (λ k. fold p (base_flips new) k) b ∙ ap (λ xs. fold p xs l.base) same ∙ told.base ∙ ap (plain p) (sym b);
  }

  crash_told : (l : LedgerState) (line : ℕ) → Told p script l → Tidy (after l (Crash line)) → Told p script (after l (Crash line))
  crash_told l line told tidy = by (crash_at l.lines line) tidy
    where
      by : (o : Option SlotId) → Tidy (with_crash line o l) → Told p script (with_crash line o l)
      by None tidy = told
      by (Some slot) tidy =
          kept_told l (with_crash line (Some slot) l) told refl refl (less_based l.lines (spent_at line l.lines) (spent_less l.lines line)) tidy (less_faults l.lines (spent_at line l.lines) (spent_less l.lines line))

  after_told : EqualCheckpointsAreOfEqualFolds → Apart p script → (l : LedgerState) (r : Record) → Told p script l → Allows p l r → AdoptsUnstruck l r → Told p script (after l r)
  after_told equal apart l r told ok quiet = by r ok quiet (stays_tidy.after l r ok.lawful told.tidy) (faults_stay.after l r)
    where
      by : (r : Record) → Allows p l r → AdoptsUnstruck l r → Tidy (after l r) → map fault_of (after l r).lines ≡ map fault_of l.lines → Told p script (after l r)
      by (Accept k) ok quiet tidy faults =
          let b = accept_bounds l k ok.lawful in
          let within : k ≤ p.iterations = omega (arith, b.1, told.iterations) in
          moved_told (accepted k) l (after l (Accept k)) k 0 told (accepted_moves k) refl refl refl tidy faults
          (state_told equal l 0 k within (agreed apart l told k (omega (arith, b.0)) within ok.tells))
      by (Adopt k from) ok quiet tidy faults =
          moved_told (adopted k from) l (after l (Adopt k from)) k from told (adopted_moves k from) refl refl refl tidy faults
          (unstruck l told from k (adopt_bounds l k from ok.lawful).0 quiet)
      by (Differ k element) ok quiet tidy faults = kept_told l (after l (Differ k element)) told refl refl (less_based l.lines (map (flip_spent k) l.lines) (flips_less k l.lines)) tidy faults
      by (Crash line) ok quiet tidy faults = crash_told l line told tidy
      by (Mend replica) ok quiet tidy faults = kept_told l (after l (Mend replica)) told refl refl refl tidy faults
      by Both ok quiet tidy faults = kept_told l (after l Both) told refl refl refl tidy faults
      by NoSpare ok quiet tidy faults = kept_told l (after l NoSpare) told refl refl refl tidy faults
      by (Lost node) ok quiet tidy faults = kept_told l (after l (Lost node)) told refl refl refl tidy faults
      by Done ok quiet tidy faults = kept_told l (after l Done) told refl refl refl tidy faults

  right_now : Apart p script → (l : LedgerState) (r : Record) → Told p script l → Allows p l r → AdoptsUnstruck l r → Right p l r
  right_now apart l (Accept k) told ok quiet =
      let b = accept_bounds l k ok.lawful in
      agreed apart l told k (omega (arith, b.0)) (omega (arith, b.1, told.iterations)) ok.tells
  right_now apart l (Adopt k from) told ok quiet = ap (pack p k) (unstruck l told from k (adopt_bounds l k from ok.lawful).0 quiet)
  right_now apart l (Differ k element) told ok quiet = tt
  right_now apart l (Crash line) told ok quiet = tt
  right_now apart l (Mend replica) told ok quiet = tt
  right_now apart l Both told ok quiet = tt
  right_now apart l NoSpare told ok quiet = tt
  right_now apart l (Lost node) told ok quiet = tt
  right_now apart l Done told ok quiet =
      let at : l.base ≡ p.iterations = done_base l ok.lawful ∙ told.iterations in
      ap (fold p (base_flips l)) (sym at) ∙ told.base ∙ ap (plain p) at

  all_right : EqualCheckpointsAreOfEqualFolds → Apart p script → (l : LedgerState) (records : List Record) → Told p script l → AllUnstruck l records → StepsFrom p l records → AllRight p l records
  all_right equal apart l [] told quiet steps = tt
  all_right equal apart l (r ∷ more) told quiet steps =
      (right_now apart l r told steps.0 quiet.0, all_right equal apart (after l r) more (after_told equal apart l r told steps.0 quiet.0) quiet.1 steps.1)

-- ---- the start

fresh_based : (script : List Fault) → flips_where is_based (map fresh_line script) ≡ []
fresh_based [] = refl
fresh_based (f ∷ more) = fresh_based more

pub records_right : EarlierFlipsDecide → EqualCheckpointsAreOfEqualFolds → RecordsAreRight
records_right earlier equal p script o records apart quiet steps =
    all_right earlier p script equal apart (opening_ledger script o p.iterations) records
    (record { iterations = refl; faults = faults_stay.opening script o p.iterations; tidy = stays_tidy.opening script o p.iterations; base = ap (λ xs. fold p xs 0) (fresh_based script) }) quiet steps

-- in strong mode
strong_one : (p : Plan) (l : LedgerState) (r : Record) → l.options.mode ≡ Strong → Allows p l r → AdoptsUnstruck l r
strong_one p l (Accept k) strong ok = tt
strong_one p l (Differ k element) strong ok = tt
strong_one p l (Crash line) strong ok = tt
strong_one p l (Mend replica) strong ok = tt
strong_one p l (Adopt k from) strong ok = absurd (strong_adopts_none l k from strong ok.lawful)
strong_one p l Both strong ok = tt
strong_one p l NoSpare strong ok = tt
strong_one p l (Lost node) strong ok = tt
strong_one p l Done strong ok = tt

same_options : (l : LedgerState) (r : Record) → (after l r).options ≡ l.options
same_options l (Accept k) = refl
same_options l (Differ k element) = refl
same_options l (Crash line) = by (crash_at l.lines line)
  where
    by : (o : Option SlotId) → (with_crash line o l).options ≡ l.options
    by None = refl
    by (Some slot) = refl
same_options l (Mend replica) = refl
same_options l (Adopt k from) = refl
same_options l Both = refl
same_options l NoSpare = refl
same_options l (Lost node) = refl
same_options l Done = refl

strong_all : (p : Plan) (l : LedgerState) (records : List Record) → l.options.mode ≡ Strong → StepsFrom p l records → AllUnstruck l records
strong_all p l [] strong steps = tt
strong_all p l (r ∷ more) strong steps =
    (strong_one p l r strong steps.0, strong_all p (after l r) more (ap (λ (o : Options). o.mode) (same_options l r) ∙ strong) steps.1)

pub strong_right : EarlierFlipsDecide → EqualCheckpointsAreOfEqualFolds → StrongRecordsAreRight
strong_right earlier equal p script o records strong apart steps =
    records_right earlier equal p script o records apart (strong_all p (opening_ledger script o p.iterations) records strong steps) steps
