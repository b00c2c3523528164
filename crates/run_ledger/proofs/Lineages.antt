-- The flips that tests select from a ledger's lines.
use Rattle.std.proofs.Common.{◌≡◌, ℕ, ◌+◌, ◌*◌, ◌/◌, ◌%◌, ◌<◌, ◌≤◌, Bool, true, false, cond, List, [], ◌∷◌, refl, ap, sym, ◌∙◌, arith, subst}
use Rattle.std.specs.Prelude.{◌==◌, ◌&&◌, ◌||◌, map, nat_le, nat_lt}
use Rattle.std.specs.List.{AllByRecursion, filter}
use Rattle.std.proofs.lemmas.Bool.{ltb-true, ltb-false, leb-true}
use Rattle.chare_base.specs.declared.plan.ElementId.{ElementId}
use Rattle.chare_base.specs.Flip.{Flip}
use Rattle.chare_eval.specs.Laws.{flips_before}
use Rattle.fault_script.specs.declared.fault.Fault.{Fault}
use Rattle.fault_script.specs.declared.fault.Fault.TheVariants as faults
use Rattle.fault_script.specs.Lines.{flips_among, selection, set_of, with_flip_of}
use Rattle.run_ledger.specs.declared.line.LedgerLine.{LedgerLine}
use Rattle.chare_eval.specs.Later.{flips_from}
use Rattle.run_ledger.specs.Lines.{accepted, adopted, fault_of, flips_where, is_based, is_below, is_flip_below, is_flip_of, rebased, shapes, spent_line}
use Rattle.run_ledger.specs.Laws.{AllSettled, Settled}

-- ---- sets

abbrev bit : Bool → ℕ
bit b = cond b 1 0

selected_next : (x : Fault) (more : List Fault) (b : Bool) (s : ℕ) → selection (x ∷ more) (bit b + 2 * s) ≡ cond b (x ∷ selection more s) (selection more s)
selected_next x more true s =
    let odd : (1 + 2 * s) % 2 ≡ 1 = omega arith in
    let half : (1 + 2 * s) / 2 ≡ s = omega arith in
    ap (λ m. cond (m == 1) (x ∷ selection more ((1 + 2 * s) / 2)) (selection more ((1 + 2 * s) / 2))) odd ∙ ap (λ h. x ∷ selection more h) half
selected_next x more false s =
    let even : (0 + 2 * s) % 2 ≡ 0 = omega arith in
    let half : (0 + 2 * s) / 2 ≡ s = omega arith in
    ap (λ m. cond (m == 1) (x ∷ selection more ((0 + 2 * s) / 2)) (selection more ((0 + 2 * s) / 2))) even ∙ ap (λ h. selection more h) half

-- the set of those that pass a test selects them
pub sets_select : (lines : List LedgerLine) (test : LedgerLine → Bool) → selection (map fault_of lines) (set_of test lines) ≡ map fault_of (filter test lines)
sets_select [] test = refl
sets_select (line ∷ more) test = selected_next line.fault (map fault_of more) (test line) (set_of test more) ∙ by (test line) (sets_select more test)
  where
    by : (b : Bool) → selection (map fault_of more) (set_of test more) ≡ map fault_of (filter test more) →
        cond b (line.fault ∷ selection (map fault_of more) (set_of test more)) (selection (map fault_of more) (set_of test more)) ≡ map fault_of (cond b (line ∷ filter test more) (filter test more))
    by true is = ap (λ xs. line.fault ∷ xs) is
    by false is = is

-- the empty set selects nothing
pub none_selected : (script : List Fault) → selection script 0 ≡ []
none_selected [] = refl
none_selected (f ∷ more) = none_selected more

-- a test after a test
pub twice_filtered : (lines : List LedgerLine) (test : LedgerLine → Bool) (which : Fault → Bool) →
    filter which (map fault_of (filter test lines)) ≡ map fault_of (filter (λ line. test line && which line.fault) lines)
twice_filtered [] test which = refl
twice_filtered (line ∷ more) test which = by (test line) (which line.fault) refl (twice_filtered more test which)
  where
    rest : List Fault
    rest = filter which (map fault_of (filter test more))

    by : (a b : Bool) → which line.fault ≡ b → filter which (map fault_of (filter test more)) ≡ map fault_of (filter (λ line. test line && which line.fault) more) →
        filter which (map fault_of (cond a (line ∷ filter test more) (filter test more)))
        ≡ map fault_of (cond (a && b) (line ∷ filter (λ line. test line && which line.fault) more) (filter (λ line. test line && which line.fault) more))
    by false b h is = is
    by true true h is = ap (λ c. cond c (line.fault ∷ filter which (map fault_of (filter test more))) (filter which (map fault_of (filter test more)))) h ∙ ap (λ xs. line.fault ∷ xs) is
    by true false h is = ap (λ c. cond c (line.fault ∷ filter which (map fault_of (filter test more))) (filter which (map fault_of (filter test more)))) h ∙ is

-- ---- one line more

-- a flip, if it is taken
abbrev pub put : Bool → Fault → List Flip → List Flip
put b f xs = cond b (with_flip_of f xs) xs

pub where_next : (test : LedgerLine → Bool) (line : LedgerLine) (more : List LedgerLine) → flips_where test (line ∷ more) ≡ put (test line) line.fault (flips_where test more)
where_next test line more = by (test line)
  where
    by : (b : Bool) → flips_among (map fault_of (cond b (line ∷ filter test more) (filter test more))) ≡ put b line.fault (flips_where test more)
    by true = refl
    by false = refl

-- the flips at some iterations
abbrev pub flips_at : (ℕ → Bool) → List Flip → List Flip
flips_at g [] = []
flips_at g (f ∷ more) = cond (g f.at) (f ∷ flips_at g more) (flips_at g more)

abbrev pub below : ℕ → ℕ → Bool
below k at = nat_lt at k

pub from_is : (k : ℕ) (xs : List Flip) → flips_from k xs ≡ flips_at (nat_le k) xs
from_is k [] = refl
from_is k (f ∷ more) = ap (λ z. cond (nat_le k f.at) (f ∷ z) z) (from_is k more)

pub before_is : (k : ℕ) (xs : List Flip) → flips_before k xs ≡ flips_at (below k) xs
before_is k [] = refl
before_is k (f ∷ more) = ap (λ z. cond (nat_lt f.at k) (f ∷ z) z) (before_is k more)

-- two tests that agree on the flips at those iterations
abbrev pub Alike : (ℕ → Bool) → Fault → Bool → Bool → Type 0
Alike g (faults.Flip r e c m at) a b = g at ≡ true → a ≡ b
Alike g (faults.Crash slot at) a b = Unit {0}

pub one_alike : (g : ℕ → Bool) (f : Fault) (a b : Bool) (xs ys : List Flip) → Alike g f a b → flips_at g xs ≡ flips_at g ys → flips_at g (put a f xs) ≡ flips_at g (put b f ys)
one_alike g (faults.Crash slot at) true true xs ys h is = is
one_alike g (faults.Crash slot at) true false xs ys h is = is
one_alike g (faults.Crash slot at) false true xs ys h is = is
one_alike g (faults.Crash slot at) false false xs ys h is = is
one_alike g (faults.Flip r e c m at) true true xs ys h is = ap (λ z. cond (g at) (record { element = e.0; cell = c; mask = m; at = at } ∷ z) z) is
one_alike g (faults.Flip r e c m at) false false xs ys h is = is
one_alike g (faults.Flip r e c m at) true false xs ys h is = by (g at) refl
  where
    by : (b : Bool) → g at ≡ b → cond b (record { element = e.0; cell = c; mask = m; at = at } ∷ flips_at g xs) (flips_at g xs) ≡ flips_at g ys
    by true t = absurd (let q : true ≡ false = h t in cc)
    by false t = is
one_alike g (faults.Flip r e c m at) false true xs ys h is = by (g at) refl
  where
    by : (b : Bool) → g at ≡ b → flips_at g xs ≡ cond b (record { element = e.0; cell = c; mask = m; at = at } ∷ flips_at g ys) (flips_at g ys)
    by true t = absurd (let q : false ≡ true = h t in cc)
    by false t = is

pub alike : (g : ℕ → Bool) (t u : LedgerLine → Bool) (lines : List LedgerLine) → AllByRecursion (λ (line : LedgerLine). Alike g line.fault (t line) (u line)) lines →
    flips_at g (flips_where t lines) ≡ flips_at g (flips_where u lines)
alike g t u [] h = refl
alike g t u (line ∷ more) h =
    ap (flips_at g) (where_next t line more) ∙ one_alike g line.fault (t line) (u line) (flips_where t more) (flips_where u more) h.0 (alike g t u more h.1)
    ∙ ap (flips_at g) (sym (where_next u line more))

pub none_where : (lines : List LedgerLine) → flips_where (λ line. false) lines ≡ []
none_where [] = refl
none_where (line ∷ more) = none_where more

-- twice is once
pub at_twice : (g : ℕ → Bool) (xs : List Flip) → flips_at g (flips_at g xs) ≡ flips_at g xs
at_twice g [] = refl
at_twice g (f ∷ more) = by (g f.at) refl (at_twice g more)
  where
    by : (b : Bool) → g f.at ≡ b → flips_at g (flips_at g more) ≡ flips_at g more → flips_at g (cond b (f ∷ flips_at g more) (flips_at g more)) ≡ cond b (f ∷ flips_at g more) (flips_at g more)
    by true t is = ap (λ c. cond c (f ∷ flips_at g (flips_at g more)) (flips_at g (flips_at g more))) t ∙ ap (λ xs. f ∷ xs) is
    by false t is = is

-- ---- settled lines

-- the live flips of a replica
abbrev pub alive : ℕ → LedgerLine → Bool
alive replica line = line.live && is_flip_of replica line.fault

-- from the base on a lineage is the live flips
later_one : (base r : ℕ) (f : Fault) (live based : Bool) → Settled base f live based → Alike (nat_le base) f (based || (live && is_flip_of r f)) (live && is_flip_of r f)
later_one base r (faults.Crash slot at) live based s = tt
later_one base r (faults.Flip q e c m at) live false s = λ h. refl
later_one base r (faults.Flip q e c m at) live true s = λ h. absurd (omega (arith, s.1 refl, leb-true base at h))

pub later_alike : (base r : ℕ) (lines : List LedgerLine) → AllSettled base lines → AllByRecursion (λ (line : LedgerLine). Alike (nat_le base) line.fault (shapes r line) (alive r line)) lines
later_alike base r [] s = tt
later_alike base r (line ∷ more) s = (later_one base r line.fault line.live line.based s.0, later_alike base r more s.1)

-- before the base it is the base's
earlier_one : (base r : ℕ) (f : Fault) (live based : Bool) → Settled base f live based → Alike (below base) f (based || (live && is_flip_of r f)) based
earlier_one base r (faults.Crash slot at) live based s = tt
earlier_one base r (faults.Flip q e c m at) live true s = λ h. refl
earlier_one base r (faults.Flip q e c m at) false false s = λ h. refl
earlier_one base r (faults.Flip q e c m at) true false s = λ h. absurd (omega (arith, s.0 refl, ltb-true at base h))

pub earlier_alike : (base r : ℕ) (lines : List LedgerLine) → AllSettled base lines → AllByRecursion (λ (line : LedgerLine). Alike (below base) line.fault (shapes r line) (is_based line)) lines
earlier_alike base r [] s = tt
earlier_alike base r (line ∷ more) s = (earlier_one base r line.fault line.live line.based s.0, earlier_alike base r more s.1)

-- below the base a lineage is the base's flips
pub base_part : (base r : ℕ) (lines : List LedgerLine) → AllSettled base lines → flips_before base (flips_where (shapes r) lines) ≡ flips_at (below base) (flips_where is_based lines)
base_part base r lines s = before_is base (flips_where (shapes r) lines) ∙ alike (below base) (shapes r) is_based lines (earlier_alike base r lines s)

-- no live flip is before the base
live_one : (base r : ℕ) (f : Fault) (live based : Bool) → Settled base f live based → Alike (below base) f (live && is_flip_of r f) false
live_one base r (faults.Crash slot at) live based s = tt
live_one base r (faults.Flip q e c m at) false based s = λ h. refl
live_one base r (faults.Flip q e c m at) true based s = λ h. absurd (omega (arith, s.0 refl, ltb-true at base h))

pub live_alike : (base r : ℕ) (lines : List LedgerLine) → AllSettled base lines → AllByRecursion (λ (line : LedgerLine). Alike (below base) line.fault (alive r line) false) lines
live_alike base r [] s = tt
live_alike base r (line ∷ more) s = (live_one base r line.fault line.live line.based s.0, live_alike base r more s.1)

-- ---- a new base

abbrev pub line_of : Fault → Bool → Bool → LedgerLine
line_of f live based = record { fault = f; live = live; based = based }

second : (a b : Bool) → (a && b) ≡ true → b ≡ true
second true b h = h
second false b h = absurd cc

-- Lines of which a replica's checkpoint is the new base; those that pass the test are spent, among them the flips below it.
module _ (test : Fault → Bool) (k from : ℕ) (flips : (r : ℕ) (e : ElementId) (c m at : ℕ) → test (faults.Flip r e c m at) ≡ nat_lt at k) where
  abbrev moved : LedgerLine → LedgerLine
  moved line = cond (test line.fault) (spent_line (rebased from k line)) (rebased from k line)

  moved_fault : (line : LedgerLine) → (moved line).fault ≡ line.fault
  moved_fault line = by (test line.fault)
    where
      by : (b : Bool) → (cond {A = LedgerLine} b (spent_line (rebased from k line)) (rebased from k line)).fault ≡ line.fault
      by true = refl
      by false = refl

  moved_based : (line : LedgerLine) → (moved line).based ≡ (shapes from line && is_flip_below k line.fault)
  moved_based line = by (test line.fault)
    where
      by : (b : Bool) → (cond {A = LedgerLine} b (spent_line (rebased from k line)) (rebased from k line)).based ≡ (shapes from line && is_flip_below k line.fault)
      by true = refl
      by false = refl

  moved_faults : (lines : List LedgerLine) → map fault_of (map moved lines) ≡ map fault_of lines
  moved_faults [] = refl
  moved_faults (line ∷ more) = ap (λ fs. (moved line).fault ∷ fs) (moved_faults more) ∙ ap (λ f. f ∷ map fault_of more) (moved_fault line)

  -- the lines are settled at the new base
  moved_settled : (f : Fault) (live based : Bool) → Settled k (moved (line_of f live based)).fault (moved (line_of f live based)).live (moved (line_of f live based)).based
  moved_settled (faults.Crash slot at) live based = by (test (faults.Crash slot at))
    where
      by : (b : Bool) → let x : LedgerLine = cond b (spent_line (rebased from k (line_of (faults.Crash slot at) live based))) (rebased from k (line_of (faults.Crash slot at) live based)) in
          Settled k x.fault x.live x.based
      by true = tt
      by false = tt
  moved_settled (faults.Flip r e c m at) live based =
      let P : Bool → Type 0 = λ b. let x : LedgerLine = cond b (line_of (faults.Flip r e c m at) false (shape && nat_lt at k)) (line_of (faults.Flip r e c m at) live (shape && nat_lt at k)) in Settled k x.fault x.live x.based in
      subst P (sym (flips r e c m at)) (by (nat_lt at k) refl)
    where
      shape : Bool
      shape = based || (live && (r == from))

      by : (b : Bool) → nat_lt at k ≡ b →
          let x : LedgerLine = cond b (line_of (faults.Flip r e c m at) false (shape && b)) (line_of (faults.Flip r e c m at) live (shape && b)) in Settled k x.fault x.live x.based
      by true t = (λ is. absurd (let q : false ≡ true = is in cc), λ is. ltb-true at k t)
      by false t = (λ is. omega (arith, ltb-false at k t), λ is. absurd (let q : false ≡ true = second shape false is in cc))

  all_moved_settled : (lines : List LedgerLine) → AllSettled k (map moved lines)
  all_moved_settled [] = tt
  all_moved_settled (line ∷ more) = (moved_settled line.fault line.live line.based, all_moved_settled more)

  -- the new base's flips are those of the replica before it
  based_put : (f : Fault) (shape : Bool) (xs : List Flip) → put (shape && is_flip_below k f) f (flips_at (below k) xs) ≡ flips_at (below k) (put shape f xs)
  based_put (faults.Crash slot at) true xs = refl
  based_put (faults.Crash slot at) false xs = refl
  based_put (faults.Flip r e c m at) true xs = refl
  based_put (faults.Flip r e c m at) false xs = refl

  moved_base : (lines : List LedgerLine) → flips_where is_based (map moved lines) ≡ flips_at (below k) (flips_where (shapes from) lines)
  moved_base [] = refl
  moved_base (line ∷ more) =
      where_next is_based (moved line) (map moved more)
      ∙ ap (put (moved line).based (moved line).fault) (moved_base more)
      ∙ ap (λ b. put b (moved line).fault (flips_at (below k) (flips_where (shapes from) more))) (moved_based line)
      ∙ ap (λ f. put (shapes from line && is_flip_below k line.fault) f (flips_at (below k) (flips_where (shapes from) more))) (moved_fault line)
      ∙ based_put line.fault (shapes from line) (flips_where (shapes from) more)
      ∙ ap (flips_at (below k)) (sym (where_next (shapes from) line more))

  -- later flips stay
  later_moved : (base r : ℕ) (f : Fault) (live based : Bool) → base ≤ k → Settled base f live based → Alike (nat_le k) f (shapes r (moved (line_of f live based))) (shapes r (line_of f live based))
  later_moved base r (faults.Crash slot at) live based h s = tt
  later_moved base r (faults.Flip q e c m at) live based h s =
      let P : Bool → Type 0 = λ b.
      nat_le k at ≡ true →
      (let x : LedgerLine = cond b (line_of (faults.Flip q e c m at) false (shape && nat_lt at k)) (line_of (faults.Flip q e c m at) live (shape && nat_lt at k)) in shapes r x) ≡ (based || (live && (q == r))) in
      subst P (sym (flips q e c m at)) (λ late. by (nat_lt at k) refl based s.1 (leb-true k at late))
    where
      shape : Bool
      shape = based || (live && (q == from))

      by : (b : Bool) → nat_lt at k ≡ b → (o : Bool) → (o ≡ true → at < base) → k ≤ at →
          (let x : LedgerLine = cond b (line_of (faults.Flip q e c m at) false ((o || (live && (q == from))) && b)) (line_of (faults.Flip q e c m at) live ((o || (live && (q == from))) && b)) in shapes r x)
          ≡ (o || (live && (q == r)))
      by true t o sb late = absurd (omega (arith, ltb-true at k t, late))
      by false t true sb late = absurd (omega (arith, sb refl, late, h))
      by false t false sb late = shaped (live && (q == from)) (live && (q == r))
        where
          shaped : (a b : Bool) → ((a && false) || b) ≡ b
          shaped true b = refl
          shaped false b = refl

  all_later : (base r : ℕ) (lines : List LedgerLine) → base ≤ k → AllSettled base lines → flips_at (nat_le k) (flips_where (shapes r) (map moved lines)) ≡ flips_at (nat_le k) (flips_where (shapes r) lines)
  all_later base r [] h s = refl
  all_later base r (line ∷ more) h s =
      ap (flips_at (nat_le k)) (where_next (shapes r) (moved line) (map moved more))
      ∙ ap (λ f. flips_at (nat_le k) (put (shapes r (moved line)) f (flips_where (shapes r) (map moved more)))) (moved_fault line)
      ∙ one_alike (nat_le k) line.fault (shapes r (moved line)) (shapes r line) (flips_where (shapes r) (map moved more)) (flips_where (shapes r) more)
      (later_moved base r line.fault line.live line.based h s.0) (all_later base r more h s.1)
      ∙ ap (flips_at (nat_le k)) (sym (where_next (shapes r) line more))

-- an accepted, and an adopted checkpoint
flip_below_flips : (k r : ℕ) (e : ElementId) (c m at : ℕ) → is_flip_below k (faults.Flip r e c m at) ≡ nat_lt at k
flip_below_flips k r e c m at = refl

below_flips : (k r : ℕ) (e : ElementId) (c m at : ℕ) → is_below k (faults.Flip r e c m at) ≡ nat_lt at k
below_flips k r e c m at = refl

pub record BaseMoves (f : LedgerLine → LedgerLine) (k from : ℕ) : Type 0 where
  pub faults : (lines : List LedgerLine) → map fault_of (map f lines) ≡ map fault_of lines
  pub settled : (lines : List LedgerLine) → AllSettled k (map f lines)
  pub base : (lines : List LedgerLine) → flips_where is_based (map f lines) ≡ flips_at (below k) (flips_where (shapes from) lines)
  pub later : (base r : ℕ) (lines : List LedgerLine) → base ≤ k → AllSettled base lines →
      flips_at (nat_le k) (flips_where (shapes r) (map f lines)) ≡ flips_at (nat_le k) (flips_where (shapes r) lines)

pub accepted_moves : (k : ℕ) → BaseMoves (accepted k) k 0
accepted_moves k = record {
  faults = moved_faults (is_flip_below k) k 0 (flip_below_flips k);
  settled = all_moved_settled (is_flip_below k) k 0 (flip_below_flips k);
  base = moved_base (is_flip_below k) k 0 (flip_below_flips k);
  later = all_later (is_flip_below k) k 0 (flip_below_flips k);
}

pub adopted_moves : (k from : ℕ) → BaseMoves (adopted k from) k from
adopted_moves k from = record {
  faults = moved_faults (is_below k) k from (below_flips k);
  settled = all_moved_settled (is_below k) k from (below_flips k);
  base = moved_base (is_below k) k from (below_flips k);
  later = all_later (is_below k) k from (below_flips k);
}
