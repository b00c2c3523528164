-- Parts that are apart run in any order.
use Rattle.std.proofs.Common.{◌≡◌, ℕ, zero, suc, ◌+◌, ◌<◌, ◌≤◌, ℤ, Bool, true, false, List, [], ◌∷◌, ◌++◌, length, refl, ap, sym, ◌∙◌, append_assoc, arith, Some, None, subst}
use Rattle.std.specs.Prelude.{◌&&◌, ◌||◌, ◌==◌, if◌then◌else◌, min, slice_get, slice_set}
use Rattle.std.specs.List.{AllByRecursion}
use Rattle.std.proofs.lemmas.Bool.{eq-eqb}
use Rattle.std.proofs.Math.Nat.{min_comm}
use Rattle.chare_base.specs.declared.cells.Cells.{Cells}
use Rattle.chare_base.specs.declared.cells.Slip.{Slip}
use Rattle.chare_base.specs.declared.plan.Part.{Part}
use Rattle.chare_base.specs.declared.plan.Plan.{Plan}
use Rattle.chare_base.specs.Uses.{one, uses, writes}
use Rattle.chare_eval.specs.declared.effects.Outgoing.{Outgoing}
use Rattle.chare_eval.specs.Value.{least_kind}
use Rattle.chare_eval.specs.Block.{Done, Effect, block_does, noted, quiet, scene_of, slip_after}
use Rattle.chare_eval.specs.Stage.{Inbox, given, part_runs, parts_run}
use Rattle.chare_eval.specs.Inside.{is_done, set_runs}
use Rattle.chare_eval.proofs.Computing.{Set, Alike}
use Rattle.chare_eval.proofs.Frames.{Agree, Framed, block_framed}

-- ---- lists that are alike everywhere

some_is : (x y : ℤ) → Some x ≡ Some y → x ≡ y
some_is x y h = cc

ext : (xs ys : List ℤ) → ((i : ℕ) → slice_get xs i ≡ slice_get ys i) → xs ≡ ys
ext [] [] h = refl
ext [] (y ∷ ys) h = absurd (let e : None ≡ Some y = h 0 in cc)
ext (x ∷ xs) [] h = absurd (let e : Some x ≡ None = h 0 in cc)
ext (x ∷ xs) (y ∷ ys) h = ap (λ z. z ∷ xs) (some_is x y (h 0)) ∙ ap (λ l. y ∷ l) (ext xs ys (λ i. h (suc i)))

-- ---- slips of one step

min_suc : (a b : ℕ) → min (suc a) (suc b) ≡ suc (min a b)
min_suc a b = omega arith

module _ (s i : ℕ) where
  abbrev slip : ℕ → Slip
  slip kind = record { kind = kind; step = s; iteration = i }

  here : (s == s && i == i) ≡ true
  here = ap (λ b. b && (i == i)) (eq-eqb s s refl) ∙ eq-eqb i i refl

  -- a second slip of the same step and iteration
  again : (a b : ℕ) → slip_after s i (suc b) (slip (suc a)) ≡ slip (suc (min a b))
  again a b = ap (λ t. if t then slip (least_kind (suc a) (suc b)) else slip (suc a)) here ∙ ap slip (min_suc a b)

  min_turn : (k a b : ℕ) → min (min k a) b ≡ min (min k b) a
  min_turn k a b = omega arith

  abbrev mixed : Bool → ℕ → Slip → Slip
  mixed t kind kept = if t then slip (least_kind kept.kind kind) else kept

  kept_turn : (t : Bool) (kept : Slip) (k a b : ℕ) → kept.kind ≡ suc k → (kept.step == s && kept.iteration == i) ≡ t →
      slip_after s i (suc b) (mixed t (suc a) kept) ≡ slip_after s i (suc a) (mixed t (suc b) kept)
  kept_turn true kept k a b e h =
      ap (λ n. slip_after s i (suc b) (slip (least_kind n (suc a)))) e ∙ ap (λ n. slip_after s i (suc b) (slip n)) (min_suc k a) ∙ again (min k a) b
      ∙ ap (λ n. slip (suc n)) (min_turn k a b)
      ∙ sym (ap (λ n. slip_after s i (suc a) (slip (least_kind n (suc b)))) e ∙ ap (λ n. slip_after s i (suc a) (slip n)) (min_suc k b) ∙ again (min k b) a)
  kept_turn false kept k a b e h =
      ap (λ n. noted s i (suc b) n kept) e ∙ ap (λ t. mixed t (suc b) kept) h
      ∙ sym (ap (λ n. noted s i (suc a) n kept) e ∙ ap (λ t. mixed t (suc a) kept) h)

  slips_at : (kept : Slip) (k a b : ℕ) → kept.kind ≡ k → slip_after s i b (slip_after s i a kept) ≡ slip_after s i a (slip_after s i b kept)
  slips_at kept k zero b e = refl
  slips_at kept k (suc a) zero e = refl
  slips_at kept zero (suc a) (suc b) e =
      ap (λ n. slip_after s i (suc b) (noted s i (suc a) n kept)) e
      ∙ again a b ∙ ap (λ n. slip (suc n)) (min_comm a b)
      ∙ sym (ap (λ n. slip_after s i (suc a) (noted s i (suc b) n kept)) e ∙ again b a)
  slips_at kept (suc k) (suc a) (suc b) e =
      ap (λ n. slip_after s i (suc b) (noted s i (suc a) n kept)) e
      ∙ kept_turn (kept.step == s && kept.iteration == i) kept k a b e refl
      ∙ sym (ap (λ n. slip_after s i (suc a) (noted s i (suc b) n kept)) e)

-- ---- parts

-- neither uses a cell that the other writes
pub record Apart (a b : Part) : Type 0 where
  pub left : (i : ℕ) → uses a.block (one i) ≡ true → writes b.block (one i) ≡ false
  pub right : (i : ℕ) → uses b.block (one i) ≡ true → writes a.block (one i) ≡ false

abbrev pub AllApart : List Part → Type 0
AllApart parts = (i j : ℕ) (a b : Part) → slice_get parts i ≡ Some a → slice_get parts j ≡ Some b → (i ≡ j → ⊥) → Apart a b

-- one more part
abbrev pub with_part : ℕ → (ℕ → Bool) → ℕ → Bool
with_part j done i = i == j || done i

-- one list stands within another
abbrev pub Among : List Outgoing → List Outgoing → Type 0
Among xs ys = (before : List Outgoing) × (after : List Outgoing) × (ys ≡ before ++ (xs ++ after))

module _ (p : Plan) (e s i : ℕ) (box : Inbox) where
  abbrev pub does : Part → List ℤ → Done
  does part xs = block_does p e part.block (scene_of p e i (given part.need box)) xs

  abbrev used : Part → Set
  used part i = uses part.block (one i)

  abbrev written : Part → Set
  written part i = writes part.block (one i)

  framed : (part : Part) → Framed (does part) (used part) (written part)
  framed part = block_framed p e part.block (scene_of p e i (given part.need box))

  -- what a part makes of an element's cells
  abbrev pub ran : Part → Cells → Cells
  ran part cells = record { numbers = (does part cells.numbers).numbers; slip = slip_after s i (does part cells.numbers).kind cells.slip }

  -- ---- two parts

  unwritten : (a : Part) (j : ℕ) (w : Bool) → written a j ≡ w → used a j ≡ false → w ≡ false
  unwritten a j false h k = refl
  unwritten a j true h k = absurd (let c : true ≡ false = sym ((framed a).written_is_used j h) ∙ k in cc)

  flipped : (a b : Part) → Apart a b → Apart b a
  flipped a b h = record { left = h.right; right = h.left }

  -- what one part reads is as it was before the other
  undisturbed : (a b : Part) → Apart a b → (xs : List ℤ) → Alike (used a) (does b xs).numbers xs
  undisturbed a b h xs = record { len = (framed b).len xs; at = λ j u. (framed b).keeps xs j (h.left j u) }

  agrees : (a b : Part) → Apart a b → (xs : List ℤ) → Agree (used a) (does a) (does b xs).numbers xs
  agrees a b h xs = (framed a).local (does b xs).numbers xs (undisturbed a b h xs)

  both_at : (a b : Part) → Apart a b → (xs : List ℤ) (j : ℕ) (u v : Bool) → used a j ≡ u → used b j ≡ v →
      slice_get (does b (does a xs).numbers).numbers j ≡ slice_get (does a (does b xs).numbers).numbers j
  both_at a b h xs j true v g f = (framed b).keeps (does a xs).numbers j (h.left j g) ∙ sym ((agrees a b h xs).numbers.at j g)
  both_at a b h xs j false true g f = (agrees b a (flipped a b h) xs).numbers.at j f ∙ sym ((framed a).keeps (does b xs).numbers j (h.right j f))
  both_at a b h xs j false false g f =
      (framed b).keeps (does a xs).numbers j (unwritten b j (written b j) refl f) ∙ (framed a).keeps xs j (unwritten a j (written a j) refl g)
      ∙ sym ((framed a).keeps (does b xs).numbers j (unwritten a j (written a j) refl g) ∙ (framed b).keeps xs j (unwritten b j (written b j) refl f))

  commute : (a b : Part) → Apart a b → (cells : Cells) → ran b (ran a cells) ≡ ran a (ran b cells)
  commute a b h cells =
      let xs = cells.numbers in
      let kept = cells.slip in
      ap (λ n. record { numbers = n; slip = slip_after s i (does b (does a xs).numbers).kind (slip_after s i (does a xs).kind kept) })
      (ext (does b (does a xs).numbers).numbers (does a (does b xs).numbers).numbers (λ j. both_at a b h xs j (used a j) (used b j) refl refl))
      ∙ ap (λ z. record { numbers = (does a (does b xs).numbers).numbers; slip = z })
      (ap (λ k. slip_after s i k (slip_after s i (does a xs).kind kept)) (agrees b a (flipped a b h) xs).kind
      ∙ slips_at s i kept kept.kind (does a xs).kind (does b xs).kind refl
      ∙ ap (λ k. slip_after s i k (slip_after s i (does b xs).kind kept)) (sym (agrees a b h xs).kind))

  -- ---- a set of parts

  abbrev set : (ℕ → Bool) → ℕ → List Part → Cells → Cells
  set done n parts cells = set_runs p e s i box done n parts cells

  -- the same, where the sets are alike from the first number on
  pub same_set : (parts : List Part) (done other : ℕ → Bool) (n : ℕ) (cells : Cells) → ((j : ℕ) → n ≤ j → done j ≡ other j) → set_runs p e s i box done n parts cells ≡ set_runs p e s i box other n parts cells
  same_set [] done other n cells h = refl
  same_set (part ∷ more) done other n cells h =
      ap (λ b. set done (suc n) more (if b then ran part cells else cells)) (h n (omega arith))
      ∙ same_set more done other (suc n) (if other n then ran part cells else cells) (λ j l. h j (omega (arith, l)))

  abbrev AllFrom : Part → List Part → Type 0
  AllFrom part parts = (j : ℕ) (q : Part) → slice_get parts j ≡ Some q → Apart part q

  turned : (d : Bool) (part q : Part) (cells : Cells) → Apart part q → ran part (if d then ran q cells else cells) ≡ (if d then ran q (ran part cells) else ran part cells)
  turned true part q cells h = sym (commute part q h cells)
  turned false part q cells h = refl

  -- a part before or behind parts that are apart from it
  past : (parts : List Part) (done : ℕ → Bool) (n : ℕ) (part : Part) (cells : Cells) → AllFrom part parts → ran part (set done n parts cells) ≡ set done n parts (ran part cells)
  past [] done n part cells h = refl
  past (q ∷ more) done n part cells h =
      past more done (suc n) part (if done n then ran q cells else cells) (λ j r f. h (suc j) r f)
      ∙ ap (set done (suc n) more) (turned (done n) part q cells (h 0 q refl))

  abbrev OthersFrom : Part → ℕ → List Part → Type 0
  OthersFrom part j parts = (k : ℕ) (q : Part) → slice_get parts k ≡ Some q → (k ≡ j → ⊥) → Apart part q

  part_is : (x y : Part) → Some x ≡ Some y → x ≡ y
  part_is x y h = cc

  not_zero : (k : ℕ) → suc k ≡ 0 → ⊥
  not_zero k h = omega (arith, h)

  suc_is : (k j : ℕ) → suc k ≡ suc j → k ≡ j
  suc_is k j h = omega (arith, h)

  other_number : (m n : ℕ) (d : Bool) → suc n ≤ m → (n == m || d) ≡ d
  other_number m n d h = grind (arith, h)

  beyond : (k m : ℕ) (d : Bool) → suc m ≤ k → (k == m || d) ≡ d
  beyond k m d h = grind (arith, h)

  insert : (parts : List Part) (done : ℕ → Bool) (n j m : ℕ) (part : Part) (cells : Cells) → m ≡ n + j → slice_get parts j ≡ Some part → done m ≡ false → OthersFrom part j parts →
      ran part (set done n parts cells) ≡ set (with_part m done) n parts cells
  insert [] done n j m part cells g is d h = absurd (let c : None ≡ Some part = is in cc)
  insert (q ∷ more) done n zero m part cells g is d h =
      let n_is : m ≡ n = omega (arith, g) in
      ap (λ b. ran part (set done (suc n) more (if b then ran q cells else cells))) (ap done (sym n_is) ∙ d)
      ∙ past more done (suc n) part cells (λ k r f. h (suc k) r f (not_zero k))
      ∙ same_set more done (with_part m done) (suc n) (ran part cells) (λ k l. sym (beyond k m (done k) (omega (arith, l, n_is))))
      ∙ ap (λ (x : Part). set (with_part m done) (suc n) more (ran x cells)) (sym (part_is q part is))
      ∙ ap (λ b. set (with_part m done) (suc n) more (if b then ran q cells else cells)) (sym (ap (λ b. b || done n) (eq-eqb n m (sym n_is))))
  insert (q ∷ more) done n (suc j) m part cells g is d h =
      insert more done (suc n) j m part (if done n then ran q cells else cells) (omega (arith, g)) is d (λ k r f ne. h (suc k) r f (λ c. ne (suc_is k j c)))
      ∙ ap (λ b. set (with_part m done) (suc n) more (if b then ran q cells else cells)) (sym (other_number m n (done n) (omega (arith, g))))

  -- what a part reads is as it was before the others
  alike_trans : (u : Set) (xs ys zs : List ℤ) → Alike u xs ys → Alike u ys zs → Alike u xs zs
  alike_trans u xs ys zs a b = record { len = a.len ∙ b.len; at = λ j h. a.at j h ∙ b.at j h }

  alike_step : (d : Bool) (part q : Part) (cells : Cells) → (d ≡ true → Apart part q) → Alike (used part) (if d then ran q cells else cells).numbers cells.numbers
  alike_step true part q cells h = undisturbed part q (h refl) cells.numbers
  alike_step false part q cells h = record { len = refl; at = λ j u. refl }

  alike_set : (parts : List Part) (done : ℕ → Bool) (n : ℕ) (part : Part) (cells : Cells) →
      ((k : ℕ) (q : Part) (m : ℕ) → m ≡ n + k → slice_get parts k ≡ Some q → done m ≡ true → Apart part q) →
      Alike (used part) (set done n parts cells).numbers cells.numbers
  alike_set [] done n part cells h = record { len = refl; at = λ j u. refl }
  alike_set (q ∷ more) done n part cells h =
      alike_trans (used part) (set done (suc n) more (if done n then ran q cells else cells)).numbers (if done n then ran q cells else cells).numbers cells.numbers
      (alike_set more done (suc n) part (if done n then ran q cells else cells) (λ k r m g f d. h (suc k) r m (omega (arith, g)) f d))
      (alike_step (done n) part q cells (λ d. h 0 q n (omega arith) refl d))

  -- one more part after those that are done
  pub record Free (parts : List Part) (done : ℕ → Bool) (j : ℕ) (part : Part) (cells : Cells) : Type 0 where
    pub runs : ran part (set_runs p e s i box done 0 parts cells) ≡ set_runs p e s i box (with_part j done) 0 parts cells
    pub sent : (does part (set_runs p e s i box done 0 parts cells).numbers).sent ≡ (does part cells.numbers).sent

  pub order_is_free : (parts : List Part) (done : ℕ → Bool) (j : ℕ) (part : Part) (cells : Cells) → AllApart parts → slice_get parts j ≡ Some part → done j ≡ false →
      Free parts done j part cells
  order_is_free parts done j part cells apart is d =
      let alike = alike_set parts done 0 part cells (λ k q m g f dm. apart j k part q is f (λ c. let x : true ≡ false = sym dm ∙ ap done (omega (arith, g, c)) ∙ d in cc)) in
      record {
        runs = insert parts done 0 j j part cells (omega arith) is d (λ k q f ne. apart j k part q is f (λ c. ne (sym c)));
        sent = ((framed part).local (set done 0 parts cells).numbers cells.numbers alike).sent;
      }

  -- ---- all parts in text order

  all_from : (parts : List Part) (done : ℕ → Bool) (n : ℕ) (f : Effect) → ((k m : ℕ) → m ≡ n + k → k < length parts → done m ≡ true) →
      set done n parts f.cells ≡ (parts_run p e s i box parts f).cells
  all_from [] done n f h = refl
  all_from (part ∷ more) done n f h =
      ap (λ b. set done (suc n) more (if b then ran part f.cells else f.cells)) (h 0 n (omega arith) (omega arith))
      ∙ all_from more done (suc n) (part_runs p e s i box part f) (λ k m g l. h (suc k) m (omega (arith, g)) (omega (arith, l)))

  pub all_done : (parts : List Part) (done : ℕ → Bool) (cells : Cells) → ((k : ℕ) → k < length parts → done k ≡ true) →
      set_runs p e s i box done 0 parts cells ≡ (parts_run p e s i box parts (quiet cells)).cells
  all_done parts done cells h = all_from parts done 0 (quiet cells) (λ k m g l. let same : m ≡ k = omega (arith, g) in ap done same ∙ h k l)

  none_from : (parts : List Part) (done : ℕ → Bool) (n : ℕ) (cells : Cells) → ((k : ℕ) → done k ≡ false) → set done n parts cells ≡ cells
  none_from [] done n cells h = refl
  none_from (part ∷ more) done n cells h = ap (λ b. set done (suc n) more (if b then ran part cells else cells)) (h n) ∙ none_from more done (suc n) cells h

  pub none_run : (parts : List Part) (done : ℕ → Bool) (cells : Cells) → ((k : ℕ) → done k ≡ false) → set_runs p e s i box done 0 parts cells ≡ cells
  none_run parts done cells h = none_from parts done 0 cells h

  -- what parts send one after another
  abbrev pub all_sent : List Part → Cells → List Outgoing
  all_sent [] cells = []
  all_sent (part ∷ more) cells = (does part cells.numbers).sent ++ all_sent more (ran part cells)

  append_nil : (l : List Outgoing) → l ≡ l ++ []
  append_nil [] = refl
  append_nil (x ∷ l) = ap (λ m. x ∷ m) (append_nil l)

  sent_along : (parts : List Part) (f : Effect) → (parts_run p e s i box parts f).sent ≡ f.sent ++ all_sent parts f.cells
  sent_along [] f = append_nil f.sent
  sent_along (part ∷ more) f = sent_along more (part_runs p e s i box part f) ∙ append_assoc f.sent (does part f.cells.numbers).sent (all_sent more (ran part f.cells))

  sent_among : (parts : List Part) (j : ℕ) (part : Part) (cells : Cells) →
      ((k : ℕ) (q : Part) → slice_get parts k ≡ Some q → (j ≡ k → ⊥) → Apart part q) → slice_get parts j ≡ Some part → Among (does part cells.numbers).sent (all_sent parts cells)
  sent_among [] j part cells apart is = absurd (let c : None ≡ Some part = is in cc)
  sent_among (q ∷ more) zero part cells apart is =
      ([], all_sent more (ran q cells), ap (λ (x : Part). (does x cells.numbers).sent ++ all_sent more (ran q cells)) (part_is q part is))
  sent_among (q ∷ more) (suc j) part cells apart is =
      let inner = sent_among more j part (ran q cells) (λ k r f ne. apart (suc k) r f (λ c. ne (omega (arith, c)))) is in
      let same = (agrees part q (apart 0 q refl (λ f. let z : suc j ≡ 0 = f in absurd (omega (arith, z)))) cells.numbers).sent in (
        (does q cells.numbers).sent ++ inner.0,
        inner.1,
        ap (λ l. (does q cells.numbers).sent ++ l) (inner.2 ∙ ap (λ l. inner.0 ++ (l ++ inner.1)) same)
            ∙ sym (append_assoc (does q cells.numbers).sent inner.0 ((does part cells.numbers).sent ++ inner.1)),
      )

  -- what a part sends by itself stands within what its step sends
  pub sent_in_step : (parts : List Part) (j : ℕ) (part : Part) (cells : Cells) → AllApart parts → slice_get parts j ≡ Some part →
      Among (does part cells.numbers).sent (parts_run p e s i box parts (quiet cells)).sent
  sent_in_step parts j part cells apart is =
      let found = sent_among parts j part cells (λ k q f ne. apart j k part q is f ne) is in
      (found.0, found.1, sent_along parts (quiet cells) ∙ found.2)

-- what holds of each that is sent in a step holds of each of a part's
pub all_among : (P : Outgoing → Type 0) (xs ys : List Outgoing) → Among xs ys → AllByRecursion P ys → AllByRecursion P xs
all_among P xs ys found all =
    let whole : AllByRecursion P (found.0 ++ (xs ++ found.1)) = subst (AllByRecursion P) found.2 all in
    front xs found.1 (behind found.0 (xs ++ found.1) whole)
  where
    behind : (before after : List Outgoing) → AllByRecursion P (before ++ after) → AllByRecursion P after
    behind [] after a = a
    behind (x ∷ before) after a = behind before after a.1

    front : (before after : List Outgoing) → AllByRecursion P (before ++ after) → AllByRecursion P before
    front [] after a = tt
    front (x ∷ before) after a = (a.0, front before after a.1)

-- ---- sets as lists

-- a part more in the list is one more in the set
pub one_more : (done : List Bool) (j i : ℕ) → j < length done → is_done (slice_set done j true) i ≡ with_part j (is_done done) i
one_more [] j i h = absurd (omega arith)
one_more (d ∷ done) zero zero h = refl
one_more (d ∷ done) zero (suc i) h = sym (apart_from_zero i (is_done done i))
  where
    apart_from_zero : (i : ℕ) (b : Bool) → (suc i == 0 || b) ≡ b
    apart_from_zero i b = grind arith
one_more (d ∷ done) (suc j) zero h = sym (apart_from_zero j d)
  where
    apart_from_zero : (j : ℕ) (b : Bool) → (0 == suc j || b) ≡ b
    apart_from_zero j b = grind arith
one_more (d ∷ done) (suc j) (suc i) h = one_more done j i (omega arith) ∙ ap (λ b. b || is_done done i) (shift i j)
  where
    shift : (i j : ℕ) → (i == j) ≡ (suc i == suc j)
    shift i j = grind arith
