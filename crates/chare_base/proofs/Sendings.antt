-- What the rule of ports says of an element: in which step a port is sent to and received from.
use Rattle.std.proofs.Common.{◌≡◌, ℕ, zero, suc, ◌+◌, ◌<◌, ◌≤◌, Bool, true, false, not, cond, List, [], ◌∷◌, length, arith, Option, Some, None, refl, ap, sym, ◌∙◌, subst}
use Rattle.std.specs.Prelude.{IsTrue, ◌==◌, slice_get, nat_lt, position}
use Rattle.std.specs.List.{list_all, position_or_len, AllByRecursion}
use Rattle.std.specs.Option.{option_map_or}
use Rattle.std.proofs.lemmas.Bool.{and_parts, eqb-true, ltb-true}
use Rattle.std.proofs.lemmas.Bool.Decides.{nat_tests}
use Rattle.std.proofs.lemmas.Option.{none-some, same_Some, cond_some, slice_get_within}
use Rattle.chare_base.specs.declared.message.EntryId.{EntryId}
use Rattle.chare_base.specs.declared.message.ReductionId.{ReductionId}
use Rattle.chare_base.specs.declared.message.Need.{Need}
use Rattle.chare_base.specs.declared.message.Need.TheVariants as needs
use Rattle.chare_base.specs.declared.message.Port.{Port}
use Rattle.chare_base.specs.declared.message.Port.TheVariants as ports
use Rattle.chare_base.specs.declared.plan.Array.{Array}
use Rattle.chare_base.specs.declared.plan.Entry.{Entry}
use Rattle.chare_base.specs.declared.plan.Part.{Part}
use Rattle.chare_base.specs.declared.plan.Plan.{Plan}
use Rattle.chare_base.specs.declared.plan.Reduction.{Reduction}
use Rattle.chare_base.specs.declared.plan.State.{State}
use Rattle.chare_base.specs.declared.plan.Step.{Step}
use Rattle.chare_base.specs.declared.plan.Stmt.{Stmt, out-Stmt}
use Rattle.chare_base.specs.declared.plan.Stmt.TheOpen.{Stmt-F}
use Rattle.chare_base.specs.Ranges.{arrays_in_range, array_in_range, step_in_range, part_in_range, need_in_range, port_in_range, stmt_in_range, send_in_range, sends_in_range, sent_from, reduced_in, received_by, values_of}
use Rattle.chare_base.specs.Ports.{entry_port, total_port, fed_by, counted, stmt_sends, block_sends, parts_send, steps_send, sends_directly, part_sends_directly, step_sends_directly, array_sends_directly, takes, parts_take, steps_take, sending_step, taking_step, before, steps_in, port_holds, entries_from, reductions_from, ports_hold}
use Rattle.chare_base.specs.Elements.{place_of, states_of, steps_of, parts_at, need_at}
use Rattle.chare_base.specs.Entries.{entry_of, reduction_of}
use Rattle.chare_base.specs.Laws.{Waits, FirstStepIsFree, SendsTo, ContributesTo, Sent, SendsDeclared, SendsAreDeclared}
use Rattle.chare_base.proofs.Facts.{each_at}
use Rattle.chare_base.proofs.Exchanges.{ranged}
use Rattle.chare_base.proofs.Neighbours.{sources_and_targets}

-- ---- counts

-- the sum of what is counted in each
abbrev total : {A : Type 0} → (A → ℕ) → List A → ℕ
total f [] = 0
total f (x ∷ more) = f x + total f more

module _ (port : Port) where
  block_total : (block : List Stmt) → block_sends port block ≡ total (stmt_sends port) block
  block_total [] = refl
  block_total (stmt ∷ more) = ap (λ n. stmt_sends port stmt + n) (block_total more)

  parts_send_total : (parts : List Part) → parts_send port parts ≡ total (λ (part : Part). block_sends port part.block) parts
  parts_send_total [] = refl
  parts_send_total (part ∷ more) = ap (λ n. block_sends port part.block + n) (parts_send_total more)

  parts_take_total : (parts : List Part) → parts_take port parts ≡ total (λ (part : Part). takes port part.need) parts
  parts_take_total [] = refl
  parts_take_total (part ∷ more) = ap (λ n. takes port part.need + n) (parts_take_total more)

  steps_send_total : (steps : List Step) → steps_send port steps ≡ total (λ (step : Step). parts_send port step.parts) steps
  steps_send_total [] = refl
  steps_send_total (step ∷ more) = ap (λ n. parts_send port step.parts + n) (steps_send_total more)

  steps_take_total : (steps : List Step) → steps_take port steps ≡ total (λ (step : Step). parts_take port step.parts) steps
  steps_take_total [] = refl
  steps_take_total (step ∷ more) = ap (λ n. parts_take port step.parts + n) (steps_take_total more)

module _ {A : Type 0} (f : A → ℕ) where
  abbrev counts : A → Bool
  counts x = nat_lt 0 (f x)

  counts_some : (x : A) → 0 < f x → counts x ≡ true
  counts_some x h = grind (arith, nat_tests)

  counts_none : (x : A) → f x ≡ 0 → counts x ≡ false
  counts_none x h = grind (arith, nat_tests)

  each_below : (xs : List A) (i : ℕ) (x : A) → slice_get xs i ≡ Some x → f x ≤ total f xs
  each_below [] i x is = absurd (none-some x is)
  each_below (y ∷ xs) zero x is = omega (arith, ap f (same_Some y x is))
  each_below (y ∷ xs) (suc i) x is = omega (arith, each_below xs i x is)

  -- where all count 1 together, the one that counts is the first, and counts 1
  only : (xs : List A) (i : ℕ) (x : A) → total f xs ≡ 1 → slice_get xs i ≡ Some x → 0 < f x → (position_or_len counts xs ≡ i) × (f x ≡ 1)
  only [] i x one is some = absurd (none-some x is)
  only (y ∷ xs) zero x one is some =
      let same : f y ≡ f x = ap f (same_Some y x is) in
      (ap (λ b. cond (not b) (1 + position_or_len counts xs) 0) (counts_some y (omega arith)), omega arith)
  only (y ∷ xs) (suc i) x one is some =
      let none : f y ≡ 0 = omega (arith, each_below xs i x is) in
      let rest = only xs i x (omega arith) is some in
      (ap (λ b. cond (not b) (1 + position_or_len counts xs) 0) (counts_none y none) ∙ omega (arith, rest.0), rest.1)

  only_first : (xs : List A) (i : ℕ) (x : A) → total f xs ≡ 1 → slice_get xs i ≡ Some x → 0 < f x → position counts xs ≡ Some i
  only_first xs i x one is some =
      let within : nat_lt i (length xs) ≡ true = let h = slice_get_within xs i x is in grind (arith, nat_tests, h) in
      ap (λ n. cond (nat_lt n (length xs)) (Some n) None) (only xs i x one is some).0 ∙ ap (λ b. cond b (Some i) None) within

  -- one that counts stands at this place
  abbrev At : List A → ℕ → Type 0
  At xs i = (x : A) × (slice_get xs i ≡ Some x) × (0 < f x)

  first_next : (y : A) (xs : List A) (n : ℕ) → f y ≡ n → position_or_len counts (y ∷ xs) < suc (length xs) →
      (position_or_len counts xs < length xs → At xs (position_or_len counts xs)) → At (y ∷ xs) (position_or_len counts (y ∷ xs))
  first_next y xs zero e h rest =
      let past : position_or_len counts (y ∷ xs) ≡ suc (position_or_len counts xs) = ap (λ b. cond (not b) (1 + position_or_len counts xs) 0) (counts_none y e) ∙ omega arith in
      subst (At (y ∷ xs)) (sym past) (rest (omega arith))
  first_next y xs (suc n) e h rest =
      let here : position_or_len counts (y ∷ xs) ≡ zero = ap (λ b. cond (not b) (1 + position_or_len counts xs) 0) (counts_some y (omega arith)) in
      subst (At (y ∷ xs)) (sym here) (y, refl, omega arith)

  first_counts : (xs : List A) → position_or_len counts xs < length xs → At xs (position_or_len counts xs)
  first_counts [] h = absurd (omega arith)
  first_counts (y ∷ xs) h = first_next y xs (f y) refl h (first_counts xs)

  -- what stands at the first that counts
  found_first : (xs : List A) (i : ℕ) → position counts xs ≡ Some i → At xs i
  found_first xs i is =
      let c = cond_some (nat_lt (position_or_len counts xs) (length xs)) (position_or_len counts xs) i is in
      subst (At xs) c.1 (first_counts xs (ltb-true (position_or_len counts xs) (length xs) c.0))

  -- where some count, one that counts passes a test that all pass
  abbrev Passing : (A → Bool) → Type 0
  Passing test = (x : A) × IsTrue (test x) × (0 < f x)

  passing_next : (test : A → Bool) (y : A) (xs : List A) (n : ℕ) → f y ≡ n → IsTrue (test y) → 0 < f y + total f xs → (0 < total f xs → Passing test) → Passing test
  passing_next test y xs zero e t some rest = rest (omega arith)
  passing_next test y xs (suc n) e t some rest = (y, t, omega arith)

  passing : (test : A → Bool) (xs : List A) → IsTrue (list_all test xs) → 0 < total f xs → Passing test
  passing test [] all some = absurd (omega arith)
  passing test (y ∷ xs) all some = passing_next test y xs (f y) refl (and_parts _ _ all).0 some (passing test xs (and_parts _ _ all).1)

-- ---- a port's arrays

-- the array whose elements send to a port, and the one whose elements receive from it
abbrev pub source_array : Plan → Port → Option ℕ
source_array p (ports.Entry x) = option_map_or (λ (entry : Entry). Some entry.source) (entry_of p x.0) None
source_array p (ports.Total r) = option_map_or (λ (reduction : Reduction). Some reduction.owner) (reduction_of p r.0) None

abbrev pub owner_array : Plan → Port → Option ℕ
owner_array p (ports.Entry x) = option_map_or (λ (entry : Entry). Some entry.owner) (entry_of p x.0) None
owner_array p (ports.Total r) = option_map_or (λ (reduction : Reduction). Some reduction.owner) (reduction_of p r.0) None

pub record Joins (p : Plan) (port : Port) : Type 0 where
  pub source : ℕ
  pub owner : ℕ
  pub source_is : source_array p port ≡ Some source
  pub owner_is : owner_array p port ≡ Some owner
  pub holds : IsTrue (port_holds p.arrays port source owner)

port_held : (arrays : List Array) (number : ℕ) (entries : List Entry) (n : ℕ) (entry : Entry) → IsTrue (entries_from arrays number entries) → slice_get entries n ≡ Some entry →
    IsTrue (port_holds arrays (entry_port (number + n)) entry.source entry.owner)
port_held arrays number [] n entry all is = absurd (none-some entry is)
port_held arrays number (y ∷ more) zero entry all is =
    let here : number ≡ number + zero = omega arith in
    subst (λ m. IsTrue (port_holds arrays (entry_port m) entry.source entry.owner)) here
    (subst (λ (z : Entry). IsTrue (port_holds arrays (entry_port number) z.source z.owner)) (same_Some y entry is) (and_parts _ _ all).0)
port_held arrays number (y ∷ more) (suc n) entry all is =
    let here : suc number + n ≡ number + suc n = omega arith in
    subst (λ m. IsTrue (port_holds arrays (entry_port m) entry.source entry.owner)) here (port_held arrays (suc number) more n entry (and_parts _ _ all).1 is)

total_held : (arrays : List Array) (number : ℕ) (reductions : List Reduction) (n : ℕ) (r : Reduction) → IsTrue (reductions_from arrays number reductions) → slice_get reductions n ≡ Some r →
    IsTrue (port_holds arrays (total_port (number + n)) r.owner r.owner)
total_held arrays number [] n r all is = absurd (none-some r is)
total_held arrays number (y ∷ more) zero r all is =
    let here : number ≡ number + zero = omega arith in
    subst (λ m. IsTrue (port_holds arrays (total_port m) r.owner r.owner)) here
    (subst (λ (z : Reduction). IsTrue (port_holds arrays (total_port number) z.owner z.owner)) (same_Some y r is) (and_parts _ _ all).0)
total_held arrays number (y ∷ more) (suc n) r all is =
    let here : suc number + n ≡ number + suc n = omega arith in
    subst (λ m. IsTrue (port_holds arrays (total_port m) r.owner r.owner)) here (total_held arrays (suc number) more n r (and_parts _ _ all).1 is)

record Held (p : Plan) : Type 0 where
  pub direct : IsTrue (list_all array_sends_directly p.arrays)
  pub entries : IsTrue (entries_from p.arrays 0 p.entries)
  pub reductions : IsTrue (reductions_from p.arrays 0 p.reductions)

ports_held : (p : Plan) → Held p
unfolding ports_hold
ports_held p = let h = and_parts _ _ p.ports in let k = and_parts _ _ h.0 in record { direct = k.0; entries = k.1; reductions = h.1 }

module _ (p : Plan) where
  pub entry_joins : (x : EntryId) (entry : Entry) → entry_of p x.0 ≡ Some entry → Joins p (ports.Entry x)
  entry_joins x entry is =
      let here : 0 + x.0 ≡ x.0 = omega arith in
      record {
        source = entry.source;
        owner = entry.owner;
        source_is = ap (λ o. option_map_or (λ (y : Entry). Some y.source) o None) is;
        owner_is = ap (λ o. option_map_or (λ (y : Entry). Some y.owner) o None) is;
        holds = subst (λ m. IsTrue (port_holds p.arrays (entry_port m) entry.source entry.owner)) here (port_held p.arrays 0 p.entries x.0 entry (ports_held p).entries is);
      }

  pub total_joins : (r : ReductionId) (reduction : Reduction) → reduction_of p r.0 ≡ Some reduction → Joins p (ports.Total r)
  total_joins r reduction is =
      let here : 0 + r.0 ≡ r.0 = omega arith in
      record {
        source = reduction.owner;
        owner = reduction.owner;
        source_is = ap (λ o. option_map_or (λ (y : Reduction). Some y.owner) o None) is;
        owner_is = ap (λ o. option_map_or (λ (y : Reduction). Some y.owner) o None) is;
        holds = subst (λ m. IsTrue (port_holds p.arrays (total_port m) reduction.owner reduction.owner)) here (total_held p.arrays 0 p.reductions r.0 reduction (ports_held p).reductions is);
      }

  -- the entry or the reduction of a port whose array is known
  pub entry_there : {A : Type 0} (x : EntryId) (f : Entry → A) (a : A) → option_map_or (λ (entry : Entry). Some (f entry)) (entry_of p x.0) None ≡ Some a → (entry : Entry) × (entry_of p x.0 ≡ Some entry) × (f entry ≡ a)
  entry_there {A} x f a is = by (entry_of p x.0) refl is
    where
      by : (o : Option Entry) → entry_of p x.0 ≡ o → option_map_or (λ (entry : Entry). Some (f entry)) o None ≡ Some a → (entry : Entry) × (entry_of p x.0 ≡ Some entry) × (f entry ≡ a)
      by (Some entry) there e = (entry, there, same_Some (f entry) a e)
      by None there e = absurd (none-some a e)

  pub total_there : (r : ReductionId) (a : ℕ) → option_map_or (λ (reduction : Reduction). Some reduction.owner) (reduction_of p r.0) None ≡ Some a →
      (reduction : Reduction) × (reduction_of p r.0 ≡ Some reduction) × (reduction.owner ≡ a)
  total_there r a is = by (reduction_of p r.0) refl is
    where
      by : (o : Option Reduction) → reduction_of p r.0 ≡ o → option_map_or (λ (reduction : Reduction). Some reduction.owner) o None ≡ Some a →
          (reduction : Reduction) × (reduction_of p r.0 ≡ Some reduction) × (reduction.owner ≡ a)
      by (Some reduction) there e = (reduction, there, same_Some reduction.owner a e)
      by None there e = absurd (none-some a e)

  pub joins_source : (port : Port) (a : ℕ) → source_array p port ≡ Some a → Joins p port
  joins_source (ports.Entry x) a is = let f = entry_there x (λ (entry : Entry). entry.source) a is in entry_joins x f.0 f.1
  joins_source (ports.Total r) a is = let f = total_there r a is in total_joins r f.0 f.1

  pub joins_owner : (port : Port) (a : ℕ) → owner_array p port ≡ Some a → Joins p port
  joins_owner (ports.Entry x) a is = let f = entry_there x (λ (entry : Entry). entry.owner) a is in entry_joins x f.0 f.1
  joins_owner (ports.Total r) a is = let f = total_there r a is in total_joins r f.0 f.1

-- the rule of ports for one port
pub record Exchanged (p : Plan) (port : Port) (source owner : ℕ) : Type 0 where
  pub sent : steps_send port (steps_in p.arrays source) ≡ 1
  pub taken : steps_take port (steps_in p.arrays owner) ≡ 1
  pub first : ℕ
  pub second : ℕ
  pub sends : sending_step port (steps_in p.arrays source) ≡ Some first
  pub takes : taking_step port (steps_in p.arrays owner) ≡ Some second
  pub later : first < second

ordered : (a b : Option ℕ) → IsTrue (before a b) → (s : ℕ) × (t : ℕ) × (a ≡ Some s) × (b ≡ Some t) × (s < t)
ordered (Some s) (Some t) h = (s, t, refl, refl, ltb-true s t h)
ordered (Some s) None h = absurd cc
ordered None b h = absurd cc

pub exchanged : (p : Plan) (port : Port) (j : Joins p port) → Exchanged p port j.source j.owner
exchanged p port j =
    let h = and_parts _ _ j.holds in
    let once = and_parts _ _ h.0 in
    let steps = ordered (sending_step port (steps_in p.arrays j.source)) (taking_step port (steps_in p.arrays j.owner)) h.1 in
    record {
      sent = eqb-true (steps_send port (steps_in p.arrays j.source)) 1 once.0;
      taken = eqb-true (steps_take port (steps_in p.arrays j.owner)) 1 once.1;
      first = steps.0;
      second = steps.1;
      sends = steps.2;
      takes = steps.3;
      later = steps.4;
    }

-- ---- one port

positive : (a x : ℕ) → 0 < cond (a == x) 1 0 → a ≡ x
positive a x h = grind (arith, nat_tests)

pub same_is : (port other : Port) → 0 < counted port (Some other) → port ≡ other
same_is (ports.Entry y) (ports.Entry x) h = ap entry_port (sym (positive x.0 y.0 h))
same_is (ports.Entry y) (ports.Total r) h = absurd (omega arith)
same_is (ports.Total q) (ports.Entry x) h = absurd (omega arith)
same_is (ports.Total q) (ports.Total r) h = ap total_port (sym (positive r.0 q.0 h))

itself : (n : ℕ) → (n == n) ≡ true
itself n = grind (arith, nat_tests)

pub counted_own : (port : Port) → counted port (Some port) ≡ 1
counted_own (ports.Entry x) = ap (λ b. cond b 1 0) (itself x.0)
counted_own (ports.Total r) = ap (λ b. cond b 1 0) (itself r.0)

-- ---- numbers in the parts of a step

array_ranged : (entries : List Entry) (reductions : List Reduction) (number : ℕ) (arrays : List Array) (n : ℕ) (a : Array) → IsTrue (arrays_in_range entries reductions number arrays) →
    slice_get arrays n ≡ Some a → IsTrue (array_in_range entries reductions (number + n) a)
array_ranged entries reductions number [] n a all is = absurd (none-some a is)
array_ranged entries reductions number (y ∷ more) zero a all is =
    let here : number ≡ number + zero = omega arith in
    subst (λ m. IsTrue (array_in_range entries reductions m a)) here
    (subst (λ z. IsTrue (array_in_range entries reductions number z)) (same_Some y a is) (and_parts _ _ all).0)
array_ranged entries reductions number (y ∷ more) (suc n) a all is =
    let here : suc number + n ≡ number + suc n = omega arith in
    subst (λ m. IsTrue (array_in_range entries reductions m a)) here (array_ranged entries reductions (suc number) more n a (and_parts _ _ all).1 is)

abbrev pub steps_at : Option Array → List Step
steps_at o = option_map_or (λ a. a.steps) o []

abbrev pub states_at : Option Array → List State
states_at o = option_map_or (λ a. a.states) o []

abbrev pub step_parts : Option Step → List Part
step_parts o = option_map_or (λ (step : Step). step.parts) o []

abbrev pub part_block : Option Part → List Stmt
part_block o = option_map_or (λ (part : Part). part.block) o []

module _ (p : Plan) (n : ℕ) where
  -- whether a part names what is there alone, among such states
  abbrev pub fine : List State → Part → Bool
  fine states = part_in_range p.entries p.reductions n states

  step_ranged : (states : List State) (steps : List Step) (s : ℕ) (o : Option Step) → IsTrue (list_all (step_in_range p.entries p.reductions n states) steps) → slice_get steps s ≡ o →
      IsTrue (list_all (fine states) (step_parts o))
  step_ranged states steps s None all is = refl
  step_ranged states steps s (Some step) all is = each_at (step_in_range p.entries p.reductions n states) steps s step all is

  parts_ranged_in : (s : ℕ) (o : Option Array) → slice_get p.arrays n ≡ o → IsTrue (list_all (fine (states_at o)) (step_parts (slice_get (steps_at o) s)))
  parts_ranged_in s None is = refl
  parts_ranged_in s (Some a) is =
      let here : 0 + n ≡ n = omega arith in
      let whole : IsTrue (array_in_range p.entries p.reductions n a) =
      subst (λ m. IsTrue (array_in_range p.entries p.reductions m a)) here (array_ranged p.entries p.reductions 0 p.arrays n a (ranged p).arrays is) in
      step_ranged a.states a.steps s (slice_get a.steps s) (and_parts _ _ whole).1 refl

pub parts_ranged : (p : Plan) (e s : ℕ) → IsTrue (list_all (fine p (place_of p e).array (states_of p e)) (parts_at p e s))
parts_ranged p e s = parts_ranged_in p (place_of p e).array s (slice_get p.arrays (place_of p e).array) refl

-- what is known of one part
pub record PartFine (p : Plan) (n : ℕ) (states : List State) (part : Part) : Type 0 where
  pub need : IsTrue (need_in_range p.entries p.reductions n part.need)
  pub sends : IsTrue (list_all (sends_in_range p.entries p.reductions n) part.block)
  pub stmts : IsTrue (list_all (λ stmt. stmt_in_range states (values_of p.entries part.need) stmt 0) part.block)

pub part_fine : (p : Plan) (n : ℕ) (states : List State) (part : Part) → IsTrue (fine p n states part) → PartFine p n states part
part_fine p n states part h = let k = and_parts _ _ h in let q = and_parts _ _ k.0 in record { need = q.0; sends = q.1; stmts = k.1 }

-- ---- who sends and who receives

module _ (p : Plan) (n : ℕ) where
  sends_to : (x count : ℕ) (o : Option Entry) → entry_of p x ≡ o → IsTrue (sent_from n count o) → SendsTo p n x count
  sends_to x count None is h = absurd (let e : false ≡ true = h in cc)
  sends_to x count (Some entry) is h =
      let k = and_parts _ _ h in
      record { entry = entry; is = is; source = eqb-true entry.source n k.0; values = sym (eqb-true entry.values count k.1) }

  contributes_to : (r : ℕ) (o : Option Reduction) → reduction_of p r ≡ o → IsTrue (reduced_in n o) → ContributesTo p n r
  contributes_to r None is h = absurd (let e : false ≡ true = h in cc)
  contributes_to r (Some reduction) is h = record { reduction = reduction; is = is; owner = eqb-true reduction.owner n h }

  stmt_sent : (y : Stmt-F Stmt) → IsTrue (send_in_range p.entries p.reductions n y) → Sent p n y
  stmt_sent (Stmt-F.Set cell value) h = tt
  stmt_sent (Stmt-F.SetAt at cells place value) h = tt
  stmt_sent (Stmt-F.If test a b) h = tt
  stmt_sent (Stmt-F.For slot low high block) h = tt
  stmt_sent (Stmt-F.Send x values) h = sends_to x.0 (length values) (entry_of p x.0) refl h
  stmt_sent (Stmt-F.Contribute r value) h = contributes_to r.0 (reduction_of p r.0) refl h

  -- a port that a statement sends to is one to which the array's elements send
  feeds : (port : Port) (y : Stmt-F Stmt) → IsTrue (send_in_range p.entries p.reductions n y) → 0 < counted port (fed_by y) → source_array p port ≡ Some n
  feeds port (Stmt-F.Set cell value) h some = absurd (omega arith)
  feeds port (Stmt-F.SetAt at cells place value) h some = absurd (omega arith)
  feeds port (Stmt-F.If test a b) h some = absurd (omega arith)
  feeds port (Stmt-F.For slot low high block) h some = absurd (omega arith)
  feeds port (Stmt-F.Send x values) h some =
      let to = sends_to x.0 (length values) (entry_of p x.0) refl h in
      ap (source_array p) (same_is port (ports.Entry x) some) ∙ ap (λ o. option_map_or (λ (y : Entry). Some y.source) o None) to.is ∙ ap Some to.source
  feeds port (Stmt-F.Contribute r value) h some =
      let to = contributes_to r.0 (reduction_of p r.0) refl h in
      ap (source_array p) (same_is port (ports.Total r) some) ∙ ap (λ o. option_map_or (λ (y : Reduction). Some y.owner) o None) to.is ∙ ap Some to.owner

  received : (x : EntryId) (o : Option Entry) → entry_of p x.0 ≡ o → IsTrue (received_by n o) → owner_array p (ports.Entry x) ≡ Some n
  received x None is h = absurd (let e : false ≡ true = h in cc)
  received x (Some entry) is h = ap (λ o. option_map_or (λ (y : Entry). Some y.owner) o None) is ∙ ap Some (eqb-true entry.owner n h)

  port_owned : (port : Port) → IsTrue (port_in_range p.entries p.reductions n port) → owner_array p port ≡ Some n
  port_owned (ports.Entry x) h = received x (entry_of p x.0) refl h
  port_owned (ports.Total r) h =
      let to = contributes_to r.0 (reduction_of p r.0) refl h in
      ap (λ o. option_map_or (λ (y : Reduction). Some y.owner) o None) to.is ∙ ap Some to.owner

  need_owned : (port : Port) (need : Need) → IsTrue (need_in_range p.entries p.reductions n need) → 0 < takes port need → owner_array p port ≡ Some n
  need_owned port needs.Nothing h some = absurd (omega arith)
  need_owned port (needs.Port other) h some = ap (owner_array p) (same_is port other some) ∙ port_owned other h

module _ (p : Plan) (port : Port) (e s : ℕ) where
  sent_by : 0 < parts_send port (parts_at p e s) → source_array p port ≡ Some (place_of p e).array
  sent_by some =
      let n = (place_of p e).array in
      let part = passing (λ (q : Part). block_sends port q.block) (fine p n (states_of p e)) (parts_at p e s) (parts_ranged p e s) (omega (arith, parts_send_total port (parts_at p e s))) in
      let known = part_fine p n (states_of p e) part.0 part.1 in
      let stmt = passing (stmt_sends port) (sends_in_range p.entries p.reductions n) part.0.block known.sends (omega (arith, part.2, block_total port part.0.block)) in
      feeds p n port (out-Stmt stmt.0) stmt.1 stmt.2

  taken_by : 0 < parts_take port (parts_at p e s) → owner_array p port ≡ Some (place_of p e).array
  taken_by some =
      let n = (place_of p e).array in
      let part = passing (λ (q : Part). takes port q.need) (fine p n (states_of p e)) (parts_at p e s) (parts_ranged p e s) (omega (arith, parts_take_total port (parts_at p e s))) in
      need_owned p n port part.0.need (part_fine p n (states_of p e) part.0 part.1).need part.2

-- ---- in which step

module _ (port : Port) (steps : List Step) where
  -- the step in which all is sent that is sent, in steps that send once
  send_here : (s : ℕ) (o : Option Step) → slice_get steps s ≡ o → steps_send port steps ≡ 1 → 0 < parts_send port (step_parts o) → (sending_step port steps ≡ Some s) × (parts_send port (step_parts o) ≡ 1)
  send_here s None is one some = absurd (omega arith)
  send_here s (Some step) is one some =
      let all : total (λ (z : Step). parts_send port z.parts) steps ≡ 1 = sym (steps_send_total port steps) ∙ one in
      (only_first (λ (z : Step). parts_send port z.parts) steps s step all is some, (only (λ (z : Step). parts_send port z.parts) steps s step all is some).1)

  take_here : (s : ℕ) (o : Option Step) → slice_get steps s ≡ o → steps_take port steps ≡ 1 → 0 < parts_take port (step_parts o) → (taking_step port steps ≡ Some s) × (parts_take port (step_parts o) ≡ 1)
  take_here s None is one some = absurd (omega arith)
  take_here s (Some step) is one some =
      let all : total (λ (z : Step). parts_take port z.parts) steps ≡ 1 = sym (steps_take_total port steps) ∙ one in
      (only_first (λ (z : Step). parts_take port z.parts) steps s step all is some, (only (λ (z : Step). parts_take port z.parts) steps s step all is some).1)

  -- and the other way round
  sent_here : (s : ℕ) → steps_send port steps ≡ 1 → sending_step port steps ≡ Some s → parts_send port (step_parts (slice_get steps s)) ≡ 1
  sent_here s one is =
      let found = found_first (λ (z : Step). parts_send port z.parts) steps s is in
      ap (λ o. parts_send port (step_parts o)) found.1
      ∙ (only (λ (z : Step). parts_send port z.parts) steps s found.0 (sym (steps_send_total port steps) ∙ one) found.1 found.2).1

-- what an element sends in a step
pub record SendFound (p : Plan) (port : Port) (e s : ℕ) : Type 0 where
  pub joins : Joins p port
  pub source : joins.source ≡ (place_of p e).array
  pub step : sending_step port (steps_of p e) ≡ Some s
  pub once : parts_send port (parts_at p e s) ≡ 1
  -- the later step in which each receiver takes it
  pub taken_in : ℕ
  pub takes : taking_step port (steps_in p.arrays joins.owner) ≡ Some taken_in
  pub later : s < taken_in

pub send_found : (p : Plan) (port : Port) (e s : ℕ) → 0 < parts_send port (parts_at p e s) → SendFound p port e s
send_found p port e s some =
    let by = sent_by p port e s some in
    let j = joins_source p port (place_of p e).array by in
    let source : j.source ≡ (place_of p e).array = same_Some j.source (place_of p e).array (sym j.source_is ∙ by) in
    let held = exchanged p port j in
    let one : steps_send port (steps_of p e) ≡ 1 = ap (λ n. steps_send port (steps_in p.arrays n)) (sym source) ∙ held.sent in
    let here = send_here port (steps_of p e) s (slice_get (steps_of p e) s) refl one some in
    let same : held.first ≡ s = same_Some held.first s (sym held.sends ∙ ap (λ n. sending_step port (steps_in p.arrays n)) source ∙ here.0) in
    record { joins = j; source = source; step = here.0; once = here.1; taken_in = held.second; takes = held.takes; later = omega (arith, held.later, same) }

-- what an element receives in a step, and the earlier step in which each sender sends it
pub record TakeFound (p : Plan) (port : Port) (e s : ℕ) : Type 0 where
  pub joins : Joins p port
  pub owner : joins.owner ≡ (place_of p e).array
  pub step : taking_step port (steps_of p e) ≡ Some s
  pub once : parts_take port (parts_at p e s) ≡ 1
  pub sent_in : ℕ
  pub sends : sending_step port (steps_in p.arrays joins.source) ≡ Some sent_in
  pub earlier : sent_in < s

pub take_found : (p : Plan) (port : Port) (e s : ℕ) → 0 < parts_take port (parts_at p e s) → TakeFound p port e s
take_found p port e s some =
    let by = taken_by p port e s some in
    let j = joins_owner p port (place_of p e).array by in
    let owner : j.owner ≡ (place_of p e).array = same_Some j.owner (place_of p e).array (sym j.owner_is ∙ by) in
    let held = exchanged p port j in
    let one : steps_take port (steps_of p e) ≡ 1 = ap (λ n. steps_take port (steps_in p.arrays n)) (sym owner) ∙ held.taken in
    let here = take_here port (steps_of p e) s (slice_get (steps_of p e) s) refl one some in
    let same : held.second ≡ s = same_Some held.second s (sym held.takes ∙ ap (λ n. taking_step port (steps_in p.arrays n)) owner ∙ here.0) in
    record { joins = j; owner = owner; step = here.0; once = here.1; sent_in = held.first; sends = held.sends; earlier = omega (arith, held.later, same) }

-- each element of the source sends in the step that sends
module _ (p : Plan) (port : Port) (j : Joins p port) where
  pub sends_there : (f r : ℕ) → (place_of p f).array ≡ j.source → sending_step port (steps_of p f) ≡ Some r → parts_send port (parts_at p f r) ≡ 1
  sends_there f r at step = sent_here port (steps_of p f) r (ap (λ n. steps_send port (steps_in p.arrays n)) at ∙ (exchanged p port j).sent) step

-- what a part needs is received in its step
pub part_takes : (p : Plan) (e s q : ℕ) (part : Part) (port : Port) → slice_get (parts_at p e s) q ≡ Some part → part.need ≡ needs.Port port → 0 < parts_take port (parts_at p e s)
part_takes p e s q part port at need =
    let own : takes port part.need ≡ 1 = ap (takes port) need ∙ counted_own port in
    omega (arith, each_below (λ (z : Part). takes port z.need) (parts_at p e s) q part at, own, parts_take_total port (parts_at p e s))

need_taken_at : (p : Plan) (e s q : ℕ) (port : Port) (o : Option Part) → slice_get (parts_at p e s) q ≡ o →
    option_map_or (λ (part : Part). part.need) o needs.Nothing ≡ needs.Port port → 0 < parts_take port (parts_at p e s)
need_taken_at p e s q port (Some part) at need = part_takes p e s q part port at need
need_taken_at p e s q port None at need = absurd cc

pub need_takes : (p : Plan) (e s q : ℕ) (port : Port) → need_at p e s q ≡ needs.Port port → 0 < parts_take port (parts_at p e s)
need_takes p e s q port need = need_taken_at p e s q port (slice_get (parts_at p e s) q) refl need

-- ---- the laws

pub waits : Waits
waits = record {
  message = λ p e s q x sender h need from.
      let t = take_found p (ports.Entry x) e s (need_takes p e s q (ports.Entry x) need) in
      let o = entry_there p x (λ (entry : Entry). entry.owner) t.joins.owner t.joins.owner_is in
      let source : o.0.source ≡ t.joins.source = same_Some o.0.source t.joins.source (sym (ap (λ y. option_map_or (λ (z : Entry). Some z.source) y None) o.1) ∙ t.joins.source_is) in
      let back = sources_and_targets.from p x.0 e o.0 sender o.1 h (sym (o.2 ∙ t.owner)) from in
      let at : (place_of p sender.0).array ≡ t.joins.source = back.array ∙ source in
      let sends : sending_step (ports.Entry x) (steps_of p sender.0) ≡ Some t.sent_in = ap (λ n. sending_step (ports.Entry x) (steps_in p.arrays n)) at ∙ t.sends in
      record {
        entry = o.0;
        is = o.1;
        owner = sym (o.2 ∙ t.owner);
        takes = t.step;
        taken = t.once;
        element = back.element;
        source = back.array;
        target = back.back;
        step = t.sent_in;
        sends = sends;
        once = sends_there p (ports.Entry x) t.joins sender.0 t.sent_in at sends;
        earlier = t.earlier;
      };
  total = λ p e s q r need.
      let t = take_found p (ports.Total r) e s (need_takes p e s q (ports.Total r) need) in
      let o = total_there p r t.joins.owner t.joins.owner_is in
      let source : o.0.owner ≡ t.joins.source = same_Some o.0.owner t.joins.source (sym (ap (λ y. option_map_or (λ (z : Reduction). Some z.owner) y None) o.1) ∙ t.joins.source_is) in
      record {
        reduction = o.0;
        is = o.1;
        owner = sym (o.2 ∙ t.owner);
        takes = t.step;
        taken = t.once;
        step = t.sent_in;
        each = λ f at.
            let there : (place_of p f).array ≡ t.joins.source = at ∙ source in
            let sends : sending_step (ports.Total r) (steps_of p f) ≡ Some t.sent_in = ap (λ n. sending_step (ports.Total r) (steps_in p.arrays n)) there ∙ t.sends in
            record { sends = sends; once = sends_there p (ports.Total r) t.joins f t.sent_in there sends };
        earlier = t.earlier;
      };
}

pub first_step_is_free : FirstStepIsFree
first_step_is_free p e q = by (need_at p e 0 q) refl
  where
    by : (need : Need) → need_at p e 0 q ≡ need → need ≡ needs.Nothing
    by needs.Nothing is = refl
    by (needs.Port port) is = absurd (omega (arith, (take_found p port e 0 (need_takes p e 0 q port is)).earlier))

-- ---- each statement

direct_in : (p : Plan) (s : ℕ) (o : Option Array) (n : ℕ) → slice_get p.arrays n ≡ o → IsTrue (list_all part_sends_directly (step_parts (slice_get (steps_at o) s)))
direct_in p s None n is = refl
direct_in p s (Some a) n is = step_direct a.steps s (slice_get a.steps s) (each_at array_sends_directly p.arrays n a (ports_held p).direct is) refl
  where
    step_direct : (steps : List Step) (s : ℕ) (o : Option Step) → IsTrue (list_all step_sends_directly steps) → slice_get steps s ≡ o → IsTrue (list_all part_sends_directly (step_parts o))
    step_direct steps s None all is = refl
    step_direct steps s (Some step) all is = each_at step_sends_directly steps s step all is

block_declared : (p : Plan) (n : ℕ) (block : List Stmt) → IsTrue (list_all (sends_in_range p.entries p.reductions n) block) → IsTrue (list_all sends_directly block) → AllByRecursion (SendsDeclared p n) block
block_declared p n [] all direct = tt
block_declared p n (stmt ∷ more) all direct = (
  record { sends = stmt_sent p n (out-Stmt stmt) (and_parts _ _ all).0; directly = (and_parts _ _ direct).0 },
  block_declared p n more (and_parts _ _ all).1 (and_parts _ _ direct).1,
)

abbrev pub PartDeclared : Plan → ℕ → Part → Type 0
PartDeclared p n part = AllByRecursion (SendsDeclared p n) part.block

parts_declared_in : (p : Plan) (n : ℕ) (states : List State) (parts : List Part) → IsTrue (list_all (fine p n states) parts) → IsTrue (list_all part_sends_directly parts) → AllByRecursion (PartDeclared p n) parts
parts_declared_in p n states [] all direct = tt
parts_declared_in p n states (part ∷ more) all direct = (
  block_declared p n part.block (part_fine p n states part (and_parts _ _ all).0).sends (and_parts _ _ direct).0,
  parts_declared_in p n states more (and_parts _ _ all).1 (and_parts _ _ direct).1,
)

-- each statement of each part of a step
pub all_declared : (p : Plan) (e s : ℕ) → AllByRecursion (PartDeclared p (place_of p e).array) (parts_at p e s)
all_declared p e s =
    parts_declared_in p (place_of p e).array (states_of p e) (parts_at p e s) (parts_ranged p e s)
    (direct_in p s (slice_get p.arrays (place_of p e).array) (place_of p e).array refl)

pub sends_are_declared : SendsAreDeclared
sends_are_declared p e s q = at (parts_at p e s) q (all_declared p e s)
  where
    at : (parts : List Part) (q : ℕ) → AllByRecursion (PartDeclared p (place_of p e).array) parts → AllByRecursion (SendsDeclared p (place_of p e).array) (part_block (slice_get parts q))
    at [] q all = tt
    at (part ∷ more) zero all = all.0
    at (part ∷ more) (suc q) all = at more q all.1
