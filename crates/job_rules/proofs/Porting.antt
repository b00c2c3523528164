-- Ports that break no rule are sent to once and received from once, in a later step.
use Rattle.std.proofs.Common.{◌≡◌, ℕ, zero, suc, ◌+◌, ◌<◌, Bool, true, false, cond, List, [], ◌∷◌, ◌++◌, length, map, refl, ap, sym, ◌∙◌, subst, arith, Option, None, Some}
use Rattle.std.specs.Prelude.{◌&&◌, ◌==◌, not, is_none, if◌then◌else◌, nat_lt, position, replicate, slice_get}
use Rattle.std.specs.List.{list_all, position_or_len}
use Rattle.std.specs.Option.{option_map_or, option_or}
use Rattle.std.proofs.lemmas.Bool.{and_parts, eq-eqb, eqb-true, lt-ltb, ltb-true}
use Rattle.chare_base.specs.declared.message.EntryId.{EntryId}
use Rattle.chare_base.specs.declared.message.Need.{Need}
use Rattle.chare_base.specs.declared.message.Need.TheVariants as needs
use Rattle.chare_base.specs.declared.message.Port.{Port}
use Rattle.chare_base.specs.declared.message.Port.TheVariants as ports
use Rattle.chare_base.specs.declared.message.ReductionId.{ReductionId}
use Rattle.chare_base.specs.declared.plan.Array.{Array}
use Rattle.chare_base.specs.declared.plan.Entry.{Entry}
use Rattle.chare_base.specs.declared.plan.Part.{Part}
use Rattle.chare_base.specs.declared.plan.Reduction.{Reduction}
use Rattle.chare_base.specs.declared.plan.State.{State}
use Rattle.chare_base.specs.declared.plan.Step.{Step}
use Rattle.chare_base.specs.declared.plan.Stmt.{Stmt, out-Stmt}
use Rattle.chare_base.specs.declared.plan.Stmt.TheOpen.{Stmt-F}
use Rattle.chare_base.specs.Ports.{before, block_sends, counted, fed_by, parts_send, parts_take, port_holds, same_port, sending_step, steps_in, steps_send, steps_take, takes, taking_step}
use Rattle.chare_base.specs.Ranges.{array_in_range, arrays_in_range, need_in_range, part_in_range, received_by, reduced_in, send_in_range, sends_in_range, sent_from, start_in_range, step_in_range, stmt_in_range, values_of}
use Rattle.job_rules.specs.declared.fault.CheckFault.TheVariants.{NotOnce, TooEarly}
use Rattle.job_rules.specs.declared.notes.PortUse.{PortUse}
use Rattle.job_rules.specs.Faults.{Found, first_of, nothing}
use Rattle.job_rules.specs.Ports.{early_fault, extra_fault, nested_fault, once_fault, port_fault, too_few, too_many, uses_of}
use Rattle.job_rules.proofs.Counting.{both}
use Rattle.job_rules.proofs.Sending.{same_ports}
use Rattle.job_rules.proofs.Sooner.{faultless, first_none, sooner_none, unbroken}
use Rattle.job_rules.proofs.Stepping.{send_marks, take_marks}

-- ---- what one port's uses are where no fault is named

neither : (a b : Found) → option_or a b ≡ nothing → (a ≡ nothing) × (b ≡ nothing)
neither None b h = (refl, h)
neither (Some x) b h = absurd (let e : Some x ≡ nothing = h in cc)

-- one send, at top level, in a step before that of the one receipt
pub record Once (sends receipts : List PortUse) : Type 0 where
  pub send : PortUse
  pub receipt : PortUse
  pub sent_is : sends ≡ send ∷ []
  pub received_is : receipts ≡ receipt ∷ []
  pub in_time : nat_lt send.step receipt.step ≡ true

not_true : (b : Bool) → not b ≡ false → b ≡ true
not_true true h = refl
not_true false h = absurd cc

neither_missing : (a b : Option PortUse) (declared : ℕ) → too_few declared a b ≡ nothing → (is_none a ≡ false) × (is_none b ≡ false)
neither_missing (Some x) (Some y) declared h = (refl, refl)
neither_missing None b declared h = absurd (let e : Some (NotOnce declared declared) ≡ nothing = h in cc)
neither_missing (Some x) None declared h = absurd (let e : Some (NotOnce declared declared) ≡ nothing = h in cc)

no_extra : (declared : ℕ) (o : Option PortUse) → extra_fault declared o ≡ nothing → o ≡ None
no_extra declared None h = refl
no_extra declared (Some u) h = absurd (let e : Some (NotOnce declared u.at) ≡ nothing = h in cc)

one_alone : (xs : List PortUse) → slice_get xs 1 ≡ None → is_none (slice_get xs 0) ≡ false → (u : PortUse) × (xs ≡ u ∷ [])
one_alone [] h k = absurd (let e : true ≡ false = k in cc)
one_alone (u ∷ []) h k = (u, refl)
one_alone (u ∷ v ∷ more) h k = absurd (let e : Some v ≡ None = h in cc)

pub once : (declared : ℕ) (sends receipts : List PortUse) → port_fault declared sends receipts ≡ nothing → Once sends receipts × (faultless (nested_fault declared) sends ≡ true)
once declared sends receipts h =
    let whole = sooner_none (once_fault declared sends receipts) (early_fault declared (slice_get sends 0) (slice_get receipts 0)) h in
    let counts = neither (too_many declared sends receipts) (too_few declared (slice_get sends 0) (slice_get receipts 0)) whole.0 in
    let many = sooner_none (first_of (nested_fault declared) (extra_fault declared (slice_get sends 1)) sends) (extra_fault declared (slice_get receipts 1)) counts.0 in
    let first = first_none (nested_fault declared) (extra_fault declared (slice_get sends 1)) sends many.0 in
    let few = neither_missing (slice_get sends 0) (slice_get receipts 0) declared counts.1 in
    let u = one_alone sends (no_extra declared (slice_get sends 1) first.0) few.0 in
    let v = one_alone receipts (no_extra declared (slice_get receipts 1) many.1) few.1 in
    let early : early_fault declared (Some u.0) (Some v.0) ≡ nothing =
    sym (ap (λ xs. early_fault declared (slice_get xs 0) (slice_get receipts 0)) u.1 ∙ ap (λ ys. early_fault declared (Some u.0) (slice_get ys 0)) v.1) ∙ whole.1 in
    (record { send = u.0; receipt = v.0; sent_is = u.1; received_is = v.1; in_time = not_true (nat_lt u.0.step v.0.step) (unbroken (not (nat_lt u.0.step v.0.step)) (TooEarly declared u.0.at) early) }, first.1)

-- ---- one mark

module _ {A : Type 0} (f : A → ℕ) where
  abbrev total : List A → ℕ
  total [] = 0
  total (x ∷ more) = f x + total more

  abbrev marks : ℕ → List A → List ℕ
  marks k [] = []
  marks k (x ∷ more) = replicate (f x) k ++ marks (suc k) more

  abbrev counts : A → Bool
  counts x = nat_lt 0 (f x)

  none_total : (k : ℕ) (xs : List A) → marks k xs ≡ [] → total xs ≡ 0
  none_total k [] h = refl
  none_total k (x ∷ more) h = by (f x) refl h (none_total (suc k) more)
    where
      by : (n : ℕ) → f x ≡ n → replicate n k ++ marks (suc k) more ≡ [] → (marks (suc k) more ≡ [] → total more ≡ 0) → f x + total more ≡ 0
      by zero e k' rest = let r = rest k' in omega (arith, e, r)
      by (suc n) e k' rest = absurd (let c : k ∷ (replicate n k ++ marks (suc k) more) ≡ [] = k' in cc)

  record Single (k s : ℕ) (xs : List A) : Type 0 where
    one : total xs ≡ 1
    nth : ℕ
    at : s ≡ k + nth
    first : position_or_len counts xs ≡ nth
    within : nth < length xs

  single : (k s : ℕ) (xs : List A) → marks k xs ≡ s ∷ [] → Single k s xs
  single k s [] h = absurd (let e : [] ≡ s ∷ [] = h in cc)
  single k s (x ∷ more) h = by (f x) refl h (single (suc k) s more)
    where
      by : (n : ℕ) → f x ≡ n → replicate n k ++ marks (suc k) more ≡ s ∷ [] → (marks (suc k) more ≡ s ∷ [] → Single (suc k) s more) → Single k s (x ∷ more)
      by zero e g rest =
          let r = rest g in
          let c : counts x ≡ false = ap (nat_lt 0) e in
          let far : position_or_len counts (x ∷ more) ≡ suc (position_or_len counts more) = ap (λ b. cond (not b) (1 + position_or_len counts more) 0) c ∙ omega arith in
          record { one = (let t = r.one in omega (arith, e, t)); nth = suc r.nth; at = (let t = r.at in omega (arith, t)); first = far ∙ ap suc r.first; within = (let t = r.within in omega (arith, t)) }
      by (suc zero) e g rest =
          let c : counts x ≡ true = ap (nat_lt 0) e in
          let same : k ∷ marks (suc k) more ≡ s ∷ [] = g in
          let here : k ≡ s = cc in
          let none : marks (suc k) more ≡ [] = cc in
          let t = none_total (suc k) more none in
          record { one = omega (arith, e, t); nth = 0; at = omega (arith, here); first = ap (λ b. cond (not b) (1 + position_or_len counts more) 0) c; within = omega arith }
      by (suc (suc n)) e g rest = absurd (let c : k ∷ (k ∷ (replicate n k ++ marks (suc k) more)) ≡ s ∷ [] = g in cc)

  placed : (k s : ℕ) (xs : List A) (one : Single k s xs) → position counts xs ≡ Some one.nth
  placed k s xs one =
      let below : nat_lt (position_or_len counts xs) (length xs) ≡ true = lt-ltb (position_or_len counts xs) (length xs) (let a = one.first in let b = one.within in omega (arith, a, b)) in
      ap (λ b. cond b (Some (position_or_len counts xs)) None) below ∙ ap Some one.first

sends_total : (q : Port) (steps : List Step) → steps_send q steps ≡ total (λ (s : Step). parts_send q s.parts) steps
sends_total q [] = refl
sends_total q (s ∷ more) = ap (λ n. parts_send q s.parts + n) (sends_total q more)

takes_total : (q : Port) (steps : List Step) → steps_take q steps ≡ total (λ (s : Step). parts_take q s.parts) steps
takes_total q [] = refl
takes_total q (s ∷ more) = ap (λ n. parts_take q s.parts + n) (takes_total q more)

-- a port whose sends and receipts are marked once each, in this order
pub marked_once : (arrays : List Array) (q : Port) (source owner : ℕ) (s r : ℕ) → send_marks q 0 (steps_in arrays source) ≡ s ∷ [] → take_marks q 0 (steps_in arrays owner) ≡ r ∷ [] → nat_lt s r ≡ true →
    port_holds arrays q source owner ≡ true
marked_once arrays q source owner s r sent taken less =
    let x = single (λ (z : Step). parts_send q z.parts) 0 s (steps_in arrays source) sent in
    let y = single (λ (z : Step). parts_take q z.parts) 0 r (steps_in arrays owner) taken in
    let from : sending_step q (steps_in arrays source) ≡ Some x.nth = placed (λ (z : Step). parts_send q z.parts) 0 s (steps_in arrays source) x in
    let to : taking_step q (steps_in arrays owner) ≡ Some y.nth = placed (λ (z : Step). parts_take q z.parts) 0 r (steps_in arrays owner) y in
    let early : nat_lt x.nth y.nth ≡ true = lt-ltb x.nth y.nth (let a = x.at in let b = y.at in let c = ltb-true s r less in omega (arith, a, b, c)) in
    both (steps_send q (steps_in arrays source) == 1 && steps_take q (steps_in arrays owner) == 1) (before (sending_step q (steps_in arrays source)) (taking_step q (steps_in arrays owner)))
    (both (steps_send q (steps_in arrays source) == 1) (steps_take q (steps_in arrays owner) == 1)
    (eq-eqb (steps_send q (steps_in arrays source)) 1 (sends_total q (steps_in arrays source) ∙ x.one)) (eq-eqb (steps_take q (steps_in arrays owner)) 1 (takes_total q (steps_in arrays owner) ∙ y.one)))
    (ap (λ o. before o (taking_step q (steps_in arrays owner))) from ∙ ap (before (Some x.nth)) to ∙ early)

-- ---- the marks of all arrays are those of one

abbrev pub all_marks : (Array → List ℕ) → List Array → List ℕ
all_marks f [] = []
all_marks f (a ∷ more) = f a ++ all_marks f more

no_marks : (f : Array → List ℕ) (arrays : List Array) → ((i : ℕ) (a : Array) → slice_get arrays i ≡ Some a → f a ≡ []) → all_marks f arrays ≡ []
no_marks f [] h = refl
no_marks f (a ∷ more) h = ap (λ xs. xs ++ all_marks f more) (h 0 a refl) ∙ no_marks f more (λ i b is. h (suc i) b is)

append_none : (xs : List ℕ) → xs ++ [] ≡ xs
append_none [] = refl
append_none (x ∷ xs) = ap (λ l. x ∷ l) (append_none xs)

pub one_marked : (f : Array → List ℕ) (k : ℕ) (arrays : List Array) → ((i : ℕ) (a : Array) → slice_get arrays i ≡ Some a → (i ≡ k → ⊥) → f a ≡ []) → all_marks f arrays ≡ option_map_or f (slice_get arrays k) []
one_marked f k [] h = refl
one_marked f zero (a ∷ more) h = ap (λ xs. f a ++ xs) (no_marks f more (λ i b is. h (suc i) b is (λ e. let c : suc i ≡ zero = e in omega (arith, c)))) ∙ append_none (f a)
one_marked f (suc k) (a ∷ more) h = ap (λ xs. xs ++ all_marks f more) (h 0 a refl (λ e. let c : zero ≡ suc k = e in omega (arith, c))) ∙ one_marked f k more (λ i b is ne. h (suc i) b is (λ e. ne (let c : suc i ≡ suc k = e in omega (arith, c))))

-- ---- who sends to a port, and who receives from it

module _ (entries : List Entry) (reductions : List Reduction) where
  abbrev pub FedFrom : ℕ → Port → Type 0
  FedFrom i (ports.Entry x) = (e : Entry) × (slice_get entries x.0 ≡ Some e) × (e.source ≡ i)
  FedFrom i (ports.Total r) = (e : Reduction) × (slice_get reductions r.0 ≡ Some e) × (e.owner ≡ i)

  abbrev pub TakenBy : ℕ → Port → Type 0
  TakenBy i (ports.Entry x) = (e : Entry) × (slice_get entries x.0 ≡ Some e) × (e.owner ≡ i)
  TakenBy i (ports.Total r) = (e : Reduction) × (slice_get reductions r.0 ≡ Some e) × (e.owner ≡ i)

  counted_none : (P : Port → Type 0) (q r : Port) → P r → (P q → ⊥) → counted q (Some r) ≡ 0
  counted_none P q r here other = by (same_port q r) refl
    where
      by : (b : Bool) → same_port q r ≡ b → counted q (Some r) ≡ 0
      by true e = absurd (other (subst P (sym (same_ports q r e)) here))
      by false e = ap (λ b. if b then 1 else 0) e

  from_entry : (i count : ℕ) (x : EntryId) (o : Option Entry) → slice_get entries x.0 ≡ o → sent_from i count o ≡ true → FedFrom i (ports.Entry x)
  from_entry i count x None is h = absurd (let e : false ≡ true = h in cc)
  from_entry i count x (Some e) is h = (e, is, eqb-true e.source i (and_parts (e.source == i) (e.values == count) h).0)

  from_total : (i : ℕ) (x : ReductionId) (o : Option Reduction) → slice_get reductions x.0 ≡ o → reduced_in i o ≡ true → FedFrom i (ports.Total x)
  from_total i x None is h = absurd (let e : false ≡ true = h in cc)
  from_total i x (Some e) is h = (e, is, eqb-true e.owner i h)

  stmt_none : (i : ℕ) (q : Port) (x : Stmt-F Stmt) → send_in_range entries reductions i x ≡ true → (FedFrom i q → ⊥) → counted q (fed_by x) ≡ 0
  stmt_none i q (Stmt-F.Set cell value) h other = refl
  stmt_none i q (Stmt-F.SetAt at cells place value) h other = refl
  stmt_none i q (Stmt-F.If test a b) h other = refl
  stmt_none i q (Stmt-F.For slot low high block) h other = refl
  stmt_none i q (Stmt-F.Send entry sent) h other = counted_none (FedFrom i) q (ports.Entry entry) (from_entry i (length sent) entry (slice_get entries entry.0) refl h) other
  stmt_none i q (Stmt-F.Contribute reduction value) h other = counted_none (FedFrom i) q (ports.Total reduction) (from_total i reduction (slice_get reductions reduction.0) refl h) other

  block_none : (i : ℕ) (q : Port) (block : List Stmt) → list_all (sends_in_range entries reductions i) block ≡ true → (FedFrom i q → ⊥) → block_sends q block ≡ 0
  block_none i q [] h other = refl
  block_none i q (x ∷ more) h other =
      let p = and_parts (sends_in_range entries reductions i x) (list_all (sends_in_range entries reductions i) more) h in
      let a = stmt_none i q (out-Stmt x) p.0 other in
      let b = block_none i q more p.1 other in
      omega (arith, a, b)

  taken_entry : (i : ℕ) (x : EntryId) (o : Option Entry) → slice_get entries x.0 ≡ o → received_by i o ≡ true → TakenBy i (ports.Entry x)
  taken_entry i x None is h = absurd (let e : false ≡ true = h in cc)
  taken_entry i x (Some e) is h = (e, is, eqb-true e.owner i h)

  taken_total : (i : ℕ) (x : ReductionId) (o : Option Reduction) → slice_get reductions x.0 ≡ o → reduced_in i o ≡ true → TakenBy i (ports.Total x)
  taken_total i x None is h = absurd (let e : false ≡ true = h in cc)
  taken_total i x (Some e) is h = (e, is, eqb-true e.owner i h)

  need_none : (i : ℕ) (q : Port) (need : Need) → need_in_range entries reductions i need ≡ true → (TakenBy i q → ⊥) → takes q need ≡ 0
  need_none i q needs.Nothing h other = refl
  need_none i q (needs.Port (ports.Entry x)) h other = counted_none (TakenBy i) q (ports.Entry x) (taken_entry i x (slice_get entries x.0) refl h) other
  need_none i q (needs.Port (ports.Total x)) h other = counted_none (TakenBy i) q (ports.Total x) (taken_total i x (slice_get reductions x.0) refl h) other

  module _ (i : ℕ) (states : List State) where
    parts_none : (q : Port) (parts : List Part) → list_all (part_in_range entries reductions i states) parts ≡ true → (FedFrom i q → ⊥) → parts_send q parts ≡ 0
    parts_none q [] h other = refl
    parts_none q (x ∷ more) h other =
        let p = and_parts (part_in_range entries reductions i states x) (list_all (part_in_range entries reductions i states) more) h in
        let sends = and_parts (need_in_range entries reductions i x.need && list_all (sends_in_range entries reductions i) x.block) (list_all (λ stmt. stmt_in_range states (values_of entries x.need) stmt 0) x.block) p.0 in
        let a : block_sends q x.block ≡ 0 = block_none i q x.block (and_parts (need_in_range entries reductions i x.need) (list_all (sends_in_range entries reductions i) x.block) sends.0).1 other in
        let b : parts_send q more ≡ 0 = parts_none q more p.1 other in
        omega (arith, a, b)

    parts_take_none : (q : Port) (parts : List Part) → list_all (part_in_range entries reductions i states) parts ≡ true → (TakenBy i q → ⊥) → parts_take q parts ≡ 0
    parts_take_none q [] h other = refl
    parts_take_none q (x ∷ more) h other =
        let p = and_parts (part_in_range entries reductions i states x) (list_all (part_in_range entries reductions i states) more) h in
        let sends = and_parts (need_in_range entries reductions i x.need && list_all (sends_in_range entries reductions i) x.block) (list_all (λ stmt. stmt_in_range states (values_of entries x.need) stmt 0) x.block) p.0 in
        let a : takes q x.need ≡ 0 = need_none i q x.need (and_parts (need_in_range entries reductions i x.need) (list_all (sends_in_range entries reductions i) x.block) sends.0).0 other in
        let b : parts_take q more ≡ 0 = parts_take_none q more p.1 other in
        omega (arith, a, b)

    pub steps_none : (q : Port) (k : ℕ) (steps : List Step) → list_all (step_in_range entries reductions i states) steps ≡ true → (FedFrom i q → ⊥) → send_marks q k steps ≡ []
    steps_none q k [] h other = refl
    steps_none q k (x ∷ more) h other =
        let p = and_parts (step_in_range entries reductions i states x) (list_all (step_in_range entries reductions i states) more) h in
        ap (λ n. replicate n k ++ send_marks q (suc k) more) (parts_none q x.parts p.0 other) ∙ steps_none q (suc k) more p.1 other

    pub steps_take_none : (q : Port) (k : ℕ) (steps : List Step) → list_all (step_in_range entries reductions i states) steps ≡ true → (TakenBy i q → ⊥) → take_marks q k steps ≡ []
    steps_take_none q k [] h other = refl
    steps_take_none q k (x ∷ more) h other =
        let p = and_parts (step_in_range entries reductions i states x) (list_all (step_in_range entries reductions i states) more) h in
        ap (λ n. replicate n k ++ take_marks q (suc k) more) (parts_take_none q x.parts p.0 other) ∙ steps_take_none q (suc k) more p.1 other

  arrays_ranged : (number : ℕ) (arrays : List Array) (i : ℕ) (a : Array) → arrays_in_range entries reductions number arrays ≡ true → slice_get arrays i ≡ Some a →
      list_all (step_in_range entries reductions (number + i) a.states) a.steps ≡ true
  arrays_ranged number [] i a h is = absurd (let e : None ≡ Some a = is in cc)
  arrays_ranged number (b ∷ more) zero a h is =
      let same : b ≡ a = (let e : Some b ≡ Some a = is in cc) in
      let k : number ≡ number + 0 = omega arith in
      let here = (and_parts (list_all start_in_range b.states) (list_all (step_in_range entries reductions number b.states) b.steps) (and_parts (array_in_range entries reductions number b) (arrays_in_range entries reductions (suc number) more) h).0).1 in
      subst (λ n. list_all (step_in_range entries reductions n a.states) a.steps ≡ true) k (subst (λ (x : Array). list_all (step_in_range entries reductions number x.states) x.steps ≡ true) same here)
  arrays_ranged number (b ∷ more) (suc i) a h is =
      let k : suc number + i ≡ number + suc i = omega arith in
      subst (λ n. list_all (step_in_range entries reductions n a.states) a.steps ≡ true) k
      (arrays_ranged (suc number) more i a (and_parts (array_in_range entries reductions number b) (arrays_in_range entries reductions (suc number) more) h).1 is)

  -- a port that is sent to from one array and received by one
  pub port_kept : (arrays : List Array) (q : Port) (source owner p : ℕ) (sent received : List PortUse) → arrays_in_range entries reductions 0 arrays ≡ true →
      ((i : ℕ) → FedFrom i q → i ≡ source) → ((i : ℕ) → TakenBy i q → i ≡ owner) →
      map (λ (u : PortUse). u.step) (uses_of p sent) ≡ all_marks (λ (a : Array). send_marks q 0 a.steps) arrays →
      map (λ (u : PortUse). u.step) (uses_of p received) ≡ all_marks (λ (a : Array). take_marks q 0 a.steps) arrays →
      Once (uses_of p sent) (uses_of p received) → port_holds arrays q source owner ≡ true
  port_kept arrays q source owner p sent received ranged fed taken sends receipts one =
      let f : Array → List ℕ = λ a. send_marks q 0 a.steps in
      let g : Array → List ℕ = λ a. take_marks q 0 a.steps in
      let s = one_marked f source arrays (λ i a is ne.
      let k : 0 + i ≡ i = omega arith in
      steps_none i a.states q 0 a.steps (subst (λ n. list_all (step_in_range entries reductions n a.states) a.steps ≡ true) k (arrays_ranged 0 arrays i a ranged is)) (λ from. ne (fed i from))) in
      let r = one_marked g owner arrays (λ i a is ne.
      let k : 0 + i ≡ i = omega arith in
      steps_take_none i a.states q 0 a.steps (subst (λ n. list_all (step_in_range entries reductions n a.states) a.steps ≡ true) k (arrays_ranged 0 arrays i a ranged is)) (λ to. ne (taken i to))) in
      marked_once arrays q source owner one.send.step one.receipt.step
      (sym (in_steps (slice_get arrays source)) ∙ sym s ∙ sym sends ∙ ap (map (λ (u : PortUse). u.step)) one.sent_is)
      (sym (in_takes (slice_get arrays owner)) ∙ sym r ∙ sym receipts ∙ ap (map (λ (u : PortUse). u.step)) one.received_is) one.in_time
    where
      in_steps : (o : Option Array) → option_map_or (λ (a : Array). send_marks q 0 a.steps) o [] ≡ send_marks q 0 (option_map_or (λ (a : Array). a.steps) o [])
      in_steps None = refl
      in_steps (Some a) = refl

      in_takes : (o : Option Array) → option_map_or (λ (a : Array). take_marks q 0 a.steps) o [] ≡ take_marks q 0 (option_map_or (λ (a : Array). a.steps) o [])
      in_takes None = refl
      in_takes (Some a) = refl
