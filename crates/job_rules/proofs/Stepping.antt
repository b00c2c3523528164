-- Steps that break no rule, and their plans.
use Rattle.std.proofs.Common.{◌≡◌, ℕ, suc, ◌+◌, ◌≤◌, Bool, true, false, List, [], ◌∷◌, ◌++◌, length, map, refl, ap, sym, ◌∙◌, subst, arith, Option, None, Some}
use Rattle.std.specs.Prelude.{◌&&◌, ◌||◌, ◌==◌, not, is_none, is_some, if◌then◌else◌, replicate, slice_get}
use Rattle.std.specs.List.{AllByRecursion, list_all, list_any}
use Rattle.std.specs.Option.{option_map_or}
use Rattle.std.proofs.lemmas.Bool.{and_parts, eq-eqb, eqb-true}
use Rattle.std.proofs.lemmas.List.{append_assoc, map-append}
use Rattle.std.proofs.lemmas.List.Elements.{filter-append}
use Rattle.chare_base.specs.declared.message.Need.{Need}
use Rattle.chare_base.specs.declared.message.Need.TheVariants as needs
use Rattle.chare_base.specs.declared.message.Port.{Port}
use Rattle.chare_base.specs.declared.message.Port.TheVariants as ports
use Rattle.chare_base.specs.declared.plan.Entry.{Entry}
use Rattle.chare_base.specs.declared.plan.Part.{Part}
use Rattle.chare_base.specs.declared.plan.Reduction.{Reduction}
use Rattle.chare_base.specs.declared.plan.State.{State}
use Rattle.chare_base.specs.declared.plan.Step.{Step}
use Rattle.chare_base.specs.declared.plan.Stmt.{Stmt}
use Rattle.chare_base.specs.Overlap.{parts_apart, state_range}
use Rattle.chare_base.specs.Ports.{block_sends, counted, part_sends_directly, parts_send, parts_take, step_sends_directly, takes}
use Rattle.chare_base.specs.Ranges.{all_in, expr_in_range, need_in_range, part_in_range, received_by, reduced_in, sends_in_range, start_in_range, step_in_range, stmt_in_range, values_of}
use Rattle.chare_base.specs.Uses.{uses, writes}
use Rattle.chare_base.specs.Costs.{capped}
use Rattle.job_tree.specs.declared.token.Num.{Num}
use Rattle.job_tree.specs.declared.token.Span.{Span}
use Rattle.job_tree.specs.declared.tree.ArrayDecl.{ArrayDecl}
use Rattle.job_tree.specs.declared.tree.Block.{Block}
use Rattle.job_tree.specs.declared.tree.PartDecl.{PartDecl}
use Rattle.job_tree.specs.declared.tree.StateDecl.{StateDecl}
use Rattle.job_tree.specs.declared.tree.StepBody.{StepBody}
use Rattle.job_tree.specs.declared.tree.StepBody.TheVariants as bodies
use Rattle.job_tree.specs.declared.tree.StepDecl.{StepDecl}
use Rattle.job_tree.specs.Spelling as s
use Rattle.job_rules.specs.declared.fault.CheckFault.TheVariants as faults
use Rattle.job_rules.specs.declared.names.Meaning.{Meaning}
use Rattle.job_rules.specs.declared.names.Meaning.TheVariants as meanings
use Rattle.job_rules.specs.declared.notes.Notes.{Notes}
use Rattle.job_rules.specs.declared.notes.PortUse.{PortUse}
use Rattle.job_rules.specs.declared.notes.StateUse.{StateUse}
use Rattle.job_rules.specs.declared.tables.JobNames.{JobNames}
use Rattle.job_rules.specs.Faults.{Found, fault_if, name_fault, nothing}
use Rattle.job_rules.specs.Names.{Known, bytes_at, local_named, lookup, names_listed}
use Rattle.job_rules.specs.Notes.{noted}
use Rattle.job_rules.specs.Overlap.{overlap_found, use_fault}
use Rattle.job_rules.specs.PlannedArrays.{state_planned, states_planned}
use Rattle.job_rules.specs.PlannedExpressions.{expr_planned}
use Rattle.job_rules.specs.PlannedNames.{entry_id, port_meant, reduction_id}
use Rattle.job_rules.specs.Numbers.{narrow8, narrow16}
use Rattle.job_rules.specs.PlannedStatements.{block_planned}
use Rattle.job_rules.specs.PlannedSteps.{body_planned, free_part, part_planned, step_planned}
use Rattle.job_rules.specs.Ports.{uses_of}
use Rattle.job_rules.specs.Statements as w
use Rattle.job_rules.specs.Steps as t
use Rattle.job_rules.specs.Tables.{cells_written}
use Rattle.job_rules.proofs.Counting.{both}
use Rattle.job_rules.proofs.Meant.{Apart, some_item, value_at_start}
use Rattle.job_rules.proofs.Noting.{Goes, goes_on, noted_goes, stays, uses_state, writes_state}
use Rattle.job_rules.proofs.Overlapping.{PartsNoted, found_item, parts_are_apart}
use Rattle.job_rules.proofs.Places.{Sound}
use Rattle.job_rules.proofs.Sending.{SentBy, all_joined, all_parts, count_at, count_joined, count_one, in_step, is_direct, port_there, sent_and, sent_none}
use Rattle.job_rules.proofs.Sooner.{first_none, unbroken}
use Rattle.job_rules.proofs.Stating.{World, block_claim, shallow}
use Rattle.job_rules.proofs.Tabled.{IsPort, Lists, Told}

not_true : (b : Bool) → not b ≡ false → b ≡ true
not_true true h = refl
not_true false h = absurd cc

write_is_use : (q j : ℕ) (us : List StateUse) → list_any (writes_state q j) us ≡ true → list_any (uses_state q j) us ≡ true
write_is_use q j us h =
    let v = found_item (writes_state q j) us h in
    let is = and_parts (v.1.part == q) (v.1.state == j && v.1.written) v.3 in
    some_item (uses_state q j) us v.0 v.1 v.2 (both (v.1.part == q) (v.1.state == j) is.0 (and_parts (v.1.state == j) v.1.written is.1).0)

used_or : (q j : ℕ) (us : List StateUse) (r x : Bool) → (r ≡ true → list_any (uses_state q j) us ≡ true) → (x ≡ true → list_any (writes_state q j) us ≡ true) → (r || x) ≡ true → list_any (uses_state q j) us ≡ true
used_or q j us true x f g h = f refl
used_or q j us false x f g h = write_is_use q j us (g h)

overlaps_none : (b : Notes) → (t.step_closed b).found ≡ nothing → b.found ≡ nothing
unfolding t.step_closed overlap_found
overlaps_none b h = (first_none (use_fault b.uses) b.found b.uses h).0

-- ---- receipts

module _ (l : Lists) where
  -- what is noted between two lists, so often at each port
  pub record Took (step : ℕ) (old new : List PortUse) (count : Port → ℕ) : Type 0 where
    pub vs : List PortUse
    pub adds : new ≡ old ++ vs
    pub at : list_all (in_step l step) vs ≡ true
    pub counts : (p : ℕ) (q : Port) → IsPort l p q → count_at p vs ≡ count q

  append_none : (xs : List PortUse) → xs ≡ xs ++ []
  append_none [] = refl
  append_none (x ∷ xs) = ap (λ l. x ∷ l) (append_none xs)

  took_none : (step : ℕ) (old new : List PortUse) → new ≡ old → Took step old new (λ q. 0)
  took_none step old new is = record { vs = []; adds = is ∙ append_none old; at = refl; counts = λ p q h. refl }

  took_and : (step : ℕ) (a b c : List PortUse) (f g : Port → ℕ) → Took step a b f → Took step b c g → Took step a c (λ q. f q + g q)
  took_and step a b c f g x y = record {
    vs = x.vs ++ y.vs;
    adds = y.adds ∙ ap (λ z. z ++ y.vs) x.adds ∙ append_assoc a x.vs y.vs;
    at = all_joined (in_step l step) x.vs y.vs x.at y.at;
    counts = λ p q h. count_joined p x.vs y.vs ∙ ap (λ n. n + count_at p y.vs) (x.counts p q h) ∙ ap (λ n. f q + n) (y.counts p q h);
  }

  took_one : (step : ℕ) (old : List PortUse) (v : PortUse) (port : Port) → IsPort l v.port port → v.step ≡ step → Took step old (old ++ v ∷ []) (λ q. counted q (Some port))
  took_one step old v port is at = record {
    vs = v ∷ [];
    adds = refl;
    at = both (v.step == step) true (eq-eqb v.step step at) refl;
    counts = λ p q h. count_one l p q v port h is;
  }

-- the steps at which a port is sent to, and received from
abbrev pub send_marks : Port → ℕ → List Step → List ℕ
send_marks q k [] = []
send_marks q k (step ∷ more) = replicate (parts_send q step.parts) k ++ send_marks q (suc k) more

abbrev pub take_marks : Port → ℕ → List Step → List ℕ
take_marks q k [] = []
take_marks q k (step ∷ more) = replicate (parts_take q step.parts) k ++ take_marks q (suc k) more

-- a step opens its levels
abbrev pub BodyShallow : ℕ → StepBody → Type 0
BodyShallow o (bodies.Block block) = shallow (s.block_spelling block o) ≡ true
BodyShallow o (bodies.Part p) = shallow (s.block_spelling p.block o) ≡ true
BodyShallow o (bodies.Overlap at parts) = AllByRecursion (λ (p : PartDecl). shallow (s.block_spelling p.block o) ≡ true) parts

abbrev pub StepsShallow : List StepDecl → Type 0
StepsShallow steps = AllByRecursion (λ (step : StepDecl). (o : ℕ) × BodyShallow o step.body) steps

-- ---- the steps of an array

module _ (text : List ℕ) (names : JobNames) (l : Lists) (world : World text names l) (array : ℕ) (table : List Known) (states : List State)
    (sound : Sound (Told text names.arrays l array states) table) (apart : Apart states) (few : array ≤ 1000) where
  -- ---- what a part waits for

  record Waits (step : ℕ) (a b : Notes) (need : Need) (count : ℕ) : Type 0 where
    found : a.found ≡ nothing
    uses : (t : StateUse → Bool) → list_any t a.uses ≡ true → list_any t b.uses ≡ true
    sent : b.sent ≡ a.sent
    ranged : need_in_range l.entries l.reductions array need ≡ true
    values : values_of l.entries need ≡ count
    took : Took l step a.received b.received (λ q. takes q need)

  small_number : (number : ℕ) → number ≤ 1000 → narrow16 number ≡ number
  small_number number h = omega (arith, h)

  no_wider : (values e : ℕ) → e ≡ narrow8 values → e ≤ 8 → e ≡ values
  no_wider values e h k = omega (arith, h, k)

  mismatch_never : (o : Option Meaning) (name : Span) → w.mismatch_fault o name ≡ nothing → ⊥
  mismatch_never None name h = let e : Some (faults.Unknown name.at) ≡ nothing = h in cc
  mismatch_never (Some m) name h = let e : Some (faults.Kind name.at) ≡ nothing = h in cc

  waits_never : (step : ℕ) (f : Found) (a : Notes) (need : Need) (count : ℕ) → (f ≡ nothing → ⊥) → (noted f a).found ≡ nothing → Waits step a (noted f a) need count
  waits_never step f a need count never h = absurd (never (noted_goes f a h).1)

  entry_received : (number count : ℕ) (e : Entry) → slice_get l.entries number ≡ Some e → e.owner ≡ narrow16 array → e.values ≡ count → number ≤ 1000 →
      (received_by array (slice_get l.entries (entry_id number).0) ≡ true) × (option_map_or (λ (x : Entry). x.values) (slice_get l.entries (entry_id number).0) 0 ≡ count)
  entry_received number count e is owner wide small =
      let at : slice_get l.entries (entry_id number).0 ≡ Some e = ap (slice_get l.entries) (small_number number small) ∙ is in
      (ap (received_by array) at ∙ eq-eqb e.owner array (owner ∙ small_number array few), ap (λ o. option_map_or (λ (x : Entry). x.values) o 0) at ∙ wide)

  reduction_received : (number : ℕ) (e : Reduction) → slice_get l.reductions number ≡ Some e → e.owner ≡ narrow16 array → number ≤ 1000 →
      reduced_in array (slice_get l.reductions (reduction_id number).0) ≡ true
  reduction_received number e is owner small =
      ap (reduced_in array) (ap (slice_get l.reductions) (small_number number small) ∙ is) ∙ eq-eqb e.owner array (owner ∙ small_number array few)

  port_waits : (step q at count : ℕ) (o : Option Meaning) (name : Span) (a : Notes) → ((x : Meaning) → o ≡ Some x → Told text names.arrays l array states x) →
      (t.port_named (t.part_at array step q) at count o name a).found ≡ nothing → Waits step a (t.port_named (t.part_at array step q) at count o name a) (needs.Port (port_meant o)) count
  port_waits step q at count None name a told h = waits_never step (w.mismatch_fault None name) a _ _ (mismatch_never None name) h
  port_waits step q at count (Some (meanings.State number declared plain first cells)) name a told h =
      let o = Some (meanings.State number declared plain first cells) in waits_never step (w.mismatch_fault o name) a _ _ (mismatch_never o name) h
  port_waits step q at count (Some (meanings.Array number)) name a told h =
      let o = Some (meanings.Array number) in waits_never step (w.mismatch_fault o name) a _ _ (mismatch_never o name) h
  port_waits step q at count (Some (meanings.Entry port number source values)) name a told h =
      let known = told (meanings.Entry port number source values) refl in
      let f = fault_if (not (count == values)) (faults.Kind name.at) in
      let first = noted_goes f a h in
      let same : count ≡ values = eqb-true count values (not_true (count == values) (unbroken (not (count == values)) (faults.Kind name.at) first.1)) in
      let wide : known.entry.values ≡ count = no_wider values known.entry.values known.values_is (world.values number known.entry known.is) ∙ sym same in
      let facts = entry_received number count known.entry known.is known.owner_is wide known.few in
      let is : IsPort l port (ports.Entry (entry_id number)) = subst (λ k. IsPort l port (ports.Entry (record { 0 = k }))) (sym (small_number number known.few)) known.port_is in
      record {
        found = first.0.found;
        uses = λ test e. e;
        sent = refl;
        ranged = facts.0;
        values = facts.1;
        took = took_one l step a.received (w.port_use port (t.part_at array step q) at false) (ports.Entry (entry_id number)) is refl;
      }
  port_waits step q at count (Some (meanings.Reduction port number)) name a told h =
      let known = told (meanings.Reduction port number) refl in
      let f = fault_if (not (count == 1)) (faults.Kind name.at) in
      let first = noted_goes f a h in
      let same : count ≡ 1 = eqb-true count 1 (not_true (count == 1) (unbroken (not (count == 1)) (faults.Kind name.at) first.1)) in
      let is : IsPort l port (ports.Total (reduction_id number)) = subst (λ k. IsPort l port (ports.Total (record { 0 = k }))) (sym (small_number number known.few)) known.port_is in
      record {
        found = first.0.found;
        uses = λ test e. e;
        sent = refl;
        ranged = reduction_received number known.reduction known.is known.owner_is known.few;
        values = sym same;
        took = took_one l step a.received (w.port_use port (t.part_at array step q) at false) (ports.Total (reduction_id number)) is refl;
      }

  when_waits : (step q at count : ℕ) (name : Span) (a : Notes) → (t.when_walked text table (t.part_at array step q) at count name a).found ≡ nothing →
      Waits step a (t.when_walked text table (t.part_at array step q) at count name a) (needs.Port (port_meant (lookup table (bytes_at text name)))) count
  unfolding t.when_walked
  when_waits step q at count name a h =
      let first = noted (name_fault name) a in
      let facts = port_waits step q at count (lookup table (bytes_at text name)) name first (sound (bytes_at text name)) h in
      record { found = (noted_goes (name_fault name) a facts.found).0.found; uses = facts.uses; sent = facts.sent; ranged = facts.ranged; values = facts.values; took = facts.took }

  -- ---- parameters

  param_goes : (params : List Span) (number : ℕ) (name : Span) (a : Notes) → (t.param_walked text table params number name a).found ≡ nothing → Goes a (t.param_walked text table params number name a)
  unfolding t.param_walked
  param_goes params number name a h =
      let fault = fault_if (is_some (lookup table (bytes_at text name)) || not (w.is_number number (local_named text params name))) (faults.Twice name.at) in
      let second = (noted_goes fault (noted (name_fault name) a) h).0 in
      goes_on a (noted (name_fault name) a) (noted fault (noted (name_fault name) a)) (noted_goes (name_fault name) a second.found).0 second

  params_go : (params : List Span) (number : ℕ) (rest : List Span) (a : Notes) → (t.params_walked text table params number rest a).found ≡ nothing → Goes a (t.params_walked text table params number rest a)
  params_go params number [] a h = stays a h
  params_go params number (p ∷ more) a h =
      let b = t.param_walked text table params number p a in
      let later = params_go params (suc number) more b h in
      goes_on a b (t.params_walked text table params (suc number) more b) (param_goes params number p a later.found) later

  -- ---- parts

  -- what a part sends, where nothing is sent within an `if` or a loop
  record DirectPart (p : Part) (us : List PortUse) : Type 0 where
    directly : part_sends_directly p ≡ true
    ranged : part_in_range l.entries l.reductions array states p ≡ true
    counts : (port : ℕ) (q : Port) → IsPort l port q → count_at port us ≡ block_sends q p.block

  record PartFacts (step q : ℕ) (a b : Notes) (p : Part) : Type 0 where
    found : a.found ≡ nothing
    keeps : (t : StateUse → Bool) → list_any t a.uses ≡ true → list_any t b.uses ≡ true
    used : (j : ℕ) (s : State) → slice_get states j ≡ Some s → uses p.block (state_range s) ≡ true → list_any (uses_state q j) b.uses ≡ true
    wrote : (j : ℕ) (s : State) → slice_get states j ≡ Some s → writes p.block (state_range s) ≡ true → list_any (writes_state q j) b.uses ≡ true
    sent : SentBy l step false a.sent b.sent true (DirectPart p)
    took : Took l step a.received b.received (λ port. takes port p.need)

  all_in_is : (values : ℕ) (block : List Stmt) → all_in (map (stmt_in_range states values) block) 0 ≡ list_all (λ stmt. stmt_in_range states values stmt 0) block
  all_in_is values [] = refl
  all_in_is values (x ∷ more) = ap (λ b. stmt_in_range states values x 0 && b) (all_in_is values more)

  -- a part whose block has these parameters, after what comes before
  part_facts : (step q : ℕ) (params : List Span) (need : Need) (block : Block) (o : ℕ) (a b : Notes) → shallow (s.block_spelling block o) ≡ true → (b.found ≡ nothing → Waits step a b need (length params)) →
      (w.block_walked text names table (t.part_at array step q) params block [] false b).found ≡ nothing →
      PartFacts step q a (w.block_walked text names table (t.part_at array step q) params block [] false b) (record { need = need; block = block_planned text names table params block [] })
  part_facts step q params need block o a b deep waits h =
      let facts = (block_claim text names l world (t.part_at array step q) table states sound apart few params block [] o (omega arith) deep).1 false b h in
      let before = waits facts.0.found in
      let stmts = block_planned text names table params block [] in
      let range = part_in_range l.entries l.reductions array states in
      let inside : list_all (λ stmt. stmt_in_range states (values_of l.entries need) stmt 0) stmts ≡ true =
      ap (λ n. list_all (λ stmt. stmt_in_range states n stmt 0) stmts) before.values ∙ sym (all_in_is (length params) stmts) ∙ facts.0.clean.ranged in
      record {
        found = before.found;
        keeps = λ test e. facts.0.uses test (before.uses test e);
        used = λ j st is k. used_or q j (w.block_walked text names table (t.part_at array step q) params block [] false b).uses _ _ (facts.0.clean.told j st is) (facts.0.wrote.told j st is) k;
        wrote = λ j st is k. facts.0.wrote.told j st is k;
        sent = record {
          us = facts.1.us;
          adds = facts.1.adds ∙ ap (λ z. z ++ facts.1.us) before.sent;
          there = facts.1.there;
          at = facts.1.at;
          marked = facts.1.marked;
          silent = λ e. refl;
          direct = λ e k.
              let d = facts.1.direct e k in
              record {
                directly = d.directly;
                ranged = both (need_in_range l.entries l.reductions array need && list_all (sends_in_range l.entries l.reductions array) stmts) (list_all (λ stmt. stmt_in_range states (values_of l.entries need) stmt 0) stmts)
                    (both (need_in_range l.entries l.reductions array need) (list_all (sends_in_range l.entries l.reductions array) stmts) before.ranged d.ranged) inside;
                counts = d.counts;
              };
        };
        took = subst (λ z. Took l step a.received z (λ port. takes port need)) (sym facts.0.received) before.took;
      }

  waits_for_nothing : (step : ℕ) (a : Notes) → a.found ≡ nothing → Waits step a a needs.Nothing 0
  waits_for_nothing step a h = record { found = h; uses = λ t e. e; sent = refl; ranged = refl; values = refl; took = took_none l step a.received a.received refl }

  free_facts : (step q : ℕ) (block : Block) (o : ℕ) (a : Notes) → shallow (s.block_spelling block o) ≡ true → (t.free_part text names table (t.part_at array step q) block a).found ≡ nothing →
      PartFacts step q a (t.free_part text names table (t.part_at array step q) block a) (free_part text names table block)
  free_facts step q block o a deep h = part_facts step q [] needs.Nothing block o a a deep (waits_for_nothing step a) h

  with_facts : (step q : ℕ) (params : List Span) (p : PartDecl) (o : ℕ) (a : Notes) → shallow (s.block_spelling p.block o) ≡ true → (t.part_with text names table (t.part_at array step q) params p a).found ≡ nothing →
      PartFacts step q a (t.part_with text names table (t.part_at array step q) params p a)
      (record { need = needs.Port (port_meant (lookup table (bytes_at text p.port))); block = block_planned text names table params p.block [] })
  unfolding t.part_with
  with_facts step q params p o a deep h =
      let first = t.when_walked text table (t.part_at array step q) p.at (length params) p.port a in
      let second = t.params_walked text table params 0 params first in
      part_facts step q params (needs.Port (port_meant (lookup table (bytes_at text p.port)))) p.block o a second deep
      (λ e.
      let goes = params_go params 0 params first e in
      let waits = when_waits step q p.at (length params) p.port a goes.found in
      record {
        found = waits.found;
        uses = λ test k. goes.uses test (waits.uses test k);
        sent = goes.sent ∙ waits.sent;
        ranged = waits.ranged;
        values = waits.values;
        took = subst (λ z. Took l step a.received z (λ q. takes q (needs.Port (port_meant (lookup table (bytes_at text p.port)))))) (sym goes.received) waits.took;
      }) h

  -- ---- the parts of a step, from a number on

  record DirectParts (parts : List Part) (us : List PortUse) : Type 0 where
    directly : list_all part_sends_directly parts ≡ true
    ranged : list_all (part_in_range l.entries l.reductions array states) parts ≡ true
    counts : (port : ℕ) (q : Port) → IsPort l port q → count_at port us ≡ parts_send q parts

  record PartsFacts (step number : ℕ) (a b : Notes) (parts : List Part) : Type 0 where
    found : a.found ≡ nothing
    keeps : (t : StateUse → Bool) → list_any t a.uses ≡ true → list_any t b.uses ≡ true
    noted_all : PartsNoted states b.uses number parts
    sent : SentBy l step false a.sent b.sent true (DirectParts parts)
    took : Took l step a.received b.received (λ port. parts_take port parts)

  no_parts : (step number : ℕ) (a : Notes) → a.found ≡ nothing → PartsFacts step number a a []
  no_parts step number a h = record {
    found = h;
    keeps = λ t e. e;
    noted_all = tt;
    sent = sent_none l step false a.sent a.sent true (DirectParts []) refl refl (record { directly = refl; ranged = refl; counts = λ p q is. refl });
    took = took_none l step a.received a.received refl;
  }

  direct_more : (p : Part) (parts : List Part) (us vs : List PortUse) → DirectPart p us → DirectParts parts vs → DirectParts (p ∷ parts) (us ++ vs)
  direct_more p parts us vs d e = record {
    directly = both (part_sends_directly p) (list_all part_sends_directly parts) d.directly e.directly;
    ranged = both (part_in_range l.entries l.reductions array states p) (list_all (part_in_range l.entries l.reductions array states) parts) d.ranged e.ranged;
    counts = λ port q is. count_joined port us vs ∙ ap (λ n. n + count_at port vs) (d.counts port q is) ∙ ap (λ n. block_sends q p.block + n) (e.counts port q is);
  }

  more_parts : (step number : ℕ) (a b c : Notes) (p : Part) (parts : List Part) → PartFacts step number a b p → PartsFacts step (suc number) b c parts → PartsFacts step number a c (p ∷ parts)
  more_parts step number a b c p parts f g = record {
    found = f.found;
    keeps = λ t e. g.keeps t (f.keeps t e);
    noted_all = (λ j st is h. g.keeps (uses_state number j) (f.used j st is h), λ j st is h. g.keeps (writes_state number j) (f.wrote j st is h), g.noted_all);
    sent = sent_and l step false a.sent b.sent c.sent true true (DirectPart p) (DirectParts parts) (DirectParts (p ∷ parts)) (direct_more p parts) f.sent g.sent;
    took = took_and l step a.received b.received c.received (λ port. takes port p.need) (λ port. parts_take port parts) f.took g.took;
  }

  parts_facts : (step number o : ℕ) (parts : List PartDecl) (a : Notes) → AllByRecursion (λ (p : PartDecl). shallow (s.block_spelling p.block o) ≡ true) parts →
      (t.parts_walked text names table array step number parts a).found ≡ nothing →
      PartsFacts step number a (t.parts_walked text names table array step number parts a) (map (part_planned text names table) parts)
  parts_facts step number o [] a deep h = no_parts step number a h
  parts_facts step number o (p ∷ more) a deep h =
      let b = t.part_walked text names table (t.part_at array step number) p a in
      let later = parts_facts step (suc number) o more b deep.1 h in
      more_parts step number a b _ (part_planned text names table p) (map (part_planned text names table) more)
      (with_facts step number (names_listed p.names) p o a deep.0 later.found) later

  body_facts : (step o : ℕ) (body : StepBody) (a : Notes) → BodyShallow o body → (t.body_walked text names table array step body a).found ≡ nothing →
      PartsFacts step 0 a (t.body_walked text names table array step body a) (body_planned text names table body)
  body_facts step o (bodies.Block block) a deep h =
      more_parts step 0 a _ _ (free_part text names table block) [] (free_facts step 0 block o a deep h) (no_parts step 1 _ h)
  body_facts step o (bodies.Part p) a deep h =
      more_parts step 0 a _ _ (part_planned text names table p) [] (with_facts step 0 (names_listed p.names) p o a deep h) (no_parts step 1 _ h)
  body_facts step o (bodies.Overlap at parts) a deep h = parts_facts step 0 o parts a deep h

  -- ---- steps

  record StepFacts (number : ℕ) (a b : Notes) (step : Step) : Type 0 where
    found : a.found ≡ nothing
    apart_from : parts_apart states step.parts ≡ true
    sent : SentBy l number false a.sent b.sent true (DirectParts step.parts)
    took : Took l number a.received b.received (λ port. parts_take port step.parts)

  step_facts : (number o : ℕ) (step : StepDecl) (a : Notes) → BodyShallow o step.body → (t.step_walked text names table array number step a).found ≡ nothing →
      StepFacts number a (t.step_walked text names table array number step a) (step_planned text names table step)
  unfolding t.step_closed
  step_facts number o step a deep h =
      let b = t.body_walked text names table array number step.body a in
      let first = overlaps_none b h in
      let facts = body_facts number o step.body a deep first in
      let r = parts_are_apart states b.uses b.found (body_planned text names table step.body) h facts.noted_all in
      record { found = facts.found; apart_from = r.1; sent = facts.sent; took = facts.took }

  pub record DirectSteps (number : ℕ) (steps : List Step) (us : List PortUse) : Type 0 where
    pub directly : list_all step_sends_directly steps ≡ true
    pub ranged : list_all (step_in_range l.entries l.reductions array states) steps ≡ true
    pub marks : (p : ℕ) (q : Port) → IsPort l p q → map (λ u. u.step) (uses_of p us) ≡ send_marks q number steps

  pub record StepsFacts (number : ℕ) (a b : Notes) (steps : List Step) : Type 0 where
    pub found : a.found ≡ nothing
    pub apart_all : list_all (λ step. parts_apart states step.parts) steps ≡ true
    pub us : List PortUse
    pub sends : b.sent ≡ a.sent ++ us
    pub there : list_all (port_there l number) us ≡ true
    pub direct : list_all (is_direct l number) us ≡ true → DirectSteps number steps us
    pub vs : List PortUse
    pub takes_all : b.received ≡ a.received ++ vs
    pub marks : (p : ℕ) (q : Port) → IsPort l p q → map (λ u. u.step) (uses_of p vs) ≡ take_marks q number steps

  steps_map : (p : ℕ) (us vs : List PortUse) → map (λ (u : PortUse). u.step) (uses_of p (us ++ vs)) ≡ map (λ (u : PortUse). u.step) (uses_of p us) ++ map (λ (u : PortUse). u.step) (uses_of p vs)
  steps_map p us vs = ap (map (λ (u : PortUse). u.step)) (filter-append (λ (u : PortUse). u.port == p) us vs) ∙ map-append (λ (u : PortUse). u.step) (uses_of p us) (uses_of p vs)

  -- all of one step
  alike : (k p : ℕ) (us : List PortUse) → list_all (in_step l k) us ≡ true → map (λ (u : PortUse). u.step) (uses_of p us) ≡ replicate (count_at p us) k
  alike k p [] h = refl
  alike k p (u ∷ more) h =
      let tests = and_parts (u.step == k) (list_all (in_step l k) more) h in
      one (u.port == p) (eqb-true u.step k tests.0) (alike k p more tests.1)
    where
      one : (b : Bool) → u.step ≡ k → map (λ (u : PortUse). u.step) (uses_of p more) ≡ replicate (count_at p more) k →
          map (λ (u : PortUse). u.step) (if b then u ∷ uses_of p more else uses_of p more) ≡ replicate (length (if b then u ∷ uses_of p more else uses_of p more)) k
      one true e rest = ap (λ n. n ∷ map (λ (u : PortUse). u.step) (uses_of p more)) e ∙ ap (λ ns. k ∷ ns) rest
      one false e rest = rest

  no_steps : (number : ℕ) (a : Notes) → a.found ≡ nothing → StepsFacts number a a []
  no_steps number a h = record {
    found = h;
    apart_all = refl;
    us = [];
    sends = append_none l a.sent;
    there = refl;
    direct = λ e. record { directly = refl; ranged = refl; marks = λ p q is. refl };
    vs = [];
    takes_all = append_none l a.received;
    marks = λ p q is. refl;
  }

  more_steps : (number : ℕ) (a b c : Notes) (step : Step) (steps : List Step) → StepFacts number a b step → StepsFacts (suc number) b c steps → StepsFacts number a c (step ∷ steps)
  more_steps number a b c step steps f g = record {
    found = f.found;
    apart_all = both (parts_apart states step.parts) (list_all (λ (x : Step). parts_apart states x.parts) steps) f.apart_from g.apart_all;
    us = f.sent.us ++ g.us;
    sends = g.sends ∙ ap (λ z. z ++ g.us) f.sent.adds ∙ append_assoc a.sent f.sent.us g.us;
    there = all_joined (port_there l number) f.sent.us g.us f.sent.there g.there;
    direct = λ h.
        let parts = all_parts (is_direct l number) f.sent.us g.us h in
        let d = f.sent.direct refl parts.0 in
        let e = g.direct parts.1 in
        record {
          directly = both (step_sends_directly step) (list_all step_sends_directly steps) d.directly e.directly;
          ranged = both (step_in_range l.entries l.reductions array states step) (list_all (step_in_range l.entries l.reductions array states) steps) d.ranged e.ranged;
          marks = λ p q is.
              steps_map p f.sent.us g.us
              ∙ ap (λ ns. ns ++ map (λ (u : PortUse). u.step) (uses_of p g.us)) (alike number p f.sent.us f.sent.at ∙ ap (λ n. replicate n number) (d.counts p q is))
              ∙ ap (λ ns. replicate (parts_send q step.parts) number ++ ns) (e.marks p q is);
        };
    vs = f.took.vs ++ g.vs;
    takes_all = g.takes_all ∙ ap (λ z. z ++ g.vs) f.took.adds ∙ append_assoc a.received f.took.vs g.vs;
    marks = λ p q is.
        steps_map p f.took.vs g.vs
        ∙ ap (λ ns. ns ++ map (λ (u : PortUse). u.step) (uses_of p g.vs)) (alike number p f.took.vs f.took.at ∙ ap (λ n. replicate n number) (f.took.counts p q is))
        ∙ ap (λ ns. replicate (parts_take q step.parts) number ++ ns) (g.marks p q is);
  }

  steps_facts : (number : ℕ) (steps : List StepDecl) (a : Notes) → StepsShallow steps → (t.steps_walked text names table array number steps a).found ≡ nothing →
      StepsFacts number a (t.steps_walked text names table array number steps a) (map (step_planned text names table) steps)
  steps_facts number [] a deep h = no_steps number a h
  steps_facts number (step ∷ more) a deep h =
      let b = t.step_walked text names table array number step a in
      let later = steps_facts (suc number) more b deep.1 h in
      more_steps number a b _ (step_planned text names table step) (map (step_planned text names table) more) (step_facts number deep.0.0 step a deep.0.1 later.found) later

  -- ---- initial values

  sized_is : (o : Option Num) → not (is_none o) ≡ is_some o
  sized_is None = refl
  sized_is (Some n) = refl

  start_facts : (at : ℕ) (st : StateDecl) (a : Notes) → (t.start_walked text table st a).found ≡ nothing →
      Goes a (t.start_walked text table st a) × (start_in_range (state_planned text table at st) ≡ true)
  start_facts at st a h =
      let good = value_at_start text table (is_some st.cells) st.start in
      (good.goes a h, ap (λ b. expr_in_range [] (record { values = 0; loops = 0; which = b; iter = false }) (expr_planned text table [] [] st.start)) (sized_is st.cells) ∙ (good.clean a h).ranged)

  starts_facts : (at : ℕ) (ss : List StateDecl) (a : Notes) → (t.starts_walked text table ss a).found ≡ nothing →
      Goes a (t.starts_walked text table ss a) × (list_all start_in_range (states_planned text table at ss) ≡ true)
  starts_facts at [] a h = (stays a h, refl)
  starts_facts at (st ∷ more) a h =
      let b = t.start_walked text table st a in
      let next = capped (at + cells_written st.cells) in
      let later = starts_facts next more b h in
      let first = start_facts at st a later.0.found in
      (goes_on a b _ first.0 later.0, both (start_in_range (state_planned text table at st)) (list_all start_in_range (states_planned text table next more)) first.1 later.1)

  -- ---- an array

  pub record ArrayFacts (a b : Notes) (planned : List State) (steps : List Step) : Type 0 where
    pub found : a.found ≡ nothing
    pub starts : list_all start_in_range planned ≡ true
    pub apart_all : list_all (λ step. parts_apart states step.parts) steps ≡ true
    pub us : List PortUse
    pub sends : b.sent ≡ a.sent ++ us
    pub there : list_all (port_there l 0) us ≡ true
    pub direct : list_all (is_direct l 0) us ≡ true → DirectSteps 0 steps us
    pub vs : List PortUse
    pub takes_all : b.received ≡ a.received ++ vs
    pub marks : (p : ℕ) (q : Port) → IsPort l p q → map (λ u. u.step) (uses_of p vs) ≡ take_marks q 0 steps

  pub array_facts : (a : ArrayDecl) (n : Notes) → StepsShallow a.steps → (t.array_with text names table array a n).found ≡ nothing →
      ArrayFacts n (t.array_with text names table array a n) (states_planned text table 0 a.states) (map (step_planned text names table) a.steps)
  array_facts a n deep h =
      let b = t.starts_walked text table a.states n in
      let steps = steps_facts 0 a.steps b deep h in
      let starts = starts_facts 0 a.states n steps.found in
      record {
        found = starts.0.found;
        starts = starts.1;
        apart_all = steps.apart_all;
        us = steps.us;
        sends = steps.sends ∙ ap (λ z. z ++ steps.us) starts.0.sent;
        there = steps.there;
        direct = steps.direct;
        vs = steps.vs;
        takes_all = steps.takes_all ∙ ap (λ z. z ++ steps.vs) starts.0.received;
        marks = steps.marks;
      }
