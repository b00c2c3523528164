-- A tree that breaks no rule has a plan that keeps the rules of its type.
use Rattle.std.proofs.Common.{◌≡◌, ℕ, zero, suc, ◌+◌, ◌*◌, ◌≤◌, Bool, true, false, List, [], ◌∷◌, length, map, refl, ap, sym, ◌∙◌, subst, arith, None, Some}
use Rattle.std.specs.Prelude.{IsTrue, ◌&&◌, not, nat_le, nat_lt, slice_get}
use Rattle.std.specs.List.{AllByRecursion, list_all}
use Rattle.std.proofs.lemmas.Bool.{and_parts, leb-true, ltb-true}
use Rattle.std.proofs.lemmas.Option.{slice_get_within}
use Rattle.chare_base.specs.declared.plan.Array.{Array}
use Rattle.chare_base.specs.declared.plan.State.{State}
use Rattle.chare_base.specs.Costs.{capped, costs_hold}
use Rattle.chare_base.specs.Layout.{layout_holds}
use Rattle.chare_base.specs.Limits.{arrays_fit, between, limits_hold, members_fit, name_fits}
use Rattle.chare_base.specs.Names.{array_name, distinct_by, names_hold, state_name}
use Rattle.chare_base.specs.Overlap.{overlaps_hold}
use Rattle.chare_base.specs.Ports.{ports_hold}
use Rattle.chare_base.specs.Ranges.{answer_in_range, arrays_in_range, entry_in_range, ranges_hold, reduction_in_range}
use Rattle.chare_base.specs.Rules.{rules_hold}
use Rattle.job_tree.specs.declared.token.Span.{Span}
use Rattle.job_tree.specs.declared.tree.AnswerDecl.{AnswerDecl}
use Rattle.job_tree.specs.declared.tree.ArrayDecl.{ArrayDecl}
use Rattle.job_tree.specs.declared.tree.Job.{Job}
use Rattle.job_tree.specs.declared.tree.MemberDecl.{MemberDecl}
use Rattle.job_tree.specs.declared.tree.MemberDecl.TheVariants as members
use Rattle.job_tree.specs.declared.tree.PartDecl.{PartDecl}
use Rattle.job_tree.specs.declared.tree.StateDecl.{StateDecl}
use Rattle.job_tree.specs.declared.tree.StepBody.{StepBody}
use Rattle.job_tree.specs.declared.tree.StepBody.TheVariants as bodies
use Rattle.job_tree.specs.declared.tree.StepDecl.{StepDecl}
use Rattle.job_tree.specs.Accepted.{array_is_filled, is_filled, is_shallow, names_lie, span_lies, step_is_filled, word_lies}
use Rattle.job_tree.specs.Spelling as s
use Rattle.job_tree.specs.Word.{Word, level_of}
use Rattle.job_tree.proofs.Parts.{BodyWords, Holds, JobWords, array_words, job_levels, job_names as names_told, member_words, part_words, state_words, step_words}
use Rattle.job_rules.specs.declared.fault.CheckFault.TheVariants.{Twice}
use Rattle.job_rules.specs.declared.notes.Notes.{Notes}
use Rattle.job_rules.specs.declared.notes.PortUse.{PortUse}
use Rattle.job_rules.specs.declared.tables.Counts.{Counts}
use Rattle.job_rules.specs.declared.tables.JobNames.{JobNames}
use Rattle.job_rules.specs.Answers.{answer_fault, answers_found}
use Rattle.job_rules.specs.Bounds.{bounds_found}
use Rattle.job_rules.specs.Checked.{UnbrokenIsSealed, classes_found, first_fault, nothing_noted, plan_of, rules_of}
use Rattle.job_rules.specs.Declarations.{declarations_found, is_array, is_state}
use Rattle.job_rules.specs.Faults.{fault_if, name_fault, nothing}
use Rattle.job_rules.specs.Limits.{elements_written}
use Rattle.job_rules.specs.Names.{Known, bytes_at, lookup}
use Rattle.job_rules.specs.Planned.{planned}
use Rattle.job_rules.specs.PlannedAnswers.{answer_planned}
use Rattle.job_rules.specs.PlannedArrays.{array_planned, arrays_from, size_planned, states_planned}
use Rattle.job_rules.specs.PlannedMembers.{entries_from, reductions_from}
use Rattle.job_rules.specs.Numbers.{narrow32}
use Rattle.job_rules.specs.Ports.{ports_found}
use Rattle.job_rules.specs.Steps.{arrays_walked, job_walked}
use Rattle.job_rules.specs.Tables.{arrays_named, cells_written, counts_after, job_names, member_meaning, no_counts, table_at, table_of, table_or_none, tables_from}
use Rattle.job_rules.proofs.Answering.{ArrayThere, answers_kept, answers_none}
use Rattle.job_rules.proofs.Costing as c
use Rattle.job_rules.proofs.Counting.{ArraysBounded, ArraysCounted, both, bounded, cells_of_all, counted}
use Rattle.job_rules.proofs.Declared.{ArraysKept, StatesKept, declarations_kept}
use Rattle.job_rules.proofs.Gathering.{EntriesAll, EntryGood, MemberLies, PlansThere, ReductionGood, ReductionsAll, entries_good, reductions_good}
use Rattle.job_rules.proofs.Laying.{ArrayNamed, ArraysLaid, BodyFull, Lies, arrays_kept_whole, arrays_laid, between_is, counted_low, few_arrays, name_kept, shaped, states_apart, states_of_laid}
use Rattle.job_rules.proofs.Places.{IsBelow, Sound, Tail, arrays_sound, none_sound, tail_here, tail_next, tail_whole}
use Rattle.job_rules.proofs.Sending.{is_direct, port_there}
use Rattle.job_rules.proofs.Singling.{FewMembers, Numbered, StatesNumbered, all_entries_fit, all_entries_ranged, all_reductions_fit, all_reductions_ranged, array_same, distinct, entry_values, members_kept, names_kept, ports_kept, state_same}
use Rattle.job_rules.proofs.Sooner.{faultless, sooner_none, unbroken}
use Rattle.job_rules.proofs.Stating.{World, shallow}
use Rattle.job_rules.proofs.Stepping.{BodyShallow, StepsShallow}
use Rattle.job_rules.proofs.Tabled.{Lists, Standing, Told, entry_numbers_from, ports_from, reduction_numbers_from, table_told}
use Rattle.job_rules.proofs.Walking.{DirectArrays, HeldFrom, JobFacts, KnownFrom, ThereFrom, all_direct, all_there, arrays_facts, each_held, marks_in, ports_held}

-- ---- what a tree carries

all_as : {A : Type 0} (P Q : A → Type 0) → ((x : A) → P x → Q x) → (xs : List A) → AllByRecursion P xs → AllByRecursion Q xs
all_as P Q f [] h = tt
all_as P Q f (x ∷ xs) h = (f x h.0, all_as P Q f xs h.1)

lies : (text : List ℕ) (name : Span) → IsTrue (span_lies (length text) name) → Lies text name
lies text name h = let p = and_parts (nat_le 1 name.len) (nat_le (name.at + name.len) (length text)) h in (leb-true 1 name.len p.0, leb-true (name.at + name.len) (length text) p.1)

member_lies : (text : List ℕ) (o : ℕ) (m : MemberDecl) → Holds (word_lies (length text)) (s.member_spelling m o) → MemberLies text m
member_lies text o (members.Entry e) h = lies text e.name (member_words (word_lies (length text)) o (members.Entry e) h).0
member_lies text o (members.Reduce r) h = lies text r.name (member_words (word_lies (length text)) o (members.Reduce r) h)

body_full : (b : StepBody) → step_is_filled (record { at = 0; body = b }) ≡ true → BodyFull b
body_full (bodies.Block block) h = tt
body_full (bodies.Part p) h = tt
body_full (bodies.Overlap at parts) h = let few = ltb-true 1 (length parts) h in omega (arith, few)

steps_full : (steps : List StepDecl) → list_all step_is_filled steps ≡ true → AllByRecursion (λ (x : StepDecl). BodyFull x.body) steps
steps_full [] h = tt
steps_full (x ∷ more) h = let p = and_parts (step_is_filled x) (list_all step_is_filled more) h in (body_full x.body p.0, steps_full more p.1)

array_named : (text : List ℕ) (a : ArrayDecl) → Holds (word_lies (length text)) (s.array_spelling a 0) → array_is_filled a ≡ true → ArrayNamed text a
array_named text a h filled =
    let test = word_lies (length text) in
    let words = array_words test 0 a h in
    let p = and_parts (nat_lt 0 (length a.states) && nat_lt 0 (length a.steps)) (list_all step_is_filled a.steps) filled in
    let q = and_parts (nat_lt 0 (length a.states)) (nat_lt 0 (length a.steps)) p.0 in
    let states = ltb-true 0 (length a.states) q.0 in
    let steps = ltb-true 0 (length a.steps) q.1 in
    record {
      name = lies text a.name words.name;
      states = all_as (λ (x : StateDecl). Holds test (s.state_spelling x 1)) (λ (x : StateDecl). Lies text x.name) (λ x k. lies text x.name (state_words test 1 x k).name) a.states words.states;
      some_states = omega (arith, states);
      some_steps = omega (arith, steps);
      full = steps_full a.steps p.1;
    }

arrays_named_all : (text : List ℕ) (decls : List ArrayDecl) → AllByRecursion (λ (a : ArrayDecl). Holds (word_lies (length text)) (s.array_spelling a 0)) decls → list_all array_is_filled decls ≡ true → AllByRecursion (ArrayNamed text) decls
arrays_named_all text [] h filled = tt
arrays_named_all text (a ∷ more) h filled = let p = and_parts (array_is_filled a) (list_all array_is_filled more) filled in (array_named text a h.0 p.0, arrays_named_all text more h.1 p.1)

abbrev MembersLie : List ℕ → List ArrayDecl → Type 0
MembersLie text decls = AllByRecursion (λ (a : ArrayDecl). AllByRecursion (MemberLies text) a.members) decls

members_lie : (text : List ℕ) (a : ArrayDecl) → Holds (word_lies (length text)) (s.array_spelling a 0) → AllByRecursion (MemberLies text) a.members
members_lie text a h =
    let test = word_lies (length text) in
    all_as (λ (m : MemberDecl). Holds test (s.member_spelling m 1)) (MemberLies text) (λ m k. member_lies text 1 m k) a.members (array_words test 0 a h).members

abbrev level_fits : Word → Bool
level_fits w = nat_le (level_of w) 32

step_shallow : (x : StepDecl) → Holds level_fits (s.step_spelling x 1) → (o : ℕ) × BodyShallow o x.body
step_shallow x h = by x.body (step_words level_fits 1 x h)
  where
    by : (b : StepBody) → BodyWords level_fits 1 b → (o : ℕ) × BodyShallow o b
    by (bodies.Block block) k = (1, k)
    by (bodies.Part p) k = (1, (part_words level_fits 1 p k).block)
    by (bodies.Overlap at parts) k = (2, all_as (λ (p : PartDecl). Holds level_fits (s.part_spelling p 2)) (λ (p : PartDecl). shallow (s.block_spelling p.block 2) ≡ true) (λ p e. (part_words level_fits 2 p e).block) parts k)

steps_shallow : (a : ArrayDecl) → Holds level_fits (s.array_spelling a 0) → StepsShallow a.steps
steps_shallow a h = all_as (λ (x : StepDecl). Holds level_fits (s.step_spelling x 1)) (λ (x : StepDecl). (o : ℕ) × BodyShallow o x.body) step_shallow a.steps (array_words level_fits 0 a h).steps

few_members : (n e all : ℕ) (decls : List ArrayDecl) → ArraysCounted n e all decls → FewMembers decls
few_members n e all [] h = tt
few_members n e all (a ∷ more) h = (h.0.members, few_members (suc n) (e + elements_written a.sizes) (all + elements_written a.sizes * cells_of_all a.states) more h.1)

little_costs : (n e all : ℕ) (decls : List ArrayDecl) → ArraysCounted n e all decls → list_all c.costs_little decls ≡ true
little_costs n e all [] h = refl
little_costs n e all (a ∷ more) h = both (c.costs_little a) (list_all c.costs_little more) h.0.costs (little_costs (suc n) (e + elements_written a.sizes) (all + elements_written a.sizes * cells_of_all a.states) more h.1)

not_true : (b : Bool) → not b ≡ false → b ≡ true
not_true true h = refl
not_true false h = absurd (let e : true ≡ false = h in cc)

-- ---- a job

module _ (text : List ℕ) (names : JobNames) (decls : List ArrayDecl) (arrays_is : names.arrays ≡ arrays_named text 0 decls []) (tables_is : names.tables ≡ tables_from text names.arrays no_counts decls) where
  abbrev l : Lists
  l = record {
    all = ports_from no_counts decls;
    entries = entries_from text names.arrays 0 decls;
    reductions = reductions_from text 0 decls;
    entry_numbers = entry_numbers_from no_counts decls;
    reduction_numbers = reduction_numbers_from no_counts decls;
  }

  abbrev plans : List Array
  plans = arrays_from text names 0 0 decls

  -- ---- the plan of each array

  plan_at : (i first : ℕ) (rest : List ArrayDecl) (k : ℕ) (a : ArrayDecl) → slice_get rest k ≡ Some a → (f : ℕ) × (slice_get (arrays_from text names i first rest) k ≡ Some (array_planned text names (i + k) f a))
  plan_at i first [] k a is = absurd (let e : None ≡ Some a = is in cc)
  plan_at i first (b ∷ more) zero a is =
      let same : b ≡ a = (let e : Some b ≡ Some a = is in cc) in
      let k : i ≡ i + 0 = omega arith in
      (first, ap (λ (x : ArrayDecl). Some (array_planned text names i first x)) same ∙ ap (λ n. Some (array_planned text names n first a)) k)
  plan_at i first (b ∷ more) (suc k) a is =
      let r = plan_at (suc i) (narrow32 (first + size_planned b.sizes)) more k a is in
      let e : suc i + k ≡ i + suc k = omega arith in
      (r.0, r.1 ∙ ap (λ n. Some (array_planned text names n r.0 a)) e)

  arrays_below : Sound (IsBelow (length decls)) names.arrays
  arrays_below = subst (Sound (IsBelow (length decls))) (sym arrays_is) (arrays_sound text (length decls) 0 decls [] (omega arith) (none_sound (IsBelow (length decls))))

  plans_there : (sent received : List PortUse) → length plans ≡ length decls → length decls ≤ 8 → PlansThere text names decls l plans sent received
  plans_there sent received count few = record {
    count = count;
    few = few;
    sound = arrays_below;
    plan = λ n a is. let r = plan_at 0 0 decls n a is in let e : 0 + n ≡ n = omega arith in (r.0, r.1 ∙ ap (λ k. Some (array_planned text names k r.0 a)) e);
  }

  -- ---- tables

  abbrev states_in : ℕ → ArrayDecl → List State
  states_in i a = states_planned text (table_at names i) 0 a.states

  abbrev ToldFrom : ℕ → List ArrayDecl → Type 0
  ToldFrom i [] = Unit {0}
  ToldFrom i (a ∷ more) = Sound (Told text names.arrays l i (states_in i a)) (table_at names i) × ToldFrom (suc i) more

  told_from : (i : ℕ) (c : Counts) (rest : List ArrayDecl) → ThereFrom text names.arrays l i c rest → Tail names.tables i (tables_from text names.arrays c rest) → ToldFrom i rest
  told_from i c [] there t = tt
  told_from i c (a ∷ more) there t =
      let table = table_of text names.arrays c a in
      let others = tables_from text names.arrays (counts_after c a.members) more in
      let is : table_at names i ≡ table = ap table_or_none (tail_here names.tables i table others t) in (
        subst (Sound (Told text names.arrays l i (states_in i a))) (sym is) (table_told text names.arrays l i (states_in i a) (table_at names i) c a there.0 (tail_whole (states_in i a))),
        told_from (suc i) (counts_after c a.members) more there.2 (tail_next names.tables i table others t),
      )

  table_known : (i : ℕ) (c : Counts) (rest : List ArrayDecl) (k : ℕ) → ToldFrom i rest → Tail names.tables i (tables_from text names.arrays c rest) → (states : List State) × Sound (Told text names.arrays l (i + k) states) (table_at names (i + k))
  table_known i c [] k told t =
      let is : table_at names (i + k) ≡ [] = ap table_or_none (t k) in
      ([], subst (Sound (Told text names.arrays l (i + k) [])) (sym is) (none_sound (Told text names.arrays l (i + k) [])))
  table_known i c (a ∷ more) zero told t =
      let e : i ≡ i + 0 = omega arith in
      (states_in i a, subst (λ n. Sound (Told text names.arrays l n (states_in i a)) (table_at names n)) e told.0)
  table_known i c (a ∷ more) (suc k) told t =
      let e : suc i + k ≡ i + suc k = omega arith in
      let r = table_known (suc i) (counts_after c a.members) more k told.1 (tail_next names.tables i (table_of text names.arrays c a) (tables_from text names.arrays (counts_after c a.members) more) t) in
      (r.0, subst (λ n. Sound (Told text names.arrays l n r.0) (table_at names n)) e r.1)

  -- ---- declared once

  states_numbered : (i number at : ℕ) (table : List Known) (ss : List StateDecl) → StatesKept text names i number ss → Numbered state_name (member_meaning names i) is_state state_same number (states_planned text table at ss)
  states_numbered i number at table [] kept = tt
  states_numbered i number at table (x ∷ more) kept =
      let first = is_state number (member_meaning names i (bytes_at text x.name)) in
      let fault = sooner_none (name_fault x.name) (fault_if (not first) (Twice x.name.at)) kept.0 in
      (not_true first (unbroken (not first) (Twice x.name.at) fault.1), states_numbered i (suc number) (capped (at + cells_written x.cells)) table more kept.1)

  each_numbered : (i first : ℕ) (counts : Counts) (rest : List ArrayDecl) (k : ℕ) (a : Array) → ArraysKept text names decls i counts rest → slice_get (arrays_from text names i first rest) k ≡ Some a →
      Numbered state_name (member_meaning names (i + k)) is_state state_same 0 a.states
  each_numbered i first counts [] k a kept is = absurd (let e : None ≡ Some a = is in cc)
  each_numbered i first counts (b ∷ more) zero a kept is =
      let one = array_planned text names i first b in
      let same : one ≡ a = (let e : Some one ≡ Some a = is in cc) in
      let e : i ≡ i + 0 = omega arith in
      subst (λ n. Numbered state_name (member_meaning names n) is_state state_same 0 a.states) e
      (subst (λ (x : Array). Numbered state_name (member_meaning names i) is_state state_same 0 x.states) same (states_numbered i 0 0 (table_at names i) b.states kept.0.1))
  each_numbered i first counts (b ∷ more) (suc k) a kept is =
      let e : suc i + k ≡ i + suc k = omega arith in
      subst (λ n. Numbered state_name (member_meaning names n) is_state state_same 0 a.states) e (each_numbered (suc i) (narrow32 (first + size_planned b.sizes)) (counts_after counts b.members) more k a kept.1 is)

  arrays_numbered : (i first : ℕ) (counts : Counts) (rest : List ArrayDecl) → ArraysKept text names decls i counts rest → Numbered array_name (lookup names.arrays) is_array array_same i (arrays_from text names i first rest)
  arrays_numbered i first counts [] kept = tt
  arrays_numbered i first counts (a ∷ more) kept =
      let here = is_array i (lookup names.arrays (bytes_at text a.name)) in
      let fault = sooner_none (name_fault a.name) (fault_if (not here) (Twice a.name.at)) kept.0.0 in
      (not_true here (unbroken (not here) (Twice a.name.at) fault.1), arrays_numbered (suc i) (narrow32 (first + size_planned a.sizes)) (counts_after counts a.members) more kept.1)

  states_distinct : (i first : ℕ) (counts : Counts) (rest : List ArrayDecl) → ArraysKept text names decls i counts rest → list_all (λ (a : Array). distinct_by state_name a.states) (arrays_from text names i first rest) ≡ true
  states_distinct i first counts [] kept = refl
  states_distinct i first counts (a ∷ more) kept =
      let next = narrow32 (first + size_planned a.sizes) in
      both (distinct_by state_name (states_in i a)) (list_all (λ (x : Array). distinct_by state_name x.states) (arrays_from text names (suc i) next more))
      (distinct state_name (member_meaning names i) is_state state_same 0 (states_in i a) (states_numbered i 0 0 (table_at names i) a.states kept.0.1))
      (states_distinct (suc i) next (counts_after counts a.members) more kept.1)

  -- ---- arrays

  array_there : (i first all : ℕ) (rest : List ArrayDecl) (k : ℕ) (a : ArrayDecl) → ArraysCounted i first all rest → ArraysBounded rest → ToldFrom i rest → Tail plans i (arrays_from text names i first rest) → slice_get rest k ≡ Some a → ArrayThere text names decls l plans (i + k) a
  array_there i first all [] k a few fine told t is = absurd (let e : None ≡ Some a = is in cc)
  array_there i first all (b ∷ more) zero a few fine told t is =
      let same : b ≡ a = (let e : Some b ≡ Some a = is in cc) in
      let e : i ≡ i + 0 = omega arith in
      let low = counted_low (suc i) (first + elements_written b.sizes) (all + elements_written b.sizes * cells_of_all b.states) more few.1 in
      let room = low.1 in
      subst (λ n. ArrayThere text names decls l plans n a) e (subst (ArrayThere text names decls l plans i) same (record {
        first = first;
        plan = tail_here plans i (array_planned text names i first b) (arrays_from text names (suc i) (narrow32 (first + size_planned b.sizes)) more) t;
        told = told.0;
        laid = states_of_laid text names decls i b few.0 fine.0;
        few = few.0.states;
        few_cells = few.0.cells;
        shape = shaped b.sizes fine.0.first fine.0.second (omega (arith, room));
        room = room;
      }))
  array_there i first all (b ∷ more) (suc k) a few fine told t is =
      let e : suc i + k ≡ i + suc k = omega arith in
      let size = elements_written b.sizes in
      let low = counted_low (suc i) (first + size) (all + size * cells_of_all b.states) more few.1 in
      let room = low.1 in
      let shape = shaped b.sizes fine.0.first fine.0.second (omega (arith, room)) in
      let size_is = shape.size in
      let next_is : narrow32 (first + size_planned b.sizes) ≡ first + size = omega (arith, size_is, room) in
      let tail = tail_next plans i (array_planned text names i first b) (arrays_from text names (suc i) (narrow32 (first + size_planned b.sizes)) more) t in
      subst (λ n. ArrayThere text names decls l plans n a) e
      (array_there (suc i) (first + size) (all + size * cells_of_all b.states) more k a few.1 fine.1 told.1 (subst (λ n. Tail plans (suc i) (arrays_from text names (suc i) n more)) next_is tail) is)

  -- ---- entries and reductions of all arrays

  module _ (sent received : List PortUse) (there : PlansThere text names decls l plans sent received) where
    entries_all : (i : ℕ) (c : Counts) (rest : List ArrayDecl) → Tail decls i rest → ThereFrom text names.arrays l i c rest → ArraysKept text names decls i c rest → ArraysBounded rest → MembersLie text rest → HeldFrom sent received c rest →
        EntriesAll (EntryGood text names decls l plans sent received) c.entries (entries_from text names.arrays i rest)
    entries_all i c [] t at kept fine named held = tt
    entries_all i c (a ∷ more) t at kept fine named held =
        let here = tail_here decls i a more t in
        entries_good text names decls l plans sent received there i a here (slice_get_within decls i a here) c a.members (entries_from text names.arrays (suc i) more) at.1 at.0 kept.0.2 fine.0.members named.0 held.0
        (entries_all (suc i) (counts_after c a.members) more (tail_next decls i a more t) at.2 kept.1 fine.1 named.1 held.1)

    reductions_all : (i : ℕ) (c : Counts) (rest : List ArrayDecl) → Tail decls i rest → ThereFrom text names.arrays l i c rest → ArraysKept text names decls i c rest → MembersLie text rest → HeldFrom sent received c rest →
        ReductionsAll (ReductionGood text names decls l plans sent received) c.reductions (reductions_from text i rest)
    reductions_all i c [] t at kept named held = tt
    reductions_all i c (a ∷ more) t at kept named held =
        let here = tail_here decls i a more t in
        reductions_good text names decls l plans sent received there i a here (slice_get_within decls i a here) c a.members (reductions_from text (suc i) more) at.1 at.0 kept.0.2 named.0 held.0
        (reductions_all (suc i) (counts_after c a.members) more (tail_next decls i a more t) at.2 kept.1 named.1 held.1)

  known_from : (world : World text names l) (i e all : ℕ) (rest : List ArrayDecl) → ArraysCounted i e all rest → ArraysBounded rest → ToldFrom i rest → AllByRecursion (λ (a : ArrayDecl). StepsShallow a.steps) rest → KnownFrom text names l world i rest
  known_from world i e all [] few fine told deep = tt
  known_from world i e all (a ∷ more) few fine told deep =
      let low = counted_low (suc i) (e + elements_written a.sizes) (all + elements_written a.sizes * cells_of_all a.states) more few.1 in
      let short = low.0 in (
        record { told = told.0; apart = states_apart text names decls i a few.0 fine.0; deep = deep.0; few = omega (arith, short) },
        known_from world (suc i) (e + elements_written a.sizes) (all + elements_written a.sizes * cells_of_all a.states) more few.1 fine.1 told.1 deep.1,
      )

-- ---- the whole

-- what no class of rules finds broken
record Unbroken (text : List ℕ) (names : JobNames) (job : Job) (n : Notes) : Type 0 where
  found : n.found ≡ nothing
  counts : ArraysCounted 0 0 0 job.arrays
  few_answers : length job.answers ≤ 16
  often : (1 ≤ job.iterations.value) × (job.iterations.value ≤ 1000000)
  bounds : ArraysBounded job.arrays
  answers : faultless (answer_fault text names job.arrays) job.answers ≡ true
  held : HeldFrom n.sent n.received no_counts job.arrays
  name : name_fault job.name ≡ nothing
  kept : ArraysKept text names job.arrays 0 no_counts job.arrays

abbrev walked : List ℕ → JobNames → Job → Notes
walked text names job = arrays_walked text names 0 job.arrays nothing_noted

unbroken_all : (text : List ℕ) (names : JobNames) (job : Job) → classes_found text names job ≡ nothing → Unbroken text names job (walked text names job)
unfolding classes_found job_walked
unbroken_all text names job h =
    let n = walked text names job in
    let declarations = declarations_found text names job n.found in
    let ports = ports_found job n.sent n.received declarations in
    let answers = answers_found text names job ports in
    let a = counted job (bounds_found job answers) h in
    let b = bounded job answers a.0 in
    let c = answers_none text names job ports b.0 in
    let d = ports_held n.sent n.received job declarations c.0 in
    let e = declarations_kept text names job n.found d.0 in
    record { found = e.0; counts = a.1; few_answers = a.2; often = b.1; bounds = b.2; answers = c.1; held = d.1; name = e.1; kept = e.2 }

length_answers : (text : List ℕ) (names : JobNames) (arrays : List Array) (xs : List AnswerDecl) → length (map (answer_planned text names arrays) xs) ≡ length xs
length_answers text names arrays [] = refl
length_answers text names arrays (x ∷ more) = ap suc (length_answers text names arrays more)

module _ (text : List ℕ) (names : JobNames) (job : Job) (arrays_is : names.arrays ≡ arrays_named text 0 job.arrays []) (tables_is : names.tables ≡ tables_from text names.arrays no_counts job.arrays)
    (shallow_tree : IsTrue (is_shallow 32 job)) (named : IsTrue (names_lie (length text) job)) (some_arrays : 1 ≤ length job.arrays) (full : list_all array_is_filled job.arrays ≡ true) (some_answers : 1 ≤ length job.answers)
    (h : classes_found text names job ≡ nothing) where
  abbrev lists : Lists
  lists = l text names job.arrays arrays_is tables_is

  abbrev arrays : List Array
  arrays = plans text names job.arrays arrays_is tables_is

  abbrev notes : Notes
  notes = walked text names job

  facts : Unbroken text names job notes
  facts = unbroken_all text names job h

  words : JobWords (word_lies (length text)) 0 job
  words = names_told (length text) job named

  few : length job.arrays ≤ 8
  few = few_arrays job.arrays facts.counts

  laid : ArraysLaid 0 0 job.arrays arrays
  laid = arrays_laid text names job.arrays 0 0 0 no_counts job.arrays facts.counts facts.bounds (arrays_named_all text job.arrays words.arrays full) facts.kept

  member_counts : FewMembers job.arrays
  member_counts = few_members 0 0 0 job.arrays facts.counts

  standing : Standing lists no_counts (ports_from no_counts job.arrays) (entries_from text names.arrays 0 job.arrays) (reductions_from text 0 job.arrays) (entry_numbers_from no_counts job.arrays) (reduction_numbers_from no_counts job.arrays)
  standing = record {
    all = tail_whole (ports_from no_counts job.arrays);
    entries = tail_whole (entries_from text names.arrays 0 job.arrays);
    reductions = tail_whole (reductions_from text 0 job.arrays);
    entry_numbers = tail_whole (entry_numbers_from no_counts job.arrays);
    reduction_numbers = tail_whole (reduction_numbers_from no_counts job.arrays);
  }

  there : ThereFrom text names.arrays lists 0 no_counts job.arrays
  there = all_there text names.arrays lists 0 no_counts job.arrays (let k = few in record { ports = omega (arith, k); sum = refl }) member_counts standing

  tables : Tail names.tables 0 (tables_from text names.arrays no_counts job.arrays)
  tables = subst (λ (ts : List (List Known)). Tail ts 0 (tables_from text names.arrays no_counts job.arrays)) (sym tables_is) (tail_whole (tables_from text names.arrays no_counts job.arrays))

  told : ToldFrom text names job.arrays arrays_is tables_is 0 job.arrays
  told = told_from text names job.arrays arrays_is tables_is 0 no_counts job.arrays there tables

  plans_known : PlansThere text names job.arrays lists arrays notes.sent notes.received
  plans_known = plans_there text names job.arrays arrays_is tables_is notes.sent notes.received laid.count few

  lie : MembersLie text job.arrays
  lie = all_as (λ (a : ArrayDecl). Holds (word_lies (length text)) (s.array_spelling a 0)) (λ (a : ArrayDecl). AllByRecursion (MemberLies text) a.members) (members_lie text) job.arrays words.arrays

  entries : EntriesAll (EntryGood text names job.arrays lists arrays notes.sent notes.received) 0 (entries_from text names.arrays 0 job.arrays)
  entries = entries_all text names job.arrays arrays_is tables_is notes.sent notes.received plans_known 0 no_counts job.arrays (tail_whole job.arrays) there facts.kept facts.bounds lie facts.held

  reductions : ReductionsAll (ReductionGood text names job.arrays lists arrays notes.sent notes.received) 0 (reductions_from text 0 job.arrays)
  reductions = reductions_all text names job.arrays arrays_is tables_is notes.sent notes.received plans_known 0 no_counts job.arrays (tail_whole job.arrays) there facts.kept lie facts.held

  world : World text names lists
  world = record {
    tables = λ k. let r = table_known text names job.arrays arrays_is tables_is 0 no_counts job.arrays k told tables in let e : 0 + k ≡ k = omega arith in (r.0, subst (λ n. Sound (Told text names.arrays lists n r.0) (table_at names n)) e r.1);
    values = λ x e is. entry_values text names job.arrays lists arrays notes.sent notes.received 0 x e (entries_from text names.arrays 0 job.arrays) entries is;
  }

  deep : AllByRecursion (λ (a : ArrayDecl). StepsShallow a.steps) job.arrays
  deep = all_as (λ (a : ArrayDecl). Holds level_fits (s.array_spelling a 0)) (λ (a : ArrayDecl). StepsShallow a.steps) steps_shallow job.arrays (job_levels 32 job shallow_tree).arrays

  known : KnownFrom text names lists world 0 job.arrays
  known = known_from text names job.arrays arrays_is tables_is world 0 0 0 job.arrays facts.counts facts.bounds told deep

  -- what the walk noted
  walk : JobFacts text names lists world 0 nothing_noted notes arrays
  walk = arrays_facts text names lists world 0 0 job.arrays nothing_noted known facts.found

  sent_is : notes.sent ≡ walk.us
  sent_is = walk.sends

  received_is : notes.received ≡ walk.vs
  received_is = walk.takes_all

  all_at_top : list_all (is_direct lists 0) walk.us ≡ true
  all_at_top =
      ap (list_all (is_direct lists 0)) (sym sent_is)
      ∙ all_direct lists notes.sent notes.received (ap (list_all (port_there lists 0)) sent_is ∙ walk.there) (each_held notes.sent notes.received job.arrays few member_counts facts.held)

  direct : DirectArrays text names lists world 0 arrays walk.us
  direct = walk.direct all_at_top

  -- ---- the rules of the plan, one by one

  limits_kept : limits_hold (bytes_at text job.name) job.iterations.value arrays lists.entries lists.reductions (map (answer_planned text names arrays) job.answers) ≡ true
  unfolding limits_hold
  limits_kept =
      let name = bytes_at text job.name in
      let often = between 1 1000000 job.iterations.value in
      let count = length_answers text names arrays job.answers in
      let most = facts.few_answers in
      let answers = between 1 16 (length (map (answer_planned text names arrays) job.answers)) in
      let fit = (arrays_kept_whole text names job.arrays job.arrays laid few some_arrays).0 in
      both (name_fits name && often && arrays_fit arrays && answers) (members_fit lists.entries lists.reductions)
      (both (name_fits name && often && arrays_fit arrays) answers
      (both (name_fits name && often) (arrays_fit arrays)
      (both (name_fits name) often (name_kept text job.name (lies text job.name words.name) facts.name) (between_is 1 1000000 job.iterations.value facts.often.0 facts.often.1)) fit)
      (between_is 1 16 (length (map (answer_planned text names arrays) job.answers)) (omega (arith, count, some_answers)) (omega (arith, count, most))))
      (members_kept text names.arrays job.arrays member_counts few
      (all_entries_fit text names job.arrays lists arrays notes.sent notes.received 0 lists.entries entries)
      (all_reductions_fit text names job.arrays lists arrays notes.sent notes.received 0 lists.reductions reductions))

  layout_kept : layout_holds arrays ≡ true
  layout_kept = (arrays_kept_whole text names job.arrays job.arrays laid few some_arrays).1

  answers_ranged : list_all (answer_in_range arrays) (map (answer_planned text names arrays) job.answers) ≡ true
  answers_ranged =
      answers_kept text names job.arrays lists arrays few (arrays_below text names job.arrays arrays_is tables_is)
      (λ n a is.
      let e : 0 + n ≡ n = omega arith in
      subst (λ k. ArrayThere text names job.arrays lists arrays k a) e (array_there text names job.arrays arrays_is tables_is 0 0 0 job.arrays n a facts.counts facts.bounds told (tail_whole arrays) is))
      job.answers facts.answers

  ranges_kept : ranges_hold arrays lists.entries lists.reductions (map (answer_planned text names arrays) job.answers) ≡ true
  unfolding ranges_hold
  ranges_kept =
      let one = arrays_in_range lists.entries lists.reductions 0 arrays in
      let two = list_all (entry_in_range arrays) lists.entries in
      let three = list_all (reduction_in_range arrays) lists.reductions in
      both (one && two && three) (list_all (answer_in_range arrays) (map (answer_planned text names arrays) job.answers))
      (both (one && two) three (both one two direct.ranged (all_entries_ranged text names job.arrays lists arrays notes.sent notes.received 0 lists.entries entries))
      (all_reductions_ranged text names job.arrays lists arrays notes.sent notes.received 0 lists.reductions reductions)) answers_ranged

  numbered : StatesNumbered text names job.arrays lists arrays notes.sent notes.received
  numbered n a is =
      let e : 0 + n ≡ n = omega arith in
      subst (λ k. Numbered state_name (member_meaning names k) is_state state_same 0 a.states) e (each_numbered text names job.arrays arrays_is tables_is 0 0 no_counts job.arrays n a facts.kept is)

  names_once : names_hold arrays lists.entries lists.reductions ≡ true
  names_once =
      names_kept text names job.arrays lists arrays notes.sent notes.received lists.entries lists.reductions entries reductions numbered
      (distinct array_name (lookup names.arrays) is_array array_same 0 arrays (arrays_numbered text names job.arrays arrays_is tables_is 0 0 no_counts job.arrays facts.kept))
      (states_distinct text names job.arrays arrays_is tables_is 0 0 no_counts job.arrays facts.kept)

  ports_once : ports_hold arrays lists.entries lists.reductions ≡ true
  ports_once =
      ports_kept text names job.arrays lists arrays notes.sent notes.received direct.ranged
      (λ p q is. ap (marks_in p) sent_is ∙ direct.marks p q is) (λ p q is. ap (marks_in p) received_is ∙ walk.marks p q is)
      lists.entries lists.reductions entries reductions direct.directly

  costs_kept : costs_hold arrays ≡ true
  costs_kept = c.arrays_cost text names 0 0 job.arrays ∙ little_costs 0 0 0 job.arrays facts.counts

  overlaps_kept : overlaps_hold arrays ≡ true
  unfolding overlaps_hold
  overlaps_kept = walk.apart_all

  all_kept : rules_hold (bytes_at text job.name) job.iterations.value arrays lists.entries lists.reductions (map (answer_planned text names arrays) job.answers) ≡ true
  unfolding rules_hold
  all_kept =
      let limits = limits_hold (bytes_at text job.name) job.iterations.value arrays lists.entries lists.reductions (map (answer_planned text names arrays) job.answers) in
      let layout = layout_holds arrays in
      let ranges = ranges_hold arrays lists.entries lists.reductions (map (answer_planned text names arrays) job.answers) in
      let once = names_hold arrays lists.entries lists.reductions in
      let ports = ports_hold arrays lists.entries lists.reductions in
      let costs = costs_hold arrays in
      both (limits && layout && ranges && once && ports && costs) (overlaps_hold arrays)
      (both (limits && layout && ranges && once && ports) costs
      (both (limits && layout && ranges && once) ports
      (both (limits && layout && ranges) once
      (both (limits && layout) ranges
      (both limits layout limits_kept layout_kept) ranges_kept) names_once) ports_once) costs_kept) overlaps_kept

-- the rules hold of the plan of a tree that breaks none
rules_kept : (text : List ℕ) (job : Job) → IsTrue (is_shallow 32 job) → IsTrue (names_lie (length text) job) → IsTrue (is_filled job) → classes_found text (job_names text job) job ≡ nothing →
    IsTrue (rules_of (planned text (job_names text job) job))
unfolding job_names planned is_filled
rules_kept text job shallow_tree named filled h =
    let p = and_parts (nat_lt 0 (length job.arrays) && list_all array_is_filled job.arrays) (nat_lt 0 (length job.answers)) filled in
    let q = and_parts (nat_lt 0 (length job.arrays)) (list_all array_is_filled job.arrays) p.0 in
    let arrays = ltb-true 0 (length job.arrays) q.0 in
    let answers = ltb-true 0 (length job.answers) p.1 in
    all_kept text (job_names text job) job refl refl shallow_tree named (omega (arith, arrays)) q.1 (omega (arith, answers)) h

pub unbroken_is_sealed : UnbrokenIsSealed
unfolding first_fault plan_of
unbroken_is_sealed text job shallow_tree named filled h = rules_kept text job shallow_tree named filled h
