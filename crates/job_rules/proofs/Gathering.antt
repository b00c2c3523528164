-- Entries and reductions that break no rule.
use Rattle.std.proofs.Common.{◌≡◌, ℕ, ℤ, zero, suc, ◌<◌, ◌≤◌, Bool, true, false, List, [], ◌∷◌, ◌++◌, length, refl, ap, sym, ◌∙◌, subst, arith, Option, None, Some}
use Rattle.std.specs.Prelude.{◌&&◌, ◌||◌, ◌==◌, not, min, is_none, slice_get}
use Rattle.std.specs.List.{AllByRecursion}
use Rattle.std.proofs.lemmas.Bool.{and_parts, eq-eqb, eqb-true, le-leb}
use Rattle.chare_base.specs.declared.plan.Array.{Array}
use Rattle.chare_base.specs.declared.plan.Entry.{Entry}
use Rattle.chare_base.specs.declared.plan.Reduction.{Reduction}
use Rattle.chare_base.specs.Limits.{between, entry_fits, name_fits, offset_fits, reduction_fits}
use Rattle.chare_base.specs.Ports.{entry_port, total_port}
use Rattle.chare_base.specs.Ranges.{entry_in_range, exchanged, no_offset, same_shape}
use Rattle.job_tree.specs.declared.token.Num.{Num}
use Rattle.job_tree.specs.declared.tree.ArrayDecl.{ArrayDecl}
use Rattle.job_tree.specs.declared.tree.Coordinates.{Coordinates}
use Rattle.job_tree.specs.declared.tree.EntryDecl.{EntryDecl}
use Rattle.job_tree.specs.declared.tree.MemberDecl.{MemberDecl}
use Rattle.job_tree.specs.declared.tree.MemberDecl.TheVariants as members
use Rattle.job_tree.specs.declared.tree.ReduceDecl.{ReduceDecl}
use Rattle.job_tree.specs.declared.tree.SignedNum.{SignedNum}
use Rattle.job_rules.specs.declared.fault.CheckFault.TheVariants.{Twice}
use Rattle.job_rules.specs.declared.notes.PortUse.{PortUse}
use Rattle.job_rules.specs.declared.tables.Counts.{Counts}
use Rattle.job_rules.specs.declared.tables.JobNames.{JobNames}
use Rattle.job_rules.specs.Bounds.{entry_bound, member_bound, offset_fault, outside_if}
use Rattle.job_rules.specs.Declarations.{array_differs, dimensions_differ, is_port, member_fault, port_declared, second_differs, sizes_differ, source_fault}
use Rattle.job_rules.specs.Faults.{fault_if, name_fault, nothing, sooner}
use Rattle.job_rules.specs.Names.{bytes_at}
use Rattle.job_rules.specs.PlannedArrays.{array_planned, cols_planned, cols_written, rows_planned, rows_written}
use Rattle.job_rules.specs.PlannedMembers.{across_written, down_written, entries_of, entry_planned, reduction_planned, reductions_of}
use Rattle.job_rules.specs.Numbers.{narrow8, narrow16, narrow32, number16, signed, signed8}
use Rattle.job_rules.specs.Ports.{port_fault, uses_of}
use Rattle.job_rules.specs.Tables.{counts_after, counts_with, member_meaning, values_written}
use Rattle.job_rules.proofs.Counting.{both, inside}
use Rattle.job_rules.proofs.Declared.{MembersKept, source_kept}
use Rattle.job_rules.proofs.Laying.{Lies, between_is, name_kept}
use Rattle.job_rules.proofs.Places.{IsBelow, Sound, array_below}
use Rattle.job_rules.proofs.Sooner.{faultless, is_none-none, sooner_none, unbroken}
use Rattle.job_rules.proofs.Tabled.{EachMember, IsPort, Lists, MemberThere, Room, few_entries, few_reductions, not_capped, room_next}

-- ---- numbers

signed_fits : (minus : Option ℕ) (n : ℕ) → n ≤ 8 → offset_fits (signed minus n) ≡ true
signed_fits None n h = le-leb n 8 h
signed_fits (Some at) zero h = refl
signed_fits (Some at) (suc zero) h = refl
signed_fits (Some at) (suc (suc zero)) h = refl
signed_fits (Some at) (suc (suc (suc zero))) h = refl
signed_fits (Some at) (suc (suc (suc (suc zero)))) h = refl
signed_fits (Some at) (suc (suc (suc (suc (suc zero))))) h = refl
signed_fits (Some at) (suc (suc (suc (suc (suc (suc zero)))))) h = refl
signed_fits (Some at) (suc (suc (suc (suc (suc (suc (suc zero))))))) h = refl
signed_fits (Some at) (suc (suc (suc (suc (suc (suc (suc (suc zero)))))))) h = refl
signed_fits (Some at) (suc (suc (suc (suc (suc (suc (suc (suc (suc n))))))))) h = absurd (omega (arith, h))

offset_small : (n : SignedNum) → offset_fault (Some n) ≡ nothing → offset_fits (signed8 n) ≡ true
offset_small n h = let high = (inside 0 8 n.number h).1 in signed_fits n.minus (min n.number.value 127) (omega (arith, high))

down_fits : (first : SignedNum) (second : Option SignedNum) → offset_fault (Some first) ≡ nothing → offset_fits (down_written first second) ≡ true
down_fits first None h = refl
down_fits first (Some second) h = offset_small first h

across_fits : (first : SignedNum) (second : Option SignedNum) → offset_fault (Some first) ≡ nothing → offset_fault second ≡ nothing → offset_fits (across_written first second) ≡ true
across_fits first None h k = offset_small first h
across_fits first (Some second) h k = offset_small second k

values_fit : (o : Option Num) → outside_if 1 8 o ≡ nothing → between 1 8 (narrow8 (values_written o)) ≡ true
values_fit None h = refl
values_fit (Some n) h = let i = inside 1 8 n h in let low = i.0 in let high = i.1 in between_is 1 8 (narrow8 n.value) (omega (arith, low)) (omega (arith, high))

-- ---- shapes

neither : (a b : Bool) → (a || b) ≡ false → (a ≡ false) × (b ≡ false)
neither true b h = absurd (let e : true ≡ false = h in cc)
neither false b h = (refl, h)

not_true : (b : Bool) → not b ≡ false → b ≡ true
not_true true h = refl
not_true false h = absurd (let e : true ≡ false = h in cc)

abbrev shape_test : (p q : Bool) (rows cols rows_b cols_b : ℕ) → Bool
shape_test p q rows cols rows_b cols_b = (p && q || not p && not q) && (rows == rows_b && cols == cols_b)

same_sizes : (f g : Num) (o p : Option Num) → g.value ≡ f.value → second_differs p o ≡ false →
    shape_test (is_none o) (is_none p) (rows_written f o) (cols_written f o) (rows_written g p) (cols_written g p) ≡ true
same_sizes f g None None h k = eq-eqb (narrow32 f.value) (narrow32 g.value) (ap narrow32 (sym h))
same_sizes f g (Some a) (Some b) h k =
    let same : b.value ≡ a.value = eqb-true b.value a.value (not_true (b.value == a.value) k) in
    both (narrow32 f.value == narrow32 g.value) (narrow32 a.value == narrow32 b.value) (eq-eqb (narrow32 f.value) (narrow32 g.value) (ap narrow32 (sym h))) (eq-eqb (narrow32 a.value) (narrow32 b.value) (ap narrow32 (sym same)))
same_sizes f g None (Some b) h k = absurd (let e : true ≡ false = k in cc)
same_sizes f g (Some a) None h k = absurd (let e : true ≡ false = k in cc)

-- arrays of the same sizes have one shape
shape_kept : (c d : Coordinates) → sizes_differ d c ≡ false → shape_test (is_none c.second) (is_none d.second) (rows_planned c) (cols_planned c) (rows_planned d) (cols_planned d) ≡ true
shape_kept c d h =
    let p = neither (not (d.first.value == c.first.value)) (second_differs d.second c.second) h in
    same_sizes c.first d.first c.second d.second (eqb-true d.first.value c.first.value (not_true (d.first.value == c.first.value) p.0)) p.1

flat_offset : (first : SignedNum) (second : Option SignedNum) (o : Option Num) → dimensions_differ second o ≡ false → (not (is_none o) || no_offset (down_written first second)) ≡ true
flat_offset first None None h = refl
flat_offset first (Some s) (Some n) h = refl
flat_offset first None (Some n) h = refl
flat_offset first (Some s) None h = absurd (let e : true ≡ false = h in cc)

-- ---- lists of entries and of reductions, with their numbers

abbrev pub EntriesAll : (ℕ → Entry → Type 0) → ℕ → List Entry → Type 0
EntriesAll Q x [] = Unit {0}
EntriesAll Q x (e ∷ more) = Q x e × EntriesAll Q (suc x) more

abbrev pub ReductionsAll : (ℕ → Reduction → Type 0) → ℕ → List Reduction → Type 0
ReductionsAll Q x [] = Unit {0}
ReductionsAll Q x (e ∷ more) = Q x e × ReductionsAll Q (suc x) more

abbrev pub MemberLies : List ℕ → MemberDecl → Type 0
MemberLies text (members.Entry e) = Lies text e.name
MemberLies text (members.Reduce r) = Lies text r.name

module _ (text : List ℕ) (names : JobNames) (declared : List ArrayDecl) (l : Lists) (planned : List Array) (sent received : List PortUse) where
  -- a port of the job breaks no rule on sends and receipts
  abbrev pub Held : ℕ → Type 0
  Held p = (at : ℕ) × (port_fault at (uses_of p sent) (uses_of p received) ≡ nothing)

  pub record EntryGood (x : ℕ) (e : Entry) : Type 0 where
    pub at : slice_get l.entries x ≡ Some e
    pub fits : entry_fits e ≡ true
    pub ranged : entry_in_range planned e ≡ true
    pub owner_few : e.owner < length planned
    pub port : ℕ
    pub meant : is_port port (member_meaning names e.owner e.name) ≡ true
    pub is : IsPort l port (entry_port x)
    pub held : Held port

  pub record ReductionGood (x : ℕ) (e : Reduction) : Type 0 where
    pub at : slice_get l.reductions x ≡ Some e
    pub fits : reduction_fits e ≡ true
    pub owner_few : e.owner < length planned
    pub port : ℕ
    pub meant : is_port port (member_meaning names e.owner e.name) ≡ true
    pub is : IsPort l port (total_port x)
    pub held : Held port

  -- what is known of arrays and their plans
  pub record PlansThere : Type 0 where
    pub count : length planned ≡ length declared
    pub few : length declared ≤ 8
    pub sound : Sound (IsBelow (length declared)) names.arrays
    pub plan : (n : ℕ) (a : ArrayDecl) → slice_get declared n ≡ Some a → (first : ℕ) × (slice_get planned n ≡ Some (array_planned text names n first a))

  module _ (there : PlansThere) (i : ℕ) (a : ArrayDecl) (here : slice_get declared i ≡ Some a) (few : i < length declared) where
    small_number : (n : ℕ) → n < length declared → narrow16 n ≡ n
    small_number n h = let f = there.few in omega (arith, h, f)

    -- the fields of a declaration
    exchanged_here : (down : ℤ) (n : ℕ) (o : Option ArrayDecl) → slice_get declared n ≡ o → n < length declared → array_differs o a.sizes ≡ false → (not (is_none a.sizes.second) || no_offset down) ≡ true →
        exchanged down (slice_get planned i) (slice_get planned n) ≡ true
    exchanged_here down n None is less same h = absurd (missing declared n is less)
      where
        missing : (xs : List ArrayDecl) (k : ℕ) → slice_get xs k ≡ None → k < length xs → ⊥
        missing [] k e f = let c : k < 0 = f in omega (arith, c)
        missing (x ∷ xs) zero e f = let c : Some x ≡ None = e in cc
        missing (x ∷ xs) (suc k) e f = missing xs k e (let g : k < length xs = omega (arith, f) in g)
    exchanged_here down n (Some b) is less same h =
        let mine = there.plan i a here in
        let its = there.plan n b is in
        ap (λ o. exchanged down o (slice_get planned n)) mine.1 ∙ ap (exchanged down (Some (array_planned text names i mine.0 a))) its.1
        ∙ both (same_shape (array_planned text names i mine.0 a) (array_planned text names n its.0 b)) (not (is_none a.sizes.second) || no_offset down) (shape_kept a.sizes b.sizes same) h

    entry_good : (c : Counts) (e : EntryDecl) → MemberThere text names.arrays l i c (members.Entry e) → member_fault text names declared i a.sizes c.ports (members.Entry e) ≡ nothing →
        entry_bound e ≡ nothing → Lies text e.name → Held c.ports → EntryGood c.entries (entry_planned text names.arrays i e)
    entry_good c e member kept bound lies held =
        let one = entry_planned text names.arrays i e in
        let owner : narrow16 i ≡ i = small_number i few in
        let own = sooner_none (port_declared text names i c.ports e.name) (source_fault text names declared a.sizes e) kept in
        let named = sooner_none (name_fault e.name) (fault_if (not (is_port c.ports (member_meaning names i (bytes_at text e.name)))) (Twice e.name.at)) own.0 in
        let source = source_kept text names declared a.sizes e own.1 in
        let less : source.0 < length declared = array_below text (length declared) source.0 names.arrays e.source there.sound source.1 in
        let from : one.source ≡ source.0 = ap number16 source.1 ∙ small_number source.0 less in
        let second = sooner_none (sooner (outside_if 1 8 e.values) (offset_fault (Some e.offset.first))) (offset_fault e.offset.second) bound in
        let first = sooner_none (outside_if 1 8 e.values) (offset_fault (Some e.offset.first)) second.0 in
        let count = there.count in
        record {
          at = member.entry;
          fits =
              both (name_fits one.name && offset_fits one.down && offset_fits one.across) (between 1 8 one.values)
              (both (name_fits one.name && offset_fits one.down) (offset_fits one.across)
              (both (name_fits one.name) (offset_fits one.down) (name_kept text e.name lies named.0) (down_fits e.offset.first e.offset.second first.1)) (across_fits e.offset.first e.offset.second first.1 second.1))
              (values_fit e.values first.0);
          ranged =
              ap (λ n. exchanged one.down (slice_get planned n) (slice_get planned one.source)) owner ∙ ap (λ n. exchanged one.down (slice_get planned i) (slice_get planned n)) from
              ∙ exchanged_here one.down source.0 (slice_get declared source.0) refl less source.2 (flat_offset e.offset.first e.offset.second a.sizes.second source.3);
          owner_few = omega (arith, owner, few, count);
          port = c.ports;
          meant = ap (λ n. is_port c.ports (member_meaning names n (bytes_at text e.name))) owner ∙ not_true (is_port c.ports (member_meaning names i (bytes_at text e.name))) (unbroken (not (is_port c.ports (member_meaning names i (bytes_at text e.name)))) (Twice e.name.at) named.1);
          is = member.port;
          held = held;
        }

    reduction_good : (c : Counts) (r : ReduceDecl) → MemberThere text names.arrays l i c (members.Reduce r) → member_fault text names declared i a.sizes c.ports (members.Reduce r) ≡ nothing → Lies text r.name → Held c.ports →
        ReductionGood c.reductions (reduction_planned text i r)
    reduction_good c r member kept lies held =
        let owner : narrow16 i ≡ i = small_number i few in
        let named = sooner_none (name_fault r.name) (fault_if (not (is_port c.ports (member_meaning names i (bytes_at text r.name)))) (Twice r.name.at)) kept in
        let count = there.count in
        record {
          at = member.reduction;
          fits = name_kept text r.name lies named.0;
          owner_few = omega (arith, owner, few, count);
          port = c.ports;
          meant = ap (λ n. is_port c.ports (member_meaning names n (bytes_at text r.name))) owner ∙ not_true (is_port c.ports (member_meaning names i (bytes_at text r.name))) (unbroken (not (is_port c.ports (member_meaning names i (bytes_at text r.name)))) (Twice r.name.at) named.1);
          is = member.port;
          held = held;
        }

    -- ---- the members of the array

    abbrev pub HeldMember : Counts → MemberDecl → Type 0
    HeldMember c m = Held c.ports

    pub entries_good : (c : Counts) (ms : List MemberDecl) (es : List Entry) → Room c (length ms) → EachMember (MemberThere text names.arrays l i) c ms → MembersKept text names declared i a.sizes c ms → faultless member_bound ms ≡ true →
        AllByRecursion (MemberLies text) ms → EachMember HeldMember c ms → EntriesAll EntryGood (counts_after c ms).entries es → EntriesAll EntryGood c.entries (entries_of text names.arrays i ms ++ es)
    entries_good c [] es room member kept bound lies held rest = rest
    entries_good c (members.Entry e ∷ more) es room member kept bound lies held rest =
        let p = and_parts (is_none (entry_bound e)) (faultless member_bound more) bound in
        let d = counts_with c (members.Entry e) in
        let next : d.entries ≡ suc c.entries = not_capped c.entries (length more) (few_entries c (length more) room) in
        let others = entries_good d more es (room_next c (members.Entry e) (length more) room) member.1 kept.1 p.1 lies.1 held.1 rest in
        (entry_good c e member.0 kept.0 (is_none-none (entry_bound e) p.0) lies.0 held.0, subst (λ n. EntriesAll EntryGood n (entries_of text names.arrays i more ++ es)) next others)
    entries_good c (members.Reduce r ∷ more) es room member kept bound lies held rest =
        let p = and_parts (is_none (member_bound (members.Reduce r))) (faultless member_bound more) bound in
        entries_good (counts_with c (members.Reduce r)) more es (room_next c (members.Reduce r) (length more) room) member.1 kept.1 p.1 lies.1 held.1 rest

    pub reductions_good : (c : Counts) (ms : List MemberDecl) (rs : List Reduction) → Room c (length ms) → EachMember (MemberThere text names.arrays l i) c ms → MembersKept text names declared i a.sizes c ms →
        AllByRecursion (MemberLies text) ms → EachMember HeldMember c ms → ReductionsAll ReductionGood (counts_after c ms).reductions rs → ReductionsAll ReductionGood c.reductions (reductions_of text i ms ++ rs)
    reductions_good c [] rs room member kept lies held rest = rest
    reductions_good c (members.Entry e ∷ more) rs room member kept lies held rest =
        reductions_good (counts_with c (members.Entry e)) more rs (room_next c (members.Entry e) (length more) room) member.1 kept.1 lies.1 held.1 rest
    reductions_good c (members.Reduce r ∷ more) rs room member kept lies held rest =
        let d = counts_with c (members.Reduce r) in
        let next : d.reductions ≡ suc c.reductions = not_capped c.reductions (length more) (few_reductions c (length more) room) in
        let others = reductions_good d more rs (room_next c (members.Reduce r) (length more) room) member.1 kept.1 lies.1 held.1 rest in
        (reduction_good c r member.0 kept.0 lies.0 held.0, subst (λ n. ReductionsAll ReductionGood n (reductions_of text i more ++ rs)) next others)
