-- What the walk over all arrays notes, and what is known of all ports.
use Rattle.std.proofs.Common.{◌≡◌, ℕ, zero, suc, ◌+◌, ◌*◌, ◌≤◌, Bool, true, false, List, [], ◌∷◌, ◌++◌, length, map, refl, ap, ◌∙◌, subst, arith}
use Rattle.std.specs.Prelude.{◌==◌, not, is_none, is_some, if◌then◌else◌, slice_get}
use Rattle.std.specs.List.{list_all}
use Rattle.std.proofs.lemmas.Bool.{and_parts, eq-eqb}
use Rattle.std.proofs.lemmas.List.{append_assoc, map-append}
use Rattle.std.proofs.lemmas.List.Elements.{filter-append}
use Rattle.chare_base.specs.declared.message.Port.{Port}
use Rattle.chare_base.specs.declared.plan.Array.{Array}
use Rattle.chare_base.specs.Overlap.{array_apart}
use Rattle.chare_base.specs.Ports.{array_sends_directly}
use Rattle.chare_base.specs.Ranges.{array_in_range, arrays_in_range, start_in_range, step_in_range}
use Rattle.job_tree.specs.declared.tree.ArrayDecl.{ArrayDecl}
use Rattle.job_tree.specs.declared.tree.Job.{Job}
use Rattle.job_tree.specs.declared.tree.MemberDecl.{MemberDecl}
use Rattle.job_tree.specs.declared.tree.MemberDecl.TheVariants as members
use Rattle.job_rules.specs.declared.fault.CheckFault.TheVariants.{NotOnce}
use Rattle.job_rules.specs.declared.notes.Notes.{Notes}
use Rattle.job_rules.specs.declared.notes.PortUse.{PortUse}
use Rattle.job_rules.specs.declared.tables.Counts.{Counts}
use Rattle.job_rules.specs.declared.tables.JobNames.{JobNames}
use Rattle.job_rules.specs.Faults.{Found, nothing, sooner}
use Rattle.job_rules.specs.Names.{Known}
use Rattle.job_rules.specs.PlannedArrays.{array_planned, arrays_from, size_planned, states_planned}
use Rattle.job_rules.specs.PlannedMembers.{entries_from, reductions_from}
use Rattle.job_rules.specs.Numbers.{narrow32}
use Rattle.job_rules.specs.PlannedSteps.{step_planned}
use Rattle.job_rules.specs.Ports as f
use Rattle.job_rules.specs.Ports.{declared_at, nested_fault, port_fault, ports_found, uses_of}
use Rattle.job_rules.specs.Steps.{arrays_walked, array_with}
use Rattle.job_rules.specs.Tables.{counts_after, counts_with, no_counts, table_at}
use Rattle.job_rules.proofs.Counting.{both}
use Rattle.job_rules.proofs.Meant.{Apart}
use Rattle.job_rules.proofs.Places.{Sound}
use Rattle.job_rules.proofs.Porting.{all_marks, once}
use Rattle.job_rules.proofs.Sending.{all_joined, all_parts, is_direct, port_there}
use Rattle.job_rules.proofs.Singling.{FewMembers}
use Rattle.job_rules.proofs.Sooner.{faultless, sooner_none, unbroken, is_none-none}
use Rattle.job_rules.proofs.Stating.{World}
use Rattle.job_rules.proofs.Stepping.{StepsShallow, array_facts, send_marks, take_marks}
use Rattle.job_rules.proofs.Tabled.{EachMember, IsPort, Lists, MemberThere, Room, Standing, Told, entry_numbers_from, less_room, members_there, not_capped, port_list, port_of, ports_from, reduction_numbers_from, room_after, room_next}

-- ---- arrays

abbrev pub marks_in : ℕ → List PortUse → List ℕ
marks_in p us = map (λ (u : PortUse). u.step) (uses_of p us)

marks_joined : (p : ℕ) (us vs : List PortUse) → marks_in p (us ++ vs) ≡ marks_in p us ++ marks_in p vs
marks_joined p us vs = ap (map (λ (u : PortUse). u.step)) (filter-append (λ (u : PortUse). u.port == p) us vs) ∙ map-append (λ (u : PortUse). u.step) (uses_of p us) (uses_of p vs)

append_none : (xs : List PortUse) → xs ≡ xs ++ []
append_none [] = refl
append_none (x ∷ xs) = ap (λ l. x ∷ l) (append_none xs)

module _ (text : List ℕ) (names : JobNames) (l : Lists) (world : World text names l) where
  -- what is known of an array before its steps are looked at
  pub record ArrayKnown (i : ℕ) (a : ArrayDecl) : Type 0 where
    pub told : Sound (Told text names.arrays l i (states_planned text (table_at names i) 0 a.states)) (table_at names i)
    pub apart : Apart (states_planned text (table_at names i) 0 a.states)
    pub deep : StepsShallow a.steps
    pub few : i ≤ 1000

  abbrev pub KnownFrom : ℕ → List ArrayDecl → Type 0
  KnownFrom i [] = Unit {0}
  KnownFrom i (a ∷ more) = ArrayKnown i a × KnownFrom (suc i) more

  pub record DirectArrays (i : ℕ) (planned : List Array) (us : List PortUse) : Type 0 where
    pub directly : list_all array_sends_directly planned ≡ true
    pub ranged : arrays_in_range l.entries l.reductions i planned ≡ true
    pub marks : (p : ℕ) (q : Port) → IsPort l p q → marks_in p us ≡ all_marks (λ (a : Array). send_marks q 0 a.steps) planned

  pub record JobFacts (i : ℕ) (a b : Notes) (planned : List Array) : Type 0 where
    pub found : a.found ≡ nothing
    pub apart_all : list_all array_apart planned ≡ true
    pub us : List PortUse
    pub sends : b.sent ≡ a.sent ++ us
    pub there : list_all (port_there l 0) us ≡ true
    pub direct : list_all (is_direct l 0) us ≡ true → DirectArrays i planned us
    pub vs : List PortUse
    pub takes_all : b.received ≡ a.received ++ vs
    pub marks : (p : ℕ) (q : Port) → IsPort l p q → marks_in p vs ≡ all_marks (λ (a : Array). take_marks q 0 a.steps) planned

  pub arrays_facts : (i first : ℕ) (arrays : List ArrayDecl) (n : Notes) → KnownFrom i arrays → (arrays_walked text names i arrays n).found ≡ nothing →
      JobFacts i n (arrays_walked text names i arrays n) (arrays_from text names i first arrays)
  arrays_facts i first [] n known h = record {
    found = h;
    apart_all = refl;
    us = [];
    sends = append_none n.sent;
    there = refl;
    direct = λ e. record { directly = refl; ranged = refl; marks = λ p q is. refl };
    vs = [];
    takes_all = append_none n.received;
    marks = λ p q is. refl;
  }
  arrays_facts i first (a ∷ more) n known h =
      let table = table_at names i in
      let planned = states_planned text table 0 a.states in
      let steps = map (step_planned text names table) a.steps in
      let m = array_with text names table i a n in
      let next = narrow32 (first + size_planned a.sizes) in
      let others = arrays_from text names (suc i) next more in
      let g = arrays_facts (suc i) next more m known.1 h in
      let f = array_facts text names l world i table planned known.0.told known.0.apart known.0.few a n known.0.deep g.found in
      record {
        found = f.found;
        apart_all = both (array_apart (array_planned text names i first a)) (list_all array_apart others) f.apart_all g.apart_all;
        us = f.us ++ g.us;
        sends = g.sends ∙ ap (λ z. z ++ g.us) f.sends ∙ append_assoc n.sent f.us g.us;
        there = all_joined (port_there l 0) f.us g.us f.there g.there;
        direct = λ e.
            let parts = all_parts (is_direct l 0) f.us g.us e in
            let d = f.direct parts.0 in
            let k = g.direct parts.1 in
            record {
              directly = both (array_sends_directly (array_planned text names i first a)) (list_all array_sends_directly others) d.directly k.directly;
              ranged =
                  both (array_in_range l.entries l.reductions i (array_planned text names i first a)) (arrays_in_range l.entries l.reductions (suc i) others)
                  (both (list_all start_in_range planned) (list_all (step_in_range l.entries l.reductions i planned) steps) f.starts d.ranged) k.ranged;
              marks = λ p q is. marks_joined p f.us g.us ∙ ap (λ ns. ns ++ marks_in p g.us) (d.marks p q is) ∙ ap (λ ns. send_marks q 0 steps ++ ns) (k.marks p q is);
            };
        vs = f.vs ++ g.vs;
        takes_all = g.takes_all ∙ ap (λ z. z ++ g.vs) f.takes_all ∙ append_assoc n.received f.vs g.vs;
        marks = λ p q is. marks_joined p f.vs g.vs ∙ ap (λ ns. ns ++ marks_in p g.vs) (f.marks p q is) ∙ ap (λ ns. take_marks q 0 steps ++ ns) (g.marks p q is);
      }

-- ---- ports that break no rule

module _ (sent received : List PortUse) where
  abbrev pub HeldPort : ℕ → Type 0
  HeldPort p = (at : ℕ) × (port_fault at (uses_of p sent) (uses_of p received) ≡ nothing)

  abbrev pub HeldAt : Counts → MemberDecl → Type 0
  HeldAt c m = HeldPort c.ports

  held_members : (c : Counts) (found : Found) (ms : List MemberDecl) → f.members_found sent received c.ports found ms ≡ nothing → (found ≡ nothing) × EachMember HeldAt c ms
  held_members c found [] h = (h, tt)
  held_members c found (members.Entry e ∷ more) h =
      let fault = port_fault e.at (uses_of c.ports sent) (uses_of c.ports received) in
      let others = held_members (counts_with c (members.Entry e)) (sooner found fault) more h in
      let here = sooner_none found fault others.0 in
      (here.0, ((e.at, here.1), others.1))
  held_members c found (members.Reduce r ∷ more) h =
      let fault = port_fault r.at (uses_of c.ports sent) (uses_of c.ports received) in
      let others = held_members (counts_with c (members.Reduce r)) (sooner found fault) more h in
      let here = sooner_none found fault others.0 in
      (here.0, ((r.at, here.1), others.1))

  -- the members of these arrays, before which these ports were declared
  abbrev pub HeldFrom : Counts → List ArrayDecl → Type 0
  HeldFrom c [] = Unit {0}
  HeldFrom c (a ∷ more) = EachMember HeldAt c a.members × HeldFrom (counts_after c a.members) more

  held_arrays : (c : Counts) (found : Found) (arrays : List ArrayDecl) → f.arrays_found sent received c found arrays ≡ nothing → (found ≡ nothing) × HeldFrom c arrays
  held_arrays c found [] h = (h, tt)
  held_arrays c found (a ∷ more) h =
      let others = held_arrays (counts_after c a.members) (f.members_found sent received c.ports found a.members) more h in
      let here = held_members c found a.members others.0 in
      (here.0, (here.1, others.1))

  abbrev HeldList : ℕ → List Port → Type 0
  HeldList base ps = (k : ℕ) → is_some (slice_get ps k) ≡ true → HeldPort (base + k)

  members_list : (c : Counts) (ms : List MemberDecl) (ps : List Port) → Room c (length ms) → EachMember HeldAt c ms → HeldList (counts_after c ms).ports ps → HeldList c.ports (port_list c ms ++ ps)
  members_list c [] ps room held rest = rest
  members_list c (m ∷ more) ps room held rest =
      let d = counts_with c m in
      first (next m) (members_list d more ps (room_next c m (length more) room) held.1 rest)
    where
      next : (x : MemberDecl) → (counts_with c x).ports ≡ suc c.ports
      next (members.Entry e) = not_capped c.ports (length more) room.ports
      next (members.Reduce r) = not_capped c.ports (length more) room.ports

      first : (counts_with c m).ports ≡ suc c.ports → HeldList (counts_with c m).ports (port_list (counts_with c m) more ++ ps) → HeldList c.ports (port_of c m ∷ (port_list (counts_with c m) more ++ ps))
      first is others zero h = let e : c.ports ≡ c.ports + 0 = omega arith in subst HeldPort e held.0
      first is others (suc k) h = let e : (counts_with c m).ports + k ≡ c.ports + suc k = omega (arith, is) in subst HeldPort e (others k h)

  arrays_list : (c : Counts) (arrays : List ArrayDecl) → Room c (16 * length arrays) → FewMembers arrays → HeldFrom c arrays → HeldList c.ports (ports_from c arrays)
  arrays_list c [] room few held = λ k h. absurd (let e : false ≡ true = h in cc)
  arrays_list c (a ∷ more) room few held =
      let small = few.0 in
      let after = room_after c a.members (16 * length more) (less_room c (16 * suc (length more)) (length a.members + 16 * length more) (omega (arith, small)) room) in
      members_list c a.members (ports_from (counts_after c a.members) more) (less_room c (16 * suc (length more)) (length a.members) (omega (arith, small)) room) held.0
      (arrays_list (counts_after c a.members) more after few.1 held.1)

  pub ports_held : (job : Job) (found : Found) → ports_found job sent received found ≡ nothing → (found ≡ nothing) × HeldFrom no_counts job.arrays
  unfolding ports_found
  ports_held job found h = held_arrays no_counts found job.arrays h

  pub each_held : (arrays : List ArrayDecl) → length arrays ≤ 8 → FewMembers arrays → HeldFrom no_counts arrays → (p : ℕ) → is_some (slice_get (ports_from no_counts arrays) p) ≡ true → HeldPort p
  each_held arrays short few held p h =
      let e : 0 + p ≡ p = omega arith in
      subst HeldPort e (arrays_list no_counts arrays (record { ports = omega (arith, short); sum = refl }) few held p h)

not_nested : (declared : ℕ) (us : List PortUse) → faultless (nested_fault declared) us ≡ true → list_all (λ (u : PortUse). not u.nested) us ≡ true
not_nested declared [] h = refl
not_nested declared (u ∷ more) h =
    let p = and_parts (is_none (nested_fault declared u)) (faultless (nested_fault declared) more) h in
    both (not u.nested) (list_all (λ (v : PortUse). not v.nested) more) (ap not (unbroken u.nested (NotOnce declared u.at) (is_none-none (nested_fault declared u) p.0))) (not_nested declared more p.1)

-- where no use of a port is nested, none is
direct_all : (l : Lists) (us : List PortUse) → list_all (port_there l 0) us ≡ true → ((p : ℕ) → is_some (slice_get l.all p) ≡ true → list_all (λ (u : PortUse). not u.nested) (uses_of p us) ≡ true) → list_all (is_direct l 0) us ≡ true
direct_all l [] there h = refl
direct_all l (u ∷ more) there h =
    let p = and_parts (port_there l 0 u) (list_all (port_there l 0) more) there in
    both (not u.nested) (list_all (is_direct l 0) more) (own (u.port == u.port) (eq-eqb u.port u.port refl) (h u.port p.0)) (direct_all l more p.1 (λ q e. rest (u.port == q) (uses_of q more) (h q e)))
  where
    own : (t : Bool) → t ≡ true → list_all (λ (v : PortUse). not v.nested) (if t then u ∷ uses_of u.port more else uses_of u.port more) ≡ true → not u.nested ≡ true
    own true e k = (and_parts (not u.nested) (list_all (λ (v : PortUse). not v.nested) (uses_of u.port more)) k).0
    own false e k = absurd (let c : false ≡ true = e in cc)

    rest : (t : Bool) (vs : List PortUse) → list_all (λ (v : PortUse). not v.nested) (if t then u ∷ vs else vs) ≡ true → list_all (λ (v : PortUse). not v.nested) vs ≡ true
    rest true vs k = (and_parts (not u.nested) (list_all (λ (v : PortUse). not v.nested) vs) k).1
    rest false vs k = k

pub all_direct : (l : Lists) (sent received : List PortUse) → list_all (port_there l 0) sent ≡ true → ((p : ℕ) → is_some (slice_get l.all p) ≡ true → HeldPort sent received p) → list_all (is_direct l 0) sent ≡ true
all_direct l sent received there held = direct_all l sent there (λ p e. let h = held p e in not_nested h.0 (uses_of p sent) (once h.0 (uses_of p sent) (uses_of p received) h.1).1)

-- ---- members in the lists of a job

module _ (text : List ℕ) (arrays : List Known) (l : Lists) where
  -- the members of these arrays are in the lists
  abbrev pub ThereFrom : ℕ → Counts → List ArrayDecl → Type 0
  ThereFrom i c [] = Unit {0}
  ThereFrom i c (a ∷ more) = EachMember (MemberThere text arrays l i) c a.members × Room c (length a.members) × ThereFrom (suc i) (counts_after c a.members) more

  pub all_there : (i : ℕ) (c : Counts) (decls : List ArrayDecl) → Room c (16 * length decls) → FewMembers decls →
      Standing l c (ports_from c decls) (entries_from text arrays i decls) (reductions_from text i decls) (entry_numbers_from c decls) (reduction_numbers_from c decls) → ThereFrom i c decls
  all_there i c [] room few s = tt
  all_there i c (a ∷ more) room few s =
      let small = few.0 in
      let own = less_room c (16 * suc (length more)) (length a.members) (omega (arith, small)) room in
      let d = counts_after c a.members in
      let after = room_after c a.members (16 * length more) (less_room c (16 * suc (length more)) (length a.members + 16 * length more) (omega (arith, small)) room) in
      let r = members_there text arrays l i c a.members (ports_from d more) (entries_from text arrays (suc i) more) (reductions_from text (suc i) more) (entry_numbers_from d more) (reduction_numbers_from d more) own s in
      (r.0, own, all_there (suc i) d more after few.1 r.1)
