-- What the names of an array stand for in the plan.
use Rattle.std.proofs.Common.{◌≡◌, ℕ, suc, ◌+◌, ◌≤◌, Bool, List, [], ◌∷◌, ◌++◌, length, refl, sym, subst, arith, Option, Some}
use Rattle.std.specs.Prelude.{slice_get, is_none}
use Rattle.chare_base.specs.declared.message.Port.{Port}
use Rattle.chare_base.specs.declared.message.Port.TheVariants as ports
use Rattle.chare_base.specs.declared.plan.Entry.{Entry}
use Rattle.chare_base.specs.declared.plan.Reduction.{Reduction}
use Rattle.chare_base.specs.declared.plan.State.{State}
use Rattle.chare_base.specs.Ports.{entry_port, total_port}
use Rattle.chare_base.specs.Costs.{capped}
use Rattle.job_tree.specs.declared.tree.ArrayDecl.{ArrayDecl}
use Rattle.job_tree.specs.declared.tree.MemberDecl.{MemberDecl}
use Rattle.job_tree.specs.declared.tree.MemberDecl.TheVariants as members
use Rattle.job_tree.specs.declared.tree.StateDecl.{StateDecl}
use Rattle.job_rules.specs.declared.names.Meaning.{Meaning}
use Rattle.job_rules.specs.declared.names.Meaning.TheVariants as meanings
use Rattle.job_rules.specs.declared.tables.Counts.{Counts}
use Rattle.job_rules.specs.Names.{Known, bytes_at, declare}
use Rattle.job_rules.specs.PlannedArrays.{state_planned, states_planned}
use Rattle.job_rules.specs.PlannedMembers.{entries_of, entry_planned, reduction_planned, reductions_of}
use Rattle.job_rules.specs.Numbers.{narrow8, narrow16, narrow32, number16}
use Rattle.job_rules.specs.Tables.{array_number, cells_written, counts_after, counts_with, ports_named, states_named, table_of, values_written}
use Rattle.job_rules.proofs.Places.{Sound, Tail, declare_sound, none_sound, tail_here, tail_next}

-- ---- all ports of a job, in text order

abbrev pub port_of : Counts → MemberDecl → Port
port_of c (members.Entry e) = entry_port c.entries
port_of c (members.Reduce r) = total_port c.reductions

abbrev pub port_list : Counts → List MemberDecl → List Port
port_list c [] = []
port_list c (m ∷ more) = port_of c m ∷ port_list (counts_with c m) more

abbrev pub ports_from : Counts → List ArrayDecl → List Port
ports_from c [] = []
ports_from c (a ∷ more) = port_list c a.members ++ ports_from (counts_after c a.members) more

-- the port number of each entry
abbrev pub entry_number : Counts → MemberDecl → List ℕ
entry_number c (members.Entry e) = c.ports ∷ []
entry_number c (members.Reduce r) = []

abbrev pub entry_numbers : Counts → List MemberDecl → List ℕ
entry_numbers c [] = []
entry_numbers c (m ∷ more) = entry_number c m ++ entry_numbers (counts_with c m) more

abbrev pub entry_numbers_from : Counts → List ArrayDecl → List ℕ
entry_numbers_from c [] = []
entry_numbers_from c (a ∷ more) = entry_numbers c a.members ++ entry_numbers_from (counts_after c a.members) more

-- the port number of each reduction
abbrev pub reduction_number : Counts → MemberDecl → List ℕ
reduction_number c (members.Entry e) = []
reduction_number c (members.Reduce r) = c.ports ∷ []

abbrev pub reduction_numbers : Counts → List MemberDecl → List ℕ
reduction_numbers c [] = []
reduction_numbers c (m ∷ more) = reduction_number c m ++ reduction_numbers (counts_with c m) more

abbrev pub reduction_numbers_from : Counts → List ArrayDecl → List ℕ
reduction_numbers_from c [] = []
reduction_numbers_from c (a ∷ more) = reduction_numbers c a.members ++ reduction_numbers_from (counts_after c a.members) more

-- the number of a port among all
abbrev pub number_of_port : List ℕ → List ℕ → Port → Option ℕ
number_of_port entries reductions (ports.Entry x) = slice_get entries x.0
number_of_port entries reductions (ports.Total r) = slice_get reductions r.0

-- the lists of a whole job
pub record Lists : Type 0 where
  pub all : List Port
  pub entries : List Entry
  pub reductions : List Reduction
  pub entry_numbers : List ℕ
  pub reduction_numbers : List ℕ

-- the port of this number is this one, and no other number is its
pub record IsPort (l : Lists) (p : ℕ) (port : Port) : Type 0 where
  pub at : slice_get l.all p ≡ Some port
  pub back : number_of_port l.entry_numbers l.reduction_numbers port ≡ Some p

-- ---- where counts stand in those lists

pub record Standing (l : Lists) (c : Counts) (ps : List Port) (es : List Entry) (rs : List Reduction) (ens rns : List ℕ) : Type 0 where
  pub all : Tail l.all c.ports ps
  pub entries : Tail l.entries c.entries es
  pub reductions : Tail l.reductions c.reductions rs
  pub entry_numbers : Tail l.entry_numbers c.entries ens
  pub reduction_numbers : Tail l.reduction_numbers c.reductions rns

-- counts that stop nowhere
pub record Room (c : Counts) (more : ℕ) : Type 0 where
  pub ports : c.ports + more ≤ 1000
  pub sum : c.entries + c.reductions ≡ c.ports

pub not_capped : (n m : ℕ) → n + suc m ≤ 1000 → capped (suc n) ≡ suc n
not_capped n m h = omega (arith, h)

pub few_entries : (c : Counts) (m : ℕ) → Room c (suc m) → c.entries + suc m ≤ 1000
few_entries c m room = omega (arith, room.ports, room.sum)

pub few_reductions : (c : Counts) (m : ℕ) → Room c (suc m) → c.reductions + suc m ≤ 1000
few_reductions c m room = omega (arith, room.ports, room.sum)

pub room_next : (c : Counts) (m : MemberDecl) (more : ℕ) → Room c (suc more) → Room (counts_with c m) more
room_next c (members.Entry e) more room =
    let p = not_capped c.ports more room.ports in
    let x = not_capped c.entries more (few_entries c more room) in
    record { ports = omega (arith, room.ports, p); sum = omega (arith, room.sum, p, x) }
room_next c (members.Reduce r) more room =
    let p = not_capped c.ports more room.ports in
    let x = not_capped c.reductions more (few_reductions c more room) in
    record { ports = omega (arith, room.ports, p); sum = omega (arith, room.sum, p, x) }

pub room_after : (c : Counts) (ms : List MemberDecl) (more : ℕ) → Room c (length ms + more) → Room (counts_after c ms) more
room_after c [] more room = record { ports = omega (arith, room.ports); sum = room.sum }
room_after c (m ∷ ms) more room =
    let k : suc (length ms) + more ≡ suc (length ms + more) = omega arith in
    room_after (counts_with c m) ms more (room_next c m (length ms + more) (record { ports = omega (arith, room.ports); sum = room.sum }))

pub less_room : (c : Counts) (a b : ℕ) → b ≤ a → Room c a → Room c b
less_room c a b h room = record { ports = omega (arith, room.ports); sum = room.sum }

-- each member, where these ports were declared before it
abbrev pub EachMember : (Counts → MemberDecl → Type 0) → Counts → List MemberDecl → Type 0
EachMember Q c [] = Unit {0}
EachMember Q c (m ∷ more) = Q c m × EachMember Q (counts_with c m) more

module _ (text : List ℕ) (arrays : List Known) (l : Lists) (owner : ℕ) where
  -- a member of an array is in the lists
  pub record EntryThere (c : Counts) (e : Entry) : Type 0 where
    pub few : c.entries ≤ 1000
    pub entry : slice_get l.entries c.entries ≡ Some e
    pub port : IsPort l c.ports (entry_port c.entries)

  pub record ReductionThere (c : Counts) (r : Reduction) : Type 0 where
    pub few : c.reductions ≤ 1000
    pub reduction : slice_get l.reductions c.reductions ≡ Some r
    pub port : IsPort l c.ports (total_port c.reductions)

  abbrev pub MemberThere : Counts → MemberDecl → Type 0
  MemberThere c (members.Entry e) = EntryThere c (entry_planned text arrays owner e)
  MemberThere c (members.Reduce r) = ReductionThere c (reduction_planned text owner r)

  moved : {A : Type 0} (xs : List A) (n m : ℕ) (ys : List A) → n ≡ m → Tail xs m ys → Tail xs n ys
  moved xs n m ys e t = subst (λ k. Tail xs k ys) (sym e) t

  pub members_there : (c : Counts) (ms : List MemberDecl) (ps : List Port) (es : List Entry) (rs : List Reduction) (ens rns : List ℕ) → Room c (length ms) →
      Standing l c (port_list c ms ++ ps) (entries_of text arrays owner ms ++ es) (reductions_of text owner ms ++ rs) (entry_numbers c ms ++ ens) (reduction_numbers c ms ++ rns) →
      EachMember MemberThere c ms × Standing l (counts_after c ms) ps es rs ens rns
  members_there c [] ps es rs ens rns room s = (tt, s)
  members_there c (members.Entry e ∷ more) ps es rs ens rns room s =
      let m = members.Entry e in
      let d = counts_with c m in
      let e_more = entries_of text arrays owner more ++ es in
      let n_more = entry_numbers d more ++ ens in
      let p_more = port_list d more ++ ps in
      let one = entry_planned text arrays owner e in
      let p = not_capped c.ports (length more) room.ports in
      let x = not_capped c.entries (length more) (few_entries c (length more) room) in
      let rest = members_there d more ps es rs ens rns (room_next c m (length more) room) (record {
        all = moved l.all d.ports (suc c.ports) p_more p (tail_next l.all c.ports (entry_port c.entries) p_more s.all);
        entries = moved l.entries d.entries (suc c.entries) e_more x (tail_next l.entries c.entries one e_more s.entries);
        reductions = s.reductions;
        entry_numbers = moved l.entry_numbers d.entries (suc c.entries) n_more x (tail_next l.entry_numbers c.entries c.ports n_more s.entry_numbers);
        reduction_numbers = s.reduction_numbers;
      }) in (
        (
          record {
            few = (let k = few_entries c (length more) room in omega (arith, k));
            entry = tail_here l.entries c.entries one e_more s.entries;
            port = record { at = tail_here l.all c.ports (entry_port c.entries) p_more s.all; back = tail_here l.entry_numbers c.entries c.ports n_more s.entry_numbers };
          },
          rest.0,
        ),
        rest.1,
      )
  members_there c (members.Reduce r ∷ more) ps es rs ens rns room s =
      let m = members.Reduce r in
      let d = counts_with c m in
      let r_more = reductions_of text owner more ++ rs in
      let n_more = reduction_numbers d more ++ rns in
      let p_more = port_list d more ++ ps in
      let one = reduction_planned text owner r in
      let p = not_capped c.ports (length more) room.ports in
      let x = not_capped c.reductions (length more) (few_reductions c (length more) room) in
      let rest = members_there d more ps es rs ens rns (room_next c m (length more) room) (record {
        all = moved l.all d.ports (suc c.ports) p_more p (tail_next l.all c.ports (total_port c.reductions) p_more s.all);
        entries = s.entries;
        reductions = moved l.reductions d.reductions (suc c.reductions) r_more x (tail_next l.reductions c.reductions one r_more s.reductions);
        entry_numbers = s.entry_numbers;
        reduction_numbers = moved l.reduction_numbers d.reductions (suc c.reductions) n_more x (tail_next l.reduction_numbers c.reductions c.ports n_more s.reduction_numbers);
      }) in (
        (
          record {
            few = (let k = few_reductions c (length more) room in omega (arith, k));
            reduction = tail_here l.reductions c.reductions one r_more s.reductions;
            port = record { at = tail_here l.all c.ports (total_port c.reductions) p_more s.all; back = tail_here l.reduction_numbers c.reductions c.ports n_more s.reduction_numbers };
          },
          rest.0,
        ),
        rest.1,
      )

  -- ---- the meanings of an array's names

  module _ (states : List State) where
    pub record StateTold (number at cells : ℕ) (plain : Bool) : Type 0 where
      pub state : State
      pub is : slice_get states number ≡ Some state
      pub plain_is : state.plain ≡ plain
      pub at_is : state.at ≡ narrow32 at
      pub cells_is : state.cells ≡ narrow32 cells

    pub record EntryTold (port number values : ℕ) (source : Option ℕ) : Type 0 where
      pub entry : Entry
      pub few : number ≤ 1000
      pub is : slice_get l.entries number ≡ Some entry
      pub owner_is : entry.owner ≡ narrow16 owner
      pub source_is : entry.source ≡ number16 source
      pub values_is : entry.values ≡ narrow8 values
      pub port_is : IsPort l port (entry_port number)

    pub record ReductionTold (port number : ℕ) : Type 0 where
      pub reduction : Reduction
      pub few : number ≤ 1000
      pub is : slice_get l.reductions number ≡ Some reduction
      pub owner_is : reduction.owner ≡ narrow16 owner
      pub port_is : IsPort l port (total_port number)

    abbrev pub Told : Meaning → Type 0
    Told (meanings.State number declared plain at cells) = StateTold number at cells plain
    Told (meanings.Entry port number source values) = EntryTold port number values source
    Told (meanings.Reduction port number) = ReductionTold port number
    Told (meanings.Array number) = Unit {0}

    states_told : (table names : List Known) (number at : ℕ) (ss : List StateDecl) → Tail states number (states_planned text table at ss) → Sound Told names →
        Sound Told (states_named text number at names ss)
    states_told table names number at [] t sound = sound
    states_told table names number at (s ∷ more) t sound =
        let one = state_planned text table at s in
        let others = states_planned text table (capped (at + cells_written s.cells)) more in
        let meaning = meanings.State number s.at (is_none s.cells) at (cells_written s.cells) in
        states_told table (declare names (bytes_at text s.name) meaning) (suc number) (capped (at + cells_written s.cells)) more (tail_next states number one others t)
        (declare_sound Told names (bytes_at text s.name) meaning sound
        (record { state = one; is = tail_here states number one others t; plain_is = refl; at_is = refl; cells_is = refl }))

    ports_told : (c : Counts) (names : List Known) (ms : List MemberDecl) → EachMember MemberThere c ms → Sound Told names → Sound Told (ports_named text arrays c names ms)
    ports_told c names [] each sound = sound
    ports_told c names (members.Entry e ∷ more) each sound =
        let meaning = meanings.Entry c.ports c.entries (array_number text arrays e.source) (values_written e.values) in
        ports_told (counts_with c (members.Entry e)) (declare names (bytes_at text e.name) meaning) more each.1
        (declare_sound Told names (bytes_at text e.name) meaning sound
        (record { entry = entry_planned text arrays owner e; few = each.0.few; is = each.0.entry; owner_is = refl; source_is = refl; values_is = refl; port_is = each.0.port }))
    ports_told c names (members.Reduce r ∷ more) each sound =
        let meaning = meanings.Reduction c.ports c.reductions in
        ports_told (counts_with c (members.Reduce r)) (declare names (bytes_at text r.name) meaning) more each.1
        (declare_sound Told names (bytes_at text r.name) meaning sound
        (record { reduction = reduction_planned text owner r; few = each.0.few; is = each.0.reduction; owner_is = refl; port_is = each.0.port }))

    pub table_told : (table : List Known) (c : Counts) (a : ArrayDecl) → EachMember MemberThere c a.members → Tail states 0 (states_planned text table 0 a.states) →
        Sound Told (table_of text arrays c a)
    table_told table c a each t =
        ports_told c (states_named text 0 0 [] a.states) a.members each (states_told table [] 0 0 a.states t (none_sound Told))
