-- Names that are declared once, and what holds of all entries and reductions.
use Rattle.std.proofs.Common.{◌≡◌, ℕ, zero, suc, ◌+◌, ◌<◌, ◌≤◌, Bool, true, false, List, [], ◌∷◌, ◌++◌, length, map, refl, ap, sym, ◌∙◌, subst, arith, Option, None, Some}
use Rattle.std.specs.Prelude.{◌&&◌, ◌||◌, ◌==◌, not, nat_le, if◌then◌else◌, slice_get}
use Rattle.std.specs.List.{list_all, list_any}
use Rattle.std.specs.Option.{option_map_or}
use Rattle.std.specs.Str.{bytes_eq}
use Rattle.std.proofs.lemmas.Bool.{and_parts, eqb-true, leb-true, le-leb, lt-ltb}
use Rattle.std.proofs.lemmas.Slice.Eq.{bytes_eq-Decides}
use Rattle.chare_base.specs.declared.message.Port.{Port}
use Rattle.chare_base.specs.declared.message.Port.TheVariants as ports
use Rattle.chare_base.specs.declared.plan.Array.{Array}
use Rattle.chare_base.specs.declared.plan.Entry.{Entry}
use Rattle.chare_base.specs.declared.plan.Reduction.{Reduction}
use Rattle.chare_base.specs.declared.plan.State.{State}
use Rattle.chare_base.specs.Limits as r
use Rattle.chare_base.specs.Limits.{between, entry_fits, members_fit, name_fits, offset_fits, ports_fit, reduction_fits}
use Rattle.chare_base.specs.Names.{array_name, distinct_by, distinct_entries, distinct_reductions, entry_is_new, entry_named, names_hold, reduction_is_new, reduction_named, state_name, state_named}
use Rattle.chare_base.specs.Ports as b
use Rattle.chare_base.specs.Ports.{array_sends_directly, entry_port, port_holds, ports_hold, total_port}
use Rattle.chare_base.specs.Ranges.{arrays_in_range, entry_in_range, reduction_in_range}
use Rattle.job_tree.specs.declared.tree.ArrayDecl.{ArrayDecl}
use Rattle.job_tree.specs.declared.tree.MemberDecl.{MemberDecl}
use Rattle.job_tree.specs.declared.tree.MemberDecl.TheVariants as members
use Rattle.job_rules.specs.declared.names.Meaning.{Meaning}
use Rattle.job_rules.specs.declared.names.Meaning.TheVariants as meanings
use Rattle.job_rules.specs.declared.notes.PortUse.{PortUse}
use Rattle.job_rules.specs.declared.tables.JobNames.{JobNames}
use Rattle.job_rules.specs.Declarations.{is_array, is_port, is_state}
use Rattle.job_rules.specs.Names.{Known}
use Rattle.job_rules.specs.PlannedMembers as p
use Rattle.job_rules.specs.Numbers.{narrow16}
use Rattle.job_rules.specs.Ports.{uses_of}
use Rattle.job_rules.specs.Tables.{member_meaning}
use Rattle.job_rules.proofs.Counting.{both}
use Rattle.job_rules.proofs.Gathering.{EntriesAll, EntryGood, ReductionGood, ReductionsAll}
use Rattle.job_rules.proofs.Porting.{all_marks, once, port_kept}
use Rattle.job_rules.proofs.Stepping.{send_marks, take_marks}
use Rattle.job_rules.proofs.Tabled.{IsPort, Lists}

same_bytes : (a b : List ℕ) → bytes_eq a b ≡ true → a ≡ b
same_bytes a b h = (bytes_eq-Decides a b).0 h

-- ---- the meanings of one name

port_same : (o : Option Meaning) (p q : ℕ) → is_port p o ≡ true → is_port q o ≡ true → p ≡ q
port_same None p q h k = absurd (let e : false ≡ true = h in cc)
port_same (Some (meanings.Array n)) p q h k = absurd (let e : false ≡ true = h in cc)
port_same (Some (meanings.State n declared plain at cells)) p q h k = absurd (let e : false ≡ true = h in cc)
port_same (Some (meanings.Entry port n source values)) p q h k = sym (eqb-true port p h) ∙ eqb-true port q k
port_same (Some (meanings.Reduction port n)) p q h k = sym (eqb-true port p h) ∙ eqb-true port q k

port_no_state : (o : Option Meaning) (p q : ℕ) → is_port p o ≡ true → is_state q o ≡ true → ⊥
port_no_state None p q h k = let e : false ≡ true = h in cc
port_no_state (Some (meanings.Array n)) p q h k = let e : false ≡ true = h in cc
port_no_state (Some (meanings.State n declared plain at cells)) p q h k = let e : false ≡ true = h in cc
port_no_state (Some (meanings.Entry port n source values)) p q h k = let e : false ≡ true = k in cc
port_no_state (Some (meanings.Reduction port n)) p q h k = let e : false ≡ true = k in cc

pub state_same : (o : Option Meaning) (p q : ℕ) → is_state p o ≡ true → is_state q o ≡ true → p ≡ q
state_same None p q h k = absurd (let e : false ≡ true = h in cc)
state_same (Some (meanings.Array n)) p q h k = absurd (let e : false ≡ true = h in cc)
state_same (Some (meanings.State n declared plain at cells)) p q h k = sym (eqb-true n p h) ∙ eqb-true n q k
state_same (Some (meanings.Entry port n source values)) p q h k = absurd (let e : false ≡ true = h in cc)
state_same (Some (meanings.Reduction port n)) p q h k = absurd (let e : false ≡ true = h in cc)

pub array_same : (o : Option Meaning) (p q : ℕ) → is_array p o ≡ true → is_array q o ≡ true → p ≡ q
array_same None p q h k = absurd (let e : false ≡ true = h in cc)
array_same (Some (meanings.Array n)) p q h k = sym (eqb-true n p h) ∙ eqb-true n q k
array_same (Some (meanings.State n declared plain at cells)) p q h k = absurd (let e : false ≡ true = h in cc)
array_same (Some (meanings.Entry port n source values)) p q h k = absurd (let e : false ≡ true = h in cc)
array_same (Some (meanings.Reduction port n)) p q h k = absurd (let e : false ≡ true = h in cc)

none_any : {A : Type 0} (test : A → Bool) (x : A) (more : List A) → (test x ≡ true → ⊥) → list_any test more ≡ false → list_any test (x ∷ more) ≡ false
none_any test x more never rest = by (test x) refl
  where
    by : (t : Bool) → test x ≡ t → list_any test (x ∷ more) ≡ false
    by true e = absurd (never e)
    by false e = ap (λ t. t || list_any test more) e ∙ rest

-- ---- items with numbers of their own

module _ {A : Type 0} (name : A → List ℕ) (look : List ℕ → Option Meaning) (is : ℕ → Option Meaning → Bool) (unique : (o : Option Meaning) (p q : ℕ) → is p o ≡ true → is q o ≡ true → p ≡ q) where
  abbrev pub Numbered : ℕ → List A → Type 0
  Numbered k [] = Unit {0}
  Numbered k (x ∷ more) = (is k (look (name x)) ≡ true) × Numbered (suc k) more

  others_differ : (k j : ℕ) (x : A) (xs : List A) → is k (look (name x)) ≡ true → k < j → Numbered j xs → list_any (λ y. bytes_eq (name x) (name y)) xs ≡ false
  others_differ k j x [] h less all = refl
  others_differ k j x (y ∷ more) h less all =
      none_any (λ z. bytes_eq (name x) (name z)) y more
      (λ e.
      let same : name x ≡ name y = same_bytes (name x) (name y) e in
      let equal : j ≡ k = unique (look (name x)) j k (ap (λ n. is j (look n)) same ∙ all.0) h in
      let c : k < k = omega (arith, less, equal) in omega (arith, c))
      (others_differ k (suc j) x more h (omega (arith, less)) all.1)

  pub distinct : (k : ℕ) (xs : List A) → Numbered k xs → distinct_by name xs ≡ true
  distinct k [] all = refl
  distinct k (x ∷ more) all =
      both (not (list_any (λ y. bytes_eq (name x) (name y)) more)) (distinct_by name more) (ap not (others_differ k (suc k) x more all.0 (omega arith) all.1)) (distinct (suc k) more all.1)

-- ---- entries and reductions

abbrev port_number : Port → ℕ
port_number (ports.Entry x) = x.0
port_number (ports.Total x) = x.0

module _ (text : List ℕ) (names : JobNames) (declared : List ArrayDecl) (l : Lists) (planned : List Array) (sent received : List PortUse) where
  abbrev Good : ℕ → Entry → Type 0
  Good = EntryGood text names declared l planned sent received

  abbrev GoodReduction : ℕ → Reduction → Type 0
  GoodReduction = ReductionGood text names declared l planned sent received

  abbrev meaning_of : ℕ → List ℕ → Option Meaning
  meaning_of owner name = member_meaning names owner name

  -- the states of an array are declared with their numbers
  abbrev pub StatesNumbered : Type 0
  StatesNumbered = (n : ℕ) (a : Array) → slice_get planned n ≡ Some a → Numbered state_name (member_meaning names n) is_state state_same 0 a.states

  some_same : {A : Type 0} (x y : A) (o : Option A) → o ≡ Some x → o ≡ Some y → x ≡ y
  some_same x y o h k = let e : Some x ≡ Some y = sym h ∙ k in cc

  -- two members of one array with one name have one port
  one_port : (owner other p q : ℕ) (name its : List ℕ) → is_port p (meaning_of owner name) ≡ true → is_port q (meaning_of other its) ≡ true → (other == owner && bytes_eq name its) ≡ true → p ≡ q
  one_port owner other p q name its h k e =
      let t = and_parts (other == owner) (bytes_eq name its) e in
      let owner_is : other ≡ owner = eqb-true other owner t.0 in
      let name_is : name ≡ its = same_bytes name its t.1 in
      port_same (meaning_of owner name) p q h (ap (λ n. is_port q (meaning_of owner n)) name_is ∙ ap (λ n. is_port q (meaning_of n its)) (sym owner_is) ∙ k)

  entries_differ : (x y : ℕ) (e : Entry) (es : List Entry) → Good x e → x < y → EntriesAll Good y es → entry_named e.owner e.name es ≡ false
  entries_differ x y e [] good less all = refl
  entries_differ x y e (f ∷ more) good less all =
      none_any (λ (z : Entry). z.owner == e.owner && bytes_eq e.name z.name) f more
      (λ h.
      let same : good.port ≡ all.0.port = one_port e.owner f.owner good.port all.0.port e.name f.name good.meant all.0.meant h in
      let equal : entry_port x ≡ entry_port y = some_same (entry_port x) (entry_port y) (slice_get l.all good.port) good.is.at (ap (slice_get l.all) same ∙ all.0.is.at) in
      let c : x ≡ y = ap port_number equal in omega (arith, c, less))
      (entries_differ x (suc y) e more good (omega (arith, less)) all.1)

  entries_distinct : (x : ℕ) (es : List Entry) → EntriesAll Good x es → distinct_entries es ≡ true
  entries_distinct x [] all = refl
  entries_distinct x (e ∷ more) all =
      both (not (entry_named e.owner e.name more)) (distinct_entries more) (ap not (entries_differ x (suc x) e more all.0 (omega arith) all.1)) (entries_distinct (suc x) more all.1)

  reductions_differ : (x y : ℕ) (e : Reduction) (es : List Reduction) → GoodReduction x e → x < y → ReductionsAll GoodReduction y es → reduction_named e.owner e.name es ≡ false
  reductions_differ x y e [] good less all = refl
  reductions_differ x y e (f ∷ more) good less all =
      none_any (λ (z : Reduction). z.owner == e.owner && bytes_eq e.name z.name) f more
      (λ h.
      let same : good.port ≡ all.0.port = one_port e.owner f.owner good.port all.0.port e.name f.name good.meant all.0.meant h in
      let equal : total_port x ≡ total_port y = some_same (total_port x) (total_port y) (slice_get l.all good.port) good.is.at (ap (slice_get l.all) same ∙ all.0.is.at) in
      let c : x ≡ y = ap port_number equal in omega (arith, c, less))
      (reductions_differ x (suc y) e more good (omega (arith, less)) all.1)

  reductions_distinct : (x : ℕ) (es : List Reduction) → ReductionsAll GoodReduction x es → distinct_reductions es ≡ true
  reductions_distinct x [] all = refl
  reductions_distinct x (e ∷ more) all =
      both (not (reduction_named e.owner e.name more)) (distinct_reductions more) (ap not (reductions_differ x (suc x) e more all.0 (omega arith) all.1)) (reductions_distinct (suc x) more all.1)

  -- no entry has the name of a reduction of its array
  no_entry_named : (x y : ℕ) (e : Reduction) (es : List Entry) → GoodReduction x e → EntriesAll Good y es → entry_named e.owner e.name es ≡ false
  no_entry_named x y e [] good all = refl
  no_entry_named x y e (f ∷ more) good all =
      none_any (λ (z : Entry). z.owner == e.owner && bytes_eq e.name z.name) f more
      (λ h.
      let same : good.port ≡ all.0.port = one_port e.owner f.owner good.port all.0.port e.name f.name good.meant all.0.meant h in
      let equal : total_port x ≡ entry_port y = some_same (total_port x) (entry_port y) (slice_get l.all good.port) good.is.at (ap (slice_get l.all) same ∙ all.0.is.at) in
      cc)
      (no_entry_named x (suc y) e more good all.1)

  -- nor one of its states
  states_differ : (owner p k : ℕ) (name : List ℕ) (ss : List State) → is_port p (meaning_of owner name) ≡ true → Numbered state_name (member_meaning names owner) is_state state_same k ss → list_any (λ s. bytes_eq name (state_name s)) ss ≡ false
  states_differ owner p k name [] h all = refl
  states_differ owner p k name (s ∷ more) h all =
      none_any (λ z. bytes_eq name (state_name z)) s more
      (λ e. port_no_state (meaning_of owner name) p k h (ap (λ n. is_state k (meaning_of owner n)) (same_bytes name s.name e) ∙ all.0))
      (states_differ owner p (suc k) name more h all.1)

  no_state_named : (owner p : ℕ) (name : List ℕ) → StatesNumbered → is_port p (meaning_of owner name) ≡ true → state_named planned owner name ≡ false
  no_state_named owner p name states h = by (slice_get planned owner) refl
    where
      by : (o : Option Array) → slice_get planned owner ≡ o → list_any (λ s. bytes_eq name (state_name s)) (option_map_or (λ (a : Array). a.states) o []) ≡ false
      by None e = refl
      by (Some a) e = states_differ owner p 0 name a.states h (states owner a e)

  entries_new : (x : ℕ) (es : List Entry) → StatesNumbered → EntriesAll Good x es → list_all (entry_is_new planned) es ≡ true
  entries_new x [] states all = refl
  entries_new x (e ∷ more) states all =
      both (entry_is_new planned e) (list_all (entry_is_new planned) more) (ap not (no_state_named e.owner all.0.port e.name states all.0.meant)) (entries_new (suc x) more states all.1)

  reductions_new : (x : ℕ) (rs : List Reduction) (es : List Entry) → StatesNumbered → EntriesAll Good 0 es → ReductionsAll GoodReduction x rs → list_all (reduction_is_new planned es) rs ≡ true
  reductions_new x [] es states entries all = refl
  reductions_new x (e ∷ more) es states entries all =
      both (reduction_is_new planned es e) (list_all (reduction_is_new planned es) more)
      (both (not (entry_named e.owner e.name es)) (not (state_named planned e.owner e.name)) (ap not (no_entry_named x 0 e es all.0 entries)) (ap not (no_state_named e.owner all.0.port e.name states all.0.meant)))
      (reductions_new (suc x) more es states entries all.1)

  -- each state is declared once, each entry and each reduction too
  pub names_kept : (es : List Entry) (rs : List Reduction) → EntriesAll Good 0 es → ReductionsAll GoodReduction 0 rs → StatesNumbered → distinct_by array_name planned ≡ true → list_all (λ (a : Array). distinct_by state_name a.states) planned ≡ true →
      names_hold planned es rs ≡ true
  unfolding names_hold
  names_kept es rs entries reductions states arrays each =
      both (distinct_by array_name planned && list_all (λ (a : Array). distinct_by state_name a.states) planned && distinct_entries es && list_all (entry_is_new planned) es && distinct_reductions rs) (list_all (reduction_is_new planned es) rs)
      (both (distinct_by array_name planned && list_all (λ (a : Array). distinct_by state_name a.states) planned && distinct_entries es && list_all (entry_is_new planned) es) (distinct_reductions rs)
      (both (distinct_by array_name planned && list_all (λ (a : Array). distinct_by state_name a.states) planned && distinct_entries es) (list_all (entry_is_new planned) es)
      (both (distinct_by array_name planned && list_all (λ (a : Array). distinct_by state_name a.states) planned) (distinct_entries es)
      (both (distinct_by array_name planned) (list_all (λ (a : Array). distinct_by state_name a.states) planned) arrays each)
      (entries_distinct 0 es entries)) (entries_new 0 es states entries)) (reductions_distinct 0 rs reductions)) (reductions_new 0 rs es states entries reductions)

  -- ---- what holds of each

  pub all_entries_fit : (x : ℕ) (es : List Entry) → EntriesAll Good x es → list_all entry_fits es ≡ true
  all_entries_fit x [] all = refl
  all_entries_fit x (e ∷ more) all = both (entry_fits e) (list_all entry_fits more) all.0.fits (all_entries_fit (suc x) more all.1)

  pub all_reductions_fit : (x : ℕ) (es : List Reduction) → ReductionsAll GoodReduction x es → list_all reduction_fits es ≡ true
  all_reductions_fit x [] all = refl
  all_reductions_fit x (e ∷ more) all = both (reduction_fits e) (list_all reduction_fits more) all.0.fits (all_reductions_fit (suc x) more all.1)

  pub all_entries_ranged : (x : ℕ) (es : List Entry) → EntriesAll Good x es → list_all (entry_in_range planned) es ≡ true
  all_entries_ranged x [] all = refl
  all_entries_ranged x (e ∷ more) all = both (entry_in_range planned e) (list_all (entry_in_range planned) more) all.0.ranged (all_entries_ranged (suc x) more all.1)

  pub all_reductions_ranged : (x : ℕ) (es : List Reduction) → ReductionsAll GoodReduction x es → list_all (reduction_in_range planned) es ≡ true
  all_reductions_ranged x [] all = refl
  all_reductions_ranged x (e ∷ more) all =
      both (reduction_in_range planned e) (list_all (reduction_in_range planned) more) (lt-ltb e.owner (length planned) all.0.owner_few) (all_reductions_ranged (suc x) more all.1)

  pub entry_values : (x k : ℕ) (e : Entry) (es : List Entry) → EntriesAll Good x es → slice_get es k ≡ Some e → e.values ≤ 8
  entry_values x k e [] all is = absurd (let c : None ≡ Some e = is in cc)
  entry_values x zero e (f ∷ more) all is =
      let same : f ≡ e = (let c : Some f ≡ Some e = is in cc) in
      let fits = and_parts (name_fits f.name && offset_fits f.down && offset_fits f.across) (between 1 8 f.values) all.0.fits in
      let few : f.values ≤ 8 = leb-true f.values 8 (and_parts (nat_le 1 f.values) (nat_le f.values 8) fits.1).1 in
      subst (λ (z : Entry). z.values ≤ 8) same few
  entry_values x (suc k) e (f ∷ more) all is = entry_values (suc x) k e more all.1 is

  -- ---- ports

  module _ (ranged : arrays_in_range l.entries l.reductions 0 planned ≡ true)
      (sends : (p : ℕ) (q : Port) → IsPort l p q → map (λ (u : PortUse). u.step) (uses_of p sent) ≡ all_marks (λ (a : Array). send_marks q 0 a.steps) planned)
      (takes : (p : ℕ) (q : Port) → IsPort l p q → map (λ (u : PortUse). u.step) (uses_of p received) ≡ all_marks (λ (a : Array). take_marks q 0 a.steps) planned) where
    entries_hold : (x : ℕ) (es : List Entry) → EntriesAll Good x es → b.entries_from planned x es ≡ true
    entries_hold x [] all = refl
    entries_hold x (e ∷ more) all =
        both (port_holds planned (entry_port x) e.source e.owner) (b.entries_from planned (suc x) more)
        (port_kept l.entries l.reductions planned (entry_port x) e.source e.owner all.0.port sent received ranged
        (λ i from. sym from.2 ∙ ap (λ (z : Entry). z.source) (some_same from.0 e (slice_get l.entries x) from.1 all.0.at))
        (λ i to. sym to.2 ∙ ap (λ (z : Entry). z.owner) (some_same to.0 e (slice_get l.entries x) to.1 all.0.at))
        (sends all.0.port (entry_port x) all.0.is) (takes all.0.port (entry_port x) all.0.is)
        (once all.0.held.0 (uses_of all.0.port sent) (uses_of all.0.port received) all.0.held.1).0)
        (entries_hold (suc x) more all.1)

    reductions_hold : (x : ℕ) (es : List Reduction) → ReductionsAll GoodReduction x es → b.reductions_from planned x es ≡ true
    reductions_hold x [] all = refl
    reductions_hold x (e ∷ more) all =
        both (port_holds planned (total_port x) e.owner e.owner) (b.reductions_from planned (suc x) more)
        (port_kept l.entries l.reductions planned (total_port x) e.owner e.owner all.0.port sent received ranged
        (λ i from. sym from.2 ∙ ap (λ (z : Reduction). z.owner) (some_same from.0 e (slice_get l.reductions x) from.1 all.0.at))
        (λ i to. sym to.2 ∙ ap (λ (z : Reduction). z.owner) (some_same to.0 e (slice_get l.reductions x) to.1 all.0.at))
        (sends all.0.port (total_port x) all.0.is) (takes all.0.port (total_port x) all.0.is)
        (once all.0.held.0 (uses_of all.0.port sent) (uses_of all.0.port received) all.0.held.1).0)
        (reductions_hold (suc x) more all.1)

    pub ports_kept : (es : List Entry) (rs : List Reduction) → EntriesAll Good 0 es → ReductionsAll GoodReduction 0 rs → list_all array_sends_directly planned ≡ true → ports_hold planned es rs ≡ true
    unfolding ports_hold
    ports_kept es rs entries reductions direct =
        both (list_all array_sends_directly planned && b.entries_from planned 0 es) (b.reductions_from planned 0 rs)
        (both (list_all array_sends_directly planned) (b.entries_from planned 0 es) direct (entries_hold 0 es entries)) (reductions_hold 0 rs reductions)

-- ---- how many entries and reductions an array has

-- no array has more than 16 members
abbrev pub FewMembers : List ArrayDecl → Type 0
FewMembers [] = Unit {0}
FewMembers (a ∷ more) = (length a.members ≤ 16) × FewMembers more

module _ (text : List ℕ) (arrays : List Known) where
  entries_joined : (n : ℕ) (xs ys : List Entry) → r.entries_of n (xs ++ ys) ≡ r.entries_of n xs + r.entries_of n ys
  entries_joined n [] ys = omega arith
  entries_joined n (e ∷ xs) ys = by (e.owner == n) (entries_joined n xs ys)
    where
      by : (t : Bool) → r.entries_of n (xs ++ ys) ≡ r.entries_of n xs + r.entries_of n ys → (if t then suc (r.entries_of n (xs ++ ys)) else r.entries_of n (xs ++ ys)) ≡ (if t then suc (r.entries_of n xs) else r.entries_of n xs) + r.entries_of n ys
      by true h = omega (arith, h)
      by false h = h

  reductions_joined : (n : ℕ) (xs ys : List Reduction) → r.reductions_of n (xs ++ ys) ≡ r.reductions_of n xs + r.reductions_of n ys
  reductions_joined n [] ys = omega arith
  reductions_joined n (e ∷ xs) ys = by (e.owner == n) (reductions_joined n xs ys)
    where
      by : (t : Bool) → r.reductions_of n (xs ++ ys) ≡ r.reductions_of n xs + r.reductions_of n ys → (if t then suc (r.reductions_of n (xs ++ ys)) else r.reductions_of n (xs ++ ys)) ≡ (if t then suc (r.reductions_of n xs) else r.reductions_of n xs) + r.reductions_of n ys
      by true h = omega (arith, h)
      by false h = h

  -- the members of one array: all of them where it is the array, none else
  own_members : (owner n : ℕ) (t : Bool) → (narrow16 owner == n) ≡ t → (ms : List MemberDecl) →
      r.entries_of n (p.entries_of text arrays owner ms) + r.reductions_of n (p.reductions_of text owner ms) ≡ (if t then length ms else 0)
  own_members owner n true e [] = omega arith
  own_members owner n false e [] = omega arith
  own_members owner n true e (members.Entry m ∷ more) =
      let rest : r.entries_of n (p.entries_of text arrays owner more) + r.reductions_of n (p.reductions_of text owner more) ≡ length more = own_members owner n true e more in
      ap (λ t. (if t then suc (r.entries_of n (p.entries_of text arrays owner more)) else r.entries_of n (p.entries_of text arrays owner more)) + r.reductions_of n (p.reductions_of text owner more)) e ∙ omega (arith, rest)
  own_members owner n false e (members.Entry m ∷ more) =
      ap (λ t. (if t then suc (r.entries_of n (p.entries_of text arrays owner more)) else r.entries_of n (p.entries_of text arrays owner more)) + r.reductions_of n (p.reductions_of text owner more)) e ∙ own_members owner n false e more
  own_members owner n true e (members.Reduce m ∷ more) =
      let rest : r.entries_of n (p.entries_of text arrays owner more) + r.reductions_of n (p.reductions_of text owner more) ≡ length more = own_members owner n true e more in
      ap (λ t. r.entries_of n (p.entries_of text arrays owner more) + (if t then suc (r.reductions_of n (p.reductions_of text owner more)) else r.reductions_of n (p.reductions_of text owner more))) e ∙ omega (arith, rest)
  own_members owner n false e (members.Reduce m ∷ more) =
      ap (λ t. r.entries_of n (p.entries_of text arrays owner more) + (if t then suc (r.reductions_of n (p.reductions_of text owner more)) else r.reductions_of n (p.reductions_of text owner more))) e ∙ own_members owner n false e more

  abbrev members_of : ℕ → ℕ → List ArrayDecl → ℕ
  members_of n owner decls = r.entries_of n (p.entries_from text arrays owner decls) + r.reductions_of n (p.reductions_from text owner decls)

  none_later : (n owner : ℕ) (decls : List ArrayDecl) → n < owner → owner + length decls ≤ 1000 → members_of n owner decls ≡ 0
  none_later n owner [] less few = omega arith
  none_later n owner (a ∷ more) less few =
      let not_here : narrow16 owner ≡ owner = omega (arith, few) in
      let own : r.entries_of n (p.entries_of text arrays owner a.members) + r.reductions_of n (p.reductions_of text owner a.members) ≡ 0 = own_members owner n false (differ owner n (omega (arith, not_here, less))) a.members in
      let x = entries_joined n (p.entries_of text arrays owner a.members) (p.entries_from text arrays (suc owner) more) in
      let y = reductions_joined n (p.reductions_of text owner a.members) (p.reductions_from text (suc owner) more) in
      let rest = none_later n (suc owner) more (omega (arith, less)) (omega (arith, few)) in
      omega (arith, own, x, y, rest)
    where
      differ : (o m : ℕ) → m < narrow16 o → (narrow16 o == m) ≡ false
      differ o m h = by (narrow16 o == m) refl
        where
          by : (t : Bool) → (narrow16 o == m) ≡ t → (narrow16 o == m) ≡ false
          by true e = absurd (let c : narrow16 o ≡ m = eqb-true (narrow16 o) m e in omega (arith, c, h))
          by false e = e

  few_owned : (n owner : ℕ) (decls : List ArrayDecl) → FewMembers decls → owner + length decls ≤ 1000 → members_of n owner decls ≤ 16
  few_owned n owner [] few small = omega arith
  few_owned n owner (a ∷ more) few small =
      let x = entries_joined n (p.entries_of text arrays owner a.members) (p.entries_from text arrays (suc owner) more) in
      let y = reductions_joined n (p.reductions_of text owner a.members) (p.reductions_from text (suc owner) more) in
      let rest = few_owned n (suc owner) more few.1 (omega (arith, small)) in
      by (narrow16 owner == n) refl x y rest
    where
      by : (t : Bool) → (narrow16 owner == n) ≡ t →
          r.entries_of n (p.entries_of text arrays owner a.members ++ p.entries_from text arrays (suc owner) more) ≡ r.entries_of n (p.entries_of text arrays owner a.members) + r.entries_of n (p.entries_from text arrays (suc owner) more) →
          r.reductions_of n (p.reductions_of text owner a.members ++ p.reductions_from text (suc owner) more) ≡ r.reductions_of n (p.reductions_of text owner a.members) + r.reductions_of n (p.reductions_from text (suc owner) more) →
          members_of n (suc owner) more ≤ 16 → members_of n owner (a ∷ more) ≤ 16
      by true e x y rest =
          let own : r.entries_of n (p.entries_of text arrays owner a.members) + r.reductions_of n (p.reductions_of text owner a.members) ≡ length a.members = own_members owner n true e a.members in
          let n_is : narrow16 owner ≡ n = eqb-true (narrow16 owner) n e in
          let later = none_later n (suc owner) more (omega (arith, n_is)) (omega (arith, small)) in
          let most = few.0 in
          omega (arith, own, x, y, later, most)
      by false e x y rest =
          let own : r.entries_of n (p.entries_of text arrays owner a.members) + r.reductions_of n (p.reductions_of text owner a.members) ≡ 0 = own_members owner n false e a.members in
          omega (arith, own, x, y, rest)

  all_fit : (es : List Entry) (rs : List Reduction) (xs : List Entry) → ((n : ℕ) → r.entries_of n es + r.reductions_of n rs ≤ 16) → list_all (λ e. ports_fit es rs e.owner) xs ≡ true
  all_fit es rs [] h = refl
  all_fit es rs (e ∷ more) h = both (ports_fit es rs e.owner) (list_all (λ x. ports_fit es rs x.owner) more) (le-leb (r.entries_of e.owner es + r.reductions_of e.owner rs) 16 (h e.owner)) (all_fit es rs more h)

  all_fit_too : (es : List Entry) (rs : List Reduction) (xs : List Reduction) → ((n : ℕ) → r.entries_of n es + r.reductions_of n rs ≤ 16) → list_all (λ e. ports_fit es rs e.owner) xs ≡ true
  all_fit_too es rs [] h = refl
  all_fit_too es rs (e ∷ more) h = both (ports_fit es rs e.owner) (list_all (λ x. ports_fit es rs x.owner) more) (le-leb (r.entries_of e.owner es + r.reductions_of e.owner rs) 16 (h e.owner)) (all_fit_too es rs more h)

  pub members_kept : (decls : List ArrayDecl) → FewMembers decls → length decls ≤ 8 → list_all entry_fits (p.entries_from text arrays 0 decls) ≡ true → list_all reduction_fits (p.reductions_from text 0 decls) ≡ true →
      members_fit (p.entries_from text arrays 0 decls) (p.reductions_from text 0 decls) ≡ true
  members_kept decls few small entries reductions =
      let es = p.entries_from text arrays 0 decls in
      let rs = p.reductions_from text 0 decls in
      let each : (n : ℕ) → r.entries_of n es + r.reductions_of n rs ≤ 16 = λ n. few_owned n 0 decls few (omega (arith, small)) in
      both (list_all entry_fits es && list_all reduction_fits rs && list_all (λ e. ports_fit es rs e.owner) es) (list_all (λ e. ports_fit es rs e.owner) rs)
      (both (list_all entry_fits es && list_all reduction_fits rs) (list_all (λ e. ports_fit es rs e.owner) es)
      (both (list_all entry_fits es) (list_all reduction_fits rs) entries reductions) (all_fit es rs es each)) (all_fit_too es rs rs each)
