-- What a statement sends, as the walk notes it and as the plan has it.
use Rattle.std.proofs.Common.{◌≡◌, ℕ, ◌+◌, Bool, true, false, List, [], ◌∷◌, ◌++◌, length, refl, ap, sym, ◌∙◌, subst, Option, Some}
use Rattle.std.specs.Prelude.{◌&&◌, ◌==◌, not, is_some, if◌then◌else◌, slice_get}
use Rattle.std.specs.List.{list_all}
use Rattle.std.proofs.lemmas.Bool.{and_parts, eq-eqb, eqb-true}
use Rattle.std.proofs.lemmas.List.{append_assoc, length-append}
use Rattle.std.proofs.lemmas.List.Elements.{filter-append}
use Rattle.std.proofs.lemmas.List.Folds.{list_all-append}
use Rattle.chare_base.specs.declared.message.EntryId.{EntryId}
use Rattle.chare_base.specs.declared.message.Port.{Port}
use Rattle.chare_base.specs.declared.message.Port.TheVariants as ports
use Rattle.chare_base.specs.declared.message.ReductionId.{ReductionId}
use Rattle.chare_base.specs.Ports.{counted, same_port}
use Rattle.job_rules.specs.declared.notes.PortUse.{PortUse}
use Rattle.job_rules.specs.Ports.{uses_of}
use Rattle.job_rules.proofs.Counting.{both}
use Rattle.job_rules.proofs.Tabled.{IsPort, Lists, number_of_port}

-- ---- tests

pub same_bool : (a b : Bool) → (a ≡ true → b ≡ true) → (b ≡ true → a ≡ true) → a ≡ b
same_bool true b h k = sym (h refl)
same_bool false true h k = k refl
same_bool false false h k = refl

pub all_parts : {A : Type 0} (test : A → Bool) (xs ys : List A) → list_all test (xs ++ ys) ≡ true → (list_all test xs ≡ true) × (list_all test ys ≡ true)
all_parts test xs ys h = and_parts (list_all test xs) (list_all test ys) (sym (list_all-append test xs ys) ∙ h)

pub all_joined : {A : Type 0} (test : A → Bool) (xs ys : List A) → list_all test xs ≡ true → list_all test ys ≡ true → list_all test (xs ++ ys) ≡ true
all_joined test xs ys h k = list_all-append test xs ys ∙ both (list_all test xs) (list_all test ys) h k

-- of two lists that are none together each is none
pub none_first : {A : Type 0} (xs ys : List A) → (xs ++ ys) ≡ [] → xs ≡ []
none_first [] ys h = refl
none_first (x ∷ xs) ys h = absurd (let e : x ∷ (xs ++ ys) ≡ [] = h in cc)

pub none_second : {A : Type 0} (xs ys : List A) → (xs ++ ys) ≡ [] → ys ≡ []
none_second [] ys h = h
none_second (x ∷ xs) ys h = absurd (let e : x ∷ (xs ++ ys) ≡ [] = h in cc)

-- ---- ports

port_same : (q r : Port) → q ≡ r → same_port q r ≡ true
port_same q r h = subst (λ x. same_port q x ≡ true) h (itself q)
  where
    itself : (x : Port) → same_port x x ≡ true
    itself (ports.Entry x) = eq-eqb x.0 x.0 refl
    itself (ports.Total x) = eq-eqb x.0 x.0 refl

entry_from : (x y : EntryId) → y.0 ≡ x.0 → ports.Entry x ≡ ports.Entry y
entry_from x y h = ap (λ n. ports.Entry (record { 0 = n })) (sym h)

total_from : (x y : ReductionId) → y.0 ≡ x.0 → ports.Total x ≡ ports.Total y
total_from x y h = ap (λ n. ports.Total (record { 0 = n })) (sym h)

pub same_ports : (q r : Port) → same_port q r ≡ true → q ≡ r
same_ports (ports.Entry x) (ports.Entry y) h = entry_from x y (eqb-true y.0 x.0 h)
same_ports (ports.Entry x) (ports.Total y) h = absurd (let e : false ≡ true = h in cc)
same_ports (ports.Total x) (ports.Entry y) h = absurd (let e : false ≡ true = h in cc)
same_ports (ports.Total x) (ports.Total y) h = total_from x y (eqb-true y.0 x.0 h)

some_same : {A : Type 0} (x y : A) (o : Option A) → o ≡ Some x → o ≡ Some y → x ≡ y
some_same x y o h k = let e : Some x ≡ Some y = sym h ∙ k in cc

-- two ports have one number exactly where they are the same
pub one_number : (l : Lists) (p r : ℕ) (q s : Port) → IsPort l p q → IsPort l r s → (r == p) ≡ same_port q s
one_number l p r q s a b =
    same_bool (r == p) (same_port q s)
    (λ h. port_same q s (some_same q s (slice_get l.all p) a.at (ap (slice_get l.all) (sym (eqb-true r p h)) ∙ b.at)))
    (λ h. eq-eqb r p (let e : s ≡ q = sym (same_ports q s h) in
    let back : Port → Option ℕ = λ x. number_of_port l.entry_numbers l.reduction_numbers x in
    some_same r p (back q) (ap back (sym e) ∙ b.back) a.back))

-- ---- what is sent

module _ (l : Lists) (step : ℕ) where
  abbrev pub port_there : PortUse → Bool
  port_there v = is_some (slice_get l.all v.port)

  abbrev pub in_step : PortUse → Bool
  in_step v = v.step == step

  abbrev pub is_nested : PortUse → Bool
  is_nested v = v.nested

  abbrev pub is_direct : PortUse → Bool
  is_direct v = not v.nested

  -- What is noted between two lists: nothing only where the plan sends nothing, and where it is not nested, what D says.
  pub record SentBy (nested : Bool) (old new : List PortUse) (quiet : Bool) (D : List PortUse → Type 0) : Type 0 where
    pub us : List PortUse
    pub adds : new ≡ old ++ us
    pub there : list_all port_there us ≡ true
    pub at : list_all in_step us ≡ true
    pub marked : nested ≡ true → list_all is_nested us ≡ true
    pub silent : us ≡ [] → quiet ≡ true
    pub direct : nested ≡ false → list_all is_direct us ≡ true → D us

  append_none : (xs : List PortUse) → xs ≡ xs ++ []
  append_none [] = refl
  append_none (x ∷ xs) = ap (λ l. x ∷ l) (append_none xs)

  pub sent_none : (nested : Bool) (old new : List PortUse) (quiet : Bool) (D : List PortUse → Type 0) → new ≡ old → quiet ≡ true → D [] → SentBy nested old new quiet D
  sent_none nested old new quiet D is q d =
      record { us = []; adds = is ∙ append_none old; there = refl; at = refl; marked = λ h. refl; silent = λ h. q; direct = λ h k. d }

  pub sent_and : (nested : Bool) (a b c : List PortUse) (q r : Bool) (D E F : List PortUse → Type 0) → ((us vs : List PortUse) → D us → E vs → F (us ++ vs)) →
      SentBy nested a b q D → SentBy nested b c r E → SentBy nested a c (q && r) F
  sent_and nested a b c q r D E F join f g = record {
    us = f.us ++ g.us;
    adds = g.adds ∙ ap (λ x. x ++ g.us) f.adds ∙ append_assoc a f.us g.us;
    there = all_joined port_there f.us g.us f.there g.there;
    at = all_joined in_step f.us g.us f.at g.at;
    marked = λ h. all_joined is_nested f.us g.us (f.marked h) (g.marked h);
    silent = λ h. both q r (f.silent (none_first f.us g.us h)) (g.silent (none_second f.us g.us h));
    direct = λ h k. let p = all_parts is_direct f.us g.us k in join f.us g.us (f.direct h p.0) (g.direct h p.1);
  }

  none_left : (us : List PortUse) → list_all is_nested us ≡ true → list_all is_direct us ≡ true → us ≡ []
  none_left [] h k = refl
  none_left (v ∷ more) h k = absurd (let p : v.nested ≡ true = (and_parts v.nested (list_all is_nested more) h).0 in
      let e : not v.nested ≡ true = (and_parts (not v.nested) (list_all is_direct more) k).0 in
      let c : false ≡ true = sym (ap not p) ∙ e in cc)

  -- within an `if` or a loop
  pub sent_within : (nested : Bool) (a b : List PortUse) (q r : Bool) (D E : List PortUse → Type 0) → (q ≡ true → r ≡ true) → (q ≡ true → E []) → SentBy true a b q D → SentBy nested a b r E
  sent_within nested a b q r D E weaker none f = record {
    us = f.us;
    adds = f.adds;
    there = f.there;
    at = f.at;
    marked = λ h. f.marked refl;
    silent = λ h. weaker (f.silent h);
    direct = λ h k. let e = none_left f.us (f.marked refl) k in subst E (sym e) (none (f.silent e));
  }

  -- one send to a port
  pub sent_one : (nested : Bool) (old : List PortUse) (v : PortUse) (q : Port) (D : List PortUse → Type 0) → IsPort l v.port q → v.step ≡ step → v.nested ≡ nested → D (v ∷ []) →
      SentBy nested old (old ++ v ∷ []) false D
  sent_one nested old v q D is at n d = record {
    us = v ∷ [];
    adds = refl;
    there = both (port_there v) true (ap is_some is.at) refl;
    at = both (in_step v) true (eq-eqb v.step step at) refl;
    marked = λ h. both v.nested true (n ∙ h) refl;
    silent = λ h. absurd (let e : v ∷ [] ≡ [] = h in cc);
    direct = λ h k. d;
  }

  pub sent_later : (nested : Bool) (a b c : List PortUse) (q : Bool) (D : List PortUse → Type 0) → c ≡ b → SentBy nested a b q D → SentBy nested a c q D
  sent_later nested a b c q D h f = subst (λ x. SentBy nested a x q D) (sym h) f

-- how many of these are at a port
abbrev pub count_at : ℕ → List PortUse → ℕ
count_at p us = length (uses_of p us)

pub count_joined : (p : ℕ) (us vs : List PortUse) → count_at p (us ++ vs) ≡ count_at p us + count_at p vs
count_joined p us vs = ap length (filter-append (λ (u : PortUse). u.port == p) us vs) ∙ length-append (uses_of p us) (uses_of p vs)

length_if : (b : Bool) (v : PortUse) → length (if b then v ∷ [] else []) ≡ (if b then 1 else 0)
length_if true v = refl
length_if false v = refl

pub count_one : (l : Lists) (p : ℕ) (q : Port) (v : PortUse) (r : Port) → IsPort l p q → IsPort l v.port r → count_at p (v ∷ []) ≡ counted q (Some r)
count_one l p q v r a b = length_if (v.port == p) v ∙ ap (λ c. if c then 1 else 0) (one_number l p v.port q r a b)
