-- What is gathered stays the members' own, and a total is that of all of them.
use Rattle.std.proofs.Common.{◌≡◌, ℕ, zero, suc, ◌<◌, ◌≤◌, ℤ, Bool, true, false, cond, List, [], ◌∷◌, ◌++◌, length, refl, ap, sym, ◌∙◌, arith, subst, Option, Some, None}
use Rattle.std.specs.Prelude.{◌&&◌, ◌==◌, nat_lt, is_none, is_some, IfSome, replicate, slice_get, slice_set}
use Rattle.std.specs.List.{AllByRecursion, list_all}
use Rattle.std.proofs.lemmas.Bool.{ltb-true, eq-eqb}
use Rattle.std.proofs.lemmas.Option.{same_Some}
use Rattle.chare_base.specs.declared.message.ReductionId.{ReductionId}
use Rattle.chare_base.specs.declared.plan.How.{How}
use Rattle.chare_base.specs.Total.{joined, joined_to}
use Rattle.chare_eval.specs.Laws.{some_number}
use Rattle.object_steps.specs.Partial.{Gathered, given_at, total_of, values, with_given}
use Rattle.node_core.specs.Gatherings.{Gathering, Tallied, counted, gathering, given_to, is_of, settled, settled_by, tallied, with_first}
use Rattle.node_core.specs.Keeps.{Gathers, Gives}

-- the numbers of these members, in order
abbrev pub collected : (ℕ → Option ℤ) → List ℕ → List ℤ
collected own [] = []
collected own (m ∷ ms) = some_number (own m) ++ collected own ms

-- they give their own numbers
pub record Holds (how : How) (own : ℕ → Option ℤ) (ms : List ℕ) (g : Gathered) : Type 0 where
  pub joined : g.how ≡ how
  pub gives : Gives own ms g.given

pub gives_length : (own : ℕ → Option ℤ) (ms : List ℕ) (given : List (Option ℤ)) → Gives own ms given → length given ≡ length ms
gives_length own [] [] h = refl
gives_length own [] (v ∷ more) h = absurd h
gives_length own (m ∷ ms) [] h = absurd h
gives_length own (m ∷ ms) (v ∷ more) h = ap suc (gives_length own ms more h.1)

none_gives : (own : ℕ → Option ℤ) (ms : List ℕ) → Gives own ms (replicate (length ms) None)
none_gives own [] = tt
none_gives own (m ∷ ms) = (tt, none_gives own ms)

gives_set : (own : ℕ → Option ℤ) (ms : List ℕ) (given : List (Option ℤ)) (rank m : ℕ) (v : ℤ) → Gives own ms given → slice_get ms rank ≡ Some m → own m ≡ Some v → Gives own ms (slice_set given rank (Some v))
gives_set own [] [] rank m v h is says = tt
gives_set own [] (g ∷ more) rank m v h is says = absurd h
gives_set own (n ∷ ms) [] rank m v h is says = absurd h
gives_set own (n ∷ ms) (g ∷ more) zero m v h is says = let same : n ≡ m = same_Some n m is in (ap own same ∙ says, h.1)
gives_set own (n ∷ ms) (g ∷ more) (suc rank) m v h is says = (h.0, gives_set own ms more rank m v h.1 is says)

-- where no number is missing, they are all of them
all_values : (own : ℕ → Option ℤ) (ms : List ℕ) (given : List (Option ℤ)) → Gives own ms given → list_all is_some given ≡ true → values given ≡ collected own ms
all_values own [] [] h all = refl
all_values own [] (g ∷ more) h all = absurd h
all_values own (m ∷ ms) [] h all = absurd h
all_values own (m ∷ ms) (None ∷ more) h all = absurd (let e : false ≡ true = all in cc)
all_values own (m ∷ ms) (Some v ∷ more) h all = ap (λ vs. v ∷ vs) (all_values own ms more h.1 all) ∙ ap (λ o. some_number o ++ collected own ms) (sym h.0)

-- ---- a whole gathering has a total

joined_some : (how : How) (x : ℤ) (vs : List ℤ) → joined_to how (Some x) vs ≡ None → ⊥
joined_some how x [] h = let e : Some x ≡ None = h in cc
joined_some how x (v ∷ vs) h = joined_some how (joined how x v) vs h

total_some : (how : How) (given : List (Option ℤ)) → 1 ≤ length given → list_all is_some given ≡ true → total_of how given ≡ None → ⊥
total_some how [] h all none = omega (arith, h)
total_some how (None ∷ more) h all none = let e : false ≡ true = all in cc
total_some how (Some v ∷ more) h all none = joined_some how v (values more) none

pub some_there : (ms : List ℕ) (rank m : ℕ) → slice_get ms rank ≡ Some m → 1 ≤ length ms
some_there [] rank m h = absurd (let e : None ≡ Some m = h in cc)
some_there (n ∷ ms) rank m h = omega arith

-- ---- one contribution

-- what is gathered after it, and the total if it is there
pub record Counts (Q : Gathering → Type 0) (how : How) (own : ℕ → Option ℤ) (ms : List ℕ) (t : Tallied) : Type 0 where
  pub gatherings : AllByRecursion Q t.gatherings
  pub total : IfSome t.total (λ v. joined_to how None (collected own ms) ≡ Some v)

abbrev whole_by : How → List (Option ℤ) → Bool → Option ℤ
whole_by how given b = cond b (total_of how given) None

module _ (Q : Gathering → Type 0) (r : ReductionId) (k : ℕ) (how : How) (own : ℕ → Option ℤ) (ms : List ℕ)
    (into : (g : Gathering) → is_of r k g ≡ true → Q g → Gathers how own ms g.gathered) (back : (g : Gathering) → is_of r k g ≡ true → Gathers how own ms g.gathered → Q g) where
  settled_counts : (g : Gathering) (more : List Gathering) → is_of r k g ≡ true → Holds how own ms g.gathered → 1 ≤ length ms → AllByRecursion Q more → Counts Q how own ms (settled g more)
  settled_counts g more of holds some all = by (list_all is_some g.gathered.given) refl
    where
      whole_now : (o : Option ℤ) → total_of g.gathered.how g.gathered.given ≡ o → list_all is_some g.gathered.given ≡ true → Counts Q how own ms (settled_by o g more)
      whole_now None h here =
          let count = gives_length own ms g.gathered.given holds.gives in
          absurd (total_some g.gathered.how g.gathered.given (omega (arith, count, some)) here h)
      whole_now (Some v) h here = record {
        gatherings = all;
        total = ap (λ vs. joined_to how None vs) (sym (all_values own ms g.gathered.given holds.gives here)) ∙ ap (λ w. joined_to w None (values g.gathered.given)) (sym holds.joined) ∙ h;
      }

      by : (b : Bool) → list_all is_some g.gathered.given ≡ b → Counts Q how own ms (settled_by (whole_by g.gathered.how g.gathered.given b) g more)
      by true here = whole_now (total_of g.gathered.how g.gathered.given) refl here
      by false here = record { gatherings = (back g of (record { joined = holds.joined; gives = holds.gives; missing = here }), all); total = tt }

  given_holds : (rank m : ℕ) (v : ℤ) (g : Gathering) → slice_get ms rank ≡ Some m → own m ≡ Some v → Holds how own ms g.gathered → Holds how own ms (given_to rank v g).gathered
  given_holds rank m v g is says holds = by (nat_lt rank (length g.gathered.given) && is_none (given_at g.gathered.given rank))
    where
      by : (b : Bool) → Holds how own ms (cond {A = Gathering} b (record { reduction = g.reduction; iteration = g.iteration; gathered = with_given g.gathered rank v }) g).gathered
      by true = record { joined = holds.joined; gives = gives_set own ms g.gathered.given rank m v holds.gives is says }
      by false = holds

  given_of : (rank : ℕ) (v : ℤ) (g : Gathering) → is_of r k g ≡ true → is_of r k (given_to rank v g) ≡ true
  given_of rank v g of = by (nat_lt rank (length g.gathered.given) && is_none (given_at g.gathered.given rank))
    where
      by : (b : Bool) → is_of r k (cond {A = Gathering} b (record { reduction = g.reduction; iteration = g.iteration; gathered = with_given g.gathered rank v }) g) ≡ true
      by true = of
      by false = of

  counted_counts : (rank m : ℕ) (v : ℤ) (new : Gathering) → slice_get ms rank ≡ Some m → own m ≡ Some v → new.reduction ≡ r → new.iteration ≡ k → is_of r k new ≡ true → Holds how own ms new.gathered →
      (all : List Gathering) → AllByRecursion Q all → Counts Q how own ms (counted new rank v all)
  counted_counts rank m v new is says re ke of holds [] all =
      settled_counts (given_to rank v new) [] (given_of rank v new of) (given_holds rank m v new is says holds) (some_there ms rank m is) tt
  counted_counts rank m v new is says re ke of holds (g ∷ more) all = by (is_of r k g) refl (counted_counts rank m v new is says re ke of holds more all.1)
    where
      same : is_of new.reduction new.iteration g ≡ is_of r k g
      same = ap (λ (x : ReductionId). is_of x new.iteration g) re ∙ ap (λ n. is_of r n g) ke

      case : (b : Bool) → is_of r k g ≡ b → Counts Q how own ms (counted new rank v more) → Counts Q how own ms (cond b (settled (given_to rank v g) more) (with_first g (counted new rank v more)))
      case true here rest =
          let own_g = into g here all.0 in
          let holds_g : Holds how own ms g.gathered = record { joined = own_g.joined; gives = own_g.gives } in
          settled_counts (given_to rank v g) more (given_of rank v g here) (given_holds rank m v g is says holds_g) (some_there ms rank m is) all.1
      case false here rest = record { gatherings = (all.0, rest.gatherings); total = rest.total }

      by : (b : Bool) → is_of r k g ≡ b → Counts Q how own ms (counted new rank v more) →
          Counts Q how own ms (cond (is_of new.reduction new.iteration g) (settled (given_to rank v g) more) (with_first g (counted new rank v more)))
      by b here rest = subst (λ c. Counts Q how own ms (cond c (settled (given_to rank v g) more) (with_first g (counted new rank v more)))) (sym (same ∙ here)) (case b here rest)

  pub tallied_counts : (members rank m : ℕ) (v : ℤ) → (rank < members → members ≡ length ms) → slice_get ms rank ≡ Some m → own m ≡ Some v → is_of r k (gathering how members r k) ≡ true →
      (all : List Gathering) → AllByRecursion Q all → Counts Q how own ms (tallied how members rank r k v all)
  unfolding tallied
  tallied_counts members rank m v count is says of all kept = by (nat_lt rank members) refl
    where
      by : (b : Bool) → nat_lt rank members ≡ b → Counts Q how own ms (cond b (counted (gathering how members r k) rank v all) (record { gatherings = all; total = None }))
      by false here = record { gatherings = kept; total = tt }
      by true here =
          let exact = count (ltb-true rank members here) in
          let holds : Holds how own ms (gathering how members r k).gathered = record { joined = refl; gives = subst (λ n. Gives own ms (replicate n None)) (sym exact) (none_gives own ms) } in
          counted_counts rank m v (gathering how members r k) is says refl refl of holds all kept

pub new_of : (how : How) (members : ℕ) (r : ReductionId) (k : ℕ) → is_of r k (gathering how members r k) ≡ true
new_of how members r k = both (r.0 == r.0) (k == k) (eq-eqb r.0 r.0 refl) (eq-eqb k k refl)
  where
    both : (a b : Bool) → a ≡ true → b ≡ true → (a && b) ≡ true
    both true b x y = y
    both false b x y = x
