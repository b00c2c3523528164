-- What a turn sent is on its way, and what it contributed is gathered or was sent on.
use Rattle.std.proofs.Common.{◌≡◌, ℕ, zero, suc, ◌<◌, ◌≤◌, inl, inr, ℤ, Bool, true, false, cond, List, [], ◌∷◌, ◌++◌, length, append_assoc, refl, ap, sym, ◌∙◌, arith, subst, Option, Some, None, IsSome}
use Rattle.std.specs.Prelude.{◌⊎◌, ◌==◌, nat_lt, replicate, slice_get}
use Rattle.std.specs.List.{AllByRecursion}
use Rattle.std.proofs.lemmas.Bool.{eq-eqb}
use Rattle.std.proofs.lemmas.Bool.Decides.{nat_tests}
use Rattle.chare_base.specs.declared.message.EntryId.{EntryId}
use Rattle.chare_base.specs.declared.message.Payload.{Payload}
use Rattle.chare_base.specs.declared.message.ReductionId.{ReductionId}
use Rattle.chare_base.specs.declared.plan.ElementId.{ElementId}
use Rattle.chare_base.specs.declared.plan.How.{How}
use Rattle.chare_base.specs.declared.plan.Plan.{Plan}
use Rattle.chare_base.specs.declared.plan.Reduction.{Reduction}
use Rattle.chare_base.specs.Elements.{elements}
use Rattle.chare_base.specs.Entries.{reduction_of}
use Rattle.chare_base.specs.Placing.{members}
use Rattle.chare_base.proofs.Facts.{place_in_range}
use Rattle.chare_eval.specs.declared.effects.Outgoing.{Outgoing}
use Rattle.chare_eval.specs.declared.effects.Outgoing.TheVariants as outgoing
use Rattle.chare_eval.specs.Laws.{Reaches, contribution_of}
use Rattle.fault_script.specs.declared.fault.Fault.{Fault}
use Rattle.letter_post.specs.declared.letter.Letter.TheVariants as letters
use Rattle.letter_post.specs.declared.letter.Sent.{Sent}
use Rattle.letter_post.specs.Stamps.{lines_of}
use Rattle.letter_post.specs.Truth.{in_array, node_members}
use Rattle.node_core.specs.declared.turn.Sender.{Sender}
use Rattle.node_core.specs.Gatherings.{Gathering, counted, gathering, tallied}
use Rattle.node_core.specs.Keeps.{IsGathering}
use Rattle.node_core.specs.Mail.{Given, In, PartialWasSent, SentIsAt, reduction_id}
use Rattle.node_core.specs.Nodes.{Passing, contributed_to, parcel_of, partial_sent, passed, passed_one, to_slot, with_tallied}
use Rattle.node_core.specs.Rosters.{Roster, count_in, count_of, roster_of}
use Rattle.node_core.proofs.Gathering.{gives_length, new_of}
use Rattle.node_core.proofs.Lists.{all_behind, all_to}
use Rattle.node_core.proofs.Ranking.{count_at}
use Rattle.node_core.proofs.Sending.{PassKeeps, Ranked, into_gathers, one_keeps, ranked_there}
use Rattle.node_core.proofs.Shares.{Long, SameKey, counted_own, counted_stays}
use Rattle.node_core.proofs.Within.{in_left, in_right}

-- what is in a log is in a longer one
pub in_more : {A : Type 0} (x : A) (log xs ys : List A) → In x (log ++ xs) → In x (log ++ (xs ++ ys))
in_more x log xs ys h = subst (In x) (append_assoc log xs ys) (in_left x (log ++ xs) ys h)

-- ---- contributions that are counted

pub tallied_stays : (how : How) (count rank : ℕ) (q : ReductionId) (m : ℕ) (v : ℤ) (all : List Gathering) (r k i : ℕ) → Given all r k i →
    Given (tallied how count rank q m v all).gatherings r k i ⊎ (SameKey r k (gathering how count q m) × IsSome (tallied how count rank q m v all).total)
unfolding tallied
tallied_stays how count rank q m v all r k i h = by (nat_lt rank count)
  where
    by : (b : Bool) → Given (cond b (counted (gathering how count q m) rank v all) (record { gatherings = all; total = None })).gatherings r k i
        ⊎ (SameKey r k (gathering how count q m) × IsSome (cond b (counted (gathering how count q m) rank v all) (record { gatherings = all; total = None })).total)
    by true = counted_stays (gathering how count q m) rank v all r k i h
    by false = inl h

length_same : {A : Type 0} (n : ℕ) (x : A) → length (replicate n x) ≡ n
length_same zero x = refl
length_same (suc n) x = ap suc (length_same n x)

pub tallied_own : (how : How) (count rank r k : ℕ) (v : ℤ) (all : List Gathering) → rank < count → AllByRecursion (Long (gathering how count (reduction_id r) k) rank) all →
    Given (tallied how count rank (reduction_id r) k v all).gatherings r k rank ⊎ IsSome (tallied how count rank (reduction_id r) k v all).total
unfolding tallied
tallied_own how count rank r k v all below long = by (nat_lt rank count) refl
  where
    by : (b : Bool) → nat_lt rank count ≡ b → Given (cond b (counted (gathering how count (reduction_id r) k) rank v all) (record { gatherings = all; total = None })).gatherings r k rank
        ⊎ IsSome (cond b (counted (gathering how count (reduction_id r) k) rank v all) (record { gatherings = all; total = None })).total
    by true is =
        let l = length_same {A = Option ℤ} count None in
        counted_own r k rank v (gathering how count (reduction_id r) k) all refl refl (new_of how count (reduction_id r) k) (omega (arith, l, below)) long
    by false is = absurd (let n : count ≤ rank = grind (arith, nat_tests, is) in omega (arith, n, below))

count_roster : (p : Plan) (place : List ℕ) (j a : ℕ) → a < length p.arrays → count_of (roster_of p place j) a ≡ count_in p a (members place j)
unfolding roster_of
count_roster p place j a within = count_at p (members place j) (length p.arrays) a within

pub got_below : {A : Type 0} (xs : List A) (n : ℕ) (x : A) → slice_get xs n ≡ Some x → n < length xs
got_below [] n x h = absurd (let q : None ≡ Some x = h in cc)
got_below (y ∷ ys) zero x h = omega arith
got_below (y ∷ ys) (suc n) x h = let rest = got_below ys n x h in omega (arith, rest)

module _ (p : Plan) (place : List ℕ) (roster : Roster) (s : Sender) where
  -- ---- what was sent stays sent

  contributed_out : (x : Sent) (r : ReductionId) (v : ℤ) (on : Passing) (o : Option Reduction) → In x on.out → In x (contributed_to roster s r v on o).out
  contributed_out x r v on None h = h
  contributed_out x r v on (Some y) h = by (y.owner == s.array)
    where
      by : (b : Bool) → In x (cond b (with_tallied s r on (tallied y.how (count_of roster y.owner) s.rank r s.iteration v on.gatherings)) on).out
      by true = in_left x on.out _ h
      by false = h

  one_out : (x : Sent) (m : Outgoing) (on : Passing) → In x on.out → In x (passed_one p place roster s m on).out
  one_out x (outgoing.Parcel entry to payload) on h = in_left x on.out _ h
  one_out x (outgoing.Contribution r v) on h = contributed_out x r v on (reduction_of p r.0) h

  passed_out : (x : Sent) (sent : List Outgoing) (on : Passing) → In x on.out → In x (passed p place roster s sent on).out
  passed_out x [] on h = h
  passed_out x (m ∷ more) on h = passed_out x more (passed_one p place roster s m on) (one_out x m on h)

  pub parcel_passed : (entry : EntryId) (to : ElementId) (payload : Payload) (sent : List Outgoing) (on : Passing) → In (outgoing.Parcel entry to payload) sent →
      In (parcel_of place s entry to payload) (passed p place roster s sent on).out
  parcel_passed entry to payload [] on h = absurd h
  parcel_passed entry to payload (m ∷ more) on (inl is) =
      passed_out (parcel_of place s entry to payload) more (passed_one p place roster s m on)
      (subst (λ q. In (parcel_of place s entry to payload) (passed_one p place roster s q on).out) is (in_right (parcel_of place s entry to payload) on.out (parcel_of place s entry to payload ∷ []) (inl refl)))
  parcel_passed entry to payload (m ∷ more) on (inr h) = parcel_passed entry to payload more (passed_one p place roster s m on) h

  -- ---- contributions

  module _ (own : s.stamp.replica ≡ s.slot.replica) (log : List Sent) where
    -- a contribution is gathered, or the node's share was sent
    abbrev HeldShare : Passing → ℕ → ℕ → ℕ → Type 0
    HeldShare on r k i = Given on.gatherings r k i ⊎ PartialWasSent s.stamp r k s.slot.node (log ++ on.out)

    partial_there : (q : ReductionId) (total : Option ℤ) (r k : ℕ) (on : List Sent) → IsSome total → q.0 ≡ r → s.iteration ≡ k → PartialWasSent s.stamp r k s.slot.node (log ++ (on ++ partial_sent s q total))
    partial_there q None r k on some same at = absurd (let e : false ≡ true = some in cc)
    partial_there q (Some v) r k on some same at =
        let letter : Sent = to_slot s.stamp.replica 0 (letters.Partial s.stamp (reduction_id r) k s.slot.node v) in
        let is : letter ≡ to_slot s.slot.replica 0 (letters.Partial s.stamp q s.iteration s.slot.node v) =
        ap (λ n. to_slot n 0 (letters.Partial s.stamp (reduction_id r) k s.slot.node v)) own
        ∙ ap (λ n. to_slot s.slot.replica 0 (letters.Partial s.stamp (reduction_id n) k s.slot.node v)) (sym same)
        ∙ ap (λ n. to_slot s.slot.replica 0 (letters.Partial s.stamp q n s.slot.node v)) (sym at) in
        record { value = v; there = in_right letter log (on ++ partial_sent s q (Some v)) (in_right letter on (partial_sent s q (Some v)) (inl is)) }

    sent_more : (r k : ℕ) (on more : List Sent) → PartialWasSent s.stamp r k s.slot.node (log ++ on) → PartialWasSent s.stamp r k s.slot.node (log ++ (on ++ more))
    sent_more r k on more h = record { value = h.value; there = in_more (to_slot s.stamp.replica 0 (letters.Partial s.stamp (reduction_id r) k s.slot.node h.value)) log on more h.there }

    tally_held : (x : Reduction) (q : ReductionId) (v : ℤ) (on : Passing) (r k i : ℕ) → HeldShare on r k i → HeldShare (with_tallied s q on (tallied x.how (count_of roster x.owner) s.rank q s.iteration v on.gatherings)) r k i
    tally_held x q v on r k i (inr h) = inr (sent_more r k on.out _ h)
    tally_held x q v on r k i (inl h) = by (tallied_stays x.how (count_of roster x.owner) s.rank q s.iteration v on.gatherings r k i h)
      where
        by : Given (tallied x.how (count_of roster x.owner) s.rank q s.iteration v on.gatherings).gatherings r k i
            ⊎ (SameKey r k (gathering x.how (count_of roster x.owner) q s.iteration) × IsSome (tallied x.how (count_of roster x.owner) s.rank q s.iteration v on.gatherings).total) →
            HeldShare (with_tallied s q on (tallied x.how (count_of roster x.owner) s.rank q s.iteration v on.gatherings)) r k i
        by (inl g) = inl g
        by (inr g) = inr (partial_there q (tallied x.how (count_of roster x.owner) s.rank q s.iteration v on.gatherings).total r k on.out g.1 g.0.reduction g.0.iteration)

    one_held : (m : Outgoing) (on : Passing) (r k i : ℕ) → HeldShare on r k i → HeldShare (passed_one p place roster s m on) r k i
    one_held (outgoing.Parcel entry to payload) on r k i (inl h) = inl h
    one_held (outgoing.Parcel entry to payload) on r k i (inr h) = inr (sent_more r k on.out _ h)
    one_held (outgoing.Contribution q v) on r k i h = by (reduction_of p q.0)
      where
        test : (x : Reduction) (b : Bool) → HeldShare (cond b (with_tallied s q on (tallied x.how (count_of roster x.owner) s.rank q s.iteration v on.gatherings)) on) r k i
        test x true = tally_held x q v on r k i h
        test x false = h

        by : (o : Option Reduction) → HeldShare (contributed_to roster s q v on o) r k i
        by None = h
        by (Some x) = test x (x.owner == s.array)

    pub passed_held : (sent : List Outgoing) (on : Passing) (r k i : ℕ) → HeldShare on r k i → HeldShare (passed p place roster s sent on) r k i
    passed_held [] on r k i h = h
    passed_held (m ∷ more) on r k i h = passed_held more (passed_one p place roster s m on) r k i (one_held m on r k i h)

    module _ (script : List Fault) (i e : ℕ) (at : Ranked p place roster s i e) (there : e < elements p) where
      -- the element's rank is one of its array's
      rank_below : (a : ℕ) → a ≡ s.array → s.rank < count_of roster a
      rank_below a same =
          let mine = ranked_there p script place roster s i e at a same in
          let within = place_in_range p e there in
          let count : count_of roster a ≡ count_in p a (members place s.slot.node) =
          ap (λ (q : Roster). count_of q a) at.roster_is ∙ count_roster p place s.slot.node a (subst (λ n. n < length p.arrays) (sym (same ∙ at.array)) within) in
          let some = got_below (in_array p a (members place s.slot.node)) s.rank e mine in
          omega (arith, count, some)

      long_all : (x : Reduction) (r : ℕ) → reduction_of p r ≡ Some x → x.owner ≡ s.array → (all : List Gathering) → AllByRecursion (IsGathering p place (lines_of script s.stamp) s.slot.node) all →
          AllByRecursion (Long (gathering x.how (count_of roster x.owner) (reduction_id r) s.iteration) s.rank) all
      long_all x r is same all kept =
          all_to (IsGathering p place (lines_of script s.stamp) s.slot.node) (Long (gathering x.how (count_of roster x.owner) (reduction_id r) s.iteration) s.rank) all
          (λ g h of.
          let mine = into_gathers p place (lines_of script s.stamp) s.slot.node (reduction_id r) s.iteration x is g of h in
          let count = gives_length (contribution_of p (lines_of script s.stamp) s.iteration r) (node_members p place x s.slot.node) g.gathered.given mine.gives in
          let some = got_below (node_members p place x s.slot.node) s.rank e (ranked_there p script place roster s i e at x.owner same) in
          omega (arith, count, some))
          kept

      own_held : (x : Reduction) (r : ℕ) (v : ℤ) (on : Passing) → reduction_of p r ≡ Some x → x.owner ≡ s.array → AllByRecursion (IsGathering p place (lines_of script s.stamp) s.slot.node) on.gatherings →
          HeldShare (passed_one p place roster s (outgoing.Contribution (reduction_id r) v) on) r s.iteration s.rank
      own_held x r v on is same kept =
          subst (λ o. HeldShare (contributed_to roster s (reduction_id r) v on o) r s.iteration s.rank) (sym is)
          (subst (λ b. HeldShare (cond b (with_tallied s (reduction_id r) on (tallied x.how (count_of roster x.owner) s.rank (reduction_id r) s.iteration v on.gatherings)) on) r s.iteration s.rank)
          (sym (eq-eqb x.owner s.array same))
          (mine (tallied_own x.how (count_of roster x.owner) s.rank r s.iteration v on.gatherings (rank_below x.owner same) (long_all x r is same on.gatherings kept))))
        where
          mine : Given (tallied x.how (count_of roster x.owner) s.rank (reduction_id r) s.iteration v on.gatherings).gatherings r s.iteration s.rank
              ⊎ IsSome (tallied x.how (count_of roster x.owner) s.rank (reduction_id r) s.iteration v on.gatherings).total →
              HeldShare (with_tallied s (reduction_id r) on (tallied x.how (count_of roster x.owner) s.rank (reduction_id r) s.iteration v on.gatherings)) r s.iteration s.rank
          mine (inl g) = inl g
          mine (inr g) = inr (partial_there (reduction_id r) (tallied x.how (count_of roster x.owner) s.rank (reduction_id r) s.iteration v on.gatherings).total r s.iteration on.out g refl refl)

      -- what is contributed is gathered, or the share was sent
      pub share_passed : (x : Reduction) (r : ℕ) (v : ℤ) → reduction_of p r ≡ Some x → x.owner ≡ s.array → (sent : List Outgoing) (on : Passing) → AllByRecursion (Reaches p (lines_of script s.stamp) s.iteration e) sent →
          PassKeeps p script place (lines_of script s.stamp) s.slot.node on → In (outgoing.Contribution (reduction_id r) v) sent → HeldShare (passed p place roster s sent on) r s.iteration s.rank
      share_passed x r v is same [] on reach keeps h = absurd h
      share_passed x r v is same (m ∷ more) on reach keeps (inl q) =
          passed_held more (passed_one p place roster s m on) r s.iteration s.rank
          (subst (λ w. HeldShare (passed_one p place roster s w on) r s.iteration s.rank) q (own_held x r v on is same keeps.gatherings))
      share_passed x r v is same (m ∷ more) on reach keeps (inr q) =
          share_passed x r v is same more (passed_one p place roster s m on) reach.1 (one_keeps p script place roster s i e at m on reach.0 keeps) q

-- ---- no piece is sent in a turn

share_at : (K : ℕ) (s : Sender) (r : ReductionId) (total : Option ℤ) → AllByRecursion (SentIsAt K) (partial_sent s r total)
share_at K s r None = tt
share_at K s r (Some v) = (tt, tt)

pub passed_at : (K : ℕ) (p : Plan) (place : List ℕ) (roster : Roster) (s : Sender) (sent : List Outgoing) (on : Passing) → AllByRecursion (SentIsAt K) on.out → AllByRecursion (SentIsAt K) (passed p place roster s sent on).out
passed_at K p place roster s [] on h = h
passed_at K p place roster s (outgoing.Parcel entry to payload ∷ more) on h =
    passed_at K p place roster s more (passed_one p place roster s (outgoing.Parcel entry to payload) on) (all_behind (SentIsAt K) on.out (parcel_of place s entry to payload ∷ []) h (tt, tt))
passed_at K p place roster s (outgoing.Contribution r v ∷ more) on h = passed_at K p place roster s more (passed_one p place roster s (outgoing.Contribution r v) on) (by (reduction_of p r.0))
  where
    test : (x : Reduction) (b : Bool) → AllByRecursion (SentIsAt K) (cond b (with_tallied s r on (tallied x.how (count_of roster x.owner) s.rank r s.iteration v on.gatherings)) on).out
    test x true = all_behind (SentIsAt K) on.out (partial_sent s r (tallied x.how (count_of roster x.owner) s.rank r s.iteration v on.gatherings).total) h (share_at K s r (tallied x.how (count_of roster x.owner) s.rank r s.iteration v on.gatherings).total)
    test x false = h

    by : (o : Option Reduction) → AllByRecursion (SentIsAt K) (contributed_to roster s r v on o).out
    by None = h
    by (Some x) = test x (x.owner == s.array)
