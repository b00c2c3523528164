-- What an element sends is true, and what it contributes is gathered truly.
use Rattle.std.proofs.Common.{◌≡◌, ℕ, ◌<◌, ℤ, Bool, true, false, cond, List, [], ◌∷◌, length, refl, ap, sym, ◌∙◌, arith, subst, Option, Some, None}
use Rattle.std.specs.Prelude.{◌==◌, IfSome, slice_get}
use Rattle.std.specs.List.{AllByRecursion}
use Rattle.std.proofs.lemmas.Bool.{eqb-true}
use Rattle.std.proofs.lemmas.Option.{same_Some}
use Rattle.chare_base.specs.declared.message.ReductionId.{ReductionId}
use Rattle.chare_base.specs.declared.plan.Plan.{Plan}
use Rattle.chare_base.specs.declared.plan.Reduction.{Reduction}
use Rattle.chare_base.specs.Elements.{place_of}
use Rattle.chare_base.specs.Entries.{reduction_of}
use Rattle.chare_base.specs.Flip.{Flip}
use Rattle.chare_base.specs.Placing.{members}
use Rattle.chare_base.specs.Total.{joined_to}
use Rattle.chare_eval.specs.declared.effects.Outgoing.{Outgoing}
use Rattle.chare_eval.specs.declared.effects.Outgoing.TheVariants as outgoing
use Rattle.chare_eval.specs.Laws.{Reaches, contribution_of}
use Rattle.fault_script.specs.declared.fault.Fault.{Fault}
use Rattle.letter_post.specs.Stamps.{lines_of}
use Rattle.letter_post.specs.Truth.{Says, in_array, node_members}
use Rattle.node_core.specs.declared.turn.Sender.{Sender}
use Rattle.node_core.specs.Gatherings.{Gathering, is_of, tallied}
use Rattle.node_core.specs.Keeps.{Gathers, IsGathering}
use Rattle.node_core.specs.Nodes.{Passing, contributed_to, partial_sent, passed, passed_one, with_tallied}
use Rattle.node_core.specs.Rosters.{Roster, count_of, rank_of, roster_of}
use Rattle.node_core.proofs.Gathering.{Counts, collected, new_of, tallied_counts}
use Rattle.node_core.proofs.Lists.{all_behind}
use Rattle.node_core.proofs.Seats.{count_is, ranked}
use Rattle.node_core.proofs.Totalling.{contributions_are}
use Rattle.node_core.proofs.Turning.{first, second}

-- a gathering of a reduction and an iteration, by what it is and by what it holds
module _ (p : Plan) (place : List ℕ) (lines : List Flip) (j : ℕ) (r : ReductionId) (k : ℕ) (x : Reduction) (is : reduction_of p r.0 ≡ Some x) where
  same_reduction : (g : Gathering) → is_of r k g ≡ true → g.reduction.0 ≡ r.0
  same_reduction g of = eqb-true g.reduction.0 r.0 (first (g.reduction.0 == r.0) (g.iteration == k) of)

  same_iteration : (g : Gathering) → is_of r k g ≡ true → g.iteration ≡ k
  same_iteration g of = eqb-true g.iteration k (second (g.reduction.0 == r.0) (g.iteration == k) of)

  pub into_gathers : (g : Gathering) → is_of r k g ≡ true → IsGathering p place lines j g → Gathers x.how (contribution_of p lines k r.0) (node_members p place x j) g.gathered
  into_gathers g of h =
      let y_is : h.reduction ≡ x = same_Some h.reduction x (sym h.there ∙ ap (reduction_of p) (same_reduction g of) ∙ is) in
      let at_x = subst (λ (y : Reduction). Gathers y.how (contribution_of p lines g.iteration g.reduction.0) (node_members p place y j) g.gathered) y_is h.gathers in
      let at_k = subst (λ n. Gathers x.how (contribution_of p lines n g.reduction.0) (node_members p place x j) g.gathered) (same_iteration g of) at_x in
      subst (λ n. Gathers x.how (contribution_of p lines k n) (node_members p place x j) g.gathered) (same_reduction g of) at_k

  pub from_gathers : (g : Gathering) → is_of r k g ≡ true → Gathers x.how (contribution_of p lines k r.0) (node_members p place x j) g.gathered → IsGathering p place lines j g
  from_gathers g of h =
      let at_k = subst (λ n. Gathers x.how (contribution_of p lines n r.0) (node_members p place x j) g.gathered) (sym (same_iteration g of)) h in
      record {
        reduction = x;
        there = ap (reduction_of p) (same_reduction g of) ∙ is;
        gathers = subst (λ n. Gathers x.how (contribution_of p lines g.iteration n) (node_members p place x j) g.gathered) (sym (same_reduction g of)) at_k;
      }

-- what is gathered is true, and what was sent
pub record PassKeeps (p : Plan) (script : List Fault) (place : List ℕ) (lines : List Flip) (j : ℕ) (on : Passing) : Type 0 where
  pub gatherings : AllByRecursion (IsGathering p place lines j) on.gatherings
  pub says : AllByRecursion (Says p script place) on.out

-- an element of the node as it sends: what its rank counts
pub record Ranked (p : Plan) (place : List ℕ) (roster : Roster) (s : Sender) (i e : ℕ) : Type 0 where
  pub roster_is : roster ≡ roster_of p place s.slot.node
  pub seat : slice_get (members place s.slot.node) i ≡ Some e
  pub array : s.array ≡ (place_of p e).array
  pub rank : s.rank ≡ rank_of roster i

module _ (p : Plan) (script : List Fault) (place : List ℕ) (roster : Roster) (s : Sender) (i e : ℕ) (at : Ranked p place roster s i e) where
  abbrev lines : List Flip
  lines = lines_of script s.stamp

  abbrev j : ℕ
  j = s.slot.node

  pub counted_there : (a : ℕ) → s.rank < count_of roster a → count_of roster a ≡ length (in_array p a (members place j))
  counted_there a below =
      let some : 0 < count_of (roster_of p place j) a = subst (λ (q : Roster). 0 < count_of q a) at.roster_is (omega (arith, below)) in
      ap (λ (q : Roster). count_of q a) at.roster_is ∙ count_is p place j a some

  pub ranked_there : (a : ℕ) → a ≡ s.array → slice_get (in_array p a (members place j)) s.rank ≡ Some e
  ranked_there a same =
      ap (slice_get (in_array p a (members place j))) (at.rank ∙ ap (λ (q : Roster). rank_of q i) at.roster_is)
      ∙ ranked p place j i e a at.seat (sym at.array ∙ sym same)

  share_says : (r : ReductionId) (x : Reduction) → reduction_of p r.0 ≡ Some x → (total : Option ℤ) →
      IfSome total (λ v. joined_to x.how None (collected (contribution_of p lines s.iteration r.0) (node_members p place x j)) ≡ Some v) → AllByRecursion (Says p script place) (partial_sent s r total)
  share_says r x is None h = tt
  share_says r x is (Some v) h =
      (record { reduction = x; there = is; total = ap (λ vs. joined_to x.how None vs) (contributions_are p lines s.iteration r.0 (node_members p place x j)) ∙ h }, tt)

  contributed_keeps : (r : ReductionId) (v : ℤ) (on : Passing) → contribution_of p lines s.iteration r.0 e ≡ Some v → PassKeeps p script place lines j on → (o : Option Reduction) → reduction_of p r.0 ≡ o →
      PassKeeps p script place lines j (contributed_to roster s r v on o)
  contributed_keeps r v on says keeps None is = keeps
  contributed_keeps r v on says keeps (Some x) is = by (x.owner == s.array) refl
    where
      by : (b : Bool) → (x.owner == s.array) ≡ b →
          PassKeeps p script place lines j (cond b (with_tallied s r on (tallied x.how (count_of roster x.owner) s.rank r s.iteration v on.gatherings)) on)
      by false same = keeps
      by true same =
          let own = eqb-true x.owner s.array same in
          let counts : Counts (IsGathering p place lines j) x.how (contribution_of p lines s.iteration r.0) (node_members p place x j) (tallied x.how (count_of roster x.owner) s.rank r s.iteration v on.gatherings) =
          tallied_counts (IsGathering p place lines j) r s.iteration x.how (contribution_of p lines s.iteration r.0) (node_members p place x j)
          (into_gathers p place lines j r s.iteration x is) (from_gathers p place lines j r s.iteration x is)
          (count_of roster x.owner) s.rank e v (counted_there x.owner) (ranked_there x.owner own) says (new_of x.how (count_of roster x.owner) r s.iteration) on.gatherings keeps.gatherings in
          record {
            gatherings = counts.gatherings;
            says = all_behind (Says p script place) on.out (partial_sent s r (tallied x.how (count_of roster x.owner) s.rank r s.iteration v on.gatherings).total) keeps.says
                (share_says r x is (tallied x.how (count_of roster x.owner) s.rank r s.iteration v on.gatherings).total counts.total);
          }

  pub one_keeps : (m : Outgoing) (on : Passing) → Reaches p lines s.iteration e m → PassKeeps p script place lines j on → PassKeeps p script place lines j (passed_one p place roster s m on)
  one_keeps (outgoing.Parcel entry to payload) on says keeps = record { gatherings = keeps.gatherings; says = all_behind (Says p script place) on.out _ keeps.says (says, tt) }
  one_keeps (outgoing.Contribution r v) on says keeps = contributed_keeps r v on says keeps (reduction_of p r.0) refl

  pub passed_keeps : (sent : List Outgoing) (on : Passing) → AllByRecursion (Reaches p lines s.iteration e) sent → PassKeeps p script place lines j on → PassKeeps p script place lines j (passed p place roster s sent on)
  passed_keeps [] on says keeps = keeps
  passed_keeps (m ∷ more) on says keeps = passed_keeps more (passed_one p place roster s m on) says.1 (one_keeps m on says.0 keeps)
