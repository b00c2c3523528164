-- Nodes at the opening.
use Rattle.std.proofs.Common.{◌≡◌, ℕ, suc, ◌+◌, ◌<◌, ◌≤◌, Bool, true, false, cond, List, [], ◌∷◌, ◌++◌, length, drop, append_assoc, map, refl, ap, sym, ◌∙◌, arith, Some}
use Rattle.std.specs.Prelude.{◌==◌, slice_get}
use Rattle.std.specs.List.{AllByRecursion}
use Rattle.chare_base.specs.declared.plan.Plan.{Plan}
use Rattle.chare_base.specs.Elements.{elements}
use Rattle.chare_base.specs.Flip.{Flip}
use Rattle.chare_base.specs.Placing.{members, members_from}
use Rattle.chare_eval.specs.Fold.{fold}
use Rattle.letter_post.specs.Stamps.{lines_of}
use Rattle.object_steps.specs.Laws.{Follows, ObjectsFollow}
use Rattle.object_steps.specs.Objects.{Progress}
use Rattle.pup_state.specs.Spelling.{records_of}
use Rattle.node_core.specs.Keeps.{StartsKeep, element_of}
use Rattle.node_core.specs.Nodes.{all_at_of}
use Rattle.node_core.specs.Starts.{opening_stamp, start_state, started_if, starts}
use Rattle.node_core.proofs.Keeping.{packed_is}
use Rattle.node_core.proofs.Seats.{from_here}

starts_follow : ObjectsFollow → (p : Plan) (lines : List Flip) (es : List ℕ) → AllByRecursion (λ e. e < elements p) es → AllByRecursion (Follows p lines) (starts p es)
starts_follow law p lines [] all = tt
starts_follow law p lines (e ∷ more) all = (law.starts p lines e all.0, starts_follow law p lines more all.1)

pub starts_elements : (p : Plan) (es : List ℕ) → map element_of (starts p es) ≡ es
starts_elements p [] = refl
starts_elements p (e ∷ more) = ap (λ es. e ∷ es) (starts_elements p more)

starts_at : (p : Plan) (es : List ℕ) → all_at_of 0 (starts p es) ≡ true
starts_at p [] = refl
starts_at p (e ∷ more) = starts_at p more

pub members_within : (count e : ℕ) (place : List ℕ) (j : ℕ) → e + length place ≤ count → AllByRecursion (λ x. x < count) (members_from e place j)
members_within count e [] j h = tt
members_within count e (node ∷ more) j h = by (node == j) (members_within count (suc e) more j (omega (arith, h)))
  where
    by : (b : Bool) → AllByRecursion (λ x. x < count) (members_from (suc e) more j) → AllByRecursion (λ x. x < count) (cond b (e ∷ members_from (suc e) more j) (members_from (suc e) more j))
    by true rest = (omega (arith, h), rest)
    by false rest = rest

pub starts_keep : ObjectsFollow → StartsKeep
unfolding start_state
starts_keep law p script place slot live count =
    let own : List Flip = lines_of script (opening_stamp script slot live) in
    let es : List ℕ = members place slot.node in
    let follow : AllByRecursion (Follows p own) (starts p es) = starts_follow law p own es (members_within (elements p) 0 place slot.node (omega (arith, count))) in
    record {
      stamped = refl;
      roster = record { count = count; is = refl };
      body = record {
        members = starts_elements p es;
        objects = follow;
        gatherings = tt;
        totals = tt;
        base = record {
          node = refl;
          is = record { bytes = packed_is p own 0 (starts p es) follow (starts_at p es) ∙ ap (records_of p 0 (fold p own 0)) (starts_elements p es); within = omega arith };
        };
        based = refl;
        fresh = tt;
        other = tt;
        packed = tt;
      };
    }

-- ---- the code's loop

pub start_next : (p : Plan) (place : List ℕ) (e next node j : ℕ) (is_here : Bool) (all all' : List Progress) → next ≡ suc e → slice_get place e ≡ Some node → is_here ≡ (node == j) →
    all' ≡ all ++ started_if p e is_here → all ++ starts p (members_from e (drop e place) j) ≡ starts p (members place j) → all' ++ starts p (members_from next (drop next place) j) ≡ starts p (members place j)
start_next p place e next node j is_here all all' n is test made told =
    ap (λ l. l ++ starts p (members_from next (drop next place) j)) made ∙ append_assoc all (started_if p e is_here) (starts p (members_from next (drop next place) j))
    ∙ ap (λ m. all ++ (started_if p e is_here ++ starts p (members_from m (drop m place) j))) n ∙ ap (λ b. all ++ (started_if p e b ++ starts p (members_from (suc e) (drop (suc e) place) j))) test
    ∙ ap (λ l. all ++ l) (sym (ap (λ l. starts p (members_from e l j)) (from_here place e node is) ∙ by (node == j))) ∙ told
  where
    by : (b : Bool) → starts p (cond b (e ∷ members_from (suc e) (drop (suc e) place) j) (members_from (suc e) (drop (suc e) place) j)) ≡ started_if p e b ++ starts p (members_from (suc e) (drop (suc e) place) j)
    by true = refl
    by false = refl
