-- What events leave of a node: how far its elements are, and the piece that it packed.
use Rattle.std.proofs.Common.{◌≡◌, ℕ, suc, ◌≤◌, ◌<◌, ℤ, Bool, true, false, cond, List, [], ◌∷◌, length, map, refl, ap, sym, ◌∙◌, arith, subst, Option, Some, None}
use Rattle.std.specs.Prelude.{◌==◌, ◌&&◌, IfSome, is_none, nat_lt, slice_get, slice_set}
use Rattle.std.specs.List.{AllByRecursion}
use Rattle.std.proofs.lemmas.Bool.{ltb-true}
use Rattle.chare_base.specs.declared.message.EntryId.{EntryId}
use Rattle.chare_base.specs.declared.message.Payload.{Payload}
use Rattle.chare_base.specs.declared.message.Port.TheVariants as ports
use Rattle.chare_base.specs.declared.message.ReductionId.{ReductionId}
use Rattle.chare_base.specs.declared.plan.Plan.{Plan}
use Rattle.chare_base.specs.declared.plan.Reduction.{Reduction}
use Rattle.chare_base.specs.declared.plan.Spot.{Spot}
use Rattle.chare_base.specs.declared.slots.LineSet.{LineSet}
use Rattle.chare_base.specs.declared.slots.SlotId.{SlotId}
use Rattle.chare_base.specs.Elements.{place_of, parts_at, steps_of}
use Rattle.chare_base.specs.Entries.{reduction_of}
use Rattle.chare_base.specs.Flip.{Flip}
use Rattle.chare_base.specs.Placing.{members}
use Rattle.chare_eval.specs.Inside.{none_done}
use Rattle.chare_eval.specs.Stage.{one_value}
use Rattle.fault_script.specs.declared.fault.Fault.{Fault}
use Rattle.letter_post.specs.declared.letter.Letter.{Letter}
use Rattle.letter_post.specs.declared.letter.Letter.TheVariants as letters
use Rattle.letter_post.specs.declared.stamp.Stamp.{Stamp}
use Rattle.letter_post.specs.Stamps.{lines_of, same_stamp}
use Rattle.ref_messages.specs.Queue.{from}
use Rattle.object_steps.specs.declared.ready.Ready.{Ready}
use Rattle.object_steps.specs.declared.ready.Ready.TheVariants as ready_as
use Rattle.object_steps.specs.Laws.{struck_by}
use Rattle.object_steps.specs.Objects.{Progress, advanced, all_done, begun, key_of, need_of, ran, ready, taken}
use Rattle.pup_state.specs.declared.piece.Piece.{Piece}
use Rattle.node_core.specs.Keeps.{AllAt, RestsAt}
use Rattle.node_core.specs.Nodes.{Body, NodeState, all_at_of, body_heard, body_ran, body_ran_at, body_ran_by, committed, committed_with, is_new, node_heard, node_heard_by, node_packed, node_packed_by, node_ran, node_ran_by, objects_of, outcome_of, parcel_heard, partial_heard, piece_kept, piece_of, quietly, resumed, share_heard, stands, taken_at, taken_by, total_heard, total_taken, unmoved, with_base}
use Rattle.node_core.specs.Rosters.{Roster, number_in, seat_of, sharers_of}
use Rattle.node_core.specs.Starts.{start_state, starts}
use Rattle.node_core.specs.Turns.{Turned, goes_at, is_at, stays, takes, turned}
use Rattle.node_core.specs.Turns as turns
use Rattle.node_core.proofs.Turning.{TakeStays, take_stays}
use Rattle.world_core.specs.Sound.{begun_of, fresh_of}
use Rattle.world_core.proofs.Lists.{all_got, all_set}

-- ---- what depends on how far an element is alone

abbrev pub Steady : (Progress → Type 0) → Type 0
Steady P = (o t : Progress) → t.done ≡ o.done → t.step ≡ o.step → P o → P t

abbrev pub Begun : ℕ → Progress → Type 0
Begun top o = begun_of o ≤ top

pub begun_steady : (top : ℕ) → Steady (Begun top)
begun_steady top o t done step h = subst (λ n. n ≤ top) (sym (ap (λ s. cond (is_none s) t.done (suc t.done)) step ∙ ap (λ d. cond (is_none o.step) d (suc d)) done)) h

pub at_steady : (k : ℕ) → Steady (λ o. is_at k o ≡ true)
at_steady k o t done step h = ap (λ s. is_none s && t.done == k) step ∙ ap (λ d. is_none o.step && d == k) done ∙ h

-- ---- a run

module _ (p : Plan) (lines : List Flip) (top : ℕ) where
  -- a part completes at most the iteration that its element is in
  advanced_begun : (o : Progress) (spot : Spot) → begun_of (advanced p o spot) ≤ suc o.done
  unfolding advanced
  advanced_begun o spot = by (all_done after.parts parts) (suc spot.step == steps)
    where
      steps : ℕ
      steps = length (steps_of p o.element.0)

      parts : ℕ
      parts = length (parts_at p o.element.0 spot.step)

      after : Progress
      after = record o { cells = (ran p o spot).cells; parts = slice_set o.parts spot.part true; mail = taken (need_of p o spot) o.done o.mail }

      at : (s : Option ℕ) → cond (is_none s) o.done (suc o.done) ≤ suc o.done
      at None = omega arith
      at (Some s) = omega arith

      by : (a b : Bool) → begun_of (cond a (cond b (record after { done = suc after.done; step = None; parts = none_done; mail = from after.mail (suc after.done) }) (record after { step = Some (suc spot.step); parts = none_done })) after) ≤ suc o.done
      by true true = omega arith
      by true false = omega arith
      by false b = at o.step

  goes_begun : (o : Progress) → begun_of (turns.goes p o).object ≤ suc o.done
  goes_begun o = by (ready p o)
    where
      at : (s : Option ℕ) → cond (is_none s) o.done (suc o.done) ≤ suc o.done
      at None = omega arith
      at (Some s) = omega arith

      by : (r : Ready) → begun_of (goes_at p o r).object ≤ suc o.done
      by (ready_as.Step spot) = advanced_begun o spot
      by (ready_as.Await port) = at o.step
      by ready_as.AtTop = at o.step

  turned_begun : (o : Progress) → Begun top o → Begun top (turned p lines top o).object
  turned_begun o h = by (is_none o.step) refl
    where
      begins : (a b : Bool) → nat_lt o.done top ≡ a → Begun top (cond (a && b) (turns.goes p (begun (struck_by lines o))) (stays o)).object
      begins false b t = h
      begins true false t = h
      begins true true t = let below : o.done < top = ltb-true o.done top t in let few = goes_begun (begun (struck_by lines o)) in omega (arith, below, few)

      by : (b : Bool) → is_none o.step ≡ b → Begun top (cond b (cond (nat_lt o.done top && nat_lt o.done p.iterations) (turns.goes p (begun (struck_by lines o))) (stays o)) (turns.goes p o)).object
      by true is = begins (nat_lt o.done top) (nat_lt o.done p.iterations) refl
      by false is =
          let inside : suc o.done ≤ top = subst (λ b. cond b o.done (suc o.done) ≤ top) is h in
          let few = goes_begun o in
          omega (arith, inside, few)

module _ (p : Plan) (script : List Fault) (place : List ℕ) (top e : ℕ) (n : NodeState) where
  abbrev lines : List Flip
  lines = lines_of script n.last.stamp

  record RanStays (b after : Body) : Type 0 where
    fresh : after.fresh ≡ b.fresh
    objects : AllByRecursion (Begun top) b.objects → AllByRecursion (Begun top) after.objects

  body_ran_stays : (b : Body) → RanStays b (body_ran p lines place top e n.slot n.last.stamp n.roster b).body
  unfolding body_ran
  body_ran_stays b = by b.waits
    where
      there : (i : ℕ) (o : Option Progress) → slice_get b.objects i ≡ o → RanStays b (body_ran_by p lines place top n.slot n.last.stamp n.roster b i o).body
      there i None is = record { fresh = refl; objects = λ h. h }
      there i (Some o) is = record { fresh = refl; objects = λ h. all_set (Begun top) b.objects i (turned p lines top o).object h (turned_begun p lines top o (all_got (Begun top) b.objects i o h is)) }

      at : (seat : Option ℕ) → RanStays b (body_ran_at p lines place top n.slot n.last.stamp n.roster b seat).body
      at None = record { fresh = refl; objects = λ h. h }
      at (Some i) = there i (slice_get b.objects i) refl

      by : (w : Bool) → RanStays b (cond w (stands b) (body_ran_at p lines place top n.slot n.last.stamp n.roster b (seat_of n.roster e))).body
      by true = record { fresh = refl; objects = λ h. h }
      by false = at (seat_of n.roster e)

  pub ran_fresh : fresh_of (outcome_of (node_ran p script place top e n)).node.body ≡ fresh_of n.body
  unfolding node_ran
  ran_fresh = by n.body refl
    where
      by : (o : Option Body) → n.body ≡ o → fresh_of (outcome_of (node_ran_by p script place top e n o)).node.body ≡ fresh_of n.body
      by None is = refl
      by (Some b) is = (body_ran_stays b).fresh ∙ ap fresh_of (sym is)

  pub ran_begun : AllByRecursion (Begun top) (objects_of n.body) → AllByRecursion (Begun top) (objects_of (outcome_of (node_ran p script place top e n)).node.body)
  unfolding node_ran
  ran_begun h = by n.body refl
    where
      by : (o : Option Body) → n.body ≡ o → AllByRecursion (Begun top) (objects_of (outcome_of (node_ran_by p script place top e n o)).node.body)
      by None is = h
      by (Some b) is = (body_ran_stays b).objects (subst (λ o. AllByRecursion (Begun top) (objects_of o)) is h)

-- ---- a pack

pub packed_objects : (P : Progress → Type 0) (p : Plan) (script : List Fault) (k : ℕ) (n : NodeState) → AllByRecursion P (objects_of n.body) → AllByRecursion P (objects_of (node_packed p script k n).node.body)
unfolding node_packed
packed_objects P p script k n h = by n.body refl
  where
    by : (o : Option Body) → n.body ≡ o → AllByRecursion P (objects_of (node_packed_by p script k n o).node.body)
    by None is = h
    by (Some b) is = subst (λ o. AllByRecursion P (objects_of o)) is h

-- its fresh piece is of the iteration at which it packed
pub packed_fresh : (Q : Piece → Type 0) (p : Plan) (script : List Fault) (k : ℕ) (n : NodeState) → ((piece : Piece) → piece.iteration ≡ k → Q piece) → IfSome (fresh_of (node_packed p script k n).node.body) Q
unfolding node_packed
packed_fresh Q p script k n all = by n.body refl
  where
    by : (o : Option Body) → n.body ≡ o → IfSome (fresh_of (node_packed_by p script k n o).node.body) Q
    by None is = subst (λ o. IfSome (fresh_of o) Q) (sym is) tt
    by (Some b) is = all (piece_of p k n.slot.node b.objects) refl

-- ---- mail

-- a live node that hears mail has the fresh piece that it had, and its elements are as far as they were
pub record MailStays (b after : Body) : Type 1 where
  pub fresh : after.fresh ≡ b.fresh
  pub objects : (P : Progress → Type 0) → Steady P → AllByRecursion P b.objects → AllByRecursion P after.objects

same_body : (b : Body) → MailStays b b
same_body b = record { fresh = refl; objects = λ P steady h. h }

took : (P : Progress → Type 0) → Steady P → (o : Progress) (key : _) (payload : Payload) → P o → P (takes o key payload)
took P steady o key payload h = let same : TakeStays o (takes o key payload) = take_stays o key payload in steady o (takes o key payload) same.done same.step h

parcel_stays : (roster : Roster) (k : ℕ) (entry : EntryId) (e : ℕ) (payload : Payload) (b : Body) (P : Progress → Type 0) → Steady P → AllByRecursion P b.objects → AllByRecursion P (taken_at k entry payload b.objects (seat_of roster e))
parcel_stays roster k entry e payload b P steady h = at (seat_of roster e)
  where
    there : (i : ℕ) (o : Option Progress) → slice_get b.objects i ≡ o → AllByRecursion P (taken_by k entry payload b.objects i o)
    there i None is = h
    there i (Some o) is = all_set P b.objects i (takes o (key_of k (ports.Entry entry)) payload) h (took P steady o (key_of k (ports.Entry entry)) payload (all_got P b.objects i o h is))

    at : (seat : Option ℕ) → AllByRecursion P (taken_at k entry payload b.objects seat)
    at None = h
    at (Some i) = there i (slice_get b.objects i) refl

total_stays : (p : Plan) (k : ℕ) (r : ReductionId) (value : ℤ) (array : ℕ) (P : Progress → Type 0) → Steady P → (all : List Progress) → AllByRecursion P all → AllByRecursion P (map (total_taken p k r value array) all)
total_stays p k r value array P steady [] h = tt
total_stays p k r value array P steady (o ∷ more) h = (by ((place_of p o.element.0).array == array), total_stays p k r value array P steady more h.1)
  where
    by : (c : Bool) → P (cond c (takes o (key_of k (ports.Total r)) (one_value value)) o)
    by true = took P steady o (key_of k (ports.Total r)) (one_value value) h.0
    by false = h.0

share_stays : (replica : ℕ) (own : Stamp) (r : ReductionId) (k : ℕ) (value : ℤ) (x : Reduction) (sharers : List ℕ) (b : Body) (rank : Option ℕ) → MailStays b (share_heard replica own r k value x sharers b rank).body
share_stays replica own r k value x sharers b None = same_body b
share_stays replica own r k value x sharers b (Some rank) = record { fresh = refl; objects = λ P steady h. h }

body_mail : (p : Plan) (script : List Fault) (place : List ℕ) (slot : SlotId) (own : Stamp) (roster : Roster) (b : Body) (letter : Letter) → MailStays b (body_heard p script place slot own roster b letter).body
body_mail p script place slot own roster b (letters.Parcel stamp entry k to payload) = by (same_stamp stamp own)
  where
    by : (c : Bool) → MailStays b (cond c (parcel_heard roster k entry to payload b) (unmoved b)).body
    by true = record { fresh = refl; objects = parcel_stays roster k entry to.0 payload b }
    by false = same_body b
body_mail p script place slot own roster b (letters.Partial stamp r k node value) = by (same_stamp stamp own) (reduction_of p r.0)
  where
    by : (c : Bool) (x : Option Reduction) → MailStays b (cond c (partial_heard roster slot.replica own r k node value b x) (unmoved b)).body
    by false x = same_body b
    by true None = same_body b
    by true (Some x) = share_stays slot.replica own r k value x (sharers_of roster x.owner) b (number_in 0 (sharers_of roster x.owner) node)
body_mail p script place slot own roster b (letters.Total stamp r k value) = by (same_stamp stamp own) (reduction_of p r.0)
  where
    by : (c : Bool) (x : Option Reduction) → MailStays b (cond c (total_heard p k r value b x) (unmoved b)).body
    by false x = same_body b
    by true None = same_body b
    by true (Some x) = record { fresh = refl; objects = λ P steady h. total_stays p k r value x.owner P steady b.objects h }
body_mail p script place slot own roster b (letters.Piece stamp piece) = by (piece.node == slot.node && is_new stamp piece b.other)
  where
    by : (c : Bool) → MailStays b (cond c (piece_kept p own b (record { stamp = stamp; piece = piece })) (unmoved b)).body
    by true = record { fresh = refl; objects = λ P steady h. h }
    by false = same_body b
body_mail p script place slot own roster b (letters.VerdictOf first second node k verdict piece) = same_body b
body_mail p script place slot own roster b (letters.Lend k fresh) = same_body b
body_mail p script place slot own roster b (letters.Take stamp k live piece) = same_body b
body_mail p script place slot own roster b (letters.Restore stamp k live) = same_body b
body_mail p script place slot own roster b (letters.Commit stamp k live) = same_body b
body_mail p script place slot own roster b (letters.Resume stamp) = same_body b
body_mail p script place slot own roster b (letters.Died stamp dead line) = same_body b
body_mail p script place slot own roster b letters.Stop = same_body b

-- the same of a node, spent or not
pub record NodeStays (body after : Option Body) : Type 1 where
  pub fresh : fresh_of after ≡ fresh_of body
  pub objects : (P : Progress → Type 0) → Steady P → AllByRecursion P (objects_of body) → AllByRecursion P (objects_of after)

pub mail_stays : (p : Plan) (script : List Fault) (place : List ℕ) (letter : Letter) (n : NodeState) → NodeStays n.body (node_heard_by p script place letter n n.body).node.body
mail_stays p script place letter n = by n.body refl
  where
    by : (o : Option Body) → n.body ≡ o → NodeStays n.body (node_heard_by p script place letter n o).node.body
    by None is = record { fresh = refl; objects = λ P steady h. h }
    by (Some b) is =
        let stays : MailStays b (body_heard p script place n.slot n.last.stamp n.roster b letter).body = body_mail p script place n.slot n.last.stamp n.roster b letter in
        record { fresh = stays.fresh ∙ ap fresh_of (sym is); objects = λ P steady h. stays.objects P steady (subst (λ o. AllByRecursion P (objects_of o)) is h) }

-- ---- orders

pub rests_fresh : (k : ℕ) (body : Option Body) → IfSome body (RestsAt k) → fresh_of body ≡ None
rests_fresh k None h = refl
rests_fresh k (Some b) h = h.fresh

pub rests_objects : (k : ℕ) (body : Option Body) → IfSome body (RestsAt k) → AllAt k (objects_of body)
rests_objects k None h = tt
rests_objects k (Some b) h = h.objects

module _ (p : Plan) (script : List Fault) (place : List ℕ) (n : NodeState) (P : Progress → Type 0) where
  -- a commit leaves a node's elements as they are, or no node
  pub commit_objects : (stamp : Stamp) (k : ℕ) (live : LineSet) → AllByRecursion P (objects_of n.body) → AllByRecursion P (objects_of (node_heard p script place (letters.Commit stamp k live) n).node.body)
  unfolding node_heard
  commit_objects stamp k live h = by (stamp.replica == n.slot.replica)
    where
      with_fresh : (b : Body) (fresh : Option Piece) → AllByRecursion P b.objects → AllByRecursion P (objects_of (committed_with k live b fresh))
      with_fresh b None own = tt
      with_fresh b (Some piece) own = test (piece.iteration == k && all_at_of k b.objects)
        where
          test : (c : Bool) → AllByRecursion P (objects_of (cond c (Some (with_base k live b piece)) None))
          test true = own
          test false = tt

      body : (o : Option Body) → AllByRecursion P (objects_of o) → AllByRecursion P (objects_of (committed k live o))
      body None own = tt
      body (Some b) own = with_fresh b b.fresh own

      by : (c : Bool) → AllByRecursion P (objects_of (cond c (quietly (committed k live n.body)) (quietly None)).body)
      by true = body n.body h
      by false = tt

  pub resume_objects : (stamp : Stamp) → AllByRecursion P (objects_of n.body) → AllByRecursion P (objects_of (node_heard p script place (letters.Resume stamp) n).node.body)
  unfolding node_heard
  resume_objects stamp h = by (stamp.replica == n.slot.replica)
    where
      body : (o : Option Body) → AllByRecursion P (objects_of o) → AllByRecursion P (objects_of (resumed n.slot n.last.stamp o).body)
      body None own = tt
      body (Some b) own = own

      by : (c : Bool) → AllByRecursion P (objects_of (cond c (resumed n.slot n.last.stamp n.body) (quietly None)).body)
      by true = body n.body h
      by false = tt

-- a resumed node has the fresh piece that it had, or is spent
pub resume_fresh : (p : Plan) (script : List Fault) (place : List ℕ) (n : NodeState) (Q : Option Piece → Type 0) (stamp : Stamp) → Q None → Q (fresh_of n.body) → Q (fresh_of (node_heard p script place (letters.Resume stamp) n).node.body)
unfolding node_heard
resume_fresh p script place n Q stamp none h = by (stamp.replica == n.slot.replica)
  where
    body : (o : Option Body) → Q (fresh_of o) → Q (fresh_of (resumed n.slot n.last.stamp o).body)
    body None own = own
    body (Some b) own = own

    by : (c : Bool) → Q (fresh_of (cond c (resumed n.slot n.last.stamp n.body) (quietly None)).body)
    by true = body n.body h
    by false = none

-- ---- the opening

starts_begun : (p : Plan) (es : List ℕ) → AllByRecursion (Begun 0) (starts p es)
starts_begun p [] = tt
starts_begun p (e ∷ more) = (omega arith, starts_begun p more)

pub start_begun : (p : Plan) (script : List Fault) (place : List ℕ) (slot : SlotId) (live : LineSet) → AllByRecursion (Begun 0) (objects_of (start_state p script place slot live).body)
unfolding start_state
start_begun p script place slot live = starts_begun p (members place slot.node)

pub start_fresh : (p : Plan) (script : List Fault) (place : List ℕ) (slot : SlotId) (live : LineSet) → fresh_of (start_state p script place slot live).body ≡ None
unfolding start_state
start_fresh p script place slot live = refl
