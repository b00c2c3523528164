-- How objects stand: what is looked at again after an event is all that may have changed.
use Rattle.std.proofs.Common.{◌≡◌, ℕ, zero, suc, Bool, true, false, cond, ◌+◌, ◌<◌, List, [], ◌∷◌, ◌++◌, drop, length, map, refl, ap, sym, subst, ◌∙◌, arith, Option, Some, None}
use Rattle.std.specs.Prelude.{◌==◌, ◌&&◌, ◌||◌, is_none, nat_le, nat_lt, slice_get, slice_set, ℤ}
use Rattle.std.proofs.lemmas.Bool.{le-ltb, lt-ltb}
use Rattle.std.proofs.lemmas.Bool.Decides.{nat_tests}
use Rattle.std.specs.List.{AllByRecursion}
use Rattle.chare_base.specs.declared.message.Payload.{Payload}
use Rattle.chare_base.specs.declared.message.Port.TheVariants as ports
use Rattle.chare_base.specs.declared.message.EntryId.{EntryId}
use Rattle.chare_base.specs.declared.message.ReductionId.{ReductionId}
use Rattle.chare_base.specs.declared.plan.ElementId.{ElementId}
use Rattle.chare_base.specs.declared.plan.Plan.{Plan}
use Rattle.chare_base.specs.declared.plan.Reduction.{Reduction}
use Rattle.chare_base.specs.Entries.{reduction_of}
use Rattle.fault_script.specs.declared.fault.Fault.{Fault}
use Rattle.letter_post.specs.declared.letter.Letter.{Letter}
use Rattle.letter_post.specs.declared.letter.Letter.TheVariants as letters
use Rattle.letter_post.specs.declared.stamp.Stamp.{Stamp}
use Rattle.letter_post.specs.Stamps.{lines_of, same_stamp}
use Rattle.ref_messages.specs.Queue.{message}
use Rattle.object_steps.specs.Objects.{Fits, Progress, awaits, awaits_at, key_of, mailed, ready}
use Rattle.node_core.specs.declared.piece.Held.{Held}
use Rattle.node_core.specs.Keeps.{Fitted, FittedBody}
use Rattle.node_core.proofs.Waking.{wakes}
use Rattle.node_core.specs.Nodes.{Body, NodeState, awaits_by, awake, body_ran, body_ran_at, body_ran_by, completed_by, can_run_by, element_in, first_running, first_running_of, is_new, node_heard, node_heard_by, node_ran, node_ran_by, objects_of, outcome_of, parcel_heard, partial_heard, piece_kept, rests, rests_by, share_heard, stands, taken_at, taken_by, unmoved}
use Rattle.node_core.specs.Rosters.{number_in, seat_of, sharers_of}
use Rattle.node_core.specs.Turns.{can_run, is_step, takes}
use Rattle.world_core.specs.declared.doing.Readiness.{Readiness}
use Rattle.world_core.specs.declared.doing.Readiness.TheVariants.{Behind, Ready, Awaits, Level, Past}
use Rattle.world_core.specs.declared.doing.Reach.TheVariants.{Message}
use Rattle.world_core.specs.Steps.{first_able, is_able, is_awaiting, marked, marked_by, reach_of, readiness_at, readiness_by, woken}
use Rattle.world_core.specs.Worlds.{readiness, seats_of}
use Rattle.world_core.proofs.Counting.{shaped}
use Rattle.world_core.proofs.Lists.{all_got, get_mapped}

-- ---- one object

-- it is able where it can run
pub able_is : (p : Plan) (top : ℕ) (o : Progress) → is_able (readiness p top o) ≡ can_run p top o
able_is p top o = by o.step refl
  where
    between_two : (a b c : Bool) → is_able (cond (a && b) Behind (cond c Level Past)) ≡ (b && a)
    between_two true true c = refl
    between_two true false true = refl
    between_two true false false = refl
    between_two false true true = refl
    between_two false true false = refl
    between_two false false true = refl
    between_two false false false = refl

    inside : (b : Bool) → is_able (cond b Ready Awaits) ≡ b
    inside true = refl
    inside false = refl

    by : (s : Option ℕ) → o.step ≡ s → is_able (readiness p top o) ≡ can_run p top o
    by None is =
        ap is_able (shaped p top o None is) ∙ between_two (nat_lt o.done p.iterations) (nat_lt o.done top) (o.done == top)
        ∙ sym (ap (λ (t : Option ℕ). cond (is_none t) (nat_lt o.done top && nat_lt o.done p.iterations) (is_step (ready p o))) is)
    by (Some step) is = ap is_able (shaped p top o (Some step) is) ∙ inside (can_run p top o)

-- as the code tells it: by what it has completed, where it is between two iterations
abbrev pub told : Plan → ℕ → Option ℕ → Bool → Bool → Readiness
told p top (Some done) can there = cond (nat_lt done p.iterations && nat_lt done top) Behind (cond (done == top) Level Past)
told p top None can there = cond there (cond can Ready Awaits) Past

told_by : (p : Plan) (top : ℕ) (o : Option Progress) (there : Bool) → there ≡ cond (is_none o) false true → told p top (completed_by o) (can_run_by p top o) there ≡ readiness_by p top o
told_by p top None there is = ap (λ b. cond b Awaits Past) is
told_by p top (Some o) there is = by o.step refl
  where
    by : (s : Option ℕ) → o.step ≡ s → told p top (completed_by (Some o)) (can_run p top o) there ≡ readiness p top o
    by None step = ap (λ (t : Option ℕ). told p top (cond (is_none t) (Some o.done) None) (can_run p top o) there) step ∙ sym (shaped p top o None step)
    by (Some s) step =
        ap (λ (t : Option ℕ). told p top (cond (is_none t) (Some o.done) None) (can_run p top o) there) step
        ∙ ap (λ b. cond b (cond (can_run p top o) Ready Awaits) Past) is ∙ sym (shaped p top o (Some s) step)

both_less : (i l : ℕ) → nat_lt (suc i) (suc l) ≡ nat_lt i l
both_less i l = grind (arith, nat_tests)

is_there : (all : List Progress) (i : ℕ) → nat_lt i (length all) ≡ cond (is_none (slice_get all i)) false true
is_there [] i = le-ltb i 0 (omega arith)
is_there (o ∷ more) zero = lt-ltb 0 (suc (length more)) (omega arith)
is_there (o ∷ more) (suc i) = both_less i (length more) ∙ is_there more i

pub told_at : (p : Plan) (top : ℕ) (n : NodeState) (i : ℕ) →
    told p top (completed_by (slice_get (objects_of n.body) i)) (can_run_by p top (slice_get (objects_of n.body) i)) (nat_lt i (length (objects_of n.body))) ≡ readiness_at p top n i
told_at p top n i = told_by p top (slice_get (objects_of n.body) i) (nat_lt i (length (objects_of n.body))) (is_there (objects_of n.body) i)

module _ (p : Plan) (top : ℕ) where
  abbrev how : Progress → Readiness
  how = readiness p top

  abbrev at : List Progress → ℕ → Readiness
  at all i = readiness_by p top (slice_get all i)

  -- an object that is looked at again as it was
  same : (all : List Progress) (i : ℕ) → slice_set (map how all) i (at all i) ≡ map how all
  same [] i = refl
  same (o ∷ more) zero = refl
  same (o ∷ more) (suc i) = ap (λ rs. how o ∷ rs) (same more i)

  -- one that is another
  new : (all : List Progress) (i : ℕ) (x : Progress) → slice_set (map how all) i (at (slice_set all i x) i) ≡ map how (slice_set all i x)
  new [] i x = refl
  new (o ∷ more) zero x = refl
  new (o ∷ more) (suc i) x = ap (λ rs. how o ∷ rs) (new more i x)

  abbrev seats : List Progress → Option ℕ → List Readiness → List Readiness
  seats all None kept = kept
  seats all (Some i) kept = slice_set kept i (at all i)

  stays : (all : List Progress) (seat : Option ℕ) → seats all seat (map how all) ≡ map how all
  stays all None = refl
  stays all (Some i) = same all i

  -- the object of a seat took a message
  module _ (k : ℕ) (entry : EntryId) (payload : Payload) where
    abbrev got : Progress → Progress
    got o = takes o (key_of k (ports.Entry entry)) payload

    abbrev bright : Progress → Bool
    bright o = is_awaiting (Some (how o)) && awaits p (got o) k entry.0

    -- it stands so far as before, and awaits what it awaited
    same_step : (o : Progress) (b : Bool) → (cond b (mailed o (key_of k (ports.Entry entry)) payload) o).step ≡ o.step
    same_step o true = refl
    same_step o false = refl

    same_awaits : (o : Progress) (b : Bool) → awaits p (cond b (mailed o (key_of k (ports.Entry entry)) payload) o) k entry.0 ≡ awaits p o k entry.0
    same_awaits o true = refl
    same_awaits o false = refl

    between : (o : Progress) (b : Bool) → o.step ≡ None → how (cond b (mailed o (key_of k (ports.Entry entry)) payload) o) ≡ how o
    between o false none = refl
    between o true none = shaped p top (mailed o (key_of k (ports.Entry entry)) payload) None none ∙ sym (shaped p top o None none)

    abbrev kept : Progress → Bool
    kept o = nat_le o.mail.since k && is_none (message o.mail (key_of k (ports.Entry entry)))

    woke : (o : Progress) → Fits p o → how (got o) ≡ cond (bright o) Ready (how o)
    woke o fits = by o.step refl
      where
        same_there : awaits p (got o) k entry.0 ≡ awaits p o k entry.0
        same_there = same_awaits o (kept o)

        never : (a : Bool) → cond (a && false) Ready (how o) ≡ how o
        never true = refl
        never false = refl

        -- inside an iteration
        inside : (s : ℕ) → o.step ≡ Some s → (r a : Bool) → is_step (ready p o) ≡ r → awaits p o k entry.0 ≡ a → cond (r || a) Ready Awaits ≡ cond (is_awaiting (Some (cond r Ready Awaits)) && a) Ready (cond r Ready Awaits)
        inside s is true a q t = refl
        inside s is false true q t = refl
        inside s is false false q t = refl

        runs : (s : ℕ) → o.step ≡ Some s → can_run p top o ≡ is_step (ready p o)
        runs s is = ap (λ (t : Option ℕ). cond (is_none t) (nat_lt o.done top && nat_lt o.done p.iterations) (is_step (ready p o))) is

        runs_then : (s : ℕ) → o.step ≡ Some s → can_run p top (got o) ≡ is_step (ready p (got o))
        runs_then s is = ap (λ (t : Option ℕ). cond (is_none t) (nat_lt (got o).done top && nat_lt (got o).done p.iterations) (is_step (ready p (got o)))) (same_step o (kept o) ∙ is)

        by : (t : Option ℕ) → o.step ≡ t → how (got o) ≡ cond (bright o) Ready (how o)
        by None is =
            between o (kept o) is ∙ sym (never (is_awaiting (Some (how o))))
            ∙ sym (ap (λ (a : Bool). cond (is_awaiting (Some (how o)) && a) Ready (how o)) (same_there ∙ ap (awaits_at p o k entry.0) is))
        by (Some s) is =
            shaped p top (got o) (Some s) (same_step o (kept o) ∙ is) ∙ ap (λ b. cond b Ready Awaits) (runs_then s is ∙ wakes p o k entry payload fits s is)
            ∙ inside s is (is_step (ready p o)) (awaits p o k entry.0) refl refl
            ∙ ap (λ b. cond (is_awaiting (Some (cond b Ready Awaits)) && awaits p o k entry.0) Ready (cond b Ready Awaits)) (sym (runs s is))
            ∙ ap (λ (r : Readiness). cond (is_awaiting (Some r) && awaits p o k entry.0) Ready r) (sym (shaped p top o (Some s) is))
            ∙ ap (λ (a : Bool). cond (is_awaiting (Some (how o)) && a) Ready (how o)) (sym same_there)

    get_set : (all : List Progress) (i : ℕ) (o x : Progress) → slice_get all i ≡ Some o → slice_get (slice_set all i x) i ≡ Some x
    get_set [] i o x h = absurd (let q : None ≡ Some o = h in cc)
    get_set (y ∷ more) zero o x h = refl
    get_set (y ∷ more) (suc i) o x h = get_set more i o x h

    map_set : (all : List Progress) (i : ℕ) (x : Progress) → slice_set (map how all) i (how x) ≡ map how (slice_set all i x)
    map_set [] i x = refl
    map_set (o ∷ more) zero x = refl
    map_set (o ∷ more) (suc i) x = ap (λ rs. how o ∷ rs) (map_set more i x)

    kept_set : (all : List Progress) (i : ℕ) (o : Progress) → slice_get all i ≡ Some o → slice_set (map how all) i (how o) ≡ map how all
    kept_set all i o is = ap (slice_set (map how all) i) (sym (ap (λ (x : Option Progress). readiness_by p top x) is)) ∙ same all i

    chosen : (b : Bool) (rs : List Readiness) (i : ℕ) (r : Readiness) → cond b (slice_set rs i Ready) (slice_set rs i r) ≡ slice_set rs i (cond b Ready r)
    chosen true rs i r = refl
    chosen false rs i r = refl

    abbrev wakened : List Progress → Option ℕ → List Progress → List Readiness
    wakened objects None all = map how all
    wakened objects (Some i) all = cond (is_awaiting (slice_get (map how all) i) && awaits_by p k entry (slice_get objects i)) (slice_set (map how all) i Ready) (map how all)

    none_get : (all : List Progress) (i : ℕ) → slice_get all i ≡ None → slice_get (map how all) i ≡ None
    none_get [] i h = refl
    none_get (o ∷ more) zero h = absurd (let q : Some o ≡ None = h in cc)
    none_get (o ∷ more) (suc i) h = none_get more i h

    takes_one : (all : List Progress) → AllByRecursion (Fits p) all → (seat : Option ℕ) → wakened (taken_at k entry payload all seat) seat all ≡ map how (taken_at k entry payload all seat)
    takes_one all fits None = refl
    takes_one all fits (Some i) = by (slice_get all i) refl
      where
        by : (o : Option Progress) → slice_get all i ≡ o → wakened (taken_by k entry payload all i o) (Some i) all ≡ map how (taken_by k entry payload all i o)
        by None none = ap (λ (r : Option Readiness). cond (is_awaiting r && awaits_by p k entry (slice_get all i)) (slice_set (map how all) i Ready) (map how all)) (none_get all i none)
        by (Some o) is =
            ap (λ (x : Option Progress). cond (is_awaiting (slice_get (map how all) i) && awaits_by p k entry x) (slice_set (map how all) i Ready) (map how all)) (get_set all i o (got o) is)
            ∙ ap (λ (r : Option Readiness). cond (is_awaiting r && awaits p (got o) k entry.0) (slice_set (map how all) i Ready) (map how all)) (get_mapped how all i o is)
            ∙ ap (λ (rs : List Readiness). cond (bright o) (slice_set (map how all) i Ready) rs) (sym (kept_set all i o is))
            ∙ chosen (bright o) (map how all) i (how o) ∙ ap (slice_set (map how all) i) (sym (woke o (all_got (Fits p) all i o fits is)))
            ∙ map_set all i (got o)

  -- ---- a node

  marks : (n : NodeState) (seat : Option ℕ) (kept : List Readiness) → marked p top n seat kept ≡ seats (objects_of n.body) seat kept
  marks n None kept = refl
  marks n (Some i) kept = refl

  -- it ran an element
  module _ (script : List Fault) (place : List ℕ) (limit e : ℕ) (n : NodeState) where
    abbrev ran_at : Body → Option ℕ → Body
    ran_at b seat = (body_ran_at p (lines_of script n.last.stamp) place limit n.slot n.last.stamp n.roster b seat).body

    ran_one : (b : Body) (i : ℕ) (o : Option Progress) →
        slice_set (map how b.objects) i (at (body_ran_by p (lines_of script n.last.stamp) place limit n.slot n.last.stamp n.roster b i o).body.objects i)
        ≡ map how (body_ran_by p (lines_of script n.last.stamp) place limit n.slot n.last.stamp n.roster b i o).body.objects
    ran_one b i None = same b.objects i
    ran_one b i (Some o) = new b.objects i _

    ran_seat : (b : Body) (seat : Option ℕ) → seats (ran_at b seat).objects seat (map how b.objects) ≡ map how (ran_at b seat).objects
    ran_seat b None = refl
    ran_seat b (Some i) = ran_one b i (slice_get b.objects i)

    ran_alive : (b : Body) → seats (body_ran p (lines_of script n.last.stamp) place limit e n.slot n.last.stamp n.roster b).body.objects (seat_of n.roster e) (map how b.objects)
        ≡ map how (body_ran p (lines_of script n.last.stamp) place limit e n.slot n.last.stamp n.roster b).body.objects
    unfolding body_ran
    ran_alive b = by b.waits
      where
        by : (w : Bool) →
            seats (cond w (stands b) (body_ran_at p (lines_of script n.last.stamp) place limit n.slot n.last.stamp n.roster b (seat_of n.roster e))).body.objects (seat_of n.roster e) (map how b.objects)
            ≡ map how (cond w (stands b) (body_ran_at p (lines_of script n.last.stamp) place limit n.slot n.last.stamp n.roster b (seat_of n.roster e))).body.objects
        by true = stays b.objects (seat_of n.roster e)
        by false = ran_seat b (seat_of n.roster e)

    abbrev after : Option Body → NodeState
    after b = (outcome_of (node_ran_by p script place limit e n b)).node

    ran_by : (b : Option Body) → n.body ≡ b → marked p top (after b) (seat_of (after b).roster e) (map how (objects_of b)) ≡ seats_of p top (after b)
    ran_by None is =
        marks n (seat_of n.roster e) [] ∙ subst (λ o. seats (objects_of o) (seat_of n.roster e) [] ≡ map how (objects_of o)) (sym is) (stays [] (seat_of n.roster e))
    ran_by (Some b) is = marks (after (Some b)) (seat_of n.roster e) (map how b.objects) ∙ ran_alive b

    pub ran_marks : (kept : List Readiness) → kept ≡ seats_of p top n →
        marked p top (outcome_of (node_ran p script place limit e n)).node (seat_of (outcome_of (node_ran p script place limit e n)).node.roster e) kept
        ≡ seats_of p top (outcome_of (node_ran p script place limit e n)).node
    unfolding node_ran
    ran_marks kept is = ap (marked p top (after n.body) (seat_of (after n.body).roster e)) is ∙ ran_by n.body refl

  -- it heard a letter
  module _ (script : List Fault) (place : List ℕ) (n : NodeState) where
    abbrev heard : Letter → Option Body → NodeState
    heard letter b = (node_heard_by p script place letter n b).node

    parcel : (b : Body) → AllByRecursion (Fits p) b.objects → (k : ℕ) (entry : EntryId) (to : ElementId) (payload : Payload) (own : Bool) →
        cond own (wakened k entry payload (cond own (parcel_heard n.roster k entry to payload b) (unmoved b)).body.objects (seat_of n.roster to.0) b.objects) (map how b.objects)
        ≡ map how (cond own (parcel_heard n.roster k entry to payload b) (unmoved b)).body.objects
    parcel b fits k entry to payload true = takes_one k entry payload b.objects fits (seat_of n.roster to.0)
    parcel b fits k entry to payload false = refl

    share : (b : Body) (replica : ℕ) (own : Stamp) (r : ReductionId) (k node : ℕ) (value : ℤ) (x : Option Reduction) → (partial_heard n.roster replica own r k node value b x).body.objects ≡ b.objects
    share b replica own r k node value None = refl
    share b replica own r k node value (Some x) = by (number_in 0 (sharers_of n.roster x.owner) node)
      where
        by : (rank : Option ℕ) → (share_heard replica own r k value x (sharers_of n.roster x.owner) b rank).body.objects ≡ b.objects
        by None = refl
        by (Some rank) = refl

    partial : (b : Body) (r : ReductionId) (k node : ℕ) (value : ℤ) (own : Bool) →
        (cond own (partial_heard n.roster n.slot.replica n.last.stamp r k node value b (reduction_of p r.0)) (unmoved b)).body.objects ≡ b.objects
    partial b r k node value true = share b n.slot.replica n.last.stamp r k node value (reduction_of p r.0)
    partial b r k node value false = refl

    piece : (b : Body) (held : Held) (kept : Bool) → (cond kept (piece_kept p n.last.stamp b held) (unmoved b)).body.objects ≡ b.objects
    piece b held true = refl
    piece b held false = refl

    wakens : (k : ℕ) (entry : EntryId) (payload : Payload) (m : NodeState) (seat : Option ℕ) (all : List Progress) → woken p m k entry seat (map how all) ≡ wakened k entry payload (objects_of m.body) seat all
    wakens k entry payload m None all = refl
    wakens k entry payload m (Some i) all = refl

    nobody : (k : ℕ) (entry : EntryId) (own : Bool) (seat : Option ℕ) → cond own (woken p n k entry seat []) [] ≡ []
    nobody k entry false seat = refl
    nobody k entry true None = refl
    nobody k entry true (Some i) = refl

    heard_by : (letter : Letter) (b : Option Body) → FittedBody p b → n.body ≡ b → marked_by p top (heard letter b) (reach_of n.last.stamp letter) (map how (objects_of b)) ≡ seats_of p top (heard letter b)
    heard_by (letters.Parcel stamp entry k to payload) None fits is = nobody k entry (same_stamp stamp n.last.stamp) (seat_of n.roster to.0) ∙ ap (λ o. map how (objects_of o)) (sym is)
    heard_by (letters.Parcel stamp entry k to payload) (Some b) fits is =
        ap (λ (rs : List Readiness). cond (same_stamp stamp n.last.stamp) rs (map how b.objects)) (wakens k entry payload (heard (letters.Parcel stamp entry k to payload) (Some b)) (seat_of n.roster to.0) b.objects)
        ∙ parcel b fits k entry to payload (same_stamp stamp n.last.stamp)
    heard_by (letters.Partial stamp r k node value) None fits is = ap (λ o. map how (objects_of o)) (sym is)
    heard_by (letters.Partial stamp r k node value) (Some b) fits is = ap (map how) (sym (partial b r k node value (same_stamp stamp n.last.stamp)))
    heard_by (letters.Total stamp r k value) b fits is = refl
    heard_by (letters.Piece stamp x) None fits is = ap (λ o. map how (objects_of o)) (sym is)
    heard_by (letters.Piece stamp x) (Some b) fits is = ap (map how) (sym (piece b (record { stamp = stamp; piece = x }) (x.node == n.slot.node && is_new stamp x b.other)))
    heard_by (letters.VerdictOf first second node k verdict x) None fits is = ap (λ o. map how (objects_of o)) (sym is)
    heard_by (letters.VerdictOf first second node k verdict x) (Some b) fits is = refl
    heard_by (letters.Lend k fresh) None fits is = ap (λ o. map how (objects_of o)) (sym is)
    heard_by (letters.Lend k fresh) (Some b) fits is = refl
    heard_by (letters.Take stamp k live x) b fits is = refl
    heard_by (letters.Restore stamp k live) b fits is = refl
    heard_by (letters.Commit stamp k live) b fits is = refl
    heard_by (letters.Resume stamp) b fits is = refl
    heard_by (letters.Died stamp slot line) None fits is = ap (λ o. map how (objects_of o)) (sym is)
    heard_by (letters.Died stamp slot line) (Some b) fits is = refl
    heard_by letters.Stop None fits is = ap (λ o. map how (objects_of o)) (sym is)
    heard_by letters.Stop (Some b) fits is = refl

    pub heard_marks : Fitted p n → (letter : Letter) (kept : List Readiness) → kept ≡ seats_of p top n →
        marked_by p top (node_heard p script place letter n).node (reach_of n.last.stamp letter) kept ≡ seats_of p top (node_heard p script place letter n).node
    unfolding node_heard
    heard_marks fits (letters.Parcel stamp entry k to payload) kept is = ap (marked_by p top (heard (letters.Parcel stamp entry k to payload) n.body) (Message (same_stamp stamp n.last.stamp) to k entry)) is ∙ heard_by (letters.Parcel stamp entry k to payload) n.body fits refl
    heard_marks fits (letters.Partial stamp r k node value) kept is = is ∙ heard_by (letters.Partial stamp r k node value) n.body fits refl
    heard_marks fits (letters.Total stamp r k value) kept is = refl
    heard_marks fits (letters.Piece stamp x) kept is = is ∙ heard_by (letters.Piece stamp x) n.body fits refl
    heard_marks fits (letters.VerdictOf first second node k verdict x) kept is = is ∙ heard_by (letters.VerdictOf first second node k verdict x) n.body fits refl
    heard_marks fits (letters.Lend k fresh) kept is = is ∙ heard_by (letters.Lend k fresh) n.body fits refl
    heard_marks fits (letters.Take stamp k live x) kept is = refl
    heard_marks fits (letters.Restore stamp k live) kept is = refl
    heard_marks fits (letters.Commit stamp k live) kept is = refl
    heard_marks fits (letters.Resume stamp) kept is = refl
    heard_marks fits (letters.Died stamp slot line) kept is = is ∙ heard_by (letters.Died stamp slot line) n.body fits refl
    heard_marks fits letters.Stop kept is = is ∙ heard_by letters.Stop n.body fits refl

  -- ---- the first that can run

  at_end : (before : List Progress) (o : Progress) (more : List Progress) → slice_get (before ++ o ∷ more) (length before) ≡ Some o
  at_end [] o more = refl
  at_end (x ∷ before) o more = at_end before o more

  joined : (before : List Progress) (o : Progress) (more : List Progress) → (before ++ o ∷ []) ++ more ≡ before ++ o ∷ more
  joined [] o more = refl
  joined (x ∷ before) o more = ap (λ xs. x ∷ xs) (joined before o more)

  longer : (before : List Progress) (o : Progress) → length (before ++ o ∷ []) ≡ suc (length before)
  longer [] o = refl
  longer (x ∷ before) o = ap suc (longer before o)

  abbrev seated : List Progress → Option ℕ → Option ElementId
  seated all None = None
  seated all (Some i) = element_in (slice_get all i)

  -- one more: it can run, or the rest says which
  one_more : (before : List Progress) (o : Progress) (more : List Progress) (b : Bool) →
      seated ((before ++ o ∷ []) ++ more) (first_able (length (before ++ o ∷ [])) (map how more)) ≡ first_running_of p top more →
      seated (before ++ o ∷ more) (cond b (Some (length before)) (first_able (suc (length before)) (map how more))) ≡ cond b (Some o.element) (first_running_of p top more)
  one_more before o more true rest = ap element_in (at_end before o more)
  one_more before o more false rest =
      ap (λ xs. seated xs (first_able (suc (length before)) (map how more))) (sym (joined before o more))
      ∙ ap (λ i. seated ((before ++ o ∷ []) ++ more) (first_able i (map how more))) (sym (longer before o))
      ∙ rest

  first_from : (before all : List Progress) → seated (before ++ all) (first_able (length before) (map how all)) ≡ first_running_of p top all
  first_from before [] = refl
  first_from before (o ∷ more) =
      ap (λ b. seated (before ++ o ∷ more) (cond b (Some (length before)) (first_able (suc (length before)) (map how more)))) (able_is p top o)
      ∙ one_more before o more (can_run p top o) (first_from (before ++ o ∷ []) more)

  pub first_is : (n : NodeState) → rests n ≡ false → (kept : List Readiness) → kept ≡ seats_of p top n → seated (objects_of n.body) (first_able 0 kept) ≡ first_running p top n
  unfolding first_running
  first_is n awake_now kept is = ap (λ a. seated (objects_of n.body) (first_able 0 a)) is ∙ by n.body awake_now
    where
      by : (b : Option Body) → rests_by b ≡ false → seated (objects_of b) (first_able 0 (map how (objects_of b))) ≡ first_running_of p top (awake b)
      by None h = absurd (let q : true ≡ false = h in cc)
      by (Some b) h = first_from [] b.objects ∙ ap (λ w. first_running_of p top (cond w [] b.objects)) (sym h)

  -- a node that rests runs nothing
  pub rests_is : (n : NodeState) → rests n ≡ true → None ≡ first_running p top n
  unfolding first_running
  rests_is n rest = by n.body rest
    where
      by : (b : Option Body) → rests_by b ≡ true → None ≡ first_running_of p top (awake b)
      by None h = refl
      by (Some b) h = ap (λ w. first_running_of p top (cond w [] b.objects)) (sym h)

  pub none_is : (n : NodeState) (kept : List Readiness) → rests n ≡ false → kept ≡ seats_of p top n → None ≡ first_able 0 kept → None ≡ first_running p top n
  none_is n kept awake_now is none = ap (seated (objects_of n.body)) none ∙ first_is n awake_now kept is

  pub some_is : (n : NodeState) (kept : List Readiness) (i : ℕ) (e : Option ElementId) → rests n ≡ false → kept ≡ seats_of p top n → Some i ≡ first_able 0 kept → e ≡ element_in (slice_get (objects_of n.body) i) →
      e ≡ first_running p top n
  some_is n kept i e awake_now is some there = there ∙ ap (seated (objects_of n.body)) some ∙ first_is n awake_now kept is

  -- ---- looking at all

  split : (all : List Progress) (i : ℕ) → i < length all → map how (drop i all) ≡ at all i ∷ map how (drop (suc i) all)
  split [] i h = absurd (omega (arith, h))
  split (o ∷ more) zero h = refl
  split (o ∷ more) (suc i) h = split more i (omega (arith, h))

  behind : (kept rest : List Readiness) (r : Readiness) → (kept ++ r ∷ []) ++ rest ≡ kept ++ r ∷ rest
  behind [] rest r = refl
  behind (x ∷ kept) rest r = ap (λ rs. x ∷ rs) (behind kept rest r)

  pub next_seat : (n : NodeState) (kept more : List Readiness) (i : ℕ) (r : Readiness) → i < length (objects_of n.body) → kept ++ map how (drop i (objects_of n.body)) ≡ seats_of p top n → r ≡ readiness_at p top n i → more ≡ kept ++ r ∷ [] →
      more ++ map how (drop (i + 1) (objects_of n.body)) ≡ seats_of p top n
  next_seat n kept more i r there so_far is pushed =
      let next : i + 1 ≡ suc i = omega arith in
      ap (λ rs. rs ++ map how (drop (i + 1) (objects_of n.body))) pushed ∙ ap (λ k. (kept ++ r ∷ []) ++ map how (drop k (objects_of n.body))) next
      ∙ behind kept (map how (drop (suc i) (objects_of n.body))) r
      ∙ ap (λ c. kept ++ c ∷ map how (drop (suc i) (objects_of n.body))) is ∙ ap (λ rs. kept ++ rs) (sym (split (objects_of n.body) i there)) ∙ so_far
