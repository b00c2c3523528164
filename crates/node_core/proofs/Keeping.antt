-- What a run and a pack keep of a node.
use Rattle.std.proofs.Common.{◌≡◌, ℕ, ◌≤◌, Bool, true, false, cond, List, [], ◌∷◌, ◌++◌, map, refl, ap, sym, ◌∙◌, Option, Some, None}
use Rattle.std.specs.Prelude.{◌==◌, IfSome, is_none, is_some, slice_get, slice_set}
use Rattle.std.specs.List.{AllByRecursion}
use Rattle.std.proofs.lemmas.Bool.{eqb-true}
use Rattle.chare_base.specs.declared.plan.ElementId.{ElementId}
use Rattle.chare_base.specs.declared.plan.Plan.{Plan}
use Rattle.chare_base.specs.declared.plan.Spot.{Spot}
use Rattle.chare_base.specs.Flip.{Flip}
use Rattle.chare_eval.specs.Fold.{fold}
use Rattle.fault_script.specs.declared.fault.Fault.{Fault}
use Rattle.letter_post.specs.declared.letter.Letter.TheVariants as letters
use Rattle.letter_post.specs.declared.letter.Sent.{Sent}
use Rattle.letter_post.specs.Stamps.{lines_of}
use Rattle.letter_post.specs.Truth.{Says, node_records, node_verdict}
use Rattle.buddy_compare.specs.Comparing.{verdict_of}
use Rattle.object_steps.specs.Laws.{Follows, ObjectsFollow}
use Rattle.object_steps.specs.Laws as object_laws
use Rattle.object_steps.specs.Objects.{Fits, Progress}
use Rattle.object_steps.specs.Turns.{ElementStays}
use Rattle.pup_state.specs.declared.piece.Piece.{Piece}
use Rattle.pup_state.specs.Spelling.{cells_at, records_of}
use Rattle.pup_state.specs.Spelling.{record_spelling}
use Rattle.node_core.specs.declared.piece.Held.{Held}
use Rattle.node_core.specs.Keeps.{Alive, AllAt, CappedBody, FittedBody, IsHeld, IsPieceOf, Keeps, KeepsFits, KeepsOn, PacksKeep, RunsKeep, TurnsKeep, element_of}
use Rattle.node_core.specs.Nodes.{Answer, Body, NodeState, Outcome, Passing, Ran, all_at, all_at_of, body_packed, body_ran, body_ran_at, body_ran_by, body_turned, compared, first_running, idle_of, next_begin, node_packed, node_ran, node_turned, node_turned_by, objects_records, out_of, outcome_of, pack_sends, passed, piece_of, sender_of, silent, stands, to_slot, turn_of, verdict_sent, with_body, with_fresh, with_ran}
use Rattle.node_core.specs.Rosters.{seat_of}
use Rattle.node_core.specs.Turns.{Turned, begins, is_at, stays, turned}
use Rattle.node_core.proofs.Lists.{all_set, all_to, get_mapped, got_at, map_set}
use Rattle.node_core.proofs.Sending.{PassKeeps, passed_keeps}
use Rattle.node_core.proofs.Turning.{TurnKeeps, first, none_is, second, turn_capped, turn_keeps}

-- a live node after an event: its own elements, what it gathers, and where it packed
pub record BodyKeeps (p : Plan) (script : List Fault) (place : List ℕ) (n : NodeState) (b : Body) (out : List Sent) : Type 0 where
  pub alive : Alive p script place n b
  pub says : AllByRecursion (Says p script place) out

abbrev pub silent_keeps : Type 0
silent_keeps = (p : Plan) (script : List Fault) (place : List ℕ) (n : NodeState) → Keeps p script place n → KeepsOn p script place n n.last (silent n)

pub stays_on : silent_keeps
stays_on p script place n keeps = record { slot = refl; last = refl; roster = refl; keeps = keeps; says = tt }

-- a node with a body that keeps
pub body_on : (p : Plan) (script : List Fault) (place : List ℕ) (n : NodeState) (b : Body) (out : List Sent) → Keeps p script place n → BodyKeeps p script place (with_body n b) b out →
    KeepsOn p script place n n.last (record { node = with_body n b; out = out })
body_on p script place n b out keeps h = record {
  slot = refl;
  last = refl;
  roster = refl;
  keeps = record { stamped = keeps.stamped; roster = record { count = keeps.roster.count; is = keeps.roster.is }; body = h.alive };
  says = h.says;
}

-- the letters of a turn are those that were sent, or none
pub turn_says : (P : Sent → Type 0) (e : ElementId) (before : Bool) (spot : Option Spot) (out : List Sent) → AllByRecursion P out → AllByRecursion P (out_of (turn_of e before spot out))
turn_says P e true None out h = tt
turn_says P e false None out h = tt
turn_says P e before (Some spot) out h = h

module _ (law : ObjectsFollow) (stay : ElementStays) (p : Plan) (script : List Fault) (place : List ℕ) (n : NodeState) where
  abbrev lines : List Flip
  lines = lines_of script n.last.stamp

  abbrev j : ℕ
  j = n.slot.node

  -- ---- a run

  turned_keeps : (limit : ℕ) (b : Body) (i : ℕ) (o : Progress) → Keeps p script place n → Alive p script place n b → CappedBody limit (Some b) → slice_get b.objects i ≡ Some o →
      BodyKeeps p script place (with_body n (body_turned p place n.slot n.last.stamp n.roster b i o (turned p lines limit o)).body) (body_turned p place n.slot n.last.stamp n.roster b i o (turned p lines limit o)).body
      (out_of (body_turned p place n.slot n.last.stamp n.roster b i o (turned p lines limit o)).turn)
  turned_keeps limit b i o keeps alive cap there =
      let t : Turned = turned p lines limit o in
      let follows : Follows p lines o = got_at (Follows p lines) b.objects i o alive.objects there in
      let after : TurnKeeps p lines o t = turn_keeps law stay p lines limit o follows in
      let on : Passing = passed p place n.roster (sender_of p n.slot n.last.stamp n.roster i o) t.sent (record { gatherings = b.gatherings; out = [] }) in
      let passes : PassKeeps p script place lines j on =
      passed_keeps p script place n.roster (sender_of p n.slot n.last.stamp n.roster i o) i o.element.0
      (record {
        roster_is = keeps.roster.is;
        seat = ap (λ l. slice_get l i) (sym alive.members) ∙ get_mapped element_of b.objects i o there;
        array = refl;
        rank = refl;
      })
      t.sent (record { gatherings = b.gatherings; out = [] }) after.sent (record { gatherings = alive.gatherings; says = tt }) in
      record {
        alive = record {
          members = map_set element_of b.objects i t.object o there (ap (λ (x : ElementId). x.0) after.element) ∙ alive.members;
          objects = all_set (Follows p lines) b.objects i t.object alive.objects after.follows;
          gatherings = passes.gatherings;
          totals = alive.totals;
          base = alive.base;
          based = alive.based;
          fresh = alive.fresh;
          other = alive.other;
          packed = packed b.fresh cap alive.packed;
        };
        says = turn_says (Says p script place) o.element (begins p.iterations o) t.spot on.out passes.says;
      }
    where
      packed : (fresh : Option Piece) → IfSome fresh (λ (piece : Piece). limit ≤ piece.iteration) → IfSome fresh (λ (piece : Piece). AllAt piece.iteration b.objects) →
          IfSome fresh (λ (piece : Piece). AllAt piece.iteration (slice_set b.objects i (turned p lines limit o).object))
      packed None capped all = tt
      packed (Some piece) capped all =
          let here : is_at piece.iteration o ≡ true = got_at (λ o. is_at piece.iteration o ≡ true) b.objects i o all there in
          let same : turned p lines limit o ≡ stays o = turn_capped p lines limit piece.iteration o here capped in
          all_set (λ o. is_at piece.iteration o ≡ true) b.objects i (turned p lines limit o).object all (ap (λ (t : Turned). is_at piece.iteration t.object) same ∙ here)

  abbrev Kept : Ran → Type 0
  Kept r = BodyKeeps p script place (with_body n r.body) r.body (out_of r.turn)

  ran_keeps : (limit e : ℕ) (b : Body) → n.body ≡ Some b → Keeps p script place n → Alive p script place n b → CappedBody limit (Some b) →
      BodyKeeps p script place (with_body n (body_ran p lines place limit e n.slot n.last.stamp n.roster b).body) (body_ran p lines place limit e n.slot n.last.stamp n.roster b).body (out_of (body_ran p lines place limit e n.slot n.last.stamp n.roster b).turn)
  unfolding body_ran
  ran_keeps limit e b is keeps alive cap = by b.waits
    where
      still : Kept (stands b)
      still = record {
        alive = record {
          members = alive.members;
          objects = alive.objects;
          gatherings = alive.gatherings;
          totals = alive.totals;
          base = alive.base;
          based = alive.based;
          fresh = alive.fresh;
          other = alive.other;
          packed = alive.packed;
        };
        says = tt;
      }

      there : (i : ℕ) (o : Option Progress) → slice_get b.objects i ≡ o → Kept (body_ran_by p lines place limit n.slot n.last.stamp n.roster b i o)
      there i None h = still
      there i (Some o) h = turned_keeps limit b i o keeps alive cap h

      at : (seat : Option ℕ) → Kept (body_ran_at p lines place limit n.slot n.last.stamp n.roster b seat)
      at None = still
      at (Some i) = there i (slice_get b.objects i) refl

      by : (waits : Bool) → Kept (cond waits (stands b) (body_ran_at p lines place limit n.slot n.last.stamp n.roster b (seat_of n.roster e)))
      by true = still
      by false = at (seat_of n.roster e)

pub runs_keep : ObjectsFollow → ElementStays → RunsKeep
unfolding node_ran
runs_keep law stay p script place limit e n keeps cap = by n.body refl keeps.body cap
  where
    by : (body : Option Body) → n.body ≡ body → IfSome body (Alive p script place n) → CappedBody limit body →
        KeepsOn p script place n n.last (outcome_of (Rattle.node_core.specs.Nodes.node_ran_by p script place limit e n body))
    by None is alive capped = stays_on p script place n keeps
    by (Some b) is alive capped =
        let r : Ran = body_ran p (lines_of script n.last.stamp) place limit e n.slot n.last.stamp n.roster b in
        body_on p script place n r.body (out_of r.turn) keeps (ran_keeps law stay p script place n limit e b is keeps alive capped)

pub turns_keep : ObjectsFollow → ElementStays → TurnsKeep
unfolding node_turned
turns_keep law stay p script place limit n keeps cap = by (first_running p limit n)
  where
    idle : (b : Bool) → KeepsOn p script place n n.last (outcome_of (record { node = n; turn = idle_of b }))
    idle true = stays_on p script place n keeps
    idle false = stays_on p script place n keeps

    by : (o : Option ElementId) → KeepsOn p script place n n.last (outcome_of (node_turned_by p script place limit n o))
    by None = idle (is_some (next_begin n))
    by (Some e) = runs_keep law stay p script place limit e.0 n keeps cap

-- ---- a pack

-- where all elements have completed k iterations, the objects' records are the definition's
pub packed_is : (p : Plan) (own : List Flip) (k : ℕ) (all : List Progress) → AllByRecursion (Follows p own) all → all_at_of k all ≡ true → objects_records p k all ≡ records_of p k (fold p own k) (map element_of all)
packed_is p own k [] kept at = refl
packed_is p own k (o ∷ more) kept at =
    let here : is_at k o ≡ true = first (is_at k o) (all_at_of k more) at in
    let rest = packed_is p own k more kept.1 (second (is_at k o) (all_at_of k more) at) in
    let top : o.step ≡ None = none_is o.step (first (is_none o.step) (o.done == k) here) in
    let done : o.done ≡ k = eqb-true o.done k (second (is_none o.step) (o.done == k) here) in
    let cells : o.cells ≡ cells_at (fold p own k) o.element.0 =
    kept.0.cells ∙ ap (λ s. object_laws.cells_at p own o s) top ∙ ap (λ m. cells_at (fold p own m) o.element.0) done in
    ap (λ x. record_spelling p o.element.0 k x ++ objects_records p k more) cells
    ∙ ap (λ xs. record_spelling p o.element.0 k (cells_at (fold p own k) o.element.0) ++ xs) rest

pub all_at_each : (k : ℕ) (all : List Progress) → all_at_of k all ≡ true → AllAt k all
all_at_each k [] h = tt
all_at_each k (o ∷ more) h = (first (is_at k o) (all_at_of k more) h, all_at_each k more (second (is_at k o) (all_at_of k more) h))

-- its own piece with the buddy's, both true and of one node, say what is true
pub compared_says : (p : Plan) (script : List Fault) (place : List ℕ) (n : NodeState) → (fresh : Option Piece) (other : Option Held) →
    IfSome fresh (IsPieceOf p place (lines_of script n.last.stamp) n.slot.node) → IfSome other (IsHeld p script place n.slot.node) → AllByRecursion (Says p script place) (compared p n.last.stamp fresh other)
compared_says p script place n None other mine its = tt
compared_says p script place n (Some piece) None mine its = tt
compared_says p script place n (Some piece) (Some held) mine its = by (piece.iteration == held.piece.iteration) refl
  where
    by : (b : Bool) → (piece.iteration == held.piece.iteration) ≡ b → AllByRecursion (Says p script place) (cond b (verdict_sent p n.last.stamp piece held ∷ []) [])
    by false h = tt
    by true h =
        let k : piece.iteration ≡ held.piece.iteration = eqb-true piece.iteration held.piece.iteration h in
        let j : piece.node ≡ held.piece.node = mine.node ∙ sym its.is.node in
        let bytes : held.piece.bytes ≡ node_records p place (lines_of script held.stamp) piece.iteration piece.node =
        its.is.is.bytes ∙ ap (λ m. node_records p place (lines_of script held.stamp) m held.piece.node) (sym k) ∙ ap (node_records p place (lines_of script held.stamp) piece.iteration) (sym j) in
        let verdict : verdict_of p piece.bytes held.piece.bytes ≡ node_verdict p place (lines_of script n.last.stamp) (lines_of script held.stamp) piece.iteration piece.node =
        ap (λ xs. verdict_of p xs held.piece.bytes) mine.is.bytes ∙ ap (verdict_of p (node_records p place (lines_of script n.last.stamp) piece.iteration piece.node)) bytes in
        ((mine.is, refl, refl, verdict), tt)

pub packs_keep : PacksKeep
unfolding node_packed all_at
packs_keep p script place k n keeps at within = by n.body keeps.body at
  where
    sends : (b : Body) → Alive p script place n b → (replica : Bool) → IsPieceOf p place (lines_of script n.last.stamp) n.slot.node (piece_of p k n.slot.node b.objects) →
        AllByRecursion (Says p script place)
        (cond replica (to_slot 0 n.slot.node (letters.Piece n.last.stamp (piece_of p k n.slot.node b.objects)) ∷ []) (compared p n.last.stamp (Some (piece_of p k n.slot.node b.objects)) b.other))
    sends b alive true mine = ((mine.is, refl), tt)
    sends b alive false mine = compared_says p script place n (Some (piece_of p k n.slot.node b.objects)) b.other mine alive.other

    by : (body : Option Body) → IfSome body (Alive p script place n) → Rattle.node_core.specs.Nodes.all_at_by k body ≡ true →
        KeepsOn p script place n n.last (Rattle.node_core.specs.Nodes.node_packed_by p script k n body)
    by None alive here = stays_on p script place n keeps
    by (Some b) alive here =
        let piece : Piece = piece_of p k n.slot.node b.objects in
        let mine : IsPieceOf p place (lines_of script n.last.stamp) n.slot.node piece =
        record {
          node = refl;
          is = record { bytes = packed_is p (lines_of script n.last.stamp) k b.objects alive.objects here ∙ ap (records_of p k (fold p (lines_of script n.last.stamp) k)) alive.members; within = within };
        } in
        body_on p script place n (with_fresh b piece) (pack_sends p n.slot n.last.stamp piece b.other) keeps
        (record {
          alive = record {
            members = alive.members;
            objects = alive.objects;
            gatherings = alive.gatherings;
            totals = alive.totals;
            base = alive.base;
            based = alive.based;
            fresh = mine;
            other = alive.other;
            packed = all_at_each k b.objects here;
          };
          says = sends b alive (n.slot.replica == 1) mine;
        })

-- ---- what calls ask

pub keeps_fits : KeepsFits
keeps_fits p script place n keeps = by n.body keeps.body
  where
    by : (body : Option Body) → IfSome body (Alive p script place n) → FittedBody p body
    by None alive = tt
    by (Some b) alive = all_to (Follows p (lines_of script n.last.stamp)) (Fits p) b.objects (λ o follows. follows.fits) alive.objects
