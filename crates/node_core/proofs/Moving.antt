-- What a run does with letters.
use Rattle.std.proofs.Common.{◌≡◌, ℕ, zero, suc, ◌+◌, inl, inr, Bool, true, false, cond, List, [], ◌∷◌, ◌++◌, refl, ap, sym, ◌∙◌, arith, subst, Option, Some, None}
use Rattle.std.specs.Prelude.{◌⊎◌, IfSome, is_some, slice_get, slice_set}
use Rattle.std.specs.List.{AllByRecursion}
use Rattle.std.proofs.lemmas.List.{append-nil}
use Rattle.std.proofs.lemmas.Option.{same_Some}
use Rattle.chare_base.specs.declared.message.Port.{Port}
use Rattle.chare_base.specs.declared.message.Port.TheVariants as ports
use Rattle.chare_base.specs.declared.plan.ElementId.{ElementId}
use Rattle.chare_base.specs.declared.plan.Plan.{Plan}
use Rattle.chare_base.specs.declared.plan.Spot.{Spot}
use Rattle.chare_base.specs.Elements.{place_of}
use Rattle.chare_base.specs.Entries.{id_of}
use Rattle.chare_base.specs.Flip.{Flip}
use Rattle.chare_base.specs.Laws.{ContributesTo, SendsAreDeclared}
use Rattle.chare_base.specs.Ports.{entry_port, total_port}
use Rattle.fault_script.specs.declared.fault.Fault.{Fault}
use Rattle.letter_post.specs.declared.letter.Letter.{Letter}
use Rattle.letter_post.specs.declared.letter.Letter.TheVariants as letters
use Rattle.letter_post.specs.declared.letter.Sent.{Sent}
use Rattle.letter_post.specs.declared.stamp.Stamp.{Stamp}
use Rattle.letter_post.specs.Stamps.{lines_of}
use Rattle.object_steps.specs.Laws.{Follows, ObjectsFollow}
use Rattle.object_steps.specs.Objects.{Progress}
use Rattle.object_steps.specs.Turns.{ElementStays, ReadyTells}
use Rattle.pup_state.specs.declared.piece.Piece.{Piece}
use Rattle.node_core.specs.declared.turn.Sender.{Sender}
use Rattle.node_core.specs.Gatherings.{Gathering}
use Rattle.node_core.specs.Keeps.{Alive, Keeps, element_of}
use Rattle.node_core.specs.Mail.{AllNumbered, BodyDid, BodyOwes, Contributed, Contributes, Did, Given, Got, HeldSince, In, IsSomeAs, Moves, Owes, Paid, ParcelWasSent, PartialWasSent, Past, RunsMove, Sends, SentIsAt, ShareDid, TotalWasSent, TotalsWereSent, TurnsMove, reduction_id}
use Rattle.node_core.specs.Nodes.{Body, Heard, NodeState, Outcome, Passing, Ran, body_ran, body_ran_at, body_ran_by, body_turned, first_running, idle_of, next_begin, node_at, node_ran, node_turned, node_turned_by, out_of, outcome_of, parcel_of, passed, sender_of, silent, stands, to_slot, verdict_sent, with_body, with_objects}
use Rattle.node_core.specs.Rosters.{rank_of, seat_of, sharers_of}
use Rattle.node_core.specs.Turns.{Turned, begins, turned}
use Rattle.node_core.proofs.Declared.{contributes_to}
use Rattle.node_core.proofs.Lists.{all_set, all_to, get_mapped, got_at, if_some}
use Rattle.node_core.proofs.Passed.{parcel_passed, passed_at, passed_held, share_passed}
use Rattle.node_core.proofs.Pasts.{sends_there}
use Rattle.node_core.proofs.Sending.{Ranked}
use Rattle.node_core.proofs.Turned.{Pays, SentNow, got_turned, turn_by, turn_pays}
use Rattle.node_core.proofs.Turning.{TurnKeeps, turn_keeps}
use Rattle.node_core.proofs.Within.{in_left, in_right}

-- ---- lists by number

pub numbered_to : {A : Type 0} (P Q : ℕ → A → Type 0) (n : ℕ) (xs : List A) → ((i : ℕ) (x : A) → P i x → Q i x) → AllNumbered P n xs → AllNumbered Q n xs
numbered_to P Q n [] to all = tt
numbered_to P Q n (x ∷ more) to all = (to n x all.0, numbered_to P Q (suc n) more to all.1)

pub numbered_set : {A : Type 0} (P : ℕ → A → Type 0) (n i : ℕ) (xs : List A) (y : A) → AllNumbered P n xs → P (n + i) y → AllNumbered P n (slice_set xs i y)
numbered_set P n i [] y all new = tt
numbered_set P n zero (x ∷ more) y all new = (subst (λ m. P m y) (omega arith) new, all.1)
numbered_set P n (suc i) (x ∷ more) y all new = (all.0, numbered_set P (suc n) i more y all.1 (subst (λ m. P m y) (omega arith) new))

pub numbered_got : {A : Type 0} (P : ℕ → A → Type 0) (n i : ℕ) (xs : List A) (x : A) → AllNumbered P n xs → slice_get xs i ≡ Some x → P (n + i) x
numbered_got P n i [] x all h = absurd (let q : None ≡ Some x = h in cc)
numbered_got P n zero (y ∷ more) x all h = let same : y ≡ x = same_Some y x h in let here : n ≡ n + zero = omega arith in subst (λ m. P m x) here (subst (P n) same all.0)
numbered_got P n (suc i) (y ∷ more) x all h = subst (λ m. P m x) (omega arith) (numbered_got P (suc n) i more x all.1 h)

-- ---- what was sent stays sent

pub totals_more : (stamp : Stamp) (r k : ℕ) (nodes : List ℕ) (log out : List Sent) → TotalsWereSent stamp r k nodes log → TotalsWereSent stamp r k nodes (log ++ out)
totals_more stamp r k nodes log out all =
    all_to (TotalWasSent stamp r k log) (TotalWasSent stamp r k (log ++ out)) nodes
    (λ j h. record { value = h.value; there = in_left (to_slot stamp.replica j (letters.Total stamp (reduction_id r) k h.value)) log out h.there }) all

pub partial_more : (stamp : Stamp) (r k j : ℕ) (log out : List Sent) → PartialWasSent stamp r k j log → PartialWasSent stamp r k j (log ++ out)
partial_more stamp r k j log out h = record { value = h.value; there = in_left (to_slot stamp.replica 0 (letters.Partial stamp (reduction_id r) k j h.value)) log out h.there }

pub paid_more : (p : Plan) (place : List ℕ) (stamp : Stamp) (log out : List Sent) (o : Progress) → Paid p place stamp log o → Paid p place stamp (log ++ out) o
paid_more p place stamp log out o paid x s q e k sends past =
    let w = paid x s q e k sends past in
    record { payload = w.payload; there = in_left (to_slot stamp.replica (node_at place e) (letters.Parcel stamp (record { 0 = x }) k (id_of e) w.payload)) log out w.there }

pub shares_more : (p : Plan) (log out : List Sent) (n : NodeState) (b : Body) (stamp : Stamp) (r k node : ℕ) → ShareDid p log n b stamp r k node → ShareDid p (log ++ out) n b stamp r k node
shares_more p log out n b stamp r k node did x rank is there = by (did x rank is there)
  where
    by : Given b.totals r k rank ⊎ TotalsWereSent stamp r k (sharers_of n.roster x.owner) log → Given b.totals r k rank ⊎ TotalsWereSent stamp r k (sharers_of n.roster x.owner) (log ++ out)
    by (inl g) = inl g
    by (inr g) = inr (totals_more stamp r k (sharers_of n.roster x.owner) log out g)

-- ---- one event of a live node

-- it leaves slot, stamp and roster, and of what each object got nothing goes
pub record BodyMoves (p : Plan) (place : List ℕ) (K : ℕ) (n : NodeState) (b after : Body) (out : List Sent) : Type 1 where
  pub got : (k : ℕ) (port : Port) (C : ℕ → Type 0) → AllByRecursion (λ o. C o.element.0 → Got p k port o) b.objects → AllByRecursion (λ o. C o.element.0 → Got p k port o) after.objects
  pub shares : (log : List Sent) (r k node : ℕ) → ShareDid p log n b n.last.stamp r k node → ShareDid p (log ++ out) (with_body n after) after n.last.stamp r k node
  pub held : (log : List Sent) → BodyOwes p place K log n b → (stamp : Stamp) (piece : Piece) → IsSomeAs b.other (HeldSince stamp piece) → IsSomeAs after.other (HeldSince stamp piece)
  pub owes : (log : List Sent) → BodyOwes p place K log n b → BodyOwes p place K (log ++ out) (with_body n after) after
  pub pieces : (log : List Sent) → BodyOwes p place K log n b → AllByRecursion (SentIsAt K) out

pub body_did : (p : Plan) (place : List ℕ) (K : ℕ) (n : NodeState) (b after : Body) (out : List Sent) → BodyMoves p place K n b after out → (log : List Sent) (letter : Letter) → BodyOwes p place K log n b →
    BodyDid p log n b letter → BodyDid p (log ++ out) (with_body n after) after letter
body_did p place K n b after out moves log (letters.Parcel stamp entry k to payload) owes did = λ same. moves.got k (ports.Entry entry) (λ e. e ≡ to.0) (did same)
body_did p place K n b after out moves log (letters.Partial stamp r k node value) owes did = λ same. moves.shares log r.0 k node (did same)
body_did p place K n b after out moves log (letters.Total stamp r k value) owes did = λ same x is. moves.got k (ports.Total r) (λ e. (place_of p e).array ≡ x.owner) (did same x is)
body_did p place K n b after out moves log (letters.Piece stamp piece) owes did = λ same. moves.held log owes stamp piece (did same)
body_did p place K n b after out moves log (letters.VerdictOf first second node k verdict piece) owes did = tt
body_did p place K n b after out moves log (letters.Lend k fresh) owes did = tt
body_did p place K n b after out moves log (letters.Take stamp k live piece) owes did = tt
body_did p place K n b after out moves log (letters.Restore stamp k live) owes did = tt
body_did p place K n b after out moves log (letters.Commit stamp k live) owes did = tt
body_did p place K n b after out moves log (letters.Resume stamp) owes did = tt
body_did p place K n b after out moves log (letters.Died stamp slot line) owes did = tt
body_did p place K n b after out moves log letters.Stop owes did = tt

-- a live node moves as its body does
pub node_moves : (p : Plan) (place : List ℕ) (K : ℕ) (n : NodeState) (b after : Body) (out : List Sent) → n.body ≡ Some b → BodyMoves p place K n b after out → Moves p place K n (record { node = with_body n after; out = out })
node_moves p place K n b after out is moves = record {
  slot = refl;
  last = refl;
  did = λ log letter owes did. body_did p place K n b after out moves log letter (got_owes log owes) (subst (λ o. IfSome o (λ (c : Body). BodyDid p log n c letter)) is did);
  owes = λ log owes. moves.owes log (got_owes log owes);
  pieces = λ log owes. moves.pieces log (got_owes log owes);
}
  where
    got_owes : (log : List Sent) → Owes p place K log n → BodyOwes p place K log n b
    got_owes log owes = subst (λ o. IfSome o (BodyOwes p place K log n)) is owes

-- what stays of what it owes, where pieces stay
pub owes_on : (p : Plan) (place : List ℕ) (K : ℕ) (log out : List Sent) (n : NodeState) (b : Body) (objects : List Progress) (gatherings : List Gathering) → BodyOwes p place K log n b →
    AllByRecursion (Paid p place n.last.stamp (log ++ out)) objects → AllNumbered (Contributed p (with_body n (with_objects b objects gatherings)) (with_objects b objects gatherings) (log ++ out)) 0 objects →
    BodyOwes p place K (log ++ out) (with_body n (with_objects b objects gatherings)) (with_objects b objects gatherings)
owes_on p place K log out n b objects gatherings owes paid shares = record {
  objects = paid;
  contributed = shares;
  piece = λ one. if_some _ _ b.fresh (λ piece. in_left (to_slot 0 n.slot.node (letters.Piece n.last.stamp piece)) log out) (owes.piece one);
  verdict = λ zero. if_some _ _ b.fresh (λ mine. if_some _ _ b.other (λ held there same. in_left (verdict_sent p n.last.stamp mine held) log out (there same))) (owes.verdict zero);
  fresh = owes.fresh;
  other = owes.other;
}

pub no_out : (log : List Sent) → log ++ [] ≡ log
no_out log = append-nil log

-- a node that does nothing
pub still_moves : (p : Plan) (place : List ℕ) (K : ℕ) (n : NodeState) (b : Body) → BodyMoves p place K n b b []
still_moves p place K n b = record {
  got = λ k port C all. all;
  shares = λ log r k node did. subst (λ l. ShareDid p l (with_body n b) b n.last.stamp r k node) (sym (no_out log)) did;
  held = λ log owes stamp piece h. h;
  owes = λ log owes. subst (λ l. BodyOwes p place K l (with_body n b) b) (sym (no_out log)) (record {
    objects = owes.objects;
    contributed = owes.contributed;
    piece = owes.piece;
    verdict = owes.verdict;
    fresh = owes.fresh;
    other = owes.other;
  });
  pieces = λ log owes. tt;
}

-- ---- a run

-- a contribution is gathered, or the node's share was sent
abbrev Shared : NodeState → List Gathering → List Sent → ℕ → ℕ → ℕ → Type 0
Shared n gatherings log r k i = Given gatherings r k i ⊎ PartialWasSent n.last.stamp r k n.slot.node log

module _ (law : ObjectsFollow) (stay : ElementStays) (tells : ReadyTells) (declared : SendsAreDeclared) (p : Plan) (script : List Fault) (place : List ℕ) (K : ℕ) (n : NodeState) (keeps : Keeps p script place n) where
  abbrev lines : List Flip
  lines = lines_of script n.last.stamp

  module _ (limit : ℕ) (b : Body) (alive : Alive p script place n b) (i : ℕ) (o : Progress) (there : slice_get b.objects i ≡ Some o) where
    abbrev t : Turned
    t = turned p lines limit o

    abbrev s : Sender
    s = sender_of p n.slot n.last.stamp n.roster i o

    abbrev start : Passing
    start = record { gatherings = b.gatherings; out = [] }

    abbrev on : Passing
    on = passed p place n.roster s t.sent start

    abbrev turn_out : List Sent
    turn_out = out_of (body_turned p place n.slot n.last.stamp n.roster b i o t).turn

    abbrev after : Body
    after = with_objects b (slice_set b.objects i t.object) on.gatherings

    follows : Follows p lines o
    follows = got_at (Follows p lines) b.objects i o alive.objects there

    keeps_turn : TurnKeeps p lines o t
    keeps_turn = turn_keeps law stay p lines limit o follows

    element_same : t.object.element.0 ≡ o.element.0
    element_same = ap (λ (e : ElementId). e.0) keeps_turn.element

    at : Ranked p place n.roster s i o.element.0
    at = record {
      roster_is = keeps.roster.is;
      seat = ap (λ l. slice_get l i) (sym alive.members) ∙ get_mapped element_of b.objects i o there;
      array = refl;
      rank = refl;
    }

    pays : Pays p o t
    pays = turn_pays law tells p lines limit o follows

    -- what went out, where something ran; else nothing was sent and nothing is newly past
    module _ (log out : List Sent) (sent_on : out ≡ on.out) where
      new_paid : Paid p place n.last.stamp log o → Paid p place n.last.stamp (log ++ out) t.object
      new_paid paid x s' q e k sends past =
          let mine : Sends p x o.element.0 s' q e = subst (λ f. Sends p x f s' q e) element_same sends in
          which (pays k s' q (sends_there p o.element.0 s' q (entry_port x) mine.some) past) mine
        where
          which : Past k s' q o ⊎ SentNow p o t k s' q → Sends p x o.element.0 s' q e → ParcelWasSent place n.last.stamp x k e (log ++ out)
          which (inl h) mine = paid_more p place n.last.stamp log out o paid x s' q e k mine h
          which (inr h) mine =
              let sent = h.parcels x e mine in
              let parcel = parcel_passed p place n.roster s (record { 0 = x }) (id_of e) sent.payload t.sent start sent.there in
              let here : In (to_slot n.slot.replica (node_at place e) (letters.Parcel n.last.stamp (record { 0 = x }) o.done (id_of e) sent.payload)) (log ++ out) =
              subst (λ l. In (to_slot n.slot.replica (node_at place e) (letters.Parcel n.last.stamp (record { 0 = x }) o.done (id_of e) sent.payload)) (log ++ l)) (sym sent_on) (in_right _ log on.out parcel) in
              let same : In (to_slot n.last.stamp.replica (node_at place e) (letters.Parcel n.last.stamp (record { 0 = x }) o.done (id_of e) sent.payload)) (log ++ out) =
              subst (λ r. In (to_slot r (node_at place e) (letters.Parcel n.last.stamp (record { 0 = x }) o.done (id_of e) sent.payload)) (log ++ out)) (sym keeps.stamped) here in
              subst (λ m. ParcelWasSent place n.last.stamp x m e (log ++ out)) (sym h.now) (record { payload = sent.payload; there = same })

      -- a contribution from before
      old_shared : (r k m : ℕ) → Shared n b.gatherings log r k m → Shared n on.gatherings (log ++ out) r k m
      old_shared r k m h = move (passed_held p place n.roster s keeps.stamped log t.sent start r k m (first h))
        where
          first : Shared n b.gatherings log r k m → Shared n b.gatherings (log ++ []) r k m
          first (inl g) = inl g
          first (inr g) = inr (subst (PartialWasSent n.last.stamp r k n.slot.node) (sym (no_out log)) g)

          move : Shared n on.gatherings (log ++ on.out) r k m → Shared n on.gatherings (log ++ out) r k m
          move h = subst (λ l. Shared n on.gatherings (log ++ l) r k m) (sym sent_on) h

      -- the turn's own
      new_shared : (r s' q k : ℕ) → Contributes p r o.element.0 s' q → SentNow p o t k s' q → Shared n on.gatherings (log ++ out) r k (rank_of n.roster i)
      new_shared r s' q k gives h =
          let to : ContributesTo p (place_of p o.element.0).array r = contributes_to declared p r o.element.0 s' q gives in
          let share = h.shares r gives in
          let counted : Shared n on.gatherings (log ++ on.out) r o.done (rank_of n.roster i) =
          share_passed p place n.roster s keeps.stamped log script i o.element.0 at follows.fits.there to.reduction r share.value to.is to.owner t.sent start keeps_turn.sent
          (record { gatherings = alive.gatherings; says = tt }) share.there in
          subst (λ m. Shared n on.gatherings (log ++ out) r m (rank_of n.roster i)) (sym h.now) (subst (λ l. Shared n on.gatherings (log ++ l) r o.done (rank_of n.roster i)) (sym sent_on) counted)

      new_contributed : Contributed p n b log i o → Contributed p (with_body n after) after (log ++ out) i t.object
      new_contributed had r s' q k gives past =
          let mine : Contributes p r o.element.0 s' q = subst (λ f. Contributes p r f s' q) element_same gives in
          which (pays k s' q (sends_there p o.element.0 s' q (total_port r) mine.some) past) mine
        where
          which : Past k s' q o ⊎ SentNow p o t k s' q → Contributes p r o.element.0 s' q → Shared n on.gatherings (log ++ out) r k (rank_of n.roster i)
          which (inl h) mine = old_shared r k (rank_of n.roster i) (had r s' q k mine h)
          which (inr h) mine = new_shared r s' q k mine h

      run_owes : BodyOwes p place K log n b → BodyOwes p place K (log ++ out) (with_body n after) after
      run_owes owes =
          owes_on p place K log out n b (slice_set b.objects i t.object) on.gatherings owes
          (all_set (Paid p place n.last.stamp (log ++ out)) b.objects i t.object
          (all_to (Paid p place n.last.stamp log) (Paid p place n.last.stamp (log ++ out)) b.objects (λ q paid. paid_more p place n.last.stamp log out q paid) owes.objects)
          (new_paid (got_at (Paid p place n.last.stamp log) b.objects i o owes.objects there)))
          (numbered_set (Contributed p (with_body n after) after (log ++ out)) 0 i b.objects t.object
          (numbered_to (Contributed p n b log) (Contributed p (with_body n after) after (log ++ out)) 0 b.objects (λ m q had r s' u k gives past. old_shared r k (rank_of n.roster m) (had r s' u k gives past)) owes.contributed)
          (subst (λ m. Contributed p (with_body n after) after (log ++ out) m t.object) (sym zero_plus)
          (new_contributed (subst (λ m. Contributed p n b log m o) zero_plus (numbered_got (Contributed p n b log) 0 i b.objects o owes.contributed there)))))
        where
          zero_plus : 0 + i ≡ i
          zero_plus = omega arith

    run_got : (k : ℕ) (port : Port) (C : ℕ → Type 0) → AllByRecursion (λ o. C o.element.0 → Got p k port o) b.objects → AllByRecursion (λ o. C o.element.0 → Got p k port o) (slice_set b.objects i t.object)
    run_got k port C all =
        all_set (λ o. C o.element.0 → Got p k port o) b.objects i t.object all
        (λ c. got_turned law tells p lines limit k port o follows (got_at (λ o. C o.element.0 → Got p k port o) b.objects i o all there (subst C element_same c)))

    none_sent : t.spot ≡ None → t.sent ≡ []
    none_sent =
        turn_by law tells p lines limit (λ o t. t.spot ≡ None → t.sent ≡ [])
        (λ o f h. refl)
        (λ o spot f g h. absurd (let q : Some spot ≡ None = h in cc))
        (λ o t f top rest. rest)
        o follows

    out_is : turn_out ≡ on.out
    out_is = by t.spot refl
      where
        idle : (b : Bool) → out_of (idle_of b) ≡ []
        idle true = refl
        idle false = refl

        by : (spot : Option Spot) → t.spot ≡ spot → out_of (Rattle.node_core.specs.Nodes.turn_of o.element (begins p.iterations o) spot on.out) ≡ on.out
        by (Some spot) is = refl
        by None is = idle (begins p.iterations o) ∙ sym (ap (λ l. (passed p place n.roster s l start).out) (none_sent is))

    run_moves : BodyMoves p place K n b after turn_out
    run_moves = record {
      got = run_got;
      shares = λ log r k node did. shares_more p log turn_out n b n.last.stamp r k node did;
      held = λ log owes stamp piece h. h;
      owes = λ log owes. run_owes log turn_out out_is owes;
      pieces = λ log owes. subst (AllByRecursion (SentIsAt K)) (sym out_is) (passed_at K p place n.roster s t.sent start tt);
    }

  body_runs : (limit e : ℕ) (b : Body) → Alive p script place n b → BodyMoves p place K n b (body_ran p lines place limit e n.slot n.last.stamp n.roster b).body (out_of (body_ran p lines place limit e n.slot n.last.stamp n.roster b).turn)
  unfolding body_ran
  body_runs limit e b alive = by b.waits
    where
      there : (i : ℕ) (o : Option Progress) → slice_get b.objects i ≡ o →
          BodyMoves p place K n b (body_ran_by p lines place limit n.slot n.last.stamp n.roster b i o).body (out_of (body_ran_by p lines place limit n.slot n.last.stamp n.roster b i o).turn)
      there i None h = still_moves p place K n b
      there i (Some o) h = run_moves limit b alive i o h

      at_seat : (seat : Option ℕ) →
          BodyMoves p place K n b (body_ran_at p lines place limit n.slot n.last.stamp n.roster b seat).body (out_of (body_ran_at p lines place limit n.slot n.last.stamp n.roster b seat).turn)
      at_seat None = still_moves p place K n b
      at_seat (Some i) = there i (slice_get b.objects i) refl

      by : (waits : Bool) → BodyMoves p place K n b (cond waits (stands b) (body_ran_at p lines place limit n.slot n.last.stamp n.roster b (seat_of n.roster e))).body
          (out_of (cond waits (stands b) (body_ran_at p lines place limit n.slot n.last.stamp n.roster b (seat_of n.roster e))).turn)
      by true = still_moves p place K n b
      by false = at_seat (seat_of n.roster e)

-- a node that does nothing
pub silent_moves : (p : Plan) (place : List ℕ) (K : ℕ) (n : NodeState) → Moves p place K n (silent n)
silent_moves p place K n = by n.body refl
  where
    by : (body : Option Body) → n.body ≡ body → Moves p place K n (silent n)
    by None is = record {
      slot = refl;
      last = refl;
      did = λ log letter owes did. subst (λ o. IfSome o (λ (c : Body). BodyDid p (log ++ []) n c letter)) (sym is) tt;
      owes = λ log owes. subst (λ o. IfSome o (BodyOwes p place K (log ++ []) n)) (sym is) tt;
      pieces = λ log owes. tt;
    }
    by (Some b) is = record {
      slot = refl;
      last = refl;
      did = λ log letter owes did. subst (λ l. Did p l letter n) (sym (no_out log)) did;
      owes = λ log owes. subst (λ l. Owes p place K l n) (sym (no_out log)) owes;
      pieces = λ log owes. tt;
    }

pub runs_move : ObjectsFollow → ElementStays → ReadyTells → SendsAreDeclared → RunsMove
unfolding node_ran
runs_move law stay tells declared p script place limit e K n keeps = by n.body refl keeps.body
  where
    by : (body : Option Body) → n.body ≡ body → IfSome body (Alive p script place n) → Moves p place K n (outcome_of (Rattle.node_core.specs.Nodes.node_ran_by p script place limit e n body))
    by None is alive = silent_moves p place K n
    by (Some b) is alive =
        let r : Ran = body_ran p (lines_of script n.last.stamp) place limit e n.slot n.last.stamp n.roster b in
        node_moves p place K n b r.body (out_of r.turn) is (body_runs law stay tells declared p script place K n keeps limit e b alive)

pub turns_move : ObjectsFollow → ElementStays → ReadyTells → SendsAreDeclared → TurnsMove
unfolding node_turned
turns_move law stay tells declared p script place limit K n keeps = by (first_running p limit n)
  where
    idle : (b : Bool) → Moves p place K n (outcome_of (record { node = n; turn = idle_of b }))
    idle true = silent_moves p place K n
    idle false = silent_moves p place K n

    by : (o : Option ElementId) → Moves p place K n (outcome_of (node_turned_by p script place limit n o))
    by None = idle (is_some (next_begin n))
    by (Some e) = runs_move law stay tells declared p script place limit e.0 K n keeps
