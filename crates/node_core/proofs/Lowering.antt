-- Each event of a node leaves less to do, what it sends counted.
use Rattle.std.proofs.Common.{◌≡◌, ℕ, zero, suc, ◌+◌, ◌-◌, ◌<◌, ◌≤◌, ℤ, Bool, true, false, cond, List, [], ◌∷◌, length, map, refl, ap, sym, ◌∙◌, arith, Option, Some, None}
use Rattle.std.specs.Prelude.{◌==◌, ◌&&◌, IfSome, is_none, is_some, nat_le, slice_get, slice_set}
use Rattle.std.proofs.lemmas.Bool.{eq-eqb, eqb-true}
use Rattle.std.proofs.lemmas.Option.{same_Some}
use Rattle.chare_base.specs.declared.message.EntryId.{EntryId}
use Rattle.chare_base.specs.declared.message.Payload.{Payload}
use Rattle.chare_base.specs.declared.message.Port.TheVariants as ports
use Rattle.chare_base.specs.declared.message.ReductionId.{ReductionId}
use Rattle.chare_base.specs.declared.plan.ElementId.{ElementId}
use Rattle.chare_base.specs.declared.plan.Plan.{Plan}
use Rattle.chare_base.specs.declared.plan.Reduction.{Reduction}
use Rattle.chare_base.specs.declared.plan.Spot.{Spot}
use Rattle.chare_base.specs.Elements.{place_of}
use Rattle.chare_base.specs.Entries.{reduction_of}
use Rattle.chare_base.specs.Flip.{Flip}
use Rattle.chare_base.specs.Placing.{members, members_from}
use Rattle.chare_eval.specs.declared.effects.Outgoing.{Outgoing}
use Rattle.chare_eval.specs.declared.effects.Outgoing.TheVariants as outgoing
use Rattle.chare_eval.specs.Stage.{one_value}
use Rattle.fault_script.specs.declared.fault.Fault.{Fault}
use Rattle.letter_post.specs.declared.letter.Letter.{Letter}
use Rattle.letter_post.specs.declared.letter.Letter.TheVariants as letters
use Rattle.letter_post.specs.declared.letter.Sent.{Sent}
use Rattle.letter_post.specs.declared.stamp.Stamp.{Stamp}
use Rattle.letter_post.specs.Orders.{Order, order_of}
use Rattle.letter_post.specs.Stamps.{lines_of, same_stamp}
use Rattle.letter_post.specs.Truth.{in_array}
use Rattle.object_steps.specs.Laws.{Follows, ObjectsFollow}
use Rattle.object_steps.specs.Objects.{Progress, key_of, mailed}
use Rattle.object_steps.specs.Turns.{ReadyTells}
use Rattle.pup_state.specs.declared.piece.Piece.{Piece}
use Rattle.ref_messages.specs.declared.key.RefKey.{RefKey}
use Rattle.ref_messages.specs.Queue.{message}
use Rattle.node_core.specs.declared.piece.Held.{Held}
use Rattle.node_core.specs.declared.turn.Sender.{Sender}
use Rattle.node_core.specs.declared.turn.Turn.TheVariants as turns
use Rattle.node_core.specs.Costs.{HearsLower, PacksLower, RunsLower, StartLeaves, body_left, contribution_cost, gathering_left, is_first, left_by, left_of, node_left, outcome_left, round_cost, sent_weight, share_weight, sharers, sharers_in, sum, times, to_pack, totals_left, weight}
use Rattle.node_core.specs.Gatherings.{Tallied, tallied}
use Rattle.node_core.specs.Keeps.{Alive, Keeps, element_of}
use Rattle.node_core.specs.Nodes.{Body, Heard, NodeState, Passing, Ran, body_heard, body_ran, body_ran_at, body_ran_by, body_turned, compared, contributed_to, idle_of, node_at, node_heard, node_heard_as, node_packed, node_ran, out_of, outcome_of, partial_heard, partial_sent, passed, passed_one, piece_heard, piece_kept, piece_of, sender_of, share_heard, stands, taken_at, taken_by, to_slot, total_heard, total_sent, total_taken, turn_of, unmoved, verdict_sent, with_mail, with_tallied, node_packed_by, node_heard_by, parcel_heard, node_ran_by, parcel_of, total_to, is_new}
use Rattle.node_core.specs.Rosters.{count_of, number_in, seat_of, sharers_of, Roster}
use Rattle.node_core.specs.Starts.{start_state, starts}
use Rattle.node_core.specs.Turns.{Turned, begins, takes, turned}
use Rattle.node_core.proofs.Costing.{outgoing_cost, turn_pays}
use Rattle.node_core.proofs.Lists.{get_mapped, got_at}
use Rattle.node_core.proofs.Seats.{numbered, sharers_are}
use Rattle.node_core.proofs.Sending.{Ranked, ranked_there}
use Rattle.node_core.proofs.Sums.{sum_append, sum_map, sum_ones, sum_set}
use Rattle.node_core.proofs.Weighing.{first_left, later_none, sent_left, tallied_left}

-- an element lives where it is a member
lives_from : (n : ℕ) (place : List ℕ) (j i e : ℕ) → slice_get (members_from n place j) i ≡ Some e → (at : ℕ) × (e ≡ n + at) × (node_at place at ≡ j)
lives_from n [] j i e h = absurd (let q : None ≡ Some e = h in cc)
lives_from n (x ∷ more) j i e h = by (x == j) refl i h (λ k g. later (lives_from (suc n) more j k e g))
  where
    later : ((at : ℕ) × (e ≡ suc n + at) × (node_at more at ≡ j)) → (at : ℕ) × (e ≡ n + at) × (node_at (x ∷ more) at ≡ j)
    later r = (suc r.0, omega (arith, r.1), r.2)

    by : (b : Bool) → (x == j) ≡ b → (i : ℕ) → slice_get (cond b (n ∷ members_from (suc n) more j) (members_from (suc n) more j)) i ≡ Some e →
        ((k : ℕ) → slice_get (members_from (suc n) more j) k ≡ Some e → (at : ℕ) × (e ≡ n + at) × (node_at (x ∷ more) at ≡ j)) → (at : ℕ) × (e ≡ n + at) × (node_at (x ∷ more) at ≡ j)
    by true is zero g rest = let same : n ≡ e = same_Some n e g in (0, omega (arith, same), eqb-true x j is)
    by true is (suc k) g rest = rest k g
    by false is k g rest = rest k g

pub member_lives : (place : List ℕ) (j i e : ℕ) → slice_get (members place j) i ≡ Some e → node_at place e ≡ j
member_lives place j i e h =
    let r = lives_from 0 place j i e h in
    let at : e ≡ r.0 = let q : e ≡ 0 + r.0 = r.1 in omega (arith, q) in
    ap (node_at place) at ∙ r.2

first_at : (xs : List ℕ) (e : ℕ) → slice_get xs 0 ≡ Some e → is_first e xs ≡ true
first_at [] e h = absurd (let q : None ≡ Some e = h in cc)
first_at (x ∷ more) e h = eq-eqb x e (same_Some x e h)

-- ---- what a turn sends

module _ (p : Plan) (script : List Fault) (place : List ℕ) (roster : Roster) (s : Sender) (i e : ℕ) (at : Ranked p place roster s i e) where
  abbrev j : ℕ
  j = s.slot.node

  abbrev weigh : ℕ → ℕ
  weigh r = share_weight p place r s.slot.node

  abbrev Weight : Passing → ℕ
  Weight on = sum (gathering_left p place s.slot.node) on.gatherings + sum (sent_weight p place) on.out

  first_pays : (r : ℕ) → first_left weigh r s.rank ≤ contribution_cost p place e r
  first_pays r = by s.rank refl
    where
      here : node_at place e ≡ s.slot.node
      here = member_lives place s.slot.node i e at.seat

      by : (rank : ℕ) → s.rank ≡ rank → first_left weigh r rank ≤ contribution_cost p place e r
      by (suc n) is = let none = later_none weigh r n in omega (arith, none)
      by zero is =
          let own : slice_get (in_array p (place_of p e).array (members place s.slot.node)) 0 ≡ Some e =
          ap (slice_get (in_array p (place_of p e).array (members place s.slot.node))) (sym is) ∙ ranked_there p script place roster s i e at (place_of p e).array (sym at.array) in
          let first : is_first e (in_array p (place_of p e).array (members place (node_at place e))) ≡ true =
          ap (λ k. is_first e (in_array p (place_of p e).array (members place k))) here ∙ first_at (in_array p (place_of p e).array (members place s.slot.node)) e own in
          let cost : contribution_cost p place e r ≡ share_weight p place r s.slot.node =
          ap (λ b. cond b (share_weight p place r (node_at place e)) 0) first ∙ ap (share_weight p place r) here in
          omega (arith, cost)

  partial_weighs : (r : ReductionId) (total : Option ℤ) → sum (sent_weight p place) (partial_sent s r total) ≡ sent_left weigh r.0 total
  partial_weighs r None = refl
  partial_weighs r (Some v) = omega arith

  contributed_cost : (r : ReductionId) (v : ℤ) (on : Passing) (o : Option Reduction) → Weight (contributed_to roster s r v on o) ≤ Weight on + contribution_cost p place e r.0
  contributed_cost r v on None = omega arith
  contributed_cost r v on (Some x) = by (x.owner == s.array)
    where
      t : Tallied
      t = tallied x.how (count_of roster x.owner) s.rank r s.iteration v on.gatherings

      by : (b : Bool) → Weight (cond b (with_tallied s r on (tallied x.how (count_of roster x.owner) s.rank r s.iteration v on.gatherings)) on) ≤ Weight on + contribution_cost p place e r.0
      by false = omega arith
      by true =
          let less : sum (gathering_left p place s.slot.node) t.gatherings + sent_left weigh r.0 t.total ≤ sum (gathering_left p place s.slot.node) on.gatherings + first_left weigh r.0 s.rank =
          tallied_left weigh x.how (count_of roster x.owner) s.rank r s.iteration v on.gatherings in
          omega (arith, less, first_pays r.0, partial_weighs r t.total, sum_append (sent_weight p place) on.out (partial_sent s r t.total))

  one_cost : (m : Outgoing) (on : Passing) → Weight (passed_one p place roster s m on) ≤ Weight on + outgoing_cost p place e m
  one_cost (outgoing.Parcel entry to payload) on = omega (arith, sum_append (sent_weight p place) on.out (parcel_of place s entry to payload ∷ []))
  one_cost (outgoing.Contribution r v) on = contributed_cost r v on (reduction_of p r.0)

  pub passed_cost : (sent : List Outgoing) (on : Passing) → Weight (passed p place roster s sent on) ≤ Weight on + sum (outgoing_cost p place e) sent
  passed_cost [] on = omega arith
  passed_cost (m ∷ more) on = omega (arith, one_cost m on, passed_cost more (passed_one p place roster s m on))

-- ---- a run

module _ (law : ObjectsFollow) (tells : ReadyTells) (p : Plan) (script : List Fault) (place : List ℕ) (limit : ℕ) (n : NodeState) (keeps : Keeps p script place n) (b : Body) (alive : Alive p script place n b) where
  abbrev lines : List Flip
  lines = lines_of script n.last.stamp

  abbrev Lowers : Ran → Type 0
  Lowers r = body_left p place n.slot.node r.body + sum (sent_weight p place) (out_of r.turn) < body_left p place n.slot.node b

  not_ran : (r : Ran) (f : ElementId) (spot : Spot) (out : List Sent) → r.turn ≡ turns.Awaits → r.turn ≡ turns.Ran f spot out → Lowers r
  not_ran r f spot out waits ran = absurd (let q : turns.Awaits ≡ turns.Ran f spot out = sym waits ∙ ran in cc)

  at_object : (i : ℕ) (o : Progress) (f : ElementId) (spot : Spot) (out : List Sent) → slice_get b.objects i ≡ Some o →
      (body_turned p place n.slot n.last.stamp n.roster b i o (turned p lines limit o)).turn ≡ turns.Ran f spot out → Lowers (body_turned p place n.slot n.last.stamp n.roster b i o (turned p lines limit o))
  at_object i o f spot out there is = by t.spot refl is
    where
      t : Turned
      t = turned p lines limit o

      s : Sender
      s = sender_of p n.slot n.last.stamp n.roster i o

      start : Passing
      start = record { gatherings = b.gatherings; out = [] }

      on : Passing
      on = passed p place n.roster s t.sent start

      at : Ranked p place n.roster s i o.element.0
      at = record {
        roster_is = keeps.roster.is;
        seat = ap (λ l. slice_get l i) (sym alive.members) ∙ get_mapped element_of b.objects i o there;
        array = refl;
        rank = refl;
      }

      follows : Follows p lines o
      follows = got_at (Follows p lines) b.objects i o alive.objects there

      idle : (c : Bool) → idle_of c ≡ turns.Ran f spot out → ⊥
      idle true h = cc
      idle false h = cc

      by : (x : Option Spot) → t.spot ≡ x → turn_of o.element (begins p.iterations o) x on.out ≡ turns.Ran f spot out →
          (sum (left_of p place) (slice_set b.objects i t.object) + (sum (gathering_left p place n.slot.node) on.gatherings + (sum (totals_left p place) b.totals + to_pack b.fresh)))
          + sum (sent_weight p place) (out_of (turn_of o.element (begins p.iterations o) t.spot on.out)) < body_left p place n.slot.node b
      by None has h = absurd (idle (begins p.iterations o) h)
      by (Some x) has h =
          let pays = (turn_pays p place law tells lines limit o follows (ap (λ (y : Option Spot). is_some y) has)).1 in
          let out_is : sum (sent_weight p place) (out_of (turn_of o.element (begins p.iterations o) t.spot on.out)) ≡ sum (sent_weight p place) on.out =
          ap (λ y. sum (sent_weight p place) (out_of (turn_of o.element (begins p.iterations o) y on.out))) has in
          omega (arith, pays, out_is, sum_set (left_of p place) b.objects i o t.object there, passed_cost p script place n.roster s i o.element.0 at t.sent start)

  body_lowers : (e : ℕ) (f : ElementId) (spot : Spot) (out : List Sent) → (body_ran p lines place limit e n.slot n.last.stamp n.roster b).turn ≡ turns.Ran f spot out → Lowers (body_ran p lines place limit e n.slot n.last.stamp n.roster b)
  unfolding body_ran
  body_lowers e f spot out is = by b.waits is
    where
      there : (i : ℕ) (o : Option Progress) → slice_get b.objects i ≡ o → (body_ran_by p lines place limit n.slot n.last.stamp n.roster b i o).turn ≡ turns.Ran f spot out →
          Lowers (body_ran_by p lines place limit n.slot n.last.stamp n.roster b i o)
      there i None h ran = not_ran (stands b) f spot out refl ran
      there i (Some o) h ran = at_object i o f spot out h ran

      at_seat : (seat : Option ℕ) → (body_ran_at p lines place limit n.slot n.last.stamp n.roster b seat).turn ≡ turns.Ran f spot out → Lowers (body_ran_at p lines place limit n.slot n.last.stamp n.roster b seat)
      at_seat None ran = not_ran (stands b) f spot out refl ran
      at_seat (Some i) ran = there i (slice_get b.objects i) refl ran

      by : (waits : Bool) → (cond waits (stands b) (body_ran_at p lines place limit n.slot n.last.stamp n.roster b (seat_of n.roster e))).turn ≡ turns.Ran f spot out →
          Lowers (cond waits (stands b) (body_ran_at p lines place limit n.slot n.last.stamp n.roster b (seat_of n.roster e)))
      by true ran = not_ran (stands b) f spot out refl ran
      by false ran = at_seat (seat_of n.roster e) ran

pub runs_lower : ObjectsFollow → ReadyTells → RunsLower
unfolding node_ran node_left outcome_left
runs_lower law tells p script place limit e n f spot out keeps is = by n.body refl keeps.body is
  where
    by : (body : Option Body) → n.body ≡ body → IfSome body (Alive p script place n) → (node_ran_by p script place limit e n body).turn ≡ turns.Ran f spot out →
        outcome_left p place (outcome_of (node_ran_by p script place limit e n body)) < left_by p place n.slot.node n.body
    by None same alive ran = absurd (let q : turns.Awaits ≡ turns.Ran f spot out = ran in cc)
    by (Some b) same alive ran =
        let whole : left_by p place n.slot.node n.body ≡ body_left p place n.slot.node b = ap (left_by p place n.slot.node) same in
        let less = body_lowers law tells p script place limit n keeps b alive e f spot out ran in
        omega (arith, whole, less)

-- ---- a pack

compared_light : (p : Plan) (place : List ℕ) (own : Stamp) (fresh : Option Piece) (other : Option Held) → sum (sent_weight p place) (compared p own fresh other) ≤ 1
compared_light p place own None other = omega arith
compared_light p place own (Some mine) None = omega arith
compared_light p place own (Some mine) (Some held) = by (mine.iteration == held.piece.iteration)
  where
    by : (b : Bool) → sum (sent_weight p place) (cond b (verdict_sent p own mine held ∷ []) []) ≤ 1
    by true = omega arith
    by false = omega arith

pub packs_lower : PacksLower
unfolding node_packed node_left outcome_left
packs_lower p script place k n b is none = by (n.slot.replica == 1)
  where
    mine : Piece
    mine = piece_of p k n.slot.node b.objects

    whole : left_by p place n.slot.node n.body ≡ body_left p place n.slot.node b
    whole = ap (left_by p place n.slot.node) is

    three : to_pack b.fresh ≡ 3
    three = ap to_pack none

    packed : outcome_left p place (node_packed_by p script k n n.body) ≡ outcome_left p place (node_packed_by p script k n (Some b))
    packed = ap (λ o. outcome_left p place (node_packed_by p script k n o)) is

    light : (c : Bool) → sum (sent_weight p place) (cond c (to_slot 0 n.slot.node (letters.Piece n.last.stamp mine) ∷ []) (compared p n.last.stamp (Some mine) b.other)) ≤ 2
    light true = omega arith
    light false = let few = compared_light p place n.last.stamp (Some mine) b.other in omega (arith, few)

    by : (c : Bool) → outcome_left p place (node_packed_by p script k n n.body) < left_by p place n.slot.node n.body
    by c = let few = light (n.slot.replica == 1) in omega (arith, packed, whole, three, few)

-- ---- letters

takes_left : (p : Plan) (place : List ℕ) (o : Progress) (key : RefKey) (payload : Payload) → left_of p place (takes o key payload) ≡ left_of p place o
takes_left p place o key payload = by (nat_le o.mail.since key.iteration && is_none (message o.mail key))
  where
    by : (b : Bool) → left_of p place (cond b (mailed o key payload) o) ≡ left_of p place o
    by true = refl
    by false = refl

taken_left : (p : Plan) (place : List ℕ) (k : ℕ) (entry : EntryId) (payload : Payload) (all : List Progress) (seat : Option ℕ) → sum (left_of p place) (taken_at k entry payload all seat) ≡ sum (left_of p place) all
taken_left p place k entry payload all None = refl
taken_left p place k entry payload all (Some i) = by (slice_get all i) refl
  where
    by : (o : Option Progress) → slice_get all i ≡ o → sum (left_of p place) (taken_by k entry payload all i o) ≡ sum (left_of p place) all
    by None is = refl
    by (Some o) is = omega (arith, sum_set (left_of p place) all i o (takes o (key_of k (ports.Entry entry)) payload) is, takes_left p place o (key_of k (ports.Entry entry)) payload)

module _ (p : Plan) (script : List Fault) (place : List ℕ) (n : NodeState) (keeps : Keeps p script place n) (b : Body) where
  abbrev Hears : Heard → ℕ → Type 0
  Hears h w = body_left p place n.slot.node h.body + sum (sent_weight p place) h.out < body_left p place n.slot.node b + w

  unmoved_hears : (w : ℕ) → 0 < w → Hears (unmoved b) w
  unmoved_hears w some = omega (arith, some)

  stamped : (stamp : Stamp) (h : Heard) (w : ℕ) → 0 < w → Hears h w → Hears (cond (same_stamp stamp n.last.stamp) h (unmoved b)) w
  stamped stamp h w some less = by (same_stamp stamp n.last.stamp)
    where
      by : (c : Bool) → Hears (cond c h (unmoved b)) w
      by true = less
      by false = unmoved_hears w some

  mail_hears : (objects : List Progress) → sum (left_of p place) objects ≡ sum (left_of p place) b.objects → Hears (with_mail b objects) 1
  mail_hears objects same = omega (arith, same)

  total_hears : (k : ℕ) (r : ReductionId) (v : ℤ) (o : Option Reduction) → Hears (total_heard p k r v b o) 1
  total_hears k r v None = unmoved_hears 1 (omega arith)
  total_hears k r v (Some x) = mail_hears (map (total_taken p k r v x.owner) b.objects) (sum_map (left_of p place) (total_taken p k r v x.owner) b.objects one)
    where
      one : (o : Progress) → left_of p place (total_taken p k r v x.owner o) ≡ left_of p place o
      one o = by ((place_of p o.element.0).array == x.owner)
        where
          by : (c : Bool) → left_of p place (cond c (takes o (key_of k (ports.Total r)) (one_value v)) o) ≡ left_of p place o
          by true = takes_left p place o (key_of k (ports.Total r)) (one_value v)
          by false = refl

  share_hears : (r : ReductionId) (k node : ℕ) (v : ℤ) (o : Option Reduction) → reduction_of p r.0 ≡ o → Hears (partial_heard n.roster n.slot.replica n.last.stamp r k node v b o) (share_weight p place r.0 node)
  share_hears r k node v None is = unmoved_hears (share_weight p place r.0 node) (omega arith)
  share_hears r k node v (Some x) is = by (number_in 0 (sharers_of n.roster x.owner) node) refl
    where
      weigh : ℕ → ℕ
      weigh q = length (sharers p place q)

      by : (o : Option ℕ) → number_in 0 (sharers_of n.roster x.owner) node ≡ o → Hears (share_heard n.slot.replica n.last.stamp r k v x (sharers_of n.roster x.owner) b o) (share_weight p place r.0 node)
      by None here = unmoved_hears (share_weight p place r.0 node) (omega arith)
      by (Some rank) here =
          let less : sum (totals_left p place) t.gatherings + sent_left weigh r.0 t.total ≤ sum (totals_left p place) b.totals + first_left weigh r.0 rank =
          tallied_left weigh x.how (length (sharers_of n.roster x.owner)) rank r k v b.totals in
          omega (arith, less, sends t.total, pays rank here)
        where
          t : Tallied
          t = tallied x.how (length (sharers_of n.roster x.owner)) rank r k v b.totals

          own : sharers_of n.roster x.owner ≡ sharers p place r.0
          own =
              ap (λ q. sharers_of q x.owner) keeps.roster.is ∙ (sharers_are p place n.slot.node x.owner node rank (ap (λ q. number_in 0 (sharers_of q x.owner) node) (sym keeps.roster.is) ∙ here)).0
              ∙ sym (ap (sharers_in p place) is)

          sends : (total : Option ℤ) → sum (sent_weight p place) (total_sent n.slot.replica n.last.stamp r k (sharers_of n.roster x.owner) total) ≡ sent_left weigh r.0 total
          sends None = refl
          sends (Some w) =
              sum_ones (sent_weight p place) (total_to n.slot.replica n.last.stamp r k w) (sharers_of n.roster x.owner) (λ j. refl) ∙ ap (λ l. length l) own

          pays : (m : ℕ) → number_in 0 (sharers_of n.roster x.owner) node ≡ Some m → suc (first_left weigh r.0 m) ≤ share_weight p place r.0 node
          pays (suc m) at = let none = later_none weigh r.0 m in omega (arith, none)
          pays zero at =
              let first : is_first node (sharers p place r.0) ≡ true = ap (is_first node) (sym own) ∙ first_at (sharers_of n.roster x.owner) node (numbered (sharers_of n.roster x.owner) node zero at) in
              let cost : share_weight p place r.0 node ≡ suc (length (sharers p place r.0)) = ap (λ c. suc (cond c (length (sharers p place r.0)) 0)) first in
              omega (arith, cost)

  piece_hears : (stamp : Stamp) (piece : Piece) → Hears (piece_heard p n.last.stamp n.slot.node stamp piece b) 2
  piece_hears stamp piece = by (piece.node == n.slot.node && is_new stamp piece b.other)
    where
      held : Held
      held = record { stamp = stamp; piece = piece }

      by : (c : Bool) → Hears (cond c (piece_kept p n.last.stamp b held) (unmoved b)) 2
      by true = omega (arith, compared_light p place n.last.stamp b.fresh (Some held))
      by false = unmoved_hears 2 (omega arith)

  letter_hears : (letter : Letter) → Hears (body_heard p script place n.slot n.last.stamp n.roster b letter) (weight p place letter)
  letter_hears (letters.Parcel stamp entry k to payload) =
      stamped stamp (parcel_heard n.roster k entry to payload b) 1 (omega arith) (mail_hears (taken_at k entry payload b.objects (seat_of n.roster to.0)) (taken_left p place k entry payload b.objects (seat_of n.roster to.0)))
  letter_hears (letters.Partial stamp r k node value) =
      stamped stamp (partial_heard n.roster n.slot.replica n.last.stamp r k node value b (reduction_of p r.0)) (share_weight p place r.0 node) (omega arith) (share_hears r k node value (reduction_of p r.0) refl)
  letter_hears (letters.Total stamp r k value) = stamped stamp (total_heard p k r value b (reduction_of p r.0)) 1 (omega arith) (total_hears k r value (reduction_of p r.0))
  letter_hears (letters.Piece stamp piece) = piece_hears stamp piece
  letter_hears (letters.VerdictOf first second node k verdict piece) = unmoved_hears 1 (omega arith)
  letter_hears (letters.Lend k fresh) = unmoved_hears 1 (omega arith)
  letter_hears (letters.Take stamp k live piece) = unmoved_hears 1 (omega arith)
  letter_hears (letters.Restore stamp k live) = unmoved_hears 1 (omega arith)
  letter_hears (letters.Commit stamp k live) = unmoved_hears 1 (omega arith)
  letter_hears (letters.Resume stamp) = unmoved_hears 1 (omega arith)
  letter_hears (letters.Died stamp slot line) = unmoved_hears 1 (omega arith)
  letter_hears letters.Stop = unmoved_hears 1 (omega arith)

pub some_weight : (p : Plan) (place : List ℕ) (letter : Letter) → 0 < weight p place letter
some_weight p place (letters.Parcel stamp entry k to payload) = omega arith
some_weight p place (letters.Partial stamp r k node value) = omega arith
some_weight p place (letters.Total stamp r k value) = omega arith
some_weight p place (letters.Piece stamp piece) = omega arith
some_weight p place (letters.VerdictOf first second node k verdict piece) = omega arith
some_weight p place (letters.Lend k fresh) = omega arith
some_weight p place (letters.Take stamp k live piece) = omega arith
some_weight p place (letters.Restore stamp k live) = omega arith
some_weight p place (letters.Commit stamp k live) = omega arith
some_weight p place (letters.Resume stamp) = omega arith
some_weight p place (letters.Died stamp slot line) = omega arith
some_weight p place letters.Stop = omega arith

pub hears_lower : HearsLower
unfolding node_heard node_left outcome_left
hears_lower p script place letter n keeps mail = by (order_of letter) mail
  where
    live : (body : Option Body) → n.body ≡ body → outcome_left p place (node_heard_by p script place letter n body) < left_by p place n.slot.node n.body + weight p place letter
    live None same = let some = some_weight p place letter in omega (arith, some)
    live (Some b) same =
        let whole : left_by p place n.slot.node n.body ≡ body_left p place n.slot.node b = ap (left_by p place n.slot.node) same in
        let less = letter_hears p script place n keeps b letter in
        omega (arith, whole, less)

    by : (o : Option Order) → is_none o ≡ true → outcome_left p place (node_heard_as p script place letter n o) < left_by p place n.slot.node n.body + weight p place letter
    by None h = live n.body refl
    by (Some order) h = absurd (let e : false ≡ true = h in cc)

-- ---- the start

starts_left : (p : Plan) (place es : List ℕ) → sum (left_of p place) (starts p es) ≡ sum (λ e. times p.iterations (round_cost p place e)) es
starts_left p place [] = refl
starts_left p place (e ∷ more) =
    let whole : p.iterations - 0 ≡ p.iterations = omega arith in omega (arith, ap (λ k. times k (round_cost p place e)) whole, starts_left p place more)

pub start_leaves : StartLeaves
unfolding node_left start_state
start_leaves p script place slot live = omega (arith, starts_left p place (members place slot.node))
