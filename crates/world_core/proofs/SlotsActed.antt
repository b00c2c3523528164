-- A slot after an event, from what the code did to its parts.
use Rattle.std.proofs.Common.{◌≡◌, ℕ, true, false, List, [], ◌∷◌, refl, ap, sym, subst, ◌∙◌, Option, Some, None}
use Rattle.std.specs.Prelude.{is_some}
use Rattle.chare_base.specs.declared.plan.ElementId.{ElementId}
use Rattle.chare_base.specs.declared.plan.Plan.{Plan}
use Rattle.chare_base.specs.declared.slots.LineSet.{LineSet}
use Rattle.chare_base.specs.declared.slots.SlotId.{SlotId}
use Rattle.fault_script.specs.declared.fault.Fault.{Fault}
use Rattle.iteration_agree.specs.Cuts.{CutState}
use Rattle.iteration_agree.specs.declared.round.Round.{Round}
use Rattle.iteration_agree.specs.declared.round.Standing.{Standing}
use Rattle.letter_post.specs.declared.letter.Letter.{Letter}
use Rattle.letter_post.specs.declared.letter.Sent.{Sent}
use Rattle.node_core.specs.Keeps.{Fitted}
use Rattle.node_core.specs.Nodes.{Answer, NodeState, Outcome, node_heard, node_ran, out_of, outcome_of}
use Rattle.node_core.specs.Rosters.{roster_of, seat_of}
use Rattle.node_core.specs.Starts.{start_state}
use Rattle.node_core.specs.declared.turn.Turn.{Turn}
use Rattle.world_core.specs.declared.doing.Doing.{Doing}
use Rattle.world_core.specs.declared.doing.Reach.{Reach}
use Rattle.world_core.specs.declared.doing.Readiness.{Readiness}
use Rattle.world_core.specs.declared.doing.Since.{Since}
use Rattle.world_core.specs.declared.doing.Since.TheVariants.{Nothing}
use Rattle.world_core.specs.Steps.{marked, marked_by, reach_of}
use Rattle.world_core.specs.Worlds.{Acted, Setting, SlotState, acted, back_after, doing_of, idle_doing, renewed, seats_of, since_after, slot_heard, slot_ran, slot_ran_by, stand}
use Rattle.world_core.proofs.Seating.{heard_marks, ran_marks}
use Rattle.world_core.proofs.Slots.{acted_is}

pub not_some : (o : Option ℕ) → is_some o ≡ false → o ≡ None
not_some None h = refl
not_some (Some k) h = absurd (let q : true ≡ false = h in cc)

-- what is kept of its objects, by a standing that was asked for
kept_at : (p : Plan) (cut : CutState) (n : NodeState) (t : Standing) (seats : List Readiness) → t ≡ stand cut n.slot → seats ≡ seats_of p (stand cut n.slot).top n → seats ≡ seats_of p t.top n
kept_at p cut n t seats at kept = kept ∙ ap (λ (u : Standing). seats_of p u.top n) (sym at)

-- what it would do was told by such a standing
pub told_is : (p : Plan) (cut : CutState) (o : Outcome) (box : List Letter) (back : Option ℕ) (since : Since) (slot : SlotId) (round : Round) (t : Standing) (n : NodeState) (out : List Sent) (seats : List Readiness) (new : SlotState) →
    round ≡ cut.round → t ≡ stand cut slot → ◌≡◌ {A = Outcome} (record { node = n; out = out }) o → n.slot ≡ slot → seats ≡ seats_of p t.top n →
    ◌≡◌ {A = SlotState} new (record { node = n; box = box; back = back; since = since; seats = seats; doing = doing_of p round t n box back since }) →
    ◌≡◌ {A = Acted} (record { slot = new; cut = cut; out = out }) (acted p cut o box back since)
told_is p cut o box back since slot round t n out seats new now at is own kept made =
    let with_new : SlotState → Acted = λ x. record { slot = x; cut = cut; out = out } in
    ap with_new made
    ∙ acted_is p cut o box back since slot n out seats (doing_of p round t n box back since) is own (kept ∙ ap (λ (u : Standing). seats_of p u.top n) at)
    (ap (λ (r : Round). doing_of p r t n box back since) now ∙ ap (λ (u : Standing). doing_of p cut.round u n box back since) at)

-- ---- it ran an element

module _ (s : Setting) (cut : CutState) (x : SlotState) (e : ElementId) (t : Standing) (n : NodeState) (turn : Turn) (seats : List Readiness) where
  pub ran_seats : t ≡ stand cut x.node.slot → x.seats ≡ seats_of s.plan (stand cut x.node.slot).top x.node →
      ◌≡◌ {A = Answer} (record { node = n; turn = turn }) (node_ran s.plan s.script s.place t.top e.0 x.node) → seats ≡ marked s.plan t.top n (seat_of n.roster e.0) x.seats → seats ≡ seats_of s.plan t.top n
  ran_seats at kept is marked_now =
      let after : n ≡ (outcome_of (node_ran s.plan s.script s.place t.top e.0 x.node)).node = ap (λ (a : Answer). a.node) is in
      marked_now
      ∙ subst (λ (m : NodeState). marked s.plan t.top m (seat_of m.roster e.0) x.seats ≡ seats_of s.plan t.top m) (sym after)
      (ran_marks s.plan t.top s.script s.place t.top e.0 x.node x.seats (kept_at s.plan cut x.node t x.seats at kept))

  pub ran_slot : (round : Round) (out : List Sent) (new : SlotState) → x.back ≡ None → round ≡ cut.round → t ≡ stand cut x.node.slot → x.seats ≡ seats_of s.plan (stand cut x.node.slot).top x.node →
      ◌≡◌ {A = Answer} (record { node = n; turn = turn }) (node_ran s.plan s.script s.place t.top e.0 x.node) → seats ≡ marked s.plan t.top n (seat_of n.roster e.0) x.seats → n.slot ≡ x.node.slot → out ≡ out_of turn →
      ◌≡◌ {A = SlotState} new (record { node = n; box = x.box; back = x.back; since = x.since; seats = seats; doing = doing_of s.plan round t n x.box x.back x.since }) →
      ◌≡◌ {A = Acted} (record { slot = new; cut = cut; out = out }) (slot_ran s cut e x)
  ran_slot round out new free now at kept is marked_now own sent made =
      let with_out : List Sent → Outcome = λ o. record { node = n; out = o } in
      told_is s.plan cut (outcome_of (node_ran s.plan s.script s.place (stand cut x.node.slot).top e.0 x.node)) x.box x.back x.since x.node.slot round t n out seats new now at
      (ap with_out sent ∙ ap outcome_of is ∙ ap (λ (u : Standing). outcome_of (node_ran s.plan s.script s.place u.top e.0 x.node)) at) own (ran_seats at kept is marked_now) made
      ∙ sym (ap (slot_ran_by s cut e x) free)

-- ---- it heard a letter

module _ (s : Setting) (cut : CutState) (x : SlotState) (letter : Letter) (t : Standing) (n : NodeState) (out : List Sent) (reach : Reach) (seats : List Readiness) where
  pub heard_seats : Fitted s.plan x.node → t ≡ stand cut x.node.slot → x.seats ≡ seats_of s.plan (stand cut x.node.slot).top x.node →
      ◌≡◌ {A = Outcome} (record { node = n; out = out }) (node_heard s.plan s.script s.place letter x.node) → reach ≡ reach_of x.node.last.stamp letter → seats ≡ marked_by s.plan t.top n reach x.seats → seats ≡ seats_of s.plan t.top n
  heard_seats fits at kept is reaches marked_now =
      let after : n ≡ (node_heard s.plan s.script s.place letter x.node).node = ap (λ (o : Outcome). o.node) is in
      marked_now ∙ ap (λ (r : Reach). marked_by s.plan t.top n r x.seats) reaches
      ∙ subst (λ (m : NodeState). marked_by s.plan t.top m (reach_of x.node.last.stamp letter) x.seats ≡ seats_of s.plan t.top m) (sym after)
      (heard_marks s.plan t.top s.script s.place x.node fits letter x.seats (kept_at s.plan cut x.node t x.seats at kept))

  pub heard_slot : Fitted s.plan x.node → (round : Round) (more : List Letter) (back : Option ℕ) (since : Since) (new : SlotState) → x.box ≡ letter ∷ more → back ≡ back_after letter x.back → since ≡ since_after letter x.since →
      round ≡ cut.round → t ≡ stand cut x.node.slot → x.seats ≡ seats_of s.plan (stand cut x.node.slot).top x.node →
      ◌≡◌ {A = Outcome} (record { node = n; out = out }) (node_heard s.plan s.script s.place letter x.node) → reach ≡ reach_of x.node.last.stamp letter → seats ≡ marked_by s.plan t.top n reach x.seats → n.slot ≡ x.node.slot →
      ◌≡◌ {A = SlotState} new (record { node = n; box = more; back = back; since = since; seats = seats; doing = doing_of s.plan round t n more back since }) →
      ◌≡◌ {A = Acted} (record { slot = new; cut = cut; out = out }) (slot_heard s cut x x.box)
  heard_slot fits round more back since new box backs sinces now at kept is reaches marked_now own made =
      told_is s.plan cut (node_heard s.plan s.script s.place letter x.node) more back since x.node.slot round t n out seats new now at is own (heard_seats fits at kept is reaches marked_now) made
      ∙ ap (λ (b : Option ℕ). acted s.plan cut (node_heard s.plan s.script s.place letter x.node) more b since) backs
      ∙ ap (λ (q : Since). acted s.plan cut (node_heard s.plan s.script s.place letter x.node) more (back_after letter x.back) q) sinces
      ∙ sym (ap (slot_heard s cut x) box)

-- ---- the opening

pub start_roster : (p : Plan) (script : List Fault) (place : List ℕ) (slot : SlotId) (live : LineSet) → (start_state p script place slot live).roster.iterations ≡ p.iterations
unfolding start_state roster_of
start_roster p script place slot live = refl

start_own : (p : Plan) (script : List Fault) (place : List ℕ) (slot : SlotId) (live : LineSet) → (start_state p script place slot live).slot ≡ slot
unfolding start_state
start_own p script place slot live = refl

pub start_slot : (p : Plan) (script : List Fault) (place : List ℕ) (slot : SlotId) (live : LineSet) (cut : CutState) (round : Round) (t : Standing) (n : NodeState) (seats : List Readiness) (doing : Option Doing) →
    n ≡ start_state p script place slot live → round ≡ cut.round → t ≡ stand cut slot → seats ≡ seats_of p t.top n → doing ≡ idle_doing p round n t None Nothing →
    ◌≡◌ {A = SlotState} (record { node = n; box = []; back = None; since = Nothing; seats = seats; doing = doing }) (renewed p cut (start_state p script place slot live) [] None Nothing)
start_slot p script place slot live cut round t n seats doing is now at kept told =
    let own : n.slot ≡ slot = ap (λ (m : NodeState). m.slot) is ∙ start_own p script place slot live in
    let here : t ≡ stand cut n.slot = at ∙ ap (stand cut) (sym own) in
    let with_seats : List Readiness → SlotState = λ r. record { node = n; box = []; back = None; since = Nothing; seats = r; doing = doing } in
    let with_doing : Option Doing → SlotState = λ d. record { node = n; box = []; back = None; since = Nothing; seats = seats_of p (stand cut n.slot).top n; doing = d } in
    ap with_seats (kept ∙ ap (λ (u : Standing). seats_of p u.top n) here)
    ∙ ap with_doing (told ∙ ap (λ (r : Round). idle_doing p r n t None Nothing) now ∙ ap (λ (u : Standing). idle_doing p cut.round n u None Nothing) here)
    ∙ ap (λ (m : NodeState). renewed p cut m [] None Nothing) is
