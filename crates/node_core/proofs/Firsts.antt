-- An element that can run runs, and so does the one that is named as the first of these.
use Rattle.std.proofs.Common.{◌≡◌, ℕ, suc, ◌<◌, Bool, true, false, cond, List, [], ◌∷◌, refl, ap, sym, ◌∙◌, Option, Some, None, IsSome}
use Rattle.std.specs.Prelude.{◌&&◌, IfSome, is_none, nat_lt, slice_get}
use Rattle.std.specs.Option.{option_map_or}
use Rattle.std.proofs.lemmas.Bool.{ltb-true}
use Rattle.std.proofs.lemmas.Option.{same_Some}
use Rattle.chare_base.specs.declared.message.Need.TheVariants as needs
use Rattle.chare_base.specs.declared.plan.ElementId.{ElementId}
use Rattle.chare_base.specs.declared.plan.Part.{Part}
use Rattle.chare_base.specs.declared.plan.Plan.{Plan}
use Rattle.chare_base.specs.declared.plan.Spot.{Spot}
use Rattle.chare_base.specs.Flip.{Flip}
use Rattle.chare_base.specs.Laws.{FirstStepIsFree}
use Rattle.letter_post.specs.declared.letter.Sent.{Sent}
use Rattle.letter_post.specs.Stamps.{lines_of}
use Rattle.object_steps.specs.declared.ready.Ready.{Ready}
use Rattle.object_steps.specs.declared.ready.Ready.TheVariants as ready_as
use Rattle.object_steps.specs.Laws.{Follows, ObjectsFollow, struck_by}
use Rattle.object_steps.specs.Objects.{Fits, Progress, begun, ready}
use Rattle.object_steps.specs.Turns.{ReadyTells, Waits}
use Rattle.node_core.specs.declared.turn.Turn.{Turn}
use Rattle.node_core.specs.declared.turn.Turn.TheVariants as turns
use Rattle.node_core.specs.Costs.{EachRuns, FirstRuns, Runs, RunsOne}
use Rattle.node_core.specs.Keeps.{Alive, element_of}
use Rattle.node_core.specs.Nodes.{Body, Passing, awake, body_ran, body_ran_at, body_ran_by, can_run_by, first_running, first_running_of, node_can_run, node_ran, node_ran_by, object_of, passed, rests_by, seated_in, sender_of, stands, turn_of}
use Rattle.node_core.specs.Rosters.{seat_of}
use Rattle.node_core.specs.Turns.{Turned, begins, can_run, goes_at, is_step, stays, turned}
use Rattle.node_core.specs.Turns as turns_of
use Rattle.node_core.proofs.Lists.{get_mapped, got_at}
use Rattle.node_core.proofs.Seats.{seat_back}
use Rattle.node_core.proofs.Turning.{none_is, second}
use Rattle.chare_base.specs.Elements.{need_at}

-- an object that can run, by its place
pub record CanRun (p : Plan) (limit : ℕ) (all : List Progress) (e : ElementId) : Type 0 where
  pub at : ℕ
  pub object : Progress
  pub there : slice_get all at ≡ Some object
  pub element : object.element ≡ e
  pub runs : can_run p limit object ≡ true

pub found_running : (p : Plan) (limit : ℕ) (all : List Progress) (e : ElementId) → first_running_of p limit all ≡ Some e → CanRun p limit all e
found_running p limit [] e h = absurd (let q : None ≡ Some e = h in cc)
found_running p limit (o ∷ more) e h = by (can_run p limit o) refl h (found_running p limit more e)
  where
    by : (b : Bool) → can_run p limit o ≡ b → cond b (Some o.element) (first_running_of p limit more) ≡ Some e → (first_running_of p limit more ≡ Some e → CanRun p limit more e) → CanRun p limit (o ∷ more) e
    by true is g rest = record { at = 0; object = o; there = refl; element = same_Some o.element e g; runs = is }
    by false is g rest = let r = rest g in record { at = suc r.at; object = r.object; there = r.there; element = r.element; runs = r.runs }

-- the first step waits for nothing
first_ready : ReadyTells → FirstStepIsFree → (p : Plan) (o : Progress) → Fits p o → o.step ≡ Some 0 → is_step (ready p o) ≡ true
first_ready tells free p o fits first = by (ready p o) refl
  where
    by : (r : Ready) → ready p o ≡ r → is_step r ≡ true
    by (ready_as.Step spot) is = refl
    by ready_as.AtTop is = absurd (let q : Some 0 ≡ None = sym first ∙ tells.top p o fits is in cc)
    by (ready_as.Await port) is =
        let w : Waits p o port = tells.await p o port fits is in
        let at : w.at ≡ 0 = same_Some w.at 0 (sym w.step ∙ first) in
        let need : need_at p o.element.0 w.at w.first ≡ needs.Port port = ap (λ x. option_map_or (λ (q : Part). q.need) x needs.Nothing) w.there ∙ w.need in
        absurd (let q : needs.Nothing ≡ needs.Port port = sym (free p o.element.0 w.first) ∙ ap (λ s. need_at p o.element.0 s w.first) (sym at) ∙ need in cc)

goes_on : (p : Plan) (o : Progress) → is_step (ready p o) ≡ true → IsSome (turns_of.goes p o).spot
goes_on p o h = by (ready p o) h
  where
    by : (r : Ready) → is_step r ≡ true → IsSome (goes_at p o r).spot
    by (ready_as.Step spot) h = refl
    by (ready_as.Await port) h = absurd (let q : false ≡ true = h in cc)
    by ready_as.AtTop h = absurd (let q : false ≡ true = h in cc)

-- an object that can run runs a part
pub can_go : ObjectsFollow → ReadyTells → FirstStepIsFree → (p : Plan) (lines : List Flip) (limit : ℕ) (o : Progress) → Follows p lines o → can_run p limit o ≡ true → IsSome (turned p lines limit o).spot
can_go law tells free p lines limit o follows can = by_top (is_none o.step) refl can
  where
    begins_on : (b : Bool) → (nat_lt o.done limit && nat_lt o.done p.iterations) ≡ b → b ≡ true → o.step ≡ None → IsSome (cond {A = Turned} b (turns_of.goes p (begun (struck_by lines o))) (stays o)).spot
    begins_on false h t top = absurd (let q : false ≡ true = t in cc)
    begins_on true h t top =
        let more : o.done < p.iterations = ltb-true o.done p.iterations (second (nat_lt o.done limit) (nat_lt o.done p.iterations) h) in
        goes_on p (begun (struck_by lines o)) (first_ready tells free p (begun (struck_by lines o)) ((law.on p lines o follows).begins top more).fits refl)

    by_top : (b : Bool) → is_none o.step ≡ b → cond b (nat_lt o.done limit && nat_lt o.done p.iterations) (is_step (ready p o)) ≡ true →
        IsSome (cond {A = Turned} b (cond (nat_lt o.done limit && nat_lt o.done p.iterations) (turns_of.goes p (begun (struck_by lines o))) (stays o)) (turns_of.goes p o)).spot
    by_top true h can = begins_on (nat_lt o.done limit && nat_lt o.done p.iterations) refl can (none_is o.step h)
    by_top false h can = goes_on p o can

-- a turn that was one of an element's parts
record TurnRan (e : ElementId) (turn : Turn) : Type 0 where
  spot : Spot
  out : List Sent
  is : turn ≡ turns.Ran e spot out

pub first_runs : ObjectsFollow → ReadyTells → FirstStepIsFree → FirstRuns
unfolding first_running node_ran body_ran
first_runs law tells free p script place limit n e keeps first = result (by n.body keeps.body first)
  where
    lines : List Flip
    lines = lines_of script n.last.stamp

    of_body : (b : Body) → Alive p script place n b → b.waits ≡ false → CanRun p limit b.objects e → TurnRan e (body_ran p lines place limit e.0 n.slot n.last.stamp n.roster b).turn
    of_body b alive awake r = ran (turned p lines limit o).spot refl (can_go law tells free p lines limit o (got_at (Follows p lines) b.objects r.at o alive.objects r.there) r.runs)
      where
        o : Progress
        o = r.object

        seat : seat_of n.roster e.0 ≡ Some r.at
        seat =
            ap (λ q. seat_of q e.0) keeps.roster.is
            ∙ seat_back p place n.slot.node r.at e.0 (ap (λ l. slice_get l r.at) (sym alive.members) ∙ get_mapped element_of b.objects r.at o r.there ∙ ap (λ (x : ElementId). Some x.0) r.element)

        on : Passing
        on = passed p place n.roster (sender_of p n.slot n.last.stamp n.roster r.at o) (turned p lines limit o).sent (record { gatherings = b.gatherings; out = [] })

        turn_is : (body_ran p lines place limit e.0 n.slot n.last.stamp n.roster b).turn ≡ turn_of o.element (begins p.iterations o) (turned p lines limit o).spot on.out
        turn_is =
            ap (λ w. (cond w (stands b) (body_ran_at p lines place limit n.slot n.last.stamp n.roster b (seat_of n.roster e.0))).turn) awake
            ∙ ap (λ s. (body_ran_at p lines place limit n.slot n.last.stamp n.roster b s).turn) seat ∙ ap (λ x. (body_ran_by p lines place limit n.slot n.last.stamp n.roster b r.at x).turn) r.there

        ran : (x : Option Spot) → (turned p lines limit o).spot ≡ x → IsSome x → TurnRan e (body_ran p lines place limit e.0 n.slot n.last.stamp n.roster b).turn
        ran None has some = absurd (let q : false ≡ true = some in cc)
        ran (Some spot) has some = record {
          spot = spot;
          out = on.out;
          is = turn_is ∙ ap (λ x. turn_of o.element (begins p.iterations o) x on.out) has ∙ ap (λ f. turns.Ran f spot on.out) r.element;
        }

    by : (body : Option Body) → IfSome body (Alive p script place n) → first_running_of p limit (awake body) ≡ Some e → TurnRan e (node_ran_by p script place limit e.0 n body).turn
    by None alive h = absurd (let q : None ≡ Some e = h in cc)
    by (Some b) alive h = waits b.waits refl h
      where
        waits : (w : Bool) → b.waits ≡ w → first_running_of p limit (cond w [] b.objects) ≡ Some e → TurnRan e (node_ran_by p script place limit e.0 n (Some b)).turn
        waits true is g = absurd (let q : None ≡ Some e = g in cc)
        waits false is g = of_body b alive is (found_running p limit b.objects e g)

    result : TurnRan e (node_ran_by p script place limit e.0 n n.body).turn → Runs p script place limit n e
    result t = record { spot = t.spot; out = t.out; is = t.is }

-- each that can run does
pub each_runs : ObjectsFollow → ReadyTells → FirstStepIsFree → EachRuns
unfolding node_can_run node_ran body_ran
each_runs law tells free p script place limit e n keeps awake can = by n.body refl keeps.body awake can
  where
    lines : List Flip
    lines = lines_of script n.last.stamp

    of_object : (b : Body) → n.body ≡ Some b → b.waits ≡ false → (i : ℕ) → seat_of n.roster e ≡ Some i → (o : Progress) → slice_get b.objects i ≡ Some o → IsSome (turned p lines limit o).spot → RunsOne p script place limit e n
    of_object b alive goes i seat o there some = ran (turned p lines limit o).spot refl some
      where
        on : Passing
        on = passed p place n.roster (sender_of p n.slot n.last.stamp n.roster i o) (turned p lines limit o).sent (record { gatherings = b.gatherings; out = [] })

        turn_is : (node_ran p script place limit e n).turn ≡ turn_of o.element (begins p.iterations o) (turned p lines limit o).spot on.out
        turn_is =
            ap (λ q. (node_ran_by p script place limit e n q).turn) alive
            ∙ ap (λ w. (cond w (stands b) (body_ran_at p lines place limit n.slot n.last.stamp n.roster b (seat_of n.roster e))).turn) goes
            ∙ ap (λ s. (body_ran_at p lines place limit n.slot n.last.stamp n.roster b s).turn) seat ∙ ap (λ x. (body_ran_by p lines place limit n.slot n.last.stamp n.roster b i x).turn) there

        ran : (x : Option Spot) → (turned p lines limit o).spot ≡ x → IsSome x → RunsOne p script place limit e n
        ran None has some = absurd (let q : false ≡ true = some in cc)
        ran (Some spot) has some = record { element = o.element; spot = spot; out = on.out; is = turn_is ∙ ap (λ x. turn_of o.element (begins p.iterations o) x on.out) has }

    by : (body : Option Body) → n.body ≡ body → IfSome body (Alive p script place n) → rests_by body ≡ false → can_run_by p limit (object_of n e body) ≡ true → RunsOne p script place limit e n
    by None is alive h can = absurd (let q : true ≡ false = h in cc)
    by (Some b) is alive h can = seated (seat_of n.roster e) refl can
      where
        seated : (q : Option ℕ) → seat_of n.roster e ≡ q → can_run_by p limit (seated_in b.objects q) ≡ true → RunsOne p script place limit e n
        seated None seat can = absurd (let q : false ≡ true = can in cc)
        seated (Some i) seat can = object (slice_get b.objects i) refl can
          where
            object : (q : Option Progress) → slice_get b.objects i ≡ q → can_run_by p limit q ≡ true → RunsOne p script place limit e n
            object None there can = absurd (let q : false ≡ true = can in cc)
            object (Some o) there can = of_object b is h i seat o there (can_go law tells free p lines limit o (got_at (Follows p lines) b.objects i o alive.objects there) can)
