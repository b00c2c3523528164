-- What a turn of an object keeps.
use Rattle.std.proofs.Common.{◌≡◌, ℕ, ◌<◌, ◌≤◌, Bool, true, false, cond, List, refl, arith, Option, Some, None}
use Rattle.std.specs.Prelude.{◌&&◌, ◌==◌, nat_lt, nat_le, is_none}
use Rattle.std.specs.List.{AllByRecursion}
use Rattle.std.proofs.lemmas.Bool.{ltb-true, leb-true, eqb-true}
use Rattle.chare_base.specs.declared.message.Payload.{Payload}
use Rattle.chare_base.specs.declared.plan.Plan.{Plan}
use Rattle.chare_base.specs.Flip.{Flip}
use Rattle.chare_eval.specs.Laws.{Reaches}
use Rattle.ref_messages.specs.declared.key.RefKey.{RefKey}
use Rattle.ref_messages.specs.Queue.{message}
use Rattle.object_steps.specs.declared.ready.Ready.{Ready}
use Rattle.object_steps.specs.declared.ready.Ready.TheVariants as ready_as
use Rattle.object_steps.specs.Laws.{Follows, IsMessage, ObjectsFollow, struck_by}
use Rattle.object_steps.specs.Objects.{Progress, begun, mailed, ready}
use Rattle.object_steps.specs.Turns.{ElementStays}
use Rattle.node_core.specs.Turns.{Turned, goes_at, stays, takes, turned}
use Rattle.node_core.specs.Turns as turns

pub none_is : {A : Type 0} (o : Option A) → is_none o ≡ true → o ≡ None
none_is None h = refl
none_is (Some s) h = absurd (let e : false ≡ true = h in cc)

pub first : (a b : Bool) → (a && b) ≡ true → a ≡ true
first true b h = refl
first false b h = absurd (let e : false ≡ true = h in cc)

pub second : (a b : Bool) → (a && b) ≡ true → b ≡ true
second true b h = h
second false b h = absurd (let e : false ≡ true = h in cc)

-- a turn keeps the object's element, and what it sends is true in the object's iteration
pub record TurnKeeps (p : Plan) (lines : List Flip) (o : Progress) (t : Turned) : Type 0 where
  pub element : t.object.element ≡ o.element
  pub place : t.object.place ≡ o.place
  pub follows : Follows p lines t.object
  pub sent : AllByRecursion (Reaches p lines o.done o.element.0) t.sent

module _ (law : ObjectsFollow) (stay : ElementStays) (p : Plan) (lines : List Flip) where
  stays_keeps : (o : Progress) → Follows p lines o → TurnKeeps p lines o (stays o)
  stays_keeps o follows = record { element = refl; place = refl; follows = follows; sent = tt }

  goes_keeps : (o : Progress) → Follows p lines o → TurnKeeps p lines o (turns.goes p o)
  goes_keeps o follows = by (ready p o) refl
    where
      by : (r : Ready) → ready p o ≡ r → TurnKeeps p lines o (goes_at p o r)
      by (ready_as.Await port) is = stays_keeps o follows
      by ready_as.AtTop is = stays_keeps o follows
      by (ready_as.Step spot) is =
          let moves = (law.on p lines o follows).parts spot is in
          record { element = stay.element p o spot; place = stay.place p o spot; follows = moves.0; sent = moves.1 }

  pub turn_keeps : (limit : ℕ) (o : Progress) → Follows p lines o → TurnKeeps p lines o (turned p lines limit o)
  turn_keeps limit o follows = by_top (is_none o.step) refl
    where
      begins : (b : Bool) → (nat_lt o.done limit && nat_lt o.done p.iterations) ≡ b → o.step ≡ None → TurnKeeps p lines o (cond b (turns.goes p (begun (struck_by lines o))) (stays o))
      begins false h top = stays_keeps o follows
      begins true h top =
          let more : o.done < p.iterations = ltb-true o.done p.iterations (second (nat_lt o.done limit) (nat_lt o.done p.iterations) h) in
          let after = goes_keeps (begun (struck_by lines o)) ((law.on p lines o follows).begins top more) in
          record { element = after.element; place = after.place; follows = after.follows; sent = after.sent }

      by_top : (b : Bool) → is_none o.step ≡ b →
          TurnKeeps p lines o (cond b (cond (nat_lt o.done limit && nat_lt o.done p.iterations) (turns.goes p (begun (struck_by lines o))) (stays o)) (turns.goes p o))
      by_top true h = begins (nat_lt o.done limit && nat_lt o.done p.iterations) refl (none_is o.step h)
      by_top false h = goes_keeps o follows

pub take_keeps : ObjectsFollow → (p : Plan) (lines : List Flip) (o : Progress) (key : RefKey) (payload : Payload) → Follows p lines o → IsMessage p lines o.element.0 key payload → Follows p lines (takes o key payload)
take_keeps law p lines o key payload follows is = by (nat_le o.mail.since key.iteration && is_none (message o.mail key)) refl
  where
    by : (b : Bool) → (nat_le o.mail.since key.iteration && is_none (message o.mail key)) ≡ b → Follows p lines (cond b (mailed o key payload) o)
    by false h = follows
    by true h =
        let late : o.mail.since ≤ key.iteration = leb-true o.mail.since key.iteration (first (nat_le o.mail.since key.iteration) (is_none (message o.mail key)) h) in
        let now : o.done ≤ key.iteration = omega (arith, late, follows.fits.since) in
        (law.on p lines o follows).receives key payload now is

-- a message changes neither where an object stands nor how far it is
pub record TakeStays (o t : Progress) : Type 0 where
  pub element : t.element ≡ o.element
  pub place : t.place ≡ o.place
  pub done : t.done ≡ o.done
  pub step : t.step ≡ o.step
  pub parts : t.parts ≡ o.parts

pub take_stays : (o : Progress) (key : RefKey) (payload : Payload) → TakeStays o (takes o key payload)
take_stays o key payload = by (nat_le o.mail.since key.iteration && is_none (message o.mail key))
  where
    by : (b : Bool) → TakeStays o (cond b (mailed o key payload) o)
    by false = record { element = refl; place = refl; done = refl; step = refl; parts = refl }
    by true = record { element = refl; place = refl; done = refl; step = refl; parts = refl }

-- an object that is not below the limit stays, where it is between two iterations
pub turn_capped : (p : Plan) (lines : List Flip) (limit k : ℕ) (o : Progress) → turns.is_at k o ≡ true → limit ≤ k → turned p lines limit o ≡ stays o
turn_capped p lines limit k o at cap = by_top (is_none o.step) (first (is_none o.step) (o.done == k) at)
  where
    capped : (b : Bool) → nat_lt o.done limit ≡ b → cond {A = Turned} (b && nat_lt o.done p.iterations) (turns.goes p (begun (struck_by lines o))) (stays o) ≡ stays o
    capped false h = refl
    capped true h = absurd (let below : o.done < limit = ltb-true o.done limit h in let same : o.done ≡ k = eqb-true o.done k (second (is_none o.step) (o.done == k) at) in omega (arith, below, same, cap))

    by_top : (b : Bool) → b ≡ true → cond {A = Turned} b (cond (nat_lt o.done limit && nat_lt o.done p.iterations) (turns.goes p (begun (struck_by lines o))) (stays o)) (turns.goes p o) ≡ stays o
    by_top true h = capped (nat_lt o.done limit) refl
    by_top false h = absurd (let e : false ≡ true = h in cc)
