-- What a turn of an object pays, and what it keeps of what it got.
use Rattle.std.proofs.Common.{◌≡◌, ℕ, ◌<◌, inl, inr, Bool, true, false, cond, List, refl, subst, Some, None}
use Rattle.std.specs.Prelude.{◌⊎◌, ◌&&◌, is_none, nat_lt}
use Rattle.std.proofs.lemmas.Bool.{ltb-true}
use Rattle.chare_base.specs.declared.message.Port.{Port}
use Rattle.chare_base.specs.declared.plan.Plan.{Plan}
use Rattle.chare_base.specs.declared.plan.Spot.{Spot}
use Rattle.chare_base.specs.Entries.{id_of}
use Rattle.chare_base.specs.Flip.{Flip}
use Rattle.object_steps.specs.declared.ready.Ready.{Ready}
use Rattle.object_steps.specs.declared.ready.Ready.TheVariants as ready_as
use Rattle.object_steps.specs.Laws.{Follows, ObjectsFollow, struck_by}
use Rattle.object_steps.specs.Objects.{Progress, advanced, begun, ran, ready}
use Rattle.object_steps.specs.Turns.{Goes, ReadyTells}
use Rattle.object_steps.proofs.Kept.{part_few}
use Rattle.node_core.specs.Mail.{Contributes, Got, Past, Sends}
use Rattle.node_core.specs.Turns.{Turned, goes_at, stays, turned}
use Rattle.node_core.specs.Turns as turns
use Rattle.node_core.proofs.Parts.{SentParcel, SentShare, ran_contributes, ran_sends}
use Rattle.node_core.proofs.Pasts.{Newly, There, begun_past, got_advanced, got_begun, past_newly}
use Rattle.node_core.proofs.Turning.{none_is, second}

-- what holds of a part and passes through a beginning holds of each turn
module _ (law : ObjectsFollow) (tells : ReadyTells) (p : Plan) (lines : List Flip) (limit : ℕ) (Q : Progress → Turned → Type 0) where
  pub turn_by : ((o : Progress) → Follows p lines o → Q o (stays o)) →
      ((o : Progress) (spot : Spot) → Follows p lines o → Goes p o spot → Q o (record { object = advanced p o spot; spot = Some spot; sent = (ran p o spot).sent })) →
      ((o : Progress) (t : Turned) → Follows p lines o → o.step ≡ None → Q (begun (struck_by lines o)) t → Q o t) →
      (o : Progress) → Follows p lines o → Q o (turned p lines limit o)
  turn_by rest step begin o follows = by_top (is_none o.step) refl
    where
      go : (o : Progress) → Follows p lines o → Q o (turns.goes p o)
      go o f = by (ready p o) refl
        where
          by : (r : Ready) → ready p o ≡ r → Q o (goes_at p o r)
          by (ready_as.Await port) is = rest o f
          by ready_as.AtTop is = rest o f
          by (ready_as.Step spot) is = step o spot f (tells.step p o spot f.fits is)

      begins : (b : Bool) → (nat_lt o.done limit && nat_lt o.done p.iterations) ≡ b → o.step ≡ None → Q o (cond b (turns.goes p (begun (struck_by lines o))) (stays o))
      begins false h top = rest o follows
      begins true h top =
          let more : o.done < p.iterations = ltb-true o.done p.iterations (second (nat_lt o.done limit) (nat_lt o.done p.iterations) h) in
          begin o (turns.goes p (begun (struck_by lines o))) follows top (go (begun (struck_by lines o)) ((law.on p lines o follows).begins top more))

      by_top : (b : Bool) → is_none o.step ≡ b → Q o (cond b (cond (nat_lt o.done limit && nat_lt o.done p.iterations) (turns.goes p (begun (struck_by lines o))) (stays o)) (turns.goes p o))
      by_top true h = begins (nat_lt o.done limit && nat_lt o.done p.iterations) refl (none_is o.step h)
      by_top false h = go o follows

-- what a part of an iteration sends was sent in a turn
pub record SentNow (p : Plan) (o : Progress) (t : Turned) (k s q : ℕ) : Type 0 where
  pub now : k ≡ o.done
  pub parcels : (x e : ℕ) → Sends p x o.element.0 s q e → SentParcel x (id_of e) t.sent
  pub shares : (r : ℕ) → Contributes p r o.element.0 s q → SentShare r t.sent

-- what an object is past after a turn it was past before, or the turn sent what the part sends
abbrev pub Pays : Plan → Progress → Turned → Type 0
Pays p o t = (k s q : ℕ) → There p o.element.0 s q → Past k s q t.object → Past k s q o ⊎ SentNow p o t k s q

pub turn_pays : ObjectsFollow → ReadyTells → (p : Plan) (lines : List Flip) (limit : ℕ) (o : Progress) → Follows p lines o → Pays p o (turned p lines limit o)
turn_pays law tells p lines limit =
    turn_by law tells p lines limit (Pays p)
    (λ o f k s q there past. inl past)
    part
    (λ o t f top pays k s q there past. by o t f top k s q (pays k s q there past))
  where
    part : (o : Progress) (spot : Spot) → Follows p lines o → Goes p o spot → Pays p o (record { object = advanced p o spot; spot = Some spot; sent = (ran p o spot).sent })
    part o spot f g k s q there past = which (past_newly p o spot g f.fits.parts (part_few p o spot g) k s q there past)
      where
        which : Newly k s q o spot → Past k s q o ⊎ SentNow p o (record { object = advanced p o spot; spot = Some spot; sent = (ran p o spot).sent }) k s q
        which (inl h) = inl h
        which (inr h) = inr (record {
          now = h.0;
          parcels = λ x e sends. ran_sends p o spot x e (subst (λ n. Sends p x o.element.0 spot.step n e) h.1.1 (subst (λ n. Sends p x o.element.0 n q e) h.1.0 sends));
          shares = λ r gives. ran_contributes p o spot r (subst (λ n. Contributes p r o.element.0 spot.step n) h.1.1 (subst (λ n. Contributes p r o.element.0 n q) h.1.0 gives));
        })

    by : (o : Progress) (t : Turned) → Follows p lines o → o.step ≡ None → (k s q : ℕ) → Past k s q (begun (struck_by lines o)) ⊎ SentNow p (begun (struck_by lines o)) t k s q → Past k s q o ⊎ SentNow p o t k s q
    by o t f top k s q (inl h) = inl (begun_past lines o k s q (f.fits.between top) h)
    by o t f top k s q (inr h) = inr (record { now = h.now; parcels = h.parcels; shares = h.shares })

pub got_turned : ObjectsFollow → ReadyTells → (p : Plan) (lines : List Flip) (limit k : ℕ) (port : Port) (o : Progress) → Follows p lines o → Got p k port o → Got p k port (turned p lines limit o).object
got_turned law tells p lines limit k port =
    turn_by law tells p lines limit (λ o t. Got p k port o → Got p k port t.object)
    (λ o f got. got)
    (λ o spot f g got. got_advanced p o spot g f.fits.parts (part_few p o spot g) k port got)
    (λ o t f top rest got. rest (got_begun p lines o k port top got))
