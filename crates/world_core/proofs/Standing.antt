-- The least element that waits: where none of a replica's elements can run below a limit, all have completed as many iterations.
use Rattle.std.proofs.Common.{◌≡◌, ℕ, zero, suc, ◌<◌, ◌≤◌, inl, inr, Bool, true, false, cond, List, [], ◌∷◌, Option, Some, None, refl, ap, sym, ◌∙◌, arith, subst}
use Rattle.std.specs.Prelude.{◌⊎◌, ◌==◌, ◌&&◌, is_none, is_some, nat_lt, slice_get}
use Rattle.std.specs.Option.{option_map_or}
use Rattle.std.proofs.lemmas.Bool.{eq-eqb, eqb-true, ltb-true}
use Rattle.std.proofs.lemmas.Bool.Decides.{nat_tests}
use Rattle.std.proofs.lemmas.Option.{same_Some}
use Rattle.chare_base.specs.declared.message.EntryId.{EntryId}
use Rattle.chare_base.specs.declared.message.Need.{Need}
use Rattle.chare_base.specs.declared.message.Need.TheVariants as needs
use Rattle.chare_base.specs.declared.message.Payload.{Payload}
use Rattle.chare_base.specs.declared.message.Port.{Port}
use Rattle.chare_base.specs.declared.message.Port.TheVariants as ports
use Rattle.chare_base.specs.declared.message.ReductionId.{ReductionId}
use Rattle.chare_base.specs.declared.message.Source.{Source}
use Rattle.chare_base.specs.declared.message.Source.TheVariants as sources
use Rattle.chare_base.specs.declared.plan.ElementId.{ElementId}
use Rattle.chare_base.specs.declared.plan.Part.{Part}
use Rattle.chare_base.specs.declared.plan.Plan.{Plan}
use Rattle.chare_base.specs.declared.plan.Reduction.{Reduction}
use Rattle.chare_base.specs.Elements.{elements, need_at, parts_at, place_of, steps_of}
use Rattle.chare_base.specs.Entries.{id_of, reduction_of, source_of}
use Rattle.chare_base.specs.Laws as laws
use Rattle.chare_base.specs.Ports.{block_sends, parts_send, parts_take, same_port, takes, taking_step}
use Rattle.chare_eval.specs.Inside.{is_done}
use Rattle.chare_eval.specs.Stage.{found}
use Rattle.ref_messages.specs.Queue.{message}
use Rattle.object_steps.specs.declared.ready.Ready.{Ready}
use Rattle.object_steps.specs.declared.ready.Ready.TheVariants as ready_as
use Rattle.object_steps.specs.Objects.{Fits, Progress, key_of, ready}
use Rattle.object_steps.specs.Turns.{ReadyTells, Waits}
use Rattle.node_core.specs.Mail.{Contributes, Got, HasContributed, Past, PastIn, Sends, Took}
use Rattle.node_core.specs.Turns.{can_run, is_step}

-- ---- ports

port_self : (port : Port) → same_port port port ≡ true
port_self (ports.Entry x) = eq-eqb x.0 x.0 refl
port_self (ports.Total r) = eq-eqb r.0 r.0 refl

takes_own : (port : Port) (need : Need) → need ≡ needs.Port port → takes port need ≡ 1
takes_own port need is = ap (takes port) is ∙ ap (λ b. cond b 1 0) (port_self port)

-- of two parts that take from a port each counts
take_one : (port : Port) (parts : List Part) (i : ℕ) (a : Part) → slice_get parts i ≡ Some a → takes port a.need ≡ 1 → 1 ≤ parts_take port parts
take_one port [] i a h one = absurd (let q : None ≡ Some a = h in cc)
take_one port (x ∷ more) zero a h one = let same : takes port x.need ≡ takes port a.need = ap (λ (y : Part). takes port y.need) (same_Some x a h) in omega (arith, same, one)
take_one port (x ∷ more) (suc i) a h one = omega (arith, take_one port more i a h one)

take_two : (port : Port) (parts : List Part) (i j : ℕ) (a b : Part) → slice_get parts i ≡ Some a → slice_get parts j ≡ Some b → takes port a.need ≡ 1 → takes port b.need ≡ 1 → (i ≡ j → ⊥) → 2 ≤ parts_take port parts
take_two port [] i j a b ha hb one two other = absurd (let q : None ≡ Some a = ha in cc)
take_two port (x ∷ more) zero zero a b ha hb one two other = absurd (other refl)
take_two port (x ∷ more) zero (suc j) a b ha hb one two other =
    let same : takes port x.need ≡ takes port a.need = ap (λ (y : Part). takes port y.need) (same_Some x a ha) in omega (arith, same, one, take_one port more j b hb two)
take_two port (x ∷ more) (suc i) zero a b ha hb one two other =
    let same : takes port x.need ≡ takes port b.need = ap (λ (y : Part). takes port y.need) (same_Some x b hb) in omega (arith, same, two, take_one port more i a ha one)
take_two port (x ∷ more) (suc i) (suc j) a b ha hb one two other = omega (arith, take_two port more i j a b ha hb one two (λ e. other (ap suc e)))

-- a part that needs a port is there
part_of : (parts : List Part) (q : ℕ) (port : Port) → option_map_or (λ (x : Part). x.need) (slice_get parts q) needs.Nothing ≡ needs.Port port → (part : Part) × (slice_get parts q ≡ Some part) × (part.need ≡ needs.Port port)
part_of parts q port h = by (slice_get parts q) refl h
  where
    by : (o : Option Part) → slice_get parts q ≡ o → option_map_or (λ (x : Part). x.need) o needs.Nothing ≡ needs.Port port → (part : Part) × (slice_get parts q ≡ Some part) × (part.need ≡ needs.Port port)
    by None is g = absurd (let z : needs.Nothing ≡ needs.Port port = g in cc)
    by (Some part) is g = (part, is, g)

-- among parts that send to a port is one that does
sends_some : (port : Port) (parts : List Part) → 0 < parts_send port parts → (q : ℕ) × (0 < block_sends port (option_map_or (λ (x : Part). x.block) (slice_get parts q) []))
sends_some port [] h = absurd (omega (arith, h))
sends_some port (x ∷ more) h = by (block_sends port x.block) refl (sends_some port more)
  where
    by : (n : ℕ) → block_sends port x.block ≡ n → (0 < parts_send port more → (q : ℕ) × (0 < block_sends port (option_map_or (λ (y : Part). y.block) (slice_get more q) []))) →
        (q : ℕ) × (0 < block_sends port (option_map_or (λ (y : Part). y.block) (slice_get (x ∷ more) q) []))
    by zero is rest = let r = rest (omega (arith, h, is)) in (suc r.0, r.1)
    by (suc n) is rest = (0, omega (arith, is))

not_found : (source : Source) (m : Option Payload) → found source m ≡ None → (f : ElementId) × (source ≡ sources.Element f) × (m ≡ None)
not_found (sources.Element f) m h = (f, refl, h)
not_found (sources.Edge payload) m h = absurd (let q : Some payload ≡ None = h in cc)

-- an object that waits at a port in a step holds no message of it, and took none
module _ (p : Plan) (o : Progress) (port : Port) (w : Waits p o port) (unheld : message o.mail (key_of o.done port) ≡ None) (takes_in : (s q : ℕ) → need_at p o.element.0 s q ≡ needs.Port port → (taking_step port (steps_of p o.element.0) ≡ Some s) × (parts_take port (parts_at p o.element.0 s) ≡ 1)) where
  own_need : need_at p o.element.0 w.at w.first ≡ needs.Port port
  own_need = ap (λ x. option_map_or (λ (q : Part). q.need) x needs.Nothing) w.there ∙ w.need

  took_none : Took p o.done port o → ⊥
  took_none h = by h.past
    where
      step_same : h.step ≡ w.at
      step_same = same_Some h.step w.at (sym (takes_in h.step h.part h.need).0 ∙ (takes_in w.at w.first own_need).0)

      in_step : (h.step < w.at) ⊎ ((h.step ≡ w.at) × (is_done o.parts h.part ≡ true)) → ⊥
      in_step (inl less) = omega (arith, less, step_same)
      in_step (inr done) =
          let one = part_of (parts_at p o.element.0 h.step) h.part port h.need in
          let here : slice_get (parts_at p o.element.0 w.at) h.part ≡ Some one.0 = ap (λ s. slice_get (parts_at p o.element.0 s) h.part) (sym step_same) ∙ one.1 in
          let two = take_two port (parts_at p o.element.0 w.at) h.part w.first one.0 w.part here w.there (takes_own port one.0.need one.2) (takes_own port w.part.need w.need)
          (λ same. let q : true ≡ false = sym done.1 ∙ ap (is_done o.parts) same ∙ w.fresh in cc) in
          omega (arith, two, (takes_in w.at w.first own_need).1)

      by : Past o.done h.step h.part o → ⊥
      by (inl less) = omega (arith, less)
      by (inr q) = in_step (subst (λ t. PastIn h.step h.part t o.parts) w.step q.1)

  pub got_none : Got p o.done port o → ⊥
  got_none (inl some) = let q : false ≡ true = ap (λ m. is_some m) (sym unheld) ∙ some in cc
  got_none (inr (inl less)) = omega (arith, less)
  got_none (inr (inr took)) = took_none took

-- All objects of one replica, each known by `There e o`: what an element's object is. None can run below a limit, none
-- is inside an iteration of the limit or more, each message that was sent is held or was taken, and so is each total
-- to which all contributed.
module _ (law : laws.Waits) (tells : ReadyTells) (p : Plan) (limit : ℕ) (within : limit ≤ p.iterations) (There : ℕ → Progress → Type 0)
    (each : (e : ℕ) → e < elements p → (o : Progress) × There e o)
    (is_its : (e : ℕ) (o : Progress) → There e o → o.element.0 ≡ e)
    (fit : (e : ℕ) (o : Progress) → There e o → Fits p o)
    (underway : (e : ℕ) (o : Progress) (t : ℕ) → There e o → o.step ≡ Some t → o.done < limit)
    (rests : (e : ℕ) (o : Progress) → There e o → can_run p limit o ≡ false)
    (got_parcel : (x : EntryId) (f s q e k : ℕ) (sender o : Progress) → Sends p x.0 f s q e → There f sender → There e o → Past k s q sender → Got p k (ports.Entry x) o)
    (got_total : (Q : Type 0) (r : ReductionId) (x : Reduction) (k e : ℕ) (o : Progress) → reduction_of p r.0 ≡ Some x → There e o → (place_of p e).array ≡ x.owner →
    ((f : ℕ) (other : Progress) → There f other → (place_of p f).array ≡ x.owner → HasContributed p r.0 k other ⊎ Q) → Got p k (ports.Total r) o ⊎ Q) where
  -- one that is farther back
  record Behind (o : Progress) (t : ℕ) : Type 0 where
    e : ℕ
    other : Progress
    there : There e other
    step : ℕ
    is : other.step ≡ Some step
    back : (other.done < o.done) ⊎ ((other.done ≡ o.done) × (step < t))

  at_top : (e : ℕ) (o : Progress) → There e o → o.step ≡ None → limit ≤ o.done
  at_top e o there top = by (nat_lt o.done limit) (nat_lt o.done p.iterations) refl refl
    where
      no : (nat_lt o.done limit && nat_lt o.done p.iterations) ≡ false
      no = ap (λ s. cond (is_none s) (nat_lt o.done limit && nat_lt o.done p.iterations) (is_step (ready p o))) (sym top) ∙ rests e o there

      by : (a b : Bool) → nat_lt o.done limit ≡ a → nat_lt o.done p.iterations ≡ b → limit ≤ o.done
      by true true ha hb = absurd (let q : (true && true) ≡ false = ap (λ b. b && true) (sym ha) ∙ ap (λ b. nat_lt o.done limit && b) (sym hb) ∙ no in let r : true ≡ false = q in cc)
      by true false ha hb = let w : limit ≤ p.iterations = within in grind (arith, nat_tests, hb, w)
      by false b ha hb = grind (arith, nat_tests, ha)

  -- another is past a part of an earlier step of the same iteration, or farther back
  past_or_behind : (e : ℕ) (o : Progress) (t : ℕ) → There e o → o.step ≡ Some t → (s q : ℕ) → s < t → (f : ℕ) (other : Progress) → There f other → Past o.done s q other ⊎ Behind o t
  past_or_behind e o t there is s q earlier f other at = by (nat_lt o.done other.done) (nat_lt other.done o.done) refl refl other.step refl
    where
      by : (a b : Bool) → nat_lt o.done other.done ≡ a → nat_lt other.done o.done ≡ b → (step : Option ℕ) → other.step ≡ step → Past o.done s q other ⊎ Behind o t
      by true b ha hb step st = inl (inl (ltb-true o.done other.done ha))
      by false true ha hb None st = absurd (let top : limit ≤ other.done = at_top f other at st in omega (arith, top, ltb-true other.done o.done hb, underway e o t there is))
      by false true ha hb (Some n) st = inr (record { e = f; other = other; there = at; step = n; is = st; back = inl (ltb-true other.done o.done hb) })
      by false false ha hb None st =
          let same : o.done ≡ other.done = grind (arith, nat_tests, ha, hb) in
          absurd (let top : limit ≤ other.done = at_top f other at st in omega (arith, top, same, underway e o t there is))
      by false false ha hb (Some n) st = less (nat_lt s n) refl
        where
          same : o.done ≡ other.done
          same = grind (arith, nat_tests, ha, hb)

          less : (c : Bool) → nat_lt s n ≡ c → Past o.done s q other ⊎ Behind o t
          less true h = inl (inr (same, subst (λ w. PastIn s q w other.parts) (sym st) (inl (ltb-true s n h))))
          less false h = let le : n ≤ s = grind (arith, nat_tests, h) in inr (record { e = f; other = other; there = at; step = n; is = st; back = inr (sym same, omega (arith, le, earlier)) })

  module _ (e : ℕ) (o : Progress) (t : ℕ) (there : There e o) (is : o.step ≡ Some t) where
    same_element : o.element.0 ≡ e
    same_element = is_its e o there

    o_there : o.element.0 < elements p
    o_there = (fit e o there).there

    -- it waits for the message of another element
    for_message : (x : EntryId) → Waits p o (ports.Entry x) → Behind o t
    for_message x w = by (past_or_behind e o t there is m.step part.0 (omega (arith, m.earlier, at_same)) m_sender.0 s.0 s.1)
      where
        n : (f : ElementId) × (source_of p x.0 o.element.0 ≡ sources.Element f) × (message o.mail (key_of o.done (ports.Entry x)) ≡ None)
        n = not_found (source_of p x.0 o.element.0) (message o.mail (key_of o.done (ports.Entry x))) w.missing

        m_sender : ElementId
        m_sender = n.0

        need : need_at p o.element.0 w.at w.first ≡ needs.Port (ports.Entry x)
        need = own_need p o (ports.Entry x) w n.2 takes_in
          where
            takes_in : (s q : ℕ) → need_at p o.element.0 s q ≡ needs.Port (ports.Entry x) → (taking_step (ports.Entry x) (steps_of p o.element.0) ≡ Some s) × (parts_take (ports.Entry x) (parts_at p o.element.0 s) ≡ 1)
            takes_in s q h = let r = law.message p o.element.0 s q x n.0 o_there h n.1 in (r.takes, r.taken)

        m : laws.NeedsMessage p x o.element.0 w.at n.0
        m = law.message p o.element.0 w.at w.first x n.0 o_there need n.1

        at_same : w.at ≡ t
        at_same = same_Some w.at t (sym w.step ∙ is)

        s : (sender : Progress) × There n.0.0 sender
        s = each n.0.0 m.element

        part : (q : ℕ) × (0 < block_sends (ports.Entry x) (option_map_or (λ (y : Part). y.block) (slice_get (parts_at p n.0.0 m.step) q) []))
        part = sends_some (ports.Entry x) (parts_at p n.0.0 m.step) (let one = m.once in omega (arith, one))

        by : Past o.done m.step part.0 s.0 ⊎ Behind o t → Behind o t
        by (inr b) = b
        by (inl past) =
            let sends : Sends p x.0 n.0.0 m.step part.0 e = record { some = part.1; target = m.target ∙ ap (λ k. Some (id_of k)) same_element } in
            absurd
            (got_none p o (ports.Entry x) w n.2 (λ s q h. let r = law.message p o.element.0 s q x n.0 o_there h n.1 in (r.takes, r.taken))
            (got_parcel x n.0.0 m.step part.0 e o.done s.0 o sends s.1 there past))

    -- it waits for the total of its array's elements
    for_total : (r : ReductionId) → Waits p o (ports.Total r) → Behind o t
    for_total r w = by (got_total (Behind o t) r m.reduction o.done e o m.is there (ap (λ k. (place_of p k).array) (sym same_element) ∙ m.owner) given)
      where
        need : need_at p o.element.0 w.at w.first ≡ needs.Port (ports.Total r)
        need = ap (λ x. option_map_or (λ (q : Part). q.need) x needs.Nothing) w.there ∙ w.need

        m : laws.NeedsTotal p r o.element.0 w.at
        m = law.total p o.element.0 w.at w.first r need

        at_same : w.at ≡ t
        at_same = same_Some w.at t (sym w.step ∙ is)

        given : (f : ℕ) (other : Progress) → There f other → (place_of p f).array ≡ m.reduction.owner → HasContributed p r.0 o.done other ⊎ Behind o t
        given f other at own = which (past_or_behind e o t there is m.step part.0 (let less = m.earlier in omega (arith, less, at_same)) f other at)
          where
            gives : laws.Contributes p r m.step f
            gives = m.each f own

            part : (q : ℕ) × (0 < block_sends (ports.Total r) (option_map_or (λ (y : Part). y.block) (slice_get (parts_at p f m.step) q) []))
            part = sends_some (ports.Total r) (parts_at p f m.step) (let one = gives.once in omega (arith, one))

            which : Past o.done m.step part.0 other ⊎ Behind o t → HasContributed p r.0 o.done other ⊎ Behind o t
            which (inr b) = inr b
            which (inl past) = inl (record { step = m.step; part = part.0; gives = subst (λ k. Contributes p r.0 k m.step part.0) (sym (is_its f other at)) (record { some = part.1 }); past = past })

        by : Got p o.done (ports.Total r) o ⊎ Behind o t → Behind o t
        by (inr b) = b
        by (inl got) = absurd (got_none p o (ports.Total r) w w.missing (λ s q h. let n = law.total p o.element.0 s q r h in (n.takes, n.taken)) got)

    behind : Behind o t
    behind = by (ready p o) refl
      where
        no : is_step (ready p o) ≡ false
        no = ap (λ s. cond (is_none s) (nat_lt o.done limit && nat_lt o.done p.iterations) (is_step (ready p o))) (sym is) ∙ rests e o there

        by : (r : Ready) → ready p o ≡ r → Behind o t
        by (ready_as.Step spot) h = absurd (let q : true ≡ false = ap is_step (sym h) ∙ no in cc)
        by ready_as.AtTop h = absurd (let q : Some t ≡ None = sym is ∙ tells.top p o (fit e o there) h in cc)
        by (ready_as.Await (ports.Entry x)) h = for_message x (tells.await p o (ports.Entry x) (fit e o there) h)
        by (ready_as.Await (ports.Total r)) h = for_total r (tells.await p o (ports.Total r) (fit e o there) h)

  -- so none is inside an iteration
  inner : (d : ℕ) → ((e : ℕ) (o : Progress) (t : ℕ) → There e o → o.step ≡ Some t → o.done < d → ⊥) → (m e : ℕ) (o : Progress) (t : ℕ) → There e o → o.step ≡ Some t → o.done ≡ d → t < m → ⊥
  inner d lower zero e o t there is at below = omega (arith, below)
  inner d lower (suc m) e o t there is at below =
      let b : Behind o t = behind e o t there is in
      by b b.back (λ same less. inner d lower m b.e b.other b.step b.there b.is (same ∙ at) (omega (arith, less, below)))
    where
      by : (b : Behind o t) → (b.other.done < o.done) ⊎ ((b.other.done ≡ o.done) × (b.step < t)) → (b.other.done ≡ o.done → b.step < t → ⊥) → ⊥
      by b (inl h) rest = lower b.e b.other b.step b.there b.is (omega (arith, h, at))
      by b (inr h) rest = rest h.0 h.1

  outer : (d e : ℕ) (o : Progress) (t : ℕ) → There e o → o.step ≡ Some t → o.done < d → ⊥
  outer zero e o t there is below = omega (arith, below)
  outer (suc d) e o t there is below = by (o.done == d) refl (outer d) (λ low. outer d e o t there is low)
    where
      by : (b : Bool) → (o.done == d) ≡ b → ((e : ℕ) (o : Progress) (t : ℕ) → There e o → o.step ≡ Some t → o.done < d → ⊥) → (o.done < d → ⊥) → ⊥
      by true h all rest = inner d all (suc t) e o t there is (eqb-true o.done d h) (omega arith)
      by false h all rest = rest (grind (arith, nat_tests, h, below))

  pub all_done : (e : ℕ) (o : Progress) → There e o → (o.step ≡ None) × (limit ≤ o.done)
  all_done e o there = by o.step refl
    where
      by : (s : Option ℕ) → o.step ≡ s → (o.step ≡ None) × (limit ≤ o.done)
      by None h = (h, at_top e o there h)
      by (Some t) h = absurd (outer (suc o.done) e o t there h (omega arith))
