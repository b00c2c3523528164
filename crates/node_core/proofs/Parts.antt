-- What a part sends.
use Rattle.std.proofs.Common.{◌≡◌, ℕ, zero, suc, ◌<◌, inl, ℤ, Bool, true, false, cond, List, [], ◌∷◌, ◌++◌, refl, ap, sym, ◌∙◌, arith, subst, Some}
use Rattle.std.specs.Prelude.{◌==◌}
use Rattle.std.proofs.lemmas.Bool.{eqb-true}
use Rattle.chare_base.specs.declared.message.EntryId.{EntryId}
use Rattle.chare_base.specs.declared.message.Payload.{Payload}
use Rattle.chare_base.specs.declared.message.ReductionId.{ReductionId}
use Rattle.chare_base.specs.declared.plan.ElementId.{ElementId}
use Rattle.chare_base.specs.declared.plan.Plan.{Plan}
use Rattle.chare_base.specs.declared.plan.Spot.{Spot}
use Rattle.chare_base.specs.declared.plan.Stmt.{Stmt, out-Stmt}
use Rattle.chare_base.specs.declared.plan.Stmt.TheOpen.{Stmt-F}
use Rattle.chare_base.specs.Elements.{block_at}
use Rattle.chare_base.specs.Entries.{id_of, target_of}
use Rattle.chare_base.specs.Ports.{block_sends, counted, entry_port, fed_by, stmt_sends, total_port}
use Rattle.chare_eval.specs.declared.effects.Outgoing.{Outgoing}
use Rattle.chare_eval.specs.declared.effects.Outgoing.TheVariants as outgoing
use Rattle.chare_eval.specs.Block.{Top, parcels, top_acts, top_step}
use Rattle.object_steps.specs.Objects.{Progress, ran}
use Rattle.node_core.specs.Mail.{Contributes, In, Sends}
use Rattle.node_core.proofs.Within.{in_left, in_right}

-- a message to an element, and a contribution, among what was sent
pub record SentParcel (x : ℕ) (to : ElementId) (sent : List Outgoing) : Type 0 where
  pub payload : Payload
  pub there : In (outgoing.Parcel (record { 0 = x }) to payload) sent

pub record SentShare (r : ℕ) (sent : List Outgoing) : Type 0 where
  pub value : ℤ
  pub there : In (outgoing.Contribution (record { 0 = r }) value) sent

parcel_left : (x : ℕ) (to : ElementId) (xs ys : List Outgoing) → SentParcel x to xs → SentParcel x to (xs ++ ys)
parcel_left x to xs ys h = record { payload = h.payload; there = in_left (outgoing.Parcel (record { 0 = x }) to h.payload) xs ys h.there }

share_left : (r : ℕ) (xs ys : List Outgoing) → SentShare r xs → SentShare r (xs ++ ys)
share_left r xs ys h = record { value = h.value; there = in_left (outgoing.Contribution (record { 0 = r }) h.value) xs ys h.there }

module _ (p : Plan) (e : ℕ) where
  -- ---- a message

  parcel_stays : (x : ℕ) (to : ElementId) (s : Stmt) (layer : Stmt-F Stmt) (t : Top) → SentParcel x to t.sent → SentParcel x to (top_step p e s layer t).sent
  parcel_stays x to s (Stmt-F.Set at value) t h = h
  parcel_stays x to s (Stmt-F.SetAt at count place value) t h = h
  parcel_stays x to s (Stmt-F.If test a b) t h = h
  parcel_stays x to s (Stmt-F.For slot low high block) t h = h
  parcel_stays x to s (Stmt-F.Send entry values) t h = parcel_left x to t.sent _ h
  parcel_stays x to s (Stmt-F.Contribute reduction value) t h = parcel_left x to t.sent _ h

  parcel_kept : (x : ℕ) (to : ElementId) (stmts : List Stmt) (t : Top) → SentParcel x to t.sent → SentParcel x to (top_acts p e stmts t).sent
  parcel_kept x to [] t h = h
  parcel_kept x to (s ∷ more) t h = parcel_kept x to more (top_step p e s (out-Stmt s) t) (parcel_stays x to s (out-Stmt s) t h)

  one_if : (b : Bool) → 0 < cond b 1 0 → b ≡ true
  one_if true h = refl
  one_if false h = absurd (omega (arith, h))

  parcel_sent : (x : ℕ) (to : ElementId) (s : Stmt) (layer : Stmt-F Stmt) (t : Top) → 0 < counted (entry_port x) (fed_by layer) → target_of p x e ≡ Some to → SentParcel x to (top_step p e s layer t).sent
  parcel_sent x to s (Stmt-F.Set at value) t some is = absurd (omega (arith, some))
  parcel_sent x to s (Stmt-F.SetAt at count place value) t some is = absurd (omega (arith, some))
  parcel_sent x to s (Stmt-F.If test a b) t some is = absurd (omega (arith, some))
  parcel_sent x to s (Stmt-F.For slot low high block) t some is = absurd (omega (arith, some))
  parcel_sent x to s (Stmt-F.Contribute reduction value) t some is = absurd (omega (arith, some))
  parcel_sent x to s (Stmt-F.Send entry values) t some is = by entry (eqb-true entry.0 x (one_if (entry.0 == x) some)) _
    where
      by : (en : EntryId) → en.0 ≡ x → (payload : Payload) → SentParcel x to (t.sent ++ parcels en (target_of p en.0 e) payload)
      by en same payload =
          let target : target_of p en.0 e ≡ Some to = ap (λ n. target_of p n e) same ∙ is in
          let list : parcels en (target_of p en.0 e) payload ≡ outgoing.Parcel (record { 0 = x }) to payload ∷ [] =
          ap (λ o. parcels en o payload) target ∙ ap (λ n. outgoing.Parcel (record { 0 = n }) to payload ∷ []) same in
          record {
            payload = payload;
            there = subst (λ l. In (outgoing.Parcel (record { 0 = x }) to payload) (t.sent ++ l)) (sym list) (in_right (outgoing.Parcel (record { 0 = x }) to payload) t.sent _ (inl refl));
          }

  parcels_sent : (x : ℕ) (to : ElementId) (stmts : List Stmt) (t : Top) → 0 < block_sends (entry_port x) stmts → target_of p x e ≡ Some to → SentParcel x to (top_acts p e stmts t).sent
  parcels_sent x to [] t some is = absurd (omega (arith, some))
  parcels_sent x to (s ∷ more) t some is = by (stmt_sends (entry_port x) s) refl (parcels_sent x to more (top_step p e s (out-Stmt s) t))
    where
      by : (n : ℕ) → stmt_sends (entry_port x) s ≡ n → (0 < block_sends (entry_port x) more → target_of p x e ≡ Some to → SentParcel x to (top_acts p e more (top_step p e s (out-Stmt s) t)).sent) →
          SentParcel x to (top_acts p e more (top_step p e s (out-Stmt s) t)).sent
      by zero q rest = rest (omega (arith, some, q)) is
      by (suc n) q rest = parcel_kept x to more (top_step p e s (out-Stmt s) t) (parcel_sent x to s (out-Stmt s) t (omega (arith, q)) is)

  -- ---- a contribution

  share_stays : (r : ℕ) (s : Stmt) (layer : Stmt-F Stmt) (t : Top) → SentShare r t.sent → SentShare r (top_step p e s layer t).sent
  share_stays r s (Stmt-F.Set at value) t h = h
  share_stays r s (Stmt-F.SetAt at count place value) t h = h
  share_stays r s (Stmt-F.If test a b) t h = h
  share_stays r s (Stmt-F.For slot low high block) t h = h
  share_stays r s (Stmt-F.Send entry values) t h = share_left r t.sent _ h
  share_stays r s (Stmt-F.Contribute reduction value) t h = share_left r t.sent _ h

  share_kept : (r : ℕ) (stmts : List Stmt) (t : Top) → SentShare r t.sent → SentShare r (top_acts p e stmts t).sent
  share_kept r [] t h = h
  share_kept r (s ∷ more) t h = share_kept r more (top_step p e s (out-Stmt s) t) (share_stays r s (out-Stmt s) t h)

  share_sent : (r : ℕ) (s : Stmt) (layer : Stmt-F Stmt) (t : Top) → 0 < counted (total_port r) (fed_by layer) → SentShare r (top_step p e s layer t).sent
  share_sent r s (Stmt-F.Set at value) t some = absurd (omega (arith, some))
  share_sent r s (Stmt-F.SetAt at count place value) t some = absurd (omega (arith, some))
  share_sent r s (Stmt-F.If test a b) t some = absurd (omega (arith, some))
  share_sent r s (Stmt-F.For slot low high block) t some = absurd (omega (arith, some))
  share_sent r s (Stmt-F.Send entry values) t some = absurd (omega (arith, some))
  share_sent r s (Stmt-F.Contribute reduction value) t some = by reduction (eqb-true reduction.0 r (one_if (reduction.0 == r) some)) _
    where
      by : (q : ReductionId) → q.0 ≡ r → (v : ℤ) → SentShare r (t.sent ++ outgoing.Contribution q v ∷ [])
      by q same v = record {
        value = v;
        there = in_right (outgoing.Contribution (record { 0 = r }) v) t.sent (outgoing.Contribution q v ∷ []) (inl (ap (λ n. outgoing.Contribution (record { 0 = n }) v) (sym same)));
      }

  shares_sent : (r : ℕ) (stmts : List Stmt) (t : Top) → 0 < block_sends (total_port r) stmts → SentShare r (top_acts p e stmts t).sent
  shares_sent r [] t some = absurd (omega (arith, some))
  shares_sent r (s ∷ more) t some = by (stmt_sends (total_port r) s) refl (shares_sent r more (top_step p e s (out-Stmt s) t))
    where
      by : (n : ℕ) → stmt_sends (total_port r) s ≡ n → (0 < block_sends (total_port r) more → SentShare r (top_acts p e more (top_step p e s (out-Stmt s) t)).sent) →
          SentShare r (top_acts p e more (top_step p e s (out-Stmt s) t)).sent
      by zero q rest = rest (omega (arith, some, q))
      by (suc n) q rest = share_kept r more (top_step p e s (out-Stmt s) t) (share_sent r s (out-Stmt s) t (omega (arith, q)))

pub ran_sends : (p : Plan) (o : Progress) (spot : Spot) (x e : ℕ) → Sends p x o.element.0 spot.step spot.part e → SentParcel x (id_of e) (ran p o spot).sent
ran_sends p o spot x e sends = parcels_sent p o.element.0 x (id_of e) (block_at p o.element.0 spot.step spot.part) _ sends.some sends.target

pub ran_contributes : (p : Plan) (o : Progress) (spot : Spot) (r : ℕ) → Contributes p r o.element.0 spot.step spot.part → SentShare r (ran p o spot).sent
ran_contributes p o spot r gives = shares_sent p o.element.0 r (block_at p o.element.0 spot.step spot.part) _ gives.some
