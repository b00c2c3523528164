-- What was sent before stays in front.
use Rattle.std.proofs.Common.{◌≡◌, ℕ, ℤ, List, [], ◌∷◌, ◌++◌, refl, ap, sym, ◌∙◌, append_assoc}
use Rattle.std.proofs.lemmas.List.{append-nil}
use Rattle.chare_base.specs.declared.cells.Cells.{Cells}
use Rattle.chare_base.specs.declared.cells.Slip.{Slip}
use Rattle.chare_base.specs.declared.message.Payload.{Payload}
use Rattle.chare_base.specs.declared.plan.Plan.{Plan}
use Rattle.chare_base.specs.declared.plan.Stmt.{Stmt, out-Stmt}
use Rattle.chare_base.specs.declared.plan.Stmt.TheOpen.{Stmt-F}
use Rattle.chare_base.specs.Entries.{target_of}
use Rattle.chare_eval.specs.declared.effects.Outgoing.{Outgoing}
use Rattle.chare_eval.specs.declared.effects.Outgoing.TheVariants.{Contribution}
use Rattle.chare_eval.specs.declared.value.Scene.{Scene}
use Rattle.chare_eval.specs.Value.{least_kind}
use Rattle.chare_eval.specs.Block.{Run, Top, block_runs, computed, filled_of, parcels, payload_of, quiet, scene_of, slip_after, top_step, top_acts}

abbrev pub behind : List Outgoing → Top → Top
behind s t = record { run = t.run; sent = s ++ t.sent }

sent_behind : (slip : ℕ) (more s : List Outgoing) (t : Top) →
    record { run = record { scene = t.run.scene; cells = t.run.cells; slip = slip }; sent = (s ++ t.sent) ++ more } ≡ behind s (record { run = record { scene = t.run.scene; cells = t.run.cells; slip = slip }; sent = t.sent ++ more })
sent_behind slip more s t = ap (λ l. record { run = record { scene = t.run.scene; cells = t.run.cells; slip = slip }; sent = l }) (append_assoc s t.sent more)

module _ (p : Plan) (e : ℕ) where
  step_behind : (x : Stmt) (y : Stmt-F Stmt) (s : List Outgoing) (t : Top) → top_step p e x y (behind s t) ≡ behind s (top_step p e x y t)
  step_behind x (Stmt-F.Send entry values) s t =
      let f = filled_of values t.run in
      sent_behind f.slip (parcels entry (target_of p entry.0 e) (payload_of values f)) s t
  step_behind x (Stmt-F.Contribute reduction value) s t =
      let c = computed value t.run in
      sent_behind (least_kind t.run.slip c.slip) (Contribution reduction c.value ∷ []) s t
  step_behind x (Stmt-F.Set at value) s t = refl
  step_behind x (Stmt-F.SetAt at count place value) s t = refl
  step_behind x (Stmt-F.If test a b) s t = refl
  step_behind x (Stmt-F.For slot low high block) s t = refl

  acts_behind : (xs : List Stmt) (s : List Outgoing) (t : Top) → top_acts p e xs (behind s t) ≡ behind s (top_acts p e xs t)
  acts_behind [] s t = refl
  acts_behind (x ∷ xs) s t = ap (top_acts p e xs) (step_behind x (out-Stmt x) s t) ∙ acts_behind xs s (top_step p e x (out-Stmt x) t)

  pub top_acts_from : (xs : List Stmt) (run : Run) (s : List Outgoing) → top_acts p e xs (record { run = run; sent = s }) ≡ behind s (top_acts p e xs (record { run = run; sent = [] }))
  top_acts_from xs run s = ap (λ l. top_acts p e xs (record { run = run; sent = l })) (sym (append-nil s)) ∙ acts_behind xs s (record { run = run; sent = [] })

abbrev top : Scene → List ℤ → ℕ → List Outgoing → Top
top scene n kind s = record { run = record { scene = scene; cells = n; slip = kind }; sent = s }

-- what a run of a part told is what the part does
module _ (p : Plan) (e step iteration : ℕ) (xs : List Stmt) (payload : Payload) (cells : Cells) (before s s' : List Outgoing) (scene scene' : Scene) (n' : List ℤ) (kind : ℕ) (slip : Slip)
    (at : scene ≡ scene_of p e iteration payload) (room : s ≡ before)
    (ran : top scene' n' kind s' ≡ top_acts p e xs (top scene cells.numbers 0 s))
    (kept : slip ≡ slip_after step iteration kind cells.slip) where
  start : Run
  start = record { scene = scene_of p e iteration payload; cells = cells.numbers; slip = 0 }

  same : top scene' n' kind s' ≡ behind before (top_acts p e xs (record { run = start; sent = [] }))
  unfolding start
  same = ran ∙ ap (λ (x : Scene). top_acts p e xs (top x cells.numbers 0 s)) at
      ∙ ap (λ l. top_acts p e xs (record { run = start; sent = l })) room ∙ top_acts_from p e xs start before

  pub part_cells : record { numbers = n'; slip = slip } ≡ (block_runs p e step iteration xs payload (quiet cells)).cells
  unfolding start
  part_cells = ap (λ k. let c : Cells = record { numbers = n'; slip = k } in c) kept
      ∙ ap (λ (t : Top). let c : Cells = record { numbers = t.run.cells; slip = slip_after step iteration t.run.slip cells.slip } in c) same

  pub part_sent : s' ≡ before ++ (block_runs p e step iteration xs payload (quiet cells)).sent
  unfolding start
  part_sent = ap (λ (t : Top). t.sent) same
