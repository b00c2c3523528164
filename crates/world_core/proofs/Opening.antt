-- The slots at the opening, one after another.
use Rattle.std.proofs.Common.{◌≡◌, ℕ, suc, ◌+◌, List, [], ◌∷◌, ◌++◌, refl, ap, sym, ◌∙◌, arith, None}
use Rattle.chare_base.specs.declared.slots.LineSet.{LineSet}
use Rattle.conductor_core.specs.Openings.{all_lines}
use Rattle.iteration_agree.specs.Cuts.{CutState, opening_cut}
use Rattle.node_core.specs.Starts.{start_state}
use Rattle.world_core.specs.declared.doing.Since.TheVariants.{Nothing}
use Rattle.world_core.specs.Worlds.{Setting, SlotState, opening_slots, renewed}

joined : (xs ys zs : List SlotState) → (xs ++ ys) ++ zs ≡ xs ++ (ys ++ zs)
joined [] ys zs = refl
joined (x ∷ xs) ys zs = ap (λ rest. x ∷ rest) (joined xs ys zs)

-- one slot more
pub next_slot : (s : Setting) (replica j : ℕ) (live : LineSet) (cut : CutState) (first before : List SlotState) (new : SlotState) (after : List SlotState) → live.0 ≡ all_lines s.script →
    cut ≡ opening_cut s.nodes → before ≡ first ++ opening_slots s replica j →
    new ≡ renewed s.plan cut (start_state s.plan s.script s.place (record { replica = replica; node = j }) live) [] None Nothing → after ≡ before ++ new ∷ [] →
    after ≡ first ++ opening_slots s replica (j + 1)
next_slot s replica j live cut first before new after all opened so_far is pushed =
    let made : CutState → LineSet → SlotState = λ c l. renewed s.plan c (start_state s.plan s.script s.place (record { replica = replica; node = j }) l) [] None Nothing in
    let lines : live ≡ record { 0 = all_lines s.script } = ap (λ n. record { 0 = n }) all in
    let last : new ≡ made (opening_cut s.nodes) (record { 0 = all_lines s.script }) = is ∙ ap (λ c. made c live) opened ∙ ap (made (opening_cut s.nodes)) lines in
    let more : j + 1 ≡ suc j = omega arith in
    pushed ∙ ap (λ xs. xs ++ new ∷ []) so_far ∙ ap (λ x. (first ++ opening_slots s replica j) ++ x ∷ []) last
    ∙ joined first (opening_slots s replica j) (made (opening_cut s.nodes) (record { 0 = all_lines s.script }) ∷ []) ∙ ap (λ n. first ++ opening_slots s replica n) (sym more)

pub opened_nodes : (nodes : ℕ) (cut : CutState) → cut ≡ opening_cut nodes → cut.nodes ≡ nodes
unfolding opening_cut
opened_nodes nodes cut is = ap (λ (c : CutState). c.nodes) is
