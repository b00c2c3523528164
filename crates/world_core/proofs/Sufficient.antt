-- The turns of a schedule suffice for a run without faults, so no drill of one stands still.
use Rattle.std.proofs.Common.{◌≡◌, ℕ, zero, suc, ◌+◌, ◌*◌, ◌-◌, ◌^◌, ◌<◌, ◌≤◌, [], length, refl, ap, ◌∙◌, arith, subst}
use Rattle.std.proofs.Math.Nat.{le-mul_of_pos_right, mul_comm, mul-le-mul}
use Rattle.chare_base.specs.declared.options.Options.{Options}
use Rattle.chare_base.specs.Elements.{elements}
use Rattle.chare_base.proofs.Blocks.{blocks_count, blocks_cover}
use Rattle.chare_base.proofs.Facts.{iterations_few}
use Rattle.node_core.specs.Costs.{StartLeaves, times}
use Rattle.node_core.proofs.Seats.{count_covered}
use Rattle.world_core.specs.Bounds.{capped, turns_bound, width_below}
use Rattle.world_core.specs.Costs.{DrillsEnd, EveryScheduleEnds, TurnsSuffice, world_left}
use Rattle.world_core.specs.Drills.{drill_setting, drilled}
use Rattle.world_core.specs.Still.{IsPlain}
use Rattle.world_core.specs.Worlds.{Setting, opening_chooser, opening_world}
use Rattle.world_core.proofs.StartLeft.{beside_left, each_left, start_left, times_is, times_plus, times_wide, work}
use Rattle.world_core.proofs.Limited.{totals_few, widths_few}
use Rattle.world_core.proofs.Widths.{times_add}
use Rattle.world_core.proofs.RoundCosts.{rounds_most}

-- ---- products

times_suc : (n r : ℕ) → times n (suc r) ≡ n + times n r
times_suc zero r = refl
times_suc (suc n) r = let rest = times_suc n r in omega (arith, rest)

-- a sum of products
product_add : (a b q : ℕ) → (a + b) * q ≡ a * q + b * q
product_add a b q = let whole = times_is (a + b) q in let one = times_is a q in let two = times_is b q in let both = times_add a b q in omega (arith, whole, one, two, both)

turns_by : (n q : ℕ) → times n (32 * q) + 4160 * q ≡ (32 * (n + 130)) * q
turns_by zero q = let at : 32 * (0 + 130) ≡ 4160 = omega arith in let one : (32 * (0 + 130)) * q ≡ 4160 * q = ap (λ m. m * q) at in omega (arith, one)
turns_by (suc n) q =
    let rest = turns_by n q in
    let at : 32 * (suc n + 130) ≡ 32 + 32 * (n + 130) = omega arith in
    let one : (32 * (suc n + 130)) * q ≡ (32 + 32 * (n + 130)) * q = ap (λ m. m * q) at in
    let two = product_add 32 (32 * (n + 130)) q in
    omega (arith, rest, one, two)

-- ---- the turns of a plain run

module _ (leaves : StartLeaves) (s : Setting) (o : Options) (plain : IsPlain s o) where
  abbrev places : ℕ
  places = s.nodes + s.nodes

  abbrev jobs : ℕ
  jobs = s.plan.iterations

  abbrev width : ℕ
  width = width_below s.plan (elements s.plan)

  abbrev totals : ℕ
  totals = length s.plan.reductions

  -- what the number of turns is a multiple of
  abbrev unit : ℕ
  unit = width + places * totals + places * places

  work_few : work leaves s o plain ≤ width + times totals s.nodes
  work_few = subst (λ n. work leaves s o plain ≤ width + times totals n) (count_covered s.place s.nodes plain.placed.covers) (rounds_most s.plan s.place)

  some_places : 0 < places
  some_places = let some = plain.some in omega (arith, some)

  each_few : each_left leaves s o plain ≤ 32 * unit
  each_few =
      let work_most = work_few in
      let two_totals = times_plus totals s.nodes s.nodes in
      let product : times totals places ≡ places * totals = times_is totals places ∙ mul_comm totals places in
      let square = times_is places places in
      let once = times_suc places places in
      let twice = times_suc places (suc places) in
      let sevens = times_is places 7 in
      let large : places ≤ places * places = le-mul_of_pos_right places some_places in
      let some = some_places in
      omega (arith, work_most, two_totals, product, square, once, twice, sevens, large, some)

  beside_few : beside_left leaves s o plain ≤ 4160 * unit
  beside_few =
      let square = times_is places places in
      let large : places ≤ places * places = le-mul_of_pos_right places some_places in
      let some = some_places in
      omega (arith, square, large, some)

  turns_are : turns_bound s.plan 0 s.nodes ≡ (32 * (jobs + 130)) * unit
  unfolding turns_bound
  turns_are = refl

  left_few : world_left s (opening_world s o) ≤ turns_bound s.plan 0 s.nodes
  left_few =
      let start = start_left leaves s o plain in
      let wide = times_wide jobs (each_left leaves s o plain) (32 * unit) each_few in
      let beside = beside_few in
      let turns = turns_by jobs unit in
      let are = turns_are in
      omega (arith, start, wide, beside, turns, are)

  -- they are a number of 64 bits
  unit_few : unit ≤ 72421376
  unit_few =
      let widths = widths_few s.plan in
      let totals_most = totals_few s.plan in
      let few : places ≤ 64 = let nodes = plain.options.few in omega (arith, nodes) in
      let product : places * totals ≤ 64 * width = mul-le-mul few totals_most in
      let square : places * places ≤ 64 * 64 = mul-le-mul few few in
      omega (arith, widths, product, square)

  turns_few : turns_bound s.plan 0 s.nodes ≤ 2 ^ 64 - 1
  turns_few =
      let jobs_few = iterations_few s.plan in
      let rounds : 32 * (jobs + 130) ≤ 32004160 = omega (arith, jobs_few) in
      let product : (32 * (jobs + 130)) * unit ≤ 32004160 * 72421376 = mul-le-mul rounds unit_few in
      let are = turns_are in
      omega (arith, product, are)

  suffices : world_left s (opening_world s o) ≤ capped (turns_bound s.plan 0 s.nodes)
  suffices = let left = left_few in let few = turns_few in omega (arith, left, few)

pub starts_within : StartLeaves → (s : Setting) (o : Options) → IsPlain s o → world_left s (opening_world s o) ≤ turns_bound s.plan 0 s.nodes
starts_within leaves s o plain = left_few leaves s o plain

pub turns_suffice : StartLeaves → TurnsSuffice
turns_suffice leaves s o plain = suffices leaves s o plain

-- ---- drills

pub drills_end : TurnsSuffice → EveryScheduleEnds → DrillsEnd
unfolding drilled
drills_end suffice ends p o schedule some few bounded every = ends s o (opening_chooser s.nodes schedule) (capped (turns_bound p 0 o.nodes)) plain (suffice s o plain)
  where
    s : Setting
    s = drill_setting p [] o

    plain : IsPlain s o
    plain = record {
      none = refl;
      placed = record { count = blocks_count (elements p) o.nodes; covers = blocks_cover (elements p) o.nodes some few };
      options = record { nodes = refl; few = bounded };
      some = some;
      every = every;
    }
