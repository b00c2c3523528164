-- An object fits its plan after each call.
use Rattle.std.proofs.Common.{◌≡◌, ℕ, zero, suc, ◌<◌, ◌≤◌, Bool, true, false, cond, List, [], ◌∷◌, length, refl, ap, sym, ◌∙◌, arith, subst, Option, Some, None}
use Rattle.std.specs.Prelude.{◌==◌, IfSome, slice_get, slice_set}
use Rattle.std.specs.Option.{option_map_or}
use Rattle.std.proofs.lemmas.Bool.{and_right, eqb-false}
use Rattle.std.proofs.lemmas.List.{length-set}
use Rattle.chare_base.specs.declared.cells.Cells.{Cells}
use Rattle.chare_base.specs.declared.message.Need.{Need}
use Rattle.chare_base.specs.declared.message.Need.TheVariants as needs
use Rattle.chare_base.specs.declared.message.Payload.{Payload}
use Rattle.chare_base.specs.declared.plan.Array.{Array}
use Rattle.chare_base.specs.declared.plan.Part.{Part}
use Rattle.chare_base.specs.declared.plan.Plan.{Plan}
use Rattle.chare_base.specs.declared.plan.Spot.{Spot}
use Rattle.chare_base.specs.declared.plan.Step.{Step}
use Rattle.chare_base.specs.Elements.{array_of, block_at, cells_of, elements, parts_at, place_of, steps_of}
use Rattle.chare_base.specs.Limits.{step_fits}
use Rattle.chare_base.proofs.Facts.{each_at, fits, iterations_few, place_in_range, some_parts, within}
use Rattle.chare_eval.specs.Block.{scene_of}
use Rattle.chare_eval.specs.Inside.{is_done, none_done}
use Rattle.chare_eval.specs.Stage.{given}
use Rattle.chare_eval.proofs.Frames.{block_framed}
use Rattle.ref_messages.specs.declared.key.RefKey.{RefKey}
use Rattle.ref_messages.specs.Queue.{Queue, from}
use Rattle.object_steps.specs.Objects.{Fits, Progress, Underway, advanced, all_done, arrived, begun, mailed, need_of, ran, started, taken}
use Rattle.object_steps.specs.Turns.{Goes}

-- ---- a plan's steps and parts

there_or_none : {A : Type 0} (xs : List A) (i : ℕ) → slice_get xs i ≡ None → i < length xs → ⊥
there_or_none [] i is h = omega arith
there_or_none (x ∷ xs) zero is h = cc
there_or_none (x ∷ xs) (suc i) is h = there_or_none xs i is (omega arith)

-- an element has a step
some_steps_of : (p : Plan) (e : ℕ) (a : Option Array) → array_of p e ≡ a → e < elements p → 0 < length (steps_of p e)
some_steps_of p e None is h = absurd (there_or_none p.arrays (place_of p e).array is (place_in_range p e h))
some_steps_of p e (Some a) is h = omega (arith, (fits p e a is).steps.0, ap (λ o. length (option_map_or (λ (x : Array). x.steps) o [])) is)

pub some_steps : (p : Plan) (e : ℕ) → e < elements p → 0 < length (steps_of p e)
some_steps p e h = some_steps_of p e (array_of p e) refl h

-- a step has at most 8 parts
few_of : (a : Array) (s : ℕ) (step : Option Step) → slice_get a.steps s ≡ step → ((x : Step) → step ≡ Some x → length x.parts ≤ 8) → length (option_map_or (λ (x : Step). x.parts) step []) ≤ 8
few_of a s None is each = omega arith
few_of a s (Some x) is each = each x refl

few_parts_of : (p : Plan) (e s : ℕ) (a : Option Array) → array_of p e ≡ a → length (option_map_or (λ (x : Step). x.parts) (slice_get (option_map_or (λ (x : Array). x.steps) a []) s) []) ≤ 8
few_parts_of p e s None is = omega arith
few_parts_of p e s (Some a) is = few_of a s (slice_get a.steps s) refl (λ x there. (within 1 8 (length x.parts) (each_at step_fits a.steps s x (fits p e a is).each_step there)).1)

pub few_parts : (p : Plan) (e s : ℕ) → length (parts_at p e s) ≤ 8
few_parts p e s = few_parts_of p e s (array_of p e) refl

pub there_below : {A : Type 0} (xs : List A) (i : ℕ) (x : A) → slice_get xs i ≡ Some x → i < length xs
there_below [] i x is = absurd cc
there_below (y ∷ xs) zero x is = omega arith
there_below (y ∷ xs) (suc i) x is = omega (arith, there_below xs i x is)

-- ---- sets of parts

nothing_done : (i : ℕ) → is_done none_done i ≡ false
nothing_done zero = refl
nothing_done (suc zero) = refl
nothing_done (suc (suc zero)) = refl
nothing_done (suc (suc (suc zero))) = refl
nothing_done (suc (suc (suc (suc zero)))) = refl
nothing_done (suc (suc (suc (suc (suc zero))))) = refl
nothing_done (suc (suc (suc (suc (suc (suc zero)))))) = refl
nothing_done (suc (suc (suc (suc (suc (suc (suc zero))))))) = refl
nothing_done (suc (suc (suc (suc (suc (suc (suc (suc i)))))))) = refl

-- with none done a part is left
some_left : (n : ℕ) → 1 ≤ n → all_done none_done n ≡ false
some_left zero h = absurd (omega (arith, h))
some_left (suc n) h = and_right (all_done none_done n) (is_done none_done n) (nothing_done n)

-- ---- the start, a beginning, a message

pub started_fits : (p : Plan) (e : ℕ) (cells : Cells) (done : ℕ) → e < elements p → length cells.numbers ≡ cells_of p e → done ≤ p.iterations → Fits p (started p e cells done)
started_fits p e cells done there count within = record {
  there = there;
  place = refl;
  surrounded = refl;
  cells = count;
  within = within;
  since = refl;
  parts = refl;
  between = λ t. refl;
  underway = tt;
}

pub begun_fits : (p : Plan) (o : Progress) → Fits p o → o.step ≡ None → o.done < p.iterations → Fits p (begun o)
begun_fits p o is top more =
    let step = some_steps p o.element.0 is.there in
    record {
      there = is.there;
      place = is.place;
      surrounded = is.surrounded;
      cells = is.cells;
      within = is.within;
      since = is.since;
      parts = is.parts;
      between = λ t. absurd cc;
      underway = record {
        step = step;
        iteration = more;
        left = ap (λ done. all_done done (length (parts_at p o.element.0 0))) (is.between top) ∙ some_left (length (parts_at p o.element.0 0)) (some_parts p o.element.0 0 step);
      };
    }

-- the same element with as many cells, and with other messages from the same iteration on
pub same_fits : (p : Plan) (o : Progress) (cells : Cells) (mail : Queue) → Fits p o → length cells.numbers ≡ length o.cells.numbers → mail.since ≡ o.mail.since →
    Fits p (record o { cells = cells; mail = mail })
same_fits p o cells mail is count since = record {
  there = is.there;
  place = is.place;
  surrounded = is.surrounded;
  cells = count ∙ is.cells;
  within = is.within;
  since = since ∙ is.since;
  parts = is.parts;
  between = is.between;
  underway = by_step o.step is.underway;
}
  where
    by_step : (step : Option ℕ) → IfSome step (Underway p o) → IfSome step (Underway p (record o { cells = cells; mail = mail }))
    by_step None u = tt
    by_step (Some s) u = record { step = u.step; iteration = u.iteration; left = u.left }

pub mailed_fits : (p : Plan) (o : Progress) (key : RefKey) (payload : Payload) → Fits p o → Fits p (mailed o key payload)
mailed_fits p o key payload is = same_fits p o o.cells (mailed o key payload).mail is refl refl

-- ---- a part

taken_since : (need : Need) (done : ℕ) (mail : Queue) → (taken need done mail).since ≡ mail.since
taken_since needs.Nothing done mail = refl
taken_since (needs.Port port) done mail = refl

-- what an object is when a part is done, before it goes on
abbrev pub with_part : Plan → Progress → Spot → Progress
with_part p o spot = record o { cells = (ran p o spot).cells; parts = slice_set o.parts spot.part true; mail = taken (need_of p o spot) o.done o.mail }

ran_count : (p : Plan) (o : Progress) (spot : Spot) → length (ran p o spot).cells.numbers ≡ length o.cells.numbers
ran_count p o spot =
    (block_framed p o.element.0 (block_at p o.element.0 spot.step spot.part) (scene_of p o.element.0 o.done (given (need_of p o spot) (arrived p o)))).len o.cells.numbers

pub part_below : (p : Plan) (o : Progress) (spot : Spot) → Goes p o spot → spot.part < length (parts_at p o.element.0 spot.step)
part_below p o spot g = there_below (parts_at p o.element.0 spot.step) spot.part g.part g.there

pub part_few : (p : Plan) (o : Progress) (spot : Spot) → Goes p o spot → spot.part < 8
part_few p o spot g = omega (arith, part_below p o spot g, few_parts p o.element.0 spot.step)

-- the iterations that an element may complete are few
pub few_done : (p : Plan) (o : Progress) (spot : Spot) → Goes p o spot → o.done < 4294967296
few_done p o spot g = omega (arith, g.underway.iteration, iterations_few p)

-- an object fits its plan after a part
pub advanced_fits : (p : Plan) (o : Progress) (spot : Spot) → Fits p o → Goes p o spot → Fits p (advanced p o spot)
unfolding advanced
advanced_fits p o spot is g = by_test (all_done after.parts (length parts)) (suc spot.step == length (steps_of p o.element.0)) refl refl
  where
    after : Progress
    after = with_part p o spot

    parts : List Part
    parts = parts_at p o.element.0 spot.step

    cells : length after.cells.numbers ≡ cells_of p o.element.0
    cells = ran_count p o spot ∙ is.cells

    since : after.mail.since ≡ o.done
    since = taken_since (need_of p o spot) o.done o.mail ∙ is.since

    count : length after.parts ≡ 8
    count = length-set o.parts spot.part true ∙ is.parts

    next : (suc spot.step == length (steps_of p o.element.0)) ≡ false → suc spot.step < length (steps_of p o.element.0)
    next t = omega (arith, g.underway.step, eqb-false (suc spot.step) (length (steps_of p o.element.0)) t)

    by_test : (all last : Bool) → all_done after.parts (length parts) ≡ all → (suc spot.step == length (steps_of p o.element.0)) ≡ last →
        Fits p (cond all (cond last (record after { done = suc o.done; step = None; parts = none_done; mail = from after.mail (suc o.done) }) (record after { step = Some (suc spot.step); parts = none_done })) after)
    by_test true true a t = record {
      there = is.there;
      place = is.place;
      surrounded = is.surrounded;
      cells = cells;
      within = omega (arith, g.underway.iteration);
      since = refl;
      parts = refl;
      between = λ n. refl;
      underway = tt;
    }
    by_test true false a t = record {
      there = is.there;
      place = is.place;
      surrounded = is.surrounded;
      cells = cells;
      within = is.within;
      since = since;
      parts = refl;
      between = λ n. refl;
      underway = record {
        step = next t;
        iteration = g.underway.iteration;
        left = some_left (length (parts_at p o.element.0 (suc spot.step))) (some_parts p o.element.0 (suc spot.step) (next t));
      };
    }
    by_test false last a t = record {
      there = is.there;
      place = is.place;
      surrounded = is.surrounded;
      cells = cells;
      within = is.within;
      since = since;
      parts = count;
      between = λ n. let none : None ≡ Some spot.step = sym n ∙ g.step in absurd cc;
      underway =
          let P : Option ℕ → Type 0 = λ q. IfSome q (Underway p after) in
          let here : P (Some spot.step) = record { step = g.underway.step; iteration = g.underway.iteration; left = a } in
          subst P (sym g.step) here;
    }
