-- That an object follows the definition.
use Rattle.std.proofs.Common.{◌≡◌, ℕ, zero, suc, ◌+◌, ◌<◌, ◌≤◌, Bool, true, false, cond, List, [], ◌∷◌, length, refl, ap, sym, ◌∙◌, arith, subst, Option, Some, None, Ordering, Less, Equal, Greater}
use Rattle.std.specs.Prelude.{is_some, nat_le, unwrap_or, ◌==◌, ◌&&◌}
use Rattle.std.specs.BTreeMap.{insert_entry}
use Rattle.std.specs.List.{AllByRecursion, filter}
use Rattle.std.specs.Map.{lookup, remove_entry}
use Rattle.std.specs.Option.{option_map_or}
use Rattle.std.specs.Ordering.{is_eq, match_ordering}
use Rattle.std.proofs.lemmas.Bool.{eqb-true, eqb-false}
use Rattle.std.proofs.lemmas.List.{length-set}
use Rattle.chare_base.specs.declared.cells.Cells.{Cells}
use Rattle.chare_base.specs.declared.message.Need.{Need}
use Rattle.chare_base.specs.declared.message.Need.TheVariants as needs
use Rattle.chare_base.specs.declared.message.Payload.{Payload}
use Rattle.chare_base.specs.declared.message.Port.{Port}
use Rattle.chare_base.specs.declared.message.Port.TheVariants as ports
use Rattle.chare_base.specs.declared.message.Source.{Source}
use Rattle.chare_base.specs.declared.message.Source.TheVariants as sources
use Rattle.chare_base.specs.declared.plan.Part.{Part}
use Rattle.chare_base.specs.declared.plan.Plan.{Plan}
use Rattle.chare_base.specs.declared.plan.Spot.{Spot}
use Rattle.chare_base.specs.Elements.{cells_of, elements, parts_at, steps_in_round, steps_of}
use Rattle.chare_base.specs.Entries.{nothing, source_of}
use Rattle.chare_base.specs.Flip.{Flip}
use Rattle.chare_eval.specs.Block.{Effect, block_runs, quiet}
use Rattle.chare_eval.specs.Fold.{fold, fold_from}
use Rattle.chare_eval.specs.Inside.{cells_between, cells_inside, found_in, messages_to, none_done, struck_at}
use Rattle.chare_eval.proofs.Steps.{found_came}
use Rattle.chare_eval.specs.Laws.{AllDone, FoldIsShaped, PartRuns, PartsRunInAnyOrder, Reaches, StepsFollow, StrikesAreLocal}
use Rattle.chare_eval.specs.Opening.{no_slip, opening, start_of, starts_from}
use Rattle.chare_eval.specs.Value.{number_at}
use Rattle.chare_eval.specs.Stage.{Inbox, flipped, found, given, held, part_runs, stage, state_at, with_flip}
use Rattle.ref_messages.specs.declared.key.RefKey.{RefKey}
use Rattle.ref_messages.specs.Laws.{KeysAreTold}
use Rattle.ref_messages.specs.Queue.{Queue, from, key_order, message, same_key}
use Rattle.ref_messages.proofs.Lawful.{bound_insert, bound_not_before}
use Rattle.object_steps.specs.Laws.{Allowed, Begins, Follows, IsMessage, ObjectsFollow, Receives, Runs, Turn, TurnsFollow, cells_at, struck_by, turned}
use Rattle.object_steps.specs.Objects.{Fits, Progress, advanced, all_done, arrived, begun, can_run, key_of, mailed, need_of, ran, started, taken}
use Rattle.object_steps.specs.Turns.{Goes}
use Rattle.object_steps.proofs.Turns.{each_of_all, goes}
use Rattle.object_steps.proofs.Kept.{advanced_fits, begun_fits, mailed_fits, part_few, same_fits, started_fits, with_part}

-- ---- what holds of each message held

abbrev Entries : Type 0
Entries = List (RefKey × Payload)

-- what holds of each entry holds of what is found under a key
found_holds : (told : KeysAreTold) (P : RefKey → Payload → Type 0) (key : RefKey) (payload : Payload) (es : Entries) → AllByRecursion (λ (e : RefKey × Payload). P e.0 e.1) es →
    lookup (same_key key) es ≡ Some payload → P key payload
found_holds told P key payload [] all is = absurd cc
found_holds told P key payload (e ∷ es) all is = by_test (same_key key e.0) refl is (λ h. found_holds told P key payload es all.1 h)
  where
    here : same_key key e.0 ≡ true → e.1 ≡ payload → P key payload
    here same value =
        let Q : RefKey → Type 0 = λ k. P k e.1 in
        let R : Payload → Type 0 = λ v. P key v in
        subst R value (subst Q (sym ((told key e.0).0 same)) all.0)

    by_test : (b : Bool) → same_key key e.0 ≡ b → cond b (Some e.1) (lookup (same_key key) es) ≡ Some payload → (lookup (same_key key) es ≡ Some payload → P key payload) → P key payload
    by_test true t h rest = here t cc
    by_test false t h rest = rest h

removed_holds : (P : RefKey × Payload → Type 0) (test : RefKey → Bool) (es : Entries) → AllByRecursion P es → AllByRecursion P (remove_entry test es)
removed_holds P test [] all = tt
removed_holds P test (e ∷ es) all =
    elim (test e.0) as (λ b. AllByRecursion P (cond b es (e ∷ remove_entry test es))) [ true ↦ all.1 | false ↦ (all.0, removed_holds P test es all.1) ]

filtered_holds : (P : RefKey × Payload → Type 0) (test : RefKey × Payload → Bool) (es : Entries) → AllByRecursion P es → AllByRecursion P (filter test es)
filtered_holds P test [] all = tt
filtered_holds P test (e ∷ es) all =
    elim (test e) as (λ b. AllByRecursion P (cond b (e ∷ filter test es) (filter test es))) [ true ↦ (all.0, filtered_holds P test es all.1) | false ↦ filtered_holds P test es all.1 ]

-- one entry more: where its key is held, the key that was held stays
inserted_holds : (told : KeysAreTold) (P : RefKey → Payload → Type 0) (key : RefKey) (payload : Payload) (es : Entries) → AllByRecursion (λ (e : RefKey × Payload). P e.0 e.1) es → P key payload →
    AllByRecursion (λ (e : RefKey × Payload). P e.0 e.1) (insert_entry key_order es key payload)
inserted_holds told P key payload [] all new = (new, tt)
inserted_holds told P key payload (e ∷ es) all new = by_order (key_order key e.0) refl (inserted_holds told P key payload es all.1 new)
  where
    Each : RefKey × Payload → Type 0
    Each x = P x.0 x.1

    by_order : (o : Ordering) → key_order key e.0 ≡ o → AllByRecursion Each (insert_entry key_order es key payload) →
        AllByRecursion Each (match_ordering o ((key, payload) ∷ e ∷ es) ((e.0, payload) ∷ es) (e ∷ insert_entry key_order es key payload))
    by_order Less t rest = (new, all)
    by_order Equal t rest = let Q : RefKey → Type 0 = λ k. P k payload in (subst Q ((told key e.0).0 (ap is_eq t)) new, all.1)
    by_order Greater t rest = (all.0, rest)

taken_holds : (P : RefKey × Payload → Type 0) (need : Need) (done : ℕ) (mail : Queue) → AllByRecursion P mail.held → AllByRecursion P (taken need done mail).held
taken_holds P needs.Nothing done mail all = all
taken_holds P (needs.Port port) done mail all = removed_holds P (same_key (key_of done port)) mail.held all

-- ---- what a part gets

-- what is there is the definition's
found_same : (source : Source) (mine whole : Option Payload) → ((payload : Payload) → mine ≡ Some payload → found source whole ≡ Some payload) → is_some (found source mine) ≡ true →
    found source mine ≡ found source whole
found_same (sources.Edge payload) mine whole holds some = refl
found_same (sources.Element sender) None whole holds some = absurd cc
found_same (sources.Element sender) (Some payload) whole holds some = sym (holds payload refl)

some_same : (mine whole : Option Payload) → ((payload : Payload) → mine ≡ Some payload → whole ≡ Some payload) → is_some mine ≡ true → mine ≡ whole
some_same None whole holds some = absurd cc
some_same (Some payload) whole holds some = sym (holds payload refl)

-- what the definition holds for an element at a port
abbrev held_for : Plan → List Flip → ℕ → ℕ → Port → Option Payload
held_for p lines k e port = held p (stage p lines k (fold p lines k) (steps_in_round p)).mail e port

module _ (told : KeysAreTold) (p : Plan) (lines : List Flip) (o : Progress) (follows : Follows p lines o) where
  abbrev whole : Inbox
  whole = messages_to p lines o.done o.element.0

  held_is : (port : Port) (payload : Payload) → message o.mail (key_of o.done port) ≡ Some payload → found_in p lines o.done port o.element.0 ≡ Some payload
  held_is port payload is =
      found_came p lines o.done port o.element.0 payload (found_holds told (IsMessage p lines o.element.0) (key_of o.done port) payload o.mail.held follows.mail is)

  arrived_same : (port : Port) → is_some (arrived p o port) ≡ true → arrived p o port ≡ whole port
  arrived_same (ports.Entry x) some =
      found_same (source_of p x.0 o.element.0) (message o.mail (key_of o.done (ports.Entry x))) (held_for p lines o.done o.element.0 (ports.Entry x))
      (λ payload is. held_is (ports.Entry x) payload is) some
  arrived_same (ports.Total r) some =
      some_same (message o.mail (key_of o.done (ports.Total r))) (held_for p lines o.done o.element.0 (ports.Total r)) (λ payload is. held_is (ports.Total r) payload is) some

  given_same : (need : Need) → can_run (arrived p o) need ≡ true → given need (arrived p o) ≡ given need whole
  given_same needs.Nothing h = refl
  given_same (needs.Port port) h = ap (λ x. unwrap_or x nothing) (arrived_same port h)

  -- ---- a part

  module _ (spot : Spot) (g : Goes p o spot) where
    need_is : need_of p o spot ≡ g.part.need
    need_is = ap (λ q. option_map_or (λ (x : Part). x.need) q needs.Nothing) g.there

    given_is : given (need_of p o spot) (arrived p o) ≡ given g.part.need whole
    given_is = ap (λ n. given n (arrived p o)) need_is ∙ given_same g.part.need g.runs

    -- it does what the definition's part does
    ran_is : ran p o spot ≡ part_runs p o.element.0 spot.step o.done whole g.part (quiet o.cells)
    ran_is =
        ap (λ q. block_runs p o.element.0 spot.step o.done (option_map_or (λ (x : Part). x.block) q []) (given (need_of p o spot) (arrived p o)) (quiet o.cells)) g.there
        ∙ ap (λ x. block_runs p o.element.0 spot.step o.done g.part.block x (quiet o.cells)) given_is

    cells_here : o.cells ≡ cells_inside p lines o.done spot.step o.parts o.element.0
    cells_here = follows.cells ∙ ap (cells_at p lines o) g.step

    ran_from : ran p o spot ≡ part_runs p o.element.0 spot.step o.done whole g.part (quiet (cells_inside p lines o.done spot.step o.parts o.element.0))
    ran_from = ran_is ∙ ap (λ c. part_runs p o.element.0 spot.step o.done whole g.part (quiet c)) cells_here

    module _ (any_order : PartsRunInAnyOrder) where
      runs : PartRuns p lines o.done spot.step o.parts o.element.0 spot.part g.part
      runs =
          any_order p lines o.done spot.step o.parts o.element.0 spot.part g.part follows.fits.there g.underway.step g.there
          (omega (arith, part_few p o spot g, follows.fits.parts)) g.fresh

      abbrev after : Progress
      after = with_part p o spot

      cells_after : after.cells ≡ cells_inside p lines o.done spot.step after.parts o.element.0
      cells_after = ap (λ (f : Effect). f.cells) ran_from ∙ runs.cells

      sent_follow : AllByRecursion (Reaches p lines o.done o.element.0) (ran p o spot).sent
      sent_follow = let P : Effect → Type 0 = λ f. AllByRecursion (Reaches p lines o.done o.element.0) f.sent in subst P (sym ran_from) runs.sent

      mail_after : AllByRecursion (λ m. IsMessage p lines o.element.0 m.0 m.1) after.mail.held
      mail_after = taken_holds (λ m. IsMessage p lines o.element.0 m.0 m.1) (need_of p o spot) o.done o.mail follows.mail

      present_after : AllByRecursion (λ m. o.done ≤ m.0.iteration) after.mail.held
      present_after = taken_holds (λ m. o.done ≤ m.0.iteration) (need_of p o spot) o.done o.mail follows.present

      all_over : all_done after.parts (length (parts_at p o.element.0 spot.step)) ≡ true → AllDone p o.element.0 spot.step after.parts
      all_over a i h = each_of_all after.parts (length (parts_at p o.element.0 spot.step)) i a h

      abbrev all : Bool
      all = all_done after.parts (length (parts_at p o.element.0 spot.step))

      abbrev last : Bool
      last = suc spot.step == length (steps_of p o.element.0)

      -- what the object goes on to, by whether the step and the iteration are over
      abbrev on : Bool → Bool → Progress
      on a t = cond a (cond t (record after { done = suc o.done; step = None; parts = none_done; mail = from after.mail (suc o.done) }) (record after { step = Some (suc spot.step); parts = none_done })) after

      cells_on : StepsFollow → (a t : Bool) → all ≡ a → last ≡ t → (on a t).cells ≡ cells_at p lines (on a t) (on a t).step
      cells_on steps true true a t =
          cells_after ∙ steps.last p lines o.done spot.step after.parts o.element.0 follows.fits.there (eqb-true (suc spot.step) (length (steps_of p o.element.0)) t) (all_over a)
      cells_on steps true false a t =
          cells_after
          ∙ steps.next p lines o.done spot.step after.parts o.element.0 follows.fits.there (omega (arith, g.underway.step, eqb-false (suc spot.step) (length (steps_of p o.element.0)) t)) (all_over a)
      cells_on steps false t a u = cells_after ∙ ap (cells_at p lines after) (sym g.step)

      mail_on : (a t : Bool) → AllByRecursion (λ m. IsMessage p lines (on a t).element.0 m.0 m.1) (on a t).mail.held
      mail_on true true = filtered_holds (λ m. IsMessage p lines o.element.0 m.0 m.1) (λ m. nat_le (suc o.done) m.0.iteration) after.mail.held mail_after
      mail_on true false = mail_after
      mail_on false t = mail_after

      present_on : (a t : Bool) → AllByRecursion (λ m. (on a t).done ≤ m.0.iteration) (on a t).mail.held
      present_on true true = bound_not_before (suc o.done) after.mail.held
      present_on true false = present_after
      present_on false t = present_after

      fits_on : Fits p (on all last)
      unfolding advanced
      fits_on = advanced_fits p o spot follows.fits g

      part_follows : StepsFollow → Follows p lines (advanced p o spot)
      unfolding advanced
      part_follows steps = record { fits = fits_on; cells = cells_on steps all last refl refl; mail = mail_on all last; present = present_on all last }

-- ---- a beginning

flip_count : (f : Flip) (cells : Cells) → length (with_flip f cells).numbers ≡ length cells.numbers
flip_count f cells = length-set cells.numbers f.cell (flipped f.mask (number_at cells.numbers f.cell))

struck_count : (lines : List Flip) (k e : ℕ) (cells : Cells) → length (struck_at lines k e cells).numbers ≡ length cells.numbers
struck_count [] k e cells = refl
struck_count (f ∷ more) k e cells = struck_count more k e (cond (f.at == k && f.element == e) (with_flip f cells) cells) ∙ by_test (f.at == k && f.element == e)
  where
    by_test : (b : Bool) → length (cond b (with_flip f cells) cells).numbers ≡ length cells.numbers
    by_test true = flip_count f cells
    by_test false = refl

begun_follows : (strikes : StrikesAreLocal) (p : Plan) (lines : List Flip) (o : Progress) → Follows p lines o → o.step ≡ None → o.done < p.iterations → Follows p lines (begun (struck_by lines o))
begun_follows strikes p lines o f top more =
    let here : o.cells ≡ cells_between p lines o.done o.element.0 = f.cells ∙ ap (cells_at p lines o) top in
    let none : o.parts ≡ none_done = f.fits.between top in
    record {
      fits = begun_fits p (struck_by lines o) (same_fits p o (struck_at lines o.done o.element.0 o.cells) o.mail f.fits (struck_count lines o.done o.element.0 o.cells) refl) top more;
      cells =
          ap (λ c. struck_at lines o.done o.element.0 c) here
          ∙ sym (strikes p lines o.done o.element.0 f.fits.there)
          ∙ ap (λ parts. cells_inside p lines o.done 0 parts o.element.0) (sym none);
      mail = f.mail;
      present = f.present;
    }

-- ---- a message

mailed_follows : (told : KeysAreTold) (p : Plan) (lines : List Flip) (o : Progress) → Follows p lines o → (key : RefKey) (payload : Payload) → o.done ≤ key.iteration → IsMessage p lines o.element.0 key payload →
    Follows p lines (mailed o key payload)
mailed_follows told p lines o f key payload later is = record {
  fits = mailed_fits p o key payload f.fits;
  cells = f.cells;
  mail = inserted_holds told (IsMessage p lines o.element.0) key payload o.mail.held f.mail is;
  present = bound_insert o.done o.mail.held key payload f.present later;
}

-- ---- a start

-- the opening, element by element
start_at : (p : Plan) (n e i : ℕ) → i < n → state_at (starts_from p n e) i ≡ start_of p (e + i)
start_at p zero e i h = absurd (omega (arith, h))
start_at p (suc n) e zero h = let same : e + 0 ≡ e = omega arith in ap (start_of p) (sym same)
start_at p (suc n) e (suc i) h = let same : suc e + i ≡ e + suc i = omega arith in start_at p n (suc e) i (omega (arith, h)) ∙ ap (start_of p) same

opening_at : (p : Plan) (lines : List Flip) (e : ℕ) → e < elements p → start_of p e ≡ cells_between p lines 0 e
unfolding fold fold_from opening
opening_at p lines e h = let same : 0 + e ≡ e = omega arith in ap (start_of p) (sym same) ∙ sym (start_at p (elements p) 0 e h)

between_count : (shaped : FoldIsShaped) (p : Plan) (lines : List Flip) (k e : ℕ) → e < elements p → length (cells_between p lines k e).numbers ≡ cells_of p e
between_count shaped p lines k e h = (shaped p lines k).cells e (record { numbers = []; slip = no_slip }) (omega (arith, h, (shaped p lines k).count))

resumed_follows : (shaped : FoldIsShaped) (p : Plan) (lines : List Flip) (k e : ℕ) → e < elements p → k ≤ p.iterations → Follows p lines (started p e (cells_between p lines k e) k)
resumed_follows shaped p lines k e there within = record {
  fits = started_fits p e (cells_between p lines k e) k there (between_count shaped p lines k e there) within;
  cells = refl;
  mail = tt;
  present = tt;
}

started_follows : (shaped : FoldIsShaped) (p : Plan) (lines : List Flip) (e : ℕ) → e < elements p → Follows p lines (started p e (start_of p e) 0)
started_follows shaped p lines e there =
    let P : Cells → Type 0 = λ c. Follows p lines (started p e c 0) in subst P (sym (opening_at p lines e there)) (resumed_follows shaped p lines 0 e there (omega arith))

-- ---- the law

pub objects_follow : KeysAreTold → FoldIsShaped → StrikesAreLocal → StepsFollow → PartsRunInAnyOrder → ObjectsFollow
objects_follow told shaped strikes steps any_order = record {
  starts = started_follows shaped;
  resumes = resumed_follows shaped;
  on = λ p lines o f. record {
    parts = λ spot h. let g = goes p o spot f.fits h in (part_follows told p lines o f spot g any_order steps, sent_follow told p lines o f spot g any_order);
    begins = λ top more. begun_follows strikes p lines o f top more;
    receives = λ key payload later is. mailed_follows told p lines o f key payload later is;
  };
}

-- one turn that is allowed
turn_follows : (law : ObjectsFollow) (p : Plan) (lines : List Flip) (o : Progress) (turn : Turn) → Follows p lines o → Allowed p lines o turn → Follows p lines (turned p lines o turn)
turn_follows law p lines o (Runs spot) f h = ((law.on p lines o f).parts spot h).0
turn_follows law p lines o Begins f h = (law.on p lines o f).begins h.0 h.1
turn_follows law p lines o (Receives key payload) f h = (law.on p lines o f).receives key payload h.0 h.1

pub turns_follow : ObjectsFollow → TurnsFollow
turns_follow law p lines o [] f each = f
turns_follow law p lines o (turn ∷ more) f each = turns_follow law p lines (turned p lines o turn) more (turn_follows law p lines o turn f each.0) each.1
