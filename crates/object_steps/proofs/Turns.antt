-- What an object answers when it is asked what it can do next.
use Rattle.std.proofs.Common.{◌≡◌, ℕ, zero, suc, ◌+◌, ◌<◌, ◌≤◌, Bool, true, false, cond, List, [], ◌∷◌, length, refl, ap, sym, ◌∙◌, arith, subst, Option, Some, None, inl, inr}
use Rattle.std.specs.Prelude.{is_some, ◌==◌, IfSome, slice_get, slice_set}
use Rattle.std.specs.Option.{option_or}
use Rattle.std.proofs.lemmas.Bool.{and_from, and_parts, cases_lt}
use Rattle.chare_base.specs.declared.message.Need.{Need}
use Rattle.chare_base.specs.declared.message.Need.TheVariants as needs
use Rattle.chare_base.specs.declared.message.Payload.{Payload}
use Rattle.chare_base.specs.declared.message.Port.{Port}
use Rattle.chare_base.specs.declared.plan.Part.{Part}
use Rattle.chare_base.specs.declared.plan.Plan.{Plan}
use Rattle.chare_base.specs.declared.plan.Spot.{Spot}
use Rattle.chare_base.specs.Elements.{parts_at, steps_of}
use Rattle.chare_base.specs.Ports.{port_needed}
use Rattle.chare_eval.specs.Inside.{is_done, none_done}
use Rattle.chare_eval.specs.Stage.{Inbox}
use Rattle.ref_messages.specs.Queue.{from}
use Rattle.object_steps.specs.declared.ready.Ready.{Ready}
use Rattle.object_steps.specs.declared.ready.Ready.TheVariants as ready_as
use Rattle.object_steps.specs.Objects.{Fits, Progress, Underway, advanced, all_done, arrived, can_run, need_of, ran, ready, ready_at, ready_from, spot_of, taken, waiting}
use Rattle.object_steps.specs.Turns.{ElementStays, Goes, ReadyTells, Waits}

spot_same : (a b : Spot) → ready_as.Step a ≡ ready_as.Step b → a ≡ b
spot_same a b e = cc

port_same : (a b : Port) → ready_as.Await a ≡ ready_as.Await b → a ≡ b
port_same a b e = cc

-- ---- sets of parts

-- all of the first n, by each
pub all_of_each : (done : List Bool) (n : ℕ) → ((i : ℕ) → i < n → is_done done i ≡ true) → all_done done n ≡ true
all_of_each done zero each = refl
all_of_each done (suc n) each = and_from (all_done done n) (is_done done n) (all_of_each done n (λ i h. each i (omega (arith, h)))) (each n (omega arith))

pub each_of_all : (done : List Bool) (n i : ℕ) → all_done done n ≡ true → i < n → is_done done i ≡ true
each_of_all done zero i all h = absurd (omega (arith, h))
each_of_all done (suc n) i all h = elim (cases_lt i n) [
  | inl k ↦ each_of_all done n i (and_parts (all_done done n) (is_done done n) all).0 k
  | inr k ↦ let same : i ≡ n = omega (arith, h, k) in ap (is_done done) same ∙ (and_parts (all_done done n) (is_done done n) all).1
]

-- ---- each answer, for the parts of a step from number m on

record Chosen (box : Inbox) (s : ℕ) (done : List Bool) (m : ℕ) (parts : List Part) (spot : Spot) : Type 0 where
  step : s ≡ spot.step
  k : ℕ
  number : spot.part ≡ m + k
  part : Part
  there : slice_get parts k ≡ Some part
  fresh : is_done done spot.part ≡ false
  runs : can_run box part.need ≡ true

record Missed (box : Inbox) (done : List Bool) (m : ℕ) (parts : List Part) (port : Port) : Type 0 where
  k : ℕ
  part : Part
  there : slice_get parts k ≡ Some part
  fresh : is_done done (m + k) ≡ false
  need : part.need ≡ needs.Port port
  missing : box port ≡ None
  before : (i : ℕ) → m ≤ i → i < m + k → is_done done i ≡ true

-- a part that can't run needs a port where nothing is
record Stuck (box : Inbox) (need : Need) : Type 0 where
  port : Port
  is : need ≡ needs.Port port
  none : box port ≡ None

no_some : (a : Option Payload) → is_some a ≡ false → a ≡ None
no_some None h = refl
no_some (Some x) h = absurd cc

stuck : (box : Inbox) (need : Need) → can_run box need ≡ false → Stuck box need
stuck box needs.Nothing h = absurd cc
stuck box (needs.Port port) h = record { port = port; is = refl; none = no_some (box port) h }

waiting_not : (o : Option Port) (spot : Spot) → waiting o ≡ ready_as.Step spot → ⊥
waiting_not None spot h = cc
waiting_not (Some port) spot h = cc

none_waits : (port : Port) → waiting None ≡ ready_as.Await port → ⊥
none_waits port h = cc

some_waits : (port : Port) → waiting (Some port) ≡ ready_as.AtTop → ⊥
some_waits port h = cc

step_waits : (spot : Spot) (port : Port) → ready_as.Step spot ≡ ready_as.Await port → ⊥
step_waits spot port h = cc

step_top : (spot : Spot) → ready_as.Step spot ≡ ready_as.AtTop → ⊥
step_top spot h = cc

module _ (box : Inbox) (s : ℕ) (done : List Bool) where
  -- what the first of some parts leads to, by whether it is done and whether it can run
  abbrev led : Bool → Bool → ℕ → Option Port → Need → List Part → Ready
  led d g m missing need more =
      cond d (ready_from box s done (suc m) missing more) (cond g (ready_as.Step (spot_of s m)) (ready_from box s done (suc m) (option_or missing (port_needed need)) more))

  -- ---- a part that runs

  further : (m : ℕ) (spot : Spot) (part : Part) (more : List Part) → Chosen box s done (suc m) more spot → Chosen box s done m (part ∷ more) spot
  further m spot part more f = record {
    step = f.step;
    k = suc f.k;
    number = omega (arith, f.number);
    part = f.part;
    there = f.there;
    fresh = f.fresh;
    runs = f.runs;
  }

  here : (m : ℕ) (spot : Spot) (part : Part) (more : List Part) → is_done done m ≡ false → can_run box part.need ≡ true → ready_as.Step (spot_of s m) ≡ ready_as.Step spot →
      Chosen box s done m (part ∷ more) spot
  here m spot part more d g h =
      let same = spot_same (spot_of s m) spot h in
      let number : m ≡ spot.part = ap (λ (x : Spot). x.part) same in
      record {
        step = ap (λ (x : Spot). x.step) same;
        k = 0;
        number = omega (arith, number);
        part = part;
        there = refl;
        fresh = ap (is_done done) (sym number) ∙ d;
        runs = g;
      }

  led_on : (m : ℕ) (spot : Spot) (missing : Option Port) (part : Part) (more : List Part) (d g : Bool) → is_done done m ≡ d → can_run box part.need ≡ g →
      led d g m missing part.need more ≡ ready_as.Step spot → ((o : Option Port) → ready_from box s done (suc m) o more ≡ ready_as.Step spot → Chosen box s done (suc m) more spot) →
      Chosen box s done m (part ∷ more) spot
  led_on m spot missing part more true g e f h later = further m spot part more (later missing h)
  led_on m spot missing part more false true e f h later = here m spot part more e f h
  led_on m spot missing part more false false e f h later = further m spot part more (later (option_or missing (port_needed part.need)) h)

  chosen : (parts : List Part) (m : ℕ) (spot : Spot) (missing : Option Port) → ready_from box s done m missing parts ≡ ready_as.Step spot → Chosen box s done m parts spot
  chosen [] m spot missing h = absurd (waiting_not missing spot h)
  chosen (part ∷ more) m spot missing h =
      led_on m spot missing part more (is_done done m) (can_run box part.need) refl refl h (λ o later. chosen more (suc m) spot o later)

  -- ---- waiting

  abbrev NoneRuns : ℕ → List Part → Type 0
  NoneRuns m parts = (i : ℕ) (part : Part) → slice_get parts i ≡ Some part → is_done done (m + i) ≡ false → can_run box part.need ≡ false

  one_more : (m : ℕ) (part : Part) (more : List Part) → (is_done done m ≡ false → can_run box part.need ≡ false) → NoneRuns (suc m) more → NoneRuns m (part ∷ more)
  one_more m part more this rest zero other is fresh =
      let same : part ≡ other = cc in
      let zero_more : m + 0 ≡ m = omega arith in
      ap (λ (x : Part). can_run box x.need) (sym same) ∙ this (ap (is_done done) (sym zero_more) ∙ fresh)
  one_more m part more this rest (suc i) other is fresh = let moved : suc m + i ≡ m + suc i = omega arith in rest i other is (ap (is_done done) moved ∙ fresh)

  led_none : (m : ℕ) (port : Port) (missing : Option Port) (part : Part) (more : List Part) (d g : Bool) → is_done done m ≡ d → can_run box part.need ≡ g →
      led d g m missing part.need more ≡ ready_as.Await port → ((o : Option Port) → ready_from box s done (suc m) o more ≡ ready_as.Await port → NoneRuns (suc m) more) → NoneRuns m (part ∷ more)
  led_none m port missing part more true g e f h later = one_more m part more (λ k. let t : true ≡ false = sym e ∙ k in absurd cc) (later missing h)
  led_none m port missing part more false true e f h later = absurd (step_waits (spot_of s m) port h)
  led_none m port missing part more false false e f h later = one_more m part more (λ k. f) (later (option_or missing (port_needed part.need)) h)

  nothing_there : (i : ℕ) (part : Part) → slice_get [] i ≡ Some part → ⊥
  nothing_there i part h = cc

  none_runs : (parts : List Part) (m : ℕ) (port : Port) (missing : Option Port) → ready_from box s done m missing parts ≡ ready_as.Await port → NoneRuns m parts
  none_runs [] m port missing h = λ i part is fresh. absurd (nothing_there i part is)
  none_runs (part ∷ more) m port missing h =
      led_none m port missing part more (is_done done m) (can_run box part.need) refl refl h (λ o later. none_runs more (suc m) port o later)

  -- the port that was missing first stays
  led_kept : (m : ℕ) (q port : Port) (need : Need) (more : List Part) (d g : Bool) → led d g m (Some q) need more ≡ ready_as.Await port →
      (ready_from box s done (suc m) (Some q) more ≡ ready_as.Await port → q ≡ port) → q ≡ port
  led_kept m q port need more true g h later = later h
  led_kept m q port need more false true h later = absurd (step_waits (spot_of s m) port h)
  led_kept m q port need more false false h later = later h

  kept : (parts : List Part) (m : ℕ) (q port : Port) → ready_from box s done m (Some q) parts ≡ ready_as.Await port → q ≡ port
  kept [] m q port h = port_same q port h
  kept (part ∷ more) m q port h = led_kept m q port part.need more (is_done done m) (can_run box part.need) h (kept more (suc m) q port)

  missed_later : (m : ℕ) (port : Port) (part : Part) (more : List Part) → is_done done m ≡ true → Missed box done (suc m) more port → Missed box done m (part ∷ more) port
  missed_later m port part more d f =
      let moved : m + suc f.k ≡ suc m + f.k = omega arith in
      record {
        k = suc f.k;
        part = f.part;
        there = f.there;
        fresh = ap (is_done done) moved ∙ f.fresh;
        need = f.need;
        missing = f.missing;
        before = λ i low high. elim (cases_lt m i) [
          | inl above ↦ f.before i (omega (arith, above)) (omega (arith, high))
          | inr below ↦ let same : i ≡ m = omega (arith, low, below) in ap (is_done done) same ∙ d
        ];
      }

  missed_here : (m : ℕ) (port : Port) (part : Part) (more : List Part) → is_done done m ≡ false → (f : Stuck box part.need) → f.port ≡ port → Missed box done m (part ∷ more) port
  missed_here m port part more d f same =
      let zero_more : m + 0 ≡ m = omega arith in
      record {
        k = 0;
        part = part;
        there = refl;
        fresh = ap (is_done done) zero_more ∙ d;
        need = f.is ∙ ap (λ x. needs.Port x) same;
        missing = ap box (sym same) ∙ f.none;
        before = λ i low high. absurd (omega (arith, low, high));
      }

  led_missed : (m : ℕ) (port : Port) (part : Part) (more : List Part) (d g : Bool) → is_done done m ≡ d → can_run box part.need ≡ g → led d g m None part.need more ≡ ready_as.Await port →
      (ready_from box s done (suc m) None more ≡ ready_as.Await port → Missed box done (suc m) more port) → Missed box done m (part ∷ more) port
  led_missed m port part more true g e f h later = missed_later m port part more e (later h)
  led_missed m port part more false true e f h later = absurd (step_waits (spot_of s m) port h)
  led_missed m port part more false false e f h later =
      let need = stuck box part.need f in
      let some : option_or None (port_needed part.need) ≡ Some need.port = ap port_needed need.is in
      missed_here m port part more e need (kept more (suc m) need.port port (ap (λ o. ready_from box s done (suc m) o more) (sym some) ∙ h))

  missed : (parts : List Part) (m : ℕ) (port : Port) → ready_from box s done m None parts ≡ ready_as.Await port → Missed box done m parts port
  missed [] m port h = absurd (none_waits port h)
  missed (part ∷ more) m port h = led_missed m port part more (is_done done m) (can_run box part.need) refl refl h (missed more (suc m) port)

  -- ---- no part left

  led_some : (m : ℕ) (q : Port) (need : Need) (more : List Part) (d g : Bool) → led d g m (Some q) need more ≡ ready_as.AtTop →
      (ready_from box s done (suc m) (Some q) more ≡ ready_as.AtTop → ⊥) → ⊥
  led_some m q need more true g h later = later h
  led_some m q need more false true h later = step_top (spot_of s m) h
  led_some m q need more false false h later = later h

  never_top : (parts : List Part) (m : ℕ) (q : Port) → ready_from box s done m (Some q) parts ≡ ready_as.AtTop → ⊥
  never_top [] m q h = some_waits q h
  never_top (part ∷ more) m q h = led_some m q part.need more (is_done done m) (can_run box part.need) h (never_top more (suc m) q)

  abbrev AllOver : ℕ → List Part → Type 0
  AllOver m parts = (i : ℕ) → i < length parts → is_done done (m + i) ≡ true

  over_more : (m : ℕ) (part : Part) (more : List Part) → is_done done m ≡ true → AllOver (suc m) more → AllOver m (part ∷ more)
  over_more m part more this rest zero h = let zero_more : m + 0 ≡ m = omega arith in ap (is_done done) zero_more ∙ this
  over_more m part more this rest (suc i) h = let moved : m + suc i ≡ suc m + i = omega arith in ap (is_done done) moved ∙ rest i (omega (arith, h))

  led_over : (m : ℕ) (part : Part) (more : List Part) (d g : Bool) → is_done done m ≡ d → can_run box part.need ≡ g → led d g m None part.need more ≡ ready_as.AtTop →
      (ready_from box s done (suc m) None more ≡ ready_as.AtTop → AllOver (suc m) more) → AllOver m (part ∷ more)
  led_over m part more true g e f h later = over_more m part more e (later h)
  led_over m part more false true e f h later = absurd (step_top (spot_of s m) h)
  led_over m part more false false e f h later =
      let need = stuck box part.need f in
      let some : option_or None (port_needed part.need) ≡ Some need.port = ap port_needed need.is in
      absurd (never_top more (suc m) need.port (ap (λ o. ready_from box s done (suc m) o more) (sym some) ∙ h))

  over : (parts : List Part) (m : ℕ) → ready_from box s done m None parts ≡ ready_as.AtTop → AllOver m parts
  over [] m h = λ i k. absurd (omega (arith, k))
  over (part ∷ more) m h = led_over m part more (is_done done m) (can_run box part.need) refl refl h (over more (suc m))

-- ---- an object

underway_at : (p : Plan) (o : Progress) (s : ℕ) (step : Option ℕ) → o.step ≡ step → step ≡ Some s → Fits p o → Underway p o s
underway_at p o s step is at fits = let P : Option ℕ → Type 0 = λ q. IfSome q (Underway p o) in subst P (is ∙ at) fits.underway

pub underway : (p : Plan) (o : Progress) (s : ℕ) → Fits p o → o.step ≡ Some s → Underway p o s
underway p o s fits is = underway_at p o s (Some s) is refl fits

goes_at : (p : Plan) (o : Progress) (spot : Spot) (step : Option ℕ) → o.step ≡ step → Fits p o → ready_at p o step ≡ ready_as.Step spot → Goes p o spot
goes_at p o spot None is fits h = absurd cc
goes_at p o spot (Some s) is fits h =
    let f = chosen (arrived p o) s o.parts (parts_at p o.element.0 s) 0 spot None h in
    let step : o.step ≡ Some spot.step = is ∙ ap (λ x. Some x) f.step in
    let number : f.k ≡ spot.part = omega (arith, f.number) in
    record {
      step = step;
      underway = underway p o spot.step fits step;
      part = f.part;
      there = ap (λ x. slice_get (parts_at p o.element.0 x) spot.part) (sym f.step) ∙ ap (slice_get (parts_at p o.element.0 s)) (sym number) ∙ f.there;
      fresh = f.fresh;
      runs = f.runs;
    }

pub goes : (p : Plan) (o : Progress) (spot : Spot) → Fits p o → ready p o ≡ ready_as.Step spot → Goes p o spot
unfolding ready
goes p o spot fits h = goes_at p o spot o.step refl fits h

waits_at : (p : Plan) (o : Progress) (port : Port) (step : Option ℕ) → o.step ≡ step → ready_at p o step ≡ ready_as.Await port → Waits p o port
waits_at p o port None is h = absurd cc
waits_at p o port (Some s) is h =
    let f = missed (arrived p o) s o.parts (parts_at p o.element.0 s) 0 port h in
    let from_zero : (i : ℕ) → 0 + i ≡ i = λ i. omega arith in
    record {
      at = s;
      step = is;
      first = f.k;
      part = f.part;
      there = f.there;
      fresh = ap (is_done o.parts) (sym (from_zero f.k)) ∙ f.fresh;
      need = f.need;
      missing = f.missing;
      before = λ i h. f.before i (omega arith) (omega (arith, h));
      none = λ i other there fresh. none_runs (arrived p o) s o.parts (parts_at p o.element.0 s) 0 port None h i other there (ap (is_done o.parts) (from_zero i) ∙ fresh);
    }

pub waits : (p : Plan) (o : Progress) (port : Port) → Fits p o → ready p o ≡ ready_as.Await port → Waits p o port
unfolding ready
waits p o port fits h = waits_at p o port o.step refl h

top_at : (p : Plan) (o : Progress) (step : Option ℕ) → o.step ≡ step → Fits p o → ready_at p o step ≡ ready_as.AtTop → step ≡ None
top_at p o None is fits h = refl
top_at p o (Some s) is fits h =
    let each = over (arrived p o) s o.parts (parts_at p o.element.0 s) 0 h in
    let from_zero : (i : ℕ) → 0 + i ≡ i = λ i. omega arith in
    let all : all_done o.parts (length (parts_at p o.element.0 s)) ≡ true =
    all_of_each o.parts (length (parts_at p o.element.0 s)) (λ i k. ap (is_done o.parts) (sym (from_zero i)) ∙ each i k) in
    let t : true ≡ false = sym all ∙ (underway p o s fits is).left in
    absurd cc

pub top : (p : Plan) (o : Progress) → Fits p o → ready p o ≡ ready_as.AtTop → o.step ≡ None
unfolding ready
top p o fits h = top_at p o o.step refl fits h

pub between : (p : Plan) (o : Progress) → o.step ≡ None → ready p o ≡ ready_as.AtTop
unfolding ready
between p o is = ap (ready_at p o) is

pub ready_tells : ReadyTells
ready_tells = record { step = goes; await = waits; top = top; between = between }

-- ---- what stays

-- what an object is after a part, by whether the step and the iteration are over
abbrev gone : Bool → Bool → ℕ → Progress → Progress
gone all last s o = cond all (cond last (record o { done = suc o.done; step = None; parts = none_done; mail = from o.mail (suc o.done) }) (record o { step = Some (suc s); parts = none_done })) o

same_element : (all last : Bool) (s : ℕ) (o : Progress) → (gone all last s o).element ≡ o.element
same_element true true s o = refl
same_element true false s o = refl
same_element false last s o = refl

same_place : (all last : Bool) (s : ℕ) (o : Progress) → (gone all last s o).place ≡ o.place
same_place true true s o = refl
same_place true false s o = refl
same_place false last s o = refl

pub element_kept : (p : Plan) (o : Progress) (spot : Spot) → (advanced p o spot).element ≡ o.element
unfolding advanced
element_kept p o spot =
    same_element (all_done (slice_set o.parts spot.part true) (length (parts_at p o.element.0 spot.step))) (suc spot.step == length (steps_of p o.element.0)) spot.step
    (record o { cells = (ran p o spot).cells; parts = slice_set o.parts spot.part true; mail = taken (need_of p o spot) o.done o.mail })

pub place_kept : (p : Plan) (o : Progress) (spot : Spot) → (advanced p o spot).place ≡ o.place
unfolding advanced
place_kept p o spot =
    same_place (all_done (slice_set o.parts spot.part true) (length (parts_at p o.element.0 spot.step))) (suc spot.step == length (steps_of p o.element.0)) spot.step
    (record o { cells = (ran p o spot).cells; parts = slice_set o.parts spot.part true; mail = taken (need_of p o spot) o.done o.mail })

pub element_stays : ElementStays
element_stays = record { element = element_kept; place = place_kept }
