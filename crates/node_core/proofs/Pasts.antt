-- What an object is past, and what it got, after a turn and after a message.
use Rattle.std.proofs.Common.{◌≡◌, ℕ, zero, suc, ◌<◌, ◌≤◌, inl, inr, Bool, true, false, cond, List, [], ◌∷◌, length, refl, ap, sym, ◌∙◌, arith, subst, Option, Some, None, IsSome}
use Rattle.std.specs.Prelude.{◌⊎◌, ◌&&◌, ◌==◌, is_none, is_some, nat_le, nat_lt, slice_get, slice_set}
use Rattle.std.specs.Option.{option_map_or}
use Rattle.std.proofs.lemmas.Bool.{eqb-true, ltb-true}
use Rattle.std.proofs.lemmas.Bool.Decides.{nat_tests}
use Rattle.chare_base.specs.declared.message.Need.{Need}
use Rattle.chare_base.specs.declared.message.Need.TheVariants as needs
use Rattle.chare_base.specs.declared.message.Payload.{Payload}
use Rattle.chare_base.specs.declared.message.Port.{Port}
use Rattle.chare_base.specs.declared.plan.Part.{Part}
use Rattle.chare_base.specs.declared.plan.Plan.{Plan}
use Rattle.chare_base.specs.declared.plan.Spot.{Spot}
use Rattle.chare_base.specs.declared.plan.Step.{Step}
use Rattle.chare_base.specs.Elements.{block_at, need_at, parts_at, steps_of}
use Rattle.chare_base.specs.Flip.{Flip}
use Rattle.chare_base.specs.Ports.{block_sends}
use Rattle.chare_eval.specs.Inside.{is_done, none_done}
use Rattle.ref_messages.specs.declared.key.RefKey.{RefKey}
use Rattle.ref_messages.specs.Queue.{from, message, same_key}
use Rattle.ref_messages.proofs.Told.{found_not_before, told}
use Rattle.object_steps.specs.Laws.{struck_by}
use Rattle.object_steps.specs.Objects.{Progress, advanced, all_done, begun, key_of, mailed, need_of, ran, taken}
use Rattle.object_steps.specs.Turns.{Goes}
use Rattle.object_steps.proofs.Turns.{each_of_all}
use Rattle.node_core.specs.Mail.{Got, Past, PastIn, Took}
use Rattle.node_core.specs.Turns.{takes}
use Rattle.node_core.proofs.Messages.{found_put, put_same, taken_other}

-- ---- parts that are there

-- a part that sends something is one of its step's
pub record There (p : Plan) (e s q : ℕ) : Type 0 where
  pub step : s < length (steps_of p e)
  pub part : q < length (parts_at p e s)

no_part : (parts : List Part) (q : ℕ) → length parts ≤ q → option_map_or (λ (x : Part). x.block) (slice_get parts q) [] ≡ []
no_part [] q h = refl
no_part (x ∷ more) zero h = absurd (omega (arith, h))
no_part (x ∷ more) (suc q) h = no_part more q (omega (arith, h))

no_step : (steps : List Step) (s : ℕ) → length steps ≤ s → option_map_or (λ (x : Step). x.parts) (slice_get steps s) [] ≡ []
no_step [] s h = refl
no_step (x ∷ more) zero h = absurd (omega (arith, h))
no_step (x ∷ more) (suc s) h = no_step more s (omega (arith, h))

pub sends_there : (p : Plan) (e s q : ℕ) (port : Port) → 0 < block_sends port (block_at p e s q) → There p e s q
sends_there p e s q port some = by_part (nat_lt q (length (parts_at p e s))) refl
  where
    by_step : q < length (parts_at p e s) → (b : Bool) → nat_lt s (length (steps_of p e)) ≡ b → There p e s q
    by_step part true h = record { step = ltb-true s (length (steps_of p e)) h; part = part }
    by_step part false h =
        let over : length (steps_of p e) ≤ s = grind (arith, nat_tests, h) in
        let none : length (parts_at p e s) ≡ 0 = ap length (no_step (steps_of p e) s over) in
        absurd (omega (arith, part, none))

    by_part : (b : Bool) → nat_lt q (length (parts_at p e s)) ≡ b → There p e s q
    by_part true h = by_step (ltb-true q (length (parts_at p e s)) h) (nat_lt s (length (steps_of p e))) refl
    by_part false h =
        let over : length (parts_at p e s) ≤ q = grind (arith, nat_tests, h) in
        let none : block_sends port (block_at p e s q) ≡ 0 = ap (block_sends port) (no_part (parts_at p e s) q over) in
        absurd (omega (arith, some, none))

-- ---- parts that are done

done_stays : (done : List Bool) (i q : ℕ) → is_done done q ≡ true → is_done (slice_set done i true) q ≡ true
done_stays [] i q h = h
done_stays (b ∷ more) zero zero h = refl
done_stays (b ∷ more) zero (suc q) h = h
done_stays (b ∷ more) (suc i) zero h = h
done_stays (b ∷ more) (suc i) (suc q) h = done_stays more i q h

pub done_now : (done : List Bool) (i : ℕ) → i < length done → is_done (slice_set done i true) i ≡ true
done_now [] i h = absurd (omega (arith, h))
done_now (b ∷ more) zero h = refl
done_now (b ∷ more) (suc i) h = done_now more i (omega (arith, h))

-- what is done was done before, or is the part that ran
done_before : (done : List Bool) (i q : ℕ) → is_done (slice_set done i true) q ≡ true → (is_done done q ≡ true) ⊎ (q ≡ i)
done_before [] i q h = inl h
done_before (b ∷ more) zero zero h = inr refl
done_before (b ∷ more) zero (suc q) h = inl h
done_before (b ∷ more) (suc i) zero h = inl h
done_before (b ∷ more) (suc i) (suc q) h = by (done_before more i q h)
  where
    by : ((is_done more q ≡ true) ⊎ (q ≡ i)) → (is_done more q ≡ true) ⊎ (suc q ≡ suc i)
    by (inl g) = inl g
    by (inr g) = inr (ap suc g)

abbrev AllFalse : List Bool → Type 0
AllFalse [] = Unit {0}
AllFalse (b ∷ more) = (b ≡ false) × AllFalse more

none_of : (done : List Bool) → AllFalse done → (q : ℕ) → is_done done q ≡ true → ⊥
none_of [] all q h = let e : false ≡ true = h in cc
none_of (b ∷ more) all zero h = let e : false ≡ true = sym all.0 ∙ h in cc
none_of (b ∷ more) all (suc q) h = none_of more all.1 q h

none_is_done : (q : ℕ) → is_done none_done q ≡ true → ⊥
none_is_done q h = none_of none_done (refl, (refl, (refl, (refl, (refl, (refl, (refl, (refl, tt)))))))) q h

-- ---- a part

-- past before, or the part that ran
abbrev pub Newly : ℕ → ℕ → ℕ → Progress → Spot → Type 0
Newly k s q o spot = Past k s q o ⊎ ((k ≡ o.done) × ((s ≡ spot.step) × (q ≡ spot.part)))

module _ (p : Plan) (o : Progress) (spot : Spot) (g : Goes p o spot) (eight : length o.parts ≡ 8) (few : spot.part < 8) where
  abbrev after : Progress
  after = record o { cells = (ran p o spot).cells; parts = slice_set o.parts spot.part true; mail = taken (need_of p o spot) o.done o.mail }

  abbrev on : Bool → Bool → Progress
  on a t = cond a (cond t (record after { done = suc o.done; step = None; parts = none_done; mail = from after.mail (suc o.done) }) (record after { step = Some (suc spot.step); parts = none_done })) after

  abbrev over : Bool
  over = all_done after.parts (length (parts_at p o.element.0 spot.step))

  abbrev last : Bool
  last = suc spot.step == length (steps_of p o.element.0)

  -- what it was past it is past
  in_step : (s q : ℕ) → PastIn s q o.step o.parts → (s < spot.step) ⊎ ((s ≡ spot.step) × (is_done o.parts q ≡ true))
  in_step s q h = subst (λ t. PastIn s q t o.parts) g.step h

  stays_in : (s q : ℕ) (step : Option ℕ) → PastIn s q step o.parts → PastIn s q step after.parts
  stays_in s q None h = h
  stays_in s q (Some t) (inl h) = inl h
  stays_in s q (Some t) (inr h) = inr (h.0, done_stays o.parts spot.part q h.1)

  below : (s q : ℕ) → (s < spot.step) ⊎ ((s ≡ spot.step) × (is_done o.parts q ≡ true)) → s < suc spot.step
  below s q (inl h) = omega (arith, h)
  below s q (inr h) = let same = h.0 in omega (arith, same)

  past_on : (a t : Bool) (k s q : ℕ) → Past k s q o → Past k s q (on a t)
  past_on false t k s q (inl h) = inl h
  past_on false t k s q (inr h) = inr (h.0, stays_in s q o.step h.1)
  past_on true false k s q (inl h) = inl h
  past_on true false k s q (inr h) = inr (h.0, inl (below s q (in_step s q h.1)))
  past_on true true k s q (inl h) = inl (omega (arith, h))
  past_on true true k s q (inr h) = let same = h.0 in inl (omega (arith, same))

  pub past_stays : (k s q : ℕ) → Past k s q o → Past k s q (advanced p o spot)
  unfolding advanced
  past_stays k s q h = past_on over last k s q h

  now_on : (a t : Bool) → Past o.done spot.step spot.part (on a t)
  now_on false t = inr (refl, subst (λ w. PastIn spot.step spot.part w after.parts) (sym g.step) (inr (refl, done_now o.parts spot.part (omega (arith, eight, few)))))
  now_on true false = inr (refl, inl (omega arith))
  now_on true true = inl (omega arith)

  pub past_now : Past o.done spot.step spot.part (advanced p o spot)
  unfolding advanced
  past_now = now_on over last

  -- what it is past it was past, or it is the part that ran
  was_done : (k s q : ℕ) → k ≡ o.done → s ≡ spot.step → is_done after.parts q ≡ true → Newly k s q o spot
  was_done k s q same at h = by (done_before o.parts spot.part q h)
    where
      by : ((is_done o.parts q ≡ true) ⊎ (q ≡ spot.part)) → Newly k s q o spot
      by (inl d) = inl (inr (same, subst (λ w. PastIn s q w o.parts) (sym g.step) (inr (at, d))))
      by (inr d) = inr (same, (at, d))

  in_round : (k s q : ℕ) → There p o.element.0 s q → k ≡ o.done → s < suc spot.step → all_done after.parts (length (parts_at p o.element.0 spot.step)) ≡ true → Newly k s q o spot
  in_round k s q there same h all = by (s == spot.step) refl
    where
      by : (b : Bool) → (s == spot.step) ≡ b → Newly k s q o spot
      by true is =
          let at = eqb-true s spot.step is in
          was_done k s q same at (each_of_all after.parts (length (parts_at p o.element.0 spot.step)) q all (subst (λ n. q < length (parts_at p o.element.0 n)) at there.part))
      by false is =
          let less : s < spot.step = grind (arith, nat_tests, is, h) in
          inl (inr (same, subst (λ w. PastIn s q w o.parts) (sym g.step) (inl less)))

  new_on : (a t : Bool) → over ≡ a → last ≡ t → (k s q : ℕ) → There p o.element.0 s q → Past k s q (on a t) → Newly k s q o spot
  new_on false t ha ht k s q there (inl h) = inl (inl h)
  new_on false t ha ht k s q there (inr h) = by (subst (λ w. PastIn s q w after.parts) g.step h.1)
    where
      by : (s < spot.step) ⊎ ((s ≡ spot.step) × (is_done after.parts q ≡ true)) → Newly k s q o spot
      by (inl less) = inl (inr (h.0, subst (λ w. PastIn s q w o.parts) (sym g.step) (inl less)))
      by (inr d) = was_done k s q h.0 d.0 d.1
  new_on true false ha ht k s q there (inl h) = inl (inl h)
  new_on true false ha ht k s q there (inr h) = by h.1
    where
      by : (s < suc spot.step) ⊎ ((s ≡ suc spot.step) × (is_done none_done q ≡ true)) → Newly k s q o spot
      by (inl less) = in_round k s q there h.0 less ha
      by (inr d) = absurd (none_is_done q d.1)
  new_on true true ha ht k s q there (inr h) = absurd h.1
  new_on true true ha ht k s q there (inl h) = by (k == o.done) refl
    where
      by : (b : Bool) → (k == o.done) ≡ b → Newly k s q o spot
      by true is =
          let end = eqb-true (suc spot.step) (length (steps_of p o.element.0)) ht in
          let step = there.step in
          in_round k s q there (eqb-true k o.done is) (omega (arith, step, end)) ha
      by false is = inl (inl (grind (arith, nat_tests, is, h)))

  pub past_newly : (k s q : ℕ) → There p o.element.0 s q → Past k s q (advanced p o spot) → Newly k s q o spot
  unfolding advanced
  past_newly k s q there h = new_on over last refl refl k s q there h

  -- ---- what it got

  -- what it held it holds before what is over goes, or the part took it
  held_taken : (k : ℕ) (port : Port) → IsSome (message o.mail (key_of k port)) → IsSome (message after.mail (key_of k port)) ⊎ ((k ≡ o.done) × (need_of p o spot ≡ needs.Port port))
  held_taken k port h = by (need_of p o spot) refl
    where
      test : (other : Port) → need_of p o spot ≡ needs.Port other → (b : Bool) → same_key (key_of k port) (key_of o.done other) ≡ b →
          IsSome (message (taken (needs.Port other) o.done o.mail) (key_of k port)) ⊎ ((k ≡ o.done) × (need_of p o spot ≡ needs.Port port))
      test other is true same =
          let one : key_of k port ≡ key_of o.done other = (told (key_of k port) (key_of o.done other)).0 same in
          let its : port ≡ other = ap (λ (r : RefKey). r.port) one in
          inr (ap (λ (r : RefKey). r.iteration) one, is ∙ ap (λ y. needs.Port y) (sym its))
      test other is false differs =
          inl
          (subst IsSome
          (sym
          (taken_other (needs.Port other) o.done o.mail (key_of k port)
          (λ third q r.
          let its : other ≡ third = (cc) in
          let t : same_key (key_of k port) (key_of o.done other) ≡ true = (told (key_of k port) (key_of o.done other)).1 (r ∙ ap (λ y. key_of o.done y) (sym its)) in
          let e : true ≡ false = sym t ∙ differs in cc)))
          h)

      by : (n : Need) → need_of p o spot ≡ n → IsSome (message (taken n o.done o.mail) (key_of k port)) ⊎ ((k ≡ o.done) × (need_of p o spot ≡ needs.Port port))
      by needs.Nothing is = inl h
      by (needs.Port other) is = test other is (same_key (key_of k port) (key_of o.done other)) refl

  took_on : (a t : Bool) (k : ℕ) (port : Port) → (on a t).element ≡ o.element → (k < o.done) ⊎ Took p k port o → (k < (on a t).done) ⊎ Took p k port (on a t)
  took_on a t k port same (inr h) = inr (record {
    step = h.step;
    part = h.part;
    need = ap (λ e. need_at p e.0 h.step h.part) same ∙ h.need;
    past = past_on a t k h.step h.part h.past;
  })
  took_on false t k port same (inl h) = inl h
  took_on true false k port same (inl h) = inl h
  took_on true true k port same (inl h) = inl (omega (arith, h))

  element_on : (a t : Bool) → (on a t).element ≡ o.element
  element_on false t = refl
  element_on true false = refl
  element_on true true = refl

  -- the part took it
  took_now : (a t : Bool) (k : ℕ) (port : Port) → k ≡ o.done → need_of p o spot ≡ needs.Port port → Took p k port (on a t)
  took_now a t k port same need = record {
    step = spot.step;
    part = spot.part;
    need = ap (λ e. need_at p e.0 spot.step spot.part) (element_on a t) ∙ need;
    past = subst (λ n. Past n spot.step spot.part (on a t)) (sym same) (now_on a t);
  }

  kept_on : (a t : Bool) (k : ℕ) (port : Port) → IsSome (message after.mail (key_of k port)) → Got p k port (on a t)
  kept_on false t k port h = inl h
  kept_on true false k port h = inl h
  kept_on true true k port h = by (nat_le (suc o.done) k) refl
    where
      by : (b : Bool) → nat_le (suc o.done) k ≡ b → Got p k port (on true true)
      by true is = inl (subst IsSome (sym (found_not_before (suc o.done) (key_of k port) after.mail.held ∙ ap (λ b. cond b (message after.mail (key_of k port)) None) is)) h)
      by false is = inr (inl (grind (arith, nat_tests, is)))

  got_on : (a t : Bool) (k : ℕ) (port : Port) → Got p k port o → Got p k port (on a t)
  got_on a t k port (inr h) = inr (took_on a t k port (element_on a t) h)
  got_on a t k port (inl h) = by (held_taken k port h)
    where
      by : IsSome (message after.mail (key_of k port)) ⊎ ((k ≡ o.done) × (need_of p o spot ≡ needs.Port port)) → Got p k port (on a t)
      by (inl held) = kept_on a t k port held
      by (inr took) = inr (inr (took_now a t k port took.0 took.1))

  pub got_advanced : (k : ℕ) (port : Port) → Got p k port o → Got p k port (advanced p o spot)
  unfolding advanced
  got_advanced k port h = got_on over last k port h

-- ---- a beginning

pub past_begun : (lines : List Flip) (o : Progress) (k s q : ℕ) → o.step ≡ None → Past k s q o → Past k s q (begun (struck_by lines o))
past_begun lines o k s q top (inl h) = inl h
past_begun lines o k s q top (inr h) = absurd (subst (λ t. PastIn s q t o.parts) top h.1)

pub begun_past : (lines : List Flip) (o : Progress) (k s q : ℕ) → o.parts ≡ none_done → Past k s q (begun (struck_by lines o)) → Past k s q o
begun_past lines o k s q none (inl h) = inl h
begun_past lines o k s q none (inr h) = by h.1
  where
    by : (s < 0) ⊎ ((s ≡ 0) × (is_done o.parts q ≡ true)) → Past k s q o
    by (inl less) = absurd (omega (arith, less))
    by (inr d) = absurd (none_is_done q (ap (λ l. is_done l q) (sym none) ∙ d.1))

pub got_begun : (p : Plan) (lines : List Flip) (o : Progress) (k : ℕ) (port : Port) → o.step ≡ None → Got p k port o → Got p k port (begun (struck_by lines o))
got_begun p lines o k port top (inl h) = inl h
got_begun p lines o k port top (inr (inl h)) = inr (inl h)
got_begun p lines o k port top (inr (inr h)) = inr (inr (record { step = h.step; part = h.part; need = h.need; past = past_begun lines o k h.step h.part top h.past }))

-- ---- a message

pub past_takes : (o : Progress) (key : RefKey) (payload : Payload) (k s q : ℕ) → Past k s q o → Past k s q (takes o key payload)
past_takes o key payload k s q h = by (nat_le o.mail.since key.iteration && is_none (message o.mail key))
  where
    by : (b : Bool) → Past k s q (cond b (mailed o key payload) o)
    by false = h
    by true = h

pub takes_past : (o : Progress) (key : RefKey) (payload : Payload) (k s q : ℕ) → Past k s q (takes o key payload) → Past k s q o
takes_past o key payload k s q = by (nat_le o.mail.since key.iteration && is_none (message o.mail key))
  where
    by : (b : Bool) → Past k s q (cond b (mailed o key payload) o) → Past k s q o
    by false h = h
    by true h = h

some_put : (b : Bool) (payload : Payload) (m : Option Payload) → IsSome m → IsSome (cond b (Some payload) m)
some_put true payload m h = refl
some_put false payload m h = h

pub got_takes : (p : Plan) (k : ℕ) (port : Port) (o : Progress) (key : RefKey) (payload : Payload) → Got p k port o → Got p k port (takes o key payload)
got_takes p k port o key payload got = by (nat_le o.mail.since key.iteration && is_none (message o.mail key))
  where
    held : Got p k port o → Got p k port (mailed o key payload)
    held (inl h) = inl (subst IsSome (sym (found_put o.mail key (key_of k port) payload)) (some_put (same_key (key_of k port) key) payload (message o.mail (key_of k port)) h))
    held (inr (inl h)) = inr (inl h)
    held (inr (inr h)) = inr (inr (record { step = h.step; part = h.part; need = h.need; past = h.past }))

    by : (b : Bool) → Got p k port (cond b (mailed o key payload) o)
    by false = got
    by true = held got

-- a message that came is held, or its iteration is over
pub got_own : (p : Plan) (k : ℕ) (port : Port) (o : Progress) (payload : Payload) → o.mail.since ≡ o.done → Got p k port (takes o (key_of k port) payload)
got_own p k port o payload since = by (nat_le o.mail.since k) (is_none (message o.mail (key_of k port))) refl refl
  where
    some : (m : Option Payload) → is_none m ≡ false → IsSome m
    some None h = absurd (let e : true ≡ false = h in cc)
    some (Some y) h = refl

    late : nat_le o.mail.since k ≡ false → k < o.done
    late h = grind (arith, nat_tests, h, since)

    by : (a b : Bool) → nat_le o.mail.since k ≡ a → is_none (message o.mail (key_of k port)) ≡ b → Got p k port (cond (a && b) (mailed o (key_of k port) payload) o)
    by true true ha hb = inl (ap (λ m. is_some m) (put_same o.mail (key_of k port) payload))
    by true false ha hb = inl (some (message o.mail (key_of k port)) hb)
    by false b ha hb = inr (inl (late ha))
