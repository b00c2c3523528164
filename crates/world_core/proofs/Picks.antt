-- One turn of a schedule.
use Rattle.std.proofs.Common.{◌≡◌, ℕ, zero, suc, ◌<◌, ◌≤◌, ◌+◌, ◌-◌, ◌++◌, Bool, true, false, cond, List, [], ◌∷◌, refl, ap, sym, ◌∙◌, arith, nat_lt, Option, Some, None}
use Rattle.std.specs.Option.{option_map}
use Rattle.std.specs.Prelude.{is_some, slice_get}
use Rattle.std.proofs.lemmas.Bool.{lt-ltb, ltb-true, ltb-false}
use Rattle.std.proofs.lemmas.Option.{same_Some}
use Rattle.chare_base.specs.declared.plan.Plan.{Plan}
use Rattle.world_core.specs.declared.event.Chooser.{Chooser}
use Rattle.world_core.specs.declared.event.Event.{Event}
use Rattle.world_core.specs.Worlds.{Setting, WorldState, actor_at, chosen_of, enabled, event_at, first_above, first_or, goes_on, happens, picked, picked_by, picked_event, reached, ready_actors, ready_from, with_event}
use Rattle.world_core.specs.declared.event.Chooser.TheVariants as choosers

module _ (s : Setting) (chooser : Chooser) (w : WorldState) where
  -- how it goes on
  abbrev on : ℕ → ℕ → Event → List Event
  on n i event = picked s n (goes_on chooser i) (happens s w event)

  pub picked_nobody : (left : ℕ) → chosen_of chooser (ready_actors s w) ≡ None → reached s w (picked s left chooser w) ≡ w
  picked_nobody zero none = refl
  picked_nobody (suc n) none = ap (λ o. reached s w (picked_by s w (on n) o)) none

  pub picked_nothing : (left i : ℕ) → chosen_of chooser (ready_actors s w) ≡ Some i → event_at s w i ≡ None → reached s w (picked s left chooser w) ≡ w
  picked_nothing zero i is none = refl
  picked_nothing (suc n) i is none = ap (λ o. reached s w (picked_by s w (on n) o)) is ∙ ap (λ o. reached s w (picked_event (on n i) o)) none

  pub picked_some : (left i : ℕ) (event : Event) → 0 < left → chosen_of chooser (ready_actors s w) ≡ Some i → event_at s w i ≡ Some event →
      reached s w (picked s left chooser w) ≡ reached s (happens s w event) (picked s (left - 1) (goes_on chooser i) (happens s w event))
  picked_some zero i event some is takes = absurd (omega (arith, some))
  picked_some (suc n) i event some is takes =
      let same : n ≡ suc n - 1 = omega arith in
      ap (λ o. reached s w (picked_by s w (on n) o)) is ∙ ap (λ o. reached s w (picked_event (on n i) o)) takes
      ∙ ap (λ k. reached s (happens s w event) (picked s k (goes_on chooser i) (happens s w event))) same

  -- by the actor that is taken, with its event
  pub picked_none : (left : ℕ) → with_event s.plan s.nodes w (chosen_of chooser (ready_actors s w)) ≡ None → reached s w (picked s left chooser w) ≡ w
  picked_none left is = by (chosen_of chooser (ready_actors s w)) refl is
    where
      no_event : (i : ℕ) (e : Option Event) → option_map {U = ℕ × Event} (λ (event : Event). (i, event)) e ≡ None → e ≡ None
      no_event i None h = refl
      no_event i (Some event) h = absurd (let q : Some (i, event) ≡ None = h in cc)

      by : (o : Option ℕ) → chosen_of chooser (ready_actors s w) ≡ o → with_event s.plan s.nodes w o ≡ None → reached s w (picked s left chooser w) ≡ w
      by None taken h = picked_nobody left taken
      by (Some i) taken h = picked_nothing left i taken (no_event i (event_at s w i) h)

  abbrev Goes : ℕ → ℕ → Event → Type 0
  Goes left i event = reached s w (picked s left chooser w) ≡ reached s (happens s w event) (picked s (left - 1) (goes_on chooser i) (happens s w event))

  pub picked_next : (left i : ℕ) (event : Event) → 0 < left → with_event s.plan s.nodes w (chosen_of chooser (ready_actors s w)) ≡ Some (i, event) → Goes left i event
  picked_next left i event some is = by (chosen_of chooser (ready_actors s w)) refl is
    where
      taken : (j : ℕ) → chosen_of chooser (ready_actors s w) ≡ Some j → (e : Option Event) → event_at s w j ≡ e → option_map {U = ℕ × Event} (λ (x : Event). (j, x)) e ≡ Some (i, event) → Goes left i event
      taken j chosen None at h = absurd (let q : None ≡ Some (i, event) = h in cc)
      taken j chosen (Some x) at h =
          let pair : (j, x) ≡ (i, event) = same_Some (j, x) (i, event) h in
          picked_some left i event some (chosen ∙ ap (λ (q : ℕ × Event). Some q.0) pair) (ap (event_at s w) (sym (ap (λ (q : ℕ × Event). q.0) pair)) ∙ at ∙ ap (λ (q : ℕ × Event). Some q.1) pair)

      by : (o : Option ℕ) → chosen_of chooser (ready_actors s w) ≡ o → with_event s.plan s.nodes w o ≡ Some (i, event) → Goes left i event
      by None chosen h = absurd (let q : None ≡ Some (i, event) = h in cc)
      by (Some j) chosen h = taken j chosen (event_at s w j) refl h

-- one actor more
pub ready_next : (p : Plan) (nodes : ℕ) (w : WorldState) (i n : ℕ) → 0 < n →
    ready_from p nodes w i n ≡ cond (is_some (enabled p nodes w (actor_at nodes i))) (i ∷ ready_from p nodes w (suc i) (n - 1)) (ready_from p nodes w (suc i) (n - 1))
ready_next p nodes w i zero some = absurd (omega (arith, some))
ready_next p nodes w i (suc n) some =
    let same : n ≡ suc n - 1 = omega arith in
    ap (λ k. cond (is_some (enabled p nodes w (actor_at nodes i))) (i ∷ ready_from p nodes w (suc i) k) (ready_from p nodes w (suc i) k)) same

-- whether the next actor is ready or not, the rest stays
pub ready_on : (p : Plan) (nodes : ℕ) (w : WorldState) (i n m : ℕ) (before whole after : List ℕ) (b : Bool) → 0 < n → m ≡ n - 1 → is_some (enabled p nodes w (actor_at nodes i)) ≡ b →
    after ≡ cond b (before ++ i ∷ []) before → before ++ ready_from p nodes w i n ≡ whole → after ++ ready_from p nodes w (i + 1) m ≡ whole
ready_on p nodes w i n m before whole after b some less is then so_far =
    let next : ready_from p nodes w i n ≡ cond b (i ∷ ready_from p nodes w (suc i) (n - 1)) (ready_from p nodes w (suc i) (n - 1)) =
    ready_next p nodes w i n some ∙ ap (λ t. cond t (i ∷ ready_from p nodes w (suc i) (n - 1)) (ready_from p nodes w (suc i) (n - 1))) is in
    let more : i + 1 ≡ suc i = omega arith in
    ap (λ xs. xs ++ ready_from p nodes w (i + 1) m) then ∙ ap (λ j. cond b (before ++ i ∷ []) before ++ ready_from p nodes w j m) more
    ∙ ap (λ k. cond b (before ++ i ∷ []) before ++ ready_from p nodes w (suc i) k) less ∙ by b (ready_from p nodes w (suc i) (n - 1)) ∙ ap (λ xs. before ++ xs) (sym next) ∙ so_far
  where
    joined : (xs zs : List ℕ) → (xs ++ i ∷ []) ++ zs ≡ xs ++ (i ∷ zs)
    joined [] zs = refl
    joined (x ∷ xs) zs = ap (λ rest. x ∷ rest) (joined xs zs)

    by : (t : Bool) (rest : List ℕ) → cond t (before ++ i ∷ []) before ++ rest ≡ before ++ cond t (i ∷ rest) rest
    by true rest = joined before rest
    by false rest = refl

-- ---- going round

module _ (p : Plan) (nodes : ℕ) (w : WorldState) where
  abbrev all_from : ℕ → ℕ → List ℕ
  all_from i n = ready_from p nodes w i n

  abbrev first_from : ℕ → ℕ → Option ℕ
  first_from i n = slice_get (all_from i n) 0

  abbrev acts : ℕ → Bool
  acts i = is_some (enabled p nodes w (actor_at nodes i))

  -- from a number above another on, the first is above it
  beyond : (last n i : ℕ) → last < i → first_above last (all_from i n) ≡ first_from i n
  beyond last zero i h = refl
  beyond last (suc n) i h = by (acts i) (beyond last n (suc i) (omega (arith, h)))
    where
      by : (b : Bool) → first_above last (all_from (suc i) n) ≡ first_from (suc i) n → first_above last (cond b (i ∷ all_from (suc i) n) (all_from (suc i) n)) ≡ slice_get (cond b (i ∷ all_from (suc i) n) (all_from (suc i) n)) 0
      by true rest = ap (λ c. cond c (Some i) (first_above last (all_from (suc i) n))) (lt-ltb last i h)
      by false rest = rest

  above : (last n i : ℕ) → i ≤ suc last → first_above last (all_from i n) ≡ first_from (suc last) ((i + n) - suc last)
  above last zero i h = let none : 0 ≡ (i + 0) - suc last = omega (arith, h) in ap (first_from (suc last)) none
  above last (suc n) i h = by (nat_lt last i) refl (λ low. above last n (suc i) (omega (arith, low)))
    where
      more : (i + suc n) - suc last ≡ (suc i + n) - suc last
      more = omega arith

      before : (b : Bool) → nat_lt last i ≡ false → first_above last (cond b (i ∷ all_from (suc i) n) (all_from (suc i) n)) ≡ first_above last (all_from (suc i) n)
      before true low = ap (λ c. cond c (Some i) (first_above last (all_from (suc i) n))) low
      before false low = refl

      by : (c : Bool) → nat_lt last i ≡ c → (i ≤ last → first_above last (all_from (suc i) n) ≡ first_from (suc last) ((suc i + n) - suc last)) → first_above last (all_from i (suc n)) ≡ first_from (suc last) ((i + suc n) - suc last)
      by true high rest =
          let over : last < i = ltb-true last i high in let same : i ≡ suc last = omega (arith, over, h) in let left : suc n ≡ (i + suc n) - suc last = omega (arith, over, h) in
          beyond last (suc n) i over ∙ ap (λ j. first_from j (suc n)) same ∙ ap (first_from (suc last)) left
      by false low rest = before (acts i) low ∙ rest (ltb-false last i low) ∙ ap (first_from (suc last)) (sym more)

  -- the first above a number, of count actors
  pub around : (last count behind : ℕ) → (suc last ≤ count → behind ≡ suc last) → (count ≤ last → behind ≡ count) → first_above last (all_from 0 count) ≡ first_from behind (count - behind)
  around last count behind less more = let none_before : (0 + count) - suc last ≡ count - suc last = omega arith in above last count 0 (omega arith) ∙ ap (first_from (suc last)) none_before ∙ by (nat_lt last count) refl
    where
      by : (c : Bool) → nat_lt last count ≡ c → first_from (suc last) (count - suc last) ≡ first_from behind (count - behind)
      by true q = let low : last < count = ltb-true last count q in sym (ap (λ j. first_from j (count - j)) (less (omega (arith, low))))
      by false q =
          let high : count ≤ last = ltb-false last count q in let none : count - suc last ≡ 0 = omega (arith, high) in let zero_is : 0 ≡ count - count = omega arith in
          ap (first_from (suc last)) none ∙ ap (first_from count) zero_is ∙ sym (ap (λ j. first_from j (count - j)) (more high))

  -- the first of those that have an event has one
  first_has : (n i : ℕ) → with_event p nodes w (first_from i n) ≡ None → first_from i n ≡ None
  first_has zero i h = refl
  first_has (suc n) i h = by (acts i) refl h (first_has n (suc i))
    where
      acting : (e : Option Event) → is_some e ≡ true → option_map {U = ℕ × Event} (λ (event : Event). (i, event)) e ≡ None → ⊥
      acting None some none = let q : false ≡ true = some in cc
      acting (Some event) some none = let q : Some (i, event) ≡ None = none in cc

      by : (b : Bool) → acts i ≡ b → with_event p nodes w (slice_get (cond b (i ∷ all_from (suc i) n) (all_from (suc i) n)) 0) ≡ None → (with_event p nodes w (first_from (suc i) n) ≡ None → first_from (suc i) n ≡ None) → slice_get (cond b (i ∷ all_from (suc i) n) (all_from (suc i) n)) 0 ≡ None
      by true some none rest = absurd (acting (enabled p nodes w (actor_at nodes i)) some none)
      by false some none rest = rest none

  pub round_some : (last count behind : ℕ) (next : ℕ × Event) → first_above last (all_from 0 count) ≡ first_from behind (count - behind) → Some next ≡ with_event p nodes w (first_from behind (count - behind)) →
      Some next ≡ with_event p nodes w (chosen_of (choosers.Round last) (all_from 0 count))
  round_some last count behind next at is = by (first_from behind (count - behind)) refl is ∙ ap (λ o. with_event p nodes w (first_or (all_from 0 count) o)) (sym at)
    where
      by : (o : Option ℕ) → first_from behind (count - behind) ≡ o → Some next ≡ with_event p nodes w o → Some next ≡ with_event p nodes w (first_or (all_from 0 count) (first_from behind (count - behind)))
      by None found h = absurd (let q : Some next ≡ None = h in cc)
      by (Some i) found h = h ∙ ap (λ o. with_event p nodes w (first_or (all_from 0 count) o)) (sym found)

  pub round_none : (last count behind : ℕ) → first_above last (all_from 0 count) ≡ first_from behind (count - behind) → None ≡ with_event p nodes w (first_from behind (count - behind)) →
      with_event p nodes w (first_from 0 count) ≡ with_event p nodes w (chosen_of (choosers.Round last) (all_from 0 count))
  round_none last count behind at is = ap (λ o. with_event p nodes w (first_or (all_from 0 count) o)) (sym (first_has (count - behind) behind (sym is)) ∙ sym at)

  -- the next actor, whether it has an event or not
  pub here_is : (i n : ℕ) (event : Event) → 0 < n → Some event ≡ enabled p nodes w (actor_at nodes i) → Some (i, event) ≡ with_event p nodes w (first_from i n)
  here_is i zero event some is = absurd (omega (arith, some))
  here_is i (suc n) event some is = by (enabled p nodes w (actor_at nodes i)) refl is
    where
      by : (e : Option Event) → enabled p nodes w (actor_at nodes i) ≡ e → Some event ≡ e → Some (i, event) ≡ with_event p nodes w (first_from i (suc n))
      by None at h = absurd (let q : Some event ≡ None = h in cc)
      by (Some x) at h =
          ap (λ (y : Event). Some (i, y)) (same_Some event x h)
          ∙ ap (λ (e : Option Event). option_map {U = ℕ × Event} (λ (y : Event). (i, y)) e) (sym at)
          ∙ sym (ap (λ (e : Option Event). with_event p nodes w (slice_get (cond (is_some e) (i ∷ all_from (suc i) n) (all_from (suc i) n)) 0)) at)

  pub not_here : (i j n m : ℕ) → 0 < n → m ≡ n - 1 → j ≡ i + 1 → None ≡ enabled p nodes w (actor_at nodes i) → first_from j m ≡ first_from i n
  not_here i j zero m some less next is = absurd (omega (arith, some))
  not_here i j (suc n) m some less next is =
      let same : m ≡ n = omega (arith, less) in let one : j ≡ suc i = omega (arith, next) in
      ap (first_from j) same ∙ ap (λ k. first_from k n) one
      ∙ sym (ap (λ (e : Option Event). slice_get (cond (is_some e) (i ∷ all_from (suc i) n) (all_from (suc i) n)) 0) (sym is))
