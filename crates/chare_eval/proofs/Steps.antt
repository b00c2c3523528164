-- Steps go by their own cells and messages, their parts run in any order, and what they send is what is found.
use Rattle.std.proofs.Common.{◌≡◌, ℕ, zero, suc, ◌+◌, ◌-◌, ◌<◌, ◌≤◌, Bool, true, false, cond, List, [], ◌∷◌, ◌++◌, length, get_or, refl, ap, sym, ◌∙◌, arith, Some, None, subst}
use Rattle.std.specs.Prelude.{◌==◌, nat_lt, slice_get, slice_set, unwrap_or}
use Rattle.std.specs.List.{AllByRecursion}
use Rattle.std.specs.Option.{option_map_or}
use Rattle.std.proofs.lemmas.Bool.{ltb-true, eq-eqb}
use Rattle.std.proofs.lemmas.List.Quantifiers.{position-Some}
use Rattle.std.proofs.lemmas.Option.{none-some, slice_get-get_or, slice_get_past}
use Rattle.chare_base.specs.declared.cells.Cells.{Cells}
use Rattle.chare_base.specs.declared.message.Payload.{Payload}
use Rattle.chare_base.specs.declared.message.Port.{Port}
use Rattle.chare_base.specs.declared.message.Port.TheVariants as ports
use Rattle.chare_base.specs.declared.plan.Array.{Array}
use Rattle.chare_base.specs.declared.plan.Entry.{Entry}
use Rattle.chare_base.specs.declared.plan.Part.{Part}
use Rattle.chare_base.specs.declared.plan.Plan.{Plan}
use Rattle.chare_base.specs.declared.plan.Step.{Step}
use Rattle.chare_base.specs.Elements.{block_at, elements, most_steps, parts_at, place_of, steps_in_round, steps_of}
use Rattle.chare_base.specs.Flip.{Flip}
use Rattle.chare_base.specs.Ports.{entry_port, parts_send, sending_step}
use Rattle.chare_base.specs.Uses.{one, uses, writes}
use Rattle.chare_base.proofs.Apart.{parts_are_apart}
use Rattle.chare_base.proofs.Sendings.{send_found}
use Rattle.chare_eval.specs.declared.effects.Outgoing.{Outgoing}
use Rattle.chare_eval.specs.declared.effects.Outgoing.TheVariants.{Parcel, Contribution}
use Rattle.chare_eval.specs.Block.{Effect, quiet}
use Rattle.chare_eval.specs.Fold.{fold, fold_from}
use Rattle.chare_eval.specs.Stage.{Inbox, contributions, found, inbox, parcel_held, parts_run, round, stage, state_at, step_of}
use Rattle.chare_eval.specs.Inside.{cells_before, cells_inside, found_in, is_done, is_number, message_to, messages_to, port_array}
use Rattle.chare_eval.specs.Laws.{AllDone, PartsRunInAnyOrder, Reaches, StepsFollow, StepsSend, contribution_of, first_number, sent_in}
use Rattle.chare_eval.proofs.Order.{AllApart, all_among, all_done, does, one_more, order_is_free, same_set, sent_in_step, with_part}
use Rattle.chare_eval.proofs.Sent.{all_placed, any_sent, many, one_contributed, one_held, some_there, step_tells}
use Rattle.chare_eval.proofs.Shapes.{fold_shape}
use Rattle.chare_eval.proofs.Strikes.{before_parts}
use Rattle.chare_eval.proofs.Mail.{arrives, said, step_local}

-- ---- the steps of an element

pub steps_among : (arrays : List Array) (n : ℕ) → length (option_map_or (λ (a : Array). a.steps) (slice_get arrays n) []) ≤ most_steps arrays
steps_among [] n = omega arith
steps_among (a ∷ more) zero = omega arith
steps_among (a ∷ more) (suc n) = omega (arith, steps_among more n)

pub steps_few : (p : Plan) (e : ℕ) → length (steps_of p e) ≤ steps_in_round p
steps_few p e = steps_among p.arrays (place_of p e).array

pub no_parts : (p : Plan) (e s : ℕ) → length (steps_of p e) ≤ s → parts_at p e s ≡ []
no_parts p e s h = ap (λ o. option_map_or (λ (step : Step). step.parts) o []) (slice_get_past (steps_of p e) s h)

-- a step that sends to a port does
pub sending_some : (port : Port) (steps : List Step) (s : ℕ) → sending_step port steps ≡ Some s → 0 < parts_send port (option_map_or (λ (step : Step). step.parts) (slice_get steps s) [])
sending_some port [] s is = absurd (let e : None ≡ Some s = is in cc)
sending_some port (x ∷ more) s is =
    let test : Step → Bool = λ (step : Step). nat_lt 0 (parts_send port step.parts) in
    let found = position-Some test (x ∷ more) s x is in
    let some : 0 < parts_send port (get_or (x ∷ more) s x).parts = ltb-true 0 (parts_send port (get_or (x ∷ more) s x).parts) found.1 in
    subst (λ o. 0 < parts_send port (option_map_or (λ (step : Step). step.parts) o [])) (sym (slice_get-get_or (x ∷ more) s x found.0)) some

-- ---- parts are apart

block_is : (p : Plan) (e s i : ℕ) (a : Part) → slice_get (parts_at p e s) i ≡ Some a → block_at p e s i ≡ a.block
block_is p e s i a is = ap (λ o. option_map_or (λ (part : Part). part.block) o []) is

unwritten : (p : Plan) (e s i j : ℕ) (a b : Part) → slice_get (parts_at p e s) i ≡ Some a → slice_get (parts_at p e s) j ≡ Some b → (i ≡ j → ⊥) → (k : ℕ) → uses a.block (one k) ≡ true → writes b.block (one k) ≡ false
unwritten p e s i j a b at bt other k used =
    ap (λ l. writes l (one k)) (sym (block_is p e s j b bt)) ∙ parts_are_apart p e s i j k other (ap (λ l. uses l (one k)) (block_is p e s i a at) ∙ used)

pub all_apart : (p : Plan) (e s : ℕ) → AllApart (parts_at p e s)
all_apart p e s i j a b at bt other = record {
  left = unwritten p e s i j a b at bt other;
  right = unwritten p e s j i b a bt at (λ q. other (sym q));
}

-- ---- from step to step

pub messages_are : (p : Plan) (lines : List Flip) (k e : ℕ) → messages_to p lines k e ≡ inbox p (stage p lines k (fold p lines k) (steps_in_round p)).mail e
messages_are p lines k e = refl

same_number : (m n : ℕ) → m ≡ n → (n == m) ≡ true
same_number m n h = eq-eqb n m (sym h)

-- an element finds what comes to its own array's ports
pub found_own : (p : Plan) (lines : List Flip) (k : ℕ) (port : Port) (e owner : ℕ) → port_array p port ≡ Some owner → (place_of p e).array ≡ owner →
    message_to p lines k port e ≡ found_in p lines k port e
unfolding message_to
found_own p lines k port e owner is at =
    ap (λ o. cond (is_number (place_of p e).array o) (found_in p lines k port e) None) is
    ∙ ap (λ b. cond b (found_in p lines k port e) None) (same_number (place_of p e).array owner at)

-- and what it finds has come
pub found_came : (p : Plan) (lines : List Flip) (k : ℕ) (port : Port) (e : ℕ) (payload : Payload) → message_to p lines k port e ≡ Some payload → found_in p lines k port e ≡ Some payload
unfolding message_to
found_came p lines k port e payload is = by (is_number (place_of p e).array (port_array p port)) is
  where
    by : (b : Bool) → cond b (found_in p lines k port e) None ≡ Some payload → found_in p lines k port e ≡ Some payload
    by true h = h
    by false h = absurd (none-some payload h)

-- what a step makes of an element
abbrev step_at : Plan → List Flip → ℕ → ℕ → ℕ → Effect
step_at p lines k s e = step_of p s k e (messages_to p lines k e) (cells_before p lines k s e)

all_inside : (p : Plan) (lines : List Flip) (k s : ℕ) (done : List Bool) (e : ℕ) → AllDone p e s done → cells_inside p lines k s done e ≡ (step_at p lines k s e).cells
unfolding cells_inside
all_inside p lines k s done e h = all_done p e s k (messages_to p lines k e) (parts_at p e s) (is_done done) (cells_before p lines k s e) h

pub next_before : (p : Plan) (lines : List Flip) (k s e : ℕ) → s ≤ steps_in_round p → e < elements p → cells_before p lines k (suc s) e ≡ (step_at p lines k s e).cells
next_before p lines k s e h f =
    step_local p lines k (fold p lines k) s e h f (fold_shape p lines k).count
    ∙ ap (λ (box : Inbox). (step_of p s k e box (cells_before p lines k s e)).cells) (sym (messages_are p lines k e))

-- after its last step an element stays as it is
idle : (p : Plan) (lines : List Flip) (k e n d : ℕ) → e < elements p → length (steps_of p e) ≤ n → n + d ≤ steps_in_round p → cells_before p lines k (n + d) e ≡ cells_before p lines k n e
idle p lines k e n zero f h fits = let same : n + zero ≡ n = omega arith in ap (λ s. cells_before p lines k s e) same
idle p lines k e n (suc d) f h fits =
    let same : n + suc d ≡ suc (n + d) = omega arith in
    ap (λ s. cells_before p lines k s e) same
    ∙ next_before p lines k (n + d) e (omega arith) f
    ∙ ap (λ parts. (parts_run p e (n + d) k (messages_to p lines k e) parts (quiet (cells_before p lines k (n + d) e))).cells) (no_parts p e (n + d) (omega (arith, h)))
    ∙ idle p lines k e n d f h (omega arith)

pub fold_next : (p : Plan) (lines : List Flip) (k : ℕ) → fold p lines (suc k) ≡ (stage p lines k (fold p lines k) (steps_in_round p)).states
unfolding fold fold_from round
fold_next p lines k = let same : 0 + k ≡ k = omega arith in ap (λ j. (stage p lines j (fold p lines k) (steps_in_round p)).states) same

pub steps_follow : StepsFollow
steps_follow = record {
  next = λ p lines k s done e f h all.
      all_inside p lines k s done e all ∙ sym (next_before p lines k s e (omega (arith, h, steps_few p e)) f) ∙ sym (before_parts p lines k (suc s) e);
  last = λ p lines k s done e f h all.
      let few = steps_few p e in
      let d : ℕ = steps_in_round p - suc s in
      let whole : suc s + d ≡ steps_in_round p = omega (arith, h, few) in
      all_inside p lines k s done e all ∙ sym (next_before p lines k s e (omega (arith, h, few)) f)
      ∙ sym (idle p lines k e (suc s) d f (omega (arith, h)) (omega (arith, whole)))
      ∙ ap (λ n. cells_before p lines k n e) whole
      ∙ ap (λ all. state_at all e) (sym (fold_next p lines k));
}

-- ---- what is sent is found

module _ (p : Plan) (lines : List Flip) (k s e : ℕ) (h : s < steps_in_round p) (f : e < elements p) where
  abbrev box : Inbox
  box = messages_to p lines k e

  abbrev cells : Cells
  cells = cells_before p lines k s e

  reaches : (before after : List Outgoing) (l : Outgoing) → sent_in p lines k s e ≡ before ++ l ∷ after → Reaches p lines k e l
  unfolding contribution_of
  reaches before after (Parcel entry to payload) is =
      let t = said p s k e box cells f before after entry to payload is in
      let mail = (stage p lines k (fold p lines k) (steps_in_round p)).mail in
      let once : many (ports.Entry entry) (before ++ Parcel entry to payload ∷ after) ≤ 1 = subst (λ l. many (ports.Entry entry) l ≤ 1) is t.once in (
        t.receives.element,
        found_own p lines k (ports.Entry entry) to.0 t.is.owner (ap (λ o. option_map_or (λ (x : Entry). Some x.owner) o None) t.there) t.receives.array
            ∙ ap (λ o. found o (parcel_held mail to.0 entry.0)) t.receives.back
            ∙ arrives p lines k (fold p lines k) s e entry.0 to.0 h f t.step t.receives.back
            ∙ ap (λ l. parcel_held l to.0 entry.0) is ∙ one_held before after entry to payload once,
      )
  reaches before after (Contribution r value) is =
      let port = ports.Total r in
      let tells = step_tells p s k e box cells in
      let some : 0 < parts_send port (parts_at p e s) = omega (arith, tells.few port, ap (many port) is, some_there before after (Contribution r value)) in
      let found = send_found p port e s some in
      let once : many port (before ++ Contribution r value ∷ after) ≤ 1 = subst (λ l. many port l ≤ 1) is (let few : many port (sent_in p lines k s e) ≤ 1 = omega (arith, tells.few port, found.once) in few) in
      ap (λ o. first_number (contributions (sent_in p lines k (unwrap_or o 0) e) r.0)) found.step
      ∙ ap (λ l. first_number (contributions l r.0)) is ∙ ap first_number (one_contributed before after r value once)

  pub sends_reach : AllByRecursion (Reaches p lines k e) (sent_in p lines k s e)
  sends_reach = all_placed (Reaches p lines k e) [] (sent_in p lines k s e) reaches

pub parts_run_in_any_order : PartsRunInAnyOrder
unfolding cells_inside
parts_run_in_any_order p lines k s done e j part f h is room d =
    let box = messages_to p lines k e in
    let cells = cells_before p lines k s e in
    let parts = parts_at p e s in
    let free = order_is_free p e s k box parts (is_done done) j part cells (all_apart p e s) is d in
    let fits : s < steps_in_round p = omega (arith, h, steps_few p e) in
    record {
      cells = free.runs ∙ same_set p e s k box parts (with_part j (is_done done)) (is_done (slice_set done j true)) 0 cells (λ i l. sym (one_more done j i room));
      sent =
          subst (AllByRecursion (Reaches p lines k e)) (sym free.sent)
          (all_among (Reaches p lines k e) (does p e s k box part cells.numbers).sent (sent_in p lines k s e)
          (sent_in_step p e s k box parts j part cells (all_apart p e s) is) (sends_reach p lines k s e fits f));
    }

pub steps_send : StepsSend
steps_send p lines k s x e t f step is =
    let tells = step_tells p s k e (messages_to p lines k e) (cells_before p lines k s e) in
    let some : 0 < parts_send (entry_port x) (parts_at p e s) = sending_some (entry_port x) (steps_of p e) s step in
    any_sent p e x t (sent_in p lines k s e) tells.aimed is (omega (arith, some, tells.all (entry_port x) (t, is)))
