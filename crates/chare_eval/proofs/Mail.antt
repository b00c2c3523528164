-- What stands in the mail before each step.
use Rattle.std.proofs.Common.{◌≡◌, ℕ, zero, suc, ◌<◌, ◌≤◌, ℤ, List, [], ◌∷◌, ◌++◌, length, refl, ap, sym, ◌∙◌, arith, Option, Some, None, inl, inr, subst, get_or-set_other, get_or-set_same, append_assoc}
use Rattle.std.specs.List.{AllByRecursion}
use Rattle.std.specs.Option.{option_map_or, option_or}
use Rattle.std.proofs.lemmas.Bool.{cases_lt}
use Rattle.std.proofs.lemmas.List.{append-nil, length-set}
use Rattle.std.proofs.lemmas.Option.{same_Some}
use Rattle.chare_base.specs.declared.cells.Cells.{Cells}
use Rattle.chare_base.specs.declared.message.EntryId.{EntryId}
use Rattle.chare_base.specs.declared.message.Payload.{Payload}
use Rattle.chare_base.specs.declared.message.Port.{Port}
use Rattle.chare_base.specs.declared.message.Port.TheVariants as ports
use Rattle.chare_base.specs.declared.message.Source.{Source}
use Rattle.chare_base.specs.declared.message.Source.TheVariants as sources
use Rattle.chare_base.specs.declared.plan.ElementId.{ElementId}
use Rattle.chare_base.specs.declared.plan.Entry.{Entry}
use Rattle.chare_base.specs.declared.plan.Plan.{Plan}
use Rattle.chare_base.specs.Elements.{elements, parts_at, steps_in_round}
use Rattle.chare_base.specs.Entries.{source_of, target_of, entry_of}
use Rattle.chare_base.specs.Flip.{Flip}
use Rattle.chare_base.specs.Laws.{Receives}
use Rattle.chare_base.specs.Ports.{entry_port, parts_send, parts_take, sending_step, steps_in}
use Rattle.chare_base.proofs.Neighbours.{sources_and_targets}
use Rattle.chare_base.proofs.Sendings.{entry_there, send_found, source_array, take_found}
use Rattle.chare_eval.specs.declared.effects.Outgoing.{Outgoing}
use Rattle.chare_eval.specs.declared.effects.Outgoing.TheVariants.{Parcel}
use Rattle.chare_eval.specs.Block.{Effect}
use Rattle.chare_eval.specs.Stage.{Board, Inbox, contributions, effect, found_at, held, inbox, parcel_held, ran, stage, state_at, step_of, total_of}
use Rattle.chare_eval.proofs.Sent.{Aimed, Told, aimed_other, all_last, contributions_append, held_append, many, none_contributed, none_held, or_none, some_there, step_same, step_tells}
use Rattle.chare_eval.proofs.Shapes.{none}
use Rattle.chare_eval.proofs.Strikes.{struck_length}

-- ---- in which step

-- the step that sends to a port
abbrev pub sent_step : Plan → Port → Option ℕ
sent_step p port = option_map_or (λ (a : ℕ). sending_step port (steps_in p.arrays a)) (source_array p port) None

pub step_of_source : (p : Plan) (port : Port) (a s : ℕ) → source_array p port ≡ Some a → sending_step port (steps_in p.arrays a) ≡ Some s → sent_step p port ≡ Some s
step_of_source p port a s is sends = ap (λ o. option_map_or (λ (a : ℕ). sending_step port (steps_in p.arrays a)) o None) is ∙ sends

pub found_step : (p : Plan) (port : Port) (e s : ℕ) → 0 < parts_send port (parts_at p e s) → sent_step p port ≡ Some s
found_step p port e s some =
    let f = send_found p port e s some in
    step_of_source p port f.joins.source s f.joins.source_is (ap (λ n. sending_step port (steps_in p.arrays n)) f.source ∙ f.step)

-- what an element takes was sent in an earlier step
pub record Earlier (p : Plan) (port : Port) (s : ℕ) : Type 0 where
  pub step : ℕ
  pub is : sent_step p port ≡ Some step
  pub below : step < s

pub taken_earlier : (p : Plan) (port : Port) (e s : ℕ) → 0 < parts_take port (parts_at p e s) → Earlier p port s
taken_earlier p port e s some =
    let f = take_found p port e s some in
    record { step = f.sent_in; is = step_of_source p port f.joins.source f.sent_in f.joins.source_is f.sends; below = f.earlier }

pub different : (p : Plan) (port : Port) (r s : ℕ) → sent_step p port ≡ Some r → (r ≡ s → ⊥) → sent_step p port ≡ Some s → ⊥
different p port r s is other q = other (same_Some r s (sym is ∙ q))

abbrev number : Source → ℕ
number (sources.Element e) = e.0
number (sources.Edge payload) = 0

-- ---- mail that is alike at a port

abbrev pub Like : Port → ℕ → List Outgoing → List Outgoing → Type 0
Like (ports.Entry x) e m n = parcel_held m e x.0 ≡ parcel_held n e x.0
Like (ports.Total r) e m n = contributions m r.0 ≡ contributions n r.0

pub like_self : (port : Port) (e : ℕ) (m : List Outgoing) → Like port e m m
like_self (ports.Entry x) e m = refl
like_self (ports.Total r) e m = refl

pub like_both : (port : Port) (e : ℕ) (m n l : List Outgoing) → Like port e m n → Like port e n l → Like port e m l
like_both (ports.Entry x) e m n l a b = a ∙ b
like_both (ports.Total r) e m n l a b = a ∙ b

pub like_turned : (port : Port) (e : ℕ) (m n : List Outgoing) → Like port e m n → Like port e n m
like_turned (ports.Entry x) e m n a = sym a
like_turned (ports.Total r) e m n a = sym a

pub like_more : (port : Port) (e : ℕ) (m more : List Outgoing) → many port more ≡ 0 → Like port e (m ++ more) m
like_more (ports.Entry x) e m more h = held_append m more e x.0 ∙ ap (option_or (parcel_held m e x.0)) (none_held more e x.0 h) ∙ or_none (parcel_held m e x.0)
like_more (ports.Total r) e m more h = contributions_append m more r.0 ∙ ap (λ l. contributions m r.0 ++ l) (none_contributed more r.0 h) ∙ append-nil (contributions m r.0)

like_held : (p : Plan) (port : Port) (e : ℕ) (m n : List Outgoing) → Like port e m n → held p m e port ≡ held p n e port
like_held p (ports.Entry x) e m n h = h
like_held p (ports.Total r) e m n h = ap (total_of p r.0) h

pub like_found : (p : Plan) (port : Port) (e : ℕ) (m n : List Outgoing) → Like port e m n → inbox p m e port ≡ inbox p n e port
like_found p port e m n h = ap (found_at p e port) (like_held p port e m n h)

-- ---- what one step of one element sends

module _ (p : Plan) (s i e : ℕ) (box : Inbox) (cells : Cells) where
  abbrev sent : List Outgoing
  sent = (step_of p s i e box cells).sent

  tells : Told p e s sent
  tells = step_tells p s i e box cells

  -- a port of another step isn't among it
  pub sent_other : (port : Port) → (sent_step p port ≡ Some s → ⊥) → many port (step_of p s i e box cells).sent ≡ 0
  sent_other port other = by (parts_send port (parts_at p e s)) refl
    where
      by : (n : ℕ) → parts_send port (parts_at p e s) ≡ n → many port sent ≡ 0
      by zero is = omega (arith, is, tells.few port)
      by (suc n) is = absurd (other (found_step p port e s (omega (arith, is))))

  -- who isn't the source of an element sends it nothing
  pub sent_by_source : e < elements p → (x to : ℕ) (source : ElementId) → source_of p x to ≡ sources.Element source → (source.0 ≡ e → ⊥) → parcel_held (step_of p s i e box cells).sent to x ≡ None
  sent_by_source h x to source is other = by (parts_send (entry_port x) (parts_at p e s)) refl
    where
      by : (n : ℕ) → parts_send (entry_port x) (parts_at p e s) ≡ n → parcel_held sent to x ≡ None
      by zero q = none_held sent to x (omega (arith, q, tells.few (entry_port x)))
      by (suc n) q =
          let f = send_found p (entry_port x) e s (omega (arith, q)) in
          let there = entry_there p (record { 0 = x }) (λ (entry : Entry). entry.source) f.joins.source f.joins.source_is in
          aimed_other p e to x sent tells.aimed
          (λ t here target. other (ap number (sym is ∙ ap (source_of p x) (sym here) ∙ (sources_and_targets.to p x e there.0 t there.1 h (sym (there.2 ∙ f.source)) target).back)))

  -- one message among it
  pub record Said (entry : EntryId) (to : ElementId) : Type 0 where
    pub is : Entry
    pub there : entry_of p entry.0 ≡ Some is
    pub receives : Receives p entry.0 e is to
    pub step : sent_step p (ports.Entry entry) ≡ Some s
    pub once : many (ports.Entry entry) (step_of p s i e box cells).sent ≤ 1

  pub said : e < elements p → (before after : List Outgoing) (entry : EntryId) (to : ElementId) (payload : Payload) → (step_of p s i e box cells).sent ≡ before ++ Parcel entry to payload ∷ after → Said entry to
  said h before after entry to payload is =
      let port = ports.Entry entry in
      let some : 0 < parts_send port (parts_at p e s) = omega (arith, tells.few port, ap (many port) is, some_there before after (Parcel entry to payload)) in
      let f = send_found p port e s some in
      let there = entry_there p entry (λ (x : Entry). x.source) f.joins.source f.joins.source_is in
      let target : target_of p entry.0 e ≡ Some to = all_last (Aimed p e) before after (Parcel entry to payload) (subst (AllByRecursion (Aimed p e)) is tells.aimed) in
      record {
        is = there.0;
        there = there.1;
        receives = sources_and_targets.to p entry.0 e there.0 to there.1 h (sym (there.2 ∙ f.source)) target;
        step = found_step p port e s some;
        once = omega (arith, tells.few port, f.once);
      }

-- ---- all elements

module _ (p : Plan) (s i : ℕ) where
  -- what a step sends stands at its own ports
  pub ran_mail : (n : ℕ) (b : Board) (e : ℕ) (port : Port) → (sent_step p port ≡ Some s → ⊥) → Like port e (ran p s i n b).mail b.mail
  unfolding ran
  ran_mail zero b e port other = like_self port e b.mail
  ran_mail (suc n) b e port other =
      let now = ran p s i n b in
      let f : Effect = effect p s i n now in
      like_both port e (now.mail ++ f.sent) now.mail b.mail (like_more port e now.mail f.sent (sent_other p s i n (inbox p now.mail n) (state_at now.states n) port other)) (ran_mail n b e port other)

  pub ran_length : (n : ℕ) (b : Board) → length (ran p s i n b).states ≡ length b.states
  unfolding ran
  ran_length zero b = refl
  ran_length (suc n) b = length-set (ran p s i n b).states n (effect p s i n (ran p s i n b)).cells ∙ ran_length n b

  -- who hasn't run yet is as before
  ran_later : (n : ℕ) (b : Board) (e : ℕ) → n ≤ e → state_at (ran p s i n b).states e ≡ state_at b.states e
  unfolding ran
  ran_later zero b e h = refl
  ran_later (suc n) b e h =
      let other : e ≡ n → ⊥ = λ q. omega (arith, q) in
      get_or-set_other (ran p s i n b).states n e (effect p s i n (ran p s i n b)).cells none other ∙ ran_later n b e (omega arith)

  -- a step goes by the messages of lower steps alone
  pub same_step : (e : ℕ) (cells : Cells) (mail mail' : List Outgoing) → ((port : Port) (r : ℕ) → sent_step p port ≡ Some r → r < s → Like port e mail mail') →
      step_of p s i e (inbox p mail e) cells ≡ step_of p s i e (inbox p mail' e) cells
  same_step e cells mail mail' same =
      step_same p s i e (inbox p mail e) (inbox p mail' e) cells
      (λ port some. let f = taken_earlier p port e s some in like_found p port e mail mail' (same port f.step f.is f.below))

  -- the effect on one element is the same wherever in the order it stands
  pub same_effect : (n : ℕ) (b : Board) → effect p s i n (ran p s i n b) ≡ effect p s i n b
  same_effect n b =
      ap (step_of p s i n (inbox p (ran p s i n b).mail n)) (ran_later n b n (omega arith))
      ∙ same_step n (state_at b.states n) (ran p s i n b).mail b.mail (λ port r is below. ran_mail n b n port (different p port r s is (λ q. omega (arith, q, below))))

  pub ran_cells : (n : ℕ) (b : Board) (e : ℕ) → e < n → n ≤ length b.states → state_at (ran p s i n b).states e ≡ (effect p s i e b).cells
  unfolding ran
  ran_cells zero b e h fits = absurd (omega arith)
  ran_cells (suc n) b e h fits = elim (cases_lt e n) [
    | inl lt ↦
        let other : e ≡ n → ⊥ = λ q. omega (arith, q) in
        get_or-set_other (ran p s i n b).states n e (effect p s i n (ran p s i n b)).cells none other ∙ ran_cells n b e lt (omega arith)
    | inr le ↦
        let same : e ≡ n = omega arith in
        let room : n < length (ran p s i n b).states = omega (arith, ran_length n b) in
        ap (λ m. state_at (ran p s i (suc n) b).states m) same
        ∙ get_or-set_same (ran p s i n b).states n (effect p s i n (ran p s i n b)).cells none room
        ∙ ap (λ (f : Effect). f.cells) (same_effect n b)
        ∙ ap (λ m. (effect p s i m b).cells) (sym same)
  ]

  -- what the source hasn't sent yet
  pub before_source : (n : ℕ) (b : Board) (e x : ℕ) (source : ElementId) → source_of p x e ≡ sources.Element source → n ≤ source.0 → n ≤ elements p →
      parcel_held b.mail e x ≡ None → parcel_held (ran p s i n b).mail e x ≡ None
  unfolding ran
  before_source zero b e x source is h fits none = none
  before_source (suc n) b e x source is h fits none =
      let now = ran p s i n b in
      held_append now.mail (effect p s i n now).sent e x
      ∙ ap (λ q. option_or q (parcel_held (effect p s i n now).sent e x)) (before_source n b e x source is (omega arith) (omega arith) none)
      ∙ sent_by_source p s i n (inbox p now.mail n) (state_at now.states n) (omega arith) x e source is (λ q. omega (arith, q))

  -- and what it has sent
  pub after_source : (n : ℕ) (b : Board) (e x : ℕ) (source : ElementId) → source_of p x e ≡ sources.Element source → source.0 < n → n ≤ elements p →
      parcel_held b.mail e x ≡ None → parcel_held (ran p s i n b).mail e x ≡ parcel_held (effect p s i source.0 b).sent e x
  unfolding ran
  after_source zero b e x source is h fits none = absurd (omega arith)
  after_source (suc n) b e x source is h fits none =
      let now = ran p s i n b in
      held_append now.mail (effect p s i n now).sent e x ∙ elim (cases_lt source.0 n) [
        | inl lt ↦
            ap (λ q. option_or q (parcel_held (effect p s i n now).sent e x)) (after_source n b e x source is lt (omega arith) none)
            ∙ ap (option_or (parcel_held (effect p s i source.0 b).sent e x))
            (sent_by_source p s i n (inbox p now.mail n) (state_at now.states n) (omega arith) x e source is (λ q. omega (arith, q)))
            ∙ or_none (parcel_held (effect p s i source.0 b).sent e x)
        | inr le ↦
            let same : n ≡ source.0 = omega arith in
            ap (λ q. option_or q (parcel_held (effect p s i n now).sent e x)) (before_source n b e x source is (omega arith) (omega arith) none)
            ∙ ap (λ (f : Effect). parcel_held f.sent e x) (same_effect n b)
            ∙ ap (λ m. parcel_held (effect p s i m b).sent e x) same
      ]

  -- what the first n elements contribute, each from the board before the step
  abbrev pub given_before : ℕ → Board → ℕ → List ℤ
  given_before r b zero = []
  given_before r b (suc n) = given_before r b n ++ contributions (effect p s i n b).sent r

  pub ran_given : (n : ℕ) (b : Board) (r : ℕ) → contributions (ran p s i n b).mail r ≡ contributions b.mail r ++ given_before r b n
  unfolding ran
  ran_given zero b r = sym (append-nil (contributions b.mail r))
  ran_given (suc n) b r =
      let now = ran p s i n b in
      contributions_append now.mail (effect p s i n now).sent r
      ∙ ap (λ l. l ++ contributions (effect p s i n now).sent r) (ran_given n b r)
      ∙ ap (λ (f : Effect). (contributions b.mail r ++ given_before r b n) ++ contributions f.sent r) (same_effect n b)
      ∙ append_assoc (contributions b.mail r) (given_before r b n) (contributions (effect p s i n b).sent r)

-- ---- the iteration

module _ (p : Plan) (lines : List Flip) (i : ℕ) (all : List Cells) where
  abbrev before : ℕ → Board
  before s = stage p lines i all s

  pub stage_length : (s : ℕ) → length (stage p lines i all s).states ≡ length all
  unfolding stage
  stage_length zero = struck_length lines i all
  stage_length (suc s) = ran_length p s i (elements p) (before s) ∙ stage_length s

  -- what is sent to a port in a lower step stays
  pub mail_stays : (s steps e : ℕ) (port : Port) (r : ℕ) → s ≤ steps → sent_step p port ≡ Some r → r < s → Like port e (stage p lines i all steps).mail (stage p lines i all s).mail
  unfolding stage
  mail_stays s zero e port r h is lower = absurd (omega arith)
  mail_stays s (suc steps) e port r h is lower = elim (cases_lt steps s) [
    | inl lt ↦ let same : suc steps ≡ s = omega arith in subst (λ j. Like port e (before (suc steps)).mail (before j).mail) same (like_self port e (before (suc steps)).mail)
    | inr le ↦
        like_both port e (before (suc steps)).mail (before steps).mail (before s).mail
        (ran_mail p steps i (elements p) (before steps) e port (different p port r steps is (λ q. omega (arith, q)))) (mail_stays s steps e port r le is lower)
  ]

  -- before its step nothing is sent to a port
  pub not_yet : (s e : ℕ) (port : Port) (r : ℕ) → sent_step p port ≡ Some r → s ≤ r → Like port e (stage p lines i all s).mail []
  unfolding stage
  not_yet zero e port r is h = like_self port e []
  not_yet (suc s) e port r is h =
      like_both port e (before (suc s)).mail (before s).mail [] (ran_mail p s i (elements p) (before s) e port (different p port r s is (λ q. omega (arith, q)))) (not_yet s e port r is (omega arith))

  -- a step may as well go by the messages of the whole iteration
  pub by_messages : (s e : ℕ) → s ≤ steps_in_round p →
      effect p s i e (stage p lines i all s) ≡ step_of p s i e (inbox p (stage p lines i all (steps_in_round p)).mail e) (state_at (stage p lines i all s).states e)
  by_messages s e h =
      same_step p s i e (state_at (before s).states e) (before s).mail (before (steps_in_round p)).mail
      (λ port r is lower. like_turned port e (before (steps_in_round p)).mail (before s).mail (mail_stays s (steps_in_round p) e port r h is lower))

  -- each step makes of an element's cells what it makes of them by its messages
  pub step_local : (s e : ℕ) → s ≤ steps_in_round p → e < elements p → length all ≡ elements p →
      state_at (stage p lines i all (suc s)).states e ≡ (step_of p s i e (inbox p (stage p lines i all (steps_in_round p)).mail e) (state_at (stage p lines i all s).states e)).cells
  unfolding stage
  step_local s e h f count =
      ran_cells p s i (elements p) (before s) e f (omega (arith, stage_length s, count)) ∙ ap (λ (x : Effect). x.cells) (by_messages s e h)

  -- what an element sends in a step is held for its receiver
  pub arrives : (s e x : ℕ) (to : ℕ) → s < steps_in_round p → e < elements p → sent_step p (entry_port x) ≡ Some s → source_of p x to ≡ sources.Element (record { 0 = e }) →
      parcel_held (stage p lines i all (steps_in_round p)).mail to x
      ≡ parcel_held (step_of p s i e (inbox p (stage p lines i all (steps_in_round p)).mail e) (state_at (stage p lines i all s).states e)).sent to x
  unfolding stage
  arrives s e x to h f step back =
      mail_stays (suc s) (steps_in_round p) to (entry_port x) s (omega (arith, h)) step (omega arith)
      ∙ after_source p s i (elements p) (before s) to x (record { 0 = e }) back f (omega arith) (not_yet s to (entry_port x) s step (omega arith))
      ∙ ap (λ (g : Effect). parcel_held g.sent to x) (by_messages s e (omega (arith, h)))
