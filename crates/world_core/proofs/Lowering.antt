-- An event that a slot has leaves less of the world.
use Rattle.std.proofs.Common.{◌≡◌, ℕ, suc, ◌+◌, ◌-◌, ◌<◌, ◌≤◌, inl, inr, Bool, true, false, cond, List, [], ◌∷◌, length, refl, ap, sym, ◌∙◌, arith, subst, Option, Some, None}
use Rattle.std.specs.Prelude.{◌⊎◌, ◌==◌, ◌&&◌, is_none, max, not, slice_get}
use Rattle.std.specs.List.{filter}
use Rattle.std.proofs.lemmas.Bool.{eq-eqb}
use Rattle.std.proofs.lemmas.Option.{same_Some}
use Rattle.chare_base.specs.declared.options.Options.{Options}
use Rattle.chare_base.specs.declared.plan.ElementId.{ElementId}
use Rattle.chare_base.specs.declared.plan.Plan.{Plan}
use Rattle.chare_base.specs.declared.slots.SlotId.{SlotId}
use Rattle.fault_script.specs.declared.fault.Fault.{Fault}
use Rattle.iteration_agree.specs.declared.round.Round.{Round}
use Rattle.iteration_agree.specs.declared.round.Round.TheVariants as rounds
use Rattle.iteration_agree.specs.declared.slot.Slot.{Slot}
use Rattle.iteration_agree.specs.Cuts.{CutState, HasSlot, at_place, begun_by, packed_by, released_by, reported_by, seen_by, slot_of, slot_place}
use Rattle.iteration_agree.specs.Rounds.{number}
use Rattle.iteration_agree.specs.Slots.{cap_in, sight_of, slot_begun, slot_packed, slot_released, slot_reported, slot_saw, went}
use Rattle.iteration_agree.proofs.Changing.{at_or_away, moved_here}
use Rattle.letter_post.specs.declared.letter.Letter.{Letter}
use Rattle.letter_post.specs.declared.letter.Letter.TheVariants as letters
use Rattle.letter_post.specs.Orders.{Order, order_of}
use Rattle.letter_post.specs.Orders as orders
use Rattle.node_core.specs.Costs.{FirstRuns, HearsLower, PacksLower, Runs, RunsLower, RunsOne, body_left, gathering_left, left_by, node_left, outcome_left, sum, times, totals_left}
use Rattle.node_core.specs.Mail.{HearsMove, PacksMove, RunsMove}
use Rattle.node_core.specs.Nodes.{Body, NodeState, Outcome, first_running, is_from, node_heard, node_heard_as, node_heard_by, node_packed, node_ran, outcome_of}
use Rattle.conductor_core.specs.Conductors.{sight_of as last_sight}
use Rattle.world_core.specs.declared.doing.Since.{Since}
use Rattle.world_core.specs.declared.doing.Since.TheVariants.{Nothing}
use Rattle.world_core.specs.declared.doing.SlotMove.{SlotMove}
use Rattle.world_core.specs.declared.doing.SlotMove.TheVariants as slot_moves
use Rattle.world_core.specs.Costs.{begins_left, going_left, has_news, letter_left, looks_left, moves_left, release_left, report_left, see_left, slot_left}
use Rattle.world_core.specs.declared.doing.Doing.{Doing}
use Rattle.world_core.specs.declared.doing.Doing.TheVariants as doings
use Rattle.world_core.specs.Moves.{is_below, is_resumed, limit_of, release_due, report_due, same_round}
use Rattle.world_core.specs.Sound.{SlotSound, Sound, names, names_to}
use Rattle.world_core.specs.Still.{Afloat, IsAccepted, IsCommitted, IsPlain, SlotAfloat, orders_in}
use Rattle.world_core.specs.Worlds.{Acted, Setting, SlotState, WorldState, acted, after_slot, again, back_after, does, doing_of, is_news, move_or_run, moved_in, number_of, ordered_after, resumed_after, run_due, run_of, since_after, slot_at, slot_doing, slot_heard, slot_move, slot_moved_by, slot_ran_by, stand, with_back}
use Rattle.world_core.proofs.Accepting.{heard_is, wakes}
use Rattle.world_core.proofs.Due.{IsDue, due_is, first, none_is, second}
use Rattle.world_core.proofs.Entering.{begun_few}
use Rattle.world_core.proofs.Hearing.{Commits, FirstOrder, Resumes, order_is}
use Rattle.world_core.proofs.Idling.{same_round_is}
use Rattle.world_core.proofs.Lists.{all_got, long_both}
use Rattle.world_core.proofs.Mailing.{IsNamed, name_is, names_long, own_name, place_is, same_slot, slot_is}
use Rattle.world_core.proofs.News.{looks_kept, looks_one}
use Rattle.world_core.proofs.Packing.{free as free_to_pack}
use Rattle.world_core.proofs.Placing.{old as placed}
use Rattle.world_core.proofs.Resuming.{based, goes_on}
use Rattle.world_core.proofs.Running.{old}
use Rattle.world_core.proofs.Seen.{and_false, self_equal}
use Rattle.world_core.proofs.Timely.{IsTimely, goes, timely}
use Rattle.world_core.proofs.Unordered.{NoOrders, heard_none, packed_none, ran_none}
use Rattle.world_core.proofs.Weights.{mail_left, none_left, slot_lowers}

-- ---- what hearing a letter leaves

-- a letter that is no order leaves the slot's name, and what it was ordered
heard_slot : (p : Plan) (script : List Fault) (place : List ℕ) (letter : Letter) (n : NodeState) → order_of letter ≡ None → (node_heard p script place letter n).node.slot ≡ n.slot
unfolding node_heard
heard_slot p script place letter n mail = ap (λ q. (node_heard_as p script place letter n q).node.slot) mail ∙ by n.body
  where
    by : (q : Option Body) → (node_heard_by p script place letter n q).node.slot ≡ n.slot
    by None = refl
    by (Some b) = refl

mail_since : (letter : Letter) (since : Since) → order_of letter ≡ None → since_after letter since ≡ since
mail_since (letters.Parcel stamp entry k to payload) since mail = refl
mail_since (letters.Partial stamp r k node value) since mail = refl
mail_since (letters.Total stamp r k value) since mail = refl
mail_since (letters.Piece stamp piece) since mail = refl
mail_since (letters.VerdictOf one two node k verdict piece) since mail = refl
mail_since (letters.Lend k fresh) since mail = refl
mail_since (letters.Take stamp k live piece) since mail = absurd (let q : Some (orders.Take stamp k live piece) ≡ None = mail in cc)
mail_since (letters.Restore stamp k live) since mail = absurd (let q : Some (orders.Restore stamp k live) ≡ None = mail in cc)
mail_since (letters.Commit stamp k live) since mail = absurd (let q : Some (orders.Commit stamp k live) ≡ None = mail in cc)
mail_since (letters.Resume stamp) since mail = absurd (let q : Some (orders.Resume stamp) ≡ None = mail in cc)
mail_since (letters.Died stamp dead line) since mail = refl
mail_since letters.Stop since mail = refl

same_itself : (r : Round) → same_round r r ≡ true
same_itself (rounds.Quiet r) = self_equal r
same_itself (rounds.Gather r f) = ap (λ b. b && f == f) (self_equal r) ∙ self_equal f
same_itself (rounds.Agreed r k) = ap (λ b. b && k == k) (self_equal r) ∙ self_equal k

few_kept : {A : Type 0} (f : A → ℕ) (test : A → Bool) (xs : List A) → sum f (filter test xs) ≤ sum f xs
few_kept f test [] = omega arith
few_kept f test (x ∷ more) = by (test x) (few_kept f test more)
  where
    by : (b : Bool) → sum f (filter test more) ≤ sum f more → sum f (cond b (x ∷ filter test more) (filter test more)) ≤ f x + sum f more
    by true rest = omega (arith, rest)
    by false rest = omega (arith, rest)

pub names_count : (n : ℕ) → length (names n) ≡ n + n
names_count n = let both = long_both (names_to 0 n) (names_to 1 n) in let one = names_long 0 n in let two = names_long 1 n in omega (arith, both, one, two)

pub few_names : (n : ℕ) → 0 + length (names n) ≤ n + n
few_names n = let all = names_count n in omega (arith, all)

-- it reported or not, as its cap says
pub report_same : (places : ℕ) (round : Round) (q r : Slot) → q.cap ≡ r.cap → report_left places round q ≡ report_left places round r
report_same places (rounds.Quiet n) q r same = refl
report_same places (rounds.Gather n f) q r same = ap (λ c. cond (is_none (cap_in n c)) (suc places) 0) same
report_same places (rounds.Agreed n k) q r same = refl

module _ (s : Setting) (o : Options) (plain : IsPlain s o) (w : WorldState) (slot : SlotId) (x : SlotState) (is : slot_at s.nodes w.posts.slots slot ≡ Some x) (sound : Sound s o w) (afloat : Afloat s w) where
  abbrev name : SlotId
  name = x.node.slot

  abbrev t : Slot
  t = slot_of w.cut name

  abbrev places : ℕ
  places = s.nodes + s.nodes

  abbrev Lower : Acted → Type 0
  Lower a = going_left s (after_slot s slot a w) < going_left s w

  abbrev mine : SlotAfloat s w.cut w.conductor afloat.log x
  mine = old s o w slot x is sound afloat

  its : SlotSound s w.cut w.conductor x
  its = all_got (SlotSound s w.cut w.conductor) w.posts.slots (number_of s.nodes slot) x sound.slots (slot_is s.nodes w.posts.slots slot x is).there

  called : name ≡ slot
  called = (slot_is s.nodes w.posts.slots slot x is).name

  named : IsNamed s.nodes (number_of s.nodes slot) name
  named = place_is s.nodes w.posts.slots sound.names (number_of s.nodes slot) x (slot_is s.nodes w.posts.slots slot x is).there

  has : HasSlot w.cut name
  has = (named.replica, let n = named.node in let m = sound.nodes in omega (arith, n, m))

  abbrev moves_of : Since → SlotId → ℕ
  moves_of since other = moves_left places s.plan.iterations w.cut.round since (slot_of w.cut other)

  -- ---- events that leave the agreement

  acted_lowers : (out : Outcome) (box : List Letter) (back : Option ℕ) (since : Since) → out.node.slot ≡ name → NoOrders out.out →
      outcome_left s.plan s.place out + (sum (letter_left s.plan s.place) box + moves_of since name) < slot_left s w.cut x → Lower (acted s.plan w.cut out box back since)
  unfolding outcome_left
  acted_lowers out box back since same none less =
      slot_lowers s w slot x (acted s.plan w.cut out box back since) is (λ m y there apart. refl)
      (let sent = none_left s out.out none in let moves : moves_of since out.node.slot ≡ moves_of since name = ap (moves_of since) same in omega (arith, sent, moves, less))

  pub one_lowers : RunsLower → RunsMove → (e : ElementId) → RunsOne s.plan s.script s.place t.top e.0 x.node → Lower (slot_ran_by s w.cut e x None)
  one_lowers runs move e r =
      let less = runs s.plan s.script s.place t.top e.0 x.node r.element r.spot r.out its.keeps r.is in
      acted_lowers (outcome_of (node_ran s.plan s.script s.place t.top e.0 x.node)) x.box x.back x.since (move s.plan s.script s.place t.top e.0 0 x.node its.keeps).slot (ran_none s.plan s.script s.place t.top e.0 x.node) (omega (arith, less))

  ran_lowers : FirstRuns → RunsLower → RunsMove → (e : ElementId) → first_running s.plan (stand w.cut name).top x.node ≡ Some e → Lower (slot_ran_by s w.cut e x None)
  ran_lowers firsts runs move e is_first =
      let r : Runs s.plan s.script s.place t.top x.node e = firsts s.plan s.script s.place t.top x.node e its.keeps is_first in
      one_lowers runs move e (record { element = e; spot = r.spot; out = r.out; is = r.is })

  -- ---- it hears

  abbrev box_left : List Letter → ℕ
  box_left box = sum (letter_left s.plan s.place) box

  mail_lowers : HearsLower → (letter : Letter) (more : List Letter) → x.box ≡ letter ∷ more → order_of letter ≡ None → Lower (slot_heard s w.cut x (letter ∷ more))
  mail_lowers hears letter more front mail =
      let less = hears s.plan s.script s.place letter x.node its.keeps (ap (λ q. is_none q) mail) in
      let weighs = mail_left s letter mail in
      let box : box_left x.box ≡ letter_left s.plan s.place letter + box_left more = ap box_left front in
      let since : moves_of (since_after letter x.since) name ≡ moves_of x.since name = ap (λ q. moves_of q name) (mail_since letter x.since mail) in
      acted_lowers (node_heard s.plan s.script s.place letter x.node) more (back_after letter x.back) (since_after letter x.since) (heard_slot s.plan s.script s.place letter x.node mail) (heard_none s.plan s.script s.place letter x.node) (omega (arith, less, weighs, box, since))

  -- what is left of its node
  own_left : node_left s.plan s.place x.node ≡ body_left s.plan s.place name.node mine.body
  unfolding node_left
  own_left = ap (left_by s.plan s.place name.node) mine.alive

  commit_lowers : (taken : IsAccepted w.cut w.conductor t x mine.body) (more : List Letter) → x.box ≡ letters.Commit x.node.last.stamp w.conductor.ledger.base taken.live ∷ more →
      Lower (slot_heard s w.cut x (letters.Commit x.node.last.stamp w.conductor.ledger.base taken.live ∷ more))
  unfolding outcome_left node_left
  commit_lowers taken more front =
      subst (λ q. Lower (acted s.plan w.cut q more x.back (ordered_after x.since))) (sym (heard_is s o plain w slot x is sound afloat taken more taken.live front))
      (acted_lowers (record { node = based s.plan s.script s.place base taken.live x.node mine.body taken.piece; out = [] }) more x.back (ordered_after x.since) refl tt
      (let own = own_left in
      let box : box_left x.box ≡ 4 + box_left more = ap box_left front in
      let since : moves_of (ordered_after x.since) name ≡ moves_of x.since name = ap (λ q. moves_of (ordered_after q) name) taken.since ∙ sym (ap (λ q. moves_of q name) taken.since) in
      let shares = few_kept (gathering_left s.plan s.place name.node) (is_from base) mine.body.gatherings in
      let totals = few_kept (totals_left s.plan s.place) (is_from base) mine.body.totals in
      omega (arith, own, box, since, shares, totals)))
    where
      base : ℕ
      base = w.conductor.ledger.base

  release_few : (since : Since) (q : Slot) → release_left since q ≤ 1
  release_few since q = by (is_resumed since && not q.free)
    where
      by : (b : Bool) → cond b 1 0 ≤ 1
      by true = omega arith
      by false = omega arith

  resume_lowers : (taken : IsCommitted w.cut w.conductor t x mine.body) (more : List Letter) → x.box ≡ letters.Resume x.node.last.stamp ∷ more → Lower (slot_heard s w.cut x (letters.Resume x.node.last.stamp ∷ more))
  unfolding outcome_left node_left
  resume_lowers taken more front =
      subst (λ q. Lower (acted s.plan w.cut q more x.back (resumed_after x.since))) (sym (wakes s o plain w slot x is sound afloat taken more front))
      (acted_lowers (record { node = goes_on s.plan s.script s.place x.node mine.body; out = [] }) more x.back (resumed_after x.since) refl tt
      (let own = own_left in
      let box : box_left x.box ≡ 2 + box_left more = ap box_left front in
      let few = release_few (resumed_after x.since) t in
      omega (arith, own, box, few)))

  pub heard_lowers : HearsLower → HearsMove → (letter : Letter) (more : List Letter) → x.box ≡ letter ∷ more → Lower (slot_heard s w.cut x (letter ∷ more))
  heard_lowers hears hears_move letter more front = by (order_of letter) refl
    where
      which : FirstOrder s o plain w slot x is sound afloat hears_move letter → Lower (slot_heard s w.cut x (letter ∷ more))
      which (Commits taken same) = subst (λ l. Lower (slot_heard s w.cut x (l ∷ more))) (sym same) (commit_lowers taken more (front ∙ ap (λ l. l ∷ more) same))
      which (Resumes taken same) = subst (λ l. Lower (slot_heard s w.cut x (l ∷ more))) (sym same) (resume_lowers taken more (front ∙ ap (λ l. l ∷ more) same))

      by : (q : Option Order) → order_of letter ≡ q → Lower (slot_heard s w.cut x (letter ∷ more))
      by None mail = mail_lowers hears letter more front mail
      by (Some order) is_order = which (order_is s o plain w slot x is sound afloat hears_move letter (orders_in more) (ap orders_in front ∙ ap (λ q. cond (is_none q) (orders_in more) (letter ∷ orders_in more)) is_order))

  -- ---- its place in the agreement changes

  module _ (f : Slot → Slot) where
    abbrev cut : CutState
    cut = at_place f (slot_place w.cut.nodes name) w.cut

    here : slot_of cut name ≡ f t
    here = moved_here w.cut name sound.agreement has f

    away : (other : SlotId) → HasSlot w.cut other → (other ≡ name → ⊥) → slot_of cut other ≡ slot_of w.cut other
    away other there apart = at_or_away (λ q. q ≡ slot_of w.cut other) w.cut name other f sound.agreement has there (λ same. absurd (apart (sym same))) refl

    others : (m : ℕ) (y : SlotState) → slice_get w.posts.slots m ≡ Some y → (m ≡ number_of s.nodes slot → ⊥) → slot_left s cut y ≡ slot_left s w.cut y
    others m y there apart =
        let its_name : IsNamed s.nodes m y.node.slot = place_is s.nodes w.posts.slots sound.names m y there in
        let has_y : HasSlot w.cut y.node.slot = (its_name.replica, let n = its_name.node in let m = sound.nodes in omega (arith, n, m)) in
        ap (λ q. node_left s.plan s.place y.node + (box_left y.box + moves_left places s.plan.iterations w.cut.round y.since q))
        (away y.node.slot has_y (λ same. apart (sym its_name.number ∙ ap (number_of s.nodes) same ∙ named.number)))

    sight_away : (m : ℕ) (other : SlotId) → slice_get (names w.cut.nodes) m ≡ Some other → (other ≡ name → ⊥) → has_news cut w.conductor other ≡ has_news w.cut w.conductor other
    sight_away m other there apart =
        let its_name : IsNamed w.cut.nodes m other = name_is w.cut.nodes m other there in
        ap (λ q. is_news (last_sight other w.conductor) (sight_of w.cut.round q)) (away other (its_name.replica, its_name.node) apart)

    -- a change of what the conductor sees of it is news at one place
    looks_new : looks_left cut w.conductor ≤ looks_left w.cut w.conductor + (w.cut.nodes + w.cut.nodes)
    unfolding looks_left
    looks_new =
        looks_one (w.cut.nodes + w.cut.nodes) (slot_place w.cut.nodes w.conductor.next_look) (has_news cut w.conductor) (has_news w.cut w.conductor) 0 (number_of w.cut.nodes name) (names w.cut.nodes) (few_names w.cut.nodes)
        (λ m other there apart new. sym (sight_away m other there (λ same. apart (sym (name_is w.cut.nodes m other there).number ∙ ap (number_of w.cut.nodes) same))) ∙ new)

    -- and else there is none
    looks_old : sight_of w.cut.round (f t) ≡ sight_of w.cut.round t → looks_left cut w.conductor ≤ looks_left w.cut w.conductor
    unfolding looks_left
    looks_old same_sight = looks_kept (w.cut.nodes + w.cut.nodes) (slot_place w.cut.nodes w.conductor.next_look) (has_news cut w.conductor) (has_news w.cut w.conductor) 0 (names w.cut.nodes) (λ m other there new. sym (same_news m other there) ∙ new)
      where
        own : (other : SlotId) → other ≡ name → has_news cut w.conductor other ≡ has_news w.cut w.conductor other
        own other same =
            ap (has_news cut w.conductor) same
            ∙ ap (λ q. is_news (last_sight name w.conductor) (sight_of w.cut.round q)) here
            ∙ ap (is_news (last_sight name w.conductor)) same_sight
            ∙ ap (has_news w.cut w.conductor) (sym same)

        same_news : (m : ℕ) (other : SlotId) → slice_get (names w.cut.nodes) m ≡ Some other → has_news cut w.conductor other ≡ has_news w.cut w.conductor other
        same_news m other there = by (other.replica == name.replica && other.node == name.node) refl
          where
            by : (b : Bool) → (other.replica == name.replica && other.node == name.node) ≡ b → has_news cut w.conductor other ≡ has_news w.cut w.conductor other
            by true q = own other (same_slot other name q)
            by false q = sight_away m other there (λ same. absurd (let z : true ≡ false = sym (ap (λ (a : SlotId). a.replica == name.replica && a.node == name.node) same ∙ own_name name) ∙ q in cc))

    shifted_lowers : (back : Option ℕ) (looks : ℕ) → looks_left cut w.conductor ≤ looks_left w.cut w.conductor + looks → moves_left places s.plan.iterations w.cut.round x.since (f t) + looks < moves_of x.since name →
        Lower (record { slot = again s.plan cut (with_back back x); cut = cut; out = [] })
    shifted_lowers back looks few less =
        slot_lowers s w slot x (record { slot = again s.plan cut (with_back back x); cut = cut; out = [] }) is others
        (let moves : moves_left places s.plan.iterations w.cut.round x.since (slot_of cut name) ≡ moves_left places s.plan.iterations w.cut.round x.since (f t) = ap (moves_left places s.plan.iterations w.cut.round x.since) here in
        omega (arith, moves, few, less))

  see_lowers : same_round t.seen w.cut.round ≡ false → Lower (moved_in s.plan x slot_moves.See w.cut)
  unfolding seen_by
  see_lowers unseen = shifted_lowers (slot_saw w.cut.round) x.back 0 (let few = looks_old (slot_saw w.cut.round) refl in omega (arith, few))
      (let after : see_left w.cut.round (slot_saw w.cut.round t) ≡ 0 = ap (λ b. cond b 0 1) (same_itself w.cut.round) in
      let before : see_left w.cut.round t ≡ 1 = ap (λ b. cond b 0 1) unseen in
      let report = report_same places w.cut.round (slot_saw w.cut.round t) t refl in
      omega (arith, after, before, report))

  release_lowers : release_due (stand w.cut name) x.since ≡ true → Lower (moved_in s.plan x slot_moves.Release w.cut)
  unfolding released_by
  release_lowers due = shifted_lowers slot_released x.back 0 (let few = looks_old slot_released refl in omega (arith, few))
      (let after : release_left x.since (slot_released t) ≡ 0 = ap (λ b. cond b 1 0) (and_false (is_resumed x.since)) in
      let before : release_left x.since t ≡ 1 = ap (λ b. cond b 1 0) (first (is_resumed x.since && not t.free) (is_none (stand w.cut name).cap) due) in
      let report = report_same places w.cut.round (slot_released t) t refl in
      omega (arith, after, before, report))

  report_lowers : same_round t.seen w.cut.round ≡ true → report_due (stand w.cut name) t.seen ≡ true → Lower (moved_in s.plan x slot_moves.Report w.cut)
  unfolding reported_by
  report_lowers seen due =
      shifted_lowers slot_reported x.back places (let few = looks_new slot_reported in let n = sound.nodes in omega (arith, few, n))
      (let before : report_left places w.cut.round t ≡ suc places = subst (λ r. report_left places r t ≡ suc places) is_round (gathering t.seen due refl) in
      let after : report_left places w.cut.round (slot_reported t) ≡ 0 = subst (λ r. report_left places r (slot_reported t) ≡ 0) is_round (reported t.seen due refl) in
      omega (arith, before, after))
    where
      is_round : t.seen ≡ w.cut.round
      is_round = same_round_is t.seen w.cut.round seen

      gathering : (seen : Round) → report_due (stand w.cut name) seen ≡ true → t.seen ≡ seen → report_left places seen t ≡ suc places
      gathering (rounds.Quiet r) due at = absurd (let q : false ≡ true = due in cc)
      gathering (rounds.Agreed r k) due at = absurd (let q : false ≡ true = due in cc)
      gathering (rounds.Gather r f) due at = ap (λ q. cond (is_none q) (suc places) 0) (ap (λ q. cap_in q t.cap) (ap number (sym at)) ∙ none_is (stand w.cut name).cap (second t.free (is_none (stand w.cut name).cap) due))

      reported : (seen : Round) → report_due (stand w.cut name) seen ≡ true → t.seen ≡ seen → report_left places seen (slot_reported t) ≡ 0
      reported (rounds.Quiet r) due at = refl
      reported (rounds.Agreed r k) due at = refl
      reported (rounds.Gather r f) due at = ap (λ b. cond (is_none (cond b (Some t.top) None)) (suc places) 0) (eq-eqb (number t.seen) r (ap number at))

  begin_lowers : (k : ℕ) → slot_move s.plan w.cut x ≡ Some (slot_moves.Begin k) → k ≡ t.top → is_below k (limit_of (stand w.cut name)) ≡ true → Lower (moved_in s.plan x (slot_moves.Begin k) w.cut)
  unfolding begun_by
  begin_lowers k due at below =
      shifted_lowers (slot_begun k) x.back places (let few = looks_new (slot_begun k) in let n = sound.nodes in omega (arith, few, n))
      (let after : moves_left places s.plan.iterations w.cut.round x.since (slot_begun k t) ≡ moves_left places s.plan.iterations w.cut.round x.since (record t { top = suc t.top }) = ap (moves_left places s.plan.iterations w.cut.round x.since) begun in
      let report = report_same places w.cut.round (record t { top = suc t.top }) t refl in
      let more : begins_left places s.plan.iterations t ≡ suc places + begins_left places s.plan.iterations (record t { top = suc t.top }) = ap (λ n. times n (suc places)) left in
      omega (arith, after, report, more))
    where
      higher : (a k : ℕ) → k ≡ a → max a (suc k) ≡ suc a
      higher a k same = omega (arith, same)

      begun : slot_begun k t ≡ record t { top = suc t.top }
      begun = ap (went t k) (goes t k below) ∙ ap (λ n. record t { top = n }) (higher t.top k at)

      left : s.plan.iterations - t.top ≡ suc (s.plan.iterations - suc t.top)
      left = let few = begun_few s o w slot x is sound afloat k due in omega (arith, few, at)

  pack_lowers : PacksLower → PacksMove → (k : ℕ) → slot_move s.plan w.cut x ≡ Some (slot_moves.Pack k) → Lower (acted s.plan (packed_by name w.cut) (node_packed s.plan s.script k x.node) x.box x.back Nothing)
  unfolding packed_by outcome_left
  pack_lowers packs move k due =
      slot_lowers s w slot x (acted s.plan (packed_by name w.cut) out x.box x.back Nothing) is (others slot_packed)
      (let less = packs s.plan s.script s.place k x.node (placed s o w slot x is sound afloat).body (placed s o w slot x is sound afloat).alive (free_to_pack s o plain w slot x is sound afloat move k due).fresh in
      let sent = none_left s out.out (packed_none s.plan s.script k x.node) in
      let few = looks_old slot_packed refl in
      let report = report_same places w.cut.round (slot_packed t) t refl in
      let moves : moves_left places s.plan.iterations w.cut.round Nothing (slot_of (packed_by name w.cut) out.node.slot) ≡ moves_left places s.plan.iterations w.cut.round Nothing (slot_packed t) =
      ap (λ n. moves_left places s.plan.iterations w.cut.round Nothing (slot_of (packed_by name w.cut) n)) (move s.plan s.script s.place k x.node its.keeps).slot ∙ ap (moves_left places s.plan.iterations w.cut.round Nothing) (here slot_packed) in
      omega (arith, less, sent, few, report, moves))
    where
      out : Outcome
      out = node_packed s.plan s.script k x.node

  -- ---- any move, and any event

  pub moved_lowers : PacksLower → PacksMove → (m : SlotMove) → slot_move s.plan w.cut x ≡ Some m → Lower (slot_moved_by s w.cut x (Some m))
  moved_lowers packs move m due = by m due (due_is s.plan x.node (stand w.cut name) x.back x.since w.cut.round m due) (timely s.plan x.node (stand w.cut name) x.since w.cut.round x.back m due)
    where
      by : (m : SlotMove) → slot_move s.plan w.cut x ≡ Some m → IsDue s.plan x.node (stand w.cut name) x.back x.since m →
          ((m ≡ slot_moves.See) × (same_round t.seen w.cut.round ≡ false)) ⊎ ((same_round t.seen w.cut.round ≡ true) × IsTimely (stand w.cut name) m) → Lower (slot_moved_by s w.cut x (Some m))
      by slot_moves.See due is_due (inl q) = see_lowers q.1
      by slot_moves.See due is_due (inr q) = absurd q.1
      by (slot_moves.Rewind base) due is_due q = absurd (let e : None ≡ Some base = sym mine.back ∙ is_due.0 in cc)
      by slot_moves.Release due is_due q = release_lowers is_due.1
      by slot_moves.Report due is_due (inl q) = absurd (let e : slot_moves.Report ≡ slot_moves.See = q.0 in cc)
      by slot_moves.Report due is_due (inr q) = report_lowers q.0 is_due.1
      by (slot_moves.Pack k) due is_due q = pack_lowers packs move k due
      by (slot_moves.Begin k) due is_due (inl q) = absurd (let e : slot_moves.Begin k ≡ slot_moves.See = q.0 in cc)
      by (slot_moves.Begin k) due is_due (inr q) = begin_lowers k due is_due.1 q.1

  pub slot_event_lowers : FirstRuns → RunsLower → RunsMove → HearsLower → HearsMove → PacksLower → PacksMove → (d : Doing) → slot_doing s.plan w.cut x ≡ Some d → Lower (does s w.cut d x)
  slot_event_lowers firsts runs move hears hears_move packs pack_move d doing = by x.box refl (slot_move s.plan w.cut x) refl d doing
    where
      ran : (back : Option ℕ) → x.back ≡ back → (d : Doing) → run_due s.plan x.node (stand w.cut name) back ≡ Some d → Lower (does s w.cut d x)
      ran (Some base) is_back d h = absurd (let e : None ≡ Some d = h in cc)
      ran None is_back d h = of (first_running s.plan (stand w.cut name).top x.node) refl h
        where
          of : (q : Option ElementId) → first_running s.plan (stand w.cut name).top x.node ≡ q → run_of q ≡ Some d → Lower (does s w.cut d x)
          of None is_first h = absurd (let e : None ≡ Some d = h in cc)
          of (Some e) is_first h = subst (λ d. Lower (does s w.cut d x)) (same_Some (doings.Run e) d h) (subst (λ q. Lower (slot_ran_by s w.cut e x q)) (sym is_back) (ran_lowers firsts runs move e is_first))

      by : (box : List Letter) → x.box ≡ box → (m : Option SlotMove) → slot_move s.plan w.cut x ≡ m → (d : Doing) → doing_of s.plan w.cut.round (stand w.cut name) x.node box x.back x.since ≡ Some d → Lower (does s w.cut d x)
      by (letter ∷ more) front m is_move d h =
          subst (λ d. Lower (does s w.cut d x)) (same_Some doings.Hear d h) (subst (λ box. Lower (slot_heard s w.cut x box)) (sym front) (heard_lowers hears hears_move letter more front))
      by [] front (Some m) is_move d h =
          let moves : Some doings.Move ≡ Some d = sym (ap (λ q. move_or_run q (run_due s.plan x.node (stand w.cut name) x.back)) is_move) ∙ h in
          subst (λ d. Lower (does s w.cut d x)) (same_Some doings.Move d moves) (subst (λ q. Lower (slot_moved_by s w.cut x q)) (sym is_move) (moved_lowers packs pack_move m is_move))
      by [] front None is_move d h =
          ran x.back refl d (sym (ap (λ q. move_or_run q (run_due s.plan x.node (stand w.cut name) x.back)) is_move) ∙ h)
