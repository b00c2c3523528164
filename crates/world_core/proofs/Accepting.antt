-- The orders of an accepted checkpoint lose nothing.
use Rattle.std.proofs.Common.{◌≡◌, ℕ, zero, suc, ◌<◌, ◌≤◌, inl, inr, Bool, true, false, cond, List, [], ◌∷◌, ◌++◌, length, refl, ap, sym, ◌∙◌, arith, subst, Some, None, IsSome}
use Rattle.std.specs.Prelude.{◌⊎◌, ◌==◌, IfSome, slice_get, slice_index_or}
use Rattle.std.specs.List.{AllByRecursion, list_all}
use Rattle.chare_base.specs.declared.options.Options.{Options}
use Rattle.chare_base.specs.declared.plan.Plan.{Plan}
use Rattle.chare_base.specs.declared.plan.Reduction.{Reduction}
use Rattle.chare_base.specs.declared.slots.LineSet.{LineSet}
use Rattle.chare_base.specs.declared.slots.SlotId.{SlotId}
use Rattle.chare_base.specs.Entries.{reduction_of}
use Rattle.iteration_agree.specs.declared.round.Round.{Round}
use Rattle.iteration_agree.specs.declared.round.Round.TheVariants as rounds
use Rattle.iteration_agree.specs.declared.slot.Cap.{Cap}
use Rattle.iteration_agree.specs.declared.slot.Slot.{Slot}
use Rattle.iteration_agree.specs.Cuts.{slot_of, slot_place}
use Rattle.iteration_agree.specs.Rounds.{number, takes_part}
use Rattle.iteration_agree.specs.Under.{InRound, UnderSlot}
use Rattle.iteration_agree.proofs.Holding.{has_place}
use Rattle.iteration_agree.proofs.Keeping.{one}
use Rattle.letter_post.specs.declared.letter.Letter.{Letter}
use Rattle.letter_post.specs.declared.letter.Letter.TheVariants as letters
use Rattle.letter_post.specs.declared.letter.Sent.{Sent}
use Rattle.pup_state.specs.declared.piece.Piece.{Piece}
use Rattle.node_core.specs.Keeps.{Alive, AllAt}
use Rattle.node_core.specs.Mail.{BodyDid, BodyOwes, Did, In, PartialWasSent, TotalsWereSent}
use Rattle.node_core.specs.Nodes.{Body, Outcome, all_at_of, awakened, node_heard}
use Rattle.node_core.specs.Rosters.{node_count, nodes_with, roster_of, sharers_of, sharers_to}
use Rattle.node_core.specs.Turns.{is_at}
use Rattle.node_core.proofs.Lists.{all_by}
use Rattle.node_core.proofs.Logs.{did_more}
use Rattle.node_core.proofs.Seats.{count_covered}
use Rattle.node_core.proofs.Sharers.{sharer_has}
use Rattle.conductor_core.specs.declared.wants.Phase.TheVariants as phases
use Rattle.world_core.specs.Sound.{SlotSound, Sound}
use Rattle.world_core.specs.Still.{Afloat, Committed, Earlier, Freed, IsAccepted, IsCommitted, IsPhase, IsPlain, SlotAfloat, orders_in, pieces_in, plain_stamp, present}
use Rattle.world_core.specs.Worlds.{Setting, SlotState, WorldState, acted, number_of, ordered_after, resumed_after, slot_at}
use Rattle.world_core.proofs.Floating.{PlainStep}
use Rattle.world_core.proofs.Lists.{all_behind, all_got, append_nil}
use Rattle.world_core.proofs.Mailing.{IsNamed, place_is, slot_is}
use Rattle.world_core.proofs.Resuming.{based, base_body, commit_did, commit_is, commit_owes, goes_on, resume_did, resume_is, resume_owes}
use Rattle.world_core.proofs.Seen.{both_true, got_in, some_of}

-- ---- sharers are nodes

all_index : (P : ℕ → Type 0) (xs : List (List ℕ)) (i : ℕ) → AllByRecursion (AllByRecursion P) xs → AllByRecursion P (slice_index_or xs i [])
all_index P [] i h = tt
all_index P (x ∷ more) zero h = h.0
all_index P (x ∷ more) (suc i) h = all_index P more i h.1

sharers_below : (p : Plan) (place : List ℕ) (n m : ℕ) → AllByRecursion (AllByRecursion (λ j. j < n)) (sharers_to p place n m)
sharers_below p place n zero = tt
sharers_below p place n (suc m) =
    all_behind (AllByRecursion (λ j. j < n)) (sharers_to p place n m) (nodes_with p place m n) (sharers_below p place n m)
    (all_by (λ j. j < n) (nodes_with p place m n) (λ i j there. (sharer_has p place m n j (got_in (nodes_with p place m n) i j there)).0))

pub sharers_within : (p : Plan) (place : List ℕ) (node array : ℕ) → AllByRecursion (λ j. j < node_count place) (sharers_of (roster_of p place node) array)
unfolding roster_of
sharers_within p place node array = by (node == 0)
  where
    by : (b : Bool) → AllByRecursion (λ j. j < node_count place) (slice_index_or (cond b (sharers_to p place (node_count place) (length p.arrays)) []) array [])
    by true = all_index (λ j. j < node_count place) (sharers_to p place (node_count place) (length p.arrays)) array (sharers_below p place (node_count place) (length p.arrays))
    by false = tt

below_length : {A : Type 0} (xs : List A) (i : ℕ) (x : A) → slice_get xs i ≡ Some x → i < length xs
below_length [] i x h = absurd (let q : None ≡ Some x = h in cc)
below_length (y ∷ xs) zero x h = omega arith
below_length (y ∷ xs) (suc i) x h = let less = below_length xs i x h in omega (arith, less)

all_tests : {A : Type 0} (test : A → Bool) (xs : List A) → AllByRecursion (λ x. test x ≡ true) xs → list_all test xs ≡ true
all_tests test [] h = refl
all_tests test (x ∷ xs) h = both_true (test x) (list_all test xs) h.0 (all_tests test xs h.1)

-- ---- the orders behind the first

abbrev tail_of : List Letter → List Letter
tail_of [] = []
tail_of (x ∷ xs) = xs

module _ (s : Setting) (o : Options) (plain : IsPlain s o) (w : WorldState) (slot : SlotId) (x : SlotState) (is : slot_at s.nodes w.posts.slots slot ≡ Some x) (sound : Sound s o w) (afloat : Afloat s w) where
  abbrev log : List Sent
  log = afloat.log

  abbrev t : Slot
  t = slot_of w.cut x.node.slot

  abbrev base : ℕ
  base = w.conductor.ledger.base

  abbrev pub old : SlotAfloat s w.cut w.conductor log x
  old = all_got (SlotAfloat s w.cut w.conductor log) w.posts.slots (number_of s.nodes slot) x afloat.slots (slot_is s.nodes w.posts.slots slot x is).there

  its : SlotSound s w.cut w.conductor x
  its = all_got (SlotSound s w.cut w.conductor) w.posts.slots (number_of s.nodes slot) x sound.slots (slot_is s.nodes w.posts.slots slot x is).there

  named : IsNamed s.nodes (number_of s.nodes slot) x.node.slot
  named = place_is s.nodes w.posts.slots sound.names (number_of s.nodes slot) x (slot_is s.nodes w.posts.slots slot x is).there

  live : Alive s.plan s.script s.place x.node old.body
  live = subst (λ q. IfSome q (Alive s.plan s.script s.place x.node)) old.alive its.keeps.body

  pays : BodyOwes s.plan s.place (present w.conductor) log x.node old.body
  pays = subst (λ q. IfSome q (BodyOwes s.plan s.place (present w.conductor) log x.node)) old.alive old.owes

  body_did : (letter : Letter) → Did s.plan log letter x.node → BodyDid s.plan log x.node old.body letter
  body_did letter did = subst (λ q. IfSome q (λ (b : Body). BodyDid s.plan log x.node b letter)) old.alive did

  -- while an iteration is agreed each slot reported in the round
  pub not_earlier : Earlier w.cut.round t → (k : ℕ) → w.conductor.phase ≡ phases.Agreed k → ⊥
  not_earlier earlier k at = by w.cut.round refl (subst (λ phase. IsPhase w.conductor w.cut.floor phase w.cut.round) at afloat.beside.phase)
    where
      under : UnderSlot w.cut.round w.cut.floor w.cut.taking t
      under = one w.cut (slot_place w.cut.nodes x.node.slot) (has_place w.cut x.node.slot sound.agreement (named.replica, let n = named.node in let m = sound.nodes in omega (arith, n, m))) sound.agreement.under

      by : (round : Round) → w.cut.round ≡ round → IsPhase w.conductor w.cut.floor (phases.Agreed k) round → ⊥
      by (rounds.Quiet r) here h = h
      by (rounds.Gather r f) here h = h
      by (rounds.Agreed r q) here h = late (subst (λ c. IfSome c (λ (c : Cap). c.round < number w.cut.round)) cap earlier.cap)
        where
          noted : IsSome t.noted
          noted = (subst (λ round. InRound round w.cut.floor w.cut.taking t) here under.here (ap (λ taking. takes_part taking t.replica) afloat.beside.both)).0

          n : (n : ℕ) × (t.noted ≡ Some n)
          n = some_of t.noted noted

          cap : t.cap ≡ Some (record { cap = n.0; round = number w.cut.round })
          cap = subst (λ q. IfSome q (λ n. t.cap ≡ Some (record { cap = n; round = number w.cut.round }))) n.1 under.noted

          late : number w.cut.round < number w.cut.round → ⊥
          late h = omega (arith, h)

  -- ---- what is over counts as sent

  stamp_back : plain_stamp x.node.slot.replica ≡ x.node.last.stamp
  stamp_back = sym old.stamp

  shares_over : (r j : ℕ) (y : Reduction) → reduction_of s.plan r ≡ Some y → j < base → PartialWasSent x.node.last.stamp r j x.node.slot.node log
  shares_over r j y there early =
      subst (λ st. PartialWasSent st r j x.node.slot.node log) stamp_back (afloat.over x.node.slot.replica r j x.node.slot.node named.replica (below_length s.plan.reductions r y there) early named.node).share

  totals_over : (r j : ℕ) (y : Reduction) → reduction_of s.plan r ≡ Some y → j < base → TotalsWereSent x.node.last.stamp r j (sharers_of x.node.roster y.owner) log
  totals_over r j y there early = subst (λ st. TotalsWereSent st r j (sharers_of x.node.roster y.owner) log) stamp_back (each (sharers_of x.node.roster y.owner) within)
    where
      within : AllByRecursion (λ m. m < node_count s.place) (sharers_of x.node.roster y.owner)
      within = subst (λ q. AllByRecursion (λ m. m < node_count s.place) (sharers_of q y.owner)) (sym its.keeps.roster.is) (sharers_within s.plan s.place x.node.slot.node y.owner)

      each : (all : List ℕ) → AllByRecursion (λ m. m < node_count s.place) all → TotalsWereSent (plain_stamp x.node.slot.replica) r j all log
      each [] h = tt
      each (m ∷ more) h =
          let few : m < s.nodes = let less = h.0 in let count = count_covered s.place s.nodes plain.placed.covers in omega (arith, less, count) in
          ((afloat.over x.node.slot.replica r j m named.replica (below_length s.plan.reductions r y there) early few).total, each more h.1)

  -- ---- Commit

  module _ (taken : IsAccepted w.cut w.conductor t x old.body) (more : List Letter) (lines : LineSet)
      (front : x.box ≡ letters.Commit x.node.last.stamp base lines ∷ more) where
    abbrev after : Outcome
    after = record { node = based s.plan s.script s.place base lines x.node old.body taken.piece; out = [] }

    pub heard_is : node_heard s.plan s.script s.place (letters.Commit x.node.last.stamp base lines) x.node ≡ after
    heard_is =
        commit_is s.plan s.script s.place base lines x.node old.body taken.piece its.keeps.stamped old.alive taken.fresh taken.at
        (subst (λ k. all_at_of k old.body.objects ≡ true) taken.at (all_tests (is_at taken.piece.iteration) old.body.objects (subst (λ q. IfSome q (λ (piece : Piece). AllAt piece.iteration old.body.objects)) taken.fresh live.packed)))

    left : orders_in more ≡ letters.Resume (plain_stamp x.node.slot.replica) ∷ []
    left = ap tail_of (ap orders_in (sym front) ∙ taken.orders)

    pieces_left : pieces_in more ≡ pieces_in x.box
    pieces_left = ap pieces_in (sym front)

    committed_afloat : SlotAfloat s w.cut w.conductor log (acted s.plan w.cut after more x.back (ordered_after x.since)).slot
    committed_afloat = record {
      body = base_body s.plan s.script s.place base lines x.node old.body taken.piece;
      alive = refl;
      stamp = old.stamp;
      owes = commit_owes s.plan s.script s.place base lines x.node old.body taken.piece log shares_over totals_over (present w.conductor) live pays;
      back = old.back;
      stage = Committed (record { held = taken.held; fresh = refl; waits = refl; since = ap ordered_after taken.since; orders = left; base = refl; earlier = taken.earlier });
      top = old.top;
      cap = old.cap;
      others = λ is_one. pieces_left ∙ old.others is_one;
      buddy = old.buddy;
    }

    kept : (letter : Letter) → In letter x.box ⊎ Did s.plan log letter x.node → In letter more ⊎ Did s.plan (log ++ []) letter after.node
    kept letter (inl h) = by (subst (In letter) front h)
      where
        by : In letter (letters.Commit x.node.last.stamp base lines ∷ more) → In letter more ⊎ Did s.plan (log ++ []) letter after.node
        by (inl q) = inr (subst (λ l. Did s.plan (log ++ []) l after.node) (sym q) tt)
        by (inr q) = inl q
    kept letter (inr did) =
        inr (did_more s.plan log [] after.node letter (commit_did s.plan s.script s.place base lines x.node old.body taken.piece log shares_over totals_over letter (body_did letter did)))

    pub commit_step : PlainStep s w log slot x (acted s.plan w.cut (node_heard s.plan s.script s.place (letters.Commit x.node.last.stamp base lines) x.node) more x.back (ordered_after x.since))
    commit_step = subst (λ q. PlainStep s w log slot x (acted s.plan w.cut q more x.back (ordered_after x.since))) (sym heard_is)
        (record {
          name = (slot_is s.nodes w.posts.slots slot x is).name;
          body = old.body;
          alive = old.alive;
          after = base_body s.plan s.script s.place base lines x.node old.body taken.piece;
          lives = refl;
          other = refl;
          fresh = inr (not_earlier taken.earlier, subst (λ q. IfSome q (λ (piece : Piece). piece.iteration ≤ base)) (sym taken.fresh) (let at = taken.at in omega (arith, at)));
          pieces = pieces_left;
          sends = tt;
          afloat = subst (λ l. SlotAfloat s w.cut w.conductor l (acted s.plan w.cut after more x.back (ordered_after x.since)).slot) (sym (append_nil log)) committed_afloat;
          kept = kept;
          others = λ name apart there. record { round = refl; slot = refl };
          beside = afloat.beside;
        })

  -- ---- Resume

  module _ (taken : IsCommitted w.cut w.conductor t x old.body) (more : List Letter) (front : x.box ≡ letters.Resume x.node.last.stamp ∷ more) where
    abbrev woken : Outcome
    woken = record { node = goes_on s.plan s.script s.place x.node old.body; out = [] }

    pub wakes : node_heard s.plan s.script s.place (letters.Resume x.node.last.stamp) x.node ≡ woken
    wakes = resume_is s.plan s.script s.place x.node old.body its.keeps.stamped old.alive taken.fresh

    none_left : orders_in more ≡ []
    none_left = ap tail_of (ap orders_in (sym front) ∙ taken.orders)

    same_pieces : pieces_in more ≡ pieces_in x.box
    same_pieces = ap pieces_in (sym front)

    resumed_afloat : SlotAfloat s w.cut w.conductor log (acted s.plan w.cut woken more x.back (resumed_after x.since)).slot
    resumed_afloat = record {
      body = awakened old.body;
      alive = refl;
      stamp = old.stamp;
      owes = resume_owes s.plan s.script s.place x.node old.body (present w.conductor) log pays;
      back = old.back;
      stage = Freed (record { held = taken.held; fresh = taken.fresh; goes = refl; since = ap resumed_after taken.since; orders = none_left; base = taken.base; earlier = taken.earlier });
      top = old.top;
      cap = old.cap;
      others = λ is_one. same_pieces ∙ old.others is_one;
      buddy = old.buddy;
    }

    stays : (letter : Letter) → In letter x.box ⊎ Did s.plan log letter x.node → In letter more ⊎ Did s.plan (log ++ []) letter woken.node
    stays letter (inl h) = by (subst (In letter) front h)
      where
        by : In letter (letters.Resume x.node.last.stamp ∷ more) → In letter more ⊎ Did s.plan (log ++ []) letter woken.node
        by (inl q) = inr (subst (λ l. Did s.plan (log ++ []) l woken.node) (sym q) tt)
        by (inr q) = inl q
    stays letter (inr did) = inr (did_more s.plan log [] woken.node letter (resume_did s.plan s.script s.place x.node old.body log letter (body_did letter did)))

    pub resume_step : PlainStep s w log slot x (acted s.plan w.cut (node_heard s.plan s.script s.place (letters.Resume x.node.last.stamp) x.node) more x.back (resumed_after x.since))
    resume_step = subst (λ q. PlainStep s w log slot x (acted s.plan w.cut q more x.back (resumed_after x.since))) (sym wakes)
        (record {
          name = (slot_is s.nodes w.posts.slots slot x is).name;
          body = old.body;
          alive = old.alive;
          after = awakened old.body;
          lives = refl;
          other = refl;
          fresh = inl refl;
          pieces = same_pieces;
          sends = tt;
          afloat = subst (λ l. SlotAfloat s w.cut w.conductor l (acted s.plan w.cut woken more x.back (resumed_after x.since)).slot) (sym (append_nil log)) resumed_afloat;
          kept = stays;
          others = λ name apart there. record { round = refl; slot = refl };
          beside = afloat.beside;
        })
