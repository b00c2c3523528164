-- What hearing and packing do with letters.
use Rattle.std.proofs.Common.{◌≡◌, ℕ, zero, suc, ◌<◌, inl, inr, ℤ, Bool, true, false, cond, List, [], ◌∷◌, ◌++◌, length, map, refl, ap, sym, ◌∙◌, arith, subst, Option, Some, None, IsSome}
use Rattle.std.specs.Prelude.{◌⊎◌, ◌==◌, slice_get, slice_set}
use Rattle.std.specs.List.{AllByRecursion}
use Rattle.std.proofs.lemmas.Bool.{eq-eqb}
use Rattle.std.proofs.lemmas.Option.{same_Some}
use Rattle.chare_base.specs.declared.message.EntryId.{EntryId}
use Rattle.chare_base.specs.declared.message.Payload.{Payload}
use Rattle.chare_base.specs.declared.message.Port.{Port}
use Rattle.chare_base.specs.declared.message.Port.TheVariants as ports
use Rattle.chare_base.specs.declared.message.ReductionId.{ReductionId}
use Rattle.chare_base.specs.declared.plan.ElementId.{ElementId}
use Rattle.chare_base.specs.declared.plan.Plan.{Plan}
use Rattle.chare_base.specs.declared.plan.Reduction.{Reduction}
use Rattle.chare_base.specs.Elements.{place_of}
use Rattle.chare_base.specs.Entries.{reduction_of}
use Rattle.chare_eval.specs.Stage.{one_value}
use Rattle.fault_script.specs.declared.fault.Fault.{Fault}
use Rattle.letter_post.specs.declared.letter.Letter.TheVariants as letters
use Rattle.letter_post.specs.declared.letter.Sent.{Sent}
use Rattle.letter_post.specs.Stamps.{lines_of}
use Rattle.object_steps.specs.Laws.{Follows}
use Rattle.object_steps.specs.Objects.{Progress, key_of}
use Rattle.ref_messages.specs.declared.key.RefKey.{RefKey}
use Rattle.node_core.specs.Gatherings.{Tallied, gathering, tallied}
use Rattle.node_core.specs.Keeps.{Alive, IsSharing, Keeps, element_of, share_of}
use Rattle.node_core.specs.Mail.{AllNumbered, BodyDid, BodyOwes, Contributed, Did, Given, Got, HearsMove, HearsMoveOn, HeldSince, In, IsAt, IsSomeAs, Moves, Owes, PacksMove, Paid, SentIsAt, ShareDid, TotalWasSent, TotalsWereSent, reduction_id}
use Rattle.node_core.specs.Nodes.{Body, Heard, NodeState, share_tallied, taken_at, taken_by, taken_in, to_slot, total_sent, total_taken, total_to, verdict_sent, with_body, with_objects}
use Rattle.node_core.specs.Rosters.{Roster, number_in, roster_of, seat_of, sharers_of}
use Rattle.node_core.specs.Turns.{takes}
use Rattle.node_core.proofs.Gathering.{gives_length}
use Rattle.node_core.proofs.Hearing.{into_shares}
use Rattle.node_core.proofs.Lists.{all_but, all_by, all_mapped, all_to, get_mapped, got_at, if_some}
use Rattle.node_core.proofs.Moving.{BodyMoves, no_out, numbered_to, paid_more, partial_more, shares_more, totals_more}
use Rattle.node_core.proofs.Passed.{got_below, tallied_own, tallied_stays}
use Rattle.node_core.proofs.Pasts.{got_own, got_takes, takes_past}
use Rattle.node_core.proofs.Seats.{numbered, seat_back}
use Rattle.node_core.proofs.Shares.{Long, SameKey}
use Rattle.node_core.proofs.Turning.{take_stays}
use Rattle.node_core.proofs.Within.{in_left, in_right}

-- ---- a message that an object takes, or doesn't

-- one object after mail: where it stands, how far it is and what it got stay
pub record Mailed (p : Plan) (o t : Progress) : Type 0 where
  pub element : t.element.0 ≡ o.element.0
  pub past : (k s q : ℕ) → Rattle.node_core.specs.Mail.Past k s q t → Rattle.node_core.specs.Mail.Past k s q o
  pub got : (k : ℕ) (port : Port) → Got p k port o → Got p k port t

mailed_takes : (p : Plan) (o : Progress) (key : RefKey) (payload : Payload) → Mailed p o (takes o key payload)
mailed_takes p o key payload = record {
  element = ap (λ (e : ElementId). e.0) (take_stays o key payload).element;
  past = takes_past o key payload;
  got = λ k port. got_takes p k port o key payload;
}

mailed_same : (p : Plan) (o : Progress) → Mailed p o o
mailed_same p o = record { element = refl; past = λ k s q h. h; got = λ k port h. h }

pub mailed_in : (p : Plan) (array : ℕ) (key : RefKey) (payload : Payload) (o : Progress) → Mailed p o (taken_in p array key payload o)
mailed_in p array key payload o = by ((place_of p o.element.0).array == array)
  where
    by : (b : Bool) → Mailed p o (cond b (takes o key payload) o)
    by true = mailed_takes p o key payload
    by false = mailed_same p o

module _ (p : Plan) (script : List Fault) (place : List ℕ) (K : ℕ) (n : NodeState) (keeps : Keeps p script place n) (b : Body) (alive : Alive p script place n b) where
  paid_mailed : (log : List Sent) (o t : Progress) → Mailed p o t → Paid p place n.last.stamp log o → Paid p place n.last.stamp log t
  paid_mailed log o t m paid x s q e k sends past =
      paid x s q e k (subst (λ f. Rattle.node_core.specs.Mail.Sends p x f s q e) m.element sends) (m.past k s q past)

  contributed_mailed : (log : List Sent) (objects : List Progress) (i : ℕ) (o t : Progress) → Mailed p o t → Contributed p n b log i o → Contributed p (with_body n (with_objects b objects b.gatherings)) (with_objects b objects b.gatherings) log i t
  contributed_mailed log objects i o t m had r s q k gives past = had r s q k (subst (λ f. Rattle.node_core.specs.Mail.Contributes p r f s q) m.element gives) (m.past k s q past)

  -- objects after mail, each as it was but for the message
  abbrev Mails : List Progress → List Progress → Type 0
  Mails [] [] = Unit {0}
  Mails [] (t ∷ more) = ⊥
  Mails (o ∷ more) [] = ⊥
  Mails (o ∷ more) (t ∷ after) = Mailed p o t × Mails more after

  mails_same : (all : List Progress) → Mails all all
  mails_same [] = tt
  mails_same (o ∷ more) = (mailed_same p o, mails_same more)

  mails_set : (all : List Progress) (i : ℕ) (o t : Progress) → slice_get all i ≡ Some o → Mailed p o t → Mails all (slice_set all i t)
  mails_set [] i o t h m = tt
  mails_set (x ∷ more) zero o t h m = (subst (λ y. Mailed p y t) (sym (same_Some x o h)) m, mails_same more)
  mails_set (x ∷ more) (suc i) o t h m = (mailed_same p x, mails_set more i o t h m)

  pub mails_mapped : (all : List Progress) (f : Progress → Progress) → ((o : Progress) → Mailed p o (f o)) → Mails all (map f all)
  mails_mapped [] f m = tt
  mails_mapped (o ∷ more) f m = (m o, mails_mapped more f m)

  got_mails : (k : ℕ) (port : Port) (C : ℕ → Type 0) (all after : List Progress) → Mails all after → AllByRecursion (λ o. C o.element.0 → Got p k port o) all → AllByRecursion (λ o. C o.element.0 → Got p k port o) after
  got_mails k port C [] [] m h = tt
  got_mails k port C [] (t ∷ more) m h = absurd m
  got_mails k port C (o ∷ more) [] m h = absurd m
  got_mails k port C (o ∷ more) (t ∷ after) m h = (λ c. m.0.got k port (h.0 (subst C m.0.element c)), got_mails k port C more after m.1 h.1)

  paid_mails : (log : List Sent) (all after : List Progress) → Mails all after → AllByRecursion (Paid p place n.last.stamp log) all → AllByRecursion (Paid p place n.last.stamp log) after
  paid_mails log [] [] m h = tt
  paid_mails log [] (t ∷ more) m h = absurd m
  paid_mails log (o ∷ more) [] m h = absurd m
  paid_mails log (o ∷ more) (t ∷ after) m h = (paid_mailed log o t m.0 h.0, paid_mails log more after m.1 h.1)

  shared_mails : (log : List Sent) (objects : List Progress) (i : ℕ) (all after : List Progress) → Mails all after → AllNumbered (Contributed p n b log) i all →
      AllNumbered (Contributed p (with_body n (with_objects b objects b.gatherings)) (with_objects b objects b.gatherings) log) i after
  shared_mails log objects i [] [] m h = tt
  shared_mails log objects i [] (t ∷ more) m h = absurd m
  shared_mails log objects i (o ∷ more) [] m h = absurd m
  shared_mails log objects i (o ∷ more) (t ∷ after) m h = (contributed_mailed log objects i o t m.0 h.0, shared_mails log objects (suc i) more after m.1 h.1)

  pub mail_moves : (objects : List Progress) → Mails b.objects objects → BodyMoves p place K n b (with_objects b objects b.gatherings) []
  mail_moves objects m = record {
    got = λ k port C all. got_mails k port C b.objects objects m all;
    shares = λ log r k node did. shares_more p log [] n b n.last.stamp r k node did;
    held = λ log owes stamp piece h. h;
    owes = λ log owes. subst (λ l. BodyOwes p place K l (with_body n (with_objects b objects b.gatherings)) (with_objects b objects b.gatherings)) (sym (no_out log)) (record {
      objects = paid_mails log b.objects objects m owes.objects;
      contributed = shared_mails log objects 0 b.objects objects m owes.contributed;
      piece = owes.piece;
      verdict = owes.verdict;
      fresh = owes.fresh;
      other = owes.other;
    });
    pieces = λ log owes. tt;
  }

  -- ---- a parcel

  pub mails_taken : (k : ℕ) (entry : EntryId) (payload : Payload) (seat : Option ℕ) → Mails b.objects (taken_at k entry payload b.objects seat)
  mails_taken k entry payload None = mails_same b.objects
  mails_taken k entry payload (Some i) = by (slice_get b.objects i) refl
    where
      by : (o : Option Progress) → slice_get b.objects i ≡ o → Mails b.objects (taken_by k entry payload b.objects i o)
      by None h = mails_same b.objects
      by (Some o) h = mails_set b.objects i o (takes o (key_of k (ports.Entry entry)) payload) h (mailed_takes p o (key_of k (ports.Entry entry)) payload)

  -- an object's place is its element's seat
  seat_there : (m : ℕ) (o : Progress) → slice_get b.objects m ≡ Some o → seat_of n.roster o.element.0 ≡ Some m
  seat_there m o h =
      ap (λ q. seat_of q o.element.0) keeps.roster.is
      ∙ seat_back p place n.slot.node m o.element.0 (ap (λ l. slice_get l m) (sym alive.members) ∙ get_mapped element_of b.objects m o h)

  abbrev Took : ℕ → EntryId → ℕ → Progress → Type 0
  Took k entry to o = o.element.0 ≡ to → Got p k (ports.Entry entry) o

  pub parcel_done : (k : ℕ) (entry : EntryId) (to : ElementId) (payload : Payload) → AllByRecursion (Took k entry to.0) (taken_at k entry payload b.objects (seat_of n.roster to.0))
  parcel_done k entry to payload = by (seat_of n.roster to.0) refl
    where
      seat_is : (seat : Option ℕ) → seat_of n.roster to.0 ≡ seat → (m : ℕ) (o : Progress) → slice_get b.objects m ≡ Some o → o.element.0 ≡ to.0 → seat ≡ Some m
      seat_is seat q m o h e = sym q ∙ ap (seat_of n.roster) (sym e) ∙ seat_there m o h

      at : (i : ℕ) → seat_of n.roster to.0 ≡ Some i → (o : Option Progress) → slice_get b.objects i ≡ o → AllByRecursion (Took k entry to.0) (taken_by k entry payload b.objects i o)
      at i q None h =
          all_by (Took k entry to.0) b.objects
          (λ m o g e. let same : i ≡ m = same_Some i m (seat_is (Some i) q m o g e) in let z : None ≡ Some o = sym h ∙ ap (slice_get b.objects) same ∙ g in absurd cc)
      at i q (Some o) h =
          all_but (Took k entry to.0) b.objects i (takes o (key_of k (ports.Entry entry)) payload)
          (λ m x g other e. absurd (other (sym (same_Some i m (seat_is (Some i) q m x g e)))))
          (λ e. got_own p k (ports.Entry entry) o payload (got_at (Follows p (lines_of script n.last.stamp)) b.objects i o alive.objects h).fits.since)

      by : (seat : Option ℕ) → seat_of n.roster to.0 ≡ seat → AllByRecursion (Took k entry to.0) (taken_at k entry payload b.objects seat)
      by None q = all_by (Took k entry to.0) b.objects (λ m o g e. let z : None ≡ Some m = seat_is None q m o g e in absurd cc)
      by (Some i) q = at i q (slice_get b.objects i) refl

  -- ---- a total

  pub total_done : (k : ℕ) (r : ReductionId) (v : ℤ) (x : Reduction) → AllByRecursion (λ o. (place_of p o.element.0).array ≡ x.owner → Got p k (ports.Total r) o) (map (total_taken p k r v x.owner) b.objects)
  total_done k r v x =
      all_mapped (Follows p (lines_of script n.last.stamp)) (λ o. (place_of p o.element.0).array ≡ x.owner → Got p k (ports.Total r) o) (total_taken p k r v x.owner) b.objects one alive.objects
    where
      one : (o : Progress) → Follows p (lines_of script n.last.stamp) o → (place_of p (total_taken p k r v x.owner o).element.0).array ≡ x.owner → Got p k (ports.Total r) (total_taken p k r v x.owner o)
      one o f e =
          let same = (mailed_in p x.owner (key_of k (ports.Total r)) (one_value v) o).element in
          let own : ((place_of p o.element.0).array == x.owner) ≡ true = eq-eqb (place_of p o.element.0).array x.owner (ap (λ m. (place_of p m).array) (sym same) ∙ e) in
          subst (λ c. Got p k (ports.Total r) (cond c (takes o (key_of k (ports.Total r)) (one_value v)) o)) (sym own) (got_own p k (ports.Total r) o (one_value v) f.fits.since)

  -- ---- a share

  module _ (log : List Sent) where
    pub paid_log : (out : List Sent) → AllByRecursion (Paid p place n.last.stamp log) b.objects → AllByRecursion (Paid p place n.last.stamp (log ++ out)) b.objects
    paid_log out = all_to (Paid p place n.last.stamp log) (Paid p place n.last.stamp (log ++ out)) b.objects (λ o paid. paid_more p place n.last.stamp log out o paid)

    pub shared_log : (out : List Sent) (after : Body) → after.gatherings ≡ b.gatherings → AllNumbered (Contributed p n b log) 0 b.objects → AllNumbered (Contributed p (with_body n after) after (log ++ out)) 0 b.objects
    shared_log out after same = numbered_to (Contributed p n b log) (Contributed p (with_body n after) after (log ++ out)) 0 b.objects (λ i o had r s q k gives past. move r k (Rattle.node_core.specs.Rosters.rank_of n.roster i) (had r s q k gives past))
      where
        move : (r k i : ℕ) → Given b.gatherings r k i ⊎ Rattle.node_core.specs.Mail.PartialWasSent n.last.stamp r k n.slot.node log →
            Given after.gatherings r k i ⊎ Rattle.node_core.specs.Mail.PartialWasSent n.last.stamp r k n.slot.node (log ++ out)
        move r k i (inl g) = inl (subst (λ l. Given l r k i) (sym same) g)
        move r k i (inr g) = inr (partial_more n.last.stamp r k n.slot.node log out g)

  all_in : {A B : Type 0} (f : A → B) (xs : List A) → AllByRecursion (λ x. In (f x) (map f xs)) xs
  all_in f [] = tt
  all_in f (x ∷ xs) = (inl refl, all_to (λ y. In (f y) (map f xs)) (λ y. In (f y) (f x ∷ map f xs)) xs (λ y h. inr h) (all_in f xs))

  -- the totals went to all sharers
  totals_there : (log : List Sent) (r : ReductionId) (k : ℕ) (nodes : List ℕ) (total : Option ℤ) (m l : ℕ) → IsSome total → r.0 ≡ m → k ≡ l → TotalsWereSent n.last.stamp m l nodes (log ++ total_sent n.slot.replica n.last.stamp r k nodes total)
  totals_there log r k nodes None m l some same at = absurd (let e : false ≡ true = some in cc)
  totals_there log r k nodes (Some v) m l some same at =
      all_to (λ j. In (total_to n.slot.replica n.last.stamp r k v j) (map (total_to n.slot.replica n.last.stamp r k v) nodes)) (TotalWasSent n.last.stamp m l (log ++ map (total_to n.slot.replica n.last.stamp r k v) nodes)) nodes
      (λ j h.
      let is : to_slot n.last.stamp.replica j (letters.Total n.last.stamp (reduction_id m) l v) ≡ total_to n.slot.replica n.last.stamp r k v j =
      ap (λ q. to_slot q j (letters.Total n.last.stamp (reduction_id m) l v)) keeps.stamped
      ∙ ap (λ q. to_slot n.slot.replica j (letters.Total n.last.stamp (reduction_id q) l v)) (sym same) ∙ ap (λ q. to_slot n.slot.replica j (letters.Total n.last.stamp r q v)) (sym at) in
      record {
        value = v;
        there = subst (λ y. In y (log ++ map (total_to n.slot.replica n.last.stamp r k v) nodes)) (sym is) (in_right (total_to n.slot.replica n.last.stamp r k v j) log (map (total_to n.slot.replica n.last.stamp r k v) nodes) h);
      })
      (all_in (total_to n.slot.replica n.last.stamp r k v) nodes)

  totals_at : (r : ReductionId) (k : ℕ) (nodes : List ℕ) (total : Option ℤ) → AllByRecursion (SentIsAt K) (total_sent n.slot.replica n.last.stamp r k nodes total)
  totals_at r k nodes None = tt
  totals_at r k nodes (Some v) = each nodes
    where
      each : (xs : List ℕ) → AllByRecursion (SentIsAt K) (map (total_to n.slot.replica n.last.stamp r k v) xs)
      each [] = tt
      each (x ∷ xs) = (tt, each xs)

  module _ (r : ReductionId) (k node : ℕ) (v : ℤ) (x : Reduction) (is : reduction_of p r.0 ≡ Some x) (rank : ℕ) (number : number_in 0 (sharers_of n.roster x.owner) node ≡ Some rank) where
    abbrev nodes : List ℕ
    nodes = sharers_of n.roster x.owner

    abbrev tally : Tallied
    tally = tallied x.how (length nodes) rank r k v b.totals

    abbrev shared : Heard
    shared = share_tallied n.slot.replica n.last.stamp r k nodes b tally

    one_stays : (log : List Sent) (m l : ℕ) (y : Reduction) (i : ℕ) → reduction_of p m ≡ Some y → Given b.totals m l i → Given tally.gatherings m l i ⊎ TotalsWereSent n.last.stamp m l (sharers_of n.roster y.owner) (log ++ shared.out)
    one_stays log m l y i there g = by (tallied_stays x.how (length nodes) rank r k v b.totals m l i g)
      where
        by : Given tally.gatherings m l i ⊎ (SameKey m l (gathering x.how (length nodes) r k) × IsSome tally.total) → Given tally.gatherings m l i ⊎ TotalsWereSent n.last.stamp m l (sharers_of n.roster y.owner) (log ++ shared.out)
        by (inl h) = inl h
        by (inr h) =
            let same : x ≡ y = same_Some x y (sym is ∙ ap (reduction_of p) h.0.reduction ∙ there) in
            inr (subst (λ (z : Reduction). TotalsWereSent n.last.stamp m l (sharers_of n.roster z.owner) (log ++ shared.out)) same (totals_there log r k nodes tally.total m l h.1 h.0.reduction h.0.iteration))

    pub share_moves : BodyMoves p place K n b shared.body shared.out
    share_moves = record {
      got = λ l port C all. all;
      shares = stays;
      held = λ log owes stamp piece h. h;
      owes = λ log owes. record {
        objects = paid_log log shared.out owes.objects;
        contributed = shared_log log shared.out shared.body refl owes.contributed;
        piece = λ one. if_some _ _ b.fresh (λ piece. in_left (to_slot 0 n.slot.node (letters.Piece n.last.stamp piece)) log shared.out) (owes.piece one);
        verdict = λ zero. if_some _ _ b.fresh (λ mine. if_some _ _ b.other (λ held there same. in_left (verdict_sent p n.last.stamp mine held) log shared.out (there same))) (owes.verdict zero);
        fresh = owes.fresh;
        other = owes.other;
      };
      pieces = λ log owes. totals_at r k nodes tally.total;
    }
      where
        stays : (log : List Sent) (m l from : ℕ) → ShareDid p log n b n.last.stamp m l from → ShareDid p (log ++ shared.out) (with_body n shared.body) shared.body n.last.stamp m l from
        stays log m l from did y i there at = by (did y i there at)
          where
            by : Given b.totals m l i ⊎ TotalsWereSent n.last.stamp m l (sharers_of n.roster y.owner) log → Given tally.gatherings m l i ⊎ TotalsWereSent n.last.stamp m l (sharers_of n.roster y.owner) (log ++ shared.out)
            by (inl g) = one_stays log m l y i there g
            by (inr g) = inr (totals_more n.last.stamp m l (sharers_of n.roster y.owner) log shared.out g)

    pub share_done : (log : List Sent) → ShareDid p (log ++ shared.out) (with_body n shared.body) shared.body n.last.stamp r.0 k node
    share_done log y i there at =
        let same : x ≡ y = same_Some x y (sym is ∙ there) in
        let number_y : number_in 0 (sharers_of n.roster y.owner) node ≡ Some rank = subst (λ (z : Reduction). number_in 0 (sharers_of n.roster z.owner) node ≡ Some rank) same number in
        let rank_is : rank ≡ i = same_Some rank i (sym number_y ∙ at) in
        subst (λ m. Given tally.gatherings r.0 k m ⊎ TotalsWereSent n.last.stamp r.0 k (sharers_of n.roster y.owner) (log ++ shared.out)) rank_is
        (subst (λ (z : Reduction). Given tally.gatherings r.0 k rank ⊎ TotalsWereSent n.last.stamp r.0 k (sharers_of n.roster z.owner) (log ++ shared.out)) same (mine (tallied_own x.how (length nodes) rank r.0 k v b.totals below long)))
      where
        below : rank < length nodes
        below = got_below nodes rank node (numbered nodes node rank number)

        long : AllByRecursion (Long (gathering x.how (length nodes) r k) rank) b.totals
        long =
            all_to (IsSharing p place (lines_of script n.last.stamp) n.roster) (Long (gathering x.how (length nodes) r k) rank) b.totals
            (λ g h of.
            let gathers = into_shares p place (lines_of script n.last.stamp) n.roster r k x is g of h in
            let count = gives_length (share_of p place (lines_of script n.last.stamp) x r.0 k) nodes g.gathered.given gathers.gives in
            omega (arith, count, below))
            alive.totals

        mine : Given tally.gatherings r.0 k rank ⊎ IsSome tally.total → Given tally.gatherings r.0 k rank ⊎ TotalsWereSent n.last.stamp r.0 k nodes (log ++ shared.out)
        mine (inl g) = inl g
        mine (inr g) = inr (totals_there log r k nodes tally.total r.0 k g refl refl)
