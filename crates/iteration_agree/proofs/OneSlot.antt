-- One slot's moves keep what holds of it.
use Rattle.std.proofs.Common.{◌≡◌, ℕ, suc, ◌<◌, ◌≤◌, Bool, true, false, cond, refl, ap, sym, ◌∙◌, arith, subst, Option, Some, None, inl, inr}
use Rattle.std.specs.Prelude.{◌&&◌, ◌==◌, not, max, nat_le, is_none, unwrap_or, IfSome, IsSome, ◌⊎◌}
use Rattle.std.proofs.lemmas.Bool.{eqb-true, leb-false}
use Rattle.std.proofs.lemmas.Bool.Decides.{Decides-eqb}
use Rattle.iteration_agree.specs.declared.round.Leave.{Leave}
use Rattle.iteration_agree.specs.declared.round.Leave.TheVariants as leaves
use Rattle.iteration_agree.specs.declared.round.Round.{Round}
use Rattle.iteration_agree.specs.declared.round.Round.TheVariants.{Quiet, Gather, Agreed}
use Rattle.iteration_agree.specs.declared.round.Taking.{Taking}
use Rattle.iteration_agree.specs.declared.slot.Cap.{Cap}
use Rattle.iteration_agree.specs.declared.slot.Slot.{Slot}
use Rattle.iteration_agree.specs.Rounds.{IsAgreed, IsGather, IsQuiet, number, takes_part}
use Rattle.iteration_agree.specs.Slots.{cap_in, leave, leave_at, limit, reported, slot_begun, slot_noted, slot_packed, slot_released, slot_reported, slot_rewound, slot_saw, went}
use Rattle.iteration_agree.specs.Under.{BackTo, InRound, MayPack, MayReport, MayRewind, SawAgreed, SeenAs, UnderSlot}

-- a slot by its parts
abbrev pub slot : ℕ → Round → ℕ → Option Cap → Bool → Option ℕ → Option ℕ → Slot
slot replica seen top cap free packed noted = record { replica = replica; seen = seen; top = top; cap = cap; free = free; packed = packed; noted = noted }

abbrev pub cap_of : ℕ → ℕ → Cap
cap_of cap round = record { cap = cap; round = round }

pub no_some : (o : Option ℕ) → IsSome o → o ≡ None → ⊥
no_some None some is = absurd cc
no_some (Some n) some is = absurd cc

-- what a slot's cap says, where it is this cap
of_cap : (P : Cap → Type 0) (cap : Option Cap) (c : Cap) → cap ≡ Some c → IfSome cap P → P c
of_cap P cap c is h = subst (λ o. IfSome o P) is h

if_cap : (P : Cap → Type 0) (cap : Option Cap) → ((c : Cap) → cap ≡ Some c → P c) → IfSome cap P
if_cap P None to = tt
if_cap P (Some c) to = to c refl

-- ---- caps and limits

pub cap_here : (c : Cap) (n : ℕ) → c.round ≡ n → cap_in n (Some c) ≡ Some c.cap
cap_here c n h = ap (λ b. cond b (Some c.cap) None) ((Decides-eqb c.round n).1 h)

pub cap_is : (cap : Option Cap) (r n : ℕ) → cap_in r cap ≡ Some n → cap ≡ Some (cap_of n r)
cap_is None r n h = absurd cc
cap_is (Some c) r n h = by (c.round == r) refl h
  where
    by : (b : Bool) → (c.round == r) ≡ b → cond b (Some c.cap) None ≡ Some n → Some c ≡ Some (cap_of n r)
    by true t e = let a : c.cap ≡ n = cc in ap (λ m. Some (cap_of m c.round)) a ∙ ap (λ m. Some (cap_of n m)) (eqb-true c.round r t)
    by false t e = absurd cc

pub below : (o : Option ℕ) (l k : ℕ) → o ≡ Some l → leave_at o k ≡ leaves.Go → k < l
below o l k is go = by (nat_le l k) refl (sym (ap (λ x. leave_at x k) is) ∙ go)
  where
    by : (b : Bool) → nat_le l k ≡ b → cond b (leaves.Hold l) leaves.Go ≡ leaves.Go → k < l
    by true t h = absurd cc
    by false t h = leb-false l k t

module _ (replica top : ℕ) (cap : Option Cap) (free : Bool) (packed noted : Option ℕ) where
  limit_gather : (r f c : ℕ) → cap_in r cap ≡ Some c → limit (slot replica (Gather r f) top cap free packed noted) ≡ Some c
  limit_gather r f c is = ap (λ o. cond (not free && is_none o) (Some top) (Some (unwrap_or o top))) is ∙ by free
    where
      by : (b : Bool) → cond (not b && false) (Some top) (Some c) ≡ Some c
      by true = refl
      by false = refl

  pub limit_agreed : (r k c : ℕ) → cap_in r cap ≡ Some c → limit (slot replica (Agreed r k) top cap free packed noted) ≡ Some k
  limit_agreed r k c is = ap (λ o. cond (not free && is_none o) (Some top) (Some k)) is ∙ by free
    where
      by : (b : Bool) → cond (not b && false) (Some top) (Some k) ≡ Some k
      by true = refl
      by false = refl

  -- where it reported in a round that stands, it begins what is below its cap, or below what was agreed
  go_gather : (r f floor : ℕ) (k : ℕ) (seen : Round) (c : Cap) → cap ≡ Some c → c.round ≡ r → number seen ≡ r → (IsQuiet seen → ⊥) → SeenAs (Gather r f) floor seen →
      leave (slot replica seen top cap free packed noted) k ≡ leaves.Go → k < c.cap
  go_gather r f floor k (Quiet n) c is at here loud same go = absurd (loud tt)
  go_gather r f floor k (Agreed n j) c is at here loud same go = absurd cc
  go_gather r f floor k (Gather n j) c is at here loud same go =
      below (limit (slot replica (Gather n j) top cap free packed noted)) c.cap k (limit_gather n j c.cap (ap (cap_in n) is ∙ cap_here c n (omega (arith, at, here)))) go

  go_agreed : (r big floor : ℕ) (k : ℕ) (seen : Round) (c : Cap) → cap ≡ Some c → c.round ≡ r → c.cap ≤ big → number seen ≡ r → (IsQuiet seen → ⊥) → SeenAs (Agreed r big) floor seen →
      leave (slot replica seen top cap free packed noted) k ≡ leaves.Go → k < big
  go_agreed r big floor k (Quiet n) c is at few here loud same go = absurd (loud tt)
  go_agreed r big floor k (Gather n j) c is at few here loud same go =
      omega (arith, few, below (limit (slot replica (Gather n j) top cap free packed noted)) c.cap k (limit_gather n j c.cap (ap (cap_in n) is ∙ cap_here c n (omega (arith, at, here)))) go)
  go_agreed r big floor k (Agreed n j) c is at few here loud same go =
      let same_k : big ≡ j = cc in
      omega (arith, same_k, below (limit (slot replica (Agreed n j) top cap free packed noted)) j k (limit_agreed n j c.cap (ap (cap_in n) is ∙ cap_here c n (omega (arith, at, here)))) go)

-- ---- begin

-- what is agreed is at least the floor and the slot's noted cap
abbrev pub Below : Round → ℕ → Slot → Type 0
Below (Quiet r) floor s = Unit {0}
Below (Gather r f) floor s = Unit {0}
Below (Agreed r k) floor s = (floor ≤ k) × IfSome s.noted (λ n. n ≤ k)

-- A slot that is noted reported in this round, which it saw and didn't see quiet.
record NotedAs (round : Round) (floor : ℕ) (s : Slot) (n : ℕ) : Type 0 where
  cap : s.cap ≡ Some (cap_of n (number round))
  here : number s.seen ≡ number round
  loud : IsQuiet s.seen → ⊥
  same : SeenAs round floor s.seen

noted_as : (round : Round) (floor : ℕ) (taking : Taking) (s : Slot) (n : ℕ) → UnderSlot round floor taking s → s.noted ≡ Some n → NotedAs round floor s n
noted_as round floor taking s n u is =
    let whole : s.cap ≡ Some (cap_of n (number round)) = subst (λ o. IfSome o (λ m. s.cap ≡ Some (cap_of m (number round)))) is u.noted in
    let later : number round ≤ number s.seen = of_cap (λ x. x.round ≤ number s.seen) s.cap (cap_of n (number round)) whole u.reported in
    let here : number s.seen ≡ number round = omega (arith, later, u.seen) in
    record {
      cap = whole;
      here = here;
      loud = of_cap (λ x. x.round ≡ number s.seen → IsQuiet s.seen → ⊥) s.cap (cap_of n (number round)) whole u.loud (sym here);
      same = u.same here;
    }

-- a slot that takes part begins nothing from the agreed iteration on
pub go_below : (r big floor : ℕ) (taking : Taking) (s : Slot) (k : ℕ) → UnderSlot (Agreed r big) floor taking s → Below (Agreed r big) floor s → takes_part taking s.replica ≡ true → leave s k ≡ leaves.Go → k < big
go_below r big floor taking s k u under part go = by s.noted refl
  where
    by : (noted : Option ℕ) → s.noted ≡ noted → k < big
    by None is = absurd (no_some s.noted (u.here part).0 is)
    by (Some n) is =
        let few : n ≤ big = subst (λ o. IfSome o (λ m. m ≤ big)) is under.1 in
        let told : NotedAs (Agreed r big) floor s n = noted_as (Agreed r big) floor taking s n u is in
        go_agreed s.replica s.top s.cap s.free s.packed s.noted r big floor k s.seen (cap_of n r) told.cap refl few told.here told.loud told.same go

module _ (floor : ℕ) (taking : Taking) (k : ℕ) where
  go_here : (round : Round) (s : Slot) → UnderSlot round floor taking s → Below round floor s → leave s k ≡ leaves.Go → InRound round floor taking (record s { top = max s.top (suc k) })
  go_here (Quiet r) s u under go = u.here
  go_here (Gather r f) s u under go = if_cap (λ c. c.round ≡ r → max s.top (suc k) ≤ max c.cap floor) s.cap raised
    where
      raised : (c : Cap) → s.cap ≡ Some c → c.round ≡ r → max s.top (suc k) ≤ max c.cap floor
      raised c is at =
          let reported : c.round ≤ number s.seen = of_cap (λ x. x.round ≤ number s.seen) s.cap c is u.reported in
          let before : s.top ≤ max c.cap floor = of_cap (λ x. x.round ≡ r → s.top ≤ max x.cap floor) s.cap c is u.here at in
          let here : number s.seen ≡ r = omega (arith, at, reported, u.seen) in
          let loud : IsQuiet s.seen → ⊥ = of_cap (λ x. x.round ≡ number s.seen → IsQuiet s.seen → ⊥) s.cap c is u.loud (at ∙ sym here) in
          let low : k < c.cap = go_gather s.replica s.top s.cap s.free s.packed s.noted r f floor k s.seen c is at here loud (u.same here) go in
          omega (arith, low, before)
  go_here (Agreed r big) s u under go = λ part. ((u.here part).0, omega (arith, go_below r big floor taking s k u under part go, (u.here part).1))

  pub begun_under : (round : Round) (s : Slot) → UnderSlot round floor taking s → Below round floor s → UnderSlot round floor taking (slot_begun k s)
  begun_under round s u under = by (leave s k) refl
    where
      by : (l : Leave) → leave s k ≡ l → UnderSlot round floor taking (went s k l)
      by (leaves.Hold limit) is = u
      by leaves.Go is = record { seen = u.seen; reported = u.reported; loud = u.loud; parked = u.parked; same = u.same; noted = u.noted; here = go_here round s u under is }

-- ---- see

seen_same : (round : Round) (floor : ℕ) → ((r f : ℕ) → round ≡ Gather r f → f ≡ floor) → SeenAs round floor round
seen_same (Quiet r) floor is = tt
seen_same (Gather r f) floor is = is r f refl
seen_same (Agreed r k) floor is = refl

-- who saw it agreed sees it agreed
still_agreed : (round : Round) (floor : ℕ) (seen : Round) → IsAgreed seen → SeenAs round floor seen → IsAgreed round
still_agreed round floor (Quiet r) is same = absurd is
still_agreed round floor (Gather r f) is same = absurd is
still_agreed round floor (Agreed r k) is same = subst (λ x. IsAgreed x) (sym same) tt

module _ (floor : ℕ) (taking : Taking) where
  pub saw_under : (round : Round) (s : Slot) → ((r f : ℕ) → round ≡ Gather r f → f ≡ floor) → UnderSlot round floor taking s → UnderSlot round floor taking (slot_saw round s)
  saw_under round s floor_is u = record {
    seen = omega arith;
    reported = if_cap (λ c. c.round ≤ number round) s.cap (λ c is. omega (arith, early c is, u.seen));
    loud = loud_here round u.here;
    parked = λ held. if_cap (λ c. c.round ≡ number round → IsAgreed round) s.cap (parked_here held);
    same = λ _. seen_same round floor floor_is;
    noted = u.noted;
    here = saw_here round u.here;
  }
    where
      early : (c : Cap) → s.cap ≡ Some c → c.round ≤ number s.seen
      early c is = of_cap (λ x. x.round ≤ number s.seen) s.cap c is u.reported

      parked_here : s.free ≡ false → (c : Cap) → s.cap ≡ Some c → c.round ≡ number round → IsAgreed round
      parked_here held c is at =
          let here : number s.seen ≡ number round = omega (arith, early c is, u.seen, at) in
          still_agreed round floor s.seen (of_cap (λ x. x.round ≡ number s.seen → IsAgreed s.seen) s.cap c is (u.parked held) (at ∙ sym here)) (u.same here)

      loud_here : (round : Round) → InRound round floor taking s → IfSome s.cap (λ c. c.round ≡ number round → IsQuiet round → ⊥)
      loud_here (Quiet r) h = if_cap (λ c. c.round ≡ r → IsQuiet (Quiet r) → ⊥) s.cap (λ c is at q. let lower : c.round < r = of_cap (λ x. x.round < r) s.cap c is h.0 in absurd (omega (arith, lower, at)))
      loud_here (Gather r f) h = if_cap (λ c. c.round ≡ r → ⊥ → ⊥) s.cap (λ c is at q. q)
      loud_here (Agreed r k) h = if_cap (λ c. c.round ≡ r → ⊥ → ⊥) s.cap (λ c is at q. q)

      saw_here : (round : Round) → InRound round floor taking s → InRound round floor taking (slot_saw round s)
      saw_here (Quiet r) h = (h.0, λ _. tt)
      saw_here (Gather r f) h = h
      saw_here (Agreed r k) h = h

-- ---- report and note

-- what is noted is the cap that it reported in the round that it saw
noted_reported : (round : Round) (floor : ℕ) (taking : Taking) (s : Slot) (n : ℕ) → UnderSlot round floor taking s → s.noted ≡ Some n → reported s ≡ Some n
noted_reported round floor taking s n u is =
    let told : NotedAs round floor s n = noted_as round floor taking s n u is in
    ap (cap_in (number s.seen)) told.cap ∙ cap_here (cap_of n (number round)) (number s.seen) (sym told.here)

gather_not_quiet : (seen : Round) → IsGather seen → IsQuiet seen → ⊥
gather_not_quiet (Quiet r) g q = absurd g
gather_not_quiet (Gather r f) g q = absurd q
gather_not_quiet (Agreed r k) g q = absurd q

module _ (floor : ℕ) (taking : Taking) where
  pub reported_under : (round : Round) (s : Slot) → MayReport s → UnderSlot round floor taking s → UnderSlot round floor taking (slot_reported s)
  reported_under round s may u = record {
    seen = u.seen;
    reported = omega arith;
    loud = λ at q. gather_not_quiet s.seen may.gather q;
    parked = λ held. absurd (let never : true ≡ false = sym may.free ∙ held in cc);
    same = u.same;
    noted = no_note s.noted refl;
    here = reports_here round s.noted refl u.here u.seen;
  }
    where
      none_noted : (n : ℕ) → s.noted ≡ Some n → ⊥
      none_noted n is = absurd (let q : None ≡ Some n = sym may.once ∙ noted_reported round floor taking s n u is in cc)

      no_note : (noted : Option ℕ) → s.noted ≡ noted → IfSome noted (λ n. Some (cap_of s.top (number s.seen)) ≡ Some (cap_of n (number round)))
      no_note None is = tt
      no_note (Some n) is = absurd (none_noted n is)

      reports_here : (now : Round) (noted : Option ℕ) → s.noted ≡ noted → InRound now floor taking s → number s.seen ≤ number now → InRound now floor taking (slot_reported s)
      reports_here (Quiet n) noted is h seen = (lower (λ at. gather_not_quiet s.seen may.gather (h.1 at)) seen, h.1)
        where
          lower : (number s.seen ≡ n → ⊥) → number s.seen ≤ n → number s.seen < n
          lower other le = omega (arith, le, other)
      reports_here (Gather n j) noted is h seen = λ at. omega arith
      reports_here (Agreed n k) None is h seen = λ part. absurd (no_some s.noted (h part).0 is)
      reports_here (Agreed n k) (Some m) is h seen = absurd (none_noted m is)

  pub noted_under : (round : Round) (s : Slot) → UnderSlot round floor taking s → UnderSlot round floor taking (slot_noted round s)
  noted_under (Quiet r) s u = u
  noted_under (Agreed r k) s u = u
  noted_under (Gather r f) s u = record { seen = u.seen; reported = u.reported; loud = u.loud; parked = u.parked; same = u.same; noted = by (cap_in r s.cap) refl; here = u.here }
    where
      by : (o : Option ℕ) → cap_in r s.cap ≡ o → IfSome o (λ n. s.cap ≡ Some (cap_of n r))
      by None is = tt
      by (Some n) is = cap_is s.cap r n is

-- ---- pack, rewind, release

saw_agreed : (top : ℕ) (seen : Round) → SawAgreed top seen → IsAgreed seen
saw_agreed top (Quiet r) saw = absurd saw
saw_agreed top (Gather r f) saw = absurd saw
saw_agreed top (Agreed r k) saw = tt

module _ (floor : ℕ) (taking : Taking) where
  pub packed_under : (round : Round) (s : Slot) → MayPack s → UnderSlot round floor taking s → UnderSlot round floor taking (slot_packed s)
  packed_under round s may u = record {
    seen = u.seen;
    reported = u.reported;
    loud = u.loud;
    parked = λ held. if_cap (λ c. c.round ≡ number s.seen → IsAgreed s.seen) s.cap (λ c is at. saw_agreed s.top s.seen may);
    same = u.same;
    noted = u.noted;
    here = packs_here round u.here;
  }
    where
      packs_here : (round : Round) → InRound round floor taking s → InRound round floor taking (slot_packed s)
      packs_here (Quiet r) h = h
      packs_here (Gather r f) h = h
      packs_here (Agreed r k) h = h

  pub released_under : (round : Round) (s : Slot) → UnderSlot round floor taking s → UnderSlot round floor taking (slot_released s)
  released_under round s u = record {
    seen = u.seen;
    reported = u.reported;
    loud = u.loud;
    parked = λ held. absurd (let never : true ≡ false = held in cc);
    same = u.same;
    noted = u.noted;
    here = releases_here round u.here;
  }
    where
      releases_here : (round : Round) → InRound round floor taking s → InRound round floor taking (slot_released s)
      releases_here (Quiet r) h = h
      releases_here (Gather r f) h = h
      releases_here (Agreed r k) h = h

module _ (floor : ℕ) (taking : Taking) (base : ℕ) where
  -- where it saw this round, and not quiet: at most the floor, or what was agreed
  low : (now : Round) (seen : Round) → SeenAs now floor seen → BackTo base seen → (IsQuiet seen → ⊥) → (base ≤ floor) ⊎ ((k : ℕ) × (n : ℕ) × (now ≡ Agreed n k) × (base ≤ k))
  low now (Quiet r) same b loud = absurd (loud tt)
  low now (Gather r f) same b loud = inl (omega (arith, same, b))
  low now (Agreed r k) same b loud = inr (k, r, same, b)

  pub rewound_under : (round : Round) (s : Slot) → MayRewind base s → UnderSlot round floor taking s → Below round floor s → UnderSlot round floor taking (slot_rewound base s)
  rewound_under round s may u under = record { seen = u.seen; reported = u.reported; loud = u.loud; parked = u.parked; same = u.same; noted = u.noted; here = here round u under }
    where
      here : (now : Round) → UnderSlot now floor taking s → Below now floor s → InRound now floor taking (slot_rewound base s)
      here (Quiet r) u under = u.here
      here (Gather r f) u under = if_cap (λ c. c.round ≡ r → base ≤ max c.cap floor) s.cap fits
        where
          of : (c : Cap) → (base ≤ floor) ⊎ ((k : ℕ) × (n : ℕ) × (Gather r f ≡ Agreed n k) × (base ≤ k)) → base ≤ max c.cap floor
          of c (inl h) = omega (arith, h)
          of c (inr h) = absurd (let q : Gather r f ≡ Agreed h.1 h.0 = h.2 in cc)

          fits : (c : Cap) → s.cap ≡ Some c → c.round ≡ r → base ≤ max c.cap floor
          fits c is at =
              let early : c.round ≤ number s.seen = of_cap (λ x. x.round ≤ number s.seen) s.cap c is u.reported in
              let seen : number s.seen ≡ r = omega (arith, at, early, u.seen) in
              let loud : IsQuiet s.seen → ⊥ = of_cap (λ x. x.round ≡ number s.seen → IsQuiet s.seen → ⊥) s.cap c is u.loud (at ∙ sym seen) in
              of c (low (Gather r f) s.seen (u.same seen) (may.back c.cap (ap (cap_in (number s.seen)) is ∙ cap_here c (number s.seen) (at ∙ sym seen))) loud)
      here (Agreed r k) u under = λ part. by s.noted refl part
        where
          of : (base ≤ floor) ⊎ ((j : ℕ) × (m : ℕ) × (Agreed r k ≡ Agreed m j) × (base ≤ j)) → base ≤ k
          of (inl h) = omega (arith, h, under.0)
          of (inr h) = let q : Agreed r k ≡ Agreed h.1 h.0 = h.2 in let same : k ≡ h.0 = cc in omega (arith, same, h.3)

          by : (noted : Option ℕ) → s.noted ≡ noted → takes_part taking s.replica ≡ true → IsSome s.noted × (base ≤ k)
          by None is part = absurd (no_some s.noted (u.here part).0 is)
          by (Some n) is part =
              let told : NotedAs (Agreed r k) floor s n = noted_as (Agreed r k) floor taking s n u is in
              ((u.here part).0, of (low (Agreed r k) s.seen told.same (may.back n (noted_reported (Agreed r k) floor taking s n u is)) told.loud))
