-- What else is known where a move of a slot is due: it sees a round that it hasn't seen, and makes every other move in one that it has.
use Rattle.std.proofs.Common.{◌≡◌, ℕ, inl, inr, Bool, true, false, cond, arith, refl, ap, sym, ◌∙◌, subst, Option, Some, None}
use Rattle.std.specs.Prelude.{◌⊎◌, ◌==◌, ◌&&◌, not, is_none, nat_le, nat_lt}
use Rattle.std.proofs.lemmas.Bool.Decides.{nat_tests}
use Rattle.std.proofs.lemmas.Bool.{ltb-true}
use Rattle.std.proofs.lemmas.Option.{same_Some}
use Rattle.chare_base.specs.declared.plan.Plan.{Plan}
use Rattle.iteration_agree.specs.declared.round.Leave.TheVariants as leaves
use Rattle.iteration_agree.specs.declared.round.Round.{Round}
use Rattle.iteration_agree.specs.declared.round.Round.TheVariants.{Quiet, Gather, Agreed}
use Rattle.iteration_agree.specs.declared.round.Standing.{Standing}
use Rattle.iteration_agree.specs.declared.slot.Slot.{Slot}
use Rattle.iteration_agree.specs.Slots.{leave, leave_at, limit, reported, standing_of}
use Rattle.iteration_agree.specs.Slots as slots
use Rattle.node_core.specs.Nodes.{NodeState, next_begin, rests}
use Rattle.world_core.specs.declared.doing.Since.{Since}
use Rattle.world_core.specs.declared.doing.SlotMove.{SlotMove}
use Rattle.world_core.specs.declared.doing.SlotMove.TheVariants.{See, Rewind, Release, Report, Pack, Begin}
use Rattle.world_core.specs.Moves.{begin_due, is_below, limit_of, limit_seen, may_go_back, move_by, move_of, move_on, pack_due, pack_or_begin, release_due, report_due, same_round}
use Rattle.world_core.proofs.Due.{second}

-- a move other than to see the round; it begins no iteration at its limit
abbrev pub IsTimely : Standing → SlotMove → Type 0
IsTimely t See = ⊥
IsTimely t (Rewind base) = Unit {0}
IsTimely t Release = Unit {0}
IsTimely t Report = Unit {0}
IsTimely t (Pack k) = Unit {0}
IsTimely t (Begin k) = is_below k (limit_of t) ≡ true

module _ (p : Plan) (n : NodeState) (t : Standing) (since : Since) where
  begin_timely : (m : SlotMove) (o : Option ℕ) → begin_due t o ≡ Some m → IsTimely t m
  begin_timely m None h = absurd (let e : None ≡ Some m = h in cc)
  begin_timely m (Some j) h = test (j == t.top && nat_lt t.top 1000000 && is_below t.top (limit_of t)) refl h
    where
      test : (b : Bool) → (j == t.top && nat_lt t.top 1000000 && is_below t.top (limit_of t)) ≡ b → cond b (Some (Begin t.top)) None ≡ Some m → IsTimely t m
      test false tests h = absurd (let e : None ≡ Some m = h in cc)
      test true tests h = subst (IsTimely t) (same_Some (Begin t.top) m h) (second (j == t.top && nat_lt t.top 1000000) (is_below t.top (limit_of t)) tests)

  pack_timely : (m : SlotMove) (o : Option ℕ) → pack_or_begin n t o ≡ Some m → IsTimely t m
  pack_timely m None h = begin_timely m (next_begin n) h
  pack_timely m (Some k) h = subst (IsTimely t) (same_Some (Pack k) m h) tt

  on_timely : (m : SlotMove) → move_on p n t since ≡ Some m → IsTimely t m
  on_timely m h = by (release_due t since) (report_due t t.seen) h
    where
      by : (a b : Bool) → cond a (Some Release) (cond b (Some Report) (pack_or_begin n t (pack_due p n t t.seen))) ≡ Some m → IsTimely t m
      by true b h = subst (IsTimely t) (same_Some Release m h) tt
      by false true h = subst (IsTimely t) (same_Some Report m h) tt
      by false false h = pack_timely m (pack_due p n t t.seen) h

  by_timely : (m : SlotMove) (back : Option ℕ) → move_by p n t back since ≡ Some m → IsTimely t m
  by_timely m None h = test (rests n) h
    where
      test : (b : Bool) → cond b None (move_on p n t since) ≡ Some m → IsTimely t m
      test true h = absurd (let e : None ≡ Some m = h in cc)
      test false h = on_timely m h
  by_timely m (Some base) h = test (may_go_back base t) h
    where
      test : (b : Bool) → cond b (Some (Rewind base)) None ≡ Some m → IsTimely t m
      test false h = absurd (let e : None ≡ Some m = h in cc)
      test true h = subst (IsTimely t) (same_Some (Rewind base) m h) tt

  -- it sees the round first
  pub timely : (round : Round) (back : Option ℕ) (m : SlotMove) → move_of p round n t back since ≡ Some m → ((m ≡ See) × (same_round t.seen round ≡ false)) ⊎ ((same_round t.seen round ≡ true) × IsTimely t m)
  timely round back m h = by (is_none n.body) (same_round t.seen round) refl h
    where
      by : (a b : Bool) → same_round t.seen round ≡ b → cond a None (cond (not b) (Some See) (move_by p n t back since)) ≡ Some m → ((m ≡ See) × (same_round t.seen round ≡ false)) ⊎ ((same_round t.seen round ≡ true) × IsTimely t m)
      by true b is h = absurd (let e : None ≡ Some m = h in cc)
      by false false is h = inl (sym (same_Some See m h), is)
      by false true is h = inr (is, by_timely m back h)

-- so the agreement lets it begin
pub goes : (t : Slot) (k : ℕ) → is_below k (limit_of (standing_of t)) ≡ true → leave t k ≡ leaves.Go
goes t k h = below (limit t) (ap (is_below k) (sym limits) ∙ h)
  where
    seen_same : (seen : Round) → limit_seen (standing_of t) seen ≡ slots.limit_seen t seen
    seen_same (Quiet r) = refl
    seen_same (Gather r f) = refl
    seen_same (Agreed r j) = refl

    limits : limit_of (standing_of t) ≡ limit t
    limits = ap (λ o. cond (not t.free && is_none (reported t)) (Some t.top) o) (seen_same t.seen)

    below : (o : Option ℕ) → is_below k o ≡ true → leave_at o k ≡ leaves.Go
    below None h = refl
    below (Some l) h = by (nat_le l k) (let less = ltb-true k l h in grind (arith, nat_tests, less))
      where
        by : (b : Bool) → b ≡ false → cond b (leaves.Hold l) leaves.Go ≡ leaves.Go
        by false q = refl
        by true q = absurd (let e : true ≡ false = q in cc)
