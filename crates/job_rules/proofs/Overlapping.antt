-- Where no use of a state clashes, no part uses a state that another one writes.
use Rattle.std.proofs.Common.{◌≡◌, ℕ, zero, suc, ◌+◌, ◌<◌, ◌≤◌, Bool, true, false, List, [], ◌∷◌, refl, ap, sym, ◌∙◌, arith, None, Some, inl, inr}
use Rattle.std.specs.Prelude.{◌&&◌, ◌||◌, ◌==◌, not, nat_le, nat_lt, if◌then◌else◌, slice_get}
use Rattle.std.specs.List.{list_all, list_any}
use Rattle.std.proofs.lemmas.Bool.{and_parts, eq-eqb, eqb-true, le-leb, lt-ltb, ltb-false, ltb-true, or_cases}
use Rattle.chare_base.specs.declared.plan.Part.{Part}
use Rattle.chare_base.specs.declared.plan.State.{State}
use Rattle.chare_base.specs.declared.range.Range.{Range}
use Rattle.chare_base.specs.Overlap.{apart_on, parts_apart, state_range, users}
use Rattle.chare_base.specs.Uses.{uses, writes}
use Rattle.job_rules.specs.declared.fault.CheckFault.TheVariants.{Overlap}
use Rattle.job_rules.specs.declared.notes.StateUse.{StateUse}
use Rattle.job_rules.specs.Faults.{Found, nothing}
use Rattle.job_rules.specs.Overlap.{clashes, overlap_found, use_fault, used_before, written_by}
use Rattle.job_rules.proofs.Counting.{both}
use Rattle.job_rules.proofs.Meant.{some_item}
use Rattle.job_rules.proofs.Noting.{uses_state, writes_state}
use Rattle.job_rules.proofs.Sooner.{each_none, faultless, first_none, unbroken}

pub found_item : {A : Type 0} (test : A → Bool) (xs : List A) → list_any test xs ≡ true → (i : ℕ) × (x : A) × (slice_get xs i ≡ Some x) × (test x ≡ true)
found_item test [] h = absurd (let e : false ≡ true = h in cc)
found_item test (x ∷ xs) h = elim (or_cases (test x) (list_any test xs) h) [
  | inl e ↦ (zero, x, refl, e)
  | inr e ↦ let r = found_item test xs e in (suc r.0, r.1, r.2, r.3)
]

-- ---- parts that use a state

module _ (range : Range) where
  -- a part of this number or a later one uses the state
  record User (number : ℕ) (parts : List Part) : Type 0 where
    nth : ℕ
    part : Part
    is : slice_get parts nth ≡ Some part
    used : uses part.block range ≡ true

  one_user : (parts : List Part) (b : Bool) → nat_le 1 (users range parts) ≡ true → User 0 parts
  one_user [] b h = absurd (let e : false ≡ true = h in cc)
  one_user (p ∷ more) b h = at (uses p.block range) refl h (one_user more b)
    where
      at : (t : Bool) → uses p.block range ≡ t → nat_le 1 (if t then suc (users range more) else users range more) ≡ true → (nat_le 1 (users range more) ≡ true → User 0 more) → User 0 (p ∷ more)
      at true e k rest = record { nth = zero; part = p; is = refl; used = e }
      at false e k rest = let r = rest k in record { nth = suc r.nth; part = r.part; is = r.is; used = r.used }

  -- two parts use it
  record Users (parts : List Part) : Type 0 where
    first : ℕ
    second : ℕ
    one : Part
    other : Part
    apart : first < second
    first_is : slice_get parts first ≡ Some one
    second_is : slice_get parts second ≡ Some other
    first_uses : uses one.block range ≡ true
    second_uses : uses other.block range ≡ true

  more_than : (n : ℕ) → nat_le (suc n) 1 ≡ false → nat_le 1 n ≡ true
  more_than zero h = absurd (let e : true ≡ false = h in cc)
  more_than (suc n) h = le-leb 1 (suc n) (omega arith)

  two_users : (parts : List Part) → nat_le (users range parts) 1 ≡ false → Users parts
  two_users [] h = absurd (let e : true ≡ false = h in cc)
  two_users (p ∷ more) h = at (uses p.block range) refl h (two_users more)
    where
      at : (t : Bool) → uses p.block range ≡ t → nat_le (if t then suc (users range more) else users range more) 1 ≡ false → (nat_le (users range more) 1 ≡ false → Users more) → Users (p ∷ more)
      at true e k rest =
          let u = one_user more true (more_than (users range more) k) in
          record { first = zero; second = suc u.nth; one = p; other = u.part; apart = omega arith; first_is = refl; second_is = u.is; first_uses = e; second_uses = u.used }
      at false e k rest =
          let u = rest k in
          record {
            first = suc u.first;
            second = suc u.second;
            one = u.one;
            other = u.other;
            apart = (let c = u.apart in omega (arith, c));
            first_is = u.first_is;
            second_is = u.second_is;
            first_uses = u.first_uses;
            second_uses = u.second_uses;
          }

-- ---- uses that were noted

-- Each part, from this number on, is noted where it uses a state, and where it writes one.
abbrev pub PartsNoted : List State → List StateUse → ℕ → List Part → Type 0
PartsNoted states noted number [] = Unit {0}
PartsNoted states noted number (p ∷ more) =
    ((j : ℕ) (s : State) → slice_get states j ≡ Some s → uses p.block (state_range s) ≡ true → list_any (uses_state number j) noted ≡ true)
    × ((j : ℕ) (s : State) → slice_get states j ≡ Some s → writes p.block (state_range s) ≡ true → list_any (writes_state number j) noted ≡ true)
    × PartsNoted states noted (suc number) more

module _ (states : List State) (noted : List StateUse) (j : ℕ) (s : State) (here : slice_get states j ≡ Some s) where
  part_used : (number : ℕ) (parts : List Part) (i : ℕ) (p : Part) → PartsNoted states noted number parts → slice_get parts i ≡ Some p → uses p.block (state_range s) ≡ true →
      list_any (uses_state (number + i) j) noted ≡ true
  part_used number [] i p all is h = absurd (let e : None ≡ Some p = is in cc)
  part_used number (q ∷ more) zero p all is h =
      let same : p ≡ q = (let e : Some q ≡ Some p = is in cc) in
      let k : number ≡ number + 0 = omega arith in
      ap (λ n. list_any (uses_state n j) noted) (sym k) ∙ all.0 j s here (sym (ap (λ (x : Part). uses x.block (state_range s)) same) ∙ h)
  part_used number (q ∷ more) (suc i) p all is h =
      let k : number + suc i ≡ suc number + i = omega arith in
      ap (λ n. list_any (uses_state n j) noted) k ∙ part_used (suc number) more i p all.2 is h

  part_wrote : (number : ℕ) (parts : List Part) (i : ℕ) (p : Part) → PartsNoted states noted number parts → slice_get parts i ≡ Some p → writes p.block (state_range s) ≡ true →
      list_any (writes_state (number + i) j) noted ≡ true
  part_wrote number [] i p all is h = absurd (let e : None ≡ Some p = is in cc)
  part_wrote number (q ∷ more) zero p all is h =
      let same : p ≡ q = (let e : Some q ≡ Some p = is in cc) in
      let k : number ≡ number + 0 = omega arith in
      ap (λ n. list_any (writes_state n j) noted) (sym k) ∙ all.1 j s here (sym (ap (λ (x : Part). writes x.block (state_range s)) same) ∙ h)
  part_wrote number (q ∷ more) (suc i) p all is h =
      let k : number + suc i ≡ suc number + i = omega arith in
      ap (λ n. list_any (writes_state n j) noted) k ∙ part_wrote (suc number) more i p all.2 is h

  module _ (fine : faultless (use_fault noted) noted ≡ true) where
    no_clash : (i : ℕ) (u : StateUse) → slice_get noted i ≡ Some u → list_any (used_before u) noted ≡ true → list_any (written_by u) noted ≡ true → ⊥
    no_clash i u is h k =
        let c : clashes noted u ≡ false = unbroken (clashes noted u) (Overlap u.declared u.at) (each_none (use_fault noted) noted i u fine is) in
        let d : clashes noted u ≡ true = both (list_any (used_before u) noted) (list_any (written_by u) noted) h k in
        let e : true ≡ false = sym d ∙ c in cc

    -- a part uses the state, a later one too, and one writes it
    clash : (a b c : ℕ) → b < c → list_any (uses_state b j) noted ≡ true → list_any (uses_state c j) noted ≡ true → list_any (writes_state a j) noted ≡ true → ⊥
    clash a b c less first second wrote =
        let v = found_item (uses_state b j) noted first in
        let u = found_item (uses_state c j) noted second in
        let w = found_item (writes_state a j) noted wrote in
        let v_is = and_parts (v.1.part == b) (v.1.state == j) v.3 in
        let u_is = and_parts (u.1.part == c) (u.1.state == j) u.3 in
        let w_is = and_parts (w.1.part == a) (w.1.state == j && w.1.written) w.3 in
        let w_more = and_parts (w.1.state == j) w.1.written w_is.1 in
        let v_part = eqb-true v.1.part b v_is.0 in
        let v_state = eqb-true v.1.state j v_is.1 in
        let u_part = eqb-true u.1.part c u_is.0 in
        let u_state = eqb-true u.1.state j u_is.1 in
        let w_part = eqb-true w.1.part a w_is.0 in
        let w_state = eqb-true w.1.state j w_more.0 in
        by (nat_lt c a) refl v.0 v.1 u.0 u.1 w.0 w.1 v.2 u.2 w.2 v_part v_state u_part u_state w_part w_state w_more.1
      where
        by : (t : Bool) → nat_lt c a ≡ t → (iv : ℕ) (v : StateUse) (iu : ℕ) (u : StateUse) (iw : ℕ) (w : StateUse) → slice_get noted iv ≡ Some v → slice_get noted iu ≡ Some u → slice_get noted iw ≡ Some w →
            v.part ≡ b → v.state ≡ j → u.part ≡ c → u.state ≡ j → w.part ≡ a → w.state ≡ j → w.written ≡ true → ⊥
        by true e iv v iu u iw w v_at u_at w_at vp vs up us wp ws wr =
            let later : c < a = ltb-true c a e in
            no_clash iw w w_at
            (some_item (used_before w) noted iv v v_at (both (v.state == w.state) (nat_lt v.part w.part) (eq-eqb v.state w.state (vs ∙ sym ws)) (lt-ltb v.part w.part (omega (arith, later, less, vp, wp)))))
            (some_item (written_by w) noted iw w w_at (both (w.state == w.state) (w.written && nat_le w.part w.part) (eq-eqb w.state w.state refl) (both w.written (nat_le w.part w.part) wr (le-leb w.part w.part (omega arith)))))
        by false e iv v iu u iw w v_at u_at w_at vp vs up us wp ws wr =
            let within : a ≤ c = ltb-false c a e in
            no_clash iu u u_at
            (some_item (used_before u) noted iv v v_at (both (v.state == u.state) (nat_lt v.part u.part) (eq-eqb v.state u.state (vs ∙ sym us)) (lt-ltb v.part u.part (omega (arith, less, vp, up)))))
            (some_item (written_by u) noted iw w w_at (both (w.state == u.state) (w.written && nat_le w.part u.part) (eq-eqb w.state u.state (ws ∙ sym us)) (both w.written (nat_le w.part u.part) wr (le-leb w.part u.part (omega (arith, within, wp, up))))))

    state_apart : (parts : List Part) → PartsNoted states noted 0 parts → apart_on parts (state_range s) ≡ true
    state_apart parts all = by (list_any (λ part. writes part.block (state_range s)) parts) (nat_le (users (state_range s) parts) 1) refl refl
      where
        by : (w u : Bool) → list_any (λ part. writes part.block (state_range s)) parts ≡ w → nat_le (users (state_range s) parts) 1 ≡ u →
            (not (list_any (λ part. writes part.block (state_range s)) parts) || nat_le (users (state_range s) parts) 1) ≡ true
        by false u e f = ap (λ b. not b || nat_le (users (state_range s) parts) 1) e
        by true true e f = ap (λ b. not b || nat_le (users (state_range s) parts) 1) e ∙ f
        by true false e f =
            let w = found_item (λ (part : Part). writes part.block (state_range s)) parts e in
            let two = two_users (state_range s) parts f in
            let less : 0 + two.first < 0 + two.second = (let c = two.apart in omega (arith, c)) in
            absurd (clash (0 + w.0) (0 + two.first) (0 + two.second) less
            (part_used 0 parts two.first two.one all two.first_is two.first_uses) (part_used 0 parts two.second two.other all two.second_is two.second_uses) (part_wrote 0 parts w.0 w.1 all w.2 w.3))

each_state : (states rest : List State) (noted : List StateUse) (n : ℕ) (parts : List Part) → ((k : ℕ) → slice_get states (n + k) ≡ slice_get rest k) → faultless (use_fault noted) noted ≡ true → PartsNoted states noted 0 parts →
    list_all (λ s. apart_on parts (state_range s)) rest ≡ true
each_state states [] noted n parts tail fine all = refl
each_state states (s ∷ more) noted n parts tail fine all =
    let k : n ≡ n + 0 = omega arith in
    let here : slice_get states n ≡ Some s = ap (slice_get states) k ∙ tail 0 in
    both (apart_on parts (state_range s)) (list_all (λ t. apart_on parts (state_range t)) more) (state_apart states noted n s here fine parts all)
    (each_state states more noted (suc n) parts (λ i. let e : suc n + i ≡ n + suc i = omega arith in ap (slice_get states) e ∙ tail (suc i)) fine all)

-- where no clash is named, none was found, and the parts are apart
pub parts_are_apart : (states : List State) (noted : List StateUse) (found : Found) (parts : List Part) → overlap_found noted found ≡ nothing → PartsNoted states noted 0 parts →
    (found ≡ nothing) × (parts_apart states parts ≡ true)
unfolding overlap_found
parts_are_apart states noted found parts h all =
    let r = first_none (use_fault noted) found noted h in
    (r.0, each_state states states noted 0 parts (λ k. let e : 0 + k ≡ k = omega arith in ap (slice_get states) e) r.1 all)
