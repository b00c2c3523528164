-- Each element of a reduction's array contributes once, and each finds the total of all of them.
use Rattle.std.proofs.Common.{◌≡◌, ℕ, zero, suc, ◌+◌, ◌-◌, ◌*◌, ◌<◌, ◌≤◌, ℤ, cond, List, [], ◌∷◌, ◌++◌, length, refl, ap, sym, ◌∙◌, arith, append_assoc, Option, Some, None, subst}
use Rattle.std.specs.Prelude.{nat_lt, slice_get, unwrap_or}
use Rattle.std.specs.Option.{option_map_or}
use Rattle.std.proofs.lemmas.Bool.{eq-eqb}
use Rattle.std.proofs.lemmas.List.{append-nil}
use Rattle.std.proofs.lemmas.List.Quantifiers.{position-Some}
use Rattle.std.proofs.lemmas.Option.{same_Some}
use Rattle.chare_base.specs.declared.message.Port.{Port}
use Rattle.chare_base.specs.declared.plan.Array.{Array}
use Rattle.chare_base.specs.declared.plan.How.TheVariants.{Sum}
use Rattle.chare_base.specs.declared.plan.Place.{Place}
use Rattle.chare_base.specs.declared.plan.Plan.{Plan}
use Rattle.chare_base.specs.declared.plan.Reduction.{Reduction}
use Rattle.chare_base.specs.declared.plan.Step.{Step}
use Rattle.chare_base.specs.Elements.{elements, parts_at, place_of, steps_in_round, steps_of}
use Rattle.chare_base.specs.Entries.{first_of, reduction_of}
use Rattle.chare_base.specs.Flip.{Flip}
use Rattle.chare_base.specs.Ports.{parts_send, sending_step, steps_in, total_port}
use Rattle.chare_base.specs.Sizes.{size_of}
use Rattle.chare_base.specs.Total.{joined_to}
use Rattle.chare_base.proofs.Exchanges as arrays_there
use Rattle.chare_base.proofs.Neighbours.{element_is, place_is, place_within, size_at}
use Rattle.chare_base.proofs.Sendings.{Exchanged, Joins, exchanged, send_found, sends_there, source_array, total_joins}
use Rattle.chare_eval.specs.Block.{Effect}
use Rattle.chare_eval.specs.Fold.{fold}
use Rattle.chare_eval.specs.Stage.{Board, Inbox, contributions, effect, how_of, members, members_in, stage, step_of, total_of, total_payload}
use Rattle.chare_eval.specs.Inside.{cells_before, message_to, messages_to}
use Rattle.chare_eval.specs.Laws.{TotalsAreTrue, contribution_of, contributions_from, first_member, first_number, sent_in, some_number}
use Rattle.chare_eval.proofs.Sent.{contributions_many, many, none_contributed, step_tells}
use Rattle.chare_eval.proofs.Mail.{by_messages, given_before, mail_stays, not_yet, ran_given, sent_step, step_of_source}
use Rattle.chare_eval.proofs.Steps.{found_own, messages_are, steps_among}

sending_within : (port : Port) (steps : List Step) (s : ℕ) → sending_step port steps ≡ Some s → s < length steps
sending_within port [] s is = absurd (let e : None ≡ Some s = is in cc)
sending_within port (x ∷ more) s is = (position-Some (λ (step : Step). nat_lt 0 (parts_send port step.parts)) (x ∷ more) s x is).0

size_there : (o : Option Array) → option_map_or size_of o 0 ≡ option_map_or (λ (a : Array). a.rows) o 0 * option_map_or (λ (a : Array). a.cols) o 0
size_there (Some a) = refl
size_there None = refl

-- a list of one
record Single (l : List ℤ) : Type 0 where
  value : ℤ
  is : l ≡ value ∷ []

single : (l : List ℤ) → length l ≡ 1 → Single l
single [] h = absurd (omega arith)
single (v ∷ []) h = record { value = v; is = refl }
single (v ∷ w ∷ l) h = absurd (let n : suc (suc (length l)) ≡ 1 = h in omega arith)

-- ---- values in element order

module _ (share : ℕ → List ℤ) where
  -- those of n elements, from e on
  abbrev gathered : ℕ → ℕ → List ℤ
  gathered e zero = []
  gathered e (suc n) = share e ++ gathered (suc e) n

  gathered_both : (e m n : ℕ) → gathered e (m + n) ≡ gathered e m ++ gathered (e + m) n
  gathered_both e zero n = let same : zero + n ≡ n = omega arith in let there : e ≡ e + zero = omega arith in ap (gathered e) same ∙ ap (λ i. gathered i n) there
  gathered_both e (suc m) n =
      let same : suc m + n ≡ suc (m + n) = omega arith in
      let there : suc e + m ≡ e + suc m = omega arith in
      ap (gathered e) same ∙ ap (λ l. share e ++ l) (gathered_both (suc e) m n) ∙ ap (λ i. share e ++ (gathered (suc e) m ++ gathered i n)) there
      ∙ sym (append_assoc (share e) (gathered (suc e) m) (gathered (e + suc m) n))

  gathered_last : (n : ℕ) → gathered 0 (suc n) ≡ gathered 0 n ++ share n
  gathered_last n =
      let same : suc n ≡ n + 1 = omega arith in
      let there : 0 + n ≡ n = omega arith in
      ap (gathered 0) same ∙ gathered_both 0 n 1 ∙ ap (λ i. gathered 0 n ++ (share i ++ [])) there ∙ ap (λ l. gathered 0 n ++ l) (append-nil (share n))

  none_gathered : (e n : ℕ) → ((f : ℕ) → e ≤ f → f < e + n → share f ≡ []) → gathered e n ≡ []
  none_gathered e zero h = refl
  none_gathered e (suc n) h = ap (λ l. l ++ gathered (suc e) n) (h e (omega arith) (omega arith)) ∙ none_gathered (suc e) n (λ f low high. h f (omega (arith, low)) (omega (arith, high)))

-- ---- one reduction

module _ (p : Plan) (lines : List Flip) (k r : ℕ) (x : Reduction) (is : reduction_of p r ≡ Some x) where
  abbrev port : Port
  port = total_port r

  joins : Joins p port
  joins = total_joins p (record { 0 = r }) x is

  owned : (n : ℕ) → source_array p port ≡ Some n → n ≡ x.owner
  owned n q = same_Some n x.owner (sym q ∙ ap (λ o. option_map_or (λ (y : Reduction). Some y.owner) o None) is)

  rule : Exchanged p port joins.source joins.owner
  rule = exchanged p port joins

  -- the step in which all contribute
  at_step : ℕ
  at_step = rule.first

  sends : sending_step port (steps_in p.arrays x.owner) ≡ Some at_step
  unfolding at_step
  sends = ap (λ n. sending_step port (steps_in p.arrays n)) (sym (owned joins.source joins.source_is)) ∙ rule.sends

  step_is : sent_step p port ≡ Some at_step
  step_is = step_of_source p port x.owner at_step (ap (λ o. option_map_or (λ (y : Reduction). Some y.owner) o None) is) sends

  in_round : at_step < steps_in_round p
  in_round = omega (arith, sending_within port (steps_in p.arrays x.owner) at_step sends, steps_among p.arrays x.owner)

  -- what an element contributes in that step
  abbrev share : ℕ → List ℤ
  share f = contributions (sent_in p lines k at_step f) r

  shares_many : (f : ℕ) → length (share f) ≡ many port (sent_in p lines k at_step f)
  shares_many f = contributions_many (sent_in p lines k at_step f) r

  -- ---- members

  module _ (f : ℕ) (at : (place_of p f).array ≡ x.owner) where
    sends_at : sending_step port (steps_of p f) ≡ Some at_step
    sends_at = ap (λ n. sending_step port (steps_in p.arrays n)) at ∙ sends

    own : Single (share f)
    own =
        let once : parts_send port (parts_at p f at_step) ≡ 1 = sends_there p port joins f at_step (at ∙ sym (owned joins.source joins.source_is)) sends_at in
        let tells = step_tells p at_step k f (messages_to p lines k f) (cells_before p lines k at_step f) in
        single (share f) (shares_many f ∙ tells.all port tt ∙ once)

    contributed : contribution_of p lines k r f ≡ Some own.value
    unfolding contribution_of
    contributed = ap (λ o. first_number (contributions (sent_in p lines k (unwrap_or o 0) f) r)) sends_at ∙ ap first_number own.is

    share_is : share f ≡ some_number (contribution_of p lines k r f)
    share_is = own.is ∙ ap some_number (sym contributed)

  -- ---- the others

  others_none : (f : ℕ) → ((place_of p f).array ≡ x.owner → ⊥) → share f ≡ []
  others_none f other = by (parts_send port (parts_at p f at_step)) refl
    where
      by : (n : ℕ) → parts_send port (parts_at p f at_step) ≡ n → share f ≡ []
      by zero q =
          let tells = step_tells p at_step k f (messages_to p lines k f) (cells_before p lines k at_step f) in
          none_contributed (sent_in p lines k at_step f) r (omega (arith, q, tells.few port))
      by (suc n) q = let found = send_found p port f at_step (omega (arith, q)) in absurd (other (sym found.source ∙ owned found.joins.source found.joins.source_is))

  -- ---- the array's elements

  abbrev first : ℕ
  first = first_of p.arrays x.owner

  abbrev count : ℕ
  count = size_at p.arrays x.owner

  fits : first + count ≤ elements p
  fits = (arrays_there.members p r x is).fits

  inside_array : (i : ℕ) → i < count → (place_of p (first + i)).array ≡ x.owner
  inside_array i h = ap (λ (place : Place). place.array) (place_is p x.owner i h)

  member_at : (f : ℕ) → first ≤ f → f < first + count → (place_of p f).array ≡ x.owner
  member_at f low high =
      let same : first + (f - first) ≡ f = omega arith in
      subst (λ n. (place_of p n).array ≡ x.owner) same (inside_array (f - first) (omega arith))

  -- an element of the array is one of these
  record Numbered (f : ℕ) : Type 0 where
    low : first ≤ f
    high : f < first + count

  numbered : (f : ℕ) → f < elements p → (place_of p f).array ≡ x.owner → Numbered f
  numbered f h at =
      let index = (place_of p f).index in
      let whole : first + index ≡ f = ap (λ n. first_of p.arrays n + index) (sym at) ∙ element_is p f h in
      let within : index < count = subst (λ n. index < size_at p.arrays n) at (place_within p f h) in
      record { low = omega (arith, whole); high = omega (arith, whole, within) }

  shares_are : (e n : ℕ) → first ≤ e → e + n ≤ first + count → gathered share e n ≡ contributions_from p lines k r e n
  shares_are e zero low high = refl
  shares_are e (suc n) low high =
      ap (λ l. l ++ gathered share (suc e) n) (share_is e (member_at e low (omega (arith, high))))
      ∙ ap (λ l. some_number (contribution_of p lines k r e) ++ l) (shares_are (suc e) n (omega (arith, low)) (omega (arith, high)))

  counted : (e n : ℕ) → first ≤ e → e + n ≤ first + count → length (contributions_from p lines k r e n) ≡ n
  counted e zero low high = refl
  counted e (suc n) low high =
      ap (λ o. length (some_number o ++ contributions_from p lines k r (suc e) n)) (contributed e (member_at e low (omega (arith, high))))
      ∙ ap suc (counted (suc e) n (omega (arith, low)) (omega (arith, high)))

  all_shares : gathered share 0 (elements p) ≡ contributions_from p lines k r first count
  all_shares =
      let rest : ℕ = elements p - (first + count) in
      let whole : first + (count + rest) ≡ elements p = omega (arith, fits) in
      let start : 0 + first ≡ first = omega arith in
      let none : gathered share 0 first ≡ [] =
      none_gathered share 0 first (λ f low high. others_none f (λ at. let n = numbered f (omega (arith, high, fits)) at in omega (arith, n.low, high))) in
      let beyond : gathered share (first + count) rest ≡ [] =
      none_gathered share (first + count) rest (λ f low high. others_none f (λ at. let n = numbered f (omega (arith, high, whole)) at in omega (arith, n.high, low))) in
      ap (gathered share 0) (sym whole) ∙ gathered_both share 0 first (count + rest) ∙ ap (λ l. l ++ gathered share (0 + first) (count + rest)) none
      ∙ ap (λ i. gathered share i (count + rest)) start ∙ gathered_both share first count rest ∙ ap (λ l. gathered share first count ++ l) beyond
      ∙ append-nil (gathered share first count) ∙ shares_are first count (omega arith) (omega arith)

  -- ---- the total

  abbrev board : ℕ → Board
  board s = stage p lines k (fold p lines k) s

  given_is : (n : ℕ) → given_before p at_step k r (board at_step) n ≡ gathered share 0 n
  given_is zero = refl
  given_is (suc n) =
      ap (λ l. l ++ contributions (effect p at_step k n (board at_step)).sent r) (given_is n)
      ∙ ap (λ (f : Effect). gathered share 0 n ++ contributions f.sent r) (by_messages p lines k (fold p lines k) at_step n (omega (arith, in_round)))
      ∙ ap (λ (box : Inbox). gathered share 0 n ++ contributions (step_of p at_step k n box (cells_before p lines k at_step n)).sent r) (sym (messages_are p lines k n))
      ∙ sym (gathered_last share n)

  all_given : contributions (board (steps_in_round p)).mail r ≡ contributions_from p lines k r first count
  unfolding stage
  all_given =
      mail_stays p lines k (fold p lines k) (suc at_step) (steps_in_round p) 0 port at_step (omega (arith, in_round)) step_is (omega arith)
      ∙ ran_given p at_step k (elements p) (board at_step) r
      ∙ ap (λ l. l ++ given_before p at_step k r (board at_step) (elements p)) (not_yet p lines k (fold p lines k) at_step 0 port at_step step_is (omega arith))
      ∙ given_is (elements p) ∙ all_shares

  members_are : members p r ≡ count
  members_are = ap (members_in p.arrays) is ∙ size_there (slice_get p.arrays x.owner)

  first_is : first_member p r ≡ first
  first_is = ap (λ o. option_map_or (λ (y : Reduction). first_of p.arrays y.owner) o 0) is

  how_is : how_of p r ≡ x.how
  how_is = ap (λ o. option_map_or (λ (y : Reduction). y.how) o Sum) is

  total_is : total_of p r (contributions (board (steps_in_round p)).mail r) ≡ total_payload (joined_to x.how None (contributions_from p lines k r (first_member p r) (members p r)))
  total_is =
      let values = contributions_from p lines k r first count in
      ap (total_of p r) all_given
      ∙ ap (λ b. cond b (total_payload (joined_to (how_of p r) None values)) None) (eq-eqb (length values) (members p r) (counted first count (omega arith) (omega arith) ∙ sym members_are))
      ∙ ap (λ how. total_payload (joined_to how None values)) how_is
      ∙ ap (λ n. total_payload (joined_to x.how None (contributions_from p lines k r n count))) (sym first_is)
      ∙ ap (λ n. total_payload (joined_to x.how None (contributions_from p lines k r (first_member p r) n))) (sym members_are)

found_total : (p : Plan) (lines : List Flip) (k r e : ℕ) (x : Reduction) → reduction_of p r ≡ Some x → (place_of p e).array ≡ x.owner →
    message_to p lines k (total_port r) e ≡ total_of p r (contributions (stage p lines k (fold p lines k) (steps_in_round p)).mail r)
found_total p lines k r e x is at = found_own p lines k (total_port r) e x.owner (ap (λ o. option_map_or (λ (y : Reduction). Some y.owner) o None) is) at

pub totals_are_true : TotalsAreTrue
totals_are_true = record {
  each = λ p lines k r e x is h at. ((own p lines k r x is e at).value, contributed p lines k r x is e at);
  total = λ p lines k r e x is at. found_total p lines k r e x is at ∙ total_is p lines k r x is;
}
