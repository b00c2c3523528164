-- What a plan's elements cost in an iteration, by their widths.
use Rattle.std.proofs.Common.{◌≡◌, ℕ, zero, suc, ◌+◌, ◌<◌, ◌≤◌, inl, inr, Bool, true, false, cond, List, [], ◌∷◌, ◌++◌, length, refl, ap, sym, ◌∙◌, arith, subst, Option, Some, None}
use Rattle.std.specs.Prelude.{◌==◌, slice_get}
use Rattle.std.specs.List.{AllByRecursion}
use Rattle.std.specs.Option.{option_map_or}
use Rattle.std.proofs.lemmas.Bool.{eq-eqb, eqb-true}
use Rattle.std.proofs.lemmas.Bool.Decides.{nat_tests}
use Rattle.std.proofs.lemmas.Option.{same_Some}
use Rattle.chare_base.specs.declared.message.Port.{Port}
use Rattle.chare_base.specs.declared.message.Port.TheVariants as ports
use Rattle.chare_base.specs.declared.plan.Entry.{Entry}
use Rattle.chare_base.specs.declared.plan.Part.{Part}
use Rattle.chare_base.specs.declared.plan.Plan.{Plan}
use Rattle.chare_base.specs.declared.plan.Reduction.{Reduction}
use Rattle.chare_base.specs.declared.plan.Step.{Step}
use Rattle.chare_base.specs.declared.plan.Stmt.{Stmt, out-Stmt}
use Rattle.chare_base.specs.declared.plan.Stmt.TheOpen.{Stmt-F}
use Rattle.chare_base.specs.Elements.{elements, steps_of, parts_at}
use Rattle.chare_base.specs.Entries.{entry_of, reduction_of}
use Rattle.chare_base.specs.Laws.{SendsDeclared, Sent}
use Rattle.chare_base.specs.Placing.{members}
use Rattle.chare_base.specs.Ports.{entry_port, fed_by, parts_send, steps_in, steps_send, total_port}
use Rattle.chare_base.proofs.Sendings.{PartDeclared, SendFound, all_declared, exchanged, send_found, source_array, step_parts}
use Rattle.chare_eval.specs.Inside.{is_done, none_done}
use Rattle.letter_post.specs.Truth.{in_array}
use Rattle.node_core.specs.Costs.{contribution_cost, is_first, part_cost, parts_cost, port_cost, round_cost, sharers, sharers_in, steps_cost, stmt_cost, sum, times}
use Rattle.node_core.specs.Mail.{In}
use Rattle.node_core.specs.Nodes.{node_at}
use Rattle.node_core.specs.Rosters.{node_count, nodes_with, shares}
use Rattle.node_core.proofs.Lists.{all_by}
use Rattle.node_core.proofs.Sums.{sum_append}
use Rattle.node_core.proofs.Within.{in_left, in_right}
use Rattle.world_core.specs.Bounds.{parts_below, reductions_of, width_below, width_of}
use Rattle.world_core.proofs.Lists.{all_to, append_nil}
use Rattle.world_core.proofs.Weights.{sum_same, times_more, times_one}
use Rattle.world_core.proofs.Widths.{BlockIn, FedIn, StepIn, all_sent, array_at, below_add, below_most, below_same, one_if, parts_weight, port_weight, sources_of, steps_most, steps_weight, sum_below}
use Rattle.world_core.specs.Bounds as bounds

-- ---- which arrays send to a port

found_step : (port : Port) (steps : List Step) → 0 < steps_send port steps → (s : ℕ) × (0 < parts_send port (step_parts (slice_get steps s)))
found_step port [] h = absurd (omega (arith, h))
found_step port (step ∷ more) h = by (parts_send port step.parts) refl (found_step port more)
  where
    by : (n : ℕ) → parts_send port step.parts ≡ n → (0 < steps_send port more → (s : ℕ) × (0 < parts_send port (step_parts (slice_get more s)))) → (s : ℕ) × (0 < parts_send port (step_parts (slice_get (step ∷ more) s)))
    by zero is rest = let r = rest (omega (arith, is, h)) in (suc r.0, r.1)
    by (suc n) is rest = (0, omega (arith, is))

module _ (p : Plan) (e : ℕ) where
  -- a port is sent to once by elements of its source alone
  sends_once : (port : Port) (a : ℕ) → source_array p port ≡ Some a → steps_send port (steps_of p e) ≤ one_if (a == array_at p e)
  sends_once port a is = by (steps_send port (steps_of p e)) refl
    where
      by : (n : ℕ) → steps_send port (steps_of p e) ≡ n → n ≤ one_if (a == array_at p e)
      by zero h = omega arith
      by (suc n) h =
          let found = found_step port (steps_of p e) (omega (arith, h)) in
          let f : SendFound p port e found.0 = send_found p port e found.0 found.1 in
          let same : a ≡ array_at p e = same_Some a f.joins.source (sym is ∙ f.joins.source_is) ∙ f.source in
          let one : steps_send port (steps_of p e) ≡ 1 = ap (λ m. steps_send port (steps_in p.arrays m)) (sym f.source) ∙ (exchanged p port f.joins).sent in
          let test : one_if (a == array_at p e) ≡ 1 = ap one_if (eq-eqb a (array_at p e) same) in
          omega (arith, h, one, test)

  -- ---- all ports of a plan

  abbrev entry_list : ℕ → List Entry → List Port
  entry_list x [] = []
  entry_list x (entry ∷ more) = entry_port x ∷ entry_list (suc x) more

  abbrev total_list : ℕ → List Reduction → List Port
  total_list r [] = []
  total_list r (reduction ∷ more) = total_port r ∷ total_list (suc r) more

  abbrev all_ports : List Port
  all_ports = entry_list 0 p.entries ++ total_list 0 p.reductions

  in_entries : (x : ℕ) (xs : List Entry) (m : ℕ) (y : Entry) → slice_get xs m ≡ Some y → In (entry_port (x + m)) (entry_list x xs)
  in_entries x [] m y h = absurd (let q : None ≡ Some y = h in cc)
  in_entries x (z ∷ more) zero y h = let at : x + 0 ≡ x = omega arith in inl (ap entry_port at)
  in_entries x (z ∷ more) (suc m) y h = let at : suc x + m ≡ x + suc m = omega arith in inr (subst (λ n. In (entry_port n) (entry_list (suc x) more)) at (in_entries (suc x) more m y h))

  in_totals : (r : ℕ) (xs : List Reduction) (m : ℕ) (y : Reduction) → slice_get xs m ≡ Some y → In (total_port (r + m)) (total_list r xs)
  in_totals r [] m y h = absurd (let q : None ≡ Some y = h in cc)
  in_totals r (z ∷ more) zero y h = let at : r + 0 ≡ r = omega arith in inl (ap total_port at)
  in_totals r (z ∷ more) (suc m) y h = let at : suc r + m ≡ r + suc m = omega arith in inr (subst (λ n. In (total_port n) (total_list (suc r) more)) at (in_totals (suc r) more m y h))

  module _ (v : Port → ℕ) where
    fed_in : (array : ℕ) (x : Stmt-F Stmt) → Sent p array x → FedIn v all_ports (fed_by x)
    fed_in array (Stmt-F.Set cell value) h = tt
    fed_in array (Stmt-F.SetAt at cells place value) h = tt
    fed_in array (Stmt-F.If test a b) h = tt
    fed_in array (Stmt-F.For slot low high block) h = tt
    fed_in array (Stmt-F.Send x values) h =
        let at : 0 + x.0 ≡ x.0 = omega arith in
        in_left (ports.Entry x) (entry_list 0 p.entries) (total_list 0 p.reductions) (subst (λ n. In (entry_port n) (entry_list 0 p.entries)) at (in_entries 0 p.entries x.0 h.entry h.is))
    fed_in array (Stmt-F.Contribute r value) h =
        let at : 0 + r.0 ≡ r.0 = omega arith in
        in_right (ports.Total r) (entry_list 0 p.entries) (total_list 0 p.reductions) (subst (λ n. In (total_port n) (total_list 0 p.reductions)) at (in_totals 0 p.reductions r.0 h.reduction h.is))

    all_in : AllByRecursion (λ (step : Step). StepIn v all_ports step.parts) (steps_of p e)
    all_in = all_by (λ (step : Step). StepIn v all_ports step.parts) (steps_of p e) each
      where
        block_in : (part : Part) → PartDeclared p (array_at p e) part → BlockIn v all_ports part.block
        block_in part h = all_to (SendsDeclared p (array_at p e)) (λ stmt. FedIn v all_ports (fed_by (out-Stmt stmt))) part.block (λ stmt d. fed_in (array_at p e) (out-Stmt stmt) d.sends) h

        each : (s : ℕ) (step : Step) → slice_get (steps_of p e) s ≡ Some step → StepIn v all_ports step.parts
        each s step there = all_to (PartDeclared p (array_at p e)) (λ (part : Part). BlockIn v all_ports part.block) step.parts block_in (subst (λ q. AllByRecursion (PartDeclared p (array_at p e)) (step_parts q)) there (all_declared p e s))

    -- where each entry weighs one
    entries_most : ((x : ℕ) → v (entry_port x) ≡ 1) → (x : ℕ) (xs : List Entry) → ((m : ℕ) (y : Entry) → slice_get xs m ≡ Some y → entry_of p (x + m) ≡ Some y) →
        sum (λ port. times (steps_send port (steps_of p e)) (v port)) (entry_list x xs) ≤ sources_of p (array_at p e) xs
    entries_most one x [] known = omega arith
    entries_most one x (y ∷ more) known =
        let at : x + 0 ≡ x = omega arith in
        let there : entry_of p x ≡ Some y = ap (entry_of p) (sym at) ∙ known 0 y refl in
        let here = sends_once (entry_port x) y.source (ap (λ o. option_map_or (λ (z : Entry). Some z.source) o None) there) in
        let single : times (steps_send (entry_port x) (steps_of p e)) (v (entry_port x)) ≡ steps_send (entry_port x) (steps_of p e) = ap (times (steps_send (entry_port x) (steps_of p e))) (one x) ∙ times_one (steps_send (entry_port x) (steps_of p e)) in
        let rest = entries_most one (suc x) more (λ m z h. let next : suc x + m ≡ x + suc m = omega arith in ap (entry_of p) next ∙ known (suc m) z h) in
        omega (arith, here, single, rest)

  -- what reductions of an array cost, the first of which has number r
  abbrev owners_weight : (ℕ → ℕ) → ℕ → ℕ → List Reduction → ℕ
  owners_weight cost array r [] = 0
  owners_weight cost array r (x ∷ more) = times (one_if (x.owner == array)) (cost r) + owners_weight cost array (suc r) more

  totals_most : (v : Port → ℕ) (r : ℕ) (xs : List Reduction) → ((m : ℕ) (y : Reduction) → slice_get xs m ≡ Some y → reduction_of p (r + m) ≡ Some y) →
      sum (λ port. times (steps_send port (steps_of p e)) (v port)) (total_list r xs) ≤ owners_weight (λ q. v (total_port q)) (array_at p e) r xs
  totals_most v r [] known = omega arith
  totals_most v r (y ∷ more) known =
      let at : r + 0 ≡ r = omega arith in
      let there : reduction_of p r ≡ Some y = ap (reduction_of p) (sym at) ∙ known 0 y refl in
      let once = sends_once (total_port r) y.owner (ap (λ o. option_map_or (λ (z : Reduction). Some z.owner) o None) there) in
      let here = times_more (steps_send (total_port r) (steps_of p e)) (one_if (y.owner == array_at p e)) (v (total_port r)) once in
      let rest = totals_most v (suc r) more (λ m z h. let next : suc r + m ≡ r + suc m = omega arith in ap (reduction_of p) next ∙ known (suc m) z h) in
      omega (arith, here, rest)

-- ---- what an element costs in an iteration

none_is_done : (q : ℕ) → is_done none_done q ≡ false
none_is_done zero = refl
none_is_done (suc zero) = refl
none_is_done (suc (suc zero)) = refl
none_is_done (suc (suc (suc zero))) = refl
none_is_done (suc (suc (suc (suc zero)))) = refl
none_is_done (suc (suc (suc (suc (suc zero))))) = refl
none_is_done (suc (suc (suc (suc (suc (suc zero)))))) = refl
none_is_done (suc (suc (suc (suc (suc (suc (suc zero))))))) = refl
none_is_done (suc (suc (suc (suc (suc (suc (suc (suc q)))))))) = refl

pub below_shift : (f : ℕ → ℕ) (n : ℕ) → sum_below f (suc n) ≡ f 0 + sum_below (λ i. f (suc i)) n
below_shift f zero = omega arith
below_shift f (suc n) = let rest = below_shift f n in omega (arith, rest)

by_place : {A : Type 0} (g : Option A → ℕ) (xs : List A) → sum_below (λ i. g (slice_get xs i)) (length xs) ≡ sum (λ x. g (Some x)) xs
by_place g [] = refl
by_place g (x ∷ more) = let rest = by_place g more in let first = below_shift (λ i. g (slice_get (x ∷ more) i)) (length more) in omega (arith, rest, first)

pub below_is : (p : Plan) (e n : ℕ) → parts_below p e n ≡ sum_below (λ s. length (parts_at p e s)) n
below_is p e zero = refl
below_is p e (suc n) = let rest = below_is p e n in omega (arith, rest)

pub width_is : (p : Plan) (n : ℕ) → width_below p n ≡ sum_below (width_of p) n
width_is p zero = refl
width_is p (suc n) = let rest = width_is p n in omega (arith, rest)

module _ (p : Plan) (place : List ℕ) (e : ℕ) where
  -- what a port costs
  abbrev port_costs : Port → ℕ
  port_costs port = port_cost p place e (Some port)

  stmt_same : (o : Option Port) → port_cost p place e o ≡ port_weight port_costs o
  stmt_same None = refl
  stmt_same (Some port) = refl

  parts_same : (q : ℕ) (parts : List Part) → parts_cost p place e none_done q parts ≡ length parts + parts_weight port_costs parts
  parts_same q [] = refl
  parts_same q (part ∷ more) =
      let block = sum_same (stmt_cost p place e) (λ stmt. port_weight port_costs (fed_by (out-Stmt stmt))) part.block (λ m stmt there. stmt_same (fed_by (out-Stmt stmt))) in
      let here : cond (is_done none_done q) 0 (part_cost p place e part) ≡ part_cost p place e part = ap (λ b. cond b 0 (part_cost p place e part)) (none_is_done q) in
      let rest = parts_same (suc q) more in
      omega (arith, block, here, rest)

  steps_same : (s : ℕ) (rest : List Step) → ((m : ℕ) → slice_get rest m ≡ slice_get (steps_of p e) (s + m)) → steps_cost p place e s (length rest) ≡ sum (λ (step : Step). length step.parts) rest + steps_weight port_costs rest
  steps_same s [] known = refl
  steps_same s (step ∷ more) known =
      let at : s + 0 ≡ s = omega arith in
      let its : parts_at p e s ≡ step.parts = ap step_parts (ap (slice_get (steps_of p e)) (sym at) ∙ sym (known 0)) in
      let here : parts_cost p place e none_done 0 (parts_at p e s) ≡ length step.parts + parts_weight port_costs step.parts = ap (parts_cost p place e none_done 0) its ∙ parts_same 0 step.parts in
      let rest = steps_same (suc s) more (λ m. let next : s + suc m ≡ suc s + m = omega arith in known (suc m) ∙ ap (slice_get (steps_of p e)) next) in
      omega (arith, here, rest)

  abbrev reductions_cost : ℕ
  reductions_cost = owners_weight p e (contribution_cost p place e) (array_at p e) 0 p.reductions

  -- its parts, what it sends, and its contributions
  round_most : round_cost p place e ≤ parts_below p e (length (steps_of p e)) + (sources_of p (array_at p e) p.entries + reductions_cost)
  round_most =
      let same = steps_same 0 (steps_of p e) (λ m. let at : m ≡ 0 + m = omega arith in ap (slice_get (steps_of p e)) at) in
      let parts = below_is p e (length (steps_of p e)) ∙ by_place (λ o. length (step_parts o)) (steps_of p e) in
      let weighs = steps_most port_costs (all_ports p e) (steps_of p e) (all_in p e port_costs) in
      let split = sum_append (λ port. times (steps_send port (steps_of p e)) (port_costs port)) (entry_list p e 0 p.entries) (total_list p e 0 p.reductions) in
      let entries = entries_most p e port_costs (λ x. refl) 0 p.entries (λ m y h. let at : 0 + m ≡ m = omega arith in ap (entry_of p) at ∙ h) in
      let totals = totals_most p e port_costs 0 p.reductions (λ m y h. let at : 0 + m ≡ m = omega arith in ap (reduction_of p) at ∙ h) in
      omega (arith, same, parts, weighs, split, entries, totals)

-- ---- contributions

abbrev head_of : List ℕ → ℕ
head_of [] = 0
head_of (x ∷ more) = x

first_is_head : (e : ℕ) (xs : List ℕ) → is_first e xs ≡ true → e ≡ head_of xs
first_is_head e [] h = absurd (let q : false ≡ true = h in cc)
first_is_head e (x ∷ more) h = sym (eqb-true x e h)

nodes_few : (p : Plan) (place : List ℕ) (array n : ℕ) → length (nodes_with p place array n) ≤ n
nodes_few p place array zero = omega arith
nodes_few p place array (suc j) = by (shares p place array j) (nodes_few p place array j) (long_last (nodes_with p place array j) j)
  where
    long_last : (xs : List ℕ) (x : ℕ) → length (xs ++ x ∷ []) ≡ suc (length xs)
    long_last [] x = refl
    long_last (y ∷ xs) x = ap suc (long_last xs x)

    by : (b : Bool) → length (nodes_with p place array j) ≤ j → length (nodes_with p place array j ++ j ∷ []) ≡ suc (length (nodes_with p place array j)) → length (nodes_with p place array j ++ cond b (j ∷ []) []) ≤ suc j
    by true few last = omega (arith, few, last)
    by false few last = let same : nodes_with p place array j ++ [] ≡ nodes_with p place array j = append_nil (nodes_with p place array j) in let long = ap length same in omega (arith, few, long)

-- one number below another
one_at : (carrier c n : ℕ) → sum_below (λ e. times (one_if (e == carrier)) c) n ≤ c
one_at carrier c n = by n
  where
    none : (m : ℕ) → m ≤ carrier → sum_below (λ e. times (one_if (e == carrier)) c) m ≡ 0
    none zero few = refl
    none (suc m) few =
        let rest = none m (omega (arith, few)) in
        let other : (m == carrier) ≡ false = grind (arith, nat_tests, few) in
        let here : times (one_if (m == carrier)) c ≡ 0 = ap (λ b. times (one_if b) c) other in
        omega (arith, rest, here)

    by : (m : ℕ) → sum_below (λ e. times (one_if (e == carrier)) c) m ≤ c
    by zero = omega arith
    by (suc m) = which (m == carrier) refl (by m)
      where
        which : (b : Bool) → (m == carrier) ≡ b → sum_below (λ e. times (one_if (e == carrier)) c) m ≤ c → sum_below (λ e. times (one_if (e == carrier)) c) (suc m) ≤ c
        which true is rest =
            let before = none m (let at = eqb-true m carrier is in omega (arith, at)) in
            let here : times (one_if (m == carrier)) c ≡ times 1 c = ap (λ b. times (one_if b) c) is in
            omega (arith, before, here)
        which false is rest = let here : times (one_if (m == carrier)) c ≡ 0 = ap (λ b. times (one_if b) c) is in omega (arith, rest, here)

module _ (p : Plan) (place : List ℕ) where
  -- of a reduction, one element alone carries the totals
  abbrev carrier_of : ℕ → ℕ → ℕ
  carrier_of r owner = head_of (in_array p owner (members place (head_of (sharers p place r))))

  cost_most : (r : ℕ) (x : Reduction) (e : ℕ) → reduction_of p r ≡ Some x → times (one_if (x.owner == array_at p e)) (contribution_cost p place e r) ≤ one_if (x.owner == array_at p e) + times (one_if (e == carrier_of r x.owner)) (node_count place)
  cost_most r x e there = by (x.owner == array_at p e) refl
    where
      few : length (sharers p place r) ≤ node_count place
      few = subst (λ o. length (sharers_in p place o) ≤ node_count place) (sym there) (nodes_few p place x.owner (node_count place))

      mine : (a b : Bool) → is_first e (in_array p (array_at p e) (members place (node_at place e))) ≡ a → is_first (node_at place e) (sharers p place r) ≡ b → x.owner ≡ array_at p e →
          cond a (suc (cond b (length (sharers p place r)) 0)) 0 ≤ 1 + times (one_if (e == carrier_of r x.owner)) (node_count place)
      mine false b ha hb same = omega arith
      mine true false ha hb same = omega arith
      mine true true ha hb same =
          let node : node_at place e ≡ head_of (sharers p place r) = first_is_head (node_at place e) (sharers p place r) hb in
          let carrier : e ≡ carrier_of r x.owner = first_is_head e (in_array p (array_at p e) (members place (node_at place e))) ha ∙ ap (λ j. head_of (in_array p (array_at p e) (members place j))) node ∙ ap (λ a. head_of (in_array p a (members place (head_of (sharers p place r))))) (sym same) in
          let one : times (one_if (e == carrier_of r x.owner)) (node_count place) ≡ times 1 (node_count place) = ap (λ b. times (one_if b) (node_count place)) (eq-eqb e (carrier_of r x.owner) carrier) in
          omega (arith, few, one)

      by : (b : Bool) → (x.owner == array_at p e) ≡ b → times (one_if b) (contribution_cost p place e r) ≤ one_if b + times (one_if (e == carrier_of r x.owner)) (node_count place)
      by false is = omega arith
      by true is =
          let its = mine (is_first e (in_array p (array_at p e) (members place (node_at place e)))) (is_first (node_at place e) (sharers p place r)) refl refl (eqb-true x.owner (array_at p e) is) in
          omega (arith, its)

  owners_most : (r : ℕ) (xs : List Reduction) → ((m : ℕ) (y : Reduction) → slice_get xs m ≡ Some y → reduction_of p (r + m) ≡ Some y) →
      sum_below (λ e. owners_weight p e (contribution_cost p place e) (array_at p e) r xs) (elements p) ≤ sum_below (λ e. reductions_of (array_at p e) xs) (elements p) + times (length xs) (node_count place)
  owners_most r [] known = let none = below_same (λ e. 0) (λ e. 0) (elements p) (λ e less. refl) in omega (arith, none)
  owners_most r (x ∷ more) known =
      let at : r + 0 ≡ r = omega arith in
      let there : reduction_of p r ≡ Some x = ap (reduction_of p) (sym at) ∙ known 0 x refl in
      let rest = owners_most (suc r) more (λ m y h. let next : suc r + m ≡ r + suc m = omega arith in ap (reduction_of p) next ∙ known (suc m) y h) in
      let left = below_add (λ e. times (one_if (x.owner == array_at p e)) (contribution_cost p place e r)) (λ e. owners_weight p e (contribution_cost p place e) (array_at p e) (suc r) more) (elements p) in
      let here = below_most (λ e. times (one_if (x.owner == array_at p e)) (contribution_cost p place e r)) (λ e. one_if (x.owner == array_at p e) + times (one_if (e == carrier_of r x.owner)) (node_count place)) (elements p) (λ e less. cost_most r x e there) in
      let middle = below_add (λ e. one_if (x.owner == array_at p e)) (λ e. times (one_if (e == carrier_of r x.owner)) (node_count place)) (elements p) in
      let one = one_at (carrier_of r x.owner) (node_count place) (elements p) in
      let right = below_add (λ e. one_if (x.owner == array_at p e)) (λ e. reductions_of (array_at p e) more) (elements p) in
      omega (arith, rest, left, here, middle, one, right)

  -- of all elements
  pub rounds_most : sum_below (round_cost p place) (elements p) ≤ width_below p (elements p) + times (length p.reductions) (node_count place)
  unfolding width_of
  rounds_most =
      let each = below_most (round_cost p place) (λ e. parts_below p e (length (steps_of p e)) + (sources_of p (array_at p e) p.entries + reductions_cost p place e)) (elements p) (λ e less. round_most p place e) in
      let one = below_add (λ e. parts_below p e (length (steps_of p e))) (λ e. sources_of p (array_at p e) p.entries + reductions_cost p place e) (elements p) in
      let two = below_add (λ e. sources_of p (array_at p e) p.entries) (reductions_cost p place) (elements p) in
      let sent = all_sent p in
      let owners = owners_most 0 p.reductions (λ m y h. let at : 0 + m ≡ m = omega arith in ap (reduction_of p) at ∙ h) in
      let width = width_is p (elements p) in
      let three = below_add (λ e. parts_below p e (length (steps_of p e))) (λ e. bounds.entries_of (array_at p e) p.entries + reductions_of (array_at p e) p.reductions) (elements p) in
      let four = below_add (λ e. bounds.entries_of (array_at p e) p.entries) (λ e. reductions_of (array_at p e) p.reductions) (elements p) in
      omega (arith, each, one, two, sent, owners, width, three, four)
