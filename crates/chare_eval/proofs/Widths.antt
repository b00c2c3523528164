-- Each message has as many values as its entry says.
use Rattle.std.proofs.Common.{◌≡◌, ℕ, zero, suc, ◌≤◌, ℤ, Bool, true, false, cond, List, [], ◌∷◌, length, refl, ap, sym, ◌∙◌, arith, Option, Some, None}
use Rattle.std.specs.Prelude.{◌+ℤ◌, ◌/◌, ◌%◌, ◌==◌, ◌&&◌, min, pos, slice_get}
use Rattle.std.specs.List.{AllByRecursion}
use Rattle.std.specs.Option.{option_map_or}
use Rattle.std.proofs.lemmas.Bool.{eqb-true}
use Rattle.std.proofs.lemmas.Option.{same_Some}
use Rattle.chare_base.specs.declared.cells.Cells.{Cells}
use Rattle.chare_base.specs.declared.message.EntryId.{EntryId}
use Rattle.chare_base.specs.declared.message.Payload.{Payload}
use Rattle.chare_base.specs.declared.message.Port.TheVariants as ports
use Rattle.chare_base.specs.declared.message.ReductionId.{ReductionId}
use Rattle.chare_base.specs.declared.message.Source.{Source}
use Rattle.chare_base.specs.declared.message.Source.TheVariants as sources
use Rattle.chare_base.specs.declared.plan.Edge.{Edge}
use Rattle.chare_base.specs.declared.plan.Edge.TheVariants.{Wrap, Else}
use Rattle.chare_base.specs.declared.plan.ElementId.{ElementId}
use Rattle.chare_base.specs.declared.plan.Entry.{Entry}
use Rattle.chare_base.specs.declared.plan.Part.{Part}
use Rattle.chare_base.specs.declared.plan.Plan.{Plan}
use Rattle.chare_base.specs.declared.plan.Stmt.{Stmt, out-Stmt}
use Rattle.chare_base.specs.declared.plan.Stmt.TheOpen.{Stmt-F}
use Rattle.chare_base.specs.Elements.{elements, parts_at, place_of, steps_in_round}
use Rattle.chare_base.specs.Entries.{cols_of, edge_payload, element_at, entry_of, first_of, neighbour, nothing, rows_of, source_in, source_of, target_of}
use Rattle.chare_base.specs.Flip.{Flip}
use Rattle.chare_base.specs.Laws.{Sent, SendsDeclared, SendsTo}
use Rattle.chare_base.specs.Total.{joined_to}
use Rattle.chare_base.proofs.Exchanges.{values_few}
use Rattle.chare_base.proofs.Sendings.{sends_are_declared}
use Rattle.chare_eval.specs.declared.effects.Outgoing.{Outgoing}
use Rattle.chare_eval.specs.declared.effects.Outgoing.TheVariants.{Parcel, Contribution}
use Rattle.chare_eval.specs.Block.{Effect, Top, filled_of, parcels, payload_of, quiet, scene_of, top_acts, top_step}
use Rattle.chare_eval.specs.Fold.{fold}
use Rattle.chare_eval.specs.Inside.{found_in, is_number, message_to, port_array}
use Rattle.chare_eval.specs.Laws.{MessagesFit}
use Rattle.chare_eval.specs.Stage.{Board, Inbox, contributions, effect, found, given, how_of, inbox, members, one_value, parcel_held, part_runs, parts_run, ran, stage, state_at, step_of, total_payload}
use Rattle.chare_eval.proofs.Sent.{all_append}

-- ---- what is sent

abbrev Wide : Plan → Outgoing → Type 0
Wide p (Parcel entry to payload) = (x : Entry) → entry_of p entry.0 ≡ Some x → payload.count ≡ x.values
Wide p (Contribution reduction value) = Unit {0}

abbrev AllWide : Plan → List Outgoing → Type 0
AllWide p mail = AllByRecursion (Wide p) mail

-- the first eight of no more than eight
no_more : (n m : ℕ) → n ≡ m → m ≤ 8 → min 8 n ≡ m
no_more n m same few = omega (arith, same, few)

module _ (p : Plan) (e : ℕ) where
  parcels_wide : (entry : EntryId) (to : Option ElementId) (payload : Payload) → ((x : Entry) → entry_of p entry.0 ≡ Some x → payload.count ≡ x.values) → AllWide p (parcels entry to payload)
  parcels_wide entry None payload h = tt
  parcels_wide entry (Some to) payload h = (h, tt)

  count_sent : (n entry : ℕ) → SendsTo p (place_of p e).array entry n → (x : Entry) → entry_of p entry ≡ Some x → min 8 n ≡ x.values
  count_sent n entry h x is =
      let same : h.entry ≡ x = same_Some h.entry x (sym h.is ∙ is) in
      no_more n x.values (h.values ∙ ap (λ (y : Entry). y.values) same) (values_few p entry x is)

  stmt_wide : (s : Stmt) (y : Stmt-F Stmt) (t : Top) → Sent p (place_of p e).array y → AllWide p t.sent → AllWide p (top_step p e s y t).sent
  stmt_wide s (Stmt-F.Set at value) t d h = h
  stmt_wide s (Stmt-F.SetAt at count place value) t d h = h
  stmt_wide s (Stmt-F.If test a b) t d h = h
  stmt_wide s (Stmt-F.For slot low high block) t d h = h
  stmt_wide s (Stmt-F.Send entry values) t d h =
      let payload = payload_of values (filled_of values t.run) in
      all_append (Wide p) t.sent (parcels entry (target_of p entry.0 e) payload) h
      (parcels_wide entry (target_of p entry.0 e) payload (count_sent (length values) entry.0 d))
  stmt_wide s (Stmt-F.Contribute reduction value) t d h = all_append (Wide p) t.sent _ h (tt, tt)

  block_wide : (block : List Stmt) (t : Top) → AllByRecursion (SendsDeclared p (place_of p e).array) block → AllWide p t.sent → AllWide p (top_acts p e block t).sent
  block_wide [] t d h = h
  block_wide (s ∷ more) t d h = block_wide more (top_step p e s (out-Stmt s) t) d.1 (stmt_wide s (out-Stmt s) t d.0.sends h)

  abbrev Declared : Part → Type 0
  Declared part = AllByRecursion (SendsDeclared p (place_of p e).array) part.block

  each_part : (parts : List Part) → ((q : ℕ) → AllByRecursion (SendsDeclared p (place_of p e).array) (option_map_or (λ (part : Part). part.block) (slice_get parts q) [])) → AllByRecursion Declared parts
  each_part [] f = tt
  each_part (part ∷ more) f = (f 0, each_part more (λ q. f (suc q)))

  module _ (s k : ℕ) (box : Inbox) where
    parts_wide : (parts : List Part) (f : Effect) → AllByRecursion Declared parts → AllWide p f.sent → AllWide p (parts_run p e s k box parts f).sent
    parts_wide [] f d h = h
    parts_wide (part ∷ more) f d h =
        let start : Top = record { run = record { scene = scene_of p e k (given part.need box); cells = f.cells.numbers; slip = 0 }; sent = [] } in
        parts_wide more (part_runs p e s k box part f) d.1
        (all_append (Wide p) f.sent (top_acts p e part.block start).sent h (block_wide part.block start d.0 tt))

    step_wide : (cells : Cells) → AllWide p (step_of p s k e box cells).sent
    step_wide cells = parts_wide (parts_at p e s) (quiet cells) (each_part (parts_at p e s) (sends_are_declared p e s)) tt

ran_wide : (p : Plan) (s k n : ℕ) (b : Board) → AllWide p b.mail → AllWide p (ran p s k n b).mail
unfolding ran
ran_wide p s k zero b h = h
ran_wide p s k (suc e) b h =
    let now = ran p s k e b in
    all_append (Wide p) now.mail (effect p s k e now).sent (ran_wide p s k e b h) (step_wide p e s k (inbox p now.mail e) (state_at now.states e))

stage_wide : (p : Plan) (lines : List Flip) (k : ℕ) (all : List Cells) (s : ℕ) → AllWide p (stage p lines k all s).mail
unfolding stage
stage_wide p lines k all zero = tt
stage_wide p lines k all (suc s) = ran_wide p s k (elements p) (stage p lines k all s) (stage_wide p lines k all s)

-- ---- what is found

abbrev count_of : Option Payload → ℕ
count_of None = 0
count_of (Some payload) = payload.count

abbrev edge_count : Source → ℕ
edge_count (sources.Element e) = 0
edge_count (sources.Edge payload) = payload.count

module _ (p : Plan) (x : ℕ) (entry : Entry) (is : entry_of p x ≡ Some entry) where
  held_wide : (mail : List Outgoing) (e : ℕ) (payload : Payload) → AllWide p mail → parcel_held mail e x ≡ Some payload → payload.count ≡ entry.values
  held_wide [] e payload all h = absurd (let q : None ≡ Some payload = h in cc)
  held_wide (Parcel y to other ∷ more) e payload all h = by (to.0 == e) (y.0 == x) refl (held_wide more e payload all.1) h
    where
      by : (a b : Bool) → (y.0 == x) ≡ b → (parcel_held more e x ≡ Some payload → payload.count ≡ entry.values) → cond (a && b) (Some other) (parcel_held more e x) ≡ Some payload → payload.count ≡ entry.values
      by true true same later q = sym (ap count_of q) ∙ all.0 entry (ap (entry_of p) (eqb-true y.0 x same) ∙ is)
      by true false same later q = later q
      by false b same later q = later q
  held_wide (Contribution reduction value ∷ more) e payload all h = held_wide more e payload all.1 h

-- with wrap there is always a neighbour
neighbour_wide : (edge : Edge) (values first rows cols : ℕ) (row col : ℤ) (payload : Payload) →
    option_map_or (λ i. sources.Element (element_at first i)) (neighbour edge rows cols row col) (sources.Edge (edge_payload edge values)) ≡ sources.Edge payload → payload.count ≡ values
neighbour_wide Wrap values first rows cols row col payload h = absurd (let q : sources.Element (element_at first _) ≡ sources.Edge payload = h in cc)
neighbour_wide (Else value) values first rows cols row col payload h = by (neighbour (Else value) rows cols row col) h
  where
    by : (o : Option ℕ) → option_map_or (λ i. sources.Element (element_at first i)) o (sources.Edge (edge_payload (Else value) values)) ≡ sources.Edge payload → payload.count ≡ values
    by None q = sym (ap edge_count q)
    by (Some i) q = absurd (let r : sources.Element (element_at first i) ≡ sources.Edge payload = q in cc)

edge_wide : (p : Plan) (x e : ℕ) (entry : Entry) (payload : Payload) → entry_of p x ≡ Some entry → source_of p x e ≡ sources.Edge payload → payload.count ≡ entry.values
unfolding source_of
edge_wide p x e entry payload is h =
    let index = (place_of p e).index in
    let here : source_in p.arrays index entry ≡ sources.Edge payload = sym (ap (λ o. option_map_or (source_in p.arrays index) o (sources.Edge nothing)) is) ∙ h in
    neighbour_wide entry.edge entry.values (first_of p.arrays entry.source) (rows_of p.arrays entry.source) (cols_of p.arrays entry.source)
    (pos (index / cols_of p.arrays entry.source) +ℤ entry.down) (pos (index % cols_of p.arrays entry.source) +ℤ entry.across) payload here

found_wide : (n : ℕ) (s : Source) (held : Option Payload) (payload : Payload) → ((q : Payload) → s ≡ sources.Edge q → q.count ≡ n) → ((q : Payload) → held ≡ Some q → q.count ≡ n) →
    found s held ≡ Some payload → payload.count ≡ n
found_wide n (sources.Element e) held payload edge sent h = sent payload h
found_wide n (sources.Edge q) held payload edge sent h = sym (ap count_of h) ∙ edge q refl

-- what is found at a port of the element's array
at_port : (b : Bool) (m : Option Payload) (payload : Payload) → cond b m None ≡ Some payload → m ≡ Some payload
at_port true m payload h = h
at_port false m payload h = absurd (let q : None ≡ Some payload = h in cc)

one_wide : (b : Bool) (total : Option ℤ) (payload : Payload) → cond b (total_payload total) None ≡ Some payload → payload.count ≡ 1
one_wide false total payload h = absurd (let q : None ≡ Some payload = h in cc)
one_wide true None payload h = absurd (let q : None ≡ Some payload = h in cc)
one_wide true (Some v) payload h = sym (ap count_of (let q : Some (one_value v) ≡ Some payload = h in q))

values_fit : (p : Plan) (lines : List Flip) (k e : ℕ) (x : EntryId) (entry : Entry) (payload : Payload) → entry_of p x.0 ≡ Some entry →
    message_to p lines k (ports.Entry x) e ≡ Some payload → payload.count ≡ entry.values
unfolding message_to
values_fit p lines k e x entry payload is h =
    let mail = (stage p lines k (fold p lines k) (steps_in_round p)).mail in
    let here = at_port (is_number (place_of p e).array (port_array p (ports.Entry x))) (found_in p lines k (ports.Entry x) e) payload h in
    found_wide entry.values (source_of p x.0 e) (parcel_held mail e x.0) payload (λ q edge. edge_wide p x.0 e entry q is edge)
    (λ q held. held_wide p x.0 entry is mail e q (stage_wide p lines k (fold p lines k) (steps_in_round p)) held) here

totals_fit : (p : Plan) (lines : List Flip) (k e : ℕ) (r : ReductionId) (payload : Payload) → message_to p lines k (ports.Total r) e ≡ Some payload → payload.count ≡ 1
unfolding message_to
totals_fit p lines k e r payload h =
    let values = contributions (stage p lines k (fold p lines k) (steps_in_round p)).mail r.0 in
    let here = at_port (is_number (place_of p e).array (port_array p (ports.Total r))) (found_in p lines k (ports.Total r) e) payload h in
    one_wide (length values == members p r.0) (joined_to (how_of p r.0) None values) payload here

pub messages_fit : MessagesFit
messages_fit = record { values = values_fit; one = totals_fit }
