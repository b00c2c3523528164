-- What a step of an element sends: once for each of its sends, each message to the element's receiver.
use Rattle.std.proofs.Common.{◌≡◌, ℕ, ◌+◌, ◌<◌, ◌≤◌, ◌⊎◌, ℤ, Bool, true, false, cond, List, [], ◌∷◌, ◌++◌, length, refl, ap, sym, ◌∙◌, arith, append_assoc, Option, Some, None, inl, inr, subst}
use Rattle.std.specs.Prelude.{◌==◌, ◌&&◌, unwrap_or}
use Rattle.std.specs.List.{AllByRecursion}
use Rattle.std.specs.Option.{option_or}
use Rattle.std.proofs.lemmas.Bool.{eqb-true}
use Rattle.std.proofs.lemmas.Bool.Decides.{nat_tests}
use Rattle.std.proofs.lemmas.List.{append-nil}
use Rattle.std.proofs.lemmas.Option.{same_Some}
use Rattle.chare_base.specs.declared.message.EntryId.{EntryId}
use Rattle.chare_base.specs.declared.message.Need.{Need}
use Rattle.chare_base.specs.declared.message.Need.TheVariants as needs
use Rattle.chare_base.specs.declared.message.Payload.{Payload}
use Rattle.chare_base.specs.declared.message.Port.{Port}
use Rattle.chare_base.specs.declared.message.ReductionId.{ReductionId}
use Rattle.chare_base.specs.declared.cells.Cells.{Cells}
use Rattle.chare_base.specs.declared.message.Port.TheVariants as ports
use Rattle.chare_base.specs.declared.plan.ElementId.{ElementId}
use Rattle.chare_base.specs.declared.plan.Part.{Part}
use Rattle.chare_base.specs.declared.plan.Plan.{Plan}
use Rattle.chare_base.specs.declared.plan.Stmt.{Stmt, out-Stmt}
use Rattle.chare_base.specs.declared.plan.Stmt.TheOpen.{Stmt-F}
use Rattle.chare_base.specs.Elements.{parts_at}
use Rattle.chare_base.specs.Entries.{nothing, target_of}
use Rattle.chare_base.specs.Ports.{block_sends, counted, entry_port, fed_by, parts_send, parts_take, takes, total_port}
use Rattle.chare_base.proofs.Sendings.{counted_own}
use Rattle.chare_eval.specs.declared.effects.Outgoing.{Outgoing}
use Rattle.chare_eval.specs.declared.effects.Outgoing.TheVariants.{Parcel, Contribution}
use Rattle.chare_eval.specs.Block.{Effect, Top, block_runs, computed, filled_of, parcels, payload_of, quiet, scene_of, top_acts, top_step}
use Rattle.chare_eval.specs.Stage.{Inbox, contributions, given, parcel_held, part_runs, parts_run, step_of}
use Rattle.chare_eval.specs.Laws.{AnySent, SentTo}

-- ---- what is held

pick : (b : Bool) (x : Payload) (q m : Option Payload) → cond b (Some x) (option_or q m) ≡ option_or (cond b (Some x) q) m
pick true x q m = refl
pick false x q m = refl

pub held_append : (ls ms : List Outgoing) (e x : ℕ) → parcel_held (ls ++ ms) e x ≡ option_or (parcel_held ls e x) (parcel_held ms e x)
held_append [] ms e x = refl
held_append (Parcel entry to payload ∷ ls) ms e x =
    ap (λ r. cond (to.0 == e && entry.0 == x) (Some payload) r) (held_append ls ms e x) ∙ pick (to.0 == e && entry.0 == x) payload (parcel_held ls e x) (parcel_held ms e x)
held_append (Contribution reduction value ∷ ls) ms e x = held_append ls ms e x

pub or_none : (q : Option Payload) → option_or q None ≡ q
or_none None = refl
or_none (Some x) = refl

pick_value : (b : Bool) (v : ℤ) (xs ys : List ℤ) → cond b (v ∷ (xs ++ ys)) (xs ++ ys) ≡ cond b (v ∷ xs) xs ++ ys
pick_value true v xs ys = refl
pick_value false v xs ys = refl

pub contributions_append : (ls ms : List Outgoing) (r : ℕ) → contributions (ls ++ ms) r ≡ contributions ls r ++ contributions ms r
contributions_append [] ms r = refl
contributions_append (Parcel entry to payload ∷ ls) ms r = contributions_append ls ms r
contributions_append (Contribution reduction value ∷ ls) ms r =
    ap (λ l. cond (reduction.0 == r) (value ∷ l) l) (contributions_append ls ms r) ∙ pick_value (reduction.0 == r) value (contributions ls r) (contributions ms r)

-- ---- how often a port is sent to in a list

abbrev pub out_port : Outgoing → Port
out_port (Parcel entry to payload) = ports.Entry entry
out_port (Contribution reduction value) = ports.Total reduction

abbrev pub many : Port → List Outgoing → ℕ
many port [] = 0
many port (l ∷ ls) = counted port (Some (out_port l)) + many port ls

pub many_append : (port : Port) (ls ms : List Outgoing) → many port (ls ++ ms) ≡ many port ls + many port ms
many_append port [] ms = omega arith
many_append port (l ∷ ls) ms = omega (arith, many_append port ls ms)

-- where there is none, nothing is held
pub none_held : (ls : List Outgoing) (e x : ℕ) → many (entry_port x) ls ≡ 0 → parcel_held ls e x ≡ None
none_held [] e x h = refl
none_held (Parcel entry to payload ∷ ls) e x h = skip (to.0 == e) (entry.0 == x) h (none_held ls e x)
  where
    skip : (a b : Bool) → cond b 1 0 + many (entry_port x) ls ≡ 0 → (many (entry_port x) ls ≡ 0 → parcel_held ls e x ≡ None) → cond (a && b) (Some payload) (parcel_held ls e x) ≡ None
    skip a true h rest = absurd (omega arith)
    skip true false h rest = rest (omega arith)
    skip false false h rest = rest (omega arith)
none_held (Contribution reduction value ∷ ls) e x h = none_held ls e x (omega (arith, h))

-- as many contributions as there are
pub contributions_many : (ls : List Outgoing) (r : ℕ) → length (contributions ls r) ≡ many (total_port r) ls
contributions_many [] r = refl
contributions_many (Parcel entry to payload ∷ ls) r = omega (arith, contributions_many ls r)
contributions_many (Contribution reduction value ∷ ls) r = by (reduction.0 == r) (contributions_many ls r)
  where
    by : (b : Bool) → length (contributions ls r) ≡ many (total_port r) ls → length (cond b (value ∷ contributions ls r) (contributions ls r)) ≡ cond b 1 0 + many (total_port r) ls
    by true h = omega (arith, h)
    by false h = omega (arith, h)

self : (n : ℕ) → (n == n) ≡ true
self n = grind (arith, nat_tests)

first_held : (entry : EntryId) (to : ElementId) (payload : Payload) (ls : List Outgoing) → parcel_held (Parcel entry to payload ∷ ls) to.0 entry.0 ≡ Some payload
first_held entry to payload ls =
    ap (λ b. cond (b && entry.0 == entry.0) (Some payload) (parcel_held ls to.0 entry.0)) (self to.0) ∙ ap (λ b. cond b (Some payload) (parcel_held ls to.0 entry.0)) (self entry.0)

-- one of a port that is there once
module _ (before after : List Outgoing) (l : Outgoing) (once : many (out_port l) (before ++ l ∷ after) ≤ 1) where
  pub none_before : many (out_port l) before ≡ 0
  none_before = omega (arith, once, many_append (out_port l) before (l ∷ after), counted_own (out_port l))

  pub none_after : many (out_port l) after ≡ 0
  none_after = omega (arith, once, many_append (out_port l) before (l ∷ after), counted_own (out_port l))

pub one_held : (before after : List Outgoing) (entry : EntryId) (to : ElementId) (payload : Payload) → many (ports.Entry entry) (before ++ Parcel entry to payload ∷ after) ≤ 1 →
    parcel_held (before ++ Parcel entry to payload ∷ after) to.0 entry.0 ≡ Some payload
one_held before after entry to payload once =
    held_append before (Parcel entry to payload ∷ after) to.0 entry.0
    ∙ ap (λ q. option_or q (parcel_held (Parcel entry to payload ∷ after) to.0 entry.0)) (none_held before to.0 entry.0 (none_before before after (Parcel entry to payload) once))
    ∙ first_held entry to payload after

pub none_contributed : (ls : List Outgoing) (r : ℕ) → many (total_port r) ls ≡ 0 → contributions ls r ≡ []
none_contributed ls r h = by (contributions ls r) (contributions_many ls r)
  where
    by : (l : List ℤ) → length l ≡ many (total_port r) ls → l ≡ []
    by [] n = refl
    by (v ∷ l) n = absurd (omega (arith, n, h))

pub one_contributed : (before after : List Outgoing) (r : ReductionId) (value : ℤ) → many (ports.Total r) (before ++ Contribution r value ∷ after) ≤ 1 →
    contributions (before ++ Contribution r value ∷ after) r.0 ≡ value ∷ []
one_contributed before after r value once =
    contributions_append before (Contribution r value ∷ after) r.0
    ∙ ap (λ l. l ++ contributions (Contribution r value ∷ after) r.0) (none_contributed before r.0 (none_before before after (Contribution r value) once))
    ∙ ap (λ b. cond b (value ∷ contributions after r.0) (contributions after r.0)) (self r.0)
    ∙ ap (λ l. value ∷ l) (none_contributed after r.0 (none_after before after (Contribution r value) once))

pub some_there : (before after : List Outgoing) (l : Outgoing) → 0 < many (out_port l) (before ++ l ∷ after)
some_there before after l = omega (arith, many_append (out_port l) before (l ∷ after), counted_own (out_port l))

-- ---- whom an element's messages go to

abbrev pub Aimed : Plan → ℕ → Outgoing → Type 0
Aimed p e (Parcel entry to payload) = target_of p entry.0 e ≡ Some to
Aimed p e (Contribution reduction value) = Unit {0}

pub all_append : (P : Outgoing → Type 0) (ls ms : List Outgoing) → AllByRecursion P ls → AllByRecursion P ms → AllByRecursion P (ls ++ ms)
all_append P [] ms a b = b
all_append P (l ∷ ls) ms a b = (a.0, all_append P ls ms a.1 b)

pub all_last : (P : Outgoing → Type 0) (before after : List Outgoing) (l : Outgoing) → AllByRecursion P (before ++ l ∷ after) → P l
all_last P [] after l a = a.0
all_last P (x ∷ before) after l a = all_last P before after l a.1

-- what holds of each place of a list holds of all in it
pub all_placed : (P : Outgoing → Type 0) (done ls : List Outgoing) → ((before after : List Outgoing) (l : Outgoing) → done ++ ls ≡ before ++ l ∷ after → P l) → AllByRecursion P ls
all_placed P done [] f = tt
all_placed P done (l ∷ ls) f = (f done ls l refl, all_placed P (done ++ l ∷ []) ls (λ before after m is. f before after m (sym (shift done l ls) ∙ is)))
  where
    shift : (done : List Outgoing) (l : Outgoing) (ls : List Outgoing) → (done ++ l ∷ []) ++ ls ≡ done ++ l ∷ ls
    shift [] l ls = refl
    shift (d ∷ done) l ls = ap (λ m. d ∷ m) (shift done l ls)

-- what goes to other receivers isn't held for this one
pub aimed_other : (p : Plan) (f e x : ℕ) (ls : List Outgoing) → AllByRecursion (Aimed p f) ls → ((to : ElementId) → to.0 ≡ e → target_of p x f ≡ Some to → ⊥) → parcel_held ls e x ≡ None
aimed_other p f e x [] all other = refl
aimed_other p f e x (Parcel entry to payload ∷ ls) all other =
    skip (to.0 == e) (entry.0 == x) (λ a b. other to (eqb-true to.0 e a) (ap (λ n. target_of p n f) (sym (eqb-true entry.0 x b)) ∙ all.0)) (aimed_other p f e x ls all.1 other)
  where
    skip : (a b : Bool) → (a ≡ true → b ≡ true → ⊥) → parcel_held ls e x ≡ None → cond (a && b) (Some payload) (parcel_held ls e x) ≡ None
    skip true true h rest = absurd (h refl refl)
    skip true false h rest = rest
    skip false b h rest = rest
aimed_other p f e x (Contribution reduction value ∷ ls) all other = aimed_other p f e x ls all.1 other

-- what is sent at an entry is sent to the receiver
pub any_sent : (p : Plan) (e x : ℕ) (t : ElementId) (ls : List Outgoing) → AllByRecursion (Aimed p e) ls → target_of p x e ≡ Some t → 0 < many (entry_port x) ls → AnySent (SentTo p x t) ls
any_sent p e x t [] all is some = absurd (omega arith)
any_sent p e x t (Parcel entry to payload ∷ ls) all is some = by (entry.0 == x) refl (any_sent p e x t ls all.1 is) some
  where
    by : (b : Bool) → (entry.0 == x) ≡ b → (0 < many (entry_port x) ls → AnySent (SentTo p x t) ls) → 0 < cond b 1 0 + many (entry_port x) ls →
        SentTo p x t (Parcel entry to payload) ⊎ AnySent (SentTo p x t) ls
    by true same rest some = inl (eqb-true entry.0 x same, same_Some to t (sym all.0 ∙ ap (λ n. target_of p n e) (eqb-true entry.0 x same) ∙ is))
    by false same rest some = inr (rest (omega (arith, some)))
any_sent p e x t (Contribution reduction value ∷ ls) all is some = inr (any_sent p e x t ls all.1 is (omega (arith, some)))

-- ---- what is added to what was sent

-- a port at which what an element sends arrives
abbrev pub Lands : Plan → ℕ → Port → Type 0
Lands p e (ports.Entry x) = (to : ElementId) × (target_of p x.0 e ≡ Some to)
Lands p e (ports.Total r) = Unit {0}

-- so often to each port, or less where nobody receives
record Adds (p : Plan) (e : ℕ) (count : Port → ℕ) (before after : List Outgoing) : Type 0 where
  more : List Outgoing
  is : after ≡ before ++ more
  aimed : AllByRecursion (Aimed p e) more
  few : (port : Port) → many port more ≤ count port
  all : (port : Port) → Lands p e port → many port more ≡ count port

module _ (p : Plan) (e : ℕ) where
  nothing_added : (l : List Outgoing) → Adds p e (λ port. 0) l l
  nothing_added l = record { more = []; is = sym (append-nil l); aimed = tt; few = λ port. omega arith; all = λ port h. refl }

  both_added : (c d : Port → ℕ) (x y z : List Outgoing) → Adds p e c x y → Adds p e d y z → Adds p e (λ port. c port + d port) x z
  both_added c d x y z a b = record {
    more = a.more ++ b.more;
    is = b.is ∙ ap (λ l. l ++ b.more) a.is ∙ append_assoc x a.more b.more;
    aimed = all_append (Aimed p e) a.more b.more a.aimed b.aimed;
    few = λ port. omega (arith, many_append port a.more b.more, a.few port, b.few port);
    all = λ port h. omega (arith, many_append port a.more b.more, a.all port h, b.all port h);
  }

  parcels_aimed : (entry : EntryId) (to : Option ElementId) (payload : Payload) → target_of p entry.0 e ≡ to → AllByRecursion (Aimed p e) (parcels entry to payload)
  parcels_aimed entry None payload is = tt
  parcels_aimed entry (Some to) payload is = (is, tt)

  parcels_few : (port : Port) (entry : EntryId) (to : Option ElementId) (payload : Payload) → many port (parcels entry to payload) ≤ counted port (Some (ports.Entry entry))
  parcels_few port entry None payload = omega arith
  parcels_few port entry (Some to) payload = omega arith

  parcel_there : (x : EntryId) (to : ElementId) (is : target_of p x.0 e ≡ Some to) (entry : EntryId) (payload : Payload) (b : Bool) → (entry.0 == x.0) ≡ b →
      many (ports.Entry x) (parcels entry (target_of p entry.0 e) payload) ≡ cond b 1 0
  parcel_there x to is entry payload true same =
      ap (λ o. many (ports.Entry x) (parcels entry o payload)) (ap (λ n. target_of p n e) (eqb-true entry.0 x.0 same) ∙ is) ∙ ap {B = ℕ} (λ b. cond b 1 0 + 0) same
  parcel_there x to is entry payload false same =
      omega (arith, parcels_few (ports.Entry x) entry (target_of p entry.0 e) payload, ap {B = ℕ} (λ b. cond b 1 0) same)

  parcels_all : (port : Port) (entry : EntryId) (payload : Payload) → Lands p e port → many port (parcels entry (target_of p entry.0 e) payload) ≡ counted port (Some (ports.Entry entry))
  parcels_all (ports.Entry x) entry payload h = parcel_there x h.0 h.1 entry payload (entry.0 == x.0) refl
  parcels_all (ports.Total r) entry payload h = omega (arith, parcels_few (ports.Total r) entry (target_of p entry.0 e) payload)

  stmt_adds : (s : Stmt) (y : Stmt-F Stmt) (t : Top) → Adds p e (λ port. counted port (fed_by y)) t.sent (top_step p e s y t).sent
  stmt_adds s (Stmt-F.Set at value) t = nothing_added t.sent
  stmt_adds s (Stmt-F.SetAt at count place value) t = nothing_added t.sent
  stmt_adds s (Stmt-F.If test a b) t = nothing_added t.sent
  stmt_adds s (Stmt-F.For slot low high block) t = nothing_added t.sent
  stmt_adds s (Stmt-F.Send entry values) t =
      let payload = payload_of values (filled_of values t.run) in
      record {
        more = parcels entry (target_of p entry.0 e) payload;
        is = refl;
        aimed = parcels_aimed entry (target_of p entry.0 e) payload refl;
        few = λ port. parcels_few port entry (target_of p entry.0 e) payload;
        all = λ port h. parcels_all port entry payload h;
      }
  stmt_adds s (Stmt-F.Contribute reduction value) t = record {
    more = Contribution reduction (computed value t.run).value ∷ [];
    is = refl;
    aimed = (tt, tt);
    few = λ port. omega arith;
    all = λ port h. omega arith;
  }

  block_adds : (block : List Stmt) (t : Top) → Adds p e (λ port. block_sends port block) t.sent (top_acts p e block t).sent
  block_adds [] t = nothing_added t.sent
  block_adds (s ∷ more) t =
      both_added (λ port. counted port (fed_by (out-Stmt s))) (λ port. block_sends port more) t.sent (top_step p e s (out-Stmt s) t).sent (top_acts p e more (top_step p e s (out-Stmt s) t)).sent
      (stmt_adds s (out-Stmt s) t) (block_adds more (top_step p e s (out-Stmt s) t))

  module _ (s k : ℕ) (box : Inbox) where
    part_adds : (part : Part) (f : Effect) → Adds p e (λ port. block_sends port part.block) f.sent (part_runs p e s k box part f).sent
    part_adds part f =
        let a = block_adds part.block (record { run = record { scene = scene_of p e k (given part.need box); cells = f.cells.numbers; slip = 0 }; sent = [] }) in
        record { more = a.more; is = ap (λ l. f.sent ++ l) a.is; aimed = a.aimed; few = a.few; all = a.all }

    parts_add : (parts : List Part) (f : Effect) → Adds p e (λ port. parts_send port parts) f.sent (parts_run p e s k box parts f).sent
    parts_add [] f = nothing_added f.sent
    parts_add (part ∷ more) f =
        both_added (λ port. block_sends port part.block) (λ port. parts_send port more) f.sent (part_runs p e s k box part f).sent (parts_run p e s k box more (part_runs p e s k box part f)).sent
        (part_adds part f) (parts_add more (part_runs p e s k box part f))

  -- ---- what a step reads of the messages: those that its parts need

  given_same : (need : Need) (box box' : Inbox) → ((port : Port) → 0 < takes port need → box port ≡ box' port) → given need box ≡ given need box'
  given_same needs.Nothing box box' h = refl
  given_same (needs.Port port) box box' h = ap (λ o. unwrap_or o nothing) (h port (omega (arith, counted_own port)))

  parts_same : (s k : ℕ) (box box' : Inbox) (parts : List Part) (f : Effect) → ((port : Port) → 0 < parts_take port parts → box port ≡ box' port) →
      parts_run p e s k box parts f ≡ parts_run p e s k box' parts f
  parts_same s k box box' [] f h = refl
  parts_same s k box box' (part ∷ more) f h =
      ap (λ g. parts_run p e s k box more (block_runs p e s k part.block g f)) (given_same part.need box box' (λ port some. h port (omega (arith, some))))
      ∙ parts_same s k box box' more (part_runs p e s k box' part f) (λ port some. h port (omega (arith, some)))

-- ---- a step

-- what one step of one element sends
pub record Told (p : Plan) (e s : ℕ) (sent : List Outgoing) : Type 0 where
  pub aimed : AllByRecursion (Aimed p e) sent
  pub few : (port : Port) → many port sent ≤ parts_send port (parts_at p e s)
  pub all : (port : Port) → Lands p e port → many port sent ≡ parts_send port (parts_at p e s)

pub step_tells : (p : Plan) (s k e : ℕ) (box : Inbox) (cells : Cells) → Told p e s (step_of p s k e box cells).sent
step_tells p s k e box cells =
    let a = parts_add p e s k box (parts_at p e s) (quiet cells) in
    let same : a.more ≡ (step_of p s k e box cells).sent = sym a.is in
    record {
      aimed = subst (AllByRecursion (Aimed p e)) same a.aimed;
      few = λ port. subst (λ l. many port l ≤ parts_send port (parts_at p e s)) same (a.few port);
      all = λ port h. subst (λ l. many port l ≡ parts_send port (parts_at p e s)) same (a.all port h);
    }

pub step_same : (p : Plan) (s k e : ℕ) (box box' : Inbox) (cells : Cells) → ((port : Port) → 0 < parts_take port (parts_at p e s) → box port ≡ box' port) →
    step_of p s k e box cells ≡ step_of p s k e box' cells
step_same p s k e box box' cells h = parts_same p e s k box box' (parts_at p e s) (quiet cells) h
