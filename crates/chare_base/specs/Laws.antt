-- Laws of a plan.
use Rattle.std.specs.Prelude.{◌≡◌, ℕ, ◌<◌, true, false, IsTrue, length, Some}
use Rattle.std.specs.List.{AllByRecursion}
use Rattle.chare_base.specs.declared.message.EntryId.{EntryId}
use Rattle.chare_base.specs.declared.message.ReductionId.{ReductionId}
use Rattle.chare_base.specs.declared.message.Need.TheVariants as needs
use Rattle.chare_base.specs.declared.message.Port.TheVariants as ports
use Rattle.chare_base.specs.declared.message.Source.TheVariants as sources
use Rattle.chare_base.specs.declared.plan.ElementId.{ElementId}
use Rattle.chare_base.specs.declared.plan.Entry.{Entry}
use Rattle.chare_base.specs.declared.plan.Plan.{Plan}
use Rattle.chare_base.specs.declared.plan.Reduction.{Reduction}
use Rattle.chare_base.specs.declared.plan.Stmt.{Stmt, out-Stmt}
use Rattle.chare_base.specs.declared.plan.Stmt.TheOpen.{Stmt-F}
use Rattle.chare_base.specs.Elements.{elements, place_of, cells_of, steps_of, parts_at, need_at, block_at}
use Rattle.chare_base.specs.Entries.{entry_of, reduction_of, id_of, source_of, target_of}
use Rattle.chare_base.specs.Uses.{one, uses, writes}
use Rattle.chare_base.specs.Ports.{parts_send, parts_take, sending_step, taking_step, sends_directly}

-- ---- sources and targets

-- an element of the entry's owner, whose source is the element e
pub record Receives (p : Plan) (x e : ℕ) (entry : Entry) (t : ElementId) : Type 0 where
  pub element : t.0 < elements p
  pub array : (place_of p t.0).array ≡ entry.owner
  pub back : source_of p x t.0 ≡ sources.Element (id_of e)

-- an element of the entry's source, whose target is the element t
pub record Sends (p : Plan) (x t : ℕ) (entry : Entry) (e : ElementId) : Type 0 where
  pub element : e.0 < elements p
  pub array : (place_of p e.0).array ≡ entry.source
  pub back : target_of p x e.0 ≡ Some (id_of t)

-- `source_of` and `target_of` undo each other.
pub record SourcesAndTargets : Type 0 where
  pub to : (p : Plan) (x e : ℕ) (entry : Entry) (t : ElementId) → entry_of p x ≡ Some entry → e < elements p → (place_of p e).array ≡ entry.source →
      target_of p x e ≡ Some t → Receives p x e entry t
  pub from : (p : Plan) (x t : ℕ) (entry : Entry) (e : ElementId) → entry_of p x ≡ Some entry → t < elements p → (place_of p t).array ≡ entry.owner →
      source_of p x t ≡ sources.Element e → Sends p x t entry e

-- ---- what an element's steps need

-- a part of step s of element e needs the message of an entry that an element sends it
pub record NeedsMessage (p : Plan) (x : EntryId) (e s : ℕ) (sender : ElementId) : Type 0 where
  pub entry : Entry
  pub is : entry_of p x.0 ≡ Some entry
  pub owner : (place_of p e).array ≡ entry.owner
  pub takes : taking_step (ports.Entry x) (steps_of p e) ≡ Some s
  pub taken : parts_take (ports.Entry x) (parts_at p e s) ≡ 1
  pub element : sender.0 < elements p
  pub source : (place_of p sender.0).array ≡ entry.source
  pub target : target_of p x.0 sender.0 ≡ Some (id_of e)
  pub step : ℕ
  pub sends : sending_step (ports.Entry x) (steps_of p sender.0) ≡ Some step
  pub once : parts_send (ports.Entry x) (parts_at p sender.0 step) ≡ 1
  pub earlier : step < s

-- an element contributes to a reduction in a step, once
pub record Contributes (p : Plan) (r : ReductionId) (step f : ℕ) : Type 0 where
  pub sends : sending_step (ports.Total r) (steps_of p f) ≡ Some step
  pub once : parts_send (ports.Total r) (parts_at p f step) ≡ 1

-- a part of step s of element e needs the total of a reduction, to which each element of its array contributes
pub record NeedsTotal (p : Plan) (r : ReductionId) (e s : ℕ) : Type 0 where
  pub reduction : Reduction
  pub is : reduction_of p r.0 ≡ Some reduction
  pub owner : (place_of p e).array ≡ reduction.owner
  pub takes : taking_step (ports.Total r) (steps_of p e) ≡ Some s
  pub taken : parts_take (ports.Total r) (parts_at p e s) ≡ 1
  pub step : ℕ
  pub each : (f : ℕ) → (place_of p f).array ≡ reduction.owner → Contributes p r step f
  pub earlier : step < s

-- what an element's step needs is sent in an earlier step
pub record Waits : Type 0 where
  pub message : (p : Plan) (e s q : ℕ) (x : EntryId) (sender : ElementId) → e < elements p → need_at p e s q ≡ needs.Port (ports.Entry x) →
      source_of p x.0 e ≡ sources.Element sender → NeedsMessage p x e s sender
  pub total : (p : Plan) (e s q : ℕ) (r : ReductionId) → need_at p e s q ≡ needs.Port (ports.Total r) → NeedsTotal p r e s

-- so the first step of an element needs nothing
abbrev pub FirstStepIsFree : Type 0
FirstStepIsFree = (p : Plan) (e q : ℕ) → need_at p e 0 q ≡ needs.Nothing

-- ---- what an element's steps send

-- an entry that elements of an array send, with count values
pub record SendsTo (p : Plan) (array x count : ℕ) : Type 0 where
  pub entry : Entry
  pub is : entry_of p x ≡ Some entry
  pub source : entry.source ≡ array
  pub values : count ≡ entry.values

-- a reduction that elements of an array contribute to
pub record ContributesTo (p : Plan) (array r : ℕ) : Type 0 where
  pub reduction : Reduction
  pub is : reduction_of p r ≡ Some reduction
  pub owner : reduction.owner ≡ array

-- what a statement itself sends
abbrev pub Sent : {A : Type 0} → Plan → ℕ → Stmt-F A → Type 0
Sent p array (Stmt-F.Set cell value) = Unit {0}
Sent p array (Stmt-F.SetAt at cells place value) = Unit {0}
Sent p array (Stmt-F.If test a b) = Unit {0}
Sent p array (Stmt-F.For slot low high block) = Unit {0}
Sent p array (Stmt-F.Send x values) = SendsTo p array x.0 (length values)
Sent p array (Stmt-F.Contribute r value) = ContributesTo p array r.0

-- a statement sends what its array's elements send, and nothing within an if or a loop
pub record SendsDeclared (p : Plan) (array : ℕ) (stmt : Stmt) : Type 0 where
  pub sends : Sent p array (out-Stmt stmt)
  pub directly : IsTrue (sends_directly stmt)

abbrev pub SendsAreDeclared : Type 0
SendsAreDeclared = (p : Plan) (e s q : ℕ) → AllByRecursion (SendsDeclared p (place_of p e).array) (block_at p e s q)

-- ---- the cells of a step's parts

-- no part of a step uses a cell that another one writes
abbrev pub PartsAreApart : Type 0
PartsAreApart = (p : Plan) (e s i j k : ℕ) → (i ≡ j → ⊥) → uses (block_at p e s i) (one k) ≡ true → writes (block_at p e s j) (one k) ≡ false

-- each cell that a part uses is one of the element's
abbrev pub UsesAreWithin : Type 0
UsesAreWithin = (p : Plan) (e s q k : ℕ) → uses (block_at p e s q) (one k) ≡ true → k < cells_of p e
