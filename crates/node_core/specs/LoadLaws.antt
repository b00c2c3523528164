-- What is loaded, and what is loaded again.
use Rattle.std.specs.Prelude.{◌≡◌, ℕ, ◌<◌, ◌^◌, List, map, Some}
use Rattle.std.specs.List.{AllByRecursion}
use Rattle.chare_base.specs.declared.plan.Plan.{Plan}
use Rattle.chare_base.specs.Elements.{elements}
use Rattle.object_steps.specs.Objects.{Progress, started}
use Rattle.pup_state.specs.Packs.{Lawful}
use Rattle.node_core.specs.Keeps.{element_of}
use Rattle.node_core.specs.Loads.{loaded}
use Rattle.node_core.specs.Nodes.{objects_records}

-- an element's object after k iterations, in a state that a job can have then
pub record Between (p : Plan) (k : ℕ) (o : Progress) : Type 0 where
  pub there : o.element.0 < elements p
  pub is : o ≡ started p o.element.0 o.cells k
  pub lawful : Lawful p o.element.0 k o.cells

-- what is loaded from bytes: the bytes are the records of the objects, which are these elements'
pub record Tells (p : Plan) (es : List ℕ) (k : ℕ) (bytes : List ℕ) (objects : List Progress) : Type 0 where
  pub elements : map element_of objects ≡ es
  pub records : bytes ≡ objects_records p k objects
  pub between : AllByRecursion (Between p k) objects

abbrev pub LoadsTell : Type 0
LoadsTell = (p : Plan) (es : List ℕ) (k : ℕ) (bytes : List ℕ) (objects : List Progress) → AllByRecursion (λ b. b < 2 ^ 8) bytes → AllByRecursion (λ e. e < elements p) es →
    loaded p es k bytes ≡ Some objects → Tells p es k bytes objects

-- the records of objects between two iterations are loaded as these objects
abbrev pub RecordsLoad : Type 0
RecordsLoad = (p : Plan) (k : ℕ) (objects : List Progress) → AllByRecursion (Between p k) objects → loaded p (map element_of objects) k (objects_records p k objects) ≡ Some objects
