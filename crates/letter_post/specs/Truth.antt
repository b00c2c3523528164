-- Which letters are true.
use Rattle.std.specs.Prelude.{◌≡◌, ℕ, ◌<◌, ◌≤◌, ◌==◌, ℤ, if◌then◌else◌, List, [], ◌∷◌, ◌++◌, Some, None}
use Rattle.chare_base.specs.declared.message.Port.TheVariants as ports
use Rattle.chare_base.specs.declared.plan.Plan.{Plan}
use Rattle.chare_base.specs.declared.plan.Reduction.{Reduction}
use Rattle.chare_base.specs.Elements.{elements, place_of}
use Rattle.chare_base.specs.Entries.{reduction_of}
use Rattle.chare_base.specs.Flip.{Flip}
use Rattle.chare_base.specs.Placing.{members}
use Rattle.chare_base.specs.Total.{joined_to}
use Rattle.chare_eval.specs.Fold.{fold}
use Rattle.chare_eval.specs.Inside.{message_to}
use Rattle.chare_eval.specs.Laws.{contribution_of, contributions_from, first_member, some_number}
use Rattle.chare_eval.specs.Stage as stages
use Rattle.fault_script.specs.declared.fault.Fault.{Fault}
use Rattle.pup_state.specs.declared.compare.Verdict.{Verdict}
use Rattle.pup_state.specs.declared.piece.Piece.{Piece}
use Rattle.pup_state.specs.Spelling.{records_of}
use Rattle.buddy_compare.specs.Comparing.{verdict_of}
use Rattle.letter_post.specs.declared.letter.BoxId.{BoxId}
use Rattle.letter_post.specs.declared.letter.BoxId.TheVariants as boxes
use Rattle.letter_post.specs.declared.letter.Letter.{Letter}
use Rattle.letter_post.specs.declared.letter.Letter.TheVariants as letters
use Rattle.letter_post.specs.declared.letter.Sent.{Sent}
use Rattle.letter_post.specs.Stamps.{lines_of}

-- ---- pieces

-- the records of a node's elements after k iterations
abbrev pub node_records : Plan → List ℕ → List Flip → ℕ → ℕ → List ℕ
node_records p place lines k j = records_of p k (fold p lines k) (members place j)

-- a piece is the definition's, of an iteration that the job has
pub record IsPiece (p : Plan) (place : List ℕ) (lines : List Flip) (piece : Piece) : Type 0 where
  pub bytes : piece.bytes ≡ node_records p place lines piece.iteration piece.node
  pub within : piece.iteration ≤ p.iterations

-- how the pieces of a node's elements compare, under two lists of flips
abbrev pub node_verdict : Plan → List ℕ → List Flip → List Flip → ℕ → ℕ → Verdict
node_verdict p place first second k j = verdict_of p (node_records p place first k j) (node_records p place second k j)

-- ---- reductions

-- what some elements contribute to a reduction in an iteration, in this order
abbrev pub contributions_of : Plan → List Flip → ℕ → ℕ → List ℕ → List ℤ
contributions_of p lines k r [] = []
contributions_of p lines k r (e ∷ more) = some_number (contribution_of p lines k r e) ++ contributions_of p lines k r more

-- those of these elements that belong to an array
abbrev pub in_array : Plan → ℕ → List ℕ → List ℕ
in_array p array [] = []
in_array p array (e ∷ more) = if (place_of p e).array == array then e ∷ in_array p array more else in_array p array more

-- the elements of a reduction's array on a node
abbrev pub node_members : Plan → List ℕ → Reduction → ℕ → List ℕ
node_members p place x j = in_array p x.owner (members place j)

-- what all of a node's elements contributed makes this value
pub record IsPartial (p : Plan) (place : List ℕ) (lines : List Flip) (r k j : ℕ) (value : ℤ) : Type 0 where
  pub reduction : Reduction
  pub there : reduction_of p r ≡ Some reduction
  pub total : joined_to reduction.how None (contributions_of p lines k r (node_members p place reduction j)) ≡ Some value

-- what all elements of the array contributed makes this value
pub record IsTotal (p : Plan) (lines : List Flip) (r k : ℕ) (value : ℤ) : Type 0 where
  pub reduction : Reduction
  pub there : reduction_of p r ≡ Some reduction
  pub total : joined_to reduction.how None (contributions_from p lines k r (first_member p r) (stages.members p r)) ≡ Some value

-- ---- letters

-- a copy for the conductor is of any node, a piece for a slot of its own
abbrev pub IsOwn : BoxId → Piece → Type 0
IsOwn (boxes.Slot slot) piece = piece.node ≡ slot.node
IsOwn boxes.Conductor piece = Unit {0}

-- a letter to a box is true of a plan, a script and a placement
abbrev pub Holds : Plan → List Fault → List ℕ → BoxId → Letter → Type 0
Holds p script place box (letters.Parcel stamp entry k to payload) = (to.0 < elements p) × (message_to p (lines_of script stamp) k (ports.Entry entry) to.0 ≡ Some payload)
Holds p script place box (letters.Partial stamp reduction k node value) = IsPartial p place (lines_of script stamp) reduction.0 k node value
Holds p script place box (letters.Total stamp reduction k value) = IsTotal p (lines_of script stamp) reduction.0 k value
Holds p script place box (letters.Piece stamp piece) = IsPiece p place (lines_of script stamp) piece × IsOwn box piece
Holds p script place box (letters.VerdictOf first second node k verdict piece) =
    IsPiece p place (lines_of script first) piece × (piece.node ≡ node) × (piece.iteration ≡ k) × (verdict ≡ node_verdict p place (lines_of script first) (lines_of script second) k node)
Holds p script place box (letters.Lend k fresh) = Unit {0}
Holds p script place box (letters.Take stamp k live piece) = IsPiece p place (lines_of script stamp) piece × IsOwn box piece × (piece.iteration ≡ k)
Holds p script place box (letters.Restore stamp k live) = Unit {0}
Holds p script place box (letters.Commit stamp k live) = Unit {0}
Holds p script place box (letters.Resume stamp) = Unit {0}
Holds p script place box (letters.Died stamp slot line) = Unit {0}
Holds p script place box letters.Stop = Unit {0}

-- what is sent is true
abbrev pub Says : Plan → List Fault → List ℕ → Sent → Type 0
Says p script place sent = Holds p script place sent.to sent.letter
