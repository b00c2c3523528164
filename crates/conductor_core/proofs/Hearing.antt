-- What a letter makes of the conductor, and what it keeps of the nodes.
use Rattle.std.proofs.Common.{◌≡◌, ◌≢◌, ℕ, zero, suc, ◌+◌, ◌<◌, Bool, true, false, cond, List, [], ◌∷◌, length, refl, ap, sym, ◌∙◌, arith, subst, Option, Some, None}
use Rattle.std.specs.Prelude.{◌==◌, ◌&&◌, is_none, map, nat_lt, replicate, slice_index_or, slice_set, IsSome}
use Rattle.std.proofs.lemmas.Bool.{eqb-true, ltb-true}
use Rattle.std.proofs.lemmas.Bool.Decides.{Decides-eqb}
use Rattle.std.proofs.lemmas.List.{get_or-set_same, get_or-set_other, length-append, length-replicate, length-set}
use Rattle.chare_base.specs.declared.options.Options.{Options}
use Rattle.chare_base.specs.declared.plan.Plan.{Plan}
use Rattle.fault_script.specs.declared.fault.Fault.{Fault}
use Rattle.fault_script.specs.Lines.{flips_in}
use Rattle.pup_state.specs.declared.compare.Verdict.{Verdict}
use Rattle.pup_state.specs.declared.piece.Piece.{Piece}
use Rattle.run_ledger.specs.Laws.{FaultsStay, StaysTidy}
use Rattle.letter_post.specs.declared.letter.BoxId.TheVariants as boxes
use Rattle.letter_post.specs.declared.letter.Letter.TheVariants as letters
use Rattle.letter_post.specs.declared.stamp.Stamp.{Stamp}
use Rattle.letter_post.specs.Stamps.{lines_of, same_stamp}
use Rattle.letter_post.specs.Truth.{Holds, node_records, node_verdict}
use Rattle.checkpoint_store.specs.Assembled.{bytes_of, rest_at}
use Rattle.conductor_core.specs.declared.wants.Phase.{Phase}
use Rattle.conductor_core.specs.declared.wants.Phase.TheVariants as phases
use Rattle.conductor_core.specs.Conductors.{ConductorState, conductor_heard, counts, is_at, silent, start_conductor, verdict_heard, with_verdict}
use Rattle.conductor_core.specs.Tells.{AllKept, HearsTell, IsKeptAt, StartsTell, Tells, TellsOn, verdict_at}
use Rattle.conductor_core.specs.Verdicts.{no_pieces}

-- ---- lists

map_length : {A B : Type 0} (f : A → B) (xs : List A) → length (map f xs) ≡ length xs
map_length f [] = refl
map_length f (x ∷ xs) = ap suc (map_length f xs)

map_set : {A B : Type 0} (f : A → B) (xs : List A) (i : ℕ) (x : A) → map f (slice_set xs i x) ≡ slice_set (map f xs) i (f x)
map_set f [] i x = refl
map_set f (y ∷ ys) zero x = refl
map_set f (y ∷ ys) (suc i) x = ap (λ zs. f y ∷ zs) (map_set f ys i x)

pub none_some : {A : Type 0} (o : Option A) → o ≡ None → IsSome o → ⊥
none_some None h some = absurd (let q : false ≡ true = some in cc)
none_some (Some x) h some = absurd cc

forgotten_at : (n j : ℕ) → verdict_at (replicate n None) j ≡ None
forgotten_at zero j = refl
forgotten_at (suc n) zero = refl
forgotten_at (suc n) (suc j) = forgotten_at n j

-- where no verdict is there, all are kept
pub forgotten_kept : (p : Plan) (script : List Fault) (place : List ℕ) (first second : Stamp) (phase : Phase) (n : ℕ) (pieces : List Piece) → AllKept p script place first second phase (replicate n None) pieces
forgotten_kept p script place first second phase n pieces j verdict at = absurd (let q : None ≡ Some verdict = sym (forgotten_at n j) ∙ at in cc)

-- ---- a verdict more

module _ (p : Plan) (script : List Fault) (place : List ℕ) (first second : Stamp) (k : ℕ) where
  kept_more : (all : List (Option Verdict)) (pieces : List Piece) (node : ℕ) (verdict : Verdict) (piece : Piece) → AllKept p script place first second (phases.Agreed k) all pieces → node < length all →
      length all ≡ length pieces → piece.bytes ≡ node_records p place (lines_of script first) k node → verdict ≡ node_verdict p place (lines_of script first) (lines_of script second) k node →
      AllKept p script place first second (phases.Agreed k) (slice_set all node (Some verdict)) (slice_set pieces node piece)
  kept_more all pieces node verdict piece kept there paired bytes is j v at = by (j == node) refl
    where
      by : (b : Bool) → (j == node) ≡ b → IsKeptAt p script place first second k (slice_set pieces node piece) j v
      by true t =
          let same : j ≡ node = eqb-true j node t in
          let inside : node < length (map bytes_of pieces) = omega (arith, there, map_length bytes_of pieces, paired) in
          let held : Some verdict ≡ Some v = sym (get_or-set_same all node (Some verdict) None there) ∙ ap (λ i. slice_index_or (slice_set all node (Some verdict)) i None) (sym same) ∙ at in
          let which : verdict ≡ v = cc in
          record {
            bytes =
                ap (λ bs. rest_at bs j) (map_set bytes_of pieces node piece) ∙ ap (λ i. rest_at (slice_set (map bytes_of pieces) node piece.bytes) i) same
                ∙ get_or-set_same (map bytes_of pieces) node piece.bytes [] inside ∙ bytes ∙ ap (λ i. node_records p place (lines_of script first) k i) (sym same);
            compares = sym which ∙ is ∙ ap (λ i. node_verdict p place (lines_of script first) (lines_of script second) k i) (sym same);
          }
      by false t =
          let apart : j ≢ node = λ same. absurd (let q : true ≡ false = sym ((Decides-eqb j node).1 same) ∙ t in cc) in
          let k : IsKeptAt p script place first second k pieces j v = kept j v (sym (get_or-set_other all node j (Some verdict) None apart) ∙ at) in
          record {
            bytes = ap (λ bs. rest_at bs j) (map_set bytes_of pieces node piece) ∙ get_or-set_other (map bytes_of pieces) node j piece.bytes [] apart ∙ k.bytes;
            compares = k.compares;
          }

-- ---- what makes a verdict count

parts_of : (a b c d e : Bool) → (a && b && c && d && e) ≡ true → (a ≡ true) × (b ≡ true) × (c ≡ true) × (d ≡ true) × (e ≡ true)
parts_of true true true true true h = (refl, refl, refl, refl, refl)
parts_of false b c d e h = absurd cc
parts_of true false c d e h = absurd cc
parts_of true true false d e h = absurd cc
parts_of true true true false e h = absurd cc
parts_of true true true true false h = absurd cc

none_is : {A : Type 0} (o : Option A) → is_none o ≡ true → o ≡ None
none_is None h = refl
none_is (Some x) h = absurd cc

same_lines : (a b : Stamp) → same_stamp a b ≡ true → a.lines.0 ≡ b.lines.0
same_lines a b h = by (a.replica == b.replica) (a.epoch == b.epoch) (a.lines.0 == b.lines.0) h refl
  where
    by : (x y z : Bool) → (x && y && z) ≡ true → (a.lines.0 == b.lines.0) ≡ z → a.lines.0 ≡ b.lines.0
    by true true true h is = eqb-true a.lines.0 b.lines.0 is
    by true true false h is = absurd cc
    by true false z h is = absurd cc
    by false y z h is = absurd cc

agreed_at : (k : ℕ) (phase : Phase) → is_at k phase ≡ true → phase ≡ phases.Agreed k
agreed_at k phases.Quiet h = absurd (let q : false ≡ true = h in cc)
agreed_at k phases.Gather h = absurd (let q : false ≡ true = h in cc)
agreed_at k (phases.Agreed agreed) h = ap (λ n. phases.Agreed n) (sym (eqb-true k agreed h))

module _ (p : Plan) (script : List Fault) (o : Options) (place : List ℕ) where
  pub stays_so : (c : ConductorState) → Tells p script o place c → TellsOn p script o place c (silent c)
  stays_so c tells = record { tells = tells; says = tt; follows = record { first = λ j h. refl; second = λ j h. refl } }

  verdict_tells : (first second : Stamp) (node k : ℕ) (verdict : Verdict) (piece : Piece) (c : ConductorState) → Tells p script o place c → Holds p script place boxes.Conductor (letters.VerdictOf first second node k verdict piece) →
      TellsOn p script o place c (silent (verdict_heard first second node k verdict piece c))
  verdict_tells first second node k verdict piece c tells holds = by (counts first second node k c) refl
    where
      by : (b : Bool) → counts first second node k c ≡ b → TellsOn p script o place c (silent (cond {A = ConductorState} b (with_verdict node verdict piece c) c))
      by false h = stays_so c tells
      by true h =
          let t = parts_of (is_none c.outcome) (same_stamp first c.first) (same_stamp second c.second) (is_at k c.phase) (nat_lt node (length c.verdicts)) h in
          let at : c.phase ≡ phases.Agreed k = agreed_at k c.phase t.3 in
          let l1 : lines_of script first ≡ lines_of script c.first = ap (flips_in script) (same_lines first c.first t.1) in
          let l2 : lines_of script second ≡ lines_of script c.second = ap (flips_in script) (same_lines second c.second t.2) in
          let bytes : piece.bytes ≡ node_records p place (lines_of script c.first) k node =
          holds.0.bytes ∙ ap (λ i. node_records p place (lines_of script first) i piece.node) holds.2 ∙ ap (λ j. node_records p place (lines_of script first) k j) holds.1
          ∙ ap (λ lines. node_records p place lines k node) l1 in
          let is : verdict ≡ node_verdict p place (lines_of script c.first) (lines_of script c.second) k node =
          holds.3 ∙ ap (λ lines. node_verdict p place lines (lines_of script second) k node) l1 ∙ ap (λ lines. node_verdict p place (lines_of script c.first) lines k node) l2 in
          let P : Phase → Type 0 = λ phase. AllKept p script place c.first c.second phase c.verdicts c.pieces in
          let Q : Phase → Type 0 = λ phase. AllKept p script place c.first c.second phase (slice_set c.verdicts node (Some verdict)) (slice_set c.pieces node piece) in
          let kept : AllKept p script place c.first c.second c.phase (slice_set c.verdicts node (Some verdict)) (slice_set c.pieces node piece) =
          subst Q (sym at)
          (kept_more p script place c.first c.second k c.verdicts c.pieces node verdict piece (subst P at tells.kept) (ltb-true node (length c.verdicts) t.4) (tells.sized.verdicts ∙ sym tells.sized.pieces) bytes is) in
          record {
            tells = record {
              sized = record {
                options = tells.sized.options;
                noted = tells.sized.noted;
                sights = tells.sized.sights;
                verdicts = length-set c.verdicts node (Some verdict) ∙ tells.sized.verdicts;
                pieces = length-set c.pieces node piece ∙ tells.sized.pieces;
              };
              recorded = tells.recorded;
              stamped = tells.stamped;
              kept = kept;
              looks = tells.looks;
              going = tells.going;
              ended = λ some. absurd (none_some c.outcome (none_is c.outcome t.0) some);
            };
            says = tt;
            follows = record { first = λ j h. refl; second = λ j h. refl };
          }

pub hears_tell : HearsTell
unfolding conductor_heard
hears_tell p script o place (letters.VerdictOf first second node k verdict piece) c tells holds = verdict_tells p script o place first second node k verdict piece c tells holds
hears_tell p script o place (letters.Parcel stamp entry k to payload) c tells holds = stays_so p script o place c tells
hears_tell p script o place (letters.Partial stamp r k node value) c tells holds = stays_so p script o place c tells
hears_tell p script o place (letters.Total stamp r k value) c tells holds = stays_so p script o place c tells
hears_tell p script o place (letters.Piece stamp piece) c tells holds = stays_so p script o place c tells
hears_tell p script o place (letters.Lend k fresh) c tells holds = stays_so p script o place c tells
hears_tell p script o place (letters.Take stamp k live piece) c tells holds = stays_so p script o place c tells
hears_tell p script o place (letters.Restore stamp k live) c tells holds = stays_so p script o place c tells
hears_tell p script o place (letters.Commit stamp k live) c tells holds = stays_so p script o place c tells
hears_tell p script o place (letters.Resume stamp) c tells holds = stays_so p script o place c tells
hears_tell p script o place (letters.Died stamp slot line) c tells holds = stays_so p script o place c tells
hears_tell p script o place letters.Stop c tells holds = stays_so p script o place c tells

-- ---- the start

pieces_count : (n : ℕ) → length (no_pieces n) ≡ n
pieces_count zero = refl
pieces_count (suc n) = length-append (no_pieces n) (record { node = n; iteration = 0; bytes = [] } ∷ []) ∙ omega (arith, pieces_count n)

pub starts_tell : StaysTidy → FaultsStay → StartsTell
unfolding start_conductor
starts_tell tidies faults p script o place = record {
  sized = record {
    options = refl;
    noted = length-replicate (o.nodes + o.nodes) false;
    sights = length-replicate (o.nodes + o.nodes) None;
    verdicts = length-replicate o.nodes None;
    pieces = pieces_count o.nodes;
  };
  recorded = record { steps = tt; made = refl; job = refl; faults = faults.opening script o p.iterations; tidy = tidies.opening script o p.iterations; marked = refl };
  stamped = record { one = refl; other = refl; one_lines = refl; other_lines = refl };
  kept = forgotten_kept p script place (start_conductor script o p.iterations).first (start_conductor script o p.iterations).second phases.Quiet o.nodes (no_pieces o.nodes);
  looks = λ some. (omega arith, omega (arith, some));
  going = λ _ last. tt;
  ended = λ some. absurd (let q : false ≡ true = some in cc);
}
