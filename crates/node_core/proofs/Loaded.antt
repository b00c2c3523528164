-- The turns of the loops that load a piece.
use Rattle.std.proofs.Common.{◌≡◌, ℕ, zero, suc, ◌*◌, ◌<◌, ◌≤◌, Bool, true, false, cond, List, [], ◌∷◌, ◌++◌, length, drop, get_or, refl, ap, sym, ◌∙◌, subst, arith, append_assoc, length-append, length-drop, Option, Some, None}
use Rattle.std.specs.Prelude.{◌==◌, ◌&&◌, MatchOption, ⊤, is_none, slice_get}
use Rattle.std.specs.List.{AllByRecursion}
use Rattle.std.proofs.lemmas.Bool.{eqb-true}
use Rattle.chare_base.specs.declared.cells.Cells.{Cells}
use Rattle.chare_base.specs.declared.plan.Plan.{Plan}
use Rattle.chare_base.specs.Elements.{elements}
use Rattle.chare_base.specs.Placing.{members, members_from}
use Rattle.chare_base.proofs.Facts.{elements_few}
use Rattle.object_steps.specs.Objects.{Fits, Progress, started}
use Rattle.pup_state.specs.Faults.{done_in, record_fault}
use Rattle.pup_state.specs.Packs.{IsRecord}
use Rattle.pup_state.specs.Reading.{cells_in}
use Rattle.pup_state.specs.Spelling.{record_spelling, size_of}
use Rattle.pup_state.proofs.Lengths.{record_length}
use Rattle.pup_state.proofs.Records.{Again, again, cells_are_few}
use Rattle.node_core.specs.Loads.{in_front, loaded, object_in}
use Rattle.node_core.proofs.Loads.{both_some}
use Rattle.node_core.proofs.Seats.{from_here}

-- ---- one record

module _ (p : Plan) (e d n : ℕ) (c : Cells) (bytes : List ℕ) (is : IsRecord p e bytes 0 d c n) where
  whole : bytes ≡ record_spelling p e d c ++ drop n bytes
  whole = is.spelled

  pub record_is : (k : ℕ) (o : Option Progress) → e < elements p → o ≡ cond (d == k) (Some (started p e c k)) None → o ≡ object_in p e k bytes
  record_is k o there h =
      let r : Again p e None 0 d c (drop n bytes) = again p e None 0 d c (drop n bytes) there is.lawful refl in
      h ∙ sym (
      ap (λ f. cond (is_none f && done_in bytes == k) (Some (started p e (cells_in p e bytes) k)) None) (ap (record_fault p e None 0) whole ∙ r.fine)
      ∙ ap (λ x. cond (x == k) (Some (started p e (cells_in p e bytes) k)) None) (ap done_in whole ∙ r.done)
      ∙ ap (λ y. cond (d == k) (Some (started p e y k)) None) (ap (cells_in p e) whole ∙ r.state)
      )

  pub record_within : (o : Option Progress) → MatchOption o ⊤ (λ x. size_of p e ≤ length bytes)
  record_within None = tt
  record_within (Some o) = omega (arith, ap length whole, length-append (record_spelling p e d c) (drop n bytes), record_length p e d c, is.lawful.count)

-- ---- the loop over elements

-- these objects before others, if there are any
abbrev pub before : List Progress → Option (List Progress) → Option (List Progress)
before front None = None
before front (Some more) = Some (front ++ more)

next_drop : (es : List ℕ) (i : ℕ) → i < length es → drop i es ≡ get_or es i 0 ∷ drop (suc i) es
next_drop [] i h = absurd (omega (arith, h))
next_drop (x ∷ es) zero h = refl
next_drop (x ∷ es) (suc i) h = next_drop es i (omega (arith, h))

one_more : (front : List Progress) (o : Progress) (more : Option (List Progress)) → before (front ++ o ∷ []) more ≡ before front (in_front (Some o) more)
one_more front o None = refl
one_more front o (Some more) = ap Some (append_assoc front (o ∷ []) more)

pub load_next : (p : Plan) (es : List ℕ) (i next m k : ℕ) (rest rest' : List ℕ) (all all' : List Progress) (o : Progress) (is : Option (List Progress)) → next ≡ suc i → i < length es → m ≡ get_or es i 0 →
    Some o ≡ object_in p m k rest → all' ≡ all ++ o ∷ [] → rest' ≡ drop (size_of p m) rest →
    before all (loaded p (drop i es) k rest) ≡ is → before all' (loaded p (drop next es) k rest') ≡ is
unfolding loaded
load_next p es i next m k rest rest' all all' o is n h here found made left told =
    ap (λ xs. before xs (loaded p (drop next es) k rest')) made
    ∙ one_more all o (loaded p (drop next es) k rest')
    ∙ ap (λ a. before all (in_front a (loaded p (drop next es) k rest'))) found
    ∙ ap (λ xs. before all (in_front (object_in p m k rest) (loaded p (drop next es) k xs))) left
    ∙ ap (λ j. before all (in_front (object_in p m k rest) (loaded p (drop j es) k (drop (size_of p m) rest)))) n
    ∙ ap (λ x. before all (loaded p (x ∷ drop (suc i) es) k rest)) here
    ∙ ap (λ xs. before all (loaded p xs k rest)) (sym (next_drop es i h))
    ∙ told

pub fits_more : (p : Plan) (all all' : List Progress) (o : Progress) → all' ≡ all ++ o ∷ [] → AllByRecursion (Fits p) all → Fits p o → AllByRecursion (Fits p) all'
fits_more p all all' o made fits one = subst (λ xs. AllByRecursion (Fits p) xs) (sym made) (behind all fits)
  where
    behind : (xs : List Progress) → AllByRecursion (Fits p) xs → AllByRecursion (Fits p) (xs ++ o ∷ [])
    behind [] h = (one, tt)
    behind (x ∷ xs) h = (h.0, behind xs h.1)

-- ---- a piece that is too long

sizes : (p : Plan) (es : List ℕ) (k : ℕ) (bytes : List ℕ) (objects : List Progress) → loaded p es k bytes ≡ Some objects → length bytes ≤ 32796 * length es
unfolding loaded
sizes p [] k bytes objects is = by (length bytes == 0) refl is
  where
    by : (b : Bool) → (length bytes == 0) ≡ b → cond b (Some []) None ≡ Some objects → length bytes ≤ 32796 * 0
    by true t h = omega (arith, eqb-true (length bytes) 0 t)
    by false t h = absurd (let q : None ≡ Some objects = h in cc)
sizes p (e ∷ more) k bytes objects is =
    let rest : List ℕ = drop (size_of p e) bytes in
    let h = both_some (object_in p e k bytes) (loaded p more k rest) objects is in
    omega (arith, length-drop (size_of p e) bytes, cells_are_few p e, sizes p more k rest h.1 h.3)

few_members : (e : ℕ) (place : List ℕ) (j : ℕ) → length (members_from e place j) ≤ length place
few_members e [] j = omega arith
few_members e (node ∷ more) j = by (node == j) (few_members (suc e) more j)
  where
    by : (b : Bool) → length (members_from (suc e) more j) ≤ length more → length (cond b (e ∷ members_from (suc e) more j) (members_from (suc e) more j)) ≤ length (node ∷ more)
    by true h = omega (arith, h)
    by false h = omega (arith, h)

pub none_loaded : (p : Plan) (place : List ℕ) (j k : ℕ) (bytes : List ℕ) → length place ≡ elements p → 4294967295 ≤ length bytes → loaded p (members place j) k bytes ≡ None
none_loaded p place j k bytes count long = by (loaded p (members place j) k bytes) refl
  where
    by : (o : Option (List Progress)) → loaded p (members place j) k bytes ≡ o → o ≡ None
    by None is = refl
    by (Some objects) is =
        absurd (omega (arith, sizes p (members place j) k bytes objects is, few_members 0 place j, count, elements_few p, long))

-- ---- the elements of a node

pub members_next : (place : List ℕ) (e next node j : ℕ) (is_here : Bool) (all all' : List ℕ) → next ≡ suc e → slice_get place e ≡ Some node → is_here ≡ (node == j) →
    all' ≡ all ++ cond is_here (e ∷ []) [] → all ++ members_from e (drop e place) j ≡ members place j → all' ++ members_from next (drop next place) j ≡ members place j
members_next place e next node j is_here all all' n is test made told =
    ap (λ l. l ++ members_from next (drop next place) j) made ∙ append_assoc all (cond is_here (e ∷ []) []) (members_from next (drop next place) j)
    ∙ ap (λ m. all ++ (cond is_here (e ∷ []) [] ++ members_from m (drop m place) j)) n ∙ ap (λ b. all ++ (cond b (e ∷ []) [] ++ members_from (suc e) (drop (suc e) place) j)) test
    ∙ ap (λ l. all ++ l) (sym (ap (λ l. members_from e l j) (from_here place e node is) ∙ by (node == j))) ∙ told
  where
    by : (b : Bool) → cond b (e ∷ members_from (suc e) (drop (suc e) place) j) (members_from (suc e) (drop (suc e) place) j) ≡ cond b (e ∷ []) [] ++ members_from (suc e) (drop (suc e) place) j
    by true = refl
    by false = refl
