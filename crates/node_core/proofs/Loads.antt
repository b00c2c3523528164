-- Objects back from records.
use Rattle.std.proofs.Common.{◌≡◌, ℕ, ◌^◌, ◌<◌, Bool, true, false, cond, List, [], ◌∷◌, ◌++◌, length, map, drop, refl, ap, sym, ◌∙◌, subst, arith, Option, Some, None}
use Rattle.std.specs.Prelude.{◌==◌, ◌&&◌, is_none}
use Rattle.std.specs.List.{AllByRecursion}
use Rattle.std.proofs.lemmas.Bool.{eqb-true, eq-eqb}
use Rattle.std.proofs.lemmas.Option.{same_Some}
use Rattle.chare_base.specs.declared.cells.Cells.{Cells}
use Rattle.chare_base.specs.declared.plan.Plan.{Plan}
use Rattle.chare_base.specs.Elements.{elements}
use Rattle.chare_base.specs.Placing.{members}
use Rattle.chare_eval.specs.Fold.{fold}
use Rattle.chare_eval.specs.Opening.{no_slip}
use Rattle.chare_eval.specs.Stage.{state_at}
use Rattle.object_steps.specs.Objects.{Progress, started}
use Rattle.pup_state.specs.declared.fault.PupFault.{PupFault}
use Rattle.pup_state.specs.Faults.{done_in, record_fault}
use Rattle.pup_state.specs.Packs.{Lawful, LawfulState}
use Rattle.pup_state.specs.Reading.{cells_in}
use Rattle.pup_state.specs.Spelling.{record_spelling, records_of, size_of}
use Rattle.pup_state.proofs.Fields.{AreBytes, bytes_behind}
use Rattle.pup_state.proofs.Records.{Again, Read, again, read_of}
use Rattle.run_ledger.specs.Checkpoints.{FoldsAreLawful}
use Rattle.node_core.specs.Keeps.{element_of}
use Rattle.node_core.specs.LoadLaws.{Between, LoadsTell, RecordsLoad, Tells}
use Rattle.node_core.specs.Loads.{LoadsBack, in_front, loaded, object_in, opened}
use Rattle.node_core.specs.Nodes.{objects_records}
use Rattle.node_core.proofs.Starting.{members_within}

-- ---- one object

-- where the tests are met
found_of : (p : Plan) (e k : ℕ) (bytes : List ℕ) → record_fault p e None 0 bytes ≡ None → done_in bytes ≡ k → object_in p e k bytes ≡ Some (started p e (cells_in p e bytes) k)
found_of p e k bytes fine done =
    ap (λ o. cond (is_none o && done_in bytes == k) (Some (started p e (cells_in p e bytes) k)) None) fine
    ∙ ap (λ b. cond b (Some (started p e (cells_in p e bytes) k)) None) (eq-eqb (done_in bytes) k done)

none_of : (p : Plan) (e k : ℕ) (bytes : List ℕ) (fault : PupFault) → record_fault p e None 0 bytes ≡ Some fault → object_in p e k bytes ≡ None
none_of p e k bytes fault wrong = ap (λ o. cond (is_none o && done_in bytes == k) (Some (started p e (cells_in p e bytes) k)) None) wrong

-- what its object tells of bytes
record Front (p : Plan) (e k : ℕ) (bytes : List ℕ) (o : Progress) : Type 0 where
  element : o.element.0 ≡ e
  is : o ≡ started p e o.cells k
  lawful : Lawful p e k o.cells
  spelled : bytes ≡ record_spelling p e k o.cells ++ drop (size_of p e) bytes

front_of : (p : Plan) (e k : ℕ) (bytes : List ℕ) (o : Progress) → AreBytes bytes → object_in p e k bytes ≡ Some o → Front p e k bytes o
front_of p e k bytes o are is = by (record_fault p e None 0 bytes) refl (done_in bytes == k) refl is
  where
    from : record_fault p e None 0 bytes ≡ None → done_in bytes ≡ k → started p e (cells_in p e bytes) k ≡ o → Front p e k bytes o
    from fine done same =
        let r : Read p e None bytes = read_of p e None 0 bytes are fine in
        let state : cells_in p e bytes ≡ o.cells = ap (λ (x : Progress). x.cells) same in
        record {
          element = sym (ap (λ (x : Progress). x.element.0) same);
          is = sym same ∙ ap (λ c. started p e c k) state;
          lawful = subst (λ c. Lawful p e k c) state (subst (λ d. Lawful p e d (cells_in p e bytes)) done r.lawful);
          spelled =
              sym r.spelled ∙ ap (λ d. record_spelling p e d (cells_in p e bytes) ++ drop (size_of p e) bytes) done
              ∙ ap (λ c. record_spelling p e k c ++ drop (size_of p e) bytes) state;
        }

    by : (f : Option PupFault) → record_fault p e None 0 bytes ≡ f → (b : Bool) → (done_in bytes == k) ≡ b →
        cond (is_none f && b) (Some (started p e (cells_in p e bytes) k)) None ≡ Some o → Front p e k bytes o
    by None fine true done h = from fine (eqb-true (done_in bytes) k done) (same_Some (started p e (cells_in p e bytes) k) o h)
    by None fine false done h = absurd (let q : None ≡ Some o = h in cc)
    by (Some fault) fine b done h = absurd (let q : None ≡ Some o = h in cc)

-- ---- all of them

pub both_some : (a : Option Progress) (b : Option (List Progress)) (objects : List Progress) → in_front a b ≡ Some objects →
    (o : Progress) × (more : List Progress) × (a ≡ Some o) × (b ≡ Some more) × (objects ≡ o ∷ more)
both_some (Some o) (Some more) objects h = (o, more, refl, refl, sym (same_Some (o ∷ more) objects h))
both_some (Some o) None objects h = absurd (let q : None ≡ Some objects = h in cc)
both_some None b objects h = absurd (let q : None ≡ Some objects = h in cc)

nothing : (xs : List ℕ) (objects : List Progress) → cond (length xs == 0) (Some []) None ≡ Some objects → (xs ≡ []) × (objects ≡ [])
nothing xs objects h = by (length xs == 0) refl h
  where
    empty : (ys : List ℕ) → length ys ≡ 0 → ys ≡ []
    empty [] n = refl
    empty (y ∷ ys) n = absurd (omega (arith, n))

    by : (b : Bool) → (length xs == 0) ≡ b → cond b (Some []) None ≡ Some objects → (xs ≡ []) × (objects ≡ [])
    by true t h = (empty xs (eqb-true (length xs) 0 t), sym (same_Some [] objects h))
    by false t h = absurd (let q : None ≡ Some objects = h in cc)

tells : (p : Plan) (es : List ℕ) (k : ℕ) (bytes : List ℕ) (objects : List Progress) → AreBytes bytes → AllByRecursion (λ e. e < elements p) es → loaded p es k bytes ≡ Some objects → Tells p es k bytes objects
unfolding loaded
tells p [] k bytes objects are there is =
    let h = nothing bytes objects is in
    subst (λ os. Tells p [] k bytes os) (sym h.1) (record { elements = refl; records = h.0; between = tt })
tells p (e ∷ more) k bytes objects are there is =
    let rest : List ℕ = drop (size_of p e) bytes in
    let h = both_some (object_in p e k bytes) (loaded p more k rest) objects is in
    let first : Front p e k bytes h.0 = front_of p e k bytes h.0 are h.2 in
    let others : Tells p more k rest h.1 = tells p more k rest h.1 (bytes_behind (size_of p e) bytes are) there.1 h.3 in
    subst (λ os. Tells p (e ∷ more) k bytes os) (sym h.4) (record {
      elements = ap (λ x. x ∷ map element_of h.1) first.element ∙ ap (λ xs. e ∷ xs) others.elements;
      records =
          first.spelled ∙ ap (λ x. record_spelling p x k h.0.cells ++ rest) (sym first.element)
          ∙ ap (λ xs. record_spelling p h.0.element.0 k h.0.cells ++ xs) others.records;
      between = (
        subst (λ x. (x < elements p) → (h.0 ≡ started p x h.0.cells k) → Lawful p x k h.0.cells → Between p k h.0) first.element
            (λ t i l. record { there = t; is = i; lawful = l }) there.0 first.is first.lawful,
        others.between,
      );
    })

pub loads_tell : LoadsTell
loads_tell p es k bytes objects are there is = tells p es k bytes objects (bytes_are bytes are) there is
  where
    bytes_are : (xs : List ℕ) → AllByRecursion (λ b. b < 2 ^ 8) xs → AreBytes xs
    bytes_are [] h = tt
    bytes_are (x ∷ xs) h = (h.0, bytes_are xs h.1)

pub records_load : RecordsLoad
unfolding loaded
records_load p k [] between = refl
records_load p k (o ∷ more) between =
    let e : ℕ = o.element.0 in
    let rest : List ℕ = objects_records p k more in
    let bytes : List ℕ = record_spelling p e k o.cells ++ rest in
    let b : Between p k o = between.0 in
    let r : Again p e None 0 k o.cells rest = again p e None 0 k o.cells rest b.there b.lawful refl in
    let first : object_in p e k bytes ≡ Some o = found_of p e k bytes r.fine r.done ∙ ap (λ c. Some (started p e c k)) r.state ∙ ap Some (sym b.is) in
    ap (λ a. in_front a (loaded p (map element_of more) k (drop (size_of p e) bytes))) first
    ∙ ap (λ xs. in_front (Some o) (loaded p (map element_of more) k xs)) r.left
    ∙ ap (λ l. in_front (Some o) l) (records_load p k more between.1)

-- ---- a true piece

opened_elements : (p : Plan) (all : List Cells) (k : ℕ) (es : List ℕ) → map element_of (opened p all k es) ≡ es
opened_elements p all k [] = refl
opened_elements p all k (e ∷ more) = ap (λ es. e ∷ es) (opened_elements p all k more)

opened_records : (p : Plan) (all : List Cells) (k : ℕ) (es : List ℕ) → objects_records p k (opened p all k es) ≡ records_of p k all es
opened_records p all k [] = refl
opened_records p all k (e ∷ more) = ap (λ xs. record_spelling p e k (state_at all e) ++ xs) (opened_records p all k more)

opened_between : (p : Plan) (all : List Cells) (k : ℕ) (es : List ℕ) → LawfulState p k all → AllByRecursion (λ e. e < elements p) es → AllByRecursion (Between p k) (opened p all k es)
opened_between p all k [] lawful there = tt
opened_between p all k (e ∷ more) lawful there = (
  record { there = there.0; is = refl; lawful = lawful.each e (record { numbers = []; slip = no_slip }) (omega (arith, there.0, lawful.count)) },
  opened_between p all k more lawful there.1,
)

pub loads_back : FoldsAreLawful → LoadsBack
loads_back lawful p place lines k j count within =
    let es : List ℕ = members place j in
    let objects : List Progress = opened p (fold p lines k) k es in
    let all : AllByRecursion (Between p k) objects = opened_between p (fold p lines k) k es (lawful p lines k within) (members_within (elements p) 0 place j (omega (arith, count))) in
    ap (λ xs. loaded p es k xs) (sym (opened_records p (fold p lines k) k es))
    ∙ ap (λ xs. loaded p xs k (objects_records p k objects)) (sym (opened_elements p (fold p lines k) k es))
    ∙ records_load p k objects all
