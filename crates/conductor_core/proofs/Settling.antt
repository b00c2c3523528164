-- What is recorded once all verdicts are there, and what is sent then.
use Rattle.std.proofs.Common.{◌≡◌, ℕ, zero, suc, ◌<◌, ◌≤◌, Bool, true, false, cond, List, [], ◌∷◌, ◌++◌, length, refl, ap, sym, ◌∙◌, arith, subst, inl, inr, Option, Some, None}
use Rattle.std.specs.Prelude.{◌&&◌, is_some, map, replicate}
use Rattle.std.specs.List.{list_all}
use Rattle.std.proofs.lemmas.List.{length-replicate}
use Rattle.chare_base.specs.declared.options.Options.{Options}
use Rattle.chare_base.specs.declared.plan.ElementId.{ElementId}
use Rattle.chare_base.specs.declared.plan.Plan.{Plan}
use Rattle.chare_base.specs.declared.slots.LineSet.{LineSet}
use Rattle.chare_base.specs.Elements.{elements}
use Rattle.chare_base.specs.Flip.{Flip}
use Rattle.chare_base.specs.Placing.{Covers}
use Rattle.chare_eval.specs.Fold.{fold}
use Rattle.chare_eval.specs.Later.{flips_from}
use Rattle.chare_eval.specs.Laws.{EarlierFlipsDecide, FoldIsShaped, flips_before}
use Rattle.fault_script.specs.declared.fault.Fault.{Fault}
use Rattle.fault_script.specs.Lines.{flips_in}
use Rattle.pup_state.specs.declared.compare.Verdict.{Verdict}
use Rattle.pup_state.specs.declared.compare.Verdict.TheVariants as verdicts
use Rattle.pup_state.specs.Spelling.{pack}
use Rattle.buddy_compare.specs.Laws.{AllEqual, FirstDifference, LeastOfAll}
use Rattle.run_ledger.specs.declared.record.Record.{Record}
use Rattle.run_ledger.specs.declared.record.Record.TheVariants.{Accept, Differ, Done}
use Rattle.run_ledger.specs.Checkpoints.{EqualCheckpointsAreOfEqualFolds}
use Rattle.run_ledger.specs.Conditions.{unlawful}
use Rattle.run_ledger.specs.Laws.{AcceptsMakeTheBase, AcceptsRebase, DiffersKeepTheBase, FaultsStay, LineagesAreSets, StaysTidy}
use Rattle.run_ledger.specs.Lawful.{Allows, DiffersAt, checkpoint}
use Rattle.run_ledger.specs.Ledgers.{LedgerState, after, base_flips, lineage, lineage_set, live_set, opening_ledger}
use Rattle.run_ledger.specs.Lines.{fault_of}
use Rattle.run_ledger.proofs.Allowed.{accept_bounds, done_base}
use Rattle.letter_post.specs.declared.letter.Letter.{Letter}
use Rattle.letter_post.specs.declared.letter.Letter.TheVariants as letters
use Rattle.letter_post.specs.declared.stamp.Stamp.{Stamp}
use Rattle.letter_post.specs.Orders.{Chain, TakesBase, order_at}
use Rattle.letter_post.specs.Stamps.{lines_of}
use Rattle.letter_post.specs.Truth.{node_verdict}
use Rattle.checkpoint_store.specs.declared.mark.Mark.{Mark}
use Rattle.checkpoint_store.specs.Assembled.{assembled}
use Rattle.checkpoint_store.specs.Laws.{PiecesMakeTheCheckpoint}
use Rattle.checkpoint_store.specs.Marks.{mark_of}
use Rattle.conductor_core.specs.declared.ending.Outcome.TheVariants as outcomes
use Rattle.conductor_core.specs.declared.wants.Phase.{Phase}
use Rattle.conductor_core.specs.declared.wants.Phase.TheVariants as phases
use Rattle.conductor_core.specs.Conductors.{ConductorState, Heard, accepted, accepted_by, differed, differed_by, finished_by, gone_back, gone_on, nodes_of, quieted, settled_by, silent, taken, with_mark, with_record}
use Rattle.conductor_core.specs.Endings.{IsLastAt, last_states}
use Rattle.conductor_core.specs.Orders.{can_rise, raised, relined}
use Rattle.conductor_core.specs.Tells.{AllKept, Ended, IsKeptAt, Recorded, Tells, TellsOn, verdict_at}
use Rattle.conductor_core.specs.Verdicts.{difference_in, least_difference}
use Rattle.conductor_core.proofs.Deciding.{LeastNamed, NamedBy, ThereAt, each_there, least_of_all, named_differs, none_differs, unnamed_equal}
use Rattle.conductor_core.proofs.Hearing.{forgotten_kept, none_some, stays_so}
use Rattle.conductor_core.proofs.Recording.{last_more, recorded_more}
use Rattle.conductor_core.proofs.Sending.{more_first, more_say, more_second, ordered_first, ordered_say, ordered_second}

-- the laws that this rests on
pub record Grounds : Type 0 where
  pub earlier : EarlierFlipsDecide
  pub shaped : FoldIsShaped
  pub equal : AllEqual
  pub least : LeastOfAll
  pub make : PiecesMakeTheCheckpoint
  pub folds : EqualCheckpointsAreOfEqualFolds
  pub sets : LineagesAreSets
  pub differs : DiffersKeepTheBase
  pub accepts : AcceptsRebase
  pub made : AcceptsMakeTheBase
  pub tidies : StaysTidy
  pub faults : FaultsStay

alone : {A : Type 0} (xs : List A) → xs ≡ xs ++ []
alone [] = refl
alone (x ∷ xs) = ap (λ ys. x ∷ ys) (alone xs)

module _ (g : Grounds) (p : Plan) (script : List Fault) (o : Options) (place : List ℕ) where
  -- the flips of a stamp are the lineage whose set it holds
  lines_told : (l : LedgerState) (r : ℕ) (stamp : Stamp) → map fault_of l.lines ≡ script → stamp.lines.0 ≡ lineage_set r l → lines_of script stamp ≡ lineage r l
  lines_told l r stamp same is = ap (flips_in script) is ∙ ap (λ fs. flips_in fs (lineage_set r l)) (sym same) ∙ g.sets r l

  first_told : (c : ConductorState) → Tells p script o place c → lines_of script c.first ≡ lineage 0 c.ledger
  first_told c tells = lines_told c.ledger 0 c.first tells.recorded.faults tells.stamped.one_lines

  second_told : (c : ConductorState) → Tells p script o place c → lines_of script c.second ≡ lineage 1 c.ledger
  second_told c tells = lines_told c.ledger 1 c.second tells.recorded.faults tells.stamped.other_lines

  -- ---- the verdicts are used up

  pub quiet_tells : (c : ConductorState) → Tells p script o place c → Tells p script o place (quieted c)
  quiet_tells c tells = record {
    sized = record {
      options = tells.sized.options;
      noted = tells.sized.noted;
      sights = tells.sized.sights;
      verdicts = length-replicate (length c.verdicts) None ∙ tells.sized.verdicts;
      pieces = tells.sized.pieces;
    };
    recorded = tells.recorded;
    stamped = tells.stamped;
    kept = forgotten_kept p script place c.first c.second phases.Quiet (length c.verdicts) c.pieces;
    looks = tells.looks;
    going = tells.going;
    ended = λ some. let e : Ended p script o c = tells.ended some in record { outcome = e.outcome; ends = e.ends; bytes = e.bytes };
  }

  -- ---- a difference

  back_lines : (c : ConductorState) (k : ℕ) (element : ElementId) (r : ℕ) (old : Stamp) (new : Stamp) → Tells p script o place c → old.lines.0 ≡ lineage_set r c.ledger →
      new.lines.0 ≡ lineage_set r (after c.ledger (Differ k element)) → flips_before c.ledger.base (lines_of script new) ≡ flips_before c.ledger.base (lines_of script old)
  back_lines c k element r old new tells is now =
      ap (flips_before c.ledger.base) (lines_told (after c.ledger (Differ k element)) r new (g.faults.after c.ledger (Differ k element) ∙ tells.recorded.faults) now)
      ∙ g.differs c.ledger k r element tells.recorded.tidy
      ∙ ap (flips_before c.ledger.base) (sym (lines_told c.ledger r old tells.recorded.faults is))

  back_tells : (c : ConductorState) (k : ℕ) (element : ElementId) → Tells p script o place c → c.outcome ≡ None → ((j : ℕ) → verdict_at c.verdicts j ≡ None) → Allows p c.ledger (Differ k element) →
      TellsOn p script o place c (gone_back (with_record (Differ k element) c))
  back_tells c k element tells going none ok =
      let l : LedgerState = after c.ledger (Differ k element) in
      let first : Stamp = raised (record { 0 = lineage_set 0 l }) c.first in
      let second : Stamp = raised (record { 0 = lineage_set 1 l }) c.second in
      let live : LineSet = record { 0 = live_set l } in
      record {
        tells = record {
          sized = record {
            options = tells.sized.options;
            noted = tells.sized.noted;
            sights = length-replicate (length c.sights) None ∙ tells.sized.sights;
            verdicts = tells.sized.verdicts;
            pieces = tells.sized.pieces;
          };
          recorded =
              let P : List Mark → Type 0 = λ ms. Recorded p script o l (c.records ++ Differ k element ∷ []) ms in
              subst P (sym (alone c.marks)) (recorded_more g.tidies g.faults p script o c.ledger c.records c.marks (Differ k element) tells.recorded ok);
          stamped = record { one = tells.stamped.one; other = tells.stamped.other; one_lines = refl; other_lines = refl };
          kept = λ j verdict at. absurd (let q : None ≡ Some verdict = sym (none j) ∙ at in cc);
          looks = tells.looks;
          going = λ _ last. last_more p (opening_ledger script o p.iterations) c.records (Differ k element) last (tells.going going last) tt;
          ended = λ some. absurd (none_some c.outcome going some);
        };
        says = ordered_say p script place (nodes_of c) (letters.Restore first c.ledger.base live) (letters.Restore second c.ledger.base live) first second (λ slot. tt) (λ slot. tt);
        follows = record {
          first = λ j h.
              let P : List Letter → Type 0 = λ ls. Chain p script (order_at c.first c.ledger.base) ls (order_at first c.ledger.base) in
              subst P (sym (ordered_first j (nodes_of c) (letters.Restore first c.ledger.base live) (letters.Restore second c.ledger.base live) first second h))
              (record { replica = refl; base = refl; flips = back_lines c k element 0 c.first first tells tells.stamped.one_lines refl }, (refl, refl));
          second = λ j h.
              let P : List Letter → Type 0 = λ ls. Chain p script (order_at c.second c.ledger.base) ls (order_at second c.ledger.base) in
              subst P (sym (ordered_second j (nodes_of c) (letters.Restore first c.ledger.base live) (letters.Restore second c.ledger.base live) first second h))
              (record { replica = refl; base = refl; flips = back_lines c k element 1 c.second second tells tells.stamped.other_lines refl }, (refl, refl));
        };
      }

  differs_as : (c : ConductorState) (k : ℕ) (element : ElementId) → Tells p script o place c → FirstDifference p k (fold p (lines_of script c.first) k) (fold p (lines_of script c.second) k) element.0 → DiffersAt p c.ledger k element.0
  differs_as c k element tells d =
      let P : List Flip → Type 0 = λ xs. FirstDifference p k (fold p xs k) (fold p (lines_of script c.second) k) element.0 in
      let Q : List Flip → Type 0 = λ ys. FirstDifference p k (fold p (lineage 0 c.ledger) k) (fold p ys k) element.0 in
      let e : FirstDifference p k (fold p (lineage 0 c.ledger) k) (fold p (lineage 1 c.ledger) k) element.0 = subst Q (second_told c tells) (subst P (first_told c tells) d) in
      record { there = e.there; differs = e.differs; before = e.before }

  -- ---- a new base

  module _ (c : ConductorState) (k : ℕ) (tells : Tells p script o place c) (ok : unlawful c.ledger (Accept k) ≡ None) where
    after_base : k ≤ p.iterations
    after_base = omega (arith, (accept_bounds c.ledger k ok).1, tells.recorded.job)

    -- what a lineage makes at the new base, both before and after it is the base
    over : (r : ℕ) → fold p (lineage 0 c.ledger) k ≡ fold p (lineage r (after c.ledger (Accept k))) k
    over r =
        g.earlier p (lineage 0 c.ledger) k
        ∙ ap (λ xs. fold p xs k) (sym ((g.accepts c.ledger k tells.recorded.tidy (omega (arith, (accept_bounds c.ledger k ok).0))).earlier r))
        ∙ sym (g.earlier p (lineage r (after c.ledger (Accept k))) k)

    later : (r : ℕ) → flips_from k (lineage r c.ledger) ≡ flips_from k (lineage r (after c.ledger (Accept k)))
    later r = sym ((g.accepts c.ledger k tells.recorded.tidy (omega (arith, (accept_bounds c.ledger k ok).0))).later r)

    new_told : (r : ℕ) (stamp : Stamp) → stamp.lines.0 ≡ lineage_set r (after c.ledger (Accept k)) → lines_of script stamp ≡ lineage r (after c.ledger (Accept k))
    new_told r stamp is = lines_told (after c.ledger (Accept k)) r stamp (g.faults.after c.ledger (Accept k) ∙ tells.recorded.faults) is

    takes : (r : ℕ) (old new : Stamp) → fold p (lineage 0 c.ledger) k ≡ fold p (lineage r c.ledger) k → new.replica ≡ old.replica → new.epoch ≡ old.epoch → old.lines.0 ≡ lineage_set r c.ledger →
        new.lines.0 ≡ lineage_set r (after c.ledger (Accept k)) → TakesBase p script (order_at old c.ledger.base) new k
    takes r old new same replica epoch is now =
        let before : lines_of script old ≡ lineage r c.ledger = lines_told c.ledger r old tells.recorded.faults is in
        let behind : lines_of script new ≡ lineage r (after c.ledger (Accept k)) = new_told r new now in
        record {
          replica = replica;
          epoch = epoch;
          states = ap (λ xs. fold p xs k) before ∙ sym same ∙ over r ∙ ap (λ xs. fold p xs k) (sym behind);
          flips = ap (flips_from k) before ∙ later r ∙ ap (flips_from k) (sym behind);
        }

    on_tells : (bytes : List ℕ) → c.outcome ≡ None → ((j : ℕ) → verdict_at c.verdicts j ≡ None) → checkpoint p c.ledger 0 k ≡ checkpoint p c.ledger 1 k → bytes ≡ checkpoint p c.ledger 0 k →
        TellsOn p script o place c (gone_on (with_mark bytes (with_record (Accept k) c)))
    on_tells bytes going none same is =
        let l : LedgerState = after c.ledger (Accept k) in
        let first : Stamp = relined (record { 0 = lineage_set 0 l }) c.first in
        let second : Stamp = relined (record { 0 = lineage_set 1 l }) c.second in
        let live : LineSet = record { 0 = live_set l } in
        let folds : fold p (lineage 0 c.ledger) k ≡ fold p (lineage 1 c.ledger) k = g.folds p (lineage 0 c.ledger) (lineage 1 c.ledger) k after_base same in
        let marked : c.marks ++ mark_of k bytes ∷ [] ≡ c.marks ++ mark_of k (checkpoint p c.ledger 0 k) ∷ [] = ap (λ bs. c.marks ++ mark_of k bs ∷ []) is in
        record {
          tells = record {
            sized = record {
              options = tells.sized.options;
              noted = tells.sized.noted;
              sights = length-replicate (length c.sights) None ∙ tells.sized.sights;
              verdicts = tells.sized.verdicts;
              pieces = tells.sized.pieces;
            };
            recorded =
                let P : List Mark → Type 0 = λ ms. Recorded p script o l (c.records ++ Accept k ∷ []) ms in
                subst P (sym marked) (recorded_more g.tidies g.faults p script o c.ledger c.records c.marks (Accept k) tells.recorded (record { lawful = ok; tells = same }));
            stamped = record { one = tells.stamped.one; other = tells.stamped.other; one_lines = refl; other_lines = refl };
            kept = λ j verdict at. absurd (let q : None ≡ Some verdict = sym (none j) ∙ at in cc);
            looks = tells.looks;
            going = λ _ last. last_more p (opening_ledger script o p.iterations) c.records (Accept k) last (tells.going going last) tt;
            ended = λ some. absurd (none_some c.outcome going some);
          };
          says = ordered_say p script place (nodes_of c) (letters.Commit first k live) (letters.Commit second k live) first second (λ slot. tt) (λ slot. tt);
          follows = record {
            first = λ j h.
                let P : List Letter → Type 0 = λ ls. Chain p script (order_at c.first c.ledger.base) ls (order_at first k) in
                subst P (sym (ordered_first j (nodes_of c) (letters.Commit first k live) (letters.Commit second k live) first second h))
                (takes 0 c.first first refl refl refl tells.stamped.one_lines refl, (refl, refl));
            second = λ j h.
                let P : List Letter → Type 0 = λ ls. Chain p script (order_at c.second c.ledger.base) ls (order_at second k) in
                subst P (sym (ordered_second j (nodes_of c) (letters.Commit first k live) (letters.Commit second k live) first second h))
                (takes 1 c.second second folds refl refl tells.stamped.other_lines refl, (refl, refl));
          };
        }

    -- the bytes of the new base are the last states', where it is at the last iteration
    last_bytes : (bytes : List ℕ) → bytes ≡ checkpoint p c.ledger 0 k → unlawful (after c.ledger (Accept k)) Done ≡ None → bytes ≡ pack p p.iterations (last_states p (after c.ledger (Accept k)))
    last_bytes bytes is done =
        let l : LedgerState = after c.ledger (Accept k) in
        let n : k ≡ p.iterations = done_base l done ∙ tells.recorded.job in
        let states : fold p (lineage 0 c.ledger) k ≡ fold p (base_flips l) k = g.earlier p (lineage 0 c.ledger) k ∙ ap (λ xs. fold p xs k) (sym (g.made c.ledger k)) in
        is ∙ ap (pack p k) states ∙ ap (λ i. pack p i (fold p (base_flips l) i)) n

    done_tells : (bytes : List ℕ) → c.outcome ≡ None → ((j : ℕ) → verdict_at c.verdicts j ≡ None) → checkpoint p c.ledger 0 k ≡ checkpoint p c.ledger 1 k → bytes ≡ checkpoint p c.ledger 0 k →
        unlawful (after c.ledger (Accept k)) Done ≡ None → TellsOn p script o place c (finished_by None bytes (gone_on (with_mark bytes (with_record (Accept k) c))))
    done_tells bytes going none same is done =
        let on : TellsOn p script o place c (gone_on (with_mark bytes (with_record (Accept k) c))) = on_tells bytes going none same is in
        let l : LedgerState = after c.ledger (Accept k) in
        let first : Stamp = relined (record { 0 = lineage_set 0 l }) c.first in
        let second : Stamp = relined (record { 0 = lineage_set 1 l }) c.second in
        let live : LineSet = record { 0 = live_set l } in
        let records : List Record = c.records ++ Accept k ∷ [] in
        let marks : List Mark = c.marks ++ mark_of k bytes ∷ [] in
        let start : LedgerState = opening_ledger script o p.iterations in
        record {
          tells = record {
            sized = record {
              options = tells.sized.options;
              noted = tells.sized.noted;
              sights = length-replicate (length c.sights) None ∙ tells.sized.sights;
              verdicts = tells.sized.verdicts;
              pieces = tells.sized.pieces;
            };
            recorded =
                let P : List Mark → Type 0 = λ ms. Recorded p script o (after l Done) (records ++ Done ∷ []) ms in
                subst P (sym (alone marks)) (recorded_more g.tidies g.faults p script o l records marks Done on.tells.recorded (record { lawful = done; tells = tt }));
            stamped = record { one = tells.stamped.one; other = tells.stamped.other; one_lines = refl; other_lines = refl };
            kept = on.tells.kept;
            looks = on.tells.looks;
            going = λ h. absurd (let q : Some outcomes.Done ≡ None = h in cc);
            ended = λ _. record {
              outcome = refl;
              ends = record { before = records; all = refl };
              bytes =
                  let P : LedgerState → Type 0 = λ m. IsLastAt p m Done bytes in
                  last_more p start records Done bytes (on.tells.going going bytes) (subst P on.tells.recorded.made (last_bytes bytes is done));
            };
          };
          says = more_say p script place (gone_on (with_mark bytes (with_record (Accept k) c))).out (nodes_of c) letters.Stop letters.Stop on.says (λ slot. tt) (λ slot. tt);
          follows = record {
            first = λ j h.
                let P : List Letter → Type 0 = λ ls. Chain p script (order_at c.first c.ledger.base) ls (order_at first k) in
                subst P (sym (more_first (gone_on (with_mark bytes (with_record (Accept k) c))).out (letters.Commit first k live ∷ letters.Resume first ∷ []) j (nodes_of c) letters.Stop letters.Stop h
                (ordered_first j (nodes_of c) (letters.Commit first k live) (letters.Commit second k live) first second h)))
                (takes 0 c.first first refl refl refl tells.stamped.one_lines refl, (refl, (tt, refl)));
            second = λ j h.
                let P : List Letter → Type 0 = λ ls. Chain p script (order_at c.second c.ledger.base) ls (order_at second k) in
                subst P (sym (more_second (gone_on (with_mark bytes (with_record (Accept k) c))).out (letters.Commit second k live ∷ letters.Resume second ∷ []) j (nodes_of c) letters.Stop letters.Stop h
                (ordered_second j (nodes_of c) (letters.Commit first k live) (letters.Commit second k live) first second h)))
                (takes 1 c.second second (g.folds p (lineage 0 c.ledger) (lineage 1 c.ledger) k after_base same) refl refl tells.stamped.other_lines refl, (refl, (tt, refl)));
          };
        }

    taken_tells : (bytes : List ℕ) → c.outcome ≡ None → ((j : ℕ) → verdict_at c.verdicts j ≡ None) → checkpoint p c.ledger 0 k ≡ checkpoint p c.ledger 1 k → bytes ≡ checkpoint p c.ledger 0 k →
        TellsOn p script o place c (taken bytes (with_record (Accept k) c))
    taken_tells bytes going none same is = by (unlawful (after c.ledger (Accept k)) Done) refl
      where
        by : (r : Option ℕ) → unlawful (after c.ledger (Accept k)) Done ≡ r → TellsOn p script o place c (finished_by r bytes (gone_on (with_mark bytes (with_record (Accept k) c))))
        by None done = done_tells bytes going none same is done
        by (Some which) refused = on_tells bytes going none same is

  -- ---- what the verdicts say

  -- what an earlier conductor with the same stamps and base was sent on
  as_before : (c : ConductorState) (h : Heard) → TellsOn p script o place (quieted c) h → TellsOn p script o place c h
  as_before c h on = record { tells = on.tells; says = on.says; follows = record { first = on.follows.first; second = on.follows.second } }

  module _ (count : length place ≡ elements p) (covers : Covers place o.nodes) (c : ConductorState) (tells : Tells p script o place c) (k : ℕ) (at : c.phase ≡ phases.Agreed k) (going : c.outcome ≡ None)
      (there : list_all is_some c.verdicts ≡ true) where
    kept_here : (j : ℕ) (verdict : Verdict) → verdict_at c.verdicts j ≡ Some verdict → IsKeptAt p script place c.first c.second k c.pieces j verdict
    kept_here = let P : Phase → Type 0 = λ phase. AllKept p script place c.first c.second phase c.verdicts c.pieces in subst P at tells.kept

    nodes_there : (j : ℕ) → j < o.nodes → ThereAt c.verdicts j
    nodes_there j h = each_there c.verdicts j there (omega (arith, h, tells.sized.verdicts))

    -- no verdict is kept once they are used up
    used_up : (j : ℕ) → verdict_at (quieted c).verdicts j ≡ None
    used_up j = forgotten (length c.verdicts) j
      where
        forgotten : (n j : ℕ) → verdict_at (replicate n None) j ≡ None
        forgotten zero j = refl
        forgotten (suc n) zero = refl
        forgotten (suc n) (suc j) = forgotten n j

    accepted_tells : least_difference c.verdicts ≡ None → TellsOn p script o place (quieted c) (accepted p place k (quieted c))
    accepted_tells none = by (unlawful c.ledger (Accept k)) refl
      where
        equal_at : (j : ℕ) → j < o.nodes → node_verdict p place (lines_of script c.first) (lines_of script c.second) k j ≡ verdicts.Equal
        equal_at j h =
            let here : ThereAt c.verdicts j = nodes_there j h in
            let unnamed : difference_in (Some here.verdict) ≡ None = ap difference_in (sym here.is) ∙ none_differs c.verdicts j none in
            sym (kept_here j here.verdict here.is).compares ∙ unnamed_equal here.verdict unnamed

        same : checkpoint p c.ledger 0 k ≡ checkpoint p c.ledger 1 k
        same =
            ap (λ xs. pack p k (fold p xs k)) (sym (first_told c tells))
            ∙ g.equal p k place o.nodes (fold p (lines_of script c.first) k) (fold p (lines_of script c.second) k) (g.shaped p (lines_of script c.first) k) (g.shaped p (lines_of script c.second) k) count covers equal_at
            ∙ ap (λ xs. pack p k (fold p xs k)) (second_told c tells)

        whole : assembled p place c.pieces ≡ checkpoint p c.ledger 0 k
        whole =
            g.make p place (lines_of script c.first) k c.pieces count (subst (λ n. Covers place n) (sym tells.sized.pieces) covers)
            (λ j h. let here : ThereAt c.verdicts j = nodes_there j (omega (arith, h, tells.sized.pieces)) in (kept_here j here.verdict here.is).bytes)
            ∙ ap (λ xs. pack p k (fold p xs k)) (first_told c tells)

        by : (r : Option ℕ) → unlawful c.ledger (Accept k) ≡ r → TellsOn p script o place (quieted c) (accepted_by r p place k (quieted c))
        by None ok = taken_tells (quieted c) k (quiet_tells c tells) ok (assembled p place c.pieces) going used_up same whole
        by (Some which) refused = stays_so p script o place (quieted c) (quiet_tells c tells)

    differed_tells : (element : ElementId) → least_difference c.verdicts ≡ Some element → TellsOn p script o place (quieted c) (differed k element (quieted c))
    differed_tells element some = by (can_rise c.first && can_rise c.second)
      where
        named : LeastNamed None c.verdicts element
        named = least_of_all c.verdicts element some

        node_names : (j : ℕ) (other : ElementId) → difference_in (verdict_at c.verdicts j) ≡ Some other → node_verdict p place (lines_of script c.first) (lines_of script c.second) k j ≡ verdicts.Differ other
        node_names j other names = sym (kept_here j (verdicts.Differ other) (named_differs (verdict_at c.verdicts j) other names)).compares

        below : (i : ℕ) (other : ElementId) → i < o.nodes → node_verdict p place (lines_of script c.first) (lines_of script c.second) k i ≡ verdicts.Differ other → element.0 ≤ other.0
        below i other h is =
            let here : ThereAt c.verdicts i = nodes_there i h in
            let differs : here.verdict ≡ verdicts.Differ other = (kept_here i here.verdict here.is).compares ∙ is in
            named.all i other (ap difference_in here.is ∙ ap (λ v. difference_in (Some v)) differs)

        first_here : NamedBy c.verdicts element → FirstDifference p k (fold p (lines_of script c.first) k) (fold p (lines_of script c.second) k) element.0
        first_here n =
            g.least p k place o.nodes (fold p (lines_of script c.first) k) (fold p (lines_of script c.second) k) n.node element (g.shaped p (lines_of script c.first) k) (g.shaped p (lines_of script c.second) k) count covers
            (node_names n.node element n.names) below

        origin : NamedBy c.verdicts element
        origin = elim named.origin [ inl is ↦ absurd (let q : None ≡ Some element = is in cc) | inr n ↦ n ]

        recorded : (r : Option ℕ) → unlawful c.ledger (Differ k element) ≡ r → TellsOn p script o place (quieted c) (differed_by r k element (quieted c))
        recorded None ok =
            back_tells (quieted c) k element (quiet_tells c tells) going used_up
            (record { lawful = ok; tells = differs_as c k element tells (first_here origin) })
        recorded (Some which) refused = stays_so p script o place (quieted c) (quiet_tells c tells)

        by : (b : Bool) → TellsOn p script o place (quieted c) (cond {A = Heard} b (differed_by (unlawful c.ledger (Differ k element)) k element (quieted c)) (silent (quieted c)))
        by true = recorded (unlawful c.ledger (Differ k element)) refl
        by false = stays_so p script o place (quieted c) (quiet_tells c tells)

    pub settled_tells : TellsOn p script o place c (settled_by p place k (least_difference c.verdicts) (quieted c))
    settled_tells = as_before c (settled_by p place k (least_difference c.verdicts) (quieted c)) (by (least_difference c.verdicts) refl)
      where
        by : (f : Option ElementId) → least_difference c.verdicts ≡ f → TellsOn p script o place (quieted c) (settled_by p place k f (quieted c))
        by None is = accepted_tells is
        by (Some element) is = differed_tells element is
