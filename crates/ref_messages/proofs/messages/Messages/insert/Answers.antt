use Rattle.std.proofs.Common.{◌≡◌, ◌∙◌, ◌++◌, [], ap, sym, None, Some}
use Rattle.std.specs.BTreeMap.{insert_entry}
use Rattle.std.specs.Map.{lookup}
use Rattle.ref_messages.specs.Places.{above}
use Rattle.ref_messages.specs.Queue.{key_order, same_key}
use Rattle.ref_messages.proofs.Beside.{Entries, more_first, more_last, more_rest, none_left, still_sorted}
use Rattle.ref_messages.proofs.messages.Messages.insert.Goals as goal

pub invariant_of-self : goal.invariant_of-self
invariant_of-self c =
    let xs : Entries = c.self.inside.first.items in
    let ys : Entries = c.self.inside.rest.entries in
    let none : lookup (same_key c.args.key) (xs ++ ys) ≡ None = ap (lookup (same_key c.args.key)) c.self.view_is ∙ c.requires.absent in
    let at : Some c.in-Some.i ≡ above c.args.key xs = sym c.in-Some.is ∙ c.above.ensures.exact ∙ ap (above c.args.key) c.as_slice.ensures.value in
    still_sorted c.args.key c.args.payload xs ys c.is_ordered.ensures _ (more_first c.args.key c.args.payload xs ys c.insert.new.self.items c.in-Some.i at none c.in_ok-insert-in-Some.ensures.items) c.self.invariant none

pub invariant_of-self-then-len-lt-MOST_FIRST : goal.invariant_of-self-then-len-lt-MOST_FIRST
invariant_of-self-then-len-lt-MOST_FIRST c =
    let xs : Entries = c.self.inside.first.items in
    let ys : Entries = c.self.inside.rest.entries in
    let none : lookup (same_key c.args.key) (xs ++ ys) ≡ None = ap (lookup (same_key c.args.key)) c.self.view_is ∙ c.requires.absent in
    let at : None ≡ above c.args.key xs = sym c.in-None.is ∙ c.above.ensures.exact ∙ ap (above c.args.key) c.as_slice.ensures.value in
    let empty : ys ≡ [] = none_left ys (c.is_empty.ensures.0 c.if-is_empty.true) in
    still_sorted c.args.key c.args.payload xs ys c.is_ordered.ensures _ (more_last c.args.key c.args.payload xs ys c.push.new.self.items at none empty c.in_ok-push-in-None.ensures.items) c.self.invariant none

pub invariant_of-self-in_ok-insert-in-None : goal.invariant_of-self-in_ok-insert-in-None
invariant_of-self-in_ok-insert-in-None c =
    let xs : Entries = c.self.inside.first.items in
    let ys : Entries = c.self.inside.rest.entries in
    let none : lookup (same_key c.args.key) (xs ++ ys) ≡ None = ap (lookup (same_key c.args.key)) c.self.view_is ∙ c.requires.absent in
    let at : None ≡ above c.args.key xs = sym c.in-None.is ∙ c.above.ensures.exact ∙ ap (above c.args.key) c.as_slice.ensures.value in
    still_sorted c.args.key c.args.payload xs ys c.is_ordered.ensures _ (more_rest c.args.key c.args.payload xs ys c.insert-else-is_empty.new.self.entries at none c.in_ok-insert-in-None.ensures.entries) c.self.invariant none

pub returns-in_ok-insert-in-Some-clause-ok : goal.returns-in_ok-insert-in-Some-clause-ok
returns-in_ok-insert-in-Some-clause-ok c =
    let xs : Entries = c.self.inside.first.items in
    let ys : Entries = c.self.inside.rest.entries in
    let none : lookup (same_key c.args.key) (xs ++ ys) ≡ None = ap (lookup (same_key c.args.key)) c.self.view_is ∙ c.requires.absent in
    let at : Some c.in-Some.i ≡ above c.args.key xs = sym c.in-Some.is ∙ c.above.ensures.exact ∙ ap (above c.args.key) c.as_slice.ensures.value in
    more_first c.args.key c.args.payload xs ys c.insert.new.self.items c.in-Some.i at none c.in_ok-insert-in-Some.ensures.items
    ∙ ap (λ (es : Entries). insert_entry key_order es c.args.key c.args.payload) c.self.view_is

pub returns-in_ok-insert-in-Some-clause-ordered : goal.returns-in_ok-insert-in-Some-clause-ordered
returns-in_ok-insert-in-Some-clause-ordered c = invariant_of-self c

pub returns-in_ok-push-in-None-clause-ok : goal.returns-in_ok-push-in-None-clause-ok
returns-in_ok-push-in-None-clause-ok c =
    let xs : Entries = c.self.inside.first.items in
    let ys : Entries = c.self.inside.rest.entries in
    let none : lookup (same_key c.args.key) (xs ++ ys) ≡ None = ap (lookup (same_key c.args.key)) c.self.view_is ∙ c.requires.absent in
    let at : None ≡ above c.args.key xs = sym c.in-None.is ∙ c.above.ensures.exact ∙ ap (above c.args.key) c.as_slice.ensures.value in
    let empty : ys ≡ [] = none_left ys (c.is_empty.ensures.0 c.if-is_empty.true) in
    more_last c.args.key c.args.payload xs ys c.push.new.self.items at none empty c.in_ok-push-in-None.ensures.items
    ∙ ap (λ (es : Entries). insert_entry key_order es c.args.key c.args.payload) c.self.view_is

pub returns-in_ok-push-in-None-clause-ordered : goal.returns-in_ok-push-in-None-clause-ordered
returns-in_ok-push-in-None-clause-ordered c = invariant_of-self-then-len-lt-MOST_FIRST c

pub returns-in_ok-insert-in-None-clause-ok : goal.returns-in_ok-insert-in-None-clause-ok
returns-in_ok-insert-in-None-clause-ok c =
    let xs : Entries = c.self.inside.first.items in
    let ys : Entries = c.self.inside.rest.entries in
    let none : lookup (same_key c.args.key) (xs ++ ys) ≡ None = ap (lookup (same_key c.args.key)) c.self.view_is ∙ c.requires.absent in
    let at : None ≡ above c.args.key xs = sym c.in-None.is ∙ c.above.ensures.exact ∙ ap (above c.args.key) c.as_slice.ensures.value in
    more_rest c.args.key c.args.payload xs ys c.insert-else-is_empty.new.self.entries at none c.in_ok-insert-in-None.ensures.entries
    ∙ ap (λ (es : Entries). insert_entry key_order es c.args.key c.args.payload) c.self.view_is

pub returns-in_ok-insert-in-None-clause-ordered : goal.returns-in_ok-insert-in-None-clause-ordered
returns-in_ok-insert-in-None-clause-ordered c = invariant_of-self-in_ok-insert-in-None c
