use Rattle.std.proofs.Common.{◌≡◌, ◌∙◌, ap, sym, None, Some}
use Rattle.std.specs.Map.{lookup, remove_entry}
use Rattle.ref_messages.specs.Places.{place_of}
use Rattle.ref_messages.specs.Queue.{same_key}
use Rattle.ref_messages.proofs.Beside.{Entries, found_first, found_rest, less_first, less_rest, less_sorted}
use Rattle.ref_messages.proofs.messages.Messages.remove.Goals as goal

pub invariant_of-self : goal.invariant_of-self
invariant_of-self c =
    let xs : Entries = c.self.inside.first.items in
    let ys : Entries = c.self.inside.rest.entries in
    let at : Some c.in-Some.i ≡ place_of c.args.key xs = sym c.in-Some.is ∙ c.place_of.ensures.exact ∙ ap (place_of c.args.key) c.as_slice.ensures.value in
    less_sorted c.args.key xs ys _ (less_first c.args.key xs ys c.remove.new.self.items c.in-Some.i at c.remove.ensures.items) c.self.invariant

pub invariant_of-self-in-None : goal.invariant_of-self-in-None
invariant_of-self-in-None c =
    let xs : Entries = c.self.inside.first.items in
    let ys : Entries = c.self.inside.rest.entries in
    let at : None ≡ place_of c.args.key xs = sym c.in-None.is ∙ c.place_of.ensures.exact ∙ ap (place_of c.args.key) c.as_slice.ensures.value in
    less_sorted c.args.key xs ys _ (less_rest c.args.key xs ys c.remove-in-None.new.self.entries at c.remove-in-None.ensures.entries) c.self.invariant

pub returns-in-Some-clause-value : goal.returns-in-Some-clause-value
returns-in-Some-clause-value c =
    let xs : Entries = c.self.inside.first.items in
    let ys : Entries = c.self.inside.rest.entries in
    let at : Some c.in-Some.i ≡ place_of c.args.key xs = sym c.in-Some.is ∙ c.place_of.ensures.exact ∙ ap (place_of c.args.key) c.as_slice.ensures.value in
    found_first c.args.key xs ys c.in-Some.i c.remove.result at c.remove.ensures.value ∙ ap (lookup (same_key c.args.key)) c.self.view_is

pub returns-in-Some-clause-left : goal.returns-in-Some-clause-left
returns-in-Some-clause-left c =
    let xs : Entries = c.self.inside.first.items in
    let ys : Entries = c.self.inside.rest.entries in
    let at : Some c.in-Some.i ≡ place_of c.args.key xs = sym c.in-Some.is ∙ c.place_of.ensures.exact ∙ ap (place_of c.args.key) c.as_slice.ensures.value in
    less_first c.args.key xs ys c.remove.new.self.items c.in-Some.i at c.remove.ensures.items ∙ ap (remove_entry (same_key c.args.key)) c.self.view_is

pub returns-in-Some-clause-ordered : goal.returns-in-Some-clause-ordered
returns-in-Some-clause-ordered c = invariant_of-self c

pub returns-in-None-clause-value : goal.returns-in-None-clause-value
returns-in-None-clause-value c =
    let xs : Entries = c.self.inside.first.items in
    let ys : Entries = c.self.inside.rest.entries in
    let at : None ≡ place_of c.args.key xs = sym c.in-None.is ∙ c.place_of.ensures.exact ∙ ap (place_of c.args.key) c.as_slice.ensures.value in
    found_rest c.args.key xs ys c.remove-in-None.result at c.remove-in-None.ensures.value ∙ ap (lookup (same_key c.args.key)) c.self.view_is

pub returns-in-None-clause-left : goal.returns-in-None-clause-left
returns-in-None-clause-left c =
    let xs : Entries = c.self.inside.first.items in
    let ys : Entries = c.self.inside.rest.entries in
    let at : None ≡ place_of c.args.key xs = sym c.in-None.is ∙ c.place_of.ensures.exact ∙ ap (place_of c.args.key) c.as_slice.ensures.value in
    less_rest c.args.key xs ys c.remove-in-None.new.self.entries at c.remove-in-None.ensures.entries ∙ ap (remove_entry (same_key c.args.key)) c.self.view_is

pub returns-in-None-clause-ordered : goal.returns-in-None-clause-ordered
returns-in-None-clause-ordered c = invariant_of-self-in-None c
