-- What is found under each key after a message more and a message less.
use Rattle.std.proofs.Common.{◌≡◌, ℕ, Bool, true, false, cond, List, [], ◌∷◌, Some, refl, ap, sym, ◌∙◌}
use Rattle.std.specs.Map.{lookup, remove_entry}
use Rattle.chare_base.specs.declared.message.Need.{Need}
use Rattle.chare_base.specs.declared.message.Need.TheVariants as needs
use Rattle.chare_base.specs.declared.message.Payload.{Payload}
use Rattle.chare_base.specs.declared.message.Port.{Port}
use Rattle.ref_messages.specs.declared.key.RefKey.{RefKey}
use Rattle.ref_messages.specs.Queue.{Queue, message, put, same_key}
use Rattle.ref_messages.proofs.Found.{found_insert, one_of, other_is, same_is}
use Rattle.object_steps.specs.Objects.{key_of, taken}

abbrev Entries : Type 0
Entries = List (RefKey × Payload)

-- ---- a message more

pub found_put : (q : Queue) (key k : RefKey) (payload : Payload) → message (put q key payload) k ≡ cond (same_key k key) (Some payload) (message q k)
found_put q key k payload = found_insert k key payload q.held

pub put_same : (q : Queue) (key : RefKey) (payload : Payload) → message (put q key payload) key ≡ Some payload
put_same q key payload = found_put q key key payload ∙ ap (λ b. cond b (Some payload) (message q key)) (same_is key)

pub put_other : (q : Queue) (key k : RefKey) (payload : Payload) → (k ≡ key → ⊥) → message (put q key payload) k ≡ message q k
put_other q key k payload other = found_put q key k payload ∙ ap (λ b. cond b (Some payload) (message q k)) (other_is k key other)

-- ---- a message less

removed : (k key : RefKey) (es : Entries) → (k ≡ key → ⊥) → lookup (same_key k) (remove_entry (same_key key) es) ≡ lookup (same_key k) es
removed k key [] other = refl
removed k key (e ∷ es) other = by (same_key key e.0) refl (removed k key es other)
  where
    by : (b : Bool) → same_key key e.0 ≡ b → lookup (same_key k) (remove_entry (same_key key) es) ≡ lookup (same_key k) es → lookup (same_key k) (cond b es (e ∷ remove_entry (same_key key) es)) ≡ cond (same_key k e.0) (Some e.1) (lookup (same_key k) es)
    by true h rest = sym (ap (λ b. cond b (Some e.1) (lookup (same_key k) es)) (other_is k e.0 (λ q. other (q ∙ sym (one_of key e.0 h)))))
    by false h rest = ap (λ m. cond (same_key k e.0) (Some e.1) m) rest

pub taken_other : (need : Need) (done : ℕ) (q : Queue) (key : RefKey) → ((port : Port) → need ≡ needs.Port port → key ≡ key_of done port → ⊥) → message (taken need done q) key ≡ message q key
taken_other needs.Nothing done q key other = refl
taken_other (needs.Port port) done q key other = removed key (key_of done port) q.held (other port refl)
