-- The messages that an element holds, and what each call makes of them.
use Rattle.std.specs.Prelude.{ℕ, ◌≤◌, Bool, false, Option, List, [], ◌∷◌, nat_lt, nat_le}
use Rattle.std.specs.BTreeMap.{insert_entry, is_at}
use Rattle.std.specs.List.{AllByRecursion, filter}
use Rattle.std.specs.List.Sorted.{IsStrictlySortedBy}
use Rattle.std.specs.Map.{keys_of, lookup, remove_entry}
use Rattle.std.specs.declared.cmp.Ordering.{Ordering}
use Rattle.chare_base.specs.declared.message.Payload.{Payload}
use Rattle.ref_messages.specs.declared.key.RefKey.{RefKey}
use Rattle.ref_messages.specs.contracts.key.RefKeyOrd.TheImpl as key_ord

-- the first iteration whose messages are still taken, and the messages held, each with its key, by the order of keys
pub record Queue : Type 0 where
  pub since : ℕ
  pub held : List (RefKey × Payload)

-- the order of keys: by iteration, and by port within one
abbrev pub key_order : RefKey → RefKey → Ordering
key_order = (key_ord.ghosts).cmp

-- whether two keys are one
abbrev pub same_key : RefKey → RefKey → Bool
same_key a = is_at (key_order a)

-- the message under a key, if one is held
abbrev pub message : Queue → RefKey → Option Payload
message q key = lookup (same_key key) q.held

-- one message more, at its key's place
abbrev pub put : Queue → RefKey → Payload → Queue
put q key payload = record q { held = insert_entry key_order q.held key payload }

-- without the message under a key
abbrev pub without : Queue → RefKey → Queue
without q key = record q { held = remove_entry (same_key key) q.held }

-- the messages of iterations from k on
abbrev pub not_before : ℕ → List (RefKey × Payload) → List (RefKey × Payload)
not_before k held = filter (λ e. nat_le k e.0.iteration) held

-- from an iteration on: the messages of earlier ones are gone, and no more of them are taken
abbrev pub from : Queue → ℕ → Queue
from q k = record { since = k; held = not_before k q.held }

-- what holds of every queue: its keys ascend, so none is there twice, and none is of an iteration before `since`
abbrev pub IsLawful : Queue → Type 0
IsLawful q = IsStrictlySortedBy key_order (keys_of q.held) × AllByRecursion (λ e. q.since ≤ e.0.iteration) q.held

-- whether the first message is of an iteration before k
abbrev pub begins_before : ℕ → List (RefKey × Payload) → Bool
begins_before k [] = false
begins_before k (e ∷ es) = nat_lt e.0.iteration k
