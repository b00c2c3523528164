-- Which messages are taken, and why one is refused.
use Rattle.std.specs.Prelude.{◌≡◌, ◌<◌, ◌≤◌, None, IsSome}
use Rattle.ref_messages.specs.declared.key.RefKey.{RefKey}
use Rattle.ref_messages.specs.declared.fault.PutFault.{PutFault}
use Rattle.ref_messages.specs.declared.fault.PutFault.TheVariants.{Old, Held, Memory}
use Rattle.ref_messages.specs.Queue.{Queue, message}

-- its iteration isn't over, and no message is held under its key
abbrev pub Takes : Queue → RefKey → Type 0
Takes q key = (q.since ≤ key.iteration) × (message q key ≡ None)

-- a message of this key is refused for this reason
abbrev pub Refuses : Queue → RefKey → PutFault → Type 0
Refuses q key (Old now) = (key.iteration < q.since) × (now ≡ q.since)
Refuses q key Held = (q.since ≤ key.iteration) × IsSome (message q key)
Refuses q key Memory = Takes q key
