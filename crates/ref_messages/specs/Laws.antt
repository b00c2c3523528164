-- What is proved of keys.
use Rattle.std.specs.Prelude.{◌≡◌, ◌↔◌, IsTrue}
use Rattle.ref_messages.specs.declared.key.RefKey.{RefKey}
use Rattle.ref_messages.specs.Queue.{same_key}

-- two keys compare as equal exactly where they are equal
abbrev pub KeysAreTold : Type 0
KeysAreTold = (a b : RefKey) → IsTrue (same_key a b) ↔ (a ≡ b)
