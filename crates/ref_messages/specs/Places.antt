-- Where a key stands among messages in the order of their keys.
use Rattle.std.specs.Prelude.{ℕ, suc, Bool, true, false, if◌then◌else◌, List, [], ◌∷◌, Option, Some, None, option_map}
use Rattle.std.specs.declared.cmp.Ordering.{Ordering}
use Rattle.std.specs.declared.cmp.Ordering.TheVariants.{Less, Equal, Greater}
use Rattle.chare_base.specs.declared.message.Payload.{Payload}
use Rattle.ref_messages.specs.declared.key.RefKey.{RefKey}
use Rattle.ref_messages.specs.Queue.{key_order, same_key}

-- the place of the message under a key
abbrev pub place_of : RefKey → List (RefKey × Payload) → Option ℕ
place_of key [] = None
place_of key (e ∷ es) = if same_key key e.0 then Some 0 else option_map suc (place_of key es)

abbrev pub is_less : Ordering → Bool
is_less Less = true
is_less Equal = false
is_less Greater = false

-- whether a key comes before another
abbrev pub precedes : RefKey → RefKey → Bool
precedes a b = is_less (key_order a b)

-- the place of the first message whose key is above one
abbrev pub above : RefKey → List (RefKey × Payload) → Option ℕ
above key [] = None
above key (e ∷ es) = if precedes key e.0 then Some 0 else option_map suc (above key es)
