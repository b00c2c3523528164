use Rattle.std.proofs.Common.{◌≡◌, ◌*◌, ◌-◌, ◌≤◌, ◌++◌, length}
use Rattle.pup_state.specs.Reading.{numbers_in}
use Rattle.pup_state.proofs.get.numbers_in.Given as goal

-- the cells that are left go behind those that were read, and their bytes are there
abbrev pub invariant-loop : goal.invariant-loop
invariant-loop l = record {
  told : l.numbers.items ++ numbers_in (l.count - l.counter) l.rest ≡ numbers_in l.count l.bytes;
  room : 8 * (l.count - l.counter) ≤ length l.rest;
}
