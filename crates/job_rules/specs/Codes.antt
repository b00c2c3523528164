-- Where a text is refused, and the code of the word that says why.
use Rattle.std.specs.Prelude.{ℕ}
use Rattle.job_tree.specs.declared.fault.ParseFault.{ParseFault}
use Rattle.job_tree.specs.declared.fault.ParseFault.TheVariants as parses
use Rattle.job_rules.specs.declared.fault.CheckFault.{CheckFault}
use Rattle.job_rules.specs.declared.fault.CheckFault.TheVariants as checks

-- where the text is refused, 0 where memory ran out
abbrev pub parse_place : ParseFault → ℕ
parse_place (parses.NotToken at) = at
parse_place (parses.NumberTooLarge at) = at
parse_place (parses.Unexpected at) = at
parse_place (parses.TooDeep at) = at
parse_place (parses.TooLong at) = at
parse_place parses.Memory = 0

abbrev pub parse_code : ParseFault → ℕ
parse_code (parses.NotToken at) = 1
parse_code (parses.NumberTooLarge at) = 2
parse_code (parses.Unexpected at) = 3
parse_code (parses.TooDeep at) = 4
parse_code (parses.TooLong at) = 5
parse_code parses.Memory = 0

abbrev pub fault_code : CheckFault → ℕ
fault_code (checks.Twice at) = 6
fault_code (checks.Unknown at) = 7
fault_code (checks.Kind at) = 8
fault_code (checks.Shape at) = 9
fault_code (checks.NotOnce entry at) = 10
fault_code (checks.TooEarly entry at) = 11
fault_code (checks.Overlap name at) = 12
fault_code (checks.Bound at) = 13
fault_code (checks.Limit which value at) = 14
fault_code checks.Memory = 0
