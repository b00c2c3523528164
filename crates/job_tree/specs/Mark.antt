-- Marks by their numbers.
use Rattle.std.specs.Prelude.{ℕ}
use Rattle.job_tree.specs.declared.token.Mark.{Mark}
use Rattle.job_tree.specs.declared.token.Mark.TheVariants.{Job, Iterate, Array, State, Int, Entry, From, Wrap, Else, Reduce, Sum, Min, Max, Step, When, Overlap, Send, Contribute, If, For, In, Answer, At, Index, Row, Col, Cell, Iter, And, Or, Not, Faults, OpenBrace, CloseBrace, OpenBracket, CloseBracket, OpenParen, CloseParen, Comma, Dot, DotDot, Colon, Assign, Equal, NotEqual, Less, LessEqual, Greater, GreaterEqual, Plus, Minus, Times, Divide, Remainder}

abbrev pub number_of : Mark → ℕ
number_of Job = 0
number_of Iterate = 1
number_of Array = 2
number_of State = 3
number_of Int = 4
number_of Entry = 5
number_of From = 6
number_of Wrap = 7
number_of Else = 8
number_of Reduce = 9
number_of Sum = 10
number_of Min = 11
number_of Max = 12
number_of Step = 13
number_of When = 14
number_of Overlap = 15
number_of Send = 16
number_of Contribute = 17
number_of If = 18
number_of For = 19
number_of In = 20
number_of Answer = 21
number_of At = 22
number_of Index = 23
number_of Row = 24
number_of Col = 25
number_of Cell = 26
number_of Iter = 27
number_of And = 28
number_of Or = 29
number_of Not = 30
number_of Faults = 31
number_of OpenBrace = 32
number_of CloseBrace = 33
number_of OpenBracket = 34
number_of CloseBracket = 35
number_of OpenParen = 36
number_of CloseParen = 37
number_of Comma = 38
number_of Dot = 39
number_of DotDot = 40
number_of Colon = 41
number_of Assign = 42
number_of Equal = 43
number_of NotEqual = 44
number_of Less = 45
number_of LessEqual = 46
number_of Greater = 47
number_of GreaterEqual = 48
number_of Plus = 49
number_of Minus = 50
number_of Times = 51
number_of Divide = 52
number_of Remainder = 53
