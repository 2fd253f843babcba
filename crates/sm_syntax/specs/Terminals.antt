-- Terminals by their numbers in the grammar, and those of brackets.
use Rattle.std.specs.Prelude.{ℕ, Bool, ◌==◌, ◌||◌}
use Rattle.sm_syntax.specs.declared.terminal.Terminal.{Terminal}
use Rattle.sm_syntax.specs.declared.terminal.Terminal.TheVariants as terminal

abbrev pub code_of : Terminal → ℕ
code_of terminal.Name = 0
code_of terminal.Number = 1
code_of terminal.Index = 2
code_of terminal.Var = 3
code_of terminal.Post = 4
code_of terminal.Forall = 5
code_of terminal.Set = 6
code_of terminal.Int = 7
code_of terminal.Real = 8
code_of terminal.Satisfy = 9
code_of terminal.Minimise = 10
code_of terminal.Maximise = 11
code_of terminal.If = 12
code_of terminal.And = 13
code_of terminal.In = 14
code_of terminal.For = 15
code_of terminal.Sum = 16
code_of terminal.Logic = 17
code_of terminal.When = 18
code_of terminal.Then = 19
code_of terminal.Alldiff = 20
code_of terminal.Circuit = 21
code_of terminal.Element = 22
code_of terminal.Indexsum = 23
code_of terminal.Assign = 24
code_of terminal.Cumulative = 25
code_of terminal.Disjunctive = 26
code_of terminal.Packing = 27
code_of terminal.Implies = 28
code_of terminal.Iff = 29
code_of terminal.Or = 30
code_of terminal.Not = 31
code_of terminal.All = 32
code_of terminal.Any = 33
code_of terminal.Infer = 34
code_of terminal.Relax = 35
code_of terminal.Branch = 36
code_of terminal.Pick = 37
code_of terminal.Split = 38
code_of terminal.Sub = 39
code_of terminal.None = 40
code_of terminal.Bounds = 41
code_of terminal.Full = 42
code_of terminal.On = 43
code_of terminal.First = 44
code_of terminal.Small = 45
code_of terminal.Point = 46
code_of terminal.Half = 47
code_of terminal.Least = 48
code_of terminal.Most = 49
code_of terminal.Semicolon = 50
code_of terminal.Comma = 51
code_of terminal.Colon = 52
code_of terminal.To = 53
code_of terminal.Less = 54
code_of terminal.AtMost = 55
code_of terminal.Greater = 56
code_of terminal.AtLeast = 57
code_of terminal.Equal = 58
code_of terminal.Unequal = 59
code_of terminal.Plus = 60
code_of terminal.Minus = 61
code_of terminal.Times = 62
code_of terminal.OpenRound = 63
code_of terminal.CloseRound = 64
code_of terminal.OpenSquare = 65
code_of terminal.CloseSquare = 66
code_of terminal.OpenBrace = 67
code_of terminal.CloseBrace = 68
code_of terminal.End = 69
code_of terminal.Bad = 70

-- `(`, `[` and `{` open a bracket
abbrev pub opens : ℕ → Bool
opens c = c == 63 || (c == 65 || c == 67)

-- `)`, `]` and `}` close one
abbrev pub closes : ℕ → Bool
closes c = c == 64 || (c == 66 || c == 68)
