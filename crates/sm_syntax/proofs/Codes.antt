-- No two terminals have one number.
use Rattle.std.proofs.Common.{◌≡◌, ◌∙◌, ◌==◌, ap, sym, refl, ℕ, if◌then◌else◌}
use Rattle.sm_syntax.specs.declared.terminal.Terminal.{Terminal}
use Rattle.sm_syntax.specs.declared.terminal.Terminal.TheVariants as terminal
use Rattle.sm_syntax.specs.Terminals.{code_of}

terminal_at : ℕ → Terminal
terminal_at n =
    if n == 0 then terminal.Name
    else (if n == 1 then terminal.Number
    else (if n == 2 then terminal.Index
    else (if n == 3 then terminal.Var
    else (if n == 4 then terminal.Post
    else (if n == 5 then terminal.Forall
    else (if n == 6 then terminal.Set
    else (if n == 7 then terminal.Int
    else (if n == 8 then terminal.Real
    else (if n == 9 then terminal.Satisfy
    else (if n == 10 then terminal.Minimise
    else (if n == 11 then terminal.Maximise
    else (if n == 12 then terminal.If
    else (if n == 13 then terminal.And
    else (if n == 14 then terminal.In
    else (if n == 15 then terminal.For
    else (if n == 16 then terminal.Sum
    else (if n == 17 then terminal.Logic
    else (if n == 18 then terminal.When
    else (if n == 19 then terminal.Then
    else (if n == 20 then terminal.Alldiff
    else (if n == 21 then terminal.Circuit
    else (if n == 22 then terminal.Element
    else (if n == 23 then terminal.Indexsum
    else (if n == 24 then terminal.Assign
    else (if n == 25 then terminal.Cumulative
    else (if n == 26 then terminal.Disjunctive
    else (if n == 27 then terminal.Packing
    else (if n == 28 then terminal.Implies
    else (if n == 29 then terminal.Iff
    else (if n == 30 then terminal.Or
    else (if n == 31 then terminal.Not
    else (if n == 32 then terminal.All
    else (if n == 33 then terminal.Any
    else (if n == 34 then terminal.Infer
    else (if n == 35 then terminal.Relax
    else (if n == 36 then terminal.Branch
    else (if n == 37 then terminal.Pick
    else (if n == 38 then terminal.Split
    else (if n == 39 then terminal.Sub
    else (if n == 40 then terminal.None
    else (if n == 41 then terminal.Bounds
    else (if n == 42 then terminal.Full
    else (if n == 43 then terminal.On
    else (if n == 44 then terminal.First
    else (if n == 45 then terminal.Small
    else (if n == 46 then terminal.Point
    else (if n == 47 then terminal.Half
    else (if n == 48 then terminal.Least
    else (if n == 49 then terminal.Most
    else (if n == 50 then terminal.Semicolon
    else (if n == 51 then terminal.Comma
    else (if n == 52 then terminal.Colon
    else (if n == 53 then terminal.To
    else (if n == 54 then terminal.Less
    else (if n == 55 then terminal.AtMost
    else (if n == 56 then terminal.Greater
    else (if n == 57 then terminal.AtLeast
    else (if n == 58 then terminal.Equal
    else (if n == 59 then terminal.Unequal
    else (if n == 60 then terminal.Plus
    else (if n == 61 then terminal.Minus
    else (if n == 62 then terminal.Times
    else (if n == 63 then terminal.OpenRound
    else (if n == 64 then terminal.CloseRound
    else (if n == 65 then terminal.OpenSquare
    else (if n == 66 then terminal.CloseSquare
    else (if n == 67 then terminal.OpenBrace
    else (if n == 68 then terminal.CloseBrace
    else (if n == 69 then terminal.End
    else terminal.Bad)))))))))))))))))))))))))))))))))))))))))))))))))))))))))))))))))))))

terminal_back : (t : Terminal) → terminal_at (code_of t) ≡ t
unfolding terminal_at
terminal_back terminal.Name = refl
terminal_back terminal.Number = refl
terminal_back terminal.Index = refl
terminal_back terminal.Var = refl
terminal_back terminal.Post = refl
terminal_back terminal.Forall = refl
terminal_back terminal.Set = refl
terminal_back terminal.Int = refl
terminal_back terminal.Real = refl
terminal_back terminal.Satisfy = refl
terminal_back terminal.Minimise = refl
terminal_back terminal.Maximise = refl
terminal_back terminal.If = refl
terminal_back terminal.And = refl
terminal_back terminal.In = refl
terminal_back terminal.For = refl
terminal_back terminal.Sum = refl
terminal_back terminal.Logic = refl
terminal_back terminal.When = refl
terminal_back terminal.Then = refl
terminal_back terminal.Alldiff = refl
terminal_back terminal.Circuit = refl
terminal_back terminal.Element = refl
terminal_back terminal.Indexsum = refl
terminal_back terminal.Assign = refl
terminal_back terminal.Cumulative = refl
terminal_back terminal.Disjunctive = refl
terminal_back terminal.Packing = refl
terminal_back terminal.Implies = refl
terminal_back terminal.Iff = refl
terminal_back terminal.Or = refl
terminal_back terminal.Not = refl
terminal_back terminal.All = refl
terminal_back terminal.Any = refl
terminal_back terminal.Infer = refl
terminal_back terminal.Relax = refl
terminal_back terminal.Branch = refl
terminal_back terminal.Pick = refl
terminal_back terminal.Split = refl
terminal_back terminal.Sub = refl
terminal_back terminal.None = refl
terminal_back terminal.Bounds = refl
terminal_back terminal.Full = refl
terminal_back terminal.On = refl
terminal_back terminal.First = refl
terminal_back terminal.Small = refl
terminal_back terminal.Point = refl
terminal_back terminal.Half = refl
terminal_back terminal.Least = refl
terminal_back terminal.Most = refl
terminal_back terminal.Semicolon = refl
terminal_back terminal.Comma = refl
terminal_back terminal.Colon = refl
terminal_back terminal.To = refl
terminal_back terminal.Less = refl
terminal_back terminal.AtMost = refl
terminal_back terminal.Greater = refl
terminal_back terminal.AtLeast = refl
terminal_back terminal.Equal = refl
terminal_back terminal.Unequal = refl
terminal_back terminal.Plus = refl
terminal_back terminal.Minus = refl
terminal_back terminal.Times = refl
terminal_back terminal.OpenRound = refl
terminal_back terminal.CloseRound = refl
terminal_back terminal.OpenSquare = refl
terminal_back terminal.CloseSquare = refl
terminal_back terminal.OpenBrace = refl
terminal_back terminal.CloseBrace = refl
terminal_back terminal.End = refl
terminal_back terminal.Bad = refl

pub same_code : (a b : Terminal) → code_of a ≡ code_of b → a ≡ b
same_code a b e = sym (terminal_back a) ∙ ap terminal_at e ∙ terminal_back b
