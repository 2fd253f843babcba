-- What some command lines ask for, worked out from the rules by hand.
use Rattle.std.proofs.Common.{◌≡◌, refl, codes, map, ℕ, Option, Some, None, List, [], ◌∷◌, Bool, true, false}
use Rattle.std.specs.Prelude.{◌==◌, if◌then◌else◌}
use Rattle.sm_arguments.specs.Request.{Word, Asked, asked_by, solve, check}

-- a text cut at its spaces; two of them have an empty word between them
abbrev onto_first : ℕ → List Word → List Word
onto_first b [] = (b ∷ []) ∷ []
onto_first b (w ∷ ws) = (b ∷ w) ∷ ws

abbrev words_in : List ℕ → List Word
words_in [] = [] ∷ []
words_in (b ∷ bs) = if b == 32 then [] ∷ words_in bs else onto_first b (words_in bs)

-- a command line, and what it asks for
abbrev Row : Type 0
Row = List Word × Option Asked

abbrev solves : List ℕ → List ℕ → List Word → Bool → Row
solves line model data_files brief = (words_in line, Some (solve model data_files brief))

abbrev checks : List ℕ → List ℕ → List Word → List ℕ → Row
checks line model data_files log = (words_in line, Some (check model data_files log))

abbrev refuses : List ℕ → Row
refuses line = (words_in line, None)

abbrev taken_rows : List Row
taken_rows =
    -- the two commands, with data files and without
    solves (codes "solve m") (codes "m") [] false
    ∷ solves (codes "solve m a") (codes "m") (codes "a" ∷ []) false
    ∷ solves (codes "solve m a.toml b.csv") (codes "m") (codes "a.toml" ∷ codes "b.csv" ∷ []) false
    ∷ checks (codes "check m l") (codes "m") [] (codes "l")
    ∷ checks (codes "check m a b l") (codes "m") (codes "a" ∷ codes "b" ∷ []) (codes "l")
    -- the option stands anywhere
    ∷ solves (codes "solve m --brief") (codes "m") [] true
    ∷ solves (codes "--brief solve m a") (codes "m") (codes "a" ∷ []) true
    ∷ solves (codes "solve --brief m") (codes "m") [] true
    ∷ solves (codes "solve m a --brief b") (codes "m") (codes "a" ∷ codes "b" ∷ []) true
    -- `--` ends the option words once, and is no file itself
    ∷ solves (codes "solve -- m") (codes "m") [] false
    ∷ solves (codes "-- solve m") (codes "m") [] false
    ∷ solves (codes "solve m --") (codes "m") [] false
    ∷ solves (codes "solve m --brief -- a") (codes "m") (codes "a" ∷ []) true
    ∷ solves (codes "solve m -- --brief") (codes "m") (codes "--brief" ∷ []) false
    ∷ solves (codes "solve -- --brief -x") (codes "--brief") (codes "-x" ∷ []) false
    ∷ solves (codes "solve m -- a -- b") (codes "m") (codes "a" ∷ codes "--" ∷ codes "b" ∷ []) false
    ∷ checks (codes "check -- m --") (codes "m") [] (codes "--")
    ∷ checks (codes "check m -- --brief") (codes "m") [] (codes "--brief")
    -- `-` is a file
    ∷ solves (codes "solve -") (codes "-") [] false
    ∷ checks (codes "check - - -") (codes "-") (codes "-" ∷ []) (codes "-")
    -- a command's name and an option's name may be those of files
    ∷ solves (codes "solve solve brief check") (codes "solve") (codes "brief" ∷ codes "check" ∷ []) false
    ∷ []

abbrev refused_rows : List Row
refused_rows =
    -- no command, or another one
    ([], None)
    ∷ refuses (codes "--brief")
    ∷ refuses (codes "--")
    ∷ refuses (codes "m")
    ∷ refuses (codes "Solve m")
    ∷ refuses (codes "solve1 m")
    ∷ refuses (codes "help m")
    -- no model, or no log
    ∷ refuses (codes "solve")
    ∷ refuses (codes "solve --brief")
    ∷ refuses (codes "solve --")
    ∷ refuses (codes "check")
    ∷ refuses (codes "check m")
    ∷ refuses (codes "check m --")
    -- an empty word
    ∷ refuses (codes "solve ")
    ∷ refuses (codes "solve  m")
    ∷ refuses (codes "solve m ")
    ∷ refuses (codes "solve m -- ")
    ∷ refuses (codes "check m a ")
    ∷ refuses (codes " solve m")
    -- other option words
    ∷ refuses (codes "solve m -b")
    ∷ refuses (codes "solve m -brief")
    ∷ refuses (codes "solve m --nodes 7")
    ∷ refuses (codes "solve m --nodes=7")
    ∷ refuses (codes "solve m --order best")
    ∷ refuses (codes "solve m --brie")
    ∷ refuses (codes "solve m --briefs")
    ∷ refuses (codes "solve m --help")
    ∷ refuses (codes "-h")
    ∷ refuses (codes "solve m -V")
    ∷ refuses (codes "solve m ---")
    ∷ refuses (codes "solve m --brief -1")
    -- the option twice, or with a value
    ∷ refuses (codes "solve --brief m --brief")
    ∷ refuses (codes "solve m --brief --brief --brief")
    ∷ refuses (codes "solve m --brief=x")
    ∷ refuses (codes "solve m --brief=")
    ∷ refuses (codes "solve m --brief=true")
    ∷ refuses (codes "solve m --=brief")
    -- an option with the other command
    ∷ refuses (codes "check m l --brief")
    ∷ refuses (codes "--brief check m l")
    ∷ []

pub taken_lines : map (λ row. asked_by row.0) taken_rows ≡ map (λ row. row.1) taken_rows
unfolding asked_by
taken_lines = refl

pub refused_lines : map (λ row. asked_by row.0) refused_rows ≡ map (λ row. row.1) refused_rows
unfolding asked_by
refused_lines = refl
