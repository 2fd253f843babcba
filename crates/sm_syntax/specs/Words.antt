-- The reserved words.
use Rattle.std.specs.Prelude.{ℕ, List, [], ◌∷◌, Option, Some, None, codes, if◌then◌else◌}
use Rattle.std.specs.Str.{bytes_eq}
use Rattle.sm_syntax.specs.declared.terminal.Terminal.{Terminal}
use Rattle.sm_syntax.specs.declared.terminal.Terminal.TheVariants as terminal

-- the first that is there
abbrev pub or_else : Option Terminal → Option Terminal → Option Terminal
or_else None other = other
or_else (Some t) other = Some t

-- words with their terminals
abbrev pub WordTable : Type 0
WordTable = List (List ℕ × Terminal)

-- the terminal of a word of the table
abbrev pub terminal_in : WordTable → List ℕ → Option Terminal
terminal_in [] w = None
terminal_in (e ∷ es) w = if bytes_eq w e.0 then Some e.1 else terminal_in es w

-- the words of an item
abbrev pub item_words : WordTable
item_words =
    (codes "index", terminal.Index) ∷ (codes "var", terminal.Var) ∷ (codes "post", terminal.Post)
    ∷ (codes "forall", terminal.Forall) ∷ (codes "set", terminal.Set) ∷ (codes "int", terminal.Int)
    ∷ (codes "real", terminal.Real) ∷ []

abbrev pub item_word : List ℕ → Option Terminal
item_word w = terminal_in item_words w

-- the words of a goal
abbrev pub goal_words : WordTable
goal_words =
    (codes "satisfy", terminal.Satisfy) ∷ (codes "minimise", terminal.Minimise) ∷ (codes "maximise", terminal.Maximise) ∷ []

abbrev pub goal_word : List ℕ → Option Terminal
goal_word w = terminal_in goal_words w

-- the words of binders and sums
abbrev pub binder_words : WordTable
binder_words =
    (codes "if", terminal.If) ∷ (codes "and", terminal.And) ∷ (codes "in", terminal.In)
    ∷ (codes "for", terminal.For) ∷ (codes "sum", terminal.Sum) ∷ []

abbrev pub binder_word : List ℕ → Option Terminal
binder_word w = terminal_in binder_words w

-- the words of a constraint
abbrev pub constraint_words : WordTable
constraint_words =
    (codes "logic", terminal.Logic) ∷ (codes "when", terminal.When) ∷ (codes "then", terminal.Then)
    ∷ (codes "alldiff", terminal.Alldiff) ∷ (codes "circuit", terminal.Circuit) ∷ (codes "element", terminal.Element) ∷ []

abbrev pub constraint_word : List ℕ → Option Terminal
constraint_word w = terminal_in constraint_words w

-- the words of a constraint over choices, tasks or groups
abbrev pub grouping_words : WordTable
grouping_words =
    (codes "indexsum", terminal.Indexsum) ∷ (codes "assign", terminal.Assign) ∷ (codes "cumulative", terminal.Cumulative)
    ∷ (codes "disjunctive", terminal.Disjunctive) ∷ (codes "packing", terminal.Packing) ∷ []

abbrev pub grouping_word : List ℕ → Option Terminal
grouping_word w = terminal_in grouping_words w

-- the words of a formula
abbrev pub formula_words : WordTable
formula_words =
    (codes "implies", terminal.Implies) ∷ (codes "iff", terminal.Iff) ∷ (codes "or", terminal.Or)
    ∷ (codes "not", terminal.Not) ∷ (codes "all", terminal.All) ∷ (codes "any", terminal.Any) ∷ []

abbrev pub formula_word : List ℕ → Option Terminal
formula_word w = terminal_in formula_words w

-- the words that begin a tag
abbrev pub tag_words : WordTable
tag_words =
    (codes "infer", terminal.Infer) ∷ (codes "relax", terminal.Relax) ∷ (codes "branch", terminal.Branch)
    ∷ (codes "pick", terminal.Pick) ∷ (codes "split", terminal.Split) ∷ (codes "sub", terminal.Sub) ∷ []

abbrev pub tag_word : List ℕ → Option Terminal
tag_word w = terminal_in tag_words w

-- the words of a level, or of whether a row is relaxed
abbrev pub level_words : WordTable
level_words =
    (codes "none", terminal.None) ∷ (codes "bounds", terminal.Bounds) ∷ (codes "full", terminal.Full)
    ∷ (codes "on", terminal.On) ∷ []

abbrev pub level_word : List ℕ → Option Terminal
level_word w = terminal_in level_words w

-- the words of how a variable is picked, or its domain split
abbrev pub branching_words : WordTable
branching_words =
    (codes "first", terminal.First) ∷ (codes "small", terminal.Small) ∷ (codes "point", terminal.Point)
    ∷ (codes "half", terminal.Half) ∷ (codes "least", terminal.Least) ∷ (codes "most", terminal.Most) ∷ []

abbrev pub branching_word : List ℕ → Option Terminal
branching_word w = terminal_in branching_words w

-- a reserved word of a model's outline or of its binders
abbrev pub outline_word : List ℕ → Option Terminal
outline_word w = or_else (item_word w) (or_else (goal_word w) (binder_word w))

-- a reserved word of a constraint without its tags
abbrev pub body_word : List ℕ → Option Terminal
body_word w = or_else (constraint_word w) (or_else (grouping_word w) (formula_word w))

-- a reserved word of a tag
abbrev pub setting_word : List ℕ → Option Terminal
setting_word w = or_else (tag_word w) (or_else (level_word w) (branching_word w))

-- the terminal of a reserved word
unfoldable pub reserved_word : List ℕ → Option Terminal
reserved_word w = or_else (outline_word w) (or_else (body_word w) (setting_word w))
