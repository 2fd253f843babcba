-- The grammar of models, as a table: written by tools/grammar_table.py from tools/grammar.txt.
-- Only the alternatives are the grammar. The other columns are tested in proofs/OneToken.antt.
use Rattle.std.specs.Prelude.{true, false, List, [], ◌∷◌}
use Rattle.sm_syntax.specs.Grammars.{Symbol, leaf, node, Row, Grammar, grammar_of}

-- ---- terminals, by the numbers of `code_of`

abbrev pub token_name : Symbol
token_name = leaf 0

abbrev pub token_number : Symbol
token_number = leaf 1

abbrev pub token_index : Symbol
token_index = leaf 2

abbrev pub token_var : Symbol
token_var = leaf 3

abbrev pub token_post : Symbol
token_post = leaf 4

abbrev pub token_forall : Symbol
token_forall = leaf 5

abbrev pub token_set : Symbol
token_set = leaf 6

abbrev pub token_int : Symbol
token_int = leaf 7

abbrev pub token_real : Symbol
token_real = leaf 8

abbrev pub token_satisfy : Symbol
token_satisfy = leaf 9

abbrev pub token_minimise : Symbol
token_minimise = leaf 10

abbrev pub token_maximise : Symbol
token_maximise = leaf 11

abbrev pub token_if : Symbol
token_if = leaf 12

abbrev pub token_and : Symbol
token_and = leaf 13

abbrev pub token_in : Symbol
token_in = leaf 14

abbrev pub token_for : Symbol
token_for = leaf 15

abbrev pub token_sum : Symbol
token_sum = leaf 16

abbrev pub token_logic : Symbol
token_logic = leaf 17

abbrev pub token_when : Symbol
token_when = leaf 18

abbrev pub token_then : Symbol
token_then = leaf 19

abbrev pub token_alldiff : Symbol
token_alldiff = leaf 20

abbrev pub token_circuit : Symbol
token_circuit = leaf 21

abbrev pub token_element : Symbol
token_element = leaf 22

abbrev pub token_indexsum : Symbol
token_indexsum = leaf 23

abbrev pub token_assign : Symbol
token_assign = leaf 24

abbrev pub token_cumulative : Symbol
token_cumulative = leaf 25

abbrev pub token_disjunctive : Symbol
token_disjunctive = leaf 26

abbrev pub token_packing : Symbol
token_packing = leaf 27

abbrev pub token_implies : Symbol
token_implies = leaf 28

abbrev pub token_iff : Symbol
token_iff = leaf 29

abbrev pub token_or : Symbol
token_or = leaf 30

abbrev pub token_not : Symbol
token_not = leaf 31

abbrev pub token_all : Symbol
token_all = leaf 32

abbrev pub token_any : Symbol
token_any = leaf 33

abbrev pub token_infer : Symbol
token_infer = leaf 34

abbrev pub token_relax : Symbol
token_relax = leaf 35

abbrev pub token_branch : Symbol
token_branch = leaf 36

abbrev pub token_pick : Symbol
token_pick = leaf 37

abbrev pub token_split : Symbol
token_split = leaf 38

abbrev pub token_sub : Symbol
token_sub = leaf 39

abbrev pub token_none : Symbol
token_none = leaf 40

abbrev pub token_bounds : Symbol
token_bounds = leaf 41

abbrev pub token_full : Symbol
token_full = leaf 42

abbrev pub token_on : Symbol
token_on = leaf 43

abbrev pub token_first : Symbol
token_first = leaf 44

abbrev pub token_small : Symbol
token_small = leaf 45

abbrev pub token_point : Symbol
token_point = leaf 46

abbrev pub token_half : Symbol
token_half = leaf 47

abbrev pub token_least : Symbol
token_least = leaf 48

abbrev pub token_most : Symbol
token_most = leaf 49

abbrev pub token_semicolon : Symbol
token_semicolon = leaf 50

abbrev pub token_comma : Symbol
token_comma = leaf 51

abbrev pub token_colon : Symbol
token_colon = leaf 52

abbrev pub token_to : Symbol
token_to = leaf 53

abbrev pub token_less : Symbol
token_less = leaf 54

abbrev pub token_at_most : Symbol
token_at_most = leaf 55

abbrev pub token_greater : Symbol
token_greater = leaf 56

abbrev pub token_at_least : Symbol
token_at_least = leaf 57

abbrev pub token_equal : Symbol
token_equal = leaf 58

abbrev pub token_unequal : Symbol
token_unequal = leaf 59

abbrev pub token_plus : Symbol
token_plus = leaf 60

abbrev pub token_minus : Symbol
token_minus = leaf 61

abbrev pub token_times : Symbol
token_times = leaf 62

abbrev pub token_open_round : Symbol
token_open_round = leaf 63

abbrev pub token_close_round : Symbol
token_close_round = leaf 64

abbrev pub token_open_square : Symbol
token_open_square = leaf 65

abbrev pub token_close_square : Symbol
token_close_square = leaf 66

abbrev pub token_open_brace : Symbol
token_open_brace = leaf 67

abbrev pub token_close_brace : Symbol
token_close_brace = leaf 68

abbrev pub token_end : Symbol
token_end = leaf 69

-- ---- nonterminals: those below 24 are the rules of the language, the others stand for { }, [ ] and ( | )

abbrev pub model : Symbol
model = node 0

abbrev pub item : Symbol
item = node 1

abbrev pub kind : Symbol
kind = node 2

abbrev pub goal : Symbol
goal = node 3

abbrev pub aim : Symbol
aim = node 4

abbrev pub binders : Symbol
binders = node 5

abbrev pub bind : Symbol
bind = node 6

abbrev pub test : Symbol
test = node 7

abbrev pub expr : Symbol
expr = node 8

abbrev pub term : Symbol
term = node 9

abbrev pub factor : Symbol
factor = node 10

abbrev pub cons : Symbol
cons = node 11

abbrev pub cmp : Symbol
cmp = node 12

abbrev pub list : Symbol
list = node 13

abbrev pub choice : Symbol
choice = node 14

abbrev pub ctask : Symbol
ctask = node 15

abbrev pub dtask : Symbol
dtask = node 16

abbrev pub load : Symbol
load = node 17

abbrev pub formula : Symbol
formula = node 18

abbrev pub disj : Symbol
disj = node 19

abbrev pub conj : Symbol
conj = node 20

abbrev pub unit : Symbol
unit = node 21

abbrev pub lit : Symbol
lit = node 22

abbrev pub tag : Symbol
tag = node 23

abbrev pub items : Symbol
items = node 24

abbrev pub family : Symbol
family = node 25

abbrev pub more_sets : Symbol
more_sets = node 26

abbrev pub forall : Symbol
forall = node 27

abbrev pub tags : Symbol
tags = node 28

abbrev pub values : Symbol
values = node 29

abbrev pub more_exprs : Symbol
more_exprs = node 30

abbrev pub more_binds : Symbol
more_binds = node 31

abbrev pub tests : Symbol
tests = node 32

abbrev pub more_tests : Symbol
more_tests = node 33

abbrev pub relation : Symbol
relation = node 34

abbrev pub minus : Symbol
minus = node 35

abbrev pub more_terms : Symbol
more_terms = node 36

abbrev pub sign : Symbol
sign = node 37

abbrev pub more_factors : Symbol
more_factors = node 38

abbrev pub indices : Symbol
indices = node 39

abbrev pub more_lits : Symbol
more_lits = node 40

abbrev pub choosing : Symbol
choosing = node 41

abbrev pub choices : Symbol
choices = node 42

abbrev pub ctasks : Symbol
ctasks = node 43

abbrev pub more_dtasks : Symbol
more_dtasks = node 44

abbrev pub loads : Symbol
loads = node 45

abbrev pub for_each : Symbol
for_each = node 46

abbrev pub presence : Symbol
presence = node 47

abbrev pub conclusion : Symbol
conclusion = node 48

abbrev pub connective : Symbol
connective = node 49

abbrev pub more_conjs : Symbol
more_conjs = node 50

abbrev pub more_units : Symbol
more_units = node 51

abbrev pub quantifier : Symbol
quantifier = node 52

abbrev pub lit_relation : Symbol
lit_relation = node 53

abbrev pub level : Symbol
level = node 54

abbrev pub relaxing : Symbol
relaxing = node 55

abbrev pub picking : Symbol
picking = node 56

abbrev pub splitting : Symbol
splitting = node 57

-- ---- the rules

abbrev pub rows : List Row
rows =
    -- model
    record { alternatives = (items ∷ goal ∷ token_semicolon ∷ []) ∷ []; first = 2 ∷ 3 ∷ 4 ∷ 9 ∷ 10 ∷ 11 ∷ []; follow = 69 ∷ []; nullable = false; sample = 9 ∷ 50 ∷ [] } ∷
    -- item
    record { alternatives = (token_index ∷ token_name ∷ token_equal ∷ expr ∷ token_to ∷ expr ∷ token_semicolon ∷ []) ∷ (token_var ∷ token_name ∷ family ∷ token_colon ∷ kind ∷ token_semicolon ∷ []) ∷ (token_post ∷ forall ∷ cons ∷ tags ∷ token_semicolon ∷ []) ∷ []; first = 2 ∷ 3 ∷ 4 ∷ []; follow = 2 ∷ 3 ∷ 4 ∷ 9 ∷ 10 ∷ 11 ∷ []; nullable = false; sample = 4 ∷ 1 ∷ 55 ∷ 1 ∷ 50 ∷ [] } ∷
    -- kind
    record { alternatives = (token_set ∷ values ∷ []) ∷ (token_int ∷ expr ∷ token_to ∷ expr ∷ []) ∷ (token_real ∷ expr ∷ token_to ∷ expr ∷ []) ∷ []; first = 6 ∷ 7 ∷ 8 ∷ []; follow = 50 ∷ []; nullable = false; sample = 6 ∷ 1 ∷ 53 ∷ 1 ∷ [] } ∷
    -- goal
    record { alternatives = (token_satisfy ∷ []) ∷ (aim ∷ []) ∷ []; first = 9 ∷ 10 ∷ 11 ∷ []; follow = 50 ∷ []; nullable = false; sample = 9 ∷ [] } ∷
    -- aim
    record { alternatives = (token_minimise ∷ expr ∷ []) ∷ (token_maximise ∷ expr ∷ []) ∷ []; first = 10 ∷ 11 ∷ []; follow = 50 ∷ []; nullable = false; sample = 10 ∷ 1 ∷ [] } ∷
    -- binders
    record { alternatives = (bind ∷ more_binds ∷ tests ∷ []) ∷ []; first = 0 ∷ []; follow = 50 ∷ 52 ∷ 64 ∷ 66 ∷ []; nullable = false; sample = 0 ∷ 14 ∷ 0 ∷ [] } ∷
    -- bind
    record { alternatives = (token_name ∷ token_in ∷ token_name ∷ []) ∷ []; first = 0 ∷ []; follow = 12 ∷ 50 ∷ 51 ∷ 52 ∷ 64 ∷ 66 ∷ []; nullable = false; sample = 0 ∷ 14 ∷ 0 ∷ [] } ∷
    -- test
    record { alternatives = (expr ∷ relation ∷ expr ∷ []) ∷ []; first = 0 ∷ 1 ∷ 16 ∷ 61 ∷ 63 ∷ []; follow = 13 ∷ 50 ∷ 52 ∷ 64 ∷ 66 ∷ []; nullable = false; sample = 1 ∷ 54 ∷ 1 ∷ [] } ∷
    -- expr
    record { alternatives = (minus ∷ term ∷ more_terms ∷ []) ∷ []; first = 0 ∷ 1 ∷ 16 ∷ 61 ∷ 63 ∷ []; follow = 13 ∷ 15 ∷ 18 ∷ 34 ∷ 35 ∷ 36 ∷ 37 ∷ 38 ∷ 39 ∷ 50 ∷ 51 ∷ 52 ∷ 53 ∷ 54 ∷ 55 ∷ 56 ∷ 57 ∷ 58 ∷ 59 ∷ 64 ∷ 66 ∷ 68 ∷ []; nullable = false; sample = 1 ∷ [] } ∷
    -- term
    record { alternatives = (factor ∷ more_factors ∷ []) ∷ []; first = 0 ∷ 1 ∷ 16 ∷ 63 ∷ []; follow = 13 ∷ 15 ∷ 18 ∷ 34 ∷ 35 ∷ 36 ∷ 37 ∷ 38 ∷ 39 ∷ 50 ∷ 51 ∷ 52 ∷ 53 ∷ 54 ∷ 55 ∷ 56 ∷ 57 ∷ 58 ∷ 59 ∷ 60 ∷ 61 ∷ 64 ∷ 66 ∷ 68 ∷ []; nullable = false; sample = 1 ∷ [] } ∷
    -- factor
    record { alternatives = (token_number ∷ []) ∷ (token_name ∷ indices ∷ []) ∷ (token_open_round ∷ expr ∷ token_close_round ∷ []) ∷ (token_sum ∷ token_open_round ∷ expr ∷ token_for ∷ binders ∷ token_close_round ∷ []) ∷ []; first = 0 ∷ 1 ∷ 16 ∷ 63 ∷ []; follow = 13 ∷ 15 ∷ 18 ∷ 34 ∷ 35 ∷ 36 ∷ 37 ∷ 38 ∷ 39 ∷ 50 ∷ 51 ∷ 52 ∷ 53 ∷ 54 ∷ 55 ∷ 56 ∷ 57 ∷ 58 ∷ 59 ∷ 60 ∷ 61 ∷ 62 ∷ 64 ∷ 66 ∷ 68 ∷ []; nullable = false; sample = 1 ∷ [] } ∷
    -- cons
    record { alternatives = (expr ∷ cmp ∷ expr ∷ []) ∷ (token_logic ∷ formula ∷ []) ∷ (token_when ∷ lit ∷ more_lits ∷ token_then ∷ expr ∷ cmp ∷ expr ∷ []) ∷ (token_alldiff ∷ token_open_round ∷ list ∷ token_close_round ∷ []) ∷ (token_circuit ∷ token_open_round ∷ list ∷ token_close_round ∷ []) ∷ (token_element ∷ token_open_round ∷ expr ∷ token_comma ∷ token_open_square ∷ list ∷ token_close_square ∷ token_comma ∷ expr ∷ token_close_round ∷ []) ∷ (choosing ∷ token_open_round ∷ expr ∷ choices ∷ token_close_round ∷ []) ∷ (token_cumulative ∷ token_open_round ∷ expr ∷ ctasks ∷ token_close_round ∷ []) ∷ (token_disjunctive ∷ token_open_round ∷ dtask ∷ more_dtasks ∷ token_close_round ∷ []) ∷ (token_packing ∷ token_open_round ∷ expr ∷ token_semicolon ∷ token_open_square ∷ list ∷ token_close_square ∷ token_semicolon ∷ token_open_square ∷ list ∷ token_close_square ∷ loads ∷ token_close_round ∷ []) ∷ []; first = 0 ∷ 1 ∷ 16 ∷ 17 ∷ 18 ∷ 20 ∷ 21 ∷ 22 ∷ 23 ∷ 24 ∷ 25 ∷ 26 ∷ 27 ∷ 61 ∷ 63 ∷ []; follow = 34 ∷ 35 ∷ 36 ∷ 37 ∷ 38 ∷ 39 ∷ 50 ∷ []; nullable = false; sample = 1 ∷ 55 ∷ 1 ∷ [] } ∷
    -- cmp
    record { alternatives = (token_at_most ∷ []) ∷ (token_at_least ∷ []) ∷ (token_equal ∷ []) ∷ []; first = 55 ∷ 57 ∷ 58 ∷ []; follow = 0 ∷ 1 ∷ 16 ∷ 61 ∷ 63 ∷ []; nullable = false; sample = 55 ∷ [] } ∷
    -- list
    record { alternatives = (expr ∷ more_exprs ∷ for_each ∷ []) ∷ []; first = 0 ∷ 1 ∷ 16 ∷ 61 ∷ 63 ∷ []; follow = 64 ∷ 66 ∷ []; nullable = false; sample = 1 ∷ [] } ∷
    -- choice
    record { alternatives = (expr ∷ token_colon ∷ token_open_square ∷ list ∷ token_close_square ∷ for_each ∷ []) ∷ []; first = 0 ∷ 1 ∷ 16 ∷ 61 ∷ 63 ∷ []; follow = 50 ∷ 64 ∷ []; nullable = false; sample = 1 ∷ 52 ∷ 65 ∷ 1 ∷ 66 ∷ [] } ∷
    -- ctask
    record { alternatives = (expr ∷ token_comma ∷ expr ∷ token_comma ∷ expr ∷ presence ∷ for_each ∷ []) ∷ []; first = 0 ∷ 1 ∷ 16 ∷ 61 ∷ 63 ∷ []; follow = 50 ∷ 64 ∷ []; nullable = false; sample = 1 ∷ 51 ∷ 1 ∷ 51 ∷ 1 ∷ [] } ∷
    -- dtask
    record { alternatives = (expr ∷ token_comma ∷ expr ∷ presence ∷ for_each ∷ []) ∷ []; first = 0 ∷ 1 ∷ 16 ∷ 61 ∷ 63 ∷ []; follow = 50 ∷ 64 ∷ []; nullable = false; sample = 1 ∷ 51 ∷ 1 ∷ [] } ∷
    -- load
    record { alternatives = (expr ∷ token_comma ∷ expr ∷ token_comma ∷ token_open_square ∷ list ∷ token_close_square ∷ for_each ∷ []) ∷ []; first = 0 ∷ 1 ∷ 16 ∷ 61 ∷ 63 ∷ []; follow = 50 ∷ 64 ∷ []; nullable = false; sample = 1 ∷ 51 ∷ 1 ∷ 51 ∷ 65 ∷ 1 ∷ 66 ∷ [] } ∷
    -- formula
    record { alternatives = (disj ∷ conclusion ∷ []) ∷ []; first = 31 ∷ 32 ∷ 33 ∷ 63 ∷ 65 ∷ []; follow = 15 ∷ 34 ∷ 35 ∷ 36 ∷ 37 ∷ 38 ∷ 39 ∷ 50 ∷ 64 ∷ []; nullable = false; sample = 65 ∷ 1 ∷ 55 ∷ 1 ∷ 66 ∷ [] } ∷
    -- disj
    record { alternatives = (conj ∷ more_conjs ∷ []) ∷ []; first = 31 ∷ 32 ∷ 33 ∷ 63 ∷ 65 ∷ []; follow = 15 ∷ 28 ∷ 29 ∷ 34 ∷ 35 ∷ 36 ∷ 37 ∷ 38 ∷ 39 ∷ 50 ∷ 64 ∷ []; nullable = false; sample = 65 ∷ 1 ∷ 55 ∷ 1 ∷ 66 ∷ [] } ∷
    -- conj
    record { alternatives = (unit ∷ more_units ∷ []) ∷ []; first = 31 ∷ 32 ∷ 33 ∷ 63 ∷ 65 ∷ []; follow = 15 ∷ 28 ∷ 29 ∷ 30 ∷ 34 ∷ 35 ∷ 36 ∷ 37 ∷ 38 ∷ 39 ∷ 50 ∷ 64 ∷ []; nullable = false; sample = 65 ∷ 1 ∷ 55 ∷ 1 ∷ 66 ∷ [] } ∷
    -- unit
    record { alternatives = (lit ∷ []) ∷ (token_not ∷ unit ∷ []) ∷ (token_open_round ∷ formula ∷ token_close_round ∷ []) ∷ (quantifier ∷ token_open_round ∷ formula ∷ token_for ∷ binders ∷ token_close_round ∷ []) ∷ []; first = 31 ∷ 32 ∷ 33 ∷ 63 ∷ 65 ∷ []; follow = 13 ∷ 15 ∷ 28 ∷ 29 ∷ 30 ∷ 34 ∷ 35 ∷ 36 ∷ 37 ∷ 38 ∷ 39 ∷ 50 ∷ 64 ∷ []; nullable = false; sample = 65 ∷ 1 ∷ 55 ∷ 1 ∷ 66 ∷ [] } ∷
    -- lit
    record { alternatives = (token_open_square ∷ expr ∷ lit_relation ∷ expr ∷ token_close_square ∷ []) ∷ []; first = 65 ∷ []; follow = 13 ∷ 15 ∷ 19 ∷ 28 ∷ 29 ∷ 30 ∷ 34 ∷ 35 ∷ 36 ∷ 37 ∷ 38 ∷ 39 ∷ 50 ∷ 51 ∷ 64 ∷ []; nullable = false; sample = 65 ∷ 1 ∷ 55 ∷ 1 ∷ 66 ∷ [] } ∷
    -- tag
    record { alternatives = (token_infer ∷ level ∷ []) ∷ (token_relax ∷ relaxing ∷ []) ∷ (token_branch ∷ token_number ∷ []) ∷ (token_pick ∷ picking ∷ []) ∷ (token_split ∷ splitting ∷ []) ∷ (token_sub ∷ expr ∷ []) ∷ []; first = 34 ∷ 35 ∷ 36 ∷ 37 ∷ 38 ∷ 39 ∷ []; follow = 34 ∷ 35 ∷ 36 ∷ 37 ∷ 38 ∷ 39 ∷ 50 ∷ []; nullable = false; sample = 36 ∷ 1 ∷ [] } ∷
    -- items
    record { alternatives = (item ∷ items ∷ []) ∷ ([]) ∷ []; first = 2 ∷ 3 ∷ 4 ∷ []; follow = 9 ∷ 10 ∷ 11 ∷ []; nullable = true; sample = [] } ∷
    -- family
    record { alternatives = (token_open_square ∷ token_name ∷ more_sets ∷ token_close_square ∷ []) ∷ ([]) ∷ []; first = 65 ∷ []; follow = 52 ∷ []; nullable = true; sample = [] } ∷
    -- more_sets
    record { alternatives = (token_comma ∷ token_name ∷ more_sets ∷ []) ∷ ([]) ∷ []; first = 51 ∷ []; follow = 66 ∷ []; nullable = true; sample = [] } ∷
    -- forall
    record { alternatives = (token_forall ∷ binders ∷ token_colon ∷ []) ∷ ([]) ∷ []; first = 5 ∷ []; follow = 0 ∷ 1 ∷ 16 ∷ 17 ∷ 18 ∷ 20 ∷ 21 ∷ 22 ∷ 23 ∷ 24 ∷ 25 ∷ 26 ∷ 27 ∷ 61 ∷ 63 ∷ []; nullable = true; sample = [] } ∷
    -- tags
    record { alternatives = (tag ∷ tags ∷ []) ∷ ([]) ∷ []; first = 34 ∷ 35 ∷ 36 ∷ 37 ∷ 38 ∷ 39 ∷ []; follow = 50 ∷ []; nullable = true; sample = [] } ∷
    -- values
    record { alternatives = (expr ∷ token_to ∷ expr ∷ []) ∷ (token_open_brace ∷ expr ∷ more_exprs ∷ token_close_brace ∷ []) ∷ []; first = 0 ∷ 1 ∷ 16 ∷ 61 ∷ 63 ∷ 67 ∷ []; follow = 50 ∷ []; nullable = false; sample = 1 ∷ 53 ∷ 1 ∷ [] } ∷
    -- more_exprs
    record { alternatives = (token_comma ∷ expr ∷ more_exprs ∷ []) ∷ ([]) ∷ []; first = 51 ∷ []; follow = 15 ∷ 64 ∷ 66 ∷ 68 ∷ []; nullable = true; sample = [] } ∷
    -- more_binds
    record { alternatives = (token_comma ∷ bind ∷ more_binds ∷ []) ∷ ([]) ∷ []; first = 51 ∷ []; follow = 12 ∷ 50 ∷ 52 ∷ 64 ∷ 66 ∷ []; nullable = true; sample = [] } ∷
    -- tests
    record { alternatives = (token_if ∷ test ∷ more_tests ∷ []) ∷ ([]) ∷ []; first = 12 ∷ []; follow = 50 ∷ 52 ∷ 64 ∷ 66 ∷ []; nullable = true; sample = [] } ∷
    -- more_tests
    record { alternatives = (token_and ∷ test ∷ more_tests ∷ []) ∷ ([]) ∷ []; first = 13 ∷ []; follow = 50 ∷ 52 ∷ 64 ∷ 66 ∷ []; nullable = true; sample = [] } ∷
    -- relation
    record { alternatives = (token_less ∷ []) ∷ (token_at_most ∷ []) ∷ (token_greater ∷ []) ∷ (token_at_least ∷ []) ∷ (token_equal ∷ []) ∷ (token_unequal ∷ []) ∷ []; first = 54 ∷ 55 ∷ 56 ∷ 57 ∷ 58 ∷ 59 ∷ []; follow = 0 ∷ 1 ∷ 16 ∷ 61 ∷ 63 ∷ []; nullable = false; sample = 54 ∷ [] } ∷
    -- minus
    record { alternatives = (token_minus ∷ []) ∷ ([]) ∷ []; first = 61 ∷ []; follow = 0 ∷ 1 ∷ 16 ∷ 63 ∷ []; nullable = true; sample = [] } ∷
    -- more_terms
    record { alternatives = (sign ∷ term ∷ more_terms ∷ []) ∷ ([]) ∷ []; first = 60 ∷ 61 ∷ []; follow = 13 ∷ 15 ∷ 18 ∷ 34 ∷ 35 ∷ 36 ∷ 37 ∷ 38 ∷ 39 ∷ 50 ∷ 51 ∷ 52 ∷ 53 ∷ 54 ∷ 55 ∷ 56 ∷ 57 ∷ 58 ∷ 59 ∷ 64 ∷ 66 ∷ 68 ∷ []; nullable = true; sample = [] } ∷
    -- sign
    record { alternatives = (token_plus ∷ []) ∷ (token_minus ∷ []) ∷ []; first = 60 ∷ 61 ∷ []; follow = 0 ∷ 1 ∷ 16 ∷ 63 ∷ []; nullable = false; sample = 60 ∷ [] } ∷
    -- more_factors
    record { alternatives = (token_times ∷ factor ∷ more_factors ∷ []) ∷ ([]) ∷ []; first = 62 ∷ []; follow = 13 ∷ 15 ∷ 18 ∷ 34 ∷ 35 ∷ 36 ∷ 37 ∷ 38 ∷ 39 ∷ 50 ∷ 51 ∷ 52 ∷ 53 ∷ 54 ∷ 55 ∷ 56 ∷ 57 ∷ 58 ∷ 59 ∷ 60 ∷ 61 ∷ 64 ∷ 66 ∷ 68 ∷ []; nullable = true; sample = [] } ∷
    -- indices
    record { alternatives = (token_open_square ∷ expr ∷ more_exprs ∷ token_close_square ∷ []) ∷ ([]) ∷ []; first = 65 ∷ []; follow = 13 ∷ 15 ∷ 18 ∷ 34 ∷ 35 ∷ 36 ∷ 37 ∷ 38 ∷ 39 ∷ 50 ∷ 51 ∷ 52 ∷ 53 ∷ 54 ∷ 55 ∷ 56 ∷ 57 ∷ 58 ∷ 59 ∷ 60 ∷ 61 ∷ 62 ∷ 64 ∷ 66 ∷ 68 ∷ []; nullable = true; sample = [] } ∷
    -- more_lits
    record { alternatives = (token_comma ∷ lit ∷ more_lits ∷ []) ∷ ([]) ∷ []; first = 51 ∷ []; follow = 19 ∷ []; nullable = true; sample = [] } ∷
    -- choosing
    record { alternatives = (token_indexsum ∷ []) ∷ (token_assign ∷ []) ∷ []; first = 23 ∷ 24 ∷ []; follow = 63 ∷ []; nullable = false; sample = 23 ∷ [] } ∷
    -- choices
    record { alternatives = (token_semicolon ∷ choice ∷ choices ∷ []) ∷ ([]) ∷ []; first = 50 ∷ []; follow = 64 ∷ []; nullable = true; sample = [] } ∷
    -- ctasks
    record { alternatives = (token_semicolon ∷ ctask ∷ ctasks ∷ []) ∷ ([]) ∷ []; first = 50 ∷ []; follow = 64 ∷ []; nullable = true; sample = [] } ∷
    -- more_dtasks
    record { alternatives = (token_semicolon ∷ dtask ∷ more_dtasks ∷ []) ∷ ([]) ∷ []; first = 50 ∷ []; follow = 64 ∷ []; nullable = true; sample = [] } ∷
    -- loads
    record { alternatives = (token_semicolon ∷ load ∷ loads ∷ []) ∷ ([]) ∷ []; first = 50 ∷ []; follow = 64 ∷ []; nullable = true; sample = [] } ∷
    -- for_each
    record { alternatives = (token_for ∷ binders ∷ []) ∷ ([]) ∷ []; first = 15 ∷ []; follow = 50 ∷ 64 ∷ 66 ∷ []; nullable = true; sample = [] } ∷
    -- presence
    record { alternatives = (token_when ∷ lit ∷ []) ∷ ([]) ∷ []; first = 18 ∷ []; follow = 15 ∷ 50 ∷ 64 ∷ []; nullable = true; sample = [] } ∷
    -- conclusion
    record { alternatives = (connective ∷ disj ∷ []) ∷ ([]) ∷ []; first = 28 ∷ 29 ∷ []; follow = 15 ∷ 34 ∷ 35 ∷ 36 ∷ 37 ∷ 38 ∷ 39 ∷ 50 ∷ 64 ∷ []; nullable = true; sample = [] } ∷
    -- connective
    record { alternatives = (token_implies ∷ []) ∷ (token_iff ∷ []) ∷ []; first = 28 ∷ 29 ∷ []; follow = 31 ∷ 32 ∷ 33 ∷ 63 ∷ 65 ∷ []; nullable = false; sample = 28 ∷ [] } ∷
    -- more_conjs
    record { alternatives = (token_or ∷ conj ∷ more_conjs ∷ []) ∷ ([]) ∷ []; first = 30 ∷ []; follow = 15 ∷ 28 ∷ 29 ∷ 34 ∷ 35 ∷ 36 ∷ 37 ∷ 38 ∷ 39 ∷ 50 ∷ 64 ∷ []; nullable = true; sample = [] } ∷
    -- more_units
    record { alternatives = (token_and ∷ unit ∷ more_units ∷ []) ∷ ([]) ∷ []; first = 13 ∷ []; follow = 15 ∷ 28 ∷ 29 ∷ 30 ∷ 34 ∷ 35 ∷ 36 ∷ 37 ∷ 38 ∷ 39 ∷ 50 ∷ 64 ∷ []; nullable = true; sample = [] } ∷
    -- quantifier
    record { alternatives = (token_all ∷ []) ∷ (token_any ∷ []) ∷ []; first = 32 ∷ 33 ∷ []; follow = 63 ∷ []; nullable = false; sample = 32 ∷ [] } ∷
    -- lit_relation
    record { alternatives = (token_at_most ∷ []) ∷ (token_at_least ∷ []) ∷ (token_equal ∷ []) ∷ (token_unequal ∷ []) ∷ []; first = 55 ∷ 57 ∷ 58 ∷ 59 ∷ []; follow = 0 ∷ 1 ∷ 16 ∷ 61 ∷ 63 ∷ []; nullable = false; sample = 55 ∷ [] } ∷
    -- level
    record { alternatives = (token_none ∷ []) ∷ (token_bounds ∷ []) ∷ (token_full ∷ []) ∷ []; first = 40 ∷ 41 ∷ 42 ∷ []; follow = 34 ∷ 35 ∷ 36 ∷ 37 ∷ 38 ∷ 39 ∷ 50 ∷ []; nullable = false; sample = 40 ∷ [] } ∷
    -- relaxing
    record { alternatives = (token_on ∷ []) ∷ (token_none ∷ []) ∷ []; first = 40 ∷ 43 ∷ []; follow = 34 ∷ 35 ∷ 36 ∷ 37 ∷ 38 ∷ 39 ∷ 50 ∷ []; nullable = false; sample = 43 ∷ [] } ∷
    -- picking
    record { alternatives = (token_first ∷ []) ∷ (token_small ∷ []) ∷ (token_point ∷ []) ∷ []; first = 44 ∷ 45 ∷ 46 ∷ []; follow = 34 ∷ 35 ∷ 36 ∷ 37 ∷ 38 ∷ 39 ∷ 50 ∷ []; nullable = false; sample = 44 ∷ [] } ∷
    -- splitting
    record { alternatives = (token_half ∷ []) ∷ (token_least ∷ []) ∷ (token_most ∷ []) ∷ []; first = 47 ∷ 48 ∷ 49 ∷ []; follow = 34 ∷ 35 ∷ 36 ∷ 37 ∷ 38 ∷ 39 ∷ 50 ∷ []; nullable = false; sample = 47 ∷ [] } ∷
    []

unfoldable pub grammar : Grammar
grammar = grammar_of rows

-- a whole text: a model, and the end
abbrev pub start : List Symbol
start = model ∷ token_end ∷ []
