-- What the next token chooses.
use Rattle.std.proofs.Common.{◌≡◌, ◌∙◌, sym, subst, refl, ℕ, Bool, true, false, List, [], ◌∷◌, Some, None, if◌then◌else◌, eqb-true}
use Rattle.sm_syntax.specs.declared.terminal.Terminal.{Terminal}
use Rattle.sm_syntax.specs.declared.terminal.Terminal.TheVariants as terminal
use Rattle.sm_syntax.specs.Terminals.{code_of}
use Rattle.sm_syntax.specs.Grammars.{Symbol, predict, starts, first_some}
use Rattle.sm_syntax.specs.Grammar as g
use Rattle.sm_syntax.specs.Reading.{Standing, next, is_next}
use Rattle.sm_syntax.specs.Symbols.{begins_item, begins_sign, begins_tag}

-- ---- rules with one alternative

either_way : (b : Bool) (r : List Symbol) → first_some (if b then Some r else None) (Some r) ≡ Some r
either_way true r = refl
either_way false r = refl

pub model_any : (c : ℕ) → predict g.grammar 0 c ≡ Some (g.items ∷ g.goal ∷ g.token_semicolon ∷ [])
unfolding g.grammar
model_any c = either_way (starts g.grammar (g.items ∷ g.goal ∷ g.token_semicolon ∷ []) c) (g.items ∷ g.goal ∷ g.token_semicolon ∷ [])

pub binders_any : (c : ℕ) → predict g.grammar 5 c ≡ Some (g.bind ∷ g.more_binds ∷ g.tests ∷ [])
unfolding g.grammar
binders_any c = either_way (starts g.grammar (g.bind ∷ g.more_binds ∷ g.tests ∷ []) c) (g.bind ∷ g.more_binds ∷ g.tests ∷ [])

pub bind_any : (c : ℕ) → predict g.grammar 6 c ≡ Some (g.token_name ∷ g.token_in ∷ g.token_name ∷ [])
unfolding g.grammar
bind_any c = either_way (starts g.grammar (g.token_name ∷ g.token_in ∷ g.token_name ∷ []) c) (g.token_name ∷ g.token_in ∷ g.token_name ∷ [])

pub test_any : (c : ℕ) → predict g.grammar 7 c ≡ Some (g.expr ∷ g.relation ∷ g.expr ∷ [])
unfolding g.grammar
test_any c = either_way (starts g.grammar (g.expr ∷ g.relation ∷ g.expr ∷ []) c) (g.expr ∷ g.relation ∷ g.expr ∷ [])

pub expr_any : (c : ℕ) → predict g.grammar 8 c ≡ Some (g.minus ∷ g.term ∷ g.more_terms ∷ [])
unfolding g.grammar
expr_any c = either_way (starts g.grammar (g.minus ∷ g.term ∷ g.more_terms ∷ []) c) (g.minus ∷ g.term ∷ g.more_terms ∷ [])

pub term_any : (c : ℕ) → predict g.grammar 9 c ≡ Some (g.factor ∷ g.more_factors ∷ [])
unfolding g.grammar
term_any c = either_way (starts g.grammar (g.factor ∷ g.more_factors ∷ []) c) (g.factor ∷ g.more_factors ∷ [])

pub list_any : (c : ℕ) → predict g.grammar 13 c ≡ Some (g.expr ∷ g.more_exprs ∷ g.for_each ∷ [])
unfolding g.grammar
list_any c = either_way (starts g.grammar (g.expr ∷ g.more_exprs ∷ g.for_each ∷ []) c) (g.expr ∷ g.more_exprs ∷ g.for_each ∷ [])

pub choice_any : (c : ℕ) → predict g.grammar 14 c ≡ Some (g.expr ∷ g.token_colon ∷ g.token_open_square ∷ g.list ∷ g.token_close_square ∷ g.for_each ∷ [])
unfolding g.grammar
choice_any c = either_way (starts g.grammar (g.expr ∷ g.token_colon ∷ g.token_open_square ∷ g.list ∷ g.token_close_square ∷ g.for_each ∷ []) c) (g.expr ∷ g.token_colon ∷ g.token_open_square ∷ g.list ∷ g.token_close_square ∷ g.for_each ∷ [])

pub ctask_any : (c : ℕ) → predict g.grammar 15 c ≡ Some (g.expr ∷ g.token_comma ∷ g.expr ∷ g.token_comma ∷ g.expr ∷ g.presence ∷ g.for_each ∷ [])
unfolding g.grammar
ctask_any c = either_way (starts g.grammar (g.expr ∷ g.token_comma ∷ g.expr ∷ g.token_comma ∷ g.expr ∷ g.presence ∷ g.for_each ∷ []) c) (g.expr ∷ g.token_comma ∷ g.expr ∷ g.token_comma ∷ g.expr ∷ g.presence ∷ g.for_each ∷ [])

pub dtask_any : (c : ℕ) → predict g.grammar 16 c ≡ Some (g.expr ∷ g.token_comma ∷ g.expr ∷ g.presence ∷ g.for_each ∷ [])
unfolding g.grammar
dtask_any c = either_way (starts g.grammar (g.expr ∷ g.token_comma ∷ g.expr ∷ g.presence ∷ g.for_each ∷ []) c) (g.expr ∷ g.token_comma ∷ g.expr ∷ g.presence ∷ g.for_each ∷ [])

pub load_any : (c : ℕ) → predict g.grammar 17 c ≡ Some (g.expr ∷ g.token_comma ∷ g.expr ∷ g.token_comma ∷ g.token_open_square ∷ g.list ∷ g.token_close_square ∷ g.for_each ∷ [])
unfolding g.grammar
load_any c = either_way (starts g.grammar (g.expr ∷ g.token_comma ∷ g.expr ∷ g.token_comma ∷ g.token_open_square ∷ g.list ∷ g.token_close_square ∷ g.for_each ∷ []) c) (g.expr ∷ g.token_comma ∷ g.expr ∷ g.token_comma ∷ g.token_open_square ∷ g.list ∷ g.token_close_square ∷ g.for_each ∷ [])

pub formula_any : (c : ℕ) → predict g.grammar 18 c ≡ Some (g.disj ∷ g.conclusion ∷ [])
unfolding g.grammar
formula_any c = either_way (starts g.grammar (g.disj ∷ g.conclusion ∷ []) c) (g.disj ∷ g.conclusion ∷ [])

pub disj_any : (c : ℕ) → predict g.grammar 19 c ≡ Some (g.conj ∷ g.more_conjs ∷ [])
unfolding g.grammar
disj_any c = either_way (starts g.grammar (g.conj ∷ g.more_conjs ∷ []) c) (g.conj ∷ g.more_conjs ∷ [])

pub conj_any : (c : ℕ) → predict g.grammar 20 c ≡ Some (g.unit ∷ g.more_units ∷ [])
unfolding g.grammar
conj_any c = either_way (starts g.grammar (g.unit ∷ g.more_units ∷ []) c) (g.unit ∷ g.more_units ∷ [])

pub lit_any : (c : ℕ) → predict g.grammar 22 c ≡ Some (g.token_open_square ∷ g.expr ∷ g.lit_relation ∷ g.expr ∷ g.token_close_square ∷ [])
unfolding g.grammar
lit_any c = either_way (starts g.grammar (g.token_open_square ∷ g.expr ∷ g.lit_relation ∷ g.expr ∷ g.token_close_square ∷ []) c) (g.token_open_square ∷ g.expr ∷ g.lit_relation ∷ g.expr ∷ g.token_close_square ∷ [])

-- ---- what may be there or not, by its first token

pub family_some : (s : Standing) → is_next terminal.OpenSquare s ≡ true → predict g.grammar 25 (next s) ≡ Some (g.token_open_square ∷ g.token_name ∷ g.more_sets ∷ g.token_close_square ∷ [])
unfolding g.grammar
family_some s h = rw h refl

pub family_none : (s : Standing) → is_next terminal.OpenSquare s ≡ false → predict g.grammar 25 (next s) ≡ Some []
unfolding g.grammar
family_none s h = rw h refl

pub more_sets_some : (s : Standing) → is_next terminal.Comma s ≡ true → predict g.grammar 26 (next s) ≡ Some (g.token_comma ∷ g.token_name ∷ g.more_sets ∷ [])
unfolding g.grammar
more_sets_some s h = rw h refl

pub more_sets_none : (s : Standing) → is_next terminal.Comma s ≡ false → predict g.grammar 26 (next s) ≡ Some []
unfolding g.grammar
more_sets_none s h = rw h refl

pub forall_some : (s : Standing) → is_next terminal.Forall s ≡ true → predict g.grammar 27 (next s) ≡ Some (g.token_forall ∷ g.binders ∷ g.token_colon ∷ [])
unfolding g.grammar
forall_some s h = rw h refl

pub forall_none : (s : Standing) → is_next terminal.Forall s ≡ false → predict g.grammar 27 (next s) ≡ Some []
unfolding g.grammar
forall_none s h = rw h refl

pub more_exprs_some : (s : Standing) → is_next terminal.Comma s ≡ true → predict g.grammar 30 (next s) ≡ Some (g.token_comma ∷ g.expr ∷ g.more_exprs ∷ [])
unfolding g.grammar
more_exprs_some s h = rw h refl

pub more_exprs_none : (s : Standing) → is_next terminal.Comma s ≡ false → predict g.grammar 30 (next s) ≡ Some []
unfolding g.grammar
more_exprs_none s h = rw h refl

pub more_binds_some : (s : Standing) → is_next terminal.Comma s ≡ true → predict g.grammar 31 (next s) ≡ Some (g.token_comma ∷ g.bind ∷ g.more_binds ∷ [])
unfolding g.grammar
more_binds_some s h = rw h refl

pub more_binds_none : (s : Standing) → is_next terminal.Comma s ≡ false → predict g.grammar 31 (next s) ≡ Some []
unfolding g.grammar
more_binds_none s h = rw h refl

pub tests_some : (s : Standing) → is_next terminal.If s ≡ true → predict g.grammar 32 (next s) ≡ Some (g.token_if ∷ g.test ∷ g.more_tests ∷ [])
unfolding g.grammar
tests_some s h = rw h refl

pub tests_none : (s : Standing) → is_next terminal.If s ≡ false → predict g.grammar 32 (next s) ≡ Some []
unfolding g.grammar
tests_none s h = rw h refl

pub more_tests_some : (s : Standing) → is_next terminal.And s ≡ true → predict g.grammar 33 (next s) ≡ Some (g.token_and ∷ g.test ∷ g.more_tests ∷ [])
unfolding g.grammar
more_tests_some s h = rw h refl

pub more_tests_none : (s : Standing) → is_next terminal.And s ≡ false → predict g.grammar 33 (next s) ≡ Some []
unfolding g.grammar
more_tests_none s h = rw h refl

pub minus_some : (s : Standing) → is_next terminal.Minus s ≡ true → predict g.grammar 35 (next s) ≡ Some (g.token_minus ∷ [])
unfolding g.grammar
minus_some s h = rw h refl

pub minus_none : (s : Standing) → is_next terminal.Minus s ≡ false → predict g.grammar 35 (next s) ≡ Some []
unfolding g.grammar
minus_none s h = rw h refl

pub more_factors_some : (s : Standing) → is_next terminal.Times s ≡ true → predict g.grammar 38 (next s) ≡ Some (g.token_times ∷ g.factor ∷ g.more_factors ∷ [])
unfolding g.grammar
more_factors_some s h = rw h refl

pub more_factors_none : (s : Standing) → is_next terminal.Times s ≡ false → predict g.grammar 38 (next s) ≡ Some []
unfolding g.grammar
more_factors_none s h = rw h refl

pub indices_some : (s : Standing) → is_next terminal.OpenSquare s ≡ true → predict g.grammar 39 (next s) ≡ Some (g.token_open_square ∷ g.expr ∷ g.more_exprs ∷ g.token_close_square ∷ [])
unfolding g.grammar
indices_some s h = rw h refl

pub indices_none : (s : Standing) → is_next terminal.OpenSquare s ≡ false → predict g.grammar 39 (next s) ≡ Some []
unfolding g.grammar
indices_none s h = rw h refl

pub more_lits_some : (s : Standing) → is_next terminal.Comma s ≡ true → predict g.grammar 40 (next s) ≡ Some (g.token_comma ∷ g.lit ∷ g.more_lits ∷ [])
unfolding g.grammar
more_lits_some s h = rw h refl

pub more_lits_none : (s : Standing) → is_next terminal.Comma s ≡ false → predict g.grammar 40 (next s) ≡ Some []
unfolding g.grammar
more_lits_none s h = rw h refl

pub choices_some : (s : Standing) → is_next terminal.Semicolon s ≡ true → predict g.grammar 42 (next s) ≡ Some (g.token_semicolon ∷ g.choice ∷ g.choices ∷ [])
unfolding g.grammar
choices_some s h = rw h refl

pub choices_none : (s : Standing) → is_next terminal.Semicolon s ≡ false → predict g.grammar 42 (next s) ≡ Some []
unfolding g.grammar
choices_none s h = rw h refl

pub ctasks_some : (s : Standing) → is_next terminal.Semicolon s ≡ true → predict g.grammar 43 (next s) ≡ Some (g.token_semicolon ∷ g.ctask ∷ g.ctasks ∷ [])
unfolding g.grammar
ctasks_some s h = rw h refl

pub ctasks_none : (s : Standing) → is_next terminal.Semicolon s ≡ false → predict g.grammar 43 (next s) ≡ Some []
unfolding g.grammar
ctasks_none s h = rw h refl

pub more_dtasks_some : (s : Standing) → is_next terminal.Semicolon s ≡ true → predict g.grammar 44 (next s) ≡ Some (g.token_semicolon ∷ g.dtask ∷ g.more_dtasks ∷ [])
unfolding g.grammar
more_dtasks_some s h = rw h refl

pub more_dtasks_none : (s : Standing) → is_next terminal.Semicolon s ≡ false → predict g.grammar 44 (next s) ≡ Some []
unfolding g.grammar
more_dtasks_none s h = rw h refl

pub loads_some : (s : Standing) → is_next terminal.Semicolon s ≡ true → predict g.grammar 45 (next s) ≡ Some (g.token_semicolon ∷ g.load ∷ g.loads ∷ [])
unfolding g.grammar
loads_some s h = rw h refl

pub loads_none : (s : Standing) → is_next terminal.Semicolon s ≡ false → predict g.grammar 45 (next s) ≡ Some []
unfolding g.grammar
loads_none s h = rw h refl

pub for_each_some : (s : Standing) → is_next terminal.For s ≡ true → predict g.grammar 46 (next s) ≡ Some (g.token_for ∷ g.binders ∷ [])
unfolding g.grammar
for_each_some s h = rw h refl

pub for_each_none : (s : Standing) → is_next terminal.For s ≡ false → predict g.grammar 46 (next s) ≡ Some []
unfolding g.grammar
for_each_none s h = rw h refl

pub presence_some : (s : Standing) → is_next terminal.When s ≡ true → predict g.grammar 47 (next s) ≡ Some (g.token_when ∷ g.lit ∷ [])
unfolding g.grammar
presence_some s h = rw h refl

pub presence_none : (s : Standing) → is_next terminal.When s ≡ false → predict g.grammar 47 (next s) ≡ Some []
unfolding g.grammar
presence_none s h = rw h refl

pub more_conjs_some : (s : Standing) → is_next terminal.Or s ≡ true → predict g.grammar 50 (next s) ≡ Some (g.token_or ∷ g.conj ∷ g.more_conjs ∷ [])
unfolding g.grammar
more_conjs_some s h = rw h refl

pub more_conjs_none : (s : Standing) → is_next terminal.Or s ≡ false → predict g.grammar 50 (next s) ≡ Some []
unfolding g.grammar
more_conjs_none s h = rw h refl

pub more_units_some : (s : Standing) → is_next terminal.And s ≡ true → predict g.grammar 51 (next s) ≡ Some (g.token_and ∷ g.unit ∷ g.more_units ∷ [])
unfolding g.grammar
more_units_some s h = rw h refl

pub more_units_none : (s : Standing) → is_next terminal.And s ≡ false → predict g.grammar 51 (next s) ≡ Some []
unfolding g.grammar
more_units_none s h = rw h refl

pub items_some : (t : Terminal) → begins_item t ≡ true → predict g.grammar 24 (code_of t) ≡ Some (g.item ∷ g.items ∷ [])
unfolding g.grammar
items_some terminal.Index h = refl
items_some terminal.Var h = refl
items_some terminal.Post h = refl
items_some _ h = let wrong : false ≡ true = h in cc

pub items_none : (t : Terminal) → begins_item t ≡ false → predict g.grammar 24 (code_of t) ≡ Some []
unfolding g.grammar
items_none terminal.Index h = let wrong : true ≡ false = h in cc
items_none terminal.Var h = let wrong : true ≡ false = h in cc
items_none terminal.Post h = let wrong : true ≡ false = h in cc
items_none _ h = refl

pub tags_some : (t : Terminal) → begins_tag t ≡ true → predict g.grammar 28 (code_of t) ≡ Some (g.tag ∷ g.tags ∷ [])
unfolding g.grammar
tags_some terminal.Infer h = refl
tags_some terminal.Relax h = refl
tags_some terminal.Branch h = refl
tags_some terminal.Pick h = refl
tags_some terminal.Split h = refl
tags_some terminal.Sub h = refl
tags_some _ h = let wrong : false ≡ true = h in cc

pub tags_none : (t : Terminal) → begins_tag t ≡ false → predict g.grammar 28 (code_of t) ≡ Some []
unfolding g.grammar
tags_none terminal.Infer h = let wrong : true ≡ false = h in cc
tags_none terminal.Relax h = let wrong : true ≡ false = h in cc
tags_none terminal.Branch h = let wrong : true ≡ false = h in cc
tags_none terminal.Pick h = let wrong : true ≡ false = h in cc
tags_none terminal.Split h = let wrong : true ≡ false = h in cc
tags_none terminal.Sub h = let wrong : true ≡ false = h in cc
tags_none _ h = refl

pub more_terms_some : (t : Terminal) → begins_sign t ≡ true → predict g.grammar 36 (code_of t) ≡ Some (g.sign ∷ g.term ∷ g.more_terms ∷ [])
unfolding g.grammar
more_terms_some terminal.Plus h = refl
more_terms_some terminal.Minus h = refl
more_terms_some _ h = let wrong : false ≡ true = h in cc

pub more_terms_none : (t : Terminal) → begins_sign t ≡ false → predict g.grammar 36 (code_of t) ≡ Some []
unfolding g.grammar
more_terms_none terminal.Plus h = let wrong : true ≡ false = h in cc
more_terms_none terminal.Minus h = let wrong : true ≡ false = h in cc
more_terms_none _ h = refl

pub conclusion_implies : (s : Standing) → is_next terminal.Implies s ≡ true → predict g.grammar 48 (next s) ≡ Some (g.connective ∷ g.disj ∷ [])
unfolding g.grammar
conclusion_implies s h = rw h refl

pub conclusion_iff : (s : Standing) → is_next terminal.Implies s ≡ false → is_next terminal.Iff s ≡ true → predict g.grammar 48 (next s) ≡ Some (g.connective ∷ g.disj ∷ [])
unfolding g.grammar
conclusion_iff s h k = rw (h, k) refl

pub conclusion_none : (s : Standing) → is_next terminal.Implies s ≡ false → is_next terminal.Iff s ≡ false → predict g.grammar 48 (next s) ≡ Some []
unfolding g.grammar
conclusion_none s h k = rw (h, k) refl

pub connective_implies : (s : Standing) → is_next terminal.Implies s ≡ true → predict g.grammar 49 (next s) ≡ Some (g.token_implies ∷ [])
unfolding g.grammar
connective_implies s h = rw h refl

pub connective_iff : (s : Standing) → is_next terminal.Implies s ≡ false → is_next terminal.Iff s ≡ true → predict g.grammar 49 (next s) ≡ Some (g.token_iff ∷ [])
unfolding g.grammar
connective_iff s h k = rw (h, k) refl

-- ---- one of several alternatives

factor_at_name : predict g.grammar 10 0 ≡ Some (g.token_name ∷ g.indices ∷ [])
unfolding g.grammar
factor_at_name = refl

pub factor_name : (s : Standing) (t : Terminal) → t ≡ s.first.terminal → t ≡ terminal.Name → predict g.grammar 10 (next s) ≡ Some (g.token_name ∷ g.indices ∷ [])
factor_name s t first is = subst (λ (x : Terminal). predict g.grammar 10 (code_of x) ≡ Some (g.token_name ∷ g.indices ∷ [])) (sym is ∙ first) factor_at_name

factor_at_open_round : predict g.grammar 10 63 ≡ Some (g.token_open_round ∷ g.expr ∷ g.token_close_round ∷ [])
unfolding g.grammar
factor_at_open_round = refl

pub factor_open_round : (s : Standing) (t : Terminal) → t ≡ s.first.terminal → t ≡ terminal.OpenRound → predict g.grammar 10 (next s) ≡ Some (g.token_open_round ∷ g.expr ∷ g.token_close_round ∷ [])
factor_open_round s t first is = subst (λ (x : Terminal). predict g.grammar 10 (code_of x) ≡ Some (g.token_open_round ∷ g.expr ∷ g.token_close_round ∷ [])) (sym is ∙ first) factor_at_open_round

factor_at_sum : predict g.grammar 10 16 ≡ Some (g.token_sum ∷ g.token_open_round ∷ g.expr ∷ g.token_for ∷ g.binders ∷ g.token_close_round ∷ [])
unfolding g.grammar
factor_at_sum = refl

pub factor_sum : (s : Standing) (t : Terminal) → t ≡ s.first.terminal → t ≡ terminal.Sum → predict g.grammar 10 (next s) ≡ Some (g.token_sum ∷ g.token_open_round ∷ g.expr ∷ g.token_for ∷ g.binders ∷ g.token_close_round ∷ [])
factor_sum s t first is = subst (λ (x : Terminal). predict g.grammar 10 (code_of x) ≡ Some (g.token_sum ∷ g.token_open_round ∷ g.expr ∷ g.token_for ∷ g.binders ∷ g.token_close_round ∷ [])) (sym is ∙ first) factor_at_sum

factor_default : (t : Terminal) → (t ≡ terminal.Name → ⊥) → (t ≡ terminal.OpenRound → ⊥) → (t ≡ terminal.Sum → ⊥) → predict g.grammar 10 (code_of t) ≡ Some (g.token_number ∷ [])
unfolding g.grammar
factor_default terminal.Name h0 h1 h2 = absurd (h0 refl)
factor_default terminal.OpenRound h0 h1 h2 = absurd (h1 refl)
factor_default terminal.Sum h0 h1 h2 = absurd (h2 refl)
factor_default _ h0 h1 h2 = refl

pub factor_else : (s : Standing) (t : Terminal) → t ≡ s.first.terminal → (t ≡ terminal.Name → ⊥) → (t ≡ terminal.OpenRound → ⊥) → (t ≡ terminal.Sum → ⊥) → predict g.grammar 10 (next s) ≡ Some (g.token_number ∷ [])
factor_else s t first h0 h1 h2 = subst (λ (x : Terminal). predict g.grammar 10 (code_of x) ≡ Some (g.token_number ∷ [])) first (factor_default t h0 h1 h2)

unit_at_open_round : predict g.grammar 21 63 ≡ Some (g.token_open_round ∷ g.formula ∷ g.token_close_round ∷ [])
unfolding g.grammar
unit_at_open_round = refl

pub unit_open_round : (s : Standing) (t : Terminal) → t ≡ s.first.terminal → t ≡ terminal.OpenRound → predict g.grammar 21 (next s) ≡ Some (g.token_open_round ∷ g.formula ∷ g.token_close_round ∷ [])
unit_open_round s t first is = subst (λ (x : Terminal). predict g.grammar 21 (code_of x) ≡ Some (g.token_open_round ∷ g.formula ∷ g.token_close_round ∷ [])) (sym is ∙ first) unit_at_open_round

unit_at_all : predict g.grammar 21 32 ≡ Some (g.quantifier ∷ g.token_open_round ∷ g.formula ∷ g.token_for ∷ g.binders ∷ g.token_close_round ∷ [])
unfolding g.grammar
unit_at_all = refl

pub unit_all : (s : Standing) (t : Terminal) → t ≡ s.first.terminal → t ≡ terminal.All → predict g.grammar 21 (next s) ≡ Some (g.quantifier ∷ g.token_open_round ∷ g.formula ∷ g.token_for ∷ g.binders ∷ g.token_close_round ∷ [])
unit_all s t first is = subst (λ (x : Terminal). predict g.grammar 21 (code_of x) ≡ Some (g.quantifier ∷ g.token_open_round ∷ g.formula ∷ g.token_for ∷ g.binders ∷ g.token_close_round ∷ [])) (sym is ∙ first) unit_at_all

unit_at_any : predict g.grammar 21 33 ≡ Some (g.quantifier ∷ g.token_open_round ∷ g.formula ∷ g.token_for ∷ g.binders ∷ g.token_close_round ∷ [])
unfolding g.grammar
unit_at_any = refl

pub unit_any : (s : Standing) (t : Terminal) → t ≡ s.first.terminal → t ≡ terminal.Any → predict g.grammar 21 (next s) ≡ Some (g.quantifier ∷ g.token_open_round ∷ g.formula ∷ g.token_for ∷ g.binders ∷ g.token_close_round ∷ [])
unit_any s t first is = subst (λ (x : Terminal). predict g.grammar 21 (code_of x) ≡ Some (g.quantifier ∷ g.token_open_round ∷ g.formula ∷ g.token_for ∷ g.binders ∷ g.token_close_round ∷ [])) (sym is ∙ first) unit_at_any

unit_default : (t : Terminal) → (t ≡ terminal.OpenRound → ⊥) → (t ≡ terminal.All → ⊥) → (t ≡ terminal.Any → ⊥) → (t ≡ terminal.Not → ⊥) → predict g.grammar 21 (code_of t) ≡ Some (g.lit ∷ [])
unfolding g.grammar
unit_default terminal.OpenRound h0 h1 h2 h3 = absurd (h0 refl)
unit_default terminal.All h0 h1 h2 h3 = absurd (h1 refl)
unit_default terminal.Any h0 h1 h2 h3 = absurd (h2 refl)
unit_default terminal.Not h0 h1 h2 h3 = absurd (h3 refl)
unit_default _ h0 h1 h2 h3 = refl

pub unit_else : (s : Standing) (t : Terminal) → t ≡ s.first.terminal → (t ≡ terminal.OpenRound → ⊥) → (t ≡ terminal.All → ⊥) → (t ≡ terminal.Any → ⊥) → (t ≡ terminal.Not → ⊥) → predict g.grammar 21 (next s) ≡ Some (g.lit ∷ [])
unit_else s t first h0 h1 h2 h3 = subst (λ (x : Terminal). predict g.grammar 21 (code_of x) ≡ Some (g.lit ∷ [])) first (unit_default t h0 h1 h2 h3)

cons_at_logic : predict g.grammar 11 17 ≡ Some (g.token_logic ∷ g.formula ∷ [])
unfolding g.grammar
cons_at_logic = refl

pub cons_logic : (s : Standing) (t : Terminal) → t ≡ s.first.terminal → t ≡ terminal.Logic → predict g.grammar 11 (next s) ≡ Some (g.token_logic ∷ g.formula ∷ [])
cons_logic s t first is = subst (λ (x : Terminal). predict g.grammar 11 (code_of x) ≡ Some (g.token_logic ∷ g.formula ∷ [])) (sym is ∙ first) cons_at_logic

cons_at_when : predict g.grammar 11 18 ≡ Some (g.token_when ∷ g.lit ∷ g.more_lits ∷ g.token_then ∷ g.expr ∷ g.cmp ∷ g.expr ∷ [])
unfolding g.grammar
cons_at_when = refl

pub cons_when : (s : Standing) (t : Terminal) → t ≡ s.first.terminal → t ≡ terminal.When → predict g.grammar 11 (next s) ≡ Some (g.token_when ∷ g.lit ∷ g.more_lits ∷ g.token_then ∷ g.expr ∷ g.cmp ∷ g.expr ∷ [])
cons_when s t first is = subst (λ (x : Terminal). predict g.grammar 11 (code_of x) ≡ Some (g.token_when ∷ g.lit ∷ g.more_lits ∷ g.token_then ∷ g.expr ∷ g.cmp ∷ g.expr ∷ [])) (sym is ∙ first) cons_at_when

cons_at_alldiff : predict g.grammar 11 20 ≡ Some (g.token_alldiff ∷ g.token_open_round ∷ g.list ∷ g.token_close_round ∷ [])
unfolding g.grammar
cons_at_alldiff = refl

pub cons_alldiff : (s : Standing) (t : Terminal) → t ≡ s.first.terminal → t ≡ terminal.Alldiff → predict g.grammar 11 (next s) ≡ Some (g.token_alldiff ∷ g.token_open_round ∷ g.list ∷ g.token_close_round ∷ [])
cons_alldiff s t first is = subst (λ (x : Terminal). predict g.grammar 11 (code_of x) ≡ Some (g.token_alldiff ∷ g.token_open_round ∷ g.list ∷ g.token_close_round ∷ [])) (sym is ∙ first) cons_at_alldiff

cons_at_circuit : predict g.grammar 11 21 ≡ Some (g.token_circuit ∷ g.token_open_round ∷ g.list ∷ g.token_close_round ∷ [])
unfolding g.grammar
cons_at_circuit = refl

pub cons_circuit : (s : Standing) (t : Terminal) → t ≡ s.first.terminal → t ≡ terminal.Circuit → predict g.grammar 11 (next s) ≡ Some (g.token_circuit ∷ g.token_open_round ∷ g.list ∷ g.token_close_round ∷ [])
cons_circuit s t first is = subst (λ (x : Terminal). predict g.grammar 11 (code_of x) ≡ Some (g.token_circuit ∷ g.token_open_round ∷ g.list ∷ g.token_close_round ∷ [])) (sym is ∙ first) cons_at_circuit

cons_at_element : predict g.grammar 11 22 ≡ Some (g.token_element ∷ g.token_open_round ∷ g.expr ∷ g.token_comma ∷ g.token_open_square ∷ g.list ∷ g.token_close_square ∷ g.token_comma ∷ g.expr ∷ g.token_close_round ∷ [])
unfolding g.grammar
cons_at_element = refl

pub cons_element : (s : Standing) (t : Terminal) → t ≡ s.first.terminal → t ≡ terminal.Element → predict g.grammar 11 (next s) ≡ Some (g.token_element ∷ g.token_open_round ∷ g.expr ∷ g.token_comma ∷ g.token_open_square ∷ g.list ∷ g.token_close_square ∷ g.token_comma ∷ g.expr ∷ g.token_close_round ∷ [])
cons_element s t first is = subst (λ (x : Terminal). predict g.grammar 11 (code_of x) ≡ Some (g.token_element ∷ g.token_open_round ∷ g.expr ∷ g.token_comma ∷ g.token_open_square ∷ g.list ∷ g.token_close_square ∷ g.token_comma ∷ g.expr ∷ g.token_close_round ∷ [])) (sym is ∙ first) cons_at_element

cons_at_indexsum : predict g.grammar 11 23 ≡ Some (g.choosing ∷ g.token_open_round ∷ g.expr ∷ g.choices ∷ g.token_close_round ∷ [])
unfolding g.grammar
cons_at_indexsum = refl

pub cons_indexsum : (s : Standing) (t : Terminal) → t ≡ s.first.terminal → t ≡ terminal.Indexsum → predict g.grammar 11 (next s) ≡ Some (g.choosing ∷ g.token_open_round ∷ g.expr ∷ g.choices ∷ g.token_close_round ∷ [])
cons_indexsum s t first is = subst (λ (x : Terminal). predict g.grammar 11 (code_of x) ≡ Some (g.choosing ∷ g.token_open_round ∷ g.expr ∷ g.choices ∷ g.token_close_round ∷ [])) (sym is ∙ first) cons_at_indexsum

cons_at_assign : predict g.grammar 11 24 ≡ Some (g.choosing ∷ g.token_open_round ∷ g.expr ∷ g.choices ∷ g.token_close_round ∷ [])
unfolding g.grammar
cons_at_assign = refl

pub cons_assign : (s : Standing) (t : Terminal) → t ≡ s.first.terminal → t ≡ terminal.Assign → predict g.grammar 11 (next s) ≡ Some (g.choosing ∷ g.token_open_round ∷ g.expr ∷ g.choices ∷ g.token_close_round ∷ [])
cons_assign s t first is = subst (λ (x : Terminal). predict g.grammar 11 (code_of x) ≡ Some (g.choosing ∷ g.token_open_round ∷ g.expr ∷ g.choices ∷ g.token_close_round ∷ [])) (sym is ∙ first) cons_at_assign

cons_at_cumulative : predict g.grammar 11 25 ≡ Some (g.token_cumulative ∷ g.token_open_round ∷ g.expr ∷ g.ctasks ∷ g.token_close_round ∷ [])
unfolding g.grammar
cons_at_cumulative = refl

pub cons_cumulative : (s : Standing) (t : Terminal) → t ≡ s.first.terminal → t ≡ terminal.Cumulative → predict g.grammar 11 (next s) ≡ Some (g.token_cumulative ∷ g.token_open_round ∷ g.expr ∷ g.ctasks ∷ g.token_close_round ∷ [])
cons_cumulative s t first is = subst (λ (x : Terminal). predict g.grammar 11 (code_of x) ≡ Some (g.token_cumulative ∷ g.token_open_round ∷ g.expr ∷ g.ctasks ∷ g.token_close_round ∷ [])) (sym is ∙ first) cons_at_cumulative

cons_at_disjunctive : predict g.grammar 11 26 ≡ Some (g.token_disjunctive ∷ g.token_open_round ∷ g.dtask ∷ g.more_dtasks ∷ g.token_close_round ∷ [])
unfolding g.grammar
cons_at_disjunctive = refl

pub cons_disjunctive : (s : Standing) (t : Terminal) → t ≡ s.first.terminal → t ≡ terminal.Disjunctive → predict g.grammar 11 (next s) ≡ Some (g.token_disjunctive ∷ g.token_open_round ∷ g.dtask ∷ g.more_dtasks ∷ g.token_close_round ∷ [])
cons_disjunctive s t first is = subst (λ (x : Terminal). predict g.grammar 11 (code_of x) ≡ Some (g.token_disjunctive ∷ g.token_open_round ∷ g.dtask ∷ g.more_dtasks ∷ g.token_close_round ∷ [])) (sym is ∙ first) cons_at_disjunctive

cons_at_packing : predict g.grammar 11 27 ≡ Some (g.token_packing ∷ g.token_open_round ∷ g.expr ∷ g.token_semicolon ∷ g.token_open_square ∷ g.list ∷ g.token_close_square ∷ g.token_semicolon ∷ g.token_open_square ∷ g.list ∷ g.token_close_square ∷ g.loads ∷ g.token_close_round ∷ [])
unfolding g.grammar
cons_at_packing = refl

pub cons_packing : (s : Standing) (t : Terminal) → t ≡ s.first.terminal → t ≡ terminal.Packing → predict g.grammar 11 (next s) ≡ Some (g.token_packing ∷ g.token_open_round ∷ g.expr ∷ g.token_semicolon ∷ g.token_open_square ∷ g.list ∷ g.token_close_square ∷ g.token_semicolon ∷ g.token_open_square ∷ g.list ∷ g.token_close_square ∷ g.loads ∷ g.token_close_round ∷ [])
cons_packing s t first is = subst (λ (x : Terminal). predict g.grammar 11 (code_of x) ≡ Some (g.token_packing ∷ g.token_open_round ∷ g.expr ∷ g.token_semicolon ∷ g.token_open_square ∷ g.list ∷ g.token_close_square ∷ g.token_semicolon ∷ g.token_open_square ∷ g.list ∷ g.token_close_square ∷ g.loads ∷ g.token_close_round ∷ [])) (sym is ∙ first) cons_at_packing

cons_default : (t : Terminal) → (t ≡ terminal.Logic → ⊥) → (t ≡ terminal.When → ⊥) → (t ≡ terminal.Alldiff → ⊥) → (t ≡ terminal.Circuit → ⊥) → (t ≡ terminal.Element → ⊥) → (t ≡ terminal.Indexsum → ⊥) → (t ≡ terminal.Assign → ⊥) → (t ≡ terminal.Cumulative → ⊥) → (t ≡ terminal.Disjunctive → ⊥) → (t ≡ terminal.Packing → ⊥) → predict g.grammar 11 (code_of t) ≡ Some (g.expr ∷ g.cmp ∷ g.expr ∷ [])
unfolding g.grammar
cons_default terminal.Logic h0 h1 h2 h3 h4 h5 h6 h7 h8 h9 = absurd (h0 refl)
cons_default terminal.When h0 h1 h2 h3 h4 h5 h6 h7 h8 h9 = absurd (h1 refl)
cons_default terminal.Alldiff h0 h1 h2 h3 h4 h5 h6 h7 h8 h9 = absurd (h2 refl)
cons_default terminal.Circuit h0 h1 h2 h3 h4 h5 h6 h7 h8 h9 = absurd (h3 refl)
cons_default terminal.Element h0 h1 h2 h3 h4 h5 h6 h7 h8 h9 = absurd (h4 refl)
cons_default terminal.Indexsum h0 h1 h2 h3 h4 h5 h6 h7 h8 h9 = absurd (h5 refl)
cons_default terminal.Assign h0 h1 h2 h3 h4 h5 h6 h7 h8 h9 = absurd (h6 refl)
cons_default terminal.Cumulative h0 h1 h2 h3 h4 h5 h6 h7 h8 h9 = absurd (h7 refl)
cons_default terminal.Disjunctive h0 h1 h2 h3 h4 h5 h6 h7 h8 h9 = absurd (h8 refl)
cons_default terminal.Packing h0 h1 h2 h3 h4 h5 h6 h7 h8 h9 = absurd (h9 refl)
cons_default _ h0 h1 h2 h3 h4 h5 h6 h7 h8 h9 = refl

pub cons_else : (s : Standing) (t : Terminal) → t ≡ s.first.terminal → (t ≡ terminal.Logic → ⊥) → (t ≡ terminal.When → ⊥) → (t ≡ terminal.Alldiff → ⊥) → (t ≡ terminal.Circuit → ⊥) → (t ≡ terminal.Element → ⊥) → (t ≡ terminal.Indexsum → ⊥) → (t ≡ terminal.Assign → ⊥) → (t ≡ terminal.Cumulative → ⊥) → (t ≡ terminal.Disjunctive → ⊥) → (t ≡ terminal.Packing → ⊥) → predict g.grammar 11 (next s) ≡ Some (g.expr ∷ g.cmp ∷ g.expr ∷ [])
cons_else s t first h0 h1 h2 h3 h4 h5 h6 h7 h8 h9 = subst (λ (x : Terminal). predict g.grammar 11 (code_of x) ≡ Some (g.expr ∷ g.cmp ∷ g.expr ∷ [])) first (cons_default t h0 h1 h2 h3 h4 h5 h6 h7 h8 h9)

cmp_at_at_least : predict g.grammar 12 57 ≡ Some (g.token_at_least ∷ [])
unfolding g.grammar
cmp_at_at_least = refl

pub cmp_at_least : (s : Standing) (t : Terminal) → t ≡ s.first.terminal → t ≡ terminal.AtLeast → predict g.grammar 12 (next s) ≡ Some (g.token_at_least ∷ [])
cmp_at_least s t first is = subst (λ (x : Terminal). predict g.grammar 12 (code_of x) ≡ Some (g.token_at_least ∷ [])) (sym is ∙ first) cmp_at_at_least

cmp_at_equal : predict g.grammar 12 58 ≡ Some (g.token_equal ∷ [])
unfolding g.grammar
cmp_at_equal = refl

pub cmp_equal : (s : Standing) (t : Terminal) → t ≡ s.first.terminal → t ≡ terminal.Equal → predict g.grammar 12 (next s) ≡ Some (g.token_equal ∷ [])
cmp_equal s t first is = subst (λ (x : Terminal). predict g.grammar 12 (code_of x) ≡ Some (g.token_equal ∷ [])) (sym is ∙ first) cmp_at_equal

cmp_default : (t : Terminal) → (t ≡ terminal.AtLeast → ⊥) → (t ≡ terminal.Equal → ⊥) → predict g.grammar 12 (code_of t) ≡ Some (g.token_at_most ∷ [])
unfolding g.grammar
cmp_default terminal.AtLeast h0 h1 = absurd (h0 refl)
cmp_default terminal.Equal h0 h1 = absurd (h1 refl)
cmp_default _ h0 h1 = refl

pub cmp_else : (s : Standing) (t : Terminal) → t ≡ s.first.terminal → (t ≡ terminal.AtLeast → ⊥) → (t ≡ terminal.Equal → ⊥) → predict g.grammar 12 (next s) ≡ Some (g.token_at_most ∷ [])
cmp_else s t first h0 h1 = subst (λ (x : Terminal). predict g.grammar 12 (code_of x) ≡ Some (g.token_at_most ∷ [])) first (cmp_default t h0 h1)

tag_at_relax : predict g.grammar 23 35 ≡ Some (g.token_relax ∷ g.relaxing ∷ [])
unfolding g.grammar
tag_at_relax = refl

pub tag_relax : (s : Standing) (t : Terminal) → t ≡ s.first.terminal → t ≡ terminal.Relax → predict g.grammar 23 (next s) ≡ Some (g.token_relax ∷ g.relaxing ∷ [])
tag_relax s t first is = subst (λ (x : Terminal). predict g.grammar 23 (code_of x) ≡ Some (g.token_relax ∷ g.relaxing ∷ [])) (sym is ∙ first) tag_at_relax

tag_at_branch : predict g.grammar 23 36 ≡ Some (g.token_branch ∷ g.token_number ∷ [])
unfolding g.grammar
tag_at_branch = refl

pub tag_branch : (s : Standing) (t : Terminal) → t ≡ s.first.terminal → t ≡ terminal.Branch → predict g.grammar 23 (next s) ≡ Some (g.token_branch ∷ g.token_number ∷ [])
tag_branch s t first is = subst (λ (x : Terminal). predict g.grammar 23 (code_of x) ≡ Some (g.token_branch ∷ g.token_number ∷ [])) (sym is ∙ first) tag_at_branch

tag_at_pick : predict g.grammar 23 37 ≡ Some (g.token_pick ∷ g.picking ∷ [])
unfolding g.grammar
tag_at_pick = refl

pub tag_pick : (s : Standing) (t : Terminal) → t ≡ s.first.terminal → t ≡ terminal.Pick → predict g.grammar 23 (next s) ≡ Some (g.token_pick ∷ g.picking ∷ [])
tag_pick s t first is = subst (λ (x : Terminal). predict g.grammar 23 (code_of x) ≡ Some (g.token_pick ∷ g.picking ∷ [])) (sym is ∙ first) tag_at_pick

tag_at_split : predict g.grammar 23 38 ≡ Some (g.token_split ∷ g.splitting ∷ [])
unfolding g.grammar
tag_at_split = refl

pub tag_split : (s : Standing) (t : Terminal) → t ≡ s.first.terminal → t ≡ terminal.Split → predict g.grammar 23 (next s) ≡ Some (g.token_split ∷ g.splitting ∷ [])
tag_split s t first is = subst (λ (x : Terminal). predict g.grammar 23 (code_of x) ≡ Some (g.token_split ∷ g.splitting ∷ [])) (sym is ∙ first) tag_at_split

tag_at_sub : predict g.grammar 23 39 ≡ Some (g.token_sub ∷ g.expr ∷ [])
unfolding g.grammar
tag_at_sub = refl

pub tag_sub : (s : Standing) (t : Terminal) → t ≡ s.first.terminal → t ≡ terminal.Sub → predict g.grammar 23 (next s) ≡ Some (g.token_sub ∷ g.expr ∷ [])
tag_sub s t first is = subst (λ (x : Terminal). predict g.grammar 23 (code_of x) ≡ Some (g.token_sub ∷ g.expr ∷ [])) (sym is ∙ first) tag_at_sub

tag_default : (t : Terminal) → (t ≡ terminal.Relax → ⊥) → (t ≡ terminal.Branch → ⊥) → (t ≡ terminal.Pick → ⊥) → (t ≡ terminal.Split → ⊥) → (t ≡ terminal.Sub → ⊥) → predict g.grammar 23 (code_of t) ≡ Some (g.token_infer ∷ g.level ∷ [])
unfolding g.grammar
tag_default terminal.Relax h0 h1 h2 h3 h4 = absurd (h0 refl)
tag_default terminal.Branch h0 h1 h2 h3 h4 = absurd (h1 refl)
tag_default terminal.Pick h0 h1 h2 h3 h4 = absurd (h2 refl)
tag_default terminal.Split h0 h1 h2 h3 h4 = absurd (h3 refl)
tag_default terminal.Sub h0 h1 h2 h3 h4 = absurd (h4 refl)
tag_default _ h0 h1 h2 h3 h4 = refl

pub tag_else : (s : Standing) (t : Terminal) → t ≡ s.first.terminal → (t ≡ terminal.Relax → ⊥) → (t ≡ terminal.Branch → ⊥) → (t ≡ terminal.Pick → ⊥) → (t ≡ terminal.Split → ⊥) → (t ≡ terminal.Sub → ⊥) → predict g.grammar 23 (next s) ≡ Some (g.token_infer ∷ g.level ∷ [])
tag_else s t first h0 h1 h2 h3 h4 = subst (λ (x : Terminal). predict g.grammar 23 (code_of x) ≡ Some (g.token_infer ∷ g.level ∷ [])) first (tag_default t h0 h1 h2 h3 h4)

item_at_var : predict g.grammar 1 3 ≡ Some (g.token_var ∷ g.token_name ∷ g.family ∷ g.token_colon ∷ g.kind ∷ g.token_semicolon ∷ [])
unfolding g.grammar
item_at_var = refl

pub item_var : (s : Standing) (t : Terminal) → t ≡ s.first.terminal → t ≡ terminal.Var → predict g.grammar 1 (next s) ≡ Some (g.token_var ∷ g.token_name ∷ g.family ∷ g.token_colon ∷ g.kind ∷ g.token_semicolon ∷ [])
item_var s t first is = subst (λ (x : Terminal). predict g.grammar 1 (code_of x) ≡ Some (g.token_var ∷ g.token_name ∷ g.family ∷ g.token_colon ∷ g.kind ∷ g.token_semicolon ∷ [])) (sym is ∙ first) item_at_var

item_at_post : predict g.grammar 1 4 ≡ Some (g.token_post ∷ g.forall ∷ g.cons ∷ g.tags ∷ g.token_semicolon ∷ [])
unfolding g.grammar
item_at_post = refl

pub item_post : (s : Standing) (t : Terminal) → t ≡ s.first.terminal → t ≡ terminal.Post → predict g.grammar 1 (next s) ≡ Some (g.token_post ∷ g.forall ∷ g.cons ∷ g.tags ∷ g.token_semicolon ∷ [])
item_post s t first is = subst (λ (x : Terminal). predict g.grammar 1 (code_of x) ≡ Some (g.token_post ∷ g.forall ∷ g.cons ∷ g.tags ∷ g.token_semicolon ∷ [])) (sym is ∙ first) item_at_post

item_default : (t : Terminal) → (t ≡ terminal.Var → ⊥) → (t ≡ terminal.Post → ⊥) → predict g.grammar 1 (code_of t) ≡ Some (g.token_index ∷ g.token_name ∷ g.token_equal ∷ g.expr ∷ g.token_to ∷ g.expr ∷ g.token_semicolon ∷ [])
unfolding g.grammar
item_default terminal.Var h0 h1 = absurd (h0 refl)
item_default terminal.Post h0 h1 = absurd (h1 refl)
item_default _ h0 h1 = refl

pub item_else : (s : Standing) (t : Terminal) → t ≡ s.first.terminal → (t ≡ terminal.Var → ⊥) → (t ≡ terminal.Post → ⊥) → predict g.grammar 1 (next s) ≡ Some (g.token_index ∷ g.token_name ∷ g.token_equal ∷ g.expr ∷ g.token_to ∷ g.expr ∷ g.token_semicolon ∷ [])
item_else s t first h0 h1 = subst (λ (x : Terminal). predict g.grammar 1 (code_of x) ≡ Some (g.token_index ∷ g.token_name ∷ g.token_equal ∷ g.expr ∷ g.token_to ∷ g.expr ∷ g.token_semicolon ∷ [])) first (item_default t h0 h1)

values_at_open_brace : predict g.grammar 29 67 ≡ Some (g.token_open_brace ∷ g.expr ∷ g.more_exprs ∷ g.token_close_brace ∷ [])
unfolding g.grammar
values_at_open_brace = refl

pub values_open_brace : (s : Standing) (t : Terminal) → t ≡ s.first.terminal → t ≡ terminal.OpenBrace → predict g.grammar 29 (next s) ≡ Some (g.token_open_brace ∷ g.expr ∷ g.more_exprs ∷ g.token_close_brace ∷ [])
values_open_brace s t first is = subst (λ (x : Terminal). predict g.grammar 29 (code_of x) ≡ Some (g.token_open_brace ∷ g.expr ∷ g.more_exprs ∷ g.token_close_brace ∷ [])) (sym is ∙ first) values_at_open_brace

values_default : (t : Terminal) → (t ≡ terminal.OpenBrace → ⊥) → predict g.grammar 29 (code_of t) ≡ Some (g.expr ∷ g.token_to ∷ g.expr ∷ [])
unfolding g.grammar
values_default terminal.OpenBrace h0 = absurd (h0 refl)
values_default _ h0 = refl

pub values_else : (s : Standing) (t : Terminal) → t ≡ s.first.terminal → (t ≡ terminal.OpenBrace → ⊥) → predict g.grammar 29 (next s) ≡ Some (g.expr ∷ g.token_to ∷ g.expr ∷ [])
values_else s t first h0 = subst (λ (x : Terminal). predict g.grammar 29 (code_of x) ≡ Some (g.expr ∷ g.token_to ∷ g.expr ∷ [])) first (values_default t h0)

kind_at_int : predict g.grammar 2 7 ≡ Some (g.token_int ∷ g.expr ∷ g.token_to ∷ g.expr ∷ [])
unfolding g.grammar
kind_at_int = refl

pub kind_int : (s : Standing) (t : Terminal) → t ≡ s.first.terminal → t ≡ terminal.Int → predict g.grammar 2 (next s) ≡ Some (g.token_int ∷ g.expr ∷ g.token_to ∷ g.expr ∷ [])
kind_int s t first is = subst (λ (x : Terminal). predict g.grammar 2 (code_of x) ≡ Some (g.token_int ∷ g.expr ∷ g.token_to ∷ g.expr ∷ [])) (sym is ∙ first) kind_at_int

kind_at_real : predict g.grammar 2 8 ≡ Some (g.token_real ∷ g.expr ∷ g.token_to ∷ g.expr ∷ [])
unfolding g.grammar
kind_at_real = refl

pub kind_real : (s : Standing) (t : Terminal) → t ≡ s.first.terminal → t ≡ terminal.Real → predict g.grammar 2 (next s) ≡ Some (g.token_real ∷ g.expr ∷ g.token_to ∷ g.expr ∷ [])
kind_real s t first is = subst (λ (x : Terminal). predict g.grammar 2 (code_of x) ≡ Some (g.token_real ∷ g.expr ∷ g.token_to ∷ g.expr ∷ [])) (sym is ∙ first) kind_at_real

kind_default : (t : Terminal) → (t ≡ terminal.Int → ⊥) → (t ≡ terminal.Real → ⊥) → predict g.grammar 2 (code_of t) ≡ Some (g.token_set ∷ g.values ∷ [])
unfolding g.grammar
kind_default terminal.Int h0 h1 = absurd (h0 refl)
kind_default terminal.Real h0 h1 = absurd (h1 refl)
kind_default _ h0 h1 = refl

pub kind_else : (s : Standing) (t : Terminal) → t ≡ s.first.terminal → (t ≡ terminal.Int → ⊥) → (t ≡ terminal.Real → ⊥) → predict g.grammar 2 (next s) ≡ Some (g.token_set ∷ g.values ∷ [])
kind_else s t first h0 h1 = subst (λ (x : Terminal). predict g.grammar 2 (code_of x) ≡ Some (g.token_set ∷ g.values ∷ [])) first (kind_default t h0 h1)

aim_at_maximise : predict g.grammar 4 11 ≡ Some (g.token_maximise ∷ g.expr ∷ [])
unfolding g.grammar
aim_at_maximise = refl

pub aim_maximise : (s : Standing) (t : Terminal) → t ≡ s.first.terminal → t ≡ terminal.Maximise → predict g.grammar 4 (next s) ≡ Some (g.token_maximise ∷ g.expr ∷ [])
aim_maximise s t first is = subst (λ (x : Terminal). predict g.grammar 4 (code_of x) ≡ Some (g.token_maximise ∷ g.expr ∷ [])) (sym is ∙ first) aim_at_maximise

aim_default : (t : Terminal) → (t ≡ terminal.Maximise → ⊥) → predict g.grammar 4 (code_of t) ≡ Some (g.token_minimise ∷ g.expr ∷ [])
unfolding g.grammar
aim_default terminal.Maximise h0 = absurd (h0 refl)
aim_default _ h0 = refl

pub aim_else : (s : Standing) (t : Terminal) → t ≡ s.first.terminal → (t ≡ terminal.Maximise → ⊥) → predict g.grammar 4 (next s) ≡ Some (g.token_minimise ∷ g.expr ∷ [])
aim_else s t first h0 = subst (λ (x : Terminal). predict g.grammar 4 (code_of x) ≡ Some (g.token_minimise ∷ g.expr ∷ [])) first (aim_default t h0)

goal_at_minimise : predict g.grammar 3 10 ≡ Some (g.aim ∷ [])
unfolding g.grammar
goal_at_minimise = refl

pub goal_minimise : (s : Standing) (t : Terminal) → t ≡ s.first.terminal → t ≡ terminal.Minimise → predict g.grammar 3 (next s) ≡ Some (g.aim ∷ [])
goal_minimise s t first is = subst (λ (x : Terminal). predict g.grammar 3 (code_of x) ≡ Some (g.aim ∷ [])) (sym is ∙ first) goal_at_minimise

goal_at_maximise : predict g.grammar 3 11 ≡ Some (g.aim ∷ [])
unfolding g.grammar
goal_at_maximise = refl

pub goal_maximise : (s : Standing) (t : Terminal) → t ≡ s.first.terminal → t ≡ terminal.Maximise → predict g.grammar 3 (next s) ≡ Some (g.aim ∷ [])
goal_maximise s t first is = subst (λ (x : Terminal). predict g.grammar 3 (code_of x) ≡ Some (g.aim ∷ [])) (sym is ∙ first) goal_at_maximise

goal_default : (t : Terminal) → (t ≡ terminal.Minimise → ⊥) → (t ≡ terminal.Maximise → ⊥) → predict g.grammar 3 (code_of t) ≡ Some (g.token_satisfy ∷ [])
unfolding g.grammar
goal_default terminal.Minimise h0 h1 = absurd (h0 refl)
goal_default terminal.Maximise h0 h1 = absurd (h1 refl)
goal_default _ h0 h1 = refl

pub goal_else : (s : Standing) (t : Terminal) → t ≡ s.first.terminal → (t ≡ terminal.Minimise → ⊥) → (t ≡ terminal.Maximise → ⊥) → predict g.grammar 3 (next s) ≡ Some (g.token_satisfy ∷ [])
goal_else s t first h0 h1 = subst (λ (x : Terminal). predict g.grammar 3 (code_of x) ≡ Some (g.token_satisfy ∷ [])) first (goal_default t h0 h1)

unit_at_not : predict g.grammar 21 31 ≡ Some (g.token_not ∷ g.unit ∷ [])
unfolding g.grammar
unit_at_not = refl

pub unit_not : (s : Standing) → is_next terminal.Not s ≡ true → predict g.grammar 21 (next s) ≡ Some (g.token_not ∷ g.unit ∷ [])
unit_not s h = subst (λ (c : ℕ). predict g.grammar 21 c ≡ Some (g.token_not ∷ g.unit ∷ [])) (eqb-true 31 (next s) h) unit_at_not
