-- The steps that list a tree, and then the rest: each variant with its alternative of the grammar.
use Rattle.std.specs.Prelude.{Bool, true, false, List, [], ◌∷◌, Option, Some, None}
use Rattle.sm_syntax.specs.declared.place.Place.{Place}
use Rattle.sm_syntax.specs.declared.tree.Name.{Name}
use Rattle.sm_syntax.specs.declared.tree.Number.{Number}
use Rattle.sm_syntax.specs.declared.tree.Bind.{Bind}
use Rattle.sm_syntax.specs.declared.tree.Sign.{Sign}
use Rattle.sm_syntax.specs.declared.tree.Sign.TheVariants as signs
use Rattle.sm_syntax.specs.declared.tree.Relation.{Relation}
use Rattle.sm_syntax.specs.declared.tree.Relation.TheVariants as relations
use Rattle.sm_syntax.specs.declared.tree.LitRelation.{LitRelation}
use Rattle.sm_syntax.specs.declared.tree.LitRelation.TheVariants as lit_relations
use Rattle.sm_syntax.specs.declared.formula.Quantifier.{Quantifier}
use Rattle.sm_syntax.specs.declared.formula.Quantifier.TheVariants as quantifiers
use Rattle.sm_syntax.specs.declared.tree.Cmp.{Cmp}
use Rattle.sm_syntax.specs.declared.tree.Cmp.TheVariants as cmps
use Rattle.sm_syntax.specs.declared.tree.Choosing.{Choosing}
use Rattle.sm_syntax.specs.declared.tree.Choosing.TheVariants as choosings
use Rattle.sm_syntax.specs.declared.tree.Level.{Level}
use Rattle.sm_syntax.specs.declared.tree.Level.TheVariants as levels
use Rattle.sm_syntax.specs.declared.tree.Relaxing.{Relaxing}
use Rattle.sm_syntax.specs.declared.tree.Relaxing.TheVariants as relaxings
use Rattle.sm_syntax.specs.declared.tree.Picking.{Picking}
use Rattle.sm_syntax.specs.declared.tree.Picking.TheVariants as pickings
use Rattle.sm_syntax.specs.declared.tree.Splitting.{Splitting}
use Rattle.sm_syntax.specs.declared.tree.Splitting.TheVariants as splittings
use Rattle.sm_syntax.specs.Grammars.{Symbol}
use Rattle.sm_syntax.specs.Grammar as g
use Rattle.sm_syntax.specs.Parsing.{Step, becomes, stands_at, a_name, a_number}
use Rattle.sm_syntax.specs.Reading.{each}
use Rattle.sm_syntax.specs.Expressions.{Expression, expression, Addends, no_addends, addend, Product, product, Operands, no_operands, times, Operand, number, named, group, sum, Expressions, no_expressions, another, Binding, binding, Comparisons, no_comparisons, besides, Comparison, comparison, Literal, a_literal}
use Rattle.sm_syntax.specs.Formulas as f
use Rattle.sm_syntax.specs.Trees as t

abbrev pub TreeSteps : Type 0
TreeSteps = List Step

-- a rule of the language at a place
abbrev pub rule : Symbol → List Symbol → Place → TreeSteps → TreeSteps
rule A rhs p r = becomes A rhs ∷ stands_at p ∷ r

-- ---- names, numbers and words

abbrev pub name_then : Name → TreeSteps → TreeSteps
name_then n r = a_name n.text n.place ∷ r

abbrev pub number_then : Number → TreeSteps → TreeSteps
number_then n r = a_number n.value n.place ∷ r

abbrev pub minus_then : Bool → TreeSteps → TreeSteps
minus_then true r = becomes g.minus (g.token_minus ∷ []) ∷ r
minus_then false r = becomes g.minus [] ∷ r

abbrev pub sign_symbol : Sign → Symbol
sign_symbol signs.Plus = g.token_plus
sign_symbol signs.Minus = g.token_minus

abbrev pub sign_then : Sign → TreeSteps → TreeSteps
sign_then x r = becomes g.sign (sign_symbol x ∷ []) ∷ r

abbrev pub relation_symbol : Relation → Symbol
relation_symbol relations.Less = g.token_less
relation_symbol relations.AtMost = g.token_at_most
relation_symbol relations.Greater = g.token_greater
relation_symbol relations.AtLeast = g.token_at_least
relation_symbol relations.Equal = g.token_equal
relation_symbol relations.Unequal = g.token_unequal

abbrev pub relation_then : Relation → TreeSteps → TreeSteps
relation_then x r = becomes g.relation (relation_symbol x ∷ []) ∷ r

abbrev pub lit_relation_symbol : LitRelation → Symbol
lit_relation_symbol lit_relations.AtMost = g.token_at_most
lit_relation_symbol lit_relations.AtLeast = g.token_at_least
lit_relation_symbol lit_relations.Equal = g.token_equal
lit_relation_symbol lit_relations.Unequal = g.token_unequal

abbrev pub lit_relation_then : LitRelation → TreeSteps → TreeSteps
lit_relation_then x r = becomes g.lit_relation (lit_relation_symbol x ∷ []) ∷ r

abbrev pub quantifier_symbol : Quantifier → Symbol
quantifier_symbol quantifiers.All = g.token_all
quantifier_symbol quantifiers.Any = g.token_any

abbrev pub quantifier_then : Quantifier → TreeSteps → TreeSteps
quantifier_then x r = becomes g.quantifier (quantifier_symbol x ∷ []) ∷ r

abbrev pub choosing_symbol : Choosing → Symbol
choosing_symbol choosings.Indexsum = g.token_indexsum
choosing_symbol choosings.Assign = g.token_assign

abbrev pub choosing_then : Choosing → TreeSteps → TreeSteps
choosing_then x r = becomes g.choosing (choosing_symbol x ∷ []) ∷ r

abbrev pub level_symbol : Level → Symbol
level_symbol levels.None = g.token_none
level_symbol levels.Bounds = g.token_bounds
level_symbol levels.Full = g.token_full

abbrev pub level_then : Level → TreeSteps → TreeSteps
level_then x r = becomes g.level (level_symbol x ∷ []) ∷ r

abbrev pub relaxing_symbol : Relaxing → Symbol
relaxing_symbol relaxings.On = g.token_on
relaxing_symbol relaxings.None = g.token_none

abbrev pub relaxing_then : Relaxing → TreeSteps → TreeSteps
relaxing_then x r = becomes g.relaxing (relaxing_symbol x ∷ []) ∷ r

abbrev pub picking_symbol : Picking → Symbol
picking_symbol pickings.First = g.token_first
picking_symbol pickings.Small = g.token_small
picking_symbol pickings.Point = g.token_point

abbrev pub picking_then : Picking → TreeSteps → TreeSteps
picking_then x r = becomes g.picking (picking_symbol x ∷ []) ∷ r

abbrev pub splitting_symbol : Splitting → Symbol
splitting_symbol splittings.Half = g.token_half
splitting_symbol splittings.Least = g.token_least
splitting_symbol splittings.Most = g.token_most

abbrev pub splitting_then : Splitting → TreeSteps → TreeSteps
splitting_then x r = becomes g.splitting (splitting_symbol x ∷ []) ∷ r

abbrev pub cmp_then : Cmp → TreeSteps → TreeSteps
cmp_then (cmps.AtMost p) r = rule g.cmp (g.token_at_most ∷ []) p r
cmp_then (cmps.AtLeast p) r = rule g.cmp (g.token_at_least ∷ []) p r
cmp_then (cmps.Equal p) r = rule g.cmp (g.token_equal ∷ []) p r

-- NAME "in" NAME
abbrev pub bind_then : Bind → TreeSteps → TreeSteps
bind_then b r = rule g.bind (g.token_name ∷ g.token_in ∷ g.token_name ∷ []) b.place (name_then b.name (name_then b.set r))

-- ---- lists

-- a further item of a list, behind the alternative that has it
abbrev pub item_step : {X : Type 0} → Symbol → List Symbol → (X → TreeSteps → TreeSteps) → X → TreeSteps → TreeSteps
item_step A rhs f x r = becomes A rhs ∷ f x r

-- the items of a list to its end
abbrev pub list_then : {X : Type 0} → Symbol → List Symbol → (X → TreeSteps → TreeSteps) → List X → TreeSteps → TreeSteps
list_then A rhs f xs r = each (item_step A rhs f) xs (becomes A [] ∷ r)

-- what may be there
abbrev pub optional_then : {X : Type 0} → Symbol → List Symbol → (X → TreeSteps → TreeSteps) → Option X → TreeSteps → TreeSteps
optional_then A rhs f None r = becomes A [] ∷ r
optional_then A rhs f (Some x) r = becomes A rhs ∷ f x r

-- ---- expressions

abbrev mutual
  pub expression_then : Expression → TreeSteps → TreeSteps
  expression_then (expression p n x xs) r = rule g.expr (g.minus ∷ g.term ∷ g.more_terms ∷ []) p (minus_then n (product_then x (addends_then xs r)))

  pub addends_then : Addends → TreeSteps → TreeSteps
  addends_then no_addends r = becomes g.more_terms [] ∷ r
  addends_then (addend s x xs) r = becomes g.more_terms (g.sign ∷ g.term ∷ g.more_terms ∷ []) ∷ sign_then s (product_then x (addends_then xs r))

  pub product_then : Product → TreeSteps → TreeSteps
  product_then (product p x xs) r = rule g.term (g.factor ∷ g.more_factors ∷ []) p (operand_then x (operands_then xs r))

  pub operands_then : Operands → TreeSteps → TreeSteps
  operands_then no_operands r = becomes g.more_factors [] ∷ r
  operands_then (times x xs) r = becomes g.more_factors (g.token_times ∷ g.factor ∷ g.more_factors ∷ []) ∷ operand_then x (operands_then xs r)

  pub operand_then : Operand → TreeSteps → TreeSteps
  operand_then (number p n) r = rule g.factor (g.token_number ∷ []) p (number_then n r)
  operand_then (named p n xs) r = rule g.factor (g.token_name ∷ g.indices ∷ []) p (name_then n (indices_then xs r))
  operand_then (group p x) r = rule g.factor (g.token_open_round ∷ g.expr ∷ g.token_close_round ∷ []) p (expression_then x r)
  operand_then (sum p x b) r = rule g.factor (g.token_sum ∷ g.token_open_round ∷ g.expr ∷ g.token_for ∷ g.binders ∷ g.token_close_round ∷ []) p (expression_then x (binding_then b r))

  pub indices_then : Expressions → TreeSteps → TreeSteps
  indices_then no_expressions r = becomes g.indices [] ∷ r
  indices_then (another x xs) r = becomes g.indices (g.token_open_square ∷ g.expr ∷ g.more_exprs ∷ g.token_close_square ∷ []) ∷ expression_then x (expressions_then xs r)

  pub expressions_then : Expressions → TreeSteps → TreeSteps
  expressions_then no_expressions r = becomes g.more_exprs [] ∷ r
  expressions_then (another x xs) r = becomes g.more_exprs (g.token_comma ∷ g.expr ∷ g.more_exprs ∷ []) ∷ expression_then x (expressions_then xs r)

  pub binding_then : Binding → TreeSteps → TreeSteps
  binding_then (binding p b bs ts) r = rule g.binders (g.bind ∷ g.more_binds ∷ g.tests ∷ []) p
      (bind_then b (list_then g.more_binds (g.token_comma ∷ g.bind ∷ g.more_binds ∷ []) bind_then bs (tests_then ts r)))

  pub tests_then : Comparisons → TreeSteps → TreeSteps
  tests_then no_comparisons r = becomes g.tests [] ∷ r
  tests_then (besides x xs) r = becomes g.tests (g.token_if ∷ g.test ∷ g.more_tests ∷ []) ∷ comparison_then x (comparisons_then xs r)

  pub comparisons_then : Comparisons → TreeSteps → TreeSteps
  comparisons_then no_comparisons r = becomes g.more_tests [] ∷ r
  comparisons_then (besides x xs) r = becomes g.more_tests (g.token_and ∷ g.test ∷ g.more_tests ∷ []) ∷ comparison_then x (comparisons_then xs r)

  pub comparison_then : Comparison → TreeSteps → TreeSteps
  comparison_then (comparison p x c y) r = rule g.test (g.expr ∷ g.relation ∷ g.expr ∷ []) p (expression_then x (relation_then c (expression_then y r)))

abbrev pub literal_then : Literal → TreeSteps → TreeSteps
literal_then (a_literal p x c y) r = rule g.lit (g.token_open_square ∷ g.expr ∷ g.lit_relation ∷ g.expr ∷ g.token_close_square ∷ []) p
    (expression_then x (lit_relation_then c (expression_then y r)))

-- ---- formulas

-- a negation begins a unit
abbrev pub negation_then : Place → TreeSteps → TreeSteps
negation_then p r = rule g.unit (g.token_not ∷ g.unit ∷ []) p r

abbrev mutual
  pub statement_then : f.Statement → TreeSteps → TreeSteps
  statement_then (f.statement p d e) r = rule g.formula (g.disj ∷ g.conclusion ∷ []) p (disjunction_then d (ending_then e r))

  pub ending_then : f.Ending → TreeSteps → TreeSteps
  ending_then f.nothing r = becomes g.conclusion [] ∷ r
  ending_then (f.implied d) r = becomes g.conclusion (g.connective ∷ g.disj ∷ []) ∷ becomes g.connective (g.token_implies ∷ []) ∷ disjunction_then d r
  ending_then (f.equivalent d) r = becomes g.conclusion (g.connective ∷ g.disj ∷ []) ∷ becomes g.connective (g.token_iff ∷ []) ∷ disjunction_then d r

  pub disjunction_then : f.Disjunction → TreeSteps → TreeSteps
  disjunction_then (f.disjunction p x xs) r = rule g.disj (g.conj ∷ g.more_conjs ∷ []) p (conjunction_then x (conjunctions_then xs r))

  pub conjunctions_then : f.Conjunctions → TreeSteps → TreeSteps
  conjunctions_then f.no_conjunctions r = becomes g.more_conjs [] ∷ r
  conjunctions_then (f.or_else x xs) r = becomes g.more_conjs (g.token_or ∷ g.conj ∷ g.more_conjs ∷ []) ∷ conjunction_then x (conjunctions_then xs r)

  pub conjunction_then : f.Conjunction → TreeSteps → TreeSteps
  conjunction_then (f.conjunction p x xs) r = rule g.conj (g.unit ∷ g.more_units ∷ []) p (claim_then x (claims_then xs r))

  pub claims_then : f.Claims → TreeSteps → TreeSteps
  claims_then f.no_claims r = becomes g.more_units [] ∷ r
  claims_then (f.and_also x xs) r = becomes g.more_units (g.token_and ∷ g.unit ∷ g.more_units ∷ []) ∷ claim_then x (claims_then xs r)

  pub claim_then : f.Claim → TreeSteps → TreeSteps
  claim_then (f.literal p l) r = rule g.unit (g.lit ∷ []) p (literal_then l r)
  claim_then (f.negation p x) r = negation_then p (claim_then x r)
  claim_then (f.group p x) r = rule g.unit (g.token_open_round ∷ g.formula ∷ g.token_close_round ∷ []) p (statement_then x r)
  claim_then (f.quantified p q x b) r = rule g.unit (g.quantifier ∷ g.token_open_round ∷ g.formula ∷ g.token_for ∷ g.binders ∷ g.token_close_round ∷ []) p
      (quantifier_then q (statement_then x (binding_then b r)))

-- ---- lists and what stands in them

abbrev pub for_each_then : Option Binding → TreeSteps → TreeSteps
for_each_then b r = optional_then g.for_each (g.token_for ∷ g.binders ∷ []) binding_then b r

abbrev pub presence_then : Option Literal → TreeSteps → TreeSteps
presence_then l r = optional_then g.presence (g.token_when ∷ g.lit ∷ []) literal_then l r

abbrev pub more_exprs_then : List Expression → TreeSteps → TreeSteps
more_exprs_then xs r = list_then g.more_exprs (g.token_comma ∷ g.expr ∷ g.more_exprs ∷ []) expression_then xs r

abbrev pub listing_then : t.Listing → TreeSteps → TreeSteps
listing_then (t.listing p x xs b) r = rule g.list (g.expr ∷ g.more_exprs ∷ g.for_each ∷ []) p (expression_then x (more_exprs_then xs (for_each_then b r)))

abbrev pub choice_then : t.Choice → TreeSteps → TreeSteps
choice_then (t.choice p x l b) r = rule g.choice (g.expr ∷ g.token_colon ∷ g.token_open_square ∷ g.list ∷ g.token_close_square ∷ g.for_each ∷ []) p
    (expression_then x (listing_then l (for_each_then b r)))

abbrev pub ctask_then : t.Ctask → TreeSteps → TreeSteps
ctask_then (t.ctask p x y z l b) r = rule g.ctask (g.expr ∷ g.token_comma ∷ g.expr ∷ g.token_comma ∷ g.expr ∷ g.presence ∷ g.for_each ∷ []) p
    (expression_then x (expression_then y (expression_then z (presence_then l (for_each_then b r)))))

abbrev pub dtask_then : t.Dtask → TreeSteps → TreeSteps
dtask_then (t.dtask p x y l b) r = rule g.dtask (g.expr ∷ g.token_comma ∷ g.expr ∷ g.presence ∷ g.for_each ∷ []) p
    (expression_then x (expression_then y (presence_then l (for_each_then b r))))

abbrev pub load_then : t.Load → TreeSteps → TreeSteps
load_then (t.load p x y l b) r = rule g.load (g.expr ∷ g.token_comma ∷ g.expr ∷ g.token_comma ∷ g.token_open_square ∷ g.list ∷ g.token_close_square ∷ g.for_each ∷ []) p
    (expression_then x (expression_then y (listing_then l (for_each_then b r))))

-- ---- constraints and tags

abbrev pub more_lits_then : List Literal → TreeSteps → TreeSteps
more_lits_then ls r = list_then g.more_lits (g.token_comma ∷ g.lit ∷ g.more_lits ∷ []) literal_then ls r

abbrev pub choices_then : List t.Choice → TreeSteps → TreeSteps
choices_then cs r = list_then g.choices (g.token_semicolon ∷ g.choice ∷ g.choices ∷ []) choice_then cs r

abbrev pub ctasks_then : List t.Ctask → TreeSteps → TreeSteps
ctasks_then ts r = list_then g.ctasks (g.token_semicolon ∷ g.ctask ∷ g.ctasks ∷ []) ctask_then ts r

abbrev pub more_dtasks_then : List t.Dtask → TreeSteps → TreeSteps
more_dtasks_then ts r = list_then g.more_dtasks (g.token_semicolon ∷ g.dtask ∷ g.more_dtasks ∷ []) dtask_then ts r

abbrev pub loads_then : List t.Load → TreeSteps → TreeSteps
loads_then ls r = list_then g.loads (g.token_semicolon ∷ g.load ∷ g.loads ∷ []) load_then ls r

abbrev pub constraint_then : t.Constraint → TreeSteps → TreeSteps
constraint_then (t.linear p x c y) r = rule g.cons (g.expr ∷ g.cmp ∷ g.expr ∷ []) p (expression_then x (cmp_then c (expression_then y r)))
constraint_then (t.logic p x) r = rule g.cons (g.token_logic ∷ g.formula ∷ []) p (statement_then x r)
constraint_then (t.conditional p l ls x c y) r = rule g.cons (g.token_when ∷ g.lit ∷ g.more_lits ∷ g.token_then ∷ g.expr ∷ g.cmp ∷ g.expr ∷ []) p
    (literal_then l (more_lits_then ls (expression_then x (cmp_then c (expression_then y r)))))
constraint_then (t.alldiff p l) r = rule g.cons (g.token_alldiff ∷ g.token_open_round ∷ g.list ∷ g.token_close_round ∷ []) p (listing_then l r)
constraint_then (t.circuit p l) r = rule g.cons (g.token_circuit ∷ g.token_open_round ∷ g.list ∷ g.token_close_round ∷ []) p (listing_then l r)
constraint_then (t.element p x l y) r = rule g.cons
    (g.token_element ∷ g.token_open_round ∷ g.expr ∷ g.token_comma ∷ g.token_open_square ∷ g.list ∷ g.token_close_square ∷ g.token_comma ∷ g.expr ∷ g.token_close_round ∷ []) p
    (expression_then x (listing_then l (expression_then y r)))
constraint_then (t.chosen p w x cs) r = rule g.cons (g.choosing ∷ g.token_open_round ∷ g.expr ∷ g.choices ∷ g.token_close_round ∷ []) p
    (choosing_then w (expression_then x (choices_then cs r)))
constraint_then (t.cumulative p x ts) r = rule g.cons (g.token_cumulative ∷ g.token_open_round ∷ g.expr ∷ g.ctasks ∷ g.token_close_round ∷ []) p
    (expression_then x (ctasks_then ts r))
constraint_then (t.disjunctive p x xs) r = rule g.cons (g.token_disjunctive ∷ g.token_open_round ∷ g.dtask ∷ g.more_dtasks ∷ g.token_close_round ∷ []) p
    (dtask_then x (more_dtasks_then xs r))
constraint_then (t.packing p x cs os ls) r = rule g.cons
    (g.token_packing ∷ g.token_open_round ∷ g.expr ∷ g.token_semicolon ∷ g.token_open_square ∷ g.list ∷ g.token_close_square ∷ g.token_semicolon ∷ g.token_open_square ∷ g.list ∷ g.token_close_square ∷ g.loads ∷ g.token_close_round ∷ []) p
    (expression_then x (listing_then cs (listing_then os (loads_then ls r))))

abbrev pub tag_then : t.Tag → TreeSteps → TreeSteps
tag_then (t.infer p x) r = rule g.tag (g.token_infer ∷ g.level ∷ []) p (level_then x r)
tag_then (t.relax p x) r = rule g.tag (g.token_relax ∷ g.relaxing ∷ []) p (relaxing_then x r)
tag_then (t.branch p n) r = rule g.tag (g.token_branch ∷ g.token_number ∷ []) p (number_then n r)
tag_then (t.pick p x) r = rule g.tag (g.token_pick ∷ g.picking ∷ []) p (picking_then x r)
tag_then (t.split p x) r = rule g.tag (g.token_split ∷ g.splitting ∷ []) p (splitting_then x r)
tag_then (t.sub p x) r = rule g.tag (g.token_sub ∷ g.expr ∷ []) p (expression_then x r)

-- ---- items and goals

abbrev pub values_then : t.Values → TreeSteps → TreeSteps
values_then (t.range x y) r = becomes g.values (g.expr ∷ g.token_to ∷ g.expr ∷ []) ∷ expression_then x (expression_then y r)
values_then (t.listed x xs) r = becomes g.values (g.token_open_brace ∷ g.expr ∷ g.more_exprs ∷ g.token_close_brace ∷ []) ∷ expression_then x (more_exprs_then xs r)

abbrev pub kind_then : t.Kind → TreeSteps → TreeSteps
kind_then (t.set_kind p vs) r = rule g.kind (g.token_set ∷ g.values ∷ []) p (values_then vs r)
kind_then (t.int_kind p x y) r = rule g.kind (g.token_int ∷ g.expr ∷ g.token_to ∷ g.expr ∷ []) p (expression_then x (expression_then y r))
kind_then (t.real_kind p x y) r = rule g.kind (g.token_real ∷ g.expr ∷ g.token_to ∷ g.expr ∷ []) p (expression_then x (expression_then y r))

-- none, or a first name and more
abbrev pub family_then : List Name → TreeSteps → TreeSteps
family_then [] r = becomes g.family [] ∷ r
family_then (n ∷ ns) r = becomes g.family (g.token_open_square ∷ g.token_name ∷ g.more_sets ∷ g.token_close_square ∷ []) ∷ name_then n (list_then g.more_sets (g.token_comma ∷ g.token_name ∷ g.more_sets ∷ []) name_then ns r)

abbrev pub forall_then : Option Binding → TreeSteps → TreeSteps
forall_then b r = optional_then g.forall (g.token_forall ∷ g.binders ∷ g.token_colon ∷ []) binding_then b r

abbrev pub tags_then : List t.Tag → TreeSteps → TreeSteps
tags_then ts r = list_then g.tags (g.tag ∷ g.tags ∷ []) tag_then ts r

abbrev pub item_then : t.Item → TreeSteps → TreeSteps
item_then (t.index_item p n x y) r = rule g.item (g.token_index ∷ g.token_name ∷ g.token_equal ∷ g.expr ∷ g.token_to ∷ g.expr ∷ g.token_semicolon ∷ []) p
    (name_then n (expression_then x (expression_then y r)))
item_then (t.var_item p n ns k) r = rule g.item (g.token_var ∷ g.token_name ∷ g.family ∷ g.token_colon ∷ g.kind ∷ g.token_semicolon ∷ []) p
    (name_then n (family_then ns (kind_then k r)))
item_then (t.post_item p b c ts) r = rule g.item (g.token_post ∷ g.forall ∷ g.cons ∷ g.tags ∷ g.token_semicolon ∷ []) p
    (forall_then b (constraint_then c (tags_then ts r)))

abbrev pub items_then : List t.Item → TreeSteps → TreeSteps
items_then is r = list_then g.items (g.item ∷ g.items ∷ []) item_then is r

abbrev pub aim_then : t.Aim → TreeSteps → TreeSteps
aim_then (t.minimise p x) r = rule g.aim (g.token_minimise ∷ g.expr ∷ []) p (expression_then x r)
aim_then (t.maximise p x) r = rule g.aim (g.token_maximise ∷ g.expr ∷ []) p (expression_then x r)

-- what stands behind the first aim where there are more; the grammar has one aim alone
abbrev pub further_side : List t.Aim → List Symbol
further_side [] = []
further_side (x ∷ xs) = g.token_then ∷ g.aim ∷ further_side xs

abbrev pub goal_then : t.Goal → TreeSteps → TreeSteps
goal_then (t.satisfy p) r = rule g.goal (g.token_satisfy ∷ []) p r
goal_then (t.aims p x xs) r = rule g.goal (g.aim ∷ further_side xs) p (aim_then x (each aim_then xs r))

abbrev pub tree_then : t.Tree → TreeSteps → TreeSteps
tree_then (t.tree p is x) r = rule g.model (g.items ∷ g.goal ∷ g.token_semicolon ∷ []) p (items_then is (goal_then x r))
