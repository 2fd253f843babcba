-- No two trees are listed alike.
use Rattle.std.proofs.Common.{◌≡◌, ◌∙◌, ap, sym, refl, Bool, true, false, List, [], ◌∷◌, Option, Some, None, ◌==◌, ◌&&◌}
use Rattle.sm_syntax.specs.declared.place.Place.{Place}
use Rattle.sm_syntax.specs.declared.tree.Name.{Name}
use Rattle.sm_syntax.specs.declared.tree.Number.{Number}
use Rattle.sm_syntax.specs.declared.tree.Bind.{Bind}
use Rattle.sm_syntax.specs.declared.tree.Sign.{Sign}
use Rattle.sm_syntax.specs.declared.tree.Sign.TheVariants as signs
use Rattle.sm_syntax.specs.declared.tree.Relation.{Relation}
use Rattle.sm_syntax.specs.declared.tree.Relation.TheVariants as relations
use Rattle.sm_syntax.specs.declared.tree.LitRelation.{LitRelation}
use Rattle.sm_syntax.specs.declared.tree.LitRelation.TheVariants as lit_relations
use Rattle.sm_syntax.specs.declared.formula.Quantifier.{Quantifier}
use Rattle.sm_syntax.specs.declared.formula.Quantifier.TheVariants as quantifiers
use Rattle.sm_syntax.specs.declared.tree.Cmp.{Cmp}
use Rattle.sm_syntax.specs.declared.tree.Cmp.TheVariants as cmps
use Rattle.sm_syntax.specs.declared.tree.Choosing.{Choosing}
use Rattle.sm_syntax.specs.declared.tree.Choosing.TheVariants as choosings
use Rattle.sm_syntax.specs.declared.tree.Level.{Level}
use Rattle.sm_syntax.specs.declared.tree.Level.TheVariants as levels
use Rattle.sm_syntax.specs.declared.tree.Relaxing.{Relaxing}
use Rattle.sm_syntax.specs.declared.tree.Relaxing.TheVariants as relaxings
use Rattle.sm_syntax.specs.declared.tree.Picking.{Picking}
use Rattle.sm_syntax.specs.declared.tree.Picking.TheVariants as pickings
use Rattle.sm_syntax.specs.declared.tree.Splitting.{Splitting}
use Rattle.sm_syntax.specs.declared.tree.Splitting.TheVariants as splittings
use Rattle.sm_syntax.specs.Grammars.{Symbol, leaf, node}
use Rattle.sm_syntax.specs.Grammar as g
use Rattle.sm_syntax.specs.Parsing.{becomes}
use Rattle.sm_syntax.specs.Reading.{each}
use Rattle.sm_syntax.specs.Expressions.{Expression, expression, Addends, no_addends, addend, Product, product, Operands, no_operands, times, Operand, number, named, group, sum, Expressions, no_expressions, another, Binding, binding, Comparisons, no_comparisons, besides, Comparison, comparison, Literal, a_literal}
use Rattle.sm_syntax.specs.Formulas as f
use Rattle.sm_syntax.specs.Trees as t
use Rattle.sm_syntax.specs.TreeSteps.{TreeSteps, addends_then, aim_then, bind_then, binding_then, choice_then, choices_then, choosing_symbol, choosing_then, claim_then, claims_then, cmp_then, comparison_then, comparisons_then, conjunction_then, conjunctions_then, constraint_then, ctask_then, ctasks_then, disjunction_then, dtask_then, ending_then, expression_then, expressions_then, family_then, for_each_then, forall_then, further_side, goal_then, indices_then, item_then, items_then, kind_then, level_symbol, level_then, list_then, listing_then, lit_relation_symbol, lit_relation_then, literal_then, load_then, loads_then, minus_then, more_dtasks_then, more_exprs_then, more_lits_then, name_then, negation_then, number_then, operand_then, operands_then, optional_then, picking_symbol, picking_then, presence_then, product_then, quantifier_symbol, quantifier_then, relation_symbol, relation_then, relaxing_symbol, relaxing_then, sign_symbol, sign_then, splitting_symbol, splitting_then, statement_then, tag_then, tags_then, tests_then, tree_then, values_then}

-- ---- two alternatives

abbrev same_symbol : Symbol → Symbol → Bool
same_symbol (leaf a) (leaf b) = a == b
same_symbol (node a) (node b) = a == b
same_symbol _ _ = false

abbrev same_side : List Symbol → List Symbol → Bool
same_side [] [] = true
same_side (x ∷ xs) (y ∷ ys) = same_symbol x y && same_side xs ys
same_side _ _ = false

-- the first step takes the alternative
abbrev begins_with : List Symbol → TreeSteps → Bool
begins_with side (becomes A other ∷ r) = same_side side other
begins_with side _ = false

abbrev behind_first : TreeSteps → TreeSteps
behind_first [] = []
behind_first (x ∷ r) = r

-- steps that begin with different alternatives differ
apart : (side : List Symbol) (u v : TreeSteps) → u ≡ v → begins_with side u ≡ true → begins_with side v ≡ false → ⊥
apart side u v e takes differs = let wrong : true ≡ false = sym takes ∙ ap (begins_with side) e ∙ differs in cc

-- ---- names, numbers and lists

same_name : (a b : Name) → a.place ≡ b.place → a.text ≡ b.text → a ≡ b
same_name a b p t = λ i. record { place = p i; text = t i }

pub one_name : (a b : Name) (r s : TreeSteps) → name_then a r ≡ name_then b s → (a ≡ b) × (r ≡ s)
one_name a b r s e =
    let p : a.place ≡ b.place = cc in
    let t : a.text ≡ b.text = cc in
    let q : r ≡ s = cc in
    (same_name a b p t, q)

same_numeral : (a b : Number) → a.place ≡ b.place → a.value ≡ b.value → a ≡ b
same_numeral a b p v = λ i. record { place = p i; value = v i }

pub one_number : (a b : Number) (r s : TreeSteps) → number_then a r ≡ number_then b s → (a ≡ b) × (r ≡ s)
one_number a b r s e =
    let p : a.place ≡ b.place = cc in
    let v : a.value ≡ b.value = cc in
    let q : r ≡ s = cc in
    (same_numeral a b p v, q)

same_bind : (a b : Bind) → a.place ≡ b.place → a.name ≡ b.name → a.set ≡ b.set → a ≡ b
same_bind a b p n m = λ i. record { place = p i; name = n i; set = m i }

pub one_bind : (a b : Bind) (r s : TreeSteps) → bind_then a r ≡ bind_then b s → (a ≡ b) × (r ≡ s)
one_bind a b r s e =
    let p : a.place ≡ b.place = cc in
    let e0 : name_then a.name (name_then a.set r) ≡ name_then b.name (name_then b.set s) = cc in
    let q0 = one_name a.name b.name (name_then a.set r) (name_then b.set s) e0 in
    let q1 = one_name a.set b.set r s q0.1 in
    (same_bind a b p q0.0 q1.0, q1.1)

pub one_minus : (a b : Bool) (r s : TreeSteps) → minus_then a r ≡ minus_then b s → (a ≡ b) × (r ≡ s)
one_minus true true r s e = (refl, cc)
one_minus true false r s e = absurd (apart [] _ _ (sym e) refl refl)
one_minus false true r s e = absurd (apart [] _ _ e refl refl)
one_minus false false r s e = (refl, cc)

pub one_list : {X : Type 0} (A : Symbol) (side : List Symbol) (f : X → TreeSteps → TreeSteps) → ((a b : X) (r s : TreeSteps) → f a r ≡ f b s → (a ≡ b) × (r ≡ s)) → (side ≡ [] → ⊥)
    → (xs ys : List X) (r s : TreeSteps) → list_then A side f xs r ≡ list_then A side f ys s → (xs ≡ ys) × (r ≡ s)
one_list A side f one some [] [] r s e = (refl, cc)
one_list A side f one some [] (y ∷ ys) r s e = absurd (some (cc))
one_list A side f one some (x ∷ xs) [] r s e = absurd (some (cc))
one_list A side f one some (x ∷ xs) (y ∷ ys) r s e =
    let e0 : f x (list_then A side f xs r) ≡ f y (list_then A side f ys s) = cc in
    let q0 = one x y (list_then A side f xs r) (list_then A side f ys s) e0 in
    let q1 = one_list A side f one some xs ys r s q0.1 in
    (cc (q0.0, q1.0), q1.1)

pub one_optional : {X : Type 0} (A : Symbol) (side : List Symbol) (f : X → TreeSteps → TreeSteps) → ((a b : X) (r s : TreeSteps) → f a r ≡ f b s → (a ≡ b) × (r ≡ s)) → (side ≡ [] → ⊥)
    → (xs ys : Option X) (r s : TreeSteps) → optional_then A side f xs r ≡ optional_then A side f ys s → (xs ≡ ys) × (r ≡ s)
one_optional A side f one some None None r s e = (refl, cc)
one_optional A side f one some None (Some y) r s e = absurd (some (cc))
one_optional A side f one some (Some x) None r s e = absurd (some (cc))
one_optional A side f one some (Some x) (Some y) r s e =
    let e0 : f x r ≡ f y s = cc in
    let q0 = one x y r s e0 in
    (cc (q0.0), q0.1)

-- ---- words and signs

pub one_sign : (a b : Sign) (r s : TreeSteps) → sign_then a r ≡ sign_then b s → (a ≡ b) × (r ≡ s)
one_sign signs.Plus signs.Plus r s e = (refl, cc)
one_sign signs.Plus _ r s e = absurd (apart (sign_symbol signs.Plus ∷ []) _ _ e refl refl)
one_sign signs.Minus signs.Minus r s e = (refl, cc)
one_sign signs.Minus _ r s e = absurd (apart (sign_symbol signs.Minus ∷ []) _ _ e refl refl)

pub one_relation : (a b : Relation) (r s : TreeSteps) → relation_then a r ≡ relation_then b s → (a ≡ b) × (r ≡ s)
one_relation relations.Less relations.Less r s e = (refl, cc)
one_relation relations.Less _ r s e = absurd (apart (relation_symbol relations.Less ∷ []) _ _ e refl refl)
one_relation relations.AtMost relations.AtMost r s e = (refl, cc)
one_relation relations.AtMost _ r s e = absurd (apart (relation_symbol relations.AtMost ∷ []) _ _ e refl refl)
one_relation relations.Greater relations.Greater r s e = (refl, cc)
one_relation relations.Greater _ r s e = absurd (apart (relation_symbol relations.Greater ∷ []) _ _ e refl refl)
one_relation relations.AtLeast relations.AtLeast r s e = (refl, cc)
one_relation relations.AtLeast _ r s e = absurd (apart (relation_symbol relations.AtLeast ∷ []) _ _ e refl refl)
one_relation relations.Equal relations.Equal r s e = (refl, cc)
one_relation relations.Equal _ r s e = absurd (apart (relation_symbol relations.Equal ∷ []) _ _ e refl refl)
one_relation relations.Unequal relations.Unequal r s e = (refl, cc)
one_relation relations.Unequal _ r s e = absurd (apart (relation_symbol relations.Unequal ∷ []) _ _ e refl refl)

pub one_lit_relation : (a b : LitRelation) (r s : TreeSteps) → lit_relation_then a r ≡ lit_relation_then b s → (a ≡ b) × (r ≡ s)
one_lit_relation lit_relations.AtMost lit_relations.AtMost r s e = (refl, cc)
one_lit_relation lit_relations.AtMost _ r s e = absurd (apart (lit_relation_symbol lit_relations.AtMost ∷ []) _ _ e refl refl)
one_lit_relation lit_relations.AtLeast lit_relations.AtLeast r s e = (refl, cc)
one_lit_relation lit_relations.AtLeast _ r s e = absurd (apart (lit_relation_symbol lit_relations.AtLeast ∷ []) _ _ e refl refl)
one_lit_relation lit_relations.Equal lit_relations.Equal r s e = (refl, cc)
one_lit_relation lit_relations.Equal _ r s e = absurd (apart (lit_relation_symbol lit_relations.Equal ∷ []) _ _ e refl refl)
one_lit_relation lit_relations.Unequal lit_relations.Unequal r s e = (refl, cc)
one_lit_relation lit_relations.Unequal _ r s e = absurd (apart (lit_relation_symbol lit_relations.Unequal ∷ []) _ _ e refl refl)

pub one_quantifier : (a b : Quantifier) (r s : TreeSteps) → quantifier_then a r ≡ quantifier_then b s → (a ≡ b) × (r ≡ s)
one_quantifier quantifiers.All quantifiers.All r s e = (refl, cc)
one_quantifier quantifiers.All _ r s e = absurd (apart (quantifier_symbol quantifiers.All ∷ []) _ _ e refl refl)
one_quantifier quantifiers.Any quantifiers.Any r s e = (refl, cc)
one_quantifier quantifiers.Any _ r s e = absurd (apart (quantifier_symbol quantifiers.Any ∷ []) _ _ e refl refl)

pub one_choosing : (a b : Choosing) (r s : TreeSteps) → choosing_then a r ≡ choosing_then b s → (a ≡ b) × (r ≡ s)
one_choosing choosings.Indexsum choosings.Indexsum r s e = (refl, cc)
one_choosing choosings.Indexsum _ r s e = absurd (apart (choosing_symbol choosings.Indexsum ∷ []) _ _ e refl refl)
one_choosing choosings.Assign choosings.Assign r s e = (refl, cc)
one_choosing choosings.Assign _ r s e = absurd (apart (choosing_symbol choosings.Assign ∷ []) _ _ e refl refl)

pub one_level : (a b : Level) (r s : TreeSteps) → level_then a r ≡ level_then b s → (a ≡ b) × (r ≡ s)
one_level levels.None levels.None r s e = (refl, cc)
one_level levels.None _ r s e = absurd (apart (level_symbol levels.None ∷ []) _ _ e refl refl)
one_level levels.Bounds levels.Bounds r s e = (refl, cc)
one_level levels.Bounds _ r s e = absurd (apart (level_symbol levels.Bounds ∷ []) _ _ e refl refl)
one_level levels.Full levels.Full r s e = (refl, cc)
one_level levels.Full _ r s e = absurd (apart (level_symbol levels.Full ∷ []) _ _ e refl refl)

pub one_relaxing : (a b : Relaxing) (r s : TreeSteps) → relaxing_then a r ≡ relaxing_then b s → (a ≡ b) × (r ≡ s)
one_relaxing relaxings.On relaxings.On r s e = (refl, cc)
one_relaxing relaxings.On _ r s e = absurd (apart (relaxing_symbol relaxings.On ∷ []) _ _ e refl refl)
one_relaxing relaxings.None relaxings.None r s e = (refl, cc)
one_relaxing relaxings.None _ r s e = absurd (apart (relaxing_symbol relaxings.None ∷ []) _ _ e refl refl)

pub one_picking : (a b : Picking) (r s : TreeSteps) → picking_then a r ≡ picking_then b s → (a ≡ b) × (r ≡ s)
one_picking pickings.First pickings.First r s e = (refl, cc)
one_picking pickings.First _ r s e = absurd (apart (picking_symbol pickings.First ∷ []) _ _ e refl refl)
one_picking pickings.Small pickings.Small r s e = (refl, cc)
one_picking pickings.Small _ r s e = absurd (apart (picking_symbol pickings.Small ∷ []) _ _ e refl refl)
one_picking pickings.Point pickings.Point r s e = (refl, cc)
one_picking pickings.Point _ r s e = absurd (apart (picking_symbol pickings.Point ∷ []) _ _ e refl refl)

pub one_splitting : (a b : Splitting) (r s : TreeSteps) → splitting_then a r ≡ splitting_then b s → (a ≡ b) × (r ≡ s)
one_splitting splittings.Half splittings.Half r s e = (refl, cc)
one_splitting splittings.Half _ r s e = absurd (apart (splitting_symbol splittings.Half ∷ []) _ _ e refl refl)
one_splitting splittings.Least splittings.Least r s e = (refl, cc)
one_splitting splittings.Least _ r s e = absurd (apart (splitting_symbol splittings.Least ∷ []) _ _ e refl refl)
one_splitting splittings.Most splittings.Most r s e = (refl, cc)
one_splitting splittings.Most _ r s e = absurd (apart (splitting_symbol splittings.Most ∷ []) _ _ e refl refl)

pub one_cmp : (a b : Cmp) (r s : TreeSteps) → cmp_then a r ≡ cmp_then b s → (a ≡ b) × (r ≡ s)
one_cmp (cmps.AtMost p1) (cmps.AtMost p2) r s e = (cc, cc)
one_cmp (cmps.AtMost p1) _ r s e = absurd (apart (g.token_at_most ∷ []) _ _ e refl refl)
one_cmp (cmps.AtLeast p1) (cmps.AtLeast p2) r s e = (cc, cc)
one_cmp (cmps.AtLeast p1) _ r s e = absurd (apart (g.token_at_least ∷ []) _ _ e refl refl)
one_cmp (cmps.Equal p1) (cmps.Equal p2) r s e = (cc, cc)
one_cmp (cmps.Equal p1) _ r s e = absurd (apart (g.token_equal ∷ []) _ _ e refl refl)

-- ---- expressions

mutual
  pub one_expression : (a b : Expression) (r s : TreeSteps) → expression_then a r ≡ expression_then b s → (a ≡ b) × (r ≡ s)
  one_expression (expression p1 n1 x1 xs1) (expression p2 n2 x2 xs2) r s e =
      let h0 : minus_then n1 (product_then x1 (addends_then xs1 r)) ≡ minus_then n2 (product_then x2 (addends_then xs2 s)) = cc in
      let q0 = one_minus n1 n2 (product_then x1 (addends_then xs1 r)) (product_then x2 (addends_then xs2 s)) h0 in
      let h1 : product_then x1 (addends_then xs1 r) ≡ product_then x2 (addends_then xs2 s) = q0.1 in
      let q1 = one_product x1 x2 (addends_then xs1 r) (addends_then xs2 s) h1 in
      let h2 : addends_then xs1 r ≡ addends_then xs2 s = q1.1 in
      let q2 = one_addends xs1 xs2 r s h2 in
      (cc (q0.0, q1.0, q2.0), q2.1)

  pub one_addends : (a b : Addends) (r s : TreeSteps) → addends_then a r ≡ addends_then b s → (a ≡ b) × (r ≡ s)
  one_addends no_addends no_addends r s e =
      (cc, cc)
  one_addends no_addends _ r s e = absurd (apart [] _ _ e refl refl)
  one_addends (addend s1 x1 xs1) (addend s2 x2 xs2) r s e =
      let h0 : sign_then s1 (product_then x1 (addends_then xs1 r)) ≡ sign_then s2 (product_then x2 (addends_then xs2 s)) = cc in
      let q0 = one_sign s1 s2 (product_then x1 (addends_then xs1 r)) (product_then x2 (addends_then xs2 s)) h0 in
      let h1 : product_then x1 (addends_then xs1 r) ≡ product_then x2 (addends_then xs2 s) = q0.1 in
      let q1 = one_product x1 x2 (addends_then xs1 r) (addends_then xs2 s) h1 in
      let h2 : addends_then xs1 r ≡ addends_then xs2 s = q1.1 in
      let q2 = one_addends xs1 xs2 r s h2 in
      (cc (q0.0, q1.0, q2.0), q2.1)
  one_addends (addend s1 x1 xs1) _ r s e = absurd (apart (g.sign ∷ g.term ∷ g.more_terms ∷ []) _ _ e refl refl)

  pub one_product : (a b : Product) (r s : TreeSteps) → product_then a r ≡ product_then b s → (a ≡ b) × (r ≡ s)
  one_product (product p1 x1 xs1) (product p2 x2 xs2) r s e =
      let h0 : operand_then x1 (operands_then xs1 r) ≡ operand_then x2 (operands_then xs2 s) = cc in
      let q0 = one_operand x1 x2 (operands_then xs1 r) (operands_then xs2 s) h0 in
      let h1 : operands_then xs1 r ≡ operands_then xs2 s = q0.1 in
      let q1 = one_operands xs1 xs2 r s h1 in
      (cc (q0.0, q1.0), q1.1)

  pub one_operands : (a b : Operands) (r s : TreeSteps) → operands_then a r ≡ operands_then b s → (a ≡ b) × (r ≡ s)
  one_operands no_operands no_operands r s e =
      (cc, cc)
  one_operands no_operands _ r s e = absurd (apart [] _ _ e refl refl)
  one_operands (times x1 xs1) (times x2 xs2) r s e =
      let h0 : operand_then x1 (operands_then xs1 r) ≡ operand_then x2 (operands_then xs2 s) = cc in
      let q0 = one_operand x1 x2 (operands_then xs1 r) (operands_then xs2 s) h0 in
      let h1 : operands_then xs1 r ≡ operands_then xs2 s = q0.1 in
      let q1 = one_operands xs1 xs2 r s h1 in
      (cc (q0.0, q1.0), q1.1)
  one_operands (times x1 xs1) _ r s e = absurd (apart (g.token_times ∷ g.factor ∷ g.more_factors ∷ []) _ _ e refl refl)

  pub one_operand : (a b : Operand) (r s : TreeSteps) → operand_then a r ≡ operand_then b s → (a ≡ b) × (r ≡ s)
  one_operand (number p1 n1) (number p2 n2) r s e =
      let h0 : number_then n1 r ≡ number_then n2 s = cc in
      let q0 = one_number n1 n2 r s h0 in
      (cc (q0.0), q0.1)
  one_operand (number p1 n1) _ r s e = absurd (apart (g.token_number ∷ []) _ _ e refl refl)
  one_operand (named p1 n1 xs1) (named p2 n2 xs2) r s e =
      let h0 : name_then n1 (indices_then xs1 r) ≡ name_then n2 (indices_then xs2 s) = cc in
      let q0 = one_name n1 n2 (indices_then xs1 r) (indices_then xs2 s) h0 in
      let h1 : indices_then xs1 r ≡ indices_then xs2 s = q0.1 in
      let q1 = one_indices xs1 xs2 r s h1 in
      (cc (q0.0, q1.0), q1.1)
  one_operand (named p1 n1 xs1) _ r s e = absurd (apart (g.token_name ∷ g.indices ∷ []) _ _ e refl refl)
  one_operand (group p1 x1) (group p2 x2) r s e =
      let h0 : expression_then x1 r ≡ expression_then x2 s = cc in
      let q0 = one_expression x1 x2 r s h0 in
      (cc (q0.0), q0.1)
  one_operand (group p1 x1) _ r s e = absurd (apart (g.token_open_round ∷ g.expr ∷ g.token_close_round ∷ []) _ _ e refl refl)
  one_operand (sum p1 x1 b1) (sum p2 x2 b2) r s e =
      let h0 : expression_then x1 (binding_then b1 r) ≡ expression_then x2 (binding_then b2 s) = cc in
      let q0 = one_expression x1 x2 (binding_then b1 r) (binding_then b2 s) h0 in
      let h1 : binding_then b1 r ≡ binding_then b2 s = q0.1 in
      let q1 = one_binding b1 b2 r s h1 in
      (cc (q0.0, q1.0), q1.1)
  one_operand (sum p1 x1 b1) _ r s e = absurd (apart (g.token_sum ∷ g.token_open_round ∷ g.expr ∷ g.token_for ∷ g.binders ∷ g.token_close_round ∷ []) _ _ e refl refl)

  pub one_indices : (a b : Expressions) (r s : TreeSteps) → indices_then a r ≡ indices_then b s → (a ≡ b) × (r ≡ s)
  one_indices no_expressions no_expressions r s e =
      (cc, cc)
  one_indices no_expressions _ r s e = absurd (apart [] _ _ e refl refl)
  one_indices (another x1 xs1) (another x2 xs2) r s e =
      let h0 : expression_then x1 (expressions_then xs1 r) ≡ expression_then x2 (expressions_then xs2 s) = cc in
      let q0 = one_expression x1 x2 (expressions_then xs1 r) (expressions_then xs2 s) h0 in
      let h1 : expressions_then xs1 r ≡ expressions_then xs2 s = q0.1 in
      let q1 = one_expressions xs1 xs2 r s h1 in
      (cc (q0.0, q1.0), q1.1)
  one_indices (another x1 xs1) _ r s e = absurd (apart (g.token_open_square ∷ g.expr ∷ g.more_exprs ∷ g.token_close_square ∷ []) _ _ e refl refl)

  pub one_expressions : (a b : Expressions) (r s : TreeSteps) → expressions_then a r ≡ expressions_then b s → (a ≡ b) × (r ≡ s)
  one_expressions no_expressions no_expressions r s e =
      (cc, cc)
  one_expressions no_expressions _ r s e = absurd (apart [] _ _ e refl refl)
  one_expressions (another x1 xs1) (another x2 xs2) r s e =
      let h0 : expression_then x1 (expressions_then xs1 r) ≡ expression_then x2 (expressions_then xs2 s) = cc in
      let q0 = one_expression x1 x2 (expressions_then xs1 r) (expressions_then xs2 s) h0 in
      let h1 : expressions_then xs1 r ≡ expressions_then xs2 s = q0.1 in
      let q1 = one_expressions xs1 xs2 r s h1 in
      (cc (q0.0, q1.0), q1.1)
  one_expressions (another x1 xs1) _ r s e = absurd (apart (g.token_comma ∷ g.expr ∷ g.more_exprs ∷ []) _ _ e refl refl)

  pub one_binding : (a b : Binding) (r s : TreeSteps) → binding_then a r ≡ binding_then b s → (a ≡ b) × (r ≡ s)
  one_binding (binding p1 b1 bs1 ts1) (binding p2 b2 bs2 ts2) r s e =
      let h0 : bind_then b1 (list_then g.more_binds (g.token_comma ∷ g.bind ∷ g.more_binds ∷ []) bind_then bs1 (tests_then ts1 r)) ≡ bind_then b2 (list_then g.more_binds (g.token_comma ∷ g.bind ∷ g.more_binds ∷ []) bind_then bs2 (tests_then ts2 s)) = cc in
      let q0 = one_bind b1 b2 (list_then g.more_binds (g.token_comma ∷ g.bind ∷ g.more_binds ∷ []) bind_then bs1 (tests_then ts1 r)) (list_then g.more_binds (g.token_comma ∷ g.bind ∷ g.more_binds ∷ []) bind_then bs2 (tests_then ts2 s)) h0 in
      let h1 : list_then g.more_binds (g.token_comma ∷ g.bind ∷ g.more_binds ∷ []) bind_then bs1 (tests_then ts1 r) ≡ list_then g.more_binds (g.token_comma ∷ g.bind ∷ g.more_binds ∷ []) bind_then bs2 (tests_then ts2 s) = q0.1 in
      let q1 = one_list g.more_binds (g.token_comma ∷ g.bind ∷ g.more_binds ∷ []) bind_then one_bind (λ e. let same : (g.token_comma ∷ g.bind ∷ g.more_binds ∷ []) ≡ [] = e in cc) bs1 bs2 (tests_then ts1 r) (tests_then ts2 s) h1 in
      let h2 : tests_then ts1 r ≡ tests_then ts2 s = q1.1 in
      let q2 = one_tests ts1 ts2 r s h2 in
      (cc (q0.0, q1.0, q2.0), q2.1)

  pub one_tests : (a b : Comparisons) (r s : TreeSteps) → tests_then a r ≡ tests_then b s → (a ≡ b) × (r ≡ s)
  one_tests no_comparisons no_comparisons r s e =
      (cc, cc)
  one_tests no_comparisons _ r s e = absurd (apart [] _ _ e refl refl)
  one_tests (besides x1 xs1) (besides x2 xs2) r s e =
      let h0 : comparison_then x1 (comparisons_then xs1 r) ≡ comparison_then x2 (comparisons_then xs2 s) = cc in
      let q0 = one_comparison x1 x2 (comparisons_then xs1 r) (comparisons_then xs2 s) h0 in
      let h1 : comparisons_then xs1 r ≡ comparisons_then xs2 s = q0.1 in
      let q1 = one_comparisons xs1 xs2 r s h1 in
      (cc (q0.0, q1.0), q1.1)
  one_tests (besides x1 xs1) _ r s e = absurd (apart (g.token_if ∷ g.test ∷ g.more_tests ∷ []) _ _ e refl refl)

  pub one_comparisons : (a b : Comparisons) (r s : TreeSteps) → comparisons_then a r ≡ comparisons_then b s → (a ≡ b) × (r ≡ s)
  one_comparisons no_comparisons no_comparisons r s e =
      (cc, cc)
  one_comparisons no_comparisons _ r s e = absurd (apart [] _ _ e refl refl)
  one_comparisons (besides x1 xs1) (besides x2 xs2) r s e =
      let h0 : comparison_then x1 (comparisons_then xs1 r) ≡ comparison_then x2 (comparisons_then xs2 s) = cc in
      let q0 = one_comparison x1 x2 (comparisons_then xs1 r) (comparisons_then xs2 s) h0 in
      let h1 : comparisons_then xs1 r ≡ comparisons_then xs2 s = q0.1 in
      let q1 = one_comparisons xs1 xs2 r s h1 in
      (cc (q0.0, q1.0), q1.1)
  one_comparisons (besides x1 xs1) _ r s e = absurd (apart (g.token_and ∷ g.test ∷ g.more_tests ∷ []) _ _ e refl refl)

  pub one_comparison : (a b : Comparison) (r s : TreeSteps) → comparison_then a r ≡ comparison_then b s → (a ≡ b) × (r ≡ s)
  one_comparison (comparison p1 x1 c1 y1) (comparison p2 x2 c2 y2) r s e =
      let h0 : expression_then x1 (relation_then c1 (expression_then y1 r)) ≡ expression_then x2 (relation_then c2 (expression_then y2 s)) = cc in
      let q0 = one_expression x1 x2 (relation_then c1 (expression_then y1 r)) (relation_then c2 (expression_then y2 s)) h0 in
      let h1 : relation_then c1 (expression_then y1 r) ≡ relation_then c2 (expression_then y2 s) = q0.1 in
      let q1 = one_relation c1 c2 (expression_then y1 r) (expression_then y2 s) h1 in
      let h2 : expression_then y1 r ≡ expression_then y2 s = q1.1 in
      let q2 = one_expression y1 y2 r s h2 in
      (cc (q0.0, q1.0, q2.0), q2.1)

pub one_literal : (a b : Literal) (r s : TreeSteps) → literal_then a r ≡ literal_then b s → (a ≡ b) × (r ≡ s)
one_literal (a_literal p1 x1 c1 y1) (a_literal p2 x2 c2 y2) r s e =
    let h0 : expression_then x1 (lit_relation_then c1 (expression_then y1 r)) ≡ expression_then x2 (lit_relation_then c2 (expression_then y2 s)) = cc in
    let q0 = one_expression x1 x2 (lit_relation_then c1 (expression_then y1 r)) (lit_relation_then c2 (expression_then y2 s)) h0 in
    let h1 : lit_relation_then c1 (expression_then y1 r) ≡ lit_relation_then c2 (expression_then y2 s) = q0.1 in
    let q1 = one_lit_relation c1 c2 (expression_then y1 r) (expression_then y2 s) h1 in
    let h2 : expression_then y1 r ≡ expression_then y2 s = q1.1 in
    let q2 = one_expression y1 y2 r s h2 in
    (cc (q0.0, q1.0, q2.0), q2.1)

pub one_negation : (a b : Place) (r s : TreeSteps) → negation_then a r ≡ negation_then b s → (a ≡ b) × (r ≡ s)
one_negation a b r s e = (cc, cc)

-- ---- formulas

mutual
  pub one_statement : (a b : f.Statement) (r s : TreeSteps) → statement_then a r ≡ statement_then b s → (a ≡ b) × (r ≡ s)
  one_statement (f.statement p1 d1 e1) (f.statement p2 d2 e2) r s e =
      let h0 : disjunction_then d1 (ending_then e1 r) ≡ disjunction_then d2 (ending_then e2 s) = cc in
      let q0 = one_disjunction d1 d2 (ending_then e1 r) (ending_then e2 s) h0 in
      let h1 : ending_then e1 r ≡ ending_then e2 s = q0.1 in
      let q1 = one_ending e1 e2 r s h1 in
      (cc (q0.0, q1.0), q1.1)

  pub one_ending : (a b : f.Ending) (r s : TreeSteps) → ending_then a r ≡ ending_then b s → (a ≡ b) × (r ≡ s)
  one_ending f.nothing f.nothing r s e =
      (cc, cc)
  one_ending f.nothing _ r s e = absurd (apart [] _ _ e refl refl)
  one_ending (f.implied d1) (f.implied d2) r s e =
      let h0 : disjunction_then d1 r ≡ disjunction_then d2 s = cc in
      let q0 = one_disjunction d1 d2 r s h0 in
      (cc (q0.0), q0.1)
  one_ending (f.implied d1) f.nothing r s e = absurd (apart (g.connective ∷ g.disj ∷ []) _ _ e refl refl)
  one_ending (f.implied d1) (f.equivalent d2) r s e = absurd (apart (g.token_implies ∷ []) _ _ (ap behind_first e) refl refl)
  one_ending (f.equivalent d1) (f.equivalent d2) r s e =
      let h0 : disjunction_then d1 r ≡ disjunction_then d2 s = cc in
      let q0 = one_disjunction d1 d2 r s h0 in
      (cc (q0.0), q0.1)
  one_ending (f.equivalent d1) f.nothing r s e = absurd (apart (g.connective ∷ g.disj ∷ []) _ _ e refl refl)
  one_ending (f.equivalent d1) (f.implied d2) r s e = absurd (apart (g.token_iff ∷ []) _ _ (ap behind_first e) refl refl)

  pub one_disjunction : (a b : f.Disjunction) (r s : TreeSteps) → disjunction_then a r ≡ disjunction_then b s → (a ≡ b) × (r ≡ s)
  one_disjunction (f.disjunction p1 x1 xs1) (f.disjunction p2 x2 xs2) r s e =
      let h0 : conjunction_then x1 (conjunctions_then xs1 r) ≡ conjunction_then x2 (conjunctions_then xs2 s) = cc in
      let q0 = one_conjunction x1 x2 (conjunctions_then xs1 r) (conjunctions_then xs2 s) h0 in
      let h1 : conjunctions_then xs1 r ≡ conjunctions_then xs2 s = q0.1 in
      let q1 = one_conjunctions xs1 xs2 r s h1 in
      (cc (q0.0, q1.0), q1.1)

  pub one_conjunctions : (a b : f.Conjunctions) (r s : TreeSteps) → conjunctions_then a r ≡ conjunctions_then b s → (a ≡ b) × (r ≡ s)
  one_conjunctions f.no_conjunctions f.no_conjunctions r s e =
      (cc, cc)
  one_conjunctions f.no_conjunctions _ r s e = absurd (apart [] _ _ e refl refl)
  one_conjunctions (f.or_else x1 xs1) (f.or_else x2 xs2) r s e =
      let h0 : conjunction_then x1 (conjunctions_then xs1 r) ≡ conjunction_then x2 (conjunctions_then xs2 s) = cc in
      let q0 = one_conjunction x1 x2 (conjunctions_then xs1 r) (conjunctions_then xs2 s) h0 in
      let h1 : conjunctions_then xs1 r ≡ conjunctions_then xs2 s = q0.1 in
      let q1 = one_conjunctions xs1 xs2 r s h1 in
      (cc (q0.0, q1.0), q1.1)
  one_conjunctions (f.or_else x1 xs1) _ r s e = absurd (apart (g.token_or ∷ g.conj ∷ g.more_conjs ∷ []) _ _ e refl refl)

  pub one_conjunction : (a b : f.Conjunction) (r s : TreeSteps) → conjunction_then a r ≡ conjunction_then b s → (a ≡ b) × (r ≡ s)
  one_conjunction (f.conjunction p1 x1 xs1) (f.conjunction p2 x2 xs2) r s e =
      let h0 : claim_then x1 (claims_then xs1 r) ≡ claim_then x2 (claims_then xs2 s) = cc in
      let q0 = one_claim x1 x2 (claims_then xs1 r) (claims_then xs2 s) h0 in
      let h1 : claims_then xs1 r ≡ claims_then xs2 s = q0.1 in
      let q1 = one_claims xs1 xs2 r s h1 in
      (cc (q0.0, q1.0), q1.1)

  pub one_claims : (a b : f.Claims) (r s : TreeSteps) → claims_then a r ≡ claims_then b s → (a ≡ b) × (r ≡ s)
  one_claims f.no_claims f.no_claims r s e =
      (cc, cc)
  one_claims f.no_claims _ r s e = absurd (apart [] _ _ e refl refl)
  one_claims (f.and_also x1 xs1) (f.and_also x2 xs2) r s e =
      let h0 : claim_then x1 (claims_then xs1 r) ≡ claim_then x2 (claims_then xs2 s) = cc in
      let q0 = one_claim x1 x2 (claims_then xs1 r) (claims_then xs2 s) h0 in
      let h1 : claims_then xs1 r ≡ claims_then xs2 s = q0.1 in
      let q1 = one_claims xs1 xs2 r s h1 in
      (cc (q0.0, q1.0), q1.1)
  one_claims (f.and_also x1 xs1) _ r s e = absurd (apart (g.token_and ∷ g.unit ∷ g.more_units ∷ []) _ _ e refl refl)

  pub one_claim : (a b : f.Claim) (r s : TreeSteps) → claim_then a r ≡ claim_then b s → (a ≡ b) × (r ≡ s)
  one_claim (f.literal p1 l1) (f.literal p2 l2) r s e =
      let h0 : literal_then l1 r ≡ literal_then l2 s = cc in
      let q0 = one_literal l1 l2 r s h0 in
      (cc (q0.0), q0.1)
  one_claim (f.literal p1 l1) _ r s e = absurd (apart (g.lit ∷ []) _ _ e refl refl)
  one_claim (f.negation p1 x1) (f.negation p2 x2) r s e =
      let h0 : negation_then p1 (claim_then x1 r) ≡ negation_then p2 (claim_then x2 s) = cc in
      let q0 = one_negation p1 p2 (claim_then x1 r) (claim_then x2 s) h0 in
      let h1 : claim_then x1 r ≡ claim_then x2 s = q0.1 in
      let q1 = one_claim x1 x2 r s h1 in
      (cc (q0.0, q1.0), q1.1)
  one_claim (f.negation p1 x1) _ r s e = absurd (apart (g.token_not ∷ g.unit ∷ []) _ _ e refl refl)
  one_claim (f.group p1 x1) (f.group p2 x2) r s e =
      let h0 : statement_then x1 r ≡ statement_then x2 s = cc in
      let q0 = one_statement x1 x2 r s h0 in
      (cc (q0.0), q0.1)
  one_claim (f.group p1 x1) _ r s e = absurd (apart (g.token_open_round ∷ g.formula ∷ g.token_close_round ∷ []) _ _ e refl refl)
  one_claim (f.quantified p1 q1 x1 b1) (f.quantified p2 q2 x2 b2) r s e =
      let h0 : quantifier_then q1 (statement_then x1 (binding_then b1 r)) ≡ quantifier_then q2 (statement_then x2 (binding_then b2 s)) = cc in
      let q0 = one_quantifier q1 q2 (statement_then x1 (binding_then b1 r)) (statement_then x2 (binding_then b2 s)) h0 in
      let h1 : statement_then x1 (binding_then b1 r) ≡ statement_then x2 (binding_then b2 s) = q0.1 in
      let q1 = one_statement x1 x2 (binding_then b1 r) (binding_then b2 s) h1 in
      let h2 : binding_then b1 r ≡ binding_then b2 s = q1.1 in
      let q2 = one_binding b1 b2 r s h2 in
      (cc (q0.0, q1.0, q2.0), q2.1)
  one_claim (f.quantified p1 q1 x1 b1) _ r s e = absurd (apart (g.quantifier ∷ g.token_open_round ∷ g.formula ∷ g.token_for ∷ g.binders ∷ g.token_close_round ∷ []) _ _ e refl refl)

-- ---- lists and what stands in them

pub one_for_each : (a b : Option Binding) (r s : TreeSteps) → for_each_then a r ≡ for_each_then b s → (a ≡ b) × (r ≡ s)
one_for_each = one_optional g.for_each (g.token_for ∷ g.binders ∷ []) binding_then one_binding (λ e. let same : (g.token_for ∷ g.binders ∷ []) ≡ [] = e in cc)

pub one_presence : (a b : Option Literal) (r s : TreeSteps) → presence_then a r ≡ presence_then b s → (a ≡ b) × (r ≡ s)
one_presence = one_optional g.presence (g.token_when ∷ g.lit ∷ []) literal_then one_literal (λ e. let same : (g.token_when ∷ g.lit ∷ []) ≡ [] = e in cc)

pub one_more_exprs : (a b : List Expression) (r s : TreeSteps) → more_exprs_then a r ≡ more_exprs_then b s → (a ≡ b) × (r ≡ s)
one_more_exprs = one_list g.more_exprs (g.token_comma ∷ g.expr ∷ g.more_exprs ∷ []) expression_then one_expression (λ e. let same : (g.token_comma ∷ g.expr ∷ g.more_exprs ∷ []) ≡ [] = e in cc)

pub one_listing : (a b : t.Listing) (r s : TreeSteps) → listing_then a r ≡ listing_then b s → (a ≡ b) × (r ≡ s)
one_listing (t.listing p1 x1 xs1 b1) (t.listing p2 x2 xs2 b2) r s e =
    let h0 : expression_then x1 (more_exprs_then xs1 (for_each_then b1 r)) ≡ expression_then x2 (more_exprs_then xs2 (for_each_then b2 s)) = cc in
    let q0 = one_expression x1 x2 (more_exprs_then xs1 (for_each_then b1 r)) (more_exprs_then xs2 (for_each_then b2 s)) h0 in
    let h1 : more_exprs_then xs1 (for_each_then b1 r) ≡ more_exprs_then xs2 (for_each_then b2 s) = q0.1 in
    let q1 = one_more_exprs xs1 xs2 (for_each_then b1 r) (for_each_then b2 s) h1 in
    let h2 : for_each_then b1 r ≡ for_each_then b2 s = q1.1 in
    let q2 = one_for_each b1 b2 r s h2 in
    (cc (q0.0, q1.0, q2.0), q2.1)

pub one_choice : (a b : t.Choice) (r s : TreeSteps) → choice_then a r ≡ choice_then b s → (a ≡ b) × (r ≡ s)
one_choice (t.choice p1 x1 l1 b1) (t.choice p2 x2 l2 b2) r s e =
    let h0 : expression_then x1 (listing_then l1 (for_each_then b1 r)) ≡ expression_then x2 (listing_then l2 (for_each_then b2 s)) = cc in
    let q0 = one_expression x1 x2 (listing_then l1 (for_each_then b1 r)) (listing_then l2 (for_each_then b2 s)) h0 in
    let h1 : listing_then l1 (for_each_then b1 r) ≡ listing_then l2 (for_each_then b2 s) = q0.1 in
    let q1 = one_listing l1 l2 (for_each_then b1 r) (for_each_then b2 s) h1 in
    let h2 : for_each_then b1 r ≡ for_each_then b2 s = q1.1 in
    let q2 = one_for_each b1 b2 r s h2 in
    (cc (q0.0, q1.0, q2.0), q2.1)

pub one_ctask : (a b : t.Ctask) (r s : TreeSteps) → ctask_then a r ≡ ctask_then b s → (a ≡ b) × (r ≡ s)
one_ctask (t.ctask p1 x1 y1 z1 l1 b1) (t.ctask p2 x2 y2 z2 l2 b2) r s e =
    let h0 : expression_then x1 (expression_then y1 (expression_then z1 (presence_then l1 (for_each_then b1 r)))) ≡ expression_then x2 (expression_then y2 (expression_then z2 (presence_then l2 (for_each_then b2 s)))) = cc in
    let q0 = one_expression x1 x2 (expression_then y1 (expression_then z1 (presence_then l1 (for_each_then b1 r)))) (expression_then y2 (expression_then z2 (presence_then l2 (for_each_then b2 s)))) h0 in
    let h1 : expression_then y1 (expression_then z1 (presence_then l1 (for_each_then b1 r))) ≡ expression_then y2 (expression_then z2 (presence_then l2 (for_each_then b2 s))) = q0.1 in
    let q1 = one_expression y1 y2 (expression_then z1 (presence_then l1 (for_each_then b1 r))) (expression_then z2 (presence_then l2 (for_each_then b2 s))) h1 in
    let h2 : expression_then z1 (presence_then l1 (for_each_then b1 r)) ≡ expression_then z2 (presence_then l2 (for_each_then b2 s)) = q1.1 in
    let q2 = one_expression z1 z2 (presence_then l1 (for_each_then b1 r)) (presence_then l2 (for_each_then b2 s)) h2 in
    let h3 : presence_then l1 (for_each_then b1 r) ≡ presence_then l2 (for_each_then b2 s) = q2.1 in
    let q3 = one_presence l1 l2 (for_each_then b1 r) (for_each_then b2 s) h3 in
    let h4 : for_each_then b1 r ≡ for_each_then b2 s = q3.1 in
    let q4 = one_for_each b1 b2 r s h4 in
    (cc (q0.0, q1.0, q2.0, q3.0, q4.0), q4.1)

pub one_dtask : (a b : t.Dtask) (r s : TreeSteps) → dtask_then a r ≡ dtask_then b s → (a ≡ b) × (r ≡ s)
one_dtask (t.dtask p1 x1 y1 l1 b1) (t.dtask p2 x2 y2 l2 b2) r s e =
    let h0 : expression_then x1 (expression_then y1 (presence_then l1 (for_each_then b1 r))) ≡ expression_then x2 (expression_then y2 (presence_then l2 (for_each_then b2 s))) = cc in
    let q0 = one_expression x1 x2 (expression_then y1 (presence_then l1 (for_each_then b1 r))) (expression_then y2 (presence_then l2 (for_each_then b2 s))) h0 in
    let h1 : expression_then y1 (presence_then l1 (for_each_then b1 r)) ≡ expression_then y2 (presence_then l2 (for_each_then b2 s)) = q0.1 in
    let q1 = one_expression y1 y2 (presence_then l1 (for_each_then b1 r)) (presence_then l2 (for_each_then b2 s)) h1 in
    let h2 : presence_then l1 (for_each_then b1 r) ≡ presence_then l2 (for_each_then b2 s) = q1.1 in
    let q2 = one_presence l1 l2 (for_each_then b1 r) (for_each_then b2 s) h2 in
    let h3 : for_each_then b1 r ≡ for_each_then b2 s = q2.1 in
    let q3 = one_for_each b1 b2 r s h3 in
    (cc (q0.0, q1.0, q2.0, q3.0), q3.1)

pub one_load : (a b : t.Load) (r s : TreeSteps) → load_then a r ≡ load_then b s → (a ≡ b) × (r ≡ s)
one_load (t.load p1 x1 y1 l1 b1) (t.load p2 x2 y2 l2 b2) r s e =
    let h0 : expression_then x1 (expression_then y1 (listing_then l1 (for_each_then b1 r))) ≡ expression_then x2 (expression_then y2 (listing_then l2 (for_each_then b2 s))) = cc in
    let q0 = one_expression x1 x2 (expression_then y1 (listing_then l1 (for_each_then b1 r))) (expression_then y2 (listing_then l2 (for_each_then b2 s))) h0 in
    let h1 : expression_then y1 (listing_then l1 (for_each_then b1 r)) ≡ expression_then y2 (listing_then l2 (for_each_then b2 s)) = q0.1 in
    let q1 = one_expression y1 y2 (listing_then l1 (for_each_then b1 r)) (listing_then l2 (for_each_then b2 s)) h1 in
    let h2 : listing_then l1 (for_each_then b1 r) ≡ listing_then l2 (for_each_then b2 s) = q1.1 in
    let q2 = one_listing l1 l2 (for_each_then b1 r) (for_each_then b2 s) h2 in
    let h3 : for_each_then b1 r ≡ for_each_then b2 s = q2.1 in
    let q3 = one_for_each b1 b2 r s h3 in
    (cc (q0.0, q1.0, q2.0, q3.0), q3.1)

-- ---- constraints and tags

pub one_more_lits : (a b : List Literal) (r s : TreeSteps) → more_lits_then a r ≡ more_lits_then b s → (a ≡ b) × (r ≡ s)
one_more_lits = one_list g.more_lits (g.token_comma ∷ g.lit ∷ g.more_lits ∷ []) literal_then one_literal (λ e. let same : (g.token_comma ∷ g.lit ∷ g.more_lits ∷ []) ≡ [] = e in cc)

pub one_choices : (a b : List t.Choice) (r s : TreeSteps) → choices_then a r ≡ choices_then b s → (a ≡ b) × (r ≡ s)
one_choices = one_list g.choices (g.token_semicolon ∷ g.choice ∷ g.choices ∷ []) choice_then one_choice (λ e. let same : (g.token_semicolon ∷ g.choice ∷ g.choices ∷ []) ≡ [] = e in cc)

pub one_ctasks : (a b : List t.Ctask) (r s : TreeSteps) → ctasks_then a r ≡ ctasks_then b s → (a ≡ b) × (r ≡ s)
one_ctasks = one_list g.ctasks (g.token_semicolon ∷ g.ctask ∷ g.ctasks ∷ []) ctask_then one_ctask (λ e. let same : (g.token_semicolon ∷ g.ctask ∷ g.ctasks ∷ []) ≡ [] = e in cc)

pub one_more_dtasks : (a b : List t.Dtask) (r s : TreeSteps) → more_dtasks_then a r ≡ more_dtasks_then b s → (a ≡ b) × (r ≡ s)
one_more_dtasks = one_list g.more_dtasks (g.token_semicolon ∷ g.dtask ∷ g.more_dtasks ∷ []) dtask_then one_dtask (λ e. let same : (g.token_semicolon ∷ g.dtask ∷ g.more_dtasks ∷ []) ≡ [] = e in cc)

pub one_loads : (a b : List t.Load) (r s : TreeSteps) → loads_then a r ≡ loads_then b s → (a ≡ b) × (r ≡ s)
one_loads = one_list g.loads (g.token_semicolon ∷ g.load ∷ g.loads ∷ []) load_then one_load (λ e. let same : (g.token_semicolon ∷ g.load ∷ g.loads ∷ []) ≡ [] = e in cc)

pub one_constraint : (a b : t.Constraint) (r s : TreeSteps) → constraint_then a r ≡ constraint_then b s → (a ≡ b) × (r ≡ s)
one_constraint (t.linear p1 x1 c1 y1) (t.linear p2 x2 c2 y2) r s e =
    let h0 : expression_then x1 (cmp_then c1 (expression_then y1 r)) ≡ expression_then x2 (cmp_then c2 (expression_then y2 s)) = cc in
    let q0 = one_expression x1 x2 (cmp_then c1 (expression_then y1 r)) (cmp_then c2 (expression_then y2 s)) h0 in
    let h1 : cmp_then c1 (expression_then y1 r) ≡ cmp_then c2 (expression_then y2 s) = q0.1 in
    let q1 = one_cmp c1 c2 (expression_then y1 r) (expression_then y2 s) h1 in
    let h2 : expression_then y1 r ≡ expression_then y2 s = q1.1 in
    let q2 = one_expression y1 y2 r s h2 in
    (cc (q0.0, q1.0, q2.0), q2.1)
one_constraint (t.linear p1 x1 c1 y1) _ r s e = absurd (apart (g.expr ∷ g.cmp ∷ g.expr ∷ []) _ _ e refl refl)
one_constraint (t.logic p1 x1) (t.logic p2 x2) r s e =
    let h0 : statement_then x1 r ≡ statement_then x2 s = cc in
    let q0 = one_statement x1 x2 r s h0 in
    (cc (q0.0), q0.1)
one_constraint (t.logic p1 x1) _ r s e = absurd (apart (g.token_logic ∷ g.formula ∷ []) _ _ e refl refl)
one_constraint (t.conditional p1 l1 ls1 x1 c1 y1) (t.conditional p2 l2 ls2 x2 c2 y2) r s e =
    let h0 : literal_then l1 (more_lits_then ls1 (expression_then x1 (cmp_then c1 (expression_then y1 r)))) ≡ literal_then l2 (more_lits_then ls2 (expression_then x2 (cmp_then c2 (expression_then y2 s)))) = cc in
    let q0 = one_literal l1 l2 (more_lits_then ls1 (expression_then x1 (cmp_then c1 (expression_then y1 r)))) (more_lits_then ls2 (expression_then x2 (cmp_then c2 (expression_then y2 s)))) h0 in
    let h1 : more_lits_then ls1 (expression_then x1 (cmp_then c1 (expression_then y1 r))) ≡ more_lits_then ls2 (expression_then x2 (cmp_then c2 (expression_then y2 s))) = q0.1 in
    let q1 = one_more_lits ls1 ls2 (expression_then x1 (cmp_then c1 (expression_then y1 r))) (expression_then x2 (cmp_then c2 (expression_then y2 s))) h1 in
    let h2 : expression_then x1 (cmp_then c1 (expression_then y1 r)) ≡ expression_then x2 (cmp_then c2 (expression_then y2 s)) = q1.1 in
    let q2 = one_expression x1 x2 (cmp_then c1 (expression_then y1 r)) (cmp_then c2 (expression_then y2 s)) h2 in
    let h3 : cmp_then c1 (expression_then y1 r) ≡ cmp_then c2 (expression_then y2 s) = q2.1 in
    let q3 = one_cmp c1 c2 (expression_then y1 r) (expression_then y2 s) h3 in
    let h4 : expression_then y1 r ≡ expression_then y2 s = q3.1 in
    let q4 = one_expression y1 y2 r s h4 in
    (cc (q0.0, q1.0, q2.0, q3.0, q4.0), q4.1)
one_constraint (t.conditional p1 l1 ls1 x1 c1 y1) _ r s e = absurd (apart (g.token_when ∷ g.lit ∷ g.more_lits ∷ g.token_then ∷ g.expr ∷ g.cmp ∷ g.expr ∷ []) _ _ e refl refl)
one_constraint (t.alldiff p1 l1) (t.alldiff p2 l2) r s e =
    let h0 : listing_then l1 r ≡ listing_then l2 s = cc in
    let q0 = one_listing l1 l2 r s h0 in
    (cc (q0.0), q0.1)
one_constraint (t.alldiff p1 l1) _ r s e = absurd (apart (g.token_alldiff ∷ g.token_open_round ∷ g.list ∷ g.token_close_round ∷ []) _ _ e refl refl)
one_constraint (t.circuit p1 l1) (t.circuit p2 l2) r s e =
    let h0 : listing_then l1 r ≡ listing_then l2 s = cc in
    let q0 = one_listing l1 l2 r s h0 in
    (cc (q0.0), q0.1)
one_constraint (t.circuit p1 l1) _ r s e = absurd (apart (g.token_circuit ∷ g.token_open_round ∷ g.list ∷ g.token_close_round ∷ []) _ _ e refl refl)
one_constraint (t.element p1 x1 l1 y1) (t.element p2 x2 l2 y2) r s e =
    let h0 : expression_then x1 (listing_then l1 (expression_then y1 r)) ≡ expression_then x2 (listing_then l2 (expression_then y2 s)) = cc in
    let q0 = one_expression x1 x2 (listing_then l1 (expression_then y1 r)) (listing_then l2 (expression_then y2 s)) h0 in
    let h1 : listing_then l1 (expression_then y1 r) ≡ listing_then l2 (expression_then y2 s) = q0.1 in
    let q1 = one_listing l1 l2 (expression_then y1 r) (expression_then y2 s) h1 in
    let h2 : expression_then y1 r ≡ expression_then y2 s = q1.1 in
    let q2 = one_expression y1 y2 r s h2 in
    (cc (q0.0, q1.0, q2.0), q2.1)
one_constraint (t.element p1 x1 l1 y1) _ r s e = absurd (apart (g.token_element ∷ g.token_open_round ∷ g.expr ∷ g.token_comma ∷ g.token_open_square ∷ g.list ∷ g.token_close_square ∷ g.token_comma ∷ g.expr ∷ g.token_close_round ∷ []) _ _ e refl refl)
one_constraint (t.chosen p1 w1 x1 cs1) (t.chosen p2 w2 x2 cs2) r s e =
    let h0 : choosing_then w1 (expression_then x1 (choices_then cs1 r)) ≡ choosing_then w2 (expression_then x2 (choices_then cs2 s)) = cc in
    let q0 = one_choosing w1 w2 (expression_then x1 (choices_then cs1 r)) (expression_then x2 (choices_then cs2 s)) h0 in
    let h1 : expression_then x1 (choices_then cs1 r) ≡ expression_then x2 (choices_then cs2 s) = q0.1 in
    let q1 = one_expression x1 x2 (choices_then cs1 r) (choices_then cs2 s) h1 in
    let h2 : choices_then cs1 r ≡ choices_then cs2 s = q1.1 in
    let q2 = one_choices cs1 cs2 r s h2 in
    (cc (q0.0, q1.0, q2.0), q2.1)
one_constraint (t.chosen p1 w1 x1 cs1) _ r s e = absurd (apart (g.choosing ∷ g.token_open_round ∷ g.expr ∷ g.choices ∷ g.token_close_round ∷ []) _ _ e refl refl)
one_constraint (t.cumulative p1 x1 ts1) (t.cumulative p2 x2 ts2) r s e =
    let h0 : expression_then x1 (ctasks_then ts1 r) ≡ expression_then x2 (ctasks_then ts2 s) = cc in
    let q0 = one_expression x1 x2 (ctasks_then ts1 r) (ctasks_then ts2 s) h0 in
    let h1 : ctasks_then ts1 r ≡ ctasks_then ts2 s = q0.1 in
    let q1 = one_ctasks ts1 ts2 r s h1 in
    (cc (q0.0, q1.0), q1.1)
one_constraint (t.cumulative p1 x1 ts1) _ r s e = absurd (apart (g.token_cumulative ∷ g.token_open_round ∷ g.expr ∷ g.ctasks ∷ g.token_close_round ∷ []) _ _ e refl refl)
one_constraint (t.disjunctive p1 x1 xs1) (t.disjunctive p2 x2 xs2) r s e =
    let h0 : dtask_then x1 (more_dtasks_then xs1 r) ≡ dtask_then x2 (more_dtasks_then xs2 s) = cc in
    let q0 = one_dtask x1 x2 (more_dtasks_then xs1 r) (more_dtasks_then xs2 s) h0 in
    let h1 : more_dtasks_then xs1 r ≡ more_dtasks_then xs2 s = q0.1 in
    let q1 = one_more_dtasks xs1 xs2 r s h1 in
    (cc (q0.0, q1.0), q1.1)
one_constraint (t.disjunctive p1 x1 xs1) _ r s e = absurd (apart (g.token_disjunctive ∷ g.token_open_round ∷ g.dtask ∷ g.more_dtasks ∷ g.token_close_round ∷ []) _ _ e refl refl)
one_constraint (t.packing p1 x1 cs1 os1 ls1) (t.packing p2 x2 cs2 os2 ls2) r s e =
    let h0 : expression_then x1 (listing_then cs1 (listing_then os1 (loads_then ls1 r))) ≡ expression_then x2 (listing_then cs2 (listing_then os2 (loads_then ls2 s))) = cc in
    let q0 = one_expression x1 x2 (listing_then cs1 (listing_then os1 (loads_then ls1 r))) (listing_then cs2 (listing_then os2 (loads_then ls2 s))) h0 in
    let h1 : listing_then cs1 (listing_then os1 (loads_then ls1 r)) ≡ listing_then cs2 (listing_then os2 (loads_then ls2 s)) = q0.1 in
    let q1 = one_listing cs1 cs2 (listing_then os1 (loads_then ls1 r)) (listing_then os2 (loads_then ls2 s)) h1 in
    let h2 : listing_then os1 (loads_then ls1 r) ≡ listing_then os2 (loads_then ls2 s) = q1.1 in
    let q2 = one_listing os1 os2 (loads_then ls1 r) (loads_then ls2 s) h2 in
    let h3 : loads_then ls1 r ≡ loads_then ls2 s = q2.1 in
    let q3 = one_loads ls1 ls2 r s h3 in
    (cc (q0.0, q1.0, q2.0, q3.0), q3.1)
one_constraint (t.packing p1 x1 cs1 os1 ls1) _ r s e = absurd (apart (g.token_packing ∷ g.token_open_round ∷ g.expr ∷ g.token_semicolon ∷ g.token_open_square ∷ g.list ∷ g.token_close_square ∷ g.token_semicolon ∷ g.token_open_square ∷ g.list ∷ g.token_close_square ∷ g.loads ∷ g.token_close_round ∷ []) _ _ e refl refl)

pub one_tag : (a b : t.Tag) (r s : TreeSteps) → tag_then a r ≡ tag_then b s → (a ≡ b) × (r ≡ s)
one_tag (t.infer p1 x1) (t.infer p2 x2) r s e =
    let h0 : level_then x1 r ≡ level_then x2 s = cc in
    let q0 = one_level x1 x2 r s h0 in
    (cc (q0.0), q0.1)
one_tag (t.infer p1 x1) _ r s e = absurd (apart (g.token_infer ∷ g.level ∷ []) _ _ e refl refl)
one_tag (t.relax p1 x1) (t.relax p2 x2) r s e =
    let h0 : relaxing_then x1 r ≡ relaxing_then x2 s = cc in
    let q0 = one_relaxing x1 x2 r s h0 in
    (cc (q0.0), q0.1)
one_tag (t.relax p1 x1) _ r s e = absurd (apart (g.token_relax ∷ g.relaxing ∷ []) _ _ e refl refl)
one_tag (t.branch p1 n1) (t.branch p2 n2) r s e =
    let h0 : number_then n1 r ≡ number_then n2 s = cc in
    let q0 = one_number n1 n2 r s h0 in
    (cc (q0.0), q0.1)
one_tag (t.branch p1 n1) _ r s e = absurd (apart (g.token_branch ∷ g.token_number ∷ []) _ _ e refl refl)
one_tag (t.pick p1 x1) (t.pick p2 x2) r s e =
    let h0 : picking_then x1 r ≡ picking_then x2 s = cc in
    let q0 = one_picking x1 x2 r s h0 in
    (cc (q0.0), q0.1)
one_tag (t.pick p1 x1) _ r s e = absurd (apart (g.token_pick ∷ g.picking ∷ []) _ _ e refl refl)
one_tag (t.split p1 x1) (t.split p2 x2) r s e =
    let h0 : splitting_then x1 r ≡ splitting_then x2 s = cc in
    let q0 = one_splitting x1 x2 r s h0 in
    (cc (q0.0), q0.1)
one_tag (t.split p1 x1) _ r s e = absurd (apart (g.token_split ∷ g.splitting ∷ []) _ _ e refl refl)
one_tag (t.sub p1 x1) (t.sub p2 x2) r s e =
    let h0 : expression_then x1 r ≡ expression_then x2 s = cc in
    let q0 = one_expression x1 x2 r s h0 in
    (cc (q0.0), q0.1)
one_tag (t.sub p1 x1) _ r s e = absurd (apart (g.token_sub ∷ g.expr ∷ []) _ _ e refl refl)

-- ---- items and goals

pub one_values : (a b : t.Values) (r s : TreeSteps) → values_then a r ≡ values_then b s → (a ≡ b) × (r ≡ s)
one_values (t.range x1 y1) (t.range x2 y2) r s e =
    let h0 : expression_then x1 (expression_then y1 r) ≡ expression_then x2 (expression_then y2 s) = cc in
    let q0 = one_expression x1 x2 (expression_then y1 r) (expression_then y2 s) h0 in
    let h1 : expression_then y1 r ≡ expression_then y2 s = q0.1 in
    let q1 = one_expression y1 y2 r s h1 in
    (cc (q0.0, q1.0), q1.1)
one_values (t.range x1 y1) _ r s e = absurd (apart (g.expr ∷ g.token_to ∷ g.expr ∷ []) _ _ e refl refl)
one_values (t.listed x1 xs1) (t.listed x2 xs2) r s e =
    let h0 : expression_then x1 (more_exprs_then xs1 r) ≡ expression_then x2 (more_exprs_then xs2 s) = cc in
    let q0 = one_expression x1 x2 (more_exprs_then xs1 r) (more_exprs_then xs2 s) h0 in
    let h1 : more_exprs_then xs1 r ≡ more_exprs_then xs2 s = q0.1 in
    let q1 = one_more_exprs xs1 xs2 r s h1 in
    (cc (q0.0, q1.0), q1.1)
one_values (t.listed x1 xs1) _ r s e = absurd (apart (g.token_open_brace ∷ g.expr ∷ g.more_exprs ∷ g.token_close_brace ∷ []) _ _ e refl refl)

pub one_kind : (a b : t.Kind) (r s : TreeSteps) → kind_then a r ≡ kind_then b s → (a ≡ b) × (r ≡ s)
one_kind (t.set_kind p1 vs1) (t.set_kind p2 vs2) r s e =
    let h0 : values_then vs1 r ≡ values_then vs2 s = cc in
    let q0 = one_values vs1 vs2 r s h0 in
    (cc (q0.0), q0.1)
one_kind (t.set_kind p1 vs1) _ r s e = absurd (apart (g.token_set ∷ g.values ∷ []) _ _ e refl refl)
one_kind (t.int_kind p1 x1 y1) (t.int_kind p2 x2 y2) r s e =
    let h0 : expression_then x1 (expression_then y1 r) ≡ expression_then x2 (expression_then y2 s) = cc in
    let q0 = one_expression x1 x2 (expression_then y1 r) (expression_then y2 s) h0 in
    let h1 : expression_then y1 r ≡ expression_then y2 s = q0.1 in
    let q1 = one_expression y1 y2 r s h1 in
    (cc (q0.0, q1.0), q1.1)
one_kind (t.int_kind p1 x1 y1) _ r s e = absurd (apart (g.token_int ∷ g.expr ∷ g.token_to ∷ g.expr ∷ []) _ _ e refl refl)
one_kind (t.real_kind p1 x1 y1) (t.real_kind p2 x2 y2) r s e =
    let h0 : expression_then x1 (expression_then y1 r) ≡ expression_then x2 (expression_then y2 s) = cc in
    let q0 = one_expression x1 x2 (expression_then y1 r) (expression_then y2 s) h0 in
    let h1 : expression_then y1 r ≡ expression_then y2 s = q0.1 in
    let q1 = one_expression y1 y2 r s h1 in
    (cc (q0.0, q1.0), q1.1)
one_kind (t.real_kind p1 x1 y1) _ r s e = absurd (apart (g.token_real ∷ g.expr ∷ g.token_to ∷ g.expr ∷ []) _ _ e refl refl)

pub one_family : (a b : List Name) (r s : TreeSteps) → family_then a r ≡ family_then b s → (a ≡ b) × (r ≡ s)
one_family [] [] r s e = (refl, cc)
one_family [] (n ∷ ns) r s e = absurd (apart [] _ _ e refl refl)
one_family (n ∷ ns) [] r s e = absurd (apart [] _ _ (sym e) refl refl)
one_family (n ∷ ns) (m ∷ ms) r s e =
    let side = g.token_comma ∷ g.token_name ∷ g.more_sets ∷ [] in
    let e0 : name_then n (list_then g.more_sets side name_then ns r) ≡ name_then m (list_then g.more_sets side name_then ms s) = cc in
    let q0 = one_name n m (list_then g.more_sets side name_then ns r) (list_then g.more_sets side name_then ms s) e0 in
    let q1 = one_list g.more_sets side name_then one_name (λ e. let same : g.token_comma ∷ g.token_name ∷ g.more_sets ∷ [] ≡ [] = e in cc) ns ms r s q0.1 in
    (cc (q0.0, q1.0), q1.1)

pub one_forall : (a b : Option Binding) (r s : TreeSteps) → forall_then a r ≡ forall_then b s → (a ≡ b) × (r ≡ s)
one_forall = one_optional g.forall (g.token_forall ∷ g.binders ∷ g.token_colon ∷ []) binding_then one_binding (λ e. let same : (g.token_forall ∷ g.binders ∷ g.token_colon ∷ []) ≡ [] = e in cc)

pub one_tags : (a b : List t.Tag) (r s : TreeSteps) → tags_then a r ≡ tags_then b s → (a ≡ b) × (r ≡ s)
one_tags = one_list g.tags (g.tag ∷ g.tags ∷ []) tag_then one_tag (λ e. let same : (g.tag ∷ g.tags ∷ []) ≡ [] = e in cc)

pub one_item : (a b : t.Item) (r s : TreeSteps) → item_then a r ≡ item_then b s → (a ≡ b) × (r ≡ s)
one_item (t.index_item p1 n1 x1 y1) (t.index_item p2 n2 x2 y2) r s e =
    let h0 : name_then n1 (expression_then x1 (expression_then y1 r)) ≡ name_then n2 (expression_then x2 (expression_then y2 s)) = cc in
    let q0 = one_name n1 n2 (expression_then x1 (expression_then y1 r)) (expression_then x2 (expression_then y2 s)) h0 in
    let h1 : expression_then x1 (expression_then y1 r) ≡ expression_then x2 (expression_then y2 s) = q0.1 in
    let q1 = one_expression x1 x2 (expression_then y1 r) (expression_then y2 s) h1 in
    let h2 : expression_then y1 r ≡ expression_then y2 s = q1.1 in
    let q2 = one_expression y1 y2 r s h2 in
    (cc (q0.0, q1.0, q2.0), q2.1)
one_item (t.index_item p1 n1 x1 y1) _ r s e = absurd (apart (g.token_index ∷ g.token_name ∷ g.token_equal ∷ g.expr ∷ g.token_to ∷ g.expr ∷ g.token_semicolon ∷ []) _ _ e refl refl)
one_item (t.var_item p1 n1 ns1 k1) (t.var_item p2 n2 ns2 k2) r s e =
    let h0 : name_then n1 (family_then ns1 (kind_then k1 r)) ≡ name_then n2 (family_then ns2 (kind_then k2 s)) = cc in
    let q0 = one_name n1 n2 (family_then ns1 (kind_then k1 r)) (family_then ns2 (kind_then k2 s)) h0 in
    let h1 : family_then ns1 (kind_then k1 r) ≡ family_then ns2 (kind_then k2 s) = q0.1 in
    let q1 = one_family ns1 ns2 (kind_then k1 r) (kind_then k2 s) h1 in
    let h2 : kind_then k1 r ≡ kind_then k2 s = q1.1 in
    let q2 = one_kind k1 k2 r s h2 in
    (cc (q0.0, q1.0, q2.0), q2.1)
one_item (t.var_item p1 n1 ns1 k1) _ r s e = absurd (apart (g.token_var ∷ g.token_name ∷ g.family ∷ g.token_colon ∷ g.kind ∷ g.token_semicolon ∷ []) _ _ e refl refl)
one_item (t.post_item p1 b1 c1 ts1) (t.post_item p2 b2 c2 ts2) r s e =
    let h0 : forall_then b1 (constraint_then c1 (tags_then ts1 r)) ≡ forall_then b2 (constraint_then c2 (tags_then ts2 s)) = cc in
    let q0 = one_forall b1 b2 (constraint_then c1 (tags_then ts1 r)) (constraint_then c2 (tags_then ts2 s)) h0 in
    let h1 : constraint_then c1 (tags_then ts1 r) ≡ constraint_then c2 (tags_then ts2 s) = q0.1 in
    let q1 = one_constraint c1 c2 (tags_then ts1 r) (tags_then ts2 s) h1 in
    let h2 : tags_then ts1 r ≡ tags_then ts2 s = q1.1 in
    let q2 = one_tags ts1 ts2 r s h2 in
    (cc (q0.0, q1.0, q2.0), q2.1)
one_item (t.post_item p1 b1 c1 ts1) _ r s e = absurd (apart (g.token_post ∷ g.forall ∷ g.cons ∷ g.tags ∷ g.token_semicolon ∷ []) _ _ e refl refl)

pub one_items : (a b : List t.Item) (r s : TreeSteps) → items_then a r ≡ items_then b s → (a ≡ b) × (r ≡ s)
one_items = one_list g.items (g.item ∷ g.items ∷ []) item_then one_item (λ e. let same : (g.item ∷ g.items ∷ []) ≡ [] = e in cc)

pub one_aim : (a b : t.Aim) (r s : TreeSteps) → aim_then a r ≡ aim_then b s → (a ≡ b) × (r ≡ s)
one_aim (t.minimise p1 x1) (t.minimise p2 x2) r s e =
    let h0 : expression_then x1 r ≡ expression_then x2 s = cc in
    let q0 = one_expression x1 x2 r s h0 in
    (cc (q0.0), q0.1)
one_aim (t.minimise p1 x1) _ r s e = absurd (apart (g.token_minimise ∷ g.expr ∷ []) _ _ e refl refl)
one_aim (t.maximise p1 x1) (t.maximise p2 x2) r s e =
    let h0 : expression_then x1 r ≡ expression_then x2 s = cc in
    let q0 = one_expression x1 x2 r s h0 in
    (cc (q0.0), q0.1)
one_aim (t.maximise p1 x1) _ r s e = absurd (apart (g.token_maximise ∷ g.expr ∷ []) _ _ e refl refl)

-- the side tells how many there are
more_aims : (xs ys : List t.Aim) (r s : TreeSteps) → further_side xs ≡ further_side ys → each aim_then xs r ≡ each aim_then ys s → (xs ≡ ys) × (r ≡ s)
more_aims [] [] r s side e = (refl, e)
more_aims [] (y ∷ ys) r s side e = absurd (cc)
more_aims (x ∷ xs) [] r s side e = absurd (cc)
more_aims (x ∷ xs) (y ∷ ys) r s side e =
    let rest : further_side xs ≡ further_side ys = cc in
    let q0 = one_aim x y (each aim_then xs r) (each aim_then ys s) e in
    let q1 = more_aims xs ys r s rest q0.1 in
    (cc (q0.0, q1.0), q1.1)

pub one_goal : (a b : t.Goal) (r s : TreeSteps) → goal_then a r ≡ goal_then b s → (a ≡ b) × (r ≡ s)
one_goal (t.satisfy p1) (t.satisfy p2) r s e =
    (cc, cc)
one_goal (t.satisfy p1) _ r s e = absurd (apart (g.token_satisfy ∷ []) _ _ e refl refl)
one_goal (t.aims p1 x1 xs1) (t.aims p2 x2 xs2) r s e =
    let h0 : aim_then x1 (each aim_then xs1 r) ≡ aim_then x2 (each aim_then xs2 s) = cc in
    let side : further_side xs1 ≡ further_side xs2 = cc in
    let q0 = one_aim x1 x2 (each aim_then xs1 r) (each aim_then xs2 s) h0 in
    let q1 = more_aims xs1 xs2 r s side q0.1 in
    (cc (q0.0, q1.0), q1.1)
one_goal (t.aims p1 x1 xs1) (t.satisfy p2) r s e = absurd (apart (g.token_satisfy ∷ []) _ _ (sym e) refl refl)

pub one_tree : (a b : t.Tree) (r s : TreeSteps) → tree_then a r ≡ tree_then b s → (a ≡ b) × (r ≡ s)
one_tree (t.tree p1 is1 x1) (t.tree p2 is2 x2) r s e =
    let h0 : items_then is1 (goal_then x1 r) ≡ items_then is2 (goal_then x2 s) = cc in
    let q0 = one_items is1 is2 (goal_then x1 r) (goal_then x2 s) h0 in
    let h1 : goal_then x1 r ≡ goal_then x2 s = q0.1 in
    let q1 = one_goal x1 x2 r s h1 in
    (cc (q0.0, q1.0), q1.1)
