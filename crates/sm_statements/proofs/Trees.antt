-- The plain data of each tree, and the meaning of each formula, one level down.
use Rattle.std.proofs.Common.{◌≡◌, ◌∙◌, ap, sym, List, map}
use Rattle.sm_kinds.specs.declared.literal.Literal.{Literal as Condition}
use Rattle.sm_syntax.specs.declared.place.Place.{Place}
use Rattle.sm_syntax.specs.declared.tree.Lit.{Lit}
use Rattle.sm_syntax.specs.declared.expression.Binders.{Binders}
use Rattle.sm_syntax.specs.declared.formula.Quantifier.{Quantifier}
use Rattle.sm_syntax.specs.declared.formula.Formula.{Formula as Written}
use Rattle.sm_syntax.specs.declared.formula.Disj.{Disj, out-Disj, fold_out-Disj}
use Rattle.sm_syntax.specs.declared.formula.Conj.{Conj, out-Conj, fold_out-Conj}
use Rattle.sm_syntax.specs.declared.formula.Unit.{Unit as UnitNode, out-Unit, fold_out-Unit}
use Rattle.sm_syntax.specs.declared.formula.Atom.{fold-roll-Atom}
use Rattle.sm_syntax.specs.declared.formula.Atom.TheVariants as a
use Rattle.sm_syntax.specs.declared.formula.Atom.TheOpen.{Atom-F}
use Rattle.sm_syntax.specs.Expressions.{literal_of, binding_of}
use Rattle.sm_syntax.specs.Formulas.{Statement, Ending, Disjunction, disjunction, Conjunction, conjunction, Claim, literal, quantified, conjunctions_of, claims_of, negated, atom_step, conclusion_step, conj_step, disj_step, formula_step, unit_step, formula_of, disj_of, conj_of, unit_of, atom_of}
use Rattle.sm_clausify.specs.declared.formula.Formula.{Formula, fold-roll-Formula}
use Rattle.sm_clausify.specs.declared.formula.Formula.TheVariants as f
use Rattle.sm_clausify.specs.declared.formula.Formula.TheOpen.{Formula-F}
use Rattle.sm_clausify.specs.Propositions as prop
use Rattle.sm_clausify.specs.Propositions.{Proposition, parts_of, meaning, meaning_step}

pub disj_is : (x : Disj) → disj_of x ≡ disjunction (out-Disj x).place (conj_of (out-Disj x).first) (conjunctions_of (map conj_of (out-Disj x).more))
disj_is = fold_out-Disj Claim Ending Conjunction Disjunction Statement Claim atom_step conclusion_step conj_step disj_step formula_step unit_step

pub conj_is : (x : Conj) → conj_of x ≡ conjunction (out-Conj x).place (unit_of (out-Conj x).first) (claims_of (map unit_of (out-Conj x).more))
conj_is = fold_out-Conj Claim Ending Conjunction Disjunction Statement Claim atom_step conclusion_step conj_step disj_step formula_step unit_step

pub unit_is : (x : UnitNode) → unit_of x ≡ negated (out-Unit x).negations (atom_of (out-Unit x).inner)
unit_is = fold_out-Unit Claim Ending Conjunction Disjunction Statement Claim atom_step conclusion_step conj_step disj_step formula_step unit_step

pub literal_is : (p : Place) (l : Lit) → atom_of (a.Lit p l) ≡ literal p (literal_of l)
literal_is p l =
    ap atom_of (sym (a.rolls-Lit p l))
    ∙ fold-roll-Atom Claim Ending Conjunction Disjunction Statement Claim atom_step conclusion_step conj_step disj_step formula_step unit_step (Atom-F.Lit p l)

pub quantified_is : (p : Place) (q : Quantifier) (x : Written) (bs : Binders) → atom_of (a.Quantified p q x bs) ≡ quantified p q (formula_of x) (binding_of bs)
quantified_is p q x bs =
    ap atom_of (sym (a.rolls-Quantified p q x bs))
    ∙ fold-roll-Atom Claim Ending Conjunction Disjunction Statement Claim atom_step conclusion_step conj_step disj_step formula_step unit_step (Atom-F.Quantified p q x bs)

pub not_means : (x : Formula) → meaning (f.Not x) ≡ prop.negation (meaning x)
not_means x = ap meaning (sym (f.rolls-Not x)) ∙ fold-roll-Formula Proposition meaning_step (Formula-F.Not x)

pub or_means : (xs : List Formula) → meaning (f.Or xs) ≡ prop.disjunction (parts_of (map meaning xs))
or_means xs = ap meaning (sym (f.rolls-Or xs)) ∙ fold-roll-Formula Proposition meaning_step (Formula-F.Or xs)

pub and_means : (xs : List Formula) → meaning (f.And xs) ≡ prop.conjunction (parts_of (map meaning xs))
and_means xs = ap meaning (sym (f.rolls-And xs)) ∙ fold-roll-Formula Proposition meaning_step (Formula-F.And xs)

pub literal_means : (l : Condition) → meaning (f.Lit l) ≡ prop.literal l
literal_means l = ap meaning (sym (f.rolls-Lit l)) ∙ fold-roll-Formula Proposition meaning_step (Formula-F.Lit l)
