-- What a formula means, level by level.
use Rattle.std.proofs.Common.{◌≡◌, ◌∙◌, ap, sym}
use Rattle.sm_clausify.specs.declared.formula.Formula.{Formula, fold-roll-Formula}
use Rattle.sm_clausify.specs.declared.formula.Formula.TheVariants as f
use Rattle.sm_clausify.specs.declared.formula.Formula.TheOpen.{Formula-F}
use Rattle.sm_clausify.specs.Propositions.{Proposition, implication, equivalence, meaning, meaning_step}

pub implies_means : (p q : Formula) → meaning (f.Implies p q) ≡ implication (meaning p) (meaning q)
implies_means p q = ap meaning (sym (f.rolls-Implies p q)) ∙ fold-roll-Formula Proposition meaning_step (Formula-F.Implies p q)

pub iff_means : (p q : Formula) → meaning (f.Iff p q) ≡ equivalence (meaning p) (meaning q)
iff_means p q = ap meaning (sym (f.rolls-Iff p q)) ∙ fold-roll-Formula Proposition meaning_step (Formula-F.Iff p q)
