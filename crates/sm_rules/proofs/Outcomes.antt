-- The literals that an inference comes to are of known variables.
use Rattle.std.proofs.Common.{◌<◌, Option, Some, None, List, [], ◌∷◌, length}
use Rattle.std.specs.Prelude.{MatchOption, slice_get}
use Rattle.std.proofs.lemmas.List.Elements.{All-nil, All-cons}
use Rattle.sm_kinds.specs.declared.literal.Literal.{Literal}
use Rattle.sm_flat.specs.declared.form.Constraint.{Constraint}
use Rattle.sm_flat.specs.Models.{FlatModel}
use Rattle.sm_store.specs.Stores.{Extent, narrow, TightensEach}
use Rattle.sm_step.specs.declared.rule.Rule.{Rule}
use Rattle.sm_step.specs.declared.line.Outcome.{Outcome}
use Rattle.sm_step.specs.declared.line.Outcome.TheVariants.{Close, Literals}
use Rattle.sm_rows.specs.Inferences.{constraint_of, Closes, Infers, Concludes, IsInference}
use Rattle.sm_rules.specs.KeptNodes.{AreKnown, IsOutcomeKnown}
use Rattle.sm_rules.proofs.KeptNodes.{width_narrow}

tightens_known : (store : List Extent) (ls : List Literal) → TightensEach store ls → AreKnown (length store) ls
tightens_known store [] each = All-nil (λ (l : Literal). l.var < length store)
tightens_known store (l ∷ ls) each = All-cons (λ (l : Literal). l.var < length store) l ls each.0.known (rw (width_narrow store l) at (tightens_known (narrow store l) ls each.1))

pub outcome_known : (m : FlatModel) (store : List Extent) (r : Rule) (outcome : Outcome) → IsInference m store r outcome → IsOutcomeKnown (length store) outcome
outcome_known m store r Close law = tt
outcome_known m store r (Literals ls) law = by_place (slice_get m.constraints (constraint_of r)) law
  where
    by_place : (found : Option Constraint) → MatchOption found ⊥ (λ (c : Constraint). Concludes (Closes store r) (Infers store r) store c.form (Literals ls)) → AreKnown (length store) ls
    by_place None h = absurd h
    by_place (Some c) h = tightens_known store ls h.2
