-- What a name stands for, and what is tried of it behind its indices.
use Rattle.std.specs.Prelude.{◌≡◌, ℕ, ◌<◌, List, ℤ, not, Option, Some, None}
use Rattle.sm_syntax.specs.declared.place.Place.{Place}
use Rattle.sm_syntax.specs.Expressions.{Expressions}
use Rattle.sm_meaning.specs.declared.range.Range.{Range}
use Rattle.sm_meaning.specs.declared.refusal.Wrong.TheVariants.{Shape}
use Rattle.sm_meaning.specs.Refusals.{wrong_if}
use Rattle.sm_meaning.specs.Trials.{Trial, ◌▸◌, tried}
use Rattle.sm_meaning.specs.Scopes as meaning
use Rattle.sm_meaning.specs.Scopes.{found, Tuple, Scope, count_of}
use Rattle.sm_meaning.specs.Tuples.{members_before, member_count}
use Rattle.sm_meaning.specs.Worths.{named_worth}
use Rattle.sm_meaning.specs.ExpressionTrials.{value_tried, index_count, has_count, index_ranges, indices_within, expression_count}
use Rattle.sm_scopes.specs.Things.{thing_of, HasVariables}
use Rattle.sm_expressions.specs.declared.name.Known.{Known}
use Rattle.sm_expressions.specs.declared.name.Known.TheVariants.{Number, Thing}
use Rattle.sm_expressions.specs.declared.name.Member.{Member}

-- a number of a binder, or else a thing
abbrev pub number_in : Known → Option ℤ
number_in (Number z) = Some z
number_in (Thing t) = None

abbrev pub thing_in : Known → Option meaning.Thing
thing_in (Number z) = None
thing_in (Thing t) = Some (thing_of t.now)

-- the variables of the thing are among the first n
abbrev pub HasKnown : ℕ → Known → Type 0
HasKnown n (Number z) = Unit {0}
HasKnown n (Thing t) = HasVariables n (thing_of t.now)

-- the name stands for it; a binder hides a thing
abbrev pub IsKnown : Scope → Tuple → List ℕ → Known → Type 0
IsKnown s b name (Number z) = found b name ≡ Some z
IsKnown s b name (Thing t) = (found b name ≡ None) × (found s.names name ≡ Some (thing_of t.now))

-- the number of indices, where each lies, and what stands there
abbrev pub behind_indices : Place → Option ℤ → Option meaning.Thing → List ℤ → Expressions → Scope → Trial
behind_indices p number thing zs xs s =
    tried (wrong_if (not (has_count (index_count number thing) (expression_count xs))) p Shape)
    ▸ indices_within (index_ranges number thing) zs xs
    ▸ value_tried s (named_worth number thing zs)

-- the member of a family at these indices
pub record IsMember (sets : List Range) (zs : List ℤ) (m : Member) : Type 0 where
  pub before : m.before ≡ members_before sets zs
  pub count : m.count ≡ member_count sets
  pub below : m.before < m.count
