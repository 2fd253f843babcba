-- Whether a formula holds at a point.
use Rattle.std.specs.Prelude.{◌&&◌, ◌||◌, Bool, true, false, not}
use Rattle.sm_kinds.specs.Points.{Point}
use Rattle.sm_kinds.specs.Literals.{is_true}
use Rattle.sm_kinds.specs.Points.{IsWhole}
use Rattle.sm_kinds.specs.declared.literal.Literal.{Literal}
use Rattle.sm_clausify.specs.Propositions.{Proposition, literal, negation, conjunction, disjunction, Propositions, no_parts, part, EachLiteral}

abbrev mutual
  pub holds : Proposition → Point → Bool
  holds (literal l) a = is_true a l
  holds (negation p) a = not (holds p a)
  holds (conjunction ps) a = all_hold ps a
  holds (disjunction ps) a = any_holds ps a

  pub all_hold : Propositions → Point → Bool
  all_hold no_parts a = true
  all_hold (part p ps) a = holds p a && all_hold ps a

  pub any_holds : Propositions → Point → Bool
  any_holds no_parts a = false
  any_holds (part p ps) a = holds p a || any_holds ps a

-- each variable of the formula has a whole value
abbrev pub IsWholeOn : Proposition → Point → Type 0
IsWholeOn p a = EachLiteral (λ (l : Literal). IsWhole a l.var) p
