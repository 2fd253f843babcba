-- Forms of meanings, where no number is too large.
use Rattle.std.specs.Prelude.{ℕ, Result}
use Rattle.sm_data.specs.declared.refusal.Counted.TheVariants as counted
use Rattle.sm_forms.specs.Meanings.{Meaning, greatest_value}
use Rattle.sm_forms.specs.Forms.{IsFormOf}
use Rattle.sm_forms.specs.declared.form.Form.{Form}
use Rattle.sm_forms.specs.declared.refusal.FormRefusal.{FormRefusal}
use Rattle.sm_forms.specs.declared.refusal.FormRefusal.TheVariants.{TooLarge, OutOfMemory}
use Rattle.sm_meaning.specs.declared.refusal.ExpandRefusal.{ExpandRefusal}
use Rattle.sm_meaning.specs.declared.refusal.ExpandRefusal.TheVariants as refusal
use Rattle.sm_meaning.specs.Refusals.{over}
use Rattle.sm_meaning.specs.Trials.{GoesThrough}
use Rattle.sm_meaning.specs.Scopes.{Scope, count_of}
use Rattle.sm_meaning.specs.ExpressionTrials.{value_tried}

-- what a form that isn't made is refused for
abbrev pub refusal_for : FormRefusal → ExpandRefusal
refusal_for (TooLarge found) = over counted.Value greatest_value found
refusal_for OutOfMemory = refusal.OutOfMemory

-- a form of this meaning, whose numbers alone are tried
abbrev pub IsValue : Scope → Meaning → Result Form ExpandRefusal → Type 0
IsValue s g r = (count : ℕ) → GoesThrough (value_tried s g) count count (IsFormOf (count_of s) g) r
