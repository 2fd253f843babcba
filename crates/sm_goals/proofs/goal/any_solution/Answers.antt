use Rattle.std.proofs.Common.{◌∙◌, ap, sym, subst, List, [], ◌∷◌, ◌++◌, refl}
use Rattle.sm_flat.specs.declared.goal.Goal.{Goal}
use Rattle.sm_flat.specs.declared.goal.Sense.TheVariants as sense
use Rattle.sm_syntax.specs.Trees as plain
use Rattle.sm_meaning.specs.Scopes.{count_of}
use Rattle.sm_goals.specs.Goals.{AreGoalsOf}
use Rattle.sm_goals.specs.declared.aim.AimForm.{AimForm}
use Rattle.sm_goals.proofs.Forms.{goals_of}
use Rattle.sm_goals.proofs.goal.any_solution.Goals as goal

pub returns : goal.returns
returns c = λ s p.
    let any : AimForm = record { sense = sense.Satisfy; form = c.number.result } in
    subst (λ (gs : List Goal). AreGoalsOf s (plain.satisfy p) gs) (sym (c.in_ok-push.ensures.items ∙ ap (λ (gs : List Goal). gs ++ c.goal_in.result ∷ []) c.new-goals.ensures.items ∙ ap (λ (x : Goal). x ∷ []) c.goal_in.ensures))
    (goals_of s (plain.satisfy p) (any ∷ []) (c.number.ensures (count_of s), tt) refl)
