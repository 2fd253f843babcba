use Rattle.std.proofs.Common.{◌∷◌, sym, subst, map, List}
use Rattle.sm_flat.specs.declared.goal.Goal.{Goal}
use Rattle.sm_syntax.specs.Trees as plain
use Rattle.sm_syntax.specs.Trees.{aim_of}
use Rattle.sm_meaning.specs.Scopes.{count_of}
use Rattle.sm_meaning.specs.Goals.{aim_worth}
use Rattle.sm_goals.specs.Goals.{AreGoalsOf, AreFormsOf}
use Rattle.sm_goals.specs.declared.aim.AimForm.{AimForm}
use Rattle.sm_goals.proofs.Forms.{goals_of}
use Rattle.sm_goals.proofs.Trials.{aims_stop, aims_go}
use Rattle.sm_goals.proofs.goal.aim_goals.Goals as goal

pub returns-in-Err : goal.returns-in-Err
returns-in-Err c = λ p.
    let s = c.args.scope.now in
    let all = map aim_of (c.args.first.now ∷ c.args.more.now) in
    let forms = subst (λ (xs : List AimForm). AreFormsOf (count_of s) (map (aim_worth s) all) xs) (sym c.as_slice.ensures.value) c.in_ok-forms.ensures.1.forms in
    aims_stop s all c.in-Err.refusal c.args.visited.now c.aim_forms.new.visited c.in_ok-forms.ensures.0 (c.in-Err.ensures (count_of s) (map (aim_worth s) all) forms)

pub returns : goal.returns
returns c = λ p.
    let s = c.args.scope.now in
    let all = map aim_of (c.args.first.now ∷ c.args.more.now) in
    let made = c.in_ok-forms.ensures.1 in
    let forms = subst (λ (xs : List AimForm). AreFormsOf (count_of s) (map (aim_worth s) all) xs) (sym c.as_slice.ensures.value) made.forms in (
      aims_go s all c.in_default.field-0 c.args.visited.now c.aim_forms.new.visited c.in_ok-forms.ensures.0 (c.in_default.ensures (count_of s) (map (aim_worth s) all) forms),
      subst (λ (gs : List Goal). AreGoalsOf s (plain.aims p (aim_of c.args.first.now) (map aim_of c.args.more.now)) gs) (sym c.in_ok-goals_in.ensures)
          (goals_of s (plain.aims p (aim_of c.args.first.now) (map aim_of c.args.more.now)) c.in_ok-forms.forms.items made.forms made.senses),
    )
