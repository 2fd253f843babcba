use Rattle.std.proofs.Common.{◌∙◌, ap, sym, subst, ◌∷◌, ◌+◌, ◌-◌, ◌==◌, List, map, drop, arith, ℕ}
use Rattle.std.proofs.lemmas.Result.{err_from_is_err_and}
use Rattle.std.proofs.lemmas.List.{length-map}
use Rattle.sm_syntax.specs.Trees.{Aim, aim_of}
use Rattle.sm_drafts.proofs.Parts.{split_item}
use Rattle.sm_goals.proofs.Aims.{AimsLeft, none_left, left_first, left_more, left_stops}
use Rattle.sm_goals.proofs.aim.aim_forms.Goals as goal

pub loop-aim-init : goal.loop-aim-init
loop-aim-init c =
    let all = map aim_of (c.args.first.now ∷ c.args.more.now) in
    record {
      count = omega arith;
      left = left_more c.args.scope.now all c.args.visited.now (aim_of c.args.first.now) (map aim_of c.args.more.now) c.is_empty.result c.args.visited.now c.aim_form.new.visited c.new-forms.result.items c.push.new.self.items c.in_ok-aim_form.field-0
          (c.is_empty.ensures ∙ ap (λ (k : ℕ). k == 0) (sym (length-map c.args.more.now aim_of))) (rw c.new-forms.ensures.items (left_first c.args.scope.now all c.args.visited.now)) c.in_ok-aim_form.ensures.0 c.in_ok-aim_form.ensures.1 c.in_ok-push.ensures.items;
    }

pub returns-in_err-aim_form-2 : goal.returns-in_err-aim_form-2
returns-in_err-aim_form-2 c =
    let all = map aim_of (c.args.first.now ∷ c.args.more.now) in
    let split = ap (map aim_of) (split_item c.args.more.now c.loop-aim.aim-index c.aim-item.result c.loop-aim-test.true c.aim-item.is) in
    let left = subst (λ (rest : List Aim). AimsLeft c.args.scope.now all c.args.visited.now rest c.loop-aim.visited c.loop-aim.forms.items) split c.loop-aim.invariant.left in
    let p = err_from_is_err_and c.from_residual-in_err-aim_form-2.result c.from_residual-in_err-aim_form-2.ensures.1 in
    rw (p.1, p.2) (left_stops c.in_err-aim_form-2.field-0.0 c.args.scope.now all c.args.visited.now (aim_of c.aim-item.result) (map aim_of (drop (c.loop-aim.aim-index + 1) c.args.more.now)) (c.loop-aim.left - 1 == 0) c.loop-aim.visited c.loop-aim.forms.items
    (none_left c.args.more.now c.loop-aim.aim-index c.loop-aim.left c.loop-aim.invariant.count c.loop-aim-test.true) left c.in_err-aim_form-2.ensures)

pub loop-aim-preserved : goal.loop-aim-preserved
loop-aim-preserved c =
    let all = map aim_of (c.args.first.now ∷ c.args.more.now) in
    let split = ap (map aim_of) (split_item c.args.more.now c.loop-aim.aim-index c.aim-item.result c.loop-aim-test.true c.aim-item.is) in
    let left = subst (λ (rest : List Aim). AimsLeft c.args.scope.now all c.args.visited.now rest c.loop-aim.visited c.loop-aim.forms.items) split c.loop-aim.invariant.left in
    record {
      count = omega (arith, c.loop-aim.invariant.count, c.loop-aim-test.true);
      left = left_more c.args.scope.now all c.args.visited.now (aim_of c.aim-item.result) (map aim_of (drop (c.loop-aim.aim-index + 1) c.args.more.now)) (c.loop-aim.left - 1 == 0) c.loop-aim.visited c.aim_form-in-loop-aim.new.visited c.loop-aim.forms.items
          c.push-in-loop-aim.new.self.items c.in_ok-aim_form-2.field-0 (none_left c.args.more.now c.loop-aim.aim-index c.loop-aim.left c.loop-aim.invariant.count c.loop-aim-test.true) left c.in_ok-aim_form-2.ensures.0 c.in_ok-aim_form-2.ensures.1 c.in_ok-push-2.ensures.items;
    }
