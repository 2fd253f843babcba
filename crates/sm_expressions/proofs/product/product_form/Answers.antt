use Rattle.std.proofs.Common.{rules, ◌≡◌, ◌∙◌, sym, subst, ◌+◌, List, length, drop, arith, map, vec_len, ℕ}
use Rattle.std.specs.Prelude.{nat_lt}
use Rattle.std.proofs.lemmas.List.{length_push, drop_all}
use Rattle.std.proofs.lemmas.Result.{err_from_is_err_and}
use Rattle.std.proofs.lemmas.Iterator.Adapters.{YieldsList-from_vec}
use Rattle.std.proofs.lemmas.Iterator.Consumers.{YieldsList-turn, YieldsList-end}
use Rattle.sm_forms.specs.Forms.{value_at}
use Rattle.sm_forms.specs.declared.form.Form.{Form}
use Rattle.sm_meaning.specs.declared.refusal.Wrong.TheVariants.{Linear}
use Rattle.sm_meaning.specs.Refusals.{wrong_if}
use Rattle.sm_meaning.specs.Trials.{tried}
use Rattle.sm_meaning.specs.ExpressionTrials.{one_if_varying}
use Rattle.sm_expressions.specs.Products.{products_tried, varying_in}
use Rattle.sm_expressions.proofs.Trying.{split_at, stops_later, goes_on}
use Rattle.sm_expressions.proofs.Products.{Multiplies, multiplies_stops, multiplies_more, multiplies_ends, linear_goes}
use Rattle.sm_expressions.proofs.product.product_form.Goals as goal

pub returns-in_err-product : goal.returns-in_err-product
returns-in_err-product c =
    let len : vec_len c.args.more ≡ length c.args.more.items = search rules in
    let e = YieldsList-from_vec c.args.more.items c.into_iter-form-iterator.ensures.into_iter_gives.0 (c.into_iter-form-iterator.ensures.into_iter_gives.1 ∙ len) in
    let t = YieldsList-turn e c.loop-form.yielded _ c.loop-form.yielded_by _ c.next.new.self c.in-Some.form c.in-Some.is c.next.ensures.steps in
    let split = split_at c.args.more.items (length c.loop-form.yielded) c.in-Some.form t.0 t.1 in
    let p = err_from_is_err_and c.from_residual.result c.from_residual.ensures.1 in
    rw (p.1, p.2) (λ s first more count.
    let left = subst (λ (rest : List Form). Multiplies s c.args.first c.args.more.items c.loop-form.product rest) split (c.loop-form.invariant.left s first more) in
    let varying = one_if_varying s (value_at c.args.first) + varying_in s (map value_at c.args.more.items) in
    stops_later c.in_err-product.field-0.0 (tried (wrong_if (nat_lt 1 varying) c.args.place Linear)) (products_tried s (value_at c.args.first) (map value_at c.args.more.items)) count count
    (linear_goes varying count c.args.place left.start)
    (multiplies_stops s c.args.first c.args.more.items c.loop-form.product c.in-Some.form (drop (length c.loop-form.yielded + 1) c.args.more.items) left c.in_err-product.field-0.0 c.in_err-product.ensures count))

pub loop-form-preserved : goal.loop-form-preserved
loop-form-preserved c =
    let len : vec_len c.args.more ≡ length c.args.more.items = search rules in
    let e = YieldsList-from_vec c.args.more.items c.into_iter-form-iterator.ensures.into_iter_gives.0 (c.into_iter-form-iterator.ensures.into_iter_gives.1 ∙ len) in
    let t = YieldsList-turn e c.loop-form.yielded _ c.loop-form.yielded_by _ c.next.new.self c.in-Some.form c.in-Some.is c.next.ensures.steps in
    let split = split_at c.args.more.items (length c.loop-form.yielded) c.in-Some.form t.0 t.1 in
    record {
      next = tt;
      finite = tt;
      left = λ s first more.
          let left = subst (λ (rest : List Form). Multiplies s c.args.first c.args.more.items c.loop-form.product rest) split (c.loop-form.invariant.left s first more) in
          subst (λ (k : ℕ). Multiplies s c.args.first c.args.more.items c.in_ok-product.product (drop k c.args.more.items)) (sym (length_push c.loop-form.yielded c.in-Some.form))
          (multiplies_more s c.args.first c.args.more.items c.loop-form.product c.in-Some.form (drop (length c.loop-form.yielded + 1) c.args.more.items) left c.in_ok-product.product c.in_ok-product.ensures);
    }

pub returns : goal.returns
returns c =
    let len : vec_len c.args.more ≡ length c.args.more.items = search rules in
    let e = YieldsList-from_vec c.args.more.items c.into_iter-form-iterator.ensures.into_iter_gives.0 (c.into_iter-form-iterator.ensures.into_iter_gives.1 ∙ len) in
    let t = YieldsList-end e c.loop-form.yielded _ c.loop-form.yielded_by _ c.next.new.self c.in-None.is c.next.ensures.steps in
    let all = drop_all (length c.loop-form.yielded) c.args.more.items (omega (arith, t.1)) in
    λ s first more count.
    let left = subst (λ (rest : List Form). Multiplies s c.args.first c.args.more.items c.loop-form.product rest) all (c.loop-form.invariant.left s first more) in
    let ends = multiplies_ends s c.args.first c.args.more.items c.loop-form.product left count in
    let varying = one_if_varying s (value_at c.args.first) + varying_in s (map value_at c.args.more.items) in (
      goes_on (tried (wrong_if (nat_lt 1 varying) c.args.place Linear)) (products_tried s (value_at c.args.first) (map value_at c.args.more.items)) count count (linear_goes varying count c.args.place left.start) ∙ ends.0,
      ends.1,
    )
