use Rattle.std.proofs.Common.{◌≡◌, ◌<◌, ◌-◌, ap, arith, ℕ, [], length, nat_lt}
use Rattle.std.proofs.lemmas.Bool.{OnTrue_from}
use Rattle.std.proofs.lemmas.Grind.{common_steps}
use Rattle.sm_forms.specs.Forms.{Rises}
use Rattle.sm_forms.specs.Merging.{Starts}
use Rattle.sm_forms.proofs.Merges.{no_term, starts_behind, starts_empty}
use Rattle.sm_forms.proofs.merge.follows.Goals as goal

pub returns-in-Some : goal.returns-in-Some
returns-in-Some c =
    OnTrue_from (nat_lt c.from.result c.var_at.result) ((n : ℕ) → Rises n 0 c.args.left.now → Rises n 0 c.args.right.now → Starts n c.args.left.now [] c.args.right.now) (λ less n a b.
    let some : 0 < length c.args.left.now = c.in-Some.ensures.item.3.0 in
    let is = ap (λ t. t.0) (c.in-Some.ensures.item.3.1 no_term) in
    let before : c.from.result < c.var_at.result = grind (arith, common_steps) in
    starts_behind n _ _ (length c.args.left.now - 1) (omega arith) (λ h. omega (arith, before, c.from.ensures, is, c.var_at.ensures.var h)) a b)

pub returns-in-None : goal.returns-in-None
returns-in-None c = λ n a b.
    let none : length c.args.left.now ≡ 0 = grind (arith, common_steps, c.in-None.ensures.item) in
    starts_empty n _ _ none a b
