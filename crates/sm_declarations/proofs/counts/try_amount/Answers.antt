use Rattle.std.proofs.Common.{◌≤◌, arith, pos, ℤ, unsigned_abs, OnOk, subst}
use Rattle.std.specs.Int.{w128}
use Rattle.std.proofs.lemmas.Int.{to_z_pos}
use Rattle.sm_drafts.proofs.Horizons.{number_same}
use Rattle.sm_declarations.proofs.counts.try_amount.Goals as goal

pub returns-clause-tried : goal.returns-clause-tried
returns-clause-tried c = number_same c.args.what c.args.bound _ (pos c.args.amount) c.try_number.result (to_z_pos w128 c.args.amount (omega (arith, c.requires))) c.try_number.ensures.tried

pub returns-clause-small : goal.returns-clause-small
returns-clause-small c = subst (λ (z : ℤ). OnOk c.try_number.result (unsigned_abs z ≤ c.args.bound)) (to_z_pos w128 c.args.amount (omega (arith, c.requires))) c.try_number.ensures.small
