use Rattle.std.proofs.Common.{[], ◌+◌, ◌≤◌, ℕ, arith, length, map, subst, Ok, Err}
use Rattle.std.proofs.lemmas.Result.{err_from_is_err_and}
use Rattle.sm_kinds.specs.Limits.{greatest_number, most_variables}
use Rattle.sm_data.specs.declared.refusal.Counted.TheVariants as counted
use Rattle.sm_syntax.specs.Trees.{kind_of}
use Rattle.sm_meaning.specs.Refusals.{count_over}
use Rattle.sm_meaning.specs.Trials.{◌▸◌, tried}
use Rattle.sm_meaning.specs.Tuples.{member_count}
use Rattle.sm_meaning.specs.Cases.{number_of}
use Rattle.sm_meaning.specs.Limits.{numbers_tried}
use Rattle.sm_meaning.specs.Declarations.{kind_parts, set_widths_tried, reals_tried}
use Rattle.sm_drafts.specs.Drafts.{Passes, bound_tried}
use Rattle.sm_drafts.proofs.Parts.{refused_first, passed_first, passes_each}
use Rattle.sm_declarations.proofs.LimitTrials.{passes_with}
use Rattle.sm_declarations.proofs.limits.try_limits.Goals as goal

pub returns-in_err-try_bounds : goal.returns-in_err-try_bounds
returns-in_err-try_bounds c =
    let p = err_from_is_err_and c.from_residual.result c.from_residual.ensures.1 in
    rw (p.1, p.2) (λ e s is are.
    let k = kind_of c.args.kind.now in
    let m = member_count c.args.ranges.now in
    let zs = map (λ x. number_of s x []) (kind_parts k) in
    refused_first c.in_err-try_bounds.field-0.0 (numbers_tried counted.Bound greatest_number zs)
    (tried (count_over counted.Variables most_variables (length e.variables + m)) ▸ set_widths_tried e s m k ▸ reals_tried e m k)
    (passes_each bound_tried c.args.numbers.now zs (Err c.in_err-try_bounds.field-0.0) are c.in_err-try_bounds.ensures))

pub returns-in_err-members : goal.returns-in_err-members
returns-in_err-members c =
    let p = err_from_is_err_and c.from_residual-in_err-members.result c.from_residual-in_err-members.ensures.1 in
    rw (p.1, p.2) (λ e s is are.
    let k = kind_of c.args.kind.now in
    let m = member_count c.args.ranges.now in
    let zs = map (λ x. number_of s x []) (kind_parts k) in
    let counting = tried (count_over counted.Variables most_variables (length e.variables + m)) in
    let rest = set_widths_tried e s m k ▸ reals_tried e m k in
    passed_first (numbers_tried counted.Bound greatest_number zs) (counting ▸ rest) (Err c.in_err-members.field-0.0)
    (passes_each bound_tried c.args.numbers.now zs (Ok tt) are c.in_ok-try_bounds.ensures)
    (refused_first c.in_err-members.field-0.0 counting rest (c.in_err-members.ensures.tried e is)))

pub try_set_widths-requires : goal.try_set_widths-requires
try_set_widths-requires c = omega (arith, c.in_ok-members.ensures.few)

pub returns-in_err-try_set_widths : goal.returns-in_err-try_set_widths
returns-in_err-try_set_widths c =
    let p = err_from_is_err_and c.from_residual-in_err-try_set_widths.result c.from_residual-in_err-try_set_widths.ensures.1 in
    rw (p.1, p.2) (λ e s is are.
    let k = kind_of c.args.kind.now in
    let m = member_count c.args.ranges.now in
    let zs = map (λ x. number_of s x []) (kind_parts k) in
    let x = c.in_err-try_set_widths.field-0.0 in
    let counting = tried (count_over counted.Variables most_variables (length e.variables + m)) in
    let rest = set_widths_tried e s m k ▸ reals_tried e m k in
    passed_first (numbers_tried counted.Bound greatest_number zs) (counting ▸ rest) (Err x)
    (passes_each bound_tried c.args.numbers.now zs (Ok tt) are c.in_ok-try_bounds.ensures)
    (passed_first counting rest (Err x) (λ count. ((c.in_ok-members.ensures.tried e is count).0, tt))
    (refused_first x (set_widths_tried e s m k) (reals_tried e m k)
    (subst (λ (n : ℕ). Passes (set_widths_tried e s n k) (Err x)) (c.in_ok-members.ensures.tried e is 0).1 (c.in_err-try_set_widths.ensures e s is are)))))

pub try_reals-requires-clause-vars : goal.try_reals-requires-clause-vars
try_reals-requires-clause-vars c = omega (arith, c.in_ok-members.ensures.few)

pub try_reals-requires-clause-members : goal.try_reals-requires-clause-members
try_reals-requires-clause-members c = omega (arith, c.in_ok-members.ensures.few)

pub returns : goal.returns
returns c = λ e s is are.
    let k = kind_of c.args.kind.now in
    let m = member_count c.args.ranges.now in
    let zs = map (λ x. number_of s x []) (kind_parts k) in
    let counting = tried (count_over counted.Variables most_variables (length e.variables + m)) in
    let rest = set_widths_tried e s m k ▸ reals_tried e m k in
    let same = (c.in_ok-members.ensures.tried e is 0).1 in
    passes_with (numbers_tried counted.Bound greatest_number zs ▸ counting ▸ rest) (length c.args.vars.now + m ≤ most_variables) c.try_reals.result
    (passed_first (numbers_tried counted.Bound greatest_number zs) (counting ▸ rest) c.try_reals.result
    (passes_each bound_tried c.args.numbers.now zs (Ok tt) are c.in_ok-try_bounds.ensures)
    (passed_first counting rest c.try_reals.result (λ count. ((c.in_ok-members.ensures.tried e is count).0, tt))
    (passed_first (set_widths_tried e s m k) (reals_tried e m k) c.try_reals.result
    (subst (λ (n : ℕ). Passes (set_widths_tried e s n k) (Ok tt)) same (c.in_ok-try_set_widths.ensures e s is are))
    (subst (λ (n : ℕ). Passes (reals_tried e n k) c.try_reals.result) same (c.try_reals.ensures e is)))))
    (subst (λ (n : ℕ). length c.args.vars.now + n ≤ most_variables) same c.in_ok-members.ensures.few)
