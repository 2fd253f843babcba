use Rattle.std.proofs.Common.{◌≡◌, ◌≤◌, ◌∙◌, sym, ap, arith, Some}
use Rattle.std.specs.Option.{option_copied}
use Rattle.std.specs.Prelude.{slice_get}
use Rattle.sm_kinds.specs.Logic.{logic_size}
use Rattle.rule_basic.proofs.Fitting.{clause_few}
use Rattle.rule_basic.proofs.clause_row.clause_in.Goals as goal

pub clause_row-requires : goal.clause_row-requires
clause_row-requires c =
    let found = c.in-Some.found.now in
    let there : slice_get c.in-Logic.clauses c.args.clause ≡ Some found = sym c.get.ensures.value ∙ ap option_copied c.in-Some.is in
    let few = clause_few c.in-Logic.clauses c.args.clause found there in
    let all : logic_size c.in-Logic.clauses ≤ 4194304 = rw c.in-Logic.is at c.requires in
    rw c.as_slice.ensures (omega (arith, few, all))
