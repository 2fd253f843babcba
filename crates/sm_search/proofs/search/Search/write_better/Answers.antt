use Rattle.std.proofs.Common.{◌≡◌, rules}
use Rattle.std.specs.Prelude.{IfSome, pos}
use Rattle.sm_flat.specs.Assignments.{point_of}
use Rattle.sm_flat.specs.Goals.{IsBetter}
use Rattle.sm_step.specs.declared.line.Line.TheVariants.{Sol}
use Rattle.sm_rules.specs.Transitions.{after}
use Rattle.sm_search.proofs.Lines.{allow_solution, next_best, reached_before, reached_after}
use Rattle.sm_search.proofs.Moving.{on_more, stays_stopped}
use Rattle.sm_search.proofs.search.Search.write_better.Goals as goal

pub returns-then-not-is_better-clause-reached : goal.returns-then-not-is_better-clause-reached
returns-then-not-is_better-clause-reached g c =
    let none : IfSome c.args.self.now.state.best (λ b. IsBetter c.args.flat.now (point_of c.args.point.now) (point_of b)) → ⊥ = search rules in
    reached_before c.args.flat.now c.args.self.now.state c.args.point.now c.requires.fit c.requires.at c.requires.leaf none

pub returns-in_err-values-clause-moved : goal.returns-in_err-values-clause-moved
returns-in_err-values-clause-moved g c = stays_stopped c.args.flat.now c.from_residual.result c.args.self.now _ _ (search rules) c.requires.fit

pub write-requires-clause-allowed : goal.write-requires-clause-allowed
write-requires-clause-allowed g c =
    let better : IfSome c.args.self.now.state.best (λ b. IsBetter c.args.flat.now (point_of c.args.point.now) (point_of b)) = search rules in
    let next = next_best c.args.flat.now c.args.self.now.state c.args.point.now c.requires.fit c.requires.at c.requires.leaf better in
    rw (c.in_ok-values.ensures, c.values.ensures) (allow_solution c.args.flat.now c.args.self.now.state _ c.args.point.now.values c.requires.at.going next)

pub returns-clause-reached : goal.returns-clause-reached
returns-clause-reached g c =
    on_more c.write.result (c.write.new.self.state ≡ after c.args.flat.now c.args.self.now.state (Sol (pos 1) c.in_ok-values.values)) _ (λ e. rw (e, c.in_ok-values.ensures, c.values.ensures) (reached_after c.args.flat.now c.args.self.now.state c.args.point.now c.requires.fit c.requires.at c.requires.leaf)) c.write.ensures.state
