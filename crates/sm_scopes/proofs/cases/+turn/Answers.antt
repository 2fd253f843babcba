use Rattle.std.proofs.Common.{◌-◌}
use Rattle.sm_scopes.proofs.Wheels.{turned_at, ended_at, anew_at, wheels_set}
use Rattle.sm_scopes.proofs.cases.+turn.Goals as goal

-- src/cases.rt:59:9
pub returns-in-Some-clause-turns : goal.returns-in-Some-clause-turns
returns-in-Some-clause-turns t c = turned_at c.args.wheels.now c.args.count _ c.in-Some.wheel c.if-count-eq0.false c.requires.count c.in-Some.ensures

-- src/cases.rt:62:9
pub returns-then-not-turn-clause-turns : goal.returns-then-not-turn-clause-turns
returns-then-not-turn-clause-turns t c = ended_at c.args.wheels.now c.args.count _ c.if-count-eq0.false c.requires.count c.in_default.ensures c.if-not-turn.ensures.turns

-- src/cases.rt:45:1
pub returns-clause-turns : goal.returns-clause-turns
returns-clause-turns t c = anew_at c.args.wheels.now c.turn.new.wheels c.args.count _ c.first.result c.if-count-eq0.false c.requires.count c.turn.ensures.length c.turn.ensures.rest c.in_default.ensures c.if-not-turn.ensures.turns c.first.ensures

-- src/cases.rt:45:1
pub returns-clause-wheels : goal.returns-clause-wheels
returns-clause-wheels t c = wheels_set c.turn.new.wheels (c.args.count - 1) c.first.result c.turn.ensures.wheels c.first.ensures.same.fits
