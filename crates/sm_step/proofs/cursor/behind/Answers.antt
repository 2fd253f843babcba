use Rattle.sm_step.proofs.Fronts.{rest_taken, rest_absent, rest_is}
use Rattle.sm_step.proofs.cursor.behind.Goals as goal

pub returns-in-Some-clause-some : goal.returns-in-Some-clause-some
returns-in-Some-clause-some c = let h = c.in-Some.ensures.cases in let t = rest_taken c.args.text.now c.args.bytes.now h.0 in cc

pub returns-in-Some-clause-found : goal.returns-in-Some-clause-found
returns-in-Some-clause-found c = let h = c.in-Some.ensures.cases in let t = rest_taken c.args.text.now c.args.bytes.now h.0 in rest_is c.args.text.now c.args.bytes.now c.in-Some.rest.now (cc)

pub returns-in-None-clause-none : goal.returns-in-None-clause-none
returns-in-None-clause-none c = rest_absent c.args.text.now c.args.bytes.now c.in-None.ensures.cases
