use Rattle.std.proofs.Common.{◌≡◌, ◌≤◌, ◌+◌, ◌^◌, ap, arith, rules, ◌∙◌}
use Rattle.sm_search.specs.Went.{Place}
use Rattle.sm_step.specs.Grammar.{IsLine}
use Rattle.sm_search.proofs.Goings.{text_some, put_went, put_stopped}
use Rattle.sm_search.proofs.Grammar.{own_line}
use Rattle.sm_search.proofs.Moving.{fit_after_step}
use Rattle.sm_search.proofs.search.Search.put.Goals as goal

pub step-requires-clause-more : goal.step-requires-clause-more
step-requires-clause-more g c =
    let some = text_some c.args.line.now in
    let same : c.self.inside.bytes ≡ c.args.self.now.bytes = ap (λ (p : Place). p.bytes) c.self.view_is in
    omega (arith, c.len.ensures, c.in_ok-text.ensures.len, some, same)

pub returns-in-Ok-clause-moved : goal.returns-in-Ok-clause-moved
returns-in-Ok-clause-moved g c =
    let same : c.self.inside.bytes ≡ c.args.self.now.bytes = ap (λ (p : Place). p.bytes) c.self.view_is in
    let within : c.self.inside.bytes + c.len.result ≤ 2 ^ 40 = search rules in
    let good : IsLine c.args.line.now = own_line c.args.flat.now c.args.self.now c.args.line.now c.requires.fit (rw (← c.self.view_is) c.self.invariant) c.requires.allowed c.requires.own (omega (arith, same, c.len.ensures, c.in_ok-text.ensures.len, within)) in
    let state = c.in_ok-step.ensures.ok in
    record {
      fit = fit_after_step c.args.flat.now c.args.self.now c.step.new.self c.args.line.now _ c.requires.fit c.requires.own c.requires.allowed state c.step.ensures.of;
      went = put_went c.args.flat.now c.args.self.now c.step.new.self _ _ c.args.line.now c.as_slice.result.now (c.self.inside.bytes + c.len.result) c.len.result good c.requires.allowed c.in_ok-step.ensures.ok (ap (λ k. k + c.len.result) same) (c.len.ensures ∙ c.in_ok-text.ensures.len) (c.as_slice.ensures.value ∙ c.in_ok-text.ensures.text) c.in-Ok.ensures.ok;
      stopped = tt;
      later = search rules;
    }

pub returns-clause-moved : goal.returns-clause-moved
returns-clause-moved g c =
    let same : c.self.inside.bytes ≡ c.args.self.now.bytes = ap (λ (p : Place). p.bytes) c.self.view_is in
    let within : c.self.inside.bytes + c.len.result ≤ 2 ^ 40 = search rules in
    let good : IsLine c.args.line.now = own_line c.args.flat.now c.args.self.now c.args.line.now c.requires.fit (rw (← c.self.view_is) c.self.invariant) c.requires.allowed c.requires.own (omega (arith, same, c.len.ensures, c.in_ok-text.ensures.len, within)) in
    record {
      fit = fit_after_step c.args.flat.now c.args.self.now c.step.new.self c.args.line.now _ c.requires.fit c.requires.own c.requires.allowed c.in_ok-step.ensures.ok c.step.ensures.of;
      went = tt;
      stopped = put_stopped c.args.flat.now c.args.self.now _ _ _ _ c.args.line.now c.as_slice.result.now good c.requires.allowed (c.as_slice.ensures.value ∙ c.in_ok-text.ensures.text) c.in-Err.ensures.fault c.in-Err.ensures.front;
      later = search rules;
    }
