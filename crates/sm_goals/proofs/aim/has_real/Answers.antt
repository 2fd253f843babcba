use Rattle.std.proofs.Common.{◌∙◌, ap, ℕ, ℤ, List}
use Rattle.sm_meaning.specs.Scopes.{count_of}
use Rattle.sm_goals.specs.Goals.{has_real_term}
use Rattle.sm_goals.proofs.Forms.{real_terms}
use Rattle.sm_goals.proofs.aim.has_real.Goals as goal

pub returns : goal.returns
returns c = λ g h.
    let s = c.args.scope.now in
    c.has_real_term.ensures ∙ ap (λ (ts : List (ℕ × ℤ)). has_real_term s ts) (c.terms.ensures.value (count_of s) g h) ∙ real_terms s (count_of s) g
