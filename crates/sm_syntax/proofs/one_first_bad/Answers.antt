use Rattle.std.proofs.Common.{◌∙◌, ap, sym}
use Rattle.sm_syntax.specs.Tokens.{Token}
use Rattle.sm_syntax.proofs.ParsingLaws.{same_bad, word_has_no_bad}
use Rattle.sm_syntax.proofs.one_first_bad.Goals as goal

pub returns-clause-one : goal.returns-clause-one
returns-clause-one c = λ text a b x y. sym x.2 ∙ ap (λ (t : Token). t.place) (same_bad x.0 y.0 x.1 y.1) ∙ y.2

pub returns-clause-none : goal.returns-clause-none
returns-clause-none c = λ text place model x. word_has_no_bad model x.0 x.1
